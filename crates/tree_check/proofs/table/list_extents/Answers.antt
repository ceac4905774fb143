use Rattle.std.proofs.Common.{List, length, ap, arith}
use Rattle.block_chain.specs.declared.chain.Extent.{Extent}
use Rattle.tree_check.proofs.table.list_extents.Goals as goal

pub loop-entry-init : goal.loop-entry-init
loop-entry-init c = record {
  few = (let none = ap (λ (l : List Extent). length l) c.requires.empty in omega (arith, none));
  so_far = c.requires.empty;
}
