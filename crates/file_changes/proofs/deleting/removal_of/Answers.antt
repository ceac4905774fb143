use Rattle.undo_journal.specs.laws.Exits.{none_ok}
use Rattle.std.proofs.Common.{◌≤◌, List, sym, ◌∙◌, ap, subst}
use Rattle.std.specs.List.{sum_by}
use Rattle.undo_journal.specs.Memory.{committed}
use Rattle.block_chain.specs.declared.layout.TheConstants.{MOST_BLOCKS}
use Rattle.block_chain.specs.declared.chain.Extent.{Extent}
use Rattle.block_chain.specs.Layout.{chains_of}
use Rattle.file_changes.specs.laws.Removals.{part_blocks}
use Rattle.undo_journal.specs.laws.Told.{reads_handed}
use Rattle.file_changes.proofs.deleting.removal_of.Goals as goal

pub returns-in_err-part : goal.returns-in_err-part
returns-in_err-part g c = record {
  told = none_ok _ _ _ c.from_residual.ensures.1;
  store = reads_handed _ _ _ _ c.from_residual.ensures.1 c.in_err-part.ensures.store;
}

pub blocks_in-requires : goal.blocks_in-requires
blocks_in-requires g c =
    let m = committed c.args.store.now in
    let es = c.as_slice.ensures.value ∙ c.in_ok-part.ensures.told.extents in
    let family : List Extent → Type 0 = λ xs. sum_by (λ x. x.blocks) xs ≤ MOST_BLOCKS in
    subst family (sym es) (part_blocks m c.args.e c.requires.file.file.tree
    c.requires.file.file.ready.usable.committed_size)

pub returns : goal.returns
returns g c = record {
  told = let part = c.in_ok-part.ensures.told in
      record {
        goes = part.goes;
        chains = c.chains_in-chains.ensures ∙ ap chains_of (c.as_slice-2.ensures.value ∙ part.extents);
        blocks = c.blocks_in.ensures
            ∙ ap (λ (xs : List Extent). sum_by (λ x. x.blocks) xs) (c.as_slice.ensures.value ∙ part.extents);
        entries = part.count;
      };
  store = c.in_ok-part.ensures.store;
}
