use Rattle.std.proofs.Common.{refl, sym, ◌∙◌, ap, arith, below_more, true≢false}
use Rattle.file_tree.specs.declared.entry.Entry.{Entry}
use Rattle.file_tree.specs.laws.Alikes.{shared_there, used_within}
use Rattle.file_tree.specs.laws.Kinds.{kind_of_unused}
use Rattle.file_tree.specs.laws.Tables.{entry_within}
use Rattle.tree_check.proofs.table.has_own_short.Goals as goal
use Rattle.tree_check.proofs.table.has_own_short.Goals.{else-share_short-via-then-share_short+else-is_used}
use Rattle.tree_check.proofs.table.has_own_short.Goals.{else-share_short-via-else-share_short}

pub returns-then-one-eq0 : goal.returns-then-one-eq0
returns-then-one-eq0 c =
    let one = entry_within c.args.entries.now c.args.e _ c.requires in (
      λ is f lt used shared. shared.2 (ap (λ (x : Entry). x.short) (sym one) ∙ c.if-one-eq0.true),
      λ own. refl,
    )

pub loop-f-init : goal.loop-f-init
loop-f-init c = λ f below above used shared. let z : ⊥ = omega (arith, above, below) in z

pub loop-f-preserved : goal.loop-f-preserved
loop-f-preserved c =
    let t = c.args.entries.now in
    let one = entry_within t c.args.e _ c.requires in
    let other = entry_within t c.loop-f.f _ c.loop-f-test.true in
    below_more _ _ c.loop-f.invariant (elim c.else-share_short.branch [
      | else-share_short-via-then-share_short+else-is_used w ↦ λ above used shared.
          used (ap (λ (x : Entry). x.kind) (sym other) ∙ kind_of_unused _ _ w.is_used.ensures w.if-is_used.false)
      | else-share_short-via-else-share_short w ↦ λ above used shared.
          true≢false (sym (c.share_short.ensures.1 (shared_there _ _ _ _ _ one other shared)) ∙ w.if-share_short.false)
    ])

pub returns-then-is_used : goal.returns-then-is_used
returns-then-is_used c =
    let t = c.args.entries.now in
    let one = entry_within t c.args.e _ c.requires in
    let other = entry_within t c.loop-f.f _ c.loop-f-test.true in (
      λ is. absurd (true≢false (sym is)),
      λ own. absurd (own c.loop-f.f (omega (arith, c.loop-f.auto.f))
          (λ none. c.is_used.ensures.0 c.if-is_used.true (ap (λ (x : Entry). x.kind) other ∙ none))
          (shared_there _ _ _ _ _ (sym one) (sym other) (c.share_short.ensures.0 c.if-share_short.true))),
    )

pub returns : goal.returns
returns c = (
  λ is f above used shared. c.loop-f.invariant f
      (let within = used_within c.args.entries.now f used in
      omega (arith, within, c.loop-f-test.false)) above used shared,
  λ own. refl,
)
