use Rattle.std.proofs.Common.{refl, sym, ◌∙◌, ap, arith, below_more, true≢false}
use Rattle.file_tree.specs.declared.entry.Entry.{Entry}
use Rattle.file_tree.specs.Table.{entry_in}
use Rattle.file_tree.specs.laws.Alikes.{named_there, unnamed, used_within}
use Rattle.file_tree.specs.laws.Kinds.{kind_of_unused}
use Rattle.file_tree.specs.laws.Tables.{entry_within}
use Rattle.tree_check.proofs.table.has_own_name.Goals as goal
use Rattle.tree_check.proofs.table.has_own_name.Goals.{else-bear_one_name-via-then-bear_one_name+else-is_used}
use Rattle.tree_check.proofs.table.has_own_name.Goals.{else-bear_one_name-via-else-bear_one_name}

pub returns-then-one-eq0 : goal.returns-then-one-eq0
returns-then-one-eq0 c =
    let t = c.args.entries.now in
    let one = entry_within t c.args.e _ c.requires in (
      λ is f lt used named. unnamed (entry_in t c.args.e) (entry_in t f)
          (ap (λ (x : Entry). x.name_length) (sym one) ∙ c.if-one-eq0.true) named,
      λ own. refl,
    )

pub loop-f-init : goal.loop-f-init
loop-f-init c = λ f below above used named. let z : ⊥ = omega (arith, above, below) in z

pub loop-f-preserved : goal.loop-f-preserved
loop-f-preserved c =
    let t = c.args.entries.now in
    let one = entry_within t c.args.e _ c.requires in
    let other = entry_within t c.loop-f.f _ c.loop-f-test.true in
    below_more _ _ c.loop-f.invariant (elim c.else-bear_one_name.branch [
      | else-bear_one_name-via-then-bear_one_name+else-is_used w ↦ λ above used named.
          used (ap (λ (x : Entry). x.kind) (sym other) ∙ kind_of_unused _ _ w.is_used.ensures w.if-is_used.false)
      | else-bear_one_name-via-else-bear_one_name w ↦ λ above used named.
          true≢false (sym (c.bear_one_name.ensures.1 (named_there _ _ _ _ one other named)) ∙ w.if-bear_one_name.false)
    ])

pub returns-then-is_used : goal.returns-then-is_used
returns-then-is_used c =
    let t = c.args.entries.now in
    let one = entry_within t c.args.e _ c.requires in
    let other = entry_within t c.loop-f.f _ c.loop-f-test.true in (
      λ is. absurd (true≢false (sym is)),
      λ own. absurd (own c.loop-f.f (omega (arith, c.loop-f.auto.f))
          (λ none. c.is_used.ensures.0 c.if-is_used.true (ap (λ (x : Entry). x.kind) other ∙ none))
          (named_there _ _ _ _ (sym one) (sym other) (c.bear_one_name.ensures.0 c.if-bear_one_name.true))),
    )

pub returns : goal.returns
returns c = (
  λ is f above used named. c.loop-f.invariant f
      (let within = used_within c.args.entries.now f used in
      omega (arith, within, c.loop-f-test.false)) above used named,
  λ own. refl,
)
