use Rattle.std.proofs.Common.{◌≡◌, ◌<◌, ℕ, List, length, get_or, slice_set, insert, sym, ◌∙◌, ap, ap₂, subst, arith}
use Rattle.undo_journal.specs.declared.batch.Waiting.{Waiting}
use Rattle.undo_journal.specs.JournalParts.{before, IsLastBelow}
use Rattle.undo_journal.proofs.Waits.{replaced-joined, inserted-joined, before-length, refill-set, joined-behind}
use Rattle.undo_journal.proofs.batch.join.Goals as goal
use Rattle.undo_journal.proofs.batch.join.Goals.{else-place-len-via-then-place-len+else-deref-place}
use Rattle.undo_journal.proofs.batch.join.Goals.{else-place-len-via-else-place-len}

pub insert-requires : goal.insert-requires
insert-requires c =
    let low = before-length c.args.new.at c.args.sets.now.items in (
      omega arith,
      (
        omega (
          arith,
          c.place_of-place.ensures,
          ap (λ (l : List Waiting). before c.args.new.at l) c.deref-2.ensures.0,
          low,
        ),
        omega (arith, c.requires.room),
      ),
    )

pub returns-then-is_behind : goal.returns-then-is_behind
returns-then-is_behind c =
    let items = c.args.sets.now.items in
    let last : IsLastBelow c.args.new.at items =
    subst (λ (l : List Waiting). IsLastBelow c.args.new.at l) c.deref.ensures.0
    (c.is_behind.ensures c.if-is_behind.true)
    in
    c.push.ensures.items ∙ sym (joined-behind c.args.new items 0 c.requires.sorted last)

pub returns-then-deref-place : goal.returns-then-deref-place
returns-then-deref-place c =
    let items = c.args.sets.now.items in
    let d : Waiting = record { at = 0; word = 0 } in
    let place : c.place_of-place.result ≡ before c.args.new.at items =
    c.place_of-place.ensures ∙ ap (λ (l : List Waiting). before c.args.new.at l) c.deref-2.ensures.0 in
    let low : before c.args.new.at items < length items =
    omega (arith, place, c.if-place-len.true, c.len.ensures.value) in
    refill-set items c.deref_mut.result.now c.place_of-place.result c.args.new c.deref_mut.ensures.value
    ∙ ap (λ (i : ℕ). slice_set items i c.args.new) place
    ∙ replaced-joined c.args.new items d low
    (sym (ap₂ (λ (l : List Waiting) (i : ℕ). (get_or l i d).at) c.deref-then-place-len.ensures.0 place)
    ∙ c.if-deref-place.true)

pub returns-else-place-len : goal.returns-else-place-len
returns-else-place-len c =
    let items = c.args.sets.now.items in
    let d : Waiting = record { at = 0; word = 0 } in
    let place : c.place_of-place.result ≡ before c.args.new.at items =
    c.place_of-place.ensures ∙ ap (λ (l : List Waiting). before c.args.new.at l) c.deref-2.ensures.0 in
    let free : before c.args.new.at items < length items
    → (get_or items (before c.args.new.at items) d).at ≡ c.args.new.at → ⊥ =
    elim c.else-place-len.branch [
      | else-place-len-via-then-place-len+else-deref-place w ↦ λ lt is. w.if-deref-place.false
          (ap₂ (λ (l : List Waiting) (i : ℕ). (get_or l i d).at) w.deref-then-place-len.ensures.0 place ∙ is)
      | else-place-len-via-else-place-len w ↦
          λ lt is. absurd (omega (arith, place, lt, w.if-place-len.false, c.len.ensures.value))
    ] in
    c.insert.ensures.items ∙ ap (λ (i : ℕ). insert items i c.args.new) place
    ∙ inserted-joined c.args.new items d free
