use Rattle.std.proofs.Common.{◌≡◌, ◌≢◌, ◌<◌, ◌≤◌, ◌+◌, ◌-◌, ◌*◌, ℕ, List, length, slice_index}
use Rattle.std.proofs.Common.{refl, sym, ap, subst, ◌∙◌, arith}
use Rattle.flash_area.specs.PageCopies.{KeepsOthers}
use Rattle.flash_device.specs.FlashCalls.{SameElsewhere}
use Rattle.flash_device.specs.FlashLogs.{base_in, find, page_word, slot_of, words_of}
use Rattle.flash_device.specs.PageTables.{AreFree}
use Rattle.flash_device.specs.PutRecords.{IsPut}
use Rattle.flash_area.specs.Spares.{HasCopies, spare_in}
use Rattle.flash_device.specs.laws.Marks.{elsewhere_wider}
use Rattle.flash_moves.specs.laws.Moving.{Stays}
use Rattle.flash_moves.specs.laws.Sparing.{copies_past, copies_put, copies_torn, copies_wider, home_held, spare_stays}
use Rattle.flash_area.specs.laws.Words.{index-page}
use Rattle.flash_moves.specs.Paces.{StaysCopied}
use Rattle.flash_moves.proofs.ahead.copy_ahead.Given.{Over}
use Rattle.flash_moves.proofs.ahead.copy_ahead.Goals.{After-put_in_spare}
use Rattle.flash_moves.proofs.ahead.copy_ahead.Goals as goal

pub returns-clause-copies : goal.returns-clause-copies
returns-clause-copies g c =
    let slots = g.F.Flash.SLOTS in
    let pages = g.F.Flash.PAGES in
    let a = c.args in
    let m = (g.F.Flash.state a.flash.now).words in
    let after = (g.F.Flash.state c.put_in_spare.new.flash).words in
    let words = c.in_ok-found.found in
    let base = spare_in slots a.turn in
    let s = c.in_ok-slot.slot in
    let put = c.in_ok-slot.ensures.put in
    let has = c.requires.copies.2 in
    let below_end = put.0 in
    let ends = c.requires.copies.1 in
    let below : s < slots = omega (arith, below_end, ends) in
    let size : length words ≡ 18 = omega arith in
    let at : base_in slots c.spare.result ≡ base = c.spare.ensures.is slots in
    let is_put : IsPut after (slot_of base s) words =
    subst (λ (b : ℕ). IsPut after (slot_of b s) words) at put.1 in
    let kept : KeepsOthers slots m base a.page after (s + 1) =
    subst (λ (p : ℕ). KeepsOthers slots m base p after (s + 1)) c.in_ok-found.ensures.names
    (subst (λ (b : ℕ). KeepsOthers slots m b (slice_index words 16) after (s + 1)) at
    (subst (λ (l : List ℕ). KeepsOthers slots l (base_in slots c.spare.result) (slice_index words 16) after (s + 1))
    c.record_of.ensures.words put.2)) in
    let elsewhere : SameElsewhere m base (20 * slots) after =
    subst (λ (b : ℕ). SameElsewhere m b (20 * slots) after) at
    (subst (λ (l : List ℕ). SameElsewhere l (base_in slots c.spare.result) (20 * slots) after)
    c.record_of.ensures.words c.put_in_spare.ensures.elsewhere) in
    let stays : Stays pages slots m after =
    spare_stays pages slots m after a.turn c.requires.moves.2 c.requires.turn c.requires.moves.0 c.requires.moves.1
    (elsewhere_wider m after base (20 * slots) base (20 * slots + 2) (omega arith) (omega arith) elsewhere) in
    let home : base_in slots c.home.result ≡ base_in slots a.turn = c.home.ensures.is slots in
    let held = home_held slots m after a.turn elsewhere in
    subst (λ (l : List ℕ). HasCopies pages slots after l (base_in slots a.turn) base (a.page + 1) (s + 1) 0)
    (sym stays.words)
    (copies_put pages slots m after (words_of pages slots m) (base_in slots a.turn) base a.page a.page
    (a.page + 1) a.next 0 s words has elsewhere held is_put kept below size c.in_ok-found.ensures.names
    (λ p lt other. (omega (arith, lt, other), λ e. absurd (omega (arith, e))))
    (λ p from. (omega (arith, from), λ e. absurd (omega (arith, e, from))))
    (λ k few. c.in_ok-found.ensures.each k few
    ∙ ap (λ (b : ℕ). page_word m b slots a.page k) (home ∙ ap (base_in slots) c.requires.turn)
    ∙ sym (index-page pages slots m a.page k c.requires.entry.0 few)))

pub record_of-requires-clause-entry : goal.record_of-requires-clause-entry
record_of-requires-clause-entry g c =
    let slots = g.F.Flash.SLOTS in
    let m = (g.F.Flash.state c.args.flash.now).words in
    c.requires.entry.1 ∙ sym (ap (λ (b : ℕ). find m b slots c.args.page) (c.home.ensures.is slots))

pub put_in_spare-requires-clause-free : goal.put_in_spare-requires-clause-free
put_in_spare-requires-clause-free g c =
    let slots = g.F.Flash.SLOTS in
    let next = c.args.next in
    subst (λ (b : ℕ). AreFree (g.F.Flash.state c.record_of.new.flash).words b next slots)
    (sym (c.spare.ensures.is slots))
    (subst (λ (l : List ℕ). AreFree l (spare_in slots c.args.turn) next slots) (sym c.record_of.ensures.words)
    c.requires.copies.2.free)

pub returns-then-entry-eq0-clause-copies : goal.returns-then-entry-eq0-clause-copies
returns-then-entry-eq0-clause-copies g c =
    let slots = g.F.Flash.SLOTS in
    let pages = g.F.Flash.PAGES in
    let a = c.args in
    let m = (g.F.Flash.state a.flash.now).words in
    let none : find m (base_in slots a.turn) slots a.page ≡ 0 =
    sym c.requires.entry.1 ∙ sym c.entry.ensures ∙ c.if-entry-eq0.true in
    copies_past pages slots m a.turn a.page a.next c.requires.turn none c.requires.copies.2

pub returns-then-entry-eq0-clause-torn : goal.returns-then-entry-eq0-clause-torn
returns-then-entry-eq0-clause-torn g c = λ fits copied less has.
    let old = g.F.Flash.state c.args.flash.now in
    let next = c.args.next in
    copies_wider g.F.Flash.PAGES g.F.Flash.SLOTS old.words _ _ _ copied next 0
    (next + 1 + (old.faults - old.faults)) (omega arith) fits has

pub returns-in_err-found-clause-torn : goal.returns-in_err-found-clause-torn
returns-in_err-found-clause-torn g c = λ fits copied less has.
    let slots = g.F.Flash.SLOTS in
    let pages = g.F.Flash.PAGES in
    let old = g.F.Flash.state c.args.flash.now in
    let new = g.F.Flash.state c.record_of.new.flash in
    let turn = c.args.turn in
    let next = c.args.next in
    let n = next + 1 + (new.faults - old.faults) in
    subst (λ (l : List ℕ). HasCopies pages slots l (words_of pages slots l) (base_in slots turn) (spare_in slots turn)
    copied n 0) (sym c.record_of.ensures.words)
    (copies_wider pages slots old.words (words_of pages slots old.words) (base_in slots turn) (spare_in slots turn)
    copied next 0 n (omega arith) fits has)

-- what the record takes that is put
put_torn : (g : Over) (c : After-put_in_spare g)
    → c.args.next + 1 + ((g.F.Flash.state c.put_in_spare.new.flash).faults - (g.F.Flash.state c.args.flash.now).faults)
    ≤ g.F.Flash.SLOTS
    → StaysCopied g.F.Flash.PAGES g.F.Flash.SLOTS (g.F.Flash.state c.args.flash.now).words
    (g.F.Flash.state c.put_in_spare.new.flash).words c.args.turn c.args.page c.args.next (c.args.next + 1 +
    ((g.F.Flash.state c.put_in_spare.new.flash).faults - (g.F.Flash.state c.args.flash.now).faults))
put_torn g c = λ fits copied less has.
    let slots = g.F.Flash.SLOTS in
    let pages = g.F.Flash.PAGES in
    let a = c.args in
    let old = g.F.Flash.state a.flash.now in
    let mid = g.F.Flash.state c.record_of.new.flash in
    let new = g.F.Flash.state c.put_in_spare.new.flash in
    let m = old.words in
    let after = new.words in
    let words = c.in_ok-found.found in
    let base = spare_in slots a.turn in
    let at : base_in slots c.spare.result ≡ base = c.spare.ensures.is slots in
    let read = (c.in_ok-found.ensures.light.ok refl).faults in
    let n = a.next + 1 + (new.faults - old.faults) in
    let since : a.next + 1 + (new.faults - mid.faults) ≡ n = omega (arith, read) in
    let below : a.next + 1 + (new.faults - mid.faults) ≤ slots = omega (arith, since, fits) in
    let kept : KeepsOthers slots m base a.page after n =
    subst (λ (t : ℕ). KeepsOthers slots m base a.page after t) since
    (subst (λ (p : ℕ). KeepsOthers slots m base p after (a.next + 1 + (new.faults - mid.faults)))
    c.in_ok-found.ensures.names
    (subst (λ (b : ℕ). KeepsOthers slots m b (slice_index words 16) after
    (a.next + 1 + (new.faults - mid.faults))) at
    (subst (λ (l : List ℕ). KeepsOthers slots l (base_in slots c.spare.result) (slice_index words 16) after
    (a.next + 1 + (new.faults - mid.faults))) c.record_of.ensures.words (c.put_in_spare.ensures.torn below)))) in
    let elsewhere : SameElsewhere m base (20 * slots) after =
    subst (λ (b : ℕ). SameElsewhere m b (20 * slots) after) at
    (subst (λ (l : List ℕ). SameElsewhere l (base_in slots c.spare.result) (20 * slots) after)
    c.record_of.ensures.words c.put_in_spare.ensures.elsewhere) in
    let stays : Stays pages slots m after =
    spare_stays pages slots m after a.turn c.requires.moves.2 c.requires.turn c.requires.moves.0 c.requires.moves.1
    (elsewhere_wider m after base (20 * slots) base (20 * slots + 2) (omega arith) (omega arith) elsewhere) in
    let entry : find m (base_in slots a.turn) slots a.page ≢ 0 =
    λ e. c.if-entry-eq0.false (c.entry.ensures ∙ c.requires.entry.1 ∙ e) in
    subst (λ (l : List ℕ). HasCopies pages slots after l (base_in slots a.turn) base copied n 0)
    (sym stays.words)
    (copies_torn pages slots m after (words_of pages slots m) (base_in slots a.turn) base a.page copied a.next 0
    n has elsewhere (home_held slots m after a.turn elsewhere) kept
    (λ lt. absurd (omega (arith, lt, less))) (λ e. absurd (entry e)))

pub returns-in_err-slot-clause-torn : goal.returns-in_err-slot-clause-torn
returns-in_err-slot-clause-torn g c = put_torn g (goal.at.returns-in_err-slot-clause-torn g c).After-put_in_spare

pub returns-clause-torn : goal.returns-clause-torn
returns-clause-torn g c = put_torn g (goal.at.returns-clause-torn g c).After-put_in_spare
