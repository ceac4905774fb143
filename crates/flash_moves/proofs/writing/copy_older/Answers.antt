use Rattle.std.proofs.Common.{◌≡◌, ◌<◌, ◌≤◌, ◌+◌, ◌-◌, ◌*◌, ℕ, true, List, length, slice_index, refl, sym, ap, subst}
use Rattle.std.proofs.Common.{◌∙◌, arith, inl, inr, true≢false}
use Rattle.flash_area.specs.PageCopies.{KeepsOthers}
use Rattle.flash_area.specs.Spares.{spare_in}
use Rattle.flash_device.specs.FlashCalls.{SameElsewhere}
use Rattle.flash_device.specs.FlashBlocks.{area_size}
use Rattle.flash_device.specs.FlashLogs.{base_in, find, page_word, slot_of, turn_of}
use Rattle.flash_device.specs.PageTables.{AreFree}
use Rattle.flash_device.specs.PutRecords.{IsPut}
use Rattle.flash_moves.specs.Paces.{IsInPaceFrom, lost_since, IsInPace, KeepsHome, KeepsPace}
use Rattle.flash_moves.specs.laws.Losing.{err_lost, in_pace_more, none_caught, older_caught, place_stands, tries_once}
use Rattle.flash_moves.specs.laws.Pacing.{caught_more, from_more, tried_next}
use Rattle.flash_device.specs.laws.Marks.{elsewhere_wider}
use Rattle.flash_moves.specs.laws.Moving.{Stays}
use Rattle.flash_moves.specs.laws.Sparing.{area_home, home_read, spare_leaves}
use Rattle.flash_moves.specs.laws.Catching.{older_has, older_lost, older_page, older_put, older_stays}
use Rattle.flash_moves.proofs.writing.copy_older.Given.{Over}
use Rattle.flash_moves.proofs.writing.copy_older.Goals.{After-put_in_spare}
use Rattle.flash_moves.proofs.writing.copy_older.Goals as goal

pub record_of-requires-clause-entry : goal.record_of-requires-clause-entry
record_of-requires-clause-entry g c =
    let slots = g.F.Flash.SLOTS in
    let pages = g.F.Flash.PAGES in
    let sectors = g.F.Flash.SECTORS in
    let start = g.F.Flash.sector_start in
    let entries = g.F.Table.PageTable.entries in
    let m = (g.F.Flash.state c.args.flash.now).words in
    let place = c.args.place.now in
    let page = place.older - 1 in
    let known = c.requires.log.known c.requires.ready in
    let is_older = c.if-place-eq0.false in
    let names : page + 1 ≡ place.older = omega (arith, is_older) in
    let some = g.met.F.Flash.sectors_fit.4 in
    known.index.each page (older_page entries pages slots sectors start m place page known some names)
    ∙ sym (ap (λ (b : ℕ). find m b slots page) (c.home.ensures.is slots))

pub put_in_spare-requires-clause-free : goal.put_in_spare-requires-clause-free
put_in_spare-requires-clause-free g c =
    let slots = g.F.Flash.SLOTS in
    let pages = g.F.Flash.PAGES in
    let sectors = g.F.Flash.SECTORS in
    let start = g.F.Flash.sector_start in
    let entries = g.F.Table.PageTable.entries in
    let m = (g.F.Flash.state c.args.flash.now).words in
    let place = c.args.place.now in
    let page = place.older - 1 in
    let known = c.requires.log.known c.requires.ready in
    let is_older = c.if-place-eq0.false in
    let names : page + 1 ≡ place.older = omega (arith, is_older) in
    let some = g.met.F.Flash.sectors_fit.4 in
    let mid = (g.F.Flash.state c.record_of.new.flash).words in
    subst (λ (b : ℕ). AreFree mid b place.behind slots) (sym (c.spare.ensures.is slots))
    (subst (λ (l : List ℕ). AreFree l (spare_in slots place.turn) place.behind slots) (sym c.record_of.ensures.words)
    (older_has entries pages slots sectors start m place page known some names).free)

-- only the other area changes, whether the copy is whole or torn
put_elsewhere : (g : Over) (c : After-put_in_spare g)
    → SameElsewhere (g.F.Flash.state c.args.flash.now).words (spare_in g.F.Flash.SLOTS c.args.place.now.turn)
    (20 * g.F.Flash.SLOTS) (g.F.Flash.state c.put_in_spare.new.flash).words
put_elsewhere g c =
    let slots = g.F.Flash.SLOTS in
    let m = (g.F.Flash.state c.args.flash.now).words in
    let after = (g.F.Flash.state c.put_in_spare.new.flash).words in
    subst (λ (b : ℕ). SameElsewhere m b (20 * slots) after) (c.spare.ensures.is slots)
    (subst (λ (l : List ℕ). SameElsewhere l (base_in slots c.spare.result) (20 * slots) after)
    c.record_of.ensures.words c.put_in_spare.ensures.elsewhere)

-- so the turn and the words stay
put_stays : (g : Over) (c : After-put_in_spare g)
    → Stays g.F.Flash.PAGES g.F.Flash.SLOTS (g.F.Flash.state c.args.flash.now).words
    (g.F.Flash.state c.put_in_spare.new.flash).words
put_stays g c =
    let place = c.args.place.now in
    let known = c.requires.log.known c.requires.ready in
    let is_older = c.if-place-eq0.false in
    let page = place.older - 1 in
    let names : page + 1 ≡ place.older = omega (arith, is_older) in
    older_stays g.F.Table.PageTable.entries g.F.Flash.PAGES g.F.Flash.SLOTS g.F.Flash.SECTORS g.F.Flash.sector_start
    (g.F.Flash.state c.args.flash.now).words place page known g.met.F.Flash.sectors_fit.4 names
    (g.F.Flash.state c.put_in_spare.new.flash).words c.requires.log.ring (put_elsewhere g c)

-- and so do the slots that are free
put_home : (g : Over) (c : After-put_in_spare g)
    → KeepsHome g.F.Flash.SLOTS (g.F.Flash.state c.args.flash.now).words
    (g.F.Flash.state c.put_in_spare.new.flash).words
put_home g c =
    let slots = g.F.Flash.SLOTS in
    let m = (g.F.Flash.state c.args.flash.now).words in
    let after = (g.F.Flash.state c.put_in_spare.new.flash).words in
    let turn = c.args.place.now.turn in
    let base = spare_in slots turn in
    let known = c.requires.log.known c.requires.ready in
    area_home slots m after turn known.turn (spare_leaves slots m after turn
    (elsewhere_wider m after base (20 * slots) base (area_size slots) (omega arith) (omega arith) (put_elsewhere g c)))

pub returns-in_err-slot-clause-words : goal.returns-in_err-slot-clause-words
returns-in_err-slot-clause-words g c =
    (put_stays g (goal.at.returns-in_err-slot-clause-words g c).After-put_in_spare).words

pub returns-in_err-slot-clause-log : goal.returns-in_err-slot-clause-log
returns-in_err-slot-clause-log g c =
    let slots = g.F.Flash.SLOTS in
    let pages = g.F.Flash.PAGES in
    let sectors = g.F.Flash.SECTORS in
    let start = g.F.Flash.sector_start in
    let entries = g.F.Table.PageTable.entries in
    let m = (g.F.Flash.state c.args.flash.now).words in
    let place = c.args.place.now in
    let page = place.older - 1 in
    let known = c.requires.log.known c.requires.ready in
    let is_older = c.if-place-eq0.false in
    let names : page + 1 ≡ place.older = omega (arith, is_older) in
    let some = g.met.F.Flash.sectors_fit.4 in
    let after = (g.F.Flash.state c.put_in_spare.new.flash).words in
    let base = spare_in slots place.turn in
    let there : base_in slots c.spare.result ≡ base = c.spare.ensures.is slots in
    let elsewhere : SameElsewhere m base (20 * slots) after =
    subst (λ (b : ℕ). SameElsewhere m b (20 * slots) after) there
    (subst (λ (l : List ℕ). SameElsewhere l (base_in slots c.spare.result) (20 * slots) after)
    c.record_of.ensures.words c.put_in_spare.ensures.elsewhere) in
    record {
      passed = let passed = c.requires.log.passed in omega (arith, passed);
      ring = (older_stays entries pages slots sectors start m place page known some names after c.requires.log.ring
          elsewhere).ring;
      known = λ e. absurd (true≢false (sym e));
    }

-- without a Fault it took one slot
put_lost : (g : Over) (c : After-put_in_spare g) → (extra : ℕ)
    → KeepsPace g.F.Flash.PAGES g.F.Flash.SLOTS g.F.Flash.SECTORS extra c.args.place.now
    → (g.F.Flash.state c.put_in_spare.new.flash).faults ≡ (g.F.Flash.state c.args.flash.now).faults
    → IsInPace g.F.Flash.PAGES g.F.Flash.SLOTS g.F.Flash.SECTORS g.F.Flash.sector_start
    (g.F.Flash.state c.put_in_spare.new.flash).words (extra + 1)
put_lost g c = λ extra pace none.
    let slots = g.F.Flash.SLOTS in
    let pages = g.F.Flash.PAGES in
    let sectors = g.F.Flash.SECTORS in
    let start = g.F.Flash.sector_start in
    let entries = g.F.Table.PageTable.entries in
    let old = g.F.Flash.state c.args.flash.now in
    let mid = g.F.Flash.state c.record_of.new.flash in
    let new = g.F.Flash.state c.put_in_spare.new.flash in
    let m = old.words in
    let place = c.args.place.now in
    let page = place.older - 1 in
    let known = c.requires.log.known c.requires.ready in
    let is_older = c.if-place-eq0.false in
    let names : page + 1 ≡ place.older = omega (arith, is_older) in
    let some = g.met.F.Flash.sectors_fit.4 in
    let after = new.words in
    let base = spare_in slots place.turn in
    let there : base_in slots c.spare.result ≡ base = c.spare.ensures.is slots in
    let elsewhere : SameElsewhere m base (20 * slots) after =
    subst (λ (b : ℕ). SameElsewhere m b (20 * slots) after) there
    (subst (λ (l : List ℕ). SameElsewhere l (base_in slots c.spare.result) (20 * slots) after)
    c.record_of.ensures.words c.put_in_spare.ensures.elsewhere) in
    let words = c.in_ok-found.found in
    let named : slice_index words 16 ≡ page = c.in_ok-found.ensures.names in
    let read = c.in_ok-found.ensures.light.ok refl in
    let same = read.faults in
    let failed = new.faults - mid.faults in
    let n = place.behind + 1 + failed in
    let kept : n ≤ slots → KeepsOthers slots m base page after n = λ below.
    subst (λ (p : ℕ). KeepsOthers slots m base p after n) named
    (subst (λ (b : ℕ). KeepsOthers slots m b (slice_index words 16) after n) there
    (subst (λ (l : List ℕ). KeepsOthers slots l (base_in slots c.spare.result) (slice_index words 16) after n)
    c.record_of.ensures.words (c.put_in_spare.ensures.torn below))) in
    let within = (older_has entries pages slots sectors start m place page known some names).free.within in
    let full = c.if-place-SLOTS.false in
    let all = c.SLOTS.ensures in
    let below : n ≤ slots = omega (arith, within, full, all, none, same) in
    in_pace_more pages slots sectors start after (extra + (failed + 1)) (extra + 1) (omega (arith, none, same))
    (older_lost entries pages slots sectors start m place page known some names after c.requires.log.ring elsewhere
    extra failed (kept below) pace).pace

pub returns-in_err-slot-clause-lost : goal.returns-in_err-slot-clause-lost
returns-in_err-slot-clause-lost g c = put_lost g (goal.at.returns-in_err-slot-clause-lost g c).After-put_in_spare

pub returns-clause-words : goal.returns-clause-words
returns-clause-words g c = (put_stays g (goal.at.returns-clause-words g c).After-put_in_spare).words

pub returns-clause-log : goal.returns-clause-log
returns-clause-log g c =
    let slots = g.F.Flash.SLOTS in
    let pages = g.F.Flash.PAGES in
    let sectors = g.F.Flash.SECTORS in
    let start = g.F.Flash.sector_start in
    let entries = g.F.Table.PageTable.entries in
    let m = (g.F.Flash.state c.args.flash.now).words in
    let place = c.args.place.now in
    let page = place.older - 1 in
    let known = c.requires.log.known c.requires.ready in
    let is_older = c.if-place-eq0.false in
    let names : page + 1 ≡ place.older = omega (arith, is_older) in
    let some = g.met.F.Flash.sectors_fit.4 in
    let after = (g.F.Flash.state c.put_in_spare.new.flash).words in
    let base = spare_in slots place.turn in
    let there : base_in slots c.spare.result ≡ base = c.spare.ensures.is slots in
    let elsewhere : SameElsewhere m base (20 * slots) after =
    subst (λ (b : ℕ). SameElsewhere m b (20 * slots) after) there
    (subst (λ (l : List ℕ). SameElsewhere l (base_in slots c.spare.result) (20 * slots) after)
    c.record_of.ensures.words c.put_in_spare.ensures.elsewhere) in
    let words = c.in_ok-found.found in
    let s = c.in_ok-slot.slot in
    let put = c.in_ok-slot.ensures.put in
    let under = put.0 in
    let all = c.SLOTS-2.ensures in
    let below : s < slots = omega (arith, under, all) in
    let size : length words ≡ 18 = omega arith in
    let named : slice_index words 16 ≡ page = c.in_ok-found.ensures.names in
    let kept : KeepsOthers slots m base page after (s + 1) =
    subst (λ (p : ℕ). KeepsOthers slots m base p after (s + 1)) named
    (subst (λ (b : ℕ). KeepsOthers slots m b (slice_index words 16) after (s + 1)) there
    (subst (λ (l : List ℕ). KeepsOthers slots l (base_in slots c.spare.result) (slice_index words 16) after (s + 1))
    c.record_of.ensures.words put.2)) in
    older_put entries pages slots sectors start m place page known some names after c.requires.log.ring elsewhere
    s words (subst (λ (b : ℕ). IsPut after (slot_of b s) words) there put.1) kept below size named
    (λ k few. c.in_ok-found.ensures.each k few
    ∙ ap (λ (b : ℕ). page_word m b slots page k) (c.home.ensures.is slots))
    (tried_next pages slots sectors place c.requires.ready known.free.within c.requires.log.passed)

pub returns-clause-lost : goal.returns-clause-lost
returns-clause-lost g c = put_lost g (goal.at.returns-clause-lost g c).After-put_in_spare

pub returns-in_err-found-clause-stands : goal.returns-in_err-found-clause-stands
returns-in_err-found-clause-stands g c = λ extra roomy pace.
    let slots = g.F.Flash.SLOTS in
    let pages = g.F.Flash.PAGES in
    let sectors = g.F.Flash.SECTORS in
    let start = g.F.Flash.sector_start in
    let old = g.F.Flash.state c.args.flash.now in
    let new = g.F.Flash.state c.record_of.new.flash in
    let place = c.args.place.now in
    inr (
      refl,
      from_more pages slots sectors start new.words extra (extra + lost_since old new) place.tried (omega arith)
          (subst (λ (l : List ℕ). IsInPaceFrom pages slots sectors start l extra place.tried)
          (sym c.record_of.ensures.words)
          (place_stands pages slots sectors extra g.F.Table.PageTable.entries start old.words place
          (c.requires.log.known c.requires.ready) pace)),
    )

pub returns-in_err-slot-clause-stands : goal.returns-in_err-slot-clause-stands
returns-in_err-slot-clause-stands g c = λ extra roomy pace.
    let slots = g.F.Flash.SLOTS in
    let pages = g.F.Flash.PAGES in
    let sectors = g.F.Flash.SECTORS in
    let start = g.F.Flash.sector_start in
    let entries = g.F.Table.PageTable.entries in
    let old = g.F.Flash.state c.args.flash.now in
    let mid = g.F.Flash.state c.record_of.new.flash in
    let new = g.F.Flash.state c.put_in_spare.new.flash in
    let m = old.words in
    let place = c.args.place.now in
    let page = place.older - 1 in
    let known = c.requires.log.known c.requires.ready in
    let is_older = c.if-place-eq0.false in
    let names : page + 1 ≡ place.older = omega (arith, is_older) in
    let some = g.met.F.Flash.sectors_fit.4 in
    let after = new.words in
    let base = spare_in slots place.turn in
    let there : base_in slots c.spare.result ≡ base = c.spare.ensures.is slots in
    let elsewhere : SameElsewhere m base (20 * slots) after =
    subst (λ (b : ℕ). SameElsewhere m b (20 * slots) after) there
    (subst (λ (l : List ℕ). SameElsewhere l (base_in slots c.spare.result) (20 * slots) after)
    c.record_of.ensures.words c.put_in_spare.ensures.elsewhere) in
    let words = c.in_ok-found.found in
    let named : slice_index words 16 ≡ page = c.in_ok-found.ensures.names in
    let read = c.in_ok-found.ensures.light.ok refl in
    let same = read.faults in
    let failed = new.faults - mid.faults in
    let n = place.behind + 1 + failed in
    let kept : n ≤ slots → KeepsOthers slots m base page after n = λ below.
    subst (λ (p : ℕ). KeepsOthers slots m base p after n) named
    (subst (λ (b : ℕ). KeepsOthers slots m b (slice_index words 16) after n) there
    (subst (λ (l : List ℕ). KeepsOthers slots l (base_in slots c.spare.result) (slice_index words 16) after n)
    c.record_of.ensures.words (c.put_in_spare.ensures.torn below))) in
    let few = pace.few in
    let most = known.spare.most in
    let within = (older_has entries pages slots sectors start m place page known some names).free.within in
    let full = c.if-place-SLOTS.false in
    let all = c.SLOTS.ensures in
    let ends = c.SLOTS-2.ensures in
    let below : n ≤ slots = omega (arith, roomy, few, most, same) in
    let left : 1 ≤ c.SLOTS-2.result - place.behind = omega (arith, within, full, all, ends) in
    let lost = err_lost mid new _ (tries_once (c.SLOTS-2.result - place.behind) mid new _ left
    c.in_err-slot.ensures.light) refl in
    let due = read.due in
    inr (
      refl,
      from_more pages slots sectors start after (extra + (failed + 1)) (extra + lost_since old new) place.tried
          (omega (arith, lost, same, due))
          (older_lost entries pages slots sectors start m place page known some names after c.requires.log.ring
          elsewhere extra failed (kept below) pace),
    )

pub returns-clause-stands : goal.returns-clause-stands
returns-clause-stands g c = λ extra roomy pace.
    let slots = g.F.Flash.SLOTS in
    let pages = g.F.Flash.PAGES in
    let sectors = g.F.Flash.SECTORS in
    let old = g.F.Flash.state c.args.flash.now in
    let new = g.F.Flash.state c.put_in_spare.new.flash in
    let place = c.args.place.now in
    let known = c.requires.log.known c.requires.ready in
    let is_older = c.if-place-eq0.false in
    let few = known.spare.few in
    let read = (c.in_ok-found.ensures.light.ok refl).faults in
    let passes = c.in_ok-slot.ensures.passes in
    let more = extra + lost_since old new in
    let q = record place { ready = true; behind = c.in_ok-slot.slot + 1; older = 0 } in
    inl (caught_more pages slots sectors (extra + (new.faults - old.faults)) more q (omega arith)
    (older_caught pages slots sectors extra place (c.in_ok-slot.slot + 1) (new.faults - old.faults) pace
    (omega (arith, few, is_older)) (omega (arith, passes, read))))

pub returns-then-place-eq0-clause-stands : goal.returns-then-place-eq0-clause-stands
returns-then-place-eq0-clause-stands g c = λ extra roomy pace.
    let pages = g.F.Flash.PAGES in
    let slots = g.F.Flash.SLOTS in
    let sectors = g.F.Flash.SECTORS in
    let flash = g.F.Flash.state c.args.flash.now in
    let place = c.args.place.now in
    inl (caught_more pages slots sectors extra (extra + lost_since flash flash) place (omega arith)
    (none_caught pages slots sectors extra place pace))

pub returns-in_err-found-clause-turn : goal.returns-in_err-found-clause-turn
returns-in_err-found-clause-turn g c = ap (turn_of g.F.Flash.SLOTS) c.record_of.ensures.words

pub returns-in_err-found-clause-home : goal.returns-in_err-found-clause-home
returns-in_err-found-clause-home g c =
    home_read g.F.Flash.SLOTS (g.F.Flash.state c.args.flash.now).words (g.F.Flash.state c.record_of.new.flash).words
    c.record_of.ensures.words

pub returns-in_err-slot-clause-turn : goal.returns-in_err-slot-clause-turn
returns-in_err-slot-clause-turn g c =
    (put_stays g (goal.at.returns-in_err-slot-clause-turn g c).After-put_in_spare).turn

pub returns-in_err-slot-clause-home : goal.returns-in_err-slot-clause-home
returns-in_err-slot-clause-home g c = put_home g (goal.at.returns-in_err-slot-clause-home g c).After-put_in_spare

pub returns-clause-turn : goal.returns-clause-turn
returns-clause-turn g c = (put_stays g (goal.at.returns-clause-turn g c).After-put_in_spare).turn

pub returns-clause-home : goal.returns-clause-home
returns-clause-home g c = put_home g (goal.at.returns-clause-home g c).After-put_in_spare

pub returns-then-place-SLOTS-clause-steps : goal.returns-then-place-SLOTS-clause-steps
returns-then-place-SLOTS-clause-steps g c = λ below.
    let full = c.if-place-SLOTS.true in
    let slots = c.SLOTS.ensures in
    absurd (omega (arith, full, slots, below))
