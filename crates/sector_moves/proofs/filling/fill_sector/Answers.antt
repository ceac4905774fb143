use Rattle.std.proofs.Common.{◌≡◌, ◌≤◌, ◌+◌, ◌-◌, ◌*◌, ℕ, List, sym, ap, subst, ◌∙◌, arith}
use Rattle.flash_device.specs.declared.flash.TheConstants.{BLANK}
use Rattle.flash_device.specs.FlashBlocks.{area_size, steps_of}
use Rattle.flash_device.specs.FlashCalls.{AreFilled, SameElsewhere}
use Rattle.flash_device.specs.FlashLogs.{base_in, turn_of, words_of}
use Rattle.flash_device.specs.PageTables.{AreFree, IsPageTable}
use Rattle.flash_device.specs.laws.Marks.{elsewhere_wider}
use Rattle.flash_area.specs.Spares.{spare_in, spare_sector}
use Rattle.flash_area.specs.laws.Copying.{SameArea}
use Rattle.flash_moves.specs.laws.Moving.{Stays}
use Rattle.flash_moves.specs.laws.Sparing.{index_same, spare_leaves, spare_stays}
use Rattle.sector_moves.specs.SectorSpares.{HasSectorCopies, HasStepCopies, spare_slot, spare_slots}
use Rattle.sector_moves.specs.declared.filling.TheConstants.{STEP_SLOTS}
use Rattle.sector_moves.specs.laws.Filling.{home_same, in_slots, slot_rises, step_free, step_widens, turn_stays}
use Rattle.sector_moves.specs.laws.Filling.{words_stay}
use Rattle.sector_moves.specs.laws.Sizing.{sector_high, sector_low, slots_held}
use Rattle.sector_moves.proofs.filling.fill_sector.Given.{Over}
use Rattle.sector_moves.proofs.filling.fill_sector.Goals.{After-min-end, In_ok-next}
use Rattle.sector_moves.proofs.filling.fill_sector.Goals as goal

-- the number behind the slots that a step may take fits
pub overflow_add-first : goal.overflow_add-first
overflow_add-first g c =
    let fit = g.met.F.Flash.slots_fit in
    let most = g.met.F.SectorFlash.sectors_left in
    let pages = g.met.F.Flash.pages_fit in
    let left = g.met.F.SectorFlash.slots_left c.args.turn in
    let before = slot_rises g.F.Flash.sector_start g.F.Flash.SLOTS g.F.Flash.SECTORS g.met.F.Flash.sectors_rise
    c.args.turn c.args.step (steps_of g.F.Flash.PAGES) (omega (arith, c.requires.step)) in
    let first = c.spare_slot-first.ensures.is in
    omega (arith, fit, most, pages, left, before, first)

-- the slots that a step takes lie in its sector
room : (g : Over) (c : After-min-end g)
    → (c.spare_slot-first.result + 17 ≤ c.min-end.result) × (c.min-end.result ≤ g.F.Flash.SLOTS)
    × (c.min-end.result ≤ c.spare_slots.result) × (c.min-end.result ≤ c.spare_slot-first.result + STEP_SLOTS)
room g c =
    let fit = g.met.F.Flash.sectors_fit in
    let hold = g.met.F.SectorFlash.sectors_hold c.args.turn c.args.step c.requires.step.0 in
    let held = slots_held g.F.Flash.sector_start g.F.Flash.SLOTS g.F.Flash.SECTORS g.met.F.Flash.sectors_rise fit.0
    fit.1 fit.2 c.args.turn c.args.step hold in
    let first = c.spare_slot-first.ensures.is in
    let whole = c.spare_slots.ensures.is in
    let most = c.spare_slots.ensures.most in
    let end = c.min-end.ensures in (
      omega (arith, held, first, whole, end),
      omega (arith, most, end),
      omega (arith, end),
      omega (arith, end),
    )

-- where the sector lies
place : (g : Over) (c : After-min-end g)
    → (spare_in g.F.Flash.SLOTS c.args.turn
    ≤ g.F.Flash.sector_start (spare_sector g.F.Flash.SECTORS c.args.turn + c.args.step))
    × (g.F.Flash.sector_start (spare_sector g.F.Flash.SECTORS c.args.turn + c.args.step)
    ≤ g.F.Flash.sector_start (spare_sector g.F.Flash.SECTORS c.args.turn + (c.args.step + 1)))
    × (g.F.Flash.sector_start (spare_sector g.F.Flash.SECTORS c.args.turn + (c.args.step + 1))
    ≤ spare_in g.F.Flash.SLOTS c.args.turn + area_size g.F.Flash.SLOTS)
place g c =
    let slots = g.F.Flash.SLOTS in
    let sectors = g.F.Flash.SECTORS in
    let start = g.F.Flash.sector_start in
    let rise = g.met.F.Flash.sectors_rise in
    let fit = g.met.F.Flash.sectors_fit in
    let turn = c.args.turn in
    let step = c.args.step in
    let hold = g.met.F.SectorFlash.sectors_hold turn step c.requires.step.0 in
    let less = c.requires.step.0 in
    let left = g.met.F.SectorFlash.sectors_left in (
      sector_low start slots sectors rise fit.0 fit.1 fit.2 turn step,
      omega (arith, hold),
      sector_high start slots sectors rise fit.0 fit.1 fit.2 turn (step + 1) (omega (arith, less, left)),
    )

-- the sector is erased
erased : (g : Over) (c : After-min-end g)
    → AreFilled (g.F.Flash.state c.erase.new.self).words
    (g.F.Flash.sector_start (spare_sector g.F.Flash.SECTORS c.args.turn + c.args.step))
    (g.F.Flash.sector_start (spare_sector g.F.Flash.SECTORS c.args.turn + (c.args.step + 1))
    - g.F.Flash.sector_start (spare_sector g.F.Flash.SECTORS c.args.turn + c.args.step)) BLANK
    × SameElsewhere (g.F.Flash.state c.args.flash.now).words
    (g.F.Flash.sector_start (spare_sector g.F.Flash.SECTORS c.args.turn + c.args.step))
    (g.F.Flash.sector_start (spare_sector g.F.Flash.SECTORS c.args.turn + (c.args.step + 1))
    - g.F.Flash.sector_start (spare_sector g.F.Flash.SECTORS c.args.turn + c.args.step))
    (g.F.Flash.state c.erase.new.self).words
erased g c =
    let start = g.F.Flash.sector_start in
    let m = (g.F.Flash.state c.args.flash.now).words in
    let mid = (g.F.Flash.state c.erase.new.self).words in
    let step = c.args.step in
    let first = spare_sector g.F.Flash.SECTORS c.args.turn in
    let from = c.first_sector_of_spare.result in
    let is : from ≡ first = c.first_sector_of_spare.ensures.is in
    let more : from + step + 1 ≡ first + (step + 1) = omega (arith, is) in
    let here : start (from + step) ≡ start (first + step) = ap (λ (f : ℕ). start (f + step)) is in
    let next : start (from + step + 1) ≡ start (first + (step + 1)) = ap start more in (
      subst (λ (a : ℕ). AreFilled mid a (start (first + (step + 1)) - a) BLANK) here
          (subst (λ (b : ℕ). AreFilled mid (start (from + step)) (b - start (from + step)) BLANK) next
          c.in_ok-erase.ensures.done),
      subst (λ (a : ℕ). SameElsewhere m a (start (first + (step + 1)) - a) mid) here
          (subst (λ (b : ℕ). SameElsewhere m (start (from + step)) (b - start (from + step)) mid) next
          c.erase.ensures.elsewhere),
    )

-- the erase changed the other area alone
wide : (g : Over) (c : After-min-end g) → SameElsewhere (g.F.Flash.state c.args.flash.now).words
    (spare_in g.F.Flash.SLOTS c.args.turn) (area_size g.F.Flash.SLOTS) (g.F.Flash.state c.erase.new.self).words
wide g c =
    let slots = g.F.Flash.SLOTS in
    let start = g.F.Flash.sector_start in
    let first = spare_sector g.F.Flash.SECTORS c.args.turn in
    let at = place g c in
    elsewhere_wider (g.F.Flash.state c.args.flash.now).words (g.F.Flash.state c.erase.new.self).words
    (start (first + c.args.step)) (start (first + (c.args.step + 1)) - start (first + c.args.step))
    (spare_in slots c.args.turn) (area_size slots) at.0 (omega (arith, at)) (erased g c).1

-- so the turn and the words stay
stays : (g : Over) (c : After-min-end g) → Stays g.F.Flash.PAGES g.F.Flash.SLOTS
    (g.F.Flash.state c.args.flash.now).words (g.F.Flash.state c.erase.new.self).words
stays g c = let turn = c.requires.turn in
    spare_stays g.F.Flash.PAGES g.F.Flash.SLOTS (g.F.Flash.state c.args.flash.now).words
    (g.F.Flash.state c.erase.new.self).words c.args.turn c.requires.ring turn.2 turn.0 turn.1 (wide g c)

home : (g : Over) (c : After-min-end g) → SameArea g.F.Flash.SLOTS (g.F.Flash.state c.args.flash.now).words
    (g.F.Flash.state c.erase.new.self).words (base_in g.F.Flash.SLOTS c.args.turn)
home g c = spare_leaves g.F.Flash.SLOTS (g.F.Flash.state c.args.flash.now).words
    (g.F.Flash.state c.erase.new.self).words c.args.turn (wide g c)

index : (g : Over) (c : After-min-end g) → IsPageTable g.F.Flash.PAGES (g.F.Flash.state c.erase.new.self).words
    (base_in g.F.Flash.SLOTS c.args.turn) g.F.Flash.SLOTS (g.F.Table.PageTable.entries c.args.table.now)
index g c = index_same g.F.Flash.SLOTS g.F.Flash.PAGES (g.F.Flash.state c.args.flash.now).words
    (g.F.Flash.state c.erase.new.self).words (g.F.Table.PageTable.entries c.args.table.now)
    (base_in g.F.Flash.SLOTS c.args.turn) (home g c) c.requires.index

-- the slots that begin in the sector are free
free : (g : Over) (c : After-min-end g) → AreFree (g.F.Flash.state c.erase.new.self).words
    (spare_in g.F.Flash.SLOTS c.args.turn) c.spare_slot-first.result c.spare_slots.result
free g c =
    let slots = g.F.Flash.SLOTS in
    let sectors = g.F.Flash.SECTORS in
    let start = g.F.Flash.sector_start in
    let turn = c.args.turn in
    let step = c.args.step in
    let mid = (g.F.Flash.state c.erase.new.self).words in
    let base = spare_in slots turn in
    let first = c.spare_slot-first.ensures.is in
    let whole = c.spare_slots.ensures.is in
    let at = place g c in
    let some = room g c in
    subst (λ (s : ℕ). AreFree mid base s c.spare_slots.result) (sym first)
    (subst (λ (s : ℕ). AreFree mid base (spare_slot slots sectors start turn step) s) (sym whole)
    (step_free g.F.Flash.PAGES slots sectors start (g.F.Flash.state c.args.flash.now).words mid turn step at.0 at.1
    (erased g c).0 (omega (arith, some, first, whole))))

-- and so are those before one of them
free_to : (g : Over) (c : After-min-end g) (end : ℕ) → c.spare_slot-first.result ≤ end → end ≤ c.spare_slots.result
    → AreFree (g.F.Flash.state c.erase.new.self).words (spare_in g.F.Flash.SLOTS c.args.turn)
    c.spare_slot-first.result end
free_to g c end from to = record {
  within = from;
  free = λ s least lt. (free g c).free s least (omega (arith, lt, to));
}

-- the page that is copied again changed slots of the other area
again : (g : Over) (c : In_ok-next g)
    → (c.spare_slot-first.result + 17 ≤ c.min-end.result) × (c.min-end.result ≤ g.F.Flash.SLOTS)
    × (c.min-end.result ≤ c.spare_slots.result) × (c.min-end.result ≤ c.spare_slot-first.result + STEP_SLOTS)
    → SameElsewhere (g.F.Flash.state c.erase.new.self).words (spare_in g.F.Flash.SLOTS c.args.turn)
    (20 * g.F.Flash.SLOTS) (g.F.Flash.state c.put_older.new.flash).words
again g c some = in_slots g.F.Flash.SLOTS (g.F.Flash.state c.erase.new.self).words
    (g.F.Flash.state c.put_older.new.flash).words (spare_in g.F.Flash.SLOTS c.args.turn) c.spare_slot-first.result
    (c.min-end.result - 16) (omega (arith, some)) (omega (arith, some)) c.put_older.ensures.elsewhere

turn_again : (g : Over) (c : In_ok-next g)
    → (c.spare_slot-first.result + 17 ≤ c.min-end.result) × (c.min-end.result ≤ g.F.Flash.SLOTS)
    × (c.min-end.result ≤ c.spare_slots.result) × (c.min-end.result ≤ c.spare_slot-first.result + STEP_SLOTS)
    → c.args.turn ≡ turn_of g.F.Flash.SLOTS (g.F.Flash.state c.erase.new.self).words
    → c.args.turn ≡ turn_of g.F.Flash.SLOTS (g.F.Flash.state c.put_older.new.flash).words
turn_again g c some is = is ∙ sym (turn_stays g.F.Flash.PAGES g.F.Flash.SLOTS
    (g.F.Flash.state c.erase.new.self).words (g.F.Flash.state c.put_older.new.flash).words c.args.turn
    (again g c some))

pub overflow_sub-end : goal.overflow_sub-end
overflow_sub-end g c = let some = room g (goal.at.overflow_sub-end g c).After-min-end in omega (arith, some)

pub put_older-requires-clause-turn : goal.put_older-requires-clause-turn
put_older-requires-clause-turn g c =
    let turn = c.requires.turn in (
      turn.0,
      turn.1,
      turn.2 ∙ sym (stays g (goal.at.put_older-requires-clause-turn g c).After-min-end).turn,
    )

pub put_older-requires-clause-some : goal.put_older-requires-clause-some
put_older-requires-clause-some g c =
    let some = room g (goal.at.put_older-requires-clause-some g c).After-min-end in
    (omega (arith, some), omega (arith, some))

pub put_older-requires-clause-free : goal.put_older-requires-clause-free
put_older-requires-clause-free g c =
    let at = (goal.at.put_older-requires-clause-free g c).After-min-end in
    let some = room g at in
    free_to g at (c.min-end.result - 16) (omega (arith, some)) (omega (arith, some))

pub put_older-requires-clause-index : goal.put_older-requires-clause-index
put_older-requires-clause-index g c = let few = c.requires.step in
    (omega (arith, few), index g (goal.at.put_older-requires-clause-index g c).After-min-end)

pub copy_pages-requires-clause-turn : goal.copy_pages-requires-clause-turn
copy_pages-requires-clause-turn g c =
    let turn = c.requires.turn in
    let at = goal.at.copy_pages-requires-clause-turn g c in
    let begun = at.After-min-end in
    (turn.0, turn.1, turn_again g at.In_ok-next (room g begun) (turn.2 ∙ sym (stays g begun).turn))

pub copy_pages-requires-clause-some : goal.copy_pages-requires-clause-some
copy_pages-requires-clause-some g c =
    let some = room g (goal.at.copy_pages-requires-clause-some g c).After-min-end in
    let most = c.in_ok-next.ensures.most in
    (omega (arith, some, most), some.1)

pub copy_pages-requires-clause-free : goal.copy_pages-requires-clause-free
copy_pages-requires-clause-free g c =
    let at = (goal.at.copy_pages-requires-clause-free g c).After-min-end in
    let some = room g at in
    c.in_ok-next.ensures.free c.min-end.result (omega arith)
    (free_to g at c.min-end.result (omega (arith, some)) (omega (arith, some)))

pub copy_pages-requires-clause-index : goal.copy_pages-requires-clause-index
copy_pages-requires-clause-index g c =
    let slots = g.F.Flash.SLOTS in
    let pages = g.F.Flash.PAGES in
    let mid = (g.F.Flash.state c.erase.new.self).words in
    let after = (g.F.Flash.state c.put_older.new.flash).words in
    let step = c.requires.step.0 in
    let at = goal.at.copy_pages-requires-clause-index g c in (
      omega (arith, step),
      index_same slots pages mid after (g.F.Table.PageTable.entries c.args.table.now) (base_in slots c.args.turn)
          (home_same pages slots mid after c.args.turn (again g at.In_ok-next (room g at.After-min-end)))
          (index g at.After-min-end),
    )

pub returns-clause-copies : goal.returns-clause-copies
returns-clause-copies g c =
    let slots = g.F.Flash.SLOTS in
    let pages = g.F.Flash.PAGES in
    let sectors = g.F.Flash.SECTORS in
    let start = g.F.Flash.sector_start in
    let turn = c.args.turn in
    let step = c.args.step in
    let older = c.args.older in
    let m = (g.F.Flash.state c.args.flash.now).words in
    let mid = (g.F.Flash.state c.erase.new.self).words in
    let put = (g.F.Flash.state c.put_older.new.flash).words in
    let after = (g.F.Flash.state c.copy_pages.new.flash).words in
    let words = words_of pages slots m in
    let home_base = base_in slots turn in
    let base = spare_in slots turn in
    let end = c.min-end.result in
    let whole = c.spare_slots.result in
    let at = goal.at.returns-clause-copies g c in
    let begun = at.After-min-end in
    let lies = place g begun in
    let is_whole : whole ≡ spare_slots slots sectors start turn (step + 1) = c.spare_slots.ensures.is in
    let some = room g begun in
    let most = c.in_ok-next.ensures.most in
    let named : words ≡ words_of pages slots mid = sym (stays g begun).words in
    let is_mid : turn ≡ turn_of slots mid = c.requires.turn.2 ∙ sym (stays g begun).turn in
    let named_put : words ≡ words_of pages slots put =
    named ∙ sym (words_stay pages slots mid put turn (again g at.In_ok-next some) is_mid) in
    let copied : SameElsewhere put base (20 * slots) after =
    in_slots slots put after base c.in_ok-next.next end (omega (arith, some, most)) some.1
    c.copy_pages.ensures.elsewhere in
    let named_after : words ≡ words_of pages slots after =
    named_put ∙ sym (words_stay pages slots put after turn copied (turn_again g at.In_ok-next some is_mid)) in
    let all : 16 * step + 16 ≡ 16 * (step + 1) = omega arith in
    λ (has : HasStepCopies pages slots sectors start m turn step older).
    let one : HasSectorCopies pages slots mid words home_base base whole (16 * step) older =
    subst (λ (n : ℕ). HasSectorCopies pages slots mid words home_base base n (16 * step) older) (sym is_whole)
    (step_widens pages slots sectors start m mid turn step lies.0 lies.1 (erased g begun).0 words (16 * step) older
    (erased g begun).1 (home g begun) has) in
    let two : HasSectorCopies pages slots put words home_base base whole (16 * step) 0 =
    c.in_ok-next.ensures.copies whole (16 * step) words (omega (arith, some)) c.requires.step.1 named (free g begun)
    one in
    let three : HasSectorCopies pages slots after words home_base base whole (16 * step + 16) 0 =
    c.in_ok-behind.ensures.copies whole words (omega (arith, some)) named_put
    (c.in_ok-next.ensures.free whole (omega (arith, some)) (free g begun)) two in
    subst (λ (n : ℕ). HasSectorCopies pages slots after (words_of pages slots after) home_base base n
    (16 * (step + 1)) 0) is_whole
    (subst (λ (n : ℕ). HasSectorCopies pages slots after (words_of pages slots after) home_base base whole n 0) all
    (subst (λ (l : List ℕ). HasSectorCopies pages slots after l home_base base whole (16 * step + 16) 0) named_after
    three))
