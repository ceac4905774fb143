-- The pace of a move to the other area: a step at each write, so that it ends before the area in use is full.
use Rattle.std.specs.Prelude.{◌≡◌, ◌⊎◌, ◌<◌, ◌≤◌, ◌+◌, ◌-◌, ◌*◌, ℕ, Bool, true, false, List, Result, IsOk}
use Rattle.std.specs.Prelude.{◌&&◌, ◌||◌, nat_eq, nat_le, not, if◌then◌else◌}
use Rattle.nvm_board.specs.declared.board.DeviceErr.{DeviceErr}
use Rattle.flash_moves.specs.declared.ahead.TheConstants.{TRIES}
use Rattle.flash_moves.specs.declared.place.PageMap.{PageMap}
use Rattle.flash_device.specs.declared.layout.TheConstants.{SPARES, STEP_PAGES}
use Rattle.flash_device.specs.FlashBlocks.{steps_of}
use Rattle.flash_device.specs.FlashCalls.{Costs, FlashState}
use Rattle.flash_device.specs.FlashLogs.{base_in, turn_of, words_of}
use Rattle.flash_device.specs.PageTables.{AreFree}
use Rattle.flash_area.specs.Spares.{HasCopies, IsSpare, StepsFit, copies_most, spare_in, steps_from}

-- All that contracts know of a log: its flash, with the words of the board in place of its own, whether it is in pace,
-- how many slots of the other area steps took that lost power or failed, whether it knows the pages, up to which slot
-- writes were tried, whether it has yet to look for the pages since power-on, how many free slots it knows, how many
-- steps it knows to be left of the move, and the flash's own words.
pub record LogState : Type 0 where
  pub flash : FlashState
  pub paced : Bool
  pub extra : ℕ
  pub ready : Bool
  pub tried : ℕ
  pub fresh : Bool
  pub free : ℕ
  pub left : ℕ
  pub raw : List ℕ

-- The most steps that a move takes. The first one may pass the turn to the witness.
abbrev pub move_steps_of : ℕ → ℕ → ℕ
move_steps_of pages sectors = sectors + steps_of pages + 1

-- The number of free slots at which a move begins: one for each of its steps, and those of the tries of a record.
abbrev pub lead_of : ℕ → ℕ → ℕ
lead_of pages sectors = move_steps_of pages sectors + TRIES

-- An area takes each page once, one record more for each step that copies, those of steps that lose power, and those of
-- the next move.
abbrev pub IsRoomy : ℕ → ℕ → ℕ → ℕ → Type 0
IsRoomy pages slots sectors extra = pages + steps_of pages + lead_of pages sectors + extra ≤ slots

-- the most slots that steps may take which lose power
abbrev pub extra_of : ℕ → ℕ → ℕ → ℕ
extra_of pages slots sectors = slots - (pages + steps_of pages + lead_of pages sectors)

-- the most slots of the other area that a write takes which loses power: for an older page, and for a step
abbrev pub lost_slots : ℕ
lost_slots = STEP_PAGES + 1

-- The same of a try that fails: it takes one more for the program that failed.
abbrev pub failed_slots : ℕ
failed_slots = STEP_PAGES + 2

-- the most slots of the other area that Faults took since then
abbrev pub failed_since : FlashState → FlashState → ℕ
failed_since old new = failed_slots * (new.faults - old.faults)

-- the same, with those that power losses took
abbrev pub lost_since : FlashState → FlashState → ℕ
lost_since old new = failed_since old new + lost_slots * (old.due - new.due)

-- the steps that are left until the pages have moved
abbrev pub steps_left : {T : Type 0} → ℕ → ℕ → PageMap T → ℕ
steps_left pages sectors p = steps_from pages sectors p.turn p.erased p.copied

-- these as far as the log knows them
abbrev pub known_steps : {T : Type 0} → ℕ → ℕ → PageMap T → ℕ
known_steps pages sectors p = if p.ready then steps_left pages sectors p else 0

-- true before the log looks for the pages, from power-on on
abbrev pub is_fresh : {T : Type 0} → PageMap T → Bool
is_fresh p = not p.ready && nat_eq p.tried 0

-- the free slots of the area in use that the log knows; none before it has found the pages
abbrev pub free_slots : {T : Type 0} → ℕ → PageMap T → ℕ
free_slots slots p = if p.ready then slots - p.next else 0

-- The log is in pace: the area in use has a free slot for each step that is left. A step took at most 16 slots of the
-- other area, and a write between two steps one. Once slots of it are taken, each write takes a step.
pub record KeepsPace {T : Type 0} (pages slots sectors extra : ℕ) (p : PageMap T) : Type 0 where
  pub ready : p.ready ≡ true
  pub room : steps_left pages sectors p + p.next ≤ slots
  pub few : p.behind ≤ copies_most p.copied extra
  pub goes_on : 0 < p.copied + p.behind → slots ≤ p.next + lead_of pages sectors
  pub passed : p.tried ≤ p.next

-- The same before the step of a write: the step has 16 slots of the other area.
pub record IsCaughtUp {T : Type 0} (pages slots sectors extra : ℕ) (p : PageMap T) : Type 0 where
  pub ready : p.ready ≡ true
  pub room : steps_left pages sectors p + p.next ≤ slots
  pub few : p.behind + STEP_PAGES ≤ copies_most (p.copied + 1) extra
  pub goes_on : 0 < p.copied + p.behind → slots ≤ p.next + lead_of pages sectors
  pub passed : p.tried ≤ p.next

-- By what the flash holds the log is in pace, however far the move has come: the area in use has a free slot for each
-- step that is left.
pub record IsInPace (pages slots sectors : ℕ) (start : ℕ → ℕ) (m : List ℕ) (extra : ℕ) : Type 0 where
  pub erased : ℕ
  pub copied : ℕ
  pub behind : ℕ
  pub older : ℕ
  pub next : ℕ
  pub spare : IsSpare pages slots sectors start m (words_of pages slots m) (turn_of slots m) erased copied behind older
  pub free : AreFree m (base_in slots (turn_of slots m)) next slots
  pub room : StepsFit pages slots sectors (turn_of slots m) erased copied next
  pub few : behind ≤ copies_most copied extra

-- The same behind the slots that writes have tried: the log passes over these.
pub record IsInPaceFrom (pages slots sectors : ℕ) (start : ℕ → ℕ) (m : List ℕ) (extra tried : ℕ) : Type 0 where
  pub pace : IsInPace pages slots sectors start m extra
  pub passed : tried ≤ pace.next

-- The log is in pace, or will be once it has looked for the pages.
abbrev pub StandsInPace : ℕ → ℕ → ℕ → (ℕ → ℕ) → ℕ → LogState → Type 0
StandsInPace pages slots sectors start extra l = ((l.paced ≡ true) × (l.extra ≤ extra))
    ⊎ ((l.ready ≡ false) × IsInPaceFrom pages slots sectors start l.raw extra l.tried)

-- The place is in pace so far, or it has to be found, and then it is in pace.
abbrev pub StandsSo : {T : Type 0} → ℕ → ℕ → ℕ → (ℕ → ℕ) → List ℕ → ℕ → PageMap T → Type 0 → Type 0
StandsSo pages slots sectors start m extra p so = so
    ⊎ ((p.ready ≡ false) × IsInPaceFrom pages slots sectors start m extra p.tried)

-- The log is in pace, or will be: the same of the place, with the words of the flash.
abbrev pub WillKeepPace : {T : Type 0} → ℕ → ℕ → ℕ → (ℕ → ℕ) → List ℕ → ℕ → PageMap T → Type 0
WillKeepPace pages slots sectors start m extra p =
    StandsSo pages slots sectors start m extra p (KeepsPace pages slots sectors extra p)

-- The same behind the step of a write, which has yet to put its record.
pub record HasStepped {T : Type 0} (pages slots sectors extra : ℕ) (p : PageMap T) : Type 0 where
  pub ready : p.ready ≡ true
  pub room : steps_left pages sectors p + p.next < slots
  pub few : p.behind ≤ copies_most p.copied extra
  pub goes_on : 0 < p.copied + p.behind → slots ≤ p.next + lead_of pages sectors
  pub passed : p.tried ≤ p.next

-- A move has ended, and the next one has not begun. The slots from one on are free.
pub record HasMoved {T : Type 0} (p : PageMap T) (next : ℕ) : Type 0 where
  pub ready : p.ready ≡ true
  pub free : p.next ≡ next
  pub tried : p.tried ≡ 0
  pub erased : p.erased ≡ 0
  pub copied : p.copied ≡ 0
  pub behind : p.behind ≡ 0

unfoldable pub is_paced : {T : Type 0} → ℕ → ℕ → ℕ → PageMap T → Bool
is_paced pages slots sectors p = p.ready && (nat_le (steps_left pages sectors p + p.next) slots
    && ((nat_eq (p.copied + p.behind) 0 || nat_le slots (p.next + lead_of pages sectors))
    && nat_le p.tried p.next))

-- the slots of the other area that steps took which lost power, as far as the log knows
abbrev pub extra_slots : {T : Type 0} → PageMap T → ℕ
extra_slots p = if p.ready then p.behind - copies_most p.copied 0 else 0

-- At most so many programs and erases are begun, and so many more for each Fault of the flash. At most one of them is
-- an erase, of one sector, however often the flash fails.
pub record IsBrief (most more : ℕ) (old new : FlashState) : Type 0 where
  pub work : Costs most more old new
  pub erases : new.erases ≤ old.erases + 1

-- How long a write takes. In pace it is short at every exit, and the log is in pace behind it. Out of pace it is short
-- too, or the log is in pace behind it, unless the flash fails.
pub record Pauses {T : Type 0} (most more : ℕ) (old new : FlashState) (before after : Type 0)
    (result : Result T DeviceErr) : Type 0 where
  pub short : before → IsBrief most more old new
  pub stays : before → IsOk result → after
  pub long : new.faults ≡ old.faults → IsOk result → IsBrief most more old new ⊎ after

-- No copy may be older but that of one page, which a record puts again.
abbrev pub OwnsOlder : {T : Type 0} → ℕ → PageMap T → Type 0
OwnsOlder page p = (p.older ≡ 0) ⊎ (p.older ≡ page + 1)

-- The area in use has as many free slots as before, or the pages moved: each took one slot of the other area, each step
-- that copied one more, and those that lost power the rest. Then no slot of the next area is given up.
pub record MovesWell {T : Type 0} (pages extra : ℕ) (p q : PageMap T) : Type 0 where
  pub next : (q.next ≡ p.next) ⊎ ((q.next < pages + steps_of pages + extra) × (q.behind ≡ 0))

-- The same of a log that had yet to find its pages, of whose slots so many were free.
pub record MovesFound {T : Type 0} (pages slots extra free : ℕ) (q : PageMap T) : Type 0 where
  pub next : (slots ≤ q.next + free) ⊎ ((q.next < pages + steps_of pages + extra) × (q.behind ≡ 0))

-- With more free slots than before, the area in use is free behind one slot for each page, one for each step that
-- copies, and those that steps took which lost power. Of the next move none has lost power yet.
abbrev pub RegainsSlots : ℕ → ℕ → ℕ → ℕ → ℕ → ℕ → Type 0
RegainsSlots pages slots extra before after given = before < after
    → (slots ≤ after + pages + steps_of pages + extra) × (given ≡ 0)

-- A write while no step of a move is due. At most two programs are begun, of a record and its mark, and two more if
-- pages were copied ahead. Nothing is erased. Behind a write that is done, one free slot less is known.
pub record TakesSlot {R : Type 0} (old new : FlashState) (none_ahead : Type 0) (before after : ℕ)
    (result : Result R DeviceErr) : Type 0 where
  pub operations : new.operations ≤ old.operations + 4
  pub fewer : none_ahead → new.operations ≤ old.operations + 2
  pub erases : new.erases ≡ old.erases
  pub slots : IsOk result → after + 1 ≡ before

-- No step of a move is due before a write, and there is room for it. Nothing is programmed but an older page, if pages
-- were copied, and nothing is erased.
pub record HasNoStepDue {T : Type 0} (old new : FlashState) (p q : PageMap T) : Type 0 where
  pub operations : new.faults ≡ old.faults → new.operations ≤ old.operations + 2
  pub none : p.copied ≡ 0 → new.operations ≡ old.operations
  pub erases : new.erases ≡ old.erases
  pub next : q.next ≡ p.next

-- The area in use has so many free slots at its end.
pub record HasFreeSlots (slots least : ℕ) (m : List ℕ) : Type 0 where
  pub next : ℕ
  pub free : AreFree m (base_in slots (turn_of slots m)) next slots
  pub enough : next + least ≤ slots

-- The area in use stays free from a slot on that is behind all pages and one slot for each Fault, whichever area that
-- is.
abbrev pub KeepsFree : ℕ → ℕ → FlashState → FlashState → Type 0
KeepsFree pages slots old new = (n : ℕ) → pages + (new.faults - old.faults) ≤ n
    → AreFree old.words (base_in slots (turn_of slots old.words)) n slots
    → AreFree new.words (base_in slots (turn_of slots new.words)) n slots

-- The area in use stays free from a slot on that is behind all pages and the slots that a copy may pass over, whichever
-- area that is, however often the flash fails.
abbrev pub KeepsRoom : ℕ → ℕ → List ℕ → List ℕ → Type 0
KeepsRoom pages slots m after = (n : ℕ) → pages + SPARES ≤ n
    → AreFree m (base_in slots (turn_of slots m)) n slots
    → AreFree after (base_in slots (turn_of slots after)) n slots

-- Where the area in use is free from a slot on, it stays so, also if the turn passes.
abbrev pub KeepsHome : ℕ → List ℕ → List ℕ → Type 0
KeepsHome slots m after = (n : ℕ) → AreFree m (base_in slots (turn_of slots m)) n slots
    → AreFree after (base_in slots (turn_of slots m)) n slots

-- The area in use is the same.
abbrev pub StaysInArea : ℕ → List ℕ → List ℕ → Type 0
StaysInArea slots m after = base_in slots (turn_of slots after) ≡ base_in slots (turn_of slots m)

-- More slots are free than a move begins at: the log knows them, or has yet to look for the pages.
abbrev pub IsBeforeMove : ℕ → ℕ → ℕ → ℕ → Bool → List ℕ → Type 0
IsBeforeMove pages slots sectors free fresh m = (lead_of pages sectors < free)
    ⊎ ((fresh ≡ true) × HasFreeSlots slots (lead_of pages sectors + 1) m)

-- A write copies no page to the other area: it begins an erase, or comes before a move.
abbrev pub CopiesNoPage : ℕ → ℕ → ℕ → LogState → LogState → Type 0
CopiesNoPage pages slots sectors old new = (old.flash.erases < new.flash.erases)
    ⊎ IsBeforeMove pages slots sectors old.free old.fresh old.raw

-- The same of the flash and its place.
abbrev pub CopiesNoPageAt : {T : Type 0} → ℕ → ℕ → ℕ → FlashState → PageMap T → FlashState → Type 0
CopiesNoPageAt pages slots sectors old p new = (old.erases < new.erases)
    ⊎ IsBeforeMove pages slots sectors (free_slots slots p) (is_fresh p) old.words

-- The copies in the other area stay as they were, and take so many slots more.
abbrev pub StaysCopied : ℕ → ℕ → List ℕ → List ℕ → ℕ → ℕ → ℕ → ℕ → Type 0
StaysCopied pages slots m after turn page next behind = (copied : ℕ) → copied ≤ page
    → HasCopies pages slots m (words_of pages slots m) (base_in slots turn) (spare_in slots turn) copied next 0
    → HasCopies pages slots after (words_of pages slots after) (base_in slots turn)
    (spare_in slots turn) copied behind 0

-- A renewal without a move that is under way: each area is erased once, and the witness, and each page copied once.
pub record RenewsOnly (pages sectors : ℕ) (old new : FlashState) : Type 0 where
  pub work : Costs (2 * pages + 5 + 2 * sectors) 2 old new
  pub erases : new.erases ≤ old.erases + 2 * sectors + 1

-- A step is taken: one less is left, or the pages have moved, and more slots are free than a move begins at.
pub record EndsStep {T : Type 0} (pages slots sectors : ℕ) (p q : PageMap T) : Type 0 where
  pub fewer : ((steps_left pages sectors q + 1 ≡ steps_left pages sectors p) × (q.next ≡ p.next))
      ⊎ (q.next + lead_of pages sectors < slots)
