-- Where the pages of a flash with small sectors are, as working memory knows it.
use Rattle.std.specs.Prelude.{◌≡◌, ◌⊎◌, ◌<◌, ◌≤◌, ◌+◌, ℕ, true, false, List}
use Rattle.flash_device.specs.FlashLogs.{base_in, turn_of}
use Rattle.flash_device.specs.PageTables.{IsPageTable, AreFree}
use Rattle.flash_moves.specs.declared.place.PageMap.{PageMap}
use Rattle.flash_moves.specs.Rings.{IsRing}
use Rattle.sector_moves.specs.SectorSpares.{HasRoomForSteps, IsSectorSpare, sector_lead, sector_steps}

-- the steps that are left, by the place
abbrev pub place_steps : {T : Type 0} → ℕ → ℕ → PageMap T → ℕ
place_steps pages sectors p = sector_steps pages sectors p.turn p.erased p.copied

-- The place is that of the flash, by the entries of its table. Once pages are copied, each write takes a step.
pub record IsSectorPlace {T : Type 0} (entries : T → List ℕ) (pages slots sectors : ℕ) (start : ℕ → ℕ) (m : List ℕ)
    (p : PageMap T) : Type 0 where
  pub turn : p.turn ≡ turn_of slots m
  pub small : p.turn < 3
  pub index : IsPageTable pages m (base_in slots p.turn) slots (entries p.table)
  pub free : AreFree m (base_in slots p.turn) p.next slots
  pub spare : IsSectorSpare pages slots sectors start m p.turn p.erased p.copied p.older
  pub goes_on : 0 < p.copied → slots ≤ p.next + sector_lead sectors

-- Of the slots from one on, none that is free with all behind it lies before this slot.
abbrev pub IsFirstFrom : ℕ → List ℕ → ℕ → ℕ → ℕ → Type 0
IsFirstFrom slots m base from next = (s : ℕ) → AreFree m base s slots → from ≤ s → next ≤ s

-- The place is that of the flash, and the area in use has a free slot for each step that is left.
pub record KeepsStep {T : Type 0} (entries : T → List ℕ) (pages slots sectors : ℕ) (start : ℕ → ℕ) (m : List ℕ)
    (p : PageMap T) : Type 0 where
  pub place : IsSectorPlace entries pages slots sectors start m p
  pub room : place_steps pages sectors p + p.next ≤ slots
  pub passed : p.tried ≤ p.next

-- The flash stands for words, and has a free slot for each step that is left. The place is its own where it says so.
pub record IsSectorLog {T : Type 0} (entries : T → List ℕ) (pages slots sectors : ℕ) (start : ℕ → ℕ) (m : List ℕ)
    (p : PageMap T) : Type 0 where
  pub ring : IsRing slots m
  pub known : p.ready ≡ true → KeepsStep entries pages slots sectors start m p
  pub found : p.ready ≡ false → HasRoomForSteps pages slots sectors start m p.tried

-- A step of the move is taken, if one was due: the area in use has a free slot more than steps are left, and all copies
-- are as the pages.
pub record HasTakenStep {T : Type 0} (pages slots sectors : ℕ) (p : PageMap T) : Type 0 where
  pub ready : p.ready ≡ true
  pub older : p.older ≡ 0
  pub room : place_steps pages sectors p + p.next < slots

-- A step is taken: one less is left, or more slots are free than a move begins at.
pub record EndsSectorStep {T : Type 0} (pages slots sectors : ℕ) (p q : PageMap T) : Type 0 where
  pub fewer : ((place_steps pages sectors q + 1 ≤ place_steps pages sectors p) × (q.next ≡ p.next))
      ⊎ (q.next + sector_lead sectors < slots)

-- A step failed, and the move has come as far as before.
pub record StaysAtStep {T : Type 0} (p q : PageMap T) : Type 0 where
  pub ready : q.ready ≡ true
  pub turn : q.turn ≡ p.turn
  pub next : q.next ≡ p.next
  pub erased : q.erased ≡ p.erased
  pub copied : q.copied ≡ p.copied
  pub older : q.older ≡ p.older
