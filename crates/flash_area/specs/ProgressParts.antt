-- What the search for a move finds in the two areas.
use Rattle.std.specs.Prelude.{◌≡◌, ◌≢◌, ◌⊎◌, ◌<◌, ◌≤◌, ◌+◌, ◌-◌, ◌*◌, ℕ, List, slice_index}
use Rattle.flash_device.specs.declared.flash.TheConstants.{BLANK}
use Rattle.flash_device.specs.declared.layout.TheConstants.{STEP_PAGES}
use Rattle.flash_device.specs.FlashBlocks.{steps_of}
use Rattle.flash_device.specs.FlashCalls.{AreFilled}
use Rattle.flash_device.specs.FlashLogs.{page_word, words_of}
use Rattle.flash_area.specs.Spares.{IsSpare, copies_most}

-- The run from one address to another is blank up to this one, and no further.
pub record IsFirstUsed (m : List ℕ) (from end at : ℕ) : Type 0 where
  pub least : from ≤ at
  pub within : at ≤ end
  pub blank : AreFilled m from (at - from) BLANK
  pub all : (k : ℕ) → k ≤ end → AreFilled m from (k - from) BLANK → k ≤ at

-- So many sectors from the first one on are blank, and no more.
pub record IsBlankCount (sectors : ℕ) (start : ℕ → ℕ) (m : List ℕ) (first n : ℕ) : Type 0 where
  pub within : n ≤ sectors
  pub blank : AreFilled m (start first) (start (first + n) - start first) BLANK
  pub all : (e : ℕ) → e ≤ sectors → AreFilled m (start first) (start (first + e) - start first) BLANK → e ≤ n

-- A page reads the same in two areas.
pub record ReadsSame (slots : ℕ) (m : List ℕ) (from to page : ℕ) : Type 0 where
  pub each : (k : ℕ) → k < 16 → page_word m to slots page k ≡ page_word m from slots page k

-- The pages from one on up to the nth read the same in two areas, and that one doesn't, if there is one.
pub record IsSameCount (pages slots : ℕ) (m : List ℕ) (from to first n : ℕ) : Type 0 where
  pub least : first ≤ n
  pub within : n ≤ pages
  pub same : (p : ℕ) → first ≤ p → p < n → ReadsSame slots m from to p
  pub differs : n < pages → ¬ ReadsSame slots m from to n

-- The pages of so many steps but for one at most read the same in two areas.
abbrev pub AllButOne : ℕ → List ℕ → ℕ → ℕ → ℕ → ℕ → Type 0
AllButOne slots m from to copied older = (p : ℕ) → p < STEP_PAGES * copied → p + 1 ≢ older
    → ReadsSame slots m from to p

-- So many steps have copied pages, and no more. If a copy is older, each count that comes as far names the same one.
pub record IsCopyCount (pages slots : ℕ) (m : List ℕ) (from to copied older : ℕ) : Type 0 where
  pub most : copied < steps_of pages
  pub few : older ≤ STEP_PAGES * copied
  pub same : AllButOne slots m from to copied older
  pub all : (c o : ℕ) → c < steps_of pages → AllButOne slots m from to c o → c ≤ copied
  pub same_older : (c o : ℕ) → copied ≤ c → AllButOne slots m from to c o → (older ≡ 0) ⊎ (older ≡ o)

-- The number behind the last page that only the second table has.
pub record IsPagesEnd (pages : ℕ) (table other : List ℕ) (end : ℕ) : Type 0 where
  pub none : (p : ℕ) → end ≤ p → p < pages → slice_index table p ≡ 0 → slice_index other p ≡ 0
  pub all : (n : ℕ) → ((p : ℕ) → n ≤ p → p < pages → slice_index table p ≡ 0 → slice_index other p ≡ 0) → end ≤ n

-- The other area has the copies of so many steps, and by what the flash holds of no more, nor in fewer slots. If a copy
-- is older, each progress that comes as far names the same one.
pub record IsBestCopies (pages slots sectors : ℕ) (start : ℕ → ℕ) (m : List ℕ) (turn extra copied behind older : ℕ)
    : Type 0 where
  pub spare : IsSpare pages slots sectors start m (words_of pages slots m) turn sectors copied behind older
  pub few : behind ≤ copies_most copied extra
  pub best : (c b o : ℕ) → IsSpare pages slots sectors start m (words_of pages slots m) turn sectors c b o
      → (c ≤ copied) × (behind ≤ b)
  pub same_older : (c b o : ℕ) → IsSpare pages slots sectors start m (words_of pages slots m) turn sectors c b o
      → copied ≤ c → (older ≡ 0) ⊎ (older ≡ o)

-- The other area is closed, has a later page that the area in use lacks, or has its copies in more slots than in pace.
abbrev pub HasNoCopies : ℕ → ℕ → ℕ → (ℕ → ℕ) → List ℕ → ℕ → ℕ → Type 0
HasNoCopies pages slots sectors start m turn extra = (c b o : ℕ)
    → IsSpare pages slots sectors start m (words_of pages slots m) turn sectors c b o → b ≤ copies_most c extra → ⊥
