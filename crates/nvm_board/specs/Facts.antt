-- The facts of a board, which contracts use, and the effect of its calls on power and faults.
use Rattle.std.specs.Prelude.{◌≡◌, ◌⊎◌, ℕ, ◌≤◌, ◌<◌, ◌+◌, ◌*◌, ◌/◌, ◌^◌, Bool, true, false, List}
use Rattle.std.specs.Prelude.{replicate, slice_index}
use Rattle.std.specs.Prelude.{slice_set, length, All, Contains, Option, None, Result, IsOk, IsErrOf}
use Rattle.nvm_board.specs.declared.board.Arm.{Arm}
use Rattle.nvm_board.specs.declared.board.DeviceErr.{DeviceErr}
use Rattle.nvm_board.specs.declared.board.DeviceErr.TheVariants.{PowerLost, Fault}
use Rattle.nvm_board.specs.declared.board.TheConstants.{COUNT_END, PAGE_WORDS, LEAST_PAGES, MOST_PAGES, SECRETS}
use Rattle.nvm_board.specs.History.{Log}

-- The facts of a board: all that contracts say about it. `dark` is true if power is off. `due` is the number of cuts
-- that may still come. `pending` is the cut or fault that is set. `masks` is true if a cut leaves the words of its
-- mask. `log` has the last device writes, on a board that logs them. The other fields are counts; `compares` and
-- `matches` have one per secret.
pub record Facts : Type 0 where
  pub words : List ℕ
  pub dark : Bool
  pub due : ℕ
  pub pending : Option Arm
  pub masks : Bool
  pub faults : ℕ
  pub cuts : ℕ
  pub writes : ℕ
  pub compares : List ℕ
  pub matches : List ℕ
  pub log : Option Log

-- The address of a word by its page and its index in the page.
abbrev pub address : ℕ → ℕ → ℕ
address page first = PAGE_WORDS * page + first

-- The number of pages of a memory.
abbrev pub pages_of : List ℕ → ℕ
pages_of words = length words / PAGE_WORDS

-- A memory is 1,024 to 4,096 whole pages.
pub record IsMemory (words : List ℕ) : Type 0 where
  pub whole : length words ≡ PAGE_WORDS * pages_of words
  pub least : LEAST_PAGES ≤ pages_of words
  pub most : pages_of words ≤ MOST_PAGES

-- A new board with this number of pages: powered, all words and counts 0, no cut set, no log. A cut leaves the words
-- of its mask.
abbrev pub new_board : ℕ → Facts
new_board pages = record {
  words = replicate (PAGE_WORDS * pages) 0;
  dark = false;
  due = 0;
  pending = None;
  masks = true;
  faults = 0;
  cuts = 0;
  writes = 0;
  compares = replicate SECRETS 0;
  matches = replicate SECRETS 0;
  log = None;
}

-- Each number is a word of 32 bits.
abbrev pub AreWords : List ℕ → Type 0
AreWords words = All (λ w. w < 2 ^ 32) words

-- No count is past its end.
pub record CountsFit (f : Facts) : Type 0 where
  pub faults : f.faults ≤ COUNT_END
  pub cuts : f.cuts ≤ COUNT_END
  pub writes : f.writes ≤ COUNT_END
  pub compares : All (λ n. n ≤ COUNT_END) f.compares
  pub matches : All (λ n. n ≤ COUNT_END) f.matches

-- The invariant of every board. It has whole pages of 32-bit words and a count of comparisons and of matches for each
-- secret. No count is past its end, and a powered board can count one more cut.
pub record IsBoard (f : Facts) : Type 0 where
  pub sized : IsMemory f.words
  pub words_fit : AreWords f.words
  pub counted : (length f.compares ≡ SECRETS) × (length f.matches ≡ SECRETS)
  pub counts_fit : CountsFit f
  pub may_go : f.dark ≡ false → f.cuts < COUNT_END

-- A count other than that of the cuts is at its end.
abbrev pub IsWorn : Facts → Type 0
IsWorn f = (f.faults ≡ COUNT_END) ⊎ (f.writes ≡ COUNT_END) ⊎ Contains f.compares COUNT_END
    ⊎ Contains f.matches COUNT_END

-- Some count is at its end.
abbrev pub IsWornOut : Facts → Type 0
IsWornOut f = (f.cuts ≡ COUNT_END) ⊎ IsWorn f

-- The board was and stays powered, without a cut and without a fault.
pub record Steady (old new : Facts) : Type 0 where
  pub was_lit : old.dark ≡ false
  pub lit : new.dark ≡ false
  pub faults : new.faults ≡ old.faults
  pub cuts : new.cuts ≡ old.cuts
  pub due : new.due ≡ old.due

-- A powered board loses power: a cut was due, or a count is at its end.
pub record GoesDark (old new : Facts) : Type 0 where
  pub was_lit : old.dark ≡ false
  pub dark : new.dark ≡ true
  pub faults : new.faults ≡ old.faults
  pub cuts : new.cuts ≡ old.cuts + 1
  pub due : (old.due ≡ new.due + 1) ⊎ (IsWorn new × (new.due ≡ old.due))

-- A powered board has a fault, and stays powered.
pub record Fails (old new : Facts) : Type 0 where
  pub was_lit : old.dark ≡ false
  pub lit : new.dark ≡ false
  pub faults : new.faults ≡ old.faults + 1
  pub cuts : new.cuts ≡ old.cuts
  pub due : new.due ≡ old.due

-- The effect of a call on power and faults, by its result. A board without power returns PowerLost and is unchanged.
pub record Answered {T : Type 0} (old new : Facts) (result : Result T DeviceErr) : Type 0 where
  pub ok : IsOk result → Steady old new
  pub lost : IsErrOf result PowerLost → GoesDark old new ⊎ ((old.dark ≡ true) × (new ≡ old))
  pub fault : IsErrOf result Fault → Fails old new

-- If a call loses power that was on, a cut was due, or a count was at its end before the call.
unfoldable pub IsLostRightly : {T : Type 0} → Facts → Facts → Result T DeviceErr → Type 0
IsLostRightly old new result = IsErrOf result PowerLost → old.dark ≡ false → (old.due ≡ new.due + 1) ⊎ IsWorn old

-- The counts with one more for a secret.
abbrev pub raised : List ℕ → ℕ → List ℕ
raised counts secret = slice_set counts secret (slice_index counts secret + 1)

-- The counts with at most one more for a secret.
abbrev pub RisesAt : List ℕ → ℕ → List ℕ → Type 0
RisesAt old secret new = (new ≡ old) ⊎ (new ≡ raised old secret)
