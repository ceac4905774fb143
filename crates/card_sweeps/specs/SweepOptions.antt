-- What the words of a sweep's command line ask for, word by word.
use Rattle.std.specs.Prelude.{◌≡◌, ◌≢◌, ◌+◌, ◌⊎◌, ℕ, Bool, true, false, List, [], ◌∷◌, codes, Option, None, Some}
use Rattle.std.specs.Prelude.{option_map}
use Rattle.std.specs.String.{string_bytes}
use Rattle.card_sweeps.specs.PartTexts.{IsPartText}
use Rattle.card_sweeps.specs.declared.options.Options.{Options}
use Rattle.card_sweeps.specs.declared.options.Reading.{Reading}
use Rattle.card_sweeps.specs.declared.parts.SweepPart.{SweepPart}

-- The options that some words give, and whether the next word is the path of a card.
pub record GivenSweep : Type 0 where
  pub path : Option (List ℕ)
  pub part : SweepPart
  pub path_next : Bool

-- the options that were read so far
abbrev pub sweep_given : Reading → GivenSweep
sweep_given r = record { path = option_map string_bytes r.card; part = r.part; path_next = r.is_path }

-- The effect of a word. A later option replaces an earlier one.
pub record TakesSweepWord (old : GivenSweep) (word : List ℕ) (new : GivenSweep) : Type 0 where
  pub path : old.path_next ≡ true → new ≡ record old { path = Some word; path_next = false }
  pub card : old.path_next ≡ false → word ≡ codes "--card" → new ≡ record old { path_next = true }
  pub part : old.path_next ≡ false → word ≢ codes "--card"
      → IsPartText word (new.part.index + 1) new.part.of × (new ≡ record old { part = new.part })

-- a word that is neither a path nor an option
pub record IsUnknownWord (old : GivenSweep) (word : List ℕ) : Type 0 where
  pub option : old.path_next ≡ false
  pub card : word ≢ codes "--card"
  pub part : (number of : ℕ) → IsPartText word number of → ⊥

-- the first options: the factory card, and the whole sweep
pub record IsWholeSweep (given : GivenSweep) : Type 0 where
  pub path : given.path ≡ None
  pub index : given.part.index ≡ 0
  pub of : given.part.of ≡ 1
  pub path_next : given.path_next ≡ false

-- What the options ask for behind the last word. A last `--card` has no path, and is refused.
abbrev pub EndsSweepWords : GivenSweep → Option Options → Type 0
EndsSweepWords given None = given.path_next ≡ true
EndsSweepWords given (Some options) = (given.path_next ≡ false)
    × (given.path ≡ option_map string_bytes options.card) × (given.part ≡ options.part)

-- What the words ask for, in order. The first unknown one refuses all.
unfoldable pub AsksForSweep : GivenSweep → List (List ℕ) → Option Options → Type 0
AsksForSweep given [] asked = EndsSweepWords given asked
AsksForSweep given (word ∷ words) asked = (IsUnknownWord given word × (asked ≡ None))
    ⊎ ((next : GivenSweep) × TakesSweepWord given word next × AsksForSweep next words asked)
