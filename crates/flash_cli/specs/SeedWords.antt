-- What the words of a command line give, if one of them is a seed.
use Rattle.std.specs.Prelude.{◌≡◌, ◌≢◌, ◌<◌, ◌^◌, ◌⊎◌, ℕ, Bool, true, false, List, [], ◌∷◌, codes}
use Rattle.std.specs.Str.Parse.{IsNumeral, digits_value, without_leading_plus}
use Rattle.card_files.specs.CommandLines.{GivenOptions, IsAskedBy, TakesWords, no_options}
use Rattle.card_files.specs.declared.options.Asked.{Asked}
use Rattle.card_files.specs.declared.options.Asked.TheVariants as asked

-- A text is this seed: decimal digits for a number of 64 bits, after an optional plus.
pub record IsSeedText (text : List ℕ) (seed : ℕ) : Type 0 where
  pub numeral : IsNumeral 10 (without_leading_plus text)
  pub value : digits_value 10 (without_leading_plus text) ≡ seed
  pub within : seed < 2 ^ 64

-- Options ask for this.
abbrev pub OptionsAskFor : List (List ℕ) → Asked → Type 0
OptionsAskFor options wanted = (given : GivenOptions) × TakesWords no_options options given × IsAskedBy given wanted

-- The text is a seed, and the options ask for what is wanted. For the card in memory there are no options.
pub record GiveSeed (text : List ℕ) (options : List (List ℕ)) (seed : ℕ) (wanted : Asked) : Type 0 where
  pub seed_is : IsSeedText text seed
  pub asks : OptionsAskFor options wanted
  pub alone : wanted ≡ asked.Factory → options ≡ []

-- The text is no seed, or options ask for the card in memory.
abbrev pub GiveNoSeed : List ℕ → List (List ℕ) → Type 0
GiveNoSeed text options =
    ((seed : ℕ) → IsSeedText text seed → ⊥) ⊎ ((options ≢ []) × OptionsAskFor options asked.Factory)

-- the words of a command line that asks for small sectors, or for none
abbrev pub words_for : Bool → List ℕ → List ℕ → List (List ℕ) → List (List ℕ)
words_for true name text options = name ∷ codes "--small-sectors" ∷ text ∷ options
words_for false name text options = name ∷ text ∷ options

-- The words are the program's name, an option for small sectors if they are asked for, a seed, and other options.
pub record GiveFlash (words : List (List ℕ)) (small : Bool) (seed : ℕ) (wanted : Asked) : Type 0 where
  pub name : List ℕ
  pub text : List ℕ
  pub options : List (List ℕ)
  pub parts : words ≡ words_for small name text options
  pub gives : GiveSeed text options seed wanted

-- However the words are taken, they give no seed.
abbrev pub GiveNoFlash : List (List ℕ) → Type 0
GiveNoFlash words = (small : Bool) (name text : List ℕ) (options : List (List ℕ))
    → words ≡ words_for small name text options → GiveNoSeed text options
