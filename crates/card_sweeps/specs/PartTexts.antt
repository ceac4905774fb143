-- The parts of a sweep: the texts that name them, and their cuts.
use Rattle.std.specs.Prelude.{◌≡◌, ◌≤◌, ◌<◌, ◌==◌, ◌+◌, ◌%◌, ◌^◌, ℕ, Bool, List, length}
use Rattle.std.specs.List.{after_first, before_first, position_or_len}
use Rattle.std.specs.Str.Parse.{IsNumeral, digits_value, without_leading_plus}
use Rattle.card_sweeps.specs.declared.parts.SweepPart.{SweepPart}

-- true for a slash
abbrev pub is_slash : ℕ → Bool
is_slash byte = byte == 47

-- decimal digits for a number of 32 bits, after an optional plus
pub record IsNumberText (text : List ℕ) (number : ℕ) : Type 0 where
  pub digits : IsNumeral 10 (without_leading_plus text)
  pub value : digits_value 10 (without_leading_plus text) ≡ number
  pub within : number < 2 ^ 32

-- part `number` of `of`, counted from 1, as in "2/4"
pub record IsPartText (text : List ℕ) (number of : ℕ) : Type 0 where
  pub slash : position_or_len is_slash text < length text
  pub number_is : IsNumberText (before_first is_slash text) number
  pub of_is : IsNumberText (after_first is_slash text) of
  pub least : 1 ≤ number
  pub most : number ≤ of

-- A cut is of a part. The cuts are dealt out in turn, by write and mask.
abbrev pub IsOfPart : SweepPart → ℕ → ℕ → Type 0
IsOfPart part write i = (write + i) % part.of ≡ part.index

-- the first part has the kinds of the device writes too
abbrev pub IsFirstPart : SweepPart → Type 0
IsFirstPart part = part.index ≡ 0
