-- Scripts: lines with a valid order each, of at most 16,777,216 bytes in all. Lines are those of std's `lines`: each
-- ends with a line feed, optional for the last, and one carriage return before a line feed is dropped.
use Rattle.std.specs.Prelude.{◌≡◌, ◌⊎◌, ℕ, ◌+◌, ◌<◌, ◌≤◌, ◌==◌, true, false, List, [], ◌∷◌, ◌++◌, length, All, Option}
use Rattle.std.specs.Prelude.{Some, None, OnSome, is_some}
use Rattle.std.specs.List.{list_all}
use Rattle.std.specs.Io.KnownBytes.{Consumes, IsAtEnd}
use Rattle.std.specs.Str.Lines.{lines, strip_carriage_return}
use Rattle.bench_lines.specs.declared.reading.TheConstants.{SCRIPT_LIMIT}
use Rattle.bench_lines.specs.declared.reading.LineEnd.{LineEnd}
use Rattle.bench_lines.specs.declared.reading.LineEnd.TheVariants.{LineFeed, EndOfScript}
use Rattle.bench_lines.specs.declared.reading.LinePart.{LinePart}
use Rattle.bench_lines.specs.declared.reading.LinePart.TheVariants.{End, Begun, LineFeed as FedPart}
use Rattle.bench_lines.specs.declared.order.TheConstants.{LINE_LIMIT}
use Rattle.bench_lines.specs.Orders.{order_of}

-- each of these lines has an order
abbrev pub AreOrders : List (List ℕ) → Type 0
AreOrders ls = list_all (λ line. is_some (order_of line)) ls ≡ true

-- a script that can run to its end
pub record IsScript (script : List ℕ) : Type 0 where
  pub orders : AreOrders (lines script)
  pub size : length script ≤ SCRIPT_LIMIT

-- the bytes read so far end a line, with a line feed or with the script
abbrev pub EndsLine : List ℕ → List ℕ → Type 0
EndsLine seen rest = ((front : List ℕ) × (seen ≡ front ++ 10 ∷ [])) ⊎ (rest ≡ [])

-- too many bytes for a line, even if a line feed follows
abbrev pub IsTooLong : List ℕ → Type 0
IsTooLong bytes = LINE_LIMIT < length (strip_carriage_return bytes)

-- The bytes read so far contain these good lines and then a bad one, which ends there and has no order, or is too long.
abbrev pub ShowsBad : List ℕ → List ℕ → List (List ℕ) → Type 0
ShowsBad seen rest before = (bad : List ℕ) × (lines seen ≡ before ++ bad ∷ [])
    × ((EndsLine seen rest × (order_of bad ≡ None)) ⊎ IsTooLong bad)

-- Line n, counted from 1, is the first without a valid order, or the first that is too long. The first 16,777,216 bytes
-- of the script show it.
pub record FailsAtLine (script : List ℕ) (n : ℕ) : Type 0 where
  pub before : List (List ℕ)
  pub line : List ℕ
  pub after : List (List ℕ)
  pub all : lines script ≡ before ++ line ∷ after
  pub number : length before + 1 ≡ n
  pub orders : AreOrders before
  pub bad : order_of line ≡ None
  pub seen : List ℕ
  pub rest : List ℕ
  pub parts : script ≡ seen ++ rest
  pub shows : ShowsBad seen rest before
  pub within : length seen ≤ SCRIPT_LIMIT

-- A statement about a script and its unread rest, if its bytes are known.
abbrev pub WhereKnown : Option (List ℕ) → Option (List ℕ) → (List ℕ → List ℕ → Type 0) → Type 0
WhereKnown None left holds = Unit {0}
WhereKnown (Some script) None holds = ⊥
WhereKnown (Some script) (Some left) holds = holds script left

-- bytes without a line feed
abbrev pub IsInLine : List ℕ → Type 0
IsInLine bytes = All (λ b. (b == 10) ≡ false) bytes

-- a line that was read: up to a line feed, without one carriage return before it; or the rest, which has no line feed
abbrev pub TakesLine : Option (List ℕ) → Option (List ℕ) → List ℕ → LineEnd → Type 0
TakesLine old new line LineFeed = (bytes : List ℕ) × Consumes old new (bytes ++ 10 ∷ []) × IsInLine bytes
    × (line ≡ strip_carriage_return bytes)
TakesLine old new line EndOfScript = Consumes old new line × OnSome old (IsAtEnd new) × IsInLine line

-- the counter grew by the number of bytes read
abbrev pub CountsTaken : Option (List ℕ) → Option (List ℕ) → ℕ → ℕ → Type 0
CountsTaken None new before after = Unit {0}
CountsTaken (Some xs) None before after = ⊥
CountsTaken (Some xs) (Some ys) before after = length xs + before ≡ length ys + after

-- too many bytes for a line were read and counted, without a line feed
abbrev pub TakesTooMuch : Option (List ℕ) → Option (List ℕ) → ℕ → ℕ → Type 0
TakesTooMuch old new before after =
    (bytes : List ℕ) × Consumes old new bytes × IsInLine bytes × IsTooLong bytes × CountsTaken old new before after

-- bytes of a line were read and counted, without a line feed, and not too many
abbrev pub TakesInto : Option (List ℕ) → Option (List ℕ) → ℕ → ℕ → Type 0
TakesInto old new before after =
    (bytes : List ℕ) × Consumes old new bytes × IsInLine bytes × (IsTooLong bytes → ⊥)
    × CountsTaken old new before after

-- the number of bytes of a part of a line
abbrev pub part_size : LinePart → ℕ
part_size End = 0
part_size (Begun size) = size
part_size (FedPart size) = size

-- a part of a line was read and appended to the line: nothing at the end; bytes without a line feed; or
-- bytes up to the first line feed, which isn't appended
abbrev pub TakesPart : Option (List ℕ) → Option (List ℕ) → List ℕ → List ℕ → LinePart → Type 0
TakesPart old new before after End = Consumes old new [] × OnSome old (IsAtEnd new) × (after ≡ before)
TakesPart old new before after (Begun size) =
    (bytes : List ℕ) × Consumes old new bytes × IsInLine bytes × (after ≡ before ++ bytes)
    × (length bytes ≡ size) × (1 ≤ size)
TakesPart old new before after (FedPart size) =
    (bytes : List ℕ) × Consumes old new (bytes ++ 10 ∷ []) × IsInLine bytes × (after ≡ before ++ bytes)
    × (length bytes + 1 ≡ size)
