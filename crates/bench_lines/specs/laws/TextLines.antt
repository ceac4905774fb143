-- The lines of a text, and what an empty line and one of too many bytes ask for.
use Rattle.std.proofs.Common.{◌≡◌, ◌<◌, ◌≤◌, ◌+◌, ◌-◌, ◌==◌, ◌&&◌, ℕ, Bool, true, false, cond, nat_lt}
use Rattle.std.proofs.Common.{List, [], ◌∷◌, ◌++◌, length, take, Some, None, is_some, slice_index}
use Rattle.std.proofs.Common.{refl, sym, ◌∙◌, ap, ap₂, subst, arith, append-nil, length-append, length-take}
use Rattle.std.proofs.Common.{if◌then◌else◌}
use Rattle.std.specs.List.{slice_split, onto_first}
use Rattle.std.specs.Str.Lines.{lines, lines_of_parts, strip_carriage_return}
use Rattle.std.proofs.lemmas.List.Splits.{slice_split_none, slice_split_at, slice_split-cons_no}
use Rattle.std.proofs.lemmas.List.Elements.{All-head, All-tail}
use Rattle.std.proofs.lemmas.List.Folds.{list_all-append}
use Rattle.std.proofs.lemmas.Bool.{lt-ltb, ne_eqb}
use Rattle.bench_lines.specs.declared.order.TheConstants.{LINE_LIMIT}
use Rattle.bench_lines.specs.Orders.{Nothing, order_of}
use Rattle.bench_lines.specs.Scripts.{AreOrders, IsInLine, IsTooLong}

-- whether a byte is a line feed
abbrev ends : ℕ → Bool
ends b = b == 10

-- the first of some parts and the others
abbrev Parts : List (List ℕ) → Type 0
Parts parts = (x : List ℕ) × (xs : List (List ℕ)) × (parts ≡ x ∷ xs)

some_first : (b : Bool) (n : ℕ) (parts : List (List ℕ)) → Parts (cond b ([] ∷ parts) (onto_first n parts))
some_first true n parts = ([], parts, refl)
some_first false n [] = (n ∷ [], [], refl)
some_first false n (part ∷ parts) = (n ∷ part, parts, refl)

-- the parts of a text are at least one
parts_some : (text : List ℕ) → Parts (slice_split ends text)
parts_some [] = ([], [], refl)
parts_some (b ∷ text) = some_first (ends b) b (slice_split ends text)

-- a line that ends with a line feed
pub lines-line : (bytes rest : List ℕ) → IsInLine bytes
    → lines (bytes ++ 10 ∷ rest) ≡ strip_carriage_return bytes ∷ lines rest
lines-line bytes rest inside =
    let some = parts_some rest in
    ap lines_of_parts (slice_split_at ends bytes 10 rest inside refl
    ∙ ap (λ (parts : List (List ℕ)). bytes ∷ parts) some.2)
    ∙ sym (ap (λ (parts : List (List ℕ)). strip_carriage_return bytes ∷ lines_of_parts parts) some.2)

-- the last line, where it has no line feed
pub lines-last : (line : List ℕ) → IsInLine line → lines line ≡ (if length line == 0 then [] else line ∷ [])
lines-last line inside = ap lines_of_parts (slice_split_none ends line inside)

-- bytes with no line feed go before the first part
split-in_line : (bytes more part : List ℕ) (parts : List (List ℕ)) → IsInLine bytes
    → slice_split ends more ≡ part ∷ parts → slice_split ends (bytes ++ more) ≡ (bytes ++ part) ∷ parts
split-in_line [] more part parts inside is = is
split-in_line (b ∷ bytes) more part parts inside is =
    slice_split-cons_no ends b (bytes ++ more) (All-head (λ b. (b == 10) ≡ false) b bytes inside)
    ∙ ap (onto_first b) (split-in_line bytes more part parts (All-tail (λ b. (b == 10) ≡ false) b bytes inside) is)

strip-shorter : (bytes : List ℕ) → length bytes ≤ length (strip_carriage_return bytes) + 1
strip-shorter bytes = by (slice_index bytes (length bytes - 1) == 13)
  where
    by : (drops : Bool) → length bytes ≤ length (cond drops (take (length bytes - 1) bytes) bytes) + 1
    by true = let t = length-take (length bytes - 1) bytes in omega (arith, t)
    by false = omega arith

-- stripped, a line has no more bytes
pub strip-within : (bytes : List ℕ) → length (strip_carriage_return bytes) ≤ length bytes
strip-within bytes = by (slice_index bytes (length bytes - 1) == 13)
  where
    by : (drops : Bool) → length (cond drops (take (length bytes - 1) bytes) bytes) ≤ length bytes
    by true = let t = length-take (length bytes - 1) bytes in omega (arith, t)
    by false = omega arith

-- a line that is too long is so whatever follows in it
long-more : (bytes more : List ℕ) → IsTooLong bytes → IsTooLong (bytes ++ more)
long-more bytes [] long = subst IsTooLong (sym (append-nil bytes)) long
long-more bytes (b ∷ more) long =
    let sum = length-append bytes (b ∷ more) in
    let whole = strip-within bytes in
    let stripped = strip-shorter (bytes ++ b ∷ more) in
    omega (arith, sum, whole, stripped, long)

-- a first line of too many bytes
abbrev pub IsLong : List (List ℕ) → Type 0
IsLong ls = (line : List ℕ) × (others : List (List ℕ)) × (ls ≡ line ∷ others) × (LINE_LIMIT < length line)

long_line : (first : List ℕ) (parts : List (List ℕ)) → IsTooLong first → IsLong (lines_of_parts (first ∷ parts))
long_line first [] long =
    let whole = strip-within first in
    let some : (length first == 0) ≡ false =
    ne_eqb (length first) 0 (λ none. let z : ⊥ = omega (arith, whole, long, none) in z) in
    (first, [], ap (λ (b : Bool). cond b [] (first ∷ [])) some, omega (arith, whole, long))
long_line first (part ∷ parts) long = (strip_carriage_return first, lines_of_parts (part ∷ parts), refl, long)

pub lines-long : (bytes more : List ℕ) → IsInLine bytes → IsTooLong bytes → IsLong (lines (bytes ++ more))
lines-long bytes more inside long =
    let some = parts_some more in
    subst IsLong (sym (ap lines_of_parts (split-in_line bytes more some.0 some.1 inside some.2)))
    (long_line (bytes ++ some.0) some.1 (long-more bytes some.0 long))

-- a line of too many bytes asks for nothing
pub order_of-long : (line : List ℕ) → LINE_LIMIT < length line → order_of line ≡ None
unfolding order_of
order_of-long line long = let over : nat_lt LINE_LIMIT (length line) ≡ true =
    lt-ltb LINE_LIMIT (length line) long in rw over refl

-- an empty line asks for nothing to be done
pub order_of-none : order_of [] ≡ Some Nothing
unfolding order_of
order_of-none = refl

pub order_of-empty : is_some (order_of []) ≡ true
order_of-empty = ap is_some order_of-none

-- a list of lines that goes on by one
pub orders-more : (ls : List (List ℕ)) (line : List ℕ) → AreOrders ls → is_some (order_of line) ≡ true
    → AreOrders (ls ++ line ∷ [])
orders-more ls line all one = list_all-append (λ l. is_some (order_of l)) ls (line ∷ [])
    ∙ ap₂ (λ (a b : Bool). a && (b && true)) all one
