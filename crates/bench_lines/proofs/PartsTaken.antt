-- What is taken of the bytes that a reader's buffer shows.
use Rattle.std.proofs.Common.{◌≡◌, ℕ, ◌+◌, ◌<◌, ◌≤◌, List, [], ◌∷◌, ◌++◌, Option, Some, None, IfSome, OnSome}
use Rattle.std.proofs.Common.{length, take, slice_index, arith, sym, ap, subst, ◌∙◌, take-take, length-append}
use Rattle.std.proofs.Common.{length-take}
use Rattle.std.proofs.lemmas.List.{take_more}
use Rattle.std.specs.Io.{StartsWith}
use Rattle.std.specs.Io.BufRead.{DropsConsumable}
use Rattle.std.specs.Io.KnownBytes.{Consumes, IsAtEnd, Keeps}
use Rattle.std.proofs.BufReadLemmas.{Consumes_shown}
use Rattle.bench_lines.specs.Scripts.{CountsTaken, WhereKnown}

-- bytes that were taken are counted
pub counts_of : (old new : Option (List ℕ)) (bytes : List ℕ) (before after : ℕ) → Consumes old new bytes
    → after ≡ before + length bytes → CountsTaken old new before after
counts_of None new bytes before after taken counted = tt
counts_of (Some xs) None bytes before after taken counted = absurd taken
counts_of (Some xs) (Some ys) bytes before after taken counted =
    let sum : length xs ≡ length bytes + length ys = ap length taken ∙ length-append bytes ys in
    omega (arith, sum, counted)

-- a buffer that is empty is the end of what is known
pub at_end_of : (old new : Option (List ℕ)) (shown : List ℕ) → IfSome old (λ xs. length shown ≡ 0 → xs ≡ [])
    → Keeps old new → length shown ≡ 0 → OnSome old (IsAtEnd new)
at_end_of None new shown end kept none = tt
at_end_of (Some xs) None shown end kept none = absurd kept
at_end_of (Some xs) (Some ys) shown end kept none = kept ∙ end none

-- what is left of a line is left of a script
pub left-on : (first now new : Option (List ℕ)) (bytes : List ℕ) → Consumes first now bytes
    → WhereKnown now new (λ script left. left ≡ [] → ⊥) → WhereKnown first new (λ script left. left ≡ [] → ⊥)
left-on None now new bytes taken left = tt
left-on (Some script) None new bytes taken left = absurd taken
left-on (Some script) (Some rest) None bytes taken left = absurd left
left-on (Some script) (Some rest) (Some rest') bytes taken left = left

-- Of the bytes that are shown, the first `most` are looked at, and the first `size` of these are taken.
module _ (old rested new : Option (List ℕ)) (buffered : Option ℕ) (shown : List ℕ) (most size : ℕ)
    (front : IfSome old (λ xs. StartsWith xs shown)) (end : IfSome old (λ xs. length shown ≡ 0 → xs ≡ []))
    (kept : Keeps old rested) (fits : IfSome old (λ xs. IfSome buffered (λ n. length shown ≤ n))) where
  first-of : size ≤ length (take most shown) → take size (take most shown) ≡ take size shown
  first-of within = let seen = length-take most shown in take-take size most shown (omega (arith, within, seen))

  pub taken-of : size ≤ length (take most shown) → DropsConsumable rested new buffered size
      → Consumes old new (take size (take most shown))
  taken-of within drops =
      let seen = length-take most shown in
      subst (Consumes old new) (sym (first-of within))
      (Consumes_shown old rested new buffered shown size (omega (arith, within, seen)) front end kept fits drops).0

  -- and the byte after these too, which is a line feed
  pub taken-fed : size < length (take most shown) → slice_index (take most shown) size ≡ 10
      → DropsConsumable rested new buffered (size + 1) → Consumes old new (take size (take most shown) ++ 10 ∷ [])
  taken-fed within fed drops =
      let seen = length-take most shown in
      let more = take_more (take most shown) size 0 within in
      let all : take (size + 1) (take most shown) ≡ take (size + 1) shown =
      take-take (size + 1) most shown (omega (arith, within, seen)) in
      let last = ap (λ (b : ℕ). take size (take most shown) ++ b ∷ []) fed in
      subst (Consumes old new) (sym all ∙ more ∙ last)
      (Consumes_shown old rested new buffered shown (size + 1) (omega (arith, within, seen))
      front end kept fits drops).0
