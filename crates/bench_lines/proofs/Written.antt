-- Bytes written one part after another.
use Rattle.std.specs.Prelude.{◌≡◌, ◌+◌, ◌-◌, ◌≤◌, ℕ, length, List, take, drop, Option}
use Rattle.std.proofs.Common.{arith, length-drop, subst}
use Rattle.std.proofs.KnownBytes.{Appends-trans}
use Rattle.std.proofs.Math.Seq.{take-add}
use Rattle.std.proofs.lemmas.List.{take_all}
use Rattle.std.specs.Io.KnownBytes.{Appends}

-- the next part of a line, by a write of all that is left
pub appends_part : (a b c : Option (List ℕ)) (n m : ℕ) (line : List ℕ) → Appends a b (take n line)
    → Appends b c (take m (take (length line - n) (drop n line))) → Appends a c (take (n + m) line)
appends_part a b c n m line first second =
    let size : length (drop n line) ≡ length line - n = length-drop n line in
    let within : length (drop n line) ≤ length line - n = omega (arith, size) in
    let rest : take (length line - n) (drop n line) ≡ drop n line = take_all (length line - n) (drop n line) within in
    rw (take-add n m line) (Appends-trans a b c _ _ first (subst (λ (l : List ℕ). Appends b c (take m l)) rest second))
