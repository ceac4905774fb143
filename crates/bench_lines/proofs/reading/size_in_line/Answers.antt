use Rattle.std.proofs.Common.{◌≡◌, ◌<◌, ◌≤◌, ◌+◌, ◌==◌, ℕ, zero, suc, true, false, List, length, slice_index}
use Rattle.std.proofs.Common.{take, arith, subst, sym, ◌∙◌}
use Rattle.std.proofs.lemmas.Bool.{eqb-true, false_from_ne_true}
use Rattle.std.proofs.lemmas.List.Elements.{All-more, All-nil}
use Rattle.bench_lines.specs.Scripts.{IsInLine}
use Rattle.memchr.specs.Find.{is_byte}
use Rattle.bench_lines.proofs.FirstPlace.{first-given, none-given}
use Rattle.bench_lines.proofs.reading.size_in_line.Goals as goal

-- bytes before the first line feed have none
in-line : (bytes : List ℕ) (size : ℕ) → size ≤ length bytes
    → ((k : ℕ) → k < size → (slice_index bytes k == 10) ≡ true → ⊥) → IsInLine (take size bytes)
in-line bytes zero most none = All-nil (λ (b : ℕ). (b == 10) ≡ false)
in-line bytes (suc n) most none =
    let lt : n < length bytes = omega (arith, most) in
    let one : n + 1 ≡ suc n = omega arith in
    let other = false_from_ne_true (slice_index bytes n == 10) (none n (omega arith)) in
    subst (λ (m : ℕ). IsInLine (take m bytes)) one
    (All-more (λ (b : ℕ). (b == 10) ≡ false) bytes n 0 lt
    (in-line bytes n (omega (arith, most)) (λ k low. none k (omega (arith, low)))) other)

pub returns-in-Some-clause-within : goal.returns-in-Some-clause-within
returns-in-Some-clause-within c =
    let bytes = c.args.bytes.now in
    let found = first-given (is_byte 10) bytes c.in-Some.size _
    (sym c.memchr_iter.ensures.value ∙ c.in-Some.ensures.steps) in
    let high = found.0.high in
    omega (arith, high)

pub returns-in-Some-clause-before : goal.returns-in-Some-clause-before
returns-in-Some-clause-before c =
    let bytes = c.args.bytes.now in
    let found = first-given (is_byte 10) bytes c.in-Some.size _
    (sym c.memchr_iter.ensures.value ∙ c.in-Some.ensures.steps) in
    let high = found.0.high in
    in-line bytes c.in-Some.size (omega (arith, high)) (λ k low. found.0.before k (omega arith) low)

pub returns-in-Some-clause-at : goal.returns-in-Some-clause-at
returns-in-Some-clause-at c = λ lt.
    let bytes = c.args.bytes.now in
    let found = first-given (is_byte 10) bytes c.in-Some.size _
    (sym c.memchr_iter.ensures.value ∙ c.in-Some.ensures.steps) in
    eqb-true (slice_index bytes c.in-Some.size) 10 found.1

pub returns-in-None-clause-before : goal.returns-in-None-clause-before
returns-in-None-clause-before c =
    let bytes = c.args.bytes.now in
    let none = none-given (is_byte 10) bytes (sym c.memchr_iter.ensures.value ∙ c.in-None.ensures.steps.0) in
    in-line bytes (length bytes) (omega arith) (λ k low. none k (omega arith) low)
