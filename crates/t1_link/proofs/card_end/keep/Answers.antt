-- What fits is what the limit leaves.
use Rattle.std.proofs.Common.{◌≡◌, ℕ, ◌+◌, min, List, ◌++◌, length, take, sym, ap, ◌∙◌, arith, rules}
use Rattle.std.proofs.Math.Seq.{take-append-add}
use Rattle.std.proofs.lemmas.Grind.{elements, same_number_lists}
use Rattle.t1_link.proofs.card_end.keep.Goals as goal

take-min : (n : ℕ) (xs : List ℕ) → take (min n (length xs)) xs ≡ take n xs
take-min n xs = same_number_lists _ _ (grind (arith, elements)) (λ k lt. grind (arith, elements))

fits : (xs ys : List ℕ) (room : ℕ) → room + length xs ≡ 262 → take 262 (xs ++ ys) ≡ xs ++ take (min room (length ys)) ys
fits xs ys room e =
    let n : 262 ≡ length xs + room = omega arith in
    ap (λ (n : ℕ). take n (xs ++ ys)) n ∙ take-append-add xs ys room
    ∙ ap (λ (zs : List ℕ). xs ++ zs) (sym (take-min room ys))

pub returns : goal.returns
returns c =
    let e = fits c.args.command.now.items c.args.field.now c.remaining_capacity.result c.remaining_capacity.ensures in
    rw e (search rules)
