use Rattle.std.proofs.Common.{◌≡◌, ◌≢◌, ℕ, List, bit_or, bit_xor, get_or}
use Rattle.std.proofs.Common.{refl, sym, ◌∙◌, ap, ⊎_elim, arith}
use Rattle.std.specs.Int.Bits.{xor_add_and, xor_self}
use Rattle.std.proofs.lemmas.Bool.{cases_eq, eq-eqb, eqb-true}
use Rattle.std.proofs.lemmas.Grind.{same_number_lists}
use Rattle.std.proofs.lemmas.Nat.{and_le_l, and_le_r, le_or_l, le_or_r}
use Rattle.flash_board.proofs.flash_board.are_equal.Goals as goal

-- two numbers that differ in no bit are equal
no_difference : (a b : ℕ) → bit_xor a b ≡ 0 → a ≡ b
no_difference a b none =
    let sum = xor_add_and a b in
    let left = and_le_l a b in
    let right = and_le_r a b in
    omega (arith, none, sum, left, right)

pub loop-k-init : goal.loop-k-init
loop-k-init c = record { same = λ e j lt. absurd (omega (arith, lt)); none = λ e. refl }

pub loop-k-preserved : goal.loop-k-preserved
loop-k-preserved c =
    let xs = c.args.kept.now in
    let ys = c.args.shown.now in
    let k = c.loop-k.k in
    let x = get_or xs k 0 in
    let y = get_or ys k 0 in
    let d = c.loop-k.differences in
    let was = c.loop-k.invariant in record {
      same = λ e j lt.
          let low = le_or_l d (bit_xor x y) in
          let high = le_or_r d (bit_xor x y) in
          let before : d ≡ 0 = omega (arith, e, low) in
          let here : bit_xor x y ≡ 0 = omega (arith, e, high) in
          ⊎_elim
          (λ (is : j ≡ k). ap (λ (i : ℕ). get_or xs i 0) is ∙ no_difference x y here
          ∙ sym (ap (λ (i : ℕ). get_or ys i 0) is))
          (λ (other : j ≢ k). was.same before j (omega (arith, lt, other)))
          (cases_eq j k);
      none = λ e.
          let here : x ≡ y = ap (λ (l : List ℕ). get_or l k 0) e in
          ap (λ (n : ℕ). bit_or n (bit_xor x y)) (was.none e) ∙ ap (λ (n : ℕ). bit_xor x n) (sym here) ∙ xor_self x;
    }

pub returns : goal.returns
returns c =
    let xs = c.args.kept.now in
    let ys = c.args.shown.now in
    let d = c.loop-k.differences in (
      λ is. same_number_lists xs ys (omega arith) (λ j lt. c.loop-k.invariant.same (eqb-true d 0 is) j (omega arith)),
      λ e. eq-eqb d 0 (c.loop-k.invariant.none e),
    )
