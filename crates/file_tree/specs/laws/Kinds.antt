-- What the tests of kinds tell.
use Rattle.std.specs.Prelude.{◌≡◌, ◌≢◌, ◌↔◌, ◌==◌, ℕ, zero, suc, Bool, true, false, IsTrue}
use Rattle.std.proofs.Common.{refl, sym, ◌∙◌, arith, true≢false}
use Rattle.std.proofs.lemmas.Bool.{eq-eqb, ne_eqb}

-- A test for a kind compares bytes.
pub kind_test : (found : Bool) (kind byte : ℕ) → IsTrue found ↔ (kind ≡ byte) → found ≡ (kind == byte)
kind_test true kind byte told = sym (eq-eqb kind byte (told.0 refl))
kind_test false kind byte told = sym (ne_eqb kind byte (λ same. true≢false (sym (told.1 same))))

-- An entry that no file has is of kind 0.
pub kind_of_unused : (used : Bool) (kind : ℕ) → IsTrue used ↔ (kind ≢ 0) → used ≡ false → kind ≡ 0
kind_of_unused used zero told free = refl
kind_of_unused used (suc n) told free =
    absurd (true≢false (sym (told.1 (λ none. let z : ⊥ = omega (arith, none) in z)) ∙ free))
