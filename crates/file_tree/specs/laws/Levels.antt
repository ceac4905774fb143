-- Steps from children to parents, one by one.
use Rattle.std.specs.Prelude.{◌≡◌, ◌+◌, ℕ, zero, suc, List}
use Rattle.std.proofs.Common.{refl, ap, ◌∙◌, arith}
use Rattle.file_tree.specs.declared.entry.Entry.{Entry}
use Rattle.file_tree.specs.Table.{entry_in, ancestor}

-- no step leads nowhere else
pub ancestor-none : (t : List Entry) (n e : ℕ) → n ≡ 0 → ancestor t n e ≡ e
unfolding ancestor
ancestor-none t zero e is = refl
ancestor-none t (suc n) e is = absurd (omega (arith, is))

-- the first of some steps leads to the parent
pub ancestor-step : (t : List Entry) (n k e : ℕ) → n ≡ k + 1 → ancestor t n e ≡ ancestor t k (entry_in t e).parent
unfolding ancestor
ancestor-step t zero k e is = absurd (omega (arith, is))
ancestor-step t (suc n) k e is = let same : n ≡ k = omega (arith, is) in
    ap (λ (i : ℕ). ancestor t i (entry_in t e).parent) same

-- one more step, behind the others
pub ancestor-more : (t : List Entry) (n e : ℕ) → ancestor t (suc n) e ≡ (entry_in t (ancestor t n e)).parent
unfolding ancestor
ancestor-more t zero e = refl
ancestor-more t (suc n) e = ancestor-more t n (entry_in t e).parent

-- from an entry that is its own parent no step leads on
pub ancestor-fixed : (t : List Entry) (n e : ℕ) → (entry_in t e).parent ≡ e → ancestor t n e ≡ e
unfolding ancestor
ancestor-fixed t zero e own = refl
ancestor-fixed t (suc n) e own = ap (λ (f : ℕ). ancestor t n f) own ∙ ancestor-fixed t n e own

pub ruleset levels = (ancestor-none, ancestor-step)
