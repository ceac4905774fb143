-- A buffer that was empty, with bytes appended.
use Rattle.std.specs.Prelude.{◌≡◌, ℕ, List, [], ◌++◌, length}
use Rattle.std.proofs.Common.{◌∙◌, ap, subst}
use Rattle.block_chain.specs.ChainChanges.{AppendsSome}

-- what is put behind nothing is all that there is
pub length-emptied : (old : List ℕ) → old ≡ [] → length old ≡ 0
length-emptied old empty = ap (λ (l : List ℕ). length l) empty

pub all_appended : (old bytes out : List ℕ) → old ≡ [] → out ≡ old ++ bytes → out ≡ bytes
all_appended old bytes out empty is = is ∙ ap (λ (l : List ℕ). l ++ bytes) empty

pub some_appended : (old bytes out : List ℕ) → old ≡ [] → AppendsSome old bytes out → AppendsSome [] bytes out
some_appended old bytes out empty = subst (λ (l : List ℕ). AppendsSome l bytes out) empty
