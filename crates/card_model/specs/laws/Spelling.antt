-- Numbers as bytes spell them.
use Rattle.std.proofs.Common.{refl, ap}
use Rattle.std.specs.Prelude.{◌≡◌, ◌%◌, ◌^◌, ℕ, zero, suc}
use Rattle.std.specs.Prelude.{length}
use Rattle.card_model.specs.RecordLists.{spelled}

-- as many bytes as are asked for
pub length-spelled : (size n : ℕ) → length (spelled size n) ≡ size
unfolding spelled
length-spelled zero n = refl
length-spelled (suc size) n = ap (λ (k : ℕ). suc k) (length-spelled size (n % 256 ^ size))
