use Rattle.std.proofs.Common.{ℕ, ◌/◌, [], ◌∷◌, ap}
use Rattle.std.proofs.lemmas.Nat.{and_mask}
use Rattle.card_model.proofs.status.Sw.to_bytes.Goals as goal

pub returns : goal.returns
returns c = ap (λ (low : ℕ). c.args.self.0 / 256 ∷ low ∷ []) (and_mask c.args.self.0 8)
