-- The kinds of entries whose files have records.
use Rattle.std.specs.Prelude.{IsTrue}
use Rattle.std.proofs.Common.{◌≡◌, ◌≢◌, ◌⊎◌, ◌==◌, ◌||◌, ℕ, Bool, true, false, inl, inr, refl}
use Rattle.command_base.specs.declared.target_file.AcceptedStructure.{AcceptedStructure}
use Rattle.command_base.specs.declared.target_file.AcceptedStructure.TheVariants.{Bytes, Records, Linear, Cyclic}
use Rattle.command_base.specs.laws.FoundLaws.{same-of}
use Rattle.command_base.specs.NamedFiles.{fits_kind}

either : (a b : Bool) → (a || b) ≡ true → (a ≡ true) ⊎ (b ≡ true)
either true b is = inl refl
either false b is = inr is

-- a command that isn't for bytes is for one of the two
pub record_kind : (s : AcceptedStructure) (kind : ℕ) → s ≢ Bytes → IsTrue (fits_kind s kind) → (kind ≡ 3) ⊎ (kind ≡ 4)
record_kind Bytes kind other fits = absurd (other refl)
record_kind Records kind other fits = elim (either (kind == 3) (kind == 4) fits) [
  | inl linear ↦ inl (same-of kind 3 linear)
  | inr cyclic ↦ inr (same-of kind 4 cyclic)
]
record_kind Linear kind other fits = inl (same-of kind 3 fits)
record_kind Cyclic kind other fits = inr (same-of kind 4 fits)
