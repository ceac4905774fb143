-- What a card can still do, by what it did.
use Rattle.std.specs.Prelude.{◌≡◌, ◌≢◌, Result, Ok, Err, OnErr, refl}
use Rattle.card_start.specs.declared.state.CardState.{CardState}
use Rattle.card_start.specs.declared.state.CardState.TheVariants.{Working, Failed, Dark}

-- A card that isn't dark, and other do what a failed one does, works.
pub works_if_cut : (state : CardState) (Does : Type 0) → state ≢ Dark → (state ≡ Failed → Does)
    → (Does → ⊥) → state ≡ Working
works_if_cut Working Does lit failed other = refl
works_if_cut Failed Does lit failed other = absurd (other (failed refl))
works_if_cut Dark Does lit failed other = absurd (lit refl)

-- a fact that holds of every Err
pub on_err : {T E : Type 0} (r : Result T E) (fact : Type 0) → fact → OnErr r fact
on_err (Ok x) fact proof = tt
on_err (Err e) fact proof = proof
