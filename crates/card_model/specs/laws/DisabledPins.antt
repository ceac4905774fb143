-- A PIN that is disabled refuses nothing: what a rule allows while none is disabled it allows whatever PINs are.
use Rattle.std.specs.Prelude.{◌-◌, ◌||◌}
use Rattle.std.specs.List.{slice_index_or}
use Rattle.std.specs.Option.{option_map_or}
use Rattle.std.proofs.Common.{◌≡◌, ℕ, zero, suc, Bool, true, false, List, Option, Some, None, refl, sym, ◌∙◌, ap}
use Rattle.card_model.specs.declared.access_mode.AccessBit.{AccessBit}
use Rattle.card_model.specs.declared.compact.Condition.{Condition}
use Rattle.card_model.specs.declared.compact.Condition.TheVariants.{Always, Never, Verified}
use Rattle.card_model.specs.declared.life_cycle.LifeCycle.{LifeCycle}
use Rattle.card_model.specs.declared.life_cycle.LifeCycle.TheVariants.{Creation, Initialisation, Deactivated, Activated}
use Rattle.card_model.specs.declared.life_cycle.LifeCycle.TheVariants.{Terminated}
use Rattle.card_model.specs.Pins.{has_pin, no_pins}
use Rattle.card_model.specs.Rule.{allows, condition_at, is_met}

-- no PIN is marked
pub none-marked : (k : ℕ) → slice_index_or no_pins k false ≡ false
none-marked zero = refl
none-marked (suc zero) = refl
none-marked (suc (suc zero)) = refl
none-marked (suc (suc (suc zero))) = refl
none-marked (suc (suc (suc (suc zero)))) = refl
none-marked (suc (suc (suc (suc (suc zero))))) = refl
none-marked (suc (suc (suc (suc (suc (suc zero)))))) = refl
none-marked (suc (suc (suc (suc (suc (suc (suc zero))))))) = refl
none-marked (suc (suc (suc (suc (suc (suc (suc (suc k)))))))) = refl

or-more : (one other : Bool) → (one || false) ≡ true → (one || other) ≡ true
or-more true other is = refl
or-more false other is = absurd cc

met-anyhow : (verified disabled : List Bool) (condition : Condition) → is_met verified no_pins condition ≡ true
    → is_met verified disabled condition ≡ true
met-anyhow verified disabled Always is = refl
met-anyhow verified disabled Never is = is
met-anyhow verified disabled (Verified pin) is =
    or-more (has_pin verified pin) (has_pin disabled pin)
    (sym (ap (λ (b : Bool). has_pin verified pin || b) (none-marked (pin - 1))) ∙ is)

asked-anyhow : (verified disabled : List Bool) (condition : Option Condition)
    → option_map_or (is_met verified no_pins) condition false ≡ true
    → option_map_or (is_met verified disabled) condition false ≡ true
asked-anyhow verified disabled None is = is
asked-anyhow verified disabled (Some condition) is = met-anyhow verified disabled condition is

pub allows-anyhow : (rule : List ℕ) (bit : AccessBit) (life : LifeCycle) (verified disabled : List Bool)
    → allows rule bit life verified no_pins ≡ true → allows rule bit life verified disabled ≡ true
allows-anyhow rule bit Creation verified disabled is = refl
allows-anyhow rule bit Initialisation verified disabled is = refl
allows-anyhow rule bit Deactivated verified disabled is = asked-anyhow verified disabled (condition_at rule bit) is
allows-anyhow rule bit Activated verified disabled is = asked-anyhow verified disabled (condition_at rule bit) is
allows-anyhow rule bit Terminated verified disabled is = asked-anyhow verified disabled (condition_at rule bit) is
