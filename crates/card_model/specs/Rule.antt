-- Access rules in compact format, and what they allow (ISO/IEC 7816-4, 9.3.3).
use Rattle.std.specs.Prelude.{ℕ, ◌%◌, Bool, true, false, ◌&&◌, ◌||◌, ◌==◌, nat_lt, nat_le, if◌then◌else◌, List, [], ◌∷◌}
use Rattle.std.specs.Prelude.{length, count_ones, Option, Some, None, is_some, slice_get, option_and_then}
use Rattle.std.specs.List.{list_all}
use Rattle.std.specs.Option.{option_map_or}
use Rattle.card_model.specs.declared.access_mode.AccessBit.{AccessBit}
use Rattle.card_model.specs.declared.life_cycle.LifeCycle.{LifeCycle}
use Rattle.card_model.specs.declared.life_cycle.LifeCycle.TheVariants.{Creation, Initialisation}
use Rattle.card_model.specs.declared.compact.Condition.{Condition}
use Rattle.card_model.specs.declared.compact.Condition.TheVariants.{Always, Never, Verified}
use Rattle.card_model.specs.Access.{is_set, set_down_to}
use Rattle.card_model.specs.Pins.{has_pin}

-- the requirement of a condition byte; None: the byte isn't allowed in a rule
-- 00 means always, FF never; 11 to 18 and 91 to 98 name security environments 1 to 8,
-- in which the PIN of that number must be verified or disabled
abbrev pub condition_of : ℕ → Option Condition
condition_of b =
    if b == 0x00 then Some Always else
    if b == 0xFF then Some Never else
    if nat_le 0x11 b && nat_le b 0x18 || nat_le 0x91 b && nat_le b 0x98 then Some (Verified (b % 16)) else None

-- true if a condition is met for these verified and disabled PINs
abbrev pub is_met : List Bool → List Bool → Condition → Bool
is_met verified disabled Always = true
is_met verified disabled Never = false
is_met verified disabled (Verified pin) = has_pin verified pin || has_pin disabled pin

-- true for a valid rule: an access mode byte with bit 8 clear, and a valid condition byte for each set bit
abbrev pub is_rule : List ℕ → Bool
is_rule [] = false
is_rule (mode ∷ conditions) =
    nat_lt mode 0x80 && (length conditions == count_ones mode) && list_all (λ b. is_some (condition_of b)) conditions

-- the condition of a bit; None: the bit is clear
-- The condition bytes follow the access mode byte in the order of the set bits, from the highest down. So the index of
-- a bit's condition in the rule is the number of set bits down to this one.
abbrev pub condition_at : List ℕ → AccessBit → Option Condition
condition_at [] bit = None
condition_at (mode ∷ conditions) bit =
    if is_set mode bit then option_and_then condition_of (slice_get (mode ∷ conditions) (set_down_to mode bit)) else
    None

-- true if a file's rule allows an operation
-- The creation and initialisation states allow all; other states need the bit set and its condition met.
abbrev pub allows : List ℕ → AccessBit → LifeCycle → List Bool → List Bool → Bool
allows rule bit Creation verified disabled = true
allows rule bit Initialisation verified disabled = true
allows rule bit _ verified disabled = option_map_or (is_met verified disabled) (condition_at rule bit) false
