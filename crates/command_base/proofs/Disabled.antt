-- The PINs that are disabled, as the code finds them, one after another.
use Rattle.std.specs.Prelude.{map, not, slice_set, ◌↔◌, Option, Some, None, IsSome, IfSome}
use Rattle.std.proofs.Common.{◌≡◌, ◌≢◌, ◌<◌, ◌≤◌, ◌+◌, ◌-◌, ℕ, Bool, true, false, List, length, refl, sym}
use Rattle.std.proofs.Common.{◌∙◌, ap, subst, arith, inl, inr, true≢false}
use Rattle.std.proofs.Math.ListN.{length-set}
use Rattle.std.proofs.lemmas.Bool.Decides.{eqb_tells}
use Rattle.std.proofs.lemmas.List.{get_or-set_other, get_or-set_same}
use Rattle.std.specs.List.{range_with_len, slice_index_or}
use Rattle.card_model.specs.Pins.{no_pins, with_pin, IsPinNumber}
use Rattle.card_model.specs.declared.pins.TheConstants.{PINS}
use Rattle.card_model.specs.laws.DisabledPins.{none-marked}
use Rattle.pin_store.specs.Pages.{pin_at, pins_of}
use Rattle.command_base.specs.Working.{disabled_in}
use Rattle.command_base.specs.laws.Verified.{by_places}

-- The index of the PIN that comes next, 8 after the last.
abbrev pub next_index : Option ℕ → ℕ
next_index None = 8
next_index (Some pin) = pin - 1

pub index-next : (pin : ℕ) (next : Option ℕ) → IsPinNumber pin → (IsSome next ↔ (pin < PINS))
    → IfSome next (λ after. after ≡ pin + 1) → next_index next ≡ pin - 1 + 1
index-next pin (Some after) number valid value = let first = number.first in omega (arith, value, first)
index-next pin None number valid value =
    let first = number.first in
    let last = number.last in
    let past : ¬ (pin < PINS) = λ lt. absurd (true≢false (sym (valid.1 lt))) in
    omega (arith, past, first, last)

-- The marks of the first n PINs are told, and no other is marked.
pub record TellsMarks (m : List ℕ) (n : ℕ) (marks : List Bool) : Type 0 where
  pub long : length marks ≡ 8
  pub told : (k : ℕ) → k < n → slice_index_or marks k false ≡ not (pin_at m k).enabled
  pub clear : (k : ℕ) → n ≤ k → slice_index_or marks k false ≡ false

pub none-told : (m : List ℕ) → TellsMarks m 0 no_pins
none-told m = record {
  long = refl;
  told = λ k lt. absurd (omega (arith, lt));
  clear = λ k from. none-marked k;
}

module _ (m : List ℕ) (n : ℕ) (small : n < 8) (marks : List Bool) (before : TellsMarks m n marks) where
  -- one that is enabled isn't marked
  pub one-enabled : (pin_at m n).enabled ≡ true → TellsMarks m (n + 1) marks
  one-enabled enabled = record {
    long = before.long;
    told = λ k lt. elim (eqb_tells k n) [
      | inl same ↦
          ap (λ (i : ℕ). slice_index_or marks i false) same.1 ∙ before.clear n (omega arith) ∙ sym (ap not enabled)
          ∙ sym (ap (λ (i : ℕ). not (pin_at m i).enabled) same.1)
      | inr other ↦ let differs = other.1 in before.told k (omega (arith, lt, differs))
    ];
    clear = λ k from. before.clear k (omega (arith, from));
  }

  -- one that is disabled is
  pub one-disabled : (pin_at m n).enabled ≡ false → TellsMarks m (n + 1) (with_pin marks (n + 1))
  one-disabled disabled =
      let place : n + 1 - 1 ≡ n = omega arith in
      let set = slice_set marks n true in
      let inside : n < length marks = let long = before.long in omega (arith, small, long) in
      subst (λ (i : ℕ). TellsMarks m (n + 1) (slice_set marks i true)) (sym place) (record {
        long = length-set marks n true ∙ before.long;
        told = λ k lt. elim (eqb_tells k n) [
          | inl same ↦
              ap (λ (i : ℕ). slice_index_or set i false) same.1 ∙ get_or-set_same marks n true false inside
              ∙ sym (ap not disabled) ∙ sym (ap (λ (i : ℕ). not (pin_at m i).enabled) same.1)
          | inr other ↦
              let differs = other.1 in
              get_or-set_other marks n k true false differs ∙ before.told k (omega (arith, lt, differs))
        ];
        clear = λ k from.
            let differs : k ≢ n = λ is. let z : ⊥ = omega (arith, is, from) in z in
            get_or-set_other marks n k true false differs ∙ before.clear k (omega (arith, from));
      })

-- the marks of all PINs are told
pub all-told : (m : List ℕ) (marks : List Bool) → TellsMarks m 8 marks → marks ≡ disabled_in m
unfolding pins_of
all-told m marks tells =
    let each : ℕ → Bool = λ k. not (pin_at m k).enabled in
    let long = tells.long in
    sym (by_places marks each 0 (λ k lt.
    let small : k < 8 = omega (arith, lt, long) in
    let place : 0 + k ≡ k = omega arith in
    ap each place ∙ sym (tells.told k small)))
    ∙ ap (λ (n : ℕ). map each (range_with_len 0 n)) long
