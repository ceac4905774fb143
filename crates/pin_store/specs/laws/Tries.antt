-- The PIN law: what a charge and the end after it leave, at whatever exit. A comparison costs a lasting try.
use Rattle.std.specs.Prelude.{◌-◌, if◌then◌else◌}
use Rattle.std.proofs.Common.{◌≡◌, ◌⊎◌, ◌<◌, ◌≤◌, ◌+◌, ℕ, Bool, true, false, List, slice_index, refl, sym, ◌∙◌, ap}
use Rattle.std.proofs.Common.{subst, inl, inr, arith}
use Rattle.nvm_board.specs.Facts.{raised}
use Rattle.undo_journal.specs.Memory.{Memory, committed}
use Rattle.undo_journal.specs.Spending.{WritesAtMost}
use Rattle.card_model.specs.declared.pins.TheConstants.{PINS}
use Rattle.card_model.specs.declared.limits.TheConstants.{TRIES, UNBLOCKING_TRIES}
use Rattle.card_model.specs.Secrets.{Pin, is_unblocking, owner, kept, tries_left, full_tries, charged_pin, verified_pin}
use Rattle.card_model.specs.Secrets.{changed_pin, marked_pin, reset_pin}
use Rattle.pin_store.specs.Pages.{pin_at, IsMark}
use Rattle.pin_store.specs.Trials.{pin_in, Charges, ComparesOnce, IsMatch, SetsByMatch, FillsByMatch}
use Rattle.pin_store.specs.Trials.{KeepsPinLaw}

-- a secret is a value or an unblocking value
pub is_value : (secret : ℕ) → secret < PINS → is_unblocking secret ≡ false
is_value secret small = search (arith, small)

pub is_unblocking_value : (secret : ℕ) → PINS ≤ secret → is_unblocking secret ≡ true
is_unblocking_value secret large = search (arith, large)

-- a charge takes one try
pub charged_left : (secret : ℕ) (pin : Pin) → tries_left secret (charged_pin secret pin) ≡ tries_left secret pin - 1
charged_left secret pin = by (is_unblocking secret) pin.tries pin.unblocking_tries (tries_left secret pin - 1)
  where
    by : (unblocking : Bool) (tries unblocking_tries n : ℕ)
        → (if unblocking then (if unblocking then n else unblocking_tries) else (if unblocking then tries else n)) ≡ n
    by true tries unblocking_tries n = refl
    by false tries unblocking_tries n = refl

-- what is committed stays, and so does a PIN
same_pin : (a b : Memory) (secret : ℕ) → committed b ≡ committed a → pin_in b secret ≡ pin_in a secret
same_pin a b secret same = ap (λ (m : List ℕ). pin_at m (owner secret)) same

same_mark : (a b : Memory) (secret : ℕ) → committed b ≡ committed a → IsMark (committed a) (owner secret)
    → IsMark (committed b) (owner secret)
same_mark a b secret same mark = subst (λ (m : List ℕ). IsMark m (owner secret)) (sym same) mark

one_fewer : (a c : Memory) (secret : ℕ) → 0 < tries_left secret (pin_in a secret)
    → pin_in c secret ≡ charged_pin secret (pin_in a secret)
    → tries_left secret (pin_in c secret) + 1 ≡ tries_left secret (pin_in a secret)
one_fewer a c secret some charged =
    let left = ap (tries_left secret) charged ∙ charged_left secret (pin_in a secret) in omega (arith, left, some)

-- a charge leaves the unblocking tries, but where these are charged
other_tries : (secret : ℕ) (pin : Pin) → secret < PINS
    → (charged_pin secret pin).unblocking_tries ≡ pin.unblocking_tries
other_tries secret pin small = ap (λ (b : Bool). if b then tries_left secret pin - 1 else pin.unblocking_tries)
    (is_value secret small)

-- of a charge alone
pub charge_keeps_law : (secret : ℕ) (shown : List ℕ) (a b : Memory)
    → (committed b ≡ committed a) ⊎ Charges secret a b → WritesAtMost 1 a.facts b.facts → KeepsPinLaw secret shown a b
charge_keeps_law secret shown a b (inl same) spends =
    let pin = same_pin a b secret same in
    record {
      tries = inl (ap (tries_left secret) pin);
      compares = inl spends.compares;
      matches = inl spends.matches;
      pin = inl pin;
      unblocking = ap (λ (p : Pin). p.unblocking) pin;
      unblocking_tries = λ small. ap (λ (p : Pin). p.unblocking_tries) pin;
      elsewhere = λ k apart. ap (λ (l : List ℕ). slice_index l k) same;
      mark = same_mark a b secret same;
    }
charge_keeps_law secret shown a b (inr charged) spends =
    let pin = charged.charged.becomes in
    record {
      tries = inr (inl (one_fewer a b secret charged.left pin));
      compares = inl spends.compares;
      matches = inl spends.matches;
      pin = inr (inl pin);
      unblocking = ap (λ (p : Pin). p.unblocking) pin;
      unblocking_tries = λ small. ap (λ (p : Pin). p.unblocking_tries) pin ∙ other_tries secret (pin_in a secret) small;
      elsewhere = charged.charged.elsewhere;
      mark = charged.charged.mark;
    }

-- what an end makes of a PIN: all tries of what was shown;
-- of the rest, nothing that unblocks, but by RESET RETRY COUNTER
pub record IsEnd (secret : ℕ) (pin now : Pin) : Type 0 where
  pub full : tries_left secret now ≡ full_tries secret
  pub unblocking : now.unblocking ≡ pin.unblocking
  pub unblocking_tries : secret < PINS → now.unblocking_tries ≡ pin.unblocking_tries

-- a match after a charge is one for those before it
charged_match : (secret : ℕ) (shown : List ℕ) (a b c : Memory) → Charges secret a b → WritesAtMost 1 a.facts b.facts
    → IsMatch secret shown b c → IsMatch secret shown a c
charged_match secret shown a b c charged spends match = record {
  right = sym (ap (kept secret) charged.charged.becomes) ∙ match.right;
  compared = match.compared ∙ ap (λ (l : List ℕ). raised l secret) spends.compares;
  matched = match.matched ∙ ap (λ (l : List ℕ). raised l secret) spends.matches;
}

-- of a charge, and an end that sets nothing
pub unset_keeps_law : (n secret : ℕ) (shown : List ℕ) (a b c : Memory) → Charges secret a b
    → WritesAtMost 1 a.facts b.facts → committed c ≡ committed b → ComparesOnce n secret shown b c
    → KeepsPinLaw secret shown a c
unset_keeps_law n secret shown a b c charged spends same once =
    let pin = same_pin b c secret same ∙ charged.charged.becomes in
    let left = one_fewer a c secret charged.left pin in
    record {
      tries = inr (inl left);
      compares = elim once.compares [
        | inl stay ↦ inl (stay ∙ spends.compares)
        | inr rise ↦ inr (record {
          compared = rise ∙ ap (λ (l : List ℕ). raised l secret) spends.compares;
          left = charged.left;
          paid = inl left;
        })
      ];
      matches = elim once.matches [
        | inl stay ↦ inl (stay ∙ spends.matches)
        | inr match ↦ inr (charged_match secret shown a b c charged spends match)
      ];
      pin = inr (inl pin);
      unblocking = ap (λ (p : Pin). p.unblocking) pin;
      unblocking_tries = λ small. ap (λ (p : Pin). p.unblocking_tries) pin ∙ other_tries secret (pin_in a secret) small;
      elsewhere = λ k apart. ap (λ (l : List ℕ). slice_index l k) same ∙ charged.charged.elsewhere k apart;
      mark = λ was. same_mark b c secret same (charged.charged.mark was);
    }

-- of a charge, and an end that sets the PIN
pub set_keeps_law : (secret : ℕ) (shown : List ℕ) (now : Pin) (a b c : Memory) → Charges secret a b
    → WritesAtMost 1 a.facts b.facts → SetsByMatch secret shown now b c → IsEnd secret (pin_in b secret) now
    → KeepsPinLaw secret shown a c
set_keeps_law secret shown now a b c charged spends set ends =
    let before = charged.charged.becomes in
    let after = set.sets.becomes in
    let matched = charged_match secret shown a b c charged spends set.match_counted in
    let fills : FillsByMatch secret shown a c = record {
      match_counted = matched;
      full = ap (tries_left secret) after ∙ ends.full;
    } in
    record {
      tries = inr (inr fills);
      compares = inr (record { compared = matched.compared; left = charged.left; paid = inr fills });
      matches = inr matched;
      pin = inr (inr matched);
      unblocking = ap (λ (p : Pin). p.unblocking) after ∙ ends.unblocking ∙ ap (λ (p : Pin). p.unblocking) before;
      unblocking_tries = λ small. ap (λ (p : Pin). p.unblocking_tries) after ∙ ends.unblocking_tries small
          ∙ ap (λ (p : Pin). p.unblocking_tries) before ∙ other_tries secret (pin_in a secret) small;
      elsewhere = λ k apart. set.sets.elsewhere k apart ∙ charged.charged.elsewhere k apart;
      mark = λ was. set.sets.mark (charged.charged.mark was);
    }

-- of a charge and an end, at whatever exit
pub end_keeps_law : (n secret : ℕ) (shown : List ℕ) (now : Pin) (a b c : Memory) → IsEnd secret (pin_in b secret) now
    → Charges secret a b → WritesAtMost 1 a.facts b.facts
    → (committed c ≡ committed b) ⊎ SetsByMatch secret shown now b c → ComparesOnce n secret shown b c
    → KeepsPinLaw secret shown a c
end_keeps_law n secret shown now a b c ends charged spends (inl same) once =
    unset_keeps_law n secret shown a b c charged spends same once
end_keeps_law n secret shown now a b c ends charged spends (inr set) once =
    set_keeps_law secret shown now a b c charged spends set ends

-- a PIN whose value has all its tries
value_full : (secret : ℕ) (unblocking_tries : ℕ) → secret < PINS
    → (if is_unblocking secret then unblocking_tries else TRIES) ≡ full_tries secret
value_full secret unblocking_tries small =
    let is = is_value secret small in
    ap (λ (b : Bool). if b then unblocking_tries else TRIES) is
    ∙ sym (ap (λ (b : Bool). if b then UNBLOCKING_TRIES else TRIES) is)

-- each end
pub verified_ends : (secret : ℕ) (pin : Pin) → secret < PINS → IsEnd secret pin (verified_pin pin)
verified_ends secret pin small = record {
  full = value_full secret pin.unblocking_tries small;
  unblocking = refl;
  unblocking_tries = λ _. refl;
}

pub changed_ends : (secret : ℕ) (new : List ℕ) (pin : Pin) → secret < PINS → IsEnd secret pin (changed_pin new pin)
changed_ends secret new pin small = record {
  full = value_full secret pin.unblocking_tries small;
  unblocking = refl;
  unblocking_tries = λ _. refl;
}

pub marked_ends : (secret : ℕ) (enabled : Bool) (pin : Pin) → secret < PINS → IsEnd secret pin (marked_pin enabled pin)
marked_ends secret enabled pin small = record {
  full = value_full secret pin.unblocking_tries small;
  unblocking = refl;
  unblocking_tries = λ _. refl;
}

pub reset_ends : (secret : ℕ) (new : List ℕ) (pin : Pin) → PINS ≤ secret → IsEnd secret pin (reset_pin new pin)
reset_ends secret new pin large = record {
  full = refl;
  unblocking = refl;
  unblocking_tries = λ small. absurd (omega (arith, small, large));
}
