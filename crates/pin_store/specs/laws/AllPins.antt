-- Laws of all PINs of a memory: where they stay, and where one of them is set.
-- Crates above cite these, and open no page.
use Rattle.std.specs.Prelude.{map}
use Rattle.std.specs.List.{range_with_len}
use Rattle.std.proofs.Common.{◌≡◌, ◌≢◌, ◌⊎◌, ◌<◌, ◌≤◌, ◌+◌, ℕ, zero, suc, List, ◌∷◌, slice_set}
use Rattle.std.proofs.Common.{refl, sym, ◌∙◌, ap, ap₂, subst, inl, inr, arith}
use Rattle.std.proofs.lemmas.Bool.{cases_order}
use Rattle.nvm_board.specs.Facts.{address}
use Rattle.card_model.specs.declared.pins.TheConstants.{PINS}
use Rattle.pin_store.specs.declared.layout.TheConstants.{PIN_MARK_WORD, PIN_WORDS}
use Rattle.card_model.specs.declared.limits.TheConstants.{TRIES, UNBLOCKING_TRIES}
use Rattle.pin_store.specs.declared.putting.Renewal.{Renewal}
use Rattle.pin_store.specs.declared.putting.Renewal.TheVariants.{Value, ValueAndTries, Mark}
use Rattle.card_model.specs.Secrets.{Pin, HasFewTries, owner}
use Rattle.card_model.specs.Secrets.{tries_left, verified_pin, enabled_pin, with_tries}
use Rattle.pin_store.specs.RenewalParts.{renewed_pin}
use Rattle.pin_store.specs.Pages.{pin_page, pin_at, pins_of, unmarked_pins_of, IsPinPage, ArePinPages, AreEnabled}
use Rattle.pin_store.specs.Pages.{AreMarks, IsMark, KeepsPins, KeepsSecrets, SetsPin}
use Rattle.pin_store.specs.laws.PinPages.{pin_same, secrets_same, marked_enabled, few_tries, page_of_few}
use Rattle.card_model.specs.laws.FewTries.{with_few, verified_few, changed_few, reset_few, marked_few}

-- the same PINs at successive places
pins-same : (old new : ℕ → Pin) (a n : ℕ) → ((j : ℕ) → a ≤ j → j < a + n → new j ≡ old j)
    → map new (range_with_len a n) ≡ map old (range_with_len a n)
pins-same old new a zero each = refl
pins-same old new a (suc n) each =
    let here : new a ≡ old a = each a (omega arith) (omega arith) in
    ap₂ (λ (pin : Pin) (rest : List Pin). pin ∷ rest) here (pins-same old new (a + 1) n (λ j low high.
    let least : a ≤ j = omega (arith, low) in
    let most : j < a + suc n = omega (arith, high) in
    each j least most))

-- the same but for one of them
pins-set : (old new : ℕ → Pin) (now : Pin) (a n k : ℕ) → k < n → new (a + k) ≡ now
    → ((j : ℕ) → a ≤ j → j < a + n → j ≢ a + k → new j ≡ old j)
    → map new (range_with_len a n) ≡ slice_set (map old (range_with_len a n)) k now
pins-set old new now a zero k lt is each = absurd (omega (arith, lt))
pins-set old new now a (suc n) zero lt is each =
    let place : a ≡ a + 0 = omega arith in
    ap₂ (λ (pin : Pin) (rest : List Pin). pin ∷ rest) (ap new place ∙ is) (pins-same old new (a + 1) n (λ j low high.
    let least : a ≤ j = omega (arith, low) in
    let most : j < a + suc n = omega (arith, high) in
    let other : j ≢ a + 0 = omega (arith, low) in
    each j least most other))
pins-set old new now a (suc n) (suc k) lt is each =
    let below : k < n = omega (arith, lt) in
    let place : a + 1 + k ≡ a + suc k = omega arith in
    let differs : a ≢ a + suc k = omega arith in
    let here : new a ≡ old a = each a (omega arith) (omega arith) differs in
    ap₂ (λ (pin : Pin) (rest : List Pin). pin ∷ rest) here (pins-set old new now (a + 1) n k below (ap new place ∙ is)
    (λ j low high differ.
    let least : a ≤ j = omega (arith, low) in
    let most : j < a + suc n = omega (arith, high) in
    let other : j ≢ a + suc k = omega (arith, differ) in
    each j least most other))

-- the words of the PINs stay, and so do the PINs
pub pins_kept : (m after : List ℕ) → KeepsPins m after → pins_of after ≡ pins_of m
unfolding pins_of
pins_kept m after keeps = pins-same (pin_at m) (pin_at after) 0 PINS (λ j low high.
    pin_same m after j (λ place small. keeps.words j place high small))

-- and their pages are as they may be
pub pages_kept : (m after : List ℕ) → KeepsPins m after → ArePinPages m → ArePinPages after
pages_kept m after keeps pages = record {
  each = λ pin small.
      let same = pin_same m after pin (λ place within. keeps.words pin place small within) in
      page_of_few after pin (subst (λ (p : Pin). HasFewTries p) (sym same) (few_tries m pin (pages.each pin small)));
}

-- and their marks
pub marks_kept : (m after : List ℕ) → KeepsPins m after → AreMarks m → AreMarks after
marks_kept m after keeps marks = record {
  each = λ pin small. subst (λ (w : ℕ). w ≤ 1)
      (sym (keeps.words pin PIN_MARK_WORD small (omega arith))) (marks.each pin small);
}

-- the words of the PINs stay, but for their marks: so do the PINs without them
pub secrets_kept : (m after : List ℕ) → KeepsSecrets m after → unmarked_pins_of after ≡ unmarked_pins_of m
unfolding unmarked_pins_of
secrets_kept m after keeps =
    pins-same (λ pin. enabled_pin (pin_at m pin)) (λ pin. enabled_pin (pin_at after pin)) 0 PINS (λ j low high.
    secrets_same m after j (λ place small. keeps.words j place high small))

-- and their pages are as they may be
pub secrets_pages : (m after : List ℕ) → KeepsSecrets m after → ArePinPages m → ArePinPages after
secrets_pages m after keeps pages = record {
  each = λ pin small.
      let tries = keeps.words pin 0 small (omega arith) in
      let unblocking_tries = keeps.words pin 1 small (omega arith) in
      let page = pages.each pin small in record {
        tries = subst (λ (w : ℕ). w ≤ TRIES) (sym tries) page.tries;
        unblocking_tries = subst (λ (w : ℕ). w ≤ UNBLOCKING_TRIES) (sym unblocking_tries) page.unblocking_tries;
      };
}

-- where each PIN is enabled, they are those of a memory without marks
pub enabled_unmarked : (m : List ℕ) → AreEnabled m → pins_of m ≡ unmarked_pins_of m
unfolding pins_of unmarked_pins_of
enabled_unmarked m enabled =
    pins-same (λ pin. enabled_pin (pin_at m pin)) (pin_at m) 0 PINS
    (λ j low high. marked_enabled m j (enabled.each j high))

-- and each mark is one
pub enabled_marks : (m : List ℕ) → AreEnabled m → AreMarks m
enabled_marks m enabled = record {
  each = λ pin small. let is = enabled.each pin small in omega (arith, is);
}

-- one PIN is set: another one stays
pub other_pin : (m after : List ℕ) (pin other : ℕ) (now : Pin) → SetsPin m pin now after → other ≢ pin
    → pin_at after other ≡ pin_at m other
other_pin m after pin other now sets differ = pin_same m after other (λ place small.
    sets.elsewhere (address (pin_page other) place) (elim (cases_order other pin) [
      | inl same ↦ absurd (differ same)
      | inr (inl before) ↦ let lt : address (pin_page other) place < address (pin_page pin) 0 =
          omega (arith, before, small) in inl lt
      | inr (inr past) ↦
          let le : address (pin_page pin) PIN_WORDS ≤ address (pin_page other) place = omega (arith, past) in
          inr le
    ]))

-- the list of PINs has the new one in the place of the old one
pub pins_set : (m after : List ℕ) (pin : ℕ) (now : Pin) → pin < PINS → SetsPin m pin now after
    → pins_of after ≡ slice_set (pins_of m) pin now
unfolding pins_of
pins_set m after pin now small sets =
    let place : 0 + pin ≡ pin = omega arith in
    pins-set (pin_at m) (pin_at after) now 0 PINS pin small
    (ap (pin_at after) place ∙ sets.becomes) (λ j low high other.
    let differ : j ≢ pin = omega (arith, other) in
    other_pin m after pin j now sets differ)

-- and all pages are as they may be, if the new PIN is
pub pages_set : (m after : List ℕ) (pin : ℕ) (now : Pin) → SetsPin m pin now after → HasFewTries now → ArePinPages m
    → ArePinPages after
pages_set m after pin now sets few pages = record {
  each = λ other small. page_of_few after other (elim (cases_order other pin) [
    | inl same ↦ subst (λ (k : ℕ). HasFewTries (pin_at after k)) (sym same)
        (subst (λ (p : Pin). HasFewTries p) (sym sets.becomes) few)
    | inr (inl before) ↦ let differ : other ≢ pin = omega (arith, before) in stays other small differ
    | inr (inr past) ↦ let differ : other ≢ pin = omega (arith, past) in stays other small differ
  ]);
}
  where
    stays : (other : ℕ) → other < PINS → other ≢ pin → HasFewTries (pin_at after other)
    stays other small differ =
        subst (λ (p : Pin). HasFewTries p) (sym (other_pin m after pin other now sets differ))
        (few_tries m other (pages.each other small))

-- and so are all marks
pub marks_set : (m after : List ℕ) (pin : ℕ) (now : Pin) → SetsPin m pin now after → AreMarks m → AreMarks after
marks_set m after pin now sets marks = record {
  each = λ other small. elim (cases_order other pin) [
    | inl same ↦ subst (λ (k : ℕ). IsMark after k) (sym same)
        (sets.mark (subst (λ (k : ℕ). IsMark m k) same (marks.each other small)))
    | inr (inl before) ↦
        let lt : address (pin_page other) PIN_MARK_WORD < address (pin_page pin) 0 = omega (arith, before) in
        subst (λ (w : ℕ). w ≤ 1) (sym (sets.elsewhere _ (inl lt))) (marks.each other small)
    | inr (inr past) ↦
        let le : address (pin_page pin) PIN_WORDS ≤ address (pin_page other) PIN_MARK_WORD = omega (arith, past) in
        subst (λ (w : ℕ). w ≤ 1) (sym (sets.elsewhere _ (inr le))) (marks.each other small)
  ];
}

-- the page of a secret's PIN
pub owner_page : (m : List ℕ) (secret : ℕ) → ArePinPages m → IsPinPage m (owner secret)
owner_page m secret pages = let small : owner secret < PINS = omega arith in pages.each (owner secret) small

pub owner_few : (m : List ℕ) (secret : ℕ) → ArePinPages m → HasFewTries (pin_at m (owner secret))
owner_few m secret pages = few_tries m (owner secret) (owner_page m secret pages)

-- what charges and ends make of a PIN leaves all pages as they may be
pub left_pages : (m after : List ℕ) (secret n : ℕ) → n ≤ tries_left secret (pin_at m (owner secret)) → ArePinPages m
    → SetsPin m (owner secret) (with_tries secret n (pin_at m (owner secret))) after → ArePinPages after
left_pages m after secret n fewer pages sets =
    pages_set m after (owner secret) _ sets (with_few secret n _ fewer (owner_few m secret pages)) pages

pub verified_pages : (m after : List ℕ) (secret : ℕ) → ArePinPages m
    → SetsPin m (owner secret) (verified_pin (pin_at m (owner secret))) after → ArePinPages after
verified_pages m after secret pages sets =
    pages_set m after (owner secret) _ sets (verified_few _ (owner_few m secret pages)) pages

pub renewed_few : (renewal : Renewal) (pin : Pin) → HasFewTries pin → HasFewTries (renewed_pin renewal pin)
renewed_few (Value new) pin few = changed_few new.now pin few
renewed_few (ValueAndTries new) pin few = reset_few new.now pin
renewed_few (Mark enabled) pin few = marked_few enabled pin few

pub renewed_pages : (m after : List ℕ) (renewal : Renewal) (secret : ℕ) → ArePinPages m
    → (after ≡ m) ⊎ SetsPin m (owner secret) (renewed_pin renewal (pin_at m (owner secret))) after
    → ArePinPages after
renewed_pages m after renewal secret pages (inl same) = subst (λ (l : List ℕ). ArePinPages l) (sym same) pages
renewed_pages m after renewal secret pages (inr sets) =
    pages_set m after (owner secret) _ sets (renewed_few renewal _ (owner_few m secret pages)) pages
