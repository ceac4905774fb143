-- What a command that shows a secret of a PIN pays for its comparison: the guess law of one command.
use Rattle.std.specs.Prelude.{◌≡◌, ◌≢◌, ◌⊎◌, ◌<◌, ◌≤◌, ◌+◌, ◌-◌, ◌*◌, ℕ, Bool, true, false, if◌then◌else◌, List}
use Rattle.std.specs.Prelude.{length, slice_index, slice_index_or, slice_set}
use Rattle.std.proofs.Common.{arith, ap, inl, inr, refl, subst, sym, ◌∙◌}
use Rattle.std.proofs.lemmas.Bool.{cases_eq, cases_lt}
use Rattle.std.proofs.lemmas.List.{get_or-set_same, get_or-set_other, get_or_past, set-get_or}
use Rattle.nvm_board.specs.declared.board.TheConstants.{SECRETS}
use Rattle.nvm_board.specs.Facts.{raised}
use Rattle.card_model.specs.declared.pins.TheConstants.{PINS}
use Rattle.card_model.specs.declared.limits.TheConstants.{TRIES, UNBLOCKING_TRIES}
use Rattle.card_model.specs.Secrets.{HasFewTries, full_tries, is_unblocking, tries_left}
use Rattle.pin_store.specs.laws.Tries.{is_unblocking_value, is_value}
use Rattle.card_model.specs.Cards.{Card, Pin}
use Rattle.command_base.specs.Comparing.{Comparisons, comparisons, ComparesAttempt, CostsATry, Matches}
use Rattle.card_model.specs.PinCommands.{Attempt, no_pin, pin_of}
use Rattle.command_base.specs.laws.ShownLaws.{IsOfItsPin}
use Rattle.bench_turns.specs.BenchStates.{BenchState, HasEachCount, bench_card, bench_facts}
use Rattle.bench_turns.specs.Guessing.{GuessesFew}

-- the guess law of one PIN, by its two secrets
pub record ArePaidAt (value unblocking : ℕ) (was now : Pin) (old new : Comparisons) : Type 0 where
  pub of_value : slice_index new.compares value + now.tries
      + TRIES * (slice_index old.matches value + slice_index old.matches unblocking)
      ≤ slice_index old.compares value + was.tries
      + TRIES * (slice_index new.matches value + slice_index new.matches unblocking)
  pub of_unblocking : slice_index new.compares unblocking + now.unblocking_tries
      + UNBLOCKING_TRIES * slice_index old.matches unblocking
      ≤ slice_index old.compares unblocking + was.unblocking_tries
      + UNBLOCKING_TRIES * slice_index new.matches unblocking

-- and of each PIN, by its place among all
pub record ArePaid (c d : Card) (old new : Comparisons) : Type 0 where
  pub each : (place : ℕ) → place < PINS
      → ArePaidAt place (PINS + place) (slice_index_or c.pins place no_pin) (slice_index_or d.pins place no_pin) old new

-- as many comparisons and matches as before
record Uncounted (secret : ℕ) (old new : Comparisons) : Type 0 where
  compares : slice_index new.compares secret ≡ slice_index old.compares secret
  matches : slice_index new.matches secret ≡ slice_index old.matches secret

-- a PIN that stays, and neither of whose secrets was counted
untouched : (value unblocking : ℕ) (was now : Pin) (old new : Comparisons) → now ≡ was → Uncounted value old new
    → Uncounted unblocking old new → ArePaidAt value unblocking was now old new
untouched value unblocking was now old new same first second =
    let tries = ap (λ (p : Pin). p.tries) same in
    let unblocking_tries = ap (λ (p : Pin). p.unblocking_tries) same in
    record {
      of_value = omega (arith, tries, first.compares, first.matches, second.matches);
      of_unblocking = omega (arith, unblocking_tries, second.compares, second.matches);
    }

-- where neither PINs nor counts change
pub nothing-paid : (c d : Card) (old new : Comparisons) → d.pins ≡ c.pins → new ≡ old → ArePaid c d old new
nothing-paid c d old new same nothing = record {
  each = λ place within.
      untouched place (PINS + place) (slice_index_or c.pins place no_pin) (slice_index_or d.pins place no_pin) old new
      (ap (λ (pins : List Pin). slice_index_or pins place no_pin) same) (uncounted place) (uncounted (PINS + place));
}
  where
    uncounted : (secret : ℕ) → Uncounted secret old new
    uncounted secret = record {
      compares = ap (λ (k : Comparisons). slice_index k.compares secret) nothing;
      matches = ap (λ (k : Comparisons). slice_index k.matches secret) nothing;
    }

-- one more at a secret
raised-once : (counts : List ℕ) (secret : ℕ) → secret < length counts
    → slice_index (raised counts secret) secret ≡ slice_index counts secret + 1
raised-once counts secret small = get_or-set_same counts secret (slice_index counts secret + 1) 0 small

-- and no more elsewhere
raised-beside : (counts : List ℕ) (secret other : ℕ) → other ≢ secret
    → slice_index (raised counts secret) other ≡ slice_index counts other
raised-beside counts secret other differ = get_or-set_other counts secret other (slice_index counts secret + 1) 0 differ

-- A secret is shown, and its comparison costs a try.
module _ (secret : ℕ) (shown : List ℕ) (was now : Pin) (old new : Comparisons) where
  module _ (costs : CostsATry secret shown was now old new) (counts : HasEachCount old)
      (within : secret < SECRETS) where
    -- another one isn't counted
    beside : (other : ℕ) → other ≢ secret → Uncounted other old new
    beside other differ = record {
      compares = elim costs.compares [
        | inl same ↦ ap (λ (l : List ℕ). slice_index l other) same
        | inr pays ↦ ap (λ (l : List ℕ). slice_index l other) pays.compared
            ∙ raised-beside old.compares secret other differ
      ];
      matches = elim costs.matches [
        | inl same ↦ ap (λ (l : List ℕ). slice_index l other) same
        | inr match ↦ ap (λ (l : List ℕ). slice_index l other) match.matched
            ∙ raised-beside old.matches secret other differ
      ];
    }

    -- its matches: one more, or as many
    matched-once : Matches secret shown was old new
        → slice_index new.matches secret ≡ slice_index old.matches secret + 1
    matched-once match =
        let size = counts.matches in
        let small : secret < length old.matches = omega (arith, within, size) in
        ap (λ (l : List ℕ). slice_index l secret) match.matched ∙ raised-once old.matches secret small

    more-matches : slice_index old.matches secret ≤ slice_index new.matches secret
    more-matches =
        elim costs.matches [
          | inl same ↦ let is = ap (λ (l : List ℕ). slice_index l secret) same in omega (arith, is)
          | inr match ↦ let once = matched-once match in omega (arith, once)
        ]

    -- its tries pay for it: those that are gone, or all of them after one match
    abbrev PaysByTries : Type 0
    PaysByTries =
        (slice_index new.compares secret + tries_left secret now
        ≤ slice_index old.compares secret + tries_left secret was)
        ⊎ ((slice_index new.compares secret + tries_left secret now
        ≤ slice_index old.compares secret + tries_left secret was + full_tries secret)
        × (slice_index new.matches secret ≡ slice_index old.matches secret + 1))

    pays-by-tries : PaysByTries
    pays-by-tries =
        let size = counts.compares in
        let small : secret < length old.compares = omega (arith, within, size) in
        let once = raised-once old.compares secret small in
        elim costs.compares [
          | inl same ↦ let is = ap (λ (l : List ℕ). slice_index l secret) same in elim costs.tries [
            | inl stays ↦ inl (omega (arith, is, stays))
            | inr (inl fewer) ↦ inl (omega (arith, is, fewer))
            | inr (inr fills) ↦ let full = fills.full in inr (omega (arith, is, full), matched-once fills.match_counted)
          ]
          | inr pays ↦ let is = ap (λ (l : List ℕ). slice_index l secret) pays.compared in let left = pays.left in
              elim pays.paid [
                | inl fewer ↦ inl (omega (arith, is, once, fewer))
                | inr fills ↦ let full = fills.full in
                    inr (omega (arith, is, once, full, left), matched-once fills.match_counted)
              ]
        ]

    -- it is a PIN's value
    value-shown : (unblocking : ℕ) → unblocking ≢ secret → secret < PINS → ArePaidAt secret unblocking was now old new
    value-shown unblocking differ value =
        let other = beside unblocking differ in
        let stays = costs.unblocking_tries value in
        let is = is_value secret value in
        let tries_was = ap (λ (b : Bool). if b then was.unblocking_tries else was.tries) is in
        let tries_now = ap (λ (b : Bool). if b then now.unblocking_tries else now.tries) is in
        let full = ap (λ (b : Bool). if b then UNBLOCKING_TRIES else TRIES) is in
        record {
          of_value = elim pays-by-tries [
            | inl gone ↦ omega (arith, gone, more-matches, other.matches, tries_was, tries_now)
            | inr filled ↦ let most = filled.0 in let one = filled.1 in
                omega (arith, most, one, other.matches, tries_was, tries_now, full)
          ];
          of_unblocking = omega (arith, other.compares, other.matches, stays);
        }

    -- it is the value that unblocks a PIN
    unblocking-shown : (value : ℕ) → value ≢ secret → PINS ≤ secret → HasFewTries now
        → ArePaidAt value secret was now old new
    unblocking-shown value differ large few =
        let other = beside value differ in
        let most = few.tries in
        let is = is_unblocking_value secret large in
        let tries_was = ap (λ (b : Bool). if b then was.unblocking_tries else was.tries) is in
        let tries_now = ap (λ (b : Bool). if b then now.unblocking_tries else now.tries) is in
        let full = ap (λ (b : Bool). if b then UNBLOCKING_TRIES else TRIES) is in
        let stays = ap (λ (b : Bool). if b then was.tries else tries_left secret was - 1) is in
        record {
          of_value = elim costs.pin [
            | inl same ↦ let tries = ap (λ (p : Pin). p.tries) same in
                omega (arith, other.compares, other.matches, more-matches, tries)
            | inr (inl charged) ↦ let tries = ap (λ (p : Pin). p.tries) charged ∙ stays in
                omega (arith, other.compares, other.matches, more-matches, tries)
            | inr (inr match) ↦ let one = matched-once match in omega (arith, other.compares, other.matches, one, most)
          ];
          of_unblocking = elim pays-by-tries [
            | inl gone ↦ omega (arith, gone, more-matches, tries_was, tries_now)
            | inr filled ↦ let least = filled.0 in let one = filled.1 in
                omega (arith, least, one, tries_was, tries_now, full)
          ];
        }

-- a PIN that stands for none has no try
pub no-tries : (unblocking : Bool) → (if unblocking then no_pin.unblocking_tries else no_pin.tries) ≡ 0
no-tries true = refl
no-tries false = refl

-- An attempt shows a secret of its PIN.
module _ (c d : Card) (a : Attempt) (old new : Comparisons) (pays : ComparesAttempt a c d old new)
    (of : IsOfItsPin a) where
  abbrev place : ℕ
  place = a.pin - 1

  -- a number that no PIN has: no try is there, and nothing is compared
  no-such-pin : length c.pins ≤ place → ArePaid c d old new
  no-such-pin past =
      let none = get_or_past c.pins place no_pin past in
      let left = ap (λ (p : Pin). tries_left a.secret p) none ∙ no-tries (is_unblocking a.secret) in
      let stays = pays.costs.blocked left in
      nothing-paid c d old new
      (pays.others ∙ ap (λ (p : Pin). slice_set c.pins place p) stays.0 ∙ set-get_or c.pins place no_pin) stays.1

  module _ (counts : HasEachCount old) (few : HasFewTries (pin_of d a.pin)) (within : place < PINS) where
    -- a board counts its secret
    small : a.secret < SECRETS
    small = elim of [
      | inl is ↦ omega (arith, is, within)
      | inr is ↦ omega (arith, is, within)
    ]

    -- its PIN
    shown-paid : ArePaidAt place (PINS + place) (pin_of c a.pin) (pin_of d a.pin) old new
    shown-paid = elim of [
      | inl is ↦
          let value : a.secret < PINS = omega (arith, is, within) in
          let differ : PINS + place ≢ a.secret = omega (arith, is) in
          subst (λ (s : ℕ). ArePaidAt s (PINS + place) (pin_of c a.pin) (pin_of d a.pin) old new) is
          (value-shown a.secret a.shown (pin_of c a.pin) (pin_of d a.pin) old new pays.costs counts small (PINS + place)
          differ value)
      | inr is ↦
          let large : PINS ≤ a.secret = omega (arith, is) in
          let differ : place ≢ a.secret = omega (arith, is) in
          subst (λ (s : ℕ). ArePaidAt place s (pin_of c a.pin) (pin_of d a.pin) old new) is
          (unblocking-shown a.secret a.shown (pin_of c a.pin) (pin_of d a.pin) old new pays.costs counts
          small place differ large few)
    ]

    -- another one
    other-paid : (other : ℕ) → other < PINS → other ≢ place
        → ArePaidAt other (PINS + other) (slice_index_or c.pins other no_pin)
        (slice_index_or d.pins other no_pin) old new
    other-paid other below differ =
        let value : other ≢ a.secret = elim of [
          | inl is ↦ omega (arith, is, differ)
          | inr is ↦ omega (arith, is, below)
        ] in
        let unblocking : PINS + other ≢ a.secret = elim of [
          | inl is ↦ omega (arith, is, within)
          | inr is ↦ omega (arith, is, differ)
        ] in
        let uncounted = beside a.secret a.shown (pin_of c a.pin) (pin_of d a.pin) old new pays.costs counts small in
        untouched other (PINS + other) (slice_index_or c.pins other no_pin) (slice_index_or d.pins other no_pin) old new
        (ap (λ (pins : List Pin). slice_index_or pins other no_pin) pays.others
        ∙ get_or-set_other c.pins place other (pin_of d a.pin) no_pin differ)
        (uncounted other value) (uncounted (PINS + other) unblocking)

    -- each
    each-paid : ArePaid c d old new
    each-paid = record {
      each = λ other below. elim (cases_eq other place) [
        | inl same ↦ subst (λ (k : ℕ). ArePaidAt k (PINS + k) (slice_index_or c.pins k no_pin)
            (slice_index_or d.pins k no_pin) old new) (sym same) shown-paid
        | inr differ ↦ other-paid other below differ
      ];
    }

  -- whatever number the command has for its PIN
  pub attempt-paid : HasEachCount old → HasFewTries (pin_of d a.pin) → length c.pins ≡ PINS → ArePaid c d old new
  attempt-paid counts few eight = elim (cases_lt place PINS) [
    | inl within ↦ each-paid counts few within
    | inr past ↦ let beyond : length c.pins ≤ place = omega (arith, past, eight) in no-such-pin beyond
  ]

-- at a bench
pub paid-few : (old new : BenchState)
    → ArePaid (bench_card old) (bench_card new) (comparisons (bench_facts old)) (comparisons (bench_facts new))
    → GuessesFew old new
paid-few old new paid = record {
  values = λ n least most. let below : n - 1 < PINS = omega (arith, least, most) in (paid.each (n - 1) below).of_value;
  unblocking_values = λ n least most.
      let below : n - 1 < PINS = omega (arith, least, most) in (paid.each (n - 1) below).of_unblocking;
}
