-- The guess law of a stored memory: with the first device writes of a block, however many, it pays for what the block
-- compares.
use Rattle.std.specs.Prelude.{◌≡◌, ◌⊎◌, ◌<◌, ◌≤◌, ◌+◌, ◌-◌, ℕ, zero, suc, List, ◌∷◌, length, slice_set, take}
use Rattle.std.specs.Prelude.{Bool, if◌then◌else◌, Option, None, Some, Result, Ok, Err}
use Rattle.std.proofs.Common.{arith, ap, inl, inr, subst, sym, ◌∙◌}
use Rattle.std.proofs.lemmas.Bool.{cases_lt}
use Rattle.std.proofs.lemmas.List.{get_or-set_same, get_or_past, take_all}
use Rattle.nvm_board.specs.Aims.{WritesRuns}
use Rattle.nvm_board.specs.Facts.{Facts}
use Rattle.nvm_board.specs.History.{Run, replayed, written}
use Rattle.card_model.specs.declared.status.Sw.{Sw}
use Rattle.card_model.specs.Behaviours.{charged_card}
use Rattle.card_model.specs.CommandTable.{asked}
use Rattle.card_model.specs.Requests.{Request}
use Rattle.card_model.specs.Secrets.{HasFewTries, charged_pin, is_unblocking, tries_left}
use Rattle.card_model.specs.Cards.{Card, Pin}
use Rattle.card_model.specs.PinCommands.{Attempt, no_pin, pin_of}
use Rattle.card_model.specs.Steps.{attempt_of}
use Rattle.card_model.specs.laws.Lawful.{IsOfPin}
use Rattle.card_model.specs.laws.PinLaws.{few-of}
use Rattle.pin_store.specs.laws.Tries.{charged_left, is_value}
use Rattle.command_base.specs.Comparing.{ChargesFirst, Comparisons, ComparesAsked, ComparesAttempt, ComparesShown}
use Rattle.command_base.specs.Comparing.{comparisons}
use Rattle.command_base.specs.Finding.{Finds, HasCard, found}
use Rattle.command_base.specs.laws.FoundLaws.{found_is_proper}
use Rattle.command_base.specs.laws.ShownLaws.{IsOfItsPin, shown-of-pin}
use Rattle.card_start.specs.Running.{card_found}
use Rattle.t1_link.specs.CardTable.{Reaction, replies, runs}
use Rattle.bench_turns.specs.BenchStates.{HasEachCount, off, on}
use Rattle.bench_turns.specs.CardBlocks.{BlockCompares, IsBlockStage, Powered}
use Rattle.bench_turns.specs.Guessing.{EachWritePays, ImagePays, PaysAhead}
use Rattle.bench_turns.proofs.BlockGuesses.{block-pays, eight-pins}
use Rattle.bench_turns.proofs.GuessesPaid.{ArePaid, attempt-paid, no-tries, paid-few}

-- The charge alone costs its try, whatever was compared.
module _ (a : Attempt) (c d : Card) (old new : Comparisons) (pays : ComparesAttempt a c d old new)
    (left : 0 < tries_left a.secret (pin_of c a.pin)) where
  abbrev place : ℕ
  place = a.pin - 1

  -- a PIN with a try left is there
  within : place < length c.pins
  within = elim (cases_lt place (length c.pins)) [
    | inl is ↦ is
    | inr past ↦
        let none = ap (λ (p : Pin). tries_left a.secret p) (get_or_past c.pins place no_pin past)
        ∙ no-tries (is_unblocking a.secret) in
        absurd (omega (arith, left, none))
  ]

  becomes : pin_of (charged_card c a) a.pin ≡ charged_pin a.secret (pin_of c a.pin)
  becomes = get_or-set_same c.pins place (charged_pin a.secret (pin_of c a.pin)) no_pin within

  fewer : tries_left a.secret (pin_of (charged_card c a) a.pin) + 1 ≡ tries_left a.secret (pin_of c a.pin)
  fewer =
      let one = ap (tries_left a.secret) becomes ∙ charged_left a.secret (pin_of c a.pin) in omega (arith, one, left)

  charge-alone : ComparesAttempt a c (charged_card c a) old new
  charge-alone = record {
    costs = record {
      tries = inr (inl fewer);
      compares = elim pays.costs.compares [
        | inl same ↦ inl same
        | inr one ↦ inr (record { compared = one.compared; left = left; paid = inl fewer })
      ];
      matches = pays.costs.matches;
      blocked = λ none. absurd (omega (arith, left, none));
      pin = inr (inl becomes);
      unblocking = ap (λ (p : Pin). p.unblocking) becomes;
      unblocking_tries = λ small.
          ap (λ (p : Pin). p.unblocking_tries) becomes
          ∙ ap (λ (unblocking : Bool). if unblocking then tries_left a.secret (pin_of c a.pin) - 1
          else (pin_of c a.pin).unblocking_tries) (is_value a.secret small);
    };
    others = ap (slice_set c.pins place) (sym becomes);
  }

-- what was written, and what pays for it
abbrev PaidRuns : Powered → Facts → Type 0
PaidRuns old new = (wrote : WritesRuns old.card.facts new)
    × ((comparisons new ≡ comparisons old.card.facts) ⊎ EachWritePays (on old) wrote.runs (comparisons new))

module _ (old : Powered) (new : Facts) (counts : HasEachCount (comparisons old.card.facts))
    (wrote : WritesRuns old.card.facts new) (whole : ImagePays (on old) new.words (comparisons new)) where
  abbrev c : Card
  c = card_found old.card

  -- an attempt of which the charge was the first write
  module _ (a : Attempt) (d : Card) (of : IsOfItsPin a)
      (pays : ComparesAttempt a c d (comparisons old.card.facts) (comparisons new))
      (first : ChargesFirst a c old.card.facts new) where
    abbrev image : List ℕ
    image = written old.card.facts.words first.charge.at first.charge.words

    few : HasFewTries (pin_of (charged_card c a) a.pin)
    few = subst (λ (d : Card). HasFewTries (pin_of d a.pin)) first.charged.card
        (few-of (found image) a.pin (found_is_proper image first.charged.has_card))

    alone-paid : ArePaid c (charged_card c a) (comparisons old.card.facts) (comparisons new)
    alone-paid =
        attempt-paid c (charged_card c a) a (comparisons old.card.facts) (comparisons new)
        (charge-alone a c d (comparisons old.card.facts) (comparisons new) pays first.left) of counts few
        (eight-pins old.card.facts.words)

    -- a memory of the charged card
    charged-pays : (m : List ℕ) → Finds m (charged_card c a) → ImagePays (on old) m (comparisons new)
    charged-pays m finds = record {
      has_card = finds.has_card;
      pays = paid-few (on old) (off _)
          (subst (λ (d : Card). ArePaid c d (comparisons old.card.facts) (comparisons new)) (sym finds.card)
          alone-paid);
    }

    -- the memory with all writes
    all : replayed image first.rest ≡ new.words
    all = ap (λ (runs : List Run). replayed old.card.facts.words runs) (sym first.begins) ∙ sym first.wrote.words

    -- the charge, and so many writes after it
    behind-charge : (j : ℕ) → ImagePays (on old) (replayed image (take j first.rest)) (comparisons new)
    behind-charge j = elim (cases_lt j (length first.rest)) [
      | inl some ↦ charged-pays (replayed image (take j first.rest)) (first.between j some)
      | inr past ↦ subst (λ (m : List ℕ). ImagePays (on old) m (comparisons new))
          (sym (ap (λ (runs : List Run). replayed image runs) (take_all j first.rest past) ∙ all)) whole
    ]

    each-pays : (k : ℕ) → 1 ≤ k → k ≤ length (first.charge ∷ first.rest)
        → ImagePays (on old) (replayed old.card.facts.words (take k (first.charge ∷ first.rest))) (comparisons new)
    each-pays zero some most = absurd (omega (arith, some))
    each-pays (suc j) some most = behind-charge j

    writes-pay : EachWritePays (on old) first.wrote.runs (comparisons new)
    writes-pay = subst (λ (runs : List Run). EachWritePays (on old) runs (comparisons new)) (sym first.begins)
        (record { some = omega arith; each = each-pays })

  shown-ahead : (shown : Option Attempt) (d : Card) → IsOfPin shown → ComparesShown shown c old.card.facts d new
      → PaidRuns old new
  shown-ahead None d of none = (wrote, inl none)
  shown-ahead (Some a) d of compares = elim compares.1 [
    | inl none ↦ (wrote, inl none)
    | inr first ↦ (first.wrote, inr (writes-pay a d of compares.0 first))
  ]

  asked-ahead : (wanted : Result Request Sw) (d : Card) → ComparesAsked wanted c old.card.facts d new
      → PaidRuns old new
  asked-ahead (Ok request) d compares = shown-ahead (attempt_of request) d (shown-of-pin request) compares
  asked-ahead (Err status) d none = (wrote, inl none)

  reaction-ahead : (reaction : Reaction) → BlockCompares old reaction new → PaidRuns old new
  reaction-ahead (replies block) none = (wrote, inl none)
  reaction-ahead (runs command) compares = asked-ahead (asked command) (found new.words) compares

-- a block, whatever comes of it
pub block-ahead : (old new : Powered) (reaction : Reaction) → IsBlockStage old reaction (card_found new.card)
    → BlockCompares old reaction new.card.facts → HasEachCount (comparisons old.card.facts)
    → HasCard new.card.facts.words → WritesRuns old.card.facts new.card.facts → PaysAhead (on old) (on new)
block-ahead old new reaction stage compares counts there wrote =
    let few = paid-few (on old) (on new) (block-pays old new reaction stage compares counts there) in
    let paid = reaction-ahead old new.card.facts counts wrote (record {
      has_card = there;
      pays = record { values = few.values; unblocking_values = few.unblocking_values };
    }) reaction compares in
    record { wrote = paid.0; paid = paid.1 }
