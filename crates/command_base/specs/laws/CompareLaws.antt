-- Where nothing was compared.
use Rattle.std.proofs.Common.{◌≡◌, ◌-◌, ℕ, List, slice_set, Option, Some, None, Result, Ok, Err, sym, ◌∙◌, ap, inl}
use Rattle.std.proofs.Common.{arith, subst}
use Rattle.std.specs.Prelude.{take}
use Rattle.std.proofs.Math.Logic.{⊎_map}
use Rattle.std.proofs.lemmas.List.{set-get_or}
use Rattle.card_model.specs.declared.status.Sw.{Sw}
use Rattle.nvm_board.specs.Facts.{Facts}
use Rattle.nvm_board.specs.History.{Log, Run, and_runs, replayed, written}
use Rattle.undo_journal.specs.Spending.{KeepsBoard}
use Rattle.card_model.specs.Requests.{Request}
use Rattle.card_model.specs.Secrets.{tries_left}
use Rattle.card_model.specs.Cards.{Card, Pin}
use Rattle.card_model.specs.Steps.{attempt_of}
use Rattle.command_base.specs.Comparing.{ChargesFirst, Comparisons, ComparesAsked, ComparesAttempt, ComparesBy}
use Rattle.command_base.specs.Comparing.{ComparesNothing, ComparesShown, CostsATry, comparisons}
use Rattle.card_model.specs.Behaviours.{no_pin, pin_of, Attempt, charged_card}
use Rattle.command_base.specs.Finding.{Finds}

-- where no word changed, and nothing was compared, no try was paid for
pub costs-nothing : (secret : ℕ) (shown : List ℕ) (pin now : Pin) (old new : Comparisons) → now ≡ pin → new ≡ old
    → CostsATry secret shown pin now old new
costs-nothing secret shown pin now old new same nothing = record {
  tries = inl (ap (tries_left secret) same);
  compares = inl (ap (λ (k : Comparisons). k.compares) nothing);
  matches = inl (ap (λ (k : Comparisons). k.matches) nothing);
  blocked = λ _. (same, nothing);
  pin = inl same;
  unblocking = ap (λ (p : Pin). p.unblocking) same;
  unblocking_tries = λ _. ap (λ (p : Pin). p.unblocking_tries) same;
}

shown-none : (shown : Option Attempt) (c : Card) (old : Facts) (d : Card) (new : Facts) → d ≡ c
    → ComparesNothing (comparisons old) (comparisons new) → ComparesShown shown c old d new
shown-none None c old d new same nothing = nothing
shown-none (Some a) c old d new same nothing = (
  record {
    costs = costs-nothing a.secret a.shown (pin_of c a.pin) (pin_of d a.pin) (comparisons old) (comparisons new)
        (ap (λ (e : Card). pin_of e a.pin) same) nothing;
    others = ap (λ (e : Card). e.pins) same ∙ sym (set-get_or c.pins (a.pin - 1) no_pin)
        ∙ ap (λ (e : Card). slice_set c.pins (a.pin - 1) (pin_of e a.pin)) (sym same);
  },
  inl nothing,
)

-- and no request compared anything
pub compares-none : (request : Request) (c : Card) (old : Facts) (d : Card) (new : Facts) → d ≡ c
    → ComparesNothing (comparisons old) (comparisons new) → ComparesBy request c old d new
compares-none request = shown-none (attempt_of request)

-- nor did any command
pub asked-none : (wanted : Result Request Sw) (c : Card) (old : Facts) (d : Card) (new : Facts) → d ≡ c
    → ComparesNothing (comparisons old) (comparisons new) → ComparesAsked wanted c old d new
asked-none (Ok request) c old d new same nothing = compares-none request c old d new same nothing
asked-none (Err status) c old d new same nothing = nothing

-- reads before an attempt are not among its writes
charged-after : (a : Attempt) (c : Card) (old mid new : Facts) → KeepsBoard old mid → ChargesFirst a c mid new
    → ChargesFirst a c old new
charged-after a c old mid new reads first = record {
  left = first.left;
  wrote = record {
    runs = first.wrote.runs;
    words = first.wrote.words ∙ ap (λ (m : List ℕ). replayed m first.wrote.runs) reads.words;
    log = first.wrote.log ∙ ap (λ (l : Option Log). and_runs l first.wrote.runs) reads.cut.log;
    counted = let counted = first.wrote.counted in let more = reads.cut.more in omega (arith, counted, more);
  };
  charge = first.charge;
  rest = first.rest;
  begins = first.begins;
  charged = subst (λ (m : List ℕ). Finds (written m first.charge.at first.charge.words) (charged_card c a)) reads.words
      first.charged;
  between = λ k lt. subst
      (λ (m : List ℕ). Finds (replayed (written m first.charge.at first.charge.words) (take k first.rest))
      (charged_card c a)) reads.words (first.between k lt);
}

counts-kept : (old mid : Facts) → KeepsBoard old mid → comparisons mid ≡ comparisons old
counts-kept old mid reads i = record { compares = reads.compares i; matches = reads.matches i }

shown-after : (shown : Option Attempt) (c : Card) (old mid : Facts) (d : Card) (new : Facts) → KeepsBoard old mid
    → ComparesShown shown c mid d new → ComparesShown shown c old d new
shown-after None c old mid d new reads compares = compares ∙ counts-kept old mid reads
shown-after (Some a) c old mid d new reads compares = (
  subst (λ (k : Comparisons). ComparesAttempt a c d k (comparisons new)) (counts-kept old mid reads) compares.0,
  ⊎_map (λ none. none ∙ counts-kept old mid reads) (λ first. charged-after a c old mid new reads first) compares.1,
)

-- nor are those before a request compared
pub compares-after : (request : Request) (c : Card) (old mid : Facts) (d : Card) (new : Facts) → KeepsBoard old mid
    → ComparesBy request c mid d new → ComparesBy request c old d new
compares-after request = shown-after (attempt_of request)
