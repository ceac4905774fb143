-- What a write to a page of pairs leaves.
use Rattle.std.specs.Prelude.{◌≡◌, ◌⊎◌, ◌<◌, ◌≤◌, ◌+◌, ◌-◌, ℕ, List, length, slice_index, Err}
use Rattle.std.proofs.Common.{refl, sym, ◌∙◌, ap, inl, inr, ⊎_elim, subst, arith, true≢false}
use Rattle.std.proofs.lemmas.Bool.{cases_lt}
use Rattle.nvm_board.specs.declared.board.DeviceErr.{DeviceErr}
use Rattle.nvm_board.specs.Facts.{Answered, Facts, Steady}
use Rattle.nvm_board.specs.History.{written}
use Rattle.undo_journal.specs.declared.layout.TheConstants.{GATE, JOURNAL, JOURNAL_END}
use Rattle.nvm_board.specs.Torn.{Torn}
use Rattle.nvm_board.specs.laws.Torn.{length-Torn, Torn-elsewhere, written-elsewhere, written-inside}
use Rattle.undo_journal.specs.Undo.{data_words, gate, undo}
use Rattle.undo_journal.specs.laws.Undo.{data_words-same, undo_shut}
use Rattle.undo_journal.specs.Wiping.{ChangesPairs}

pub changes_none : (m : List ℕ) → ChangesPairs m m
changes_none m = record { size = refl; others = λ k out. refl }

-- a page of pairs is written, or torn
pub changes_page : (m mid after run : List ℕ) (at : ℕ) → JOURNAL ≤ at → at + length run ≤ JOURNAL_END
    → ChangesPairs m mid → Torn mid at run after → ChangesPairs m after
changes_page m mid after run at low high was torn = record {
  size = length-Torn mid run after at torn ∙ was.size;
  others = λ k out. Torn-elsewhere mid run after at k torn (⊎_elim
      (λ (before : k < JOURNAL). let x : k < at = omega (arith, before, low) in inl x)
      (λ (past : JOURNAL_END ≤ k). let x : at + length run ≤ k = omega (arith, past, high) in inr x) out)
      ∙ was.others k out;
}

-- no pair counts after it, where none did
pub gate_same : (m after : List ℕ) → ChangesPairs m after → gate after ≡ gate m
gate_same m after changes = let x : GATE < JOURNAL = omega arith in changes.others GATE (inl x)

-- so the data words are the same
pub data_same : (m after : List ℕ) → ChangesPairs m after → gate m ≡ 0
    → data_words (undo after) ≡ data_words (undo m)
data_same m after changes shut =
    let shut_after : gate after ≡ 0 = gate_same m after changes ∙ shut in
    ap data_words (undo_shut after shut_after)
    ∙ data_words-same after m changes.size (λ k lt out. changes.others k (⊎_elim
    (λ (before : k < GATE). let x : k < JOURNAL = omega (arith, before) in inl x)
    (λ (past : JOURNAL_END ≤ k). inr past) out))
    ∙ sym (ap data_words (undo_shut m shut))

-- the pairs of one page more are 0
pub wiped_more : (mid after run : List ℕ) (at : ℕ) → at + length run ≤ length mid
    → ((j : ℕ) → j < length run → slice_index run j ≡ 0) → after ≡ written mid at run
    → ((k : ℕ) → JOURNAL ≤ k → k < at → slice_index mid k ≡ 0)
    → (k : ℕ) → JOURNAL ≤ k → k < at + length run → slice_index after k ≡ 0
wiped_more mid after run at fits zeros is was k low high =
    ap (λ (l : List ℕ). slice_index l k) is ∙ ⊎_elim
    (λ (before : k < at). written-elsewhere mid run at k (inl before) ∙ was k low before)
    (λ (from : at ≤ k).
    let place : k ≡ at + (k - at) = omega (arith, from) in
    let inside : k - at < length run = omega (arith, from, high) in
    ap (λ (j : ℕ). slice_index (written mid at run) j) place ∙ written-inside mid run at (k - at) fits inside
    ∙ zeros (k - at) inside)
    (cases_lt k at)

-- one write more, by a board that was lit or was not written to yet
pub steady_then : (old mid new : Facts) → (mid ≡ old) ⊎ Steady old mid → Steady mid new → Steady old new
steady_then old mid new was is = ⊎_elim
    (λ (same : mid ≡ old). subst (λ (f : Facts). Steady f new) same is)
    (λ (steady : Steady old mid). record {
      was_lit = steady.was_lit;
      lit = is.lit;
      faults = is.faults ∙ steady.faults;
      cuts = is.cuts ∙ steady.cuts;
      due = is.due ∙ steady.due;
    }) was

pub answered_since : (T : Type 0) (old mid new : Facts) (e : DeviceErr) → (mid ≡ old) ⊎ Steady old mid
    → Answered {T = T} mid new (Err e) → Answered {T = T} old new (Err e)
answered_since T old mid new e was is = ⊎_elim
    (λ (same : mid ≡ old). subst (λ (f : Facts). Answered {T = T} f new (Err e)) same is)
    (λ (steady : Steady old mid).
    let faults = steady.faults in let cuts = steady.cuts in let due = steady.due in record {
      ok = λ h. absurd (true≢false (sym h));
      lost = λ h. ⊎_elim
          (λ goes. let more = goes.cuts in inl (record {
            was_lit = steady.was_lit;
            dark = goes.dark;
            faults = goes.faults ∙ faults;
            cuts = omega (arith, more, cuts);
            due = ⊎_elim
                (λ one. let x : old.due ≡ new.due + 1 = omega (arith, one, due) in inl x)
                (λ worn. inr (worn.0, worn.1 ∙ due)) goes.due;
          }))
          (λ off. absurd (true≢false (sym off.0 ∙ steady.lit)))
          (is.lost h);
      fault = λ h.
          let fails = is.fault h in let more = fails.faults in record {
            was_lit = steady.was_lit;
            lit = fails.lit;
            faults = omega (arith, more, faults);
            cuts = fails.cuts ∙ cuts;
            due = fails.due ∙ due;
          };
    }) was
