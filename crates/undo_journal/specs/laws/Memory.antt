-- Laws of a store's value: how calls in a row report and what they spend.
use Rattle.std.specs.Prelude.{Option, Some, None}
use Rattle.std.proofs.Common.{◌≡◌, ◌+◌, ℕ, List, [], ◌∷◌, length, slice_set, refl, sym, ◌∙◌, ap, subst, arith}
use Rattle.std.proofs.Math.ListN.{length-set}
use Rattle.std.proofs.Math.Logic.{⊎_map}
use Rattle.nvm_board.specs.Facts.{Facts}
use Rattle.nvm_board.specs.laws.Aims.{aims_then}
use Rattle.undo_journal.specs.declared.error.StoreErr.{StoreErr}
use Rattle.undo_journal.specs.declared.error.StoreErr.TheVariants.{PowerLost, Fault}
use Rattle.undo_journal.specs.declared.batch.Waiting.{Waiting}
use Rattle.undo_journal.specs.Batches.{overlay}
use Rattle.undo_journal.specs.Undo.{undo}
use Rattle.undo_journal.specs.laws.Undo.{length-undo, length-data_words}
use Rattle.undo_journal.specs.Spending.{WritesAtMost}
use Rattle.undo_journal.specs.Memory.{Memory, committed, current, SameLight, FailsBy, Reports}

pub length-committed : (m : Memory) → length (committed m) ≡ length m.facts.words
length-committed m = length-data_words (undo m.facts.words) ∙ length-undo m.facts.words

-- those that wait are no more words
pub length-overlay : (sets : List Waiting) (m : List ℕ) → length (overlay sets m) ≡ length m
length-overlay [] m = refl
length-overlay (s ∷ rest) m = length-overlay rest (slice_set m s.at s.word) ∙ length-set m s.at s.word

pub length-current : (m : Memory) → length (current m) ≡ length m.facts.words
length-current m = length-data_words (overlay m.waiting m.facts.words) ∙ length-overlay m.waiting m.facts.words

-- the two lists are of one length, so that what keeps one keeps the length of both
pub current_size : (m : Memory) → length (current m) ≡ length (committed m)
current_size m = length-current m ∙ sym (length-committed m)

-- calls in a row cost what each costs
pub writes_then : (i n : ℕ) (a b c : Facts) → WritesAtMost i a b → WritesAtMost n b c → WritesAtMost (i + n) a c
writes_then i n a b c first rest = record {
  writes = omega (arith, first.writes, rest.writes);
  more = omega (arith, first.more, rest.more);
  cut = aims_then a b c first.cut rest.cut;
  compares = rest.compares ∙ first.compares;
  matches = rest.matches ∙ first.matches;
}

-- no call at all
pub reports_same : (m : Memory) → Reports m m
reports_same m = record {
  stuck = λ e h. (h, refl);
  works = λ h. (h, record { dark = refl; faults = refl; cuts = refl; due = refl });
  fails = λ e works fails. let none : m.failed ≡ None = works in let some : m.failed ≡ Some e = fails in cc;
  sound = λ h. h;
}

-- a failure after calls that changed nothing of the light
FailsBy-after : (e : StoreErr) (a b c : Facts) → SameLight a b → FailsBy e b c → FailsBy e a c
FailsBy-after PowerLost a b c same dark = record {
  was_lit = sym same.dark ∙ dark.was_lit;
  dark = dark.dark;
  faults = dark.faults ∙ same.faults;
  cuts = dark.cuts ∙ ap (λ (n : ℕ). n + 1) same.cuts;
  due = ⊎_map (λ cut. sym same.due ∙ cut) (λ worn. (worn.0, worn.1 ∙ same.due)) dark.due;
}
FailsBy-after Fault a b c same fault = record {
  was_lit = sym same.dark ∙ fault.was_lit;
  lit = fault.lit;
  faults = fault.faults ∙ ap (λ (n : ℕ). n + 1) same.faults;
  cuts = fault.cuts ∙ same.cuts;
  due = fault.due ∙ same.due;
}

-- calls in a row
pub reports_then : (a b c : Memory) → Reports a b → Reports b c → Reports a c
reports_then a b c first rest = record {
  stuck = λ e h.
      let between = first.stuck e h in
      let after = rest.stuck e between.0 in
      (after.0, after.1 ∙ between.1);
  works = λ h.
      let after = rest.works h in
      let between = first.works after.0 in (
        between.0,
        record {
          dark = after.1.dark ∙ between.1.dark;
          faults = after.1.faults ∙ between.1.faults;
          cuts = after.1.cuts ∙ between.1.cuts;
          due = after.1.due ∙ between.1.due;
        },
      );
  fails = λ e works fails. at_failure e works fails b.failed refl;
  sound = λ h. rest.sound (first.sound h);
}
  where
    at_failure : (e : StoreErr) → a.failed ≡ None → c.failed ≡ Some e → (f : Option StoreErr) → b.failed ≡ f
        → FailsBy e a.facts c.facts
    at_failure e works fails None h = FailsBy-after e a.facts b.facts c.facts (first.works h).1 (rest.fails e h fails)
    at_failure e works fails (Some x) h =
        let after = rest.stuck x h in
        let failed : c.failed ≡ Some x = after.0 in
        let same : x ≡ e = cc in
        let family : Facts → Type 0 = λ f. FailsBy e a.facts f in
        subst family (sym after.1) (first.fails e works (h ∙ ap (λ (y : StoreErr). Some y) same))
