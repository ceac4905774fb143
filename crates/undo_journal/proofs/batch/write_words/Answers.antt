use Rattle.std.proofs.Common.{true, false, ◌==◌, ◌≡◌, ◌<◌, ℕ, List, [], ◌∷◌, length, get_or, drop, sym, ◌∙◌}
use Rattle.std.proofs.Common.{ap, arith, refl, subst}
use Rattle.nvm_board.specs.laws.Aims.{aim_same, aims_kept, aims_then, aims_written}
use Rattle.undo_journal.specs.declared.batch.Waiting.{Waiting}
use Rattle.nvm_board.specs.laws.Sizes.{page_of_run}
use Rattle.nvm_board.specs.laws.SteadyCalls.{answered_ok}
use Rattle.undo_journal.specs.Batches.{overlay, AreSets, runs_from}
use Rattle.undo_journal.specs.JournalParts.{first_words}
use Rattle.undo_journal.specs.laws.Exits.{none_ok}
use Rattle.undo_journal.specs.laws.LastWrites.{last_same, last_then, last_written}
use Rattle.std.proofs.lemmas.List.{nil_from_length}
use Rattle.undo_journal.proofs.Costing.{is-none, is-some}
use Rattle.undo_journal.proofs.Saving.{same-committed, same-none}
use Rattle.undo_journal.proofs.Telling.{answered_after, answered_err, steady_then}
use Rattle.undo_journal.proofs.RunLaws.{turn-few, turn-inside, turn-runs, sets-drop}
use Rattle.undo_journal.proofs.Turning.{turn-torn, turn-same, turn-named, turn-left}
use Rattle.undo_journal.proofs.batch.write_words.Goals as goal

-- what the test of the sets that are left says
some-left : (sets : List Waiting) → false ≡ (length sets == 0) → 0 < length sets
some-left sets is = is-some (length sets) (sym is)

none-left : (sets : List Waiting) → true ≡ (length sets == 0) → sets ≡ []
none-left sets is = nil_from_length sets (is-none (length sets) (sym is))

-- the first set lies in the memory
first-within : (size : ℕ) (sets : List Waiting) (d : Waiting) → 0 < length sets → AreSets size 0 sets
    → (get_or sets 0 d).at < size
first-within size [] d some all = absurd (omega (arith, some))
first-within size (s ∷ rest) d some all = all.0.within

-- the first run has a word
some-words : (sets : List Waiting) → 0 < length sets → 0 < length (first_words sets)
some-words [] some = absurd (omega (arith, some))
some-words (s ∷ rest) some = omega arith

pub write-requires : goal.write-requires
write-requires g c =
    let some = some-left _ c.loop-rest-test.ensures in
    let run = ap (λ (l : List ℕ). length l) (c.deref.ensures.0 ∙ c.first_run-run.ensures) in
    let words : 0 < length c.deref.result.now = omega (arith, run, some-words _ some) in
    let inside = turn-inside c.loop-rest.rest.now (record { at = 0; word = 0 }) some in
    let kept = c.loop-rest.invariant in
    let within = first-within _ c.loop-rest.rest.now (record { at = 0; word = 0 }) some kept.sets in
    record {
      page = page_of_run _ c.page_and_place-page.result.0 c.page_and_place-page.result.1 1
          (g.met.B.Board.is_board c.loop-rest.board).sized (omega arith)
          (omega (arith, within, kept.same.size, c.page_and_place-page.ensures.same));
      some = words;
      run = omega (arith, run, inside, c.page_and_place-page.ensures.same, c.page_and_place-page.ensures.inside);
    }

pub returns-in_err-write-clause-kept : goal.returns-in_err-write-clause-kept
returns-in_err-write-clause-kept g c =
    let some = some-left _ c.loop-rest-test.ensures in
    let kept = c.loop-rest.invariant in
    (turn-torn (g.B.Board.facts c.args.board.now).words (g.B.Board.facts c.loop-rest.board).words c.loop-rest.rest.now
    (record { at = 0; word = 0 }) c.deref.result.now _ some kept.sets kept.named kept.same
    (c.deref.ensures.0 ∙ c.first_run-run.ensures) c.page_and_place-page.ensures.same _
    c.in_err-write.ensures.torn).committed

pub returns-in_err-write-clause-sound : goal.returns-in_err-write-clause-sound
returns-in_err-write-clause-sound g c =
    let some = some-left _ c.loop-rest-test.ensures in
    let kept = c.loop-rest.invariant in
    (turn-torn (g.B.Board.facts c.args.board.now).words (g.B.Board.facts c.loop-rest.board).words c.loop-rest.rest.now
    (record { at = 0; word = 0 }) c.deref.result.now _ some kept.sets kept.named kept.same
    (c.deref.ensures.0 ∙ c.first_run-run.ensures) c.page_and_place-page.ensures.same _
    c.in_err-write.ensures.torn).sound

pub returns-in_err-write-clause-counts : goal.returns-in_err-write-clause-counts
returns-in_err-write-clause-counts g c =
    let some = some-left _ c.loop-rest-test.ensures in
    let kept = c.loop-rest.invariant in
    (turn-torn (g.B.Board.facts c.args.board.now).words (g.B.Board.facts c.loop-rest.board).words c.loop-rest.rest.now
    (record { at = 0; word = 0 }) c.deref.result.now _ some kept.sets kept.named kept.same
    (c.deref.ensures.0 ∙ c.first_run-run.ensures) c.page_and_place-page.ensures.same _
    c.in_err-write.ensures.torn).gates

pub returns-in_err-write-clause-writes : goal.returns-in_err-write-clause-writes
returns-in_err-write-clause-writes g c =
    let kept = c.loop-rest.invariant in
    let wrote = c.in_err-write.ensures in
    let ps = c.loop-rest.rest.now in
    let some = some-left _ c.loop-rest-test.ensures in
    let run = ap (λ (l : List ℕ). length l) (c.deref.ensures.0 ∙ c.first_run-run.ensures) in
    let inside = turn-inside ps (record { at = 0; word = 0 }) some in
    record {
      writes = omega (arith, wrote.counted_err, turn-runs ps some, kept.writes);
      more = omega (arith, wrote.counted_err, kept.more);
      cut = aims_then _ _ _ kept.cut (aims_written _ _ _ _ _ (omega (arith, run, inside)) wrote);
      compares = wrote.compares ∙ kept.compares;
      matches = wrote.matches ∙ kept.matches;
    }

pub split_at-requires : goal.split_at-requires
split_at-requires g c =
    let run = ap (λ (l : List ℕ). length l) c.first_run-run.ensures in
    omega (arith, c.len.ensures.value, run, turn-few c.loop-rest.rest.now)

pub loop-rest-preserved : goal.loop-rest-preserved
loop-rest-preserved g c =
    let some = some-left _ c.loop-rest-test.ensures in
    let kept = c.loop-rest.invariant in
    let ps = c.loop-rest.rest.now in
    let first = (g.B.Board.facts c.args.board.now).words in
    let now = (g.B.Board.facts c.loop-rest.board).words in
    let n = (g.B.Board.facts c.write.new.self).words in
    let is = c.deref.ensures.0 ∙ c.first_run-run.ensures in
    let count : c.len.result ≡ length (first_words ps) =
    c.len.ensures.value ∙ ap (λ (l : List ℕ). length l) c.first_run-run.ensures in
    let after : c.split_at.result.1.now ≡ drop (length (first_words ps)) ps =
    c.split_at.ensures.back ∙ ap (λ (k : ℕ). drop k ps) count in
    let d : Waiting = record { at = 0; word = 0 } in
    let wrote = c.in_ok-write.ensures in
    let run = ap (λ (l : List ℕ). length l) is in
    let inside = turn-inside ps d some in
    record {
      steady = steady_then _ _ _ kept.steady (wrote.light.ok refl);
      few = omega (arith, c.split_at.ensures.back_len, kept.few);
      sets = subst (λ (l : List Waiting). AreSets (length first) 0 l) (sym after)
          (sets-drop (length first) (length (first_words ps)) ps 0 kept.sets);
      named = turn-named first now ps d c.deref.result.now _ some kept.sets kept.named kept.same is
          c.page_and_place-page.ensures.same n wrote.done c.split_at.result.1.now after;
      same = turn-same first now ps d c.deref.result.now _ some kept.sets kept.named kept.same is
          c.page_and_place-page.ensures.same n wrote.done c.split_at.result.1.now after;
      left = turn-left first now ps d c.deref.result.now _ some kept.sets kept.named kept.same is
          c.page_and_place-page.ensures.same n wrote.done c.split_at.result.1.now after ∙ kept.left;
      writes = omega (
        arith,
        wrote.counted,
        turn-runs ps some,
        ap (λ (l : List Waiting). runs_from 0 l) after,
        kept.writes,
      );
      more = omega (arith, wrote.counted, kept.more);
      cut = aims_then _ _ _ kept.cut (aims_written _ _ _ _ _ (omega (arith, run, inside)) wrote);
      compares = wrote.compares ∙ kept.compares;
      matches = wrote.matches ∙ kept.matches;
      between = last_then _ _ _ kept.between (same-committed _ _ kept.same) (last_written _ _ _ _ _ wrote);
    }

pub returns-in_err-write-clause-done : goal.returns-in_err-write-clause-done
returns-in_err-write-clause-done g c = none_ok _ _ _ c.from_residual.ensures.1

pub returns-in_err-write-clause-counted : goal.returns-in_err-write-clause-counted
returns-in_err-write-clause-counted g c = none_ok _ _ _ c.from_residual.ensures.1

pub returns-in_err-write-clause-light : goal.returns-in_err-write-clause-light
returns-in_err-write-clause-light g c =
    answered_err _ _ _ _ c.from_residual.ensures.1
    (answered_after _ _ _ _ c.loop-rest.invariant.steady c.in_err-write.ensures.light)

pub returns-clause-kept : goal.returns-clause-kept
returns-clause-kept g c = c.loop-rest.invariant.same.committed

pub returns-clause-sound : goal.returns-clause-sound
returns-clause-sound g c = c.loop-rest.invariant.same.sound

pub returns-clause-counts : goal.returns-clause-counts
returns-clause-counts g c = c.loop-rest.invariant.same.gates

pub returns-clause-light : goal.returns-clause-light
returns-clause-light g c = answered_ok _ _ _ c.loop-rest.invariant.steady

pub first_run-run-requires-clause-few : goal.first_run-run-requires-clause-few
first_run-run-requires-clause-few g c = c.loop-rest.invariant.few

pub loop-rest-init : goal.loop-rest-init
loop-rest-init g c =
    let lit = c.requires.lit in
    record {
      steady = record { was_lit = lit; lit = lit; faults = refl; cuts = refl; due = refl };
      few = c.requires.few;
      sets = c.requires.sets;
      named = c.requires.named;
      same = same-none _ c.requires.sound;
      left = refl;
      writes = refl;
      more = omega arith;
      cut = aims_kept _ _ refl (aim_same _);
      compares = refl;
      matches = refl;
      between = last_same _;
    }

pub first_run-run-requires-clause-some : goal.first_run-run-requires-clause-some
first_run-run-requires-clause-some g c = some-left _ c.loop-rest-test.ensures

pub returns-clause-done : goal.returns-clause-done
returns-clause-done g c =
    let now = (g.B.Board.facts c.loop-rest.board).words in
    let none = none-left _ c.loop-rest-test.ensures in
    ap (λ (l : List Waiting). overlay l now) (sym none) ∙ c.loop-rest.invariant.left

pub returns-clause-counted : goal.returns-clause-counted
returns-clause-counted g c =
    let none = none-left _ c.loop-rest-test.ensures in
    omega (arith, ap (λ (l : List Waiting). runs_from 0 l) none, c.loop-rest.invariant.writes)

pub returns-clause-writes : goal.returns-clause-writes
returns-clause-writes g c =
    let kept = c.loop-rest.invariant in
    let none = none-left _ c.loop-rest-test.ensures in
    record {
      writes = omega (arith, ap (λ (l : List Waiting). runs_from 0 l) none, kept.writes);
      more = kept.more;
      cut = kept.cut;
      compares = kept.compares;
      matches = kept.matches;
    }

pub returns-in_err-write-clause-between : goal.returns-in_err-write-clause-between
returns-in_err-write-clause-between g c =
    let kept = c.loop-rest.invariant in
    last_then _ _ _ kept.between (same-committed _ _ kept.same) (last_written _ _ _ _ _ c.in_err-write.ensures)

pub returns-clause-between : goal.returns-clause-between
returns-clause-between g c = c.loop-rest.invariant.between
