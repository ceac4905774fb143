use Rattle.std.proofs.Common.{◌≡◌, ◌<◌, ◌≤◌, ◌+◌, None, length, slice_set, refl, sym, subst, ap, ◌∙◌, arith}
use Rattle.std.proofs.Math.Logic.{⊎_map}
use Rattle.undo_journal.specs.declared.batch.TheConstants.{BATCH}
use Rattle.undo_journal.specs.declared.batch.Waiting.{Waiting}
use Rattle.undo_journal.specs.Batches.{with_set, batch_writes}
use Rattle.undo_journal.specs.Memory.{Memory, committed, current, taken, InRuns, ContinuesRun}
use Rattle.undo_journal.specs.laws.Exits.{none_ok, error_tells}
use Rattle.undo_journal.specs.laws.Memory.{reports_same}
use Rattle.std.proofs.lemmas.Result.{on_ok_weaker}
use Rattle.undo_journal.proofs.Standing.{board-place, held-fits}
use Rattle.undo_journal.proofs.Noted.{done_unfailed, on_ok, on_dark, noted_tells, noted-true, noted-open, noted-reports}
use Rattle.undo_journal.specs.Memory.{set_writes}
use Rattle.undo_journal.specs.Spending.{WritesAtMost}
use Rattle.undo_journal.specs.Commits.{CommitsLast}
use Rattle.undo_journal.specs.laws.LastWrites.{last_same}
use Rattle.undo_journal.specs.Undo.{gate}
use Rattle.undo_journal.specs.laws.Calls.{reads_runs, reads_same, within_more}
use Rattle.undo_journal.specs.laws.Transactions.{stays_spends}
use Rattle.undo_journal.proofs.store.Store.set.Goals as goal

pub add-answer-requires-clause-place : goal.add-answer-requires-clause-place
add-answer-requires-clause-place g c =
    board-place c.args.self.now _ c.args.at (ap (λ (m : Memory). m.facts.words) c.self.view_is) c.requires.place

pub returns-in_err-check-clause-tells : goal.returns-in_err-check-clause-tells
returns-in_err-check-clause-tells g c = error_tells _ _ _ c.from_residual.ensures.1 c.in_err-check.ensures.tells

pub returns-in_err-check-clause-reports : goal.returns-in_err-check-clause-reports
returns-in_err-check-clause-reports g c = reports_same _

pub invariant_of-self : goal.invariant_of-self
invariant_of-self g c =
    let set = c.add-answer.ensures in
    noted-true _ _ _ c.self.view_is c.self.invariant c.in_ok-check.ensures.ready.works _ _ c.noted.ensures.answer
    c.noted.ensures.failed set.light set.sound (on_ok_weaker c.add-answer.result (λ held. held.counts) set.held)
    (on_ok_weaker c.add-answer.result (λ held. held-fits _ _ _ held) set.held)

pub returns-clause-ready : goal.returns-clause-ready
returns-clause-ready g c =
    noted-open _ _ _ c.self.view_is c.self.invariant c.in_ok-check.ensures.ready.works _ _ c.noted.ensures.answer
    c.noted.ensures.failed c.add-answer.ensures.light (g.met.B.Board.is_board _).sized
    (g.met.B.Board.is_board _).words_fit
    (on_ok_weaker c.add-answer.result (λ held. held-fits _ _ _ held) c.add-answer.ensures.held)

pub returns-clause-reports : goal.returns-clause-reports
returns-clause-reports g c =
    let set = c.add-answer.ensures in
    noted-reports _ _ _ c.self.view_is c.self.invariant c.in_ok-check.ensures.ready.works _ _ c.noted.ensures.answer
    c.noted.ensures.failed set.light set.sound

pub returns-clause-tells : goal.returns-clause-tells
returns-clause-tells g c =
    noted_tells _ _ _ (ap (λ (m : Memory). m.failed) c.self.view_is ∙ c.in_ok-check.ensures.ready.works)
    c.noted.ensures.failed

pub returns-clause-dark : goal.returns-clause-dark
returns-clause-dark g c = on_dark _ _ c.noted.ensures.answer _ _ c.add-answer.ensures.light

pub returns-in_err-check-clause-done : goal.returns-in_err-check-clause-done
returns-in_err-check-clause-done g c = none_ok _ _ _ c.from_residual.ensures.1

pub returns-clause-kept : goal.returns-clause-kept
returns-clause-kept g c = c.add-answer.ensures.kept ∙ ap committed c.self.view_is

pub returns-clause-done : goal.returns-clause-done
returns-clause-done g c =
    on_ok _ _ c.noted.ensures.answer _ _
    (λ done. done ∙ ap (λ (m : Memory). slice_set (current m) c.args.at c.args.word) c.self.view_is)
    c.add-answer.ensures.done

pub returns-clause-runs : goal.returns-clause-runs
returns-clause-runs g c =
    let runs = c.add-answer.ensures.runs in
    let new : Memory = record {
      facts = g.B.Board.facts c.add-answer.new.board;
      failed = c.noted.new.failed;
      used = c.add-answer.new.batch.used;
      waiting = c.add-answer.new.batch.waiting.items;
    } in
    subst (λ (m : Memory). InRuns 1 m new) c.self.view_is
    (record {
      writes = runs.writes;
      more = runs.more;
      cut = runs.cut;
      compares = runs.compares;
      matches = runs.matches;
    })

pub returns-clause-goes_on : goal.returns-clause-goes_on
returns-clause-goes_on g c = λ goes.
    let runs = c.add-answer.ensures.goes_on (subst (λ (m : Memory). ContinuesRun m c.args.at)
    (sym c.self.view_is) goes) in
    let new : Memory = record {
      facts = g.B.Board.facts c.add-answer.new.board;
      failed = c.noted.new.failed;
      used = c.add-answer.new.batch.used;
      waiting = c.add-answer.new.batch.waiting.items;
    } in
    subst (λ (m : Memory). InRuns 0 m new) c.self.view_is
    (record {
      writes = runs.writes;
      more = runs.more;
      cut = runs.cut;
      compares = runs.compares;
      matches = runs.matches;
    })

pub returns-clause-joins : goal.returns-clause-joins
returns-clause-joins g c =
    let set : Waiting = record { at = c.args.at; word = c.args.word } in
    on_ok _ _ c.noted.ensures.answer _ _
    (⊎_map
    (λ waits. record {
      few = subst (λ (m : Memory). length (with_set set m.waiting) < BATCH) c.self.view_is waits.few;
      waiting = waits.waiting ∙ ap (λ (m : Memory). with_set set m.waiting) c.self.view_is;
      used = waits.used ∙ ap (λ (m : Memory). m.used) c.self.view_is;
      facts = waits.facts ∙ ap (λ (m : Memory). m.facts) c.self.view_is;
    })
    (λ fills. record {
      full = ap (λ (m : Memory). length (with_set set m.waiting)) (sym c.self.view_is) ∙ fills.full;
      waiting = fills.waiting;
      used = fills.used ∙ ap (λ (m : Memory). m.used + BATCH) c.self.view_is;
      writes = fills.writes ∙ ap (λ (m : Memory). m.facts.writes + batch_writes
          (with_set set m.waiting)) c.self.view_is;
    }))
    c.add-answer.ensures.joins

pub returns-in_err-check-clause-spends : goal.returns-in_err-check-clause-spends
returns-in_err-check-clause-spends g c = within_more 0 _ _ _ (omega arith) (stays_spends _ _ refl)

pub returns-clause-spends : goal.returns-clause-spends
returns-clause-spends g c =
    let set : Waiting = record { at = c.args.at; word = c.args.word } in
    subst (λ (m : Memory). WritesAtMost (set_writes set m) m.facts (g.B.Board.facts c.add-answer.new.board))
    c.self.view_is c.add-answer.ensures.spends

pub returns-in_err-check-clause-joins : goal.returns-in_err-check-clause-joins
returns-in_err-check-clause-joins g c = none_ok _ _ _ c.from_residual.ensures.1

pub returns-in_err-check-clause-next : goal.returns-in_err-check-clause-next
returns-in_err-check-clause-next g c = none_ok _ _ _ c.from_residual.ensures.1

pub returns-in_err-check-clause-ready : goal.returns-in_err-check-clause-ready
returns-in_err-check-clause-ready g c = none_ok _ _ _ c.from_residual.ensures.1

pub returns-in_err-check-clause-kept : goal.returns-in_err-check-clause-kept
returns-in_err-check-clause-kept g c = refl

pub returns-in_err-check-clause-room : goal.returns-in_err-check-clause-room
returns-in_err-check-clause-room g c = omega arith

pub returns-in_err-check-clause-taken : goal.returns-in_err-check-clause-taken
returns-in_err-check-clause-taken g c = omega arith

pub returns-in_err-check-clause-runs : goal.returns-in_err-check-clause-runs
returns-in_err-check-clause-runs g c = reads_runs 1 _ _ (reads_same _)

pub returns-in_err-check-clause-goes_on : goal.returns-in_err-check-clause-goes_on
returns-in_err-check-clause-goes_on g c = λ goes. reads_runs 0 _ _ (reads_same _)

pub add-answer-requires-clause-held : goal.add-answer-requires-clause-held
add-answer-requires-clause-held g c =
    c.self.invariant.works (ap (λ (m : Memory). m.failed) c.self.view_is ∙ c.in_ok-check.ensures.ready.works)

pub add-answer-requires-clause-room : goal.add-answer-requires-clause-room
add-answer-requires-clause-room g c = omega (arith, ap taken c.self.view_is, c.requires.room)

pub returns-clause-room : goal.returns-clause-room
returns-clause-room g c = omega (arith, ap taken c.self.view_is, c.add-answer.ensures.taken)

pub returns-clause-taken : goal.returns-clause-taken
returns-clause-taken g c = omega (arith, ap taken c.self.view_is, c.add-answer.ensures.taken)

pub returns-clause-next : goal.returns-clause-next
returns-clause-next g c = on_ok _ _ c.noted.ensures.answer _ _ (λ next. next) c.add-answer.ensures.next

pub returns-in_err-check-clause-rises : goal.returns-in_err-check-clause-rises
returns-in_err-check-clause-rises g c = λ shut. (shut, omega arith, λ works. omega arith)

pub returns-clause-rises : goal.returns-clause-rises
returns-clause-rises g c =
    let after = g.B.Board.facts c.add-answer.new.board in
    let tells = returns-clause-tells g c in λ shut.
    let early = c.add-answer.ensures.rises shut in
    let few = on_ok _ _ c.noted.ensures.answer _ _ (λ less. less) early.2 in
    subst (λ (m : Memory). (gate m.facts.words ≡ 0) × (after.writes ≤ m.facts.writes + 2)
    × (c.noted.new.failed ≡ None → after.writes ≤ m.facts.writes)) c.self.view_is
    (early.0, early.1, λ works. done_unfailed _ c.noted.result c.noted.new.failed tells works few)

pub returns-in_err-check-clause-between : goal.returns-in_err-check-clause-between
returns-in_err-check-clause-between g c = last_same _

pub returns-clause-between : goal.returns-clause-between
returns-clause-between g c =
    subst (λ (m : Memory). CommitsLast m.facts (g.B.Board.facts c.add-answer.new.board)) c.self.view_is
    c.add-answer.ensures.between
