use Rattle.std.proofs.Common.{◌+◌, sym, ap, ◌∙◌, subst}
use Rattle.undo_journal.specs.Undo.{gate, data_words}
use Rattle.undo_journal.specs.Memory.{Memory, committed}
use Rattle.undo_journal.specs.Spending.{WritesAtMost, rollback_writes}
use Rattle.undo_journal.specs.Commits.{CommitsLast}
use Rattle.undo_journal.specs.laws.LastWrites.{last_still}
use Rattle.undo_journal.specs.laws.Undo.{gate_undone}
use Rattle.std.proofs.lemmas.Result.{on_ok_weaker}
use Rattle.undo_journal.proofs.Standing.{new-idle, new-fits}
use Rattle.undo_journal.proofs.Noted.{on_ok, on_dark, failed_before, noted-true, noted-changes}
use Rattle.undo_journal.specs.laws.Exits.{none_ok, ok_anyway}
use Rattle.undo_journal.proofs.store.Store.abandon.Goals as goal

pub returns-in_err-checked-clause-store : goal.returns-in_err-checked-clause-store
returns-in_err-checked-clause-store g c =
    let fresh = c.new-self-inside.ensures in
    failed_before _ _ _ _ _ _ _ c.self.view_is (new-idle _ _ fresh.used fresh.waiting) c.from_residual.ensures.1
    c.in_err-checked.ensures.tells

pub invariant_of-self-2 : goal.invariant_of-self-2
invariant_of-self-2 g c =
    let words = (g.B.Board.facts c.self.inside.board).words in
    let undone = c.roll_back-answer.ensures in
    let fresh = c.new-self-inside.ensures in
    noted-true _ _ _ c.self.view_is c.self.invariant c.in_ok-checked.ensures.ready.works _ _ c.noted.ensures.answer
    c.noted.ensures.failed undone.light undone.sound
    (on_ok_weaker c.roll_back-answer.result
    (λ done. ap gate done ∙ gate_undone words ∙ sym fresh.used) undone.done)
    (ok_anyway _ _ (new-fits _ _ _ fresh.used fresh.waiting))

pub returns-clause-store : goal.returns-clause-store
returns-clause-store g c =
    let before = g.B.Board.facts c.self.inside.board in
    let after = g.B.Board.facts c.roll_back-answer.new.board in
    let undone = c.roll_back-answer.ensures in
    let fresh = c.new-self-inside.ensures in
    noted-changes _ _ _ c.self.view_is c.self.invariant c.in_ok-checked.ensures.ready.works _ _ c.noted.ensures.answer
    c.noted.ensures.failed undone.light _ (g.met.B.Board.is_board _).sized
    (g.met.B.Board.is_board _).words_fit undone.sound
    (on_ok_weaker c.roll_back-answer.result
    (λ done. ap gate done ∙ gate_undone before.words) undone.done) (new-idle _ _ fresh.used fresh.waiting)
    (subst (λ (m : Memory). WritesAtMost (rollback_writes m.used) before after) c.self.view_is undone.writes)

pub returns-clause-dark : goal.returns-clause-dark
returns-clause-dark g c = on_dark _ _ c.noted.ensures.answer _ _ c.roll_back-answer.ensures.light

pub returns-clause-counted : goal.returns-clause-counted
returns-clause-counted g c =
    on_ok _ _ c.noted.ensures.answer _ _
    (λ counted. counted ∙ ap (λ (m : Memory). m.facts.writes + rollback_writes m.used) c.self.view_is)
    c.roll_back-answer.ensures.counted

pub returns-in_err-checked-clause-counted : goal.returns-in_err-checked-clause-counted
returns-in_err-checked-clause-counted g c = none_ok _ _ _ c.from_residual.ensures.1

pub returns-in_err-checked-clause-done : goal.returns-in_err-checked-clause-done
returns-in_err-checked-clause-done g c = none_ok _ _ _ c.from_residual.ensures.1

pub returns-in_err-checked-clause-kept : goal.returns-in_err-checked-clause-kept
returns-in_err-checked-clause-kept g c = ap committed c.self.view_is

pub roll_back-answer-requires-clause-sound : goal.roll_back-answer-requires-clause-sound
roll_back-answer-requires-clause-sound g c =
    let works = c.in_ok-checked.ensures.ready.works in
    let held = c.self.invariant.works (ap (λ (m : Memory). m.failed) c.self.view_is ∙ works) in
    held.sound

pub roll_back-answer-requires-clause-counts : goal.roll_back-answer-requires-clause-counts
roll_back-answer-requires-clause-counts g c =
    let works = c.in_ok-checked.ensures.ready.works in
    let held = c.self.invariant.works (ap (λ (m : Memory). m.failed) c.self.view_is ∙ works) in
    held.counts

pub roll_back-answer-requires-clause-lit : goal.roll_back-answer-requires-clause-lit
roll_back-answer-requires-clause-lit g c =
    let works = c.in_ok-checked.ensures.ready.works in
    let held = c.self.invariant.works (ap (λ (m : Memory). m.failed) c.self.view_is ∙ works) in
    held.lit

pub returns-clause-kept : goal.returns-clause-kept
returns-clause-kept g c = ap data_words c.roll_back-answer.ensures.kept ∙ ap committed c.self.view_is

pub returns-in_err-checked-clause-between : goal.returns-in_err-checked-clause-between
returns-in_err-checked-clause-between g c = last_still _ _ (ap (λ (m : Memory). m.facts) c.self.view_is)

pub returns-clause-between : goal.returns-clause-between
returns-clause-between g c =
    subst (λ (m : Memory). CommitsLast m.facts (g.B.Board.facts c.roll_back-answer.new.board)) c.self.view_is
    c.roll_back-answer.ensures.between
