use Rattle.std.proofs.Common.{◌≡◌, ◌⊎◌, ℕ, List, arith, inl, refl, sym, ap, ◌∙◌, subst}
use Rattle.std.specs.Prelude.{if◌then◌else◌, OnErr}
use Rattle.nvm_board.specs.BoardCalls.{CountsMatch}
use Rattle.nvm_board.specs.Facts.{RisesAt, raised}
use Rattle.undo_journal.specs.Batches.{overlay}
use Rattle.undo_journal.specs.Undo.{gate, undo, data_words, IsSound}
use Rattle.undo_journal.specs.Memory.{Memory, committed, current, taken}
use Rattle.nvm_board.specs.Aims.{AimStays}
use Rattle.nvm_board.specs.laws.Aims.{aim_same}
use Rattle.undo_journal.specs.laws.Calls.{reads_same}
use Rattle.undo_journal.specs.laws.Exits.{error_tells, none_ok, ok_anyway, err_anyway}
use Rattle.undo_journal.specs.laws.Memory.{reports_same}
use Rattle.undo_journal.proofs.Standing.{held-kept, ready-from}
use Rattle.std.proofs.lemmas.Result.{on_ok_weaker}
use Rattle.undo_journal.proofs.Noted.{if_ok, on_ok, on_err, on_dark, noted_tells, noted-true, noted-open}
use Rattle.undo_journal.proofs.Noted.{noted-reports}
use Rattle.undo_journal.proofs.store.Store.compare.Goals as goal

pub returns-in_err-check-clause-tells : goal.returns-in_err-check-clause-tells
returns-in_err-check-clause-tells g c = error_tells _ _ _ c.from_residual.ensures.1 c.in_err-check.ensures.tells

pub returns-in_err-check-clause-reports : goal.returns-in_err-check-clause-reports
returns-in_err-check-clause-reports g c = reports_same _

pub invariant_of-self : goal.invariant_of-self
invariant_of-self g c =
    let kept = c.compare-answer.ensures in
    let works = c.in_ok-check.ensures.ready.works in
    let held = c.self.invariant.works (ap (λ (m : Memory). m.failed) c.self.view_is ∙ works) in
    noted-true _ _ _ c.self.view_is c.self.invariant works _ _ c.noted.ensures.answer c.noted.ensures.failed kept.light
    (subst (λ (l : List ℕ). IsSound l) (sym kept.words) held.sound) (ok_anyway _ _ (ap gate kept.words ∙ held.counts))
    (ok_anyway _ _ (held-kept _ _ _ _ kept.words held))

pub returns-clause-equal : goal.returns-clause-equal
returns-clause-equal g c = if_ok _ _ c.noted.ensures.answer _ _ (λ e h. h) c.compare-answer.ensures.equal

pub returns-clause-usable : goal.returns-clause-usable
returns-clause-usable g c =
    let works = c.in_ok-check.ensures.ready.works in
    let held = c.self.invariant.works (ap (λ (m : Memory). m.failed) c.self.view_is ∙ works) in
    noted-open _ _ _ c.self.view_is c.self.invariant works _ _ c.noted.ensures.answer
    c.noted.ensures.failed c.compare-answer.ensures.light (g.met.B.Board.is_board _).sized
    (g.met.B.Board.is_board _).words_fit
    (ok_anyway _ _ (held-kept _ _ _ _ c.compare-answer.ensures.words held))

pub returns-clause-ready : goal.returns-clause-ready
returns-clause-ready g c =
    let kept = c.compare-answer.ensures in
    let works = c.in_ok-check.ensures.ready.works in
    let held = c.self.invariant.works (ap (λ (m : Memory). m.failed) c.self.view_is ∙ works) in
    on_ok_weaker c.noted.result
    (λ usable idle.
    let unused = ap taken c.self.view_is ∙ idle in
    let none : c.self.inside.batch.used ≡ 0 = omega (arith, unused) in
    let shut = ap gate kept.words ∙ held.counts ∙ none in
    ready-from _ usable.works usable.lit (g.met.B.Board.is_board _).sized
    (g.met.B.Board.is_board _).words_fit shut unused)
    (returns-clause-usable g c)

pub returns-clause-reports : goal.returns-clause-reports
returns-clause-reports g c =
    let works = c.in_ok-check.ensures.ready.works in
    let kept = c.compare-answer.ensures in
    let held = c.self.invariant.works (ap (λ (m : Memory). m.failed) c.self.view_is ∙ works) in
    noted-reports _ _ _ c.self.view_is c.self.invariant works _ _ c.noted.ensures.answer c.noted.ensures.failed
    kept.light (subst (λ (l : List ℕ). IsSound l) (sym kept.words) held.sound)

pub returns-clause-tells : goal.returns-clause-tells
returns-clause-tells g c =
    noted_tells _ _ _ (ap (λ (m : Memory). m.failed) c.self.view_is ∙ c.in_ok-check.ensures.ready.works)
    c.noted.ensures.failed

pub returns-clause-dark : goal.returns-clause-dark
returns-clause-dark g c = on_dark _ _ c.noted.ensures.answer _ _ c.compare-answer.ensures.light

pub returns-clause-writes : goal.returns-clause-writes
returns-clause-writes g c =
    c.compare-answer.ensures.writes ∙ ap (λ (m : Memory). m.facts.writes) c.self.view_is

pub returns-clause-compared : goal.returns-clause-compared
returns-clause-compared g c = on_ok _ _ c.noted.ensures.answer _ _
    (λ more. more ∙ ap (λ (m : Memory). raised m.facts.compares c.args.secret) c.self.view_is)
    c.compare-answer.ensures.compared

pub returns-clause-compared_err : goal.returns-clause-compared_err
returns-clause-compared_err g c =
    let after = (g.B.Board.facts c.compare-answer.new.self).compares in
    subst (λ (m : Memory). OnErr c.noted.result (RisesAt m.facts.compares c.args.secret after)) c.self.view_is
    (on_err _ _ c.noted.ensures.answer _ c.compare-answer.ensures.compared_err)

pub returns-clause-matched : goal.returns-clause-matched
returns-clause-matched g c = if_ok _ _ c.noted.ensures.answer _ _
    (λ e more. more ∙ ap (λ (m : Memory). if e then raised m.facts.matches c.args.secret else m.facts.matches)
    c.self.view_is) c.compare-answer.ensures.matched

pub returns-clause-matched_err : goal.returns-clause-matched_err
returns-clause-matched_err g c =
    let after = g.B.Board.facts c.compare-answer.new.self in
    subst (λ (m : Memory). OnErr c.noted.result ((after.matches ≡ m.facts.matches)
    ⊎ CountsMatch c.args.secret c.args.kept.now c.args.shown.now m.facts after)) c.self.view_is
    (on_err _ _ c.noted.ensures.answer _ c.compare-answer.ensures.matched_err)

pub returns-in_err-check-clause-equal : goal.returns-in_err-check-clause-equal
returns-in_err-check-clause-equal g c = none_ok _ _ _ c.from_residual.ensures.1

pub returns-in_err-check-clause-usable : goal.returns-in_err-check-clause-usable
returns-in_err-check-clause-usable g c = none_ok _ _ _ c.from_residual.ensures.1

pub returns-in_err-check-clause-ready : goal.returns-in_err-check-clause-ready
returns-in_err-check-clause-ready g c = none_ok _ _ _ c.from_residual.ensures.1

pub returns-in_err-check-clause-compared : goal.returns-in_err-check-clause-compared
returns-in_err-check-clause-compared g c = none_ok _ _ _ c.from_residual.ensures.1

pub returns-in_err-check-clause-matched : goal.returns-in_err-check-clause-matched
returns-in_err-check-clause-matched g c = none_ok _ _ _ c.from_residual.ensures.1

pub returns-in_err-check-clause-keeps : goal.returns-in_err-check-clause-keeps
returns-in_err-check-clause-keeps g c = (reads_same _).keeps

pub returns-in_err-check-clause-words : goal.returns-in_err-check-clause-words
returns-in_err-check-clause-words g c = refl

pub returns-in_err-check-clause-writes : goal.returns-in_err-check-clause-writes
returns-in_err-check-clause-writes g c = refl

pub returns-in_err-check-clause-cut : goal.returns-in_err-check-clause-cut
returns-in_err-check-clause-cut g c = aim_same _

pub returns-in_err-check-clause-compared_err : goal.returns-in_err-check-clause-compared_err
returns-in_err-check-clause-compared_err g c = err_anyway _ _ (inl refl)

pub returns-in_err-check-clause-matched_err : goal.returns-in_err-check-clause-matched_err
returns-in_err-check-clause-matched_err g c = err_anyway _ _ (inl refl)

pub compare-answer-requires : goal.compare-answer-requires
compare-answer-requires g c = c.requires

pub returns-clause-keeps : goal.returns-clause-keeps
returns-clause-keeps g c =
    let words = c.compare-answer.ensures.words in
    let sets = c.self.inside.batch.waiting.items in
    record {
      committed_words = ap (λ (l : List ℕ). data_words (undo l)) words ∙ ap committed c.self.view_is;
      current_words = ap (λ (l : List ℕ). data_words (overlay sets l)) words ∙ ap current c.self.view_is;
      taken = ap taken c.self.view_is;
      waiting = ap (λ (m : Memory). m.waiting) c.self.view_is;
    }

pub returns-clause-words : goal.returns-clause-words
returns-clause-words g c =
    c.compare-answer.ensures.words ∙ ap (λ (m : Memory). m.facts.words) c.self.view_is

pub returns-clause-cut : goal.returns-clause-cut
returns-clause-cut g c =
    let after = g.B.Board.facts c.compare-answer.new.self in
    subst (λ (m : Memory). AimStays m.facts after) c.self.view_is c.compare-answer.ensures.cut
