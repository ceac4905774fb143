use Rattle.std.proofs.Common.{◌≡◌, ◌<◌, Some, None, length, slice_index, ℕ, List, subst, refl, sym, ap, ◌∙◌, arith}
use Rattle.undo_journal.specs.Undo.{gate, IsDataAddress, IsSound}
use Rattle.undo_journal.specs.laws.Told.{none_ready}
use Rattle.undo_journal.specs.laws.Calls.{reads_same}
use Rattle.undo_journal.specs.laws.Undo.{data_words-outside}
use Rattle.undo_journal.specs.Memory.{Memory, current, taken}
use Rattle.undo_journal.proofs.Standing.{board-place, held-kept}
use Rattle.undo_journal.specs.declared.batch.Waiting.{Waiting}
use Rattle.undo_journal.specs.Batches.{overlay, look_up}
use Rattle.undo_journal.specs.laws.Memory.{length-overlay}
use Rattle.undo_journal.proofs.Waits.{look_up-found, look_up-none}
use Rattle.undo_journal.proofs.Noted.{if_ok, on_dark, noted_tells, noted-true, noted-open}
use Rattle.undo_journal.proofs.Noted.{noted-ready, noted-reads}
use Rattle.undo_journal.specs.laws.Exits.{error_tells, none_ok, ok_anyway}
use Rattle.undo_journal.proofs.store.Store.read.Goals as goal

pub read-answer-requires : goal.read-answer-requires
read-answer-requires g c =
    let words = (g.B.Board.facts c.self.inside.board).words in
    let place : IsDataAddress words c.args.at =
    board-place c.args.self.now words c.args.at (ap (λ (m : Memory). m.facts.words) c.self.view_is) c.requires in
    place.1

pub returns-in_err-check-clause-reads : goal.returns-in_err-check-clause-reads
returns-in_err-check-clause-reads g c = reads_same _

pub returns-in_err-check-clause-tells : goal.returns-in_err-check-clause-tells
returns-in_err-check-clause-tells g c = error_tells _ _ _ c.from_residual.ensures.1 c.in_err-check.ensures.tells

pub returns-in_err-check-clause-store : goal.returns-in_err-check-clause-store
returns-in_err-check-clause-store g c = λ idle. record {
  only = reads_same _;
  ready = none_ready _ _ _ c.from_residual.ensures.1;
  tells = returns-in_err-check-clause-tells g c;
}

pub invariant_of-self : goal.invariant_of-self
invariant_of-self g c =
    let kept = c.read-answer.ensures in
    let works = c.in_ok-check.ensures.ready.works in
    let held = c.self.invariant.works (ap (λ (m : Memory). m.failed) c.self.view_is ∙ works) in
    noted-true _ _ _ c.self.view_is c.self.invariant works _ _ c.noted.ensures.answer c.noted.ensures.failed kept.light
    (subst (λ (l : List ℕ). IsSound l) (sym kept.words) held.sound) (ok_anyway _ _ (ap gate kept.words ∙ held.counts))
    (ok_anyway _ _ (held-kept _ _ _ _ c.read-answer.ensures.words held))

pub returns-clause-word : goal.returns-clause-word
returns-clause-word g c =
    let words = (g.B.Board.facts c.self.inside.board).words in
    let place : IsDataAddress words c.args.at =
    board-place c.args.self.now words c.args.at (ap (λ (m : Memory). m.facts.words) c.self.view_is) c.requires in
    let sets = c.self.inside.batch.waiting.items in
    let none : look_up c.args.at sets ≡ None =
    sym (c.waiting_word.ensures ∙ ap (λ (l : List Waiting). look_up c.args.at l) c.deref.ensures.0) ∙ c.in_default.is in
    let within : c.args.at < length (overlay sets words) = omega (arith, length-overlay sets words, place.1) in
    let there : slice_index words c.args.at ≡ slice_index (current c.args.self.now) c.args.at =
    sym (data_words-outside (overlay sets words) c.args.at within place.0 ∙ look_up-none c.args.at sets words none)
    ∙ ap (λ (m : Memory). slice_index (current m) c.args.at) c.self.view_is in
    if_ok _ _ c.noted.ensures.answer _ _
    (λ w word. word ∙ there)
    c.read-answer.ensures.word

pub returns-clause-reads : goal.returns-clause-reads
returns-clause-reads g c =
    let kept = c.read-answer.ensures in
    noted-reads _ _ _ c.self.view_is c.self.invariant c.in_ok-check.ensures.ready.works _ _ c.noted.ensures.answer
    c.noted.ensures.failed kept.light
    (record {
      cut = kept.cut;
      words = kept.words;
      writes = kept.writes;
      compares = kept.compares;
      matches = kept.matches;
    })
    refl refl

pub returns-clause-tells : goal.returns-clause-tells
returns-clause-tells g c =
    noted_tells _ _ _ (ap (λ (m : Memory). m.failed) c.self.view_is ∙ c.in_ok-check.ensures.ready.works)
    c.noted.ensures.failed

pub returns-clause-dark : goal.returns-clause-dark
returns-clause-dark g c = on_dark _ _ c.noted.ensures.answer _ _ c.read-answer.ensures.light

pub returns-clause-usable : goal.returns-clause-usable
returns-clause-usable g c =
    let works = c.in_ok-check.ensures.ready.works in
    let held = c.self.invariant.works (ap (λ (m : Memory). m.failed) c.self.view_is ∙ works) in
    noted-open _ _ _ c.self.view_is c.self.invariant works _ _ c.noted.ensures.answer
    c.noted.ensures.failed c.read-answer.ensures.light (g.met.B.Board.is_board _).sized
    (g.met.B.Board.is_board _).words_fit
    (ok_anyway _ _ (held-kept _ _ _ _ c.read-answer.ensures.words held))

pub returns-clause-store : goal.returns-clause-store
returns-clause-store g c = λ idle.
    let kept = c.read-answer.ensures in
    let works = c.in_ok-check.ensures.ready.works in
    let held = c.self.invariant.works (ap (λ (m : Memory). m.failed) c.self.view_is ∙ works) in
    let unused = ap taken c.self.view_is ∙ idle in
    let none : c.self.inside.batch.used ≡ 0 = omega (arith, unused) in
    record {
      only = returns-clause-reads g c;
      ready = noted-ready _ _ _ c.self.view_is c.self.invariant works _ _ c.noted.ensures.answer c.noted.ensures.failed
          kept.light (g.met.B.Board.is_board _).sized (g.met.B.Board.is_board _).words_fit
          (ok_anyway _ _ (ap gate kept.words ∙ held.counts ∙ none)) unused;
      tells = returns-clause-tells g c;
    }

pub returns-in-Some-clause-word : goal.returns-in-Some-clause-word
returns-in-Some-clause-word g c =
    let words = (g.B.Board.facts c.self.inside.board).words in
    let works = c.in_ok-check.ensures.ready.works in
    let held = c.self.invariant.works (ap (λ (m : Memory). m.failed) c.self.view_is ∙ works) in
    let place : IsDataAddress words c.args.at =
    board-place c.args.self.now words c.args.at (ap (λ (m : Memory). m.facts.words) c.self.view_is) c.requires in
    let sets = c.self.inside.batch.waiting.items in
    let found : look_up c.args.at sets ≡ Some c.in-Some.word =
    sym (c.waiting_word.ensures ∙ ap (λ (l : List Waiting). look_up c.args.at l) c.deref.ensures.0) ∙ c.in-Some.is in
    let within : c.args.at < length (overlay sets words) = omega (arith, length-overlay sets words, place.1) in
    sym (data_words-outside (overlay sets words) c.args.at within place.0
    ∙ look_up-found _ c.args.at c.in-Some.word sets words 0 held.sets place.1 found)
    ∙ ap (λ (m : Memory). slice_index (current m) c.args.at) c.self.view_is

pub returns-in_err-check-clause-word : goal.returns-in_err-check-clause-word
returns-in_err-check-clause-word g c = none_ok _ _ _ c.from_residual.ensures.1

pub returns-in_err-check-clause-usable : goal.returns-in_err-check-clause-usable
returns-in_err-check-clause-usable g c = none_ok _ _ _ c.from_residual.ensures.1

pub returns-in-Some-clause-reads : goal.returns-in-Some-clause-reads
returns-in-Some-clause-reads g c = reads_same _

pub returns-in-Some-clause-usable : goal.returns-in-Some-clause-usable
returns-in-Some-clause-usable g c = c.in_ok-check.ensures.ready
