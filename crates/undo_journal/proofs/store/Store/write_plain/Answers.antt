use Rattle.std.proofs.Common.{◌+◌, length, refl, sym, ap, ◌∙◌, arith}
use Rattle.nvm_board.specs.Facts.{address}
use Rattle.nvm_board.specs.laws.Torn.{Torn-none}
use Rattle.nvm_board.specs.laws.Sizes.{page_of_run}
use Rattle.undo_journal.specs.Memory.{Memory}
use Rattle.undo_journal.specs.laws.Exits.{ok_anyway}
use Rattle.undo_journal.proofs.Standing.{board-run}
use Rattle.undo_journal.proofs.Lasting.{unused-within, idle-within, fits-within, run-gate, run-sound}
use Rattle.undo_journal.proofs.Lasting.{run-torn, run-written}
use Rattle.undo_journal.proofs.Telling.{write_costs}
use Rattle.undo_journal.proofs.Noted.{on_ok, on_dark, failed_before, noted-true, noted-changes}
use Rattle.undo_journal.proofs.store.Store.write_plain.Goals as goal

pub write-answer-requires : goal.write-answer-requires
write-answer-requires g c =
    let at = address c.args.page c.args.first in
    let place = board-run c.args.self.now _ at (length c.args.words.now)
    (ap (λ (m : Memory). m.facts.words) c.self.view_is) c.requires.place in
    record {
      page = page_of_run _ c.args.page c.args.first (length c.args.words.now)
          (g.met.B.Board.is_board _).sized c.requires.some
          place.1;
      some = c.requires.some;
      run = c.requires.run;
    }

pub returns-in_err-check-clause-any_exit : goal.returns-in_err-check-clause-any_exit
returns-in_err-check-clause-any_exit g c = Torn-none _ _ _

pub returns-in_err-check-clause-store : goal.returns-in_err-check-clause-store
returns-in_err-check-clause-store g c =
    failed_before _ _ _ _ _ _ _ refl c.requires.idle c.from_residual.ensures.1 c.in_err-check.ensures.tells

pub invariant_of-self : goal.invariant_of-self
invariant_of-self g c =
    let works = c.in_ok-check.ensures.ready.works in
    let at = address c.args.page c.args.first in
    let unused = unused-within _ _ c.self.view_is c.self.invariant works c.requires.idle in
    noted-true _ _ _ c.self.view_is c.self.invariant works _ _ c.noted.ensures.answer c.noted.ensures.failed
    c.write-answer.ensures.light
    (run-sound _ _ c.self.view_is c.self.invariant works c.requires.idle at c.args.words.now c.requires.place _
    c.write-answer.ensures.torn)
    (ok_anyway _ _ (run-gate _ _ c.self.view_is c.self.invariant works c.requires.idle at c.args.words.now
    c.requires.place _ c.write-answer.ensures.torn ∙ sym unused))
    (ok_anyway _ _ (fits-within _ _ c.self.view_is c.self.invariant works c.requires.idle _))

pub returns-clause-any_exit : goal.returns-clause-any_exit
returns-clause-any_exit g c =
    run-torn _ _ c.self.view_is c.self.invariant c.in_ok-check.ensures.ready.works c.requires.idle
    (address c.args.page c.args.first) c.args.words.now c.requires.place _ c.requires.some c.write-answer.ensures.torn

pub returns-clause-done : goal.returns-clause-done
returns-clause-done g c =
    on_ok _ _ c.noted.ensures.answer _ _ (λ done. run-written _ _ c.self.view_is c.self.invariant
    c.in_ok-check.ensures.ready.works c.requires.idle (address c.args.page c.args.first) c.args.words.now
    c.requires.place _ done) c.write-answer.ensures.done

pub returns-clause-store : goal.returns-clause-store
returns-clause-store g c =
    let answered = c.write-answer.ensures in
    let works = c.in_ok-check.ensures.ready.works in
    let at = address c.args.page c.args.first in
    noted-changes _ _ _ c.self.view_is c.self.invariant works _ _ c.noted.ensures.answer c.noted.ensures.failed
    c.write-answer.ensures.light 1 (g.met.B.Board.is_board _).sized (g.met.B.Board.is_board _).words_fit
    (run-sound _ _ c.self.view_is c.self.invariant works c.requires.idle at c.args.words.now c.requires.place _
    c.write-answer.ensures.torn)
    (ok_anyway _ _ (run-gate _ _ c.self.view_is c.self.invariant works c.requires.idle at c.args.words.now
    c.requires.place _ c.write-answer.ensures.torn))
    (idle-within _ _ c.self.view_is c.self.invariant works c.requires.idle)
    (let run = c.requires.run in write_costs _ _ _ _ _ (omega (arith, run)) answered)

pub returns-clause-dark : goal.returns-clause-dark
returns-clause-dark g c = on_dark _ _ c.noted.ensures.answer _ _ c.write-answer.ensures.light

pub returns-clause-shut : goal.returns-clause-shut
returns-clause-shut g c = λ shut.
    run-gate _ _ c.self.view_is c.self.invariant c.in_ok-check.ensures.ready.works c.requires.idle
    (address c.args.page c.args.first) c.args.words.now c.requires.place _ c.write-answer.ensures.torn

pub returns-clause-counted : goal.returns-clause-counted
returns-clause-counted g c =
    on_ok _ _ c.noted.ensures.answer _ _ (λ counted. counted ∙ ap (λ (m : Memory). m.facts.writes + 1) c.self.view_is)
    c.write-answer.ensures.counted
