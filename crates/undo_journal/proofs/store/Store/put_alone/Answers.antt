use Rattle.std.proofs.Common.{◌+◌, refl, sym, ap, ◌∙◌, subst}
use Rattle.undo_journal.specs.Commits.{CommitsLast}
use Rattle.undo_journal.specs.laws.LastWrites.{last_same}
use Rattle.undo_journal.specs.Undo.{gate, IsDataAddress}
use Rattle.undo_journal.specs.Memory.{Memory}
use Rattle.undo_journal.specs.laws.Exits.{ok_anyway}
use Rattle.undo_journal.proofs.Lasting.{unused-within, place-within, one-gate, one-sound, one-torn, one-written}
use Rattle.std.proofs.Math.Logic.{⊎_elim}
use Rattle.undo_journal.proofs.Lasting.{unused-within, idle-within, fits-within, place-within, one-gate, one-sound}
use Rattle.undo_journal.proofs.Lasting.{one-torn, one-written}
use Rattle.std.proofs.lemmas.Result.{on_ok_weaker}
use Rattle.undo_journal.proofs.Noted.{on_ok, on_dark, failed_before, noted-true, noted-changes}
use Rattle.undo_journal.proofs.store.Store.put_alone.Goals as goal

pub write_word-answer-requires : goal.write_word-answer-requires
write_word-answer-requires g c =
    let works = c.in_ok-check.ensures.ready.works in
    let place : IsDataAddress (g.B.Board.facts c.self.inside.board).words c.args.at =
    place-within _ _ c.self.view_is c.self.invariant works c.requires.idle c.args.at c.args.word c.requires.place in
    place.1

pub returns-in_err-check-clause-store : goal.returns-in_err-check-clause-store
returns-in_err-check-clause-store g c =
    failed_before _ _ _ _ _ _ _ refl c.requires.idle c.from_residual.ensures.1 c.in_err-check.ensures.tells

pub invariant_of-self : goal.invariant_of-self
invariant_of-self g c =
    let works = c.in_ok-check.ensures.ready.works in
    let unused = unused-within _ _ c.self.view_is c.self.invariant works c.requires.idle in
    noted-true _ _ _ c.self.view_is c.self.invariant works _ _ c.noted.ensures.answer c.noted.ensures.failed
    c.write_word-answer.ensures.light
    (one-sound _ _ c.self.view_is c.self.invariant works c.requires.idle c.args.at c.args.word c.requires.place _
    c.write_word-answer.ensures.torn)
    (on_ok_weaker c.write_word-answer.result
    (λ done. one-gate _ _ c.self.view_is
    c.self.invariant works c.requires.idle c.args.at c.args.word c.requires.place _ done ∙ sym unused)
    c.write_word-answer.ensures.done)
    (ok_anyway _ _ (fits-within _ _ c.self.view_is c.self.invariant works c.requires.idle _))

pub returns-clause-any_exit : goal.returns-clause-any_exit
returns-clause-any_exit g c =
    one-torn _ _ c.self.view_is c.self.invariant c.in_ok-check.ensures.ready.works c.requires.idle c.args.at c.args.word
    c.requires.place _ c.write_word-answer.ensures.torn

pub returns-clause-done : goal.returns-clause-done
returns-clause-done g c =
    on_ok _ _ c.noted.ensures.answer _ _ (λ done. one-written _ _ c.self.view_is c.self.invariant
    c.in_ok-check.ensures.ready.works c.requires.idle c.args.at c.args.word c.requires.place _ done)
    c.write_word-answer.ensures.done

pub returns-clause-store : goal.returns-clause-store
returns-clause-store g c =
    let works = c.in_ok-check.ensures.ready.works in
    noted-changes _ _ _ c.self.view_is c.self.invariant works _ _ c.noted.ensures.answer c.noted.ensures.failed
    c.write_word-answer.ensures.light 1 (g.met.B.Board.is_board _).sized (g.met.B.Board.is_board _).words_fit
    (one-sound _ _ c.self.view_is c.self.invariant works c.requires.idle c.args.at c.args.word c.requires.place _
    c.write_word-answer.ensures.torn)
    (on_ok_weaker c.write_word-answer.result
    (λ done. one-gate _ _ c.self.view_is
    c.self.invariant works c.requires.idle c.args.at c.args.word c.requires.place _ done)
    c.write_word-answer.ensures.done) (idle-within _ _ c.self.view_is c.self.invariant works c.requires.idle)
    c.write_word-answer.ensures.writes

pub returns-clause-dark : goal.returns-clause-dark
returns-clause-dark g c = on_dark _ _ c.noted.ensures.answer _ _ c.write_word-answer.ensures.light

pub returns-clause-counted : goal.returns-clause-counted
returns-clause-counted g c =
    on_ok _ _ c.noted.ensures.answer _ _
    (λ counted. counted ∙ ap (λ (m : Memory). m.facts.writes + 1) c.self.view_is) c.write_word-answer.ensures.counted

pub returns-clause-shut : goal.returns-clause-shut
returns-clause-shut g c = λ shut.
    let works = c.in_ok-check.ensures.ready.works in
    let within = ap (λ (m : Memory). gate m.facts.words) c.self.view_is ∙ shut in
    ⊎_elim (λ old. ap gate old ∙ within)
    (λ new. one-gate _ _ c.self.view_is c.self.invariant works c.requires.idle c.args.at c.args.word c.requires.place
    _ new) c.write_word-answer.ensures.torn

pub returns-in_err-check-clause-between : goal.returns-in_err-check-clause-between
returns-in_err-check-clause-between g c = last_same _

pub returns-clause-between : goal.returns-clause-between
returns-clause-between g c =
    subst (λ (m : Memory). CommitsLast m.facts (g.B.Board.facts c.write_word-answer.new.board)) c.self.view_is
    c.write_word-answer.ensures.between
