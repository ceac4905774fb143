use Rattle.std.proofs.Common.{refl, ap, sym, subst, ◌∙◌, ℕ, arith}
use Rattle.nvm_board.specs.Facts.{Facts}
use Rattle.undo_journal.specs.Undo.{gate, undo, data_words, IsSound}
use Rattle.undo_journal.specs.Spending.{rollback_writes, KeepsBoard, WritesAtMost}
use Rattle.undo_journal.specs.laws.Calls.{keeping_spends, spends_after}
use Rattle.undo_journal.specs.laws.Undo.{gate_undone}
use Rattle.undo_journal.proofs.Saving.{committed-shut}
use Rattle.undo_journal.proofs.Standing.{new-idle, ready-from, true-shut}
use Rattle.undo_journal.proofs.Telling.{opens_not, answered_after, steady_then}
use Rattle.undo_journal.proofs.store.Store.open.Goals as goal

pub invariant_of-result : goal.invariant_of-result
invariant_of-result g c =
    let words = (g.B.Board.facts c.sound_pairs.new.board).words in
    true-shut _ refl (ap gate c.in-Ok.ensures.done ∙ gate_undone words)
    (new-idle _ _ c.new.ensures.used c.new.ensures.waiting) (c.in-Ok.ensures.light.ok refl).lit

pub returns-in-Ok-clause-ready : goal.returns-in-Ok-clause-ready
returns-in-Ok-clause-ready g c =
    let words = (g.B.Board.facts c.sound_pairs.new.board).words in
    ready-from _ refl (c.in-Ok.ensures.light.ok refl).lit (g.met.B.Board.is_board _).sized
    (g.met.B.Board.is_board _).words_fit
    (ap gate c.in-Ok.ensures.done ∙ gate_undone words) (new-idle _ _ c.new.ensures.used c.new.ensures.waiting)

pub returns-in-Err-clause-not_opened : goal.returns-in-Err-clause-not_opened
returns-in-Err-clause-not_opened g c = opens_not _ _ _ _ c.from.ensures c.in-Err.ensures.light

pub returns-in-Err-roll_back-clause-not_opened : goal.returns-in-Err-roll_back-clause-not_opened
returns-in-Err-roll_back-clause-not_opened g c =
    opens_not _ _ _ _ c.from-in-Err-roll_back.ensures
    (answered_after _ _ _ _ (c.in-Ok-Some.ensures.light.ok refl) c.in-Err-roll_back.ensures.light)

pub returns-in-Ok-None-clause-kept_err : goal.returns-in-Ok-None-clause-kept_err
returns-in-Ok-None-clause-kept_err g c = ap undo c.sound_pairs.ensures.reads.words

pub returns-in-Ok-None-clause-sound_err : goal.returns-in-Ok-None-clause-sound_err
returns-in-Ok-None-clause-sound_err g c =
    (subst IsSound c.sound_pairs.ensures.reads.words, subst IsSound (sym c.sound_pairs.ensures.reads.words))

pub returns-in-Ok-None-clause-shut_err : goal.returns-in-Ok-None-clause-shut_err
returns-in-Ok-None-clause-shut_err g c = λ shut. c.sound_pairs.ensures.reads

pub returns-in-Ok-None-clause-writes_err : goal.returns-in-Ok-None-clause-writes_err
returns-in-Ok-None-clause-writes_err g c = keeping_spends _ _ _ c.sound_pairs.ensures.reads

pub returns-in-Err-clause-kept_err : goal.returns-in-Err-clause-kept_err
returns-in-Err-clause-kept_err g c = ap undo c.sound_pairs.ensures.reads.words

pub returns-in-Err-clause-sound_err : goal.returns-in-Err-clause-sound_err
returns-in-Err-clause-sound_err g c =
    (subst IsSound c.sound_pairs.ensures.reads.words, subst IsSound (sym c.sound_pairs.ensures.reads.words))

pub returns-in-Err-clause-shut_err : goal.returns-in-Err-clause-shut_err
returns-in-Err-clause-shut_err g c = λ shut. c.sound_pairs.ensures.reads

pub returns-in-Err-clause-writes_err : goal.returns-in-Err-clause-writes_err
returns-in-Err-clause-writes_err g c = keeping_spends _ _ _ c.sound_pairs.ensures.reads

pub returns-in-Ok-clause-undone : goal.returns-in-Ok-clause-undone
returns-in-Ok-clause-undone g c = c.in-Ok.ensures.done ∙ ap undo c.sound_pairs.ensures.reads.words

pub returns-in-Ok-clause-sound : goal.returns-in-Ok-clause-sound
returns-in-Ok-clause-sound g c =
    let journal = rw c.in-Ok-Some.field-0-is at c.in-Ok-Some.ensures.sound in
    journal.0

pub returns-in-Ok-clause-defined : goal.returns-in-Ok-clause-defined
returns-in-Ok-clause-defined g c = c.roll_back.ensures.sound

pub returns-in-Ok-clause-light : goal.returns-in-Ok-clause-light
returns-in-Ok-clause-light g c =
    steady_then _ _ _ (c.in-Ok-Some.ensures.light.ok refl) (c.in-Ok.ensures.light.ok refl)

pub returns-in-Ok-clause-shut : goal.returns-in-Ok-clause-shut
returns-in-Ok-clause-shut g c =
    let journal = rw c.in-Ok-Some.field-0-is at c.in-Ok-Some.ensures.sound in
    let old = g.B.Board.facts c.args.board in
    λ shut. subst (λ (f : Facts). KeepsBoard old f) (sym (c.roll_back.ensures.none (sym journal.1 ∙ shut)))
    c.sound_pairs.ensures.reads

pub returns-in-Ok-clause-writes : goal.returns-in-Ok-clause-writes
returns-in-Ok-clause-writes g c =
    let old = g.B.Board.facts c.args.board in
    let new = g.B.Board.facts c.roll_back.new.board in
    let journal = rw c.in-Ok-Some.field-0-is at c.in-Ok-Some.ensures.sound in
    subst (λ (n : ℕ). WritesAtMost (rollback_writes n) old new) (sym journal.1)
    (spends_after _ _ _ _ c.sound_pairs.ensures.reads c.roll_back.ensures.writes)

pub returns-in-Err-roll_back-clause-kept_err : goal.returns-in-Err-roll_back-clause-kept_err
returns-in-Err-roll_back-clause-kept_err g c = c.roll_back.ensures.kept ∙ ap undo c.sound_pairs.ensures.reads.words

pub returns-in-Err-roll_back-clause-sound_err : goal.returns-in-Err-roll_back-clause-sound_err
returns-in-Err-roll_back-clause-sound_err g c =
    let journal = rw c.in-Ok-Some.field-0-is at c.in-Ok-Some.ensures.sound in
    (λ new. journal.0, λ old. c.roll_back.ensures.sound)

pub returns-in-Err-roll_back-clause-shut_err : goal.returns-in-Err-roll_back-clause-shut_err
returns-in-Err-roll_back-clause-shut_err g c =
    let journal = rw c.in-Ok-Some.field-0-is at c.in-Ok-Some.ensures.sound in
    let old = g.B.Board.facts c.args.board in
    λ shut. subst (λ (f : Facts). KeepsBoard old f) (sym (c.roll_back.ensures.none (sym journal.1 ∙ shut)))
    c.sound_pairs.ensures.reads

pub returns-in-Err-roll_back-clause-writes_err : goal.returns-in-Err-roll_back-clause-writes_err
returns-in-Err-roll_back-clause-writes_err g c =
    let old = g.B.Board.facts c.args.board in
    let new = g.B.Board.facts c.roll_back.new.board in
    let journal = rw c.in-Ok-Some.field-0-is at c.in-Ok-Some.ensures.sound in
    subst (λ (n : ℕ). WritesAtMost (rollback_writes n) old new) (sym journal.1)
    (spends_after _ _ _ _ c.sound_pairs.ensures.reads c.roll_back.ensures.writes)

pub returns-in-Ok-None-clause-ready : goal.returns-in-Ok-None-clause-ready
returns-in-Ok-None-clause-ready g c = tt

pub returns-in-Ok-None-clause-undone : goal.returns-in-Ok-None-clause-undone
returns-in-Ok-None-clause-undone g c = tt

pub returns-in-Ok-None-clause-found : goal.returns-in-Ok-None-clause-found
returns-in-Ok-None-clause-found g c = tt

pub returns-in-Ok-None-clause-sound : goal.returns-in-Ok-None-clause-sound
returns-in-Ok-None-clause-sound g c = tt

pub returns-in-Ok-None-clause-defined : goal.returns-in-Ok-None-clause-defined
returns-in-Ok-None-clause-defined g c = tt

pub returns-in-Ok-None-clause-light : goal.returns-in-Ok-None-clause-light
returns-in-Ok-None-clause-light g c = tt

pub returns-in-Ok-None-clause-shut : goal.returns-in-Ok-None-clause-shut
returns-in-Ok-None-clause-shut g c = tt

pub returns-in-Ok-None-clause-writes : goal.returns-in-Ok-None-clause-writes
returns-in-Ok-None-clause-writes g c = tt

pub returns-in-Ok-None-clause-counted : goal.returns-in-Ok-None-clause-counted
returns-in-Ok-None-clause-counted g c = tt

pub returns-in-Err-clause-ready : goal.returns-in-Err-clause-ready
returns-in-Err-clause-ready g c = tt

pub returns-in-Err-clause-undone : goal.returns-in-Err-clause-undone
returns-in-Err-clause-undone g c = tt

pub returns-in-Err-clause-found : goal.returns-in-Err-clause-found
returns-in-Err-clause-found g c = tt

pub returns-in-Err-clause-sound : goal.returns-in-Err-clause-sound
returns-in-Err-clause-sound g c = tt

pub returns-in-Err-clause-defined : goal.returns-in-Err-clause-defined
returns-in-Err-clause-defined g c = tt

pub returns-in-Err-clause-light : goal.returns-in-Err-clause-light
returns-in-Err-clause-light g c = tt

pub returns-in-Err-clause-shut : goal.returns-in-Err-clause-shut
returns-in-Err-clause-shut g c = tt

pub returns-in-Err-clause-writes : goal.returns-in-Err-clause-writes
returns-in-Err-clause-writes g c = tt

pub returns-in-Err-clause-counted : goal.returns-in-Err-clause-counted
returns-in-Err-clause-counted g c = tt

pub returns-in-Err-roll_back-clause-ready : goal.returns-in-Err-roll_back-clause-ready
returns-in-Err-roll_back-clause-ready g c = tt

pub returns-in-Err-roll_back-clause-undone : goal.returns-in-Err-roll_back-clause-undone
returns-in-Err-roll_back-clause-undone g c = tt

pub returns-in-Err-roll_back-clause-found : goal.returns-in-Err-roll_back-clause-found
returns-in-Err-roll_back-clause-found g c = tt

pub returns-in-Err-roll_back-clause-sound : goal.returns-in-Err-roll_back-clause-sound
returns-in-Err-roll_back-clause-sound g c = tt

pub returns-in-Err-roll_back-clause-defined : goal.returns-in-Err-roll_back-clause-defined
returns-in-Err-roll_back-clause-defined g c = tt

pub returns-in-Err-roll_back-clause-light : goal.returns-in-Err-roll_back-clause-light
returns-in-Err-roll_back-clause-light g c = tt

pub returns-in-Err-roll_back-clause-shut : goal.returns-in-Err-roll_back-clause-shut
returns-in-Err-roll_back-clause-shut g c = tt

pub returns-in-Err-roll_back-clause-writes : goal.returns-in-Err-roll_back-clause-writes
returns-in-Err-roll_back-clause-writes g c = tt

pub returns-in-Err-roll_back-clause-counted : goal.returns-in-Err-roll_back-clause-counted
returns-in-Err-roll_back-clause-counted g c = tt

pub returns-in-Ok-clause-kept_err : goal.returns-in-Ok-clause-kept_err
returns-in-Ok-clause-kept_err g c = tt

pub returns-in-Ok-clause-sound_err : goal.returns-in-Ok-clause-sound_err
returns-in-Ok-clause-sound_err g c = tt

pub returns-in-Ok-clause-not_opened : goal.returns-in-Ok-clause-not_opened
returns-in-Ok-clause-not_opened g c = tt

pub returns-in-Ok-clause-shut_err : goal.returns-in-Ok-clause-shut_err
returns-in-Ok-clause-shut_err g c = tt

pub returns-in-Ok-clause-writes_err : goal.returns-in-Ok-clause-writes_err
returns-in-Ok-clause-writes_err g c = tt

pub roll_back-requires-clause-sound : goal.roll_back-requires-clause-sound
roll_back-requires-clause-sound g c =
    let journal = rw c.in-Ok-Some.field-0-is at c.in-Ok-Some.ensures.sound in
    subst IsSound (sym c.sound_pairs.ensures.reads.words) journal.0

pub roll_back-requires-clause-counts : goal.roll_back-requires-clause-counts
roll_back-requires-clause-counts g c =
    let journal = rw c.in-Ok-Some.field-0-is at c.in-Ok-Some.ensures.sound in
    ap gate c.sound_pairs.ensures.reads.words ∙ journal.1

pub roll_back-requires-clause-lit : goal.roll_back-requires-clause-lit
roll_back-requires-clause-lit g c = (c.in-Ok-Some.ensures.light.ok refl).lit

pub returns-in-Ok-clause-found : goal.returns-in-Ok-clause-found
returns-in-Ok-clause-found g c =
    let words = (g.B.Board.facts c.sound_pairs.new.board).words in
    committed-shut _ (ap gate c.in-Ok.ensures.done ∙ gate_undone words)
    ∙ ap data_words (c.in-Ok.ensures.done ∙ ap undo c.sound_pairs.ensures.reads.words)

pub returns-in-Ok-clause-counted : goal.returns-in-Ok-clause-counted
returns-in-Ok-clause-counted g c =
    let journal = rw c.in-Ok-Some.field-0-is at c.in-Ok-Some.ensures.sound in
    omega (arith, c.in-Ok.ensures.counted, c.sound_pairs.ensures.reads.writes, ap rollback_writes journal.1)
