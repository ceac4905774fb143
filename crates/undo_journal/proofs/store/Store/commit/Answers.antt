use Rattle.std.proofs.Common.{◌≡◌, ◌+◌, ◌≤◌, ap, inl, refl, sym, ◌∙◌, subst, Err}
use Rattle.std.proofs.Math.Logic.{⊎_map}
use Rattle.undo_journal.specs.Memory.{Memory, committed, current, commit_writes}
use Rattle.undo_journal.specs.Spending.{WritesAtMost}
use Rattle.undo_journal.specs.Commits.{CommitsLast}
use Rattle.undo_journal.specs.laws.LastWrites.{last_still}
use Rattle.undo_journal.specs.Undo.{gate}
use Rattle.undo_journal.specs.laws.Exits.{ok_anyway}
use Rattle.std.proofs.lemmas.Result.{on_ok_weaker}
use Rattle.undo_journal.proofs.Standing.{new-idle, new-fits}
use Rattle.undo_journal.proofs.Noted.{on_ok, on_dark, failed_before, noted-true, noted-changes}
use Rattle.undo_journal.proofs.store.Store.commit.Goals as goal

pub returns-in-Err-clause-store : goal.returns-in-Err-clause-store
returns-in-Err-clause-store g c =
    let fresh = c.new-self-inside-in-Err.ensures in
    failed_before {T = Unit {0}} _ _ _ _ _ (Err c.in-Err.e) c.in-Err.e c.self.view_is
    (new-idle _ _ fresh.used fresh.waiting) refl c.in-Err.ensures.tells

pub invariant_of-self : goal.invariant_of-self
invariant_of-self g c =
    let works = c.in-Ok.ensures.ready.works in
    let done = c.finish-answer.ensures in
    let fresh = c.new-self-inside.ensures in
    noted-true _ _ _ c.self.view_is c.self.invariant works _ _ c.noted.ensures.answer c.noted.ensures.failed done.light
    done.sound (on_ok_weaker c.finish-answer.result (λ shut. shut ∙ sym fresh.used) done.shut)
    (ok_anyway _ _ (new-fits _ _ _ fresh.used fresh.waiting))

pub returns-in-Ok-clause-any_exit : goal.returns-in-Ok-clause-any_exit
returns-in-Ok-clause-any_exit g c =
    ⊎_map
    (λ old. old ∙ ap committed c.self.view_is)
    (λ new.
    let turned = new.1 in (
      new.0 ∙ ap current c.self.view_is,
      record {
        shut = turned.shut;
        pairs = turned.pairs;
        sound = turned.sound;
        former = turned.former ∙ ap committed c.self.view_is;
      },
    ))
    c.finish-answer.ensures.any_exit

pub returns-in-Ok-clause-turned : goal.returns-in-Ok-clause-turned
returns-in-Ok-clause-turned g c =
    let after = g.B.Board.facts c.finish-answer.new.board in
    let before = g.B.Board.facts c.self.inside.board in
    let held = c.self.invariant.works (ap (λ (m : Memory). m.failed) c.self.view_is ∙ c.in-Ok.ensures.ready.works) in
    λ shut works. ⊎_map
    (λ done. done ∙ ap current c.self.view_is)
    (λ early. subst (λ (m : Memory). (m.used ≡ 0) × (gate m.facts.words ≡ 0) × (after.writes ≤ m.facts.writes + 2))
    c.self.view_is (early.0, held.counts ∙ early.0, early.1))
    (c.finish-answer.ensures.turned shut)

pub returns-in-Ok-clause-done : goal.returns-in-Ok-clause-done
returns-in-Ok-clause-done g c =
    on_ok _ _ c.noted.ensures.answer _ _ (λ done. done ∙ ap current c.self.view_is) c.finish-answer.ensures.done

pub returns-in-Ok-clause-store : goal.returns-in-Ok-clause-store
returns-in-Ok-clause-store g c =
    let before = g.B.Board.facts c.self.inside.board in
    let after = g.B.Board.facts c.finish-answer.new.board in
    let works = c.in-Ok.ensures.ready.works in
    let done = c.finish-answer.ensures in
    let fresh = c.new-self-inside.ensures in
    noted-changes _ _ _ c.self.view_is c.self.invariant works _ _ c.noted.ensures.answer c.noted.ensures.failed
    done.light _ (g.met.B.Board.is_board _).sized (g.met.B.Board.is_board _).words_fit done.sound done.shut
    (new-idle _ _ fresh.used fresh.waiting)
    (subst (λ (m : Memory). WritesAtMost (commit_writes m) before after) c.self.view_is done.writes)

pub returns-in-Ok-clause-dark : goal.returns-in-Ok-clause-dark
returns-in-Ok-clause-dark g c = on_dark _ _ c.noted.ensures.answer _ _ c.finish-answer.ensures.light

pub returns-in-Ok-clause-counted : goal.returns-in-Ok-clause-counted
returns-in-Ok-clause-counted g c =
    on_ok _ _ c.noted.ensures.answer _ _
    (λ counted. counted ∙ ap (λ (m : Memory). m.facts.writes + commit_writes m) c.self.view_is)
    c.finish-answer.ensures.counted

pub returns-in-Ok-clause-last : goal.returns-in-Ok-clause-last
returns-in-Ok-clause-last g c =
    let after = g.B.Board.facts c.finish-answer.new.board in
    ⊎_map
    (λ old. old ∙ ap committed c.self.view_is)
    (λ most. subst (λ (m : Memory). m.facts.writes + commit_writes m ≤ after.writes + 1) c.self.view_is most)
    c.finish-answer.ensures.last

pub returns-in-Err-clause-any_exit : goal.returns-in-Err-clause-any_exit
returns-in-Err-clause-any_exit g c = inl (ap committed c.self.view_is)

pub returns-in-Err-clause-last : goal.returns-in-Err-clause-last
returns-in-Err-clause-last g c = inl (ap committed c.self.view_is)

pub returns-in-Err-clause-done : goal.returns-in-Err-clause-done
returns-in-Err-clause-done g c = tt

pub returns-in-Err-clause-counted : goal.returns-in-Err-clause-counted
returns-in-Err-clause-counted g c = tt

pub returns-in-Err-clause-between : goal.returns-in-Err-clause-between
returns-in-Err-clause-between g c = last_still _ _ (ap (λ (m : Memory). m.facts) c.self.view_is)

pub returns-in-Ok-clause-between : goal.returns-in-Ok-clause-between
returns-in-Ok-clause-between g c =
    subst (λ (m : Memory). CommitsLast m.facts (g.B.Board.facts c.finish-answer.new.board)) c.self.view_is
    c.finish-answer.ensures.between
