use Rattle.std.proofs.Common.{◌≡◌, ◌⊎◌, List, ℕ, sym, ◌∙◌, ap, inr, subst}
use Rattle.std.specs.Prelude.{if◌then◌else◌}
use Rattle.nvm_board.specs.BoardCalls.{CountsMatch}
use Rattle.nvm_board.specs.Facts.{raised}
use Rattle.undo_journal.specs.laws.Calls.{reads_then}
use Rattle.undo_journal.specs.laws.LastWrites.{last_after, last_none, last_unwritten}
use Rattle.pin_store.specs.declared.errors.Outcome.{Outcome}
use Rattle.card_model.specs.Secrets.{kept, owner}
use Rattle.pin_store.specs.Pages.{pin_at}
use Rattle.pin_store.specs.Trials.{pin_in, Compared}
use Rattle.pin_store.proofs.Settled.{compare_ends, compared_by, compares_after, compares_none}
use Rattle.pin_store.proofs.Settled.{counts_match, stops_match}
use Rattle.undo_journal.specs.laws.Told.{reads_handed, reads_on, reads_leave, leaves_handed}
use Rattle.pin_store.proofs.settling.compare.Goals as goal

pub returns-in_err-left-clause-kept : goal.returns-in_err-left-clause-kept
returns-in_err-left-clause-kept g c = c.tries.ensures.store.only.keeps.committed_words

pub returns-in_err-left-clause-store : goal.returns-in_err-left-clause-store
returns-in_err-left-clause-store g c =
    reads_leave _ _ _ c.requires.pins.ready.idle
    (reads_handed _ _ _ _ c.from_residual.ensures.1 c.in_err-left.ensures.store)

pub returns-in_err-left-clause-spends : goal.returns-in_err-left-clause-spends
returns-in_err-left-clause-spends g c = compares_none _ _ _ _ c.tries.ensures.store.only

pub returns-in_err-kept-clause-kept : goal.returns-in_err-kept-clause-kept
returns-in_err-kept-clause-kept g c =
    c.kept.ensures.store.only.keeps.committed_words ∙ c.tries.ensures.store.only.keeps.committed_words

pub returns-in_err-kept-clause-store : goal.returns-in_err-kept-clause-store
returns-in_err-kept-clause-store g c =
    reads_leave _ _ _ c.requires.pins.ready.idle (reads_handed _ _ _ _ c.from_residual-in_err-kept.ensures.1
    (reads_on _ _ _ _ c.tries.ensures.store.only c.in_err-kept.ensures.store))

pub returns-in_err-kept-clause-spends : goal.returns-in_err-kept-clause-spends
returns-in_err-kept-clause-spends g c =
    compares_none _ _ _ _ (reads_then _ _ _ c.tries.ensures.store.only c.kept.ensures.store.only)

pub returns-in_err-right-clause-kept : goal.returns-in_err-right-clause-kept
returns-in_err-right-clause-kept g c =
    c.compare.ensures.keeps.committed_words ∙ c.kept.ensures.store.only.keeps.committed_words
    ∙ c.tries.ensures.store.only.keeps.committed_words

pub returns-in_err-right-clause-store : goal.returns-in_err-right-clause-store
returns-in_err-right-clause-store g c =
    leaves_handed _ _ _ _ c.from_residual-in_err-right.ensures.1 (compare_ends _ _ _ _ c.requires.pins.ready.idle
    (reads_then _ _ _ c.tries.ensures.store.only c.kept.ensures.store.only) c.compare.ensures.keeps
    c.compare.ensures.reports tt c.in_err-right.ensures.tells)

pub returns-in_err-right-clause-spends : goal.returns-in_err-right-clause-spends
returns-in_err-right-clause-spends g c =
    let read : c.in_ok-kept.kept ≡ kept c.charged.inside.secret (pin_in c.args.store.now c.charged.inside.secret) =
    c.in_ok-kept.ensures.kept
    ∙ ap (λ (m : List ℕ). kept c.charged.inside.secret (pin_at m (owner c.charged.inside.secret)))
    c.tries.ensures.store.only.keeps.committed_words in
    let reads = reads_then _ _ _ c.tries.ensures.store.only c.kept.ensures.store.only in
    let before = c.kept.new.store.facts in
    let after = c.compare.new.self.facts in
    compares_after c.args.charged c.number.result c.args.shown.now _ _ c.compare.new.self
    (c.number.ensures.value ∙ c.charged.view_is) reads
    c.compare.ensures.words c.compare.ensures.writes c.compare.ensures.cut c.in_err-right.ensures.compared_err
    (stops_match c.args.charged c.charged.inside.secret c.args.shown.now c.in_ok-kept.kept _ _ c.compare.new.self
    c.charged.view_is reads read
    (subst (λ (s : ℕ). (after.matches ≡ before.matches)
    ⊎ CountsMatch s c.in_ok-kept.kept c.args.shown.now before after) c.number.ensures.value
    c.in_err-right.ensures.matched_err))

pub returns-clause-kept : goal.returns-clause-kept
returns-clause-kept g c =
    c.compare.ensures.keeps.committed_words ∙ c.kept.ensures.store.only.keeps.committed_words
    ∙ c.tries.ensures.store.only.keeps.committed_words

pub returns-clause-store : goal.returns-clause-store
returns-clause-store g c =
    compare_ends _ _ _ _ c.requires.pins.ready.idle (reads_then _ _ _ c.tries.ensures.store.only
    c.kept.ensures.store.only)
    c.compare.ensures.keeps c.compare.ensures.reports
    (c.in_ok-right.ensures.ready (c.kept.ensures.store.only.keeps.taken ∙ c.tries.ensures.store.only.keeps.taken
    ∙ c.requires.pins.ready.idle)) c.in_ok-right.ensures.tells

pub returns-clause-spends : goal.returns-clause-spends
returns-clause-spends g c =
    let read : c.in_ok-kept.kept ≡ kept c.charged.inside.secret (pin_in c.args.store.now c.charged.inside.secret) =
    c.in_ok-kept.ensures.kept
    ∙ ap (λ (m : List ℕ). kept c.charged.inside.secret (pin_at m (owner c.charged.inside.secret)))
    c.tries.ensures.store.only.keeps.committed_words in
    let reads = reads_then _ _ _ c.tries.ensures.store.only c.kept.ensures.store.only in
    let before = c.kept.new.store.facts in
    compares_after c.args.charged c.number.result c.args.shown.now _ _ c.compare.new.self
    (c.number.ensures.value ∙ c.charged.view_is) reads
    c.compare.ensures.words c.compare.ensures.writes c.compare.ensures.cut (inr c.in_ok-right.ensures.compared)
    (counts_match c.in_ok-right.right c.args.charged c.charged.inside.secret c.args.shown.now c.in_ok-kept.kept
    _ _ c.compare.new.self c.charged.view_is reads read c.in_ok-right.ensures.equal
    (c.in_ok-right.ensures.compared ∙ ap (raised before.compares) c.number.ensures.value)
    (c.in_ok-right.ensures.matched
    ∙ ap (λ (s : ℕ). if c.in_ok-right.right then raised before.matches s else before.matches) c.number.ensures.value))

pub returns-clause-done : goal.returns-clause-done
returns-clause-done g c =
    let read : c.in_ok-kept.kept ≡ kept c.charged.inside.secret (pin_in c.args.store.now c.charged.inside.secret) =
    c.in_ok-kept.ensures.kept
    ∙ ap (λ (m : List ℕ). kept c.charged.inside.secret (pin_at m (owner c.charged.inside.secret)))
    c.tries.ensures.store.only.keeps.committed_words in
    let before = c.kept.new.store.facts in
    subst (λ (o : Outcome). Compared c.args.charged c.args.shown.now c.args.store.now c.compare.new.self o)
    (sym c.outcome_of.ensures)
    (compared_by c.in_ok-right.right c.args.charged c.charged.inside.secret c.in_ok-left.left c.args.shown.now
    c.in_ok-kept.kept _ _ _ c.charged.view_is
    (reads_then _ _ _ c.tries.ensures.store.only c.kept.ensures.store.only) read c.in_ok-right.ensures.equal
    c.in_ok-left.ensures.left
    (c.in_ok-right.ensures.compared ∙ ap (raised before.compares) c.number.ensures.value)
    (c.in_ok-right.ensures.matched
    ∙ ap (λ (s : ℕ). if c.in_ok-right.right then raised before.matches s else before.matches) c.number.ensures.value)
    c.compare.ensures.writes
    c.compare.ensures.keeps.committed_words)

pub returns-in_err-left-clause-between : goal.returns-in_err-left-clause-between
returns-in_err-left-clause-between g c = last_none _ _ c.tries.ensures.store.only.board

pub returns-in_err-kept-clause-between : goal.returns-in_err-kept-clause-between
returns-in_err-kept-clause-between g c =
    last_after _ _ _ c.tries.ensures.store.only.board (last_none _ _ c.kept.ensures.store.only.board)

pub returns-in_err-right-clause-between : goal.returns-in_err-right-clause-between
returns-in_err-right-clause-between g c =
    last_after _ _ _ (reads_then _ _ _ c.tries.ensures.store.only c.kept.ensures.store.only).board
    (last_unwritten _ _ c.compare.ensures.words c.compare.ensures.cut)

pub returns-clause-between : goal.returns-clause-between
returns-clause-between g c =
    last_after _ _ _ (reads_then _ _ _ c.tries.ensures.store.only c.kept.ensures.store.only).board
    (last_unwritten _ _ c.compare.ensures.words c.compare.ensures.cut)
