use Rattle.std.proofs.Common.{◌∙◌, ◌==◌, List, ℕ, Ok, Err, ap, sym, subst, Result}
use Rattle.std.proofs.lemmas.Bool.{ne_eqb}
use Rattle.undo_journal.specs.Memory.{committed}
use Rattle.card_model.specs.declared.status.Sw.{Sw}
use Rattle.undo_journal.specs.declared.error.StoreErr.{StoreErr}
use Rattle.card_model.specs.declared.status.TheConstants.Sw.{CONDITIONS_NOT_SATISFIED}
use Rattle.apdu_core.specs.ParsedCommands.{request_of}
use Rattle.command_base.specs.Served.{ExecutesBytes}
use Rattle.card_core.proofs.Carrying.{carried, failed-reading, in-use-is, serves-after, use-ended, refused-by-form}
use Rattle.command_base.specs.laws.Readings.{index_still, kept_still}
use Rattle.command_base.specs.laws.SpaceKept.{space-same}
use Rattle.command_base.specs.laws.Stopping.{err-is, none-failed, reply-failed}
use Rattle.undo_journal.specs.laws.Calls.{reads_same}
use Rattle.command_base.specs.Stops.{reply}
use Rattle.card_core.proofs.commands.parse_and_run.Goals as goal

pub returns-in_err-state-clause-carries : goal.returns-in_err-state-clause-carries
returns-in_err-state-clause-carries g c =
    let old = c.args.parts.now.store in
    let x = c.args.parts.now.current in
    let new = c.header_word.new.store in
    let bytes = c.args.command.now in
    subst (λ (r : Result Sw StoreErr). ExecutesBytes bytes old x new x c.clear.new.self.items r) (sym (err-is _ _
    (reply-failed _ _ c.from_residual.ensures.1)))
    (subst (λ (text : List ℕ). ExecutesBytes bytes old x new x text (Err c.in_err-state.field-0.0))
    (sym c.clear.ensures) (failed-reading bytes old new x c.requires.whole.kept x c.in_err-state.field-0.0
    c.in_err-state.ensures.store.only c.in_err-state.ensures.store.tells))

pub returns-then-state-ne-CARD_IN_USE-clause-carries : goal.returns-then-state-ne-CARD_IN_USE-clause-carries
returns-then-state-ne-CARD_IN_USE-clause-carries g c =
    let old = c.args.parts.now.store in
    let x = c.args.parts.now.current in
    let new = c.header_word.new.store in
    let bytes = c.args.command.now in
    let told = in-use-is (committed old) ∙ ap (λ (n : ℕ). n == 0) (sym c.in_ok-state.ensures.told) in
    let ended = told ∙ ne_eqb _ _ c.if-state-ne-CARD_IN_USE.true in
    subst (λ (text : List ℕ). ExecutesBytes bytes old x new x text (Ok CONDITIONS_NOT_SATISFIED)) (sym c.clear.ensures)
    (use-ended bytes old new x c.requires.whole.kept (request_of c.in-Ok.command) c.in-Ok.ensures.asked
    ended c.in_ok-state.ensures.store.only c.in_ok-state.ensures.store.ready)

pub returns-clause-carries : goal.returns-clause-carries
returns-clause-carries g c =
    let old = c.args.parts.now.store in
    let x = c.args.parts.now.current in
    let request = request_of c.in-Ok.command in
    let told = in-use-is (committed old) ∙ ap (λ (n : ℕ). n == 0) (sym c.in_ok-state.ensures.told) in
    let in_use = told ∙ ap (λ (n : ℕ). n == 0) c.if-state-ne-CARD_IN_USE.false in
    carried c.args.command.now old c.dispatch.new.parts.store x c.dispatch.new.parts.current c.dispatch.new.answer.items
    (reply c.dispatch.result) request c.in-Ok.ensures.asked in_use
    (serves-after request old c.header_word.new.store
    c.dispatch.new.parts.store x c.dispatch.new.parts.current c.dispatch.new.answer.items
    (reply c.dispatch.result) c.in_ok-state.ensures.store.only c.dispatch.ensures.serves)

pub returns-in_err-state-clause-space : goal.returns-in_err-state-clause-space
returns-in_err-state-clause-space g c = none-failed _ _ _ c.from_residual.ensures.1

pub returns-in-Err-clause-carries : goal.returns-in-Err-clause-carries
returns-in-Err-clause-carries g c =
    let old = c.args.parts.now.store in
    let x = c.args.parts.now.current in
    let bytes = c.args.command.now in
    let status = c.in-Err.refusal in
    subst (λ (text : List ℕ). ExecutesBytes bytes old x old x text (Ok status)) (sym c.clear.ensures)
    (refused-by-form bytes old old x c.requires.whole.kept status c.in-Err.ensures.asked
    (reads_same old) c.requires.whole.kept.ready)

pub returns-in-Err-clause-space : goal.returns-in-Err-clause-space
returns-in-Err-clause-space g c = c.requires.whole.space

pub returns-in-Err-clause-index : goal.returns-in-Err-clause-index
returns-in-Err-clause-index g c = c.requires.whole.index

pub dispatch-requires-clause-whole : goal.dispatch-requires-clause-whole
dispatch-requires-clause-whole g c =
    let old = c.args.parts.now.store in
    let new = c.header_word.new.store in
    let reads = c.header_word.ensures.store.only in
    record {
      kept = kept_still old new c.args.parts.now.current reads
          c.in_ok-state.ensures.store.ready c.requires.whole.kept;
      space = c.requires.whole.space ∙ sym (space-same old new reads.keeps.committed_words);
      index = index_still old new c.args.parts.now.index reads c.requires.whole.index;
    }

pub returns-in_err-state-clause-index : goal.returns-in_err-state-clause-index
returns-in_err-state-clause-index g c = none-failed _ _ _ c.from_residual.ensures.1

pub returns-then-state-ne-CARD_IN_USE-clause-index : goal.returns-then-state-ne-CARD_IN_USE-clause-index
returns-then-state-ne-CARD_IN_USE-clause-index g c =
    index_still c.args.parts.now.store c.header_word.new.store c.args.parts.now.index c.header_word.ensures.store.only
    c.requires.whole.index
