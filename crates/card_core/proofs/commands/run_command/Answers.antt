use Rattle.std.proofs.Common.{◌≡◌, OnOk, Result, sym, subst}
use Rattle.card_model.specs.declared.status.Sw.{Sw}
use Rattle.undo_journal.specs.declared.error.StoreErr.{StoreErr}
use Rattle.command_base.specs.Served.{ExecutesBytes}
use Rattle.file_tree.specs.Indexes.{IsIndex}
use Rattle.command_base.specs.Working.{space_in, table_in}
use Rattle.card_core.proofs.commands.run_command.Goals as goal

pub returns-clause-carries : goal.returns-clause-carries
returns-clause-carries g c =
    let new = c.parse_and_run.new.parts in
    subst (λ (r : Result Sw StoreErr). ExecutesBytes c.args.command.now c.args.parts.now.store c.args.parts.now.current
    new.store new.current c.parse_and_run.new.answer.items r) (sym c.reply.ensures) c.parse_and_run.ensures.carries

pub returns-clause-space : goal.returns-clause-space
returns-clause-space g c =
    subst (λ (r : Result Sw StoreErr). OnOk r (c.parse_and_run.new.parts.free
    ≡ space_in c.parse_and_run.new.parts.store))
    (sym c.reply.ensures) c.parse_and_run.ensures.space

pub returns-clause-index : goal.returns-clause-index
returns-clause-index g c =
    subst (λ (r : Result Sw StoreErr). OnOk r (IsIndex (table_in c.parse_and_run.new.parts.store)
    c.parse_and_run.new.parts.index))
    (sym c.reply.ensures) c.parse_and_run.ensures.index
