use Rattle.std.proofs.Common.{[], refl, sym, ◌∙◌, subst, arith}
use Rattle.undo_journal.specs.Memory.{committed}
use Rattle.undo_journal.specs.laws.Exits.{ok_anyway}
use Rattle.file_changes.specs.Creations.{TellsCreation}
use Rattle.file_changes.specs.declared.creating.Creation.{Creation}
use Rattle.card_model.specs.Requests.{create_file}
use Rattle.command_base.specs.Working.{card_in, session_in}
use Rattle.file_commands.proofs.CreateServes.{created-counts, created-done, creation-refused}
use Rattle.file_commands.proofs.CreateServes.{creation-taken}
use Rattle.file_commands.proofs.CreateServes.{creation-taken-one, creation-torn}
use Rattle.file_commands.proofs.FileSteps.{create-refusal}
use Rattle.command_base.specs.laws.Readings.{card_still, current_still, index_still}
use Rattle.command_base.specs.laws.Executes.{halted}
use Rattle.command_base.specs.laws.SpaceKept.{space-same}
use Rattle.command_base.specs.laws.CardLaws.{card_space_is}
use Rattle.command_base.specs.Standing.{IsCard}
use Rattle.command_base.specs.laws.Stopping.{none-failed, reply-failed}
use Rattle.file_commands.proofs.files.create_file.Goals as goal

pub returns-in_err-entry-clause-serves : goal.returns-in_err-entry-clause-serves
returns-in_err-entry-clause-serves g c =
    let found = c.in_ok-fcp.ensures.told in
    creation-torn _ c.find_new_file.new.store c.create.new.store c.requires.card.kept.ready
    c.requires.card.kept.card c.args.current.now c.requires.card.kept.current c.args.template.now c.in_ok-fcp.fcp found
    c.find_new_file.ensures.store.only _ _ (reply-failed _ _ c.from_residual-in_err-entry.ensures.1)
    c.create.ensures.any_exit c.create.ensures.idle c.create.ensures.by_gate c.create.ensures.turned
    _ c.in_err-entry.ensures.store
    (omega arith)

pub returns-in-Refused-clause-serves : goal.returns-in-Refused-clause-serves
returns-in-Refused-clause-serves g c =
    let x = c.args.current.now in
    let found = c.in_ok-fcp.ensures.told in
    let tells = subst (λ (creation : Creation). TellsCreation (committed c.find_new_file.new.store) x.df c.in_ok-fcp.fcp
    creation (committed c.create.new.store)) c.in-Refused.is c.in_ok-entry.ensures.done in
    creation-refused _ c.find_new_file.new.store c.create.new.store c.requires.card.kept.ready
    c.requires.card.kept.card x
    c.requires.card.kept.current c.args.template.now c.in_ok-fcp.fcp found c.find_new_file.ensures.store.only
    c.in-Refused.refusal tells c.create.ensures.idle c.in_ok-entry.ensures.store.ready

pub overflow_sub-free : goal.overflow_sub-free
overflow_sub-free g c =
    let found = c.in_ok-fcp.ensures.told in
    creation-taken _ c.find_new_file.new.store c.create.new.store c.requires.card.kept.ready
    c.requires.card.kept.card c.args.current.now c.requires.card.kept.current c.args.template.now c.in_ok-fcp.fcp
    found c.find_new_file.ensures.store.only c.in-Created.entry c.in-Created.blocks c.in_ok-entry.field-0
    c.in_ok-entry.ensures.done c.in-Created.is c.args.free.now c.requires.card.space

pub overflow_sub-free-2 : goal.overflow_sub-free-2
overflow_sub-free-2 g c =
    let found = c.in_ok-fcp.ensures.told in
    creation-taken-one _ c.find_new_file.new.store c.create.new.store c.requires.card.kept.ready
    c.requires.card.kept.card
    c.args.current.now c.requires.card.kept.current c.args.template.now c.in_ok-fcp.fcp
    found c.find_new_file.ensures.store.only c.in-Created.entry c.in-Created.blocks c.in_ok-entry.field-0
    c.in_ok-entry.ensures.done c.in-Created.is c.args.free.now c.requires.card.space

pub returns-in_err-fcp-clause-serves : goal.returns-in_err-fcp-clause-serves
returns-in_err-fcp-clause-serves g c =
    let old = c.args.store.now in
    let x = c.args.current.now in
    let template = c.args.template.now in
    halted (create_file template) old x c.find_new_file.new.store (λ _. tt)
    c.requires.card.kept.card c.requires.card.kept.current [] refl _ _ c.from_residual.ensures.1
    c.in_err-fcp.ensures.store _
    (λ status. create-refusal (card_in old) (session_in old x) template status) c.in_err-fcp.ensures.told

pub returns-in_err-fcp-clause-space : goal.returns-in_err-fcp-clause-space
returns-in_err-fcp-clause-space g c =
    ok_anyway _ _ (c.requires.card.space ∙ sym (space-same c.args.store.now c.find_new_file.new.store
    c.find_new_file.ensures.store.only.keeps.committed_words))

pub returns-in_err-fcp-clause-index : goal.returns-in_err-fcp-clause-index
returns-in_err-fcp-clause-index g c =
    ok_anyway _ _ (index_still c.args.store.now c.find_new_file.new.store _ c.find_new_file.ensures.store.only
    c.requires.card.index)

pub returns-in_err-entry-clause-space : goal.returns-in_err-entry-clause-space
returns-in_err-entry-clause-space g c = none-failed _ _ _ c.from_residual-in_err-entry.ensures.1

pub returns-in_err-entry-clause-index : goal.returns-in_err-entry-clause-index
returns-in_err-entry-clause-index g c = none-failed _ _ _ c.from_residual-in_err-entry.ensures.1

pub returns-clause-serves : goal.returns-clause-serves
returns-clause-serves g c =
    let found = c.in_ok-fcp.ensures.told in
    created-done c.args.store.now c.find_new_file.new.store c.create.new.store c.requires.card.kept.ready
    c.requires.card.kept.card c.args.current.now
    c.requires.card.kept.current c.args.template.now c.in_ok-fcp.fcp found c.find_new_file.ensures.store.only
    c.in-Created.entry c.in-Created.blocks c.in_ok-entry.field-0 c.in_ok-entry.ensures.done c.in-Created.is
    c.create.ensures.by_gate c.create.ensures.turned _ c.in_ok-entry.ensures.store (omega arith)
    c.in_ok-entry.ensures.store.ready _
    c.at_new_file.ensures

pub returns-clause-space : goal.returns-clause-space
returns-clause-space g c =
    let found = c.in_ok-fcp.ensures.told in
    created-counts _ c.find_new_file.new.store
    c.create.new.store c.requires.card.kept.ready c.requires.card.kept.card c.args.current.now
    c.requires.card.kept.current
    c.args.template.now c.in_ok-fcp.fcp found c.find_new_file.ensures.store.only c.in-Created.entry
    c.in-Created.blocks c.in_ok-entry.field-0 c.in_ok-entry.ensures.done c.in-Created.is
    c.create.ensures.by_gate c.create.ensures.turned _ c.in_ok-entry.ensures.store (omega arith)
    c.args.free.now c.requires.card.space

pub returns-clause-index : goal.returns-clause-index
returns-clause-index g c = c.in_ok-entry.ensures.index

pub find_new_file-requires : goal.find_new_file-requires
find_new_file-requires g c = record {
  kept = c.requires.card.kept;
}

pub create-requires-clause-space : goal.create-requires-clause-space
create-requires-clause-space g c = record {
  free = let same = c.find_new_file.ensures.store.only.keeps.committed_words in
      let card = subst IsCard (sym same) c.requires.card.kept.card in
      c.requires.card.space ∙ sym (space-same c.args.store.now c.find_new_file.new.store same)
      ∙ card_space_is (committed c.find_new_file.new.store) card;
  index = index_still c.args.store.now c.find_new_file.new.store _ c.find_new_file.ensures.store.only
      c.requires.card.index;
}

pub create-requires-clause-df : goal.create-requires-clause-df
create-requires-clause-df g c = record {
  ready = c.in_ok-fcp.ensures.store.ready;
  tree = (card_still c.args.store.now c.find_new_file.new.store c.find_new_file.ensures.store.only
      c.requires.card.kept.card).tree;
  df = (current_still c.args.store.now c.find_new_file.new.store c.args.current.now c.find_new_file.ensures.store.only
      c.requires.card.kept.current).df;
}
