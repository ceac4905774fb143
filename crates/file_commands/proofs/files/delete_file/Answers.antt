use Rattle.std.proofs.Common.{[], refl, sym, ◌∙◌, ap, arith}
use Rattle.undo_journal.specs.Memory.{committed}
use Rattle.undo_journal.specs.laws.Exits.{ok_anyway}
use Rattle.card_model.specs.Requests.{delete_file}
use Rattle.command_base.specs.Working.{card_in, session_in}
use Rattle.card_model.specs.declared.space.FreeSpace.{FreeSpace}
use Rattle.command_base.specs.laws.CardLaws.{few_free}
use Rattle.file_commands.proofs.DeleteServes.{deleted-card, deleted-free, deletion-made, deletion-torn}
use Rattle.file_commands.proofs.FileSteps.{delete-refused}
use Rattle.command_base.specs.laws.Readings.{file_kept, index_still}
use Rattle.command_base.specs.laws.Executes.{halted}
use Rattle.command_base.specs.laws.Stopping.{none-failed, reply-failed}
use Rattle.command_base.specs.laws.SpaceKept.{space-same}
use Rattle.file_lookup.specs.laws.StoredFiles.{file_still}
use Rattle.file_commands.proofs.files.delete_file.Goals as goal

pub returns-in_err-freed-clause-serves : goal.returns-in_err-freed-clause-serves
returns-in_err-freed-clause-serves g c =
    deletion-torn
    c.args.store.now c.find_deletable.new.store c.delete.new.store c.requires.card.kept.ready
    c.requires.card.kept.card c.args.current.now c.args.subject c.in_ok-file.file.number c.in_ok-file.file.entry
    c.in_ok-file.ensures.told c.find_deletable.ensures.store.only c.delete.ensures.any_exit c.requires.card.kept.current
    c.delete.ensures.by_gate c.delete.ensures.turned c.delete.ensures.store.reports c.delete.ensures.store.writes _ _
    (reply-failed _ _ c.from_residual-in_err-freed.ensures.1) c.in_err-freed.ensures.store.tells

pub returns-clause-serves : goal.returns-clause-serves
returns-clause-serves g c =
    deletion-made
    c.args.store.now c.find_deletable.new.store c.delete.new.store c.requires.card.kept.ready
    c.requires.card.kept.card c.args.current.now c.args.subject c.in_ok-file.file.number c.in_ok-file.file.entry
    c.in_ok-file.ensures.told c.find_deletable.ensures.store.only c.delete.ensures.any_exit c.requires.card.kept.current
    c.delete.ensures.by_gate c.delete.ensures.turned c.delete.ensures.store.reports c.delete.ensures.store.writes
    c.in_ok-freed.ensures.done c.in_ok-freed.ensures.store.ready _ c.new.ensures

pub returns-clause-space : goal.returns-clause-space
returns-clause-space g c =
    deleted-free
    c.args.store.now c.find_deletable.new.store c.delete.new.store c.requires.card.kept.ready
    c.requires.card.kept.card c.args.current.now c.args.subject c.in_ok-file.file.number c.in_ok-file.file.entry
    c.in_ok-file.ensures.told c.find_deletable.ensures.store.only c.delete.ensures.any_exit c.args.free.now
    c.in_ok-freed.freed c.requires.card.space c.in_ok-freed.ensures.space

pub delete-requires-clause-index : goal.delete-requires-clause-index
delete-requires-clause-index g c =
    index_still c.args.store.now c.find_deletable.new.store _ c.find_deletable.ensures.store.only c.requires.card.index

-- what is free then is at most all there is
pub overflow_add-free : goal.overflow_add-free
overflow_add-free g c =
    let card = deleted-card
    c.args.store.now c.find_deletable.new.store c.delete.new.store c.requires.card.kept.ready
    c.requires.card.kept.card c.args.current.now c.args.subject c.in_ok-file.file.number c.in_ok-file.file.entry
    c.in_ok-file.ensures.told c.find_deletable.ensures.store.only c.delete.ensures.any_exit in
    let space = ap (λ (s : FreeSpace). s.blocks)
    (deleted-free
    c.args.store.now c.find_deletable.new.store c.delete.new.store c.requires.card.kept.ready
    c.requires.card.kept.card c.args.current.now c.args.subject c.in_ok-file.file.number c.in_ok-file.file.entry
    c.in_ok-file.ensures.told c.find_deletable.ensures.store.only c.delete.ensures.any_exit c.args.free.now
    c.in_ok-freed.freed c.requires.card.space c.in_ok-freed.ensures.space) in
    let few = few_free (committed c.delete.new.store) c.in_ok-freed.ensures.store.ready.usable.committed_size card in
    omega (arith, space, few)

pub returns-in_err-file-clause-serves : goal.returns-in_err-file-clause-serves
returns-in_err-file-clause-serves g c =
    let old = c.args.store.now in
    let x = c.args.current.now in
    halted (delete_file c.args.subject) old x c.find_deletable.new.store (λ _. tt) c.requires.card.kept.card
    c.requires.card.kept.current [] refl _ _ c.from_residual.ensures.1 c.in_err-file.ensures.store _
    (λ status. delete-refused (card_in old) (session_in old x) c.args.subject status) c.in_err-file.ensures.told

pub returns-in_err-file-clause-space : goal.returns-in_err-file-clause-space
returns-in_err-file-clause-space g c =
    ok_anyway _ _ (c.requires.card.space ∙ sym (space-same c.args.store.now c.find_deletable.new.store
    c.find_deletable.ensures.store.only.keeps.committed_words))

pub returns-in_err-file-clause-index : goal.returns-in_err-file-clause-index
returns-in_err-file-clause-index g c =
    ok_anyway _ _ (index_still c.args.store.now c.find_deletable.new.store _ c.find_deletable.ensures.store.only
    c.requires.card.index)

pub returns-in_err-freed-clause-space : goal.returns-in_err-freed-clause-space
returns-in_err-freed-clause-space g c = none-failed _ _ _ c.from_residual-in_err-freed.ensures.1

pub returns-in_err-freed-clause-index : goal.returns-in_err-freed-clause-index
returns-in_err-freed-clause-index g c = none-failed _ _ _ c.from_residual-in_err-freed.ensures.1

pub find_deletable-requires : goal.find_deletable-requires
find_deletable-requires g c = record {
  card = record {
    kept = c.requires.card.kept;
    index = c.requires.card.index;
  };
}

pub delete-requires-clause-file : goal.delete-requires-clause-file
delete-requires-clause-file g c = record {
  file = file_still _ _ _ c.find_deletable.ensures.store.only c.in_ok-file.ensures.store.ready
      (file_kept _ _ _ c.requires.card.kept c.in_ok-file.ensures.told.used);
  below = c.in_ok-file.ensures.told.below;
}
