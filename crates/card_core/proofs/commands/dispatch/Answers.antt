-- Each command is served as the function that carries it out says of the request that the command is.
use Rattle.std.proofs.Common.{◌≡◌, ℕ, List, [], Result, refl, sym, subst}
use Rattle.card_model.specs.declared.status.Sw.{Sw}
use Rattle.undo_journal.specs.declared.error.StoreErr.{StoreErr}
use Rattle.undo_journal.specs.Memory.{Memory}
use Rattle.apdu_core.specs.declared.commands.Command.{Command}
use Rattle.apdu_core.specs.ParsedCommands.{IsCommandInRange, request_of}
use Rattle.command_base.specs.declared.current.Current.{Current}
use Rattle.command_base.specs.Served.{Executes}
use Rattle.command_base.specs.Working.{card_in}
use Rattle.card_model.specs.PinCommands.{changing, marking}
use Rattle.card_model.specs.Steps.{commits}
use Rattle.card_core.proofs.Looking.{attempt-files, pin-files, space_left}
use Rattle.command_base.specs.laws.Executes.{index_left, space_kept}
use Rattle.card_core.proofs.commands.dispatch.Goals as goal

module _ (old : Memory) (x : Current) (new : Memory) (y : Current) (result : Result Sw StoreErr) (command this :
    Command)
    (is : command ≡ this) where
  -- with an answer
  told : (text : List ℕ) → Executes (request_of this) old x new y text result
      → Executes (request_of command) old x new y text result
  told text serves = subst (λ (it : Command). Executes (request_of it) old x new y text result) (sym is) serves

  -- with a status word alone
  silent : (text : List ℕ) → text ≡ [] → Executes (request_of this) old x new y [] result
      → Executes (request_of command) old x new y text result
  silent text empty serves =
      told text (subst (λ (it : List ℕ). Executes (request_of this) old x new y it result) (sym empty) serves)

pub select_file-requires-clause-selector : goal.select_file-requires-clause-selector
select_file-requires-clause-selector g c = subst IsCommandInRange c.in-Select.is c.requires.in_range

pub returns-in-Select-clause-serves : goal.returns-in-Select-clause-serves
returns-in-Select-clause-serves g c = told _ _ _ _ _ _ _ c.in-Select.is _ c.select_file.ensures

pub returns-in-Select-clause-space : goal.returns-in-Select-clause-space
unfolding commits
returns-in-Select-clause-space g c = space_left _ _ _ _ _ _ _ _ c.select_file.ensures tt c.requires.whole.space

pub returns-in-ReadBinary-clause-serves : goal.returns-in-ReadBinary-clause-serves
returns-in-ReadBinary-clause-serves g c = told _ _ _ _ _ _ _ c.in-ReadBinary.is _ c.read_binary.ensures

pub returns-in-ReadBinary-clause-space : goal.returns-in-ReadBinary-clause-space
unfolding commits
returns-in-ReadBinary-clause-space g c = space_left _ _ _ _ _ _ _ _ c.read_binary.ensures tt c.requires.whole.space

pub update_binary-requires-clause-bytes : goal.update_binary-requires-clause-bytes
update_binary-requires-clause-bytes g c =
    let all = subst IsCommandInRange c.in-UpdateBinary.is c.requires.in_range in (all.2, all.3)

pub returns-in-UpdateBinary-clause-serves : goal.returns-in-UpdateBinary-clause-serves
returns-in-UpdateBinary-clause-serves g c =
    silent _ _ _ _ _ _ _ c.in-UpdateBinary.is _ c.clear.ensures c.update_binary.ensures.serves

pub returns-in-UpdateBinary-clause-space : goal.returns-in-UpdateBinary-clause-space
returns-in-UpdateBinary-clause-space g c = space_kept _ _ _ _ c.requires.whole.space c.update_binary.ensures.space

pub returns-in-CreateFile-clause-serves : goal.returns-in-CreateFile-clause-serves
returns-in-CreateFile-clause-serves g c =
    silent _ _ _ _ _ _ _ c.in-CreateFile.is _ c.clear.ensures c.create_file.ensures.serves

pub returns-in-DeleteFile-clause-serves : goal.returns-in-DeleteFile-clause-serves
returns-in-DeleteFile-clause-serves g c =
    silent _ _ _ _ _ _ _ c.in-DeleteFile.is _ c.clear.ensures c.delete_file.ensures.serves

pub returns-in-ReadRecord-clause-serves : goal.returns-in-ReadRecord-clause-serves
returns-in-ReadRecord-clause-serves g c = told _ _ _ _ _ _ _ c.in-ReadRecord.is _ c.read_record.ensures

pub returns-in-ReadRecord-clause-space : goal.returns-in-ReadRecord-clause-space
unfolding commits
returns-in-ReadRecord-clause-space g c = space_left _ _ _ _ _ _ _ _ c.read_record.ensures tt c.requires.whole.space

pub update_record-requires-clause-bytes : goal.update_record-requires-clause-bytes
update_record-requires-clause-bytes g c =
    let all = subst IsCommandInRange c.in-UpdateRecord.is c.requires.in_range in (all.2, all.3)

pub returns-in-UpdateRecord-clause-serves : goal.returns-in-UpdateRecord-clause-serves
returns-in-UpdateRecord-clause-serves g c =
    silent _ _ _ _ _ _ _ c.in-UpdateRecord.is _ c.clear.ensures c.update_record.ensures.serves

pub returns-in-UpdateRecord-clause-space : goal.returns-in-UpdateRecord-clause-space
returns-in-UpdateRecord-clause-space g c = space_kept _ _ _ _ c.requires.whole.space c.update_record.ensures.space

pub append_record-requires-clause-bytes : goal.append_record-requires-clause-bytes
append_record-requires-clause-bytes g c =
    let all = subst IsCommandInRange c.in-AppendRecord.is c.requires.in_range in (all.1, all.2)

pub returns-in-AppendRecord-clause-serves : goal.returns-in-AppendRecord-clause-serves
returns-in-AppendRecord-clause-serves g c =
    silent _ _ _ _ _ _ _ c.in-AppendRecord.is _ c.clear.ensures c.append_record.ensures.serves

pub returns-in-AppendRecord-clause-space : goal.returns-in-AppendRecord-clause-space
returns-in-AppendRecord-clause-space g c = space_kept _ _ _ _ c.requires.whole.space c.append_record.ensures.space

pub search_record-requires-clause-few : goal.search_record-requires-clause-few
search_record-requires-clause-few g c = (subst IsCommandInRange c.in-SearchRecord.is c.requires.in_range).3

pub returns-in-SearchRecord-clause-serves : goal.returns-in-SearchRecord-clause-serves
returns-in-SearchRecord-clause-serves g c = told _ _ _ _ _ _ _ c.in-SearchRecord.is _ c.search_record.ensures

pub returns-in-SearchRecord-clause-space : goal.returns-in-SearchRecord-clause-space
unfolding commits
returns-in-SearchRecord-clause-space g c = space_left _ _ _ _ _ _ _ _ c.search_record.ensures tt c.requires.whole.space

pub increase-requires-clause-few : goal.increase-requires-clause-few
increase-requires-clause-few g c = (subst IsCommandInRange c.in-Increase.is c.requires.in_range).1

pub returns-in-Increase-clause-serves : goal.returns-in-Increase-clause-serves
returns-in-Increase-clause-serves g c = told _ _ _ _ _ _ _ c.in-Increase.is _ c.increase.ensures.serves

pub returns-in-Increase-clause-space : goal.returns-in-Increase-clause-space
returns-in-Increase-clause-space g c = space_kept _ _ _ _ c.requires.whole.space c.increase.ensures.space

pub returns-in-ChangeLifeCycle-clause-serves : goal.returns-in-ChangeLifeCycle-clause-serves
returns-in-ChangeLifeCycle-clause-serves g c =
    silent _ _ _ _ _ _ _ c.in-ChangeLifeCycle.is _ c.clear.ensures c.change_life_cycle.ensures.serves

pub returns-in-ChangeLifeCycle-clause-space : goal.returns-in-ChangeLifeCycle-clause-space
returns-in-ChangeLifeCycle-clause-space g c =
    space_kept _ _ _ _ c.requires.whole.space c.change_life_cycle.ensures.space

pub returns-in-TerminateCardUsage-clause-serves : goal.returns-in-TerminateCardUsage-clause-serves
returns-in-TerminateCardUsage-clause-serves g c =
    silent _ _ _ _ _ _ _ c.in-TerminateCardUsage.is _ c.clear.ensures c.terminate_card_usage.ensures

pub returns-in-TerminateCardUsage-clause-space : goal.returns-in-TerminateCardUsage-clause-space
unfolding commits
returns-in-TerminateCardUsage-clause-space g c =
    space_left _ _ _ _ _ _ _ _ c.terminate_card_usage.ensures (refl, tt) c.requires.whole.space

pub returns-in-Verify-clause-serves : goal.returns-in-Verify-clause-serves
returns-in-Verify-clause-serves g c = silent _ _ _ _ _ _ _ c.in-Verify.is _ c.clear.ensures c.verify.ensures

pub returns-in-Verify-clause-space : goal.returns-in-Verify-clause-space
unfolding commits
returns-in-Verify-clause-space g c = space_left _ _ _ _ _ _ _ _ c.verify.ensures (pin-files _ _) c.requires.whole.space

pub returns-in-ChangeReferenceData-clause-serves : goal.returns-in-ChangeReferenceData-clause-serves
returns-in-ChangeReferenceData-clause-serves g c =
    silent _ _ _ _ _ _ _ c.in-ChangeReferenceData.is _ c.clear.ensures c.change_reference_data.ensures

pub returns-in-ChangeReferenceData-clause-space : goal.returns-in-ChangeReferenceData-clause-space
unfolding commits
returns-in-ChangeReferenceData-clause-space g c =
    let values = c.in-ChangeReferenceData.values in
    let attempt = changing c.in-ChangeReferenceData.pin values.shown.now values.new.now in
    space_left _ _ _ _ _ _ _ _ c.change_reference_data.ensures (attempt-files (card_in c.args.parts.now.store) attempt)
    c.requires.whole.space

pub returns-in-ResetRetryCounter-clause-serves : goal.returns-in-ResetRetryCounter-clause-serves
returns-in-ResetRetryCounter-clause-serves g c =
    silent _ _ _ _ _ _ _ c.in-ResetRetryCounter.is _ c.clear.ensures c.reset_retry_counter.ensures

pub returns-in-ResetRetryCounter-clause-space : goal.returns-in-ResetRetryCounter-clause-space
unfolding commits
returns-in-ResetRetryCounter-clause-space g c =
    space_left _ _ _ _ _ _ _ _ c.reset_retry_counter.ensures (pin-files _ _) c.requires.whole.space

pub returns-in-ChangeRequirement-clause-serves : goal.returns-in-ChangeRequirement-clause-serves
returns-in-ChangeRequirement-clause-serves g c =
    silent _ _ _ _ _ _ _ c.in-ChangeRequirement.is _ c.clear.ensures c.change_requirement.ensures

pub returns-in-ChangeRequirement-clause-space : goal.returns-in-ChangeRequirement-clause-space
unfolding commits
returns-in-ChangeRequirement-clause-space g c =
    let attempt = marking c.in-ChangeRequirement.change c.in-ChangeRequirement.pin c.in-ChangeRequirement.shown.now in
    space_left _ _ _ _ _ _ _ _ c.change_requirement.ensures (attempt-files (card_in c.args.parts.now.store) attempt)
    c.requires.whole.space

pub returns-in-Select-clause-index : goal.returns-in-Select-clause-index
returns-in-Select-clause-index g c = index_left _ _ _ _ _ _ _ _ c.select_file.ensures refl c.requires.whole.index

pub returns-in-ReadBinary-clause-index : goal.returns-in-ReadBinary-clause-index
returns-in-ReadBinary-clause-index g c = index_left _ _ _ _ _ _ _ _ c.read_binary.ensures refl c.requires.whole.index

pub returns-in-UpdateBinary-clause-index : goal.returns-in-UpdateBinary-clause-index
returns-in-UpdateBinary-clause-index g c = index_left _ _ _ _ _ _ _ _ c.update_binary.ensures.serves refl
    c.requires.whole.index

pub returns-in-ReadRecord-clause-index : goal.returns-in-ReadRecord-clause-index
returns-in-ReadRecord-clause-index g c = index_left _ _ _ _ _ _ _ _ c.read_record.ensures refl c.requires.whole.index

pub returns-in-UpdateRecord-clause-index : goal.returns-in-UpdateRecord-clause-index
returns-in-UpdateRecord-clause-index g c = index_left _ _ _ _ _ _ _ _ c.update_record.ensures.serves refl
    c.requires.whole.index

pub returns-in-AppendRecord-clause-index : goal.returns-in-AppendRecord-clause-index
returns-in-AppendRecord-clause-index g c = index_left _ _ _ _ _ _ _ _ c.append_record.ensures.serves refl
    c.requires.whole.index

pub returns-in-SearchRecord-clause-index : goal.returns-in-SearchRecord-clause-index
returns-in-SearchRecord-clause-index g c = index_left _ _ _ _ _ _ _ _ c.search_record.ensures refl
    c.requires.whole.index

pub returns-in-Increase-clause-index : goal.returns-in-Increase-clause-index
returns-in-Increase-clause-index g c = index_left _ _ _ _ _ _ _ _ c.increase.ensures.serves refl c.requires.whole.index

pub returns-in-ChangeLifeCycle-clause-index : goal.returns-in-ChangeLifeCycle-clause-index
returns-in-ChangeLifeCycle-clause-index g c = index_left _ _ _ _ _ _ _ _ c.change_life_cycle.ensures.serves refl
    c.requires.whole.index

pub returns-in-TerminateCardUsage-clause-index : goal.returns-in-TerminateCardUsage-clause-index
returns-in-TerminateCardUsage-clause-index g c = index_left _ _ _ _ _ _ _ _ c.terminate_card_usage.ensures refl
    c.requires.whole.index

pub returns-in-Verify-clause-index : goal.returns-in-Verify-clause-index
returns-in-Verify-clause-index g c = index_left _ _ _ _ _ _ _ _ c.verify.ensures refl c.requires.whole.index

pub returns-in-ChangeReferenceData-clause-index : goal.returns-in-ChangeReferenceData-clause-index
returns-in-ChangeReferenceData-clause-index g c = index_left _ _ _ _ _ _ _ _ c.change_reference_data.ensures refl
    c.requires.whole.index

pub returns-in-ResetRetryCounter-clause-index : goal.returns-in-ResetRetryCounter-clause-index
returns-in-ResetRetryCounter-clause-index g c = index_left _ _ _ _ _ _ _ _ c.reset_retry_counter.ensures refl
    c.requires.whole.index

pub returns-in-ChangeRequirement-clause-index : goal.returns-in-ChangeRequirement-clause-index
returns-in-ChangeRequirement-clause-index g c = index_left _ _ _ _ _ _ _ _ c.change_requirement.ensures refl
    c.requires.whole.index

pub create_file-requires : goal.create_file-requires
create_file-requires g c = record {
  card = record {
    kept = c.requires.whole.kept;
    space = c.requires.whole.space;
    index = c.requires.whole.index;
  };
}

pub delete_file-requires : goal.delete_file-requires
delete_file-requires g c = record {
  card = record {
    kept = c.requires.whole.kept;
    space = c.requires.whole.space;
    index = c.requires.whole.index;
  };
}

pub change_life_cycle-requires : goal.change_life_cycle-requires
change_life_cycle-requires g c = record {
  card = record {
    kept = c.requires.whole.kept;
    index = c.requires.whole.index;
  };
}

pub select_file-requires-clause-card : goal.select_file-requires-clause-card
select_file-requires-clause-card g c = record {
  kept = c.requires.whole.kept;
  index = c.requires.whole.index;
}

pub update_binary-requires-clause-target : goal.update_binary-requires-clause-target
update_binary-requires-clause-target g c = record {
  kept = c.requires.whole.kept;
  range = (subst IsCommandInRange c.in-UpdateBinary.is c.requires.in_range).0;
}

pub update_record-requires-clause-target : goal.update_record-requires-clause-target
update_record-requires-clause-target g c = record {
  kept = c.requires.whole.kept;
  range = (subst IsCommandInRange c.in-UpdateRecord.is c.requires.in_range).0;
}

pub append_record-requires-clause-target : goal.append_record-requires-clause-target
append_record-requires-clause-target g c = record {
  kept = c.requires.whole.kept;
  range = (subst IsCommandInRange c.in-AppendRecord.is c.requires.in_range).0;
}

pub search_record-requires-clause-target : goal.search_record-requires-clause-target
search_record-requires-clause-target g c = record {
  kept = c.requires.whole.kept;
  range = (subst IsCommandInRange c.in-SearchRecord.is c.requires.in_range).0;
}

pub read_binary-requires : goal.read_binary-requires
read_binary-requires g c = record {
  target = record {
    kept = c.requires.whole.kept;
    range = (subst IsCommandInRange c.in-ReadBinary.is c.requires.in_range).0;
  };
}

pub read_record-requires : goal.read_record-requires
read_record-requires g c = record {
  target = record {
    kept = c.requires.whole.kept;
    range = (subst IsCommandInRange c.in-ReadRecord.is c.requires.in_range).0;
  };
}
