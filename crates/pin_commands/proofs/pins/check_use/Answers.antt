use Rattle.undo_journal.specs.laws.Told.{reads_on}
use Rattle.command_base.specs.declared.stop.Stop.TheVariants.{Failed}
use Rattle.command_base.specs.laws.Stopping.{finds-stopped, reads-stopped}
use Rattle.pin_commands.proofs.pins.check_use.Goals as goal

pub returns-in_err-enabled : goal.returns-in_err-enabled
returns-in_err-enabled g c = record {
  told = finds-stopped _ (Failed c.in_err-enabled.field-0.0) c.from_residual-in_err-enabled.ensures.1 _ _ tt;
  store = reads-stopped _ (Failed c.in_err-enabled.field-0.0) c.from_residual-in_err-enabled.ensures.1 _ _
      (reads_on _ _ _ _ c.tries.ensures.store.only c.in_err-enabled.ensures.store);
}

pub returns-in_err-tries : goal.returns-in_err-tries
returns-in_err-tries g c = record {
  told = finds-stopped _ (Failed c.in_err-tries.field-0.0) c.from_residual.ensures.1 _ _ tt;
  store = reads-stopped _ (Failed c.in_err-tries.field-0.0) c.from_residual.ensures.1 _ _ c.in_err-tries.ensures.store;
}
