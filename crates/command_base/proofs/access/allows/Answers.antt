use Rattle.std.proofs.Common.{List, Bool, sym, ◌∙◌, ap}
use Rattle.undo_journal.specs.Memory.{committed}
use Rattle.undo_journal.specs.laws.Exits.{none_ok}
use Rattle.undo_journal.specs.laws.Told.{reads_handed, reads_none}
use Rattle.card_model.specs.laws.DisabledPins.{allows-anyhow}
use Rattle.file_tree.specs.Entries.{is_allowed_by, life_told, rule_of}
use Rattle.command_base.specs.Working.{disabled_in}
use Rattle.command_base.proofs.Allowing.{allowed-by-entry}
use Rattle.command_base.proofs.access.allows.Goals as goal

pub returns-then-is_allowed_at : goal.returns-then-is_allowed_at
returns-then-is_allowed_at g c = record {
  told = let m = committed c.args.store.now in
      let entry = c.args.file.now.entry in
      let bit = c.args.bit in
      let x = c.args.current.now in
      sym (allows-anyhow (rule_of entry) bit (life_told entry) x.verified (disabled_in m)
      (sym (c.is_allowed_at.ensures
      ∙ ap (λ (disabled : List Bool). is_allowed_by entry bit x.verified disabled) c.new.ensures)
      ∙ c.if-is_allowed_at.true))
      ∙ allowed-by-entry m c.requires.file.kept.card x c.requires.file.kept.current.marks c.args.file.now.number
      c.requires.file.used
      entry c.requires.file.entry bit;
  store = reads_none _ c.requires.file.kept.ready;
}

pub returns : goal.returns
returns g c = record {
  told = let entry = c.args.file.now.entry in
      let x = c.args.current.now in
      c.is_allowed_at-2.ensures
      ∙ ap (λ (disabled : List Bool). is_allowed_by entry c.args.bit x.verified disabled) c.in_ok-disabled.ensures.told
      ∙ allowed-by-entry (committed c.args.store.now) c.requires.file.kept.card x c.requires.file.kept.current.marks
      c.args.file.now.number c.requires.file.used entry c.requires.file.entry c.args.bit;
  store = c.in_ok-disabled.ensures.store;
}

pub returns-in_err-disabled : goal.returns-in_err-disabled
returns-in_err-disabled g c = record {
  told = none_ok _ _ _ c.from_residual.ensures.1;
  store = reads_handed _ _ _ _ c.from_residual.ensures.1 c.in_err-disabled.ensures.store;
}
