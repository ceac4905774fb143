use Rattle.std.proofs.Common.{◌≡◌, ◌||◌, ℕ, Bool, sym, ◌∙◌, ap, subst}
use Rattle.undo_journal.specs.Memory.{committed}
use Rattle.undo_journal.specs.laws.Calls.{reads_then}
use Rattle.file_tree.specs.Table.{table, IsUsed}
use Rattle.file_tree.specs.laws.Nodes.{used_small}
use Rattle.file_commands.proofs.Deletions.{findings-verdict}
use Rattle.file_commands.proofs.files.check_deletion.Goals.{then-own, else-own}
use Rattle.command_base.specs.laws.Readings.{entry_still, file_kept, kept_still, used_still}
use Rattle.undo_journal.specs.laws.Told.{reads_on}
use Rattle.command_base.specs.declared.stop.Stop.TheVariants.{Refused, Failed}
use Rattle.command_base.specs.laws.Stopping.{finds-stopped, reads-stopped}
use Rattle.file_commands.proofs.files.check_deletion.Goals as goal

pub returns-in_err-by_parent : goal.returns-in_err-by_parent
returns-in_err-by_parent g c = record {
  told = finds-stopped _ (Failed c.in_err-by_parent.field-0.0) c.from_residual-in_err-by_parent.ensures.1 _ _ tt;
  store = reads-stopped _ (Failed c.in_err-by_parent.field-0.0) c.from_residual-in_err-by_parent.ensures.1 _ _
      (reads_on _ _ _ _ (reads_then _ _ _
      (reads_then _ _ _ c.read_entry.ensures.store.only c.is_barred_at.ensures.store.only) c.allows.ensures.store.only)
      c.in_err-by_parent.ensures.store);
}

pub returns : goal.returns
returns g c = record {
  told = let both : c.if-own.findings ≡ (c.in_ok-own.own || c.in_ok-by_parent.by_parent) = elim c.if-own.branch [
    | then-own w ↦ w.findings-is ∙ w.if-own.true
        ∙ sym (ap (λ (b : Bool). b || c.in_ok-by_parent.by_parent) w.if-own.true)
    | else-own w ↦ w.findings-is ∙ sym (ap (λ (b : Bool). b || c.in_ok-by_parent.by_parent) w.if-own.false)
  ] in
      sym (c.in_ok-check.ensures ∙ findings-verdict (committed c.args.store.now) (committed c.read_entry.new.store)
      (committed c.is_barred_at.new.store) (committed c.allows.new.store) c.args.current.now c.args.file.now.number
      c.args.file.now.entry.parent c.new-number.result c.in_ok-barred.barred c.in_ok-own.own
      c.in_ok-by_parent.by_parent c.read_entry.ensures.store.only.keeps.committed_words
      c.is_barred_at.ensures.store.only.keeps.committed_words c.allows.ensures.store.only.keeps.committed_words
      c.new-number.ensures c.in_ok-barred.ensures.told c.in_ok-own.ensures.told c.in_ok-by_parent.ensures.told
      c.if-own.findings both);
  store = reads_on _ _ _ _ (reads_then _ _ _
      (reads_then _ _ _ c.read_entry.ensures.store.only c.is_barred_at.ensures.store.only) c.allows.ensures.store.only)
      c.in_ok-by_parent.ensures.store;
}

pub returns-in_err-check : goal.returns-in_err-check
returns-in_err-check g c = record {
  told = let both : c.if-own.findings ≡ (c.in_ok-own.own || c.in_ok-by_parent.by_parent) = elim c.if-own.branch [
    | then-own w ↦ w.findings-is ∙ w.if-own.true
        ∙ sym (ap (λ (b : Bool). b || c.in_ok-by_parent.by_parent) w.if-own.true)
    | else-own w ↦ w.findings-is ∙ sym (ap (λ (b : Bool). b || c.in_ok-by_parent.by_parent) w.if-own.false)
  ] in
      finds-stopped _ (Refused c.in_err-check.field-0.0) c.from_residual-in_err-check.ensures.1 _ _
      (sym (c.in_err-check.ensures ∙ findings-verdict (committed c.args.store.now) (committed c.read_entry.new.store)
      (committed c.is_barred_at.new.store) (committed c.allows.new.store) c.args.current.now c.args.file.now.number
      c.args.file.now.entry.parent c.new-number.result c.in_ok-barred.barred c.in_ok-own.own
      c.in_ok-by_parent.by_parent c.read_entry.ensures.store.only.keeps.committed_words
      c.is_barred_at.ensures.store.only.keeps.committed_words c.allows.ensures.store.only.keeps.committed_words
      c.new-number.ensures c.in_ok-barred.ensures.told c.in_ok-own.ensures.told c.in_ok-by_parent.ensures.told
      c.if-own.findings both));
  store = reads-stopped _ (Refused c.in_err-check.field-0.0) c.from_residual-in_err-check.ensures.1 _ _
      (reads_on _ _ _ _ (reads_then _ _ _
      (reads_then _ _ _ c.read_entry.ensures.store.only c.is_barred_at.ensures.store.only) c.allows.ensures.store.only)
      c.in_ok-by_parent.ensures.store);
}

pub returns-in_err-entry : goal.returns-in_err-entry
returns-in_err-entry g c = record {
  told = finds-stopped _ (Failed c.in_err-entry.field-0.0) c.from_residual.ensures.1 _ _ tt;
  store = reads-stopped _ (Failed c.in_err-entry.field-0.0) c.from_residual.ensures.1 _ _ c.in_err-entry.ensures.store;
}

pub returns-in_err-barred : goal.returns-in_err-barred
returns-in_err-barred g c = record {
  told = finds-stopped _ (Failed c.in_err-barred.field-0.0) c.from_residual-in_err-barred.ensures.1 _ _ tt;
  store = reads-stopped _ (Failed c.in_err-barred.field-0.0) c.from_residual-in_err-barred.ensures.1 _ _
      (reads_on _ _ _ _ c.read_entry.ensures.store.only c.in_err-barred.ensures.store);
}

pub returns-in_err-own : goal.returns-in_err-own
returns-in_err-own g c = record {
  told = finds-stopped _ (Failed c.in_err-own.field-0.0) c.from_residual-in_err-own.ensures.1 _ _ tt;
  store = reads-stopped _ (Failed c.in_err-own.field-0.0) c.from_residual-in_err-own.ensures.1 _ _
      (reads_on _ _ _ _ (reads_then _ _ _ c.read_entry.ensures.store.only c.is_barred_at.ensures.store.only)
      c.in_err-own.ensures.store);
}

pub allows-requires : goal.allows-requires
allows-requires g c = record {
  file = record {
    kept = kept_still _ _ _ (reads_then _ _ _ c.read_entry.ensures.store.only c.is_barred_at.ensures.store.only)
        c.in_ok-barred.ensures.store.ready c.requires.file.kept;
    used = used_still c.args.store.now c.is_barred_at.new.store c.args.file.now.number
        (reads_then _ _ _ c.read_entry.ensures.store.only c.is_barred_at.ensures.store.only) c.requires.file.used;
    entry = entry_still c.args.store.now c.is_barred_at.new.store c.args.file.now.number c.args.file.now.entry
        (reads_then _ _ _ c.read_entry.ensures.store.only c.is_barred_at.ensures.store.only) c.requires.file.entry;
  };
}

pub allows-requires-2 : goal.allows-requires-2
allows-requires-2 g c = record {
  file = record {
    kept = kept_still _ _ _
        (reads_then _ _ _ (reads_then _ _ _ c.read_entry.ensures.store.only c.is_barred_at.ensures.store.only)
        c.allows.ensures.store.only) c.in_ok-own.ensures.store.ready c.requires.file.kept;
    used = used_still c.args.store.now c.allows.new.store c.new-number.result
        (reads_then _ _ _ (reads_then _ _ _ c.read_entry.ensures.store.only c.is_barred_at.ensures.store.only)
        c.allows.ensures.store.only)
        (subst (λ (e : ℕ). IsUsed (table (committed c.args.store.now)) e) (sym c.new-number.ensures) c.requires.above);
    entry = entry_still c.args.store.now c.allows.new.store c.new-number.result c.in_ok-entry.entry
        (reads_then _ _ _ (reads_then _ _ _ c.read_entry.ensures.store.only c.is_barred_at.ensures.store.only)
        c.allows.ensures.store.only) c.in_ok-entry.ensures.entry;
  };
}

pub is_barred_at-requires : goal.is_barred_at-requires
is_barred_at-requires g c = record {
  entry = record {
    file = file_kept _ _ _ (kept_still _ _ _ c.read_entry.ensures.store.only c.in_ok-entry.ensures.store.ready
        c.requires.file.kept)
        (used_still c.args.store.now c.read_entry.new.store c.new-number.result c.read_entry.ensures.store.only
        (subst (λ (e : ℕ). IsUsed (table (committed c.args.store.now)) e) (sym c.new-number.ensures) c.requires.above));
    entry = entry_still c.args.store.now c.read_entry.new.store c.new-number.result c.in_ok-entry.entry
        c.read_entry.ensures.store.only c.in_ok-entry.ensures.entry;
  };
}

pub read_entry-requires : goal.read_entry-requires
read_entry-requires g c = record {
  ready = c.requires.file.kept.ready;
  within = used_small (committed c.args.store.now) c.new-number.result
      (subst (λ (e : ℕ). IsUsed (table (committed c.args.store.now)) e) (sym c.new-number.ensures) c.requires.above);
}
