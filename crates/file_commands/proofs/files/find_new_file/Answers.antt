use Rattle.std.proofs.Common.{◌∙◌, sym}
use Rattle.undo_journal.specs.Memory.{committed}
use Rattle.undo_journal.specs.laws.Calls.{reads_then}
use Rattle.undo_journal.specs.laws.Told.{reads_on}
use Rattle.file_tree.specs.Table.{table}
use Rattle.file_tree.specs.laws.Nodes.{used_small}
use Rattle.card_model.specs.FileCommands.{creation_bit}
use Rattle.command_base.specs.Working.{card_in, session_in}
use Rattle.file_commands.proofs.Creations.{barred-is, permits-is, unread-step}
use Rattle.file_commands.proofs.FileSteps.{create-barred, create-denied}
use Rattle.command_base.specs.laws.Readings.{df_kept, df_used, entry_still, kept_still, used_still}
use Rattle.command_base.specs.declared.stop.Stop.TheVariants.{Failed}
use Rattle.command_base.specs.laws.Stopping.{finds-stopped, reads-stopped}
use Rattle.file_commands.proofs.files.find_new_file.Goals as goal

pub returns-then-branch : goal.returns-then-branch
returns-then-branch g c = record {
  told = let old = c.args.store.now in
      let x = c.args.current.now in
      create-barred (card_in old) (session_in old x) c.args.template.now
      (barred-is (committed old) (committed c.read_entry.new.store) x
      c.read_entry.ensures.store.only.keeps.committed_words c.in_ok-is_barred_at.field-0
      c.in_ok-is_barred_at.ensures.told ∙ c.if-branch.true);
  store = reads_on _ _ _ _ c.read_entry.ensures.store.only c.in_ok-is_barred_at.ensures.store;
}

pub returns-in_default : goal.returns-in_default
returns-in_default g c = record {
  told = let old = c.args.store.now in
      let x = c.args.current.now in
      unread-step (card_in old) (session_in old x) c.args.template.now
      (barred-is (committed old) (committed c.read_entry.new.store) x
      c.read_entry.ensures.store.only.keeps.committed_words c.in_ok-is_barred_at.field-0
      c.in_ok-is_barred_at.ensures.told ∙ c.if-branch.false)
      c.parse.result (sym c.parse.ensures.value) c.in_default.not-Ok;
  store = reads_on _ _ _ _ c.read_entry.ensures.store.only c.in_ok-is_barred_at.ensures.store;
}

pub returns-in_err-allows : goal.returns-in_err-allows
returns-in_err-allows g c = record {
  told = finds-stopped _ (Failed c.in_err-allows.field-0.0) c.from_residual-in_err-allows.ensures.1 _ _ tt;
  store = reads-stopped _ (Failed c.in_err-allows.field-0.0) c.from_residual-in_err-allows.ensures.1 _ _
      (reads_on _ _ _ _ (reads_then _ _ _ c.read_entry.ensures.store.only c.is_barred_at.ensures.store.only)
      c.in_err-allows.ensures.store);
}

pub returns-then-not-branch : goal.returns-then-not-branch
returns-then-not-branch g c = record {
  told = let old = c.args.store.now in
      let x = c.args.current.now in
      let fcp = c.in-Ok.fcp in
      create-denied (card_in old) (session_in old x) c.args.template.now
      (barred-is (committed old) (committed c.read_entry.new.store) x
      c.read_entry.ensures.store.only.keeps.committed_words c.in_ok-is_barred_at.field-0
      c.in_ok-is_barred_at.ensures.told ∙ c.if-branch.false)
      fcp (sym c.parse.ensures.value ∙ c.in-Ok.is)
      (permits-is (committed old) (committed c.is_barred_at.new.store) x
      (c.is_barred_at.ensures.store.only.keeps.committed_words ∙ c.read_entry.ensures.store.only.keeps.committed_words)
      c.creation_bit-bit.result (creation_bit fcp.kind)
      c.creation_bit-bit.ensures c.in_ok-allows.field-0
      c.in_ok-allows.ensures.told ∙ c.if-not-branch.true);
  store = reads_on _ _ _ _ (reads_then _ _ _ c.read_entry.ensures.store.only c.is_barred_at.ensures.store.only)
      c.in_ok-allows.ensures.store;
}

pub returns : goal.returns
returns g c = record {
  told = let old = c.args.store.now in
      let x = c.args.current.now in
      let fcp = c.in-Ok.fcp in
      record {
        told = sym c.parse.ensures.value ∙ c.in-Ok.is;
        creatable = c.in-Ok.ensures.ranges;
        unbarred = barred-is (committed old) (committed c.read_entry.new.store) x
            c.read_entry.ensures.store.only.keeps.committed_words c.in_ok-is_barred_at.field-0
            c.in_ok-is_barred_at.ensures.told
            ∙ c.if-branch.false;
        permitted = permits-is (committed old) (committed c.is_barred_at.new.store) x
            (c.is_barred_at.ensures.store.only.keeps.committed_words
            ∙ c.read_entry.ensures.store.only.keeps.committed_words) c.creation_bit-bit.result (creation_bit fcp.kind)
            c.creation_bit-bit.ensures c.in_ok-allows.field-0
            c.in_ok-allows.ensures.told ∙ c.if-not-branch.false;
      };
  store = reads_on _ _ _ _ (reads_then _ _ _ c.read_entry.ensures.store.only c.is_barred_at.ensures.store.only)
      c.in_ok-allows.ensures.store;
}

pub returns-in_err-is_barred_at : goal.returns-in_err-is_barred_at
returns-in_err-is_barred_at g c = record {
  told = finds-stopped _ (Failed c.in_err-is_barred_at.field-0.0) c.from_residual-in_err-is_barred_at.ensures.1 _ _ tt;
  store = reads-stopped _ (Failed c.in_err-is_barred_at.field-0.0) c.from_residual-in_err-is_barred_at.ensures.1 _ _
      (reads_on _ _ _ _ c.read_entry.ensures.store.only c.in_err-is_barred_at.ensures.store);
}

pub allows-requires : goal.allows-requires
allows-requires g c = record {
  file = record {
    kept = kept_still _ _ _ (reads_then _ _ _ c.read_entry.ensures.store.only c.is_barred_at.ensures.store.only)
        c.in_ok-is_barred_at.ensures.store.ready c.requires.kept;
    used = used_still c.args.store.now c.is_barred_at.new.store c.args.current.now.df
        (reads_then _ _ _ c.read_entry.ensures.store.only c.is_barred_at.ensures.store.only)
        (df_used (table (committed c.args.store.now)) c.args.current.now c.requires.kept.current);
    entry = entry_still c.args.store.now c.is_barred_at.new.store c.args.current.now.df c.in_ok-entry.entry
        (reads_then _ _ _ c.read_entry.ensures.store.only c.is_barred_at.ensures.store.only)
        c.in_ok-entry.ensures.entry;
  };
}

pub is_barred_at-requires : goal.is_barred_at-requires
is_barred_at-requires g c = record {
  entry = record {
    file = df_kept _ _
        (kept_still _ _ _ c.read_entry.ensures.store.only c.in_ok-entry.ensures.store.ready c.requires.kept);
    entry = entry_still c.args.store.now c.read_entry.new.store c.args.current.now.df c.in_ok-entry.entry
        c.read_entry.ensures.store.only c.in_ok-entry.ensures.entry;
  };
}

pub read_entry-requires : goal.read_entry-requires
read_entry-requires g c = record {
  ready = c.requires.kept.ready;
  within = let old = c.args.store.now in
      used_small (committed old) c.args.current.now.df (df_kept old c.args.current.now c.requires.kept).used;
}
