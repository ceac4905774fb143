use Rattle.std.proofs.Common.{◌≡◌, List, ℕ, sym, ◌∙◌, ap, rules}
use Rattle.undo_journal.specs.Memory.{committed}
use Rattle.undo_journal.specs.laws.Told.{reads_on}
use Rattle.card_model.specs.FileTrees.{Tree}
use Rattle.card_model.specs.FileLives.{is_barred}
use Rattle.file_tree.specs.Table.{table, path_of}
use Rattle.card_model.specs.Guards.{allowed}
use Rattle.command_base.specs.Standing.{card_of}
use Rattle.command_base.specs.Working.{session_of}
use Rattle.command_base.specs.NamedFiles.{file_refusal}
use Rattle.command_base.specs.laws.Entries.{card-tree}
use Rattle.command_base.specs.declared.stop.Stop.TheVariants.{Refused, Failed}
use Rattle.command_base.specs.laws.Stopping.{finds-stopped, reads-stopped}
use Rattle.command_base.specs.laws.Readings.{entry_still, file_kept, kept_still, used_still}
use Rattle.command_base.proofs.target_file.check_file.Goals as goal

pub returns : goal.returns
returns g c = record {
  told = let m = committed c.args.store.now in
      let x = c.args.current.now in
      let e = c.args.file.now.number in
      let bit = c.args.need.bit in
      let path = path_of (table m) e in
      let barred : c.in_ok-is_barred_at.field-0 ≡ is_barred (card_of m).tree path =
      c.in_ok-is_barred_at.ensures.told ∙ sym (ap (λ (tree : Tree). is_barred tree path) (card-tree m)) in
      let permitted : c.in_ok-allows.field-0 ≡ allowed (card_of m) (session_of (table m) x) path bit =
      c.in_ok-allows.ensures.told
      ∙ ap (λ (l : List ℕ). allowed (card_of l) (session_of (table l) x) (path_of (table l) e) bit)
      c.is_barred_at.ensures.store.only.keeps.committed_words in
      sym (c.in_ok-check.ensures ∙ (λ i. file_refusal (barred i) (c.fits.ensures i) (permitted i)));
  store = reads_on _ _ _ _ c.is_barred_at.ensures.store.only c.in_ok-allows.ensures.store;
}

pub returns-in_err-check : goal.returns-in_err-check
returns-in_err-check g c = record {
  told = let m = committed c.args.store.now in
      let x = c.args.current.now in
      let e = c.args.file.now.number in
      let bit = c.args.need.bit in
      let path = path_of (table m) e in
      let barred : c.in_ok-is_barred_at.field-0 ≡ is_barred (card_of m).tree path =
      c.in_ok-is_barred_at.ensures.told ∙ sym (ap (λ (tree : Tree). is_barred tree path) (card-tree m)) in
      let permitted : c.in_ok-allows.field-0 ≡ allowed (card_of m) (session_of (table m) x) path bit =
      c.in_ok-allows.ensures.told
      ∙ ap (λ (l : List ℕ). allowed (card_of l) (session_of (table l) x) (path_of (table l) e) bit)
      c.is_barred_at.ensures.store.only.keeps.committed_words in
      finds-stopped _ (Refused c.in_err-check.field-0.0) c.from_residual-in_err-check.ensures.1 _ _
      (sym (c.in_err-check.ensures ∙ (λ i. file_refusal (barred i) (c.fits.ensures i) (permitted i))));
  store = reads-stopped _ (Refused c.in_err-check.field-0.0) c.from_residual-in_err-check.ensures.1 _ _
      (reads_on _ _ _ _ c.is_barred_at.ensures.store.only c.in_ok-allows.ensures.store);
}

pub returns-in_err-allows : goal.returns-in_err-allows
returns-in_err-allows g c = record {
  told = search rules;
  store = reads-stopped _ (Failed c.in_err-allows.field-0.0) c.from_residual-in_err-allows.ensures.1 _ _
      (reads_on _ _ _ _ c.is_barred_at.ensures.store.only c.in_err-allows.ensures.store);
}

pub allows-requires : goal.allows-requires
allows-requires g c = record {
  file = record {
    kept = kept_still _ _ _ c.is_barred_at.ensures.store.only c.in_ok-is_barred_at.ensures.store.ready
        c.requires.file.kept;
    used = used_still c.args.store.now c.is_barred_at.new.store c.args.file.now.number c.is_barred_at.ensures.store.only
        c.requires.file.used;
    entry = entry_still c.args.store.now c.is_barred_at.new.store c.args.file.now.number c.args.file.now.entry
        c.is_barred_at.ensures.store.only c.requires.file.entry;
  };
}

pub is_barred_at-requires : goal.is_barred_at-requires
is_barred_at-requires g c = record {
  entry = record {
    file = file_kept _ _ _ c.requires.file.kept c.requires.file.used;
    entry = c.requires.file.entry;
  };
}
