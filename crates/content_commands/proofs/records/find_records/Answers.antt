use Rattle.std.proofs.Common.{◌≡◌, ◌<◌, ◌≤◌, ◌⊎◌, ℕ, arith, refl, sym, subst}
use Rattle.undo_journal.specs.Memory.{committed}
use Rattle.file_tree.specs.declared.entry.Entry.{Entry}
use Rattle.file_tree.specs.laws.Nodes.{used_small}
use Rattle.content_commands.specs.declared.record_file.RecordFile.{RecordFile}
use Rattle.content_commands.specs.RecordParts.{record_file_in, IsRecordFile}
use Rattle.command_base.specs.NamedFiles.{IsNamed}
use Rattle.command_base.specs.TemplateParts.{IsToldEntry}
use Rattle.content_commands.proofs.RecordKinds.{record_kind}
use Rattle.command_base.specs.laws.Told.{told-entry}
use Rattle.command_base.specs.laws.Stopping.{finds-stopped, reads-stopped}
use Rattle.content_commands.proofs.records.find_records.Goals as goal

-- the number of a file is at most that of the last entry
last_entry : (e : ℕ) → e < 64 → e ≤ 63
last_entry e small = omega (arith, small)

pub returns : goal.returns
returns g c = record {
  told = let m = committed c.args.store.now in
      let e = c.in_ok-file.file.number in
      let entry = c.in_ok-file.file.entry in
      let x = c.args.current.now in
      let named = c.in_ok-file.ensures.told in
      let kind = record_kind c.args.need.structure entry.kind c.requires.records named.structure in
      subst (λ (file : RecordFile). IsRecordFile m x c.args.target c.args.need file) (sym c.of.ensures)
      (subst (λ (told : Entry). IsRecordFile m x c.args.target c.args.need (record_file_in e told)) (sym named.entry_is)
      (record {
        named = subst (λ (told : Entry). IsNamed m x c.args.target c.args.need e told) named.entry_is named;
        kind = subst (λ (told : Entry). (told.kind ≡ 3) ⊎ (told.kind ≡ 4)) named.entry_is kind;
        file_is = refl;
      }));
  store = c.in_ok-file.ensures.store;
}

pub returns-in_err-file : goal.returns-in_err-file
returns-in_err-file g c = record {
  told = finds-stopped _ _ c.from_residual.ensures.1 _ _ c.in_err-file.ensures.told;
  store = reads-stopped _ _ c.from_residual.ensures.1 _ _ c.in_err-file.ensures.store;
}

pub of-requires : goal.of-requires
of-requires g c = record {
  number = let named = c.in_ok-file.ensures.told in
      last_entry c.in_ok-file.file.number
      (used_small (committed c.args.store.now) c.in_ok-file.file.number named.file.child.used);
  told = let named = c.in_ok-file.ensures.told in
      subst IsToldEntry (sym named.entry_is)
      (told-entry (committed c.args.store.now) c.requires.target.kept.ready.usable.committed_size
      c.requires.target.kept.card
      c.in_ok-file.file.number named.file.child.used);
  records = let named = c.in_ok-file.ensures.told in
      record_kind c.args.need.structure c.in_ok-file.file.entry.kind c.requires.records named.structure;
}
