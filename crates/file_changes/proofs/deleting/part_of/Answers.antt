use Rattle.std.proofs.Common.{◌≡◌, ◌≢◌, ◌∙◌, ◌++◌, ℕ, List, Some, length, ap, arith, subst, sym, true≢false}
use Rattle.undo_journal.specs.Memory.{committed}
use Rattle.undo_journal.specs.laws.Exits.{none_ok}
use Rattle.undo_journal.specs.laws.Told.{reads_handed, reads_on}
use Rattle.file_tree.specs.declared.entry.Entry.{Entry}
use Rattle.file_tree.specs.Kinds.{kind_byte}
use Rattle.file_tree.specs.Table.{table, entry_in}
use Rattle.file_tree.specs.declared.kinds.EntryKind.TheVariants.{Dedicated}
use Rattle.file_tree.specs.laws.Nodes.{used_small}
use Rattle.file_changes.specs.DeletionParts.{IsPart, extents_in}
use Rattle.file_changes.specs.laws.Parts.{goes_itself, others_stay, part_alone, part_none}
use Rattle.file_changes.proofs.deleting.part_of.Goals as goal

pub read_entry-requires : goal.read_entry-requires
read_entry-requires g c = record {
  ready = c.requires.file.ready;
  within = used_small (committed c.args.store.now) c.args.top c.requires.file.used;
}

pub add-requires : goal.add-requires
add-requires g c = record {
  within = used_small (committed c.args.store.now) c.args.top c.requires.file.used;
  count = let none = c.new-part.ensures.count in omega (arith, none);
  room = let none = ap (λ l. length l) c.new-part.ensures.extents in omega (arith, none);
}

pub returns-in_err-entry : goal.returns-in_err-entry
returns-in_err-entry g c = record {
  told = none_ok _ _ _ c.from_residual.ensures.1;
  store = reads_handed _ _ _ _ c.from_residual.ensures.1 c.in_err-entry.ensures.store;
}

pub returns-in_err-fill_part : goal.returns-in_err-fill_part
returns-in_err-fill_part g c = record {
  told = none_ok _ _ _ c.from_residual-in_err-fill_part.ensures.1;
  store = reads_handed _ _ _ _ c.from_residual-in_err-fill_part.ensures.1
      (reads_on _ _ _ _ c.read_entry.ensures.store.only c.in_err-fill_part.ensures.store);
}

pub returns-then-has_kind : goal.returns-then-has_kind
returns-then-has_kind g c = record {
  told = subst (λ (l : List ℕ). IsPart (table l) c.args.top c.fill_part.new.part)
      c.read_entry.ensures.store.only.keeps.committed_words c.in_ok-fill_part.ensures.told;
  store = reads_on _ _ _ _ c.read_entry.ensures.store.only c.in_ok-fill_part.ensures.store;
}

pub returns : goal.returns
returns g c = record {
  told = let m = committed c.args.store.now in
      let t = table m in
      let top = c.args.top in
      let stands = c.requires.file.tree.entries in
      let used = c.requires.file.used in
      let is : c.in_ok-entry.entry ≡ entry_in t top = c.in_ok-entry.ensures.entry in
      let no_df : (entry_in t top).kind ≢ kind_byte Dedicated = λ kind.
      true≢false (sym (c.has_kind.ensures.1 (ap (λ (x : Entry). x.kind) is ∙ kind)) ∙ c.if-has_kind.false) in
      part_alone t top c.new-part.result c.add.new.self (used_small m top used)
      (goes_itself t stands top used no_df) (others_stay t stands top used no_df)
      (part_none t top _ c.new-part.ensures.goes c.new-part.ensures.count c.new-part.ensures.extents)
      c.add.ensures.goes c.add.ensures.count
      (c.add.ensures.extents
      ∙ ap (λ (x : Entry). c.new-part.result.extents.items ++ extents_in (Some x)) is);
  store = c.in_ok-entry.ensures.store;
}
