use Rattle.std.proofs.Common.{◌≡◌, Bool, true, false, List, length, sym, ◌∙◌, ap, subst, arith, true≢false, rules}
use Rattle.undo_journal.specs.Memory.{committed}
use Rattle.undo_journal.specs.laws.Exits.{none_ok}
use Rattle.undo_journal.specs.laws.Told.{reads_handed}
use Rattle.file_tree.specs.declared.entry.Entry.{Entry}
use Rattle.file_tree.specs.declared.index.Index.{Index}
use Rattle.file_tree.specs.Indexes.{IsIndex}
use Rattle.file_tree.specs.Indexes.{TellsIndex}
use Rattle.file_tree.specs.Table.{table, extents, free_entries, HaveIdentifiers, IsTable}
use Rattle.file_tree.specs.laws.Tables.{length-table}
use Rattle.file_tree.specs.laws.TableEnds.{length_front, extents_front, free_front, front_identifiers, front_table}
use Rattle.file_tree.specs.laws.TableEnds.{whole_index, whole_table}
use Rattle.tree_check.proofs.tree.list_entries.Goals as goal

pub fill-requires-clause-empty : goal.fill-requires-clause-empty
fill-requires-clause-empty g c = c.requires.blank

pub fill-requires-clause-size : goal.fill-requires-clause-size
fill-requires-clause-size g c =
    let m = committed c.args.store.now in
    let is = ap (λ (t : List Entry). length t) (c.as_slice-all.ensures.value ∙ c.in_ok-fill_table.ensures.table) in
    let long = length_front (table m) c.args.end (length-table m) c.requires.end.end in
    let most = c.requires.end.end.most in
    omega (arith, is, long, most)

pub returns-in_err-fill_table : goal.returns-in_err-fill_table
returns-in_err-fill_table g c = record {
  told = none_ok _ _ _ c.from_residual.ensures.1;
  store = reads_handed _ _ _ _ c.from_residual.ensures.1 c.in_err-fill_table.ensures.store;
}

-- what a filled index tells, by whether it was
filled : (t : List Entry) (index : Index) (b answer : Bool) → b ≡ answer → TellsIndex t b index
    → TellsIndex t answer index
filled t index b answer is told = subst (λ (r : Bool). TellsIndex t r index) is told

-- entries without an index are those of no table
pub returns-then-not-fill : goal.returns-then-not-fill
returns-then-not-fill g c = record {
  told = λ rules.
      let m = committed c.args.store.now in
      let family : List Entry → Type 0 = λ t. HaveIdentifiers t in
      filled _ _ _ false c.if-not-fill.true c.fill.ensures
      (subst family (sym (c.as_slice-all.ensures.value ∙ c.in_ok-fill_table.ensures.table))
      (front_identifiers (table m) c.args.end (length-table m) c.requires.end.end rules.identifiers));
  store = c.in_ok-fill_table.ensures.store;
}

pub returns-then-not-is_table : goal.returns-then-not-is_table
returns-then-not-is_table g c = record {
  told = λ rules.
      let m = committed c.args.store.now in
      let family : List Entry → Type 0 = λ t. IsTable t in
      true≢false (sym (c.is_table.ensures.1
      (subst family (sym (c.as_slice-all.ensures.value ∙ c.in_ok-fill_table.ensures.table))
      (front_table (table m) c.args.end (length-table m) c.requires.end.end rules))) ∙ c.if-not-is_table.true);
  store = c.in_ok-fill_table.ensures.store;
}

pub returns : goal.returns
returns g c = record {
  told = let m = committed c.args.store.now in
      let t = table m in
      let size = length-table m in
      let n = c.args.end in
      let read = c.as_slice-all.ensures.value ∙ c.in_ok-fill_table.ensures.table in
      let indexed = filled _ _ _ true c.if-not-fill.false c.fill.ensures in
      let is_index : List Entry → Type 0 = λ s. IsIndex s c.fill.new.self in
      let is_ruled : List Entry → Type 0 = λ s. IsTable s in
      let free = free_front t n size c.requires.end.end in
      let number = c.count_free.ensures.free ∙ ap free_entries read in
      record {
        rules = whole_table t n size c.requires.end.end
            (subst is_ruled read (c.is_table.ensures.0 c.if-not-is_table.false));
        index = whole_index t n size c.requires.end.end c.fill.new.self (subst is_index read indexed.1);
        extents = c.list_extents.ensures ∙ ap extents read ∙ extents_front t n size c.requires.end.end;
        free = omega (arith, free, number);
      };
  store = c.in_ok-fill_table.ensures.store;
}

pub is_table-requires : goal.is_table-requires
is_table-requires g c = record {
  some = let m = committed c.args.store.now in
      let is = ap (λ (t : List Entry). length t) (c.as_slice-all.ensures.value ∙ c.in_ok-fill_table.ensures.table) in
      let long = length_front (table m) c.args.end (length-table m) c.requires.end.end in
      let some = c.requires.end.end.some in
      omega (arith, is, long, some);
  size = let m = committed c.args.store.now in
      let is = ap (λ (t : List Entry). length t) (c.as_slice-all.ensures.value ∙ c.in_ok-fill_table.ensures.table) in
      let long = length_front (table m) c.args.end (length-table m) c.requires.end.end in
      let most = c.requires.end.end.most in
      omega (arith, is, long, most);
  apart = search (rules, arith);
}
