use Rattle.std.proofs.Common.{rules, ◌≡◌, ◌<◌, ◌+◌, ◌-◌, ℕ, true, if◌then◌else◌, is_some, List, length, slice_set}
use Rattle.std.proofs.Common.{sym, ◌∙◌, ap, subst, arith}
use Rattle.undo_journal.specs.Memory.{committed}
use Rattle.undo_journal.specs.laws.Calls.{reads_then}
use Rattle.undo_journal.specs.laws.Exits.{none_ok}
use Rattle.undo_journal.specs.laws.Told.{reads_handed, reads_on, reads_so_far}
use Rattle.file_tree.specs.Table.{table, entry_in}
use Rattle.file_tree.specs.TableEnd.{IsTableEnd}
use Rattle.file_changes.specs.DeletionParts.{entry_if_gone}
use Rattle.file_changes.specs.laws.Parts.{part_none, part_more, part_whole, parts_rest, few_more}
use Rattle.file_changes.proofs.deleting.fill_part.Goals as goal

pub find_end-requires : goal.find_end-requires
find_end-requires g c = record { ready = c.requires.ready }

pub returns-in_err-end : goal.returns-in_err-end
returns-in_err-end g c = record {
  told = none_ok _ _ _ c.from_residual.ensures.1;
  store = reads_handed _ _ _ _ c.from_residual.ensures.1 c.in_err-end.ensures.end.store;
}

pub returns-in_err-parents : goal.returns-in_err-parents
returns-in_err-parents g c = record {
  told = none_ok _ _ _ c.from_residual-in_err-parents.ensures.1;
  store = reads_handed _ _ _ _ c.from_residual-in_err-parents.ensures.1
      (reads_on _ _ _ _ c.find_end.ensures.end.store.only c.in_err-parents.ensures.store);
}

pub loop-number-init : goal.loop-number-init
loop-number-init g c = record {
  ready = c.in_ok-parents.ensures.store.ready;
  reads = reads_then _ _ _ c.find_end.ensures.end.store.only c.read_parents.ensures.store.only;
  few = (let none = ap (λ l. length l) c.requires.none.extents in omega (arith, none));
  so_far = part_none _ _ _ c.requires.none.goes c.requires.none.count c.requires.none.extents;
}

pub deleted_entry-requires-clause-parents : goal.deleted_entry-requires-clause-parents
deleted_entry-requires-clause-parents g c = λ f small.
    c.in_ok-parents.ensures.parents f small
    ∙ ap (λ (l : List ℕ). (entry_in (table l) f).parent)
    (c.find_end.ensures.end.store.only.keeps.committed_words ∙ sym c.loop-number.invariant.reads.keeps.committed_words)

pub returns-in_err-entry : goal.returns-in_err-entry
returns-in_err-entry g c = record {
  told = none_ok _ _ _ c.from_residual-in_err-entry.ensures.1;
  store = reads_handed _ _ _ _ c.from_residual-in_err-entry.ensures.1
      (reads_on _ _ _ _ c.loop-number.invariant.reads c.in_err-entry.ensures.store);
}

pub loop-number-preserved : goal.loop-number-preserved
loop-number-preserved g c =
    let t = table (committed c.args.store.now) in
    let e = c.loop-number.number in
    let lt : e < c.in_ok-end.end = search rules in
    let most = c.in_ok-end.ensures.end.told.most in
    let small : e < 64 = omega (arith, lt, most) in
    let is : c.in_ok-entry.entry ≡ entry_if_gone t c.args.top e = c.in_ok-entry.ensures.told
    ∙ ap (λ (l : List ℕ). entry_if_gone (table l) c.args.top c.new-e.result)
    c.loop-number.invariant.reads.keeps.committed_words
    ∙ ap (entry_if_gone t c.args.top) c.new-e.ensures in
    let old = c.loop-number.part.goes in
    let goes = c.add.ensures.goes
    ∙ ap (λ (k : ℕ). if is_some c.in_ok-entry.entry then slice_set old k true else old) c.new-e.ensures in
    record {
      ready = c.in_ok-entry.ensures.store.ready;
      reads = reads_then _ _ _ c.loop-number.invariant.reads c.deleted_entry.ensures.store.only;
      few = few_more _ _ _ e c.loop-number.invariant.few c.add.ensures.extents;
      so_far = part_more t c.args.top e c.loop-number.part c.add.new.self c.in_ok-entry.entry small is
          goes c.add.ensures.count c.add.ensures.extents c.loop-number.invariant.so_far;
    }

pub returns : goal.returns
returns g c = record {
  told = let t = table (committed c.args.store.now) in
      let end : c.loop-number.number ≡ c.in_ok-end.end = search rules in
      let table_end = c.in_ok-end.ensures.end.told in
      let most = table_end.most in
      let left : c.loop-number.number + (64 - c.loop-number.number) ≡ 64 = omega (arith, end, most) in
      part_whole t c.args.top c.loop-number.part
      (parts_rest t c.args.top c.loop-number.part c.loop-number.number (64 - c.loop-number.number) left
      (λ e from. table_end.free e (omega (arith, from, end))) c.loop-number.invariant.so_far);
  store = reads_so_far _ _ c.loop-number.invariant.reads c.loop-number.invariant.ready;
}

pub read_parents-requires : goal.read_parents-requires
read_parents-requires g c = record {
  ready = c.in_ok-end.ensures.end.store.ready;
  end = subst (λ (l : List ℕ). IsTableEnd (table l) c.in_ok-end.end)
      (sym c.find_end.ensures.end.store.only.keeps.committed_words) c.in_ok-end.ensures.end.told;
}

pub deleted_entry-requires-clause-entry : goal.deleted_entry-requires-clause-entry
deleted_entry-requires-clause-entry g c = record {
  ready = c.loop-number.invariant.ready;
  within = let lt : c.loop-number.number < c.in_ok-end.end = search rules in
      let most = c.in_ok-end.ensures.end.told.most in
      omega (arith, lt, most);
}

pub add-requires : goal.add-requires
add-requires g c = record {
  within = let lt : c.loop-number.number < c.in_ok-end.end = search rules in
      let most = c.in_ok-end.ensures.end.told.most in
      omega (arith, lt, most);
  count = let lt : c.loop-number.number < c.in_ok-end.end = search rules in
      let most = c.in_ok-end.ensures.end.told.most in
      let small : c.loop-number.number < 64 = omega (arith, lt, most) in
      let count = c.loop-number.invariant.so_far.count in
      omega (arith, small, count);
  room = let lt : c.loop-number.number < c.in_ok-end.end = search rules in
      let most = c.in_ok-end.ensures.end.told.most in
      let small : c.loop-number.number < 64 = omega (arith, lt, most) in
      let few = c.loop-number.invariant.few in
      omega (arith, small, few);
}
