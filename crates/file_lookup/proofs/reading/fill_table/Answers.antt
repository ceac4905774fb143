use Rattle.undo_journal.specs.laws.Exits.{none_ok}
use Rattle.std.proofs.Common.{rules, ◌≡◌, ◌<◌, ℕ, List, [], ◌∷◌, ◌++◌, length, take, sym, ◌∙◌, ap, ap₂, arith}
use Rattle.std.proofs.lemmas.List.{take_more}
use Rattle.undo_journal.specs.Memory.{committed}
use Rattle.undo_journal.specs.laws.Calls.{reads_then}
use Rattle.file_tree.specs.declared.entry.Entry.{Entry}
use Rattle.file_tree.specs.Entries.{free_entry}
use Rattle.file_tree.specs.Table.{table, entry_in}
use Rattle.file_tree.specs.laws.Tables.{length-table}
use Rattle.undo_journal.specs.laws.Told.{reads_so_far, reads_handed, reads_on}
use Rattle.file_lookup.proofs.reading.fill_table.Goals as goal

pub loop-number-preserved : goal.loop-number-preserved
loop-number-preserved g c =
    let m = committed c.args.store.now in
    let t = table m in
    let e = c.loop-number.number in
    let lt : e < c.args.end = search rules in
    let most = c.requires.within in
    let small : e < 64 = omega (arith, lt, most) in
    let within : e < length t = let l = length-table m in omega (arith, small, l) in
    let read : c.in_ok-read_used.field-0 ≡ entry_in t e =
    c.in_ok-read_used.ensures.entry
    ∙ ap₂ (λ (l : List ℕ) (k : ℕ). entry_in (table l) k) c.loop-number.invariant.reads.keeps.committed_words
    c.new.ensures in
    record {
      ready = search rules;
      reads = search (rules, reads_then);
      size = omega (arith, c.push.ensures.len);
      so_far = c.push.ensures.items
          ∙ ap₂ (λ (front : List Entry) (x : Entry). front ++ x ∷ []) c.loop-number.invariant.so_far read
          ∙ sym (take_more t e free_entry within);
    }

pub returns-clause-table : goal.returns-clause-table
returns-clause-table g c =
    let m = committed c.args.store.now in
    let all : c.loop-number.number ≡ c.args.end = search rules in
    c.loop-number.invariant.so_far ∙ ap (λ (n : ℕ). take n (table m)) all

pub returns-in_err-read_used-clause-table : goal.returns-in_err-read_used-clause-table
returns-in_err-read_used-clause-table g c = none_ok _ _ _ c.from_residual.ensures.1

pub returns-in_err-read_used-clause-store : goal.returns-in_err-read_used-clause-store
returns-in_err-read_used-clause-store g c =
    reads_handed _ _ _ _ c.from_residual.ensures.1
    (reads_on _ _ _ _ c.loop-number.invariant.reads c.in_err-read_used.ensures.store)

pub returns-clause-store : goal.returns-clause-store
returns-clause-store g c =
    reads_so_far _ _ c.loop-number.invariant.reads c.loop-number.invariant.ready

pub read_used-requires : goal.read_used-requires
read_used-requires g c = record {
  ready = c.loop-number.invariant.ready;
  within = omega (arith, c.loop-number-test.true, c.requires.within, c.new.ensures);
}
