use Rattle.std.proofs.Common.{◌≡◌, ◌≤◌, ◌<◌, ◌+◌, ◌-◌, ℕ, List, slice_index, ⊎_elim, inl, inr, sym, ◌∙◌, ap, arith}
use Rattle.std.proofs.lemmas.Bool.{cases_lt}
use Rattle.nvm_board.specs.Facts.{address}
use Rattle.undo_journal.specs.Memory.{committed}
use Rattle.undo_journal.specs.laws.Calls.{reads_same, reads_then}
use Rattle.undo_journal.specs.laws.Exits.{none_ok}
use Rattle.undo_journal.specs.laws.Told.{reads_handed, reads_on, reads_so_far}
use Rattle.block_chain.specs.BlockWords.{page_words}
use Rattle.block_chain.specs.laws.Words.{index-page_words}
use Rattle.file_tree.specs.Entries.{free_entry}
use Rattle.file_tree.specs.Table.{table, entry_in}
use Rattle.file_tree.specs.laws.Tables.{entry_of-free, entry_in-table, entry_past, length-table}
use Rattle.file_lookup.proofs.reading.find_end.Goals as goal

pub loop-end-init : goal.loop-end-init
loop-end-init g c = record {
  ready = c.requires.ready;
  reads = reads_same _;
  at_end = record {
    some = omega arith;
    most = omega arith;
    free = λ e past. let m = committed c.args.store.now in
        entry_past (table m) e (let size = length-table m in omega (arith, size, past));
  };
}

pub loop-end-preserved : goal.loop-end-preserved
loop-end-preserved g c =
    let m = committed c.args.store.now in
    let t = table m in
    let last = c.loop-end.end - 1 in
    let before = c.loop-end.invariant.at_end in
    let most = before.most in
    let more : 1 < c.loop-end.end = omega (arith, c.loop-end-test.true) in
    let place : c.entry_address.result ≡ address (1 + last) 0 = c.entry_address.ensures
    ∙ ap (λ (e : ℕ). address (1 + e) 0) c.new.ensures in
    let none : slice_index (page_words m (1 + last)) 0 ≡ 0 =
    index-page_words m (1 + last) 0 (omega arith) ∙ ap (slice_index m) (sym place)
    ∙ ap (λ (l : List ℕ). slice_index l c.entry_address.result) (sym c.loop-end.invariant.reads.keeps.committed_words)
    ∙ sym c.in_ok-first.ensures.word ∙ c.if-first-ne0.false in
    let here : entry_in t last ≡ free_entry = entry_in-table m last (omega (arith, most, more))
    ∙ entry_of-free (page_words m (1 + last)) none in
    record {
      ready = c.in_ok-first.ensures.store.ready;
      reads = reads_then _ _ _ c.loop-end.invariant.reads c.read_committed.ensures.store.only;
      at_end = record {
        some = omega (arith, more);
        most = omega (arith, most);
        free = λ e from. ⊎_elim
            (λ (lt : last < e). before.free e (omega (arith, lt, more)))
            (λ (le : e ≤ last). ap (entry_in t) (let z : e ≡ last = omega (arith, le, from) in z) ∙ here)
            (cases_lt last e);
      };
    }

pub returns-in_err-first-clause-end : goal.returns-in_err-first-clause-end
returns-in_err-first-clause-end g c = record {
  told = none_ok _ _ _ c.from_residual.ensures.1;
  store = reads_handed _ _ _ _ c.from_residual.ensures.1
      (reads_on _ _ _ _ c.loop-end.invariant.reads c.in_err-first.ensures.store);
}

pub returns-then-first-ne0-clause-end : goal.returns-then-first-ne0-clause-end
returns-then-first-ne0-clause-end g c = record {
  told = c.loop-end.invariant.at_end;
  store = reads_on _ _ _ _ c.loop-end.invariant.reads c.in_ok-first.ensures.store;
}

pub returns-clause-end : goal.returns-clause-end
returns-clause-end g c = record {
  told = c.loop-end.invariant.at_end;
  store = reads_so_far _ _ c.loop-end.invariant.reads c.loop-end.invariant.ready;
}

-- the entry before the end is used

pub returns-in_err-first-clause-last : goal.returns-in_err-first-clause-last
returns-in_err-first-clause-last g c = none_ok _ _ _ c.from_residual.ensures.1

pub returns-then-first-ne0-clause-last : goal.returns-then-first-ne0-clause-last
returns-then-first-ne0-clause-last g c =
    inr (λ none. c.if-first-ne0.true
    (c.in_ok-first.ensures.word
    ∙ ap (λ (l : List ℕ). slice_index l c.entry_address.result) c.loop-end.invariant.reads.keeps.committed_words
    ∙ ap (slice_index (committed c.args.store.now))
    (c.entry_address.ensures ∙ ap (λ (e : ℕ). address (1 + e) 0) c.new.ensures) ∙ none))

pub returns-clause-last : goal.returns-clause-last
returns-clause-last g c =
    let some = c.loop-end.invariant.at_end.some in
    inl (let one : c.loop-end.end ≡ 1 = omega (arith, some, c.loop-end-test.false) in one)
