use Rattle.std.proofs.Common.{rules, ◌≤◌, ◌<◌, ℕ, List, sym, ◌∙◌, ap, arith, below_more}
use Rattle.undo_journal.specs.Memory.{committed}
use Rattle.undo_journal.specs.laws.Calls.{reads_then}
use Rattle.undo_journal.specs.laws.Exits.{none_ok}
use Rattle.undo_journal.specs.laws.Told.{reads_handed, reads_on, reads_so_far}
use Rattle.file_tree.specs.declared.entry.EntryHead.{EntryHead}
use Rattle.file_tree.specs.Entries.{head_of}
use Rattle.file_tree.specs.Table.{table, entry_in}
use Rattle.file_tree.specs.laws.Kinds.{kind_of_unused}
use Rattle.file_changes.proofs.refusing.first_free.Goals as goal

pub loop-number-preserved : goal.loop-number-preserved
loop-number-preserved g c =
    let t = table (committed c.args.store.now) in
    let kind = ap (λ (x : EntryHead). x.kind) (c.in_ok-head.ensures.head
    ∙ ap (λ (l : List ℕ). head_of (entry_in (table l) c.new-e.result))
    c.loop-number.invariant.reads.keeps.committed_words
    ∙ ap (λ (e : ℕ). head_of (entry_in t e)) c.new-e.ensures) in
    record {
      ready = c.in_ok-head.ensures.store.ready;
      reads = reads_then _ _ _ c.loop-number.invariant.reads c.read_entry_head.ensures.store.only;
      none = below_more _ _ c.loop-number.invariant.none
          (λ free. c.is_used.ensures.0 c.if-not-is_used.false (kind ∙ free));
    }

pub returns-in_err-head : goal.returns-in_err-head
returns-in_err-head g c = record {
  told = none_ok _ _ _ c.from_residual.ensures.1;
  store = reads_handed _ _ _ _ c.from_residual.ensures.1
      (reads_on _ _ _ _ c.loop-number.invariant.reads c.in_err-head.ensures.store);
}

pub returns-then-not-is_used : goal.returns-then-not-is_used
returns-then-not-is_used g c = record {
  told = let e = c.new-e.result in
      let kind = ap (λ (x : EntryHead). x.kind) (c.in_ok-head.ensures.head
      ∙ ap (λ (l : List ℕ). head_of (entry_in (table l) e)) c.loop-number.invariant.reads.keeps.committed_words) in
      let lt : c.loop-number.number < 64 = search rules in
      let is = c.new-e.ensures in
      let small : e < 64 = omega (arith, lt, is) in
      (small, sym kind ∙ kind_of_unused _ _ c.is_used.ensures c.if-not-is_used.true);
  store = reads_on _ _ _ _ c.loop-number.invariant.reads c.in_ok-head.ensures.store;
}

pub returns : goal.returns
returns g c = record {
  told = λ f lt.
      let end : 64 ≤ c.loop-number.number = search rules in
      c.loop-number.invariant.none f (omega (arith, lt, end));
  store = reads_so_far _ _ c.loop-number.invariant.reads c.loop-number.invariant.ready;
}
