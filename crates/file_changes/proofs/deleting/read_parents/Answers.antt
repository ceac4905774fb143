use Rattle.std.proofs.Common.{rules, ◌≡◌, ◌≢◌, ◌≤◌, ◌<◌, ℕ, List, length, refl, sym, ◌∙◌}
use Rattle.std.proofs.Common.{ap, arith, below_more}
use Rattle.std.proofs.Common.{⊎_elim, get_or-set_other}
use Rattle.std.proofs.Math.ListN.{length-set}
use Rattle.std.proofs.lemmas.Bool.{cases_lt}
use Rattle.std.proofs.lemmas.Grind.{get_or-set_at}
use Rattle.std.proofs.lemmas.List.{get_or-replicate}
use Rattle.undo_journal.specs.Memory.{committed}
use Rattle.undo_journal.specs.laws.Calls.{reads_same, reads_then}
use Rattle.undo_journal.specs.laws.Exits.{none_ok}
use Rattle.undo_journal.specs.laws.Told.{reads_handed, reads_on, reads_so_far}
use Rattle.file_tree.specs.declared.entry.Entry.{Entry}
use Rattle.file_tree.specs.declared.entry.EntryHead.{EntryHead}
use Rattle.file_tree.specs.Entries.{head_of}
use Rattle.file_tree.specs.Table.{table, entry_in}
use Rattle.file_changes.proofs.deleting.read_parents.Goals as goal

pub loop-number-init : goal.loop-number-init
loop-number-init g c = record {
  ready = c.requires.ready;
  reads = reads_same _;
  long = refl;
  told = λ f below. absurd (omega (arith, below));
  rest = λ f from small. get_or-replicate 256 f 0 0 small;
}

pub loop-number-preserved : goal.loop-number-preserved
loop-number-preserved g c =
    let t = table (committed c.args.store.now) in
    let e = c.loop-number.number in
    let old = c.loop-number.parents in
    let invariant = c.loop-number.invariant in
    let at : c.from.result ≡ e = c.from.ensures in
    let parent = ap (λ (x : EntryHead). x.parent) (c.in_ok-head.ensures.head
    ∙ ap (λ (l : List ℕ). head_of (entry_in (table l) c.new-e.result)) invariant.reads.keeps.committed_words
    ∙ ap (λ (k : ℕ). head_of (entry_in t k)) c.new-e.ensures) in
    let lt : e < c.args.end = search rules in
    let most = c.requires.end.most in
    let small : e < 64 = omega (arith, lt, most) in
    let fits : c.from.result < length old = omega (arith, at, small, invariant.long) in
    record {
      ready = c.in_ok-head.ensures.store.ready;
      reads = reads_then _ _ _ invariant.reads c.read_entry_head.ensures.store.only;
      long = length-set _ _ _ ∙ invariant.long;
      told = below_more _ _ (λ f lt.
          let other : f ≢ c.from.result = λ is. let z : ⊥ = omega (arith, is, at, lt) in z in
          get_or-set_other old c.from.result f _ 0 other ∙ invariant.told f lt)
          (get_or-set_at old c.from.result e _ 0 (sym at) fits ∙ parent);
      rest = λ f from inside.
          let other : f ≢ c.from.result = λ is. let z : ⊥ = omega (arith, is, at, from) in z in
          get_or-set_other old c.from.result f _ 0 other ∙ invariant.rest f (omega (arith, from)) inside;
    }

pub returns-clause-parents : goal.returns-clause-parents
returns-clause-parents g c = λ f small.
    let end : c.loop-number.number ≡ c.args.end = search rules in
    ⊎_elim
    (λ (below : f < c.args.end). c.loop-number.invariant.told f (omega (arith, below, end)))
    (λ (from : c.args.end ≤ f). c.loop-number.invariant.rest f (omega (arith, from, end)) small
    ∙ sym (ap (λ (x : Entry). x.parent) (c.requires.end.free f from)))
    (cases_lt f c.args.end)

pub returns-clause-store : goal.returns-clause-store
returns-clause-store g c = reads_so_far _ _ c.loop-number.invariant.reads c.loop-number.invariant.ready

pub returns-in_err-head-clause-parents : goal.returns-in_err-head-clause-parents
returns-in_err-head-clause-parents g c = none_ok _ _ _ c.from_residual.ensures.1

pub returns-in_err-head-clause-store : goal.returns-in_err-head-clause-store
returns-in_err-head-clause-store g c =
    reads_handed _ _ _ _ c.from_residual.ensures.1
    (reads_on _ _ _ _ c.loop-number.invariant.reads c.in_err-head.ensures.store)
