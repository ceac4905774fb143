use Rattle.undo_journal.specs.laws.Calls.{reads_then}
use Rattle.undo_journal.specs.laws.Exits.{none_ok}
use Rattle.std.proofs.Common.{rules, ◌<◌, ◌≤◌, ◌↔◌, ◌∙◌, ℕ, List, IsTrue, refl, sym, subst, arith, below_more}
use Rattle.std.proofs.Common.{true≢false}
use Rattle.file_tree.specs.TreeParts.{IsShortChild}
use Rattle.file_tree.specs.Table.{table, entry_in}
use Rattle.file_tree.specs.laws.LookUps.{child_there, no_child_there}
use Rattle.undo_journal.specs.Memory.{committed}
use Rattle.file_tree.specs.laws.Nodes.{used_small}
use Rattle.undo_journal.specs.laws.Told.{reads_so_far, reads_handed, reads_on}
use Rattle.file_lookup.proofs.look_up.first_child.Goals as goal

pub loop-number-preserved : goal.loop-number-preserved
loop-number-preserved g c =
    let m = committed c.args.store.now in
    let e = c.loop-number.number in
    let names : List ℕ → ℕ → Type 0 = λ l k. IsTrue c.in_ok-is_child.is_child
    ↔ IsShortChild (entry_in (table l) k) c.args.df c.args.short in
    let told = subst (names m) c.new-e.ensures
    (subst (λ (l : List ℕ). names l c.new-e.result) c.loop-number.invariant.reads.keeps.committed_words
    c.in_ok-is_child.ensures.told) in
    record {
      ready = c.in_ok-is_child.ensures.store.ready;
      reads = reads_then _ _ _ c.loop-number.invariant.reads c.is_child_at.ensures.store.only;
      none = below_more _ _ c.loop-number.invariant.none
          (no_child_there (table m) c.args.df e c.args.short (entry_in (table m) e) refl
          (λ is. true≢false (sym (told.1 is) ∙ c.if-is_child.false)));
    }

pub returns : goal.returns
returns g c = record {
  told = λ e child known.
      let end : 64 ≤ c.loop-number.number = search rules in
      let below = used_small (committed c.args.store.now) e child.used in
      c.loop-number.invariant.none e (omega (arith, end, below)) child known;
  store = reads_so_far _ _ c.loop-number.invariant.reads c.loop-number.invariant.ready;
}

pub returns-in_err-is_child : goal.returns-in_err-is_child
returns-in_err-is_child g c = record {
  told = none_ok _ _ _ c.from_residual.ensures.1;
  store = reads_handed _ _ _ _ c.from_residual.ensures.1
      (reads_on _ _ _ _ c.loop-number.invariant.reads c.in_err-is_child.ensures.store);
}

pub returns-then-is_child : goal.returns-then-is_child
returns-then-is_child g c = record {
  told = let m = committed c.args.store.now in
      let e = c.new-e.result in
      let family : List ℕ → Type 0 = λ l. IsTrue c.in_ok-is_child.is_child
      ↔ IsShortChild (entry_in (table l) e) c.args.df c.args.short in
      let first : 0 < c.loop-number.number = search rules in
      let some : 0 < e = omega (arith, first, c.new-e.ensures) in
      child_there (table m) c.args.df e c.args.short (entry_in (table m) e) refl some
      ((subst family c.loop-number.invariant.reads.keeps.committed_words c.in_ok-is_child.ensures.told).0
      c.if-is_child.true);
  store = reads_on _ _ _ _ c.loop-number.invariant.reads c.in_ok-is_child.ensures.store;
}

pub is_child_at-requires : goal.is_child_at-requires
is_child_at-requires g c = record {
  ready = c.loop-number.invariant.ready;
  within = omega (arith, c.loop-number-test.true, c.new-e.ensures);
}
