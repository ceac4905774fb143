use Rattle.std.proofs.Common.{rules, ◌≡◌, ◌≤◌, ◌<◌, ◌↔◌, ◌∙◌, ℕ, List, IsTrue, length, sym, subst, arith}
use Rattle.std.proofs.Common.{below_more}
use Rattle.std.proofs.Common.{true≢false}
use Rattle.undo_journal.specs.Memory.{committed}
use Rattle.undo_journal.specs.laws.Calls.{reads_then}
use Rattle.undo_journal.specs.laws.Exits.{none_ok}
use Rattle.undo_journal.specs.laws.Told.{reads_handed, reads_none, reads_on, reads_so_far}
use Rattle.file_tree.specs.Naming.{BearsNameAt}
use Rattle.file_tree.specs.Table.{table, IsUsed}
use Rattle.file_tree.specs.laws.Nodes.{used_small}
use Rattle.file_tree.specs.laws.Refusing.{no_empty_name}
use Rattle.file_lookup.proofs.naming.first_named.Goals as goal

-- a file with a name has an entry of the table
named_small : (m : List ℕ) (name : List ℕ) (f : ℕ) → BearsNameAt (table m) name f → f < 64
named_small m name f bears =
    let used : IsUsed (table m) f = λ none. let z : ⊥ = omega (arith, none, bears.kind) in z in
    used_small m f used

pub returns-then-is_empty : goal.returns-then-is_empty
returns-then-is_empty g c = record {
  told = λ f bears.
      let m = committed c.args.store.now in
      let none : length c.args.name.now ≡ 0 = search rules in
      no_empty_name m f (named_small m _ f bears) c.args.name.now none bears;
  store = reads_none _ c.requires.ready;
}

pub loop-number-preserved : goal.loop-number-preserved
loop-number-preserved g c =
    let m = committed c.args.store.now in
    let bears : List ℕ → ℕ → Type 0 = λ l e. IsTrue c.in_ok-bears.bears ↔ BearsNameAt (table l) c.args.name.now e in
    let told = subst (bears m) c.new-e.ensures
    (subst (λ (l : List ℕ). bears l c.new-e.result) c.loop-number.invariant.reads.keeps.committed_words
    c.in_ok-bears.ensures.told) in
    record {
      ready = c.in_ok-bears.ensures.store.ready;
      reads = reads_then _ _ _ c.loop-number.invariant.reads c.bears_name_at.ensures.store.only;
      none = below_more _ _ c.loop-number.invariant.none
          (λ is. true≢false (sym (told.1 is) ∙ c.if-bears.false));
    }

pub returns-in_err-bears : goal.returns-in_err-bears
returns-in_err-bears g c = record {
  told = none_ok _ _ _ c.from_residual.ensures.1;
  store = reads_handed _ _ _ _ c.from_residual.ensures.1
      (reads_on _ _ _ _ c.loop-number.invariant.reads c.in_err-bears.ensures.store);
}

pub returns-then-bears : goal.returns-then-bears
returns-then-bears g c = record {
  told = let e = c.new-e.result in
      let family : List ℕ → Type 0 = λ l. IsTrue c.in_ok-bears.bears ↔ BearsNameAt (table l) c.args.name.now e in
      (subst family c.loop-number.invariant.reads.keeps.committed_words c.in_ok-bears.ensures.told).0 c.if-bears.true;
  store = reads_on _ _ _ _ c.loop-number.invariant.reads c.in_ok-bears.ensures.store;
}

pub returns : goal.returns
returns g c = record {
  told = λ f bears.
      let end : 64 ≤ c.loop-number.number = search rules in
      let below = named_small (committed c.args.store.now) _ f bears in
      c.loop-number.invariant.none f (omega (arith, end, below)) bears;
  store = reads_so_far _ _ c.loop-number.invariant.reads c.loop-number.invariant.ready;
}
