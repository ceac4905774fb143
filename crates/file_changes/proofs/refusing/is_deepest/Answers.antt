use Rattle.std.proofs.Common.{rules, ◌≡◌, ◌≢◌, ◌<◌, ◌+◌, ◌-◌, ℕ, List, refl, sym, ◌∙◌, ap, subst, arith, true≢false}
use Rattle.undo_journal.specs.Memory.{committed}
use Rattle.undo_journal.specs.laws.Calls.{reads_same, reads_then}
use Rattle.undo_journal.specs.laws.Exits.{none_ok}
use Rattle.undo_journal.specs.laws.Told.{reads_handed, reads_on, reads_so_far}
use Rattle.file_tree.specs.declared.entry.EntryHead.{EntryHead}
use Rattle.file_tree.specs.Entries.{head_of}
use Rattle.file_tree.specs.Table.{table, entry_in, ancestor, IsUsed}
use Rattle.file_tree.specs.laws.Levels.{ancestor-fixed, ancestor-none, ancestor-step}
use Rattle.file_tree.specs.laws.Nodes.{used_small}
use Rattle.file_tree.specs.laws.Paths.{parent_used}
use Rattle.file_changes.proofs.refusing.is_deepest.Goals as goal

pub loop-step-init : goal.loop-step-init
loop-step-init g c = record {
  ready = c.requires.df.ready;
  reads = reads_same _;
  used = c.requires.df.used;
  left = refl;
}

pub returns-then-is_master : goal.returns-then-is_master
returns-then-is_master g c = record {
  told = let t = table (committed c.args.store.now) in
      let n = 7 - c.loop-step._step in
      let here = c.is_master.ensures.0 c.if-is_master.true in
      let zero : ancestor t 6 c.args.df ≡ 0 = c.loop-step.invariant.left ∙ ap (ancestor t n) here
      ∙ ancestor-fixed t n 0 c.requires.df.tree.entries.master.parent in (
        λ is. absurd (true≢false (sym is)),
        λ up. absurd (up zero),
      );
  store = reads_so_far _ _ c.loop-step.invariant.reads c.loop-step.invariant.ready;
}

pub returns-in_err-head : goal.returns-in_err-head
returns-in_err-head g c = record {
  told = none_ok _ _ _ c.from_residual.ensures.1;
  store = reads_handed _ _ _ _ c.from_residual.ensures.1
      (reads_on _ _ _ _ c.loop-step.invariant.reads c.in_err-head.ensures.store);
}

pub loop-step-preserved : goal.loop-step-preserved
loop-step-preserved g c =
    let t = table (committed c.args.store.now) in
    let at = c.loop-step.at in
    let n = 7 - c.loop-step._step in
    let k = 7 - (c.loop-step._step + 1) in
    let one : n ≡ k + 1 = omega (arith, c.loop-step-test.true) in
    let there : c.in_ok-head.head ≡ head_of (entry_in t at) = c.in_ok-head.ensures.head
    ∙ ap (λ (l : List ℕ). head_of (entry_in (table l) at)) c.loop-step.invariant.reads.keeps.committed_words in
    let parent : c.in_ok-head.head.parent ≡ (entry_in t at).parent = ap (λ (x : EntryHead). x.parent) there in
    let parent_at : c.new-at.result ≡ (entry_in t at).parent = c.new-at.ensures ∙ parent in
    let some : at ≢ 0 = λ is. true≢false (sym (c.is_master.ensures.1 is) ∙ c.if-is_master.false) in
    let below : 0 < at = omega (arith, some) in
    record {
      ready = c.in_ok-head.ensures.store.ready;
      reads = reads_then _ _ _ c.loop-step.invariant.reads c.read_entry_head.ensures.store.only;
      used = subst (λ (e : ℕ). IsUsed t e) (sym parent_at)
          (parent_used t c.requires.df.tree.entries at below c.loop-step.invariant.used);
      left = c.loop-step.invariant.left ∙ ancestor-step t n k at one ∙ ap (ancestor t k) (sym parent_at);
    }

pub returns : goal.returns
returns g c = record {
  told = let t = table (committed c.args.store.now) in
      let n = 7 - c.loop-step._step in
      let none : n ≡ 0 = omega (arith, c.loop-step-test.false) in
      let is : ancestor t 6 c.args.df
      ≡ c.loop-step.at = c.loop-step.invariant.left ∙ ancestor-none t n c.loop-step.at none in
      rw is (search rules);
  store = reads_so_far _ _ c.loop-step.invariant.reads c.loop-step.invariant.ready;
}

pub read_entry_head-requires : goal.read_entry_head-requires
read_entry_head-requires g c = record {
  ready = c.loop-step.invariant.ready;
  within = used_small (committed c.args.store.now) c.loop-step.at c.loop-step.invariant.used;
}
