use Rattle.undo_journal.specs.laws.Exits.{none_ok}
use Rattle.std.proofs.Common.{◌≡◌, ◌≢◌, ◌<◌, ◌+◌, ◌-◌, ◌||◌, ◌↔◌, ℕ, suc, IsTrue, true, false, Bool, List, sym, ◌∙◌, ap}
use Rattle.std.proofs.Common.{subst, true≢false, arith}
use Rattle.undo_journal.specs.Memory.{committed}
use Rattle.undo_journal.specs.laws.Calls.{reads_then}
use Rattle.file_tree.specs.declared.entry.Entry.{Entry}
use Rattle.file_tree.specs.declared.entry.EntryHead.{EntryHead}
use Rattle.file_tree.specs.Entries.{head_of, life_told, state_told}
use Rattle.card_model.specs.FileLives.{bars}
use Rattle.file_tree.specs.Table.{table, entry_in, IsUsed, IsTable}
use Rattle.file_tree.specs.States.{barred_up}
use Rattle.file_tree.specs.laws.Barring.{barred_up-master, barred_up-none, barred_up-step}
use Rattle.file_tree.specs.laws.Nodes.{used_small}
use Rattle.file_tree.specs.laws.Paths.{parent_used}
use Rattle.undo_journal.specs.laws.Told.{reads_so_far, reads_handed, reads_on}
use Rattle.file_lookup.proofs.barring.is_below_barred.Goals as goal

-- the file above one that was met is used too
used_above : (t : List Entry) (at above : ℕ) → IsTable t → at ≢ 0 → IsUsed t at
    → above ≡ (entry_in t at).parent → IsUsed t above
used_above t at above rules some used is =
    let family : ℕ → Type 0 = λ e. IsUsed t e in
    let below : 0 < at = omega (arith, some) in
    subst family (sym is) (parent_used t rules at below used)

-- the head that was read is that of the words as they were at first
read_there : (m now : List ℕ) (above : ℕ) (x : EntryHead) → now ≡ m → x ≡ head_of (entry_in (table now) above)
    → x ≡ head_of (entry_in (table m) above)
read_there m now above x kept is = is ∙ ap (λ (l : List ℕ). head_of (entry_in (table l) above)) kept

-- a file that is not told to be the master file's is another
is_other : (e : ℕ) (told : Bool) → IsTrue told ↔ (e ≡ 0) → told ≡ false → e ≢ 0
is_other e told is other = λ none. true≢false (sym (is.1 none) ∙ other)

-- what one step to a parent tells
step_up : (t : List Entry) (n k at above : ℕ) (x : EntryHead) (b tells : Bool) → n ≡ suc k → at ≢ 0
    → above ≡ (entry_in t at).parent → x ≡ head_of (entry_in t above) → b ≡ bars (state_told x.life) → b ≡ tells
    → barred_up t n at ≡ (tells || barred_up t k above)
step_up t n k at above x b tells one some is there told known =
    ap (λ (i : ℕ). barred_up t i at) one ∙ barred_up-step t k at some
    ∙ ap (λ (p : ℕ). bars (life_told (entry_in t p)) || barred_up t k p) (sym is)
    ∙ ap (λ (a : Bool). a || barred_up t k above)
    (ap (λ (y : EntryHead). bars (state_told y.life)) (sym there) ∙ sym told ∙ known)

pub returns-then-is_master : goal.returns-then-is_master
returns-then-is_master g c = record {
  told = let t = table (committed c.args.store.now) in
      sym (c.loop-step.invariant.left ∙ barred_up-master t (7 - c.loop-step._step) c.loop-step.at
      (c.is_master.ensures.0 c.if-is_master.true));
  store = reads_so_far _ _ c.loop-step.invariant.reads c.loop-step.invariant.ready;
}

pub returns-then-bars : goal.returns-then-bars
returns-then-bars g c = record {
  told = let m = committed c.args.store.now in
      let one : 7 - c.loop-step._step ≡ suc (7 - (c.loop-step._step + 1)) = omega (arith, c.loop-step-test.true) in
      let there = read_there m (committed c.loop-step.store) c.loop-step.above c.in_ok-head.head
      c.loop-step.invariant.reads.keeps.committed_words c.in_ok-head.ensures.head in
      sym (c.loop-step.invariant.left
      ∙ step_up (table m) _ (7 - (c.loop-step._step + 1)) c.loop-step.at
      c.loop-step.above c.in_ok-head.head c.bars.result true one
      (is_other _ _ c.is_master.ensures c.if-is_master.false) c.loop-step.invariant.parent there
      (c.bars.ensures ∙ ap bars c.life_cycle.ensures) c.if-bars.true);
  store = reads_on _ _ _ _ c.loop-step.invariant.reads c.in_ok-head.ensures.store;
}

pub loop-step-preserved : goal.loop-step-preserved
loop-step-preserved g c =
    let m = committed c.args.store.now in
    let one : 7 - c.loop-step._step ≡ suc (7 - (c.loop-step._step + 1)) = omega (arith, c.loop-step-test.true) in
    let there = read_there m (committed c.loop-step.store) c.loop-step.above c.in_ok-head.head
    c.loop-step.invariant.reads.keeps.committed_words c.in_ok-head.ensures.head in
    record {
      ready = c.in_ok-head.ensures.store.ready;
      reads = reads_then _ _ _ c.loop-step.invariant.reads c.read_entry_head.ensures.store.only;
      used = used_above (table m) c.loop-step.at c.loop-step.above c.requires.file.tree.entries
          (is_other _ _ c.is_master.ensures c.if-is_master.false)
          c.loop-step.invariant.used c.loop-step.invariant.parent;
      parent = c.new-above.ensures ∙ ap (λ (x : EntryHead). x.parent) there;
      left = c.loop-step.invariant.left
          ∙ step_up (table m) _ (7 - (c.loop-step._step + 1)) c.loop-step.at c.loop-step.above c.in_ok-head.head
          c.bars.result false
          one (is_other _ _ c.is_master.ensures c.if-is_master.false) c.loop-step.invariant.parent there
          (c.bars.ensures ∙ ap bars c.life_cycle.ensures) c.if-bars.false;
    }

pub returns : goal.returns
returns g c = record {
  told = let t = table (committed c.args.store.now) in
      let none : 7 - c.loop-step._step ≡ 0 = omega (arith, c.loop-step-test.false) in
      sym (c.loop-step.invariant.left ∙ barred_up-none t (7 - c.loop-step._step) c.loop-step.at none);
  store = reads_so_far _ _ c.loop-step.invariant.reads c.loop-step.invariant.ready;
}

pub returns-in_err-head : goal.returns-in_err-head
returns-in_err-head g c = record {
  told = none_ok _ _ _ c.from_residual.ensures.1;
  store = reads_handed _ _ _ _ c.from_residual.ensures.1
      (reads_on _ _ _ _ c.loop-step.invariant.reads c.in_err-head.ensures.store);
}

pub read_entry_head-requires : goal.read_entry_head-requires
read_entry_head-requires g c = record {
  ready = c.loop-step.invariant.ready;
  within = let m = committed c.args.store.now in
      used_small m c.loop-step.above (used_above
      (table m) c.loop-step.at c.loop-step.above c.requires.file.tree.entries
      (is_other _ _ c.is_master.ensures c.if-is_master.false)
      c.loop-step.invariant.used c.loop-step.invariant.parent);
}
