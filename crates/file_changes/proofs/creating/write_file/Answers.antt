use Rattle.file_tree.specs.Formats.{block_count}
use Rattle.std.proofs.Common.{rules, ◌≡◌, ◌*◌, ℕ, List, length, take, replicate, sym, ◌∙◌, ap, subst, inl, inr}
use Rattle.std.proofs.Common.{refl, ⊎_elim, arith}
use Rattle.undo_journal.specs.Lent.{memory_of}
use Rattle.undo_journal.specs.Memory.{Memory, committed, current, IsOpen, IsReady}
use Rattle.block_chain.specs.declared.layout.TheConstants.{BLOCK_BYTES}
use Rattle.block_chain.specs.Chains.{HasFree, free_chain, bytes_of}
use Rattle.block_chain.specs.ChainChanges.{IsFirstFree, OnlyContent}
use Rattle.block_chain.specs.declared.chain.FreeRun.{FreeRun}
use Rattle.block_chain.specs.laws.Bytes.{blocks_take, leads_blocks, AreBlocks}
use Rattle.block_chain.specs.laws.Extents.{laid_has_free}
use Rattle.block_chain.specs.laws.Footprints.{first_free_kept}
use Rattle.file_tree.specs.declared.entry.Entry.{Entry}
use Rattle.file_tree.specs.declared.layout.TheConstants.{CREATE_WRITES}
use Rattle.card_model.specs.NewFiles.{blank}
use Rattle.file_tree.specs.Table.{table, extents}
use Rattle.file_changes.specs.CreationParts.{AddsFile, FillsAndAdds}
use Rattle.file_tree.specs.laws.Rewriting.{filled}
use Rattle.undo_journal.specs.laws.Endings.{ends, ends_answered, ends_by_gate, ends_done, ends_turned}
use Rattle.undo_journal.specs.laws.Exits.{on_then}
use Rattle.undo_journal.specs.laws.Told.{changes_within, changes_handed, changes_on}
use Rattle.file_changes.proofs.creating.write_file.Goals as goal

-- blocks that were filled, and nothing added
left_filled : (m blocks now after : List ℕ) → after ≡ now → OnlyContent m blocks now → OnlyContent m blocks after
left_filled m blocks now after same only = subst (λ (l : List ℕ). OnlyContent m blocks l) (sym same) only

-- and with the file added
filled_and_added : (m : List ℕ) (e : ℕ) (x : Entry) (n : ℕ) (between after : List ℕ)
    → OnlyContent m (take n (free_chain m)) between
    → bytes_of between (take n (free_chain m)) ≡ replicate (BLOCK_BYTES * n) blank → AddsFile between e x n after
    → FillsAndAdds m e x n after
filled_and_added m e x n between after only full adds =
    record { between = between; only = only; filled = full; adds = adds }

-- the blocks that were filled are the first free ones of the transaction too
first_free_in : (m after now ps : List ℕ) (n : ℕ) (run : FreeRun) → now ≡ after → AreBlocks m ps
    → OnlyContent m ps after → free_chain after ≡ free_chain m → IsFirstFree m n run → IsFirstFree now n run
first_free_in m after now ps n run same blocks only free found =
    subst (λ (l : List ℕ). IsFirstFree l n run) (sym same) (first_free_kept m after ps n run blocks only free found)

pub returns-clause-any_exit : goal.returns-clause-any_exit
returns-clause-any_exit g c =
    let m = committed c.args.store.now in
    let set = c.add_file-work.ensures in
    let last = c.store-1.given.1 (sym (set.store.sets.same_store ∙ c.begin-txn.ensures.same_store)) in
    ⊎_elim (λ still. inl (left_filled m (take c.args.blocks (free_chain m))
    (committed c.fill.new.store) _ still c.fill.ensures.any_exit))
    (λ adds. inr (filled_and_added m c.args.e c.args.entry c.args.blocks
    (committed c.fill.new.store) _ c.fill.ensures.any_exit c.in_ok-run.ensures.done adds))
    (ends (λ m after. AddsFile m c.args.e c.args.entry c.args.blocks after) _ c.add_file-work.result _ _
    (memory_of c.add_file-work.new.txn) _ _ c.begin-txn.ensures.same last c.in_ok-run.ensures.store.ready
    set.store.sets.kept set.done c.end.ensures.any_exit)

pub returns-clause-done : goal.returns-clause-done
returns-clause-done g c =
    let m = committed c.args.store.now in
    let set = c.add_file-work.ensures in
    let last = c.store-1.given.1 (sym (set.store.sets.same_store ∙ c.begin-txn.ensures.same_store)) in
    on_then _ _ c.end.result
    (λ adds. filled_and_added m c.args.e c.args.entry c.args.blocks
    (committed c.fill.new.store) _ c.fill.ensures.any_exit c.in_ok-run.ensures.done adds)
    (ends_done (λ m after. AddsFile m c.args.e c.args.entry c.args.blocks after) c.add_file-work.result c.end.result _ _
    (memory_of c.add_file-work.new.txn) _ _ c.begin-txn.ensures.same last c.in_ok-run.ensures.store.ready
    set.done c.end.ensures.answered c.end.ensures.done)

pub returns-clause-store : goal.returns-clause-store
returns-clause-store g c =
    let set = c.add_file-work.ensures in
    let last = c.store-1.given.1 (sym (set.store.sets.same_store ∙ c.begin-txn.ensures.same_store)) in
    changes_on c.args.blocks 9 CREATE_WRITES _ _ _ _ (omega (arith, c.requires.few)) c.in_ok-run.ensures.store
    (ends_answered 13 3 9 c.add_file-work.result c.end.result _ _ (memory_of c.add_file-work.new.txn) _ _ (omega arith)
    c.begin-txn.ensures.same last c.in_ok-run.ensures.store.ready set.store.sets.taken set.store.sets.reports set.runs
    set.store.tells c.end.ensures.store c.end.ensures.answered)

pub returns-in_err-run-clause-any_exit : goal.returns-in_err-run-clause-any_exit
returns-in_err-run-clause-any_exit g c =
    inl c.fill.ensures.any_exit

pub returns-in_err-run-clause-store : goal.returns-in_err-run-clause-store
returns-in_err-run-clause-store g c =
    changes_handed _ _ _ _ _ c.from_residual.ensures.1
    (changes_within _ CREATE_WRITES _ _ _ (omega (arith, c.requires.few)) c.in_err-run.ensures.store)

pub returns-in_err-run-clause-by_gate : goal.returns-in_err-run-clause-by_gate
returns-in_err-run-clause-by_gate g c =
    let m = committed c.args.store.now in
    let sized = c.requires.tree.ready.usable.committed_size in
    record {
      filled = committed c.fill.new.store;
      tree = filled m (committed c.fill.new.store) _ sized c.requires.tree.tree c.fill.ensures.any_exit;
      gate = inl refl;
    }

pub returns-clause-by_gate : goal.returns-clause-by_gate
returns-clause-by_gate g c =
    let m = committed c.args.store.now in
    let sized = c.requires.tree.ready.usable.committed_size in
    let sets = c.add_file-work.ensures.store.sets in
    let last = c.store-1.given.1 (sym (sets.same_store ∙ c.begin-txn.ensures.same_store)) in
    record {
      filled = committed c.fill.new.store;
      tree = filled m (committed c.fill.new.store) _ sized c.requires.tree.tree c.fill.ensures.any_exit;
      gate = ends_by_gate _ _ c.fill.new.store _ (memory_of c.add_file-work.new.txn) _ _ c.begin-txn.ensures.same last
          sets.kept c.end.ensures.any_exit;
    }

pub returns-in_err-run-clause-turned : goal.returns-in_err-run-clause-turned
returns-in_err-run-clause-turned g c =
    λ shut more. absurd (omega (arith, more, c.in_err-run.ensures.store.writes.writes))

pub returns-clause-turned : goal.returns-clause-turned
returns-clause-turned g c =
    let m = committed c.args.store.now in
    let set = c.add_file-work.ensures in
    let last = c.store-1.given.1 (sym (set.store.sets.same_store ∙ c.begin-txn.ensures.same_store)) in
    λ shut more. filled_and_added m c.args.e c.args.entry c.args.blocks
    (committed c.fill.new.store) _ c.fill.ensures.any_exit c.in_ok-run.ensures.done
    (ends_turned (λ m after. AddsFile m c.args.e c.args.entry c.args.blocks after) c.add_file-work.result _ _
    (memory_of c.add_file-work.new.txn) _ _ c.begin-txn.ensures.same last c.in_ok-run.ensures.store.ready
    set.store.sets.rises set.done set.store.tells c.end.ensures.store.reports c.end.ensures.turned shut
    (omega (arith, more, c.in_ok-run.ensures.store.writes.writes)))

pub add_file-work-requires-clause-blocks : goal.add_file-work-requires-clause-blocks
add_file-work-requires-clause-blocks g c = record {
  free = let m = committed c.args.store.now in
      let sized = c.requires.tree.ready.usable.committed_size in
      let after = filled m (committed c.fill.new.store) _ sized c.requires.tree.tree c.fill.ensures.any_exit in
      let ready : IsReady c.fill.new.store = search rules in
      let same : current (memory_of c.begin-txn.result) ≡ committed c.fill.new.store =
      ap current c.begin-txn.ensures.same ∙ sym ready.same in
      let family : List ℕ → Type 0 = λ l. HasFree l in
      subst family (sym same) (laid_has_free (block_count (committed c.fill.new.store)) (committed c.fill.new.store)
      (extents (table (committed c.fill.new.store))) after.stands.blocks);
  enough = let m = committed c.args.store.now in
      let sized = c.requires.tree.ready.usable.committed_size in
      let after = filled m (committed c.fill.new.store) _ sized c.requires.tree.tree c.fill.ensures.any_exit in
      let ready : IsReady c.fill.new.store = search rules in
      let same : current (memory_of c.begin-txn.result) ≡ committed c.fill.new.store =
      ap current c.begin-txn.ensures.same ∙ sym ready.same in
      let chain = ap (λ (l : List ℕ). length (free_chain l)) same in
      let free = ap (λ (l : List ℕ). length l) after.free in
      omega (arith, chain, free, c.requires.enough);
  first = λ some.
      let m = committed c.args.store.now in
      let n = c.args.blocks in
      let sized = c.requires.tree.ready.usable.committed_size in
      let after = filled m (committed c.fill.new.store) _ sized c.requires.tree.tree c.fill.ensures.any_exit in
      let ready : IsReady c.fill.new.store = search rules in
      let same : current (memory_of c.begin-txn.result) ≡ committed c.fill.new.store =
      ap current c.begin-txn.ensures.same ∙ sym ready.same in
      let free = laid_has_free (block_count m) m (extents (table m)) c.requires.tree.tree.blocks in
      let blocks = blocks_take m n (free_chain m) (leads_blocks m _ 0 (free_chain m) free.leads) in
      first_free_in m (committed c.fill.new.store) _ (take n (free_chain m)) n _ same blocks c.fill.ensures.any_exit
      after.free (c.in_ok-run.ensures.found some);
}

pub add_file-work-requires-clause-room : goal.add_file-work-requires-clause-room
add_file-work-requires-clause-room g c = record {
  ready = subst (λ (m : Memory). IsOpen m) (sym c.begin-txn.ensures.same) c.in_ok-run.ensures.store.ready.usable;
  enough = omega (arith, c.begin-txn.ensures.room);
}

pub fill-requires : goal.fill-requires
fill-requires g c = record {
  ready = c.requires.tree.ready;
  free = let m = committed c.args.store.now in
      laid_has_free (block_count m) m (extents (table m)) c.requires.tree.tree.blocks;
  enough = c.requires.enough;
}
