use Rattle.card_model.specs.declared.limits.TheConstants.{ENTRIES}
use Rattle.std.proofs.Common.{rules, ◌≡◌, ◌≢◌, ◌+◌, ℕ, false, List, slice_index_or, slice_set}
use Rattle.std.proofs.Common.{refl, sym, ◌∙◌, ap, subst, arith}
use Rattle.nvm_board.specs.Facts.{address}
use Rattle.undo_journal.specs.Memory.{current, IsOpen}
use Rattle.undo_journal.specs.Lent.{memory_of}
use Rattle.undo_journal.specs.StoreCalls.{Sets}
use Rattle.undo_journal.specs.laws.Calls.{reads_same, reads_sets, sets_then, sets_weaker}
use Rattle.file_tree.specs.declared.entry.Entry.{Entry}
use Rattle.file_tree.specs.declared.layout.TheConstants.{FIRST_ENTRY_PAGE}
use Rattle.file_tree.specs.Table.{entry_in}
use Rattle.file_changes.specs.DeletionParts.{FreesUpTo, GoesWith}
use Rattle.file_tree.specs.laws.Kinds.{kind_of_unused}
use Rattle.file_changes.specs.laws.Deleting.{frees_next, frees_skip}
use Rattle.undo_journal.specs.laws.Told.{sets_in_on, sets_in_handed}
use Rattle.file_changes.proofs.deleting.free_part.Goals as goal
use Rattle.file_changes.proofs.deleting.free_part.Goals.{then-goes+in_ok-set, else-goes}

pub returns-in_err-set-clause-store : goal.returns-in_err-set-clause-store
returns-in_err-set-clause-store g c =
    sets_in_handed _ _ _ _ _ c.from_residual.ensures.1
    (sets_in_on _ 1 64 _ _ _ _ (omega (arith, c.loop-number-test.true)) c.loop-number.invariant.sets
    c.in_err-set.ensures.store)

pub loop-number-preserved : goal.loop-number-preserved
loop-number-preserved g c =
    let m = current (memory_of c.args.txn.now) in
    let e = c.loop-number.number in
    let now = current (memory_of c.loop-number.txn) in
    let before = c.loop-number.invariant.so_far in
    let mark : slice_index_or c.args.marks.now c.from.result false ≡ slice_index_or c.args.marks.now e false =
    ap (λ (k : ℕ). slice_index_or c.args.marks.now k false) c.from.ensures in
    elim c.if-goes.branch [
      | then-goes+in_ok-set w ↦
          let done : current (memory_of w.set.new.self) ≡ slice_set now (address (FIRST_ENTRY_PAGE + e) 0) 0 =
          ◌∙◌ {b = slice_set now w.entry_address.result 0} w.in_ok-set.ensures.done
          (ap (λ (k : ℕ). slice_set now k 0)
          (w.entry_address.ensures ∙ ap (λ (k : ℕ). address (FIRST_ENTRY_PAGE + k) 0) w.new.ensures)) in
          let next : (part : List Entry) → GoesWith c.args.marks.now part
          → FreesUpTo m part (e + 1) (current (memory_of w.set.new.self)) = λ part told.
          (let some : (entry_in part e).kind ≢ 0 = (told e c.loop-number-test.true).0 (sym mark ∙ w.if-goes.true) in
          subst (λ (l : List ℕ). FreesUpTo m part (e + 1) l) (sym done)
          (frees_next m now part e c.requires.room.ready.current_size c.loop-number-test.true (before part told)
          some)) in
          record {
            ready = (let ready : IsOpen (memory_of w.set.new.self) = w.in_ok-set.ensures.store.ready in
                subst (λ t. IsOpen (memory_of t)) (sym w.txn-is) ready);
            sets = subst (λ t. Sets (e + 1) c.args.txn.now t) (sym w.txn-is)
                (sets_then _ 1 _ _ _ _ (omega arith) c.loop-number.invariant.sets w.set.ensures.store.sets);
            so_far = subst (λ t. (part : List Entry) → GoesWith c.args.marks.now part
                → FreesUpTo m part (e + 1) (current (memory_of t))) (sym w.txn-is) next;
          }
      | else-goes w ↦
          let next : (part : List Entry) → GoesWith c.args.marks.now part → FreesUpTo m part (e + 1) now = λ part told.
          (let none : (entry_in part e).kind ≡ 0 =
          kind_of_unused _ _ (told e c.loop-number-test.true) (sym mark ∙ w.if-goes.false) in
          frees_skip m now part e c.requires.room.ready.current_size c.loop-number-test.true (before part told) none) in
          record {
            ready = subst (λ t. IsOpen (memory_of t)) (sym w.txn-is) c.loop-number.invariant.ready;
            sets = subst (λ t. Sets (e + 1) c.args.txn.now t) (sym w.txn-is)
                (sets_weaker _ _ _ _ (omega arith) c.loop-number.invariant.sets);
            so_far = subst (λ t. (part : List Entry) → GoesWith c.args.marks.now part
                → FreesUpTo m part (e + 1) (current (memory_of t))) (sym w.txn-is) next;
          }
    ]

pub returns-clause-done : goal.returns-clause-done
returns-clause-done g c = λ part told.
    let m = current (memory_of c.args.txn.now) in
    let end : c.loop-number.number ≡ ENTRIES = search rules in
    subst (λ (k : ℕ). FreesUpTo m part k (current (memory_of c.loop-number.txn))) end
    (c.loop-number.invariant.so_far part told)

pub loop-number-init : goal.loop-number-init
loop-number-init g c = record {
  ready = c.requires.room.ready;
  sets = reads_sets _ _ _ (record { same_store = refl; reads = reads_same _ });
  so_far = λ part told. record {
    size = refl;
    freed = λ f lt. absurd (omega (arith, lt));
    others = λ page place lt apart. refl;
  };
}
