use Rattle.std.specs.Prelude.{◌*◌, ◌+◌, ◌≤◌, length}
use Rattle.std.proofs.Common.{ℕ, List, sym, ◌∙◌, subst, arith}
use Rattle.undo_journal.specs.Lent.{memory_of}
use Rattle.undo_journal.specs.Memory.{Memory, IsOpen}
use Rattle.undo_journal.specs.laws.Endings.{ends, ends_answered, ends_by_gate, ends_counted, ends_done, ends_turned}
use Rattle.undo_journal.specs.laws.Transactions.{begun}
use Rattle.undo_journal.specs.Spending.{transaction_writes}
use Rattle.block_chain.specs.declared.layout.TheConstants.{BLOCK_BYTES}
use Rattle.block_chain.specs.Chains.{chain_of, IsChain}
use Rattle.block_chain.specs.ChainChanges.{Overwrites, touched_words, touched_blocks}
use Rattle.chain_bytes.specs.Writes.{put_writes}
use Rattle.chain_bytes.specs.laws.Touching.{touched_few}
use Rattle.chain_bytes.proofs.update.put_bytes.Goals as goal

pub returns-clause-any_exit : goal.returns-clause-any_exit
returns-clause-any_exit g c =
    let set = c.set_bytes-work.ensures in
    let last = c.store-1.given.1 (sym (set.store.sets.same_store ∙ c.begin-txn.ensures.same_store)) in
    ends (λ m after. Overwrites m (chain_of m c.args.chain) c.args.offset c.args.bytes.now after)
    _ c.set_bytes-work.result _ _ (memory_of c.set_bytes-work.new.txn) _ _ c.begin-txn.ensures.same last
    c.requires.ready set.store.sets.kept set.done c.end.ensures.any_exit

pub returns-clause-done : goal.returns-clause-done
returns-clause-done g c =
    let set = c.set_bytes-work.ensures in
    let last = c.store-1.given.1 (sym (set.store.sets.same_store ∙ c.begin-txn.ensures.same_store)) in
    ends_done (λ m after. Overwrites m (chain_of m c.args.chain) c.args.offset c.args.bytes.now after)
    c.set_bytes-work.result c.end.result _ _ (memory_of c.set_bytes-work.new.txn) _ _ c.begin-txn.ensures.same last
    c.requires.ready set.done c.end.ensures.answered c.end.ensures.done

pub returns-clause-by_gate : goal.returns-clause-by_gate
returns-clause-by_gate g c =
    let set = c.set_bytes-work.ensures in
    let last = c.store-1.given.1 (sym (set.store.sets.same_store ∙ c.begin-txn.ensures.same_store)) in
    ends_by_gate _ _ _ _ (memory_of c.set_bytes-work.new.txn) _ _ c.begin-txn.ensures.same last set.store.sets.kept
    c.end.ensures.any_exit

pub returns-clause-turned : goal.returns-clause-turned
returns-clause-turned g c =
    let set = c.set_bytes-work.ensures in
    let last = c.store-1.given.1 (sym (set.store.sets.same_store ∙ c.begin-txn.ensures.same_store)) in
    ends_turned (λ m after. Overwrites m (chain_of m c.args.chain) c.args.offset c.args.bytes.now after)
    c.set_bytes-work.result _ _ (memory_of c.set_bytes-work.new.txn) _ _ c.begin-txn.ensures.same last c.requires.ready
    set.store.sets.rises set.done set.store.tells c.end.ensures.store.reports c.end.ensures.turned

pub returns-clause-store : goal.returns-clause-store
returns-clause-store g c =
    let set = c.set_bytes-work.ensures in
    let last = c.store-1.given.1 (sym (set.store.sets.same_store ∙ c.begin-txn.ensures.same_store)) in
    let words = touched_words c.args.offset (length c.args.bytes.now) in
    let blocks = touched_blocks c.args.offset (length c.args.bytes.now) in
    ends_answered words blocks (transaction_writes words blocks) c.set_bytes-work.result c.end.result _ _
    (memory_of c.set_bytes-work.new.txn) _ _ (omega arith) c.begin-txn.ensures.same last c.requires.ready
    set.store.sets.taken set.store.sets.reports set.runs set.store.tells c.end.ensures.store c.end.ensures.answered

pub returns-clause-counted : goal.returns-clause-counted
returns-clause-counted g c =
    let set = c.set_bytes-work.ensures in
    let last = c.store-1.given.1 (sym (set.store.sets.same_store ∙ c.begin-txn.ensures.same_store)) in
    ends_counted (put_writes c.args.offset (length c.args.bytes.now)) c.set_bytes-work.result
    c.end.result _ _ (memory_of c.set_bytes-work.new.txn) _ _ c.begin-txn.ensures.same last
    c.requires.ready set.counted c.end.ensures.answered c.end.ensures.counted

pub set_bytes-work-requires-clause-room : goal.set_bytes-work-requires-clause-room
set_bytes-work-requires-clause-room g c = record {
  ready = subst (λ (m : Memory). IsOpen m) (sym c.begin-txn.ensures.same) c.requires.ready.usable;
  enough = let most = touched_few c.args.offset (length c.args.bytes.now) c.requires.few in
      omega (arith, most, c.begin-txn.ensures.room);
}

pub set_bytes-work-requires-clause-lie : goal.set_bytes-work-requires-clause-lie
set_bytes-work-requires-clause-lie g c = record {
  chain = subst (λ (m : List ℕ). IsChain m c.args.chain.first (chain_of m c.args.chain))
      (begun c.args.store.now (memory_of c.begin-txn.result) c.begin-txn.ensures.same c.requires.ready)
      c.requires.lie.chain;
  within = subst (λ (m : List ℕ). c.args.offset + length c.args.bytes.now ≤ BLOCK_BYTES * length (chain_of m
      c.args.chain))
      (begun c.args.store.now (memory_of c.begin-txn.result) c.begin-txn.ensures.same c.requires.ready)
      c.requires.lie.within;
  small = c.requires.lie.small;
}
