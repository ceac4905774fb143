use Rattle.std.proofs.Common.{sym, ◌∙◌, subst, arith}
use Rattle.undo_journal.specs.Lent.{memory_of}
use Rattle.undo_journal.specs.Memory.{Memory, IsOpen}
use Rattle.undo_journal.specs.laws.Endings.{ends, ends_answered, ends_by_gate, ends_counted, ends_done, ends_last}
use Rattle.undo_journal.specs.laws.Endings.{ends_turned}
use Rattle.card_model.specs.Secrets.{owner}
use Rattle.pin_store.specs.RenewalParts.{renewal_runs, renewal_sets, renewing_writes, renewed_pin}
use Rattle.pin_store.specs.Pages.{pin_at, SetsPin}
use Rattle.pin_store.specs.laws.AllPins.{renewed_pages}
use Rattle.pin_store.proofs.putting.put_renewed.Goals as goal

pub returns : goal.returns
returns g c =
    let set = c.set_renewed-work.ensures in
    let last = c.store-1.given.1 (sym (set.store.sets.same_store ∙ c.begin-txn.ensures.same_store)) in
    let either = ends (λ m after. SetsPin m (owner c.args.secret)
    (renewed_pin c.args.renewal (pin_at m (owner c.args.secret))) after) _ c.set_renewed-work.result _ _
    (memory_of c.set_renewed-work.new.txn) _ _ c.begin-txn.ensures.same last
    c.requires.ready set.store.sets.kept set.done c.end.ensures.any_exit in record {
      any_exit = either;
      done = ends_done (λ m after. SetsPin m (owner c.args.secret)
          (renewed_pin c.args.renewal (pin_at m (owner c.args.secret))) after) c.set_renewed-work.result c.end.result
          _ _ (memory_of c.set_renewed-work.new.txn) _ _ c.begin-txn.ensures.same last c.requires.ready set.done
          c.end.ensures.answered c.end.ensures.done;
      by_gate = (
        ends_by_gate _ _ _ _ (memory_of c.set_renewed-work.new.txn) _ _ c.begin-txn.ensures.same last
            set.store.sets.kept c.end.ensures.any_exit,
        ends_turned (λ m after. SetsPin m (owner c.args.secret)
            (renewed_pin c.args.renewal (pin_at m (owner c.args.secret))) after) c.set_renewed-work.result
            _ _ (memory_of c.set_renewed-work.new.txn) _ _ c.begin-txn.ensures.same last c.requires.ready
            set.store.sets.rises set.done set.store.tells c.end.ensures.store.reports c.end.ensures.turned,
      );
      pages = λ pages. renewed_pages _ _ c.args.renewal c.args.secret pages either;
      store = ends_answered (renewal_sets c.args.renewal) (renewal_runs c.args.renewal)
          (renewing_writes c.args.renewal) c.set_renewed-work.result c.end.result _ _
          (memory_of c.set_renewed-work.new.txn) _ _ (omega arith) c.begin-txn.ensures.same last c.requires.ready
          set.store.sets.taken set.store.sets.reports set.runs set.store.tells c.end.ensures.store
          c.end.ensures.answered;
      counted = ends_counted (renewing_writes c.args.renewal) c.set_renewed-work.result c.end.result _ _
          (memory_of c.set_renewed-work.new.txn) _ _ c.begin-txn.ensures.same last c.requires.ready set.counted
          c.end.ensures.answered c.end.ensures.counted;
      between = ends_last _ _ (memory_of c.set_renewed-work.new.txn) _ _ c.begin-txn.ensures.same last
          set.store.sets.kept set.store.sets.reports set.store.sets.between c.end.ensures.between;
    }

pub set_renewed-work-requires : goal.set_renewed-work-requires
set_renewed-work-requires g c = record {
  ready = subst (λ (m : Memory). IsOpen m) (sym c.begin-txn.ensures.same) c.requires.ready.usable;
  enough = omega (arith, c.begin-txn.ensures.room);
}
