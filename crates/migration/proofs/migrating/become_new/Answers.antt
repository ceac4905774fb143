use Rattle.std.specs.Prelude.{◌≤◌, ◌+◌, IsOk, OnOk, Result, Ok, Err}
use Rattle.std.proofs.Common.{sym, ◌∙◌, ap, subst, inl, inr, arith, ⊎_elim, true≢false}
use Rattle.std.proofs.lemmas.Result.{on_ok_weaker}
use Rattle.undo_journal.specs.Lent.{memory_of}
use Rattle.undo_journal.specs.Memory.{Memory, commit_writes, IsIdle, IsOpen}
use Rattle.undo_journal.specs.laws.Endings.{ends, ends_counted, ends_done, ends_within}
use Rattle.undo_journal.specs.laws.Transactions.{stays}
use Rattle.migration.specs.declared.migrating.TheConstants.{RENAME_WRITES}
use Rattle.migration.specs.MigratingParts.{IsRenamed}
use Rattle.migration.proofs.migrating.become_new.Goals as goal

pub returns-clause-any_exit : goal.returns-clause-any_exit
returns-clause-any_exit g c =
    let set = c.rename-work.ensures in
    let last = c.store-1.given.1 (sym (set.store.sets.same_store ∙ c.begin-txn.ensures.same_store)) in
    ends (λ m after. IsRenamed c.args.end m after) _ c.rename-work.result _ _ (memory_of c.rename-work.new.txn) _ _
    c.begin-txn.ensures.same last c.requires.ready set.store.sets.kept set.done c.end.ensures.any_exit

pub returns-clause-done : goal.returns-clause-done
returns-clause-done g c =
    let set = c.rename-work.ensures in
    let last = c.store-1.given.1 (sym (set.store.sets.same_store ∙ c.begin-txn.ensures.same_store)) in
    ends_done (λ m after. IsRenamed c.args.end m after) c.rename-work.result
    c.end.result _ _ (memory_of c.rename-work.new.txn) _ _ c.begin-txn.ensures.same last c.requires.ready set.done
    c.end.ensures.answered c.end.ensures.done

pub returns-clause-counted : goal.returns-clause-counted
returns-clause-counted g c =
    let set = c.rename-work.ensures in
    let last = c.store-1.given.1 (sym (set.store.sets.same_store ∙ c.begin-txn.ensures.same_store)) in
    ends_counted RENAME_WRITES c.rename-work.result c.end.result _ _ (memory_of c.rename-work.new.txn) _ _
    c.begin-txn.ensures.same last c.requires.ready set.counted c.end.ensures.answered c.end.ensures.counted

pub returns-clause-store : goal.returns-clause-store
returns-clause-store g c =
    let set = c.rename-work.ensures in
    let last = c.store-1.given.1 (sym (set.store.sets.same_store ∙ c.begin-txn.ensures.same_store)) in
    let begun = memory_of c.begin-txn.result in
    let worked = memory_of c.rename-work.new.txn in
    let idle : IsIdle begun = subst (λ (m : Memory). IsIdle m) (sym c.begin-txn.ensures.same) c.requires.ready.idle in
    let costs : OnOk c.rename-work.result
    (worked.facts.writes + commit_writes worked ≤ begun.facts.writes + RENAME_WRITES) =
    on_ok_weaker c.rename-work.result (λ counts. let all = counts idle in omega (arith, all)) set.counted in
    ends_within 11 RENAME_WRITES c.rename-work.result c.end.result _ _ worked _ _ costs (set.spends idle)
    c.begin-txn.ensures.same last set.store.sets.reports set.store.sets.writes set.store.tells c.end.ensures.store
    c.end.ensures.answered

-- what is counted where the work is done
counts_done : {T E P : Type 0} (work : Result T E) → OnOk work P → IsOk work → P
counts_done (Ok v) p ok = p
counts_done (Err e) p ok = absurd (true≢false (sym ok))

pub returns-clause-last : goal.returns-clause-last
returns-clause-last g c =
    let set = c.rename-work.ensures in
    let last = c.store-1.given.1 (sym (set.store.sets.same_store ∙ c.begin-txn.ensures.same_store)) in
    let begun = memory_of c.begin-txn.result in
    let worked = memory_of c.rename-work.new.txn in
    let idle : IsIdle begun = subst (λ (m : Memory). IsIdle m) (sym c.begin-txn.ensures.same) c.requires.ready.idle in
    let first = ap (λ (m : Memory). m.facts.writes) c.begin-txn.ensures.same in
    let ended = ap (λ (m : Memory). m.facts.writes) last in
    ⊎_elim
    (λ still. inl (stays _ _ worked _ _ c.begin-txn.ensures.same last set.store.sets.kept still))
    (λ turned. ⊎_elim
    (λ still. inl (stays _ _ worked _ _ c.begin-txn.ensures.same last set.store.sets.kept still))
    (λ most. inr (
    let all = counts_done c.rename-work.result set.counted turned.0 idle in
    omega (arith, all, most, first, ended)))
    c.end.ensures.last)
    c.end.ensures.any_exit

pub rename-work-requires : goal.rename-work-requires
rename-work-requires g c = record {
  ready = subst (λ (m : Memory). IsOpen m) (sym c.begin-txn.ensures.same) c.requires.ready.usable;
  enough = omega (arith, c.begin-txn.ensures.room);
}
