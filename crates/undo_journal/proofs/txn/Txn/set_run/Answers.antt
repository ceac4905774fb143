use Rattle.std.proofs.Common.{◌<◌, ◌+◌, ℕ, List, length, get_or, slice_set, inl, inr, refl, ap, ◌∙◌, arith}
use Rattle.undo_journal.specs.declared.batch.TheConstants.{BATCH}
use Rattle.undo_journal.specs.declared.batch.Waiting.{Waiting}
use Rattle.undo_journal.specs.Batches.{with_set}
use Rattle.undo_journal.specs.Lent.{memory_of}
use Rattle.std.specs.Prelude.{◌≡◌, take}
use Rattle.std.proofs.lemmas.List.{take_all}
use Rattle.nvm_board.specs.History.{written}
use Rattle.std.proofs.Math.Logic.{⊎_map}
use Rattle.undo_journal.specs.Memory.{current}
use Rattle.nvm_board.specs.laws.Torn.{length-written, written-more}
use Rattle.undo_journal.specs.laws.Calls.{reads_runs, reads_same, reads_sets, sets_then, sets_weaker}
use Rattle.undo_journal.specs.laws.Told.{sets_in_on, sets_in_handed}
use Rattle.undo_journal.proofs.SetRuns.{fills-none, joined_run-more, none_yet, pages_all, pages_more, pages_next}
use Rattle.undo_journal.specs.laws.Exits.{none_ok}
use Rattle.undo_journal.proofs.txn.Txn.set_run.Goals as goal

pub set-requires-clause-place : goal.set-requires-clause-place
set-requires-clause-place g c =
    let first = current (memory_of c.args.self.now) in
    let size : length (current (memory_of c.loop-i.self)) ≡ length first =
    ap (λ (l : List ℕ). length l) c.loop-i.invariant.done
    ∙ length-written first (take c.loop-i.i c.args.words.now) c.args.at in
    let place = c.requires.place in
    (⊎_map (λ h. omega (arith, h)) (λ h. omega (arith, h)) place.0, omega (arith, size, place.1))

pub returns-in_err-check-clause-store : goal.returns-in_err-check-clause-store
returns-in_err-check-clause-store g c =
    sets_in_handed _ _ _ _ _ c.from_residual.ensures.1 (record {
      sets = reads_sets _ _ _ (record { same_store = refl; reads = reads_same _ });
      ready = tt;
      tells = c.in_err-check.ensures.tells;
    })

pub loop-i-init : goal.loop-i-init
loop-i-init g c = record {
  usable = c.in_ok-check.ensures.ready;
  done = refl;
  sets = reads_sets _ _ _ (record { same_store = refl; reads = reads_same _ });
  runs = none_yet refl (reads_runs 0 _ _ (reads_same _));
  waits = λ few. record { few = omega (arith, few); waiting = refl; used = refl; facts = refl };
}

pub returns-in_err-check-clause-runs : goal.returns-in_err-check-clause-runs
returns-in_err-check-clause-runs g c = reads_runs _ _ _ (reads_same _)

pub returns-in_err-set-clause-runs : goal.returns-in_err-set-clause-runs
returns-in_err-set-clause-runs g c =
    let set = c.in_err-set.ensures in
    pages_more _ _ _ _ c.loop-i.invariant.runs _ set.store.sets.writes set.goes_on _ (omega arith)

pub returns-clause-runs : goal.returns-clause-runs
returns-clause-runs g c = pages_all _ _ _ _ c.loop-i.invariant.runs _ (omega arith)

pub returns-clause-store : goal.returns-clause-store
returns-clause-store g c =
    let so_far = c.loop-i.invariant in
    record {
      sets = sets_weaker c.loop-i.i _ _ _ (omega arith) so_far.sets;
      ready = so_far.usable;
      tells = so_far.usable.works;
    }

pub returns-in_err-set-clause-store : goal.returns-in_err-set-clause-store
returns-in_err-set-clause-store g c =
    sets_in_handed _ _ _ _ _ c.from_residual-in_err-set.ensures.1
    (sets_in_on c.loop-i.i 1 _ _ _ _ _ (omega arith) c.loop-i.invariant.sets c.in_err-set.ensures.store)

pub loop-i-preserved : goal.loop-i-preserved
loop-i-preserved g c =
    let so_far = c.loop-i.invariant in
    let lt : c.loop-i.i < length c.args.words.now = omega arith in
    let put : List ℕ → List ℕ = λ l. slice_set l (c.args.at + c.loop-i.i) (get_or c.args.words.now c.loop-i.i 0) in
    record {
      usable = c.in_ok-set.ensures.store.ready;
      done = c.in_ok-set.ensures.done ∙ ap put so_far.done ∙ written-more _ _ _ _ lt;
      sets = sets_then c.loop-i.i 1 _ _ _ _ (omega arith) so_far.sets c.in_ok-set.ensures.store.sets;
      runs = pages_next _ _ _ _ so_far.runs _ c.in_ok-set.ensures.store.sets.writes c.in_ok-set.ensures.goes_on
          c.in_ok-set.ensures.next;
      waits = λ few.
          let old = (memory_of c.args.self.now).waiting in
          let so = so_far.waits (let less : length old + c.loop-i.i < BATCH = omega (arith, few) in less) in
          let set : Waiting = record { at = c.args.at + c.loop-i.i; word = get_or c.args.words.now c.loop-i.i 0 } in
          let more = joined_run-more c.args.words.now c.args.at c.loop-i.i old lt in
          let sets = ap (λ (l : List Waiting). with_set set l) so.waiting ∙ more in
          let size = ap (λ (l : List Waiting). length l) sets in
          elim c.in_ok-set.ensures.joins [
            | inl waits ↦ record {
              few = omega (arith, waits.few, size);
              waiting = waits.waiting ∙ sets;
              used = waits.used ∙ so.used;
              facts = waits.facts ∙ so.facts;
            }
            | inr fills ↦
                absurd (fills-none set c.args.words.now c.args.at c.loop-i.i old _ so.waiting lt fills.full few)
          ];
    }

pub returns-in_err-check-clause-done : goal.returns-in_err-check-clause-done
returns-in_err-check-clause-done g c = none_ok _ _ _ c.from_residual.ensures.1

pub returns-in_err-set-clause-done : goal.returns-in_err-set-clause-done
returns-in_err-set-clause-done g c = none_ok _ _ _ c.from_residual-in_err-set.ensures.1

pub returns-in_err-check-clause-waits : goal.returns-in_err-check-clause-waits
returns-in_err-check-clause-waits g c = none_ok _ _ _ c.from_residual.ensures.1

pub returns-in_err-set-clause-waits : goal.returns-in_err-set-clause-waits
returns-in_err-set-clause-waits g c = none_ok _ _ _ c.from_residual-in_err-set.ensures.1

pub set-requires-clause-room : goal.set-requires-clause-room
set-requires-clause-room g c = omega (arith, c.loop-i.invariant.sets.room, c.requires.room)

pub returns-clause-done : goal.returns-clause-done
returns-clause-done g c =
    let words = c.args.words.now in
    let first = current (memory_of c.args.self.now) in
    c.loop-i.invariant.done ∙ ap (λ (l : List ℕ). written first c.args.at l) (take_all c.loop-i.i words (omega arith))
