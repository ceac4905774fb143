use Rattle.std.proofs.Common.{◌≡◌, ℕ, take}
use Rattle.std.specs.List.{filter}
use Rattle.undo_journal.specs.Memory.{committed, IsReady}
use Rattle.undo_journal.specs.StoreCalls.{OnlyReads}
use Rattle.card_model.specs.RecordLists.{record_of, stands_in, numbers_on}
use Rattle.ef_body.specs.Bodies.{cyclic_body_records}
use Rattle.ef_body.specs.ReadParts.{IsBlockOf}
use Rattle.ef_body.proofs.slot.RecordSlot.search.Given as goal

abbrev pub invariant-loop-step : goal.invariant-loop-step
invariant-loop-step g l = record {
  ready : IsReady l.store;
  reads : OnlyReads l.fn.store l.store;
  block : IsBlockOf (committed l.fn.store) l.self.ring.chain l.block;
  so_far : l.numbers.items
      ≡ filter (λ (number : ℕ). stands_in l.text (record_of (cyclic_body_records
      (committed l.fn.store) l.self.ring) number))
      (take l.step (numbers_on l.direction l.self.number l.self.ring.records));
}
