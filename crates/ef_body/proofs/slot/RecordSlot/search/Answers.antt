use Rattle.std.proofs.Common.{rules, ◌≡◌, ◌≤◌, ◌<◌, ◌++◌, ◌∷◌, [], cond, Bool, List, ℕ, ap, ap₂, ◌∙◌, sym, subst}
use Rattle.std.proofs.Common.{length, take, slice_index}
use Rattle.std.proofs.lemmas.List.{length-take-le, take_all}
use Rattle.std.specs.List.{filter}
use Rattle.undo_journal.specs.Memory.{committed}
use Rattle.undo_journal.specs.laws.Calls.{reads_same, reads_then}
use Rattle.undo_journal.specs.laws.Told.{reads_on, reads_handed, reads_so_far}
use Rattle.card_model.specs.RecordLists.{record_of, stands_in, numbers_on}
use Rattle.ef_body.specs.Bodies.{cyclic_body_records, IsCyclic}
use Rattle.ef_body.specs.ReadParts.{IsBlockOf}
use Rattle.ef_body.specs.laws.Rings.{length-cyclic}
use Rattle.ef_body.proofs.Resting.{first_is, has_blocks}
use Rattle.ef_body.proofs.Finding.{byte_number, found_some, filter-next, room_more, step_within}
use Rattle.card_model.specs.laws.Finding.{steps_few, filter-few}
use Rattle.ef_body.proofs.slot.RecordSlot.search.Goals as goal

pub loop-step-init : goal.loop-step-init
loop-step-init g c = record {
  ready = c.requires.body.ready;
  reads = reads_same _;
  block = first_is (committed c.args.store.now) c.args.self.ring.chain c.requires.body.body.slots.chain.leads
      c.first_of-block.result c.first_of-block.ensures.number c.first_of-block.ensures.page
      (has_blocks (committed c.args.store.now) c.args.self.ring c.requires.body.body);
  so_far = c.clear.ensures;
}

pub record_holds-requires-clause-block : goal.record_holds-requires-clause-block
record_holds-requires-clause-block g c =
    subst (λ (m : List ℕ). IsBlockOf m c.args.self.ring.chain c.loop-step.block)
    (sym c.loop-step.invariant.reads.keeps.committed_words) c.loop-step.invariant.block

pub note-requires : goal.note-requires
note-requires g c =
    let m = committed c.args.store.now in
    let body = c.args.self.ring in
    let numbers = numbers_on c.args.direction c.args.self.number body.records in
    let test : ℕ → Bool = λ n. stands_in c.args.text.now (record_of (cyclic_body_records m body) n) in
    let lt = subst (λ (n : ℕ). c.loop-step.step < n) c.steps_of-steps.ensures c.loop-step-test.true in
    let most = steps_few c.args.direction c.args.self.number body.records c.args.self.from_first c.args.self.to_last in
    let so_far : length c.loop-step.numbers.items ≡ length (filter test (take c.loop-step.step numbers)) =
    ap (λ (l : List ℕ). length l) c.loop-step.invariant.so_far in (
      search rules,
      (
        room_more _ _ c.loop-step.step (length numbers) body.records _ (take c.loop-step.step numbers) so_far
            (filter-few test (take c.loop-step.step numbers))
            (length-take-le c.loop-step.step numbers (step_within _ _ lt)) lt most c.requires.room,
        byte_number _ body.records body.capacity c.number_at-number.ensures.most c.requires.body.body.number
            c.requires.body.body.slots.few,
      ),
    )

pub loop-step-preserved : goal.loop-step-preserved
loop-step-preserved g c =
    let m = committed c.args.store.now in
    let body = c.args.self.ring in
    let numbers = numbers_on c.args.direction c.args.self.number body.records in
    let test : ℕ → Bool = λ n. stands_in c.args.text.now (record_of (cyclic_body_records m body) n) in
    let lt = subst (λ (n : ℕ). c.loop-step.step < n) c.steps_of-steps.ensures c.loop-step-test.true in
    let number = c.number_at-number.ensures.number in
    let holds : c.in_ok-holds.holds ≡ test (slice_index numbers c.loop-step.step) =
    c.in_ok-holds.ensures.holds.told
    ∙ ap (λ (l : List ℕ). stands_in c.args.text.now (record_of (cyclic_body_records l body) c.number_at-number.result))
    c.loop-step.invariant.reads.keeps.committed_words ∙ ap test number in
    let here : cond c.in_ok-holds.holds (c.number_at-number.result ∷ []) []
    ≡ cond (test (slice_index numbers c.loop-step.step)) (slice_index numbers c.loop-step.step ∷ []) [] =
    ap₂ (λ (b : Bool) (n : ℕ). cond b (n ∷ []) []) holds number in
    record {
      ready = c.in_ok-holds.ensures.holds.store.ready;
      reads = reads_then _ _ _ c.loop-step.invariant.reads c.record_holds.ensures.holds.store.only;
      block = subst (λ (l : List ℕ). IsBlockOf l body.chain c.record_holds.new.block)
          c.loop-step.invariant.reads.keeps.committed_words c.in_ok-holds.ensures.block;
      so_far = c.note.ensures ∙ ap₂ (λ (front back : List ℕ). front ++ back) c.loop-step.invariant.so_far here
          ∙ sym (filter-next test numbers c.loop-step.step lt);
    }

pub returns-in_err-holds : goal.returns-in_err-holds
returns-in_err-holds g c = record {
  bytes = search rules;
  any_exit = found_some c.args.direction c.args.self.number c.args.self.ring.records c.loop-step.step c.args.text.now
      (cyclic_body_records (committed c.args.store.now) c.args.self.ring) _ (length-cyclic (committed c.args.store.now)
      c.args.self.ring c.requires.body.body) c.loop-step.invariant.so_far;
  store = reads_handed _ _ _ _ c.from_residual.ensures.1
      (reads_on _ _ _ _ c.loop-step.invariant.reads c.in_err-holds.ensures.holds.store);
}

pub returns : goal.returns
returns g c =
    let m = committed c.args.store.now in
    let body = c.args.self.ring in
    let numbers = numbers_on c.args.direction c.args.self.number body.records in
    let test : ℕ → Bool = λ n. stands_in c.args.text.now (record_of (cyclic_body_records m body) n) in
    let all = subst (λ (n : ℕ). n ≤ c.loop-step.step) c.steps_of-steps.ensures c.loop-step-test.false in
    let many = length-cyclic m body c.requires.body.body in
    record {
      bytes = c.loop-step.invariant.so_far ∙ ap (filter test) (take_all c.loop-step.step numbers all)
          ∙ ap (λ (n : ℕ). filter test (numbers_on c.args.direction c.args.self.number n)) (sym many);
      any_exit = found_some c.args.direction c.args.self.number body.records c.loop-step.step c.args.text.now
          (cyclic_body_records m body) _ many c.loop-step.invariant.so_far;
      store = reads_so_far _ _ c.loop-step.invariant.reads c.loop-step.invariant.ready;
    }

pub record_holds-requires-clause-body : goal.record_holds-requires-clause-body
record_holds-requires-clause-body g c = record {
  ready = c.loop-step.invariant.ready;
  body = subst (λ (m : List ℕ). IsCyclic m c.args.self.ring) (sym c.loop-step.invariant.reads.keeps.committed_words)
      c.requires.body.body;
}
