use Rattle.std.proofs.Common.{rules, ◌∙◌, [], List, ℕ, arith, ap, length, inl, inr, subst, sym}
use Rattle.undo_journal.specs.Memory.{committed}
use Rattle.undo_journal.specs.StoreCalls.{Reads}
use Rattle.undo_journal.specs.laws.Told.{told_is}
use Rattle.block_chain.specs.ChainChanges.{AppendsSome}
use Rattle.ef_body.specs.Bodies.{cyclic_body_records}
use Rattle.ef_body.specs.laws.Rings.{length-cyclic, received_last, received_record}
use Rattle.ef_body.proofs.Becoming.{length-record}
use Rattle.ef_contents.specs.laws.Refusing.{refused_undecided, store_ok, store_told}
use Rattle.ef_body.proofs.Increasing.{failed_sum, unraised_unfound, too_high, not_too_high, is_sum}
use Rattle.ef_body.proofs.cyclic.Cyclic.raise.Goals as goal

pub returns-in_err-newest-clause-sum : goal.returns-in_err-newest-clause-sum
returns-in_err-newest-clause-sum g c =
    let m = committed c.args.store.now in
    let rs = cyclic_body_records m c.args.self in
    record {
      bytes = search rules;
      emptied = search rules;
      buffer = inl (record { some = 0; is = c.clear.ensures });
      refusal = refused_undecided _ _ c.from_residual.ensures.1 _
          (unraised_unfound c.args.self.record_length rs c.args.sent.now _
          (c.in_err-newest.ensures.refusal rs (length-cyclic m c.args.self c.requires.body.body)));
    }

pub returns-in_err-from_store-clause-sum : goal.returns-in_err-from_store-clause-sum
returns-in_err-from_store-clause-sum g c =
    let m = committed c.args.store.now in
    let at = c.in_ok-newest.ensures.found in
    failed_sum _ _ c.from_residual-in_err-from_store.ensures.1 _ c.in_err-from_store.ensures c.args.self.record_length
    (cyclic_body_records m c.args.self) c.args.sent.now _
    (subst (λ (l : List ℕ). AppendsSome [] l c.read.new.bytes.items)
    (received_record c.args.self 1 c.in_ok-newest.newest at m) c.read.ensures.any_exit)

pub returns-in_err-from_store-clause-store : goal.returns-in_err-from_store-clause-store
returns-in_err-from_store-clause-store g c =
    store_told c.read.result _
    (sym (told_is _ _ c.from_residual-in_err-from_store.ensures.1) ∙ c.in_err-from_store.ensures)
    (Reads c.args.store.now c.read.new.store) c.read.ensures.store

pub add_number-requires : goal.add_number-requires
add_number-requires g c =
    let m = committed c.args.store.now in
    let at = c.in_ok-newest.ensures.found in
    let some = received_last c.args.self 1 c.in_ok-newest.newest at in
    let read = store_ok c.read.result c.in_ok-from_store.ensures _ c.read.ensures.bytes
    ∙ received_record c.args.self 1 c.in_ok-newest.newest at m in
    let long = ap (λ (l : List ℕ). length l) read
    ∙ length-record m c.args.self 1 c.requires.body.ready.usable.committed_size c.requires.body.body (omega arith) some
    in
    (search rules, omega (arith, long, c.requires.sent))

pub returns-then-add_number-clause-sum : goal.returns-then-add_number-clause-sum
returns-then-add_number-clause-sum g c =
    let m = committed c.args.store.now in
    let rs = cyclic_body_records m c.args.self in
    let at = c.in_ok-newest.ensures.found in
    let some = received_last c.args.self 1 c.in_ok-newest.newest at in
    let many = length-cyclic m c.args.self c.requires.body.body in
    let read = store_ok c.read.result c.in_ok-from_store.ensures _ c.read.ensures.bytes
    ∙ received_record c.args.self 1 c.in_ok-newest.newest at m in
    let long = ap (λ (l : List ℕ). length l) read
    ∙ length-record m c.args.self 1 c.requires.body.ready.usable.committed_size c.requires.body.body (omega arith) some
    in
    record {
      bytes = tt;
      emptied = c.clear-then-add_number.ensures;
      buffer = inl (record { some = 0; is = c.clear-then-add_number.ensures });
      refusal = too_high c.args.self.record_length rs c.args.sent.now c.read.new.bytes.items
          c.add_number.new.number.items
          c.add_number.result
          (omega (arith, many, some)) read long c.add_number.ensures.size c.add_number.ensures.digits
          c.add_number.ensures.sum
          c.if-add_number.true;
    }

pub returns-clause-sum : goal.returns-clause-sum
returns-clause-sum g c =
    let m = committed c.args.store.now in
    let rs = cyclic_body_records m c.args.self in
    let at = c.in_ok-newest.ensures.found in
    let some = received_last c.args.self 1 c.in_ok-newest.newest at in
    let many = length-cyclic m c.args.self c.requires.body.body in
    let read = store_ok c.read.result c.in_ok-from_store.ensures _ c.read.ensures.bytes
    ∙ received_record c.args.self 1 c.in_ok-newest.newest at m in
    let long = ap (λ (l : List ℕ). length l) read
    ∙ length-record m c.args.self 1 c.requires.body.ready.usable.committed_size c.requires.body.body (omega arith) some
    in
    let sum = is_sum c.args.self.record_length rs c.args.sent.now c.read.new.bytes.items c.add_number.new.number.items
    c.add_number.result (omega (arith, many, some)) read long c.add_number.ensures.size c.add_number.ensures.digits
    c.add_number.ensures.sum
    c.if-add_number.false in
    record {
      bytes = sum;
      emptied = tt;
      buffer = inr sum;
      refusal = not_too_high c.args.self.record_length rs c.args.sent.now c.read.new.bytes.items
          c.add_number.new.number.items
          c.add_number.result (omega (arith, many, some)) read long c.add_number.ensures.size
          c.add_number.ensures.digits c.add_number.ensures.sum
          c.if-add_number.false;
    }

pub read-requires : goal.read-requires
read-requires g c = (search rules, (record { ready = c.requires.body.ready; body = search rules }, search rules))
