use Rattle.std.proofs.Common.{◌≤◌, lit<, ℕ, List, Err, Ok, Some, refl, sym, ◌∙◌, ap, subst, arith}
use Rattle.card_model.specs.declared.status.TheConstants.Sw.{DONE, WRONG_LENGTH}
use Rattle.undo_journal.specs.Memory.{committed}
use Rattle.undo_journal.specs.laws.Told.{reads_on}
use Rattle.card_model.specs.Requests.{increase}
use Rattle.card_model.specs.declared.requests.Target.TheVariants as target
use Rattle.ef_body.specs.Bodies.{cyclic_body_records, IsCyclic}
use Rattle.ef_contents.specs.Refusals.{unraised}
use Rattle.command_base.specs.declared.current.Current.{Current}
use Rattle.command_base.specs.declared.stop.Stop.TheVariants.{Refused}
use Rattle.command_base.specs.Served.{Executes}
use Rattle.command_base.specs.Stops.{stop_of_body}
use Rattle.command_base.specs.Working.{card_in, session_in}
use Rattle.command_base.specs.laws.Stopping.{body-decided, body-reads, none-failed, refused-weaker, reply-failed}
use Rattle.content_commands.proofs.IncreaseServes.{increase-halted, increased-body, increased-done, increased-less}
use Rattle.content_commands.proofs.IncreaseServes.{increased-long, increased-short, increased-space, increased-torn}
use Rattle.content_commands.proofs.IncreaseServes.{is-raised}
use Rattle.content_commands.proofs.RecordSums.{increase-barred, increase-long, increase-unraised, short-sent}
use Rattle.content_commands.proofs.RecordSteps.{agree}
use Rattle.content_commands.proofs.increasing.increase.Goals as goal

-- a record fits into the data of an answer
fits_answer : (long : ℕ) → long ≤ 255 → long ≤ 256
fits_answer long short = omega (arith, short)

pub returns-in_err-file : goal.returns-in_err-file
returns-in_err-file g c =
    increase-halted c.requires.kept c.args.amount.now c.args.expected _ c.clear.ensures _ _ c.from_residual.ensures.1
    c.in_err-file.ensures.store
    (refused-weaker _ _ _ (λ status.
    increase-barred (card_in c.args.store.now) (session_in c.args.store.now c.args.current.now) status
    c.args.amount.now c.args.expected) c.in_err-file.ensures.told)

pub returns-then-exceeds_limits : goal.returns-then-exceeds_limits
returns-then-exceeds_limits g c =
    let found = c.in_ok-file.ensures.told in
    increase-halted c.requires.kept c.args.amount.now c.args.expected _ c.clear.ensures (Err (Refused WRONG_LENGTH))
    (Refused WRONG_LENGTH) refl c.in_ok-file.ensures.store
    (increase-long (committed c.args.store.now) c.requires.kept.ready.usable.committed_size c.requires.kept.card
    c.args.current.now _ c.in_ok-file.file found c.args.amount.now c.args.expected found.named.unrefused
    (sym c.exceeds_limits.ensures ∙ c.if-exceeds_limits.true))

pub raise-requires : goal.raise-requires
raise-requires g c =
    let ring = c.in_ok-file.file.ring in
    let stands : IsCyclic (committed c.find_records.new.store) ring =
    subst (λ (l : List ℕ). IsCyclic l ring) (sym c.find_records.ensures.store.only.keeps.committed_words)
    (agree (committed c.args.store.now) c.requires.kept.ready.usable.committed_size c.requires.kept.card
    c.args.current.now target.Current _ c.in_ok-file.file c.in_ok-file.ensures.told).stands in
    let room = fits_answer ring.record_length stands.slots.short in (
      lit< tt,
      record {
        body = record { ready = c.in_ok-file.ensures.store.ready; body = stands };
        sent = short-sent _ _ (sym c.exceeds_limits.ensures ∙ c.if-exceeds_limits.false);
        room = room;
      },
    )

pub returns-in_err-slot : goal.returns-in_err-slot
returns-in_err-slot g c =
    let ring = c.in_ok-file.file.ring in
    let sent = c.args.amount.now in
    let found = c.in_ok-file.ensures.told in
    let reads = c.find_records.ensures.store.only in
    let e = c.in_err-slot.field-0.0 in
    increase-halted c.requires.kept sent c.args.expected _ c.clear.ensures _ (stop_of_body e)
    c.from_residual-in_err-slot.ensures.1
    (reads_on _ _ _ _ reads (body-reads _ _ e c.in_err-slot.ensures.store))
    (body-decided _ _ e c.in_err-slot.ensures.sum.refusal (λ status due.
    increase-unraised (committed c.args.store.now) c.requires.kept.ready.usable.committed_size c.requires.kept.card
    c.args.current.now _ c.in_ok-file.file found sent c.args.expected found.named.unrefused
    (sym c.exceeds_limits.ensures ∙ c.if-exceeds_limits.false) status
    (ap (λ (l : List ℕ). unraised ring.record_length (cyclic_body_records l ring) sent)
    (sym reads.keeps.committed_words) ∙ due)))

pub answer_of-response-requires : goal.answer_of-response-requires
answer_of-response-requires g c =
    increased-short c.requires.kept (is-raised c.args.amount.now c.find_records.ensures.store.only
    c.in_ok-file.ensures.told (sym c.exceeds_limits.ensures ∙ c.if-exceeds_limits.false) c.in_ok-slot.ensures.store.only
    c.in_ok-slot.ensures.found c.in_ok-slot.ensures.sum)

pub returns-then-asks_less : goal.returns-then-asks_less
returns-then-asks_less g c =
    let raised = is-raised c.args.amount.now c.find_records.ensures.store.only
    c.in_ok-file.ensures.told (sym c.exceeds_limits.ensures ∙ c.if-exceeds_limits.false) c.in_ok-slot.ensures.store.only
    c.in_ok-slot.ensures.found c.in_ok-slot.ensures.sum in
    increase-halted c.requires.kept c.args.amount.now c.args.expected _ c.clear.ensures
    (Err (Refused c.right_length.result)) (Refused c.right_length.result) refl
    (reads_on _ _ _ _ c.find_records.ensures.store.only c.in_ok-slot.ensures.store)
    (increased-less c.requires.kept raised c.args.expected _ c.answer_of-response.ensures
    (sym c.asks_less.ensures ∙ c.if-asks_less.true) ∙ ap Some (sym c.right_length.ensures))

pub returns-in_err-replace_oldest : goal.returns-in_err-replace_oldest
returns-in_err-replace_oldest g c = record {
  serves = let raised = is-raised c.args.amount.now c.find_records.ensures.store.only
      c.in_ok-file.ensures.told (sym c.exceeds_limits.ensures ∙ c.if-exceeds_limits.false)
      c.in_ok-slot.ensures.store.only
      c.in_ok-slot.ensures.found c.in_ok-slot.ensures.sum in
      increased-torn c.requires.kept raised c.args.expected _ c.answer_of-response.ensures
      (sym c.asks_less.ensures ∙ c.if-asks_less.false) _ c.deref.ensures.0 c.replace_oldest.new.store
      c.replace_oldest.ensures.commits.any_exit c.replace_oldest.ensures.commits.by_gate
      c.replace_oldest.ensures.commits.turned _
      c.in_err-replace_oldest.ensures.commits.store c.clear.new.self.items c.clear.ensures _ _
      (reply-failed _ _ c.from_residual-in_err-replace_oldest.ensures.1) refl;
  space = none-failed _ _ _ c.from_residual-in_err-replace_oldest.ensures.1;
}

pub returns : goal.returns
returns g c =
    let raised = is-raised c.args.amount.now c.find_records.ensures.store.only
    c.in_ok-file.ensures.told (sym c.exceeds_limits.ensures ∙ c.if-exceeds_limits.false) c.in_ok-slot.ensures.store.only
    c.in_ok-slot.ensures.found c.in_ok-slot.ensures.sum in
    let enough = sym c.asks_less.ensures ∙ c.if-asks_less.false in record {
      serves = subst (λ (y : Current). Executes (increase c.args.amount.now c.args.expected) c.args.store.now
          c.args.current.now c.replace_oldest.new.store y c.give.new.answer.items (Ok DONE)) (sym c.pointing.ensures)
          (increased-done c.requires.kept raised c.args.expected _ c.answer_of-response.ensures enough _
          c.deref.ensures.0 c.replace_oldest.new.store c.replace_oldest.ensures.commits.any_exit
          c.replace_oldest.ensures.commits.by_gate c.replace_oldest.ensures.commits.turned _
          c.in_ok-replace_oldest.ensures.commits.store
          c.in_ok-replace_oldest.ensures.commits.done c.in_ok-replace_oldest.ensures.commits.store.ready
          c.give.new.answer.items c.give.ensures.given c.give.ensures.room);
      space = increased-space c.requires.kept raised c.args.expected _ c.answer_of-response.ensures enough _
          c.deref.ensures.0 c.replace_oldest.new.store c.replace_oldest.ensures.commits.any_exit
          c.replace_oldest.ensures.commits.by_gate c.replace_oldest.ensures.commits.turned _
          c.in_ok-replace_oldest.ensures.commits.store
          c.in_ok-replace_oldest.ensures.commits.done;
    }

pub replace_oldest-requires : goal.replace_oldest-requires
replace_oldest-requires g c = record {
  body = record {
    ready = c.in_ok-slot.ensures.store.ready;
    body = increased-body c.requires.kept (is-raised c.args.amount.now c.find_records.ensures.store.only
        c.in_ok-file.ensures.told (sym c.exceeds_limits.ensures ∙ c.if-exceeds_limits.false)
        c.in_ok-slot.ensures.store.only
        c.in_ok-slot.ensures.found c.in_ok-slot.ensures.sum);
    size = increased-long c.requires.kept (is-raised c.args.amount.now c.find_records.ensures.store.only
        c.in_ok-file.ensures.told (sym c.exceeds_limits.ensures ∙ c.if-exceeds_limits.false)
        c.in_ok-slot.ensures.store.only
        c.in_ok-slot.ensures.found c.in_ok-slot.ensures.sum) _ c.deref.ensures.0;
  };
}

pub find_records-requires-clause-target : goal.find_records-requires-clause-target
find_records-requires-clause-target g c = record {
  kept = c.requires.kept;
  range = tt;
}
