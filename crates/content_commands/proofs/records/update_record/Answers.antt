use Rattle.std.proofs.Common.{[], Ok, refl, sym, ◌∙◌, ap, subst, if◌then◌else◌, Some, Option, ℕ}
use Rattle.card_model.specs.declared.status.TheConstants.Sw.{DONE}
use Rattle.undo_journal.specs.Memory.{committed}
use Rattle.card_model.specs.Requests.{update_record}
use Rattle.command_base.specs.declared.current.Current.{Current}
use Rattle.command_base.specs.declared.target_file.Need.{Need}
use Rattle.command_base.specs.declared.stop.Stop.TheVariants.{Refused}
use Rattle.card_model.specs.RecordCommands.{pointer_after}
use Rattle.command_base.specs.Served.{Executes}
use Rattle.command_base.specs.Working.{card_in, session_in}
use Rattle.card_model.specs.laws.Guarding.{served-refused}
use Rattle.command_base.specs.laws.Halting.{halted-in-place}
use Rattle.content_commands.proofs.UpdateServes.{replaced-body, replaced-done, replaced-few, replaced-long}
use Rattle.content_commands.proofs.UpdateServes.{replaced-space}
use Rattle.content_commands.proofs.UpdateServes.{is-replaceable, replaced-torn}
use Rattle.content_commands.proofs.RecordWrites.{need-replaces, replaces-records, update-decided, update-refused}
use Rattle.command_base.specs.laws.Stopping.{none-failed, reply-failed}
use Rattle.content_commands.proofs.records.update_record.Goals as goal

pub returns-in_err-replace : goal.returns-in_err-replace
returns-in_err-replace g c = record {
  serves = let found = is-replaceable c.args.choice c.args.bytes.now c.in_ok-slot.slot c.replacing.ensures
      c.in_ok-file.ensures.told c.pointer_at-pointer.ensures c.in_ok-slot.ensures.found c.in_ok-slot.ensures.refusal in
      replaced-torn c.args.store.now c.find_records.new.store c.replace.new.store c.requires.target.kept.ready
      c.requires.target.kept.card
      c.args.current.now c.requires.target.kept.current c.find_records.ensures.store.only _ _ _ _ _ found
      c.replace.ensures.any_exit c.replace.ensures.by_gate c.replace.ensures.turned _ c.in_err-replace.ensures.store _ _
      (reply-failed _ _ c.from_residual-in_err-replace.ensures.1) refl;
  space = none-failed _ _ _ c.from_residual-in_err-replace.ensures.1;
}

pub pointer_replaced-after-requires : goal.pointer_replaced-after-requires
pointer_replaced-after-requires g c =
    let found = is-replaceable c.args.choice c.args.bytes.now c.in_ok-slot.slot c.replacing.ensures
    c.in_ok-file.ensures.told c.pointer_at-pointer.ensures c.in_ok-slot.ensures.found c.in_ok-slot.ensures.refusal in
    replaced-few c.args.store.now c.find_records.new.store c.find_records.new.store c.requires.target.kept.ready
    c.requires.target.kept.card c.args.current.now c.requires.target.kept.current c.find_records.ensures.store.only _ _
    _ _ _ found

pub returns : goal.returns
returns g c = record {
  serves = let old = c.args.store.now in
      let x = c.args.current.now in
      let file = c.in_ok-file.file in
      let slot = c.in_ok-slot.slot in
      let choice = c.args.choice in
      let found = is-replaceable c.args.choice c.args.bytes.now c.in_ok-slot.slot c.replacing.ensures
      c.in_ok-file.ensures.told c.pointer_at-pointer.ensures c.in_ok-slot.ensures.found c.in_ok-slot.ensures.refusal in
      subst (λ (y : Current). Executes (update_record c.args.target choice c.args.bytes.now) old x c.replace.new.store
      y []
      (Ok DONE)) (sym c.pointing.ensures)
      (replaced-done old c.find_records.new.store c.replace.new.store c.requires.target.kept.ready
      c.requires.target.kept.card x
      c.requires.target.kept.current c.find_records.ensures.store.only c.args.target choice c.args.bytes.now file slot
      found
      c.replace.ensures.any_exit c.replace.ensures.by_gate c.replace.ensures.turned _ c.in_ok-replace.ensures.store
      c.in_ok-replace.ensures.done
      c.in_ok-replace.ensures.store.ready c.pointer_replaced-after.result (c.pointer_replaced-after.ensures
      ∙ ap (λ (p : Option ℕ). if file.wraps then Some 1 else pointer_after p choice slot.number)
      c.pointer_at-pointer.ensures));
  space = let found = is-replaceable c.args.choice c.args.bytes.now c.in_ok-slot.slot c.replacing.ensures
      c.in_ok-file.ensures.told c.pointer_at-pointer.ensures c.in_ok-slot.ensures.found c.in_ok-slot.ensures.refusal in
      replaced-space c.args.store.now c.find_records.new.store c.replace.new.store c.requires.target.kept.ready
      c.requires.target.kept.card
      c.args.current.now c.requires.target.kept.current c.find_records.ensures.store.only _ _ _ _ _ found
      c.replace.ensures.any_exit c.replace.ensures.by_gate c.replace.ensures.turned _ c.in_ok-replace.ensures.store
      c.in_ok-replace.ensures.done;
}

pub find_records-requires-clause-records : goal.find_records-requires-clause-records
find_records-requires-clause-records g c = λ is. replaces-records c.args.choice
    (ap (λ (need : Need). need.structure) (sym c.replacing.ensures) ∙ is)

pub returns-in_err-file : goal.returns-in_err-file
returns-in_err-file g c =
    let old = c.args.store.now in
    let x = c.args.current.now in
    let request = update_record c.args.target c.args.choice c.args.bytes.now in
    halted-in-place request old x c.find_records.new.store (λ _. tt) c.requires.target.kept.card
    c.requires.target.kept.current []
    refl _ _ c.from_residual.ensures.1 c.in_err-file.ensures.store _
    (λ status refused. served-refused (card_in old) (session_in old x) request status
    (update-refused (card_in old) (session_in old x) c.args.target status c.args.choice c.args.bytes.now
    (sym (need-replaces (card_in old) (session_in old x) c.args.target c.args.choice c.replacing.result
    c.replacing.ensures) ∙ refused))) c.in_err-file.ensures.told

pub returns-in_err-slot : goal.returns-in_err-slot
returns-in_err-slot g c =
    let old = c.args.store.now in
    let x = c.args.current.now in
    let request = update_record c.args.target c.args.choice c.args.bytes.now in
    let found = c.in_ok-file.ensures.told in
    halted-in-place request old x c.find_records.new.store (λ _. tt) c.requires.target.kept.card
    c.requires.target.kept.current []
    refl _ (Refused c.in_err-slot.field-0.0) c.from_residual-in_err-slot.ensures.1 c.in_ok-file.ensures.store _
    (λ status. served-refused (card_in old) (session_in old x) request status)
    (update-decided (committed old) c.requires.target.kept.ready.usable.committed_size c.requires.target.kept.card x
    c.args.target _
    c.in_ok-file.file found c.args.bytes.now c.args.choice
    (sym (need-replaces (card_in old) (session_in old x) c.args.target c.args.choice c.replacing.result
    c.replacing.ensures) ∙ found.named.unrefused) _ c.pointer_at-pointer.ensures ∙ sym c.in_err-slot.ensures.refusal)

pub replace-requires : goal.replace-requires
replace-requires g c = record {
  body = record {
    ready = c.in_ok-file.ensures.store.ready;
    body = let found = is-replaceable c.args.choice c.args.bytes.now c.in_ok-slot.slot c.replacing.ensures
        c.in_ok-file.ensures.told c.pointer_at-pointer.ensures c.in_ok-slot.ensures.found c.in_ok-slot.ensures.refusal
        in
        replaced-body c.args.store.now c.find_records.new.store c.find_records.new.store c.requires.target.kept.ready
        c.requires.target.kept.card c.args.current.now c.requires.target.kept.current c.find_records.ensures.store.only
        _ _ _ _ _
        found;
    size = let found = is-replaceable c.args.choice c.args.bytes.now c.in_ok-slot.slot c.replacing.ensures
        c.in_ok-file.ensures.told c.pointer_at-pointer.ensures c.in_ok-slot.ensures.found c.in_ok-slot.ensures.refusal
        in
        replaced-long c.args.store.now c.find_records.new.store c.find_records.new.store c.requires.target.kept.ready
        c.requires.target.kept.card
        c.args.current.now c.requires.target.kept.current c.find_records.ensures.store.only _ _ _ _ _ found;
  };
}
