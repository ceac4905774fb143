use Rattle.std.proofs.Common.{[], Ok, refl, sym, ◌∙◌, subst}
use Rattle.card_model.specs.declared.status.TheConstants.Sw.{DONE}
use Rattle.undo_journal.specs.Memory.{committed}
use Rattle.card_model.specs.Requests.{append_record}
use Rattle.command_base.specs.declared.current.Current.{Current}
use Rattle.command_base.specs.declared.stop.Stop.TheVariants.{Refused}
use Rattle.command_base.specs.Served.{Executes}
use Rattle.command_base.specs.Working.{card_in, session_in}
use Rattle.card_model.specs.laws.Guarding.{served-refused}
use Rattle.command_base.specs.laws.Halting.{halted-in-place}
use Rattle.content_commands.proofs.AppendServes.{appended-body, appended-done, appended-few, appended-long}
use Rattle.content_commands.proofs.AppendServes.{appended-space}
use Rattle.content_commands.proofs.AppendServes.{appended-torn, is-appendable}
use Rattle.content_commands.proofs.RecordWrites.{append-decided, append-refused}
use Rattle.command_base.specs.laws.Stopping.{none-failed, reply-failed}
use Rattle.content_commands.proofs.records.append_record.Goals as goal

pub returns-in_err-fill : goal.returns-in_err-fill
returns-in_err-fill g c = record {
  serves = let found = is-appendable c.args.bytes.now c.in_ok-room.room c.in_ok-file.ensures.told
      c.in_ok-room.ensures.ring c.in_ok-room.ensures.wraps c.in_ok-room.ensures.refusal in
      appended-torn c.args.store.now c.find_records.new.store c.fill.new.store c.requires.target.kept.ready
      c.requires.target.kept.card
      c.args.current.now c.requires.target.kept.current c.find_records.ensures.store.only _ _ _ _ found
      c.fill.ensures.any_exit c.fill.ensures.by_gate c.fill.ensures.turned _
      c.in_err-fill.ensures.store _ _ (reply-failed _ _ c.from_residual-in_err-fill.ensures.1) refl;
  space = none-failed _ _ _ c.from_residual-in_err-fill.ensures.1;
}

pub added-requires : goal.added-requires
added-requires g c =
    let found = is-appendable c.args.bytes.now c.in_ok-room.room c.in_ok-file.ensures.told
    c.in_ok-room.ensures.ring c.in_ok-room.ensures.wraps c.in_ok-room.ensures.refusal in
    appended-few c.args.store.now c.find_records.new.store c.find_records.new.store c.requires.target.kept.ready
    c.requires.target.kept.card c.args.current.now c.requires.target.kept.current c.find_records.ensures.store.only _ _
    _ _ found

pub returns : goal.returns
returns g c = record {
  serves = let old = c.args.store.now in
      let x = c.args.current.now in
      let found = is-appendable c.args.bytes.now c.in_ok-room.room c.in_ok-file.ensures.told
      c.in_ok-room.ensures.ring c.in_ok-room.ensures.wraps c.in_ok-room.ensures.refusal in
      subst (λ (y : Current). Executes (append_record c.args.target c.args.bytes.now) old x c.fill.new.store y []
      (Ok DONE)) (sym c.pointing.ensures)
      (appended-done old c.find_records.new.store c.fill.new.store c.requires.target.kept.ready
      c.requires.target.kept.card x
      c.requires.target.kept.current c.find_records.ensures.store.only c.args.target c.args.bytes.now c.in_ok-file.file
      c.in_ok-room.room found
      c.fill.ensures.any_exit c.fill.ensures.by_gate c.fill.ensures.turned _ c.in_ok-fill.ensures.store
      c.in_ok-fill.ensures.done
      c.in_ok-fill.ensures.store.ready c.added.result c.added.ensures);
  space = let found = is-appendable c.args.bytes.now c.in_ok-room.room c.in_ok-file.ensures.told
      c.in_ok-room.ensures.ring c.in_ok-room.ensures.wraps c.in_ok-room.ensures.refusal in
      appended-space c.args.store.now c.find_records.new.store c.fill.new.store c.requires.target.kept.ready
      c.requires.target.kept.card
      c.args.current.now c.requires.target.kept.current c.find_records.ensures.store.only _ _ _ _ found
      c.fill.ensures.any_exit c.fill.ensures.by_gate c.fill.ensures.turned _
      c.in_ok-fill.ensures.store c.in_ok-fill.ensures.done;
}

pub returns-in_err-file : goal.returns-in_err-file
returns-in_err-file g c =
    let old = c.args.store.now in
    let x = c.args.current.now in
    let request = append_record c.args.target c.args.bytes.now in
    halted-in-place request old x c.find_records.new.store (λ _. tt) c.requires.target.kept.card
    c.requires.target.kept.current []
    refl _ _ c.from_residual.ensures.1 c.in_err-file.ensures.store _
    (λ status refused. served-refused (card_in old) (session_in old x) request status
    (append-refused (card_in old) (session_in old x) c.args.target status c.args.bytes.now refused))
    c.in_err-file.ensures.told

pub returns-in_err-room : goal.returns-in_err-room
returns-in_err-room g c =
    let old = c.args.store.now in
    let x = c.args.current.now in
    let request = append_record c.args.target c.args.bytes.now in
    let found = c.in_ok-file.ensures.told in
    halted-in-place request old x c.find_records.new.store (λ _. tt) c.requires.target.kept.card
    c.requires.target.kept.current []
    refl _ (Refused c.in_err-room.field-0.0) c.from_residual-in_err-room.ensures.1 c.in_ok-file.ensures.store _
    (λ status. served-refused (card_in old) (session_in old x) request status)
    (append-decided (committed old) c.requires.target.kept.ready.usable.committed_size c.requires.target.kept.card x
    c.args.target _
    c.in_ok-file.file found c.args.bytes.now found.named.unrefused ∙ sym c.in_err-room.ensures.refusal)

pub fill-requires : goal.fill-requires
fill-requires g c = record {
  body = record {
    ready = c.in_ok-file.ensures.store.ready;
    body = let found = is-appendable c.args.bytes.now c.in_ok-room.room c.in_ok-file.ensures.told
        c.in_ok-room.ensures.ring c.in_ok-room.ensures.wraps c.in_ok-room.ensures.refusal in
        appended-body c.args.store.now c.find_records.new.store c.find_records.new.store c.requires.target.kept.ready
        c.requires.target.kept.card c.args.current.now c.requires.target.kept.current c.find_records.ensures.store.only
        _ _ _ _ found;
    size = let found = is-appendable c.args.bytes.now c.in_ok-room.room c.in_ok-file.ensures.told
        c.in_ok-room.ensures.ring c.in_ok-room.ensures.wraps c.in_ok-room.ensures.refusal in
        appended-long c.args.store.now c.find_records.new.store c.find_records.new.store c.requires.target.kept.ready
        c.requires.target.kept.card
        c.args.current.now c.requires.target.kept.current c.find_records.ensures.store.only _ _ _ _ found;
  };
}
