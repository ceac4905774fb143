use Rattle.std.proofs.Common.{◌≡◌, [], Ok, refl, sym, ◌∙◌, ap, subst}
use Rattle.card_model.specs.declared.access_mode.AccessBit.TheVariants.{Update}
use Rattle.card_model.specs.declared.status.TheConstants.Sw.{DONE}
use Rattle.undo_journal.specs.Memory.{Memory, committed}
use Rattle.card_model.specs.Requests.{update_binary}
use Rattle.command_base.specs.declared.current.Current.{Current}
use Rattle.command_base.specs.Served.{Executes}
use Rattle.command_base.specs.Working.{card_in, session_in, space_in}
use Rattle.content_commands.proofs.BinarySteps.{update-refused}
use Rattle.command_base.specs.laws.Halting.{halted-in-place}
use Rattle.content_commands.proofs.BinaryServes.{found-body, found-made, found-space, found-stopped}
use Rattle.command_base.specs.laws.SpaceKept.{space-same}
use Rattle.command_base.specs.laws.Stopping.{body-kept}
use Rattle.content_commands.proofs.binary.update_binary.Goals as goal

pub returns-in_err-file : goal.returns-in_err-file
returns-in_err-file g c =
    let old = c.args.store.now in
    let x = c.args.current.now in
    halted-in-place (update_binary c.args.place.target c.args.place.offset c.args.bytes.now) old x
    c.find_file.new.store (λ _. tt)
    c.requires.target.kept.card c.requires.target.kept.current [] refl _ _ c.from_residual.ensures.1
    c.in_err-file.ensures.store _
    (update-refused (card_in old) (session_in old x) c.args.place.target c.args.place.offset c.args.bytes.now)
    c.in_err-file.ensures.told

pub returns-in_err-update : goal.returns-in_err-update
returns-in_err-update g c = record {
  serves = let old = c.args.store.now in
      let mid = c.find_file.new.store in
      found-stopped old mid c.requires.target.kept.ready c.requires.target.kept.card c.args.current.now
      c.args.place.target
      c.in_ok-file.file.number c.in_ok-file.file.entry c.in_ok-file.ensures.told c.transparent_body-body.result
      c.transparent_body-body.ensures c.args.place.offset c.args.bytes.now c.find_file.ensures.store.only
      c.requires.target.kept.current
      c.in_ok-file.ensures.store.ready
      c.update.new.store c.update.ensures.commits.any_exit c.update.ensures.commits.by_gate
      c.update.ensures.commits.turned
      c.update.ensures.commits.store.reports
      c.update.ensures.commits.store.writes c.in_err-update.field-0.0 c.in_err-update.ensures.commits.refusal
      c.in_err-update.ensures.commits.refused c.in_err-update.ensures.commits.store.tells _
      c.from_residual-in_err-update.ensures.1;
  space = let old = c.args.store.now in
      let mid = c.find_file.new.store in
      body-kept _ _ c.from_residual-in_err-update.ensures.1 _ _ c.in_err-update.ensures.commits.refused
      (λ (kept : c.update.new.store ≡ mid). ap (λ (m : Memory). space_in m) kept
      ∙ space-same old mid c.find_file.ensures.store.only.keeps.committed_words);
}

pub returns : goal.returns
returns g c = record {
  serves = let old = c.args.store.now in
      let x = c.args.current.now in
      let mid = c.find_file.new.store in
      let new = c.update.new.store in
      let request = update_binary c.args.place.target c.args.place.offset c.args.bytes.now in
      subst (λ (y : Current). Executes request old x new y [] (Ok DONE)) (sym c.naming.ensures)
      (found-made old mid c.requires.target.kept.ready c.requires.target.kept.card x c.args.place.target
      c.in_ok-file.file.number
      c.in_ok-file.file.entry c.in_ok-file.ensures.told c.transparent_body-body.result
      c.transparent_body-body.ensures c.args.place.offset c.args.bytes.now c.find_file.ensures.store.only
      c.in_ok-update.ensures.commits.refusal
      new c.update.ensures.commits.any_exit c.update.ensures.commits.by_gate c.update.ensures.commits.turned
      c.update.ensures.commits.store.reports
      c.update.ensures.commits.store.writes
      c.in_ok-update.ensures.commits.done c.in_ok-update.ensures.commits.store.ready c.requires.target.kept.current);
  space = let old = c.args.store.now in
      let x = c.args.current.now in
      let mid = c.find_file.new.store in
      let new = c.update.new.store in
      found-space old mid c.requires.target.kept.ready c.requires.target.kept.card x c.args.place.target
      c.in_ok-file.file.number
      c.in_ok-file.file.entry c.in_ok-file.ensures.told c.transparent_body-body.result
      c.transparent_body-body.ensures c.args.place.offset c.args.bytes.now c.find_file.ensures.store.only
      c.in_ok-update.ensures.commits.refusal
      new c.update.ensures.commits.any_exit c.update.ensures.commits.by_gate c.update.ensures.commits.turned
      c.update.ensures.commits.store.reports
      c.update.ensures.commits.store.writes
      c.in_ok-update.ensures.commits.done;
}

pub update-requires-clause-body : goal.update-requires-clause-body
update-requires-clause-body g c = record {
  ready = c.in_ok-file.ensures.store.ready;
  body = found-body (committed c.args.store.now) c.requires.target.kept.ready.usable.committed_size
      c.requires.target.kept.card
      c.args.current.now c.args.place.target Update c.in_ok-file.file.number c.in_ok-file.file.entry
      c.in_ok-file.ensures.told
      c.transparent_body-body.result c.transparent_body-body.ensures (committed c.find_file.new.store)
      c.find_file.ensures.store.only.keeps.committed_words;
}
