use Rattle.std.proofs.Common.{[], Ok, refl, sym, subst}
use Rattle.card_model.specs.declared.status.TheConstants.Sw.{DONE}
use Rattle.card_model.specs.Requests.{change_life_cycle}
use Rattle.command_base.specs.declared.current.Current.{Current}
use Rattle.command_base.specs.Served.{Executes}
use Rattle.command_base.specs.Working.{card_in, session_in}
use Rattle.file_commands.proofs.LifeServes.{change-torn, change-made, change-refused, change-space}
use Rattle.command_base.specs.laws.Executes.{halted}
use Rattle.command_base.specs.laws.SpaceKept.{space-same}
use Rattle.command_base.specs.laws.Stopping.{none-failed, reply-failed}
use Rattle.command_base.specs.laws.Readings.{file_kept}
use Rattle.file_lookup.specs.laws.StoredFiles.{file_still}
use Rattle.undo_journal.specs.laws.Exits.{ok_anyway}
use Rattle.file_commands.proofs.life_cycles.change_life_cycle.Goals as goal

pub returns : goal.returns
returns g c = record {
  serves = let old = c.args.store.now in
      let x = c.args.current.now in
      let mid = c.find_change.new.store in
      let new = c.set_life_cycle.new.store in
      let found = c.in_ok-changed.ensures.told in
      subst (λ (y : Current). Executes (change_life_cycle c.args.change c.args.subject) old x new y [] (Ok DONE))
      (sym c.at.ensures)
      (change-made old mid new c.requires.card.kept.ready c.requires.card.kept.card x
      c.requires.card.kept.current c.args.change c.args.subject c.in_ok-changed.changed found
      c.find_change.ensures.store.only
      c.set_life_cycle.ensures.any_exit c.set_life_cycle.ensures.by_gate c.set_life_cycle.ensures.turned
      c.set_life_cycle.ensures.stays
      c.set_life_cycle.ensures.store.reports c.set_life_cycle.ensures.store.writes c.in_ok-set_life_cycle.ensures.done
      c.in_ok-set_life_cycle.ensures.store.ready);
  space = let old = c.args.store.now in
      let x = c.args.current.now in
      let mid = c.find_change.new.store in
      let new = c.set_life_cycle.new.store in
      let found = c.in_ok-changed.ensures.told in
      change-space old mid new c.requires.card.kept.ready c.requires.card.kept.card x
      c.requires.card.kept.current c.args.change c.args.subject c.in_ok-changed.changed found
      c.find_change.ensures.store.only
      c.set_life_cycle.ensures.any_exit c.set_life_cycle.ensures.by_gate c.set_life_cycle.ensures.turned
      c.set_life_cycle.ensures.stays
      c.set_life_cycle.ensures.store.reports c.set_life_cycle.ensures.store.writes c.in_ok-set_life_cycle.ensures.done;
}

pub returns-in_err-changed : goal.returns-in_err-changed
returns-in_err-changed g c = record {
  serves = let old = c.args.store.now in
      let x = c.args.current.now in
      halted (change_life_cycle c.args.change c.args.subject) old x c.find_change.new.store (λ _. tt)
      c.requires.card.kept.card c.requires.card.kept.current [] refl _ _ c.from_residual.ensures.1
      c.in_err-changed.ensures.store _
      (λ status. change-refused (card_in old) (session_in old x) c.args.change c.args.subject status)
      c.in_err-changed.ensures.told;
  space = ok_anyway _ _
      (space-same c.args.store.now c.find_change.new.store c.find_change.ensures.store.only.keeps.committed_words);
}

pub returns-in_err-set_life_cycle : goal.returns-in_err-set_life_cycle
returns-in_err-set_life_cycle g c = record {
  serves = let old = c.args.store.now in
      let mid = c.find_change.new.store in
      let new = c.set_life_cycle.new.store in
      change-torn old mid new c.requires.card.kept.ready c.requires.card.kept.card c.args.current.now
      c.requires.card.kept.current
      c.args.change c.args.subject c.in_ok-changed.changed c.in_ok-changed.ensures.told c.find_change.ensures.store.only
      c.set_life_cycle.ensures.any_exit c.set_life_cycle.ensures.by_gate c.set_life_cycle.ensures.turned
      c.set_life_cycle.ensures.stays
      c.set_life_cycle.ensures.store.reports c.set_life_cycle.ensures.store.writes _ _
      (reply-failed _ _ c.from_residual-in_err-set_life_cycle.ensures.1) c.in_err-set_life_cycle.ensures.store.tells;
  space = none-failed _ _ _ c.from_residual-in_err-set_life_cycle.ensures.1;
}

pub set_life_cycle-requires : goal.set_life_cycle-requires
set_life_cycle-requires g c = record {
  file = file_still _ _ _ c.find_change.ensures.store.only c.in_ok-changed.ensures.store.ready
      (file_kept _ _ _ c.requires.card.kept c.in_ok-changed.ensures.told.used);
}
