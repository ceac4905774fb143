use Rattle.std.proofs.Common.{ap, refl, subst, sym, ◌∙◌}
use Rattle.nvm_board.specs.Facts.{Facts}
use Rattle.bench_turns.proofs.FewGuesses.{writing-compares}
use Rattle.bench_turns.proofs.PowerTurns.{starts, stays_mute, ends_dark, ends_mute}
use Rattle.bench_turns.specs.declared.turn.Turn.TheVariants.{On}
use Rattle.bench_turns.specs.declared.turn_result.TurnResult.{TurnResult}
use Rattle.bench_turns.specs.BenchStates.{HasEachCount, off}
use Rattle.card_turns.specs.BenchViews.{power_state}
use Rattle.bench_turns.specs.Plays.{Plays, TellsItem}
use Rattle.card_turns.proofs.playing.Power.start.Goals as goal
use Rattle.card_turns.proofs.playing.Power.start.Goals.{in-PowerLost, in-Fault}

pub returns-in-Ok-start-clause-plays : goal.returns-in-Ok-start-clause-plays
returns-in-Ok-start-clause-plays g c =
    let dark = g.B.Board.facts c.into_dark_board-board.result in
    let lit = g.B.Board.facts c.light.new.self in
    λ reply. starts (power_state g.B.Board.facts c.args.self) dark c.into_dark_board-board.ensures lit
    c.in-Ok.ensures.lit (g.met.B.Board.is_board c.light.new.self).sized c.in-Ok-start.powered
    c.in-Ok-start.ensures.started.0
    c.in-Ok-start.ensures.started.1 c.in-Ok-start.ensures.found c.in-Ok-start.ensures.kept
    c.in-Ok-start.ensures.writes
    c.in-Ok-start.ensures.counted

pub returns-in-Ok-start-clause-kept : goal.returns-in-Ok-start-clause-kept
returns-in-Ok-start-clause-kept g c =
    let lit = g.B.Board.facts c.light.new.self in
    let powered = c.in-Ok-start.powered in
    let counts = writing-compares _ lit powered.card.facts c.in-Ok-start.ensures.writes in
    let each = (g.met.B.Board.is_board c.light.new.self).counted in
    let works = c.in-Ok-start.ensures.started.0.state in (
      λ dark. let apart = sym works
          ∙ dark in cc,
      subst HasEachCount (sym counts) (record { compares = each.0; matches = each.1 }),
    )

pub returns-in_default-clause-plays : goal.returns-in_default-clause-plays
returns-in_default-clause-plays g c =
    let dark = g.B.Board.facts c.into_dark_board-board.result in
    λ reply. stays_mute (power_state g.B.Board.facts c.args.self) dark c.into_dark_board-board.ensures
    (g.B.Board.facts c.light.new.self) (c.in_default.ensures.worn.0 refl) c.in_default.ensures.same

pub returns-in_default-clause-kept : goal.returns-in_default-clause-kept
returns-in_default-clause-kept g c =
    ap (λ (f : Facts). f.dark) (c.in_default.ensures.same ∙ c.into_dark_board-board.ensures)

pub returns-after-fault-clause-kept : goal.returns-after-fault-clause-kept
returns-after-fault-clause-kept g c = ap (λ (f : Facts). f.dark) c.power_off.ensures

pub returns-after-fault-clause-plays : goal.returns-after-fault-clause-plays
returns-after-fault-clause-plays g c =
    let old = power_state g.B.Board.facts c.args.self in
    let dark = g.B.Board.facts c.into_dark_board-board.result in
    let lit = g.B.Board.facts c.light.new.self in
    let stopped = g.B.Board.facts c.in-Err.board in
    let new = g.B.Board.facts c.power_off.new.self in
    let lights = c.in-Ok.ensures.lit in
    let spent = c.in-Err.ensures.writes_err in
    λ reply. elim c.match-fault.branch [
      | in-PowerLost w ↦
          subst (λ (told : TurnResult). TellsItem told reply (λ i. Plays old On i (off new))) (sym w.turned-is)
          (ends_dark old dark c.into_dark_board-board.ensures
          lit lights (g.met.B.Board.is_board c.light.new.self).sized stopped new c.in-Err.ensures.found_err
          c.in-Err.ensures.kept_err
          c.power_off.ensures
          spent c.in-Err.fault w.in-PowerLost.is c.in-Err.ensures.stopped)
      | in-Fault w ↦
          subst (λ (told : TurnResult). TellsItem told reply (λ i. Plays old On i (off new))) (sym w.turned-is)
          (ends_mute old dark c.into_dark_board-board.ensures
          lit lights (g.met.B.Board.is_board c.light.new.self).sized stopped new c.in-Err.ensures.found_err
          c.in-Err.ensures.kept_err
          c.power_off.ensures
          spent c.in-Err.fault w.in-Fault.is c.in-Err.ensures.stopped)
    ]
