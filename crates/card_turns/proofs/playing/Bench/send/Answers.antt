use Rattle.std.proofs.Common.{rules, sym, true≢false}
use Rattle.t1_link.specs.CardTable.{link_step}
use Rattle.command_base.specs.declared.spending.TheConstants.{COMMAND_WRITES}
use Rattle.card_start.specs.Running.{card_found}
use Rattle.bench_turns.specs.BenchStates.{on}
use Rattle.bench_turns.specs.Plays.{BringsNoFault}
use Rattle.bench_turns.specs.Turns.{Wears}
use Rattle.bench_turns.proofs.BlockGuesses.{block-compares, block-counts, block-pays}
use Rattle.bench_turns.proofs.StoredGuesses.{block-ahead}
use Rattle.bench_turns.proofs.GuessesPaid.{paid-few}
use Rattle.bench_turns.proofs.PlayedTurns.{hears_nothing, plays_cut, plays_replied, works_else}
use Rattle.bench_turns.proofs.Wearing.{wears-shown}
use Rattle.card_turns.proofs.playing.Bench.send.Goals as goal

pub returns-in-Err : goal.returns-in-Err
returns-in-Err g c =
    let kept = rw c.in-On.is at c.self.invariant in
    let old = rw c.in-On.is at c.self.view_is in
    rw (← old, c.replace_with.ensures.0)
    (plays_cut c.in-On.powered
    c.block.new.self c.args.block.now _
    (works_else c.in-On.powered.card.state kept.0 (λ is. absurd (true≢false (sym (c.in-Err.ensures.failed is).0))))
    (c.in-Err.ensures.lost kept.0) c.in-Err.ensures.has_card c.in-Err.ensures.stage
    (block-pays c.in-On.powered c.block.new.self (link_step c.in-On.powered.link c.args.block.now).reaction
    c.in-Err.ensures.stage c.in-Err.ensures.compares kept.1 c.in-Err.ensures.has_card)
    (block-compares c.in-On.powered c.block.new.self (link_step c.in-On.powered.link c.args.block.now).reaction
    c.in-Err.ensures.stage c.in-Err.ensures.compares) c.in-Err.ensures.writes
    c.in-Err.ensures.advances c.in-Err.ensures.stands c.in-Err.ensures.turned c.in-Err.ensures.compares
    c.in-Err.ensures.idle
    (block-ahead c.in-On.powered c.block.new.self (link_step c.in-On.powered.link c.args.block.now).reaction
    c.in-Err.ensures.stage c.in-Err.ensures.compares kept.1 c.in-Err.ensures.has_card
    c.in-Err.ensures.advances.cut.wrote))

pub returns-in-Ok : goal.returns-in-Ok
returns-in-Ok g c =
    let kept = rw c.in-On.is at c.self.invariant in
    let lit = kept.0 in
    let old = rw c.in-On.is at c.self.view_is in
    let guesses = paid-few (on c.in-On.powered) (on c.block.new.self)
    (block-pays c.in-On.powered c.block.new.self (link_step c.in-On.powered.link c.args.block.now).reaction
    c.in-Ok.ensures.stage c.in-Ok.ensures.compares kept.1 c.in-Ok.ensures.has_card) in
    let wears : BringsNoFault (on c.in-On.powered) (on c.block.new.self)
    → Wears COMMAND_WRITES c.in-On.powered.card.facts c.block.new.self.card.facts =
    λ good. wears-shown COMMAND_WRITES (card_found c.in-On.powered.card) (card_found c.block.new.self.card)
    c.in-On.powered.card.facts c.block.new.self.card.facts
    (block-compares c.in-On.powered c.block.new.self (link_step c.in-On.powered.link c.args.block.now).reaction
    c.in-Ok.ensures.stage c.in-Ok.ensures.compares) good.faults c.in-Ok.ensures.writes in
    rw (← old) (plays_replied c.in-On.powered c.block.new.self c.args.block.now c.block.new.out lit
    c.in-Ok.ensures.has_card c.in-Ok.ensures.replies (λ is. let all = c.in-Ok.ensures.failed is in (all.1, all.2))
    c.in-Ok.ensures.stage c.in-Ok.ensures.stands c.in-Ok.ensures.turned c.in-Ok.ensures.compares
    c.in-Ok.ensures.idle c.in-Ok.ensures.advances c.in-Ok.ensures.writes guesses
    (block-ahead c.in-On.powered c.block.new.self
    (link_step c.in-On.powered.link c.args.block.now).reaction c.in-Ok.ensures.stage c.in-Ok.ensures.compares kept.1
    c.in-Ok.ensures.has_card c.in-Ok.ensures.advances.cut.wrote) wears)

pub invariant_of-self-in-Ok : goal.invariant_of-self-in-Ok
invariant_of-self-in-Ok g c =
    let kept = rw c.in-On.is at c.self.invariant in
    let lit = kept.0 in (
      search (rules, lit),
      block-counts c.in-On.powered c.block.new.self (link_step c.in-On.powered.link c.args.block.now).reaction
          c.in-Ok.ensures.stage c.in-Ok.ensures.compares kept.1,
    )

pub returns-in-Off : goal.returns-in-Off
returns-in-Off g c =
    hears_nothing _ _ (g.B.Board.facts c.in-Off.field-0) c.args.block.now
    (sym (rw c.in-Off.is at c.self.view_is)) c.self.view_is
