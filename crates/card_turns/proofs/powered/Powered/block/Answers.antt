use Rattle.undo_journal.specs.Spending.{Advances, KeepsBoard}
use Rattle.undo_journal.specs.laws.Calls.{advances_kept}
use Rattle.undo_journal.specs.laws.Exits.{none_ok}
use Rattle.std.specs.Prelude.{◌≡◌, ◌⊎◌, ◌≢◌, ◌≤◌, ◌+◌, ℕ, List, [], Option, Some, unwrap_or}
use Rattle.std.proofs.Common.{rules, arith, true, inl, inr, ap, sym, refl, subst, ◌∙◌}
use Rattle.card_start.specs.declared.state.CardState.TheVariants.{Working, Failed, Dark}
use Rattle.card_model.specs.CommandTable.{asked}
use Rattle.card_model.specs.laws.StageLaws.{stage_first}
use Rattle.t1_link.specs.CardTable.{answers, reply_bytes, waiting_command, link_step, CardLink, Link, Reaction}
use Rattle.t1_link.specs.CardTable.{replies, runs}
use Rattle.command_base.specs.Finding.{HasCard}
use Rattle.command_base.specs.declared.spending.TheConstants.{COMMAND_WRITES}
use Rattle.command_base.specs.Comparing.{ComparesAsked}
use Rattle.card_start.specs.Running.{card_found}
use Rattle.command_base.specs.laws.CompareLaws.{asked-none}
use Rattle.bench_turns.specs.CardBlocks.{BlockChangesNothing, BlockCompares, BlockStands, BlockFails, IsBlockStage}
use Rattle.bench_turns.specs.CardBlocks.{BlockIsCut, BlockTurns, IsRun}
use Rattle.bench_turns.specs.CardBlocks.{Powered, Replies}
use Rattle.bench_turns.proofs.BlockRuns.{cut-at, kept-board, of-reply, of-run, run-replies, silent-replies}
use Rattle.bench_turns.proofs.CardStates.{on_err, works_if_cut}
use Rattle.card_turns.proofs.powered.Powered.block.Goals as goal

-- a card that stays compared nothing
kept-compares : (p : Powered) (reaction : Reaction) → BlockCompares p reaction p.card.facts
kept-compares p (replies block) = refl
kept-compares p (runs command) =
    asked-none (asked command) (card_found p.card) p.card.facts (card_found p.card) p.card.facts refl refl

pub returns-in-Dark-clause-compares : goal.returns-in-Dark-clause-compares
returns-in-Dark-clause-compares g c =
    kept-compares c.args.self.now (link_step c.args.self.now.link c.args.got.now).reaction

-- and where a command waits, the block compares what the command does
run-compares : (p new : Powered) (reaction : Reaction) (bytes : List ℕ) → waiting_command reaction ≡ Some bytes
    → ComparesAsked (asked bytes) (card_found p.card) p.card.facts (card_found new.card) new.card.facts
    → BlockCompares p reaction new.card.facts
run-compares p new (replies block) bytes waits compares = cc
run-compares p new (runs command) bytes waits compares =
    subst (λ (o : Option (List ℕ)). ComparesAsked (asked (unwrap_or o [])) (card_found p.card) p.card.facts
    (card_found new.card) new.card.facts) (sym waits) compares

pub returns-in_err-command-in-Run-clause-compares : goal.returns-in_err-command-in-Run-clause-compares
returns-in_err-command-in-Run-clause-compares g c =
    let new : Powered = record { card = c.command-in-Run.new.self; link = c.take.new.self.link } in
    let waits = ap (λ (e : CardLink). e.waiting) (sym c.take.ensures.state) ∙ c.command.ensures in
    subst (λ (p : Powered). BlockCompares p (link_step p.link c.args.got.now).reaction new.card.facts) c.self.view_is
    (run-compares (record { card = c.self.inside.card; link = c.self.inside.link.link }) new
    (link_step c.self.inside.link.link c.args.got.now).reaction c.command.result.now waits
    c.command-in-Run.ensures.compares)

pub returns-in_err-command-in-Run-clause-lost : goal.returns-in_err-command-in-Run-clause-lost
returns-in_err-command-in-Run-clause-lost g c =
    let old : Powered = record { card = c.self.inside.card; link = c.self.inside.link.link } in
    let new : Powered = record { card = c.command-in-Run.new.self; link = c.take.new.self.link } in
    let got = c.args.got.now in
    let out = c.take.new.out in
    let waits = ap (λ (e : CardLink). e.waiting) (sym c.take.ensures.state) ∙ c.command.ensures in
    let cut : c.args.self.now.card.state ≢ Dark → BlockIsCut c.args.self.now got new out =
    subst (λ (p : Powered). p.card.state ≢ Dark → BlockIsCut p got new out) c.self.view_is
    (λ lit.
    let works : old.card.state ≡ Working = works_if_cut _ _ lit c.in_err-command-in-Run.ensures.failed (λ f. cc) in
    cut-at old new got c.command.result.now c.command-in-Run.new.answer.items out waits c.take.ensures.block
    (c.in_err-command-in-Run.ensures.lost works)) in
    on_err _ _ cut

pub returns-in_ok-command-in-Run-clause-stage : goal.returns-in_ok-command-in-Run-clause-stage
returns-in_ok-command-in-Run-clause-stage g c =
    let old : Powered = record { card = c.self.inside.card; link = c.self.inside.link.link } in
    let waits = ap (λ (e : CardLink). e.waiting) (sym c.take.ensures.state) ∙ c.command.ensures in
    let card = card_found c.command-in-Run.new.self in
    subst (λ (p : Powered). IsBlockStage p (link_step p.link c.args.got.now).reaction card) c.self.view_is
    (of-run (λ (r : Reaction). IsBlockStage old r card) (link_step old.link c.args.got.now).reaction
    c.command.result.now waits c.command-in-Run.ensures.stage)

pub returns-in_ok-command-in-Run-clause-idle : goal.returns-in_ok-command-in-Run-clause-idle
returns-in_ok-command-in-Run-clause-idle g c =
    let old : Powered = record { card = c.self.inside.card; link = c.self.inside.link.link } in
    let waits = ap (λ (e : CardLink). e.waiting) (sym c.take.ensures.state) ∙ c.command.ensures in
    let facts = c.command-in-Run.new.self.facts in
    subst (λ (p : Powered). BlockChangesNothing p (link_step p.link c.args.got.now).reaction
    → KeepsBoard p.card.facts facts) c.self.view_is
    (of-run (λ (r : Reaction). BlockChangesNothing old r → KeepsBoard old.card.facts facts)
    (link_step old.link c.args.got.now).reaction c.command.result.now waits c.command-in-Run.ensures.idle)

pub returns-in_err-command-in-Run-clause-stage : goal.returns-in_err-command-in-Run-clause-stage
returns-in_err-command-in-Run-clause-stage g c =
    let old : Powered = record { card = c.self.inside.card; link = c.self.inside.link.link } in
    let waits = ap (λ (e : CardLink). e.waiting) (sym c.take.ensures.state) ∙ c.command.ensures in
    let card = card_found c.command-in-Run.new.self in
    subst (λ (p : Powered). IsBlockStage p (link_step p.link c.args.got.now).reaction card) c.self.view_is
    (of-run (λ (r : Reaction). IsBlockStage old r card) (link_step old.link c.args.got.now).reaction
    c.command.result.now waits c.command-in-Run.ensures.stage)

pub returns-in_err-command-in-Run-clause-idle : goal.returns-in_err-command-in-Run-clause-idle
returns-in_err-command-in-Run-clause-idle g c =
    let old : Powered = record { card = c.self.inside.card; link = c.self.inside.link.link } in
    let waits = ap (λ (e : CardLink). e.waiting) (sym c.take.ensures.state) ∙ c.command.ensures in
    let facts = c.command-in-Run.new.self.facts in
    subst (λ (p : Powered). BlockChangesNothing p (link_step p.link c.args.got.now).reaction
    → KeepsBoard p.card.facts facts) c.self.view_is
    (of-run (λ (r : Reaction). BlockChangesNothing old r → KeepsBoard old.card.facts facts)
    (link_step old.link c.args.got.now).reaction c.command.result.now waits c.command-in-Run.ensures.idle)

pub returns-in_ok-command-in-Run-clause-compares : goal.returns-in_ok-command-in-Run-clause-compares
returns-in_ok-command-in-Run-clause-compares g c =
    let new : Powered = record { card = c.command-in-Run.new.self; link = c.answer.new.self.link } in
    let waits = ap (λ (e : CardLink). e.waiting) (sym c.take.ensures.state) ∙ c.command.ensures in
    subst (λ (p : Powered). BlockCompares p (link_step p.link c.args.got.now).reaction new.card.facts) c.self.view_is
    (run-compares (record { card = c.self.inside.card; link = c.self.inside.link.link }) new
    (link_step c.self.inside.link.link c.args.got.now).reaction c.command.result.now waits
    c.command-in-Run.ensures.compares)

pub returns-in_ok-command-in-Run-clause-replies : goal.returns-in_ok-command-in-Run-clause-replies
returns-in_ok-command-in-Run-clause-replies g c =
    let old : Powered = record { card = c.self.inside.card; link = c.self.inside.link.link } in
    let new : Powered = record { card = c.command-in-Run.new.self; link = c.answer.new.self.link } in
    let got = c.args.got.now in
    let out = c.answer.new.out in
    let bytes = c.command-in-Run.new.answer.items in
    let waits = ap (λ (e : CardLink). e.waiting) (sym c.take.ensures.state) ∙ c.command.ensures in
    let taken = ap (λ (e : CardLink). e.link) c.take.ensures.state in
    let link = ap (λ (e : CardLink). e.link) c.answer.ensures.state ∙ ap (λ (l : Link). (answers l bytes).link) taken in
    let block = c.answer.ensures.block ∙ ap (λ (l : Link). reply_bytes (answers l bytes).reaction) taken in
    subst (λ (p : Powered). p.card.state ≡ Working → Replies p got new out ⊎ BlockFails p got new out) c.self.view_is
    (λ works. run-replies old new got c.command.result.now bytes out waits link block
    (c.in_ok-command-in-Run.ensures.done works) c.command-in-Run.ensures.compares c.command-in-Run.ensures.idle)

pub returns-in-Reply-clause-replies : goal.returns-in-Reply-clause-replies
returns-in-Reply-clause-replies g c =
    let old : Powered = record { card = c.self.inside.card; link = c.self.inside.link.link } in
    let new : Powered = record { card = c.self.inside.card; link = c.take.new.self.link } in
    let got = c.args.got.now in
    let out = c.take.new.out in
    let silent = ap (λ (e : CardLink). e.waiting) (sym c.take.ensures.state) ∙ c.take.ensures.replied c.in-Reply.is in
    let link = ap (λ (e : CardLink). e.link) c.take.ensures.state in
    subst (λ (p : Powered). p.card.state ≡ Working → Replies p got new out ⊎ BlockFails p got new out) c.self.view_is
    (λ works. inl (silent-replies old c.take.new.self.link got out silent works (c.state.ensures.lit works) link
    c.take.ensures.block))

pub returns-in-Reply-clause-lost : goal.returns-in-Reply-clause-lost
returns-in-Reply-clause-lost g c = tt

pub returns-in-Reply-clause-unlit : goal.returns-in-Reply-clause-unlit
returns-in-Reply-clause-unlit g c = tt

pub returns-in-Reply-clause-failed : goal.returns-in-Reply-clause-failed
returns-in-Reply-clause-failed g c = search rules

pub returns-in_ok-command-in-Run-clause-turned : goal.returns-in_ok-command-in-Run-clause-turned
returns-in_ok-command-in-Run-clause-turned g c =
    let old : Powered = record { card = c.self.inside.card; link = c.self.inside.link.link } in
    let waits = ap (λ (e : CardLink). e.waiting) (sym c.take.ensures.state) ∙ c.command.ensures in
    let facts = c.command-in-Run.new.self.facts in
    subst (λ (p : Powered). p.card.state ≡ Working → BlockTurns p (link_step p.link c.args.got.now).reaction facts)
    c.self.view_is
    (λ works. of-run (λ (r : Reaction). BlockTurns old r facts) (link_step old.link c.args.got.now).reaction
    c.command.result.now waits (c.command-in-Run.ensures.turned works))

pub returns-in_ok-command-in-Run-clause-stands : goal.returns-in_ok-command-in-Run-clause-stands
returns-in_ok-command-in-Run-clause-stands g c =
    let old : Powered = record { card = c.self.inside.card; link = c.self.inside.link.link } in
    let waits = ap (λ (e : CardLink). e.waiting) (sym c.take.ensures.state) ∙ c.command.ensures in
    let words = c.command-in-Run.new.self.facts.words in
    subst (λ (p : Powered). p.card.state ≡ Working → BlockStands p (link_step p.link c.args.got.now).reaction words)
    c.self.view_is
    (λ works. of-run (λ (r : Reaction). BlockStands old r words) (link_step old.link c.args.got.now).reaction
    c.command.result.now waits (c.command-in-Run.ensures.stands works))

pub returns-in_err-command-in-Run-clause-turned : goal.returns-in_err-command-in-Run-clause-turned
returns-in_err-command-in-Run-clause-turned g c =
    let old : Powered = record { card = c.self.inside.card; link = c.self.inside.link.link } in
    let waits = ap (λ (e : CardLink). e.waiting) (sym c.take.ensures.state) ∙ c.command.ensures in
    let facts = c.command-in-Run.new.self.facts in
    subst (λ (p : Powered). p.card.state ≡ Working → BlockTurns p (link_step p.link c.args.got.now).reaction facts)
    c.self.view_is
    (λ works. of-run (λ (r : Reaction). BlockTurns old r facts) (link_step old.link c.args.got.now).reaction
    c.command.result.now waits (c.command-in-Run.ensures.turned works))

pub returns-in_err-command-in-Run-clause-stands : goal.returns-in_err-command-in-Run-clause-stands
returns-in_err-command-in-Run-clause-stands g c =
    let old : Powered = record { card = c.self.inside.card; link = c.self.inside.link.link } in
    let waits = ap (λ (e : CardLink). e.waiting) (sym c.take.ensures.state) ∙ c.command.ensures in
    let words = c.command-in-Run.new.self.facts.words in
    subst (λ (p : Powered). p.card.state ≡ Working → BlockStands p (link_step p.link c.args.got.now).reaction words)
    c.self.view_is
    (λ works. of-run (λ (r : Reaction). BlockStands old r words) (link_step old.link c.args.got.now).reaction
    c.command.result.now waits (c.command-in-Run.ensures.stands works))

pub returns-in-Dark-clause-has_card : goal.returns-in-Dark-clause-has_card
returns-in-Dark-clause-has_card g c =
    subst (λ (p : Powered). HasCard p.card.facts.words) c.self.view_is c.self.invariant.0

pub returns-in-Dark-clause-replies : goal.returns-in-Dark-clause-replies
returns-in-Dark-clause-replies g c = tt

pub returns-in-Dark-clause-unrun : goal.returns-in-Dark-clause-unrun
returns-in-Dark-clause-unrun g c = inr refl

pub returns-in-Dark-clause-writes : goal.returns-in-Dark-clause-writes
returns-in-Dark-clause-writes g c = omega arith

pub returns-in-Dark-clause-dark : goal.returns-in-Dark-clause-dark
returns-in-Dark-clause-dark g c = λ dark. (refl, refl, c.clear.ensures)

pub returns-in-Reply-clause-has_card : goal.returns-in-Reply-clause-has_card
returns-in-Reply-clause-has_card g c = c.self.invariant.0

pub returns-in-Reply-clause-unrun : goal.returns-in-Reply-clause-unrun
returns-in-Reply-clause-unrun g c = inr (ap (λ (p : Powered). p.card) c.self.view_is)

pub returns-in-Reply-clause-writes : goal.returns-in-Reply-clause-writes
returns-in-Reply-clause-writes g c =
    let same = ap (λ (p : Powered). p.card.facts.writes) c.self.view_is in
    omega (arith, same)

pub returns-in_ok-command-in-Run-clause-has_card : goal.returns-in_ok-command-in-Run-clause-has_card
returns-in_ok-command-in-Run-clause-has_card g c = c.command-in-Run.ensures.has_card

pub returns-in_ok-command-in-Run-clause-writes : goal.returns-in_ok-command-in-Run-clause-writes
returns-in_ok-command-in-Run-clause-writes g c =
    let facts = c.command-in-Run.new.self.facts in
    subst (λ (p : Powered). facts.writes ≤ p.card.facts.writes + COMMAND_WRITES) c.self.view_is
    c.command-in-Run.ensures.writes

pub returns-in_ok-command-in-Run-clause-advances : goal.returns-in_ok-command-in-Run-clause-advances
returns-in_ok-command-in-Run-clause-advances g c =
    let facts = c.command-in-Run.new.self.facts in
    subst (λ (p : Powered). Advances p.card.facts facts) c.self.view_is c.command-in-Run.ensures.advances

pub returns-in_err-command-in-Run-clause-has_card : goal.returns-in_err-command-in-Run-clause-has_card
returns-in_err-command-in-Run-clause-has_card g c = c.command-in-Run.ensures.has_card

pub returns-in_err-command-in-Run-clause-writes : goal.returns-in_err-command-in-Run-clause-writes
returns-in_err-command-in-Run-clause-writes g c =
    let facts = c.command-in-Run.new.self.facts in
    subst (λ (p : Powered). facts.writes ≤ p.card.facts.writes + COMMAND_WRITES) c.self.view_is
    c.command-in-Run.ensures.writes

pub returns-in_err-command-in-Run-clause-advances : goal.returns-in_err-command-in-Run-clause-advances
returns-in_err-command-in-Run-clause-advances g c =
    let facts = c.command-in-Run.new.self.facts in
    subst (λ (p : Powered). Advances p.card.facts facts) c.self.view_is c.command-in-Run.ensures.advances

pub returns-in_ok-command-in-Run-clause-lost : goal.returns-in_ok-command-in-Run-clause-lost
returns-in_ok-command-in-Run-clause-lost g c = tt

pub returns-in_ok-command-in-Run-clause-unlit : goal.returns-in_ok-command-in-Run-clause-unlit
returns-in_ok-command-in-Run-clause-unlit g c = tt

pub returns-in_err-command-in-Run-clause-replies : goal.returns-in_err-command-in-Run-clause-replies
returns-in_err-command-in-Run-clause-replies g c = none_ok _ _ _ c.from_residual.ensures.1

-- and is a stage of the command, on the same board
kept-stage : (p : Powered) (reaction : Reaction) → IsBlockStage p reaction (card_found p.card)
kept-stage p (replies block) = refl
kept-stage p (runs command) = stage_first (card_found p.card) p.card.session command (card_found p.card) refl

pub returns-in-Dark-clause-stage : goal.returns-in-Dark-clause-stage
returns-in-Dark-clause-stage g c =
    kept-stage c.args.self.now (link_step c.args.self.now.link c.args.got.now).reaction

pub returns-in-Dark-clause-stands : goal.returns-in-Dark-clause-stands
returns-in-Dark-clause-stands g c =
    let dark : c.args.self.now.card.state ≡ Dark =
    ap (λ (p : Powered). p.card.state) (sym c.self.view_is) ∙ sym c.state.ensures.state ∙ c.in-Dark.is in
    λ works. let working : c.args.self.now.card.state ≡ Working = works in absurd cc

pub returns-in-Dark-clause-turned : goal.returns-in-Dark-clause-turned
returns-in-Dark-clause-turned g c =
    let dark : c.args.self.now.card.state ≡ Dark =
    ap (λ (p : Powered). p.card.state) (sym c.self.view_is) ∙ sym c.state.ensures.state ∙ c.in-Dark.is in
    λ works. let working : c.args.self.now.card.state ≡ Working = works in absurd cc

pub returns-in-Dark-clause-lost : goal.returns-in-Dark-clause-lost
returns-in-Dark-clause-lost g c =
    let dark : c.args.self.now.card.state ≡ Dark =
    ap (λ (p : Powered). p.card.state) (sym c.self.view_is) ∙ sym c.state.ensures.state ∙ c.in-Dark.is in
    λ lit. absurd (lit dark)

pub returns-in-Dark-clause-failed : goal.returns-in-Dark-clause-failed
returns-in-Dark-clause-failed g c =
    let dark : c.args.self.now.card.state ≡ Dark =
    ap (λ (p : Powered). p.card.state) (sym c.self.view_is) ∙ sym c.state.ensures.state ∙ c.in-Dark.is in
    λ fails. let failed : c.args.self.now.card.state ≡ Failed = fails in absurd cc

pub returns-in-Dark-clause-unlit : goal.returns-in-Dark-clause-unlit
returns-in-Dark-clause-unlit g c =
    subst (λ (p : Powered). p.card.facts.dark ≡ true) c.self.view_is
    (c.state.ensures.unlit (sym c.state.ensures.state ∙ c.in-Dark.is))

pub returns-in-Dark-clause-idle : goal.returns-in-Dark-clause-idle
returns-in-Dark-clause-idle g c = λ nothing. kept-board _

pub returns-in-Dark-clause-advances : goal.returns-in-Dark-clause-advances
returns-in-Dark-clause-advances g c = advances_kept _ _ (kept-board _)

pub returns-in-Reply-clause-stage : goal.returns-in-Reply-clause-stage
returns-in-Reply-clause-stage g c =
    let old : Powered = record { card = c.self.inside.card; link = c.self.inside.link.link } in
    let card = card_found c.self.inside.card in
    subst (λ (p : Powered). IsBlockStage p (link_step p.link c.args.got.now).reaction card) c.self.view_is
    (kept-stage old (link_step old.link c.args.got.now).reaction)

pub returns-in-Reply-clause-turned : goal.returns-in-Reply-clause-turned
returns-in-Reply-clause-turned g c =
    let old : Powered = record { card = c.self.inside.card; link = c.self.inside.link.link } in
    let silent = ap (λ (e : CardLink). e.waiting) (sym c.take.ensures.state) ∙ c.take.ensures.replied c.in-Reply.is in
    let facts = c.self.inside.card.facts in
    subst (λ (p : Powered). p.card.state ≡ Working → BlockTurns p (link_step p.link c.args.got.now).reaction facts)
    c.self.view_is (λ works. of-reply (λ (r : Reaction). BlockTurns old r facts)
    (link_step old.link c.args.got.now).reaction silent (λ block. tt))

pub returns-in-Reply-clause-stands : goal.returns-in-Reply-clause-stands
returns-in-Reply-clause-stands g c =
    let old : Powered = record { card = c.self.inside.card; link = c.self.inside.link.link } in
    let silent = ap (λ (e : CardLink). e.waiting) (sym c.take.ensures.state) ∙ c.take.ensures.replied c.in-Reply.is in
    let words = c.self.inside.card.facts.words in
    subst (λ (p : Powered). p.card.state ≡ Working → BlockStands p (link_step p.link c.args.got.now).reaction words)
    c.self.view_is (λ works. of-reply (λ (r : Reaction). BlockStands old r words)
    (link_step old.link c.args.got.now).reaction silent (λ block. tt))

pub returns-in-Reply-clause-idle : goal.returns-in-Reply-clause-idle
returns-in-Reply-clause-idle g c =
    let facts = c.self.inside.card.facts in
    subst (λ (p : Powered). BlockChangesNothing p (link_step p.link c.args.got.now).reaction
    → KeepsBoard p.card.facts facts) c.self.view_is (λ nothing. kept-board facts)

pub returns-in-Reply-clause-advances : goal.returns-in-Reply-clause-advances
returns-in-Reply-clause-advances g c =
    let facts = c.self.inside.card.facts in
    subst (λ (p : Powered). Advances p.card.facts facts) c.self.view_is (advances_kept _ _ (kept-board facts))

pub returns-in-Reply-clause-compares : goal.returns-in-Reply-clause-compares
returns-in-Reply-clause-compares g c =
    let old : Powered = record { card = c.self.inside.card; link = c.self.inside.link.link } in
    let silent = ap (λ (e : CardLink). e.waiting) (sym c.take.ensures.state) ∙ c.take.ensures.replied c.in-Reply.is in
    let new : Powered = record { card = c.self.inside.card; link = c.take.new.self.link } in
    subst (λ (p : Powered). BlockCompares p (link_step p.link c.args.got.now).reaction new.card.facts) c.self.view_is
    (of-reply (λ (r : Reaction). BlockCompares old r new.card.facts) (link_step old.link c.args.got.now).reaction silent
    (λ block. refl))

pub returns-in_ok-command-in-Run-clause-unrun : goal.returns-in_ok-command-in-Run-clause-unrun
returns-in_ok-command-in-Run-clause-unrun g c =
    let waits = ap (λ (e : CardLink). e.waiting) (sym c.take.ensures.state) ∙ c.command.ensures in
    inl (subst (λ (p : Powered). IsRun (link_step p.link c.args.got.now).reaction) c.self.view_is
    (of-run IsRun (link_step c.self.inside.link.link c.args.got.now).reaction c.command.result.now waits tt))

pub returns-in_err-command-in-Run-clause-unrun : goal.returns-in_err-command-in-Run-clause-unrun
returns-in_err-command-in-Run-clause-unrun g c =
    let waits = ap (λ (e : CardLink). e.waiting) (sym c.take.ensures.state) ∙ c.command.ensures in
    inl (subst (λ (p : Powered). IsRun (link_step p.link c.args.got.now).reaction) c.self.view_is
    (of-run IsRun (link_step c.self.inside.link.link c.args.got.now).reaction c.command.result.now waits tt))

pub returns-in_err-command-in-Run-clause-unlit : goal.returns-in_err-command-in-Run-clause-unlit
returns-in_err-command-in-Run-clause-unlit g c = on_err _ _ c.in_err-command-in-Run.ensures.unlit
