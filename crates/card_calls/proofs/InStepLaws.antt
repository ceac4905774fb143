-- Orders at a desk whose two ends are in step: they leave the ends in step, and those that can't compare a PIN count no
-- comparison.
use Rattle.std.specs.Prelude.{◌≡◌, ℕ, zero, suc, true, false, List, [], ◌∷◌, Option, None, Some, Result, Ok, Err}
use Rattle.std.proofs.Common.{◌∙◌, ap, inl, inr, refl, subst, sym}
use Rattle.nvm_board.specs.Facts.{Facts}
use Rattle.card_model.specs.CommandTable.{asked}
use Rattle.t1_link.specs.CardTable.{Link, Reaction, link_step, replies, runs}
use Rattle.t1_link.specs.ReaderTable.{Reader, Turned, is_busy, reader_sends}
use Rattle.t1_link.specs.TreeMachine.{IsProperState, Served, tree_machine}
use Rattle.t1_link.specs.WorldLaw.{comes_of, is_under_way}
use Rattle.t1_link.specs.WorldRepairs.{newest}
use Rattle.t1_link.specs.Worlds.{Event, Report, World, is_command, quiet, send, turning, world_step}
use Rattle.t1_link.proofs.TreeAnswers.{tree-answers}
use Rattle.t1_link.proofs.WorldLawful.{world-lawful}
use Rattle.command_base.specs.Comparing.{Comparisons, comparisons}
use Rattle.bench_lines.specs.Orders.{Order, Nothing, On, Off, Free, Apdu, Block, Cut, Lose, Garble, IsOrderSized}
use Rattle.bench_lines.specs.Printouts.{Print}
use Rattle.bench_lines.specs.Spellings.{IsOrderOfBytes}
use Rattle.bench_turns.specs.BenchStates.{BenchHasCard, BenchState, off, on, bench_facts, with_facts, IsArmed}
use Rattle.bench_turns.specs.BenchStates.{switched_off}
use Rattle.bench_turns.specs.CardBlocks.{BlockCompares, Powered}
use Rattle.bench_turns.specs.Turns.{GoodTurn}
use Rattle.bench_turns.specs.declared.turn.Item.{Item}
use Rattle.bench_turns.specs.declared.turn.Item.TheVariants as item
use Rattle.bench_turns.specs.declared.turn.Turn.TheVariants as turn
use Rattle.card_bench.specs.ExchangeWorlds.{StandIn, bytes_of_line, fate}
use Rattle.card_bench.specs.Exchanges.{Arrives, CardTakes, Commands, Desk, Ended, Ends, Exchanged, Exchanges}
use Rattle.card_bench.specs.Exchanges.{GoesThrough, NextBlock, Passes, answered, bytes_under_way, following, left_by}
use Rattle.card_bench.specs.Exchanges.{link_lost, power_lost, set_back}
use Rattle.card_bench.specs.Exchanges as ways
use Rattle.card_bench.specs.Lines as lines
use Rattle.card_bench.specs.Performing.{Performs, PerformsCommand, TakesTurn, reader_after, shown}
use Rattle.card_bench.specs.ScriptWorlds.{CommandInWorld, IsInWorld, LineInWorld}
use Rattle.card_bench.specs.declared.reader_turns.TheConstants.{LINE_BLOCKS}
use Rattle.card_bench.proofs.ExchangeInWorld.{given-so, reached, reached-step, ready-so, stands-sent}
use Rattle.card_bench.proofs.ExchangeSteps.{IsKnown, IsReached, IsWay, ShowsIn, goes_there}
use Rattle.card_bench.proofs.ExchangeSteps.{known-so, passed, same-reader, shows-noted, stands-turned, stepped}
use Rattle.card_bench.proofs.ExchangeSteps.{stepped-is}
use Rattle.card_bench.proofs.ScriptInWorld.{command-so, line-goes_on, power-on-begins}
use Rattle.card_calls.specs.InStep.{ComparesNoneLaw, InStepBy, InStepLaw, IsInStep}
use Rattle.card_calls.proofs.PlainRequests.{ShowsNone, compares-nothing, plain-asked}

-- the counts of a bench
abbrev counts_of : BenchState → Comparisons
counts_of b = comparisons (bench_facts b)

-- a reaction that runs no command which shows a secret
plain-reaction : (p : Powered) (r : Reaction) (facts : Facts)
    → ((command : List ℕ) → r ≡ runs command → ShowsNone (asked command)) → BlockCompares p r facts
    → comparisons facts ≡ comparisons p.card.facts
plain-reaction p (replies b) facts none compares = compares
plain-reaction p (runs command) facts none compares =
    compares-nothing (asked command) _ _ _ _ (none command refl) compares

-- a block that the card's end takes, in a world whose last command shows none
plain-taken : (w : World Served) (bench after : BenchState) (reader : Reader) (got : List ℕ)
    (follows : Result NextBlock Ended) → IsKnown w (Some got) → ShowsNone (asked (newest w.sent))
    → StandIn bench reader w → CardTakes bench got after follows → counts_of after ≡ counts_of bench
plain-taken w (off facts) after reader got follows known none s t = absurd s
plain-taken w (on p) after reader got (Ok (ways.toward_card bytes)) known none s t = absurd t
plain-taken w (on p) (off facts) reader got (Ok (ways.toward_reader bytes)) known none s t = absurd t.one
plain-taken w (on p) (on after) reader got (Ok (ways.toward_reader bytes)) known none s t =
    plain-reaction p (link_step p.link got).reaction after.card.facts (λ command ran.
    subst (λ (x : List ℕ). ShowsNone (asked x))
    (sym (known command (ap (λ (l : Link). (link_step l got).reaction) (sym s.link_is) ∙ ran))) none) t.one.compares
plain-taken w (on p) after reader got (Err (answered answer)) known none s t = absurd t
plain-taken w (on p) after reader got (Err set_back) known none s t = absurd t
plain-taken w (on p) after reader got (Err link_lost) known none s t = absurd t
plain-taken w (on p) after reader got (Err power_lost) known none s t =
    plain-reaction p (link_step p.link got).reaction (bench_facts after) (λ command ran.
    subst (λ (x : List ℕ). ShowsNone (asked x))
    (sym (known command (ap (λ (l : Link). (link_step l got).reaction) (sym s.link_is) ∙ ran))) none) t.one.compares

same-counts : (old new : BenchState) → new ≡ old → counts_of new ≡ counts_of old
same-counts old new same = ap (λ (b : BenchState). counts_of b) same

-- what arrives of a block on the line
plain-arrived : (w : World Served) (old new : Ends) (way : NextBlock) (o : Option (List ℕ))
    (follows : Result NextBlock Ended) → (goes_there way ≡ true → IsKnown w o) → ShowsNone (asked (newest w.sent))
    → StandIn old.bench old.reader w → Arrives old way o new follows → counts_of new.bench ≡ counts_of old.bench
plain-arrived w old new (ways.toward_card block) None follows known none s a = same-counts old.bench new.bench a.0
plain-arrived w old new (ways.toward_reader block) None follows known none s a = same-counts old.bench new.bench a.0
plain-arrived w old new (ways.toward_card block) (Some got) follows known none s a =
    plain-taken w old.bench new.bench old.reader got follows (known refl) none s a.1
plain-arrived w old new (ways.toward_reader block) (Some got) follows known none s a =
    same-counts old.bench new.bench a.0

plain-passed : (start : Served) (w : World Served) (old new : Ends) (way : NextBlock)
    (follows : Result NextBlock Ended) → IsReached start w → ShowsNone (asked (newest w.sent))
    → StandIn old.bench old.reader w → IsWay way w.line → Passes old way new follows
    → counts_of new.bench ≡ counts_of old.bench
plain-passed start w old new way follows reached none s is passes =
    plain-arrived w old new way (lines.arriving old.line 0 (bytes_under_way way)) follows
    (known-so start w way old.line reached is) none s passes.arrives

-- an exchange from a block on
plain-goes : (start : Served) (limit : ℕ) (w : World Served) (old new : Ends) (way : NextBlock) (ending : Ended)
    → IsProperState start → IsReached start w → ShowsNone (asked (newest w.sent)) → StandIn old.bench old.reader w
    → IsWay way w.line → Exchanges limit old way new ending → counts_of new.bench ≡ counts_of old.bench
unfolding Exchanges
plain-goes start zero w old new way ending proper reached none s is run =
    ap (λ (e : Ends). counts_of e.bench) run.0
plain-goes start (suc limit) w old new way ending proper reached none s is (inl passes) =
    plain-passed start w old new way (Err ending) reached none s is passes
plain-goes start (suc limit) w old new way ending proper reached none s is (inr (between, next, passes, run)) =
    let leads = subst (λ (x : World Served). StandIn between.bench between.reader x × ShowsIn (Ok next) w.sent
    w.reports x) (sym (stepped-is w old.line)) (passed start w old between way (Ok next) reached s is passes) in
    plain-goes start limit (stepped old.line w) between new next ending proper
    (reached-step start w (fate old.line (bytes_of_line w.line)) proper reached)
    (subst (λ (sent : List (List ℕ)). ShowsNone (asked (newest sent))) (sym leads.1.sent_is) none) leads.0
    leads.1.way_is run ∙ plain-passed start w old between way (Ok next) reached none s is passes

plain-through : (start : Served) (f : Result NextBlock Ended) (w : World Served) (sent : List (List ℕ))
    (earlier : List Report) (here new : Ends) (ending : Ended) → IsProperState start → IsReached start w
    → ShowsNone (asked (newest sent)) → StandIn here.bench here.reader w → ShowsIn f sent earlier w
    → GoesThrough f here new ending → counts_of new.bench ≡ counts_of here.bench
plain-through start (Ok way) w sent earlier here new ending proper reached none s shows run =
    plain-goes start LINE_BLOCKS w here new way ending proper reached
    (subst (λ (x : List (List ℕ)). ShowsNone (asked (newest x))) (sym shows.sent_is) none) s shows.way_is run
plain-through start (Err ended) w sent earlier here new ending proper reached none s shows run =
    ap (λ (e : Ends). counts_of e.bench) run.0

-- the exchange of a command that shows no secret
plain-exchanged : (start : Served) (events : List Event) (old new : Ends) (command : List ℕ) (ending : Ended)
    → IsProperState start → StandIn old.bench old.reader (comes_of tree_machine start events)
    → (comes_of tree_machine start events).line ≡ quiet → is_command command ≡ true → ShowsNone (asked command)
    → Exchanged old command new ending → counts_of new.bench ≡ counts_of old.bench
plain-exchanged start events old new command ending proper stands calm sound none exchanged =
    let w : World Served = comes_of tree_machine start events in
    let lawful = world-lawful tree_machine IsProperState tree-answers start events proper in
    let free : is_busy w.reader.phase ≡ false = sym lawful.under_way ∙ ap is_under_way calm in
    let sent : World Served = record w { sent = command ∷ w.sent; offered = [] } in
    let turned : Turned = reader_sends old.reader command in
    let same : old.reader ≡ w.reader = same-reader old.bench old.reader w stands in
    let given : world_step tree_machine w (send command) ≡ turning sent turned =
    given-so w command (ready-so w.reader command free sound)
    ∙ ap (λ (r : Reader). turning sent (reader_sends r command)) (sym same) in
    let there : StandIn old.bench turned.reader (turning sent turned) =
    stands-turned old.bench old.reader sent turned (stands-sent old.bench old.reader w command stands) in
    let shows : ShowsIn (following turned.outcome) (command ∷ w.sent) w.reports (turning sent turned) =
    shows-noted (record sent { reader = turned.reader }) turned.outcome in
    plain-through start (following turned.outcome) (world_step tree_machine w (send command)) (command ∷ w.sent)
    w.reports (record old { reader = turned.reader }) new ending proper (reached-step start w (send command) proper
    (reached start events proper)) none
    (subst (λ (x : World Served). StandIn old.bench turned.reader x) (sym given) there)
    (subst (λ (x : World Served). ShowsIn (following turned.outcome) (command ∷ w.sent) w.reports x) (sym given) shows)
    exchanged

plain-commands : (old new : Desk) (reader : Option Reader) (command : List ℕ) (prints : Print) → old.reader ≡ reader
    → InStepBy reader old → is_command command ≡ true → ShowsNone (asked command)
    → Commands old reader command new prints → counts_of new.bench ≡ counts_of old.bench
plain-commands old new None command prints is there sound none run = ap (λ (d : Desk). counts_of d.bench) run.0
plain-commands old new (Some reader) command prints is there sound none (after, ending, exchanged, left, printed) =
    let same : there.in_world.reader ≡ reader = some-same _ _ (sym there.in_world.may_send ∙ is) in
    plain-exchanged there.start there.events (record { bench = old.bench; reader = reader; line = old.line })
    (record { bench = new.bench; reader = after; line = new.line }) command ending there.proper
    (subst (λ (r : Reader). StandIn old.bench r (comes_of tree_machine there.start there.events)) same
    there.in_world.stands) there.in_world.calm sound none exchanged
  where
    some-same : (a b : Reader) → Some a ≡ Some b → a ≡ b
    some-same a b e = cc

plain-command : (bench : BenchState) (old new : Desk) (command : List ℕ) (prints : Print) → IsInStep old
    → is_command command ≡ true → ShowsNone (asked command) → PerformsCommand bench old command new prints
    → counts_of new.bench ≡ counts_of old.bench
plain-command (off facts) old new command prints there sound none run = ap (λ (d : Desk). counts_of d.bench) run.0
plain-command (on p) old new command prints there sound none run =
    plain-commands old new old.reader command prints refl there sound none run

-- power on and off
counts-off : (b : BenchState) → counts_of (switched_off b) ≡ counts_of b
counts-off b = refl

plain-on : (came : Item) (old new : BenchState) → GoodTurn old turn.On came new → counts_of new ≡ counts_of old
plain-on item.Atr old new good = λ i. record {
  compares = good.one.1.compares i;
  matches = good.one.1.matches i;
}
plain-on item.Quiet old new good = absurd good.one
plain-on item.Mute old new good = same-counts (switched_off old) new good.one.0
plain-on item.Dark old new good = λ i. record {
  compares = good.one.1.compares i;
  matches = good.one.1.matches i;
}
plain-on (item.Reply block) old new good = absurd good.one

-- a cut that is set
counts-with : (b : BenchState) (f : Facts) → bench_facts (with_facts b f) ≡ f
counts-with (off facts) f = refl
counts-with (on p) f = refl

plain-armed : (number mask : ℕ) (old new : BenchState) → IsArmed number mask old new → counts_of new ≡ counts_of old
plain-armed number mask old new armed =
    same-counts _ new armed.same ∙ ap (λ (f : Facts). comparisons f) (counts-with old _)

pub compares-none : ComparesNoneLaw
compares-none Nothing old new prints there sized bytes plain run = ap (λ (d : Desk). counts_of d.bench) run.0
compares-none On old new prints there sized bytes plain run = plain-on run.outcome old.bench new.bench run.turn
compares-none Off old new prints there sized bytes plain run =
    same-counts (switched_off old.bench) new.bench run.turn.one
compares-none Free old new prints there sized bytes plain run = ap (λ (d : Desk). counts_of d.bench) run.0
compares-none (Apdu command) old new prints there sized bytes plain run =
    plain-command old.bench old new command prints there (command-so command sized.0 sized.1 bytes)
    (plain-asked command plain) run
compares-none (Block block) old new prints there sized bytes plain run = absurd (plain tt)
compares-none (Cut number mask) old new prints there sized bytes plain run =
    plain-armed number mask old.bench new.bench run.armed
compares-none (Lose number) old new prints there sized bytes plain run = ap (λ (d : Desk). counts_of d.bench) run.0
compares-none (Garble number) old new prints there sized bytes plain run = ap (λ (d : Desk). counts_of d.bench) run.0

-- a desk without a reader's end is in step
pub step_none : (d : Desk) → d.reader ≡ None → IsInStep d
step_none d none = subst (λ (r : Option Reader). InStepBy r d) (sym none) tt

-- and one in a world
step-in : (start : Served) (events : List Event) (d : Desk) → IsProperState start → IsInWorld start events d
    → IsInStep d
step-in start events d proper there =
    subst (λ (r : Option Reader). InStepBy r d) (sym there.may_send)
    (record { start = start; proper = proper; events = events; in_world = there })

step-on : (came : Item) (old new : Desk) (prints : Print) → GoodTurn old.bench turn.On came new.bench
    → new.reader ≡ reader_after came → prints ≡ shown came → BenchHasCard new.bench
    → TakesTurn turn.On old new prints → IsInStep new
step-on item.Atr old new prints good reader printed there run =
    let begun = power-on-begins old new there (subst (λ (p : Print). TakesTurn turn.On old new p) printed run) in
    step-in begun.start [] new begun.proper begun.in_world
step-on item.Quiet old new prints good reader printed there run = step_none new reader
step-on item.Mute old new prints good reader printed there run = step_none new reader
step-on item.Dark old new prints good reader printed there run = step_none new reader
step-on (item.Reply block) old new prints good reader printed there run = step_none new reader

-- an order that leaves the reader's end
module _ (order : Order) (old new : Desk) (prints : Print) where
  step-stays : (reader : Option Reader) → old.reader ≡ reader → new.reader ≡ old.reader → InStepBy reader old
      → IsOrderSized order → IsOrderOfBytes order → Performs order old new prints
      → ((start : Served) (events : List Event) → LineInWorld order start events old new prints
      → IsInWorld start events new) → IsInStep new
  step-stays None is same there sized bytes run line = step_none new (same ∙ is)
  step-stays (Some reader) is same there sized bytes run line =
      step-in there.start there.events new there.proper (line there.start there.events
      (line-goes_on there.start there.events order old new prints there.proper there.in_world sized bytes run))

-- a command
step-ended : (start : Served) (events : List Event) (command : List ℕ) (old new : Desk) (prints : Print)
    (ending : Ended) → IsProperState start → (run : CommandInWorld command start events old new prints)
    → run.ending ≡ ending → IsInStep new
step-ended start events command old new prints (answered answer) proper run is =
    let on_ = run.goes_on (subst (λ (e : Ended). ways.GoesOn e) (sym is) tt) in step-in start _ new proper on_.1
step-ended start events command old new prints set_back proper run is =
    let on_ = run.goes_on (subst (λ (e : Ended). ways.GoesOn e) (sym is) tt) in step-in start _ new proper on_.1
step-ended start events command old new prints link_lost proper run is =
    step_none new (run.left ∙ ap (λ (e : Ended). left_by e run.reader) is)
step-ended start events command old new prints power_lost proper run is =
    step_none new (run.left ∙ ap (λ (e : Ended). left_by e run.reader) is)

step-command : (bench : BenchState) (old new : Desk) (command : List ℕ) (prints : Print) (reader : Option Reader)
    → old.reader ≡ reader → InStepBy reader old → IsOrderSized (Apdu command) → IsOrderOfBytes (Apdu command)
    → Performs (Apdu command) old new prints → PerformsCommand bench old command new prints → IsInStep new
step-command bench old new command prints (Some reader) is there sized bytes run performs =
    let line = line-goes_on there.start there.events (Apdu command) old new prints there.proper there.in_world sized
    bytes run in
    step-ended there.start there.events command old new prints line.ending there.proper line refl
step-command (off facts) old new command prints None is there sized bytes run performs =
    step_none new (ap (λ (d : Desk). d.reader) performs.0 ∙ is)
step-command (on p) old new command prints None is there sized bytes run performs =
    let none = subst (λ (r : Option Reader). Commands old r command new prints) is performs in
    step_none new (ap (λ (d : Desk). d.reader) none.0 ∙ is)

pub in_step : InStepLaw
in_step Nothing old new prints there sized bytes card run =
    subst IsInStep (sym run.0) there
in_step On old new prints there sized bytes card run =
    step-on run.outcome old new prints run.turn run.reader run.printed card run
in_step Off old new prints there sized bytes card run = step_none new run.reader
in_step Free old new prints there sized bytes card run = subst IsInStep (sym run.0) there
in_step (Apdu command) old new prints there sized bytes card run =
    step-command old.bench old new command prints old.reader refl there sized bytes run run
in_step (Block block) old new prints there sized bytes card run = step_none new run.reader
in_step (Cut number mask) old new prints there sized bytes card run =
    step-stays (Cut number mask) old new prints old.reader refl run.reader there sized bytes run
    (λ start events line. line)
in_step (Lose number) old new prints there sized bytes card run =
    step-stays (Lose number) old new prints old.reader refl (ap (λ (d : Desk). d.reader) run.0) there sized bytes run
    (λ start events line. line)
in_step (Garble number) old new prints there sized bytes card run =
    step-stays (Garble number) old new prints old.reader refl (ap (λ (d : Desk). d.reader) run.0) there sized bytes run
    (λ start events line. line)
