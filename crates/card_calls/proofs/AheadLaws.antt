-- Each order pays for its comparisons from its first device write on: a command runs at most once in an exchange, and
-- before and after it nothing is written.
use Rattle.std.specs.Prelude.{◌≡◌, ◌≤◌, ◌⊎◌, ℕ, zero, suc, true, false, List, [], ◌∷◌, Option, None, Some, Result}
use Rattle.std.specs.Prelude.{Ok, Err, take}
use Rattle.std.proofs.Common.{◌∙◌, ap, arith, inl, inr, refl, subst, sym}
use Rattle.std.proofs.Math.Logic.{⊎_map}
use Rattle.nvm_board.specs.Aims.{events}
use Rattle.nvm_board.specs.History.{Log, and_runs, replayed}
use Rattle.nvm_board.specs.laws.History.{wrote_none}
use Rattle.undo_journal.specs.Spending.{KeepsBoard}
use Rattle.command_base.specs.Comparing.{Comparisons, comparisons}
use Rattle.command_base.specs.Finding.{found}
use Rattle.t1_link.specs.declared.sequence_number.SequenceNumber.{SequenceNumber}
use Rattle.t1_link.specs.Blocks.{Block as LinkBlock}
use Rattle.t1_link.specs.CardTable.{Link, Reaction, link_step, replies, runs}
use Rattle.t1_link.specs.ReaderTable.{Reader, Turned, is_busy, reader_sends, reader_step, reader_times_out}
use Rattle.t1_link.specs.TreeMachine.{IsProperState, Served, tree_machine}
use Rattle.t1_link.specs.WorldLaw.{comes_of, is_under_way}
use Rattle.t1_link.specs.Worlds.{Event, Report, World, is_command, quiet, send, turning, world_step}
use Rattle.t1_link.proofs.TreeAnswers.{tree-answers}
use Rattle.t1_link.proofs.WorldLawful.{world-lawful}
use Rattle.bench_lines.specs.Orders.{Order, Nothing, On, Off, Free, Apdu, Block, Cut, Lose, Garble, IsOrderSized}
use Rattle.bench_lines.specs.Printouts.{Print}
use Rattle.bench_lines.specs.Spellings.{IsOrderOfBytes}
use Rattle.bench_turns.specs.BenchStates.{BenchState, off, on, bench_facts}
use Rattle.bench_turns.specs.CardBlocks.{BlockChangesNothing, IsRun, Powered, answering}
use Rattle.bench_turns.specs.Guessing.{EachWritePays, ImagePays, PaysAhead}
use Rattle.bench_turns.proofs.FewGuesses.{pays-nothing, pays-on}
use Rattle.card_bench.specs.ExchangeWorlds.{StandIn, fate, bytes_of_line}
use Rattle.card_bench.specs.Exchanges.{Arrives, CardTakes, Commands, Desk, Ended, Ends, Exchanged, Exchanges}
use Rattle.card_bench.specs.Exchanges.{GoesThrough, NextBlock, Passes, answered, bytes_under_way, following}
use Rattle.card_bench.specs.Exchanges.{link_lost, power_lost, set_back}
use Rattle.card_bench.specs.Exchanges as ways
use Rattle.card_bench.specs.Lines as lines
use Rattle.card_bench.specs.Performing.{Performs, PerformsCommand}
use Rattle.card_bench.specs.declared.reader_turns.TheConstants.{LINE_BLOCKS}
use Rattle.card_bench.proofs.ExchangeInWorld.{given-so, reached, reached-step, ready-so, stands-sent}
use Rattle.card_bench.proofs.ExchangeSteps.{IsReached, IsWay, ShowsIn, goes_there}
use Rattle.card_bench.proofs.ExchangeSteps.{passed, same-reader, shows-noted, stands-turned, stepped, stepped-is}
use Rattle.card_bench.proofs.ScriptInWorld.{command-so}
use Rattle.card_bench.proofs.WrittenLines.{performs_wrote}
use Rattle.card_calls.specs.InStep.{InStepBy, IsInStep}
use Rattle.card_calls.proofs.InStepLaws.{compares-none}
use Rattle.card_calls.proofs.PastRuns.{ArrivesBy, IsPast, PassesBy, past-takes, past-times_out, past-turned, passes-by}

-- nothing was written, and nothing compared
record IsStill (old new : BenchState) : Type 0 where
  words : (bench_facts new).words ≡ (bench_facts old).words
  log : (bench_facts new).log ≡ (bench_facts old).log
  more : events (bench_facts old) ≤ events (bench_facts new)
  counts : comparisons (bench_facts new) ≡ comparisons (bench_facts old)

still-same : (old new : BenchState) → new ≡ old → IsStill old new
still-same old new same = record {
  words = ap (λ (b : BenchState). (bench_facts b).words) same;
  log = ap (λ (b : BenchState). (bench_facts b).log) same;
  more = let e = ap (λ (b : BenchState). events (bench_facts b)) same in omega (arith, e);
  counts = ap (λ (b : BenchState). comparisons (bench_facts b)) same;
}

still-then : (a b c : BenchState) → IsStill a b → IsStill b c → IsStill a c
still-then a b c first rest = record {
  words = rest.words ∙ first.words;
  log = rest.log ∙ first.log;
  more = omega (arith, first.more, rest.more);
  counts = rest.counts ∙ first.counts;
}

still-board : (old new : BenchState) → KeepsBoard (bench_facts old) (bench_facts new) → IsStill old new
still-board old new kept = record {
  words = kept.words;
  log = kept.cut.log;
  more = kept.cut.more;
  counts = λ i. record { compares = kept.compares i; matches = kept.matches i };
}

-- where nothing is written nothing is to be paid for
still-pays : (old new : BenchState) → IsStill old new → PaysAhead old new
still-pays old new still = record {
  wrote = wrote_none (bench_facts old) (bench_facts new) still.words still.log still.more;
  paid = inl still.counts;
}

-- what is still before the first write
module _ (a b c : BenchState) (still : IsStill a b) (rest : PaysAhead b c) where
  abbrev made : Comparisons
  made = comparisons (bench_facts c)

  image-pays : (image : List ℕ) → ImagePays b image made → ImagePays a image made
  image-pays image paid =
      let few = pays-on a b _ (pays-nothing a b (ap found still.words) still.counts) paid.pays in
      record {
        has_card = paid.has_card;
        pays = record { values = few.values; unblocking_values = few.unblocking_values };
      }

  each-pays : EachWritePays b rest.wrote.runs made → EachWritePays a rest.wrote.runs made
  each-pays all = record {
    some = all.some;
    each = λ k some most. subst (λ (m : List ℕ). ImagePays a (replayed m (take k rest.wrote.runs)) made) still.words
        (image-pays _ (all.each k some most));
  }

  pays-behind : PaysAhead a c
  pays-behind = record {
    wrote = record {
      runs = rest.wrote.runs;
      words = rest.wrote.words ∙ ap (λ (m : List ℕ). replayed m rest.wrote.runs) still.words;
      log = rest.wrote.log ∙ ap (λ (l : Option Log). and_runs l rest.wrote.runs) still.log;
      counted = let counted = rest.wrote.counted in let more = still.more in omega (arith, counted, more);
    };
    paid = ⊎_map (λ same. same ∙ still.counts) each-pays rest.paid;
  }

-- and after it
pays-before : (a b c : BenchState) → PaysAhead a b → IsStill b c → PaysAhead a c
pays-before a b c first still = record {
  wrote = record {
    runs = first.wrote.runs;
    words = still.words ∙ first.wrote.words;
    log = still.log ∙ first.wrote.log;
    counted = let counted = first.wrote.counted in let more = still.more in omega (arith, counted, more);
  };
  paid = ⊎_map (λ same. still.counts ∙ same)
      (λ pays. subst (λ (made : Comparisons). EachWritePays a first.wrote.runs made) (sym still.counts) pays)
      first.paid;
}

-- the command is behind both ends of a powered bench
abbrev BehindAt : BenchState → Reader → Type 0
BehindAt (off facts) r = ⊥
BehindAt (on p) r = IsPast p.link.nr r

-- the same where a block follows
abbrev BehindIf : Result NextBlock Ended → BenchState → Reader → Type 0
BehindIf (Ok next) b r = BehindAt b r
BehindIf (Err ended) b r = Unit {0}

-- what comes of a block on the line: nothing, or the command runs and is behind both ends
abbrev RunsOrStill : Ends → Ends → Result NextBlock Ended → Type 0
RunsOrStill old new follows = IsStill old.bench new.bench
    ⊎ (PaysAhead old.bench new.bench × BehindIf follows new.bench new.reader)

-- where the command is behind
abbrev StillBehind : Ends → Ends → Result NextBlock Ended → Type 0
StillBehind old new follows = IsStill old.bench new.bench × BehindIf follows new.bench new.reader

-- by the reaction of the card's end
by-reaction : {X : Type 0} (r : Reaction) → ((block : LinkBlock) → r ≡ replies block → X)
    → ((command : List ℕ) → r ≡ runs command → X) → X
by-reaction (replies block) idle ran = idle block refl
by-reaction (runs command) idle ran = ran command refl

-- it replies by itself
module _ (p : Powered) (r : Reaction) where
  idle-so : ((command : List ℕ) → r ≡ runs command → ⊥) → BlockChangesNothing p r
  idle-so none = by-reaction r (λ block is. subst (BlockChangesNothing p) (sym is) tt)
      (λ command is. absurd (none command is))

  linked-so : (l new : Link) (answer_to : List ℕ → List ℕ) → ((command : List ℕ) → r ≡ runs command → ⊥)
      → new ≡ (answering l r answer_to).link → new ≡ l
  linked-so l new answer_to none is = by-reaction r
      (λ block e. is ∙ ap (λ (x : Reaction). (answering l x answer_to).link) e)
      (λ command e. absurd (none command e))

  ran-so : (l new : Link) (answer_to : List ℕ → List ℕ) (command : List ℕ) → r ≡ runs command
      → new ≡ (answering l r answer_to).link → new.nr ≡ l.nr
  ran-so l new answer_to command e is =
      ap (λ (x : Link). x.nr) (is ∙ ap (λ (x : Reaction). (answering l x answer_to).link) e)

  run-so : IsRun r → ((command : List ℕ) → r ≡ runs command → ⊥) → ⊥
  run-so run none = by-reaction r (λ block is. subst IsRun is run) none

-- the card's end took a block
module _ (w : World Served) where
  taken-first : (bench after : BenchState) (old : Ends) (new : Ends) (got : List ℕ) (follows : Result NextBlock Ended)
      → PassesBy w (link_step w.card got) → StandIn bench old.reader w → new.reader ≡ old.reader
      → CardTakes bench got after follows
      → IsStill bench after ⊎ (PaysAhead bench after × BehindIf follows after new.reader)
  taken-first (off facts) after old new got follows passes s same t = absurd s
  taken-first (on p) after old new got (Ok (ways.toward_card bytes)) passes s same t = absurd t
  taken-first (on p) (off facts) old new got (Ok (ways.toward_reader bytes)) passes s same t = absurd t.one
  taken-first (on p) (on after) old new got (Ok (ways.toward_reader bytes)) passes s same t =
      by-reaction (link_step p.link got).reaction
      (λ block is. inl (still-board (on p) (on after) (t.one.idle (subst (BlockChangesNothing p) (sym is) tt))))
      (λ command is. inr (
        t.ahead,
        let here = passes.goes command
            (ap (λ (l : Link). (link_step l got).reaction) (sym s.link_is) ∙ is) in
            let number = ran-so p (link_step p.link got).reaction (link_step p.link got).link after.link _ command is
            t.one.link ∙ ap (λ (l : Link). (link_step l got).link.nr) s.link_is in
            subst (λ (n : SequenceNumber). IsPast n new.reader) (sym number)
            (subst (IsPast (link_step w.card got).link.nr) (sym (same ∙ s.reader_is)) here),
      ))
  taken-first (on p) after old new got (Err (answered answer)) passes s same t = absurd t
  taken-first (on p) after old new got (Err set_back) passes s same t = absurd t
  taken-first (on p) after old new got (Err link_lost) passes s same t = absurd t
  taken-first (on p) after old new got (Err power_lost) passes s same t = inr (t.ahead, tt)

  taken-behind : (bench after : BenchState) (old : Ends) (new : Ends) (got : List ℕ) (follows : Result NextBlock Ended)
      → PassesBy w (link_step w.card got) → StandIn bench old.reader w → new.reader ≡ old.reader
      → BehindAt bench old.reader → CardTakes bench got after follows
      → IsStill bench after × BehindIf follows after new.reader
  taken-behind (off facts) after old new got follows passes s same past t = absurd s
  taken-behind (on p) after old new got (Ok (ways.toward_card bytes)) passes s same past t = absurd t
  taken-behind (on p) (off facts) old new got (Ok (ways.toward_reader bytes)) passes s same past t = absurd t.one
  taken-behind (on p) (on after) old new got (Ok (ways.toward_reader bytes)) passes s same past t =
      let stays = passes.stays (subst (IsPast w.card.nr) s.reader_is (subst (λ (l : Link). IsPast l.nr old.reader)
      s.link_is past)) in
      let none : (command : List ℕ) → (link_step p.link got).reaction ≡ runs command → ⊥ = λ command is. stays.0 command
      (ap (λ (l : Link). (link_step l got).reaction) (sym s.link_is) ∙ is) in
      let link = linked-so p (link_step p.link got).reaction (link_step p.link got).link after.link _ none t.one.link
      ∙ ap (λ (l : Link). (link_step l got).link) s.link_is in (
        still-board (on p) (on after) (t.one.idle (idle-so p (link_step p.link got).reaction none)),
        subst (λ (l : Link). IsPast l.nr new.reader) (sym link)
            (subst (IsPast (link_step w.card got).link.nr) (sym (same ∙ s.reader_is)) stays.1),
      )
  taken-behind (on p) after old new got (Err (answered answer)) passes s same past t = absurd t
  taken-behind (on p) after old new got (Err set_back) passes s same past t = absurd t
  taken-behind (on p) after old new got (Err link_lost) passes s same past t = absurd t
  taken-behind (on p) after old new got (Err power_lost) passes s same past t =
      let stays = passes.stays (subst (IsPast w.card.nr) s.reader_is (subst (λ (l : Link). IsPast l.nr old.reader)
      s.link_is past)) in
      absurd (run-so p (link_step p.link got).reaction t.one.run (λ command is. stays.0 command
      (ap (λ (l : Link). (link_step l got).reaction) (sym s.link_is) ∙ is)))

  -- what arrives of a block on the line
  arrived-first : (old new : Ends) (way : NextBlock) (o : Option (List ℕ)) (follows : Result NextBlock Ended)
      (start : Served)
      → (goes_there way ≡ true → ArrivesBy start w o) → StandIn old.bench old.reader w → Arrives old way o new follows
      → RunsOrStill old new follows
  arrived-first old new (ways.toward_card block) None follows start passes s a =
      inl (still-same old.bench new.bench a.0)
  arrived-first old new (ways.toward_reader block) None follows start passes s a =
      inl (still-same old.bench new.bench a.0)
  arrived-first old new (ways.toward_card block) (Some got) follows start passes s a =
      taken-first old.bench new.bench old new got follows (passes refl) s a.0 a.1
  arrived-first old new (ways.toward_reader block) (Some got) follows start passes s a =
      inl (still-same old.bench new.bench a.0)

  -- the reader's end turned, and the command stays behind
  turned-behind : (old new : Ends) (follows : Result NextBlock Ended)
      → ((number : SequenceNumber) → IsPast number old.reader → (next : NextBlock) → follows ≡ Ok next
      → IsPast number new.reader)
      → new.bench ≡ old.bench → BehindAt old.bench old.reader → BehindIf follows new.bench new.reader
  turned-behind old new (Err ended) stays same past = tt
  turned-behind old new (Ok next) stays same past =
      subst (λ (b : BenchState). BehindAt b new.reader) (sym same) (by old.bench past)
    where
      by : (b : BenchState) → BehindAt b old.reader → BehindAt b new.reader
      by (off facts) past = past
      by (on p) past = stays p.link.nr past next refl

  arrived-behind : (old new : Ends) (way : NextBlock) (o : Option (List ℕ)) (follows : Result NextBlock Ended)
      (start : Served)
      → (goes_there way ≡ true → ArrivesBy start w o) → StandIn old.bench old.reader w
      → BehindAt old.bench old.reader → Arrives old way o new follows → StillBehind old new follows
  arrived-behind old new (ways.toward_card block) None follows start passes s past a = (
    still-same old.bench new.bench a.0,
    turned-behind old new follows (λ number here next is. past-turned number
        (reader_times_out old.reader) new.reader next (past-times_out number old.reader here)
        (subst (λ (f : Result NextBlock Ended). ways.ReaderTurns (reader_times_out old.reader) new.reader f) is a.1))
        a.0 past,
  )
  arrived-behind old new (ways.toward_reader block) None follows start passes s past a = (
    still-same old.bench new.bench a.0,
    turned-behind old new follows (λ number here next is. past-turned number
        (reader_times_out old.reader) new.reader next (past-times_out number old.reader here)
        (subst (λ (f : Result NextBlock Ended). ways.ReaderTurns (reader_times_out old.reader) new.reader f) is a.1))
        a.0 past,
  )
  arrived-behind old new (ways.toward_card block) (Some got) follows start passes s past a =
      taken-behind old.bench new.bench old new got follows (passes refl) s a.0 past a.1
  arrived-behind old new (ways.toward_reader block) (Some got) follows start passes s past a = (
    still-same old.bench new.bench a.0,
    turned-behind old new follows (λ number here next is. past-turned number
        (reader_step old.reader got) new.reader next (past-takes number old.reader _ here)
        (subst (λ (f : Result NextBlock Ended). ways.ReaderTurns (reader_step old.reader got) new.reader f) is a.1))
        a.0 past,
  )

-- a block on the line
module _ (start : Served) (w : World Served) (old new : Ends) (way : NextBlock) (follows : Result NextBlock Ended)
    (reached : IsReached start w) (s : StandIn old.bench old.reader w) (is : IsWay way w.line)
    (passes : Passes old way new follows) where
  passed-first : RunsOrStill old new follows
  passed-first = arrived-first w old new way (lines.arriving old.line 0 (bytes_under_way way)) follows start
      (passes-by start w way old.line reached is) s passes.arrives

  passed-behind : BehindAt old.bench old.reader → StillBehind old new follows
  passed-behind past = arrived-behind w old new way (lines.arriving old.line 0 (bytes_under_way way)) follows start
      (passes-by start w way old.line reached is) s past passes.arrives

-- the world after a block, in which the next one is under way
record GoesOn (start : Served) (w : World Served) (between : Ends) (next : NextBlock) : Type 0 where
  after : World Served
  there : IsReached start after
  stands : StandIn between.bench between.reader after
  way_is : IsWay next after.line

goes-on : (start : Served) (w : World Served) (old between : Ends) (way next : NextBlock) → IsProperState start
    → IsReached start w → StandIn old.bench old.reader w → IsWay way w.line → Passes old way between (Ok next)
    → GoesOn start w between next
goes-on start w old between way next proper reached s is passes =
    let leads = subst (λ (x : World Served). StandIn between.bench between.reader x × ShowsIn (Ok next) w.sent
    w.reports x) (sym (stepped-is w old.line)) (passed start w old between way (Ok next) reached s is passes) in
    record {
      after = stepped old.line w;
      there = reached-step start w (fate old.line (bytes_of_line w.line)) proper reached;
      stands = leads.0;
      way_is = leads.1.way_is;
    }

-- an exchange after the command ran
goes-behind : (start : Served) (limit : ℕ) (w : World Served) (old new : Ends) (way : NextBlock) (ending : Ended)
    → IsProperState start → IsReached start w → StandIn old.bench old.reader w → IsWay way w.line
    → BehindAt old.bench old.reader → Exchanges limit old way new ending → IsStill old.bench new.bench
unfolding Exchanges
goes-behind start zero w old new way ending proper reached s is past run =
    still-same old.bench new.bench (ap (λ (e : Ends). e.bench) run.0)
goes-behind start (suc limit) w old new way ending proper reached s is past (inl passes) =
    (passed-behind start w old new way (Err ending) reached s is passes past).0
goes-behind start (suc limit) w old new way ending proper reached s is past (inr (between, next, passes, run)) =
    let on_ = goes-on start w old between way next proper reached s is passes in
    let step = passed-behind start w old between way (Ok next) reached s is passes past in
    still-then old.bench between.bench new.bench step.0
    (goes-behind start limit on_.after between new next ending proper on_.there on_.stands on_.way_is step.1 run)

-- and from its begin
goes-first : (start : Served) (limit : ℕ) (w : World Served) (old new : Ends) (way : NextBlock) (ending : Ended)
    → IsProperState start → IsReached start w → StandIn old.bench old.reader w → IsWay way w.line
    → Exchanges limit old way new ending → PaysAhead old.bench new.bench
unfolding Exchanges
goes-first start zero w old new way ending proper reached s is run =
    still-pays old.bench new.bench (still-same old.bench new.bench (ap (λ (e : Ends). e.bench) run.0))
goes-first start (suc limit) w old new way ending proper reached s is (inl passes) =
    elim (passed-first start w old new way (Err ending) reached s is passes) [
      | inl still ↦ still-pays old.bench new.bench still
      | inr ran ↦ ran.0
    ]
goes-first start (suc limit) w old new way ending proper reached s is (inr (between, next, passes, run)) =
    let on_ = goes-on start w old between way next proper reached s is passes in
    elim (passed-first start w old between way (Ok next) reached s is passes) [
      | inl still ↦ pays-behind old.bench between.bench new.bench still
          (goes-first start limit on_.after between new next ending proper on_.there on_.stands on_.way_is run)
      | inr ran ↦ pays-before old.bench between.bench new.bench ran.0
          (goes-behind start limit on_.after between new next ending proper on_.there on_.stands on_.way_is ran.1 run)
    ]

through-ahead : (start : Served) (f : Result NextBlock Ended) (w : World Served) (sent : List (List ℕ))
    (earlier : List Report) (here new : Ends) (ending : Ended) → IsProperState start → IsReached start w
    → StandIn here.bench here.reader w → ShowsIn f sent earlier w → GoesThrough f here new ending
    → PaysAhead here.bench new.bench
through-ahead start (Ok way) w sent earlier here new ending proper reached s shows run =
    goes-first start LINE_BLOCKS w here new way ending proper reached s shows.way_is run
through-ahead start (Err ended) w sent earlier here new ending proper reached s shows run =
    still-pays here.bench new.bench (still-same here.bench new.bench (ap (λ (e : Ends). e.bench) run.0))

-- the exchange of a command
exchanged-ahead : (start : Served) (events : List Event) (old new : Ends) (command : List ℕ) (ending : Ended)
    → IsProperState start → StandIn old.bench old.reader (comes_of tree_machine start events)
    → (comes_of tree_machine start events).line ≡ quiet → is_command command ≡ true
    → Exchanged old command new ending → PaysAhead old.bench new.bench
exchanged-ahead start events old new command ending proper stands calm sound exchanged =
    let w : World Served = comes_of tree_machine start events in
    let lawful = world-lawful tree_machine IsProperState tree-answers start events proper in
    let free : is_busy w.reader.phase ≡ false = sym lawful.under_way ∙ ap is_under_way calm in
    let sent : World Served = record w { sent = command ∷ w.sent; offered = [] } in
    let turned : Turned = reader_sends old.reader command in
    let same : old.reader ≡ w.reader = same-reader old.bench old.reader w stands in
    let given : world_step tree_machine w (send command) ≡ turning sent turned =
    given-so w command (ready-so w.reader command free sound)
    ∙ ap (λ (r : Reader). turning sent (reader_sends r command)) (sym same) in
    let there : StandIn old.bench turned.reader (turning sent turned) =
    stands-turned old.bench old.reader sent turned (stands-sent old.bench old.reader w command stands) in
    let shows : ShowsIn (following turned.outcome) (command ∷ w.sent) w.reports (turning sent turned) =
    shows-noted (record sent { reader = turned.reader }) turned.outcome in
    through-ahead start (following turned.outcome) (world_step tree_machine w (send command)) (command ∷ w.sent)
    w.reports (record old { reader = turned.reader }) new ending proper (reached-step start w (send command) proper
    (reached start events proper))
    (subst (λ (x : World Served). StandIn old.bench turned.reader x) (sym given) there)
    (subst (λ (x : World Served). ShowsIn (following turned.outcome) (command ∷ w.sent) w.reports x) (sym given) shows)
    exchanged

same-ahead : (old new : Desk) → new ≡ old → PaysAhead old.bench new.bench
same-ahead old new same =
    still-pays old.bench new.bench (still-same old.bench new.bench (ap (λ (d : Desk). d.bench) same))

some-same : (a b : Reader) → Some a ≡ Some b → a ≡ b
some-same a b e = cc

commands-ahead : (old new : Desk) (reader : Option Reader) (command : List ℕ) (prints : Print) → old.reader ≡ reader
    → InStepBy reader old → is_command command ≡ true → Commands old reader command new prints
    → PaysAhead old.bench new.bench
commands-ahead old new None command prints is there sound run = same-ahead old new run.0
commands-ahead old new (Some reader) command prints is there sound (after, ending, exchanged, left, printed) =
    let same : there.in_world.reader ≡ reader = some-same _ _ (sym there.in_world.may_send ∙ is) in
    exchanged-ahead there.start there.events (record { bench = old.bench; reader = reader; line = old.line })
    (record { bench = new.bench; reader = after; line = new.line }) command ending there.proper
    (subst (λ (r : Reader). StandIn old.bench r (comes_of tree_machine there.start there.events)) same
    there.in_world.stands) there.in_world.calm sound exchanged

command-ahead : (bench : BenchState) (old new : Desk) (command : List ℕ) (prints : Print) → IsInStep old
    → is_command command ≡ true → PerformsCommand bench old command new prints → PaysAhead old.bench new.bench
command-ahead (off facts) old new command prints there sound run = same-ahead old new run.0
command-ahead (on p) old new command prints there sound run =
    commands-ahead old new old.reader command prints refl there sound run

-- an order that can't compare
plain-ahead : (order : Order) (old new : Desk) (prints : Print)
    → comparisons (bench_facts new.bench) ≡ comparisons (bench_facts old.bench) → Performs order old new prints
    → PaysAhead old.bench new.bench
plain-ahead order old new prints none run =
    record { wrote = (performs_wrote order old new prints run).wrote; paid = inl none }

-- any order
pub order_ahead : (order : Order) (old new : Desk) (prints : Print) → IsInStep old → IsOrderSized order
    → IsOrderOfBytes order → Performs order old new prints → PaysAhead old.bench new.bench
order_ahead Nothing old new prints there sized bytes run =
    plain-ahead Nothing old new prints (compares-none Nothing old new prints there sized bytes (λ may. may) run) run
order_ahead On old new prints there sized bytes run =
    plain-ahead On old new prints (compares-none On old new prints there sized bytes (λ may. may) run) run
order_ahead Off old new prints there sized bytes run =
    plain-ahead Off old new prints (compares-none Off old new prints there sized bytes (λ may. may) run) run
order_ahead Free old new prints there sized bytes run =
    plain-ahead Free old new prints (compares-none Free old new prints there sized bytes (λ may. may) run) run
order_ahead (Apdu command) old new prints there sized bytes run =
    command-ahead old.bench old new command prints there (command-so command sized.0 sized.1 bytes) run
order_ahead (Block block) old new prints there sized bytes run = run.turn.ahead
order_ahead (Cut number mask) old new prints there sized bytes run =
    plain-ahead (Cut number mask) old new prints
    (compares-none (Cut number mask) old new prints there sized bytes (λ may. may) run) run
order_ahead (Lose number) old new prints there sized bytes run =
    plain-ahead (Lose number) old new prints
    (compares-none (Lose number) old new prints there sized bytes (λ may. may) run) run
order_ahead (Garble number) old new prints there sized bytes run =
    plain-ahead (Garble number) old new prints
    (compares-none (Garble number) old new prints there sized bytes (λ may. may) run) run
