-- Each block that goes on the line in an exchange is one event of the world.
use Rattle.std.specs.Prelude.{◌≡◌, ℕ, Bool, true, false, if◌then◌else◌, List, Option, Some, None, Result, Ok, Err, refl}
use Rattle.std.proofs.Common.{ap, sym, subst, ◌∙◌}
use Rattle.t1_link.specs.declared.reader_end.Failure.{Failure}
use Rattle.t1_link.specs.declared.block.Fault.{Fault}
use Rattle.t1_link.specs.declared.block.Fault.TheVariants.{WrongCheck}
use Rattle.t1_link.specs.Blocks.{Block, frame}
use Rattle.t1_link.specs.BlockLaws.{heard-frame}
use Rattle.t1_link.specs.CardTable.{Link, Reaction, Taken, answers, reply_bytes, card_takes, link_step, replies, runs}
use Rattle.t1_link.specs.ReaderTable.{CommandReport, Reader, Turned, fails, gives, reader_step, reader_times_out}
use Rattle.t1_link.specs.ReaderTable.{sends, unknown}
use Rattle.card_model.specs.Cards.{Card}
use Rattle.card_start.specs.Running.{card_found}
use Rattle.card_model.specs.CommandTable.{asked}
use Rattle.card_model.specs.Steps.{IsStage, answer_bytes}
use Rattle.command_base.specs.CommitWords.{StandsAsked}
use Rattle.card_bench.specs.Exchanges.{Ended}
use Rattle.card_bench.specs.Exchanges.{answered, set_back, link_lost, power_lost}
use Rattle.card_bench.specs.declared.line.Line.{Line}
use Rattle.bench_turns.specs.BenchStates.{BenchState, off, on, bench_card, bench_facts}
use Rattle.bench_turns.specs.CardBlocks.{BlockStands, IsBlockStage, IsRun, Powered, Replies, answering, card_by}
use Rattle.bench_turns.specs.CardBlocks.{machine, session_by}
use Rattle.card_bench.specs.Exchanges.{Arrives, CardTakes, Ends, Passes, NextBlock, bytes_under_way, following}
use Rattle.card_bench.specs.Exchanges.{ReaderTurns}
use Rattle.card_bench.specs.Exchanges as ways
use Rattle.card_bench.specs.ExchangeWorlds.{AreOfWorld, ExchangeIsCut, IsReported, StandIn, bytes_of_line}
use Rattle.card_bench.specs.ExchangeWorlds.{fate, state_served}
use Rattle.card_bench.specs.Lines as lines
use Rattle.t1_link.specs.Garbled.{last_bit_turned}
use Rattle.card_bench.specs.Lines.{is_due, line_after}
use Rattle.t1_link.specs.TreeMachine.{IsProperState, Served, tree_machine}
use Rattle.t1_link.specs.Worlds.{Arrival, Done, Failed, Line as WorldLine, Report, Unknown, World, arrival}
use Rattle.t1_link.specs.Worlds.{after_arrival, at_card, at_reader, garble}
use Rattle.t1_link.specs.Worlds.{in_vain, lose, may_arrive, noted, pass, reacting, taking, toward_card}
use Rattle.t1_link.specs.Worlds.{toward_reader, turning, world_step}
use Rattle.t1_link.specs.WorldLaw.{is_under_way}
use Rattle.t1_link.specs.WorldRepairs.{Counts, newest}
use Rattle.t1_link.proofs.CommandsGiven.{none-fault, runs-given}
use Rattle.card_bench.proofs.BlocksOnLine.{garbled-may_arrive, heard-garbled}
use Rattle.t1_link.proofs.SoundBlocks.{IsSound, frame-bytes, told-bytes}
use Rattle.t1_link.proofs.SoundWorlds.{IsSoundLine, IsSoundWorld}
use Rattle.t1_link.proofs.WorldPhases.{Good}

-- the block that goes on the line next is the one under way
abbrev pub IsWay : NextBlock → WorldLine → Type 0
IsWay (ways.toward_card bytes) line = (b : Block) × (line ≡ toward_card b) × (bytes ≡ frame b)
IsWay (ways.toward_reader bytes) line = (b : Block) × (line ≡ toward_reader b) × (bytes ≡ frame b)

pub is-way-under_way : (way : NextBlock) (line : WorldLine) → IsWay way line → is_under_way line ≡ true
is-way-under_way (ways.toward_card bytes) line is = ap is_under_way is.1
is-way-under_way (ways.toward_reader bytes) line is = ap is_under_way is.1

-- a block goes toward the card
abbrev pub goes_there : NextBlock → Bool
goes_there (ways.toward_card bytes) = true
goes_there (ways.toward_reader bytes) = false

-- the exchange goes on, with this block under way
pub record GoesOnIn (way : NextBlock) (sent : List (List ℕ)) (earlier : List Report) (w : World Served) : Type 0 where
  pub reports : w.reports ≡ earlier
  pub sent_is : w.sent ≡ sent
  pub way_is : IsWay way w.line

-- what follows in the exchange shows in the world
abbrev pub ShowsIn : Result NextBlock Ended → List (List ℕ) → List Report → World Served → Type 0
ShowsIn (Ok way) sent earlier w = GoesOnIn way sent earlier w
ShowsIn (Err (answered answer)) sent earlier w = IsReported (Done answer) earlier w
ShowsIn (Err set_back) sent earlier w = IsReported Unknown earlier w
ShowsIn (Err link_lost) sent earlier w = (failure : Failure) × IsReported (Failed failure) earlier w
ShowsIn (Err power_lost) sent earlier w = ⊥

-- what the arrival of a block led to: power was lost, or the ends stand in the world after it, where what follows shows
abbrev pub LeadsTo : Result NextBlock Ended → World Served → Arrival → Ends → Type 0
LeadsTo (Err power_lost) w came new = ExchangeIsCut (newest w.sent) came w new.bench
LeadsTo follows w came new = StandIn new.bench new.reader (after_arrival tree_machine w came)
    × ShowsIn follows w.sent w.reports (after_arrival tree_machine w came)

-- what arrives, in the words of the world
abbrev arrival_of : NextBlock → Option (List ℕ) → Arrival
arrival_of way None = in_vain
arrival_of (ways.toward_card block) (Some got) = at_card got
arrival_of (ways.toward_reader block) (Some got) = at_reader got

-- a garbled block may arrive in the world
garbled-arrives : (b : Block) → IsSound b → may_arrive (last_bit_turned (frame b)) ≡ true
garbled-arrives b s = garbled-may_arrive (frame b) b (told-bytes (frame b) (frame-bytes b s))
    (heard-frame b s.spellable)

fated-there : (b : Block) (lost garbled : Bool) → IsSound b
    → arrival (toward_card b) (if lost then lose else if garbled then garble (last_bit_turned (frame b)) else pass)
    ≡ arrival_of (ways.toward_card (frame b))
    (if lost then None else if garbled then Some (last_bit_turned (frame b)) else Some (frame b))
fated-there b true garbled s = refl
fated-there b false true s = simp (garbled-arrives b s) refl
fated-there b false false s = refl

fated-back : (b : Block) (lost garbled : Bool) → IsSound b
    → arrival (toward_reader b) (if lost then lose else if garbled then garble (last_bit_turned (frame b)) else pass)
    ≡ arrival_of (ways.toward_reader (frame b))
    (if lost then None else if garbled then Some (last_bit_turned (frame b)) else Some (frame b))
fated-back b true garbled s = refl
fated-back b false true s = simp (garbled-arrives b s) refl
fated-back b false false s = refl

-- the fate of the block under way is what arrives of it
fated : (line : WorldLine) (way : NextBlock) (pending : Line) → IsWay way line → IsSoundLine line
    → arrival line (fate pending (bytes_of_line line)) ≡ arrival_of way (lines.arriving pending 0 (bytes_under_way way))
fated line (ways.toward_card bytes) pending is s =
    subst (λ (l : WorldLine). arrival l (fate pending (bytes_of_line l)) ≡ arrival_of (ways.toward_card bytes)
    (lines.arriving pending 0 bytes)) (sym is.1) (subst (λ (x : List ℕ). arrival (toward_card is.0)
    (fate pending (frame is.0)) ≡ arrival_of (ways.toward_card x) (lines.arriving pending 0 x)) (sym is.2)
    (fated-there is.0 (is_due pending.lose 0) (is_due pending.garble 0) (subst IsSoundLine is.1 s)))
fated line (ways.toward_reader bytes) pending is s =
    subst (λ (l : WorldLine). arrival l (fate pending (bytes_of_line l)) ≡ arrival_of (ways.toward_reader bytes)
    (lines.arriving pending 0 bytes)) (sym is.1) (subst (λ (x : List ℕ). arrival (toward_reader is.0)
    (fate pending (frame is.0)) ≡ arrival_of (ways.toward_reader x) (lines.arriving pending 0 x)) (sym is.2)
    (fated-back is.0 (is_due pending.lose 0) (is_due pending.garble 0) (subst IsSoundLine is.1 s)))

-- a fate is an event of the line
step-fated : (w : World Served) (lost garbled : Bool) (bytes : List ℕ)
    → world_step tree_machine w (if lost then lose else if garbled then garble bytes else pass)
    ≡ after_arrival tree_machine w (arrival w.line (if lost then lose else if garbled then garble bytes else pass))
unfolding world_step
step-fated w true garbled bytes = refl
step-fated w false true bytes = refl
step-fated w false false bytes = refl

-- the world after the block under way had its fate
abbrev pub stepped : Line → World Served → World Served
stepped pending w = world_step tree_machine w (fate pending (bytes_of_line w.line))

pub stepped-is : (w : World Served) (pending : Line)
    → stepped pending w ≡ after_arrival tree_machine w (arrival w.line (fate pending (bytes_of_line w.line)))
stepped-is w pending = step-fated w (is_due pending.lose 0) (is_due pending.garble 0)
    (last_bit_turned (bytes_of_line w.line))

-- the reader's end turned
pub shows-noted : (w : World Served) (o : CommandReport) → ShowsIn (following o) w.sent w.reports (noted w o)
shows-noted w (sends b) = record { reports = refl; sent_is = refl; way_is = (b, refl, refl) }
shows-noted w (gives answer) = record { reports = refl; line = refl }
shows-noted w unknown = record { reports = refl; line = refl }
shows-noted w (fails failure) = (failure, record { reports = refl; line = refl })

stands-noted : (p : Powered) (w : World Served) (o : CommandReport) → p.link ≡ w.card → state_served p ≡ w.machine
    → AreOfWorld p w.reader (noted w o)
stands-noted p w (sends b) link card = record { reader_is = refl; link_is = link; card_is = card }
stands-noted p w (gives answer) link card = record { reader_is = refl; link_is = link; card_is = card }
stands-noted p w unknown link card = record { reader_is = refl; link_is = link; card_is = card }
stands-noted p w (fails failure) link card = record { reader_is = refl; link_is = link; card_is = card }

pub stands-turned : (bench : BenchState) (reader : Reader) (w : World Served) (t : Turned) → StandIn bench reader w
    → StandIn bench t.reader (turning w t)
stands-turned (off facts) reader w t s = absurd s
stands-turned (on p) reader w t s = stands-noted p (record w { reader = t.reader }) t.outcome s.link_is s.card_is

pub same-reader : (bench : BenchState) (reader : Reader) (w : World Served) → StandIn bench reader w → reader ≡ w.reader
same-reader (off facts) reader w s = absurd s
same-reader (on p) reader w s = s.reader_is

leads-noted : (w : World Served) (came : Arrival) (bench : BenchState) (line : Line) (r : Reader) (o : CommandReport)
    → after_arrival tree_machine w came ≡ noted (record w { reader = r }) o
    → StandIn bench r (noted (record w { reader = r }) o)
    → LeadsTo (following o) w came (record { bench = bench; reader = r; line = line })
leads-noted w came bench line r (sends b) arrives stands =
    subst (λ (x : World Served). StandIn bench r x × ShowsIn (following (sends b)) w.sent w.reports x) (sym arrives)
    (stands, shows-noted (record w { reader = r }) (sends b))
leads-noted w came bench line r (gives answer) arrives stands =
    subst (λ (x : World Served). StandIn bench r x × ShowsIn (following (gives answer)) w.sent w.reports x)
    (sym arrives) (stands, shows-noted (record w { reader = r }) (gives answer))
leads-noted w came bench line r unknown arrives stands =
    subst (λ (x : World Served). StandIn bench r x × ShowsIn (following unknown) w.sent w.reports x) (sym arrives)
    (stands, shows-noted (record w { reader = r }) unknown)
leads-noted w came bench line r (fails failure) arrives stands =
    subst (λ (x : World Served). StandIn bench r x × ShowsIn (following (fails failure)) w.sent w.reports x)
    (sym arrives) (stands, shows-noted (record w { reader = r }) (fails failure))

-- something came to the reader's end, or nothing did in time
reader-leads : (w : World Served) (came : Arrival)
    (old new : Ends) (turn : Reader → Turned) (follows : Result NextBlock Ended) → StandIn old.bench old.reader w
    → after_arrival tree_machine w came ≡ turning w (turn w.reader) → new.bench ≡ old.bench
    → ReaderTurns (turn old.reader) new.reader follows → LeadsTo follows w came new
reader-leads w came old new turn follows stands arrives same turns =
    let t : Turned = turn old.reader in
    let r : old.reader ≡ w.reader = same-reader old.bench old.reader w stands in
    let base : LeadsTo (following t.outcome) w came (record { bench = old.bench; reader = t.reader; line = new.line }) =
    leads-noted w came old.bench new.line t.reader t.outcome (arrives ∙ ap (λ (x : Reader). turning w (turn x)) (sym r))
    (stands-turned old.bench old.reader w t stands) in
    let ends : record { bench = old.bench; reader = t.reader; line = new.line } ≡ new =
    λ i. record { bench = sym same i; reader = sym turns.reader_is i; line = new.line } in
    subst (λ (f : Result NextBlock Ended). LeadsTo f w came new) (sym turns.follows_so)
    (subst (λ (e : Ends). LeadsTo (following t.outcome) w came e) ends base)

-- the card's end replied, and where it ran a command, so did the world's machine
card-replies : (p after : Powered) (w : World Served) (reader : Reader) (l : Link) (r : Reaction) (bytes : List ℕ)
    → state_served p ≡ w.machine → reader ≡ w.reader
    → card_found after.card ≡ card_by (card_found p.card) r (λ command. (machine p command).card)
    → after.card.session ≡ session_by p.card.session r (λ command. (machine p command).session)
    → after.link ≡ (answering l r (λ command. answer_bytes (machine p command).response)).link
    → bytes ≡ reply_bytes (answering l r (λ command. answer_bytes (machine p command).response)).reaction
    → AreOfWorld after reader (reacting tree_machine (record w { card = l }) r)
    × ShowsIn (Ok (ways.toward_reader bytes)) w.sent w.reports (reacting tree_machine (record w { card = l }) r)
card-replies p after w reader l (replies b) bytes served same card session link block =
    let state : state_served after ≡ state_served p = λ i. record { card = card i; session = session i } in (
      record { reader_is = same; link_is = link; card_is = state ∙ served },
      record { reports = refl; sent_is = refl; way_is = (b, refl, block) },
    )
card-replies p after w reader l (runs command) bytes served same card session link block =
    let state : state_served after ≡ tree_machine.next (state_served p) command =
    λ i. record { card = card i; session = session i } in (
      record {
        reader_is = same;
        link_is = link ∙ ap (λ (m : Served). (answers l (tree_machine.answer m command)).link) served;
        card_is = state ∙ ap (λ (m : Served). tree_machine.next m command) served;
      },
      record {
        reports = refl;
        sent_is = refl;
        way_is = (
          _,
          refl,
          block
              ∙ ap (λ (m : Served). reply_bytes (answers l (tree_machine.answer m command)).reaction) served,
        );
      },
    )

replied : (p after : Powered) (old reader : Reader) (w : World Served) (got bytes : List ℕ)
    → AreOfWorld p old w → reader ≡ w.reader
    → Replies p got after bytes
    → AreOfWorld after reader (after_arrival tree_machine w (at_card got))
    × ShowsIn (Ok (ways.toward_reader bytes)) w.sent w.reports (after_arrival tree_machine w (at_card got))
replied p after old reader w got bytes s same rep =
    subst (λ (t : Taken). AreOfWorld after reader (taking tree_machine w t)
    × ShowsIn (Ok (ways.toward_reader bytes)) w.sent w.reports (taking tree_machine w t))
    (ap (λ (l : Link). link_step l got) s.link_is)
    (card-replies p after w reader (link_step p.link got).link (link_step p.link got).reaction bytes s.card_is same
    rep.card rep.session rep.link rep.block)

-- power was lost while the card's end had a command run
cut-so : (p : Powered) (r : Reaction) (card : Card) (m : List ℕ) → IsRun r → IsBlockStage p r card → BlockStands p r m
    → (command : List ℕ) × (r ≡ runs command) × IsStage (card_found p.card) p.card.session command card
    × StandsAsked (card_found p.card) p.card.session (asked command) m
cut-so p (replies b) card m run stage word = absurd run
cut-so p (runs command) card m run stage word = (command, refl, stage, word)

-- the command that a card's end runs on these bytes is the one that was given
abbrev pub IsKnown : World Served → Option (List ℕ) → Type 0
IsKnown w None = Unit {0}
IsKnown w (Some got) = (command : List ℕ) → (link_step w.card got).reaction ≡ runs command → command ≡ newest w.sent

card-leads : (w : World Served) (bench after : BenchState) (old reader : Reader) (line : Line) (got : List ℕ)
    (follows : Result NextBlock Ended) → IsKnown w (Some got) → StandIn bench old w → reader ≡ old
    → CardTakes bench got after follows
    → LeadsTo follows w (at_card got) (record { bench = after; reader = reader; line = line })
card-leads w (off facts) after old reader line got follows known s same t = absurd s
card-leads w (on p) after old reader line got (Ok (ways.toward_card bytes)) known s same t = absurd t
card-leads w (on p) (off facts) old reader line got (Ok (ways.toward_reader bytes)) known s same t = absurd t.one
card-leads w (on p) (on after) old reader line got (Ok (ways.toward_reader bytes)) known s same t =
    replied p after old reader w got bytes s (same ∙ s.reader_is) t.one
card-leads w (on p) after old reader line got (Err (answered answer)) known s same t = absurd t
card-leads w (on p) after old reader line got (Err set_back) known s same t = absurd t
card-leads w (on p) after old reader line got (Err link_lost) known s same t = absurd t
card-leads w (on p) after old reader line got (Err power_lost) known s same t =
    let cut = cut-so p (link_step p.link got).reaction (bench_card after) (bench_facts after).words t.one.run
    t.one.stage t.one.word in
    let ran : (link_step w.card got).reaction ≡ runs cut.0 =
    ap (λ (l : Link). (link_step l got).reaction) (sym s.link_is) ∙ cut.1 in
    let given : cut.0 ≡ newest w.sent = known cut.0 ran in
    record {
      power = t.one.power;
      got = got;
      came_there = refl;
      runs_it = ran ∙ ap (λ (command : List ℕ). runs command) given;
      stage = subst (λ (command : List ℕ). IsStage w.machine.card w.machine.session command (bench_card after)) given
          (subst (λ (m : Served). IsStage m.card m.session cut.0 (bench_card after)) s.card_is cut.2);
      word = subst (λ (command : List ℕ). StandsAsked w.machine.card w.machine.session (asked command)
          (bench_facts after).words) given
          (subst (λ (m : Served). StandsAsked m.card m.session (asked cut.0) (bench_facts after).words) s.card_is
          cut.3);
    }

arrived : (w : World Served) (old new : Ends) (way : NextBlock) (o : Option (List ℕ)) (follows : Result NextBlock Ended)
    → (goes_there way ≡ true → IsKnown w o) → StandIn old.bench old.reader w → Arrives old way o new follows
    → LeadsTo follows w (arrival_of way o) new
arrived w old new (ways.toward_card block) None follows known s a =
    reader-leads w in_vain old new reader_times_out follows s refl a.0 a.1
arrived w old new (ways.toward_reader block) None follows known s a =
    reader-leads w in_vain old new reader_times_out follows s refl a.0 a.1
arrived w old new (ways.toward_card block) (Some got) follows known s a =
    card-leads w old.bench new.bench old.reader new.reader new.line got follows (known refl) s a.0 a.1
arrived w old new (ways.toward_reader block) (Some got) follows known s a =
    reader-leads w (at_reader got) old new (λ r. reader_step r got) follows s refl a.0 a.1

-- a world that came of some events
pub record IsReached (start : Served) (w : World Served) : Type 0 where
  pub counts : Counts
  pub good : Good tree_machine start counts w
  pub sound : IsSoundWorld IsProperState w

known-there : (start : Served) (w : World Served) (b : Block) (lost garbled : Bool)
    → IsReached start w → IsSound b → w.line ≡ toward_card b
    → IsKnown w (if lost then None else if garbled then Some (last_bit_turned (frame b)) else Some (frame b))
known-there start w b true garbled reached s line = tt
known-there start w b false true reached s line = λ command e.
    let heard-so = heard-garbled (frame b) b (heard-frame b s.spellable) in
    absurd (none-fault w.card WrongCheck command
    (ap (λ (h : Result Block Fault). (card_takes w.card h).reaction) (sym heard-so) ∙ e))
known-there start w b false false reached s line = λ command e.
    runs-given tree_machine start reached.counts w b command reached.good line
    (ap (λ (h : Result Block Fault). (card_takes w.card h).reaction) (sym (heard-frame b s.spellable)) ∙ e)

pub known-so : (start : Served) (w : World Served) (way : NextBlock) (pending : Line) → IsReached start w
    → IsWay way w.line → goes_there way ≡ true → IsKnown w (lines.arriving pending 0 (bytes_under_way way))
known-so start w (ways.toward_card bytes) pending reached is there =
    subst (λ (x : List ℕ). IsKnown w (lines.arriving pending 0 x)) (sym is.2)
    (known-there start w is.0 (is_due pending.lose 0) (is_due pending.garble 0) reached
    (subst IsSoundLine is.1 reached.sound.line) is.1)
known-so start w (ways.toward_reader bytes) pending reached is there = absurd (cc there)

pub passed : (start : Served) (w : World Served) (old new : Ends) (way : NextBlock) (follows : Result NextBlock Ended)
    → IsReached start w → StandIn old.bench old.reader w → IsWay way w.line → Passes old way new follows
    → LeadsTo follows w (arrival w.line (fate old.line (bytes_of_line w.line))) new
passed start w old new way follows reached s is passes =
    subst (λ (came : Arrival). LeadsTo follows w came new) (sym (fated w.line way old.line is reached.sound.line))
    (arrived w old new way (lines.arriving old.line 0 (bytes_under_way way)) follows
    (known-so start w way old.line reached is) s passes.arrives)
