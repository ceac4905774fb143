-- An exchange is a run of the world.
use Rattle.std.specs.Prelude.{◌≡◌, ◌+◌, ℕ, zero, suc, true, false, not, List, [], ◌∷◌, ◌++◌, Result, Ok, Err, refl}
use Rattle.std.proofs.Common.{inl, inr, arith, ap, sym, subst, ◌∙◌}
use Rattle.std.proofs.lemmas.Bool.{and_from}
use Rattle.t1_link.specs.ReaderTable.{Reader, Turned, is_busy, reader_sends}
use Rattle.card_model.specs.laws.AnswerLaws.{answers_are_short, step_keeps_proper}
use Rattle.card_bench.specs.Exchanges.{Ended}
use Rattle.card_bench.specs.Exchanges.{answered, set_back, link_lost, power_lost}
use Rattle.card_bench.specs.declared.reader_turns.TheConstants.{LINE_BLOCKS}
use Rattle.card_bench.specs.declared.line.Line.{Line}
use Rattle.bench_turns.specs.BenchStates.{BenchState, off, on}
use Rattle.card_bench.specs.Exchanges.{Ends, Exchanges, GoesThrough, NextBlock, following}
use Rattle.card_bench.specs.ExchangeWorlds.{Course, EndsSo, ExchangeLaw, GoesAs}
use Rattle.card_bench.specs.ExchangeWorlds.{ExchangeIsCut, StandIn, bytes_of_line}
use Rattle.card_bench.specs.ExchangeWorlds.{exchange_events, fate, fates}
use Rattle.card_bench.specs.Lines.{line_after}
use Rattle.t1_link.specs.TreeMachine.{IsProperState, Served, tree_machine}
use Rattle.t1_link.specs.Worlds.{Event, Report, World, arrival, giving, is_command, may_send, powered, send}
use Rattle.t1_link.specs.Worlds.{turning}
use Rattle.t1_link.specs.Worlds.{world, world_step}
use Rattle.t1_link.specs.WorldLaw.{comes_of, is_under_way}
use Rattle.t1_link.specs.WorldRepairs.{counts_after, newest, watched}
use Rattle.card_bench.proofs.ExchangeSteps.{IsReached, IsWay, LeadsTo, ShowsIn}
use Rattle.card_bench.proofs.ExchangeSteps.{is-way-under_way, passed, same-reader}
use Rattle.card_bench.proofs.ExchangeSteps.{shows-noted, stands-turned, stepped, stepped-is}
use Rattle.card_bench.proofs.BlocksOnLine.{line_after-later, line_after-none}
use Rattle.t1_link.proofs.SoundWorlds.{AnswersByBytes, sound-powered, sound-step, sound-world}
use Rattle.t1_link.proofs.TreeAnswers.{tree-answers}
use Rattle.t1_link.proofs.WorldLawful.{good-world, world-lawful}
use Rattle.t1_link.proofs.WorldSteps.{good-step}

tree-bytes : AnswersByBytes tree_machine IsProperState
tree-bytes = record {
  bytes = λ s command proper all. (answers_are_short s.card s.session command proper all).bytes;
  keeps = λ s command proper all. step_keeps_proper s.card s.session command proper all;
}

-- the world when so many blocks went on the line
abbrev world_at : Line → World Served → ℕ → World Served
world_at pending w blocks = world tree_machine w (fates pending blocks w)

-- the course from a world in which the first block is under way
abbrev course_from : ℕ → Line → World Served → Course
course_from limit pending w = record {
  command = newest w.sent;
  limit = limit;
  pending = pending;
  earlier = w.reports;
  after = world_at pending w;
}

-- an exchange that ends with the first block from here
one-block : (limit : ℕ) (w : World Served) (old new : Ends) (ending : Ended) → is_under_way w.line ≡ true
    → LeadsTo (Err ending) w (arrival w.line (fate old.line (bytes_of_line w.line))) new
    → EndsSo ending (course_from limit old.line w) 1 new
unfolding fates world
one-block limit w old new (answered answer) busy leads =
    subst (λ (x : World Served). StandIn new.bench new.reader x × ShowsIn (Err (answered answer)) w.sent w.reports x)
    (sym (stepped-is w old.line)) leads
one-block limit w old new set_back busy leads =
    subst (λ (x : World Served). StandIn new.bench new.reader x × ShowsIn (Err set_back) w.sent w.reports x)
    (sym (stepped-is w old.line)) leads
one-block limit w old new link_lost busy leads =
    let there = subst (λ (x : World Served). StandIn new.bench new.reader x
    × ShowsIn (Err link_lost) w.sent w.reports x) (sym (stepped-is w old.line)) leads in
    (there.0, inl there.1)
one-block limit w old new power_lost busy leads = (
  0,
  omega arith,
  record { reports = refl; line = busy },
  subst (λ (l : Line). ExchangeIsCut (newest w.sent) (arrival w.line (fate l (bytes_of_line w.line))) w new.bench)
      (sym (line_after-none old.line)) leads,
)

-- so many blocks after one
later-blocks : (n : ℕ) (line : Line) → line_after n (line_after 1 line) ≡ line_after (suc n) line
later-blocks n line = line_after-later 1 n line
    ∙ ap (λ (m : ℕ). line_after m line) (let e : 1 + n ≡ suc n = omega arith in e)

-- the course after the first block of another
abbrev next_course : Course → Line → World Served → Course
next_course course pending w =
    record course { pending = line_after 1 pending; after = world_at (line_after 1 pending) (stepped pending w) }

-- that course, with one block more
abbrev longer : Course → Line → World Served → Course
longer course pending w = record course { limit = suc course.limit; pending = pending; after = world_at pending w }

-- an exchange that goes on after the first block from here
more-blocks : (course : Course) (blocks : ℕ) (w : World Served) (pending : Line) (new : Ends) (ending : Ended)
    → EndsSo ending (next_course course pending w) blocks new → EndsSo ending (longer course pending w) (suc blocks) new
unfolding fates world
more-blocks course blocks w pending new (answered answer) ended = ended
more-blocks course blocks w pending new set_back ended = ended
more-blocks course blocks w pending new link_lost (there, inl failed) = (there, inl failed)
more-blocks course blocks w pending new link_lost (there, inr (all, unreported)) = (there, inr (ap suc all, unreported))
more-blocks course blocks w pending new power_lost (before, all, unreported, cut) = (
  suc before,
  omega (arith, all),
  unreported,
  let here : World Served = world_at (line_after 1 pending) (stepped pending w) before in
      subst (λ (l : Line). ExchangeIsCut course.command (arrival here.line (fate l (bytes_of_line here.line))) here
      new.bench) (later-blocks before pending) cut,
)

pub reached-step : (start : Served) (w : World Served) (event : Event) → IsProperState start → IsReached start w
    → IsReached start (world_step tree_machine w event)
reached-step start w event proper reached = record {
  counts = counts_after (record { world = w; counts = reached.counts }) event;
  good = good-step tree_machine start IsProperState tree-answers proper
      (record { world = w; counts = reached.counts }) event reached.good;
  sound = sound-step tree_machine IsProperState tree-bytes w event reached.sound;
}

goes : (start : Served) (limit : ℕ) (w : World Served) (old new : Ends) (way : NextBlock) (ending : Ended)
    → IsProperState start → IsReached start w → StandIn old.bench old.reader w → IsWay way w.line
    → Exchanges limit old way new ending → GoesAs (course_from limit old.line w) new ending
unfolding Exchanges fates world
goes start zero w old new way ending proper reached s is run =
    let base : GoesAs (course_from zero old.line w) old link_lost = record {
      blocks = 0;
      most = omega arith;
      line = sym (line_after-none old.line);
      ended = (s, inr (refl, record { reports = refl; line = is-way-under_way way w.line is }));
    } in
    subst (λ (e : Ended). GoesAs (course_from zero old.line w) new e) (sym run.1)
    (subst (λ (x : Ends). GoesAs (course_from zero old.line w) x link_lost) (sym run.0) base)
goes start (suc limit) w old new way ending proper reached s is (inl passes) = record {
  blocks = 1;
  most = omega arith;
  line = passes.block;
  ended = one-block (suc limit) w old new ending (is-way-under_way way w.line is)
      (passed start w old new way (Err ending) reached s is passes);
}
goes start (suc limit) w old new way ending proper reached s is (inr (between, next, passes, run)) =
    let leads = subst (λ (x : World Served). StandIn between.bench between.reader x × ShowsIn (Ok next) w.sent
    w.reports x) (sym (stepped-is w old.line)) (passed start w old between way (Ok next) reached s is passes) in
    let rest : GoesAs (course_from limit between.line (stepped old.line w)) new ending =
    goes start limit (stepped old.line w) between new next ending proper
    (reached-step start w (fate old.line (bytes_of_line w.line)) proper reached) leads.0 leads.1.way_is run in
    let same : course_from limit between.line (stepped old.line w)
    ≡ next_course (course_from limit old.line w) old.line w = λ i. record {
      command = newest (leads.1.sent_is i);
      limit = limit;
      pending = passes.block i;
      earlier = leads.1.reports i;
      after = world_at (passes.block i) (stepped old.line w);
    } in
    let here : GoesAs (next_course (course_from limit old.line w) old.line w) new ending =
    subst (λ (course : Course). GoesAs course new ending) same rest in
    record {
      blocks = suc here.blocks;
      most = let most = here.most in omega (arith, most);
      line = here.line ∙ later-blocks here.blocks old.line;
      ended = more-blocks (course_from limit old.line w) here.blocks w old.line new ending here.ended;
    }

-- the course of a command that was sent, behind earlier reports
abbrev course_with : List (List ℕ) → List Report → Line → World Served → Course
course_with sent earlier pending w = record {
  command = newest sent;
  limit = LINE_BLOCKS;
  pending = pending;
  earlier = earlier;
  after = world_at pending w;
}

-- what follows from what the reader's end says at first
nothing-went : (course : Course) (here new : Ends) (ending ended : Ended) → here.line ≡ course.pending
    → (new ≡ here) × (ending ≡ ended) → EndsSo ended course 0 here → GoesAs course new ending
nothing-went course here new ending ended pending run so =
    let base : GoesAs course here ended =
    record { blocks = 0; most = omega arith; line = pending ∙ sym (line_after-none course.pending); ended = so } in
    subst (λ (e : Ended). GoesAs course new e) (sym run.1)
    (subst (λ (x : Ends). GoesAs course x ended) (sym run.0) base)

through : (start : Served) (f : Result NextBlock Ended) (w : World Served) (sent : List (List ℕ))
    (earlier : List Report) (here new : Ends) (ending : Ended) → IsProperState start → IsReached start w
    → StandIn here.bench here.reader w → ShowsIn f sent earlier w → GoesThrough f here new ending
    → GoesAs (course_with sent earlier here.line w) new ending
unfolding fates world
through start (Ok way) w sent earlier here new ending proper reached s shows run =
    let same : course_from LINE_BLOCKS here.line w ≡ course_with sent earlier here.line w =
    λ i. course_with (shows.sent_is i) (shows.reports i) here.line w in
    subst (λ (course : Course). GoesAs course new ending) same
    (goes start LINE_BLOCKS w here new way ending proper reached s shows.way_is run)
through start (Err (answered answer)) w sent earlier here new ending proper reached s shows run =
    nothing-went _ here new ending (answered answer) refl run (s, shows)
through start (Err set_back) w sent earlier here new ending proper reached s shows run =
    nothing-went _ here new ending set_back refl run (s, shows)
through start (Err link_lost) w sent earlier here new ending proper reached s shows run =
    nothing-went _ here new ending link_lost refl run (s, inl shows)
through start (Err power_lost) w sent earlier here new ending proper reached s shows run = absurd shows

-- worlds go on from where they are
worlds-go_on : (w : World Served) (events more : List Event)
    → world tree_machine w (events ++ more) ≡ world tree_machine (world tree_machine w events) more
unfolding world
worlds-go_on w [] more = refl
worlds-go_on w (event ∷ events) more = worlds-go_on (world_step tree_machine w event) events more

-- a command is given where none is in hand
pub ready-so : (r : Reader) (command : List ℕ) → is_busy r.phase ≡ false → is_command command ≡ true
    → may_send r command ≡ true
ready-so r command free sound = and_from (not (is_busy r.phase)) (is_command command) (ap not free) sound

pub given-so : (w : World Served) (command : List ℕ) → may_send w.reader command ≡ true
    → world_step tree_machine w (send command) ≡ giving w command
unfolding world_step
given-so w command may = simp may refl

-- the events of an exchange lead on from the world in which it began
after-so : (start : Served) (events : List Event) (command : List ℕ) (pending : Line) (blocks : ℕ)
    → world_at pending (world_step tree_machine (comes_of tree_machine start events) (send command)) blocks
    ≡ comes_of tree_machine start
    (events ++ exchange_events (comes_of tree_machine start events) command pending blocks)
unfolding world
after-so start events command pending blocks =
    sym (worlds-go_on (powered start) events
    (exchange_events (comes_of tree_machine start events) command pending blocks))

pub stands-sent : (bench : BenchState) (reader : Reader) (w : World Served) (command : List ℕ) → StandIn bench reader w
    → StandIn bench reader (record w { sent = command ∷ w.sent; offered = [] })
stands-sent (off facts) reader w command s = absurd s
stands-sent (on p) reader w command s = record { reader_is = s.reader_is; link_is = s.link_is; card_is = s.card_is }

pub reached : (start : Served) (events : List Event) → IsProperState start
    → IsReached start (comes_of tree_machine start events)
reached start events proper = record {
  counts = (watched tree_machine start events).counts;
  good = good-world tree_machine start IsProperState tree-answers proper events;
  sound = sound-world tree_machine IsProperState tree-bytes (powered start) events
      (sound-powered tree_machine IsProperState tree-bytes start proper);
}

pub exchange-runs : ExchangeLaw
exchange-runs start events old new command ending proper stands calm sound exchanged =
    let w : World Served = comes_of tree_machine start events in
    let lawful = world-lawful tree_machine IsProperState tree-answers start events proper in
    let free : is_busy w.reader.phase ≡ false = sym lawful.under_way ∙ ap is_under_way calm in
    let sent : World Served = record w { sent = command ∷ w.sent; offered = [] } in
    let turned : Turned = reader_sends old.reader command in
    let same : old.reader ≡ w.reader = same-reader old.bench old.reader w stands in
    let given : world_step tree_machine w (send command) ≡ turning sent turned =
    given-so w command (ready-so w.reader command free sound)
    ∙ ap (λ (r : Reader). turning sent (reader_sends r command)) (sym same) in
    let there : StandIn old.bench turned.reader (turning sent turned) =
    stands-turned old.bench old.reader sent turned (stands-sent old.bench old.reader w command stands) in
    let shows : ShowsIn (following turned.outcome) (command ∷ w.sent) w.reports (turning sent turned) =
    shows-noted (record sent { reader = turned.reader }) turned.outcome in
    let run = through start (following turned.outcome) (world_step tree_machine w (send command)) (command ∷ w.sent)
    w.reports (record old { reader = turned.reader }) new ending proper (reached-step start w (send command) proper
    (reached start events proper)) (subst (λ (x : World Served). StandIn old.bench turned.reader x) (sym given) there)
    (subst (λ (x : World Served). ShowsIn (following turned.outcome) (command ∷ w.sent) w.reports x) (sym given) shows)
    exchanged in
    subst (λ (course : Course). GoesAs course new ending) (λ i. record {
      command = command;
      limit = LINE_BLOCKS;
      pending = old.line;
      earlier = w.reports;
      after = λ blocks. after-so start events command old.line blocks i;
    }) run
