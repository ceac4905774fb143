-- What the phases say in the words of the law.
use Rattle.std.specs.Prelude.{◌⊎◌, ◌≡◌, ◌≢◌, ◌≤◌, ◌<◌, ℕ, Bool, true, false, if◌then◌else◌, List, [], ◌∷◌, length}
use Rattle.std.specs.Prelude.{Ok, refl}
use Rattle.std.proofs.Common.{inl, inr, ⊎_elim, sym, ◌∙◌, ap, subst, arith}
use Rattle.t1_link.specs.declared.reader_end.Failure.TheVariants.{LinkLost}
use Rattle.t1_link.specs.Blocks.{Block, frame, heard, resynch_request, resynch_response}
use Rattle.t1_link.specs.CardTable.{fresh}
use Rattle.t1_link.specs.ReaderTable.{is_busy, reader_step, Turned, fresh_reader, requesting_again}
use Rattle.t1_link.specs.ReaderTable.{turns_resynch, unknown}
use Rattle.t1_link.specs.ReaderRows.{reader_takes-resynch, reader_times_out-resynch, requesting_again-last}
use Rattle.t1_link.specs.ReaderRows.{requesting_again-more, turns_resynch-answered, turns_resynch-else}
use Rattle.t1_link.specs.Worlds.{world, Answers, Arrival, Event, Failed, Line, Machine, Unknown, World}
use Rattle.t1_link.specs.Worlds.{arrival, after_arrival, at_reader, garble, in_vain, is_command}
use Rattle.t1_link.specs.Worlds.{lose, nothing, pass, powered, quiet, send, toward_card, toward_reader}
use Rattle.t1_link.specs.Worlds.{turning, world_step}
use Rattle.t1_link.specs.WorldLaw.{is_under_way, IsUnanswered, Kept, Lawful, ResynchLaw, Resynchs, WorldLaw}
use Rattle.t1_link.specs.WorldLaw.{comes_of, requests, so_far}
use Rattle.t1_link.proofs.WorldPhases.{After, At, Budget, Core, Good, Kind, Requesting, Stage, Straight, ToCard}
use Rattle.t1_link.proofs.WorldPhases.{ToReader, answer_offered, answer_taken}
use Rattle.t1_link.proofs.WorldPhases.{asks_card, asks_reader, at_rest, command_offered, command_taken}
use Rattle.t1_link.proofs.WorldPhases.{core, exchange, given_up, kind_of, many, newest_answer}
use Rattle.t1_link.proofs.WorldPhases.{none_yet, offers_card, offers_reader, once, requesting_now}
use Rattle.t1_link.proofs.WorldSteps.{at-open, command_size, good-powered, good-watch, some_left}
use Rattle.t1_link.specs.WorldRepairs.{Counts, RepairLaw, Repaired, Watched, counts_after, newest, no_counts}
use Rattle.t1_link.specs.WorldRepairs.{watch, watched}

send-quiet : (line : Line) (command : List ℕ) → arrival line (send command) ≡ nothing
send-quiet quiet command = refl
send-quiet (toward_card b) command = refl
send-quiet (toward_reader b) command = refl

module _ {M : Type 0} (machine : Machine M) (start : M) (Invariant : M → Type 0) (fits : Answers machine Invariant)
    (begins : Invariant start) where
  -- the reports so far, where a command is in hand, and where none is
  kept-busy : (w : World M) → is_busy w.reader.phase ≡ true → Kept machine start w.sent w.carried (Unknown ∷ w.reports)
      w.machine → Kept machine start w.sent w.carried (so_far w) w.machine
  kept-busy w e kept = subst (λ (t : Bool). Kept machine start w.sent w.carried
      (if t then Unknown ∷ w.reports else w.reports) w.machine) (sym e) kept

  kept-free : (w : World M) → is_busy w.reader.phase ≡ false → Kept machine start w.sent w.carried w.reports w.machine
      → Kept machine start w.sent w.carried (so_far w) w.machine
  kept-free w e kept = subst (λ (t : Bool). Kept machine start w.sent w.carried
      (if t then Unknown ∷ w.reports else w.reports) w.machine) (sym e) kept

  -- a line on which an exchange or a request for RESYNCH has a block
  way-there : (w : World M) (b : Block) → w.line ≡ toward_card b → is_busy w.reader.phase ≡ true
      → is_under_way w.line ≡ is_busy w.reader.phase
  way-there w b e busy = ap is_under_way e ∙ sym busy

  way-back : (w : World M) (b : Block) → w.line ≡ toward_reader b → is_busy w.reader.phase ≡ true
      → is_under_way w.line ≡ is_busy w.reader.phase
  way-back w b e busy = ap is_under_way e ∙ sym busy

  requesting-way : (w : World M) → Requesting machine start w → is_busy w.reader.phase ≡ true
      → is_under_way w.line ≡ is_busy w.reader.phase
  requesting-way w r busy = ⊎_elim
      (λ (there : w.line ≡ toward_card resynch_request). way-there w resynch_request there busy)
      (λ (back : ((w.line ≡ toward_reader resynch_response) × (w.card ≡ fresh)) ⊎
      ((b : Block) × (w.line ≡ toward_reader b) × (heard (frame b) ≢ Ok resynch_response))). ⊎_elim
      (λ (set_back : (w.line ≡ toward_reader resynch_response) × (w.card ≡ fresh)).
      way-back w resynch_response set_back.0 busy) (λ (other : (b : Block) × (w.line ≡ toward_reader b)
      × (heard (frame b) ≢ Ok resynch_response)). way-back w other.0 other.1 busy) back)
      r.way

  lawful : (c : Counts) (w : World M) → Good machine start c w → Lawful machine start w
  lawful c w (at_rest r repaired) = record {
    kept = kept-free w (ap is_busy r.phase) r.kept;
    under_way = ap is_under_way r.line ∙ sym (ap is_busy r.phase);
    only_requests = r.only;
    three_requests = r.most;
    fits = λ free. r.fits;
  }
  lawful c w (exchange x budget) = let busy = ap is_busy x.awaits.phase in record {
    kept = kept-busy w busy (at-open machine start Invariant fits begins x.stage (core w) x.at);
    under_way = ⊎_elim
        (λ (there : (b : Block) × (w.line ≡ toward_card b) × ToCard x.stage (core w) b).
        way-there w there.0 there.1 busy) (λ (back : (b : Block) × (w.line ≡ toward_reader b)
        × ToReader x.stage (core w) b). way-back w back.0 back.1 busy) x.way;
    only_requests = x.awaits.only;
    three_requests = omega (arith, x.awaits.requested);
    fits = λ free. absurd (cc (busy, free));
  }
  lawful c w (requesting_now r often) = let busy = ap is_busy r.phase in record {
    kept = kept-busy w busy r.kept;
    under_way = requesting-way w r busy;
    only_requests = r.only;
    three_requests = omega (arith, r.count, r.most);
    fits = λ free. absurd (cc (busy, free));
  }
  lawful c w (given_up g repaired failed) = record {
    kept = kept-free w (ap is_busy g.phase) g.kept;
    under_way = ap is_under_way g.line ∙ sym (ap is_busy g.phase);
    only_requests = g.only;
    three_requests = g.most;
    fits = λ free. g.fits;
  }

  -- the request was answered
  answered-so : (w : World M) (bytes : List ℕ) → Requesting machine start w → heard bytes ≡ Ok resynch_response
      → ((after_arrival machine w (at_reader bytes)).reports ≡ Unknown ∷ w.reports)
      × ((after_arrival machine w (at_reader bytes)).offered ≡ w.offered)
  answered-so w bytes r e =
      let row : reader_step w.reader bytes ≡ record { reader = fresh_reader; outcome = unknown } =
      reader_takes-resynch w.reader (heard bytes) r.some ∙ ap (turns_resynch w.reader) e
      ∙ turns_resynch-answered w.reader in
      subst (λ (t : Turned). ((turning w t).reports ≡ Unknown ∷ w.reports)
      × ((turning w t).offered ≡ w.offered)) (sym row) (refl, refl)

  -- it was not, and what follows is the reader's end's next request or its giving up
  unanswered-so : (w : World M) (came : Arrival) → Requesting machine start w → IsUnanswered came
      → after_arrival machine w came ≡ turning w (requesting_again w.reader)
  unanswered-so w came r (inl e) = ap (after_arrival machine w) e
      ∙ ap (turning w) (reader_times_out-resynch w.reader r.some)
  unanswered-so w came r (inr h) = ap (after_arrival machine w) h.1
      ∙ ap (turning w) (reader_takes-resynch w.reader (heard h.0) r.some ∙ turns_resynch-else w.reader (heard h.0) h.2)

  resynchs-so : (w : World M) (came : Arrival) → Requesting machine start w
      → Resynchs w came (after_arrival machine w came)
  resynchs-so w came r = record {
    answered = λ bytes e h. subst (λ (a : Arrival). ((after_arrival machine w a).reports ≡ Unknown ∷ w.reports)
        × ((after_arrival machine w a).offered ≡ w.offered)) (sym e)
        (answered-so w bytes r h);
    again = λ u few. let left : w.reader.resynchs < 3 = omega (arith, few, r.count) in
        subst (λ (after : World M). (after.reports ≡ w.reports) × (after.line ≡ toward_card resynch_request)
        × (after.offered ≡ resynch_request ∷ w.offered))
        (sym (unanswered-so w came r u ∙ ap (turning w) (requesting_again-more w.reader left))) (refl, refl, refl);
    lost = λ u three. let spent : 3 ≤ w.reader.resynchs = omega (arith, three, r.count) in
        subst (λ (after : World M). (after.reports ≡ Failed LinkLost ∷ w.reports) × (after.offered ≡ w.offered))
        (sym (unanswered-so w came r u ∙ ap (turning w) (requesting_again-last w.reader spent))) (refl, refl);
  }

  nothing-so : (w after : World M) → Resynchs w nothing after
  nothing-so w after = record {
    answered = λ bytes e h. absurd cc;
    again = λ u few. ⊎_elim (λ (e : nothing ≡ in_vain). absurd cc)
        (λ (h : (bytes : List ℕ) × (nothing ≡ at_reader bytes) × (heard bytes ≢ Ok resynch_response)). let e =
        h.1 in absurd (cc e)) u;
    lost = λ u three. ⊎_elim (λ (e : nothing ≡ in_vain). absurd cc)
        (λ (h : (bytes : List ℕ) × (nothing ≡ at_reader bytes) × (heard bytes ≢ Ok resynch_response)). let e =
        h.1 in absurd (cc e)) u;
  }

  resynchs-event : (w : World M) (event : Event) → Requesting machine start w
      → Resynchs w (arrival w.line event) (world_step machine w event)
  unfolding world_step
  resynchs-event w (send command) r = subst (λ (came : Arrival). Resynchs w came (world_step machine w (send command)))
      (sym (send-quiet w.line command)) (nothing-so w _)
  resynchs-event w pass r = resynchs-so w (arrival w.line pass) r
  resynchs-event w lose r = resynchs-so w (arrival w.line lose) r
  resynchs-event w (garble bytes) r = resynchs-so w (arrival w.line (garble bytes)) r

  resynchs-good : (c : Counts) (w : World M) (event : Event) → Good machine start c w → is_busy w.reader.phase ≡ true
      → 1 ≤ requests w.offered → Resynchs w (arrival w.line event) (world_step machine w event)
  resynchs-good c w event (at_rest r repaired) busy some = let free = ap is_busy r.phase in absurd (cc (free, busy))
  resynchs-good c w event (exchange x budget) busy some = absurd (omega (arith, x.awaits.requested, some))
  resynchs-good c w event (requesting_now r often) busy some = resynchs-event w event r
  resynchs-good c w event (given_up g repaired failed) busy some = let free = ap is_busy g.phase in
      absurd (cc (free, busy))

  -- after a report, where no command is in hand
  repaired-so : (c : Counts) (w : World M) → Good machine start c w → is_busy w.reader.phase ≡ false
      → Repaired c w.sent w.reports
  repaired-so c w (at_rest r repaired) free = repaired
  repaired-so c w (exchange x budget) free = let busy = ap is_busy x.awaits.phase in absurd (cc (busy, free))
  repaired-so c w (requesting_now r often) free = let busy = ap is_busy r.phase in absurd (cc (busy, free))
  repaired-so c w (given_up g repaired failed) free = repaired

  command-small : (sent earlier : List (List ℕ)) (command : List ℕ) → sent ≡ command ∷ earlier
      → is_command command ≡ true → length (newest sent) ≤ 261
  command-small sent earlier command e sound = let n = ap (λ (xs : List (List ℕ)). length (newest xs)) e in
      let most = (command_size command sound).1 in
      omega (arith, n, most)

  answer-short : (k : Core M) (answer : List ℕ) → After machine start k.past answer → length answer ≤ 258
      → length (newest_answer k.past.carried) ≤ 258
  answer-short k answer h short = let n =
      ap length (ap newest_answer h.carried ∙ h.answer_is) in omega (arith, n, short)

  -- a command of at most 261 bytes and an answer of at most 258 take at most 2 and 9 blocks
  straight-in_time : (passes : ℕ) (stage : Stage) (kind : Kind) (k : Core M) → At machine start stage k
      → Straight passes stage kind k → passes < 20
  straight-in_time passes command_offered offers_card k at s =
      let small = command-small k.past.sent at.history.earlier at.command at.history.sent at.sound in
      omega (arith, s, small)
  straight-in_time passes command_taken asks_reader k at s =
      let small = command-small k.past.sent at.history.earlier at.command at.history.sent at.sound in
      omega (arith, s, small)
  straight-in_time passes answer_offered offers_reader k at s =
      let small = command-small k.past.sent at.history.earlier at.history.command at.history.sent at.history.sound in
      let short = answer-short k at.answer at.history at.at_most in
      omega (arith, s, small, short)
  straight-in_time passes answer_taken asks_card k at s =
      let small = command-small k.past.sent at.history.earlier at.history.command at.history.sent at.history.sound in
      let short = answer-short k at.answer at.history at.at_most in
      let left = some_left k.card.rest at.more in
      omega (arith, s, small, short, left)
  straight-in_time passes stage kind k at s = absurd s

  budget-in_time : (c : Counts) (stage : Stage) (kind : Kind) (k : Core M) (tries : ℕ) → At machine start stage k
      → Budget c stage kind k tries → c.faults ≡ 0 → c.passes < 20
  budget-in_time c stage kind k tries at (many m) zero = absurd (omega (arith, m, zero))
  budget-in_time c stage kind k tries at (once f n) zero = absurd (omega (arith, f, zero))
  budget-in_time c stage kind k tries at (none_yet f t s) zero = straight-in_time c.passes stage kind k at s

  in_time-so : (c : Counts) (w : World M) → Good machine start c w → is_busy w.reader.phase ≡ true
      → c.faults ≡ 0 → c.passes < 20
  in_time-so c w (at_rest r repaired) busy zero = let free = ap is_busy r.phase in absurd (cc (busy, free))
  in_time-so c w (exchange x budget) busy zero = budget-in_time c x.stage (kind_of x.stage (core w) w.line x.way)
      (core w) w.reader.tries x.at budget zero
  in_time-so c w (requesting_now r often) busy zero = absurd (omega (arith, often, zero))
  in_time-so c w (given_up g repaired failed) busy zero = let free = ap is_busy g.phase in absurd (cc (busy, free))

  -- the counts change nothing
  same : (events : List Event) (v : Watched M) → (watch machine v events).world ≡ world machine v.world events
  unfolding watch world
  same [] v = refl
  same (event ∷ events) v =
      same events (record { world = world_step machine v.world event; counts = counts_after v event })

  good-watched : (events : List Event)
      → Good machine start (watched machine start events).counts (watched machine start events).world
  good-watched events = good-watch machine start Invariant fits begins events
      (record { world = powered start; counts = no_counts }) (good-powered machine start Invariant fits begins)

  same-watched : (events : List Event) → (watched machine start events).world ≡ comes_of machine start events
  same-watched events = same events (record { world = powered start; counts = no_counts })

  pub good-world : (events : List Event)
      → Good machine start (watched machine start events).counts (comes_of machine start events)
  good-world events = subst (λ (w : World M). Good machine start (watched machine start events).counts w)
      (same-watched events) (good-watched events)

-- the law, for a machine with states of any type
pub world-lawful : {M : Type 0} (machine : Machine M) (Invariant : M → Type 0) → Answers machine Invariant
    → WorldLaw machine Invariant
world-lawful machine Invariant fits start events begins =
    lawful machine start Invariant fits begins (watched machine start events).counts (comes_of machine start events)
    (good-world machine start Invariant fits begins events)

pub world-resynchs : {M : Type 0} (machine : Machine M) (Invariant : M → Type 0) → Answers machine Invariant
    → ResynchLaw machine Invariant
world-resynchs machine Invariant fits start events event begins busy some =
    resynchs-good machine start Invariant fits begins (watched machine start events).counts
    (comes_of machine start events) event (good-world machine start Invariant fits begins events) busy some

pub world-repairs : {M : Type 0} (machine : Machine M) (Invariant : M → Type 0) → Answers machine Invariant
    → RepairLaw machine Invariant
world-repairs machine Invariant fits start events begins = record {
  same_world = same-watched machine start Invariant fits begins events;
  repaired = repaired-so machine start Invariant fits begins (watched machine start events).counts
      (watched machine start events).world (good-watched machine start Invariant fits begins events);
  in_time = in_time-so machine start Invariant fits begins (watched machine start events).counts
      (watched machine start events).world (good-watched machine start Invariant fits begins events);
}
