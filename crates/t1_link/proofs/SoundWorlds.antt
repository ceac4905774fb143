-- In every world the block under way can be spelled, by bytes and in at most 254 of them.
use Rattle.std.specs.Prelude.{◌≡◌, ◌<◌, ℕ, Bool, true, false, not, if◌then◌else◌, List, [], ◌∷◌, Result, Ok, Err, refl}
use Rattle.std.proofs.Common.{arith, sym, subst}
use Rattle.std.proofs.lemmas.Bool.{and_parts}
use Rattle.std.proofs.lemmas.List.Elements.{All-nil}
use Rattle.t1_link.specs.declared.block.Fault.{Fault}
use Rattle.t1_link.specs.Blocks.{Block, frame, heard}
use Rattle.t1_link.specs.BlockLaws.{heard-frame}
use Rattle.t1_link.specs.CardTable.{Reaction, link_step, replies, runs, sending}
use Rattle.t1_link.specs.ReaderTable.{CommandReport, Turned, fails, gives, is_busy, reader_sends, reader_step}
use Rattle.t1_link.specs.ReaderTable.{reader_times_out, sends, unknown}
use Rattle.card_model.specs.Requests.{AreBytes}
use Rattle.t1_link.specs.Worlds.{Arrival, Event, Line, Machine, World, are_bytes, arrival, after_arrival}
use Rattle.t1_link.specs.Worlds.{at_card, at_reader, garble, giving, in_vain, is_command}
use Rattle.t1_link.specs.Worlds.{is_garbled, lose, may_arrive, may_send, noted, nothing, pass, powered, quiet}
use Rattle.t1_link.specs.Worlds.{reacting, send, toward_card, toward_reader, turning, world, world_step}
use Rattle.t1_link.proofs.SoundBlocks.{IsSound, IsSoundLink, IsSoundOutcome, IsSoundReaction, IsSoundReader}
use Rattle.t1_link.proofs.SoundBlocks.{IsSoundTaken, IsSoundTurned, IsSoundlyHeard}
use Rattle.t1_link.proofs.SoundBlocks.{sound-in_vain, sound-sending, sound-sends, sound-taken, sound-turned}
use Rattle.t1_link.proofs.TreeAnswers.{command-bytes}

abbrev pub IsSoundLine : Line → Type 0
IsSoundLine quiet = Unit {0}
IsSoundLine (toward_card b) = IsSound b
IsSoundLine (toward_reader b) = IsSound b

abbrev IsSoundArrival : Arrival → Type 0
IsSoundArrival (at_card bytes) = IsSoundlyHeard (heard bytes)
IsSoundArrival (at_reader bytes) = IsSoundlyHeard (heard bytes)
IsSoundArrival in_vain = Unit {0}
IsSoundArrival nothing = Unit {0}

-- a machine that keeps an invariant over commands of bytes, and in states where it holds answers each by bytes
pub record AnswersByBytes {M : Type 0} (machine : Machine M) (Invariant : M → Type 0) : Type 0 where
  pub bytes : (m : M) (command : List ℕ) → Invariant m → AreBytes command → AreBytes (machine.answer m command)
  pub keeps : (m : M) (command : List ℕ) → Invariant m → AreBytes command → Invariant (machine.next m command)

pub record IsSoundWorld {M : Type 0} (Invariant : M → Type 0) (w : World M) : Type 0 where
  pub card : IsSoundLink w.card
  pub reader : IsSoundReader w.reader
  pub line : IsSoundLine w.line
  pub machine : Invariant w.machine

sound-frame : (b : Block) → IsSound b → IsSoundlyHeard (heard (frame b))
sound-frame b s = subst IsSoundlyHeard (sym (heard-frame b s.spellable)) s

no-block : (h : Result Block Fault) → is_garbled h ≡ true → IsSoundlyHeard h
no-block (Err fault) e = tt
no-block (Ok b) e = absurd cc

garbled-heard : (bytes : List ℕ) → may_arrive bytes ≡ true → IsSoundlyHeard (heard bytes)
garbled-heard bytes may = no-block (heard bytes) (and_parts (are_bytes bytes) (is_garbled (heard bytes)) may).1

-- what may arrive, or nothing does
sound-garbled : (bytes : List ℕ) (may : Bool) (came : Arrival) → may_arrive bytes ≡ may
    → (IsSoundlyHeard (heard bytes) → IsSoundArrival came) → IsSoundArrival (if may then came else nothing)
sound-garbled bytes true came e so = so (garbled-heard bytes e)
sound-garbled bytes false came e so = tt

sound-arrival : (line : Line) (event : Event) → IsSoundLine line → IsSoundArrival (arrival line event)
sound-arrival quiet event s = tt
sound-arrival (toward_card b) (send command) s = tt
sound-arrival (toward_card b) pass s = sound-frame b s
sound-arrival (toward_card b) lose s = tt
sound-arrival (toward_card b) (garble bytes) s = sound-garbled bytes (may_arrive bytes) (at_card bytes) refl (λ h. h)
sound-arrival (toward_reader b) (send command) s = tt
sound-arrival (toward_reader b) pass s = sound-frame b s
sound-arrival (toward_reader b) lose s = tt
sound-arrival (toward_reader b) (garble bytes) s =
    sound-garbled bytes (may_arrive bytes) (at_reader bytes) refl (λ h. h)

module _ {M : Type 0} (machine : Machine M) (Invariant : M → Type 0) (fits : AnswersByBytes machine Invariant) where
  sound-noted : (w : World M) (o : CommandReport) → IsSoundWorld Invariant w → IsSoundOutcome o
      → IsSoundWorld Invariant (noted w o)
  sound-noted w (sends b) s x = record { card = s.card; reader = s.reader; line = x; machine = s.machine }
  sound-noted w (gives answer) s x = record { card = s.card; reader = s.reader; line = tt; machine = s.machine }
  sound-noted w unknown s x = record { card = s.card; reader = s.reader; line = tt; machine = s.machine }
  sound-noted w (fails failure) s x = record { card = s.card; reader = s.reader; line = tt; machine = s.machine }

  sound-turning : (w : World M) (t : Turned) → IsSoundWorld Invariant w → IsSoundTurned t
      → IsSoundWorld Invariant (turning w t)
  sound-turning w t s x = sound-noted (record w { reader = t.reader }) t.outcome
      (record { card = s.card; reader = x.reader; line = s.line; machine = s.machine }) x.outcome

  sound-reacting : (w : World M) (reaction : Reaction) → IsSoundWorld Invariant w → IsSoundReaction reaction
      → IsSoundWorld Invariant (reacting machine w reaction)
  sound-reacting w (replies b) s x = record { card = s.card; reader = s.reader; line = x; machine = s.machine }
  sound-reacting w (runs command) s x =
      let sent : IsSoundTaken (sending w.card (machine.answer w.machine command)) =
      sound-sending w.card (machine.answer w.machine command) s.card (fits.bytes w.machine command s.machine x) in
      record {
        card = sent.link;
        reader = s.reader;
        line = sent.reaction;
        machine = fits.keeps w.machine command s.machine x;
      }

  sound-arriving : (w : World M) (came : Arrival) → IsSoundWorld Invariant w → IsSoundArrival came
      → IsSoundWorld Invariant (after_arrival machine w came)
  sound-arriving w (at_card bytes) s x =
      let taken = sound-taken w.card (heard bytes) s.card x in
      sound-reacting (record w { card = (link_step w.card bytes).link }) (link_step w.card bytes).reaction
      (record { card = taken.link; reader = s.reader; line = s.line; machine = s.machine }) taken.reaction
  sound-arriving w (at_reader bytes) s x =
      sound-turning w (reader_step w.reader bytes) s (sound-turned w.reader (heard bytes) s.reader)
  sound-arriving w in_vain s x = sound-turning w (reader_times_out w.reader) s (sound-in_vain w.reader s.reader)
  sound-arriving w nothing s x = s

  sound-given : (w : World M) (command : List ℕ) (may : Bool) → may_send w.reader command ≡ may
      → IsSoundWorld Invariant w → IsSoundWorld Invariant (if may then giving w command else w)
  sound-given w command true e s =
      let sound = (and_parts (not (is_busy w.reader.phase)) (is_command command) e).1 in
      sound-turning (record w { sent = command ∷ w.sent; offered = [] }) (reader_sends w.reader command)
      (record { card = s.card; reader = s.reader; line = s.line; machine = s.machine })
      (sound-sends w.reader command s.reader (command-bytes command sound))
  sound-given w command false e s = s

  pub sound-step : (w : World M) (event : Event) → IsSoundWorld Invariant w
      → IsSoundWorld Invariant (world_step machine w event)
  unfolding world_step
  sound-step w (send command) s = sound-given w command (may_send w.reader command) refl s
  sound-step w pass s = sound-arriving w (arrival w.line pass) s (sound-arrival w.line pass s.line)
  sound-step w lose s = sound-arriving w (arrival w.line lose) s (sound-arrival w.line lose s.line)
  sound-step w (garble bytes) s = sound-arriving w (arrival w.line (garble bytes)) s
      (sound-arrival w.line (garble bytes) s.line)

  pub sound-world : (w : World M) (events : List Event) → IsSoundWorld Invariant w
      → IsSoundWorld Invariant (world machine w events)
  unfolding world
  sound-world w [] s = s
  sound-world w (event ∷ events) s = sound-world (world_step machine w event) events (sound-step w event s)

  pub sound-powered : (start : M) → Invariant start → IsSoundWorld Invariant (powered start)
  sound-powered start begins =
      let none : AreBytes [] = All-nil (λ number. number < 256) in
      record {
        card = record { size = omega arith; sent = omega arith; sent_bytes = none; rest = none; held = none };
        reader = record { size = omega arith; field = none; rest = none };
        line = tt;
        machine = begins;
      }
