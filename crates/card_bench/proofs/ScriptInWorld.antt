-- The commands of a script are exchanges in one world, from a power-on to the next.
use Rattle.std.specs.Prelude.{◌≡◌, ◌≤◌, ◌&&◌, ℕ, true, nat_le, List, ◌++◌, length, Option, Some, refl}
use Rattle.std.proofs.Common.{sym, subst, ◌∙◌}
use Rattle.std.proofs.lemmas.Bool.{and_from, le-leb}
use Rattle.t1_link.specs.ReaderTable.{Reader, fresh_reader}
use Rattle.card_model.specs.Requests.{AreBytes}
use Rattle.command_base.specs.laws.FoundLaws.{found_is_proper}
use Rattle.card_bench.specs.Exchanges.{Ended}
use Rattle.card_bench.specs.Exchanges.{answered, set_back, link_lost, power_lost}
use Rattle.card_bench.specs.declared.line.Line.{Line}
use Rattle.bench_lines.specs.Orders.{Order}
use Rattle.bench_lines.specs.Orders.{Nothing, On, Off, Free, Apdu, Block, Cut, Lose, Garble}
use Rattle.bench_turns.specs.declared.turn.Item.{Item}
use Rattle.bench_turns.specs.declared.turn.Item.TheVariants as item
use Rattle.bench_turns.specs.declared.turn.Turn.TheVariants as turn
use Rattle.bench_turns.specs.BenchStates.{BenchHasCard, BenchState, IsFresh, off, on, IsArmed}
use Rattle.card_bench.specs.Exchanges.{Commands, Desk, GoesOn, left_by}
use Rattle.card_bench.specs.ExchangeWorlds.{GoesAs, StandIn, course_of, exchange_events, state_served}
use Rattle.bench_lines.specs.Orders.{IsOrderSized}
use Rattle.card_bench.specs.Performing.{Performs, PerformsCommand, reader_after, shown}
use Rattle.bench_lines.specs.Printouts.{Print, prints_atr}
use Rattle.card_bench.specs.ScriptWorlds.{CommandInWorld, IsInNewWorld, IsInWorld, LineInWorld, PowerOnLaw, LineLaw}
use Rattle.bench_lines.specs.Spellings.{IsOrderOfBytes}
use Rattle.t1_link.specs.TreeMachine.{IsProperState, Served, tree_machine}
use Rattle.bench_turns.specs.Turns.{GoodTurn}
use Rattle.t1_link.specs.Worlds.{Event, World, are_bytes, is_command, world}
use Rattle.t1_link.specs.WorldLaw.{comes_of}
use Rattle.card_bench.proofs.ExchangeInWorld.{exchange-runs}
use Rattle.t1_link.proofs.SoundBlocks.{told-bytes}

-- a command of a line is one of the world
pub command-so : (bytes : List ℕ) → 1 ≤ length bytes → length bytes ≤ 261 → AreBytes bytes → is_command bytes ≡ true
command-so bytes some most all =
    and_from (are_bytes bytes) (nat_le 1 (length bytes) && nat_le (length bytes) 261) (told-bytes bytes all)
    (and_from (nat_le 1 (length bytes)) (nat_le (length bytes) 261) (le-leb 1 (length bytes) some)
    (le-leb (length bytes) 261 most))

-- a desk that is the same, but for what is pending on the line
same-desk : (start : Served) (events : List Event) (old new : Desk) → new ≡ old → IsInWorld start events old
    → IsInWorld start events new
same-desk start events old new same there = subst (λ (d : Desk). IsInWorld start events d) (sym same) there

other-line : (start : Served) (events : List Event) (old : Desk) (line : Line) → IsInWorld start events old
    → IsInWorld start events (record old { line = line })
other-line start events old line there =
    record { reader = there.reader; may_send = there.may_send; stands = there.stands; calm = there.calm }

-- a cut that is set to come leaves the card, its session and its end of the link
armed-stands : (bench new : BenchState) (reader : Reader) (w : World Served) (number mask : ℕ)
    → IsArmed number mask bench new → StandIn bench reader w → StandIn new reader w
armed-stands (off facts) new reader w number mask armed s = absurd s
armed-stands (on p) new reader w number mask armed s =
    subst (λ (b : BenchState). StandIn b reader w) (sym armed.same)
    (record { reader_is = s.reader_is; link_is = s.link_is; card_is = s.card_is })

module _ (start : Served) (events : List Event) (proper : IsProperState start) where
  -- where another command may be sent
  goes-on : (command : List ℕ) (old new : Desk) (reader : Reader) (ending : Ended)
      → GoesAs (course_of start events command old.line)
      (record { bench = new.bench; reader = reader; line = new.line }) ending
      → new.reader ≡ left_by ending reader → GoesOn ending
      → (blocks : ℕ)
      × IsInWorld start (events ++ exchange_events (comes_of tree_machine start events) command old.line blocks) new
  goes-on command old new reader (answered answer) goes left on_ = (
    goes.blocks,
    record { reader = reader; may_send = left; stands = goes.ended.0; calm = goes.ended.1.line },
  )
  goes-on command old new reader set_back goes left on_ = (
    goes.blocks,
    record { reader = reader; may_send = left; stands = goes.ended.0; calm = goes.ended.1.line },
  )
  goes-on command old new reader link_lost goes left on_ = absurd on_
  goes-on command old new reader power_lost goes left on_ = absurd on_

  commands-in : (command : List ℕ) (old new : Desk) (prints : Print) → is_command command ≡ true
      → (there : IsInWorld start events old) → Commands old (Some there.reader) command new prints
      → CommandInWorld command start events old new prints
  commands-in command old new prints sound there (reader, ending, exchanged, left, printed) =
      let course = exchange-runs start events (record { bench = old.bench; reader = there.reader; line = old.line })
      (record { bench = new.bench; reader = reader; line = new.line }) command ending proper there.stands
      there.calm sound exchanged in
      record {
        reader = reader;
        ending = ending;
        course = course;
        left = left;
        printed = printed;
        goes_on = λ on_. goes-on command old new reader ending course left on_;
      }

  performs-in : (bench : BenchState) (command : List ℕ) (old new : Desk) (prints : Print) → is_command command ≡ true
      → (there : IsInWorld start events old) → StandIn bench there.reader (comes_of tree_machine start events)
      → PerformsCommand bench old command new prints
      → CommandInWorld command start events old new prints
  performs-in (off facts) command old new prints sound there s performs = absurd s
  performs-in (on p) command old new prints sound there s performs =
      commands-in command old new prints sound there
      (subst (λ (r : Option Reader). Commands old r command new prints) there.may_send performs)

  line-in : (order : Order) (old new : Desk) (prints : Print) → IsInWorld start events old → IsOrderSized order
      → IsOrderOfBytes order → Performs order old new prints → LineInWorld order start events old new prints
  line-in Nothing old new prints there sized bytes performs = same-desk start events old new performs.0 there
  line-in On old new prints there sized bytes performs = tt
  line-in Off old new prints there sized bytes performs = tt
  line-in Free old new prints there sized bytes performs = same-desk start events old new performs.0 there
  line-in (Apdu command) old new prints there sized bytes performs =
      performs-in old.bench command old new prints (command-so command sized.0 sized.1 bytes)
      there there.stands performs
  line-in (Block block) old new prints there sized bytes performs = tt
  line-in (Cut number mask) old new prints there sized bytes performs = record {
    reader = there.reader;
    may_send = performs.reader ∙ there.may_send;
    stands = armed-stands old.bench new.bench there.reader (comes_of tree_machine start events) number mask
        performs.armed there.stands;
    calm = there.calm;
  }
  line-in (Lose number) old new prints there sized bytes performs =
      same-desk start events _ new performs.0 (other-line start events old _ there)
  line-in (Garble number) old new prints there sized bytes performs =
      same-desk start events _ new performs.0 (other-line start events old _ there)

pub line-goes_on : LineLaw
line-goes_on start events order old new prints proper there sized bytes performs =
    line-in start events proper order old new prints there sized bytes performs

-- a card that starts
begins-so : (bench : BenchState) (line : Line) → BenchHasCard bench → IsFresh bench
    → IsInNewWorld (record { bench = bench; reader = Some fresh_reader; line = line })
unfolding world
begins-so (off facts) line there new = absurd new
begins-so (on p) line there new = record {
  start = state_served p;
  proper = found_is_proper p.card.facts.words there;
  fresh = new.0;
  in_world = record {
    reader = fresh_reader;
    may_send = refl;
    stands = record { reader_is = refl; link_is = new.1; card_is = refl };
    calm = refl;
  };
}

atr-so : (came : Item) (old new : Desk) → GoodTurn old.bench turn.On came new.bench → new.reader ≡ reader_after came
    → prints_atr ≡ shown came → BenchHasCard new.bench → IsInNewWorld new
atr-so item.Atr old new turn reader shows there =
    subst (λ (d : Desk). IsInNewWorld d) (λ i. record { bench = new.bench; reader = sym reader i; line = new.line })
    (begins-so new.bench new.line there turn.one.0)
atr-so item.Quiet old new turn reader shows there = absurd turn.one
atr-so item.Mute old new turn reader shows there = absurd cc
atr-so item.Dark old new turn reader shows there = absurd cc
atr-so (item.Reply block) old new turn reader shows there = absurd turn.one

pub power-on-begins : PowerOnLaw
power-on-begins old new there performs =
    atr-so performs.outcome old new performs.turn performs.reader performs.printed there
