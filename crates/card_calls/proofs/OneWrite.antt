-- A command or a block that is cut at its first device write makes one at most.
use Rattle.std.specs.Prelude.{◌≡◌, ◌≤◌, ◌<◌, ◌+◌, ◌==◌, if◌then◌else◌, ℕ, zero, suc, Bool, true, false, List, []}
use Rattle.std.specs.Prelude.{length, Option, None, Some, Result, Ok, Err, option_map}
use Rattle.std.proofs.Common.{◌∙◌, ap, ap₂, arith, inl, inr, refl, subst, sym, length-append}
use Rattle.std.proofs.lemmas.Option.{none-some}
use Rattle.nvm_board.specs.declared.board.Arm.{Arm}
use Rattle.nvm_board.specs.Aims.{Aim, WritesRuns, aim, due_of}
use Rattle.nvm_board.specs.Facts.{Facts}
use Rattle.nvm_board.specs.laws.History.{wrote_then}
use Rattle.t1_link.specs.ReaderTable.{Reader, reader_sends}
use Rattle.bench_lines.specs.Orders.{Order, Nothing, On, Off, Free, Apdu, Block, Cut, Lose, Garble}
use Rattle.bench_lines.specs.Printouts.{Print}
use Rattle.bench_turns.specs.BenchStates.{BenchState, off, on, IsArmed, bench_facts, with_facts}
use Rattle.bench_turns.specs.Plays.{IsGood}
use Rattle.bench_turns.specs.Turns.{Spends, dark_of}
use Rattle.bench_turns.proofs.Wearing.{one-dark}
use Rattle.card_bench.specs.Charges.{MayCompare}
use Rattle.card_bench.specs.Exchanges.{Arrives, CardTakes, Commands, Desk, Ended, Ends, Exchanges, GoesThrough}
use Rattle.card_bench.specs.Exchanges.{NextBlock, Passes, answered, bytes_under_way, following}
use Rattle.card_bench.specs.Exchanges.{link_lost, power_lost, set_back, toward_card, toward_reader}
use Rattle.card_bench.specs.Lines.{arriving}
use Rattle.card_bench.specs.Performing.{Performs, PerformsCommand}
use Rattle.card_bench.specs.declared.reader_turns.TheConstants.{LINE_BLOCKS}

-- The cut of a board falls into its next write, of which it leaves the words of its mask.
pub record AtNext (f : Facts) : Type 0 where
  pub masks : f.masks ≡ true
  pub cut : Aim
  pub aims : aim f ≡ Some cut
  pub next : cut.write ≡ f.writes + 1

-- at most one device write
pub record OneWritten (old new : BenchState) : Type 0 where
  pub wrote : WritesRuns (bench_facts old) (bench_facts new)
  pub one : length wrote.runs ≤ 1

-- no device write: the cut is still to come
record NoneWritten (old new : BenchState) : Type 0 where
  wrote : WritesRuns (bench_facts old) (bench_facts new)
  none : length wrote.runs ≡ 0
  next : AtNext (bench_facts new)

-- a cut falls into a later write than those that were made
write_of : Option Aim → ℕ
write_of None = 0
write_of (Some a) = a.write

aim-later : (z : Bool) (o : Option Arm) (n : ℕ) (a : Aim)
    → (if z then None else option_map (λ arm. record { write = n + arm.whole_writes + 1; mask = arm.mask }) o) ≡ Some a
    → n < a.write
unfolding write_of
aim-later true o n a is = absurd (none-some a is)
aim-later false None n a is = absurd (none-some a is)
aim-later false (Some arm) n a is =
    let write : n + arm.whole_writes + 1 ≡ a.write = ap write_of is in omega (arith, write)

-- calls in which power was lost once at most
module _ (old new : Facts) (lost : ℕ) (once : lost ≤ 1) (spends : Spends lost old new)
    (faults : new.faults ≡ old.faults) (at : AtNext old) where
  few : length spends.wrote.runs ≤ lost
  few = elim spends.cut [
    | inl same ↦
        let later = aim-later (new.due == 0) new.pending new.writes at.cut (same ∙ at.aims) in
        omega (arith, once, later, at.next, spends.more, spends.cuts, faults, spends.wrote.counted)
    | inr fell ↦
        let torn = spends.torn at.masks at.cut at.aims fell.none in
        let all = ap length torn.all ∙ length-append torn.earlier _ in
        omega (arith, once, torn.before, at.next, spends.cuts, faults, all)
  ]

  still : lost ≡ 0 → AtNext new
  still lit = elim spends.cut [
    | inl same ↦
        let later = aim-later (new.due == 0) new.pending new.writes at.cut (same ∙ at.aims) in
        record {
          masks = spends.masks ∙ at.masks;
          cut = at.cut;
          aims = same ∙ at.aims;
          next = omega (arith, later, at.next, spends.more);
        }
    | inr fell ↦
        let torn = spends.torn at.masks at.cut at.aims fell.none in
        absurd (omega (arith, lit, torn.before, at.next, spends.cuts, faults))
  ]

-- the writes before a step that goes on, and before one that ends
abbrev Went : Result NextBlock Ended → BenchState → BenchState → Type 0
Went (Ok next) old new = NoneWritten old new
Went (Err ended) old new = OneWritten old new

same-went : (follows : Result NextBlock Ended) (old new : BenchState) → AtNext (bench_facts old) → new ≡ old
    → Went follows old new
same-went (Ok next) old new at same = subst (λ (b : BenchState). NoneWritten old b) (sym same) (record {
  wrote = record { runs = []; words = refl; log = refl; counted = omega arith };
  none = refl;
  next = at;
})
same-went (Err ended) old new at same = subst (λ (b : BenchState). OneWritten old b) (sym same)
    (record { wrote = record { runs = []; words = refl; log = refl; counted = omega arith }; one = omega arith })

-- one block on the line
taken-went : (old : BenchState) (got : List ℕ) (new : BenchState) (follows : Result NextBlock Ended)
    → AtNext (bench_facts old) → CardTakes old got new follows → Went follows old new
taken-went old got new (Ok (toward_card bytes)) at takes = absurd takes
taken-went old got new (Ok (toward_reader bytes)) at takes = record {
  wrote = takes.counts.wrote;
  none =
      let none = few (bench_facts old) (bench_facts new) 0 (omega arith) takes.counts takes.wears.faults at in
      omega (arith, none);
  next = still (bench_facts old) (bench_facts new) 0 (omega arith) takes.counts takes.wears.faults at refl;
}
taken-went old got new (Err (answered answer)) at takes = absurd takes
taken-went old got new (Err set_back) at takes = absurd takes
taken-went old got new (Err link_lost) at takes = absurd takes
taken-went old got new (Err power_lost) at takes = record {
  wrote = takes.counts.wrote;
  one = few (bench_facts old) (bench_facts new) 1 (omega arith) takes.counts takes.wears.faults at;
}

arrived-went : (old : Ends) (way : NextBlock) (arrived : Option (List ℕ)) (new : Ends)
    (follows : Result NextBlock Ended) → AtNext (bench_facts old.bench) → Arrives old way arrived new follows
    → Went follows old.bench new.bench
arrived-went old (toward_card block) None new follows at arrives =
    same-went follows old.bench new.bench at arrives.0
arrived-went old (toward_reader block) None new follows at arrives =
    same-went follows old.bench new.bench at arrives.0
arrived-went old (toward_card block) (Some got) new follows at arrives =
    taken-went old.bench got new.bench follows at arrives.1
arrived-went old (toward_reader block) (Some got) new follows at arrives =
    same-went follows old.bench new.bench at arrives.0

passed-went : (old : Ends) (way : NextBlock) (new : Ends) (follows : Result NextBlock Ended)
    → AtNext (bench_facts old.bench) → Passes old way new follows → Went follows old.bench new.bench
passed-went old way new follows at passes =
    arrived-went old way (arriving old.line 0 (bytes_under_way way)) new follows at passes.arrives

-- an exchange
exchanged-once : (blocks : ℕ) (old : Ends) (way : NextBlock) (new : Ends) (ending : Ended)
    → AtNext (bench_facts old.bench) → Exchanges blocks old way new ending → OneWritten old.bench new.bench
unfolding Exchanges wrote_then
exchanged-once zero old way new ending at run =
    same-went (Err ending) old.bench new.bench at (ap (λ (e : Ends). e.bench) run.0)
exchanged-once (suc blocks) old way new ending at (inl passes) = passed-went old way new (Err ending) at passes
exchanged-once (suc blocks) old way new ending at (inr run) =
    let first = passed-went old way run.0 (Ok run.1) at run.2 in
    let rest = exchanged-once blocks run.0 run.1 new ending first.next run.3 in
    record {
      wrote = wrote_then (bench_facts old.bench) (bench_facts run.0.bench) (bench_facts new.bench) first.wrote
          rest.wrote;
      one =
          let all = length-append first.wrote.runs rest.wrote.runs in omega (arith, all, first.none, rest.one);
    }

through-once : (follows : Result NextBlock Ended) (old new : Ends) (ending : Ended) → AtNext (bench_facts old.bench)
    → GoesThrough follows old new ending → OneWritten old.bench new.bench
through-once (Ok first) old new ending at run = exchanged-once LINE_BLOCKS old first new ending at run
through-once (Err ended) old new ending at run =
    same-went (Err ended) old.bench new.bench at (ap (λ (e : Ends). e.bench) run.0)

sent-once : (old : Desk) (reader : Option Reader) (command : List ℕ) (new : Desk) (prints : Print)
    → AtNext (bench_facts old.bench) → Commands old reader command new prints → OneWritten old.bench new.bench
sent-once old None command new prints at run =
    same-went (Err link_lost) old.bench new.bench at (ap (λ (d : Desk). d.bench) run.0)
sent-once old (Some reader) command new prints at run =
    let turned = reader_sends reader command in
    through-once (following turned.outcome) (record { bench = old.bench; reader = turned.reader; line = old.line })
    (record { bench = new.bench; reader = run.0; line = new.line }) run.1 at run.2

command-once : (b : BenchState) (old : Desk) (command : List ℕ) (new : Desk) (prints : Print)
    → AtNext (bench_facts old.bench) → PerformsCommand b old command new prints → OneWritten old.bench new.bench
command-once (off facts) old command new prints at run =
    same-went (Err link_lost) old.bench new.bench at (ap (λ (d : Desk). d.bench) run.0)
command-once (on powered) old command new prints at run = sent-once old old.reader command new prints at run

-- an order that can compare
pub performed_once : (order : Order) (old new : Desk) (prints : Print) → MayCompare order
    → AtNext (bench_facts old.bench) → Performs order old new prints → OneWritten old.bench new.bench
performed_once Nothing old new prints may at run = absurd may
performed_once On old new prints may at run = absurd may
performed_once Off old new prints may at run = absurd may
performed_once Free old new prints may at run = absurd may
performed_once (Apdu command) old new prints may at run = command-once old.bench old command new prints at run
performed_once (Block block) old new prints may at run =
    let lost = dark_of run.outcome in
    let once : lost ≤ 1 = one-dark run.outcome in
    let wrote = few (bench_facts old.bench) (bench_facts new.bench) lost once run.turn.counts run.turn.wears.faults at
    in
    record { wrote = run.turn.counts.wrote; one = omega (arith, once, wrote) }
performed_once (Cut number mask) old new prints may at run = absurd may
performed_once (Lose number) old new prints may at run = absurd may
performed_once (Garble number) old new prints may at run = absurd may

-- a board whose cut was set for its next write
with-facts : (b : BenchState) (f : Facts) → bench_facts (with_facts b f) ≡ f
with-facts (off facts) f = refl
with-facts (on powered) f = refl

pub armed_next : (mask : ℕ) (old new : BenchState) → IsArmed 1 mask old new → IsGood new
    → (bench_facts old).masks ≡ true → AtNext (bench_facts new)
armed_next mask old new arm good masks =
    let z = bench_facts new in
    let is : z ≡ record (bench_facts old) { due = z.due; pending = Some (record { whole_writes = 0; mask = mask }) } =
    ap bench_facts arm.same ∙ with-facts old _ in
    let set : z.pending ≡ Some (record { whole_writes = 0; mask = mask }) = ap (λ (f : Facts). f.pending) is in
    record {
      masks = ap (λ (f : Facts). f.masks) is ∙ masks;
      cut = record { write = z.writes + 0 + 1; mask = mask };
      aims = ap₂ (λ (n : ℕ) (o : Option Arm). aim (record z { due = n; pending = o })) (good.due ∙ ap due_of set) set;
      next = omega arith;
    }
