-- Runs put together.
use Rattle.std.specs.Prelude.{◌≡◌, ◌≢◌, ◌⊎◌, ◌-◌, ◌<◌, ℕ, suc, refl, List, [], ◌∷◌, Bool, true, false, Option, None}
use Rattle.std.specs.Prelude.{is_some}
use Rattle.std.proofs.Common.{ap, arith, inl, inr, sym, subst}
use Rattle.std.proofs.Math.Logic.{⊎_map}
use Rattle.nvm_board.specs.declared.board.Arm.{Arm}
use Rattle.nvm_board.specs.Aims.{due_of}
use Rattle.nvm_board.specs.Facts.{Facts}
use Rattle.bench_turns.specs.declared.turn.Turn.{Turn}
use Rattle.bench_turns.specs.declared.turn.Turn.TheVariants as turn
use Rattle.bench_turns.specs.declared.turn.Item.{Item}
use Rattle.bench_turns.specs.declared.turn.Item.TheVariants as item
use Rattle.card_model.specs.declared.space.FreeSpace.{FreeSpace}
use Rattle.bench_turns.specs.BenchStates.{BenchState, IsWell, bench_facts, IsArmed}
use Rattle.command_base.specs.Finding.{HasCard}
use Rattle.bench_turns.specs.declared.turn_result.TurnResult.{TurnResult}
use Rattle.bench_turns.specs.declared.turn_result.TurnResult.TheVariants as turned
use Rattle.bench_turns.specs.Plays.{IsGood, TellsItem}
use Rattle.bench_turns.specs.Turns.{GoodTurn, Runs}
use Rattle.card_sweeps.specs.Tallies.{Finding}
use Rattle.bench_turns.proofs.TurnsTold.{tells-then}
use Rattle.card_sweeps.specs.Sweeps.{CutsStarts, CutsTurn, EndsBefore, EndsBehindStarts, EndsIn, EndsUncut, GivenByRun}
use Rattle.card_sweeps.specs.Sweeps.{PlaysOn, SweptTurn, off_with, free_of, start_on}

-- no turns
pub runs-none : (old : BenchState) (trace : List Item) (new : BenchState) → Runs old [] trace new → new ≡ old
unfolding Runs
runs-none old [] new same = same
runs-none old (item ∷ items) new run = absurd run

-- no start is to be cut
pub behind_none : (depth : ℕ) (board : Facts) (probe : List Turn) (given : Finding) → depth ≡ 0
    → EndsIn board probe given → EndsBehindStarts depth board probe given
unfolding CutsStarts
behind_none depth board probe given none end =
    record { starts = 0; few = omega arith; left = board; cut = refl; done = inl (omega (arith, none)); end = end }

-- the next one makes no write
pub behind_whole : (depth : ℕ) (board : Facts) (memory : List ℕ) (probe : List Turn) (given : Finding)
    → EndsBefore 1 (start_on board) memory → EndsIn board probe given → EndsBehindStarts depth board probe given
unfolding CutsStarts
behind_whole depth board memory probe given whole end =
    record { starts = 0; few = omega arith; left = board; cut = refl; done = inr whole.uncut.0; end = end }

-- the next one is cut
pub behind_more : (depth : ℕ) (board : Facts) (probe : List Turn) (given : Finding) → 0 < depth
    → GivenByRun (start_on board) probe (depth - 1) given → EndsBehindStarts depth board probe given
unfolding CutsStarts
behind_more depth board probe given more run = record {
  starts = suc run.rest.starts;
  few = omega (arith, run.rest.few);
  left = run.rest.left;
  cut = (run.number, run.mask, run.left, run.cut, run.rest.cut);
  done = ⊎_map (λ (all : run.rest.starts ≡ depth - 1). omega (arith, all)) (λ whole. whole) run.rest.done;
  end = run.rest.end;
}

-- a run of the turn that is cut, and what comes after it
pub given-by-run : (depth number mask : ℕ) (swept : SweptTurn) (left : Facts) (probe : List Turn) (given : Finding)
    → CutsTurn number mask swept left → EndsBehindStarts depth left probe given → GivenByRun swept probe depth given
given-by-run depth number mask swept left probe given cut rest =
    record { number = number; mask = mask; left = left; cut = cut; rest = rest }

-- a look at a board
pub ends-in : (board : Facts) (probe : List Turn) (first started last : BenchState) (told : TurnResult) (reply : List ℕ)
    (trace : List Item) (free : FreeSpace) → board.faults ≡ 0 → board.due ≡ due_of board.pending → first
    ≡ off_with board → (IsGood first → IsGood started × TellsItem told reply (λ i. GoodTurn first turn.On i started))
    → (IsWell started → free ≡ free_of started)
    → (IsGood started → IsGood last × Runs started probe trace last)
    → HasCard board.words → EndsIn board probe (record { trace = trace; free = free })
ends-in board probe first started last told reply trace free fine due is start shown played card =
    let good : IsGood first =
    subst (λ (b : BenchState). IsGood b) (sym is) (record { has_card = card; faults = fine; due = due; well = tt }) in
    let on = start good in
    tells-then told reply (λ i. GoodTurn first turn.On i started)
    (EndsIn board probe (record { trace = trace; free = free })) (λ i turned. record {
      item = i;
      started = started;
      last = last;
      start = subst (λ (b : BenchState). GoodTurn b turn.On i started) is turned;
      free = shown on.0.well;
      probed = (played on.0).1;
    }) on.1

-- of what came, be it that power was lost or not
spares-so : (told : TurnResult) (reply : List ℕ) (P : Item → Type 0) (X R : Type 0) (dark : Bool)
    → (dark ≡ false → told ≡ turned.Dark → ⊥) → (dark ≡ false) ⊎ X → ((i : Item) → (i ≢ item.Dark) ⊎ X → P i → R)
    → TellsItem told reply P → R
spares-so turned.Atr reply P X R dark lit spared then holds = then item.Atr (inl (λ e. cc)) holds
spares-so turned.Quiet reply P X R dark lit spared then holds = then item.Quiet (inl (λ e. cc)) holds
spares-so turned.Mute reply P X R dark lit spared then holds = then item.Mute (inl (λ e. cc)) holds
spares-so turned.Dark reply P X R dark lit spared then holds = elim spared [
  | inl is ↦ absurd (lit is refl)
  | inr more ↦ then item.Dark (inr more) holds
]
spares-so turned.Reply reply P X R dark lit spared then holds = then (item.Reply reply) (inl (λ e. cc)) holds

-- the board of a bench that is left
pending-of : (last : BenchState) (left : Facts) → left ≡ record (bench_facts last) { dark = true }
    → left.pending ≡ (bench_facts last).pending
pending-of last left is = ap (λ (f : Facts). f.pending) is

-- turns played on a board
pub plays-on : (board left : Facts) (first last : BenchState) (turns : List Turn) (trace : List Item)
    → board.faults ≡ 0 → board.due ≡ due_of board.pending → first ≡ off_with board
    → left ≡ record (bench_facts last) { dark = true }
    → (IsGood first → IsGood last × Runs first turns trace last) → HasCard board.words → PlaysOn board turns trace left
plays-on board left first last turns trace fine due is left_is plays card =
    let good : IsGood first =
    subst (λ (b : BenchState). IsGood b) (sym is) (record { has_card = card; faults = fine; due = due; well = tt }) in
    let played = plays good in
    record {
      last = last;
      runs = subst (λ (b : BenchState). Runs b turns trace last) is played.1;
      left_is = left_is;
      has_card = subst HasCard (sym (ap (λ (f : Facts). f.words) left_is)) played.0.has_card;
    }

-- whether a board is left in which power was lost, with no cut to come
module _ (board left : Facts) (first armed last : BenchState) (told : TurnResult) (reply : List ℕ) (number mask : ℕ)
    (dark : Bool) (fine : board.faults ≡ 0) (due : board.due ≡ due_of board.pending) (is : first ≡ off_with board)
    (left_is : left ≡ record (bench_facts last) { dark = true }) (lit : dark ≡ false → told ≡ turned.Dark → ⊥)
    (spared : (dark ≡ false) ⊎ (is_some left.pending ≡ true)) (card : HasCard board.words) where
  first-good : IsGood first
  first-good = subst (λ (b : BenchState). IsGood b) (sym is)
      (record { has_card = card; faults = fine; due = due; well = tt })

  spared-so : (dark ≡ false) ⊎ (is_some (bench_facts last).pending ≡ true)
  spared-so = subst (λ (a : Option Arm). (dark ≡ false) ⊎ (is_some a ≡ true)) (pending-of last left left_is) spared

  -- the turn makes fewer writes
  pub spares-turn : (prepare : List Turn) (turn : Turn) (trace : List Item) (prepared : BenchState)
      → (IsGood first → IsGood prepared × Runs first prepare trace prepared) → (IsGood prepared → IsGood armed)
      → IsArmed number mask prepared armed
      → (IsGood armed → IsGood last × TellsItem told reply (λ i. GoodTurn armed turn i last))
      → EndsUncut number mask (record { board = board; prepare = prepare; turn = turn }) left.words
  spares-turn prepare turn trace prepared prepares arms arm plays =
      let before = prepares first-good in
      spares-so told reply (λ i. GoodTurn armed turn i last) (is_some (bench_facts last).pending ≡ true)
      (EndsUncut number mask (record { board = board; prepare = prepare; turn = turn }) left.words) dark lit spared-so
      (λ i spares played. (
        record {
          trace = trace;
          item = i;
          prepared = prepared;
          armed = armed;
          last = last;
          before = subst (λ (b : BenchState). Runs b prepare trace prepared) is before.1;
          arm = arm;
          good = arms before.0;
          good_left = (plays (arms before.0)).0;
          played = played;
          spared = spares;
        },
        ap (λ (f : Facts). f.words) left_is,
      )) (plays (arms before.0)).1

-- the board that is left where power was lost, with no cut to come
module _ (board left : Facts) (first armed last : BenchState) (told : TurnResult) (reply : List ℕ) (number mask : ℕ)
    (fine : board.faults ≡ 0) (due : board.due ≡ due_of board.pending) (is : first ≡ off_with board)
    (left_is : left ≡ record (bench_facts last) { dark = true }) (dark : told ≡ turned.Dark)
    (fired : left.pending ≡ None) (card : HasCard board.words) where
  first-well : IsGood first
  first-well = subst (λ (b : BenchState). IsGood b) (sym is)
      (record { has_card = card; faults = fine; due = due; well = tt })

  left-card : IsGood last → HasCard left.words
  left-card good = subst HasCard (sym (ap (λ (f : Facts). f.words) left_is)) good.has_card

  -- the turn is cut
  pub cuts-turn : (prepare : List Turn) (turn : Turn) (trace : List Item) (prepared : BenchState)
      → (IsGood first → IsGood prepared × Runs first prepare trace prepared) → (IsGood prepared → IsGood armed)
      → IsArmed number mask prepared armed
      → (IsGood armed → IsGood last × TellsItem told reply (λ i. GoodTurn armed turn i last))
      → CutsTurn number mask (record { board = board; prepare = prepare; turn = turn }) left
  cuts-turn prepare turn trace prepared prepares arms arm plays =
      let before = prepares first-well in
      let good = arms before.0 in
      let played = plays good in
      record {
        trace = trace;
        prepared = prepared;
        armed = armed;
        last = last;
        before = subst (λ (b : BenchState). Runs b prepare trace prepared) is before.1;
        arm = arm;
        good = good;
        good_left = played.0;
        cut = subst (λ (t : TurnResult). TellsItem t reply (λ i. GoodTurn armed turn i last)) dark played.1;
        left_is = left_is;
        fired = fired;
        has_card = left-card played.0;
      }
