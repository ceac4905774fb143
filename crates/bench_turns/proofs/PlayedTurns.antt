-- Turns played one after another.
use Rattle.std.specs.Prelude.{◌≡◌, ◌≢◌, ◌⊎◌, ◌+◌, ◌≤◌, ℕ, Bool, true, List, [], ◌∷◌, ◌++◌, refl}
use Rattle.std.proofs.Common.{ap, arith, sym, subst, inl, inr, ⊎_elim}
use Rattle.nvm_board.specs.Facts.{Facts, Fails, GoesDark, Steady}
use Rattle.nvm_board.specs.laws.Aims.{pages_none, torn_none, torn_off}
use Rattle.nvm_board.specs.laws.History.{wrote_off, wrote_same}
use Rattle.bench_turns.specs.declared.turn.Turn.{Turn}
use Rattle.bench_turns.specs.declared.turn.Item.{Item}
use Rattle.t1_link.specs.CardTable.{link_step}
use Rattle.undo_journal.specs.Spending.{Advances, KeepsBoard}
use Rattle.card_start.specs.declared.state.CardState.{CardState}
use Rattle.card_start.specs.declared.state.CardState.TheVariants as state
use Rattle.card_start.specs.declared.state.CardState.TheVariants.{Working}
use Rattle.command_base.specs.Comparing.{comparisons}
use Rattle.command_base.specs.declared.spending.TheConstants.{COMMAND_WRITES}
use Rattle.command_base.specs.Finding.{HasCard}
use Rattle.card_start.specs.Running.{Running, card_found}
use Rattle.command_base.specs.laws.ShownLaws.{ComparesOrStays}
use Rattle.bench_turns.specs.declared.turn.Item.TheVariants.{Dark, Mute, Reply}
use Rattle.bench_turns.specs.BenchStates.{BenchState, off, on, bench_facts}
use Rattle.bench_turns.specs.CardBlocks.{Powered, BlockChangesNothing, BlockCompares, BlockStands, BlockFails}
use Rattle.bench_turns.specs.CardBlocks.{BlockIsCut, BlockTurns, IsBlockStage, Replies}
use Rattle.bench_turns.specs.CardBlocks.{RepliesFailure}
use Rattle.bench_turns.specs.FaultTurns.{CountedTurn, IsTraceWithFaults}
use Rattle.bench_turns.specs.Guessing.{GuessesFew, PaysAhead}
use Rattle.bench_turns.specs.Plays.{BringsNoFault, Plays, PlaysAll, PlaysBlock}
use Rattle.bench_turns.specs.Turns.{CountsLosses, GoodTurn, IsTrace, Runs, Spends, TurnIsCut, Wears, dark_of, darks}
use Rattle.bench_turns.proofs.FewGuesses.{pays-nothing, pays-on}
use Rattle.bench_turns.proofs.GuessesPaid.{ArePaid, paid-few}
use Rattle.bench_turns.proofs.Wearing.{aims-off, wears-shown, wears-writing}

run_more : (old between new : BenchState) (turns : List Turn) (trace : List Item) (turn : Turn) (item : Item)
    → Runs old turns trace between → GoodTurn between turn item new
    → Runs old (turns ++ turn ∷ []) (trace ++ item ∷ []) new
unfolding Runs
run_more old between new [] [] turn item run one =
    (new, subst (λ (b : BenchState). GoodTurn b turn item new) run one, refl)
run_more old between new [] (i ∷ trace) turn item run one = absurd run
run_more old between new (t ∷ turns) [] turn item run one = absurd run
run_more old between new (t ∷ turns) (i ∷ trace) turn item run one =
    (run.0, run.1, run_more run.0 between new turns trace turn item run.2 one)

fault_more : (old between new : BenchState) (turns : List Turn) (trace : List Item) (turn : Turn) (item : Item)
    → IsTraceWithFaults old turns trace between → CountedTurn between turn item new
    → IsTraceWithFaults old (turns ++ turn ∷ []) (trace ++ item ∷ []) new
unfolding IsTraceWithFaults
fault_more old between new [] [] turn item run one =
    (new, subst (λ (b : BenchState). CountedTurn b turn item new) run one, refl)
fault_more old between new [] (i ∷ trace) turn item run one = absurd run
fault_more old between new (t ∷ turns) [] turn item run one = absurd run
fault_more old between new (t ∷ turns) (i ∷ trace) turn item run one =
    (run.0, run.1, fault_more run.0 between new turns trace turn item run.2 one)

none_faulty : (old : BenchState) → IsTraceWithFaults old [] [] old
unfolding IsTraceWithFaults
none_faulty old = refl

-- a run of turns, without what they count
pub traced : (old : BenchState) (turns : List Turn) (trace : List Item) (new : BenchState) → Runs old turns trace new
    → IsTrace old turns trace new
unfolding Runs IsTrace
traced old [] [] new run = run
traced old [] (item ∷ items) new run = run
traced old (turn ∷ turns) [] new run = run
traced old (turn ∷ turns) (item ∷ items) new run = (run.0, run.1.one, traced run.0 turns items new run.2)

darks_more : (trace : List Item) (item : Item) → darks (trace ++ item ∷ []) ≡ darks trace + dark_of item
unfolding darks
darks_more [] item = omega arith
darks_more (i ∷ trace) item = let e : darks (trace ++ item ∷ []) ≡ darks trace + dark_of item =
    darks_more trace item in omega (arith, e)

none_run : (old : BenchState) → Runs old [] [] old
unfolding Runs
none_run old = refl

none_dark : darks [] ≡ 0
unfolding darks
none_dark = refl

-- one more turn's counts
counts_more : (a b : ℕ) (old between new : Facts) → CountsLosses a old between → Spends b between new
    → CountsLosses (a + b) old new
counts_more a b old between new all more =
    let due : (between.due ≤ new.due + b) × (new.due ≤ between.due) = elim more.due [
      | inl spent ↦ (omega (arith, spent), omega (arith, spent))
      | inr worn ↦ (omega (arith, worn.1), omega (arith, worn.1))
    ] in
    record {
      cuts = omega (arith, all.cuts, more.cuts);
      due = omega (arith, all.due, due.0);
      undue = omega (arith, all.undue, due.1);
      faults = omega (arith, all.faults, more.faults);
      more = omega (arith, all.more, more.more);
    }

-- no turn
pub plays_none : (old : BenchState) → PlaysAll old [] [] old
plays_none old = record {
  has_card = λ before. before;
  counts = record {
    cuts = omega (arith, none_dark);
    due = omega (arith, none_dark);
    undue = omega arith;
    faults = omega arith;
    more = omega arith;
  };
  well = λ good. good.well;
  guesses = pays-nothing old old refl refl;
  runs = λ before good. none_run old;
  any = λ before. none_faulty old;
}

-- one more turn
pub plays_more : (old between new : BenchState) (turns : List Turn) (trace : List Item) (turn : Turn) (item : Item)
    → PlaysAll old turns trace between → Plays between turn item new
    → PlaysAll old (turns ++ turn ∷ []) (trace ++ item ∷ []) new
plays_more old between new turns trace turn item all more =
    let first : BringsNoFault old new → BringsNoFault old between =
    λ good. record { faults = omega (arith, good.faults, all.counts.faults, more.counts.faults); well = good.well } in
    let second : BringsNoFault old new → BringsNoFault between new = λ good. record {
      faults = omega (arith, good.faults, all.counts.faults, more.counts.faults);
      well = all.well (first good);
    } in
    record {
      has_card = λ before. more.has_card (all.has_card before);
      counts = subst (λ (n : ℕ). CountsLosses n (bench_facts old) (bench_facts new)) (sym (darks_more trace item))
          (counts_more (darks trace) (dark_of item) (bench_facts old) (bench_facts between) (bench_facts new)
          all.counts more.counts);
      well = λ good. more.well (second good);
      guesses = pays-on old between new all.guesses more.guesses;
      runs = λ before good. run_more old between new turns trace turn item (all.runs before (first good)) (record {
        one = more.one (all.has_card before) (second good);
        counts = more.counts;
        wears = more.wears (all.has_card before) (second good);
        guesses = more.guesses;
        ahead = more.ahead;
      });
      any = λ before. fault_more old between new turns trace turn item (all.any before) (record {
        one = more.any (all.has_card before);
        counts = more.counts;
        wears = more.wears (all.has_card before);
      });
    }

-- a card that is neither dark nor failed works
pub works_else : (s : CardState) → s ≢ state.Dark → (s ≡ state.Failed → ⊥) → s ≡ Working
works_else state.Working lit fine = refl
works_else state.Failed lit fine = absurd (fine refl)
works_else state.Dark lit fine = absurd (lit refl)

-- a card that isn't dark works, or its memory has failed
works_or_failed : (s : CardState) → s ≢ state.Dark → (s ≡ Working) ⊎ (s ≡ state.Failed)
works_or_failed state.Working lit = inl refl
works_or_failed state.Failed lit = inr refl
works_or_failed state.Dark lit = absurd (lit refl)

-- a block in which power was lost, which is then turned off
pub plays_cut : (old new : Powered) (got out : List ℕ) → old.card.state ≡ Working → BlockIsCut old got new out
    → HasCard new.card.facts.words
    → IsBlockStage old (link_step old.link got).reaction (card_found new.card)
    → ArePaid (card_found old.card) (card_found new.card) (comparisons old.card.facts) (comparisons new.card.facts)
    → ComparesOrStays (card_found old.card) (card_found new.card) (comparisons old.card.facts)
    (comparisons new.card.facts) → new.card.facts.writes ≤ old.card.facts.writes + COMMAND_WRITES
    → Advances old.card.facts new.card.facts
    → (old.card.state ≡ Working → BlockStands old (link_step old.link got).reaction new.card.facts.words)
    → (old.card.state ≡ Working → BlockTurns old (link_step old.link got).reaction new.card.facts)
    → BlockCompares old (link_step old.link got).reaction new.card.facts
    → (BlockChangesNothing old (link_step old.link got).reaction → KeepsBoard old.card.facts new.card.facts)
    → PaysAhead (on old) (on new) → PlaysBlock (on old) got Dark (off (record new.card.facts { dark = true }))
unfolding wrote_off
plays_cut old new got out well cut found stage paid shown writes advances stands turned compares idle ahead = record {
  has_card = λ before. found;
  counts = record {
    cuts = cut.power.cuts;
    due = cut.power.due;
    faults = omega (arith, cut.power.faults);
    more = advances.more;
    cut = aims-off old.card.facts new.card.facts advances.cut.cut;
    still = λ none fine same. absurd (omega (arith, none));
    wrote = wrote_off old.card.facts new.card.facts advances.cut.wrote;
    pages = advances.cut.pages;
    masks = advances.cut.masks;
    torn = torn_off old.card.facts new.card.facts advances.cut.wrote.runs advances.cut.torn;
  };
  well = λ good. tt;
  guesses = paid-few (on old) (off (record new.card.facts { dark = true })) paid;
  ahead = let w = ahead.wrote in record {
    wrote = record { runs = w.runs; words = w.words; log = w.log; counted = w.counted };
    paid = ahead.paid;
  };
  one = λ before good. is_cut;
  any = λ before. (well, is_cut, goes_dark);
  wears = λ good.
      wears-shown COMMAND_WRITES (card_found old.card) (card_found new.card) old.card.facts
      (record new.card.facts { dark = true }) shown good.faults writes;
}
  where
    goes_dark : GoesDark old.card.facts (record new.card.facts { dark = true })
    goes_dark = record {
      was_lit = cut.power.was_lit;
      dark = refl;
      faults = cut.power.faults;
      cuts = cut.power.cuts;
      due = cut.power.due;
    }

    is_cut : TurnIsCut old got (off (record new.card.facts { dark = true }))
    is_cut = record {
      power = refl;
      run = cut.run;
      stage = stage;
      word = stands well;
      turned = subst (λ (dark : Bool). BlockTurns old (link_step old.link got).reaction
          (record new.card.facts { dark = dark })) cut.power.dark (turned well);
      compares = subst (λ (dark : Bool). BlockCompares old (link_step old.link got).reaction
          (record new.card.facts { dark = dark })) cut.power.dark compares;
      idle = λ nothing.
          subst (λ (dark : Bool). KeepsBoard old.card.facts (record new.card.facts { dark = dark })) cut.power.dark
          (idle nothing);
    }

-- no power was lost, and faults may have risen
keeps_power : (a b : Facts) → b.cuts ≡ a.cuts → b.due ≡ a.due → a.faults ≤ b.faults → Advances a b → Spends 0 a b
keeps_power a b cuts due faults advances = record {
  cuts = omega (arith, cuts);
  due = inl (omega (arith, due));
  faults = faults;
  more = advances.more;
  cut = advances.cut.cut;
  still = λ none fine same. advances.cut.still (omega (arith, cuts, fine, same));
  wrote = advances.cut.wrote;
  pages = advances.cut.pages;
  masks = advances.cut.masks;
  torn = advances.cut.torn;
}

-- the counts of a card that isn't dark, after a block that it answers
answered-counts : (s : CardState) (a b : Facts) → s ≢ state.Dark → (s ≡ Working → Steady a b ⊎ Fails a b)
    → (s ≡ state.Failed → b ≡ a) → Advances a b → Spends 0 a b
answered-counts state.Working a b lit power same advances =
    ⊎_elim (λ p. let faults = p.faults in keeps_power a b p.cuts p.due (omega (arith, faults)) advances)
    (λ p. let faults = p.faults in keeps_power a b p.cuts p.due (omega (arith, faults)) advances) (power refl)
answered-counts state.Failed a b lit power same advances =
    let is : b ≡ a = same refl in
    let faults : b.faults ≡ a.faults = ap (λ (f : Facts). f.faults) is in
    keeps_power a b (ap (λ (f : Facts). f.cuts) is) (ap (λ (f : Facts). f.due) is) (omega (arith, faults)) advances
answered-counts state.Dark a b lit power same advances = absurd (lit refl)

-- without a fault the card replies as the model
replied : (old new : Powered) (got out : List ℕ) → Replies old got new out ⊎ BlockFails old got new out
    → new.card.facts.faults ≡ old.card.facts.faults → Replies old got new out
replied old new got out answer same =
    ⊎_elim (λ r. r) (λ f. let risen = f.power.faults in absurd (omega (arith, same, risen))) answer

-- a block that is answered
pub plays_replied : (old new : Powered) (got out : List ℕ) → old.card.state ≢ state.Dark → HasCard new.card.facts.words
    → (old.card.state ≡ Working → Replies old got new out ⊎ BlockFails old got new out)
    → (old.card.state ≡ state.Failed → (new.card ≡ old.card) × RepliesFailure old got new out)
    → IsBlockStage old (link_step old.link got).reaction (card_found new.card)
    → (old.card.state ≡ Working → BlockStands old (link_step old.link got).reaction new.card.facts.words)
    → (old.card.state ≡ Working → BlockTurns old (link_step old.link got).reaction new.card.facts)
    → BlockCompares old (link_step old.link got).reaction new.card.facts
    → (BlockChangesNothing old (link_step old.link got).reaction → KeepsBoard old.card.facts new.card.facts)
    → Advances old.card.facts new.card.facts → new.card.facts.writes ≤ old.card.facts.writes + COMMAND_WRITES
    → GuessesFew (on old) (on new) → PaysAhead (on old) (on new)
    → (BringsNoFault (on old) (on new) → Wears COMMAND_WRITES old.card.facts new.card.facts)
    → PlaysBlock (on old) got (Reply out) (on new)
plays_replied old new got out lit found replies failed stage stands turned compares idle advances writes guesses ahead
    wears = record {
      has_card = λ before. found;
      counts = answered-counts old.card.state old.card.facts new.card.facts lit
          (λ is. ⊎_elim (λ r. inl r.power) (λ f. inr f.power) (replies is))
          (λ is. ap (λ (r : Running). r.facts) (failed is).0) advances;
      well = λ good. (replied old new got out (replies good.well) good.faults).state;
      guesses = guesses;
      ahead = ahead;
      one = λ before good. replied old new got out (replies good.well) good.faults;
      any = λ before. record {
        alive = works_or_failed old.card.state lit;
        works = λ well. ⊎_elim (λ (r : Replies old got new out). inl r)
            (λ (f : BlockFails old got new out). inr (record {
              fails = f;
              stage = stage;
              word = stands well;
              turned = turned well;
              compares = compares;
              writes = writes;
              idle = idle;
            }))
            (replies well);
        failed = failed;
      };
      wears = wears;
    }

-- a block to a card without power
pub hears_nothing : (old new : BenchState) (facts : Facts) (got : List ℕ) → old ≡ off facts → new ≡ old
    → PlaysBlock old got Mute new
unfolding wrote_same
hears_nothing old new facts got is same =
    subst (λ (b : BenchState). PlaysBlock old got Mute b) (sym same)
    (subst (λ (b : BenchState). PlaysBlock b got Mute b) (sym is) (record {
      has_card = λ before. before;
      counts = record {
        cuts = omega arith;
        due = inl (omega arith);
        faults = omega arith;
        more = omega arith;
        cut = inl refl;
        still = λ none fine same. refl;
        wrote = wrote_same facts;
        pages = pages_none;
        masks = refl;
        torn = torn_none _ _ _ refl;
      };
      well = λ good. tt;
      guesses = pays-nothing (off facts) (off facts) refl refl;
      ahead = record { wrote = wrote_same facts; paid = inl refl };
      one = λ before good. refl;
      any = λ before. refl;
      wears = λ good. wears-writing COMMAND_WRITES facts facts refl (omega arith) refl;
    }))
