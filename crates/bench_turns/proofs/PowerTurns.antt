-- A power-on, by how the start of the card ended.
use Rattle.std.specs.Prelude.{◌≡◌, ◌≤◌, ◌+◌, ◌⊎◌, ℕ, true, false, List, Option, IfSome}
use Rattle.std.proofs.Common.{arith, ap, ap₂, inl, inr, refl, subst, sym, ◌∙◌, true≢false}
use Rattle.nvm_board.specs.Aims.{Aim, aim, AimsOn, FitPages, KeepsAim, TearsLast, WritesRuns, events}
use Rattle.nvm_board.specs.Facts.{Facts, GoesDark, IsMemory, IsWorn, IsWornOut, Steady}
use Rattle.nvm_board.specs.laws.Aims.{pages_none, torn_lit, torn_none, torn_off}
use Rattle.nvm_board.specs.laws.History.{wrote_none, wrote_off, wrote_same, wrote_then}
use Rattle.undo_journal.specs.declared.layout.TheConstants.{PAIRS}
use Rattle.undo_journal.specs.Spending.{WritesAtMost, rollback_writes, start_writes}
use Rattle.undo_journal.specs.Undo.{gate}
use Rattle.card_start.specs.declared.faults.StartFault.{StartFault}
use Rattle.card_start.specs.declared.faults.StartFault.TheVariants.{PowerLost, Fault, BadJournal, Damaged}
use Rattle.command_base.specs.Comparing.{Comparisons, comparisons}
use Rattle.command_base.specs.Finding.{FindsAgain, HasCard, found}
use Rattle.card_start.specs.Running.{Starts, StartStopsBy}
use Rattle.card_start.specs.Starting.{KeepsFoundUnlessOld, power_on_writes, renewal_writes}
use Rattle.t1_link.specs.CardTable.{fresh}
use Rattle.bench_turns.specs.declared.turn.Turn.TheVariants as turn
use Rattle.bench_turns.specs.declared.turn.Item.TheVariants as item
use Rattle.bench_turns.specs.BenchStates.{BenchState, off, on, bench_facts}
use Rattle.bench_turns.specs.CardBlocks.{Powered}
use Rattle.bench_turns.specs.Guessing.{GuessesFew}
use Rattle.bench_turns.specs.Plays.{Plays}
use Rattle.bench_turns.specs.Turns.{LeavesCard, Wears, most_renewal, turn_writes}
use Rattle.bench_turns.proofs.FewGuesses.{pays-nothing, writing-compares}
use Rattle.bench_turns.proofs.Wearing.{aims-off, few-renewal, few-start, wears-writing}

-- power goes off
pub turns_off : (old new : BenchState) → new ≡ off (record (bench_facts old) { dark = true })
    → Plays old turn.Off item.Quiet new
unfolding wrote_off wrote_same
turns_off old new is = subst (λ (b : BenchState). Plays old turn.Off item.Quiet b) (sym is) (record {
  has_card = λ before. before;
  counts = record {
    cuts = omega arith;
    due = inl (omega arith);
    faults = omega arith;
    more = omega arith;
    cut = inl refl;
    still = λ none fine same. refl;
    wrote = wrote_off (bench_facts old) (bench_facts old) (wrote_same (bench_facts old));
    pages = pages_none;
    masks = refl;
    torn = torn_none _ _ _ refl;
  };
  well = λ good. tt;
  guesses = pays-nothing old (off (record (bench_facts old) { dark = true })) refl refl;
  ahead = record {
    wrote = wrote_off (bench_facts old) (bench_facts old) (wrote_same (bench_facts old));
    paid = inl refl;
  };
  one = λ before good. refl;
  any = λ before. refl;
  wears = λ before good.
      wears-writing 0 (bench_facts old) (record (bench_facts old) { dark = true }) refl (omega arith) refl;
})

-- the bench before, and its board with power off
module _ (old : BenchState) (dark : Facts) (darkened : dark ≡ record (bench_facts old) { dark = true }) where
  same-words : dark.words ≡ (bench_facts old).words
  same-words = ap (λ (f : Facts). f.words) darkened

  same-counts : comparisons dark ≡ comparisons (bench_facts old)
  same-counts = ap comparisons darkened

  -- a count of the board stands at its end, so that the card stays mute
  pub stays_mute : (new : Facts) → IsWornOut dark → new ≡ dark → Plays old turn.On item.Mute (off new)
  unfolding wrote_none
  stays_mute new worn same =
      let is : new ≡ record (bench_facts old) { dark = true } = same ∙ darkened in
      let words : new.words ≡ (bench_facts old).words = ap (λ (f : Facts). f.words) is in
      let cuts : new.cuts ≡ (bench_facts old).cuts = ap (λ (f : Facts). f.cuts) is in
      let due : new.due ≡ (bench_facts old).due = ap (λ (f : Facts). f.due) is in
      let faults : new.faults ≡ (bench_facts old).faults = ap (λ (f : Facts). f.faults) is in
      let writes : new.writes ≡ (bench_facts old).writes = ap (λ (f : Facts). f.writes) is in
      record {
        has_card = λ before. subst HasCard (sym words) before;
        counts = record {
          cuts = omega (arith, cuts);
          due = inl (omega (arith, due));
          faults = omega (arith, faults);
          more = omega (arith, writes);
          cut = inl (ap aim is);
          still = λ none fine same. words;
          wrote = wrote_none (bench_facts old) new words (ap (λ (f : Facts). f.log) is)
              (omega (arith, writes, cuts, faults));
          pages = pages_none;
          masks = ap (λ (f : Facts). f.masks) is;
          torn = torn_none _ _ _ (ap aim is);
        };
        well = λ good. tt;
        guesses = pays-nothing old (off new) (ap found words) (ap comparisons is);
        ahead = record {
          wrote = wrote_none (bench_facts old) new words (ap (λ (f : Facts). f.log) is)
              (omega (arith, writes, cuts, faults));
          paid = inl (ap comparisons is);
        };
        one = λ before good. (ap (λ (f : Facts). off f) is, subst IsWornOut (sym same) worn);
        any = λ before. inl ((ap (λ (f : Facts). off f) is, subst IsWornOut (sym same) worn), faults);
        wears = λ before good.
            wears-writing (turn_writes old turn.On) (bench_facts old) new faults
            (omega (arith, writes)) (ap comparisons is);
      }

  -- the board with power on
  module _ (lit : Facts) (lights : lit ≡ record dark { dark = false }) (sized : IsMemory lit.words) where
    lit-words : lit.words ≡ (bench_facts old).words
    lit-words = ap (λ (f : Facts). f.words) lights ∙ same-words

    lit-cuts : lit.cuts ≡ (bench_facts old).cuts
    lit-cuts = ap (λ (f : Facts). f.cuts) lights ∙ ap (λ (f : Facts). f.cuts) darkened

    lit-due : lit.due ≡ (bench_facts old).due
    lit-due = ap (λ (f : Facts). f.due) lights ∙ ap (λ (f : Facts). f.due) darkened

    lit-faults : lit.faults ≡ (bench_facts old).faults
    lit-faults = ap (λ (f : Facts). f.faults) lights ∙ ap (λ (f : Facts). f.faults) darkened

    lit-writes : lit.writes ≡ (bench_facts old).writes
    lit-writes = ap (λ (f : Facts). f.writes) lights ∙ ap (λ (f : Facts). f.writes) darkened

    lit-counts : comparisons lit ≡ comparisons (bench_facts old)
    lit-counts = ap comparisons lights ∙ same-counts

    -- the same device writes are asked for
    lit-asked : power_on_writes lit ≡ power_on_writes (bench_facts old)
    lit-asked = ap (λ (l : List ℕ). rollback_writes (gate l) + renewal_writes l) lit-words

    found-again : (new : List ℕ) → FindsAgain lit.words new → found new ≡ found (bench_facts old).words
    found-again new again = again.card ∙ ap found lit-words

    has-card-again : (new : List ℕ) → FindsAgain lit.words new → HasCard (bench_facts old).words → HasCard new
    has-card-again new again before = again.there.1 (subst HasCard (sym lit-words) before)

    -- a cut that is set is the same with power on
    lit-aims : (new : Facts) → KeepsAim lit new → KeepsAim (bench_facts old) new
    lit-aims new (inl same) = inl (same ∙ ap aim lights ∙ ap aim darkened)
    lit-aims new (inr fell) = inr (record {
      dark = fell.dark;
      none = fell.none;
      there = subst (λ (o : Option Aim). IfSome o (λ a. (new.writes + 1 ≡ a.write) ⊎ (new.writes ≡ a.write)))
          (ap aim lights ∙ ap aim darkened) fell.there;
    })

    -- and where nothing was counted the words are as they were
    lit-still : (new : Facts) → AimsOn lit new → events new ≡ events lit → new.words ≡ (bench_facts old).words
    lit-still new aims none = aims.still none ∙ lit-words

    -- what is written after the power-on is written after it went off
    lit-wrote : (new : Facts) → AimsOn lit new → WritesRuns (bench_facts old) new
    lit-wrote new aims = wrote_then (bench_facts old) lit new
        (wrote_none (bench_facts old) lit lit-words
        (ap (λ (f : Facts). f.log) lights ∙ ap (λ (f : Facts). f.log) darkened)
        (omega (arith, lit-writes, lit-cuts, lit-faults)))
        aims.wrote

    lit-masks : lit.masks ≡ (bench_facts old).masks
    lit-masks = ap (λ (f : Facts). f.masks) lights ∙ ap (λ (f : Facts). f.masks) darkened

    lit-pages : (new : Facts) → (aims : AimsOn lit new) → FitPages (lit-wrote new aims).runs
    unfolding lit-wrote wrote_then wrote_none
    lit-pages new aims = aims.pages

    -- a cut that falls after the power-on falls into the same write
    lit-torn : (new : Facts) → (aims : AimsOn lit new) → TearsLast (bench_facts old) new (lit-wrote new aims).runs
    unfolding lit-wrote wrote_then wrote_none
    lit-torn new aims =
        let on : lit ≡ record (bench_facts old) { dark = false } =
        lights ∙ ap (λ (f : Facts). record f { dark = false }) darkened in
        torn_lit (bench_facts old) new false aims.wrote.runs
        (subst (λ (f : Facts). TearsLast f new aims.wrote.runs) on aims.torn)

    -- what a start takes of the board's counts
    start-wears : (new : Facts) → WritesAtMost (power_on_writes lit) lit new → HasCard (bench_facts old).words
        → new.faults ≡ (bench_facts old).faults → Wears (turn_writes old turn.On) (bench_facts old) new
    start-wears new spent before faults =
        let few : start_writes lit ≤ PAIRS + 1 = few-start lit (subst HasCard (sym lit-words) before) in
        let renewal : renewal_writes lit.words ≤ most_renewal (bench_facts old).words =
        subst (λ (l : List ℕ). renewal_writes lit.words ≤ most_renewal l) lit-words (few-renewal lit.words sized) in
        let most = spent.writes in
        wears-writing (turn_writes old turn.On)
        (bench_facts old) new faults (omega (arith, few, renewal, most, lit-writes))
        (writing-compares (power_on_writes lit) lit new spent ∙ lit-counts)

    -- what a start leaves
    leaves : (new : BenchState) → FindsAgain lit.words (bench_facts new).words
        → KeepsFoundUnlessOld lit.words (bench_facts new).words
        → comparisons (bench_facts new) ≡ comparisons (bench_facts old) → LeavesCard old new
    leaves new again kept same = record {
      card = found-again (bench_facts new).words again;
      words = subst (λ (l : List ℕ). KeepsFoundUnlessOld l (bench_facts new).words) lit-words kept;
      compares = ap (λ (c : Comparisons). c.compares) same;
      matches = ap (λ (c : Comparisons). c.matches) same;
    }

    -- the card starts
    pub starts : (p : Powered) → Starts lit p.card → p.link ≡ fresh → FindsAgain lit.words p.card.facts.words
        → KeepsFoundUnlessOld lit.words p.card.facts.words → WritesAtMost (power_on_writes lit) lit p.card.facts
        → p.card.facts.writes ≡ lit.writes + power_on_writes lit → Plays old turn.On item.Atr (on p)
    starts p started link again kept spent counted =
        let power = started.power in
        let counts = writing-compares (power_on_writes lit) lit p.card.facts spent in
        record {
          has_card = has-card-again p.card.facts.words again;
          counts = record {
            cuts = omega (arith, power.cuts, lit-cuts);
            due = inl (omega (arith, power.due, lit-due));
            faults = omega (arith, power.faults, lit-faults);
            more = let more = spent.more in omega (arith, more, lit-writes);
            cut = lit-aims p.card.facts spent.cut.cut;
            still = λ none fine same. lit-still p.card.facts spent.cut
                (omega (arith, power.cuts, lit-cuts, fine, lit-faults, same, lit-writes));
            wrote = lit-wrote p.card.facts spent.cut;
            pages = lit-pages p.card.facts spent.cut;
            masks = spent.cut.masks ∙ lit-masks;
            torn = lit-torn p.card.facts spent.cut;
          };
          well = λ good. started.state;
          guesses = pays-nothing old (on p) (found-again p.card.facts.words again) (counts ∙ lit-counts);
          ahead = record { wrote = lit-wrote p.card.facts spent.cut; paid = inl (counts ∙ lit-counts) };
          one = λ before good. (
            (started.session, link, started.state, power.lit),
            leaves (on p) again kept (counts ∙ lit-counts),
            counted ∙ ap₂ (λ (done more : ℕ). done + more) lit-writes lit-asked,
          );
          any = λ before. inl (
            (
              (started.session, link, started.state, power.lit),
              leaves (on p) again kept (counts ∙ lit-counts),
              counted ∙ ap₂ (λ (done more : ℕ). done + more) lit-writes lit-asked,
            ),
            omega (arith, power.faults, lit-faults),
          );
          wears = λ before good. start-wears p.card.facts spent before good.faults;
        }

    dark-lit : lit.dark ≡ true → ⊥
    dark-lit is = true≢false (sym is ∙ ap (λ (f : Facts). f.dark) lights)

    -- the board, power off, after a start that stopped
    module _ (stopped new : Facts) (again : FindsAgain lit.words stopped.words)
        (kept : KeepsFoundUnlessOld lit.words stopped.words) (turned : new ≡ record stopped { dark = true })
        (spent : WritesAtMost (power_on_writes lit) lit stopped) where
      new-words : new.words ≡ stopped.words
      new-words = ap (λ (f : Facts). f.words) turned

      unlit : new.dark ≡ true
      unlit = ap (λ (f : Facts). f.dark) turned

      same-comparisons : comparisons new ≡ comparisons (bench_facts old)
      same-comparisons = ap comparisons turned ∙ writing-compares (power_on_writes lit) lit stopped spent ∙ lit-counts

      rests : LeavesCard old (off new)
      rests = leaves (off new) (subst (FindsAgain lit.words) (sym new-words) again)
          (subst (λ (l : List ℕ). KeepsFoundUnlessOld lit.words l) (sym new-words) kept) same-comparisons

      has-card : HasCard (bench_facts old).words → HasCard new.words
      has-card before = subst HasCard (sym new-words) (has-card-again stopped.words again before)

      guesses : GuessesFew old (off new)
      guesses = pays-nothing old (off new) rests.card same-comparisons

      spent-so : WritesAtMost (power_on_writes lit) lit new
      unfolding wrote_off
      spent-so = subst (λ (f : Facts). WritesAtMost (power_on_writes lit) lit f) (sym turned) (record {
        writes = spent.writes;
        more = spent.more;
        cut = record {
          off = λ is. absurd (dark-lit is);
          masks = spent.cut.masks;
          cut = aims-off lit stopped spent.cut.cut;
          more = spent.cut.more;
          still = spent.cut.still;
          wrote = wrote_off lit stopped spent.cut.wrote;
          pages = spent.cut.pages;
          torn = torn_off lit stopped spent.cut.wrote.runs spent.cut.torn;
        };
        compares = spent.compares;
        matches = spent.matches;
      })

      lost-so : GoesDark lit stopped → Plays old turn.On item.Dark (off new)
      lost-so lost =
          let cuts : new.cuts ≡ stopped.cuts = ap (λ (f : Facts). f.cuts) turned in
          let faults : new.faults ≡ stopped.faults = ap (λ (f : Facts). f.faults) turned in
          let due : new.due ≡ stopped.due = ap (λ (f : Facts). f.due) turned in
          record {
            has_card = has-card;
            counts = record {
              cuts = omega (arith, lost.cuts, cuts, lit-cuts);
              due = elim lost.due [
                | inl spent ↦ inl (omega (arith, spent, due, lit-due))
                | inr worn ↦ inr (subst IsWorn (sym turned) worn.0, omega (arith, worn.1, due, lit-due))
              ];
              faults = omega (arith, lost.faults, faults, lit-faults);
              more = let more = spent-so.more in omega (arith, more, lit-writes);
              cut = lit-aims new spent-so.cut.cut;
              still = λ none fine same. absurd (omega (arith, none));
              wrote = lit-wrote new spent-so.cut;
              pages = lit-pages new spent-so.cut;
              masks = spent-so.cut.masks ∙ lit-masks;
              torn = lit-torn new spent-so.cut;
            };
            well = λ good. tt;
            guesses = guesses;
            ahead = record { wrote = lit-wrote new spent-so.cut; paid = inl same-comparisons };
            one = λ before good.
                (unlit, rests, let most = spent-so.writes in omega (arith, most, lit-writes, lit-asked));
            any = λ before. inl (
              (unlit, rests, let most = spent-so.writes in omega (arith, most, lit-writes, lit-asked)),
              omega (arith, lost.faults, faults, lit-faults),
            );
            wears = λ before good. start-wears new spent-so before good.faults;
          }

      -- power was lost in the start
      pub ends_dark : (why : StartFault) → why ≡ PowerLost → StartStopsBy why lit stopped
          → Plays old turn.On item.Dark (off new)
      ends_dark why is stops = elim (subst (λ (e : StartFault). StartStopsBy e lit stopped) is stops) [
        | inl lost ↦ lost-so lost
        | inr was ↦ absurd (dark-lit was.0)
      ]

      -- the device failed, or no card starts: then there was none, or a fault is counted
      mute-so : stopped.cuts ≡ lit.cuts → stopped.due ≡ lit.due → lit.faults ≤ stopped.faults
          → (HasCard (bench_facts old).words → stopped.faults ≡ lit.faults + 1)
          → Plays old turn.On item.Mute (off new)
      mute-so same_cuts same_due more risen =
          let cuts : new.cuts ≡ stopped.cuts = ap (λ (f : Facts). f.cuts) turned in
          let faults : new.faults ≡ stopped.faults = ap (λ (f : Facts). f.faults) turned in
          let due : new.due ≡ stopped.due = ap (λ (f : Facts). f.due) turned in
          record {
            has_card = has-card;
            counts = record {
              cuts = omega (arith, same_cuts, cuts, lit-cuts);
              due = inl (omega (arith, same_due, due, lit-due));
              faults = omega (arith, more, faults, lit-faults);
              more = let written = spent-so.more in omega (arith, written, lit-writes);
              cut = lit-aims new spent-so.cut.cut;
              still = λ none fine same. lit-still new spent-so.cut
                  (omega (arith, same_cuts, cuts, fine, lit-faults, same, lit-writes));
              wrote = lit-wrote new spent-so.cut;
              pages = lit-pages new spent-so.cut;
              masks = spent-so.cut.masks ∙ lit-masks;
              torn = lit-torn new spent-so.cut;
            };
            well = λ good. tt;
            guesses = guesses;
            ahead = record { wrote = lit-wrote new spent-so.cut; paid = inl same-comparisons };
            one = λ before good.
                let rises = risen before in absurd (omega (arith, rises, good.faults, faults, lit-faults));
            any = λ before. inr (record {
              mute = refl;
              fault = let rises = risen before in omega (arith, rises, faults, lit-faults);
              cuts = omega (arith, same_cuts, cuts, lit-cuts);
              due = omega (arith, same_due, due, lit-due);
              power = unlit;
              leaves = rests;
              writes = let most = spent-so.writes in omega (arith, most, lit-writes, lit-asked);
            });
            wears = λ before good. start-wears new spent-so before good.faults;
          }

      steady-so : Steady lit stopped → (HasCard lit.words → ⊥) → Plays old turn.On item.Mute (off new)
      steady-so steady none =
          mute-so steady.cuts steady.due (omega (arith, steady.faults))
          (λ before. absurd (none (subst HasCard (sym lit-words) before)))

      pub ends_mute : (why : StartFault) → (why ≡ Fault) ⊎ (why ≡ BadJournal) ⊎ (why ≡ Damaged)
          → StartStopsBy why lit stopped → Plays old turn.On item.Mute (off new)
      ends_mute PowerLost is stops = elim is [
        | inl other ↦ absurd cc
        | inr (inl other) ↦ absurd cc
        | inr (inr other) ↦ absurd cc
      ]
      ends_mute Fault is stops =
          mute-so stops.cuts stops.due (omega (arith, stops.faults))
          (λ before. stops.faults)
      ends_mute BadJournal is stops = steady-so stops.1 (λ before. stops.0 before.journal)
      ends_mute Damaged is stops = steady-so stops.2 (λ before. stops.1 before.words)
