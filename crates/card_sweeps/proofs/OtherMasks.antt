-- A cut that doesn't happen doesn't happen with another mask either: until a cut falls, its mask changes nothing.
use Rattle.std.specs.Prelude.{◌≡◌, ◌≢◌, ◌≤◌, ◌+◌, ◌-◌, ◌⊎◌, ◌==◌, ℕ, List, Bool, true, false, Option, None, Some}
use Rattle.std.specs.Prelude.{is_some, option_map, if◌then◌else◌, IfSome, Result, Ok, Err}
use Rattle.std.proofs.Common.{◌∙◌, ap, inl, inr, refl, subst, sym}
use Rattle.std.proofs.Math.Logic.{⊎_map}
use Rattle.std.proofs.lemmas.Option.{none-some}
use Rattle.card_model.specs.declared.status.Sw.{Sw}
use Rattle.nvm_board.specs.declared.board.Arm.{Arm}
use Rattle.nvm_board.specs.Aims.{Aim, AimStays, KeepsAim, TearsLast, WritesRuns, aim, due_of}
use Rattle.nvm_board.specs.Facts.{Facts, IsWornOut}
use Rattle.nvm_board.specs.History.{Run}
use Rattle.undo_journal.specs.Spending.{KeepsBoard}
use Rattle.card_model.specs.Behaviours.{Attempt}
use Rattle.card_model.specs.Cards.{Card}
use Rattle.card_model.specs.CommandTable.{asked}
use Rattle.card_model.specs.Requests.{Request}
use Rattle.card_model.specs.Sessions.{Session}
use Rattle.card_model.specs.Steps.{attempt_of}
use Rattle.card_start.specs.Running.{card_found}
use Rattle.command_base.specs.CommitWords.{TurnsAsked}
use Rattle.command_base.specs.Comparing.{ComparesAsked, ComparesCharged, ComparesShown, Comparisons}
use Rattle.command_base.specs.Finding.{found}
use Rattle.command_base.specs.Counting.{CountsAnswered, CountsShown}
use Rattle.t1_link.specs.CardTable.{Reaction, link_step, replies, runs}
use Rattle.bench_turns.specs.declared.turn.Turn.{Turn}
use Rattle.bench_turns.specs.declared.turn.Turn.TheVariants as turn
use Rattle.bench_turns.specs.declared.turn.Item.{Item}
use Rattle.bench_turns.specs.declared.turn.Item.TheVariants.{Atr, Quiet, Mute, Dark, Reply}
use Rattle.bench_turns.specs.BenchStates.{BenchState, off, on, bench_facts, with_facts, IsArmed}
use Rattle.bench_turns.specs.BenchStates.{IsFresh, IsOff, switched_off}
use Rattle.bench_turns.specs.CardBlocks.{BlockChangesNothing, BlockCompares, BlockCounts, BlockStands, BlockTurns}
use Rattle.bench_turns.specs.CardBlocks.{IsBlockStage}
use Rattle.bench_turns.specs.CardBlocks.{Powered, Replies}
use Rattle.bench_turns.specs.Guessing.{EachWritePays, GuessesFew, ImagePays, PaysAhead}
use Rattle.bench_turns.specs.Plays.{IsGood}
use Rattle.bench_turns.specs.Turns.{GoodTurn, LeavesCard, OneTurn, Spends, TakesBlock, TurnIsCut, TurnsOff, TurnsOn}
use Rattle.bench_turns.specs.Turns.{Wears, WritesAsAsked, WritesNoMore, dark_of, turn_writes}
use Rattle.card_sweeps.specs.Sweeps.{IsUnmade, SparesTurn, SweptTurn}
use Rattle.card_sweeps.proofs.SparedLemmas.{still-aimed}

-- what is set, with another mask
abbrev set_masked : ℕ → Option Arm → Option Arm
set_masked mask set = option_map (λ (arm : Arm). record arm { mask = mask }) set

-- where it falls
abbrev aim_masked : ℕ → Option Aim → Option Aim
aim_masked mask aimed = option_map (λ (a : Aim). record a { mask = mask }) aimed

abbrev masked : ℕ → Facts → Facts
masked mask f = record f { pending = set_masked mask f.pending }

abbrev powered_masked : ℕ → Powered → Powered
powered_masked mask p = record p { card = record p.card { facts = masked mask p.card.facts } }

abbrev bench_masked : ℕ → BenchState → BenchState
bench_masked mask (off f) = off (masked mask f)
bench_masked mask (on p) = on (powered_masked mask p)

facts-masked : (mask : ℕ) (b : BenchState) → bench_facts (bench_masked mask b) ≡ masked mask (bench_facts b)
facts-masked mask (off f) = refl
facts-masked mask (on p) = refl

with-masked : (mask : ℕ) (b : BenchState) (f : Facts)
    → bench_masked mask (with_facts b f) ≡ with_facts b (masked mask f)
with-masked mask (off was) f = refl
with-masked mask (on p) f = refl

-- as much is set, and due
some-masked : (mask : ℕ) (set : Option Arm) → is_some (set_masked mask set) ≡ is_some set
some-masked mask None = refl
some-masked mask (Some arm) = refl

due-masked : (mask : ℕ) (f : Facts) → f.due ≡ due_of f.pending → (masked mask f).due ≡ due_of (masked mask f).pending
due-masked mask f due = due ∙ ap (λ (is : Bool). if is then 1 else 0) (sym (some-masked mask f.pending))

-- it falls into the same write
aim-masked : (mask : ℕ) (f : Facts) → aim (masked mask f) ≡ aim_masked mask (aim f)
aim-masked mask f = by_due (f.due == 0) f.pending
  where
    by_due : (none : Bool) (set : Option Arm)
        → (if none then None else option_map (λ (arm : Arm). record {
          write = f.writes + arm.whole_writes + 1;
          mask = arm.mask;
        }) (set_masked mask set)) ≡ aim_masked mask (if none then None else option_map (λ (arm : Arm). record {
          write = f.writes + arm.whole_writes + 1;
          mask = arm.mask;
        }) set)
    by_due true set = refl
    by_due false None = refl
    by_due false (Some arm) = refl

there-masked : (mask writes : ℕ) (aimed : Option Aim)
    → IfSome aimed (λ a. (writes + 1 ≡ a.write) ⊎ (writes ≡ a.write))
    → IfSome (aim_masked mask aimed) (λ a. (writes + 1 ≡ a.write) ⊎ (writes ≡ a.write))
there-masked mask writes None there = there
there-masked mask writes (Some a) there = there

keeps-masked : (mask : ℕ) (old new : Facts) → KeepsAim old new → KeepsAim (masked mask old) (masked mask new)
keeps-masked mask old new (inl same) =
    inl (aim-masked mask new ∙ ap (aim_masked mask) same ∙ sym (aim-masked mask old))
keeps-masked mask old new (inr fell) = inr (record {
  dark = fell.dark;
  none = aim-masked mask new ∙ ap (aim_masked mask) fell.none;
  there = subst (λ (aimed : Option Aim). IfSome aimed (λ a. (new.writes + 1 ≡ a.write) ⊎ (new.writes ≡ a.write)))
      (sym (aim-masked mask old)) (there-masked mask new.writes (aim old) fell.there);
})

-- a board that is unchanged is unchanged with another mask
stays-masked : (mask : ℕ) (old new : Facts) → AimStays old new → AimStays (masked mask old) (masked mask new)
stays-masked mask old new stays = record {
  off = λ off. ap (masked mask) (stays.off off);
  masks = stays.masks;
  aim = aim-masked mask new ∙ ap (aim_masked mask) stays.aim ∙ sym (aim-masked mask old);
  more = stays.more;
  log = stays.log;
}

board-masked : (mask : ℕ) (old new : Facts) → KeepsBoard old new → KeepsBoard (masked mask old) (masked mask new)
board-masked mask old new kept = record {
  cut = stays-masked mask old new kept.cut;
  words = kept.words;
  writes = kept.writes;
  compares = kept.compares;
  matches = kept.matches;
}

abbrev wrote-masked : (mask : ℕ) (old new : Facts) → WritesRuns old new → WritesRuns (masked mask old) (masked mask new)
wrote-masked mask old new w = record { runs = w.runs; words = w.words; log = w.log; counted = w.counted }

aim-unmasked : (mask : ℕ) (aimed : Option Aim) → aim_masked mask aimed ≡ None → aimed ≡ None
aim-unmasked mask None none = refl
aim-unmasked mask (Some a) none = absurd (none-some (record a { mask = mask }) (sym none))

-- a cut that is still set tore nothing
torn-masked : (mask : ℕ) (old new : Facts) (told : List Run) → (aim new ≡ None → ⊥)
    → TearsLast (masked mask old) (masked mask new) told
torn-masked mask old new told set = λ masks cut was none.
    absurd (set (aim-unmasked mask (aim new) (sym (aim-masked mask new) ∙ none)))

spends-masked : (mask lost : ℕ) (old new : Facts) → (aim new ≡ None → ⊥) → Spends lost old new
    → Spends lost (masked mask old) (masked mask new)
spends-masked mask lost old new set s = record {
  cuts = s.cuts;
  due = s.due;
  faults = s.faults;
  more = s.more;
  cut = keeps-masked mask old new s.cut;
  still = s.still;
  wrote = wrote-masked mask old new s.wrote;
  pages = s.pages;
  masks = s.masks;
  torn = torn-masked mask old new s.wrote.runs set;
}

-- the command that runs is the same
shown-masked : (mask : ℕ) (shown : Option Attempt) (c : Card) (old new : Facts) → CountsShown shown c old new
    → CountsShown shown c (masked mask old) (masked mask new)
shown-masked mask None c old new counts = counts
shown-masked mask (Some a) c old new counts =
    record { compared = counts.compared; matched = counts.matched; charged = counts.charged }

answered-masked : (mask : ℕ) (request : Result Request Sw) (c : Card) (s : Session) (old new : Facts)
    → CountsAnswered request c s old new → CountsAnswered request c s (masked mask old) (masked mask new)
answered-masked mask (Ok request) c s old new counts =
    λ used allowed. shown-masked mask (attempt_of request) c old new (counts used allowed)
answered-masked mask (Err status) c s old new counts = counts

counts-masked : (mask : ℕ) (old new : Powered) (r : Reaction) → BlockCounts old r new
    → BlockCounts (powered_masked mask old) r (powered_masked mask new)
counts-masked mask old new (replies block) counts = counts
counts-masked mask old new (runs command) counts =
    answered-masked mask (asked command) (card_found old.card) old.card.session old.card.facts new.card.facts counts

charged-masked : (mask : ℕ) (a : Attempt) (c : Card) (old new : Facts) → ComparesCharged a c old new
    → ComparesCharged a c (masked mask old) (masked mask new)
charged-masked mask a c old new (inl none) = inl none
charged-masked mask a c old new (inr first) =
    inr (record {
      left = first.left;
      wrote = wrote-masked mask old new first.wrote;
      charge = first.charge;
      rest = first.rest;
      begins = first.begins;
      charged = first.charged;
      between = first.between;
    })

attempt-masked : (mask : ℕ) (shown : Option Attempt) (c : Card) (old : Facts) (d : Card) (new : Facts)
    → ComparesShown shown c old d new → ComparesShown shown c (masked mask old) d (masked mask new)
attempt-masked mask None c old d new compares = compares
attempt-masked mask (Some a) c old d new compares = (compares.0, charged-masked mask a c old new compares.1)

asked-masked : (mask : ℕ) (wanted : Result Request Sw) (c : Card) (old : Facts) (d : Card) (new : Facts)
    → ComparesAsked wanted c old d new → ComparesAsked wanted c (masked mask old) d (masked mask new)
asked-masked mask (Ok request) c old d new compares = attempt-masked mask (attempt_of request) c old d new compares
asked-masked mask (Err status) c old d new compares = compares

compares-masked : (mask : ℕ) (old : Powered) (r : Reaction) (new : Facts) → BlockCompares old r new
    → BlockCompares (powered_masked mask old) r (masked mask new)
compares-masked mask old (replies block) new compares = compares
compares-masked mask old (runs command) new compares =
    asked-masked mask (asked command) (card_found old.card) old.card.facts (found new.words) new compares

idle-masked : (mask : ℕ) (old : Powered) (r : Reaction) (new : Facts)
    → (BlockChangesNothing old r → KeepsBoard old.card.facts new)
    → BlockChangesNothing (powered_masked mask old) r
    → KeepsBoard (powered_masked mask old).card.facts (masked mask new)
idle-masked mask old (replies block) new idle nothing = board-masked mask old.card.facts new (idle nothing)
idle-masked mask old (runs command) new idle nothing = board-masked mask old.card.facts new (idle nothing)

stage-masked : (mask : ℕ) (old : Powered) (r : Reaction) (c : Card) → IsBlockStage old r c
    → IsBlockStage (powered_masked mask old) r c
stage-masked mask old (replies block) c stage = stage
stage-masked mask old (runs command) c stage = stage

stands-masked : (mask : ℕ) (old : Powered) (r : Reaction) (m : List ℕ) → BlockStands old r m
    → BlockStands (powered_masked mask old) r m
stands-masked mask old (replies block) m stands = stands
stands-masked mask old (runs command) m stands = stands

turned-masked : (mask : ℕ) (c : Card) (s : Session) (wanted : Result Request Sw) (old new : Facts)
    → TurnsAsked c s wanted old new → TurnsAsked c s wanted (masked mask old) (masked mask new)
turned-masked mask c s (Ok request) old new turned = turned
turned-masked mask c s (Err status) old new turned = tt

turns-masked : (mask : ℕ) (old : Powered) (r : Reaction) (new : Facts) → BlockTurns old r new
    → BlockTurns (powered_masked mask old) r (masked mask new)
turns-masked mask old (replies block) new turned = tt
turns-masked mask old (runs command) new turned =
    turned-masked mask (card_found old.card) old.card.session (asked command) old.card.facts new turned

replies-masked : (mask : ℕ) (old new : Powered) (got out : List ℕ) → Replies old got new out
    → Replies (powered_masked mask old) got (powered_masked mask new) out
replies-masked mask old new got out r = record {
  power = record {
    was_lit = r.power.was_lit;
    lit = r.power.lit;
    faults = r.power.faults;
    cuts = r.power.cuts;
    due = r.power.due;
  };
  state = r.state;
  card = r.card;
  session = r.session;
  link = r.link;
  block = r.block;
  counted = counts-masked mask old new (link_step old.link got).reaction r.counted;
  compares = compares-masked mask old (link_step old.link got).reaction new.card.facts r.compares;
  idle = idle-masked mask old (link_step old.link got).reaction new.card.facts r.idle;
}

cut-masked : (mask : ℕ) (old : Powered) (got : List ℕ) (new : BenchState) → TurnIsCut old got new
    → TurnIsCut (powered_masked mask old) got (bench_masked mask new)
cut-masked mask old got (off f) cut = record {
  power = cut.power;
  run = cut.run;
  stage = stage-masked mask old (link_step old.link got).reaction _ cut.stage;
  word = stands-masked mask old (link_step old.link got).reaction _ cut.word;
  turned = turns-masked mask old (link_step old.link got).reaction f cut.turned;
  compares = compares-masked mask old (link_step old.link got).reaction f cut.compares;
  idle = idle-masked mask old (link_step old.link got).reaction f cut.idle;
}
cut-masked mask old got (on p) cut = absurd cut.power

takes-masked : (mask : ℕ) (old : BenchState) (got : List ℕ) (i : Item) (new : BenchState) → TakesBlock old got i new
    → TakesBlock (bench_masked mask old) got i (bench_masked mask new)
takes-masked mask (off f) got Atr new taken = absurd taken
takes-masked mask (off f) got Quiet new taken = absurd taken
takes-masked mask (off f) got Mute new taken = ap (bench_masked mask) taken
takes-masked mask (off f) got Dark new taken = absurd taken
takes-masked mask (off f) got (Reply block) new taken = absurd taken
takes-masked mask (on p) got Atr new taken = absurd taken
takes-masked mask (on p) got Quiet new taken = absurd taken
takes-masked mask (on p) got Mute new taken = absurd taken
takes-masked mask (on p) got Dark new taken = cut-masked mask p got new taken
takes-masked mask (on p) got (Reply block) (off f) taken = absurd taken
takes-masked mask (on p) got (Reply block) (on q) taken = replies-masked mask p q got block taken

facts-then : (mask : ℕ) (Holds : Facts → Facts → Type 0) (old new : BenchState)
    → Holds (masked mask (bench_facts old)) (masked mask (bench_facts new))
    → Holds (bench_facts (bench_masked mask old)) (bench_facts (bench_masked mask new))
facts-then mask Holds (off f) (off h) holds = holds
facts-then mask Holds (off f) (on q) holds = holds
facts-then mask Holds (on p) (off h) holds = holds
facts-then mask Holds (on p) (on q) holds = holds

-- each write pays as before
image-masked : (mask : ℕ) (old : BenchState) (image : List ℕ) (made : Comparisons) → ImagePays old image made
    → ImagePays (bench_masked mask old) image made
image-masked mask (off f) image made paid = record {
  has_card = paid.has_card;
  pays = record { values = paid.pays.values; unblocking_values = paid.pays.unblocking_values };
}
image-masked mask (on p) image made paid = record {
  has_card = paid.has_card;
  pays = record { values = paid.pays.values; unblocking_values = paid.pays.unblocking_values };
}

pays-masked : (mask : ℕ) (old : BenchState) (wrote : List Run) (made : Comparisons) → EachWritePays old wrote made
    → EachWritePays (bench_masked mask old) wrote made
pays-masked mask (off f) wrote made all = record {
  some = all.some;
  each = λ k some most. image-masked mask (off f) _ made (all.each k some most);
}
pays-masked mask (on p) wrote made all = record {
  some = all.some;
  each = λ k some most. image-masked mask (on p) _ made (all.each k some most);
}

ahead-masked : (mask : ℕ) (old new : BenchState) → PaysAhead old new
    → PaysAhead (bench_masked mask old) (bench_masked mask new)
ahead-masked mask (off f) (off h) ahead = record {
  wrote = wrote-masked mask _ _ ahead.wrote;
  paid = ⊎_map (λ same. same) (pays-masked mask (off f) ahead.wrote.runs _) ahead.paid;
}
ahead-masked mask (off f) (on q) ahead = record {
  wrote = wrote-masked mask _ _ ahead.wrote;
  paid = ⊎_map (λ same. same) (pays-masked mask (off f) ahead.wrote.runs _) ahead.paid;
}
ahead-masked mask (on p) (off h) ahead = record {
  wrote = wrote-masked mask _ _ ahead.wrote;
  paid = ⊎_map (λ same. same) (pays-masked mask (on p) ahead.wrote.runs _) ahead.paid;
}
ahead-masked mask (on p) (on q) ahead = record {
  wrote = wrote-masked mask _ _ ahead.wrote;
  paid = ⊎_map (λ same. same) (pays-masked mask (on p) ahead.wrote.runs _) ahead.paid;
}

guesses-masked : (mask : ℕ) (old new : BenchState) → GuessesFew old new
    → GuessesFew (bench_masked mask old) (bench_masked mask new)
guesses-masked mask (off f) (off h) g = record { values = g.values; unblocking_values = g.unblocking_values }
guesses-masked mask (off f) (on q) g = record { values = g.values; unblocking_values = g.unblocking_values }
guesses-masked mask (on p) (off h) g = record { values = g.values; unblocking_values = g.unblocking_values }
guesses-masked mask (on p) (on q) g = record { values = g.values; unblocking_values = g.unblocking_values }

-- the card is the same
leaves-masked : (mask : ℕ) (old new : BenchState) → LeavesCard old new
    → LeavesCard (bench_masked mask old) (bench_masked mask new)
leaves-masked mask (off f) (off h) l =
    record { card = l.card; words = l.words; compares = l.compares; matches = l.matches }
leaves-masked mask (off f) (on q) l =
    record { card = l.card; words = l.words; compares = l.compares; matches = l.matches }
leaves-masked mask (on p) (off h) l =
    record { card = l.card; words = l.words; compares = l.compares; matches = l.matches }
leaves-masked mask (on p) (on q) l =
    record { card = l.card; words = l.words; compares = l.compares; matches = l.matches }

fresh-masked : (mask : ℕ) (b : BenchState) → IsFresh b → IsFresh (bench_masked mask b)
fresh-masked mask (off f) fresh = absurd fresh
fresh-masked mask (on p) fresh = fresh

off-masked : (mask : ℕ) (b : BenchState) → IsOff b → IsOff (bench_masked mask b)
off-masked mask (off f) is = is
off-masked mask (on p) is = absurd is

switched-masked : (mask : ℕ) (b : BenchState) → bench_masked mask (switched_off b) ≡ switched_off (bench_masked mask b)
switched-masked mask (off f) = refl
switched-masked mask (on p) = refl

worn-masked : (mask : ℕ) (b : BenchState) → IsWornOut (bench_facts b) → IsWornOut (bench_facts (bench_masked mask b))
worn-masked mask (off f) worn = worn
worn-masked mask (on p) worn = worn

-- the same power-on
on-masked : (mask : ℕ) (old : BenchState) (i : Item) (new : BenchState) → TurnsOn old i new
    → TurnsOn (bench_masked mask old) i (bench_masked mask new)
on-masked mask old Atr new turned = (
  fresh-masked mask new turned.0,
  leaves-masked mask old new turned.1,
  facts-then mask WritesAsAsked old new turned.2,
)
on-masked mask old Quiet new turned = absurd turned
on-masked mask old Mute new turned =
    (ap (bench_masked mask) turned.0 ∙ switched-masked mask old, worn-masked mask new turned.1)
on-masked mask old Dark new turned = (
  off-masked mask new turned.0,
  leaves-masked mask old new turned.1,
  facts-then mask WritesNoMore old new turned.2,
)
on-masked mask old (Reply block) new turned = absurd turned

-- the same power-off
switch-masked : (mask : ℕ) (old : BenchState) (i : Item) (new : BenchState) → TurnsOff old i new
    → TurnsOff (bench_masked mask old) i (bench_masked mask new)
switch-masked mask old Atr new turned = absurd turned
switch-masked mask old Quiet new turned = ap (bench_masked mask) turned ∙ switched-masked mask old
switch-masked mask old Mute new turned = absurd turned
switch-masked mask old Dark new turned = absurd turned
switch-masked mask old (Reply block) new turned = absurd turned

one-masked : (mask : ℕ) (old : BenchState) (t : Turn) (i : Item) (new : BenchState) → OneTurn old t i new
    → OneTurn (bench_masked mask old) t i (bench_masked mask new)
one-masked mask old turn.On i new one = on-masked mask old i new one
one-masked mask old turn.Off i new one = switch-masked mask old i new one
one-masked mask old (turn.Block got) i new one = takes-masked mask old got.now i new one

most-masked : (mask : ℕ) (old : BenchState) (t : Turn) → turn_writes (bench_masked mask old) t ≡ turn_writes old t
most-masked mask (off f) turn.On = refl
most-masked mask (on p) turn.On = refl
most-masked mask old turn.Off = refl
most-masked mask old (turn.Block got) = refl

-- the same turn, with another mask set before it, where the cut doesn't fall
turn-masked : (mask : ℕ) (old : BenchState) (t : Turn) (i : Item) (new : BenchState)
    → (aim (bench_facts new) ≡ None → ⊥) → GoodTurn old t i new
    → GoodTurn (bench_masked mask old) t i (bench_masked mask new)
turn-masked mask old t i new set good =
    let wears = good.wears in
    let same : Wears (turn_writes old t) (bench_facts (bench_masked mask old)) (bench_facts (bench_masked mask new)) =
    facts-then mask (Wears (turn_writes old t)) old new (record {
      faults = wears.faults;
      writes = wears.writes;
      secret = wears.secret;
      compares = wears.compares;
      matches = wears.matches;
    }) in
    record {
      one = one-masked mask old t i new good.one;
      counts = facts-then mask (Spends (dark_of i)) old new
          (spends-masked mask (dark_of i) (bench_facts old) (bench_facts new) set good.counts);
      wears = subst
          (λ (n : ℕ). Wears n (bench_facts (bench_masked mask old)) (bench_facts (bench_masked mask new)))
          (sym (most-masked mask old t)) same;
      guesses = guesses-masked mask old new good.guesses;
      ahead = ahead-masked mask old new good.ahead;
    }

good-masked : (mask : ℕ) (b : BenchState) → IsGood b → IsGood (bench_masked mask b)
good-masked mask (off f) good =
    record { has_card = good.has_card; faults = good.faults; due = due-masked mask f good.due; well = tt }
good-masked mask (on p) good =
    record {
      has_card = good.has_card;
      faults = good.faults;
      due = due-masked mask p.card.facts good.due;
      well = good.well;
    }

armed-masked : (number mask other : ℕ) (old new : BenchState) → IsArmed number mask old new
    → IsArmed number other old (bench_masked other new)
armed-masked number mask other old new arm =
    let due = ap (λ (f : Facts). f.due) (facts-masked other new) in
    record {
      due = subst (λ (n : ℕ). n ≤ 1) (sym due) arm.due;
      same = ap (bench_masked other) arm.same ∙ with-masked other old _ ∙ ap (λ (n : ℕ). with_facts old
          (record (bench_facts old) { due = n; pending = Some (record { whole_writes = number - 1; mask = other }) }))
          (sym due);
    }

pub unmade-by : (number mask : ℕ) (swept : SweptTurn) → SparesTurn number mask swept → IsUnmade number swept
unmade-by number mask swept s = λ other. record {
  trace = s.trace;
  item = s.item;
  prepared = s.prepared;
  armed = bench_masked other s.armed;
  last = bench_masked other s.last;
  before = s.before;
  arm = armed-masked number mask other s.prepared s.armed s.arm;
  good = good-masked other s.armed s.good;
  good_left = good-masked other s.last s.good_left;
  played = turn-masked other s.armed swept.turn s.item s.last (still-aimed number mask swept s) s.played;
  spared = ⊎_map (λ (other_item : s.item ≢ Dark). other_item)
      (λ (set : is_some (bench_facts s.last).pending ≡ true).
      ap (λ (f : Facts). is_some f.pending) (facts-masked other s.last)
      ∙ some-masked other (bench_facts s.last).pending ∙ set) s.spared;
}
