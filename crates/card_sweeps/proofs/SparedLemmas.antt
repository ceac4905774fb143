-- What a cut that is set, and doesn't come, says of the writes that were made.
use Rattle.std.specs.Prelude.{◌≡◌, ◌≢◌, ◌⊎◌, ◌≤◌, ◌+◌, ◌-◌, ℕ, List, Bool, Option, None, Some, is_some, true}
use Rattle.std.specs.Prelude.{if◌then◌else◌}
use Rattle.std.proofs.Common.{◌∙◌, ap, ap₂, arith, inl, inr, refl, subst, sym, true≢false}
use Rattle.std.proofs.lemmas.Option.{none-some}
use Rattle.core.specs.Borrow.{Bor}
use Rattle.nvm_board.specs.declared.board.Arm.{Arm}
use Rattle.nvm_board.specs.Aims.{Aim, aim, due_of, KeepsAim}
use Rattle.nvm_board.specs.Facts.{Facts, IsWorn}
use Rattle.command_base.specs.declared.spending.TheConstants.{COMMAND_WRITES}
use Rattle.card_start.specs.Starting.{power_on_writes}
use Rattle.bench_turns.specs.declared.turn.Turn.{Turn}
use Rattle.bench_turns.specs.declared.turn.Turn.TheVariants as turn
use Rattle.bench_turns.specs.declared.turn.Item.{Item}
use Rattle.bench_turns.specs.declared.turn.Item.TheVariants.{Atr, Quiet, Mute, Dark, Reply}
use Rattle.bench_turns.specs.BenchStates.{BenchState, off, on, bench_facts, with_facts, IsArmed}
use Rattle.bench_turns.specs.Lasting.{HasLeft}
use Rattle.bench_turns.specs.Turns.{Spends, TurnsOn, WritesAsAsked, dark_of, turn_steps}
use Rattle.bench_turns.proofs.Wearing.{TURN_STEPS, block-due, due-spent, few-steps, fewer, not-mute}
use Rattle.bench_turns.proofs.TurnsTold.{good-block}
use Rattle.card_sweeps.specs.Sweeps.{SparesStart, SparesTurn, SweptTurn, off_with}
use Rattle.card_sweeps.proofs.SweepLemmas.{runs-none}

-- what is set on a board
some-arm : (o : Option Arm) → is_some o ≡ true → (arm : Arm) × (o ≡ Some arm)
some-arm None is = absurd (true≢false (sym is))
some-arm (Some arm) is = (arm, refl)

-- a cut that is due is set
set-by-due : (o : Option Arm) → due_of o ≡ 1 → is_some o ≡ true
set-by-due None is = absurd (omega (arith, is))
set-by-due (Some arm) is = refl

-- where it falls
pub set-aim : (f : Facts) (arm : Arm) → f.due ≡ due_of f.pending → f.pending ≡ Some arm
    → aim f ≡ Some (record { write = f.writes + arm.whole_writes + 1; mask = arm.mask })
set-aim f arm due is =
    ap₂ (λ (n : ℕ) (o : Option Arm). aim (record f { due = n; pending = o })) (due ∙ ap due_of is) is

write_of : Option Aim → ℕ
write_of None = 0
write_of (Some a) = a.write

-- where it is still set, no more writes were made than were to come before it
few-written : (a z : Facts) (arm : Arm) → a.due ≡ due_of a.pending → a.pending ≡ Some arm
    → z.due ≡ due_of z.pending → is_some z.pending ≡ true → KeepsAim a z → z.writes ≤ a.writes + arm.whole_writes
unfolding some-arm write_of
few-written a z arm due is due_left set keeps =
    let left = some-arm z.pending set in
    let there = set-aim z left.0 due_left left.1 in
    elim keeps [
      | inl same ↦
          let writes : z.writes + left.0.whole_writes + 1 ≡ a.writes + arm.whole_writes + 1 =
          ap write_of (sym there ∙ same ∙ set-aim a arm due is) in
          omega (arith, writes)
      | inr fell ↦ absurd (true≢false (ap (λ (o : Option Aim). is_some o) (sym there ∙ fell.none)))
    ]

-- power is lost in Dark alone
lit-of : (i : Item) → i ≢ Dark → dark_of i ≡ 0
lit-of Atr other = refl
lit-of Quiet other = refl
lit-of Mute other = refl
lit-of Dark other = absurd (other refl)
lit-of (Reply block) other = refl

-- a cut that was due, and didn't come, is still set
still-set : (a z : Facts) (i : Item) → a.due ≡ 1 → z.due ≡ due_of z.pending → a.due ≡ z.due + dark_of i
    → (i ≢ Dark) ⊎ (is_some z.pending ≡ true) → is_some z.pending ≡ true
still-set a z i due due_left spent (inl other) =
    let lit = lit-of i other in
    let one : z.due ≡ 1 = omega (arith, due, spent, lit) in
    set-by-due z.pending (sym due_left ∙ one)
still-set a z i due due_left spent (inr set) = set

-- so it is where a count is at its end
left-set : (a z : Facts) (i : Item) → a.due ≡ 1 → z.due ≡ due_of z.pending
    → (a.due ≡ z.due + dark_of i) ⊎ (IsWorn z × (z.due ≡ a.due)) → (i ≢ Dark) ⊎ (is_some z.pending ≡ true)
    → is_some z.pending ≡ true
left-set a z i due due_left (inl spent) spared = still-set a z i due due_left spent spared
left-set a z i due due_left (inr worn) spared = set-by-due z.pending (sym due_left ∙ worn.1 ∙ due)

with-facts : (old : BenchState) (f : Facts) → bench_facts (with_facts old f) ≡ f
with-facts (off facts) f = refl
with-facts (on powered) f = refl

-- the board on which it is set
pub armed-is : (number mask : ℕ) (old new : BenchState) → IsArmed number mask old new
    → bench_facts new ≡ record (bench_facts old) {
      due = (bench_facts new).due;
      pending = Some (record { whole_writes = number - 1; mask = mask });
    }
armed-is number mask old new arm = ap bench_facts arm.same ∙ with-facts old _

-- a cut that doesn't come falls into some write yet
pub still-aimed : (number mask : ℕ) (swept : SweptTurn) → (s : SparesTurn number mask swept)
    → aim (bench_facts s.last) ≡ None → ⊥
still-aimed number mask swept s none =
    let a = bench_facts s.armed in
    let z = bench_facts s.last in
    let is = armed-is number mask s.prepared s.armed s.arm in
    let due : a.due ≡ 1 = s.good.due ∙ ap (λ (f : Facts). due_of f.pending) is in
    let left = some-arm z.pending
    (left-set a z s.item due s.good_left.due s.played.counts.due s.spared) in
    none-some _ (sym none ∙ set-aim z left.0 s.good_left.due left.1)

-- how many writes a start makes that comes to its end
started-all : (old new : BenchState) (i : Item) → TurnsOn old i new → i ≢ Mute → i ≢ Dark
    → WritesAsAsked (bench_facts old) (bench_facts new)
started-all old new Atr turned answers lit = turned.2
started-all old new Quiet turned answers lit = absurd turned
started-all old new Mute turned answers lit = absurd (answers refl)
started-all old new Dark turned answers lit = absurd (lit refl)
started-all old new (Reply block) turned answers lit = absurd turned

-- where the counts stand
left-of : (n number mask : ℕ) (old new : BenchState) → IsArmed number mask old new → HasLeft n (bench_facts old)
    → HasLeft n (bench_facts new)
left-of n number mask old new arm left = subst (HasLeft n) (sym (armed-is number mask old new arm)) (record {
  faults = left.faults;
  cuts = left.cuts;
  writes = left.writes;
  compares = left.compares;
  matches = left.matches;
})

pub spared-start : (number mask : ℕ) (board : Facts) → SparesStart number mask board → HasLeft TURN_STEPS board
    → power_on_writes board ≤ number - 1
spared-start number mask board s left =
    let a = bench_facts s.armed in
    let z = bench_facts s.last in
    let from = runs-none (off_with board) s.trace s.prepared s.before in
    let armed : IsArmed number mask (off_with board) s.armed =
    subst (λ (b : BenchState). IsArmed number mask b s.armed) from s.arm in
    let is = armed-is number mask (off_with board) s.armed armed in
    let pending : a.pending ≡ Some (record { whole_writes = number - 1; mask = mask }) =
    ap (λ (f : Facts). f.pending) is in
    let due : a.due ≡ 1 = s.good.due ∙ ap due_of pending in
    let far : HasLeft TURN_STEPS a = left-of TURN_STEPS number mask (off_with board) s.armed armed (record {
      faults = left.faults;
      cuts = left.cuts;
      writes = left.writes;
      compares = left.compares;
      matches = left.matches;
    }) in
    let spent = due-spent s.armed s.last turn.On s.item s.played
    (fewer TURN_STEPS (turn_steps s.armed turn.On) a (few-steps s.armed turn.On) far) in
    let set = still-set a z s.item due s.good_left.due spent s.spared in
    let one : due_of z.pending ≡ 1 = ap (λ (b : Bool). if b then 1 else 0) set in
    let due_left = s.good_left.due in
    let few : z.writes ≤ a.writes + (number - 1) =
    few-written a z (record { whole_writes = number - 1; mask = mask }) s.good.due pending due_left set
    s.played.counts.cut in
    let all : z.writes ≡ a.writes + power_on_writes a = started-all s.armed s.last s.item s.played.one
    (not-mute s.armed s.last s.item s.played (fewer TURN_STEPS COMMAND_WRITES a (omega arith) far))
    (λ dark. let lost = ap dark_of dark in omega (arith, lost, spent, due, one, due_left)) in
    let asked : power_on_writes a ≡ power_on_writes board = ap power_on_writes is in
    omega (arith, few, all, asked)

pub spared-command : (number mask : ℕ) (board : Facts) (prepare : List Turn) (command : Bor (List ℕ))
    → (s : SparesTurn number mask (record { board = board; prepare = prepare; turn = turn.Block command }))
    → HasLeft COMMAND_WRITES (bench_facts s.prepared)
    → (bench_facts s.last).writes ≤ (bench_facts s.prepared).writes + (number - 1)
spared-command number mask board prepare command s left =
    let a = bench_facts s.armed in
    let z = bench_facts s.last in
    let is = armed-is number mask s.prepared s.armed s.arm in
    let pending : a.pending ≡ Some (record { whole_writes = number - 1; mask = mask }) =
    ap (λ (f : Facts). f.pending) is in
    let due : a.due ≡ 1 = s.good.due ∙ ap due_of pending in
    let far = left-of COMMAND_WRITES number mask s.prepared s.armed s.arm left in
    let sent = good-block s.armed s.last command s.item s.played in
    let spent = block-due s.armed s.last command.now s.item sent far in
    let set = still-set a z s.item due s.good_left.due spent s.spared in
    let few : z.writes ≤ a.writes + (number - 1) =
    few-written a z (record { whole_writes = number - 1; mask = mask }) s.good.due pending s.good_left.due set
    s.played.counts.cut in
    let same : a.writes ≡ (bench_facts s.prepared).writes = ap (λ (f : Facts). f.writes) is in
    omega (arith, few, same)

-- a cut that is set for the very next write, and doesn't come, leaves all words
still-words : (a z : Facts) (i : Item) (arm : Arm) → a.due ≡ 1 → a.due ≡ due_of a.pending → a.pending ≡ Some arm
    → arm.whole_writes ≡ 0 → z.due ≡ due_of z.pending → is_some z.pending ≡ true → Spends (dark_of i) a z
    → a.due ≡ z.due + dark_of i → a.faults ≡ 0 → z.faults ≡ 0 → z.words ≡ a.words
still-words a z i arm one due pending first due_left set counts spent fine fine_left =
    let few = few-written a z arm due pending due_left set counts.cut in
    let more = counts.more in
    let left : due_of z.pending ≡ 1 = ap (λ (b : Bool). if b then 1 else 0) set in
    counts.still (omega (arith, one, spent, due_left, left)) (omega (arith, fine, fine_left))
    (omega (arith, few, first, more))

pub start-still : (mask : ℕ) (board : Facts) → (s : SparesStart 1 mask board) → HasLeft TURN_STEPS board
    → (bench_facts s.last).words ≡ board.words
start-still mask board s left =
    let a = bench_facts s.armed in
    let z = bench_facts s.last in
    let arm : Arm = record { whole_writes = 0; mask = mask } in
    let from = runs-none (off_with board) s.trace s.prepared s.before in
    let armed : IsArmed 1 mask (off_with board) s.armed =
    subst (λ (b : BenchState). IsArmed 1 mask b s.armed) from s.arm in
    let is = armed-is 1 mask (off_with board) s.armed armed in
    let pending : a.pending ≡ Some arm = ap (λ (f : Facts). f.pending) is in
    let due : a.due ≡ 1 = s.good.due ∙ ap due_of pending in
    let far : HasLeft TURN_STEPS a = left-of TURN_STEPS 1 mask (off_with board) s.armed armed (record {
      faults = left.faults;
      cuts = left.cuts;
      writes = left.writes;
      compares = left.compares;
      matches = left.matches;
    }) in
    let spent = due-spent s.armed s.last turn.On s.item s.played
    (fewer TURN_STEPS (turn_steps s.armed turn.On) a (few-steps s.armed turn.On) far) in
    let set = still-set a z s.item due s.good_left.due spent s.spared in
    still-words a z s.item arm due s.good.due pending refl s.good_left.due set s.played.counts spent s.good.faults
    s.good_left.faults ∙ ap (λ (f : Facts). f.words) is

pub command-still : (mask : ℕ) (board : Facts) (prepare : List Turn) (command : Bor (List ℕ))
    → (s : SparesTurn 1 mask (record { board = board; prepare = prepare; turn = turn.Block command }))
    → HasLeft COMMAND_WRITES (bench_facts s.prepared)
    → (bench_facts s.last).words ≡ (bench_facts s.prepared).words
command-still mask board prepare command s left =
    let a = bench_facts s.armed in
    let z = bench_facts s.last in
    let arm : Arm = record { whole_writes = 0; mask = mask } in
    let is = armed-is 1 mask s.prepared s.armed s.arm in
    let pending : a.pending ≡ Some arm = ap (λ (f : Facts). f.pending) is in
    let due : a.due ≡ 1 = s.good.due ∙ ap due_of pending in
    let far = left-of COMMAND_WRITES 1 mask s.prepared s.armed s.arm left in
    let sent = good-block s.armed s.last command s.item s.played in
    let spent = block-due s.armed s.last command.now s.item sent far in
    let set = still-set a z s.item due s.good_left.due spent s.spared in
    still-words a z s.item arm due s.good.due pending refl s.good_left.due set s.played.counts spent s.good.faults
    s.good_left.faults ∙ ap (λ (f : Facts). f.words) is
