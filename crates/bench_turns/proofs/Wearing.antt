-- What turns take of a board's counts, and that no count comes to its end where enough is left before.
use Rattle.std.specs.Prelude.{◌≡◌, ◌≢◌, ◌⊎◌, ◌==◌, ◌≤◌, ◌<◌, ◌+◌, ◌*◌, ℕ, List, [], ◌∷◌, length}
use Rattle.std.specs.Prelude.{slice_index}
use Rattle.std.specs.Prelude.{All, Bool, false, if◌then◌else◌}
use Rattle.std.proofs.Common.{arith, ap, inl, inr, refl, subst, sym, true}
use Rattle.std.proofs.lemmas.List.Elements.{All-contains, All-set}
use Rattle.nvm_board.specs.declared.board.TheConstants.{COUNT_END, MOST_PAGES}
use Rattle.nvm_board.specs.Aims.{KeepsAim}
use Rattle.nvm_board.specs.Facts.{Facts, IsMemory, IsWornOut, RisesAt, pages_of}
use Rattle.file_tree.specs.Formats.{is_format_2}
use Rattle.migration.specs.Migrating.{migration_writes}
use Rattle.card_start.specs.Starting.{renewal_writes}
use Rattle.undo_journal.specs.declared.layout.TheConstants.{PAIRS}
use Rattle.undo_journal.specs.Spending.{start_writes}
use Rattle.undo_journal.specs.Undo.{gate}
use Rattle.command_base.specs.declared.spending.TheConstants.{COMMAND_WRITES}
use Rattle.card_model.specs.Cards.{Card}
use Rattle.command_base.specs.Comparing.{Comparisons, comparisons}
use Rattle.command_base.specs.Finding.{HasCard, words_found}
use Rattle.card_model.specs.laws.ProperLaws.{at-or, either-if}
use Rattle.command_base.specs.laws.ShownLaws.{ComparesOrStays}
use Rattle.bench_turns.specs.declared.turn.Item.{Item}
use Rattle.bench_turns.specs.declared.turn.Item.TheVariants as item
use Rattle.bench_turns.specs.declared.turn.Turn.{Turn}
use Rattle.bench_turns.specs.declared.turn.Turn.TheVariants as turn
use Rattle.bench_turns.specs.BenchStates.{BenchState, bench_facts}
use Rattle.bench_turns.specs.Lasting.{HasLeft}
use Rattle.bench_turns.specs.Turns.{GoodBlock, GoodTurn, Runs, Spends, Wears, dark_of, most_renewal, run_steps}
use Rattle.bench_turns.specs.Turns.{turn_steps, turn_writes}

-- the most steps of a turn
abbrev pub TURN_STEPS : ℕ
TURN_STEPS = COMMAND_WRITES + migration_writes MOST_PAGES

-- an opening writes at most once for each pair of the journal, and once for the gate
pub few-start : (f : Facts) → HasCard f.words → start_writes f ≤ PAIRS + 1
few-start f there =
    let few = there.journal.room in
    either-if (λ (n : ℕ). n ≤ PAIRS + 1) (gate f.words == 0) 0 (gate f.words + 1) (omega arith) (omega (arith, few))

-- and the way to format 2 writes no more than on the largest board
pub few-renewal : (m : List ℕ) → IsMemory m → renewal_writes m ≤ most_renewal m
few-renewal m sized = by_format (is_format_2 (words_found m))
  where
    by_format : (new : Bool)
        → (if new then 0 else migration_writes (pages_of m)) ≤ (if new then 0 else migration_writes MOST_PAGES)
    by_format true = omega arith
    by_format false = let most = sized.most in omega (arith, most)

-- a cut that is set, once power is off
pub aims-off : (old new : Facts) → KeepsAim old new → KeepsAim old (record new { dark = true })
aims-off old new (inl same) = inl same
aims-off old new (inr fell) = inr (record { dark = refl; none = fell.none; there = fell.there })

-- where nothing is compared
pub wears-writing : (n : ℕ) (old new : Facts) → new.faults ≡ old.faults → new.writes ≤ old.writes + n
    → comparisons new ≡ comparisons old → Wears n old new
wears-writing n old new faults writes same = record {
  faults = faults;
  writes = writes;
  secret = 0;
  compares = inl (ap (λ (c : Comparisons). c.compares) same);
  matches = inl (ap (λ (c : Comparisons). c.matches) same);
}

-- where a command may have compared what it shows
pub wears-shown : (n : ℕ) (c d : Card) (old new : Facts) → ComparesOrStays c d (comparisons old) (comparisons new)
    → new.faults ≡ old.faults → new.writes ≤ old.writes + n → Wears n old new
wears-shown n c d old new (inl stays) faults writes = wears-writing n old new faults writes stays.0
wears-shown n c d old new (inr shown) faults writes = record {
  faults = faults;
  writes = writes;
  secret = shown.0.secret;
  compares = elim shown.2.costs.compares [ inl same ↦ inl same | inr pays ↦ inr pays.compared ];
  matches = elim shown.2.costs.matches [ inl same ↦ inl same | inr match ↦ inr match.matched ];
}

-- what is far from the end is not nearer
pub fewer : (most least : ℕ) (f : Facts) → least ≤ most → HasLeft most f → HasLeft least f
fewer most least f less left = record {
  faults = let far = left.faults in omega (arith, less, far);
  cuts = let far = left.cuts in omega (arith, less, far);
  writes = let far = left.writes in omega (arith, less, far);
  compares = λ k d there. let far = left.compares k d there in omega (arith, less, far);
  matches = λ k d there. let far = left.matches k d there in omega (arith, less, far);
}

-- no count stands at its end
pub not-worn : (f : Facts) → HasLeft 0 f → IsWornOut f → ⊥
not-worn f left (inl cuts) = let far = left.cuts in omega (arith, far, cuts)
not-worn f left (inr (inl faults)) = let far = left.faults in omega (arith, far, faults)
not-worn f left (inr (inr (inl writes))) = let far = left.writes in omega (arith, far, writes)
not-worn f left (inr (inr (inr (inl compares)))) =
    let far = All-contains (λ (c : ℕ). c + 0 < COUNT_END) f.compares COUNT_END
    left.compares compares in omega (arith, far)
not-worn f left (inr (inr (inr (inr matches)))) =
    let far = All-contains (λ (c : ℕ). c + 0 < COUNT_END) f.matches COUNT_END left.matches matches in omega (arith, far)

-- counts of which one may have risen
risen : (n most : ℕ) (old new : List ℕ) (secret : ℕ) → 1 ≤ most → n + most < COUNT_END → RisesAt old secret new
    → All (λ c. c + (n + most) < COUNT_END) old → All (λ c. c + n < COUNT_END) new
risen n most old new secret some small rises all =
    let before : All (λ (c : ℕ). c + n < COUNT_END) old = λ k d there. let far = all k d there in omega (arith, far) in
    elim rises [
      | inl same ↦ subst (λ (l : List ℕ). All (λ c. c + n < COUNT_END) l) (sym same) before
      | inr rise ↦
          let far : slice_index old secret + (n + most) < COUNT_END =
          at-or (λ (c : ℕ). c + (n + most) < COUNT_END) old secret 0 (omega (arith, small)) all in
          subst (λ (l : List ℕ). All (λ c. c + n < COUNT_END) l) (sym rise)
          (All-set (λ (c : ℕ). c + n < COUNT_END) old secret (slice_index old secret + 1)
          (omega (arith, far, some)) before)
    ]

-- what takes at most so many steps of any count
counts-last : (n most writes lost : ℕ) (old new : Facts) → 1 ≤ most → writes ≤ most → lost ≤ 1 → Spends lost old new
    → Wears writes old new → HasLeft (n + most) old → HasLeft n new
counts-last n most writes lost old new some few once spends wears left =
    let far = left.writes in
    let small : n + most < COUNT_END = omega (arith, far) in
    record {
      faults = let same = wears.faults in let there = left.faults in omega (arith, same, there);
      cuts = let more = spends.cuts in let there = left.cuts in omega (arith, more, once, some, there);
      writes = let more = wears.writes in omega (arith, more, few, far);
      compares = risen n most old.compares new.compares wears.secret some small wears.compares left.compares;
      matches = risen n most old.matches new.matches wears.secret some small wears.matches left.matches;
    }

pub few-writes : (old : BenchState) (t : Turn) → turn_writes old t ≤ turn_steps old t
few-writes old turn.On = omega arith
few-writes old turn.Off = omega arith
few-writes old (turn.Block got) = omega arith

-- a turn takes at most 3,787 steps, in whatever format, and some
pub few-steps : (old : BenchState) (t : Turn) → turn_steps old t ≤ TURN_STEPS
few-steps old turn.Off = omega arith
few-steps old (turn.Block got) = omega arith
few-steps old turn.On = by_format (is_format_2 (words_found (bench_facts old).words))
  where
    by_format : (new : Bool) → COMMAND_WRITES + (if new then 0 else migration_writes MOST_PAGES) ≤ TURN_STEPS
    by_format true = omega arith
    by_format false = omega arith

pub one-dark : (i : Item) → dark_of i ≤ 1
one-dark item.Atr = omega arith
one-dark item.Quiet = omega arith
one-dark item.Mute = omega arith
one-dark item.Dark = omega arith
one-dark (item.Reply block) = omega arith

some-steps : (old : BenchState) (t : Turn) → 1 ≤ turn_steps old t
some-steps old turn.On = omega arith
some-steps old turn.Off = omega arith
some-steps old (turn.Block got) = omega arith

-- but for a start of another format at most 700
pub steps-new : (old : BenchState) (t : Turn)
    → (t ≢ turn.On) ⊎ (is_format_2 (words_found (bench_facts old).words) ≡ true) → turn_steps old t ≡ 700
steps-new old turn.On (inl other) = absurd (other refl)
steps-new old turn.On (inr is) =
    ap (λ (new : Bool). COMMAND_WRITES + (if new then 0 else migration_writes MOST_PAGES)) is
steps-new old turn.Off few = refl
steps-new old (turn.Block got) few = refl

pub turn-lasts : (n : ℕ) (old new : BenchState) (t : Turn) (i : Item) → GoodTurn old t i new
    → HasLeft (n + turn_steps old t) (bench_facts old) → HasLeft n (bench_facts new)
turn-lasts n old new t i good left =
    counts-last n (turn_steps old t) (turn_writes old t) (dark_of i) (bench_facts old) (bench_facts new)
    (some-steps old t) (few-writes old t) (one-dark i) good.counts good.wears left

pub block-lasts : (n : ℕ) (old new : BenchState) (got : List ℕ) (i : Item) → GoodBlock old got i new
    → HasLeft (n + COMMAND_WRITES) (bench_facts old) → HasLeft n (bench_facts new)
block-lasts n old new got i good left =
    counts-last n COMMAND_WRITES COMMAND_WRITES (dark_of i) (bench_facts old) (bench_facts new) (omega arith)
    (omega arith) (one-dark i) good.counts good.wears left

-- the same bench
pub stays-last : (n more : ℕ) (old new : BenchState) → new ≡ old → HasLeft (n + more) (bench_facts old)
    → HasLeft n (bench_facts new)
stays-last n more old new same left =
    subst (λ (b : BenchState). HasLeft n (bench_facts b)) (sym same)
    (fewer (n + more) n (bench_facts old) (omega arith) left)

-- a power-on isn't mute, and power is lost where a cut was due alone
pub not-mute : (old new : BenchState) (i : Item) → GoodTurn old turn.On i new → HasLeft COMMAND_WRITES (bench_facts old)
    → i ≡ item.Mute → ⊥
not-mute old new i good left is =
    let mute : GoodTurn old turn.On item.Mute new = subst (λ (i : Item). GoodTurn old turn.On i new) is good in
    let nearer = fewer COMMAND_WRITES 0 (bench_facts old) (omega arith) left in
    not-worn (bench_facts new) (subst (λ (b : BenchState). HasLeft 0 (bench_facts b)) (sym mute.one.0)
    (record {
      faults = nearer.faults;
      cuts = nearer.cuts;
      writes = nearer.writes;
      compares = nearer.compares;
      matches = nearer.matches;
    })) mute.one.1

due-so : (lost : ℕ) (old new : Facts) → Spends lost old new → HasLeft 0 new → old.due ≡ new.due + lost
due-so lost old new spends left = elim spends.due [
  | inl spent ↦ spent
  | inr worn ↦ absurd (not-worn new left (inr worn.0))
]

pub due-spent : (old new : BenchState) (t : Turn) (i : Item) → GoodTurn old t i new
    → HasLeft (turn_steps old t) (bench_facts old) → (bench_facts old).due ≡ (bench_facts new).due + dark_of i
due-spent old new t i good left =
    due-so (dark_of i) (bench_facts old) (bench_facts new) good.counts (turn-lasts 0 old new t i good
    (fewer (turn_steps old t) (0 + turn_steps old t) (bench_facts old) (omega arith) left))

pub block-due : (old new : BenchState) (got : List ℕ) (i : Item) → GoodBlock old got i new
    → HasLeft COMMAND_WRITES (bench_facts old) → (bench_facts old).due ≡ (bench_facts new).due + dark_of i
block-due old new got i good left =
    due-so (dark_of i) (bench_facts old) (bench_facts new) good.counts (block-lasts 0 old new got i good left)

pub runs-last : (n : ℕ) (old new : BenchState) (turns : List Turn) (trace : List Item) (run : Runs old turns trace new)
    → HasLeft (n + run_steps old turns trace new run) (bench_facts old) → HasLeft n (bench_facts new)
unfolding Runs run_steps
runs-last n old new [] [] run left = stays-last n 0 old new run left
runs-last n old new [] (i ∷ trace) run left = absurd run
runs-last n old new (t ∷ turns) [] run left = absurd run
runs-last n old new (t ∷ turns) (i ∷ trace) run left =
    let rest = run_steps run.0 turns trace new run.2 in
    runs-last n run.0 new turns trace run.2 (turn-lasts (n + rest) old run.0 t i run.1
    (fewer (n + (turn_steps old t + rest)) (n + rest + turn_steps old t) (bench_facts old) (omega arith) left))

-- they are no more than 3,787 a turn
pub few-run : (old new : BenchState) (turns : List Turn) (trace : List Item) (run : Runs old turns trace new)
    → run_steps old turns trace new run ≤ TURN_STEPS * length turns
unfolding Runs run_steps
few-run old new [] trace run = omega arith
few-run old new (t ∷ turns) [] run = absurd run
few-run old new (t ∷ turns) (i ∷ trace) run =
    let one = few-steps old t in
    let rest = few-run run.0 new turns trace run.2 in
    omega (arith, one, rest)
