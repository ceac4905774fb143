-- All runs after a cut, put together one behind the other.
use Rattle.std.specs.Prelude.{◌≡◌, ◌⊎◌, ◌≤◌, ◌<◌, ◌+◌, ◌-◌, ◌^◌, ℕ, zero, suc, List, [], ◌∷◌, ◌++◌}
use Rattle.std.proofs.Common.{refl, sym, subst, inl, inr, arith}
use Rattle.nvm_board.specs.Facts.{Facts}
use Rattle.bench_turns.specs.declared.turn.Turn.{Turn}
use Rattle.bench_turns.specs.declared.turn.Item.{Item}
use Rattle.card_sweeps.specs.declared.tally.Seen.{Seen}
use Rattle.card_sweeps.specs.declared.tally.SweepEnd.{SweepEnd}
use Rattle.card_sweeps.specs.declared.turn_cuts.MadeWrite.{MadeWrite}
use Rattle.card_sweeps.specs.Masks.{mask_count_of, mask_of}
use Rattle.card_sweeps.specs.Sweeps.{EndsBefore, EndsIn, PlaysOn, SweptTurn, start_on}
use Rattle.card_sweeps.specs.SweptRuns.{AreAllBehind, AreFirstOfTurn, AreFirstOfWrite, AreOfMask, AreOfTurn}
use Rattle.card_sweeps.specs.SweptRuns.{AreOfWrites, ArePrepared, AreRunsFrom, BeginsInTurn, InTurn, IsOneLook}
use Rattle.card_sweeps.specs.Tallies.{Finding, CountsOne, CountsEach, CountsRuns}
use Rattle.card_sweeps.specs.TurnCuts.{IsMade, LeavesMasked}

-- runs that are counted, and then others
pub counts-each-on : (xs ys : List Finding) (old between new : List Seen) → CountsEach xs old between
    → CountsEach ys between new → CountsEach (xs ++ ys) old new
unfolding CountsEach
counts-each-on [] ys old between new none rest = subst (λ (l : List Seen). CountsEach ys l new) none rest
counts-each-on (x ∷ xs) ys old between new some rest =
    (some.0, some.1, counts-each-on xs ys some.0 between new some.2 rest)

-- what they are, said otherwise
pub counts-weaker : (Are Also : List Finding → Type 0) (old new : List Seen)
    → ((all : List Finding) → Are all → Also all) → CountsRuns Are old new → CountsRuns Also old new
counts-weaker Are Also old new weaker some =
    record { runs = some.runs; are = weaker some.runs some.are; each = some.each }

-- some, and then the last ones
pub counts-both : (Are Last Also : List Finding → Type 0) (old between new : List Seen)
    → ((before last : List Finding) → Are before → Last last → Also (before ++ last))
    → CountsRuns Are old between → CountsRuns Last between new → CountsRuns Also old new
counts-both Are Last Also old between new both some last = record {
  runs = some.runs ++ last.runs;
  are = both some.runs last.runs some.are last.are;
  each = counts-each-on some.runs last.runs old between new some.each last.each;
}

-- one run
pub counts-one : (probe : List Turn) (board : Facts) (given : Finding) (old new : List Seen) → EndsIn board probe given
    → CountsOne given old new → CountsRuns (IsOneLook probe board) old new
unfolding CountsEach
counts-one probe board given old new end one =
    record { runs = given ∷ []; are = record { given = given; end = end; one = refl }; each = (new, one, refl) }

-- a mask by what is told of it
pub mask-is : (words i mask : ℕ) → (i ≡ 0 → mask ≡ 0) → (i ≡ 1 → mask + 1 ≡ 2 ^ words)
    → ((bit : ℕ) → i ≡ bit + 2 → mask ≡ 2 ^ bit) → mask ≡ mask_of words i
mask-is words zero mask none all single = none refl
mask-is words (suc zero) mask none all single = omega (arith, all refl)
mask-is words (suc (suc bit)) mask none all single = single bit (omega arith)

-- no part yet
pub turn-none : (Part : ℕ → List Finding → Type 0) (seen : List Seen) → CountsRuns (InTurn Part 0) seen seen
unfolding InTurn CountsEach
turn-none Part seen = record { runs = []; are = refl; each = refl }

-- a part more
pub turn-next : (Part : ℕ → List Finding → Type 0) (n : ℕ) (old between new : List Seen)
    → CountsRuns (InTurn Part n) old between → CountsRuns (Part n) between new
    → CountsRuns (InTurn Part (n + 1)) old new
unfolding InTurn
turn-next Part n old between new some next =
    let more : CountsRuns (InTurn Part (suc n)) old new =
    counts-both (InTurn Part n) (Part n) (InTurn Part (suc n)) old between new
    (λ before last parts it. (before, last, parts, it, refl)) some next in
    let one : suc n ≡ n + 1 = omega arith in
    subst (λ (m : ℕ). CountsRuns (InTurn Part m) old new) one more

-- all parts
pub turn-end : (Part : ℕ → List Finding → Type 0) (n m : ℕ) (old new : List Seen) → n ≡ m
    → CountsRuns (InTurn Part n) old new → CountsRuns (InTurn Part m) old new
turn-end Part n m old new same each = subst (λ (k : ℕ). CountsRuns (InTurn Part k) old new) same each

-- whole parts, and the first runs of the next
pub turn-begun : (Part First : ℕ → List Finding → Type 0) (n m : ℕ) (old between new : List Seen) → n < m
    → CountsRuns (InTurn Part n) old between → CountsRuns (First n) between new
    → CountsRuns (BeginsInTurn m Part First) old new
turn-begun Part First n m old between new few some begun =
    counts-both (InTurn Part n) (First n) (BeginsInTurn m Part First) old between new
    (λ before last parts first. record {
      parts = n;
      few = few;
      before = before;
      last = last;
      each = parts;
      begun = first;
      all_are = refl;
    }) some begun

-- runs after the preparation
pub counts-prepared : (AreFrom : List ℕ → List Finding → Type 0) (swept : SweptTurn) (trace : List Item)
    (prepared : Facts) (old new : List Seen) → PlaysOn swept.board swept.prepare trace prepared
    → CountsRuns (AreFrom prepared.words) old new → CountsRuns (ArePrepared AreFrom swept) old new
counts-prepared AreFrom swept trace prepared old new played each =
    counts-weaker (AreFrom prepared.words) (ArePrepared AreFrom swept) old new
    (λ all these. record { trace = trace; prepared = prepared; played = played; are = these }) each

-- the runs after a cut with a mask
pub counts-mask : {B : Type 0} (facts : B → Facts) (Behind : Facts → List Finding → Type 0) (swept : SweptTurn)
    (number : ℕ) (before : List ℕ) (made : MadeWrite B) (i : ℕ) (left : B) (old new : List Seen)
    → LeavesMasked facts swept number before made i left → CountsRuns (Behind (facts left)) old new
    → CountsRuns (AreOfMask facts Behind swept number before made i) old new
counts-mask facts Behind swept number before made i left old new leaves behind =
    counts-weaker (Behind (facts left)) (AreOfMask facts Behind swept number before made i) old new
    (λ all these. record { left = left; leaves = leaves; behind = these }) behind

-- the runs of a turn
module _ {B : Type 0} (facts : B → Facts) (torn : B → ℕ) (Behind : Facts → List Finding → Type 0) (swept : SweptTurn)
    (first : List ℕ) where
  -- no write yet
  pub writes-none : (seen : List Seen) → CountsRuns (AreOfWrites facts torn Behind swept first 0 first) seen seen
  unfolding AreOfWrites CountsEach
  writes-none seen = record { runs = []; are = (refl, refl); each = refl }

  -- a write more
  pub writes-next : (n : ℕ) (before : List ℕ) (made : MadeWrite B) (old between new : List Seen)
      → IsMade facts torn swept (n + 1) before made → made.words ≤ 16
      → CountsRuns (AreOfWrites facts torn Behind swept first n before) old between
      → CountsRuns (InTurn (AreOfMask facts Behind swept (n + 1) before made) (mask_count_of made.words)) between new
      → CountsRuns (AreOfWrites facts torn Behind swept first (n + 1) (facts made.after).words) old new
  unfolding AreOfWrites
  writes-next n before made old between new made_so fit some next =
      let more : CountsRuns (AreOfWrites facts torn Behind swept first (suc n) (facts made.after).words) old new =
      counts-both (AreOfWrites facts torn Behind swept first n before)
      (InTurn (AreOfMask facts Behind swept (n + 1) before made) (mask_count_of made.words))
      (AreOfWrites facts torn Behind swept first (suc n) (facts made.after).words) old between new
      (λ earlier last writes masks. (
        before,
        made,
        earlier,
        last,
        writes,
        record { made_so = made_so; fit = fit; each = masks },
        refl,
        refl,
      )) some next in
      let one : suc n ≡ n + 1 = omega arith in
      subst (λ (m : ℕ). CountsRuns (AreOfWrites facts torn Behind swept first m (facts made.after).words) old new)
      one more

  -- all writes
  pub writes-end : (n : ℕ) (now : List ℕ) (old new : List Seen)
      → EndsBefore (n + 1) swept now ⊎ (n ≡ 2 ^ 32 - 1)
      → CountsRuns (AreOfWrites facts torn Behind swept first n now) old new
      → CountsRuns (AreOfTurn facts torn Behind swept first n) old new
  writes-end n now old new done each =
      counts-weaker (AreOfWrites facts torn Behind swept first n now) (AreOfTurn facts torn Behind swept first n) old
      new (λ all writes. record { now = now; each = writes; done = done }) each

  -- some writes, and the first runs of the next
  pub writes-begun : (end : SweepEnd) (First : Facts → List Finding → Type 0) (n : ℕ) (now : List ℕ)
      (old between new : List Seen)
      → CountsRuns (AreOfWrites facts torn Behind swept first n now) old between
      → CountsRuns (AreFirstOfWrite facts torn end Behind First swept (n + 1) now) between new
      → CountsRuns (AreFirstOfTurn facts torn end Behind First swept first) old new
  writes-begun end First n now old between new some next =
      counts-both (AreOfWrites facts torn Behind swept first n now)
      (AreFirstOfWrite facts torn end Behind First swept (n + 1) now)
      (AreFirstOfTurn facts torn end Behind First swept first) old between new
      (λ earlier last writes begun. record {
        writes = n;
        now = now;
        before = earlier;
        last = last;
        each = writes;
        begun = begun;
        all_are = refl;
      }) some next

-- all runs of a turn
pub counts-runs : {B : Type 0} (facts : B → Facts) (torn : B → ℕ) (depth : ℕ) (probe : List Turn) (swept : SweptTurn)
    (first : List ℕ) (n : ℕ) (old new : List Seen)
    → CountsRuns (AreOfTurn facts torn (AreAllBehind facts torn depth probe) swept first n) old new
    → CountsRuns (AreRunsFrom facts torn depth probe swept first) old new
counts-runs facts torn depth probe swept first n old new some =
    counts-weaker (AreOfTurn facts torn (AreAllBehind facts torn depth probe) swept first n)
    (AreRunsFrom facts torn depth probe swept first) old new (λ all these. record { writes = n; are = these }) some

-- a turn without a write
pub ends-first : {B : Type 0} (facts : B → Facts) (torn : B → ℕ) (Behind : Facts → List Finding → Type 0)
    (swept : SweptTurn) (first : List ℕ) (n : ℕ) (old new : List Seen) → n ≡ 0
    → CountsRuns (AreOfTurn facts torn Behind swept first n) old new → (m : List ℕ) × EndsBefore 1 swept m
ends-first facts torn Behind swept first n old new none counted = (
  counted.are.now,
  elim counted.are.done [
    | inl ends ↦ subst (λ (k : ℕ). EndsBefore k swept counted.are.now) (omega (arith, none)) ends
    | inr full ↦ absurd (omega (arith, full, none))
  ],
)

-- the runs after a cut
module _ {B : Type 0} (facts : B → Facts) (torn : B → ℕ) (depth : ℕ) (probe : List Turn) (board : Facts) where
  -- no start is to be cut
  are-behind-none : (all : List Finding) → depth ≡ 0 → IsOneLook probe board all
      → AreAllBehind facts torn depth probe board all
  unfolding AreAllBehind
  are-behind-none all none one =
      let look : AreAllBehind facts torn 0 probe board all = one in
      subst (λ (d : ℕ). AreAllBehind facts torn d probe board all) (sym none) look

  pub counts-behind-none : (old new : List Seen) → depth ≡ 0 → CountsRuns (IsOneLook probe board) old new
      → CountsRuns (AreAllBehind facts torn depth probe board) old new
  unfolding are-behind-none
  counts-behind-none old new none one = counts-weaker (IsOneLook probe board)
      (AreAllBehind facts torn depth probe board) old new (λ all these. are-behind-none all none these) one

  -- the next power-on makes no write, and none was cut
  pub counts-whole : (old between new : List Seen) → 0 < depth
      → CountsRuns (AreOfTurn facts torn (AreAllBehind facts torn (depth - 1) probe) (start_on board) board.words 0)
      old between
      → CountsRuns (IsOneLook probe board) between new
      → CountsRuns (AreAllBehind facts torn depth probe board) old new
  unfolding AreAllBehind AreOfWrites
  counts-whole old between new more none look =
      let same : suc (depth - 1) ≡ depth = omega (arith, more) in
      let all : CountsRuns (AreAllBehind facts torn (suc (depth - 1)) probe board) old new =
      counts-both (AreOfTurn facts torn (AreAllBehind facts torn (depth - 1) probe) (start_on board) board.words 0)
      (IsOneLook probe board) (AreAllBehind facts torn (suc (depth - 1)) probe board) old between new
      (λ before last parts one.
      let whole : EndsBefore 1 (start_on board) parts.now = elim parts.done [
        | inl ends ↦ ends
        | inr full ↦ absurd (omega (arith, full))
      ] in
      subst (λ (l : List Finding). AreAllBehind facts torn (suc (depth - 1)) probe board (l ++ last))
      (sym parts.each.1)
      (inl (subst (λ (m : List ℕ). EndsBefore 1 (start_on board) m) parts.each.0 whole, one)))
      none look in
      subst (λ (d : ℕ). CountsRuns (AreAllBehind facts torn d probe board) old new) same all

  -- the next power-on was cut at each of its writes
  pub counts-swept : (writes : ℕ) (old new : List Seen) → 0 < depth → 1 ≤ writes
      → CountsRuns (AreOfTurn facts torn (AreAllBehind facts torn (depth - 1) probe) (start_on board) board.words
      writes) old new
      → CountsRuns (AreAllBehind facts torn depth probe board) old new
  unfolding AreAllBehind
  counts-swept writes old new more some each =
      let same : suc (depth - 1) ≡ depth = omega (arith, more) in
      let all : CountsRuns (AreAllBehind facts torn (suc (depth - 1)) probe board) old new =
      counts-weaker
      (AreOfTurn facts torn (AreAllBehind facts torn (depth - 1) probe) (start_on board) board.words writes)
      (AreAllBehind facts torn (suc (depth - 1)) probe board) old new
      (λ all these. inr (writes, some, these)) each in
      subst (λ (d : ℕ). CountsRuns (AreAllBehind facts torn d probe board) old new) same all
