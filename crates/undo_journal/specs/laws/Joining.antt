-- What a set costs that stands alone, by what it makes of those that wait: none of its address waits yet, nor of the
-- one behind it. It is the first of a batch, or it goes on with the run of the word before it, or it begins a run.
use Rattle.std.proofs.Common.{◌≡◌, ◌≢◌, ◌⊎◌, ◌≤◌, ◌+◌, ◌-◌, ◌%◌, List, [], ◌∷◌, length, refl, ap, inl, inr, arith}
use Rattle.std.proofs.Common.{IsSome, None, Bool}
use Rattle.std.specs.Prelude.{if◌then◌else◌}
use Rattle.std.proofs.lemmas.Bool.Decides.{eqb_tells}
use Rattle.nvm_board.specs.declared.board.TheConstants.{PAGE_WORDS}
use Rattle.undo_journal.specs.declared.batch.Waiting.{Waiting}
use Rattle.undo_journal.specs.Batches.{look_up, with_set, batch_writes, runs_from}
use Rattle.undo_journal.specs.Memory.{Memory, Joins, commit_writes, spent, taken}
use Rattle.undo_journal.specs.laws.Runs.{begins-first, runs-same, runs-one_more}
use Rattle.undo_journal.specs.laws.Waits.{AreAscending, joined-longer}

-- a batch of some sets
pub writes-some : (ps : List Waiting) → 1 ≤ length ps → batch_writes ps ≡ 2 + runs_from 0 ps
writes-some [] some = absurd (omega arith)
writes-some (s ∷ rest) some = refl

-- what a commit of some sets writes
pub commit_of_some : (m : Memory) → 1 ≤ taken m → commit_writes m ≡ batch_writes m.waiting + 1
commit_of_some m some = elim (eqb_tells (taken m) 0) [
  | inl none ↦ absurd (omega (arith, some, none.1))
  | inr other ↦ ap (λ (b : Bool). if b then 0 else batch_writes m.waiting + 1) other.0
]

module _ (set : Waiting) (old new : Memory) (joins : Joins set old new) where
  -- what waits afterwards, or was written now, is what waited with the set
  spends-joined : spent new ≡ old.facts.writes + batch_writes (with_set set old.waiting)
  spends-joined = elim joins [
    | inl waits ↦ omega (arith, ap (λ f. f.writes) waits.facts, ap batch_writes waits.waiting)
    | inr fills ↦ omega (arith, fills.writes, ap batch_writes fills.waiting)
  ]

  -- the first of a batch
  pub joins-first : old.waiting ≡ [] → spent new ≡ spent old + 3
  joins-first none =
      let joined_is : with_set set old.waiting ≡ set ∷ [] = ap (λ (l : List Waiting). with_set set l) none in
      omega (arith, spends-joined, ap batch_writes joined_is, ap batch_writes none, begins-first set.at)

  module _ (ascending : AreAscending 0 old.waiting) (free : look_up set.at old.waiting ≡ None)
      (behind : look_up (set.at + 1) old.waiting ≡ None) where
    -- it takes one pair
    pub joins-takes : taken new ≡ taken old + 1
    joins-takes =
        let one = joined-longer set old.waiting free in
        elim joins [
          | inl waits ↦ omega (arith, waits.used, ap (λ (l : List Waiting). length l) waits.waiting, one)
          | inr fills ↦ omega (arith, fills.used, ap (λ (l : List Waiting). length l) fills.waiting, fills.full, one)
        ]

    module _ (some : 1 ≤ length old.waiting) where
      more : batch_writes (with_set set old.waiting) ≡ 2 + runs_from 0 (with_set set old.waiting)
      more = writes-some (with_set set old.waiting)
          (let le : 1 ≤ length (with_set set old.waiting) = omega (arith, joined-longer set old.waiting free) in le)

      -- one that goes on with a run
      pub joins-goes_on : set.at % PAGE_WORDS ≢ 0 → IsSome (look_up (set.at - 1) old.waiting) → spent new ≡ spent old
      joins-goes_on inside waits =
          let runs = runs-same set old.waiting 0 ascending (let le : 0 ≤ set.at = omega arith in le)
          free behind inside waits in
          omega (arith, spends-joined, more, writes-some old.waiting some, runs)

      -- one that begins a run
      pub joins-begins : (set.at % PAGE_WORDS ≡ 0) ⊎ ((0 ≢ set.at) × (look_up (set.at - 1) old.waiting ≡ None))
          → spent new ≡ spent old + 1
      joins-begins apart =
          let runs =
          runs-one_more set old.waiting 0 ascending (let le : 0 ≤ set.at = omega arith in le) free behind apart in
          omega (arith, spends-joined, more, writes-some old.waiting some, runs)
