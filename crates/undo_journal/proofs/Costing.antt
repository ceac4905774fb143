-- What one more set costs.
use Rattle.std.proofs.Common.{Bool, ◌≡◌, ◌≢◌, ◌⊎◌, ◌<◌, ◌≤◌, ◌+◌, ◌-◌, ◌%◌, ℕ, List, [], ◌∷◌, length, ◌∙◌, ap}
use Rattle.std.proofs.Common.{inl, inr, arith, IsSome, is_some, slice_set, suc, true, false, ◌==◌}
use Rattle.std.specs.Prelude.{if◌then◌else◌}
use Rattle.std.proofs.lemmas.Bool.Decides.{nat_tests}
use Rattle.std.proofs.lemmas.List.{nil_from_length}
use Rattle.std.proofs.lemmas.Bool.Decides.{eqb_tells}
use Rattle.nvm_board.specs.declared.board.TheConstants.{PAGE_WORDS}
use Rattle.undo_journal.specs.declared.batch.TheConstants.{BATCH}
use Rattle.undo_journal.specs.declared.batch.Waiting.{Waiting}
use Rattle.undo_journal.specs.Undo.{data_words, IsDataAddress}
use Rattle.undo_journal.specs.laws.Undo.{data_words-set}
use Rattle.undo_journal.specs.laws.Memory.{length-overlay}
use Rattle.undo_journal.specs.Batches.{overlay, look_up, batch_writes, AreSets, with_set}
use Rattle.undo_journal.specs.Memory.{Memory, commit_writes, run_writes, taken}
use Rattle.undo_journal.specs.laws.Joining.{commit_of_some, writes-some}
use Rattle.undo_journal.specs.laws.Runs.{begins-one}
use Rattle.undo_journal.specs.laws.Waits.{look_up-joined}
use Rattle.undo_journal.proofs.Waits.{overlay-joined, length-joined, joined-length}
use Rattle.undo_journal.proofs.RunLaws.{runs-joined, runs-goes_on}

-- One more set among those that wait, as the first of a batch or not.
module _ (size : ℕ) (new : Waiting) (used : ℕ) (whole : used % BATCH ≡ 0) where
  pub join-costs : (ps : List Waiting) → AreSets size 0 ps → length ps < BATCH
      → batch_writes (with_set new ps) + run_writes (used + length ps)
      ≤ batch_writes ps + run_writes (used + length (with_set new ps)) + 1
  join-costs [] h few = omega (arith, whole, begins-one 0 new.at)
  join-costs (s ∷ rest) h few =
      let ps : List Waiting = s ∷ rest in
      let more = length-joined new ps in
      let fewer = joined-length new ps in
      let some : 1 ≤ length (with_set new ps) = omega (arith, more) in
      let runs = runs-joined size new ps 0 0 h (omega arith) in
      omega (arith, whole, writes-some (with_set new ps) some, runs, more, fewer, few)

  -- it goes on with a run
  pub join-goes_on : (ps : List Waiting) → AreSets size 0 ps → length ps < BATCH → new.at % PAGE_WORDS ≢ 0
      → ((ps ≡ []) × (0 < used)) ⊎ IsSome (look_up (new.at - 1) ps)
      → batch_writes (with_set new ps) + run_writes (used + length ps)
      ≤ batch_writes ps + run_writes (used + length (with_set new ps))
  join-goes_on [] h few inside (inl begun) = omega (arith, whole, begins-one 0 new.at, begun.1)
  join-goes_on [] h few inside (inr waits) = absurd cc
  join-goes_on (s ∷ rest) h few inside (inl begun) = absurd
      (let e : suc (length rest) ≡ 0 = ap (λ (l : List Waiting). length l) begun.0 in omega (arith, e))
  join-goes_on (s ∷ rest) h few inside (inr waits) =
      let ps : List Waiting = s ∷ rest in
      let more = length-joined new ps in
      let fewer = joined-length new ps in
      let some : 1 ≤ length (with_set new ps) = omega (arith, more) in
      let runs = runs-goes_on size new ps 0 0 h (omega arith) inside waits in
      omega (arith, whole, writes-some (with_set new ps) some, runs, more, fewer, few)

  -- its word is the one that is read
  pub join-current : (ps : List Waiting) (m : List ℕ) → AreSets size 0 ps → IsDataAddress m new.at
      → data_words (overlay (with_set new ps) m) ≡ slice_set (data_words (overlay ps m)) new.at new.word
  join-current ps m h place =
      let within : new.at < length (overlay ps m) = omega (arith, length-overlay ps m, place.1) in
      ap data_words (overlay-joined size new ps m 0 h) ∙ data_words-set (overlay ps m) new.at new.word (place.0, within)

pub join-waits : (new : Waiting) (ps : List Waiting) → IsSome (look_up new.at (with_set new ps))
join-waits new ps = ap (λ o. is_some o) (look_up-joined new ps)

-- a list without elements, and one with some
pub is-none : (n : ℕ) → (n == 0) ≡ true → n ≡ 0
is-none n is = grind (arith, nat_tests)

pub is-some : (n : ℕ) → (n == 0) ≡ false → 0 < n
is-some n is = grind (arith, nat_tests)

-- a batch that is not full
pub below-full : (n : ℕ) → (n == 8) ≡ false → n ≤ 8 → n < 8
below-full n other le = grind (arith, nat_tests)

-- and one that is
pub full-length : (n : ℕ) → (n == 8) ≡ true → n ≡ 8
full-length n is = grind (arith, nat_tests)

-- a commit writes the batch at least
pub batch-within : (m : Memory) → batch_writes m.waiting ≤ commit_writes m
batch-within m = elim (eqb_tells (taken m) 0) [
  | inl none ↦
      let nothing : taken m ≡ 0 = none.1 in
      let waiting : m.waiting ≡ [] =
      nil_from_length m.waiting (let z : length m.waiting ≡ 0 = omega (arith, nothing) in z) in
      omega (arith, ap batch_writes waiting)
  | inr other ↦ omega (arith, ap (λ (b : Bool). if b then 0 else batch_writes m.waiting + 1) other.0)
]

-- A commit: of no set, and of some.
pub commit-none : (m : Memory) (used after : ℕ) → used ≡ taken m → used ≡ 0
    → after ≡ m.facts.writes + batch_writes m.waiting → after ≡ m.facts.writes + commit_writes m
commit-none m used after all none flushed =
    let nothing : taken m ≡ 0 = omega (arith, all, none) in
    let waiting : m.waiting ≡ [] =
    nil_from_length m.waiting (let z : length m.waiting ≡ 0 = omega (arith, nothing) in z) in
    let test : (taken m == 0) ≡ true = ap (λ (n : ℕ). n == 0) nothing in
    let cost : commit_writes m ≡ 0 = ap (λ (b : Bool). if b then 0 else batch_writes m.waiting + 1) test in
    omega (arith, flushed, cost, ap batch_writes waiting)

pub commit-some : (m : Memory) (used after : ℕ) → used ≡ taken m → used ≢ 0
    → after ≡ m.facts.writes + batch_writes m.waiting + 1 → after ≡ m.facts.writes + commit_writes m
commit-some m used after all some written =
    omega (arith, written, commit_of_some m (let s : 1 ≤ taken m = omega (arith, all, some) in s))
