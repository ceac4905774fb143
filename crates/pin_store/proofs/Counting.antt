-- The device writes of a renewal, counted: what waits of it, and what its commit then writes.
use Rattle.std.proofs.Common.{◌≡◌, ◌<◌, ◌≤◌, ◌+◌, ℕ, Bool, List, [], ◌∷◌, length, inl, inr, ◌∙◌, ap, ap₂, arith}
use Rattle.std.proofs.lemmas.Bool.Decides.{eqb_tells, nat_tests}
use Rattle.std.proofs.lemmas.List.{nil_from_length}
use Rattle.std.specs.Prelude.{if◌then◌else◌}
use Rattle.nvm_board.specs.Facts.{address, Facts}
use Rattle.undo_journal.specs.declared.batch.TheConstants.{BATCH}
use Rattle.undo_journal.specs.declared.batch.Waiting.{Waiting}
use Rattle.undo_journal.specs.Batches.{batch_writes, joined_run}
use Rattle.undo_journal.specs.Memory.{Memory, IsIdle, Waits, commit_writes, taken}
use Rattle.undo_journal.specs.laws.Told.{idle_waits}
use Rattle.pin_store.specs.declared.layout.TheConstants.{PIN_MARK_WORD}

-- the tries, and the value behind the unblocking tries
value_batch : (page first second third : ℕ)
    → batch_writes (joined_run (address page 2) (second ∷ third ∷ []) (joined_run (address page 0) (first ∷ []) [])) ≡ 4
value_batch page first second third = grind (arith, nat_tests)

-- the tries, and the mark behind all else
mark_batch : (page first second : ℕ)
    → batch_writes (joined_run (address page PIN_MARK_WORD) (second ∷ []) (joined_run (address page 0) (first ∷ []) []))
    ≡ 4
mark_batch page first second = grind (arith, nat_tests)

all_batch : (page first second third fourth : ℕ)
    → batch_writes (joined_run (address page 0) (first ∷ second ∷ third ∷ fourth ∷ []) []) ≡ 3
all_batch page first second third fourth = grind (arith, nat_tests)

-- what a commit writes of some sets
commit_some : (m : Memory) → 1 ≤ batch_writes m.waiting → commit_writes m ≡ batch_writes m.waiting + 1
commit_some m some = elim (eqb_tells (taken m) 0) [
  | inl none ↦
      let empty : m.waiting ≡ [] = nil_from_length m.waiting
      (let z : length m.waiting ≡ 0 = omega (arith, none.1) in z) in
      absurd (omega (arith, some, ap batch_writes empty))
  | inr other ↦ ap (λ (b : Bool). if b then 0 else batch_writes m.waiting + 1) other.0
]

-- sets that wait and are committed
module _ (page first second third : ℕ) (a b c : Memory) (at other : ℕ) (idle : IsIdle a)
    (is : at ≡ address page 0) where
  nothing : a.waiting ≡ []
  nothing = idle_waits a idle

  pub value_counts : other ≡ address page 2
      → (length a.waiting + 1 < BATCH → Waits (joined_run at (first ∷ []) a.waiting) a b)
      → (length b.waiting + 2 < BATCH → Waits (joined_run other (second ∷ third ∷ []) b.waiting) b c)
      → c.facts.writes + commit_writes c ≡ a.facts.writes + 5
  value_counts behind tries value =
      let one = tries (let few : length a.waiting + 1 < BATCH = omega (arith, ap length nothing) in few) in
      let held : b.waiting ≡ joined_run (address page 0) (first ∷ []) [] =
      one.waiting ∙ ap₂ (λ (k : ℕ) (l : List Waiting). joined_run k (first ∷ []) l) is nothing in
      let two = value (let few : length b.waiting + 2 < BATCH = omega (arith, ap length held) in few) in
      let all = two.waiting ∙ ap₂ (λ (k : ℕ) (l : List Waiting). joined_run k (second ∷ third ∷ []) l) behind held in
      let batch = ap batch_writes all ∙ value_batch page first second third in
      let commit = commit_some c (let some : 1 ≤ batch_writes c.waiting = omega (arith, batch) in some) in
      omega (arith, ap (λ (f : Facts). f.writes) two.facts, ap (λ (f : Facts). f.writes) one.facts, batch, commit)

  pub mark_counts : other ≡ address page PIN_MARK_WORD
      → (length a.waiting + 1 < BATCH → Waits (joined_run at (first ∷ []) a.waiting) a b)
      → (length b.waiting + 1 < BATCH → Waits (joined_run other (second ∷ []) b.waiting) b c)
      → c.facts.writes + commit_writes c ≡ a.facts.writes + 5
  mark_counts behind tries mark =
      let one = tries (let few : length a.waiting + 1 < BATCH = omega (arith, ap length nothing) in few) in
      let held : b.waiting ≡ joined_run (address page 0) (first ∷ []) [] =
      one.waiting ∙ ap₂ (λ (k : ℕ) (l : List Waiting). joined_run k (first ∷ []) l) is nothing in
      let two = mark (let few : length b.waiting + 1 < BATCH = omega (arith, ap length held) in few) in
      let all = two.waiting ∙ ap₂ (λ (k : ℕ) (l : List Waiting). joined_run k (second ∷ []) l) behind held in
      let batch = ap batch_writes all ∙ mark_batch page first second in
      let commit = commit_some c (let some : 1 ≤ batch_writes c.waiting = omega (arith, batch) in some) in
      omega (arith, ap (λ (f : Facts). f.writes) two.facts, ap (λ (f : Facts). f.writes) one.facts, batch, commit)

  pub all_counts : (fourth : ℕ)
      → (length a.waiting + 4 < BATCH → Waits (joined_run at (first ∷ second ∷ third ∷ fourth ∷ []) a.waiting) a b)
      → b.facts.writes + commit_writes b ≡ a.facts.writes + 4
  all_counts fourth set =
      let one = set (let few : length a.waiting + 4 < BATCH = omega (arith, ap length nothing) in few) in
      let all = one.waiting
      ∙ ap₂ (λ (k : ℕ) (l : List Waiting). joined_run k (first ∷ second ∷ third ∷ fourth ∷ []) l) is nothing in
      let batch = ap batch_writes all ∙ all_batch page first second third fourth in
      let commit = commit_some b (let some : 1 ≤ batch_writes b.waiting = omega (arith, batch) in some) in
      omega (arith, ap (λ (f : Facts). f.writes) one.facts, batch, commit)
