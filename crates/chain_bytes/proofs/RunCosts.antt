-- The runs of sets, as bytes are put into a chain word by word.
use Rattle.std.proofs.Common.{◌≡◌, ◌≢◌, ◌<◌, ◌≤◌, ◌+◌, ◌-◌, ◌/◌, ◌%◌, ◌==◌, ℕ, Bool, zero, suc, ◌∙◌, ap}
use Rattle.std.proofs.Common.{subst, inl, inr, arith}
use Rattle.std.specs.Prelude.{if◌then◌else◌}
use Rattle.std.proofs.lemmas.Bool.Decides.{eqb_tells}
use Rattle.nvm_board.specs.Facts.{address}
use Rattle.nvm_board.specs.declared.board.TheConstants.{PAGE_WORDS}
use Rattle.undo_journal.specs.Memory.{Memory, InRuns, ContinuesRun, EndsAt}
use Rattle.undo_journal.specs.StoreCalls.{OnlyReads}
use Rattle.undo_journal.specs.laws.Calls.{runs_then, runs_weaker, reads_runs, ends_kept}
use Rattle.block_chain.specs.declared.layout.TheConstants.{BLOCK_WORDS}
use Rattle.block_chain.specs.ChainChanges.{touched_blocks}

-- The sets of the words of a chain from the one numbered `start` to the one before word k lie in as many runs as
-- blocks; the block of word k is this page.
pub data AreRunsSoFar (start k page : ℕ) (first now : Memory) : Type 0 where
  none_yet : k ≡ start → InRuns 0 first now → AreRunsSoFar start k page first now
  some_runs : start < k → InRuns ((k + 14) / BLOCK_WORDS - start / BLOCK_WORDS) first now
      → (k % BLOCK_WORDS ≢ 0 → EndsAt now (address page (k % BLOCK_WORDS))) → AreRunsSoFar start k page first now

-- they are no more than the blocks that are touched
module _ (offset count k page : ℕ) (first now : Memory) (so_far : AreRunsSoFar (offset / 4) k page first now)
    (some : 1 ≤ count) where
  blocks : touched_blocks offset count ≡ (offset + count + 59) / 60 - offset / 60
  blocks = as_formula count some
    where
      as_formula : (n : ℕ) → 1 ≤ n → touched_blocks offset n ≡ (offset + n + 59) / 60 - offset / 60
      as_formula zero none = absurd (omega (arith, none))
      as_formula (suc n) none = omega arith

  pub runs_all : k ≤ (offset + count + 3) / 4 → InRuns (touched_blocks offset count) first now
  runs_all le = elim so_far [
    | none_yet e runs ↦ runs_weaker 0 (touched_blocks offset count) first now (omega arith) runs
    | some_runs lt runs ends ↦ runs_weaker _ (touched_blocks offset count) first now (omega (arith, blocks, le)) runs
  ]

  -- nor with the word that is put now
  pub runs_more : k < (offset + count + 3) / 4 → (after : Memory)
      → InRuns ((k + 15) / BLOCK_WORDS - offset / 4 / BLOCK_WORDS) first after
      → InRuns (touched_blocks offset count) first after
  runs_more lt after runs = runs_weaker _ (touched_blocks offset count) first after (omega (arith, blocks, lt)) runs

-- One word more is put, at this address.
module _ (start k page at : ℕ) (first now : Memory) (so_far : AreRunsSoFar start k page first now)
    (is : at ≡ address page (1 + k % BLOCK_WORDS)) (after : Memory) (one : InRuns 1 now after)
    (goes : ContinuesRun now at → InRuns 0 now after) (le : start ≤ k) where
  pub run_put : InRuns ((k + 15) / BLOCK_WORDS - start / BLOCK_WORDS) first after
  run_put = elim so_far [
    | none_yet e runs ↦
        runs_then 0 1 ((k + 15) / BLOCK_WORDS - start / BLOCK_WORDS) first now after (omega (arith, e)) runs one
    | some_runs lt runs ends ↦ elim (eqb_tells (k % BLOCK_WORDS) 0) [
      | inl fresh ↦
          runs_then ((k + 14) / BLOCK_WORDS - start / BLOCK_WORDS) 1 ((k + 15) / BLOCK_WORDS - start / BLOCK_WORDS)
          first now after (omega (arith, fresh.1, lt)) runs one
      | inr inside ↦
          let apart : k % BLOCK_WORDS ≢ 0 = inside.1 in
          let before : address page (k % BLOCK_WORDS) ≡ at - 1 = omega (arith, is) in
          let later : at % PAGE_WORDS ≢ 0 = omega (arith, is) in
          let family : ℕ → Type 0 = λ a. EndsAt now a in
          runs_then ((k + 14) / BLOCK_WORDS - start / BLOCK_WORDS) 0 ((k + 15) / BLOCK_WORDS - start / BLOCK_WORDS)
          first now after (omega (arith, apart, lt)) runs (goes (later, subst family before (ends apart)))
    ]
  ]

  -- and the block of the word after it is found
  pub run_next : EndsAt after at → (last : Memory) → OnlyReads after last → (link next : ℕ)
      → next ≡ (if (k + 1) % BLOCK_WORDS == 0 then link else page) → AreRunsSoFar start (k + 1) next first last
  run_next put last reads link next told =
      some_runs (omega (arith, le))
      (runs_then ((k + 15) / BLOCK_WORDS - start / BLOCK_WORDS) 0 ((k + 1 + 14) / BLOCK_WORDS - start / BLOCK_WORDS)
      first after last (omega arith) run_put (reads_runs 0 after last reads))
      (λ inside. elim (eqb_tells ((k + 1) % BLOCK_WORDS) 0) [
        | inl ends ↦ absurd (inside ends.1)
        | inr apart ↦
            let here : next ≡ page = told ∙ ap (λ (b : Bool). if b then link else page) apart.0 in
            let there : at ≡ address next ((k + 1) % BLOCK_WORDS) = omega (arith, is, here, inside) in
            let family : ℕ → Type 0 = λ a. EndsAt last a in
            subst family there (ends_kept after last at reads put)
      ])
