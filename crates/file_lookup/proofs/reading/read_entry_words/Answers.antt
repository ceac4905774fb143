use Rattle.undo_journal.specs.laws.Exits.{none_ok}
use Rattle.std.proofs.Common.{rules, ◌≡◌, ◌+◌, ◌<◌, ◌≤◌, ℕ, List, slice_index, slice_set, sym, ◌∙◌, ap, ap₂, arith}
use Rattle.std.proofs.Common.{⊎_elim, get_or-set_same, get_or-set_other, length-set}
use Rattle.std.proofs.lemmas.Bool.{cases_lt}
use Rattle.nvm_board.specs.Facts.{address}
use Rattle.undo_journal.specs.Memory.{committed}
use Rattle.undo_journal.specs.laws.Calls.{reads_then}
use Rattle.block_chain.specs.BlockWords.{word}
use Rattle.undo_journal.specs.laws.Told.{reads_so_far, reads_handed, reads_on}
use Rattle.file_lookup.proofs.reading.read_entry_words.Goals as goal

pub loop-k-preserved : goal.loop-k-preserved
loop-k-preserved g c =
    let m = committed c.args.store.now in
    let at = c.loop-k.k in
    let small : at < 11 = search rules in
    let size = c.loop-k.invariant.size in
    let place : c.entry_address-first.result + at ≡ address (1 + c.args.e) at =
    omega (arith, c.entry_address-first.ensures) in
    let kept = c.loop-k.invariant.reads.keeps.committed_words in
    let here : c.in_ok-words.field-0 ≡ word m (1 + c.args.e) at =
    c.in_ok-words.ensures.word
    ∙ ap₂ (λ (l : List ℕ) (i : ℕ). slice_index l i) kept place in
    let w = c.in_ok-words.field-0 in
    record {
      ready = c.in_ok-words.ensures.store.ready;
      reads = reads_then _ _ _ c.loop-k.invariant.reads c.read_committed.ensures.store.only;
      size = length-set c.loop-k.words at c.in_ok-words.field-0 ∙ size;
      so_far = λ k lt. ⊎_elim
          (λ (before : k < at).
          get_or-set_other c.loop-k.words at k w 0 (λ is. let z : ⊥ = omega (arith, before, is) in z)
          ∙ c.loop-k.invariant.so_far k before)
          (λ (from : at ≤ k).
          let is : k ≡ at = omega (arith, lt, from) in
          ap (λ (i : ℕ). slice_index (slice_set c.loop-k.words at w) i) is
          ∙ get_or-set_same c.loop-k.words at w 0 (omega (arith, size, small)) ∙ here
          ∙ ap (word m (1 + c.args.e)) (sym is))
          (cases_lt k at);
    }

pub returns-in_err-words-clause-words : goal.returns-in_err-words-clause-words
returns-in_err-words-clause-words g c = none_ok _ _ _ c.from_residual.ensures.1

pub returns-in_err-words-clause-store : goal.returns-in_err-words-clause-store
returns-in_err-words-clause-store g c =
    reads_handed _ _ _ _ c.from_residual.ensures.1
    (reads_on _ _ _ _ c.loop-k.invariant.reads c.in_err-words.ensures.store)

pub returns-clause-store : goal.returns-clause-store
returns-clause-store g c =
    reads_so_far _ _ c.loop-k.invariant.reads c.loop-k.invariant.ready
