use Rattle.std.proofs.Common.{rules}
use Rattle.std.proofs.Common.{◌≡◌, ◌+◌, ◌*◌, ◌%◌, ℕ, List, length, slice_index, slice_set, ◌∙◌, ap, ap₂, subst}
use Rattle.std.proofs.Common.{inr, arith}
use Rattle.std.proofs.lemmas.Result.{on_ok_weaker}
use Rattle.nvm_board.specs.Facts.{address}
use Rattle.undo_journal.specs.Memory.{current, EndsAt, ContinuesRun, Joins}
use Rattle.undo_journal.specs.Lent.{memory_of}
use Rattle.undo_journal.specs.laws.Calls.{reads_sets, sets_then, runs_then, reads_runs, goes_on_kept}
use Rattle.block_chain.specs.ChainParts.{byte_over}
use Rattle.chain_bytes.specs.JoinParts.{JoinsAt}
use Rattle.block_chain.specs.BlockWords.{word_bytes}
use Rattle.undo_journal.specs.laws.Exits.{none_ok}
use Rattle.undo_journal.specs.laws.Told.{sets_in_handed}
use Rattle.chain_bytes.proofs.bytes.put_word.Goals as goal
use Rattle.nvm_board.specs.declared.board.TheConstants.{PAGE_WORDS}
use Rattle.block_chain.specs.declared.layout.TheConstants.{BLOCK_WORDS}

pub new_word-requires-clause-place : goal.new_word-requires-clause-place
new_word-requires-clause-place g c =
    let block = c.requires.block in let size = c.requires.room.ready.current_size in
    (inr (omega (arith, block.0)), omega (arith, block.1, size))

pub set-requires-clause-place : goal.set-requires-clause-place
set-requires-clause-place g c =
    let block = c.requires.block in let size = c.requires.room.ready.current_size in
    let same = ap (λ (l : List ℕ). length l) c.new_word.ensures.store.only.reads.keeps.current_words in
    (inr (omega (arith, block.0)), omega (arith, block.1, size, same))

pub returns-clause-store : goal.returns-clause-store
returns-clause-store g c =
    record {
      sets = sets_then 0 1 1 _ _ _ (omega arith) (reads_sets _ _ _ c.new_word.ensures.store.only)
          c.set.ensures.store.sets;
      ready = search rules;
      tells = search rules;
    }

pub returns-clause-done : goal.returns-clause-done
returns-clause-done g c =
    let m = current (memory_of c.args.txn.now) in
    let page = c.args.page in
    let k = c.args.k in
    let at : PAGE_WORDS * page + 1 + k % BLOCK_WORDS ≡ address page (1 + k % BLOCK_WORDS) = omega arith in
    let read : current (memory_of c.new_word.new.txn) ≡ m = c.new_word.ensures.store.only.reads.keeps.current_words in
    on_ok_weaker c.set.result (λ
    (done : current (memory_of c.set.new.self) ≡ slice_set (current (memory_of c.new_word.new.txn))
    (PAGE_WORDS * page + 1 + k % BLOCK_WORDS) c.in_ok-new.new). record {
      put = c.in_ok-new.new;
      done = done ∙ ap₂ (λ (l : List ℕ) (i : ℕ). slice_set l i c.in_ok-new.new) read at;
      over = λ place lt. c.in_ok-new.ensures.word place lt
          ∙ ap (λ (w : ℕ). byte_over c.args.offset c.args.bytes.now (4 * k + place)
          (slice_index (word_bytes w) place)) (ap (slice_index m) at);
    }) c.set.ensures.done

pub returns-in_err-new-clause-done : goal.returns-in_err-new-clause-done
returns-in_err-new-clause-done g c = none_ok _ _ _ c.from_residual.ensures.1

pub returns-in_err-new-clause-store : goal.returns-in_err-new-clause-store
returns-in_err-new-clause-store g c =
    sets_in_handed _ _ _ _ _ c.from_residual.ensures.1 (record {
      ready = tt;
      tells = c.in_err-new.ensures.store.tells;
      sets = reads_sets _ _ _ c.new_word.ensures.store.only;
    })

-- the runs

pub returns-clause-goes_on : goal.returns-clause-goes_on
returns-clause-goes_on g c = λ goes.
    let at : address c.args.page (1 + c.args.k % BLOCK_WORDS) ≡ PAGE_WORDS * c.args.page + 1 + c.args.k % BLOCK_WORDS =
    omega arith in
    let reads = c.new_word.ensures.store.only.reads in
    let moved = subst (λ (a : ℕ). ContinuesRun (memory_of c.args.txn.now) a) at goes in
    runs_then 0 0 0 _ _ _ (omega arith) (reads_runs 0 _ _ reads)
    (c.set.ensures.goes_on (goes_on_kept _ _ _ reads moved))

pub returns-clause-next : goal.returns-clause-next
returns-clause-next g c =
    let at : PAGE_WORDS * c.args.page + 1 + c.args.k % BLOCK_WORDS ≡ address c.args.page (1 + c.args.k % BLOCK_WORDS) =
    omega arith in
    on_ok_weaker c.set.result
    (λ ends. subst (λ (a : ℕ). EndsAt (memory_of c.set.new.self) a) at ends) c.set.ensures.next

pub returns-in_err-new-clause-goes_on : goal.returns-in_err-new-clause-goes_on
returns-in_err-new-clause-goes_on g c = λ goes. reads_runs 0 _ _ c.in_err-new.ensures.store.only.reads

pub returns-in_err-new-clause-next : goal.returns-in_err-new-clause-next
returns-in_err-new-clause-next g c = none_ok _ _ _ c.from_residual.ensures.1

pub returns-clause-joins : goal.returns-clause-joins
returns-clause-joins g c =
    let at : PAGE_WORDS * c.args.page + 1 + c.args.k % BLOCK_WORDS ≡ address c.args.page (1 + c.args.k % BLOCK_WORDS) =
    omega arith in
    on_ok_weaker c.set.result (λ
    (joins : Joins (record { at = PAGE_WORDS * c.args.page + 1 + c.args.k % BLOCK_WORDS; word = c.in_ok-new.new })
    (memory_of c.new_word.new.txn) (memory_of c.set.new.self)).
    subst (λ (a : ℕ). JoinsAt a (memory_of c.args.txn.now) (memory_of c.set.new.self)) at (record {
      found = memory_of c.new_word.new.txn;
      reads = c.new_word.ensures.store.only.reads;
      word = c.in_ok-new.new;
      joins = joins;
    })) c.set.ensures.joins

pub returns-in_err-new-clause-joins : goal.returns-in_err-new-clause-joins
returns-in_err-new-clause-joins g c = none_ok _ _ _ c.from_residual.ensures.1
