-- The effects of calls on records on the words of a memory.
use Rattle.std.specs.Prelude.{◌≡◌, ◌≢◌, ◌⊎◌, ◌<◌, ◌+◌, ◌-◌, ◌*◌, ◌/◌, ◌%◌, ℕ, List, length, slice_index}
use Rattle.nvm_board.specs.Facts.{address}
use Rattle.nvm_board.specs.declared.board.TheConstants.{PAGE_WORDS}
use Rattle.block_chain.specs.declared.chain.Chain.{Chain}
use Rattle.block_chain.specs.BlockWords.{word}
use Rattle.block_chain.specs.Counts.{IsNotIn}
use Rattle.block_chain.specs.Chains.{chain_of, chain_bytes}
use Rattle.block_chain.specs.ChainChanges.{touched_words}
use Rattle.chain_bytes.specs.Writes.{batch_count, run_count}
use Rattle.block_chain.specs.declared.layout.TheConstants.{WORD_BYTES}
use Rattle.card_model.specs.FileTrees.{overwrite}
use Rattle.ef_body.specs.declared.cyclic.Cyclic.{Cyclic}
use Rattle.card_model.specs.RecordLists.{front, spelled, raised_number}
use Rattle.ef_body.specs.Bodies.{cyclic_body_records, start_told}

-- Only the content words of these blocks and the word at this address may change.
pub record OnlyBody (m ps : List ℕ) (counts_at : ℕ) (after : List ℕ) : Type 0 where
  pub size : length after ≡ length m
  pub others : (page place : ℕ) → place < PAGE_WORDS → (place ≡ 0) ⊎ IsNotIn page ps → address page place ≢ counts_at
      → word after page place ≡ word m page place

-- A ring has these records, with record 1 in the same slot as before. All else is unchanged.
pub record RecordsBecome (m : List ℕ) (ring : Cyclic) (records : List (List ℕ)) (after : List ℕ) : Type 0 where
  pub becomes : cyclic_body_records after ring ≡ records
  pub start : start_told after ring.counts_at ≡ ring.start
  pub blocks : chain_of after ring.chain ≡ chain_of m ring.chain
  pub only : OnlyBody m (chain_of m ring.chain) ring.counts_at after

-- A cyclic EF has these records, with record 1 in the slot before that of the former record 1. All else is unchanged.
pub record CyclicBecomes (m : List ℕ) (body : Cyclic) (records : List (List ℕ)) (after : List ℕ) : Type 0 where
  pub becomes : cyclic_body_records after body ≡ records
  pub start : start_told after body.counts_at ≡ (body.start + body.capacity - 1) % body.capacity
  pub blocks : chain_of after body.chain ≡ chain_of m body.chain
  pub only : OnlyBody m (chain_of m body.chain) body.counts_at after

-- Bytes of a chain are overwritten, and the word at an address is set. All else is unchanged.
pub record PutsRecord (m : List ℕ) (c : Chain) (offset : ℕ) (bytes : List ℕ) (counts_at new_counts : ℕ) (after : List ℕ)
    : Type 0 where
  pub becomes : chain_bytes after c ≡ overwrite (chain_bytes m c) offset bytes
  pub tells : slice_index after counts_at ≡ new_counts
  pub blocks : chain_of after c ≡ chain_of m c
  pub only : OnlyBody m (chain_of m c) counts_at after

-- INCREASE: the sum of record 1 and the sent number, in the record length, becomes the newest record. The oldest is
-- dropped.
abbrev pub Increases : List ℕ → Cyclic → List ℕ → List ℕ → Type 0
Increases m body sent after =
    let records = cyclic_body_records m body in
    CyclicBecomes m body (front (length records) (spelled body.record_length (raised_number records sent)) records)
    after

-- The offset in the chain of the slot of a number. The first slot follows the last one.
abbrev pub slot_offset : Cyclic → ℕ → ℕ
slot_offset ring number = (ring.start + number - 1) % ring.capacity * ring.record_length

-- The device writes of `count` bytes of a record, then of the entry's word, with the commit. That word is one more set
-- of the last batch, or of a batch of its own, and always a run by itself.
abbrev pub record_put_writes : ℕ → ℕ → ℕ
record_put_writes offset count =
    2 * batch_count (touched_words offset count + 1) + run_count (offset / WORD_BYTES) (touched_words offset count) + 2
