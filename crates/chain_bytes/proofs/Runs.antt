-- The bytes of a chain in a row, as they are read word by word.
use Rattle.std.proofs.Common.{◌≡◌, ◌<◌, ◌≤◌, ◌+◌, ◌-◌, ◌*◌, ◌/◌, ◌%◌, ◌++◌, ℕ, List, length, take, drop, slice_index}
use Rattle.std.specs.Prelude.{◌==◌, if◌then◌else◌}
use Rattle.std.proofs.Common.{sym, ◌∙◌, ap, arith, append_assoc, get_or-take}
use Rattle.std.proofs.lemmas.List.{append-nil, length-take-le, length-drop}
use Rattle.std.proofs.lemmas.Grind.{same_number_lists}
use Rattle.nvm_board.specs.Facts.{IsMemory}
use Rattle.block_chain.specs.declared.layout.TheConstants.{BLOCK_BYTES, BLOCK_WORDS}
use Rattle.block_chain.specs.BlockWords.{link, word, word_bytes}
use Rattle.block_chain.specs.Chains.{Leads, bytes_of}
use Rattle.block_chain.specs.ChainChanges.{AppendsSome}
use Rattle.block_chain.specs.laws.Bytes.{content_word, leads_blocks, length-bytes_of, bytes_run, more_bytes}
use Rattle.block_chain.specs.laws.Chains.{IsAt, at_block, next_block}

-- the first bytes of some that are the first
take_twice : (n k : ℕ) (xs : List ℕ) → n ≤ k → k ≤ length xs → take n (take k xs) ≡ take n xs
take_twice n k xs fits long =
    let a = length-take-le k xs long in
    let b = length-take-le n (take k xs) (omega (arith, a, fits)) in
    let c = length-take-le n xs (omega (arith, fits, long)) in
    same_number_lists _ _ (b ∙ sym c) (λ i lt.
    let small : i < n = omega (arith, lt, b) in
    get_or-take n (take k xs) i 0 small ∙ get_or-take k xs i 0 (omega (arith, small, fits))
    ∙ sym (get_or-take n xs i 0 small))

-- Bytes of a chain stand in the buffer up to an offset, and this is the block of the byte there.
pub record IsRead (m ps : List ℕ) (offset count : ℕ) (init : List ℕ) (at page : ℕ) (out : List ℕ) : Type 0 where
  pub from : offset ≤ at
  pub within : at ≤ offset + count
  pub block : page ≡ slice_index ps (at / BLOCK_BYTES)
  pub so_far : out ≡ init ++ take (at - offset) (drop offset (bytes_of m ps))

-- none are read yet
pub read_none : (m ps : List ℕ) (offset count : ℕ) (init : List ℕ) (page : ℕ)
    → page ≡ slice_index ps (offset / BLOCK_BYTES) → IsRead m ps offset count init offset page init
read_none m ps offset count init page is = record {
  from = omega arith;
  within = omega arith;
  block = is;
  so_far = (let none : offset - offset ≡ 0 = omega arith in
      sym (append-nil init) ∙ ap (λ (k : ℕ). init ++ take k (drop offset (bytes_of m ps))) (sym none));
}

-- all are read
pub read_all : (m ps : List ℕ) (offset count : ℕ) (init : List ℕ) (at page : ℕ) (out : List ℕ)
    → IsRead m ps offset count init at page out → offset + count ≤ at
    → out ≡ init ++ take count (drop offset (bytes_of m ps))
read_all m ps offset count init at page out read past =
    let all : at - offset ≡ count = omega (arith, read.within, past) in
    read.so_far ∙ ap (λ (k : ℕ). init ++ take k (drop offset (bytes_of m ps))) all

-- no bytes were asked for
pub none_asked : (bytes init : List ℕ) (count : ℕ) → count ≡ 0 → init ≡ init ++ take count bytes
none_asked bytes init count none = sym (append-nil init) ∙ ap (λ (k : ℕ). init ++ take k bytes) (sym none)

-- and none were appended
pub none_appended : (init bytes : List ℕ) → AppendsSome init bytes init
none_appended init bytes = record { some = 0; is = sym (append-nil init) }

module _ (m ps : List ℕ) (from offset count : ℕ) (sized : IsMemory m) (leads : Leads m from ps 0)
    (within : offset + count ≤ BLOCK_BYTES * length ps) where
  abbrev pub rest : List ℕ
  rest = drop offset (bytes_of m ps)

  -- the block of a byte that is read
  pub block_here : (now : List ℕ) (at page : ℕ) → now ≡ m → page ≡ slice_index ps (at / BLOCK_BYTES)
      → at < offset + count
      → IsAt now ps (at / BLOCK_BYTES) page
  block_here now at page same is lt =
      let inside : at / BLOCK_BYTES < length ps = omega (arith, lt, within) in
      at_block m now from ps (at / BLOCK_BYTES) page same sized leads is inside

  -- some bytes, as an error leaves the buffer
  pub some_bytes : (init out : List ℕ) (at : ℕ) → at ≤ offset + count → out ≡ init ++ take (at - offset) rest
      → AppendsSome init (take count rest) out
  some_bytes init out at high so_far =
      let all = length-bytes_of m ps sized (leads_blocks m from 0 ps leads) in
      let size = length-drop offset (bytes_of m ps) in
      record {
        some = at - offset;
        is = so_far ∙ ap (λ (xs : List ℕ). init ++ xs)
            (sym (take_twice (at - offset) count rest (omega (arith, high)) (omega (arith, size, all, within))));
      }

  module _ (now init out more : List ℕ) (at some page w : ℕ) (same : now ≡ m)
      (read : IsRead m ps offset count init at page out) (fits : at % 4 + some ≤ 4) (below : at + some ≤ offset + count)
      (is : w ≡ word now page (1 + at / 4 % BLOCK_WORDS))
      (pushed : more ≡ out ++ take some (drop (at % 4) (word_bytes w)))
    where
      -- the bytes of one word more
      appended : more ≡ init ++ take (at + some - offset) rest
      appended =
          let blocks = leads_blocks m from 0 ps leads in
          let place : at / BLOCK_BYTES ≡ at / 4 / BLOCK_WORDS = omega arith in
          let content : w ≡ content_word m ps (at / 4) =
          is ∙ (λ j. word (same j) ((read.block ∙ ap (slice_index ps) place) j) (1 + at / 4 % BLOCK_WORDS)) in
          let run = bytes_run m ps at some sized blocks (omega (arith, below, within)) fits in
          pushed
          ∙ (λ j. read.so_far j ++ take some (drop (at % 4) (word_bytes (content j))))
          ∙ ap (λ (xs : List ℕ). (init ++ take (at - offset) rest) ++ xs) run
          ∙ append_assoc init (take (at - offset) rest) (take some (drop at (bytes_of m ps)))
          ∙ ap (λ (xs : List ℕ). init ++ xs) (sym (more_bytes (bytes_of m ps) offset at some read.from))

      -- and the block of the byte after them
      pub read_more : (last : List ℕ) (next : ℕ) → last ≡ now → 1 ≤ some → at < offset + count
          → next ≡ (if (at + some) % BLOCK_BYTES == 0 then link last page else page)
          → IsRead m ps offset count init (at + some) next more
      read_more last next still positive lt told =
          let here = block_here now at page same read.block lt in
          record {
            from = omega (arith, read.from);
            within = below;
            block = next_block ps (at / BLOCK_BYTES) ((at + some) / BLOCK_BYTES) ((at + some) % BLOCK_BYTES) page
                (link last page) next
                (λ ends. omega (arith, positive, fits, ends))
                (λ goes. omega (arith, fits, goes))
                read.block
                (ap (λ (l : List ℕ). link l page) still ∙ here.next) told;
            so_far = appended;
          }

      -- an error after them leaves some bytes in the buffer
      pub some_more : AppendsSome init (take count rest) more
      some_more = some_bytes init more (at + some) below appended
