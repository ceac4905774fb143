-- Laws of bytes that are put in place of others, in lists and in the words of a chain.
use Rattle.std.proofs.lemmas.List.{take-append-drop}
use Rattle.std.specs.Prelude.{zero, suc, [], ◌∷◌, ◌/◌, ◌++◌}
use Rattle.block_chain.specs.ChainChanges.{touched_words, with_bytes_at, OnlyContent, Overwrites}
use Rattle.std.proofs.Common.{refl, sym, ◌∙◌, ap, ap₂, arith, inl, inr, ⊎_elim, get_or-take, get_or-drop}
use Rattle.std.proofs.Common.{length-take, length-drop, subst}
use Rattle.std.proofs.Math.ListN.{get_or-append, length-set}
use Rattle.std.proofs.lemmas.Bool.{lt-ltb, le-ltb, lt-leb, le-leb, cases_lt}
use Rattle.std.proofs.lemmas.Bool.Decides.{eqb_tells}
use Rattle.std.proofs.lemmas.Grind.{same_number_lists}
use Rattle.std.proofs.lemmas.List.{length-append, get_or-append_right}
use Rattle.std.specs.Prelude.{◌≡◌, ◌⊎◌, ◌<◌, ◌≤◌, ◌+◌, ◌-◌, ◌&&◌, ℕ, Bool, true, false, List, ◌++◌, length, take}
use Rattle.std.specs.Prelude.{drop, slice_index, nat_le, nat_lt, if◌then◌else◌, ◌≢◌, ◌*◌, ◌/◌, ◌%◌, slice_set}
use Rattle.nvm_board.specs.Facts.{address, IsMemory}
use Rattle.block_chain.specs.Chains.{bytes_of}
use Rattle.block_chain.specs.Counts.{count, NoneTwice, IsNotIn}
use Rattle.block_chain.specs.ChainParts.{byte_over, PutsWord}
use Rattle.block_chain.specs.BlockWords.{word, word_bytes, IsBlock}
use Rattle.block_chain.specs.declared.layout.TheConstants.{BLOCK_BYTES, BLOCK_WORDS}
use Rattle.nvm_board.specs.laws.Sizes.{memory_same}
use Rattle.block_chain.specs.laws.Bytes.{blocks_same, AreBlocks, block_in, content_word}
use Rattle.block_chain.specs.laws.Bytes.{length-bytes_of, index-bytes_of}
use Rattle.block_chain.specs.laws.Counts.{apart, count-index}
use Rattle.block_chain.specs.laws.Words.{word-set_other, word-set_same}

-- a byte that stays
pub byte_over-outside : (offset at byte : ℕ) (bytes : List ℕ) → (at < offset) ⊎ (offset + length bytes ≤ at)
    → byte_over offset bytes at byte ≡ byte
byte_over-outside offset at byte bytes out = ⊎_elim
    (λ (before : at < offset). ap (λ (b : Bool). if b && nat_lt at (offset + length bytes) then slice_index bytes
    (at - offset) else byte) (lt-leb offset at before))
    (λ (past : offset + length bytes ≤ at).
    let within : nat_le offset at ≡ true = le-leb offset at (omega (arith, past)) in
    let beyond : nat_lt at (offset + length bytes) ≡ false = le-ltb at (offset + length bytes) past in
    ap₂ (λ (a b : Bool). if a && b then slice_index bytes (at - offset) else byte) within beyond)
    out

-- a byte that another takes the place of
pub byte_over-inside : (offset at byte : ℕ) (bytes : List ℕ) → offset ≤ at → at < offset + length bytes
    → byte_over offset bytes at byte ≡ slice_index bytes (at - offset)
byte_over-inside offset at byte bytes low high =
    ap₂ (λ (a b : Bool). if a && b then slice_index bytes (at - offset) else byte) (le-leb offset at low)
    (lt-ltb at (offset + length bytes) high)

module _ (content bytes : List ℕ) (offset : ℕ) (within : offset + length bytes ≤ length content) where
  abbrev pub rest : List ℕ
  rest = drop (offset + length bytes) content

  length-front : length (take offset content) ≡ offset
  length-front = let front = length-take offset content in omega (arith, front, within)

  pub length-overwrite : length (with_bytes_at content offset bytes) ≡ length content
  length-overwrite =
      let back = length-drop (offset + length bytes) content in
      let outer = length-append (take offset content) (bytes ++ rest) in
      let inner = length-append bytes rest in
      omega (arith, length-front, back, outer, inner, within)

  -- each byte of the content with others in it
  pub index-overwrite : (at : ℕ)
      → slice_index (with_bytes_at content offset bytes) at ≡ byte_over offset bytes at (slice_index content at)
  index-overwrite at = ⊎_elim
      (λ (before : at < offset).
      let front : at < length (take offset content) = omega (arith, length-front) in
      get_or-append (take offset content) (bytes ++ rest) 0 at front ∙ get_or-take offset content at 0 before
      ∙ sym (byte_over-outside offset at (slice_index content at) bytes (inl before)))
      (λ (from : offset ≤ at).
      let behind : slice_index (with_bytes_at content offset bytes) at ≡ slice_index (bytes ++ rest) (at - offset) =
      get_or-append_right (take offset content) (bytes ++ rest) offset at 0 length-front from in
      ⊎_elim
      (λ (inside : at < offset + length bytes).
      let among : at - offset < length bytes = omega arith in
      behind ∙ get_or-append bytes rest 0 (at - offset) among
      ∙ sym (byte_over-inside offset at (slice_index content at) bytes from inside))
      (λ (past : offset + length bytes ≤ at).
      let beyond : length bytes ≤ at - offset = omega arith in
      let place : offset + length bytes + (at - offset - length bytes) ≡ at = omega arith in
      behind ∙ get_or-append_right bytes rest (length bytes) (at - offset) 0 refl beyond
      ∙ get_or-drop (offset + length bytes) content (at - offset - length bytes) 0
      ∙ ap (slice_index content) place
      ∙ sym (byte_over-outside offset at (slice_index content at) bytes (inr past)))
      (cases_lt at (offset + length bytes)))
      (cases_lt at offset)

-- bytes are put into the content words before the kth, and no other word is other
pub record IsPut (m ps : List ℕ) (offset : ℕ) (bytes : List ℕ) (k : ℕ) (now : List ℕ) : Type 0 where
  pub only : OnlyContent m ps now
  pub new : (i : ℕ) → i < BLOCK_BYTES * length ps → i / 4 < k
      → slice_index (bytes_of now ps) i ≡ byte_over offset bytes i (slice_index (bytes_of m ps) i)
  pub old : (i : ℕ) → i < BLOCK_BYTES * length ps → k ≤ i / 4
      → slice_index (bytes_of now ps) i ≡ slice_index (bytes_of m ps) i

module _ (m ps : List ℕ) (offset : ℕ) (bytes : List ℕ) (sized : IsMemory m) (blocks : AreBlocks m ps) where
  pub put_none : IsPut m ps offset bytes (offset / 4) m
  put_none = record {
    only = record { size = refl; others = λ page place small apart. refl };
    new = λ i lt before. sym (byte_over-outside offset i (slice_index (bytes_of m ps) i) bytes
        (inl (let z : i < offset = omega (arith, before) in z)));
    old = λ i lt from. refl;
  }

  pub put_all : (k : ℕ) (now : List ℕ) → IsPut m ps offset bytes k now → offset + length bytes ≤ 4 * k
      → offset + length bytes ≤ BLOCK_BYTES * length ps → Overwrites m ps offset bytes now
  put_all k now put far inside =
      let now_sized : IsMemory now = memory_same m now put.only.size sized in
      let size = length-bytes_of m ps sized blocks in
      let new_size = length-bytes_of now ps now_sized (blocks_same m now ps put.only.size blocks) in
      let fits : offset + length bytes ≤ length (bytes_of m ps) = omega (arith, size, inside) in
      let same_size = length-overwrite (bytes_of m ps) bytes offset fits in
      record {
        content = same_number_lists _ _ (new_size ∙ sym size ∙ sym same_size) (λ i lt.
            let below : i < BLOCK_BYTES * length ps = omega (arith, lt, new_size) in
            ⊎_elim (λ (before : i / 4 < k). put.new i below before)
            (λ (from : k ≤ i / 4). put.old i below from
            ∙ sym (byte_over-outside offset i (slice_index (bytes_of m ps) i) bytes
            (inr (let z : offset + length bytes ≤ i = omega (arith, from, far) in z))))
            (cases_lt (i / 4) k)
            ∙ sym (index-overwrite (bytes_of m ps) bytes offset fits i));
        only = put.only;
      }

  module _ (once : NoneTwice ps) (k w page : ℕ) (now : List ℕ) (put : IsPut m ps offset bytes k now)
      (within : k < BLOCK_WORDS * length ps) (is : page ≡ slice_index ps (k / BLOCK_WORDS))
      (over : (place : ℕ) → place < 4
      → slice_index (word_bytes w) place ≡ byte_over offset bytes (4 * k + place)
      (slice_index (word_bytes (content_word now ps k)) place)) where
    abbrev pub after : List ℕ
    after = slice_set now (address page (1 + k % BLOCK_WORDS)) w

    now_sized : IsMemory now
    now_sized = memory_same m now put.only.size sized

    now_blocks : AreBlocks now ps
    now_blocks = blocks_same m now ps put.only.size blocks

    after_sized : IsMemory after
    after_sized = memory_same now after (length-set now (address page (1 + k % BLOCK_WORDS)) w) now_sized

    after_blocks : AreBlocks after ps
    after_blocks = blocks_same now after ps (length-set now (address page (1 + k % BLOCK_WORDS)) w) now_blocks

    place_in : k / BLOCK_WORDS < length ps
    place_in = omega (arith, within)

    block : IsBlock now page
    block = let family : ℕ → Type 0 = λ q. IsBlock now q in
        subst family (sym is) (block_in now ps (k / BLOCK_WORDS) now_blocks place_in)

    here : content_word after ps k ≡ w
    here =
        let inside : address page (1 + k % BLOCK_WORDS) < length now =
        omega (arith, now_sized.whole, now_sized.least, block.1) in
        ap (λ (q : ℕ). word after q (1 + k % BLOCK_WORDS)) (sym is)
        ∙ word-set_same now page (1 + k % BLOCK_WORDS) w inside

    elsewhere : (j : ℕ) → j < BLOCK_WORDS * length ps → j ≢ k → content_word after ps j ≡ content_word now ps j
    elsewhere j lt other =
        let j_in : j / BLOCK_WORDS < length ps = omega (arith, lt) in
        word-set_other now page (1 + k % BLOCK_WORDS) (slice_index ps (j / BLOCK_WORDS)) (1 + j % BLOCK_WORDS) w
        (omega arith) (omega arith) (elim (eqb_tells (j / BLOCK_WORDS) (k / BLOCK_WORDS)) [
          | inl same ↦ inr (λ e. other (let s = same.1 in let z : j ≡ k = omega (arith, e, s) in z))
          | inr differ ↦ inl (λ e. ⊎_elim
              (λ (before : j / BLOCK_WORDS < k / BLOCK_WORDS). apart ps once (j / BLOCK_WORDS)
              (k / BLOCK_WORDS) before place_in (e ∙ is))
              (λ (from : k / BLOCK_WORDS ≤ j / BLOCK_WORDS). let less : k / BLOCK_WORDS < j / BLOCK_WORDS =
              (let d = differ.1 in omega (arith, d, from)) in
              apart ps once (k / BLOCK_WORDS) (j / BLOCK_WORDS) less j_in (sym (e ∙ is)))
              (cases_lt (j / BLOCK_WORDS) (k / BLOCK_WORDS)))
        ])

    kept : (i : ℕ) → i < BLOCK_BYTES * length ps → i / 4 ≢ k
        → slice_index (bytes_of after ps) i ≡ slice_index (bytes_of now ps) i
    kept i lt other =
        index-bytes_of after ps i after_sized after_blocks lt
        ∙ ap (λ (v : ℕ). slice_index (word_bytes v) (i % 4)) (elsewhere (i / 4) (omega (arith, lt)) other)
        ∙ sym (index-bytes_of now ps i now_sized now_blocks lt)

    pub put_more : IsPut m ps offset bytes (k + 1) after
    put_more = record {
      only = record {
        size = length-set now (address page (1 + k % BLOCK_WORDS)) w ∙ put.only.size;
        others = λ other place small differs.
            word-set_other now page (1 + k % BLOCK_WORDS) other place w (omega arith) small (⊎_elim
            (λ (link : place ≡ 0). inr (λ e. let z : ⊥ = omega (arith, e, link) in z))
            (λ (away : IsNotIn other ps). inl (λ e. let some = count-index ps (k / BLOCK_WORDS) place_in in
            let c : count other ps ≡ count (slice_index ps (k / BLOCK_WORDS)) ps =
            ap (λ (q : ℕ). count q ps) (e ∙ is) in let z : ⊥ = omega (arith, some, c, away) in z))
            differs)
            ∙ put.only.others other place small differs;
      };
      new = λ i lt before. elim (eqb_tells (i / 4) k) [
        | inl same ↦
            let s = same.1 in
            let at : 4 * k + i % 4 ≡ i = omega (arith, s) in
            let small : i % 4 < 4 = omega arith in
            let from : k ≤ i / 4 = omega (arith, s) in
            index-bytes_of after ps i after_sized after_blocks lt
            ∙ ap (λ (j : ℕ). slice_index (word_bytes (content_word after ps j)) (i % 4)) s
            ∙ ap (λ (v : ℕ). slice_index (word_bytes v) (i % 4)) here
            ∙ over (i % 4) small
            ∙ ap₂ (λ (b j : ℕ). byte_over offset bytes b (slice_index (word_bytes (content_word now ps j)) (i % 4))) at
            (sym s)
            ∙ ap (byte_over offset bytes i) (sym (index-bytes_of now ps i now_sized now_blocks lt) ∙ put.old i lt from)
        | inr other ↦ kept i lt other.1 ∙ put.new i lt (let d = other.1 in omega (arith, before, d))
      ];
      old = λ i lt from. kept i lt (λ e. let z : ⊥ = omega (arith, e, from) in z) ∙ put.old i lt (omega (arith, from));
    }

-- one content word more, as the code sets it
pub put_step : (m ps : List ℕ) (offset : ℕ) (bytes : List ℕ) → IsMemory m → AreBlocks m ps → NoneTwice ps
    → (k page : ℕ) (now after : List ℕ) → IsPut m ps offset bytes k now → k < BLOCK_WORDS * length ps
    → page ≡ slice_index ps (k / BLOCK_WORDS)
    → PutsWord now page k offset bytes after → IsPut m ps offset bytes (k + 1) after
put_step m ps offset bytes sized blocks once k page now after put within is puts =
    let over : (place : ℕ) → place < 4
    → slice_index (word_bytes puts.put) place ≡ byte_over offset bytes (4 * k + place)
    (slice_index (word_bytes (content_word now ps k)) place) =
    λ place lt. puts.over place lt
    ∙ ap (λ (q : ℕ). byte_over offset bytes (4 * k + place)
    (slice_index (word_bytes (word now q (1 + k % BLOCK_WORDS))) place)) is in
    let family : List ℕ → Type 0 = λ l. IsPut m ps offset bytes (k + 1) l in
    subst family (sym puts.done) (put_more m ps offset bytes sized blocks once k puts.put page now put within is over)

-- no bytes put in place of others
pub overwrite-none : (xs : List ℕ) (offset : ℕ) (bytes : List ℕ) → length bytes ≡ 0 → with_bytes_at xs offset bytes ≡ xs
overwrite-none xs offset [] none =
    let at : offset + 0 ≡ offset = omega arith in
    ap (λ (i : ℕ). take offset xs ++ drop i xs) at ∙ take-append-drop offset xs
overwrite-none xs offset (b ∷ bytes) none = absurd (omega (arith, none))

-- then nothing is other
pub overwrites_none : (m ps : List ℕ) (offset : ℕ) (bytes : List ℕ) → length bytes ≡ 0 → Overwrites m ps offset bytes m
overwrites_none m ps offset bytes none = record {
  content = sym (overwrite-none (bytes_of m ps) offset bytes none);
  only = record { size = refl; others = λ page place small apart. refl };
}

-- how many words some bytes touch, in one formula
pub touched : (offset count : ℕ) → 1 ≤ count → touched_words offset count ≡ (offset + count + 3) / 4 - offset / 4
touched offset zero some = absurd (omega (arith, some))
touched offset (suc n) some = omega arith
