-- What giving back and taking make of a layout.
use Rattle.std.specs.Prelude.{◌≡◌, ◌<◌, ◌≤◌, ◌-◌, ℕ, zero, suc, List, ◌∷◌, ◌++◌, length, slice_index}
use Rattle.std.specs.Prelude.{take, drop, All}
use Rattle.std.proofs.Common.{sym, ◌∙◌, ap, subst, arith, inr, get_or-take, length-drop}
use Rattle.std.proofs.lemmas.List.{length-append, length-take-le}
use Rattle.std.proofs.lemmas.List.Elements.{All-append}
use Rattle.nvm_board.specs.Facts.{IsMemory}
use Rattle.block_chain.specs.declared.layout.TheConstants.{FREE_HEAD}
use Rattle.block_chain.specs.declared.chain.Extent.{Extent}
use Rattle.block_chain.specs.BlockWords.{link}
use Rattle.block_chain.specs.Counts.{count, IsNotIn}
use Rattle.block_chain.specs.Chains.{Leads, free_chain, laid, bytes_of}
use Rattle.block_chain.specs.ChainChanges.{GivesBack, Takes}
use Rattle.block_chain.specs.Layout.{blocks_of, laid_out, chains_of, IsExtent, AreLaid, AreSplit, SameBytes}
use Rattle.block_chain.specs.laws.Chains.{chain_is}
use Rattle.block_chain.specs.laws.Counts.{count-append, count-split}
use Rattle.nvm_board.specs.laws.Sizes.{pages_same}
use Rattle.block_chain.specs.laws.Bytes.{leads_blocks, blocks_same}
use Rattle.block_chain.specs.laws.Extents.{all_left, all_right, count-around, length-around, laid_chains_of}
use Rattle.block_chain.specs.laws.Footprints.{extents_kept, linked_bytes, bytes_linked}

-- Some extents are given back: the others are laid out with the free chain, which has their blocks in front.
module _ (n : ℕ)
    (m after : List ℕ) (es given kept : List Extent) (before : AreLaid n m es) (split : AreSplit m es given kept)
    (others : All (IsExtent m) kept) (back : GivesBack m (chains_of given) after) where
  -- the blocks of the others are not given back
  apart : (q : ℕ) → 1 ≤ count q (laid_out m kept) → IsNotIn q (laid m (chains_of given))
  apart q some =
      let one = ap (count q) (laid_chains_of m given) in
      let cut = split.blocks q in
      let most = before.once q in
      let parts = count-append q (free_chain m) (laid_out m es) in
      omega (arith, one, cut, most, parts, some)

  stay : All (IsExtent after) kept × (laid_out after kept ≡ laid_out m kept)
  stay = extents_kept m after kept others back.only.size
      (λ q some. back.only.others q 0 (omega arith) (inr (apart q some)) (inr (omega arith)))

  pub given_free : free_chain after ≡ laid_out m given ++ free_chain m
  given_free = chain_is after _ _ back.free ∙ ap (λ (ps : List ℕ). ps ++ free_chain m) (laid_chains_of m given)

  pub given_bytes : IsMemory m → All (SameBytes m after) kept
  given_bytes sized = linked_bytes m after (laid m (chains_of given)) kept sized others back.only apart

  pub given_laid : AreLaid n after kept × (laid_out after kept ≡ laid_out m kept)
  given_laid =
      let from : List ℕ → Type 0 = λ ps. Leads after (slice_index after FREE_HEAD) ps 0 in (
        record {
          inside = (let same = pages_same m after back.only.size in let inside = before.inside in
              omega (arith, same, inside));
          free = subst from (sym (chain_is after _ _ back.free)) back.free.leads;
          each = stay.0;
          below = λ q past.
              let cut = split.blocks q in
              let none = before.below q past in
              let parts = count-append q (free_chain m) (laid_out m es) in
              let now = count-append q (free_chain after) (laid_out after kept) in
              let free = ap (count q) given_free in
              let front = count-append q (laid_out m given) (free_chain m) in
              let same = ap (count q) stay.1 in
              omega (arith, cut, none, parts, now, free, front, same);
          once = λ q.
              let cut = split.blocks q in
              let most = before.once q in
              let parts = count-append q (free_chain m) (laid_out m es) in
              let now = count-append q (free_chain after) (laid_out after kept) in
              let free = ap (count q) given_free in
              let front = count-append q (laid_out m given) (free_chain m) in
              let same = ap (count q) stay.1 in
              omega (arith, cut, most, parts, now, free, front, same);
          whole =
              let cut = split.size in
              let most = before.whole in
              let parts = length-append (free_chain m) (laid_out m es) in
              let now = length-append (free_chain after) (laid_out after kept) in
              let free = ap (λ (ps : List ℕ). length ps) given_free in
              let front = length-append (laid_out m given) (free_chain m) in
              let same = ap (λ (ps : List ℕ). length ps) stay.1 in
              omega (arith, cut, most, parts, now, free, front, same);
        },
        stay.1,
      )

module _ (m : List ℕ) (xs ys : List Extent) (e : Extent) where
  -- n blocks are taken: they are an extent beside the others.
  pub laid_taken : (blocks n : ℕ) (after : List ℕ) → AreLaid blocks m (xs ++ ys) → 1 ≤ n → n ≤ length (free_chain m)
      → Takes m n e.chain after → e.blocks ≡ n
      → AreLaid blocks after (xs ++ e ∷ ys) × (blocks_of after e ≡ take n (free_chain m))
      × (free_chain after ≡ drop n (free_chain m)) × (laid_out after (xs ++ ys) ≡ laid_out m (xs ++ ys))
  laid_taken blocks n after before some enough takes is =
      let ps = free_chain m in
      let taken : blocks_of after e ≡ take n ps = chain_is after _ _ takes.taken in
      let free_is : free_chain after ≡ drop n ps = chain_is after _ _ takes.free in
      let same : (q : ℕ) → 1 ≤ count q (laid_out m (xs ++ ys)) → link after q ≡ link m q =
      λ q some. takes.only.others q 0 (omega arith)
      (inr (let a =
      count-split q n ps in let most =
      before.once q in let c =
      count-append q ps (laid_out m (xs ++ ys)) in let z : count q (take n ps) ≡ 0 =
      omega (arith, a, most, c, some) in z)) (inr (omega arith)) in
      let kept = extents_kept m after (xs ++ ys) before.each takes.only.size same in
      let size : length (blocks_of after e) ≡ e.blocks = let a = ap (λ (qs : List ℕ). length qs) taken in
      let b = length-take-le n ps enough in omega (arith, a, b, is) in
      let from : List ℕ → Type 0 = λ qs. Leads after e.chain.first qs 0 in
      let own : IsExtent after e = record {
        leads = subst from (sym taken) takes.taken.leads;
        blocks = size;
        last = (let lt : n - 1 < n = omega arith in takes.last ∙ sym (get_or-take n ps (n - 1) 0 lt)
            ∙ (λ i. slice_index (sym taken i) (sym is i - 1)));
      } in (
        record {
          inside = (let same = pages_same m after takes.only.size in let inside = before.inside in
              omega (arith, same, inside));
          below = λ q past.
              let a = count-around after xs ys e q in let none = before.below q past in
              let c = count-append q (free_chain after) (laid_out after (xs ++ e ∷ ys)) in
              let d = count-append q ps (laid_out m (xs ++ ys)) in
              let f = ap (count q) free_is in let g = ap (count q) taken in let h = ap (count q) kept.1 in
              let split = count-split q n ps in
              omega (arith, a, none, c, d, f, g, h, split);
          free = (let start : List ℕ
              → Type 0 = λ qs. Leads after (slice_index after FREE_HEAD) qs 0 in
              subst start (sym free_is) takes.free.leads);
          each = All-append (IsExtent after) xs (e ∷ ys) (all_left (IsExtent after) xs ys kept.0)
              (cons_all own (all_right (IsExtent after) xs ys kept.0));
          once = λ q.
              let a = count-around after xs ys e q in let most = before.once q in
              let c = count-append q (free_chain after) (laid_out after (xs ++ e ∷ ys)) in
              let d = count-append q ps (laid_out m (xs ++ ys)) in
              let f = ap (count q) free_is in let g = ap (count q) taken in let h = ap (count q) kept.1 in
              let split = count-split q n ps in
              omega (arith, a, most, c, d, f, g, h, split);
          whole =
              let a = length-around after xs ys e in let most = before.whole in
              let c = length-append (free_chain after) (laid_out after (xs ++ e ∷ ys)) in
              let d = length-append ps (laid_out m (xs ++ ys)) in
              let f = ap (λ (qs : List ℕ). length qs) free_is in let g = length-drop n ps in
              let h = ap (λ (qs : List ℕ). length qs) kept.1 in
              omega (arith, a, most, c, d, f, g, h, size, is, enough);
        },
        taken,
        free_is,
        kept.1,
      )
    where
      cons_all : IsExtent after e → All (IsExtent after) ys → All (IsExtent after) (e ∷ ys)
      cons_all one all zero d lt = one
      cons_all one all (suc i) d lt = all i d (omega (arith, lt))

  -- Then the bytes of the others stay, and the new extent has the bytes that the free blocks had.
  pub taken_bytes : (blocks n : ℕ) (after : List ℕ) → IsMemory m → AreLaid blocks m (xs ++ ys) → Takes m n e.chain after
      → All (SameBytes m after) (xs ++ ys) × (bytes_of after (blocks_of after e) ≡ bytes_of m (take n (free_chain m)))
  taken_bytes blocks n after sized before takes =
      let ps = free_chain m in
      let taken : blocks_of after e ≡ take n ps = chain_is after _ _ takes.taken in (
        linked_bytes m after (take n ps) (xs ++ ys) sized before.each takes.only (λ q some.
            let a = count-split q n ps in
            let most = before.once q in
            let c = count-append q ps (laid_out m (xs ++ ys)) in
            omega (arith, a, most, c, some)),
        ap (bytes_of after) taken
            ∙ bytes_linked m after (take n ps) (take n ps) sized
            (blocks_same after m (take n ps) (sym takes.only.size)
            (leads_blocks after _ 0 (take n ps) takes.taken.leads)) takes.only,
      )
