-- Laws of the words of a log on a device with spare sectors.
use Rattle.std.specs.Prelude.{◌≡◌, ◌≢◌, ◌⊎◌, ◌<◌, ◌≤◌, ◌+◌, ◌-◌, ◌*◌, ◌^◌, ℕ, zero, suc, Bool, true, false, List}
use Rattle.std.specs.Prelude.{◌&&◌, length, nat_eq, slice_index, if◌then◌else◌}
use Rattle.std.proofs.Common.{refl, sym, ◌∙◌, ap, ap₂, inl, inr, subst, ⊎_elim, arith, true≢false}
use Rattle.std.proofs.Math.Nat.{mul-le-mul_left, mul-suc}
use Rattle.std.proofs.lemmas.Bool.{cases_eq, cases_lt, cases_order, eqb-true, ne_eqb}
use Rattle.std.proofs.lemmas.List.{get_or_past}
use Rattle.std.proofs.lemmas.List.Elements.{All-get_or, All-from_get_or}
use Rattle.nvm_board.specs.Facts.{AreWords}
use Rattle.flash_device.specs.FlashBlocks.{flash_size}
use Rattle.flash_device.specs.FlashCalls.{AreFilled, IsThere, SameElsewhere}
use Rattle.flash_device.specs.FlashLogs.{find, holds, is_marked, slot_of}
use Rattle.flash_device.specs.laws.Finding.{find-tells, index-image, length-image}
use Rattle.flash_device.specs.laws.Indexing.{find_most}
use Rattle.flash_device.specs.laws.Rising.{rises_to}
use Rattle.spare_sectors.specs.SparePlaces.{TakesLog, all_sectors, cell_of, lies_in, part_start, sector_of}
use Rattle.spare_sectors.specs.SparePlaces.{spare_words}
use Rattle.spare_sectors.specs.laws.SpareParts.{IsIn, lies_in_part, parts_rise, parts_small, start_last}

-- a place of a sector is none of another
blocks_below : (size p q x : ℕ) → p < q → x < size * p + size → x < size * q
blocks_below size p q x lt within =
    let more = mul-suc size p in let up : suc p ≤ q = omega (arith, lt) in
    let le = mul-le-mul_left size up in omega (arith, more, le, within)

pub blocks_apart : (size p q x : ℕ) → p ≢ q → size * p ≤ x → x < size * p + size
    → (x < size * q) ⊎ (size * q + size ≤ x)
blocks_apart size p q x other low high = ⊎_elim
    (λ (e : p ≡ q). absurd (other e))
    (λ (apart : (p < q) ⊎ (q < p)). ⊎_elim
    (λ (b : p < q). inl (blocks_below size p q x b high))
    (λ (a : q < p). let more = mul-suc size q in let up : suc q ≤ p = omega (arith, a) in
    let le = mul-le-mul_left size up in let x : size * q + size ≤ x = omega (arith, more, le, low) in inr x) apart)
    (cases_order p q)

-- an entry that names a sector has its number
and_right : (a b : Bool) → a && b ≡ true → b ≡ true
and_right true b h = h
and_right false b h = absurd (true≢false (sym h))

held_number : (m : List ℕ) (k s : ℕ) → holds m 0 k s ≡ true → slice_index m (slot_of 0 k + 16) ≡ s
held_number m k s h = eqb-true (slice_index m (slot_of 0 k + 16)) s
    (and_right (is_marked m (slot_of 0 k + 18)) (nat_eq (slice_index m (slot_of 0 k + 16)) s) h)

module _ (sectors spares : ℕ) (map : List ℕ) where
  -- where a sector lies, by what is found
  pub lies_own : (s : ℕ) → find map 0 spares s ≡ 0 → lies_in sectors spares map s ≡ s
  unfolding lies_in
  lies_own s e = ap (λ (f : ℕ). if nat_eq f 0 then s else 2 * sectors + f) e

  pub lies_spare : (s k : ℕ) → find map 0 spares s ≡ suc k → lies_in sectors spares map s ≡ 2 * sectors + suc k
  unfolding lies_in
  lies_spare s k e =
      let some : nat_eq (suc k) 0 ≡ false = ne_eqb (suc k) 0 (λ z. absurd (omega (arith, z))) in
      ap (λ (f : ℕ). if nat_eq f 0 then s else 2 * sectors + f) e
      ∙ ap (λ (b : Bool). if b then s else 2 * sectors + suc k) some

  pub lies_within : (s : ℕ) → s ≤ 2 * sectors → lies_in sectors spares map s < all_sectors sectors spares
  lies_within s le = by_found (find map 0 spares s) refl
    where
      by_found : (f : ℕ) → find map 0 spares s ≡ f → lies_in sectors spares map s < all_sectors sectors spares
      by_found zero e = let x = lies_own s e in omega (arith, x, le)
      by_found (suc k) e = let x = lies_spare s k e in let y = find_most map 0 spares s in omega (arith, x, y, e)

  -- no two sectors lie in one place
  pub lie_apart : (s t : ℕ) → s ≤ 2 * sectors → t ≤ 2 * sectors → s ≢ t
      → lies_in sectors spares map s ≢ lies_in sectors spares map t
  lie_apart s t le most other = by_found (find map 0 spares s) (find map 0 spares t) refl refl
    where
      by_found : (f h : ℕ) → find map 0 spares s ≡ f → find map 0 spares t ≡ h
          → lies_in sectors spares map s ≢ lies_in sectors spares map t
      by_found zero zero e g = λ same. other (sym (lies_own s e) ∙ same ∙ lies_own t g)
      by_found zero (suc j) e g = λ same. let x = sym (lies_own s e) ∙ same ∙ lies_spare t j g in
          absurd (omega (arith, x, le))
      by_found (suc k) zero e g = λ same. let x = sym (lies_spare s k e) ∙ same ∙ lies_own t g in
          absurd (omega (arith, x, most))
      by_found (suc k) (suc j) e g = λ same.
          let x = sym (lies_spare s k e) ∙ same ∙ lies_spare t j g in
          let one : k ≡ j = omega (arith, x) in
          other (sym (held_number map k s (find-tells map 0 spares s k e).held)
          ∙ ap (λ (i : ℕ). slice_index map (slot_of 0 i + 16)) one
          ∙ held_number map j t (find-tells map 0 spares t j g).held)

module _ (slots sectors each size spares : ℕ) where
  pub length-spare_words : (m map : List ℕ) → length (spare_words slots sectors each size spares m map) ≡ flash_size
      slots
  unfolding spare_words
  length-spare_words m map =
      length-image (λ a. slice_index m (cell_of slots sectors each size spares map a)) 0 (flash_size slots)

  pub index-spare_words : (m map : List ℕ) (a : ℕ) → a < flash_size slots
      → slice_index (spare_words slots sectors each size spares m map) a
      ≡ slice_index m (cell_of slots sectors each size spares map a)
  unfolding spare_words
  index-spare_words m map a lt =
      let f : ℕ → ℕ = λ n. slice_index m (cell_of slots sectors each size spares map n) in
      let z : 0 + a ≡ a = omega arith in index-image f 0 (flash_size slots) a lt ∙ ap f z

  no-spare_word : (m map : List ℕ) (a : ℕ) → flash_size slots ≤ a
      → slice_index (spare_words slots sectors each size spares m map) a ≡ 0
  no-spare_word m map a ge = let all = length-spare_words m map in
      let past : length (spare_words slots sectors each size spares m map) ≤ a = omega (arith, all, ge) in
      get_or_past (spare_words slots sectors each size spares m map) a 0 past

  word_fits : (m : List ℕ) (i : ℕ) → AreWords m → slice_index m i < 2 ^ 32
  word_fits m i all = ⊎_elim
      (λ (inside : i < length m). All-get_or (λ w. w < 2 ^ 32) m i 0 inside all)
      (λ (past : length m ≤ i). let none = get_or_past m i 0 past in omega (arith, none))
      (cases_lt i (length m))

  -- the words of the log have 32 bits, since those of the device do
  pub spare_words_fit : (m map : List ℕ) → AreWords m → AreWords (spare_words slots sectors each size spares m map)
  spare_words_fit m map all =
      All-from_get_or (λ w. w < 2 ^ 32) (spare_words slots sectors each size spares m map) 0 (λ a lt.
      let inside : a < flash_size slots = let n = length-spare_words m map in omega (arith, lt, n) in
      subst (λ (w : ℕ). w < 2 ^ 32) (sym (index-spare_words m map a inside))
      (word_fits m (cell_of slots sectors each size spares map a) all))

  module _ (takes : TakesLog slots sectors each size spares) where
    -- a word lies in its sector of the device
    record IsCell (map : List ℕ) (a : ℕ) : Type 0 where
      pub low : size * lies_in sectors spares map (sector_of slots sectors each a)
          ≤ cell_of slots sectors each size spares map a
      pub high : cell_of slots sectors each size spares map a
          < size * lies_in sectors spares map (sector_of slots sectors each a) + size

    cell_in : (map : List ℕ) (a : ℕ) → a < flash_size slots → IsCell map a
    cell_in map a lt =
        let is = lies_in_part slots sectors each size spares takes a lt in
        let low = is.low in let high = is.high in
        let small = parts_small slots sectors each size spares takes (sector_of slots sectors each a) in
        record { low = omega arith; high = omega (arith, low, high, small) }

    -- all places of a sector are there
    pub block_within : (l i : ℕ) → l < all_sectors sectors spares → i ≤ size * l + size
        → i ≤ size * all_sectors sectors spares
    block_within l i lt high =
        let up : suc l ≤ all_sectors sectors spares = omega (arith, lt) in
        let more = mul-suc size l in let le = mul-le-mul_left size up in omega (arith, high, more, le)

    pub cell_within : (map : List ℕ) (a : ℕ) → a < flash_size slots
        → cell_of slots sectors each size spares map a < size * all_sectors sectors spares
    cell_within map a lt =
        let is = lies_in_part slots sectors each size spares takes a lt in
        let l = lies_in sectors spares map (sector_of slots sectors each a) in
        let high = (cell_in map a lt).high in
        let x = block_within l (cell_of slots sectors each size spares map a + 1)
        (lies_within sectors spares map (sector_of slots sectors each a) is.most) (omega (arith, high)) in
        omega (arith, x)

    -- the sector of a word is the only one that it lies in
    only_part : (a s : ℕ) → a < flash_size slots → part_start slots sectors each s ≤ a
        → a < part_start slots sectors each (s + 1) → sector_of slots sectors each a ≡ s
    only_part a s lt low high = ⊎_elim
        (λ (e : t ≡ s). e)
        (λ (apart : (t < s) ⊎ (s < t)). ⊎_elim
        (λ (b : t < s). let up = rises_to start rise (t + 1) s (omega (arith, b)) in let past = is.high in
        absurd (omega (arith, up, past, low)))
        (λ (b : s < t). let up = rises_to start rise (s + 1) t (omega (arith, b)) in let past = is.low in
        absurd (omega (arith, up, past, high))) apart)
        (cases_order t s)
      where
        t : ℕ
        t = sector_of slots sectors each a

        start : ℕ → ℕ
        start = part_start slots sectors each

        rise : (n : ℕ) → start n ≤ start (n + 1)
        rise = parts_rise slots sectors each size spares takes

        is : IsIn slots sectors each size spares takes a (sector_of slots sectors each a)
        is = lies_in_part slots sectors each size spares takes a lt

    -- One sector of the log may lie elsewhere, and one of the device changed, where no other sector of the log lies.
    module _ (m after map moved : List ℕ) (s q : ℕ) (most : s ≤ 2 * sectors)
        (change : SameElsewhere m (size * q) size after) where
      pub moved_elsewhere : ((t : ℕ) → t ≤ 2 * sectors → t ≢ s
          → lies_in sectors spares moved t ≡ lies_in sectors spares map t)
          → ((t : ℕ) → t ≤ 2 * sectors → t ≢ s → lies_in sectors spares map t ≢ q)
          → SameElsewhere (spare_words slots sectors each size spares m map) (part_start slots sectors each s)
          (part_start slots sectors each (s + 1) - part_start slots sectors each s)
          (spare_words slots sectors each size spares after moved)
      moved_elsewhere stays apart = record {
        same = λ a out. ⊎_elim
            (λ (lt : a < flash_size slots).
            let t = sector_of slots sectors each a in
            let is = lies_in_part slots sectors each size spares takes a lt in
            let other : t ≢ s = λ e.
            let low : part_start slots sectors each s ≤ a =
            subst (λ (n : ℕ). part_start slots sectors each n ≤ a) e is.low in
            let high : a < part_start slots sectors each (s + 1) =
            subst (λ (n : ℕ). a < part_start slots sectors each (n + 1)) e is.high in
            ⊎_elim
            (λ (before : a < part_start slots sectors each s). absurd (omega (arith, before, low)))
            (λ (past : part_start slots sectors each s
            + (part_start slots sectors each (s + 1) - part_start slots sectors each s) ≤ a).
            absurd (omega (arith, past, high))) out in
            let cell = cell_in map a lt in
            index-spare_words after moved a lt
            ∙ ap (λ (l : ℕ). slice_index after (size * l + (a - part_start slots sectors each t)))
            (stays t is.most other)
            ∙ change.same (cell_of slots sectors each size spares map a)
            (blocks_apart size (lies_in sectors spares map t) q (cell_of slots sectors each size spares map a)
            (apart t is.most other) cell.low cell.high)
            ∙ sym (index-spare_words m map a lt))
            (λ (past : flash_size slots ≤ a). no-spare_word after moved a past ∙ sym (no-spare_word m map a past))
            (cases_lt a (flash_size slots));
      }

      pub moved_filled : (word : ℕ) → lies_in sectors spares moved s ≡ q → AreFilled after (size * q) size word
          → AreFilled (spare_words slots sectors each size spares after moved) (part_start slots sectors each s)
          (part_start slots sectors each (s + 1) - part_start slots sectors each s) word
      moved_filled word here all = record {
        each = λ k lt.
            let a = part_start slots sectors each s + k in
            let up = rises_to (part_start slots sectors each) (parts_rise slots sectors each size spares takes) (s +
            1)
            (2 * sectors + 1) (omega (arith, most)) in
            let end = start_last slots sectors each size spares takes in
            let high : a < part_start slots sectors each (s + 1) = omega (arith, lt) in
            let inside : a < flash_size slots = omega (arith, high, up, end) in
            let is = only_part a s inside (omega arith) high in
            let small = parts_small slots sectors each size spares takes s in
            let off : a - part_start slots sectors each s ≡ k = omega arith in
            index-spare_words after moved a inside
            ∙ ap (λ (n : ℕ). slice_index after (size * lies_in sectors spares moved n
            + (a - part_start slots sectors each n))) is
            ∙ ap₂ (λ (l j : ℕ). slice_index after (size * l + j)) here off
            ∙ all.each k (omega (arith, lt, small));
      }

    -- A run in one sector.
    module _ (map : List ℕ) (at n : ℕ) (fits : at + n ≤ flash_size slots)
        (run : (k : ℕ) → k < n → sector_of slots sectors each (at + k) ≡ sector_of slots sectors each at) where
      cell_run : (k : ℕ) → k < n
          → cell_of slots sectors each size spares map (at + k) ≡ cell_of slots sectors each size spares map at + k
      cell_run k lt =
          let is = lies_in_part slots sectors each size spares takes at (omega (arith, fits, lt)) in
          let low = is.low in
          let off : at + k - part_start slots sectors each (sector_of slots sectors each at)
          ≡ at - part_start slots sectors each (sector_of slots sectors each at) + k = omega (arith, low) in
          let sum : size * lies_in sectors spares map (sector_of slots sectors each at)
          + (at - part_start slots sectors each (sector_of slots sectors each at) + k)
          ≡ cell_of slots sectors each size spares map at + k = omega arith in
          ap (λ (s : ℕ). size * lies_in sectors spares map s + (at + k - part_start slots sectors each s)) (run k lt)
          ∙ ap (λ (j : ℕ). size * lies_in sectors spares map (sector_of slots sectors each at) + j) off ∙ sum

      word_run : (m : List ℕ) (k : ℕ) → k < n
          → slice_index (spare_words slots sectors each size spares m map) (at + k)
          ≡ slice_index m (cell_of slots sectors each size spares map at + k)
      word_run m k lt = index-spare_words m map (at + k) (omega (arith, fits, lt))
          ∙ ap (slice_index m) (cell_run k lt)

      pub run_blank : (m : List ℕ) (word : ℕ) → AreFilled (spare_words slots sectors each size spares m map) at n word
          → AreFilled m (cell_of slots sectors each size spares map at) n word
      run_blank m word all = record { each = λ k lt. sym (word_run m k lt) ∙ all.each k lt }

      pub run_there : (m words : List ℕ) → length words ≡ n
          → IsThere m (cell_of slots sectors each size spares map at) words
          → IsThere (spare_words slots sectors each size spares m map) at words
      run_there m words is there = record {
        each = λ k lt. word_run m k (omega (arith, lt, is)) ∙ there.each k lt;
      }

      -- the last word of it lies in the sector too
      run_high : 0 < n → cell_of slots sectors each size spares map at + n
          ≤ size * lies_in sectors spares map (sector_of slots sectors each at) + size
      run_high some =
          let last : n - 1 < n = omega (arith, some) in
          let e = cell_run (n - 1) last in
          let cell = cell_in map (at + (n - 1)) (omega (arith, fits, some)) in
          let high = subst (λ (s : ℕ). cell_of slots sectors each size spares map (at + (n - 1))
          < size * lies_in sectors spares map s + size) (run (n - 1) last) cell.high in
          omega (arith, e, high, some)

      pub run_within : 0 < n → cell_of slots sectors each size spares map at + n ≤ size * all_sectors sectors spares
      run_within some =
          let high = run_high some in
          let is = lies_in_part slots sectors each size spares takes at (omega (arith, fits, some)) in
          let lt = lies_within sectors spares map (sector_of slots sectors each at) is.most in
          let up : suc (lies_in sectors spares map (sector_of slots sectors each at)) ≤ all_sectors sectors spares =
          omega (arith, lt) in
          let more = mul-suc size (lies_in sectors spares map (sector_of slots sectors each at)) in
          let le = mul-le-mul_left size up in omega (arith, high, more, le)

      pub run_elsewhere : (m after : List ℕ) → 0 < n
          → SameElsewhere m (cell_of slots sectors each size spares map at) n after
          → SameElsewhere (spare_words slots sectors each size spares m map) at n
          (spare_words slots sectors each size spares after map)
      run_elsewhere m after some change = record {
        same = λ a out. ⊎_elim
            (λ (lt : a < flash_size slots).
            index-spare_words after map a lt
            ∙ change.same (cell_of slots sectors each size spares map a) (run_out a lt out)
            ∙ sym (index-spare_words m map a lt))
            (λ (past : flash_size slots ≤ a). no-spare_word after map a past ∙ sym (no-spare_word m map a past))
            (cases_lt a (flash_size slots));
      }
        where
          p : ℕ
          p = cell_of slots sectors each size spares map at

          s : ℕ
          s = sector_of slots sectors each at

          first : at < flash_size slots
          first = omega (arith, fits, some)

          one_sector : (a : ℕ) → a < flash_size slots → (a < at) ⊎ (at + n ≤ a) → sector_of slots sectors each a ≡ s
              → (cell_of slots sectors each size spares map a < p) ⊎ (p + n ≤ cell_of slots sectors each size spares
              map a)
          one_sector a lt out e =
              let x = ap (λ (t : ℕ). size * lies_in sectors spares map t + (a - part_start slots sectors each t)) e in
              let here = lies_in_part slots sectors each size spares takes at first in
              let there = lies_in_part slots sectors each size spares takes a lt in
              let low = here.low in
              let low_2 = subst (λ (t : ℕ). part_start slots sectors each t ≤ a) e there.low in
              ⊎_elim
              (λ (before : a < at).
              let is : cell_of slots sectors each size spares map a < p = omega (arith, x, before, low, low_2) in inl
              is)
              (λ (past : at + n ≤ a).
              let is : p + n ≤ cell_of slots sectors each size spares map a = omega (arith, x, past, low, low_2) in
              inr is) out

          run_out : (a : ℕ) → a < flash_size slots → (a < at) ⊎ (at + n ≤ a)
              → (cell_of slots sectors each size spares map a < p) ⊎ (p + n ≤ cell_of slots sectors each size spares
              map a)
          run_out a lt out = ⊎_elim
              (λ (e : sector_of slots sectors each a ≡ s). one_sector a lt out e)
              (λ (other : sector_of slots sectors each a ≢ s).
              let here = lies_in_part slots sectors each size spares takes at first in
              let there = lies_in_part slots sectors each size spares takes a lt in
              let cell = cell_in map a lt in
              let low = (cell_in map at first).low in
              let high = run_high some in
              ⊎_elim
              (λ (before : cell_of slots sectors each size spares map a < size * lies_in sectors spares map s).
              let is : cell_of slots sectors each size spares map a < p = omega (arith, before, low) in inl is)
              (λ (past : size * lies_in sectors spares map s + size ≤ cell_of slots sectors each size spares map a).
              let is : p + n ≤ cell_of slots sectors each size spares map a = omega (arith, past, high) in inr is)
              (blocks_apart size (lies_in sectors spares map (sector_of slots sectors each a))
              (lies_in sectors spares map s) (cell_of slots sectors each size spares map a)
              (lie_apart sectors spares map (sector_of slots sectors each a) s there.most here.most other)
              cell.low cell.high))
              (cases_eq (sector_of slots sectors each a) s)
