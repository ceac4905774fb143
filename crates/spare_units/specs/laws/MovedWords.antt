-- Laws of words in sectors that may lie in spare ones.
use Rattle.std.specs.Prelude.{◌≡◌, ◌≢◌, ◌⊎◌, ◌<◌, ◌≤◌, ◌+◌, ◌-◌, ◌*◌, ◌^◌, ℕ, suc, List}
use Rattle.std.specs.Prelude.{length, slice_index}
use Rattle.std.proofs.Common.{refl, sym, ◌∙◌, ap, ap₂, inl, inr, subst, ⊎_elim, arith}
use Rattle.std.proofs.Math.Nat.{mul-le-mul_left, mul-suc}
use Rattle.std.proofs.lemmas.Bool.{cases_eq, cases_lt, cases_order}
use Rattle.std.proofs.lemmas.List.{ext_get_or, get_or_past}
use Rattle.std.proofs.lemmas.List.Elements.{All-get_or, All-from_get_or}
use Rattle.nvm_board.specs.Facts.{AreWords}
use Rattle.flash_device.specs.FlashCalls.{AreFilled, IsThere, SameElsewhere}
use Rattle.flash_device.specs.FlashLogs.{find}
use Rattle.flash_device.specs.PageTables.{AreFree}
use Rattle.flash_device.specs.laws.Finding.{index-image, length-image}
use Rattle.flash_device.specs.laws.Rising.{rises_to}
use Rattle.spare_units.specs.MovedSectors.{IsLayout, moved_cell, moved_words}
use Rattle.spare_sectors.specs.SpareMaps.{MovesOnly}
use Rattle.spare_sectors.specs.SparePlaces.{all_sectors, lies_in}
use Rattle.spare_sectors.specs.laws.SpareImages.{blocks_apart, lie_apart, lies_within}
use Rattle.spare_sectors.specs.laws.SpareSteps.{free_apart, lies_same, lies_stays, lies_taken}

module _ (sector start : ℕ → ℕ) (total size sectors spares : ℕ) where
  pub length-moved_words : (m map : List ℕ) → length (moved_words sector start total size sectors spares m map) ≡ total
  unfolding moved_words
  length-moved_words m map =
      length-image (λ a. slice_index m (moved_cell sector start size sectors spares map a)) 0 total

  pub index-moved_words : (m map : List ℕ) (a : ℕ) → a < total
      → slice_index (moved_words sector start total size sectors spares m map) a
      ≡ slice_index m (moved_cell sector start size sectors spares map a)
  unfolding moved_words
  index-moved_words m map a lt =
      let f : ℕ → ℕ = λ n. slice_index m (moved_cell sector start size sectors spares map n) in
      let z : 0 + a ≡ a = omega arith in index-image f 0 total a lt ∙ ap f z

  no-moved_word : (m map : List ℕ) (a : ℕ) → total ≤ a
      → slice_index (moved_words sector start total size sectors spares m map) a ≡ 0
  no-moved_word m map a ge = let all = length-moved_words m map in
      let past : length (moved_words sector start total size sectors spares m map) ≤ a = omega (arith, all, ge) in
      get_or_past (moved_words sector start total size sectors spares m map) a 0 past

  word_fits : (m : List ℕ) (i : ℕ) → AreWords m → slice_index m i < 2 ^ 32
  word_fits m i all = ⊎_elim
      (λ (inside : i < length m). All-get_or (λ w. w < 2 ^ 32) m i 0 inside all)
      (λ (past : length m ≤ i). let none = get_or_past m i 0 past in omega (arith, none))
      (cases_lt i (length m))

  -- the words of the log have 32 bits, since those of the device do
  pub moved_words_fit : (m map : List ℕ) → AreWords m → AreWords (moved_words sector start total size sectors spares m
      map)
  moved_words_fit m map all =
      All-from_get_or (λ w. w < 2 ^ 32) (moved_words sector start total size sectors spares m map) 0 (λ a lt.
      let inside : a < total = let n = length-moved_words m map in omega (arith, lt, n) in
      subst (λ (w : ℕ). w < 2 ^ 32) (sym (index-moved_words m map a inside))
      (word_fits m (moved_cell sector start size sectors spares map a) all))

  module _ (lay : IsLayout sector start total size sectors) where
    -- A word lies in its sector.
    record LiesIn (a s : ℕ) : Type 0 where
      pub most : s ≤ 2 * sectors
      pub low : start s ≤ a
      pub high : a < start (s + 1)

    lies_here : (a : ℕ) → a < total → LiesIn a (sector a)
    lies_here a lt = record { most = lay.most a lt; low = lay.low a lt; high = lay.high a lt }

    -- a word lies in its sector of the device
    record IsCell (map : List ℕ) (a : ℕ) : Type 0 where
      pub low : size * lies_in sectors spares map (sector a)
          ≤ moved_cell sector start size sectors spares map a
      pub high : moved_cell sector start size sectors spares map a
          < size * lies_in sectors spares map (sector a) + size

    cell_in : (map : List ℕ) (a : ℕ) → a < total → IsCell map a
    cell_in map a lt =
        let is = lies_here a lt in
        let low = is.low in let high = is.high in
        let small = lay.small (sector a) in
        record { low = omega arith; high = omega (arith, low, high, small) }

    -- all places of a sector are there
    pub block_within : (l i : ℕ) → l < all_sectors sectors spares → i ≤ size * l + size
        → i ≤ size * all_sectors sectors spares
    block_within l i lt high =
        let up : suc l ≤ all_sectors sectors spares = omega (arith, lt) in
        let more = mul-suc size l in let le = mul-le-mul_left size up in omega (arith, high, more, le)

    pub cell_within : (map : List ℕ) (a : ℕ) → a < total
        → moved_cell sector start size sectors spares map a < size * all_sectors sectors spares
    cell_within map a lt =
        let is = lies_here a lt in
        let l = lies_in sectors spares map (sector a) in
        let high = (cell_in map a lt).high in
        let x = block_within l (moved_cell sector start size sectors spares map a + 1)
        (lies_within sectors spares map (sector a) is.most) (omega (arith, high)) in
        omega (arith, x)

    -- the sector of a word is the only one that it lies in
    only_part : (a s : ℕ) → a < total → start s ≤ a
        → a < start (s + 1) → sector a ≡ s
    only_part a s lt low high = ⊎_elim
        (λ (e : t ≡ s). e)
        (λ (apart : (t < s) ⊎ (s < t)). ⊎_elim
        (λ (b : t < s). let up = rises_to start lay.rise (t + 1) s (omega (arith, b)) in let past = is.high in
        absurd (omega (arith, up, past, low)))
        (λ (b : s < t). let up = rises_to start lay.rise (s + 1) t (omega (arith, b)) in let past = is.low in
        absurd (omega (arith, up, past, high))) apart)
        (cases_order t s)
      where
        t : ℕ
        t = sector a

        is : LiesIn a (sector a)
        is = lies_here a lt

    -- One sector of the log may lie elsewhere, and one of the device changed, where no other sector of the log lies.
    module _ (m after map moved : List ℕ) (s q : ℕ) (most : s ≤ 2 * sectors)
        (change : SameElsewhere m (size * q) size after) where
      pub moved_elsewhere : ((t : ℕ) → t ≤ 2 * sectors → t ≢ s
          → lies_in sectors spares moved t ≡ lies_in sectors spares map t)
          → ((t : ℕ) → t ≤ 2 * sectors → t ≢ s → lies_in sectors spares map t ≢ q)
          → SameElsewhere (moved_words sector start total size sectors spares m map) (start s)
          (start (s + 1) - start s)
          (moved_words sector start total size sectors spares after moved)
      moved_elsewhere stays apart = record {
        same = λ a out. ⊎_elim
            (λ (lt : a < total).
            let t = sector a in
            let is = lies_here a lt in
            let other : t ≢ s = λ e.
            let low : start s ≤ a =
            subst (λ (n : ℕ). start n ≤ a) e is.low in
            let high : a < start (s + 1) =
            subst (λ (n : ℕ). a < start (n + 1)) e is.high in
            ⊎_elim
            (λ (before : a < start s). absurd (omega (arith, before, low)))
            (λ (past : start s
            + (start (s + 1) - start s) ≤ a).
            absurd (omega (arith, past, high))) out in
            let cell = cell_in map a lt in
            index-moved_words after moved a lt
            ∙ ap (λ (l : ℕ). slice_index after (size * l + (a - start t)))
            (stays t is.most other)
            ∙ change.same (moved_cell sector start size sectors spares map a)
            (blocks_apart size (lies_in sectors spares map t) q (moved_cell sector start size sectors spares map a)
            (apart t is.most other) cell.low cell.high)
            ∙ sym (index-moved_words m map a lt))
            (λ (past : total ≤ a). no-moved_word after moved a past ∙ sym (no-moved_word m map a past))
            (cases_lt a total);
      }

      pub moved_filled : (word : ℕ) → lies_in sectors spares moved s ≡ q → AreFilled after (size * q) size word
          → AreFilled (moved_words sector start total size sectors spares after moved) (start s)
          (start (s + 1) - start s) word
      moved_filled word here all = record {
        each = λ k lt.
            let a = start s + k in
            let up = rises_to start lay.rise (s +
            1)
            (2 * sectors + 1) (omega (arith, most)) in
            let end = lay.last in
            let high : a < start (s + 1) = omega (arith, lt) in
            let inside : a < total = omega (arith, high, up, end) in
            let is = only_part a s inside (omega arith) high in
            let small = lay.small s in
            let off : a - start s ≡ k = omega arith in
            index-moved_words after moved a inside
            ∙ ap (λ (n : ℕ). slice_index after (size * lies_in sectors spares moved n
            + (a - start n))) is
            ∙ ap₂ (λ (l j : ℕ). slice_index after (size * l + j)) here off
            ∙ all.each k (omega (arith, lt, small));
      }

    -- A run in one sector.
    module _ (map : List ℕ) (at n : ℕ) (fits : at + n ≤ total)
        (run : (k : ℕ) → k < n → sector (at + k) ≡ sector at) where
      cell_run : (k : ℕ) → k < n
          → moved_cell sector start size sectors spares map (at + k)
          ≡ moved_cell sector start size sectors spares map at + k
      cell_run k lt =
          let is = lies_here at (omega (arith, fits, lt)) in
          let low = is.low in
          let off : at + k - start (sector at)
          ≡ at - start (sector at) + k = omega (arith, low) in
          let sum : size * lies_in sectors spares map (sector at)
          + (at - start (sector at) + k)
          ≡ moved_cell sector start size sectors spares map at + k = omega arith in
          ap (λ (s : ℕ). size * lies_in sectors spares map s + (at + k - start s)) (run k lt)
          ∙ ap (λ (j : ℕ). size * lies_in sectors spares map (sector at) + j) off ∙ sum

      word_run : (m : List ℕ) (k : ℕ) → k < n
          → slice_index (moved_words sector start total size sectors spares m map) (at + k)
          ≡ slice_index m (moved_cell sector start size sectors spares map at + k)
      word_run m k lt = index-moved_words m map (at + k) (omega (arith, fits, lt))
          ∙ ap (slice_index m) (cell_run k lt)

      pub run_blank : (m : List ℕ) (word : ℕ) → AreFilled (moved_words sector start total size sectors spares m map)
          at n word
          → AreFilled m (moved_cell sector start size sectors spares map at) n word
      run_blank m word all = record { each = λ k lt. sym (word_run m k lt) ∙ all.each k lt }

      pub run_filled : (m : List ℕ) (word : ℕ) → AreFilled m (moved_cell sector start size sectors spares map at) n
          word
          → AreFilled (moved_words sector start total size sectors spares m map) at n word
      run_filled m word all = record { each = λ k lt. word_run m k lt ∙ all.each k lt }

      pub run_there : (m words : List ℕ) → length words ≡ n
          → IsThere m (moved_cell sector start size sectors spares map at) words
          → IsThere (moved_words sector start total size sectors spares m map) at words
      run_there m words is there = record {
        each = λ k lt. word_run m k (omega (arith, lt, is)) ∙ there.each k lt;
      }

      -- the last word of it lies in the sector too
      run_high : 0 < n → moved_cell sector start size sectors spares map at + n
          ≤ size * lies_in sectors spares map (sector at) + size
      run_high some =
          let last : n - 1 < n = omega (arith, some) in
          let e = cell_run (n - 1) last in
          let cell = cell_in map (at + (n - 1)) (omega (arith, fits, some)) in
          let high = subst (λ (s : ℕ). moved_cell sector start size sectors spares map (at + (n - 1))
          < size * lies_in sectors spares map s + size) (run (n - 1) last) cell.high in
          omega (arith, e, high, some)

      pub run_within : 0 < n → moved_cell sector start size sectors spares map at + n ≤ size * all_sectors sectors
          spares
      run_within some =
          let high = run_high some in
          let is = lies_here at (omega (arith, fits, some)) in
          let lt = lies_within sectors spares map (sector at) is.most in
          let up : suc (lies_in sectors spares map (sector at)) ≤ all_sectors sectors spares =
          omega (arith, lt) in
          let more = mul-suc size (lies_in sectors spares map (sector at)) in
          let le = mul-le-mul_left size up in omega (arith, high, more, le)

      pub run_elsewhere : (m after : List ℕ) → 0 < n
          → SameElsewhere m (moved_cell sector start size sectors spares map at) n after
          → SameElsewhere (moved_words sector start total size sectors spares m map) at n
          (moved_words sector start total size sectors spares after map)
      run_elsewhere m after some change = record {
        same = λ a out. ⊎_elim
            (λ (lt : a < total).
            index-moved_words after map a lt
            ∙ change.same (moved_cell sector start size sectors spares map a) (run_out a lt out)
            ∙ sym (index-moved_words m map a lt))
            (λ (past : total ≤ a). no-moved_word after map a past ∙ sym (no-moved_word m map a past))
            (cases_lt a total);
      }
        where
          p : ℕ
          p = moved_cell sector start size sectors spares map at

          s : ℕ
          s = sector at

          first : at < total
          first = omega (arith, fits, some)

          one_sector : (a : ℕ) → a < total → (a < at) ⊎ (at + n ≤ a) → sector a ≡ s
              → (moved_cell sector start size sectors spares map a < p)
              ⊎ (p + n ≤ moved_cell sector start size sectors spares map a)
          one_sector a lt out e =
              let x = ap (λ (t : ℕ). size * lies_in sectors spares map t + (a - start t)) e in
              let here = lies_here at first in
              let there = lies_here a lt in
              let low = here.low in
              let low_2 = subst (λ (t : ℕ). start t ≤ a) e there.low in
              ⊎_elim
              (λ (before : a < at).
              let is : moved_cell sector start size sectors spares map a < p = omega (arith, x, before, low, low_2) in
              inl
              is)
              (λ (past : at + n ≤ a).
              let is : p + n ≤ moved_cell sector start size sectors spares map a = omega (arith, x, past, low, low_2)
              in
              inr is) out

          run_out : (a : ℕ) → a < total → (a < at) ⊎ (at + n ≤ a)
              → (moved_cell sector start size sectors spares map a < p)
              ⊎ (p + n ≤ moved_cell sector start size sectors spares map a)
          run_out a lt out = ⊎_elim
              (λ (e : sector a ≡ s). one_sector a lt out e)
              (λ (other : sector a ≢ s).
              let here = lies_here at first in
              let there = lies_here a lt in
              let cell = cell_in map a lt in
              let low = (cell_in map at first).low in
              let high = run_high some in
              ⊎_elim
              (λ (before : moved_cell sector start size sectors spares map a < size * lies_in sectors spares map s).
              let is : moved_cell sector start size sectors spares map a < p = omega (arith, before, low) in inl is)
              (λ (past : size * lies_in sectors spares map s + size ≤ moved_cell sector start size sectors spares map
              a).
              let is : p + n ≤ moved_cell sector start size sectors spares map a = omega (arith, past, high) in inr is)
              (blocks_apart size (lies_in sectors spares map (sector a))
              (lies_in sectors spares map s) (moved_cell sector start size sectors spares map a)
              (lie_apart sectors spares map (sector a) s there.most here.most other)
              cell.low cell.high))
              (cases_eq (sector a) s)

    -- an erase of a sector where it lies
    module _ (m after map : List ℕ) (s : ℕ) (most : s ≤ 2 * sectors)
        (change : SameElsewhere m (size * lies_in sectors spares map s) size after) where
      pub erased_elsewhere : SameElsewhere (moved_words sector start total size sectors spares m map) (start s)
          (start (s + 1) - start s) (moved_words sector start total size sectors spares after map)
      erased_elsewhere = moved_elsewhere m after map map s (lies_in sectors spares map s) most change
          (λ t le other. refl) (λ t le other. lie_apart sectors spares map t s le most other)

      pub erased_filled : (word : ℕ) → AreFilled after (size * lies_in sectors spares map s) size word
          → AreFilled (moved_words sector start total size sectors spares after map) (start s)
          (start (s + 1) - start s) word
      erased_filled word all = moved_filled m after map map s (lies_in sectors spares map s) most change word refl all

    -- a sector that moves to a spare
    module _ (m after map moved : List ℕ) (s entry : ℕ) (most : s ≤ 2 * sectors)
        (change : SameElsewhere m (size * (2 * sectors + 1 + entry)) size after) where
      pub taken_elsewhere : AreFree map 0 entry spares → entry < spares → MovesOnly spares map s moved
          → SameElsewhere (moved_words sector start total size sectors spares m map) (start s)
          (start (s + 1) - start s) (moved_words sector start total size sectors spares after moved)
      taken_elsewhere are below moves = moved_elsewhere m after map moved s (2 * sectors + 1 + entry) most change
          (λ t le other. lies_stays sectors spares map moved s t moves other)
          (λ t le other. free_apart sectors spares map entry t are below le)

      pub taken_filled : (word : ℕ) → find moved 0 spares s ≡ entry + 1
          → AreFilled after (size * (2 * sectors + 1 + entry)) size word
          → AreFilled (moved_words sector start total size sectors spares after moved) (start s)
          (start (s + 1) - start s) word
      taken_filled word found all = moved_filled m after map moved s (2 * sectors + 1 + entry) most change word
          (lies_taken sectors spares moved s entry found) all

      -- where each sector lies where it lay, all keep their words, though the spare changed
      pub words_stay : AreFree map 0 entry spares → entry < spares
          → ((t : ℕ) → find moved 0 spares t ≡ find map 0 spares t)
          → moved_words sector start total size sectors spares after moved
          ≡ moved_words sector start total size sectors spares m map
      words_stay are below found = ext_get_or 0 (moved_words sector start total size sectors spares after moved)
          (moved_words sector start total size sectors spares m map)
          (length-moved_words after moved ∙ sym (length-moved_words m map))
          (λ a lt.
          let n = length-moved_words after moved in
          let inside : a < total = omega (arith, lt, n) in
          let cell = cell_in map a inside in
          let apart = free_apart sectors spares map entry (sector a) are below (lay.most a inside) in
          index-moved_words after moved a inside
          ∙ ap (λ (l : ℕ). slice_index after (size * l + (a - start (sector a))))
          (lies_same sectors spares map moved (sector a) (found (sector a)))
          ∙ change.same (moved_cell sector start size sectors spares map a)
          (blocks_apart size (lies_in sectors spares map (sector a)) (2 * sectors + 1 + entry)
          (moved_cell sector start size sectors spares map a) apart cell.low cell.high)
          ∙ sym (index-moved_words m map a inside))
