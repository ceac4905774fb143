-- Laws of the words of a log on a device with program units.
use Rattle.std.specs.Prelude.{◌≡◌, ◌<◌, ◌≤◌, ◌+◌, ◌-◌, ◌^◌, ℕ, Bool, true, false, List, length, slice_index}
use Rattle.std.specs.Prelude.{◌&&◌, not, nat_le, if◌then◌else◌}
use Rattle.std.proofs.Common.{sym, ◌∙◌, ap, subst, ⊎_elim, arith}
use Rattle.std.proofs.lemmas.Bool.{cases_lt}
use Rattle.std.proofs.lemmas.List.{get_or_past}
use Rattle.std.proofs.lemmas.List.Elements.{All-get_or, All-from_get_or}
use Rattle.nvm_board.specs.Facts.{AreWords}
use Rattle.flash_device.specs.FlashBlocks.{flash_size}
use Rattle.flash_device.specs.laws.Finding.{length-image, index-image}
use Rattle.program_units.specs.UnitFrames.{frame_of, place_in, rank_of}
use Rattle.program_units.specs.UnitWords.{frame_word, is_blank_run, rest_at, unit_words}

module _ (unit slots : ℕ) where
  pub length-unit_words : (m : List ℕ) → length (unit_words unit slots m) ≡ flash_size slots
  unfolding unit_words
  length-unit_words m =
      length-image (λ a. frame_word unit m (frame_of slots a) (rank_of slots a)) 0 (flash_size slots)

  pub index-unit_words : (m : List ℕ) (a : ℕ) → a < flash_size slots
      → slice_index (unit_words unit slots m) a ≡ frame_word unit m (frame_of slots a) (rank_of slots a)
  unfolding unit_words
  index-unit_words m a lt =
      let f : ℕ → ℕ = λ n. frame_word unit m (frame_of slots n) (rank_of slots n) in
      let z : 0 + a ≡ a = omega arith in index-image f 0 (flash_size slots) a lt ∙ ap f z

  -- there are no others
  pub no-unit_word : (m : List ℕ) (a : ℕ) → flash_size slots ≤ a → slice_index (unit_words unit slots m) a ≡ 0
  no-unit_word m a ge = let all = length-unit_words m in
      let past : length (unit_words unit slots m) ≤ a = omega (arith, all, ge) in
      get_or_past (unit_words unit slots m) a 0 past

  frame_word_fits : (m : List ℕ) (frame rank : ℕ) → AreWords m → frame_word unit m frame rank < 2 ^ 32
  unfolding frame_word
  frame_word_fits m frame rank all = by_test (nat_le 16 rank && not (is_blank_run m (rest_at frame rank) (unit - 2)))
    where
      fits : slice_index m (place_in frame rank) < 2 ^ 32
      fits = ⊎_elim
          (λ (inside : place_in frame rank < length m).
          All-get_or (λ w. w < 2 ^ 32) m (place_in frame rank) 0 inside all)
          (λ (past : length m ≤ place_in frame rank).
          let none = get_or_past m (place_in frame rank) 0 past in omega (arith, none))
          (cases_lt (place_in frame rank) (length m))

      by_test : (b : Bool) → (if b then 0 else slice_index m (place_in frame rank)) < 2 ^ 32
      by_test true = omega arith
      by_test false = fits

  -- the words of the log have 32 bits, since those of the device do
  pub unit_words_fit : (m : List ℕ) → AreWords m → AreWords (unit_words unit slots m)
  unit_words_fit m all = All-from_get_or (λ w. w < 2 ^ 32) (unit_words unit slots m) 0 (λ a lt.
      let inside : a < flash_size slots = let n = length-unit_words m in omega (arith, lt, n) in
      subst (λ (w : ℕ). w < 2 ^ 32) (sym (index-unit_words m a inside))
      (frame_word_fits m (frame_of slots a) (rank_of slots a) all))
