-- Words of 32 bits stay such: after undo, and as data words.
use Rattle.std.proofs.Common.{◌==◌, ◌<◌, ◌+◌, ◌^◌, ℕ, zero, suc, Bool, true, false, List, [], ◌∷◌, length, slice_index}
use Rattle.std.proofs.Common.{get_or, sym, subst, inl, inr, arith}
use Rattle.std.specs.Prelude.{if◌then◌else◌}
use Rattle.std.proofs.lemmas.Bool.{cases_lt}
use Rattle.std.proofs.lemmas.List.{get_or_past}
use Rattle.nvm_board.specs.Facts.{AreWords}
use Rattle.undo_journal.specs.declared.layout.TheConstants.{GATE}
use Rattle.undo_journal.specs.Undo.{gate, pairs_from, earlier, by_address, undo, in_journal, data_words}

-- a word of the memory, and what is read past its end
pub word_fits : (m : List ℕ) (k : ℕ) → AreWords m → slice_index m k < 2 ^ 32
word_fits m k fit = elim (cases_lt k (length m)) [
  | inl within ↦ fit k 0 within
  | inr past ↦ let family : ℕ → Type 0 = λ w. w < 2 ^ 32 in
      let zero_fits : 0 < 2 ^ 32 = omega arith in
      subst family (sym (get_or_past m k 0 past)) zero_fits
]

-- one of two words
chosen-fits : (b : Bool) (v w : ℕ) → v < 2 ^ 32 → w < 2 ^ 32 → (if b then v else w) < 2 ^ 32
chosen-fits true v w first second = first
chosen-fits false v w first second = second

-- one more word, at the head
cons-fits : (w : ℕ) (m : List ℕ) → w < 2 ^ 32 → AreWords m → (k d : ℕ) → k < suc (length m)
    → get_or (w ∷ m) k d < 2 ^ 32
cons-fits w m first rest zero d lt = first
cons-fits w m first rest (suc k) d lt = let below : k < length m = omega arith in rest k d below

-- by address
by_address-fits : (f : ℕ → ℕ → ℕ) (a : ℕ) (m : List ℕ) → ((k w : ℕ) → w < 2 ^ 32 → f k w < 2 ^ 32) → AreWords m
    → AreWords (by_address f a m)
unfolding by_address
by_address-fits f a [] each fit = λ k d lt. absurd (omega arith)
by_address-fits f a (w ∷ m) each fit =
    let some : 0 < suc (length m) = omega arith in
    let rest : AreWords m = λ k d lt. let next : suc k < suc (length m) = omega arith in fit (suc k) d next in
    cons-fits (f a w) (by_address f (a + 1) m) (each a w (fit 0 0 some)) (by_address-fits f (a + 1) m each rest)

-- what a look-up among pairs of the memory gives
earlier-fits : (m : List ℕ) (i n a w : ℕ) → AreWords m → w < 2 ^ 32 → earlier (pairs_from m i n) a w < 2 ^ 32
unfolding earlier pairs_from
earlier-fits m i zero a w fit fits = fits
earlier-fits m i (suc n) a w fit fits = chosen-fits _ _ _ (word_fits m _ fit) (earlier-fits m (i + 1) n a w fit fits)

-- the words after undo
pub undo-fits : (m : List ℕ) → AreWords m → AreWords (undo m)
unfolding undo
undo-fits m fit =
    let zero_fits : 0 < 2 ^ 32 = omega arith in
    by_address-fits _ 0 m (λ k w fits. chosen-fits (k == GATE) _ _ zero_fits (earlier-fits m 0 (gate m) k w fit fits))
    fit

-- the data words
pub data_words-fits : (m : List ℕ) → AreWords m → AreWords (data_words m)
unfolding data_words
data_words-fits m fit =
    let zero_fits : 0 < 2 ^ 32 = omega arith in
    by_address-fits _ 0 m (λ k w fits. chosen-fits (in_journal k) _ _ zero_fits fits) fit
