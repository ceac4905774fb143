-- Laws of runs that are blank, and of the words of a frame.
use Rattle.std.specs.Prelude.{◌≡◌, ◌≢◌, ◌<◌, ◌≤◌, ◌+◌, ◌-◌, ℕ, zero, suc, Bool, true, false, List}
use Rattle.std.specs.Prelude.{◌&&◌, not, nat_eq, nat_le, slice_index, if◌then◌else◌}
use Rattle.std.proofs.Common.{refl, sym, ◌∙◌, ap, ap₂, ⊎_elim, arith, true≢false}
use Rattle.std.proofs.lemmas.Bool.{cases_lt, eq-eqb, eqb-true, le-leb, lt-leb}
use Rattle.flash_device.specs.declared.flash.TheConstants.{BLANK}
use Rattle.flash_device.specs.FlashCalls.{AreFilled}
use Rattle.program_units.specs.UnitFrames.{place_in}
use Rattle.program_units.specs.UnitWords.{frame_word, is_blank_run, rest_at}

ands : (a b : Bool) → a && b ≡ true → (a ≡ true) × (b ≡ true)
ands true true e = (refl, refl)
ands true false e = absurd (true≢false (sym e))
ands false b e = absurd (true≢false (sym e))

-- what the test says is so
pub blank_filled : (m : List ℕ) (at n : ℕ) → is_blank_run m at n ≡ true → AreFilled m at n BLANK
unfolding is_blank_run
blank_filled m at zero e = record { each = λ k lt. absurd (omega (arith, lt)) }
blank_filled m at (suc n) e =
    let both = ands (is_blank_run m at n) (nat_eq (slice_index m (at + n)) BLANK) e in record {
      each = λ k lt. ⊎_elim
          (λ (below : k < n). (blank_filled m at n both.0).each k below)
          (λ (last : n ≤ k). let here : k ≡ n = omega (arith, last, lt) in
          ap (λ (j : ℕ). slice_index m (at + j)) here ∙ eqb-true (slice_index m (at + n)) BLANK both.1)
          (cases_lt k n);
    }

pub filled_blank : (m : List ℕ) (at n : ℕ) → AreFilled m at n BLANK → is_blank_run m at n ≡ true
unfolding is_blank_run
filled_blank m at zero all = refl
filled_blank m at (suc n) all =
    ap₂ (λ (a b : Bool). a && b)
    (filled_blank m at n (record { each = λ k lt. all.each k (omega (arith, lt)) }))
    (eq-eqb (slice_index m (at + n)) BLANK (all.each n (omega arith)))

-- a word that is not blank
pub blank_fails : (m : List ℕ) (at n k : ℕ) → k < n → slice_index m (at + k) ≢ BLANK → is_blank_run m at n ≡ false
blank_fails m at n k lt other = by_test (is_blank_run m at n) refl
  where
    by_test : (b : Bool) → is_blank_run m at n ≡ b → is_blank_run m at n ≡ false
    by_test true e = absurd (other ((blank_filled m at n e).each k lt))
    by_test false e = e

-- the same words are blank or not alike
pub blank_run_same : (m after : List ℕ) (at n : ℕ)
    → ((k : ℕ) → k < n → slice_index after (at + k) ≡ slice_index m (at + k))
    → is_blank_run after at n ≡ is_blank_run m at n
unfolding is_blank_run
blank_run_same m after at zero same = refl
blank_run_same m after at (suc n) same =
    ap₂ (λ (a b : Bool). a && b)
    (blank_run_same m after at n (λ k lt. same k (omega (arith, lt))))
    (ap (λ (w : ℕ). nat_eq w BLANK) (same n (omega arith)))

pub frame_word_same : (unit : ℕ) (m after : List ℕ) (frame rank : ℕ)
    → slice_index after (place_in frame rank) ≡ slice_index m (place_in frame rank)
    → ((k : ℕ) → k < unit - 2
    → slice_index after (rest_at frame rank + k) ≡ slice_index m (rest_at frame rank + k))
    → frame_word unit after frame rank ≡ frame_word unit m frame rank
unfolding frame_word
frame_word_same unit m after frame rank word rest =
    ap₂ (λ (b : Bool) (w : ℕ). if nat_le 16 rank && not b then 0 else w)
    (blank_run_same m after (rest_at frame rank) (unit - 2) rest) word

-- a word whose unit is filled with blank ones
pub frame_word_there : (unit : ℕ) (m : List ℕ) (frame rank : ℕ) → AreFilled m (rest_at frame rank) (unit - 2) BLANK
    → frame_word unit m frame rank ≡ slice_index m (place_in frame rank)
unfolding frame_word
frame_word_there unit m frame rank rest =
    ap (λ (b : Bool). if nat_le 16 rank && not b then 0 else slice_index m (place_in frame rank))
    (filled_blank m (rest_at frame rank) (unit - 2) rest) ∙ never (nat_le 16 rank)
  where
    never : (b : Bool) → (if b && false then 0 else slice_index m (place_in frame rank))
        ≡ slice_index m (place_in frame rank)
    never true = refl
    never false = refl

-- a word of a record that no unit shares with what fills it
pub frame_word_plain : (unit : ℕ) (m : List ℕ) (frame rank : ℕ) → rank < 16
    → frame_word unit m frame rank ≡ slice_index m (place_in frame rank)
unfolding frame_word
frame_word_plain unit m frame rank lt =
    ap (λ (b : Bool). if b && not (is_blank_run m (rest_at frame rank) (unit - 2)) then 0
    else slice_index m (place_in frame rank)) (lt-leb 16 rank lt)

-- one whose unit is filled with garbage
pub frame_word_spoilt : (unit : ℕ) (m : List ℕ) (frame rank : ℕ) → 16 ≤ rank
    → is_blank_run m (rest_at frame rank) (unit - 2) ≡ false → frame_word unit m frame rank ≡ 0
unfolding frame_word
frame_word_spoilt unit m frame rank pair spoilt =
    ap₂ (λ (b c : Bool). if b && not c then 0 else slice_index m (place_in frame rank)) (le-leb 16 rank pair) spoilt

-- A word looks blank: it is, and so is the rest of its unit.
pub record IsBlankWord (unit : ℕ) (m : List ℕ) (frame rank : ℕ) : Type 0 where
  pub word : slice_index m (place_in frame rank) ≡ BLANK
  pub rest : 16 ≤ rank → AreFilled m (rest_at frame rank) (unit - 2) BLANK

pub looks_blank : (unit : ℕ) (m : List ℕ) (frame rank : ℕ) → frame_word unit m frame rank ≡ BLANK
    → IsBlankWord unit m frame rank
unfolding frame_word
looks_blank unit m frame rank e = record {
  word = is_word (nat_le 16 rank) (is_blank_run m (rest_at frame rank) (unit - 2)) e;
  rest = λ pair. blank_filled m (rest_at frame rank) (unit - 2)
      (is_rest (nat_le 16 rank) (is_blank_run m (rest_at frame rank) (unit - 2)) (le-leb 16 rank pair) e);
}
  where
    is_word : (b c : Bool) → (if b && not c then 0 else slice_index m (place_in frame rank)) ≡ BLANK
        → slice_index m (place_in frame rank) ≡ BLANK
    is_word true true h = h
    is_word true false h = absurd (omega (arith, h))
    is_word false c h = h

    is_rest : (b c : Bool) → b ≡ true → (if b && not c then 0 else slice_index m (place_in frame rank)) ≡ BLANK
        → c ≡ true
    is_rest true true t h = refl
    is_rest true false t h = absurd (omega (arith, h))
    is_rest false c t h = absurd (true≢false (sym t))
