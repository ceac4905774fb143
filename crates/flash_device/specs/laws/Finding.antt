-- Laws of the slots that hold a page.
use Rattle.std.specs.Prelude.{◌≡◌, ◌<◌, ◌≤◌, ◌+◌, ℕ, zero, suc, Bool, true, false, List}
use Rattle.std.specs.Prelude.{length, slice_index, if◌then◌else◌}
use Rattle.std.proofs.Common.{refl, ◌∙◌, ap, ap₂, subst, ⊎_elim, arith}
use Rattle.std.proofs.lemmas.Bool.{cases_lt}
use Rattle.flash_device.specs.FlashLogs.{holds, find, image}

-- the slots hold the same, so that the page is found at the same place
pub find-same : (m after : List ℕ) (base n p : ℕ) → ((s : ℕ) → s < n → holds after base s p ≡ holds m base s p)
    → find after base n p ≡ find m base n p
unfolding find
find-same m after base zero p same = refl
find-same m after base (suc n) p same =
    ap₂ (λ (b : Bool) (k : ℕ). if b then suc n else k) (same n (omega arith))
    (find-same m after base n p (λ s lt. same s (omega (arith, lt))))

-- slots that don't hold the page can be passed over
pub find-past : (m : List ℕ) (base n p s : ℕ) → s ≤ n → ((t : ℕ) → s ≤ t → t < n → holds m base t p ≡ false)
    → find m base n p ≡ find m base s p
unfolding find
find-past m base zero p s le none = let e : zero ≡ s = omega (arith, le) in ap (λ (k : ℕ). find m base k p) e
find-past m base (suc n) p s le none = ⊎_elim
    (λ (lt : s < suc n). let below : s ≤ n = omega (arith, lt) in
    ap (λ (b : Bool). if b then suc n else find m base n p) (none n below (omega arith))
    ∙ find-past m base n p s below (λ t from lt. none t from (omega (arith, lt))))
    (λ (ge : suc n ≤ s). let here : suc n ≡ s = omega (arith, ge, le) in ap (λ (k : ℕ). find m base k p) here)
    (cases_lt s (suc n))

-- a slot that holds the page is found from the next one on
pub find-top : (m : List ℕ) (base s p : ℕ) → holds m base s p ≡ true → find m base (suc s) p ≡ suc s
unfolding find
find-top m base s p h = ap (λ (b : Bool). if b then suc s else find m base s p) h

-- what is found holds the page
pub record IsFound (m : List ℕ) (base n p f : ℕ) : Type 0 where
  pub below : f < n
  pub held : holds m base f p ≡ true

pub find-tells : (m : List ℕ) (base n p f : ℕ) → find m base n p ≡ suc f → IsFound m base n p f
unfolding find
find-tells m base zero p f e = absurd (omega (arith, e))
find-tells m base (suc n) p f e = held_or_below (holds m base n p) refl e (λ here. find-tells m base n p f here)
  where
    held_or_below : (b : Bool) → holds m base n p ≡ b → (if b then suc n else find m base n p) ≡ suc f
        → (find m base n p ≡ suc f → IsFound m base n p f) → IsFound m base (suc n) p f
    held_or_below true h here rest = let same : n ≡ f = omega (arith, here) in record {
      below = omega (arith, same);
      held = subst (λ (k : ℕ). holds m base k p ≡ true) same h;
    }
    held_or_below false h here rest = let found = rest here in record {
      below = omega (arith, found.below);
      held = found.held;
    }

-- the words of an image
pub length-image : (f : ℕ → ℕ) (at n : ℕ) → length (image f at n) ≡ n
unfolding image
length-image f at zero = refl
length-image f at (suc n) = ap suc (length-image f (at + 1) n)

pub index-image : (f : ℕ → ℕ) (at n k : ℕ) → k < n → slice_index (image f at n) k ≡ f (at + k)
unfolding image
index-image f at zero k lt = absurd (omega (arith, lt))
index-image f at (suc n) zero lt = let e : at ≡ at + zero = omega arith in ap f e
index-image f at (suc n) (suc k) lt =
    let e : at + 1 + k ≡ at + suc k = omega arith in
    index-image f (at + 1) n k (omega (arith, lt)) ∙ ap f e
