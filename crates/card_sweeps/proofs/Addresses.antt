-- Where a device write begins, as its cuts show it.
use Rattle.std.specs.Prelude.{◌≡◌, ◌≢◌, ◌⊎◌, ◌<◌, ◌≤◌, ◌+◌, ◌-◌, ℕ, zero, suc, Bool, true, false, List, length}
use Rattle.std.specs.Prelude.{nat_lt, slice_index, if◌then◌else◌}
use Rattle.std.proofs.Common.{◌∙◌, arith, inl, inr, refl, subst, sym}
use Rattle.std.proofs.lemmas.Bool.{ltb-false, ltb-true}
use Rattle.std.proofs.lemmas.List.{get_or_past}
use Rattle.nvm_board.specs.Facts.{Facts}
use Rattle.card_sweeps.specs.Masks.{mask_count_of, mask_of}
use Rattle.card_sweeps.specs.Sweeps.{CutsTurn, SweptTurn}
use Rattle.card_sweeps.specs.TurnCuts.{MissesRunAt}
use Rattle.card_sweeps.specs.WrittenRuns.{IsMasked, WrittenRun}
use Rattle.card_sweeps.proofs.NewWords.{new-word, old-word, same-anywhere}

-- the number of masks for several words
count-several : (words : ℕ) → 2 ≤ words → mask_count_of words ≡ words + 2
count-several words more = by (nat_lt words 2) (λ e. ltb-true words 2 e)
  where
    by : (few : Bool) → (few ≡ true → words < 2) → (if few then words + 1 else words + 2) ≡ words + 2
    by true lt = absurd (omega (arith, lt refl, more))
    by false lt = refl

count-some : (words : ℕ) → 1 ≤ words → 2 ≤ mask_count_of words
count-some words some = by (nat_lt words 2)
  where
    by : (few : Bool) → 2 ≤ (if few then words + 1 else words + 2)
    by true = omega (arith, some)
    by false = omega arith

-- one of three
order : (a b : ℕ) → (a < b) ⊎ ((a ≡ b) ⊎ (b < a))
order a b = by (nat_lt a b) (nat_lt b a) (λ e. ltb-true a b e) (λ e. ltb-false a b e) (λ e. ltb-true b a e)
    (λ e. ltb-false b a e)
  where
    by : (less more : Bool) → (less ≡ true → a < b) → (less ≡ false → b ≤ a) → (more ≡ true → b < a)
        → (more ≡ false → a ≤ b) → (a < b) ⊎ ((a ≡ b) ⊎ (b < a))
    by true more lt ge gt le = inl (lt refl)
    by false true lt ge gt le = inr (inr (gt refl))
    by false false lt ge gt le = inr (inl (omega (arith, ge refl, le refl)))

-- a word that two memories of one length don't share lies in them
changed-inside : (c : ℕ) (xs ys : List ℕ) → length ys ≡ length xs → slice_index xs c ≢ slice_index ys c → c < length xs
changed-inside c xs ys sized other = by (nat_lt c (length xs)) (λ e. ltb-true c (length xs) e)
    (λ e. ltb-false c (length xs) e)
  where
    by : (short : Bool) → (short ≡ true → c < length xs) → (short ≡ false → length xs ≤ c) → c < length xs
    by true lt past = lt refl
    by false lt past = absurd (other (get_or_past xs c 0 (past refl)
        ∙ sym (get_or_past ys c 0 (omega (arith, sized, past refl)))))

-- what holds of each number up to the next
pub shows-more : (Shows : ℕ → Type 0) (n : ℕ) → ((bit : ℕ) → bit < n → Shows bit) → Shows n
    → (bit : ℕ) → bit < n + 1 → Shows bit
shows-more Shows n some last bit lt = elim (order bit n) [
  | inl less ↦ some bit less
  | inr more ↦ elim more [
    | inl same ↦ subst Shows (sym same) last
    | inr past ↦ absurd (omega (arith, past, lt))
  ]
]

-- a cut that makes one word new, and shows whether it is the changed one
pub record ShowsWord (swept : SweptTurn) (write words : ℕ) (before : List ℕ) (changed bit : ℕ) : Type 0 where
  pub left : Facts
  pub cut : CutsTurn write (mask_of words (bit + 2)) swept left
  pub old : slice_index left.words changed ≡ slice_index before changed

module _ (swept : SweptTurn) (write words : ℕ) (before : List ℕ) (after : Facts) (some : 1 ≤ words)
    (all : CutsTurn write (mask_of words 1) swept after) where
  abbrev run : ℕ → WrittenRun
  run at = record { at = at; words = words; before = before; after = after.words }

  abbrev Missed : ℕ → Type 0
  Missed at = MissesRunAt swept write words before after.words at

  -- it isn't what the memories show at this address
  pub missed-there : (none : Facts) (at : ℕ) → CutsTurn write 0 swept none
      → (at + words ≤ length before
      → (IsMasked (run at) 0 none.words → ⊥) ⊎ (IsMasked (run at) 1 after.words → ⊥)) → Missed at
  missed-there none at first other inside =
      let two = count-some words some in
      elim (other inside) [
        | inl miss ↦ record {
          i = 0;
          place = omega (arith, two);
          misses = record { left = none; cut = first; other = miss };
        }
        | inr miss ↦ record {
          i = 1;
          place = omega (arith, two);
          misses = record { left = after; cut = all; other = miss };
        }
      ]

  -- no word was changed
  pub missed-anywhere : (at : ℕ)
      → ((a : ℕ) → a < length before → a < length after.words → slice_index before a ≡ slice_index after.words a)
      → Missed 0 → Missed at
  missed-anywhere at same missed inside =
      let was = missed (omega (arith, inside)) in
      record {
        i = was.i;
        place = was.place;
        misses = record {
          left = was.misses.left;
          cut = was.misses.cut;
          other = λ is. was.misses.other (moved was.i was.misses.left.words is);
        };
      }
    where
      moved : (i : ℕ) (left : List ℕ) → IsMasked (run at) i left → IsMasked (run 0) i left
      moved zero left is =
          same-anywhere _ _ _ _ _ _ left (λ a lt. same a lt (omega (arith, lt, is.sized.1))) is
      moved (suc zero) left is =
          same-anywhere _ _ _ _ _ _ left (λ a lt. same a lt (omega (arith, lt, is.sized.1))) is
      moved (suc (suc bit)) left is =
          same-anywhere _ _ _ _ _ _ left (λ a lt. same a lt (omega (arith, lt, is.sized.1))) is

  module _ (changed : ℕ) (other : slice_index before changed ≢ slice_index after.words changed) where
    -- the write has to have the changed word
    missed-outside : (at : ℕ) → (changed < at) ⊎ (at + words ≤ changed) → Missed at
    missed-outside at out inside = record {
      i = 1;
      place = omega (arith, count-some words some);
      misses = record {
        left = after;
        cut = all;
        other = λ is. other (sym (old-word at (at + words) changed _ _ _ out
            (is.words changed (changed-inside changed before after.words is.sized.0 other))));
      };
    }

    -- one word alone
    pub missed-beside : (at : ℕ) → words ≡ 1 → Missed changed → Missed at
    missed-beside at one there = elim (order at changed) [
      | inl lt ↦ missed-outside at (inr (omega (arith, one, lt)))
      | inr more ↦ elim more [
        | inl is ↦ subst Missed (sym is) there
        | inr gt ↦ missed-outside at (inl gt)
      ]
    ]

    -- a single word that has to be the changed one
    missed-word : (at bit : ℕ) → 2 ≤ words → bit < words → changed ≡ at + bit
        → ShowsWord swept write words before changed bit → Missed at
    missed-word at bit several place is shown inside = record {
      i = bit + 2;
      place = omega (arith, count-several words several, place);
      misses = record {
        left = shown.left;
        cut = shown.cut;
        other = λ masked. fits bit (shown.left.words) shown.old is masked;
      };
    }
      where
        fits : (b : ℕ) (left : List ℕ) → slice_index left changed ≡ slice_index before changed → changed ≡ at + b
            → IsMasked (run at) (b + 2) left → ⊥
        fits b left old is masked =
            let two : b + 2 ≡ suc (suc b) = omega arith in
            let new : IsMasked (run at) (suc (suc b)) left = subst (λ (i : ℕ). IsMasked (run at) i left) two masked in
            other (sym old ∙ new-word (at + b) (at + b + 1) changed _ _ _ (omega (arith, is)) (omega (arith, is))
            (new.words changed (changed-inside changed before after.words new.sized.1 other)))

    -- a single word that has to be another one
    missed-single : (at bit : ℕ) (left : Facts) → 2 ≤ words → bit < words → changed ≢ at + bit
        → CutsTurn write (mask_of words (bit + 2)) swept left
        → (length left.words ≡ length before → changed < length before
        → slice_index left.words changed ≢ slice_index before changed) → Missed at
    missed-single at bit left several place apart cut shows inside = record {
      i = bit + 2;
      place = omega (arith, count-several words several, place);
      misses = record { left = left; cut = cut; other = λ masked. fits bit apart masked };
    }
      where
        fits : (b : ℕ) → changed ≢ at + b → IsMasked (run at) (b + 2) left.words → ⊥
        fits b apart masked =
            let two : b + 2 ≡ suc (suc b) = omega arith in
            let new : IsMasked (run at) (suc (suc b)) left.words =
            subst (λ (i : ℕ). IsMasked (run at) i left.words) two masked in
            let lies = changed-inside changed before after.words new.sized.1 other in
            let out : (changed < at + b) ⊎ (at + b + 1 ≤ changed) = elim (order changed (at + b)) [
              | inl lt ↦ inl lt
              | inr more ↦ elim more [
                | inl is ↦ absurd (apart is)
                | inr gt ↦ inr (omega (arith, gt))
              ]
            ] in
            shows new.sized.0 lies (old-word (at + b) (at + b + 1) changed _ _ _ out (new.words changed lies))

    -- none of the first `n` single words is the changed one
    missed-unseen : (n at : ℕ) → 2 ≤ words → n ≤ words → changed < at + n
        → ((bit : ℕ) → bit < n → ShowsWord swept write words before changed bit) → Missed at
    missed-unseen n at several few near unseen = elim (order changed at) [
      | inl lt ↦ missed-outside at (inl lt)
      | inr more ↦
          let from : at ≤ changed = elim more [ inl is ↦ omega (arith, is) | inr gt ↦ omega (arith, gt) ] in
          missed-word at (changed - at) several (omega (arith, from, near, few)) (omega (arith, from))
          (unseen (changed - at) (omega (arith, from, near)))
    ]

    -- no single word is the changed one
    pub missed-all : (n at : ℕ) → 2 ≤ words → n ≡ words
        → ((bit : ℕ) → bit < n → ShowsWord swept write words before changed bit) → Missed at
    missed-all n at several whole unseen = elim (order changed (at + words)) [
      | inl lt ↦ missed-unseen n at several (omega (arith, whole)) (omega (arith, whole, lt)) unseen
      | inr more ↦ missed-outside at (inr (elim more [ inl is ↦ omega (arith, is) | inr gt ↦ omega (arith, gt) ]))
    ]

    -- the first single word that is the changed one
    pub missed-found : (n at place : ℕ) (left : Facts) → 2 ≤ words → n < words → place ≡ changed - n
        → ((bit : ℕ) → bit < n → ShowsWord swept write words before changed bit)
        → CutsTurn write (mask_of words (n + 2)) swept left
        → (length left.words ≡ length before → changed < length before
        → slice_index left.words changed ≢ slice_index before changed) → Missed place → Missed at
    missed-found n at place left several few is unseen cut shows there = elim (order changed (at + n)) [
      | inl lt ↦ missed-unseen n at several (omega (arith, few)) lt unseen
      | inr more ↦ elim more [
        | inl same ↦ let here : place ≡ at = omega (arith, is, same) in subst Missed here there
        | inr gt ↦ missed-single at n left several few (λ same. absurd (omega (arith, gt, same))) cut shows
      ]
    ]
