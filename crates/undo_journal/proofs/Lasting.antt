-- Writes that last: with no pair that counts, and of the gate itself.
use Rattle.std.specs.Prelude.{None}
use Rattle.std.proofs.Common.{◌≡◌, ◌⊎◌, ◌<◌, ◌≤◌, ◌+◌, ℕ, suc, List, [], ◌∷◌, length, slice_set, refl, sym, ◌∙◌, ap}
use Rattle.std.proofs.Common.{slice_index, subst, inl, inr, arith, get_or-set_same, get_or-set_other}
use Rattle.std.proofs.Math.ListN.{length-set}
use Rattle.std.proofs.lemmas.Bool.Decides.{eqb_tells}
use Rattle.std.proofs.lemmas.Grind.{same_number_lists}
use Rattle.std.proofs.Math.Logic.{⊎_elim, ⊎_map}
use Rattle.nvm_board.specs.History.{written}
use Rattle.nvm_board.specs.Torn.{Torn, IsMixture}
use Rattle.nvm_board.specs.laws.Torn.{Torn-all, IsMixture-Torn}
use Rattle.undo_journal.specs.declared.layout.TheConstants.{GATE, JOURNAL_END}
use Rattle.undo_journal.specs.Undo.{gate, undo, data_words, IsOutside, IsDataAddress, IsDataRun, IsSound}
use Rattle.undo_journal.specs.laws.Undo.{data_words-set, sound_shut}
use Rattle.undo_journal.specs.Memory.{Memory, committed, current, taken, IsIdle, IsTrueToBoard}
use Rattle.undo_journal.proofs.Standing.{Fits, idle-fits, board-place, board-run}
use Rattle.undo_journal.proofs.Saving.{committed-shut, gate-set, gate-shut, current-gate}

-- a word that is set, and set back
pub set-back : (m : List ℕ) (a w : ℕ) → a < length m → slice_set (slice_set m a w) a (slice_index m a) ≡ m
set-back m a w within =
    same_number_lists _ _ (length-set (slice_set m a w) a (slice_index m a) ∙ length-set m a w) (λ k lt.
    let inside : a < length (slice_set m a w) = omega (arith, length-set m a w, within) in
    elim (eqb_tells k a) [
      | inl same ↦
          let at : ℕ → Type 0 =
          λ j. slice_index (slice_set (slice_set m a w) a (slice_index m a)) j ≡ slice_index m j in
          subst at (sym same.1) (get_or-set_same (slice_set m a w) a (slice_index m a) 0 inside)
      | inr other ↦ get_or-set_other (slice_set m a w) a k (slice_index m a) 0 other.1
          ∙ get_or-set_other m a k w 0 other.1
    ])

-- the gate set to 0: what was current is committed
pub gate-commits : (m n : List ℕ) → GATE < length m → n ≡ slice_set m GATE 0 → data_words (undo n) ≡ data_words m
gate-commits m n within done =
    committed-shut n (ap gate done ∙ gate-shut m within) ∙ ap data_words done ∙ current-gate m 0

-- the gate set to 0 or not: undo stays defined
pub commit-sound : (m n : List ℕ) → GATE < length m → IsSound m → (n ≡ m) ⊎ (n ≡ slice_set m GATE 0) → IsSound n
commit-sound m n within sound torn = ⊎_elim
    (λ old. subst (λ (l : List ℕ). IsSound l) (sym old) sound)
    (λ new. sound_shut n (ap gate new ∙ gate-shut m within))
    torn

-- the data words of a torn run
pub data_words-Torn : (m run n : List ℕ) (a : ℕ) → ((k : ℕ) → k < length run → IsDataAddress m (a + k)) → Torn m a run n
    → Torn (data_words m) a run (data_words n)
data_words-Torn m [] n a places e = ap data_words e
data_words-Torn m (w ∷ run) n a places (inl old) =
    inl (data_words-Torn m run n (a + 1) (λ k lt.
    let place : a + suc k ≡ a + 1 + k = omega arith in
    let next : suc k < suc (length run) = omega arith in
    let family : ℕ → Type 0 = λ j. IsDataAddress m j in
    subst family place (places (suc k) next)) old)
data_words-Torn m (w ∷ run) n a places (inr new) =
    let some : 0 < suc (length run) = omega arith in
    let z : a + 0 ≡ a = omega arith in
    let here : IsDataAddress m a = let family : ℕ → Type 0 = λ j. IsDataAddress m j in subst family z (places 0 some) in
    let rest : Torn (data_words (slice_set m a w)) (a + 1) run (data_words n) =
    data_words-Torn (slice_set m a w) run n (a + 1) (λ k lt.
    let place : a + suc k ≡ a + 1 + k = omega arith in
    let next : suc k < suc (length run) = omega arith in
    let family : ℕ → Type 0 = λ j. IsDataAddress m j in
    let moved : IsDataAddress m (a + 1 + k) = subst family place (places (suc k) next) in
    let within : a + 1 + k < length (slice_set m a w) = omega (arith, length-set m a w, moved.1) in
    (moved.0, within)) new in
    let family : List ℕ → Type 0 = λ l. Torn l (a + 1) run (data_words n) in
    inr (subst family (data_words-set m a w here) rest)

-- the data words of a written run
pub data_words-written : (m run : List ℕ) (a : ℕ) → ((k : ℕ) → k < length run → IsDataAddress m (a + k))
    → data_words (written m a run) ≡ written (data_words m) a run
data_words-written m [] a places = refl
data_words-written m (w ∷ run) a places =
    let some : 0 < suc (length run) = omega arith in
    let z : a + 0 ≡ a = omega arith in
    let here : IsDataAddress m a = let family : ℕ → Type 0 = λ j. IsDataAddress m j in subst family z (places 0 some) in
    data_words-written (slice_set m a w) run (a + 1) (λ k lt.
    let place : a + suc k ≡ a + 1 + k = omega arith in
    let next : suc k < suc (length run) = omega arith in
    let family : ℕ → Type 0 = λ j. IsDataAddress m j in
    let moved : IsDataAddress m (a + 1 + k) = subst family place (places (suc k) next) in
    let within : a + 1 + k < length (slice_set m a w) = omega (arith, length-set m a w, moved.1) in
    (moved.0, within))
    ∙ ap (λ (l : List ℕ). written l (a + 1) run) (data_words-set m a w here)

-- each address of a run of data words
pub run-places : (m : List ℕ) (a n : ℕ) → IsDataRun m a n → (k : ℕ) → k < n → IsDataAddress m (a + k)
run-places m a n run k lt =
    let within : a + k < length m = omega (arith, run.1) in
    let out : IsOutside (a + k) = elim run.0 [
      | inl before ↦ inl (let l : a + k < GATE = omega arith in l)
      | inr past ↦ inr (let l : JOURNAL_END ≤ a + k = omega arith in l)
    ] in
    (out, within)

-- a run of data words leaves the gate alone
pub run-apart : (m : List ℕ) (a n : ℕ) → IsDataRun m a n → (GATE < a) ⊎ (a + n ≤ GATE)
run-apart m a n run = elim run.0 [
  | inl before ↦ inr before
  | inr past ↦ inl (let lt : GATE < a = omega arith in lt)
]

-- with no pair that counts: a run of data words
module _ (m run : List ℕ) (a : ℕ) (shut : gate m ≡ 0)
    (places : (k : ℕ) → k < length run → IsDataAddress m (a + k)) where
  pub torn-gate : (n : List ℕ) → a + length run ≤ length m → (GATE < a) ⊎ (a + length run ≤ GATE) → Torn m a run n
      → gate n ≡ 0
  torn-gate n fits apart torn =
      let mixture : IsMixture m a run n = IsMixture-Torn m run n a fits torn in
      mixture.elsewhere GATE apart ∙ shut

  pub torn-shut : (n : List ℕ) → 0 < length run → a + length run ≤ length m → (GATE < a) ⊎ (a + length run ≤ GATE)
      → Torn m a run n
      → Torn (data_words (undo m)) a run (data_words (undo n))
  torn-shut n some fits apart torn =
      let before : List ℕ → Type 0 = λ l. Torn l a run (data_words n) in
      let after : List ℕ → Type 0 = λ l. Torn (data_words (undo m)) a run l in
      subst after (sym (committed-shut n (torn-gate n fits apart torn)))
      (subst before (sym (committed-shut m shut)) (data_words-Torn m run n a places torn))

  pub written-shut : (n : List ℕ) → a + length run ≤ length m → (GATE < a) ⊎ (a + length run ≤ GATE)
      → n ≡ written m a run
      → data_words (undo n) ≡ written (data_words (undo m)) a run
  written-shut n fits apart done =
      let family : List ℕ → Type 0 = λ l. Torn m a run l in
      let torn : Torn m a run n = subst family (sym done) (Torn-all m run a) in
      committed-shut n (torn-gate n fits apart torn) ∙ ap data_words done ∙ data_words-written m run a places
      ∙ ap (λ (l : List ℕ). written l a run) (sym (committed-shut m shut))

-- with no pair that counts: a data word
module _ (m : List ℕ) (a w : ℕ) (shut : gate m ≡ 0) (place : IsDataAddress m a) where
  pub gate-alone : (n : List ℕ) → n ≡ slice_set m a w → gate n ≡ 0
  gate-alone n done = ap gate done ∙ gate-set m a w (sound_shut m shut) place ∙ shut

  pub sound-alone : (n : List ℕ) → (n ≡ m) ⊎ (n ≡ slice_set m a w) → IsSound n
  sound-alone n torn = ⊎_elim (λ old. sound_shut n (ap gate old ∙ shut)) (λ new. sound_shut n (gate-alone n new)) torn

  pub word-alone : (n : List ℕ) → n ≡ slice_set m a w → data_words (undo n) ≡ slice_set (data_words (undo m)) a w
  word-alone n done =
      committed-shut n (gate-alone n done) ∙ ap data_words done ∙ data_words-set m a w place
      ∙ ap (λ (l : List ℕ). slice_set l a w) (sym (committed-shut m shut))

-- A store that works, with no transaction: its value from within, and as its caller has it.
module _ (inside m : Memory) (seen : inside ≡ m) (held : IsTrueToBoard inside) (works : m.failed ≡ None)
    (idle : IsIdle m) where
  pub unused-within : inside.used ≡ 0
  unused-within = let none : m.used ≡ 0 = omega (arith, idle) in ap (λ (x : Memory). x.used) seen ∙ none

  pub idle-within : inside.used + length inside.waiting ≡ 0
  idle-within = ap taken seen ∙ idle

  pub fits-within : (size : ℕ) → Fits size inside.used inside.waiting
  fits-within size = subst (λ (x : Memory). Fits size x.used x.waiting) (sym seen) (idle-fits size m idle)

  shut-within : gate inside.facts.words ≡ 0
  shut-within = (held.works (ap (λ (x : Memory). x.failed) seen ∙ works)).counts ∙ unused-within

  words-within : inside.facts.words ≡ m.facts.words
  words-within = ap (λ (x : Memory). x.facts.words) seen

  -- a run of data words, whatever part of it is written
  module _ (at : ℕ) (run : List ℕ) (place : IsDataRun (current m) at (length run)) where
    run-within : IsDataRun inside.facts.words at (length run)
    run-within = board-run m inside.facts.words at (length run) words-within place

    places-within : (k : ℕ) → k < length run → IsDataAddress inside.facts.words (at + k)
    places-within = run-places inside.facts.words at (length run) run-within

    apart-within : (GATE < at) ⊎ (at + length run ≤ GATE)
    apart-within = run-apart inside.facts.words at (length run) run-within

    pub run-gate : (n : List ℕ) → Torn inside.facts.words at run n → gate n ≡ 0
    run-gate n torn = torn-gate inside.facts.words run at shut-within places-within n run-within.1 apart-within torn

    pub run-sound : (n : List ℕ) → Torn inside.facts.words at run n → IsSound n
    run-sound n torn = sound_shut n (run-gate n torn)

    pub run-torn : (n : List ℕ) → 0 < length run → Torn inside.facts.words at run n
        → Torn (committed m) at run (data_words (undo n))
    run-torn n some torn =
        let family : List ℕ → Type 0 = λ l. Torn l at run (data_words (undo n)) in
        subst family (ap committed seen)
        (torn-shut inside.facts.words run at shut-within places-within n some run-within.1 apart-within torn)

    pub run-written : (n : List ℕ) → n ≡ written inside.facts.words at run
        → data_words (undo n) ≡ written (committed m) at run
    run-written n done =
        written-shut inside.facts.words run at shut-within places-within n run-within.1 apart-within done
        ∙ ap (λ (x : Memory). written (committed x) at run) seen

  -- a data word, written or not
  module _ (at word : ℕ) (place : IsDataAddress (current m) at) where
    pub place-within : IsDataAddress inside.facts.words at
    place-within = board-place m inside.facts.words at words-within place

    pub one-gate : (n : List ℕ) → n ≡ slice_set inside.facts.words at word → gate n ≡ 0
    one-gate n done = gate-alone inside.facts.words at word shut-within place-within n done

    pub one-sound : (n : List ℕ) → (n ≡ inside.facts.words) ⊎ (n ≡ slice_set inside.facts.words at word) → IsSound n
    one-sound n torn = sound-alone inside.facts.words at word shut-within place-within n torn

    pub one-written : (n : List ℕ) → n ≡ slice_set inside.facts.words at word
        → data_words (undo n) ≡ slice_set (committed m) at word
    one-written n done =
        word-alone inside.facts.words at word shut-within place-within n done
        ∙ ap (λ (x : Memory). slice_set (committed x) at word) seen

    pub one-torn : (n : List ℕ) → (n ≡ inside.facts.words) ⊎ (n ≡ slice_set inside.facts.words at word)
        → (data_words (undo n) ≡ committed m) ⊎ (data_words (undo n) ≡ slice_set (committed m) at word)
    one-torn n torn = ⊎_map (λ old. ap (λ (l : List ℕ). data_words (undo l)) old ∙ ap committed seen)
        (λ new. one-written n new) torn
