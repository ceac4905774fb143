-- What the three writes of a set do to the words that undo gives, and to the words as they stand.
use Rattle.std.proofs.Common.{◌≡◌, ◌≢◌, ◌⊎◌, ◌<◌, ◌≤◌, ◌+◌, ◌*◌, ℕ, suc, List, [], ◌∷◌, ◌++◌, length, get_or}
use Rattle.std.proofs.Common.{slice_index, slice_set, refl, sym, ◌∙◌, ap, subst, inl, inr, arith, get_or-set_same}
use Rattle.std.proofs.Common.{get_or-set_other}
use Rattle.std.proofs.Math.ListN.{length-set}
use Rattle.std.proofs.lemmas.Bool.Decides.{eqb_tells}
use Rattle.std.specs.Prelude.{All}
use Rattle.std.proofs.Math.Logic.{⊎_elim}
use Rattle.nvm_board.specs.History.{written}
use Rattle.nvm_board.specs.Torn.{Torn, IsMixture}
use Rattle.nvm_board.specs.laws.Torn.{Torn-all, IsMixture-Torn}
use Rattle.undo_journal.specs.declared.layout.TheConstants.{GATE, JOURNAL, JOURNAL_END, PAIRS}
use Rattle.undo_journal.specs.Undo.{Pair, gate, pair_at, pairs_from, pairs, earlier, undo, data_words, IsOutside}
use Rattle.undo_journal.specs.Undo.{IsDataAddress, IsSound}
use Rattle.undo_journal.specs.Commits.{StaysCommitted}
use Rattle.undo_journal.specs.laws.Undo.{committed-same, data_words-same, data_words-set, data_words-outside, undo_shut}
use Rattle.undo_journal.proofs.Pairs.{length-pairs_from, pairs_from-at, pairs_from-same, pairs_from-add, earlier-append}
use Rattle.undo_journal.proofs.Pairs.{earlier-named, earlier-pairs_of, all_named-after}
use Rattle.undo_journal.proofs.Pairs.{pairs_of-places, length-pair_words, pairs_from-written}
use Rattle.undo_journal.proofs.RunLaws.{IsSaved}
use Rattle.std.proofs.lemmas.List.Elements.{All-append, All-weaker}
use Rattle.undo_journal.specs.declared.batch.Waiting.{Waiting}
use Rattle.undo_journal.specs.Batches.{overlay, AreSets}
use Rattle.undo_journal.specs.JournalParts.{pairs_of, pair_words, Names, AllNamed}

-- two memories of which a store makes the same
pub record SameStore (m n : List ℕ) : Type 0 where
  pub size : length m ≡ length n
  pub gates : gate m ≡ gate n
  pub journals : pairs m ≡ pairs n
  pub committed : data_words (undo m) ≡ data_words (undo n)
  pub current : data_words m ≡ data_words n

-- each pair of a sound journal names a data word
pub place-at : (m : List ℕ) → IsSound m → (i : ℕ) → i < gate m → IsDataAddress m (pair_at m i).address
place-at m sound i lt =
    let d : Pair = pair_at m i in
    let z : 0 + i ≡ i = omega arith in
    let there : get_or (pairs m) i d ≡ pair_at m i = pairs_from-at m 0 (gate m) i d lt
    ∙ ap (λ (j : ℕ). pair_at m j) z in
    let below : i < length (pairs m) = omega (arith, length-pairs_from m 0 (gate m)) in
    let family : Pair → Type 0 = λ p. IsDataAddress m p.address in
    subst family there (sound.places i d below)

-- a journal is sound where each pair by its number names a data word
pub sound-from : (m : List ℕ) → gate m ≤ PAIRS → ((i : ℕ) → i < gate m → IsDataAddress m (pair_at m i).address)
    → IsSound m
sound-from m room places = record {
  room = room;
  places = λ i d lt.
      let below : i < gate m = omega (arith, length-pairs_from m 0 (gate m)) in
      let z : i ≡ 0 + i = omega arith in
      let there : pair_at m i ≡ get_or (pairs m) i d = ap (λ (j : ℕ). pair_at m j) z
      ∙ sym (pairs_from-at m 0 (gate m) i d below) in
      let family : Pair → Type 0 = λ p. IsDataAddress m p.address in
      subst family there (places i below);
}

-- a journal stays sound where the gate, the pairs and the number of words stay
pub sound-same : (m n : List ℕ) → length m ≡ length n → gate m ≡ gate n → pairs m ≡ pairs n → IsSound m → IsSound n
sound-same m n size gates journals sound = record {
  room = (let room : gate n ≤ PAIRS = omega (arith, gates, sound.room) in room);
  places = subst (λ (ps : List Pair). All (λ p. IsDataAddress n p.address) ps) journals (λ i d lt.
      let place = sound.places i d lt in
      (place.0, (let below : (get_or (pairs m) i d).address < length n = omega (arith, size, place.1) in below)));
}

-- the pairs of the words m, read as r: each names a data word
abbrev pub AllPlaced : List ℕ → ℕ → Type 0
AllPlaced r n = (i : ℕ) → i < n → IsDataAddress r (pair_at r i).address

module _ (m r : List ℕ) (n : ℕ) (read : r ≡ m) (counts : n ≡ gate m) where
  pub sound-named : n ≤ PAIRS → AllPlaced r n → IsSound m
  sound-named room named =
      let le : gate m ≤ PAIRS = omega arith in
      let family : List ℕ → Type 0 = λ l. AllPlaced l n in
      let named_m : AllPlaced m n = subst family read named in
      sound-from m le (λ i lt. let below : i < n = omega arith in named_m i below)

  pub named-sound : IsSound m → AllPlaced r n
  named-sound sound =
      let family : List ℕ → Type 0 = λ l. AllPlaced l n in
      let named_m : AllPlaced m n = λ i lt. let below : i < gate m = omega arith in place-at m sound i below in
      subst family (sym read) named_m

-- words past the pairs that count
pub past-pairs : (m n : List ℕ) → length m ≡ length n
    → ((k : ℕ) → (k < JOURNAL + 2 * gate m) ⊎ (JOURNAL_END ≤ k) → slice_index m k ≡ slice_index n k) → SameStore m n
past-pairs m n size words =
    let gate_before : GATE < JOURNAL + 2 * gate m = omega arith in
    let gates : gate m ≡ gate n = words GATE (inl gate_before) in
    let z : 0 + gate m ≡ gate m = omega arith in
    let journals : pairs m ≡ pairs n =
    pairs_from-same m n 0 (gate m) (λ k above below. let lt : k < JOURNAL + 2 * gate m = omega arith in
    words k (inl lt))
    ∙ ap (λ (g : ℕ). pairs_from n 0 g) gates in
    let data_same : (k : ℕ) → IsOutside k → slice_index m k ≡ slice_index n k = λ k out. elim out [
      | inl before ↦ let lt : k < JOURNAL + 2 * gate m = omega arith in words k (inl lt)
      | inr past ↦ words k (inr past)
    ] in
    record {
      size = size;
      gates = gates;
      journals = journals;
      committed = committed-same m n size (λ k lt out.
          ap (λ (ps : List Pair). earlier ps k (slice_index m k)) journals
          ∙ ap (λ (w : ℕ). earlier (pairs n) k w) (data_same k out));
      current = data_words-same m n size (λ k lt out. data_same k out);
    }

-- a gate of any number leaves the words as they stand
pub current-gate : (m : List ℕ) (v : ℕ) → data_words (slice_set m GATE v) ≡ data_words m
current-gate m v = data_words-same (slice_set m GATE v) m (length-set m GATE v) (λ k lt out.
    let other : k ≢ GATE = grind arith in get_or-set_other m GATE k v 0 other)

-- a data word set
module _ (m : List ℕ) (a w : ℕ) (sound : IsSound m) (place : IsDataAddress m a) where
  pub journal-set : (k : ℕ) → GATE ≤ k → k < JOURNAL_END → slice_index (slice_set m a w) k ≡ slice_index m k
  journal-set k le lt =
      let out = place.0 in
      let other : k ≢ a = grind arith in
      get_or-set_other m a k w 0 other

  pub gate-set : gate (slice_set m a w) ≡ gate m
  gate-set = let le : GATE ≤ GATE = omega arith in let lt : GATE < JOURNAL_END = omega arith in journal-set GATE le lt

  pub pairs-set : pairs (slice_set m a w) ≡ pairs m
  pairs-set =
      ap (λ (c : ℕ). pairs_from (slice_set m a w) 0 c) gate-set
      ∙ pairs_from-same (slice_set m a w) m 0 (gate m) (λ k above below.
      let le : GATE ≤ k = omega arith in
      let lt : k < JOURNAL_END = omega (arith, sound.room) in
      journal-set k le lt)

  pub sound-set : IsSound (slice_set m a w)
  sound-set = sound-same m (slice_set m a w) (sym (length-set m a w)) (sym gate-set) (sym pairs-set) sound

  -- a word that a pair names is the same after undo, whatever it is now
  pub committed-named : Names (pairs m) a → data_words (undo (slice_set m a w)) ≡ data_words (undo m)
  committed-named named =
      let n = slice_set m a w in
      committed-same n m (length-set m a w) (λ k inside out.
      ap (λ (ps : List Pair). earlier ps k (slice_index n k)) pairs-set
      ∙ elim (eqb_tells k a) [
        | inl same ↦ ap (λ (j : ℕ). earlier (pairs m) j (slice_index n k)) same.1
            ∙ earlier-named (pairs m) a (slice_index n k) (slice_index m k) named
            ∙ ap (λ (j : ℕ). earlier (pairs m) j (slice_index m k)) (sym same.1)
        | inr other ↦ ap (λ (v : ℕ). earlier (pairs m) k v) (get_or-set_other m a k w 0 other.1)
      ])

-- no pair counts
module _ (m : List ℕ) (shut : gate m ≡ 0) where
  pub committed-shut : data_words (undo m) ≡ data_words m
  committed-shut = ap data_words (undo_shut m shut)

-- a memory whose gate is set to 0
pub gate-shut : (m : List ℕ) → GATE < length m → gate (slice_set m GATE 0) ≡ 0
gate-shut m within = get_or-set_same m GATE 0 0 within

-- two memories that undo makes the same words of, with the same pairs
pub record SameUndo (m n : List ℕ) : Type 0 where
  pub size : length n ≡ length m
  pub gates : gate n ≡ gate m
  pub journals : pairs n ≡ pairs m
  pub committed : data_words (undo n) ≡ data_words (undo m)
  pub sound : IsSound n

same-set : (m : List ℕ) (a w : ℕ) → IsSound m → IsSaved m (pairs m) a → SameUndo m (slice_set m a w)
same-set m a w sound saved = record {
  size = length-set m a w;
  gates = gate-set m a w sound saved.place;
  journals = pairs-set m a w sound saved.place;
  committed = committed-named m a w sound saved.place saved.named;
  sound = sound-set m a w sound saved.place;
}

pub same-then : (m n o : List ℕ) → SameUndo m n → SameUndo n o → SameUndo m o
same-then m n o first rest = record {
  size = rest.size ∙ first.size;
  gates = rest.gates ∙ first.gates;
  journals = rest.journals ∙ first.journals;
  committed = rest.committed ∙ first.committed;
  sound = rest.sound;
}

pub same-committed : (m n : List ℕ) → SameUndo m n → StaysCommitted m n
same-committed m n same = record { sound = λ _. same.sound; words = same.committed }

pub same-none : (m : List ℕ) → IsSound m → SameUndo m m
same-none m sound = record { size = refl; gates = refl; journals = refl; committed = refl; sound = sound }

-- a saved address stays so
saved-stays : (m n : List ℕ) (a : ℕ) → SameUndo m n → IsSaved m (pairs m) a → IsSaved n (pairs n) a
saved-stays m n a same saved = record {
  place = (saved.place.0, (let within : a < length n = omega (arith, saved.place.1, same.size) in within));
  named = subst (λ (ps : List Pair). Names ps a) (sym same.journals) saved.named;
}

-- a run of words whose addresses pairs name, whatever part of it is written
pub saved-torn : (m run n : List ℕ) (a : ℕ) → IsSound m → ((k : ℕ) → k < length run → IsSaved m (pairs m) (a + k))
    → Torn m a run n → SameUndo m n
saved-torn m [] n a sound saved torn = subst (λ (l : List ℕ). SameUndo m l) (sym torn) (same-none m sound)
saved-torn m (w ∷ run) n a sound saved (inl old) =
    saved-torn m run n (a + 1) sound (λ k lt.
    let place : a + suc k ≡ a + 1 + k = omega arith in
    let next : suc k < suc (length run) = omega arith in
    let family : ℕ → Type 0 = λ j. IsSaved m (pairs m) j in
    subst family place (saved (suc k) next)) old
saved-torn m (w ∷ run) n a sound saved (inr new) =
    let some : 0 < suc (length run) = omega arith in
    let z : a + 0 ≡ a = omega arith in
    let here : IsSaved m (pairs m) a = let family : ℕ → Type 0 = λ j. IsSaved m (pairs m) j in
    subst family z (saved 0 some) in
    let first : SameUndo m (slice_set m a w) = same-set m a w sound here in
    same-then m (slice_set m a w) n first
    (saved-torn (slice_set m a w) run n (a + 1) first.sound (λ k lt.
    let place : a + suc k ≡ a + 1 + k = omega arith in
    let next : suc k < suc (length run) = omega arith in
    let family : ℕ → Type 0 = λ j. IsSaved m (pairs m) j in
    saved-stays m (slice_set m a w) (a + 1 + k) first (subst family place (saved (suc k) next))) new)

-- sets make the same of the same data words
pub overlay-current : (sets : List Waiting) (least : ℕ) (m n : List ℕ) → AreSets (length m) least sets
    → length n ≡ length m → data_words m ≡ data_words n → data_words (overlay sets m) ≡ data_words (overlay sets n)
overlay-current [] least m n h size same = same
overlay-current (s ∷ rest) least m n h size same =
    let place : IsDataAddress m s.at = (h.0.outside, h.0.within) in
    let place_n : IsDataAddress n s.at =
    (h.0.outside, (let w : s.at < length n = omega (arith, h.0.within, size) in w)) in
    overlay-current rest (s.at + 1) (slice_set m s.at s.word) (slice_set n s.at s.word)
    (subst (λ (k : ℕ). AreSets k (s.at + 1) rest) (sym (length-set m s.at s.word)) h.1)
    (length-set n s.at s.word ∙ size ∙ sym (length-set m s.at s.word))
    (data_words-set m s.at s.word place ∙ ap (λ (l : List ℕ). slice_set l s.at s.word) same
    ∙ sym (data_words-set n s.at s.word place_n))

-- A batch: from the words m, read as r, behind the pairs of the sets.
module _ (m r run : List ℕ) (sets : List Waiting) (g : ℕ) (read : r ≡ m) (saved : run ≡ pair_words m sets)
    (sound : IsSound m) (counts : gate m ≡ g) (room : g + length sets ≤ PAIRS) (are : AreSets (length m) 0 sets)
    (size : JOURNAL_END ≤ length m) where
  length-run : length run ≡ 2 * length sets
  length-run = ap (λ (l : List ℕ). length l) saved ∙ length-pair_words m sets

  -- pairs past those that count, whatever part of them is written
  pub pairs-torn : (n : List ℕ) → Torn r (JOURNAL + 2 * g) run n → SameStore m n
  pairs-torn n torn =
      let family : List ℕ → Type 0 = λ l. Torn l (JOURNAL + 2 * g) run n in
      let torn_m : Torn m (JOURNAL + 2 * g) run n = subst family read torn in
      let fits : JOURNAL + 2 * g + length run ≤ length m = omega (arith, length-run, room, size) in
      let mixture : IsMixture m (JOURNAL + 2 * g) run n = IsMixture-Torn m run n (JOURNAL + 2 * g) fits torn_m in
      past-pairs m n (sym mixture.size) (λ k outside. elim outside [
        | inl before ↦ let lt : k < JOURNAL + 2 * g = omega (arith, before, counts) in
            sym (mixture.elsewhere k (inl lt))
        | inr past ↦ let le : JOURNAL + 2 * g + length run ≤ k = omega (arith, past, length-run, room) in
            sym (mixture.elsewhere k (inr le))
      ])

  pub pairs-sound : (n : List ℕ) → Torn r (JOURNAL + 2 * g) run n → IsSound n
  pairs-sound n torn = let same : SameStore m n = pairs-torn n torn in
      sound-same m n same.size same.gates same.journals sound

  -- the pairs when they are written
  module _ (p : List ℕ) (paired : p ≡ written r (JOURNAL + 2 * g) run) where
    same_pairs : SameStore m p
    same_pairs =
        let family : List ℕ → Type 0 = λ l. Torn r (JOURNAL + 2 * g) run l in
        pairs-torn p (subst family (sym paired) (Torn-all r run (JOURNAL + 2 * g)))

    journal-raised : (k : ℕ) → JOURNAL ≤ k → slice_index (slice_set p GATE (g + length sets)) k ≡ slice_index p k
    journal-raised k le = let other : k ≢ GATE = omega arith in get_or-set_other p GATE k (g + length sets) 0 other

    within_p : GATE < length p
    within_p = let lt : GATE < length p = omega (arith, same_pairs.size, size) in lt

    -- the gate raised over them
    pub gate-raised : gate (slice_set p GATE (g + length sets)) ≡ g + length sets
    gate-raised = get_or-set_same p GATE (g + length sets) 0 within_p

    pub pairs-raised : pairs (slice_set p GATE (g + length sets)) ≡ pairs m ++ pairs_of m sets
    pairs-raised =
        let q = slice_set p GATE (g + length sets) in
        let z : 0 + g ≡ g = omega arith in
        let fits : JOURNAL + 2 * (g + length sets) ≤ length m = omega (arith, room, size) in
        let in_m : p ≡ written m (JOURNAL + 2 * g) (pair_words m sets) =
        paired ∙ ap (λ (l : List ℕ). written l (JOURNAL + 2 * g) run) read
        ∙ ap (λ (l : List ℕ). written m (JOURNAL + 2 * g) l) saved in
        let front : pairs_from p 0 g ≡ pairs m =
        ap (λ (c : ℕ). pairs_from p 0 c) (sym counts ∙ same_pairs.gates) ∙ sym same_pairs.journals in
        let back : pairs_from p (0 + g) (length sets) ≡ pairs_of m sets =
        ap (λ (j : ℕ). pairs_from p j (length sets)) z
        ∙ ap (λ (l : List ℕ). pairs_from l g (length sets)) in_m
        ∙ pairs_from-written m m sets g fits in
        ap (λ (c : ℕ). pairs_from q 0 c) gate-raised
        ∙ pairs_from-same q p 0 (g + length sets)
        (λ k above below. let le : JOURNAL ≤ k = omega arith in journal-raised k le)
        ∙ pairs_from-add p 0 g (length sets)
        ∙ ap (λ (ps : List Pair). ps ++ pairs_from p (0 + g) (length sets)) front
        ∙ ap (λ (ps : List Pair). pairs m ++ ps) back

    pub committed-raised : data_words (undo (slice_set p GATE (g + length sets))) ≡ data_words (undo m)
    committed-raised =
        let q = slice_set p GATE (g + length sets) in
        let sizes : length q ≡ length m = length-set p GATE (g + length sets) ∙ sym same_pairs.size in
        let current_q : data_words q ≡ data_words m = current-gate p (g + length sets) ∙ sym same_pairs.current in
        committed-same q m sizes (λ k lt out.
        let lt_m : k < length m = omega (arith, lt, sizes) in
        let word : slice_index q k ≡ slice_index m k =
        sym (data_words-outside q k lt out) ∙ ap (λ (l : List ℕ). slice_index l k) current_q
        ∙ data_words-outside m k lt_m out in
        ap (λ (ps : List Pair). earlier ps k (slice_index q k)) pairs-raised
        ∙ ap (λ (w : ℕ). earlier (pairs m ++ pairs_of m sets) k w) word
        ∙ earlier-append (pairs m) (pairs_of m sets) k (slice_index m k)
        ∙ ap (λ (w : ℕ). earlier (pairs m) k w) (earlier-pairs_of m sets k))

    pub sound-raised : IsSound (slice_set p GATE (g + length sets))
    sound-raised =
        let q = slice_set p GATE (g + length sets) in
        let sizes : length q ≡ length m = length-set p GATE (g + length sets) ∙ sym same_pairs.size in
        record {
          room = (let le : gate q ≤ PAIRS = omega (arith, gate-raised, room) in le);
          places = subst (λ (ps : List Pair). All (λ p. IsDataAddress q p.address) ps) (sym pairs-raised)
              (All-append (λ p. IsDataAddress q p.address) (pairs m) (pairs_of m sets)
              (All-weaker (λ p. IsDataAddress m p.address) (λ p. IsDataAddress q p.address) (λ x place.
              (place.0, (let lt : x.address < length q = omega (arith, place.1, sizes) in lt))) (pairs m) sound.places)
              (pairs_of-places m q sets 0 (subst (λ (k : ℕ). AreSets k 0 sets) (sym sizes) are)));
        }

    -- the gate, raised or not
    pub gate-torn : (n : List ℕ) → (n ≡ p) ⊎ (n ≡ slice_set p GATE (g + length sets))
        → data_words (undo n) ≡ data_words (undo m)
    gate-torn n torn = ⊎_elim
        (λ old. ap (λ (l : List ℕ). data_words (undo l)) old ∙ sym same_pairs.committed)
        (λ new. ap (λ (l : List ℕ). data_words (undo l)) new ∙ committed-raised)
        torn

    pub gate-sound : (n : List ℕ) → (n ≡ p) ⊎ (n ≡ slice_set p GATE (g + length sets)) → IsSound n
    gate-sound n torn = ⊎_elim
        (λ old. subst (λ (l : List ℕ). IsSound l) (sym old)
        (sound-same m p same_pairs.size same_pairs.gates same_pairs.journals sound))
        (λ new. subst (λ (l : List ℕ). IsSound l) (sym new) sound-raised)
        torn

    pub gate-committed : (n : List ℕ) → (n ≡ p) ⊎ (n ≡ slice_set p GATE (g + length sets)) → StaysCommitted m n
    gate-committed n torn = record { sound = λ _. gate-sound n torn; words = gate-torn n torn }

    -- the words as they are then
    module _ (q : List ℕ) (raised : q ≡ slice_set p GATE (g + length sets)) where
      pub named-raised : AllNamed (pairs q) sets
      named-raised = subst (λ (ps : List Pair). AllNamed ps sets) (sym (ap pairs raised ∙ pairs-raised))
          (all_named-after (pairs m) m sets)

      pub current-raised : (n : List ℕ) → n ≡ overlay sets q → data_words n ≡ data_words (overlay sets m)
      current-raised n done =
          let size_q : length q ≡ length m = ap (λ (l : List ℕ). length l) raised ∙ length-set p GATE (g + length sets)
          ∙ sym same_pairs.size in
          ap data_words done
          ∙ overlay-current sets 0 q m (subst (λ (k : ℕ). AreSets k 0 sets) (sym size_q) are) (sym size_q)
          (ap data_words raised ∙ current-gate p (g + length sets) ∙ sym same_pairs.current)

      pub gate-counts : gate q ≡ g + length sets
      gate-counts = ap gate raised ∙ gate-raised
