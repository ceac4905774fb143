-- Undo: the words of a memory after recovery, without gate and journal.
use Rattle.std.specs.Prelude.{◌==◌, ◌⊎◌, ◌<◌, ◌≤◌, ◌+◌, ◌*◌, ◌&&◌, ℕ, zero, suc, Bool, if◌then◌else◌, nat_le, nat_lt}
use Rattle.std.specs.Prelude.{List, [], ◌∷◌, length, slice_index, All}
use Rattle.undo_journal.specs.declared.layout.TheConstants.{GATE, JOURNAL, JOURNAL_END, PAIRS}

-- A pair of the journal: an address, and the earlier word at that address.
pub record Pair : Type 0 where
  pub address : ℕ
  pub earlier : ℕ

-- The gate: the number of pairs that count.
abbrev pub gate : List ℕ → ℕ
gate m = slice_index m GATE

-- Pair i of the journal.
abbrev pub pair_at : List ℕ → ℕ → Pair
pair_at m i = record { address = slice_index m (JOURNAL + 2 * i); earlier = slice_index m (JOURNAL + 2 * i + 1) }

-- n pairs from pair i on.
unfoldable pub pairs_from : List ℕ → ℕ → ℕ → List Pair
pairs_from m i zero = []
pairs_from m i (suc n) = pair_at m i ∷ pairs_from m (i + 1) n

-- The pairs that count, from first to last.
abbrev pub pairs : List ℕ → List Pair
pairs m = pairs_from m 0 (gate m)

-- The earlier word of the first pair that names the address, or else the word `w`.
unfoldable pub earlier : List Pair → ℕ → ℕ → ℕ
earlier [] a w = w
earlier (p ∷ ps) a w = if p.address == a then p.earlier else earlier ps a w

-- A memory built by a function of address and word, from address `a` on.
unfoldable pub by_address : (ℕ → ℕ → ℕ) → ℕ → List ℕ → List ℕ
by_address f a [] = []
by_address f a (w ∷ m) = f a w ∷ by_address f (a + 1) m

-- The memory after undo: each word that a pair names has its earlier value, and the gate is 0.
unfoldable pub undo : List ℕ → List ℕ
undo m = by_address (λ a w. if a == GATE then 0 else earlier (pairs m) a w) 0 m

-- True if an address lies in the gate's page or in the journal's pages.
abbrev pub in_journal : ℕ → Bool
in_journal a = nat_le GATE a && nat_lt a JOURNAL_END

-- The words outside the gate's and the journal's pages. The words inside are 0.
unfoldable pub data_words : List ℕ → List ℕ
data_words m = by_address (λ a w. if in_journal a then 0 else w) 0 m

-- An address outside the gate's and the journal's pages.
abbrev pub IsOutside : ℕ → Type 0
IsOutside a = (a < GATE) ⊎ (JOURNAL_END ≤ a)

-- The address of a data word of the memory.
abbrev pub IsDataAddress : List ℕ → ℕ → Type 0
IsDataAddress m a = IsOutside a × (a < length m)

-- n successive addresses from `a` on, all of data words.
abbrev pub IsDataRun : List ℕ → ℕ → ℕ → Type 0
IsDataRun m a n = ((a + n ≤ GATE) ⊎ (JOURNAL_END ≤ a)) × (a + n ≤ length m)

-- Undo is defined: the gate counts no more pairs than the journal has, and each of them names a data word.
pub record IsSound (m : List ℕ) : Type 0 where
  pub room : gate m ≤ PAIRS
  pub places : All (λ p. IsDataAddress m p.address) (pairs m)

-- Undo isn't defined.
abbrev pub IsBadJournal : List ℕ → Type 0
IsBadJournal m = ¬ IsSound m
