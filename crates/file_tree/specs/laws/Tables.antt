-- The table of entries, entry by entry, and which words it depends on.
use Rattle.std.specs.Prelude.{◌≡◌, ◌≢◌, ◌<◌, ◌≤◌, ◌+◌, ◌==◌, ℕ, zero, suc, Bool, if◌then◌else◌, List, [], ◌∷◌, ◌++◌}
use Rattle.std.specs.Prelude.{map}
use Rattle.std.specs.Prelude.{length, take, slice_index, slice_index_or, Option, Some, None}
use Rattle.std.specs.List.{range_with_len, cons_option}
use Rattle.std.proofs.Common.{refl, ◌∙◌, ap, ap₂, arith, inl, inr, append-nil}
use Rattle.std.proofs.lemmas.Bool.Decides.{eqb_tells}
use Rattle.std.proofs.lemmas.List.{get_or_past, take_more}
use Rattle.std.proofs.lemmas.List.Elements.{filter_map-append}
use Rattle.block_chain.specs.BlockWords.{page_words}
use Rattle.file_tree.specs.declared.entry.Entry.{Entry}
use Rattle.block_chain.specs.declared.chain.Extent.{Extent}
use Rattle.file_tree.specs.Entries.{free_entry, entry_by, entry_told, entry_of, extent_of}
use Rattle.file_tree.specs.Table.{table, entry_in, extents}

-- An entry depends on words 0 to 10 of its page.
pub entry_of-same : (v w : List ℕ) → ((k : ℕ) → k < 11 → slice_index w k ≡ slice_index v k) → entry_of w ≡ entry_of v
unfolding entry_of
entry_of-same v w same =
    let at0 = same 0 (omega arith) in
    let at1 = same 1 (omega arith) in
    let at2 = same 2 (omega arith) in
    let at3 = same 3 (omega arith) in
    let at4 = same 4 (omega arith) in
    let at5 = same 5 (omega arith) in
    let at6 = same 6 (omega arith) in
    let at7 = same 7 (omega arith) in
    let at8 = same 8 (omega arith) in
    let at9 = same 9 (omega arith) in
    let at10 = same 10 (omega arith) in
    λ i. if at0 i == 0 then free_entry else
    entry_by (at0 i) (at1 i) (at2 i) (at3 i) (at4 i) (at5 i) (at6 i) (at7 i) (at8 i) (at9 i) (at10 i)

-- what the words of a page say where word 0 is 0, and else
pub entry_of-free : (w : List ℕ) → slice_index w 0 ≡ 0 → entry_of w ≡ free_entry
unfolding entry_of
entry_of-free w none = elim (eqb_tells (slice_index w 0) 0) [
  | inl same ↦ ap (λ (b : Bool). if b then free_entry else entry_told w) same.0
  | inr other ↦ absurd (other.1 none)
]

pub entry_of-used : (w : List ℕ) → slice_index w 0 ≢ 0 → entry_of w ≡ entry_told w
unfolding entry_of
entry_of-used w some = elim (eqb_tells (slice_index w 0) 0) [
  | inl same ↦ absurd (some same.1)
  | inr other ↦ ap (λ (b : Bool). if b then free_entry else entry_told w) other.0
]

length-mapped : (f : ℕ → Entry) (a n : ℕ) → length (map f (range_with_len a n)) ≡ n
length-mapped f a zero = refl
length-mapped f a (suc n) = ap suc (length-mapped f (a + 1) n)

pub index-mapped : (f : ℕ → Entry) (a n e : ℕ) → e < n
    → slice_index_or (map f (range_with_len a n)) e free_entry ≡ f (a + e)
index-mapped f a zero e lt = absurd (omega arith)
index-mapped f a (suc n) zero lt = let place : a ≡ a + zero = omega arith in ap f place
index-mapped f a (suc n) (suc e) lt =
    let below : e < n = omega arith in
    let place : a + 1 + e ≡ a + suc e = omega arith in
    index-mapped f (a + 1) n e below ∙ ap f place

pub length-table : (m : List ℕ) → length (table m) ≡ 64
unfolding table
length-table m = length-mapped (λ page. entry_of (page_words m page)) 1 64

-- the entry of a number is on the page behind as many others
pub entry_in-table : (m : List ℕ) (e : ℕ) → e < 64 → entry_in (table m) e ≡ entry_of (page_words m (1 + e))
unfolding table
entry_in-table m e lt = index-mapped (λ page. entry_of (page_words m page)) 1 64 e lt

-- past the table no entry is used
pub entry_past : (t : List Entry) (e : ℕ) → length t ≤ e → entry_in t e ≡ free_entry
entry_past t e past = get_or_past t e free_entry past

pub mapped-same : (f g : ℕ → Entry) (a n : ℕ) → ((k : ℕ) → a ≤ k → k < a + n → g k ≡ f k)
    → map g (range_with_len a n) ≡ map f (range_with_len a n)
mapped-same f g a zero same = refl
mapped-same f g a (suc n) same = ap₂ (λ (x : Entry) (xs : List Entry). x ∷ xs) (same a (omega arith) (omega arith))
    (mapped-same f g (a + 1) n (λ k from below. same k (omega (arith, from)) (omega (arith, below))))

-- The table depends on the pages of entries alone.
pub table-same : (m n : List ℕ) → ((page : ℕ) → 1 ≤ page → page < 65 → page_words n page ≡ page_words m page)
    → table n ≡ table m
unfolding table
table-same m n same = mapped-same (λ page. entry_of (page_words m page)) (λ page. entry_of (page_words n page)) 1 64
    (λ page from below. ap entry_of (same page from below))

-- the extents of the entries up to one, that one among them
pub extents_some : (t : List Entry) (k : ℕ) (d : Entry) (x : Extent) → k < length t
    → extent_of (slice_index_or t k d) ≡ Some x
    → extents (take (k + 1) t) ≡ extents (take k t) ++ x ∷ []
extents_some t k d x lt is = ap extents (take_more t k d lt)
    ∙ filter_map-append extent_of (take k t) (slice_index_or t k d ∷ [])
    ∙ ap (λ (o : Option Extent). extents (take k t) ++ cons_option o []) is

pub extents_none : (t : List Entry) (k : ℕ) (d : Entry) → k < length t → extent_of (slice_index_or t k d) ≡ None
    → extents (take (k + 1) t) ≡ extents (take k t)
extents_none t k d lt is = ap extents (take_more t k d lt)
    ∙ filter_map-append extent_of (take k t) (slice_index_or t k d ∷ [])
    ∙ ap (λ (o : Option Extent). extents (take k t) ++ cons_option o []) is
    ∙ append-nil (extents (take k t))

pub ruleset extents_pushed = (extents_some, extents_none)

-- an entry of the table, whatever stands past its end
pub entry_within : (t : List Entry) (e : ℕ) (d : Entry) → e < length t → slice_index_or t e d ≡ entry_in t e
entry_within [] e d lt = absurd (omega arith)
entry_within (x ∷ t) zero d lt = refl
entry_within (x ∷ t) (suc e) d lt = let below : e < length t = omega arith in entry_within t e d below
