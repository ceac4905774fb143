-- The entries of the factory's memory: the master file's, the elementary file's, and free ones.
use Rattle.std.proofs.Common.{◌≡◌, ◌⊎◌, ◌<◌, ◌≤◌, ◌+◌, ℕ, zero, suc, List, [], ◌∷◌, length, map, replicate, refl, sym}
use Rattle.std.proofs.Common.{◌∙◌}
use Rattle.file_tree.specs.laws.Costs.{sum-cons}
use Rattle.std.proofs.Common.{cond, ◌==◌, slice_index_or, All, ap, ap₂, subst, arith, inl, inr, lit<, lit≤}
use Rattle.std.specs.List.{range_with_len, filter_map, count_by}
use Rattle.block_chain.specs.declared.chain.Extent.{Extent}
use Rattle.block_chain.specs.BlockWords.{page_words}
use Rattle.file_tree.specs.declared.entry.Entry.{Entry}
use Rattle.file_tree.specs.Entries.{free_entry, entry_of, name_of, extent_of}
use Rattle.file_tree.specs.Table.{table, entry_in, ancestor, path_in, path_of, extents, free_entries}
use Rattle.file_tree.specs.Table.{IsUsed, IsEntry, IsTable, IsBelowMaster}
use Rattle.card_start.specs.Factory.{factory_master, factory_file}

-- the entries of the two files
abbrev pub master_entry : Entry
master_entry = entry_of factory_master

abbrev pub file_entry : Entry
file_entry = entry_of factory_file

-- the two entries, and n free ones
abbrev pub entries_with : ℕ → List Entry
entries_with n = master_entry ∷ file_entry ∷ replicate n free_entry

-- pages that tell free entries
free_pages : (m : List ℕ) (a n : ℕ) → ((page : ℕ) → a ≤ page → page < a + n
    → entry_of (page_words m page) ≡ free_entry)
    → map (λ page. entry_of (page_words m page)) (range_with_len a n) ≡ replicate n free_entry
free_pages m a zero free = refl
free_pages m a (suc n) free = ap₂ (λ (x : Entry) (xs : List Entry). x ∷ xs) (free a (omega arith) (omega arith))
    (free_pages m (a + 1) n (λ page from below. free page (omega (arith, from)) (omega (arith, below))))

pub table_is : (m : List ℕ) → page_words m 1 ≡ factory_master → page_words m 2 ≡ factory_file
    → ((page : ℕ) → 3 ≤ page → page < 65 → entry_of (page_words m page) ≡ free_entry) → table m ≡ entries_with 62
unfolding table
table_is m master file free = ap₂ (λ (x : Entry) (xs : List Entry). x ∷ xs) (ap entry_of master)
    (ap₂ (λ (x : Entry) (xs : List Entry). x ∷ xs) (ap entry_of file) (free_pages m 3 62 free))

-- past the two files stand free entries
free_from : (n k : ℕ) (d : Entry) → k < n → slice_index_or (replicate n free_entry) k d ≡ free_entry
free_from zero k d lt = absurd (omega arith)
free_from (suc n) zero d lt = refl
free_from (suc n) (suc k) d lt = let below : k < n = omega arith in free_from n k d below

free_anywhere : (n k : ℕ) → slice_index_or (replicate n free_entry) k free_entry ≡ free_entry
free_anywhere zero k = refl
free_anywhere (suc n) zero = refl
free_anywhere (suc n) (suc k) = free_anywhere n k

used_below : (n e : ℕ) → 0 < e → IsUsed (entries_with n) e → e ≡ 1
used_below n zero low used = absurd (omega arith)
used_below n (suc zero) low used = refl
used_below n (suc (suc e)) low used = absurd (used (ap (λ (x : Entry). x.kind) (free_anywhere n e)))

-- a kind below 3 is no kind of records
no_records : (kind : ℕ) → kind < 3 → (kind ≡ 3) ⊎ (kind ≡ 4) → ⊥
no_records kind low (inl is) = omega (arith, is, low)
no_records kind low (inr is) = omega (arith, is, low)

master_rules : IsEntry master_entry
unfolding entry_of lib.Count.ones
master_rules = record {
  free = λ none. absurd (let z : ⊥ = omega (arith, none) in z);
  used = λ _. record {
    kind = lit≤ tt;
    life = refl;
    identifier = ((λ is. let z : ⊥ = omega (arith, is) in z), (λ is. let z : ⊥ = omega (arith, is) in z));
    short = record { most = lit≤ tt; of_ef = λ _. refl };
    name = record { most = lit≤ tt; of_df = λ _. refl };
    rule = record { most = lit≤ tt; rule = refl };
    body = record {
      transparent = λ is. absurd (let z : ⊥ = omega (arith, is) in z);
      records = λ is. absurd (no_records 1 (lit< tt) is);
    };
  };
}

file_rules : IsEntry file_entry
unfolding entry_of lib.Count.ones
file_rules = record {
  free = λ none. absurd (let z : ⊥ = omega (arith, none) in z);
  used = λ _. record {
    kind = lit≤ tt;
    life = refl;
    identifier = ((λ is. let z : ⊥ = omega (arith, is) in z), (λ is. let z : ⊥ = omega (arith, is) in z));
    short = record { most = lit≤ tt; of_ef = λ is. absurd (let z : ⊥ = omega (arith, is) in z) };
    name = record { most = lit≤ tt; of_df = λ _. refl };
    rule = record { most = lit≤ tt; rule = refl };
    body = record {
      transparent = λ _. record {
        some = lit≤ tt;
        size = lit≤ tt;
        record_length = refl;
        records = refl;
        start =
            refl;
      };
      records = λ is. absurd (no_records 2 (lit< tt) is);
    };
  };
}

free_rules : IsEntry free_entry
free_rules = record { free = λ _. (refl, refl); used = λ some. absurd (some refl) }

each_rules : (n : ℕ) → All IsEntry (entries_with n)
each_rules n zero d lt = master_rules
each_rules n (suc zero) d lt = file_rules
each_rules n (suc (suc k)) d lt =
    let is_entry : Entry → Type 0 = λ x. IsEntry x in
    subst is_entry (sym (free_from n k d (let l : length (replicate n free_entry) ≡ n = length_free n in
    omega (arith, lt, l)))) free_rules
  where
    length_free : (k : ℕ) → length (replicate k free_entry) ≡ k
    length_free zero = refl
    length_free (suc k) = ap suc (length_free k)

below_rules : (n : ℕ) → IsBelowMaster (entries_with n) 1
unfolding entry_of ancestor
below_rules n = record { parent = refl; level = refl; identifier = λ is. let z : ⊥ = omega (arith, is) in z }

-- no name has a byte
no_name : (n e : ℕ) → IsUsed (entries_with n) e → length (name_of (entry_in (entries_with n) e)) ≡ 0
unfolding entry_of
no_name n zero used = refl
no_name n (suc zero) used = refl
no_name n (suc (suc e)) used = absurd (used (ap (λ (x : Entry). x.kind) (free_anywhere n e)))

pub rules_hold : (n : ℕ) → IsTable (entries_with n)
unfolding entry_of
rules_hold n = record {
  each = each_rules n;
  master = record { kind = refl; identifier = refl; parent = refl };
  below = λ e low used.
      let is_below : ℕ → Type 0 = λ k. IsBelowMaster (entries_with n) k in
      subst is_below (sym (used_below n e low used)) (below_rules n);
  identifiers = λ df e f one other same. used_below n e one.below one.used
      ∙ sym (used_below n f other.below other.used);
  short_identifiers = λ df e f one other some same. used_below n e one.below one.used
      ∙ sym (used_below n f other.below other.used);
  names = λ e f one other some same. absurd (let none = no_name n e one in omega (arith, none, some));
}

-- the extent of the elementary file
free_extents : (n : ℕ) → filter_map extent_of (replicate n free_entry) ≡ []
unfolding extent_of
free_extents zero = refl
free_extents (suc n) = free_extents n

pub extents_are : (n : ℕ) → extents (entries_with n)
    ≡ record { chain = record { first = 128; last = 128 }; blocks = 1 } ∷ []
unfolding extent_of entry_of
extents_are n = ap (λ (xs : List Extent). record { chain = record { first = 128; last = 128 }; blocks = 1 } ∷ xs)
    (free_extents n)

-- the paths of the two files
pub file_path : (n : ℕ) → path_of (entries_with n) 1 ≡ 0x2FE2 ∷ []
unfolding path_in entry_of
file_path n = refl

pub none_used : (n e : ℕ) → 2 ≤ e → (entry_in (entries_with n) e).kind ≡ 0
none_used n zero from = absurd (omega arith)
none_used n (suc zero) from = absurd (omega arith)
none_used n (suc (suc e)) from = ap (λ (x : Entry). x.kind) (free_anywhere n e)

-- and the kinds of the two files
pub master_kind : (n : ℕ) → (entry_in (entries_with n) 0).kind ≡ 1
unfolding entry_of
master_kind n = refl

pub file_kind : (n : ℕ) → (entry_in (entries_with n) 1).kind ≡ 2
unfolding entry_of
file_kind n = refl

-- as many entries are free as there are behind the two
free_counted : (n : ℕ) → count_by (λ (x : Entry). x.kind == 0) (replicate n free_entry) ≡ n
free_counted zero = refl
free_counted (suc n) =
    let rest = free_counted n in
    let one = sum-cons (λ (x : Entry). cond (x.kind == 0) 1 0) free_entry (replicate n free_entry) in
    omega (arith, rest, one)

pub free_ones : (n : ℕ) → free_entries (entries_with n) ≡ n
unfolding entry_of
free_ones n =
    let rest = free_counted n in
    let first = sum-cons (λ (x : Entry). cond (x.kind == 0) 1 0) master_entry (file_entry ∷ replicate n free_entry) in
    let second = sum-cons (λ (x : Entry). cond (x.kind == 0) 1 0) file_entry (replicate n free_entry) in
    omega (arith, rest, first, second)
