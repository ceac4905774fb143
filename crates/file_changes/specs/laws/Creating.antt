-- What an entry more makes of the tree, once its blocks are laid out: one file more, and all others stay.
use Rattle.nvm_board.specs.laws.Sizes.{memory_same}
use Rattle.file_tree.specs.declared.layout.TheConstants.{MARK_WORD, PAGES_WORD}
use Rattle.file_tree.specs.laws.Formats.{laid_as}
use Rattle.file_tree.specs.Formats.{block_count, SameFormat}
use Rattle.nvm_board.specs.Facts.{IsMemory}
use Rattle.std.specs.Prelude.{◌≡◌, ◌≢◌, ◌⊎◌, ◌<◌, ◌≤◌, ◌+◌, ◌-◌, ℕ, zero, suc, List, [], ◌∷◌, ◌++◌, map, length}
use Rattle.std.specs.Prelude.{take, drop, Option, None, Some, All, Bool, ◌==◌, if◌then◌else◌}
use Rattle.std.specs.List.{range_with_len, cons_option}
use Rattle.std.specs.FinMap.{insert}
use Rattle.std.proofs.Common.{refl, sym, ◌∙◌, ap, subst, arith, inl, inr, ⊎_elim}
use Rattle.std.proofs.lemmas.Bool.{cases_lt}
use Rattle.std.proofs.lemmas.Bool.Decides.{eqb_tells}
use Rattle.std.proofs.lemmas.List.Elements.{filter_map-append}
use Rattle.nvm_board.specs.declared.board.TheConstants.{PAGE_WORDS}
use Rattle.block_chain.specs.declared.layout.TheConstants.{HEADER_PAGE, FREE_HEAD_WORD}
use Rattle.block_chain.specs.declared.chain.Extent.{Extent}
use Rattle.block_chain.specs.BlockWords.{word, page_words}
use Rattle.block_chain.specs.Chains.{bytes_of, free_chain}
use Rattle.block_chain.specs.ChainChanges.{KeepsBlocks, Takes}
use Rattle.block_chain.specs.Layout.{blocks_of, laid_out, IsOf, AreLaid, SameBytes}
use Rattle.block_chain.specs.laws.Extents.{all_around, all_right}
use Rattle.block_chain.specs.laws.Footprints.{page_words_same, laid_elsewhere}
use Rattle.block_chain.specs.laws.Relaying.{laid_taken, taken_bytes}
use Rattle.file_tree.specs.declared.entry.Entry.{Entry}
use Rattle.file_tree.specs.Entries.{entry_of, file_of, extent_of, extent_told}
use Rattle.card_model.specs.Spaces.{blocks_for}
use Rattle.file_tree.specs.Table.{table, entry_in, path_of, extents, free_entries, IsUsed, IsTable}
use Rattle.file_tree.specs.Trees.{content, tree_of, TreeStands, file_in}
use Rattle.file_tree.specs.TreeChanges.{Creates}
use Rattle.file_changes.specs.CreationParts.{WritesEntry}
use Rattle.file_tree.specs.laws.Tables.{length-table, entry_in-table, entry_past, mapped-same}
use Rattle.file_tree.specs.laws.Nodes.{used_small}
use Rattle.file_tree.specs.laws.Costs.{extent_of-none, extent_of-some, all_extents}
use Rattle.file_tree.specs.laws.Contents.{content-none, content-some}
use Rattle.file_tree.specs.laws.Changing.{tree_inserted}
use Rattle.file_tree.specs.laws.Rewriting.{free_inside, none_outside}
use Rattle.file_changes.specs.laws.Deleting.{on_page}
use Rattle.file_changes.specs.laws.Parting.{one_less_free}
use Rattle.file_changes.specs.laws.Adding.{MayStand, rules_hold, used_now, used_before, new_used, path_stays, new_path}

-- a range around one of its numbers
range_around : (a i j : ℕ) → range_with_len a (i + suc j) ≡ range_with_len a i ++ (a + i) ∷ range_with_len (a + i + 1) j
range_around a zero j =
    let z : zero + suc j ≡ suc j = omega arith in
    let here : a ≡ a + 0 = omega arith in
    ap (range_with_len a) z ∙ (λ k. here k ∷ range_with_len (here k + 1) j)
range_around a (suc i) j =
    let n : suc i + suc j ≡ suc (i + suc j) = omega arith in
    let at : a + 1 + i ≡ a + suc i = omega arith in
    ap (range_with_len a) n ∙ ap (λ (xs : List ℕ). a ∷ xs) (range_around (a + 1) i j)
    ∙ (λ k. a ∷ range_with_len (a + 1) i ++ at k ∷ range_with_len (at k + 1) j)

map-append : (f : ℕ → Entry) (xs ys : List ℕ) → map f (xs ++ ys) ≡ map f xs ++ map f ys
map-append f [] ys = refl
map-append f (x ∷ xs) ys = ap (λ (zs : List Entry). f x ∷ zs) (map-append f xs ys)

-- the extents of the entries before one and behind it
abbrev pub before : List ℕ → ℕ → List Extent
before m e = extents (map (on_page m) (range_with_len 1 e))

abbrev pub behind : List ℕ → ℕ → List Extent
behind m e = extents (map (on_page m) (range_with_len (1 + e + 1) (63 - e)))

pub extents_around : (m : List ℕ) (e : ℕ) → e < 64
    → extents (table m) ≡ before m e ++ cons_option (extent_of (entry_in (table m) e)) (behind m e)
unfolding table
extents_around m e lt =
    let whole : 64 ≡ e + suc (63 - e) = omega (arith, lt) in
    let here = sym (entry_in-table m e lt) in
    ap (λ (n : ℕ). extents (map (on_page m) (range_with_len 1 n))) whole
    ∙ ap (λ (ps : List ℕ). extents (map (on_page m) ps)) (range_around 1 e (63 - e))
    ∙ ap extents (map-append (on_page m) (range_with_len 1 e) ((1 + e) ∷ range_with_len (1 + e + 1) (63 - e)))
    ∙ filter_map-append extent_of (map (on_page m) (range_with_len 1 e))
    (map (on_page m) ((1 + e) ∷ range_with_len (1 + e + 1) (63 - e)))
    ∙ ap (λ (x : Entry). before m e ++ cons_option (extent_of x) (behind m e)) here

-- what holds of extents around one that may be there holds of them without it
all_without : (P : Extent → Type 0) (xs ys : List Extent) (o : Option Extent)
    → All P (xs ++ cons_option o ys) → All P (xs ++ ys)
all_without P xs ys None all = all
all_without P xs ys (Some e) all = all_around P xs ys e all

-- and of that one
all_here : (P : Extent → Type 0) (xs ys : List Extent) (o : Option Extent) (e : Extent) → o ≡ Some e
    → All P (xs ++ cons_option o ys) → P e
all_here P xs ys o e is all =
    let family : Option Extent → Type 0 = λ p. All P (xs ++ cons_option p ys) in
    all_right P xs (e ∷ ys) (subst family is all) 0 e (omega arith)

-- The blocks are laid out for one entry more, of which the words are written then.
module _ (m mid after : List ℕ) (e df : ℕ) (x : Entry) (sized : IsMemory m) (stands : TreeStands m) (few : e < 64)
    (free : (entry_in (table m) e).kind ≡ 0) (may : MayStand (table m) df x) (size : length mid ≡ length m)
    (words : (page place : ℕ) → place < PAGE_WORDS → (IsOf (block_count m) page → ⊥)
    → (page ≢ HEADER_PAGE) ⊎ (place ≢ FREE_HEAD_WORD)
    → word mid page place ≡ word m page place)
    (laid : AreLaid (block_count m) mid (before m e ++ cons_option (extent_of x) (behind m e)))
    (bytes : All (SameBytes m mid) (extents (table m))) (writes : WritesEntry mid e x after) where
  header : (place : ℕ) → place < PAGE_WORDS → place ≢ FREE_HEAD_WORD
      → word after HEADER_PAGE place ≡ word m HEADER_PAGE place
  header place small other = writes.others HEADER_PAGE place small (λ is. let z : ⊥ = omega (arith, is) in z)
      ∙ words HEADER_PAGE place small (λ block. let low = block.0 in let z : ⊥ = omega (arith, low) in z) (inr other)

  same_format : SameFormat m after
  same_format = record {
    mark = header MARK_WORD (omega arith) (omega arith);
    pages = header PAGES_WORD (omega arith) (omega arith);
  }

  keeps : KeepsBlocks (block_count m) mid after
  keeps = record {
    size = writes.size;
    words = λ page place block small. writes.others page place small
        (λ is. let low = block.0 in let z : ⊥ = omega (arith, is, few, low) in z);
    head = writes.others HEADER_PAGE FREE_HEAD_WORD (omega arith) (λ is. let z : ⊥ = omega (arith, is) in z);
  }

  other_page : (page : ℕ) → 1 ≤ page → page < 65 → page ≢ 1 + e → page_words after page ≡ page_words m page
  other_page page from below differs =
      page_words_same mid after page (omega (arith, sized, size, below)) writes.size
      (λ place small. writes.others page place small differs)
      ∙ page_words_same m mid page (omega (arith, sized, below)) size (λ place small. words page place small
      (λ block. let low = block.0 in let z : ⊥ = omega (arith, low, below) in z)
      (inl (λ is. let z : ⊥ = omega (arith, is, from) in z)))

  here : entry_in (table after) e ≡ x
  here = entry_in-table after e few ∙ writes.entry

  others : (f : ℕ) → f ≢ e → entry_in (table after) f ≡ entry_in (table m) f
  others f differs = ⊎_elim
      (λ (lt : f < 64).
      entry_in-table after f lt
      ∙ ap entry_of
      (other_page (1 + f) (omega arith) (omega (arith, lt)) (λ is. differs (let z : f ≡ e = omega (arith, is) in z)))
      ∙ sym (entry_in-table m f lt))
      (λ (past : 64 ≤ f).
      let a = length-table after in
      let b = length-table m in
      entry_past (table after) f (omega (arith, a, past)) ∙ sym (entry_past (table m) f (omega (arith, b, past))))
      (cases_lt f 64)

  rules_after : IsTable (table after)
  rules_after = rules_hold (table m) (table after) e df x stands.entries (length-table m) (length-table after)
      free few here others may

  extents_after : extents (table after) ≡ before m e ++ cons_option (extent_of x) (behind m e)
  extents_after =
      let front : before after e ≡ before m e = ap extents (mapped-same (on_page m) (on_page after) 1 e
      (λ page from below. ap entry_of
      (other_page page from (omega (arith, below, few)) (λ is. let z : ⊥ = omega (arith, is, below) in z)))) in
      let back : behind after e ≡ behind m e = ap extents (mapped-same (on_page m) (on_page after) (1 + e + 1) (63 - e)
      (λ page from below. ap entry_of (other_page page (omega (arith, from)) (omega (arith, below, few))
      (λ is. let z : ⊥ = omega (arith, is, from) in z)))) in
      extents_around after e few
      ∙ (λ i. front i ++ cons_option (extent_of (here i)) (back i))

  moved : AreLaid (block_count m) after (before m e ++ cons_option (extent_of x) (behind m e))
      × (free_chain after ≡ free_chain mid)
      × All (SameBytes mid after) (before m e ++ cons_option (extent_of x) (behind m e))
  moved = laid_elsewhere (block_count m) mid after (before m e ++ cons_option (extent_of x) (behind m e))
      (memory_same m mid size sized) laid keeps

  pub created_free : free_chain after ≡ free_chain mid
  created_free = moved.1

  stands_after : TreeStands after
  stands_after = record {
    entries = rules_after;
    blocks =
        laid_as m after _ same_format (let family : List Extent → Type 0 = λ es. AreLaid (block_count m) after es in
        subst family (sym extents_after) moved.0);
  }

  -- one entry less is free
  pub created_entries : free_entries (table m) ≡ free_entries (table after) + 1
  unfolding table
  created_entries =
      let here_page : on_page after (1 + e) ≡ x = writes.entry in
      let was : (on_page m (1 + e)).kind ≡ 0 = sym (ap (λ (y : Entry). y.kind) (entry_in-table m e few)) ∙ free in
      let same : (page : ℕ) → page ≢ 1 + e → 1 ≤ page → page < 65 → on_page after page ≡ on_page m page =
      λ page differs from below. ap entry_of (other_page page from below differs) in
      free_by_page same was (λ none. may.used (sym (ap (λ (y : Entry). y.kind) here_page) ∙ none))
    where
      free_by_page : ((page : ℕ) → page ≢ 1 + e → 1 ≤ page → page < 65 → on_page after page ≡ on_page m page)
          → (on_page m (1 + e)).kind ≡ 0 → (on_page after (1 + e)).kind ≢ 0
          → free_entries (map (on_page m) (range_with_len 1 64))
          ≡ free_entries (map (on_page after) (range_with_len 1 64)) + 1
      free_by_page same was now =
          let g : ℕ → Entry = λ page. if page == 1 + e then on_page after (1 + e) else on_page m page in
          let at : g (1 + e) ≡ on_page after (1 + e) = elim (eqb_tells (1 + e) (1 + e)) [
            | inl is ↦ ap (λ (b : Bool). if b then on_page after (1 + e) else on_page m (1 + e)) is.0
            | inr other ↦ absurd (other.1 refl)
          ] in
          let off : (k : ℕ) → k ≢ 1 + e → g k ≡ on_page m k = λ k differs. elim (eqb_tells k (1 + e)) [
            | inl is ↦ absurd (differs is.1)
            | inr other ↦ ap (λ (b : Bool). if b then on_page after (1 + e) else on_page m k) other.0
          ] in
          let count = one_less_free (on_page m) g (1 + e) was (λ none. now (sym (ap (λ (y : Entry). y.kind) at) ∙ none))
          off 1 64 (omega arith) (omega (arith, few)) in
          let all : map (on_page after) (range_with_len 1 64) ≡ map g (range_with_len 1 64) =
          mapped-same g (on_page after) 1 64 (λ k from below. elim (eqb_tells k (1 + e)) [
            | inl is ↦ ap (on_page after) is.1 ∙ sym at ∙ ap g (sym is.1)
            | inr other ↦ same k other.1 from (omega (arith, below)) ∙ sym (off k other.1)
          ]) in
          let counted = ap free_entries all in
          omega (arith, count, counted)

  -- the extents that were there
  were : extents (table m) ≡ before m e ++ behind m e
  were =
      let none : extent_of (entry_in (table m) e) ≡ None =
      extent_of-none (entry_in (table m) e) (omega (arith, free)) in
      extents_around m e few ∙ ap (λ (o : Option Extent). before m e ++ cons_option o (behind m e)) none

  abbrev KeptBytes : Extent → Type 0
  KeptBytes k = bytes_of after (blocks_of after k) ≡ bytes_of m (blocks_of m k)

  kept_bytes : All KeptBytes (extents (table m))
  kept_bytes =
      let family : List Extent → Type 0 = λ es. All (SameBytes mid after) es in
      let now = subst family (sym were)
      (all_without (λ k. SameBytes mid after k) (before m e) (behind m e) (extent_of x) moved.2) in
      λ i d lt.
      let a = now i d lt in
      let b = bytes i d lt in
      ap (bytes_of after) a.0 ∙ a.1 ∙ ap (bytes_of mid) b.0 ∙ b.1

  pub file_stays : (f : ℕ) → IsUsed (table m) f → file_in after f ≡ file_in m f
  file_stays f used =
      let y = entry_in (table m) f in
      let entry = others f (λ is. used (ap (λ (k : ℕ). (entry_in (table m) k).kind) is ∙ free)) in
      let same : content after y ≡ content m y = ⊎_elim
      (λ (low : y.kind < 2). content-none after y low ∙ sym (content-none m y low))
      (λ (high : 2 ≤ y.kind).
      let long = length-table m in
      let small = used_small m f used in
      content-some after y high
      ∙ all_extents KeptBytes (table m) kept_bytes f (omega (arith, long, small))
      (extent_told y) (extent_of-some y high)
      ∙ sym (content-some m y high))
      (cases_lt y.kind 2) in
      ap (λ (z : Entry). file_of z (content after z)) entry ∙ ap (file_of y) same

  -- the new file has the bytes that its blocks had
  own_content : content after x ≡ content mid x
  own_content = ⊎_elim
      (λ (low : x.kind < 2). content-none after x low ∙ sym (content-none mid x low))
      (λ (high : 2 ≤ x.kind).
      let own = all_here (λ k. SameBytes mid after k) (before m e) (behind m e) (extent_of x) (extent_told x)
      (extent_of-some x high) moved.2 in
      content-some after x high ∙ ap (bytes_of after) own.0 ∙ own.1 ∙ sym (content-some mid x high))
      (cases_lt x.kind 2)

  pub created_used : IsUsed (table after) e
  created_used = new_used (table m) (table after) e df x stands.entries (length-table m) (length-table after)
      free few here others may

  pub created_path : path_of (table after) e ≡ path_of (table m) df ++ x.identifier ∷ []
  created_path = new_path (table m) (table after) e df x stands.entries (length-table m) (length-table after)
      free few here others may

  -- One file more stands in the tree.
  pub created : Creates m df x.identifier (file_of x (content mid x)) after
  created =
      let before_used : (f : ℕ) → f ≢ e → IsUsed (table after) f → IsUsed (table m) f =
      used_before (table m) (table after) e df x stands.entries (length-table m) (length-table after)
      free few here others may in
      let now_used : (f : ℕ) → IsUsed (table m) f → IsUsed (table after) f =
      used_now (table m) (table after) e df x stands.entries (length-table m) (length-table after)
      free few here others may in
      let paths : (f : ℕ) → IsUsed (table m) f → path_of (table after) f ≡ path_of (table m) f =
      path_stays (table m) (table after) e df x stands.entries (length-table m) (length-table after)
      free few here others may in
      let own : file_in after e ≡ file_of x (content mid x) =
      ap (λ (z : Entry). file_of z (content after z)) here ∙ ap (file_of x) own_content in
      record {
        tree = tree_inserted m after stands.entries rules_after e created_used
            (λ f differs used. (before_used f differs used, file_stays f (before_used f differs used)))
            (λ f used. (now_used f used, paths f used))
            ∙ (λ i. insert (tree_of m) (created_path i) (own i));
        stands = stands_after;
        rest = record {
          size = writes.size ∙ size;
          words = λ page place small entry block header.
              writes.others page place small (λ is. entry (omega (arith, is), omega (arith, is, few)))
              ∙ words page place small block header;
        };
      }

-- A dedicated file has no blocks: its entry alone is written.
module _ (m after : List ℕ) (e df : ℕ) (x : Entry) (sized : IsMemory m) (stands : TreeStands m) (few : e < 64)
    (free : (entry_in (table m) e).kind ≡ 0) (may : MayStand (table m) df x) (is : x.kind ≡ 1)
    (writes : WritesEntry m e x after) where
  df_laid : AreLaid (block_count m) m (before m e ++ cons_option (extent_of x) (behind m e))
  df_laid =
      let family : List Extent → Type 0 = λ es. AreLaid (block_count m) m es in
      let none : extent_of (entry_in (table m) e) ≡ None =
      extent_of-none (entry_in (table m) e) (omega (arith, free)) in
      let own : extent_of x ≡ None = extent_of-none x (omega (arith, is)) in
      subst family (extents_around m e few
      ∙ ap (λ (o : Option Extent). before m e ++ cons_option o (behind m e)) (none ∙ sym own)) stands.blocks

  pub df_created : Creates m df x.identifier (file_of x []) after
  df_created =
      let all = created m m after e df x sized stands few free may refl (λ page place small outside header. refl)
      df_laid (λ i d lt. (refl, refl)) writes in
      let nothing = content-none m x (omega (arith, is)) in
      let family : List ℕ → Type 0 = λ bytes. Creates m df x.identifier (file_of x bytes) after in
      subst family nothing all

  pub df_path : IsUsed (table after) e × (path_of (table after) e ≡ path_of (table m) df ++ x.identifier ∷ [])
  df_path = (
    created_used m m after e df x sized stands few free may refl (λ page place small outside header. refl) df_laid
        (λ i d lt. (refl, refl)) writes,
    created_path m m after e df x sized stands few free may refl (λ page place small outside header. refl) df_laid
        (λ i d lt. (refl, refl)) writes,
  )

  pub df_entries : free_entries (table m) ≡ free_entries (table after) + 1
  df_entries = created_entries m m after e df x sized stands few free may refl (λ page place small outside header. refl)
      df_laid (λ i d lt. (refl, refl)) writes

  pub df_free : free_chain after ≡ free_chain m
  df_free = created_free m m after e df x sized stands few free may refl (λ page place small outside header. refl)
      df_laid (λ i d lt. (refl, refl)) writes

-- An elementary file takes the first free blocks: they are its extent, with the bytes that they had.
module _ (m mid after : List ℕ) (e df n : ℕ) (x : Entry) (sized : IsMemory m) (stands : TreeStands m) (few : e < 64)
    (free : (entry_in (table m) e).kind ≡ 0) (may : MayStand (table m) df x)
    (high : 2 ≤ x.kind) (blocks : blocks_for x.size ≡ n) (some : 1 ≤ n) (enough : n ≤ length (free_chain m))
    (takes : Takes m n (extent_told x).chain mid) (writes : WritesEntry mid e x after) where
  laid_before : AreLaid (block_count m) m (before m e ++ behind m e)
  laid_before =
      let family : List Extent → Type 0 = λ es. AreLaid (block_count m) m es in
      let none : extent_of (entry_in (table m) e) ≡ None =
      extent_of-none (entry_in (table m) e) (omega (arith, free)) in
      subst family (extents_around m e few
      ∙ ap (λ (o : Option Extent). before m e ++ cons_option o (behind m e)) none) stands.blocks

  abbrev others_of : List Extent
  others_of = before m e ++ behind m e

  taken : AreLaid (block_count m) mid (before m e ++ extent_told x ∷ behind m e)
      × (blocks_of mid (extent_told x) ≡ take n (free_chain m))
      × (free_chain mid ≡ drop n (free_chain m)) × (laid_out mid others_of ≡ laid_out m others_of)
  taken = laid_taken m (before m e) (behind m e) (extent_told x) (block_count m) n mid laid_before
      some enough takes blocks

  ef_laid : AreLaid (block_count m) mid (before m e ++ cons_option (extent_of x) (behind m e))
  ef_laid =
      let family : Option Extent → Type 0 =
      λ o. AreLaid (block_count m) mid (before m e ++ cons_option o (behind m e)) in
      subst family (sym (extent_of-some x high)) taken.0

  had : All (SameBytes m mid) others_of
      × (bytes_of mid (blocks_of mid (extent_told x)) ≡ bytes_of m (take n (free_chain m)))
  had = taken_bytes m (before m e) (behind m e) (extent_told x) (block_count m) n mid sized laid_before takes

  ef_bytes : All (SameBytes m mid) (extents (table m))
  ef_bytes =
      let family : List Extent → Type 0 = λ es. All (SameBytes m mid) es in
      let none : extent_of (entry_in (table m) e) ≡ None =
      extent_of-none (entry_in (table m) e) (omega (arith, free)) in
      subst family
      (sym (extents_around m e few ∙ ap (λ (o : Option Extent). before m e ++ cons_option o (behind m e)) none)) had.0

  ef_words : (page place : ℕ) → place < PAGE_WORDS → (IsOf (block_count m) page → ⊥)
      → (page ≢ HEADER_PAGE) ⊎ (place ≢ FREE_HEAD_WORD) → word mid page place ≡ word m page place
  ef_words page place small outside header = takes.only.others page place small
      (inr (none_outside (block_count m) (take n (free_chain m)) (free_inside m n stands) page outside)) header

  pub ef_created : Creates m df x.identifier (file_of x (bytes_of m (take n (free_chain m)))) after
  ef_created =
      let all = created m mid after e df x sized stands few free may takes.only.size ef_words ef_laid ef_bytes writes in
      let family : List ℕ → Type 0 = λ bytes. Creates m df x.identifier (file_of x bytes) after in
      subst family (content-some mid x high ∙ had.1) all

  pub ef_path : IsUsed (table after) e × (path_of (table after) e ≡ path_of (table m) df ++ x.identifier ∷ [])
  ef_path = (
    created_used m mid after e df x sized stands few free may takes.only.size ef_words ef_laid ef_bytes writes,
    created_path m mid after e df x sized stands few free may takes.only.size ef_words ef_laid ef_bytes writes,
  )

  pub ef_entries : free_entries (table m) ≡ free_entries (table after) + 1
  ef_entries = created_entries m mid after e df x sized stands few free may takes.only.size
      ef_words ef_laid ef_bytes writes

  pub ef_free : free_chain after ≡ drop n (free_chain m)
  ef_free = created_free m mid after e df x sized stands few free may takes.only.size ef_words ef_laid ef_bytes writes
      ∙ taken.2
