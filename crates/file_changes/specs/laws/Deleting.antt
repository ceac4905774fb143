-- What freeing the entries of a file and of all below it, and giving their blocks back, makes of the tree.
use Rattle.nvm_board.specs.laws.Sizes.{memory_same}
use Rattle.file_tree.specs.declared.layout.TheConstants.{MARK_WORD, PAGES_WORD}
use Rattle.file_tree.specs.laws.Formats.{laid_as}
use Rattle.file_tree.specs.Formats.{block_count, SameFormat}
use Rattle.std.specs.Prelude.{◌≡◌, ◌≢◌, ◌==◌, ◌⊎◌, ◌<◌, ◌≤◌, ◌+◌, ◌-◌, ◌&&◌, ℕ, zero, suc, Bool, true, false, not, cond}
use Rattle.std.specs.Prelude.{if◌then◌else◌, List, [], ◌∷◌, ◌++◌, map, length, slice_set, nat_eq, Option, None, Some}
use Rattle.std.specs.Prelude.{is_some, All}
use Rattle.std.specs.List.{range_with_len, starts_with, sum_by}
use Rattle.std.specs.FinMap.{get, retain_keys, get-retain_keys, slice_cmp-IsAntisymmetric, nat_cmp-IsAntisymmetric}
use Rattle.std.proofs.Common.{refl, sym, ◌∙◌, ap, subst, arith, inl, inr, ⊎_elim, true≢false}
use Rattle.std.proofs.lemmas.Bool.{cases_lt, not-true}
use Rattle.std.proofs.lemmas.Bool.Decides.{eqb_tells}
use Rattle.std.proofs.lemmas.List.{length-append}
use Rattle.std.proofs.Math.ListN.{length-set}
use Rattle.nvm_board.specs.Facts.{address, IsMemory}
use Rattle.nvm_board.specs.declared.board.TheConstants.{PAGE_WORDS}
use Rattle.block_chain.specs.declared.layout.TheConstants.{HEADER_PAGE, FREE_HEAD_WORD}
use Rattle.block_chain.specs.declared.chain.Extent.{Extent}
use Rattle.block_chain.specs.Counts.{count}
use Rattle.block_chain.specs.BlockWords.{word, page_words}
use Rattle.block_chain.specs.Chains.{bytes_of, free_chain, HasFree, AreApart}
use Rattle.block_chain.specs.ChainChanges.{GivesBack, KeepsBlocks}
use Rattle.block_chain.specs.Layout.{blocks_of, laid_out, chains_of, IsExtent, IsOf, AreLaid, AreSplit, SameBytes}
use Rattle.block_chain.specs.laws.Words.{index-page_words, word-set_same, word-set_other}
use Rattle.block_chain.specs.laws.Counts.{count-append}
use Rattle.block_chain.specs.laws.Laying.{laid_of}
use Rattle.block_chain.specs.laws.Extents.{laid_has_free, laid_apart, laid_chains_of}
use Rattle.block_chain.specs.laws.Footprints.{page_words_same, laid_elsewhere}
use Rattle.block_chain.specs.laws.Relaying.{given_free, given_bytes, given_laid}
use Rattle.file_tree.specs.declared.entry.Entry.{Entry}
use Rattle.card_model.specs.declared.space.FreeSpace.{FreeSpace}
use Rattle.file_tree.specs.declared.layout.TheConstants.{FIRST_ENTRY_PAGE}
use Rattle.card_model.specs.declared.limits.TheConstants.{ENTRIES}
use Rattle.card_model.specs.FileTrees.{Path, File}
use Rattle.card_model.specs.Spaces.{free_space}
use Rattle.file_tree.specs.Entries.{free_entry, entry_of, file_of, name_of, extent_told}
use Rattle.file_tree.specs.Table.{table, entry_in, ancestor, path_in, path_of, extents, free_entries, IsUsed, IsChild}
use Rattle.file_tree.specs.Table.{IsEntry, IsMasterFile, IsTable}
use Rattle.file_tree.specs.Trees.{content, tree_of, TreeStands, file_in}
use Rattle.file_tree.specs.TreeChanges.{KeepsRest, Deletes, with_freed}
use Rattle.file_tree.specs.Subtrees.{leads_up}
use Rattle.file_changes.specs.DeletionParts.{is_gone, going, part_below, FreesUpTo, FreesEntries}
use Rattle.file_tree.specs.laws.Tables.{length-table, entry_in-table, entry_of-free, entry_past, entry_within}
use Rattle.file_tree.specs.laws.Tables.{index-mapped, table-same}
use Rattle.file_tree.specs.laws.Rewriting.{none_outside}
use Rattle.file_tree.specs.laws.Paths.{parent_used}
use Rattle.file_tree.specs.laws.Nodes.{used_small, get-used, entry_found}
use Rattle.file_tree.specs.laws.Costs.{space_counted, laid_blocks, all_extents, extent_of-some}
use Rattle.file_tree.specs.laws.Contents.{content-none, content-some}
use Rattle.file_tree.specs.laws.Changing.{HasEntryAt, same_tree}
use Rattle.file_tree.specs.laws.Subtrees.{and_false, within_path, parent_out, master_out}
use Rattle.file_changes.specs.laws.Parting.{staying, GoesOrStays, parts_split, parts_all, parts_free, extents_have}
use Rattle.file_changes.specs.laws.Parting.{shifted}

-- The table after: entries stay, but those that go are free.
module _ (t s : List Entry) (top : ℕ) (rules : IsTable t) (above : 0 < top) (used_top : IsUsed t top)
    (size : length t ≡ 64) (long : length s ≡ 64) (each : (f : ℕ) → f < 64 → entry_in s f ≡ staying t top f) where
  past : (u : List Entry) → length u ≡ 64 → (f : ℕ) → 64 ≤ f → entry_in u f ≡ free_entry
  past u l f from = entry_past u f (omega (arith, l, from))

  used_in : (u : List Entry) → length u ≡ 64 → (f : ℕ) → IsUsed u f → f < 64
  used_in u l f used = ⊎_elim (λ (lt : f < 64). lt)
      (λ (from : 64 ≤ f). absurd (used (ap (λ (x : Entry). x.kind) (past u l f from)))) (cases_lt f 64)

  gone_entry : (f : ℕ) → f < 64 → is_gone t top f ≡ true → entry_in s f ≡ free_entry
  gone_entry f lt gone = each f lt ∙ ap (λ (b : Bool). if b then free_entry else entry_in t f) gone

  kept_entry : (f : ℕ) → f < 64 → is_gone t top f ≡ false → entry_in s f ≡ entry_in t f
  kept_entry f lt kept = each f lt ∙ ap (λ (b : Bool). if b then free_entry else entry_in t f) kept

  -- a used entry stays as it was, and is not below the one that goes
  stays : (b : Bool) (f : ℕ) → is_gone t top f ≡ b → IsUsed s f
      → (is_gone t top f ≡ false) × (entry_in s f ≡ entry_in t f)
  stays true f gone used = absurd (used (ap (λ (x : Entry). x.kind) (gone_entry f (used_in s long f used) gone)))
  stays false f kept used = (kept, kept_entry f (used_in s long f used) kept)

  pub same_entry : (f : ℕ) → IsUsed s f → entry_in s f ≡ entry_in t f
  same_entry f used = (stays (is_gone t top f) f refl used).1

  pub used_before : (f : ℕ) → IsUsed s f → IsUsed t f
  used_before f used = λ none. used (ap (λ (x : Entry). x.kind) (same_entry f used) ∙ none)

  pub out_of : (f : ℕ) → IsUsed s f → leads_up t 7 top f ≡ false
  out_of f used = by_kind (used_before f used) (stays (is_gone t top f) f refl used).0
    where
      by_kind : (entry_in t f).kind ≢ 0 → is_gone t top f ≡ false → leads_up t 7 top f ≡ false
      by_kind some kept = elim (eqb_tells (entry_in t f).kind 0) [
        | inl same ↦ absurd (some same.1)
        | inr other ↦ sym (ap (λ (b : Bool). not b && leads_up t 7 top f) other.0) ∙ kept
      ]

  -- what is used and not below it stays
  pub used_after : (f : ℕ) → IsUsed t f → leads_up t 7 top f ≡ false → IsUsed s f
  used_after f used out none =
      let kept : is_gone t top f ≡ false = ap (λ (b : Bool). not ((entry_in t f).kind == 0) && b) out
      ∙ and_false (not ((entry_in t f).kind == 0)) in
      used (sym (ap (λ (x : Entry). x.kind) (kept_entry f (used_in t size f used) kept)) ∙ none)

  parent_stays : (f : ℕ) → IsUsed s f → IsUsed s (entry_in t f).parent
  parent_stays f used = elim (eqb_tells f 0) [
    | inl same ↦
        let family : ℕ → Type 0 = λ k. IsUsed s k in
        subst family (sym (ap (λ (k : ℕ). (entry_in t k).parent) same.1 ∙ rules.master.parent))
        (subst family same.1 used)
    | inr other ↦
        let some : 0 < f = (let d = other.1 in omega (arith, d)) in
        used_after (entry_in t f).parent (parent_used t rules f some (used_before f used))
        (parent_out t rules top above used_top f (used_before f used) (out_of f used))
  ]

  ancestors : (n f : ℕ) → IsUsed s f → ancestor s n f ≡ ancestor t n f
  unfolding ancestor
  ancestors zero f used = refl
  ancestors (suc n) f used =
      ap (λ (x : Entry). ancestor s n x.parent) (same_entry f used)
      ∙ ancestors n (entry_in t f).parent (parent_stays f used)

  paths_in : (n f : ℕ) → IsUsed s f → path_in s n f ≡ path_in t n f
  unfolding path_in
  paths_in zero f used = refl
  paths_in (suc n) f used =
      ap (λ (x : Entry). if f == 0 then [] else path_in s n x.parent ++ x.identifier ∷ []) (same_entry f used)
      ∙ ap (λ (p : Path). if f == 0 then [] else p ++ (entry_in t f).identifier ∷ [])
      (paths_in n (entry_in t f).parent (parent_stays f used))

  pub same_path_of : (f : ℕ) → IsUsed s f → path_of s f ≡ path_of t f
  same_path_of f used = paths_in 7 f used

  child_before : (df f : ℕ) → IsChild s df f → IsChild t df f
  child_before df f child = record {
    below = child.below;
    used = used_before f child.used;
    parent = sym (ap (λ (x : Entry). x.parent) (same_entry f child.used)) ∙ child.parent;
  }

  free_is_entry : IsEntry free_entry
  free_is_entry = record { free = λ none. (refl, refl); used = λ some. absurd (some refl) }

  is_entry : (b : Bool) (f : ℕ) → f < 64 → is_gone t top f ≡ b → IsEntry (entry_in s f)
  is_entry true f lt gone = let family : Entry → Type 0 = λ x. IsEntry x in
      subst family (sym (gone_entry f lt gone)) free_is_entry
  is_entry false f lt kept =
      let family : Entry → Type 0 = λ x. IsEntry x in
      let within : f < length t = omega (arith, size, lt) in
      subst family (sym (kept_entry f lt kept))
      (subst family (entry_within t f free_entry within) (rules.each f free_entry within))

  pub rules_stay : IsTable s
  rules_stay = record {
    each = λ i d lt.
        let small : i < 64 = omega (arith, lt, long) in
        let family : Entry → Type 0 = λ x. IsEntry x in
        subst family (sym (entry_within s i d lt)) (is_entry (is_gone t top i) i small refl);
    master = (
        let family : Entry → Type 0 = λ x. IsMasterFile x in
        let kept : is_gone t top 0 ≡ false =
        ap (λ (b : Bool). not ((entry_in t 0).kind == 0) && b) (master_out t rules top above used_top 7 0 refl)
        ∙ and_false (not ((entry_in t 0).kind == 0)) in
        subst family (sym (kept_entry 0 (omega arith) kept)) rules.master);
    below = λ f some used.
        let before = rules.below f some (used_before f used) in
        let same = same_entry f used in
        record {
          parent =
              ap (λ (x : Entry). (entry_in s x.parent).kind) same
              ∙ ap (λ (x : Entry). x.kind) (same_entry (entry_in t f).parent (parent_stays f used)) ∙ before.parent;
          level = ancestors 7 f used ∙ before.level;
          identifier = λ is. before.identifier (sym (ap (λ (x : Entry). x.identifier) same) ∙ is);
        };
    identifiers = λ df f g one other same. rules.identifiers df f g (child_before df f one) (child_before df g other)
        (sym (ap (λ (x : Entry). x.identifier) (same_entry f one.used)) ∙ same
        ∙ ap (λ (x : Entry). x.identifier) (same_entry g other.used));
    short_identifiers = λ df f g one other some same. rules.short_identifiers df f g (child_before df f one)
        (child_before df g other) (λ none. some (ap (λ (x : Entry). x.short) (same_entry f one.used) ∙ none))
        (sym (ap (λ (x : Entry). x.short) (same_entry f one.used)) ∙ same
        ∙ ap (λ (x : Entry). x.short) (same_entry g other.used));
    names = λ f g used other some same. rules.names f g (used_before f used) (used_before g other)
        (let family : Entry → Type 0 = λ x. 0 < length (name_of x) in subst family (same_entry f used) some)
        (sym (ap name_of (same_entry f used)) ∙ same ∙ ap name_of (same_entry g other));
  }

-- the entry on a page
abbrev pub on_page : List ℕ → ℕ → Entry
on_page m page = entry_of (page_words m page)

-- First the entries are freed.
module _ (m mid : List ℕ) (top : ℕ) (sized : IsMemory m) (stands : TreeStands m) (above : 0 < top)
    (used : IsUsed (table m) top) (freed : FreesEntries m (part_below (table m) top) mid) where
  abbrev pub part : List Entry
  part = part_below (table m) top

  part_in : (f : ℕ) → f < 64 → entry_in part f ≡ going (table m) top f
  unfolding part_below
  part_in f lt = index-mapped (going (table m) top) 0 64 f lt
      ∙ (let z : 0 + f ≡ f = omega arith in ap (going (table m) top) z)

  kind_of_gone : (f : ℕ) → is_gone (table m) top f ≡ true → (entry_in (table m) f).kind ≢ 0
  kind_of_gone f gone none = true≢false (sym gone ∙ (elim (eqb_tells (entry_in (table m) f).kind 0) [
    | inl same ↦ ap (λ (b : Bool). not b && leads_up (table m) 7 top f) same.0
    | inr other ↦ absurd (other.1 none)
  ]))

  -- the entry of a number is free now, or as it was
  by_going : (b : Bool) (f : ℕ) → f < 64 → is_gone (table m) top f ≡ b
      → entry_in (table mid) f ≡ staying (table m) top f
  by_going true f lt gone =
      let some : (entry_in part f).kind ≢ 0 = λ none. kind_of_gone f gone
      (sym (ap (λ (x : Entry). x.kind)
      (part_in f lt ∙ ap (λ (b : Bool). if b then entry_in (table m) f else free_entry) gone)) ∙ none) in
      entry_in-table mid f lt
      ∙ entry_of-free (page_words mid (1 + f)) (index-page_words mid (1 + f) 0 (omega arith) ∙ freed.freed f lt some)
      ∙ sym (ap (λ (b : Bool). if b then free_entry else entry_in (table m) f) gone)
  by_going false f lt kept =
      let none : (entry_in part f).kind ≡ 0 =
      ap (λ (x : Entry). x.kind)
      (part_in f lt ∙ ap (λ (b : Bool). if b then entry_in (table m) f else free_entry) kept) in
      let words : page_words mid (1 + f) ≡ page_words m (1 + f) =
      page_words_same m mid (1 + f) (omega (arith, sized, lt)) freed.size
      (λ place small. freed.others (1 + f) place small (inr (λ k k_lt is. let same : f ≡ k = omega (arith, is) in
      sym (ap (λ (j : ℕ). (entry_in part j).kind) same) ∙ none))) in
      entry_in-table mid f lt ∙ ap entry_of words ∙ sym (entry_in-table m f lt)
      ∙ sym (ap (λ (b : Bool). if b then free_entry else entry_in (table m) f) kept)

  pub mid_entry : (f : ℕ) → f < 64 → entry_in (table mid) f ≡ staying (table m) top f
  mid_entry f lt = by_going (is_gone (table m) top f) f lt refl

  pub mid_rules : IsTable (table mid)
  mid_rules = rules_stay (table m) (table mid) top stands.entries above used (length-table m)
      (length-table mid) mid_entry

  mid_header : (place : ℕ) → place < PAGE_WORDS → word mid HEADER_PAGE place ≡ word m HEADER_PAGE place
  mid_header place small = freed.others HEADER_PAGE place small (inr (λ f lt is. absurd (omega (arith, is))))

  mid_keeps : KeepsBlocks (block_count m) m mid
  mid_keeps = record {
    size = freed.size;
    words = λ page place block small. freed.others page place small
        (inr (λ f lt is. let low = block.0 in absurd (omega (arith, is, lt, low))));
    head = freed.others HEADER_PAGE FREE_HEAD_WORD (omega arith) (inl (omega arith));
  }

  pub mid_laid : AreLaid (block_count m) mid (extents (table m)) × (free_chain mid ≡ free_chain m)
      × All (SameBytes m mid) (extents (table m))
  mid_laid = laid_elsewhere (block_count m) m mid (extents (table m)) sized stands.blocks mid_keeps

  -- the table in its parts, page by page
  parts : (page : ℕ) → 1 ≤ page → page < 1 + 64
      → GoesOrStays (on_page m page) (going (table m) top (page - 1)) (on_page mid page)
  parts page from below =
      let f : ℕ = page - 1 in
      let lt : f < 64 = omega (arith, below) in
      let at : 1 + f ≡ page = omega (arith, from) in
      let before : on_page m page ≡ entry_in (table m) f = sym (entry_in-table m f lt ∙ ap (on_page m) at) in
      let now : on_page mid page ≡ staying (table m) top f = sym (ap (on_page mid) at)
      ∙ sym (entry_in-table mid f lt) ∙ mid_entry f lt in
      by_test (is_gone (table m) top f) f before now refl
    where
      by_test : (b : Bool) (f : ℕ) → on_page m page ≡ entry_in (table m) f → on_page mid page ≡ staying (table m) top f
          → is_gone (table m) top f ≡ b → GoesOrStays (on_page m page) (going (table m) top f) (on_page mid page)
      by_test true f before now gone = inl (
        ap (λ (b : Bool). if b then entry_in (table m) f else free_entry) gone ∙ sym before,
        now ∙ ap (λ (b : Bool). if b then free_entry else entry_in (table m) f) gone,
        λ none. kind_of_gone f gone (sym (ap (λ (x : Entry). x.kind) before) ∙ none),
      )
      by_test false f before now kept = inr (
        ap (λ (b : Bool). if b then entry_in (table m) f else free_entry) kept,
        now ∙ ap (λ (b : Bool). if b then free_entry else entry_in (table m) f) kept ∙ sym before,
      )

  part_is : part ≡ map (λ page. going (table m) top (page - 1)) (range_with_len 1 64)
  unfolding part_below
  part_is = shifted (table m) top 0 64

  pub mid_split : AreSplit mid (extents (table m)) (extents part) (extents (table mid))
  unfolding table
  mid_split =
      let family : List Entry → Type 0 = λ gs. AreSplit mid (extents (table m)) (extents gs) (extents (table mid)) in
      subst family (sym part_is)
      (parts_split (on_page m) (λ page. going (table m) top (page - 1)) (on_page mid) mid 1 64 parts)

  all_parts : (P : Extent → Type 0) → All P (extents (table m)) → All P (extents part) × All P (extents (table mid))
  unfolding table
  all_parts P all =
      let family : List Entry → Type 0 = λ gs. All P (extents gs) × All P (extents (table mid)) in
      subst family (sym part_is)
      (parts_all (on_page m) (λ page. going (table m) top (page - 1)) (on_page mid) P 1 64 parts all)

  pub mid_free_entries : free_entries (table mid) + free_entries part ≡ free_entries (table m) + 64
  unfolding table
  mid_free_entries =
      let counted = parts_free (on_page m) (λ page. going (table m) top (page - 1)) (on_page mid) 1 64 parts in
      let gone = ap free_entries part_is in
      omega (arith, counted, gone)

  -- what giving the chains back asks
  pub mid_has_free : HasFree mid
  mid_has_free = laid_has_free (block_count m) mid (extents (table m)) mid_laid.0

  part_extents : All (IsExtent mid) (extents part)
  part_extents = (all_parts (λ x. IsExtent mid x) mid_laid.0.each).0

  mid_extents : All (IsExtent mid) (extents (table mid))
  mid_extents = (all_parts (λ x. IsExtent mid x) mid_laid.0.each).1

  pub mid_apart : AreApart mid (chains_of (extents part))
  mid_apart = laid_apart (block_count m) mid (extents (table m)) (extents part) (extents (table mid))
      (let inside = stands.blocks.inside in let most = sized.most in omega (arith, inside, most)) mid_laid.0 mid_split
      part_extents (all_parts (λ x. 1 ≤ x.blocks) (extents_have (table m) stands.entries.each)).0

  -- Then the blocks are given back.
  module _ (after : List ℕ) (back : GivesBack mid (chains_of (extents part)) after) where
    -- blocks that are given back are blocks of the card
    given_inside : (q : ℕ) → 1 ≤ count q (laid_out mid (extents part)) → IsOf (block_count m) q
    given_inside q some =
        let both = count-append q (free_chain mid) (laid_out mid (extents (table m))) in
        let split = mid_split.blocks q in
        laid_of (block_count m) mid (extents (table m)) mid_laid.0 q (omega (arith, both, split, some))

    -- pages that are no blocks of the card keep their words, but the header its free chain's
    given_word : (page place : ℕ) → place < PAGE_WORDS → (IsOf (block_count m) page → ⊥)
        → (page ≢ HEADER_PAGE) ⊎ (place ≢ FREE_HEAD_WORD) → word after page place ≡ word mid page place
    given_word page place small outside header = back.only.others page place small
        (inr (ap (count page) (laid_chains_of mid (extents part))
        ∙ none_outside (block_count m) (laid_out mid (extents part)) given_inside page outside)) header

    pub after_table : table after ≡ table mid
    after_table = table-same mid after (λ page from below.
        page_words_same mid after page (let size = freed.size in omega (arith, sized, size, below)) back.only.size
        (λ place small. given_word page place small
        (λ block. let low = block.0 in let z : ⊥ = omega (arith, low, below) in z)
        (inl (λ is. let z : ⊥ = omega (arith, is, from) in z))))

    after_laid : AreLaid (block_count m) after (extents (table mid))
        × (laid_out after (extents (table mid)) ≡ laid_out mid (extents (table mid)))
    after_laid = given_laid (block_count m) mid after (extents (table m)) (extents part) (extents (table mid))
        mid_laid.0 mid_split mid_extents back

    after_header : (place : ℕ) → place < PAGE_WORDS → place ≢ FREE_HEAD_WORD
        → word after HEADER_PAGE place ≡ word m HEADER_PAGE place
    after_header place small other = given_word HEADER_PAGE place small
        (λ block. let low = block.0 in let z : ⊥ = omega (arith, low) in z) (inr other)
        ∙ mid_header place small

    after_format : SameFormat m after
    after_format = record {
      mark = after_header MARK_WORD (omega arith) (omega arith);
      pages = after_header PAGES_WORD (omega arith) (omega arith);
    }

    pub after_stands : TreeStands after
    after_stands = record {
      entries = subst IsTable (sym after_table) mid_rules;
      blocks =
          laid_as m after _ after_format (let family : List Extent → Type 0 = λ es. AreLaid (block_count m) after es in
          subst family (sym (ap extents after_table)) after_laid.0);
    }

    after_rest : KeepsRest m after
    after_rest = record {
      size = back.only.size ∙ freed.size;
      words = λ page place small entry block header.
          given_word page place small block header
          ∙ freed.others page place small (inr (λ f lt is. absurd (entry (omega (arith, is), omega (arith, is, lt)))));
    }

    -- the files that stay keep their bytes
    abbrev KeptBytes : Extent → Type 0
    KeptBytes x = bytes_of after (blocks_of after x) ≡ bytes_of m (blocks_of m x)

    kept_bytes : All KeptBytes (extents (table mid))
    kept_bytes =
        let sized_mid : IsMemory mid = memory_same m mid freed.size sized in
        let now : All (SameBytes mid after) (extents (table mid)) =
        given_bytes (block_count m) mid after (extents (table m)) (extents part) (extents (table mid)) mid_laid.0
        mid_split mid_extents back sized_mid in
        let before : All (SameBytes m mid) (extents (table mid)) = (all_parts (λ x. SameBytes m mid x) mid_laid.2).1 in
        λ i d lt.
        let a = now i d lt in
        let b = before i d lt in
        ap (bytes_of after) a.0 ∙ a.1 ∙ ap (bytes_of mid) b.0 ∙ b.1

    same_content : (f : ℕ) → IsUsed (table mid) f
        → content after (entry_in (table mid) f) ≡ content m (entry_in (table mid) f)
    same_content f used_f =
        let x = entry_in (table mid) f in
        ⊎_elim
        (λ (low : x.kind < 2). content-none after x low ∙ sym (content-none m x low))
        (λ (high : 2 ≤ x.kind).
        let long = length-table mid in
        let small = used_small mid f used_f in
        content-some after x high
        ∙ all_extents KeptBytes (table mid) kept_bytes f (omega (arith, long, small))
        (extent_told x) (extent_of-some x high)
        ∙ sym (content-some m x high))
        (cases_lt x.kind 2)

    used_mid : (f : ℕ) → IsUsed (table after) f → IsUsed (table mid) f
    used_mid f used_f = subst (λ (t : List Entry). IsUsed t f) after_table used_f

    used_now : (f : ℕ) → IsUsed (table mid) f → IsUsed (table after) f
    used_now f used_f = subst (λ (t : List Entry). IsUsed t f) (sym after_table) used_f

    entry_stays : (f : ℕ) → IsUsed (table mid) f → entry_in (table mid) f ≡ entry_in (table m) f
    entry_stays f u = same_entry (table m) (table mid) top stands.entries above used (length-table m)
        (length-table mid) mid_entry f u

    was_used : (f : ℕ) → IsUsed (table mid) f → IsUsed (table m) f
    was_used f u = used_before (table m) (table mid) top stands.entries above used (length-table m)
        (length-table mid) mid_entry f u

    is_out : (f : ℕ) → IsUsed (table mid) f → leads_up (table m) 7 top f ≡ false
    is_out f u = out_of (table m) (table mid) top stands.entries above used (length-table m)
        (length-table mid) mid_entry f u

    path_stays : (f : ℕ) → IsUsed (table mid) f → path_of (table mid) f ≡ path_of (table m) f
    path_stays f u = same_path_of (table m) (table mid) top stands.entries above used (length-table m)
        (length-table mid) mid_entry f u

    file_stays : (f : ℕ) → IsUsed (table mid) f → file_in after f ≡ file_in m f
    file_stays f u =
        ap (λ (t : List Entry). file_of (entry_in t f) (content after (entry_in t f))) after_table
        ∙ ap (file_of (entry_in (table mid) f)) (same_content f u)
        ∙ ap (λ (x : Entry). file_of x (content m x)) (entry_stays f u)

    abbrev pub outside : Path → Bool
    outside path = not (starts_with nat_eq path (path_of (table m) top))

    kept_at : (p : Path) → get (retain_keys (tree_of m) outside) p ≡ cond (outside p) (get (tree_of m) p) None
    kept_at p = get-retain_keys (tree_of m) outside p
        (λ q same. ap outside (sym (slice_cmp-IsAntisymmetric nat_cmp-IsAntisymmetric p q same)))

    stays_outside : (f : ℕ) → IsUsed (table mid) f → outside (path_of (table m) f) ≡ true
    stays_outside f u = ap not (sym (within_path (table m) stands.entries top above used f (was_used f u)) ∙ is_out f u)

    tree_has : (f : ℕ) → IsUsed (table after) f
        → get (retain_keys (tree_of m) outside) (path_of (table after) f) ≡ Some (file_in after f)
    tree_has f u =
        let v = used_mid f u in
        let path : path_of (table after) f ≡ path_of (table m) f =
        ap (λ (t : List Entry). path_of t f) after_table ∙ path_stays f v in
        ap (get (retain_keys (tree_of m) outside)) path
        ∙ kept_at (path_of (table m) f)
        ∙ ap (λ (b : Bool). cond b (get (tree_of m) (path_of (table m) f)) None) (stays_outside f v)
        ∙ get-used m stands.entries f (was_used f v)
        ∙ ap (λ (file : File). Some file) (sym (file_stays f v))

    tree_only : (p : Path) (file : File) → get (retain_keys (tree_of m) outside) p ≡ Some file → HasEntryAt after p
    tree_only p file is = by_test (outside p) refl
      where
        by_test : (b : Bool) → outside p ≡ b → HasEntryAt after p
        by_test false gone = absurd (true≢false (ap (λ (o : Option File). is_some o)
            (sym is ∙ kept_at p ∙ ap (λ (b : Bool). cond b (get (tree_of m) p) None) gone)))
        by_test true kept =
            let found =
            entry_found m p file (sym (kept_at p ∙ ap (λ (b : Bool). cond b (get (tree_of m) p) None) kept) ∙ is) in
            let f = found.0 in
            let out : leads_up (table m) 7 top f ≡ false =
            within_path (table m) stands.entries top above used f found.1
            ∙ ap (λ (q : Path). starts_with nat_eq q (path_of (table m) top)) found.2
            ∙ not-true (starts_with nat_eq p (path_of (table m) top)) kept in
            let v = used_after (table m) (table mid) top stands.entries above used (length-table m) (length-table mid)
            mid_entry f found.1 out in
            (f, used_now f v, ap (λ (t : List Entry). path_of t f) after_table ∙ path_stays f v ∙ found.2)

    -- The file is away, with all files below it.
    entry_kept : (f : ℕ) → IsUsed (table m) f → starts_with nat_eq (path_of (table m) f) (path_of (table m) top) ≡ false
        → (entry_in (table after) f ≡ entry_in (table m) f) × (path_of (table after) f ≡ path_of (table m) f)
    entry_kept f u apart =
        let v : IsUsed (table mid) f = used_after (table m) (table mid) top stands.entries above used (length-table m)
        (length-table mid) mid_entry f u (within_path (table m) stands.entries top above used f u ∙ apart) in (
          ap (λ (t : List Entry). entry_in t f) after_table ∙ entry_stays f v,
          ap (λ (t : List Entry). path_of t f) after_table ∙ path_stays f v,
        )

    pub deleted : Deletes m top after
    deleted = record {
      tree = same_tree after (retain_keys (tree_of m) outside) after_stands.entries tree_has tree_only;
      stands = after_stands;
      rest = after_rest;
      kept = entry_kept;
    }

    -- So much is free: its blocks, and its entries.
    pub space_freed : (freed_space : FreeSpace) → freed_space.blocks ≡ sum_by (λ x. x.blocks) (extents part)
        → freed_space.entries + free_entries part ≡ 64
        → free_space (block_count after) (tree_of after)
        ≡ with_freed (free_space (block_count m) (tree_of m)) freed_space
    space_freed space blocks entries =
        let sized_after : IsMemory after = memory_same m after (back.only.size ∙ freed.size) sized in
        let old = space_counted m sized stands in
        let new = space_counted after sized_after after_stands in
        let chain = ap (λ (ps : List ℕ). length ps)
        (given_free (block_count m) mid after (extents (table m)) (extents part) (extents (table mid)) mid_laid.0
        mid_split mid_extents back) in
        let both = length-append (laid_out mid (extents part)) (free_chain mid) in
        let same = ap (λ (ps : List ℕ). length ps) mid_laid.1 in
        let given = laid_blocks mid (extents part) part_extents in
        let counted = mid_free_entries in
        let now = ap free_entries after_table in
        let a : length (free_chain after) ≡ length (free_chain m) + space.blocks =
        omega (arith, chain, both, same, given, blocks) in
        let b : free_entries (table after) ≡ free_entries (table m) + space.entries =
        omega (arith, counted, now, entries) in
        new ∙ (λ i. record { blocks = a i; entries = b i }) ∙ sym (ap (λ (s : FreeSpace). with_freed s space) old)

-- One entry of the part after another is freed.
module _ (m now : List ℕ) (part : List Entry) (k : ℕ) (sized : IsMemory m) (few : k < ENTRIES)
    (before : FreesUpTo m part k now) where
  pub frees_next : (entry_in part k).kind ≢ 0
      → FreesUpTo m part (k + 1) (slice_set now (address (FIRST_ENTRY_PAGE + k) 0) 0)
  frees_next some = record {
    size = length-set now (address (FIRST_ENTRY_PAGE + k) 0) 0 ∙ before.size;
    freed = λ f lt used. elim (eqb_tells f k) [
      | inl same ↦
          let inside : address (FIRST_ENTRY_PAGE + k) 0 < length now =
          (let size = before.size in omega (arith, sized, size, few)) in
          ap (λ (j : ℕ). word (slice_set now (address (FIRST_ENTRY_PAGE + k) 0) 0) (FIRST_ENTRY_PAGE + j) 0) same.1
          ∙ word-set_same now (FIRST_ENTRY_PAGE + k) 0 0 inside
      | inr other ↦
          let o = other.1 in
          word-set_other now (FIRST_ENTRY_PAGE + k) 0 (FIRST_ENTRY_PAGE + f) 0 0 (omega arith) (omega arith)
          (inl (λ is. let z : ⊥ = omega (arith, is, o) in z))
          ∙ before.freed f (omega (arith, lt, o)) used
    ];
    others = λ page place small apart. ⊎_elim
        (λ (away : place ≢ 0).
        word-set_other now (FIRST_ENTRY_PAGE + k) 0 page place 0 (omega arith) small (inr away)
        ∙ before.others page place small (inl away)) (λ (free : (f : ℕ) → f < k + 1 → page ≡ FIRST_ENTRY_PAGE + f
        → (entry_in part f).kind ≡ 0). word-set_other now (FIRST_ENTRY_PAGE + k) 0 page place 0 (omega arith) small
        (inl (λ is. some (free k (omega arith) is)))
        ∙ before.others page place small (inr (λ f lt is. free f (omega (arith, lt)) is)))
        apart;
  }

  pub frees_skip : (entry_in part k).kind ≡ 0 → FreesUpTo m part (k + 1) now
  frees_skip none = record {
    size = before.size;
    freed = λ f lt used. elim (eqb_tells f k) [
      | inl same ↦ absurd (used (ap (λ (j : ℕ). (entry_in part j).kind) same.1 ∙ none))
      | inr other ↦ (let o = other.1 in before.freed f (omega (arith, lt, o)) used)
    ];
    others = λ page place small apart. before.others page place small (⊎_elim
        (λ (away : place ≢ 0). inl away)
        (λ (free : (f : ℕ) → f < k + 1 → page ≡ FIRST_ENTRY_PAGE + f → (entry_in part f).kind ≡ 0).
        inr (λ f lt is. free f (omega (arith, lt)) is)) apart);
  }
