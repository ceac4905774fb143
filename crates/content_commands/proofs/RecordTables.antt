-- What another count of records, and another slot of record 1, in the entry of a file make of the table.
use Rattle.std.proofs.Common.{◌≡◌, ◌≢◌, ◌==◌, ◌<◌, ◌≤◌, ◌+◌, ℕ, zero, suc, if◌then◌else◌, cond, List, [], ◌∷◌, ◌++◌}
use Rattle.std.proofs.Common.{length, slice_index, slice_set, All, Option, Some, None, IfSome, option_map}
use Rattle.std.proofs.Common.{refl, sym, ◌∙◌, ap, ap₂, subst, arith, inl, ⊎_elim, get_or-set_same, get_or-set_other}
use Rattle.std.proofs.Common.{length-set}
use Rattle.std.specs.List.{cons_option}
use Rattle.std.proofs.lemmas.Bool.{cases_eq, cases_lt}
use Rattle.nvm_board.specs.Facts.{address}
use Rattle.nvm_board.specs.Facts.{IsMemory}
use Rattle.block_chain.specs.declared.chain.Extent.{Extent}
use Rattle.block_chain.specs.BlockWords.{page_words}
use Rattle.block_chain.specs.declared.layout.TheConstants.{HEADER_PAGE}
use Rattle.file_tree.specs.Formats.{block_count, SameFormat}
use Rattle.file_tree.specs.declared.layout.TheConstants.{MARK_WORD, PAGES_WORD}
use Rattle.file_tree.specs.laws.Formats.{laid_as}
use Rattle.block_chain.specs.Chains.{bytes_of, free_chain}
use Rattle.block_chain.specs.ChainChanges.{KeepsBlocks}
use Rattle.block_chain.specs.Layout.{IsOf, AreLaid, SameBytes}
use Rattle.block_chain.specs.laws.Footprints.{laid_elsewhere, page_words_same, set_elsewhere}
use Rattle.block_chain.specs.laws.Words.{index-page_words}
use Rattle.file_tree.specs.declared.entry.Entry.{Entry}
use Rattle.file_tree.specs.Entries.{entry_of, entry_told, extent_of, extent_told, file_of, free_entry}
use Rattle.file_tree.specs.Entries.{entry_by, high, low, name_of}
use Rattle.file_tree.specs.Table.{table, ancestor, entry_in, extents, free_entries, path_in, path_of, IsChild, IsEntry}
use Rattle.file_tree.specs.Table.{IsTable, IsUsed}
use Rattle.file_tree.specs.Trees.{content, TreeStands, file_in}
use Rattle.file_tree.specs.laws.Contents.{content-none, content-some}
use Rattle.file_tree.specs.laws.Costs.{all_extents, extent_of-some, sum-cons}
use Rattle.file_tree.specs.laws.Nodes.{used_small}
use Rattle.file_tree.specs.laws.Tables.{entry_in-table, entry_of-free, entry_of-used, entry_past, entry_within}
use Rattle.file_tree.specs.laws.Tables.{length-table}
use Rattle.command_base.specs.declared.current.Current.{Current}
use Rattle.command_base.specs.Working.{session_of, IsCurrent, IsElementary}
use Rattle.content_commands.specs.RecordParts.{told_address}

-- an entry that tells of so many records, the first of them in this slot
abbrev pub retold : Entry → ℕ → ℕ → Entry
retold x number start = record x { records = number; start = start }

-- the blocks that entries name, and how many entries are free, are the same where the entries are
extents-same : (s t : List Entry) → length s ≡ length t
    → ((f : ℕ) → extent_of (entry_in s f) ≡ extent_of (entry_in t f)) → extents s ≡ extents t
extents-same [] [] size each = refl
extents-same [] (z ∷ t) size each = absurd (omega (arith, size))
extents-same (y ∷ s) [] size each = absurd (omega (arith, size))
extents-same (y ∷ s) (z ∷ t) size each =
    ap₂ (λ (o : Option Extent) (rest : List Extent). cons_option o rest) (each 0)
    (extents-same s t (omega (arith, size)) (λ f. each (suc f)))

abbrev one_free : Entry → ℕ
one_free x = cond (x.kind == 0) 1 0

free-same : (s t : List Entry) → length s ≡ length t → ((f : ℕ) → (entry_in s f).kind ≡ (entry_in t f).kind)
    → free_entries s ≡ free_entries t
free-same [] [] size each = refl
free-same [] (z ∷ t) size each = absurd (omega (arith, size))
free-same (y ∷ s) [] size each = absurd (omega (arith, size))
free-same (y ∷ s) (z ∷ t) size each =
    let one : one_free y ≡ one_free z = ap (λ (k : ℕ). cond (k == 0) 1 0) (each 0) in
    let rest = free-same s t (omega (arith, size)) (λ f. each (suc f)) in
    sum-cons one_free y s ∙ ap₂ (λ (a b : ℕ). a + b) one rest ∙ sym (sum-cons one_free z t)

-- the blocks of an entry don't depend on its records
extent-retold : (x : Entry) (number start : ℕ) → extent_of (retold x number start) ≡ extent_of x
unfolding extent_of
extent-retold x number start = refl

-- Two tables whose entries differ in what they tell of records alone.
module _ (t s : List Entry) (rules : IsTable t) (size : length t ≡ 64) (long : length s ≡ 64)
    (same : (f : ℕ) → entry_in s f ≡ retold (entry_in t f) (entry_in s f).records (entry_in s f).start)
    (entries : (f : ℕ) → f < 64 → IsEntry (entry_in s f)) where
  pub same-kind : (f : ℕ) → (entry_in s f).kind ≡ (entry_in t f).kind
  same-kind f = ap (λ (y : Entry). y.kind) (same f)

  same-parent : (f : ℕ) → (entry_in s f).parent ≡ (entry_in t f).parent
  same-parent f = ap (λ (y : Entry). y.parent) (same f)

  same-identifier : (f : ℕ) → (entry_in s f).identifier ≡ (entry_in t f).identifier
  same-identifier f = ap (λ (y : Entry). y.identifier) (same f)

  pub same-extents : extents s ≡ extents t
  same-extents = extents-same s t (omega (arith, size, long)) (λ f. ap extent_of (same f) ∙ extent-retold (entry_in t f)
      (entry_in s f).records (entry_in s f).start)

  pub same-free : free_entries s ≡ free_entries t
  same-free = free-same s t (omega (arith, size, long)) same-kind

  pub was-used : (f : ℕ) → IsUsed s f → IsUsed t f
  was-used f used none = used (same-kind f ∙ none)

  pub is-used : (f : ℕ) → IsUsed t f → IsUsed s f
  is-used f used none = used (sym (same-kind f) ∙ none)

  was-child : (up f : ℕ) → IsChild s up f → IsChild t up f
  was-child up f child = record {
    below = child.below;
    used = was-used f child.used;
    parent = sym (same-parent f) ∙ child.parent;
  }

  is-child : (up f : ℕ) → IsChild t up f → IsChild s up f
  is-child up f child = record {
    below = child.below;
    used = is-used f child.used;
    parent = same-parent f ∙ child.parent;
  }

  same-ancestors : (n f : ℕ) → ancestor s n f ≡ ancestor t n f
  unfolding ancestor
  same-ancestors zero f = refl
  same-ancestors (suc n) f = ap (ancestor s n) (same-parent f) ∙ same-ancestors n (entry_in t f).parent

  same-paths : (n f : ℕ) → path_in s n f ≡ path_in t n f
  unfolding path_in
  same-paths zero f = refl
  same-paths (suc n) f =
      ap (λ (y : Entry). if f == 0 then [] else path_in s n y.parent ++ y.identifier ∷ []) (same f)
      ∙ ap (λ (p : List ℕ). if f == 0 then [] else p ++ (entry_in t f).identifier ∷ []) (same-paths n (entry_in t
      f).parent)

  pub paths-same : (f : ℕ) → path_of s f ≡ path_of t f
  paths-same f = same-paths 7 f

  pub rules-same : IsTable s
  rules-same = record {
    each = λ i d lt.
        let small : i < 64 = omega (arith, lt, long) in
        let family : Entry → Type 0 = λ y. IsEntry y in
        subst family (sym (entry_within s i d lt)) (entries i small);
    master = record {
      kind = same-kind 0 ∙ rules.master.kind;
      identifier = same-identifier 0 ∙ rules.master.identifier;
      parent = same-parent 0 ∙ rules.master.parent;
    };
    below = λ f some used. let rule = rules.below f some (was-used f used) in record {
      parent = ap (λ (k : ℕ). (entry_in s k).kind) (same-parent f) ∙ same-kind (entry_in t f).parent ∙ rule.parent;
      level = same-ancestors 7 f ∙ rule.level;
      identifier = λ is. rule.identifier (sym (same-identifier f) ∙ is);
    };
    identifiers = λ up f g one two is. rules.identifiers up f g (was-child up f one) (was-child up g two)
        (sym (same-identifier f) ∙ is ∙ same-identifier g);
    short_identifiers = λ up f g one two some is.
        let short = λ (k : ℕ). ap (λ (y : Entry). y.short) (same k) in
        rules.short_identifiers up f g (was-child up f one) (was-child up g two)
        (λ none. some (short f ∙ none)) (sym (short f) ∙ is ∙ short g);
    names = λ f g used other some is.
        let name = λ (k : ℕ). ap name_of (same k) in
        rules.names f g (was-used f used) (was-used g other)
        (let l = ap (λ (bs : List ℕ). length bs) (name f) in omega (arith, l, some))
        (sym (name f) ∙ is ∙ name g);
  }

  -- a session stays, and so do the numbers of its files
  pub session-same : (x : Current) → session_of s x ≡ session_of t x
  session-same x = λ i. record (session_of t x) {
    current_df = paths-same x.df i;
    current_ef = option_map (λ (e : ℕ). same-identifier e i) x.ef;
  }

  pub current-same : (x : Current) → IsCurrent t x → IsCurrent s x
  current-same x current = record {
    df = same-kind x.df ∙ current.df;
    ef = by_file x.ef current.ef;
    marks = current.marks;
  }
    where
      by_file : (ef : Option ℕ) → IfSome ef (IsElementary t x.df) → IfSome ef (IsElementary s x.df)
      by_file None file = tt
      by_file (Some e) file = record {
        child = is-child x.df e file.child;
        kind = (let k = same-kind e in let h = file.kind in omega (arith, k, h));
      }

-- what the words of a page tell where only the eleventh is another
told_over : (old new : List ℕ) (w : ℕ) (x : Entry) → x ≡ entry_told old → slice_index new 10 ≡ w
    → ((k : ℕ) → k < 10 → slice_index new k ≡ slice_index old k) → entry_told new ≡ retold x (high w) (low w)
told_over old new w x told last others =
    let at0 = others 0 (omega arith) in
    let at1 = others 1 (omega arith) in
    let at2 = others 2 (omega arith) in
    let at3 = others 3 (omega arith) in
    let at4 = others 4 (omega arith) in
    let at5 = others 5 (omega arith) in
    let at6 = others 6 (omega arith) in
    let at7 = others 7 (omega arith) in
    let at8 = others 8 (omega arith) in
    let at9 = others 9 (omega arith) in
    (λ i. entry_by (at0 i) (at1 i) (at2 i) (at3 i) (at4 i) (at5 i) (at6 i) (at7 i) (at8 i) (at9 i) (last i))
    ∙ (λ i. record (sym told i) { records = high w; start = low w })

-- The word of an entry that tells of its records is set.
module _ (m : List ℕ) (e w : ℕ) (sized : IsMemory m) (stands : TreeStands m) (used : IsUsed (table m) e)
    (entry : IsEntry (retold (entry_in (table m) e) (high w) (low w))) where
  abbrev x : Entry
  x = entry_in (table m) e

  abbrev pub mid : List ℕ
  mid = slice_set m (told_address e) w

  few : e < 64
  few = used_small m e used

  size-mid : length mid ≡ length m
  size-mid = length-set m (told_address e) w

  other-word : (a : ℕ) → a ≢ told_address e → slice_index mid a ≡ slice_index m a
  other-word a differs = get_or-set_other m (told_address e) a w 0 differs

  other-page : (page : ℕ) → page < 65 → page ≢ 1 + e → page_words mid page ≡ page_words m page
  other-page page below differs =
      page_words_same m mid page (omega (arith, sized, below)) size-mid (λ place small.
      other-word (address page place) (λ is. differs (let z : page ≡ 1 + e = omega (arith, is, small) in z)))

  pub here : entry_in (table mid) e ≡ retold x (high w) (low w)
  here =
      let lt = few in
      let old = page_words m (1 + e) in
      let new = page_words mid (1 + e) in
      let last : slice_index new 10 ≡ w =
      index-page_words mid (1 + e) 10 (omega arith)
      ∙ get_or-set_same m (told_address e) w 0 (omega (arith, sized, lt)) in
      let others : (k : ℕ) → k < 10 → slice_index new k ≡ slice_index old k = λ k small.
      index-page_words mid (1 + e) k (omega (arith, small))
      ∙ other-word (address (1 + e) k) (λ is. let z : ⊥ = omega (arith, is, small) in z)
      ∙ sym (index-page_words m (1 + e) k (omega (arith, small))) in
      let is : x ≡ entry_of old = entry_in-table m e lt in
      let some : slice_index old 0 ≢ 0 = λ none. used (ap (λ (y : Entry). y.kind) (is ∙ entry_of-free old none)) in
      let some_new : slice_index new 0 ≢ 0 = λ none. some (sym (others 0 (omega arith)) ∙ none) in
      entry_in-table mid e lt ∙ entry_of-used new some_new
      ∙ told_over old new w x (is ∙ entry_of-used old some) last others

  pub others : (f : ℕ) → f ≢ e → entry_in (table mid) f ≡ entry_in (table m) f
  others f differs = ⊎_elim
      (λ (lt : f < 64).
      entry_in-table mid f lt
      ∙ ap entry_of (other-page (1 + f) (omega (arith, lt)) (λ is. differs (let z : f ≡ e = omega (arith, is) in z)))
      ∙ sym (entry_in-table m f lt))
      (λ (past : 64 ≤ f).
      let a = length-table mid in
      let b = length-table m in
      entry_past (table mid) f (omega (arith, a, past)) ∙ sym (entry_past (table m) f (omega (arith, b, past))))
      (cases_lt f 64)

  -- an entry is as before but for its records
  all-retold : (f : ℕ) → entry_in (table mid) f
      ≡ retold (entry_in (table m) f) (entry_in (table mid) f).records (entry_in (table mid) f).start
  all-retold f = ⊎_elim
      (λ (is : f ≡ e).
      let at : entry_in (table mid) f ≡ retold (entry_in (table m) f) (high w) (low w) =
      subst (λ (k : ℕ). entry_in (table mid) k ≡ retold (entry_in (table m) k) (high w) (low w)) (sym is) here in
      λ i. retold (at i) (entry_in (table mid) f).records (entry_in (table mid) f).start)
      (λ (differs : f ≢ e).
      let at = others f differs in
      λ i. retold (at i) (entry_in (table mid) f).records (entry_in (table mid) f).start)
      (cases_eq f e)

  all-entries : (f : ℕ) → f < 64 → IsEntry (entry_in (table mid) f)
  all-entries f lt =
      let family : Entry → Type 0 = λ y. IsEntry y in
      let within : f < length (table m) = (let l = length-table m in omega (arith, l, lt)) in
      ⊎_elim
      (λ (is : f ≡ e). subst family (sym (ap (entry_in (table mid)) is ∙ here)) entry)
      (λ (differs : f ≢ e). subst family (sym (others f differs))
      (subst family (entry_within (table m) f free_entry within) (stands.entries.each f free_entry within)))
      (cases_eq f e)

  pub rules-mid : IsTable (table mid)
  rules-mid = rules-same (table m) (table mid) stands.entries (length-table m) (length-table mid) all-retold all-entries

  pub paths-mid : (f : ℕ) → path_of (table mid) f ≡ path_of (table m) f
  paths-mid = paths-same (table m) (table mid) stands.entries (length-table m) (length-table mid) all-retold all-entries

  pub used-mid : (f : ℕ) → IsUsed (table m) f → IsUsed (table mid) f
  used-mid = is-used (table m) (table mid) stands.entries (length-table m) (length-table mid) all-retold all-entries

  pub was-used-mid : (f : ℕ) → IsUsed (table mid) f → IsUsed (table m) f
  was-used-mid = was-used (table m) (table mid) stands.entries (length-table m)
      (length-table mid) all-retold all-entries

  pub free-mid : free_entries (table mid) ≡ free_entries (table m)
  free-mid = same-free (table m) (table mid) stands.entries (length-table m) (length-table mid) all-retold all-entries

  pub session-mid : (y : Current) → session_of (table mid) y ≡ session_of (table m) y
  session-mid = session-same (table m) (table mid) stands.entries (length-table m) (length-table mid) all-retold
      all-entries

  pub current-mid : (y : Current) → IsCurrent (table m) y → IsCurrent (table mid) y
  current-mid = current-same (table m) (table mid) stands.entries (length-table m) (length-table mid) all-retold
      all-entries

  format-mid : SameFormat m mid
  format-mid = record {
    mark = other-word (address HEADER_PAGE MARK_WORD) (λ is. let z : ⊥ = omega (arith, is) in z);
    pages = other-word (address HEADER_PAGE PAGES_WORD) (λ is. let z : ⊥ = omega (arith, is) in z);
  }

  keeps-mid : KeepsBlocks (block_count m) m mid
  keeps-mid =
      let lt = few in
      set_elsewhere (block_count m) m (1 + e) 10 w (omega arith)
      (λ (block : IsOf (block_count m) (1 + e)). let low_page = block.0 in let z : ⊥ = omega (arith, lt, low_page) in z)
      (inl (λ is. let z : ⊥ = omega (arith, is) in z))

  moved : AreLaid (block_count m) mid (extents (table m)) × (free_chain mid ≡ free_chain m)
      × All (SameBytes m mid) (extents (table m))
  moved = laid_elsewhere (block_count m) m mid (extents (table m)) sized stands.blocks keeps-mid

  pub free_chain-mid : free_chain mid ≡ free_chain m
  free_chain-mid = moved.1

  pub stands-mid : TreeStands mid
  stands-mid = record {
    entries = rules-mid;
    blocks = (let family : List Extent → Type 0 = λ es. AreLaid (block_count mid) mid es in
        subst family (sym (same-extents (table m) (table mid) stands.entries (length-table m) (length-table mid)
        all-retold all-entries)) (laid_as m mid (extents (table m)) format-mid moved.0));
  }

  pub bytes-mid : (f : ℕ) → IsUsed (table m) f → 2 ≤ (entry_in (table m) f).kind
      → SameBytes m mid (extent_told (entry_in (table m) f))
  bytes-mid f used_f high_kind =
      let long = length-table m in
      let small = used_small m f used_f in
      all_extents (SameBytes m mid) (table m) moved.2 f (omega (arith, long, small))
      (extent_told (entry_in (table m) f)) (extent_of-some (entry_in (table m) f) high_kind)

  pub file-mid : (f : ℕ) → f ≢ e → IsUsed (table m) f → file_in mid f ≡ file_in m f
  file-mid f differs used_f =
      let y = entry_in (table m) f in
      let same : content mid y ≡ content m y = ⊎_elim
      (λ (low_kind : y.kind < 2). content-none mid y low_kind ∙ sym (content-none m y low_kind))
      (λ (high_kind : 2 ≤ y.kind).
      let kept = bytes-mid f used_f high_kind in
      content-some mid y high_kind ∙ ap (bytes_of mid) kept.0 ∙ kept.1 ∙ sym (content-some m y high_kind))
      (cases_lt y.kind 2) in
      ap (λ (z : Entry). file_of z (content mid z)) (others f differs) ∙ ap (file_of y) same
