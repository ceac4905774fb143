-- What a creation makes of the tree, from its steps.
use Rattle.nvm_board.specs.laws.Sizes.{memory_same}
use Rattle.file_tree.specs.Formats.{block_count}
use Rattle.nvm_board.specs.Facts.{IsMemory}
use Rattle.std.specs.Prelude.{◌≡◌, ◌≤◌, ◌+◌, ◌*◌, ℕ, List, [], ◌∷◌, ◌++◌, length, take, replicate, Option, None}
use Rattle.std.specs.FinMap.{insert}
use Rattle.std.proofs.Common.{refl, sym, ◌∙◌, ap, subst, arith, ⊎_elim}
use Rattle.std.proofs.lemmas.List.{length-drop}
use Rattle.card_model.specs.declared.status.Sw.{Sw}
use Rattle.card_model.specs.declared.fcp.Fcp.{Fcp}
use Rattle.card_model.specs.FileControl.{IsCreatable, size_of_kind}
use Rattle.block_chain.specs.declared.layout.TheConstants.{BLOCK_BYTES}
use Rattle.block_chain.specs.declared.chain.Chain.{Chain}
use Rattle.block_chain.specs.Chains.{free_chain, bytes_of}
use Rattle.block_chain.specs.Layout.{IsOf}
use Rattle.file_tree.specs.declared.entry.Entry.{Entry}
use Rattle.card_model.specs.declared.space.FreeSpace.{FreeSpace}
use Rattle.card_model.specs.FileTrees.{File}
use Rattle.card_model.specs.Spaces.{blocks_for}
use Rattle.file_tree.specs.Entries.{entry_of, file_of}
use Rattle.file_tree.specs.declared.layout.TheConstants.{FIRST_ENTRY_PAGE}
use Rattle.file_tree.specs.laws.Tables.{entry_in-table}
use Rattle.block_chain.specs.BlockWords.{page_words}
use Rattle.file_tree.specs.Table.{table, entry_in, path_of, free_entries, IsUsed}
use Rattle.file_tree.specs.Trees.{tree_of, TreeStands}
use Rattle.file_tree.specs.TreeChanges.{SameTree, Creates, with_freed}
use Rattle.card_model.specs.NewFiles.{blank, new_file, short_of_new}
use Rattle.file_changes.specs.CreationRefusals.{first_reason, taken_refusal, place_refusal}
use Rattle.file_changes.specs.Creations.{kind_number, CreatesNew, IsCreated}
use Rattle.file_changes.specs.CreationParts.{entry_for, no_chain, short_option, WritesEntry, IsPlaceFor}
use Rattle.file_changes.specs.CreationParts.{TakesAndWrites, FillsAndAdds}
use Rattle.file_tree.specs.laws.Costs.{space_counted}
use Rattle.file_tree.specs.laws.Formats.{count_same}
use Rattle.file_tree.specs.laws.Rewriting.{filled, rest_format}
use Rattle.file_changes.specs.laws.Adding.{MayStand}
use Rattle.file_changes.specs.laws.NewEntries.{new_dedicated, new_by_kind, kind_blocks, some_kind}
use Rattle.file_changes.specs.laws.Creating.{df_created, df_path, df_free, df_entries, ef_created, ef_path, ef_free}
use Rattle.file_changes.specs.laws.Creating.{ef_entries}
use Rattle.file_changes.specs.laws.Allowed.{none_taken, may_stand}
use Rattle.file_changes.specs.laws.Entering.{created_adds}

-- after a change that the tree does not see
creates_after : (m mid after : List ℕ) (df identifier : ℕ) (file : File) → SameTree m mid
    → Creates mid df identifier file after → Creates m df identifier file after
creates_after m mid after df identifier file same creates = record {
  tree = creates.tree ∙ (λ i. insert (same.tree i) (path_of (same.table i) df ++ identifier ∷ []) file);
  stands = creates.stands;
  rest = record {
    size = creates.rest.size ∙ same.rest.size;
    words = λ page place small entry block header.
        creates.rest.words page place small entry (λ is. block (as_before page is)) header
        ∙ same.rest.words page place small entry block header;
  };
}
  where
    as_before : (page : ℕ) → IsOf (block_count mid) page → IsOf (block_count m) page
    as_before page is = let family : ℕ → Type 0 = λ n. IsOf n page in
        subst family (count_same m mid (rest_format m mid same.rest)) is

module _ (m after : List ℕ) (df n e : ℕ) (fcp : Fcp) (sized : IsMemory m) (stands : TreeStands m)
    (dedicated : (entry_in (table m) df).kind ≡ 1) (is : IsCreatable fcp)
    (none : taken_refusal (tree_of m) (path_of (table m) df) fcp ≡ None)
    (no_reason : place_refusal (block_count m) (tree_of m) (path_of (table m) df) fcp.kind ≡ None)
    (place : IsPlaceFor m df fcp.kind e) (short : short_option n ≡ short_of_new (tree_of m) (path_of (table m) df) fcp)
    (made : FillsAndAdds m e (entry_for fcp df n no_chain) (blocks_for (size_of_kind fcp.kind)) after) where
  abbrev pub blocks : ℕ
  blocks = blocks_for (size_of_kind fcp.kind)

  abbrev pub mid : List ℕ
  mid = made.between

  kept : SameTree m mid
  kept = filled m mid blocks sized stands made.only

  sized_mid : IsMemory mid
  sized_mid = memory_same m mid kept.rest.size sized

  free_mid : (entry_in (table mid) e).kind ≡ 0
  free_mid = ap (λ (t : List Entry). (entry_in t e).kind) kept.table ∙ place.free

  may : (chain : Chain) → MayStand (table mid) df (entry_for fcp df n chain)
  may chain =
      let family : List Entry → Type 0 = λ t. MayStand t df (entry_for fcp df n chain) in
      subst family (sym kept.table) (may_stand m df n fcp chain stands.entries dedicated place.level is
      (none_taken (tree_of m) (path_of (table m) df) fcp none) short)

  enough_mid : blocks ≤ length (free_chain mid)
  enough_mid =
      (let l = ap (λ (ps : List ℕ). length ps) kept.free in let enough = place.enough in omega (arith, l, enough))

  -- the new file is as its parameters tell
  as_told : (file : File) → file ≡ new_file fcp (short_option n) → Creates mid df fcp.identifier file after
      → CreatesNew m df fcp after
  as_told file same creates =
      let family : File → Type 0 = λ f. Creates m df fcp.identifier f after in
      subst family (same ∙ ap (new_file fcp) short) (creates_after m mid after df fcp.identifier file kept creates)

  -- what is left to say of it
  finish : CreatesNew m df fcp after
      → IsUsed (table after) e × (path_of (table after) e ≡ path_of (table mid) df ++ fcp.identifier ∷ [])
      → free_entries (table mid) ≡ free_entries (table after) + 1
      → length (free_chain mid) ≡ length (free_chain after) + blocks
      → IsMemory after → (x : Entry) → entry_of (page_words after (FIRST_ENTRY_PAGE + e)) ≡ x
      → x.kind ≡ kind_number fcp.kind → x.parent ≡ df → IsCreated m df fcp e blocks after
  finish creates there entries chain sized_after x written kind parent =
      let old = space_counted m sized stands in
      let new = space_counted after sized_after creates.stands in
      let at : entry_in (table after) e ≡ x = entry_in-table after e place.small ∙ written in
      let count = ap free_entries kept.table in
      let long = ap (λ (ps : List ℕ). length ps) kept.free in
      let a : length (free_chain m) ≡ length (free_chain after) + blocks = omega (arith, chain, long) in
      let b : free_entries (table m) ≡ free_entries (table after) + 1 = omega (arith, entries, count) in
      record {
        none = ap (λ (o : Option Sw). first_reason o
            (place_refusal (block_count m) (tree_of m) (path_of (table m) df) fcp.kind)) none ∙ no_reason;
        creates = creates;
        used = there.0;
        kind = ap (λ (y : Entry). y.kind) at ∙ kind;
        parent = ap (λ (y : Entry). y.parent) at ∙ parent;
        path = there.1 ∙ ap (λ (t : List Entry). path_of t df ++ fcp.identifier ∷ []) kept.table;
        adds = created_adds m after e blocks (entry_for fcp df n no_chain) sized stands place.small place.free
            (some_kind fcp.kind) made;
        space = old ∙ (λ i. record { blocks = a i; entries = b i })
            ∙ sym (ap (λ (s : FreeSpace). with_freed s (record { blocks = blocks; entries = 1 })) new);
      }

  after_df : kind_number fcp.kind ≡ 1 → blocks ≡ 0 → WritesEntry mid e (entry_for fcp df n no_chain) after
      → IsCreated m df fcp e blocks after
  after_df one nothing writes =
      let x = entry_for fcp df n no_chain in
      let file = new_dedicated fcp.identifier fcp.life_cycle fcp.rule df n no_chain fcp.kind [] is.ranges.kind one in
      let creates = as_told (file_of x []) file
      (df_created mid after e df x sized_mid kept.stands place.small free_mid (may no_chain) one writes) in
      let there = df_path mid after e df x sized_mid kept.stands place.small free_mid (may no_chain) one writes in
      let entries = df_entries mid after e df x sized_mid kept.stands place.small free_mid (may no_chain) one writes in
      let chain = ap (λ (ps : List ℕ). length ps)
      (df_free mid after e df x sized_mid kept.stands place.small free_mid (may no_chain) one writes) in
      finish creates there entries (omega (arith, chain, nothing)) (memory_same mid after writes.size sized_mid) x
      writes.entry refl refl

  after_ef : 2 ≤ kind_number fcp.kind → TakesAndWrites mid e (entry_for fcp df n no_chain) blocks after
      → IsCreated m df fcp e blocks after
  after_ef high made_ef =
      let x = entry_for fcp df n made_ef.chain in
      let taken = made_ef.between in
      let bytes : bytes_of mid (take blocks (free_chain mid)) ≡ replicate (BLOCK_BYTES * blocks) blank =
      ap (λ (ps : List ℕ). bytes_of mid (take blocks ps)) kept.free ∙ made.filled in
      let file = new_by_kind fcp.identifier fcp.life_cycle fcp.rule df n made_ef.chain fcp.kind (BLOCK_BYTES * blocks)
      is.ranges.kind (enough_bytes (size_of_kind fcp.kind)) in
      let creates = as_told (file_of x (bytes_of mid (take blocks (free_chain mid)))) (ap (file_of x) bytes ∙ file)
      (ef_created mid taken after e df blocks x sized_mid kept.stands place.small free_mid (may made_ef.chain) high refl
      made_ef.some enough_mid made_ef.takes made_ef.writes) in
      let there = ef_path mid taken after e df blocks x sized_mid kept.stands place.small free_mid (may made_ef.chain)
      high refl made_ef.some enough_mid made_ef.takes made_ef.writes in
      let entries = ef_entries mid taken after e df blocks x sized_mid kept.stands place.small free_mid
      (may made_ef.chain) high refl made_ef.some enough_mid made_ef.takes made_ef.writes in
      let chain = ap (λ (ps : List ℕ). length ps) (ef_free mid taken after e df blocks x sized_mid kept.stands
      place.small free_mid (may made_ef.chain) high refl made_ef.some enough_mid made_ef.takes made_ef.writes) in
      let cut = length-drop blocks (free_chain mid) in
      finish creates there entries (omega (arith, chain, cut, enough_mid))
      (memory_same mid after (made_ef.writes.size ∙ made_ef.takes.only.size) sized_mid) x made_ef.writes.entry refl refl
    where
      enough_bytes : (size : ℕ) → size ≤ BLOCK_BYTES * blocks_for size
      enough_bytes size = omega arith

  pub is_created : IsCreated m df fcp e blocks after
  is_created = ⊎_elim
      (λ (no_blocks : (kind_number fcp.kind ≡ 1) × (blocks ≡ 0)). ⊎_elim
      (λ (alone : (blocks ≡ 0) × WritesEntry mid e (entry_for fcp df n no_chain) after). after_df no_blocks.0
      no_blocks.1 alone.1) (λ (over : TakesAndWrites mid e (entry_for fcp df n no_chain) blocks after). absurd (
      let some = over.some in let nothing = no_blocks.1 in omega (arith, some, nothing)))
      made.adds)
      (λ (has_blocks : (2 ≤ kind_number fcp.kind) × (1 ≤ blocks)). ⊎_elim
      (λ (alone : (blocks ≡ 0) × WritesEntry mid e (entry_for fcp df n no_chain) after). absurd (
      let some = has_blocks.1 in let nothing = alone.0 in omega (arith, some, nothing)))
      (λ (over : TakesAndWrites mid e (entry_for fcp df n no_chain) blocks after). after_ef has_blocks.0 over)
      made.adds)
      (kind_blocks fcp.kind is.ranges.kind)
