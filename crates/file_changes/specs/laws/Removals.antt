-- What a deletion frees, as it is found before it, and what it makes of the tree.
use Rattle.file_tree.specs.Formats.{block_count}
use Rattle.nvm_board.specs.Facts.{IsMemory}
use Rattle.std.specs.Prelude.{◌≡◌, ◌&&◌, ◌<◌, ◌≤◌, ◌+◌, ◌-◌, ℕ, Bool, true, false, not, if◌then◌else◌, List, map}
use Rattle.std.specs.Prelude.{All}
use Rattle.std.specs.List.{range_with_len, sum_by}
use Rattle.std.proofs.Common.{refl, sym, ◌∙◌, ap, subst, arith, inl, inr, true≢false}
use Rattle.std.proofs.lemmas.List.{length-append}
use Rattle.std.proofs.lemmas.Bool.Decides.{eqb_tells}
use Rattle.block_chain.specs.declared.layout.TheConstants.{MOST_BLOCKS}
use Rattle.block_chain.specs.declared.chain.Chain.{Chain}
use Rattle.block_chain.specs.Chains.{free_chain}
use Rattle.block_chain.specs.Layout.{laid_out, chains_of, IsExtent, AreSplit}
use Rattle.file_tree.specs.declared.entry.Entry.{Entry}
use Rattle.file_changes.specs.declared.deleting.Removal.{Removal}
use Rattle.card_model.specs.Spaces.{free_space}
use Rattle.file_tree.specs.Entries.{free_entry}
use Rattle.file_tree.specs.Table.{table, entry_in, extents, IsUsed}
use Rattle.file_tree.specs.Trees.{tree_of, TreeStands}
use Rattle.file_tree.specs.TreeChanges.{Deletes, with_freed}
use Rattle.file_tree.specs.Subtrees.{leads_up}
use Rattle.file_changes.specs.DeletionParts.{is_gone, going, part_below, IsRemoval, Removes, CanGive}
use Rattle.file_tree.specs.laws.Tables.{entry_in-table}
use Rattle.file_tree.specs.laws.Costs.{laid_blocks}
use Rattle.file_changes.specs.laws.Parting.{staying, GoesOrStays, parts_split, parts_all, shifted}
use Rattle.file_changes.specs.laws.Deleting.{on_page, mid_has_free, mid_apart, deleted, space_freed}

-- the part that goes has no more blocks than there are
module _ (m : List ℕ) (top : ℕ) (stands : TreeStands m) where
  abbrev gone : ℕ → Entry
  gone page = going (table m) top (page - 1)

  abbrev kept : ℕ → Entry
  kept page = staying (table m) top (page - 1)

  parts : (page : ℕ) → 1 ≤ page → page < 1 + 64 → GoesOrStays (on_page m page) (gone page) (kept page)
  parts page from below =
      let f : ℕ = page - 1 in
      let lt : f < 64 = omega (arith, below) in
      let at : 1 + f ≡ page = omega (arith, from) in
      by_test (is_gone (table m) top f) f (sym (entry_in-table m f lt ∙ ap (on_page m) at)) refl
    where
      kind_of_gone : (f : ℕ) → is_gone (table m) top f ≡ true → (entry_in (table m) f).kind ≡ 0 → ⊥
      kind_of_gone f goes none = true≢false (sym goes ∙ (elim (eqb_tells (entry_in (table m) f).kind 0) [
        | inl same ↦ ap (λ (b : Bool). not b && leads_up (table m) 7 top f) same.0
        | inr other ↦ absurd (other.1 none)
      ]))

      by_test : (b : Bool) (f : ℕ) → on_page m page ≡ entry_in (table m) f → is_gone (table m) top f ≡ b
          → GoesOrStays (on_page m page) (going (table m) top f) (staying (table m) top f)
      by_test true f before goes = inl (
        ap (λ (b : Bool). if b then entry_in (table m) f else free_entry) goes ∙ sym before,
        ap (λ (b : Bool). if b then free_entry else entry_in (table m) f) goes,
        λ none. kind_of_gone f goes (sym (ap (λ (x : Entry). x.kind) before) ∙ none),
      )
      by_test false f before stays = inr (
        ap (λ (b : Bool). if b then entry_in (table m) f else free_entry) stays,
        ap (λ (b : Bool). if b then free_entry else entry_in (table m) f) stays ∙ sym before,
      )

  part_is : part_below (table m) top ≡ map gone (range_with_len 1 64)
  unfolding part_below
  part_is = shifted (table m) top 0 64

  pub part_blocks : IsMemory m → sum_by (λ x. x.blocks) (extents (part_below (table m) top)) ≤ MOST_BLOCKS
  unfolding table
  part_blocks sized =
      let stay : List Entry = map kept (range_with_len 1 64) in
      let family : List Entry → Type 0 = λ gs. AreSplit m (extents (table m)) (extents gs) (extents stay) in
      let split = subst family (sym part_is) (parts_split (on_page m) gone kept m 1 64 parts) in
      let all : List Entry → Type 0 = λ gs. All (λ x. IsExtent m x) (extents gs) in
      let each =
      subst all (sym part_is) (parts_all (on_page m) gone kept (λ x. IsExtent m x) 1 64 parts stands.blocks.each).0 in
      let long = laid_blocks m (extents (part_below (table m) top)) each in
      let whole = stands.blocks.whole in
      let inside = stands.blocks.inside in
      let most = sized.most in
      let both = length-append (free_chain m) (laid_out m (extents (table m))) in
      let size = split.size in
      omega (arith, long, whole, both, size, inside, most)

-- What goes is removed: from words that are the same, and by lists that hold what was found.
module _ (m now : List ℕ) (top : ℕ) (sized : IsMemory m) (stands : TreeStands m) (above : 0 < top)
    (used : IsUsed (table m) top) (removal : Removal) (found : IsRemoval m top removal) (same : now ≡ m)
    (chains : List Chain) (chains_are : chains ≡ removal.chains.items) where
  abbrev gone_part : List Entry
  gone_part = part_below (table m) top

  abbrev gone_chains : List Chain
  gone_chains = chains_of (extents gone_part)

  pub can_give : CanGive now gone_part chains
  can_give =
      let family : List ℕ → List Chain → Type 0 = λ l cs. CanGive l gone_part cs in
      subst (λ (l : List ℕ). family l chains) (sym same)
      (subst (λ (cs : List Chain). family m cs) (sym (chains_are ∙ found.chains))
      (λ between freed. (
        mid_has_free m between top sized stands above used freed,
        mid_apart m between top sized stands above used freed,
      )))

  module _ (after : List ℕ) (removes : Removes now gone_part chains after) where
    removed : Removes m gone_part gone_chains after
    removed =
        let family : List ℕ → List Chain → Type 0 = λ l cs. Removes l gone_part cs after in
        subst (λ (cs : List Chain). family m cs) (chains_are ∙ found.chains)
        (subst (λ (l : List ℕ). family l chains) same removes)

    pub removed_deletes : Deletes m top after
    removed_deletes = deleted m removed.between top sized stands above used removed.freed after removed.given

    pub removed_space : free_space (block_count after) (tree_of after)
        ≡ with_freed (free_space (block_count m) (tree_of m)) removal.space
    removed_space = space_freed m removed.between top sized stands above used removed.freed after removed.given
        removal.space found.blocks found.entries
