-- Whether there is a place for a new file, and which.
use Rattle.file_tree.specs.Formats.{block_count}
use Rattle.nvm_board.specs.Facts.{IsMemory}
use Rattle.std.specs.Prelude.{◌≡◌, ◌≢◌, ◌==◌, ◌<◌, ◌≤◌, ◌||◌, ℕ, Bool, true, false, if◌then◌else◌, nat_lt}
use Rattle.std.specs.Prelude.{List, length, None, Some}
use Rattle.std.proofs.Common.{refl, sym, ◌∙◌, ap, arith, inl, inr, true≢false}
use Rattle.std.proofs.lemmas.Bool.Decides.{eqb_tells}
use Rattle.std.proofs.lemmas.Bool.{lt-ltb, le-ltb}
use Rattle.card_model.specs.declared.status.TheConstants.Sw.{NO_ROOM, CONDITIONS_NOT_SATISFIED}
use Rattle.card_model.specs.declared.fcp.FileKind.{FileKind}
use Rattle.card_model.specs.FileControl.{size_of_kind}
use Rattle.block_chain.specs.Chains.{free_chain}
use Rattle.card_model.specs.declared.space.FreeSpace.{FreeSpace}
use Rattle.file_changes.specs.declared.placing.NewPlace.TheVariants.{At}
use Rattle.card_model.specs.FileTrees.{Path, Tree}
use Rattle.card_model.specs.Spaces.{blocks_for, free_space}
use Rattle.file_tree.specs.Table.{table, ancestor, path_of, free_entries, IsUsed}
use Rattle.file_tree.specs.Trees.{tree_of, TreeStands}
use Rattle.file_changes.specs.CreationRefusals.{place_refusal}
use Rattle.file_changes.specs.CreationParts.{TellsFreeEntry, TellsPlace}
use Rattle.file_tree.specs.laws.Tables.{length-table}
use Rattle.file_tree.specs.laws.Costs.{space_counted}
use Rattle.file_changes.specs.laws.Parting.{none_free, some_free}
use Rattle.file_tree.specs.laws.Refusing.{level_told}

place_is : (n : ℕ) (tree : Tree) (df : Path) (kind : FileKind) (a b c : Bool) → (length df == 7) ≡ a
    → ((free_space n tree).entries == 0) ≡ b → nat_lt (free_space n tree).blocks (blocks_for (size_of_kind kind)) ≡ c
    → place_refusal n tree df kind
    ≡ (if a then Some CONDITIONS_NOT_SATISFIED else if b || c then Some NO_ROOM else None)
place_is n tree df kind a b c first second third = λ i.
    if first i then Some CONDITIONS_NOT_SATISFIED else if second i || third i then Some NO_ROOM else None

module _ (m : List ℕ) (sized : IsMemory m) (stands : TreeStands m) (df : ℕ)
    (used : IsUsed (table m) df) (kind : FileKind) where
  abbrev path : Path
  path = path_of (table m) df

  entries_are : (free_space (block_count m) (tree_of m)).entries ≡ free_entries (table m)
  entries_are = ap (λ (s : FreeSpace). s.entries) (space_counted m sized stands)

  blocks_are : (free_space (block_count m) (tree_of m)).blocks ≡ length (free_chain m)
  blocks_are = ap (λ (s : FreeSpace). s.blocks) (space_counted m sized stands)

  pub place_deepest : ancestor (table m) 6 df ≢ 0
      → Some CONDITIONS_NOT_SATISFIED ≡ place_refusal (block_count m) (tree_of m) path kind
  place_deepest deep = sym (place_is (block_count m) (tree_of m) path kind true _ _
      (level_told m stands.entries df true used (λ is. deep) (λ is. absurd (not_both is))) refl refl)
    where
      not_both : true ≡ false → ⊥
      not_both is = true≢false is

  flat : ancestor (table m) 6 df ≡ 0 → (length path == 7) ≡ false
  flat level = level_told m stands.entries df false used (λ is. absurd (true≢false (sym is))) (λ is. level)

  pub place_none : ancestor (table m) 6 df ≡ 0 → TellsFreeEntry (table m) None
      → Some NO_ROOM ≡ place_refusal (block_count m) (tree_of m) path kind
  place_none level none =
      let nothing = none_free (table m) (λ f lt. none f (let l = length-table m in omega (arith, l, lt))) in
      let zero_entries : ((free_space (block_count m) (tree_of m)).entries == 0) ≡ true =
      elim (eqb_tells (free_space (block_count m) (tree_of m)).entries 0) [
        | inl same ↦ same.0
        | inr other ↦ absurd (other.1 (entries_are ∙ nothing))
      ] in
      sym (place_is (block_count m) (tree_of m) path kind false true _ (flat level) zero_entries refl)

  some_entries : (e : ℕ) → TellsFreeEntry (table m) (Some e)
      → ((free_space (block_count m) (tree_of m)).entries == 0) ≡ false
  some_entries e told = elim (eqb_tells (free_space (block_count m) (tree_of m)).entries 0) [
    | inl same ↦ absurd (
        let some = some_free (table m) e (let l = length-table m in let lt = told.0 in omega (arith, l, lt)) told.1 in
        let are = entries_are in
        let none = same.1 in
        omega (arith, some, are, none))
    | inr other ↦ other.0
  ]

  pub place_small : (e : ℕ) → ancestor (table m) 6 df ≡ 0 → TellsFreeEntry (table m) (Some e)
      → length (free_chain m) < blocks_for (size_of_kind kind)
      → Some NO_ROOM ≡ place_refusal (block_count m) (tree_of m) path kind
  place_small e level told few =
      let too_few : nat_lt (free_space (block_count m) (tree_of m)).blocks (blocks_for (size_of_kind kind)) ≡ true =
      (let are = blocks_are in lt-ltb (free_space (block_count m) (tree_of m)).blocks (blocks_for (size_of_kind kind))
      (omega (arith, are, few))) in
      sym (place_is (block_count m) (tree_of m) path kind false false true (flat level) (some_entries e told) too_few)

  pub place_there : (e : ℕ) → ancestor (table m) 6 df ≡ 0 → TellsFreeEntry (table m) (Some e)
      → blocks_for (size_of_kind kind) ≤ length (free_chain m) → TellsPlace m df kind (At e)
  place_there e level told enough =
      let not_few : nat_lt (free_space (block_count m) (tree_of m)).blocks (blocks_for (size_of_kind kind)) ≡ false =
      (let are = blocks_are in le-ltb (free_space (block_count m) (tree_of m)).blocks (blocks_for (size_of_kind kind))
      (omega (arith, are, enough))) in (
        place_is (block_count m) (tree_of m) path kind false false false (flat level) (some_entries e told) not_few,
        record { small = told.0; free = told.1; level = level; enough = enough },
      )
