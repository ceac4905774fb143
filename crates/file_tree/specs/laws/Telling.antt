-- What the parts of the check of a memory say together.
use Rattle.file_tree.specs.Formats.{block_count}
use Rattle.nvm_board.specs.Facts.{IsMemory}
use Rattle.std.specs.Prelude.{◌≡◌, ℕ, List, length, Option, None, Some, option_map}
use Rattle.std.proofs.Common.{refl, sym, ◌∙◌, ap, subst}
use Rattle.block_chain.specs.declared.chain.Extent.{Extent}
use Rattle.block_chain.specs.Chains.{free_chain}
use Rattle.block_chain.specs.Layout.{AreLaid, TellsFreeBlocks}
use Rattle.file_tree.specs.declared.entry.Entry.{Entry}
use Rattle.card_model.specs.declared.space.FreeSpace.{FreeSpace}
use Rattle.file_tree.specs.Table.{table, extents, free_entries, IsTable}
use Rattle.file_tree.specs.Trees.{TreeStands, TellsSpace}
use Rattle.file_tree.specs.laws.Costs.{space_counted}

-- so many free blocks, and the free entries of a table
abbrev pub space_in : List Entry → ℕ → FreeSpace
space_in t blocks = record { blocks = blocks; entries = free_entries t }

-- the entries hold to their rules, their extents lie as they should, and free blocks and entries are counted
tells_space : (m now : List ℕ) (t : List Entry) (es : List Extent) (blocks free : ℕ) → IsMemory m → now ≡ m
    → t ≡ table m → es ≡ extents t → IsTable t → AreLaid (block_count m) now es × (blocks ≡ length (free_chain now))
    → free ≡ free_entries t
    → TellsSpace m (Some (record { blocks = blocks; entries = free }))
tells_space m now t es blocks free sized same entries named rules laid counted =
    let is_table : List Entry → Type 0 = λ l. IsTable l in
    let lies : List ℕ → Type 0 = λ l. AreLaid (block_count m) l es in
    let holds : List Extent → Type 0 = λ l. AreLaid (block_count m) m l in
    let stands : TreeStands m = record {
      entries = subst is_table entries rules;
      blocks = subst holds (named ∙ ap extents entries) (subst lies same laid.0);
    } in
    let blocks_are : blocks ≡ length (free_chain m) = laid.1 ∙ ap (λ (l : List ℕ). length (free_chain l)) same in
    let free_are : free ≡ free_entries (table m) = counted ∙ ap free_entries entries in
    let record_is : ◌≡◌ {A = FreeSpace} (record { blocks = blocks; entries = free })
    (record { blocks = length (free_chain m); entries = free_entries (table m) }) =
    (λ i. record { blocks = blocks_are i; entries = free_are i }) in
    (stands, record_is ∙ sym (space_counted m sized stands))

-- what was found of the blocks tells it, whether they lie as they should or not
pub space_told : (m now : List ℕ) (t : List Entry) (es : List Extent) (found : Option ℕ) (told : Option FreeSpace)
    → IsMemory m → now ≡ m → t ≡ table m → es ≡ extents t → IsTable t → TellsFreeBlocks (block_count m) now es found
    → told ≡ option_map (space_in t) found → TellsSpace m told
space_told m now t es None told sized same entries named rules none is =
    let answer : Option FreeSpace → Type 0 = λ o. TellsSpace m o in
    let lies : List ℕ → Type 0 = λ l. AreLaid (block_count m) l es in
    let holds : List Extent → Type 0 = λ l. AreLaid (block_count m) m l in
    subst answer (sym is)
    (λ stands. none (subst lies (sym same) (subst holds (sym (named ∙ ap extents entries)) stands.blocks)))
space_told m now t es (Some blocks) told sized same entries named rules laid is =
    let answer : Option FreeSpace → Type 0 = λ o. TellsSpace m o in
    subst answer (sym is) (tells_space m now t es blocks (free_entries t) sized same entries named rules laid refl)
