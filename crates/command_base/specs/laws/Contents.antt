-- The content of an elementary file, by its entry and its chain.
use Rattle.std.proofs.Common.{◌≡◌, ◌≢◌, ◌==◌, ◌<◌, ◌≤◌, ◌*◌, ℕ, Bool, true, false, nat_lt}
use Rattle.std.proofs.Common.{List, [], length, take}
use Rattle.std.proofs.Common.{Option, Some, None, refl, sym, ◌∙◌, ap, arith, if◌then◌else◌}
use Rattle.std.proofs.Common.{⊎_elim, true≢false}
use Rattle.std.specs.Option.{option_map_or}
use Rattle.std.proofs.lemmas.List.{length-take-le, take_all}
use Rattle.std.proofs.lemmas.Bool.{lt-ltb, le-ltb, ne_eqb, cases_lt, cases_eq}
use Rattle.nvm_board.specs.Facts.{IsMemory}
use Rattle.card_model.specs.declared.status.TheConstants.Sw.{DONE, END_REACHED}
use Rattle.block_chain.specs.declared.chain.Extent.{Extent}
use Rattle.block_chain.specs.Chains.{chain, bytes_of, IsChain}
use Rattle.block_chain.specs.Layout.{blocks_of, IsExtent}
use Rattle.block_chain.specs.laws.Extents.{laid_chains}
use Rattle.file_tree.specs.declared.entry.Entry.{Entry}
use Rattle.card_model.specs.FileTrees.{transparent, linear, cyclic, dedicated, elementary, is_transparent}
use Rattle.file_tree.specs.Entries.{file_of, extent_told, entry_capacity, linear_records, cyclic_records, name_of}
use Rattle.file_tree.specs.Table.{table, entry_in, extents}
use Rattle.file_tree.specs.Trees.{content, file_in}
use Rattle.file_tree.specs.laws.Costs.{all_extents, entry_extent, extent_of-some, room_for_size}
use Rattle.file_tree.specs.laws.Tables.{length-table}
use Rattle.card_model.specs.BinaryCommands.{read_response, end_status}
use Rattle.card_model.specs.Behaviours.{Response}
use Rattle.command_base.specs.Standing.{IsCard}

-- What READ BINARY answers, by the bytes from the offset on: as many as Le asks for at most, and a status word that
-- tells where they are fewer.
module _ (rest : List ℕ) (expected : ℕ) where
  -- the answer by the two tests
  abbrev answer : Bool → Bool → Response
  answer all past =
      if all then record { text = take 256 rest; status = DONE } else
      if past then record { text = rest; status = END_REACHED } else
      record { text = take expected rest; status = DONE }

  abbrev told : List ℕ → Response
  told text = record { text = text; status = end_status (length text) expected }

  abbrev asked : Bool → ℕ
  asked all = if all then 256 else expected

  abbrev ended : List ℕ → Bool → Response
  ended text past = record { text = text; status = if past then END_REACHED else DONE }

  pub response-is : read_response rest expected ≡ told (take (if expected == 0 then 256 else expected) rest)
  response-is = ⊎_elim
      (λ (none : expected ≡ 0).
      let all : (expected == 0) ≡ true = ap (λ (n : ℕ). n == 0) none in
      let enough = le-ltb (length (take 256 rest)) expected (omega (arith, none)) in
      (λ i. answer (all i) (nat_lt (length rest) expected)) ∙ sym (λ i. ended (take 256 rest) (enough i))
      ∙ sym (λ i. told (take (asked (all i)) rest)))
      (λ (some : expected ≢ 0).
      let known : (expected == 0) ≡ false = ne_eqb expected 0 some in
      ⊎_elim
      (λ (past : length rest < expected).
      let more = lt-ltb (length rest) expected past in
      let whole : take expected rest ≡ rest = take_all expected rest (omega (arith, past)) in
      (λ i. answer (known i) (more i)) ∙ sym (λ i. ended rest (more i)) ∙ sym (λ i. told (whole i))
      ∙ sym (λ i. told (take (asked (known i)) rest)))
      (λ (within : expected ≤ length rest).
      let less = le-ltb (length rest) expected within in
      let size = length-take-le expected rest within in
      let enough = le-ltb (length (take expected rest)) expected (omega (arith, size)) in
      (λ i. answer (known i) (less i)) ∙ sym (λ i. ended (take expected rest) (enough i))
      ∙ sym (λ i. told (take (asked (known i)) rest)))
      (cases_lt (length rest) expected))
      (cases_eq expected 0)

-- the tests of a file by the kind of its entry
by_kind : (a b d : Bool) (name : Option (List ℕ)) (short : Option ℕ) (held : List ℕ) (l c : ℕ) (rs ss : List (List ℕ))
    → a ≡ false → b ≡ false
    → is_transparent (if a then dedicated name else elementary short (if b then transparent held else if d then linear
    l c rs else cyclic l c ss)) ≡ false
by_kind false false true name short held l c rs ss first second = refl
by_kind false false false name short held l c rs ss first second = refl
by_kind true b d name short held l c rs ss first second = absurd (true≢false first)
by_kind false true d name short held l c rs ss first second = absurd (true≢false second)

module _ (m : List ℕ) (e : ℕ) where
  abbrev x : Entry
  x = entry_in (table m) e

  -- the file of a transparent entry holds the first bytes of its chain
  pub transparent-is : x.kind ≡ 2
      → (file_in m e).kind ≡ elementary (if x.short == 0 then None else Some x.short) (transparent (take x.size
      (content m x)))
  unfolding file_of
  transparent-is is =
      let bytes = content m x in
      ap (λ (k : ℕ). if k == 1 then dedicated (if x.name_length == 0 then None else Some (name_of x))
      else elementary (if x.short == 0 then None else Some x.short)
      (if k == 2 then transparent (take x.size bytes) else
      if k == 3 then linear x.record_length (entry_capacity x) (linear_records x bytes) else
      cyclic x.record_length (entry_capacity x) (cyclic_records x bytes))) is

  module _ (sized : IsMemory m) (words : IsCard m) (below : e < 64) (high : 2 ≤ x.kind) where
    -- its content is the bytes of its chain
    pub content-is : content m x ≡ bytes_of m (chain m x.first)
    unfolding content
    content-is = ap (λ (o : Option Extent). option_map_or (λ (extent : Extent). bytes_of m (blocks_of m extent)) o [])
        (extent_of-some x high)

    pub extent-is : IsExtent m (extent_told x)
    extent-is = entry_extent m sized words.tree e below high

    pub chain-is : IsChain m x.first (chain m x.first)
    chain-is =
        let is_chain : Extent → Type 0 = λ extent. IsChain m extent.chain.first (blocks_of m extent) in
        all_extents is_chain (table m) (laid_chains _ m (extents (table m)) words.tree.blocks) e
        (let l = length-table m in omega (arith, l, below)) (extent_told x) (extent_of-some x high)

    -- which has room for its size
    pub room-is : x.size ≤ length (content m x)
    room-is = room_for_size m sized words.tree e below high

    pub fits-chain : x.size ≤ 60 * length (chain m x.first)
    fits-chain = let blocks = extent-is.blocks in omega (arith, blocks)
