-- What another state in the entry of a file makes of the tree: its file in this state, and all others stay.
use Rattle.nvm_board.specs.declared.board.TheConstants.{PAGE_WORDS}
use Rattle.block_chain.specs.BlockWords.{word, page_words}
use Rattle.file_tree.specs.declared.layout.TheConstants.{MARK_WORD, PAGES_WORD}
use Rattle.file_tree.specs.laws.Formats.{laid_as}
use Rattle.file_tree.specs.Formats.{block_count, SameFormat}
use Rattle.std.specs.Prelude.{◌≡◌, ◌≢◌, ◌==◌, ◌<◌, ◌≤◌, ◌+◌, ◌-◌, ℕ, zero, suc, Bool, if◌then◌else◌, List, []}
use Rattle.std.specs.Prelude.{◌∷◌, ◌++◌}
use Rattle.std.specs.Prelude.{length, slice_index, slice_set, Option, None, Some, IsSome, is_some, unwrap_or, All}
use Rattle.std.specs.List.{cons_option}
use Rattle.std.specs.Option.{option_map_or}
use Rattle.std.specs.FinMap.{insert}
use Rattle.std.proofs.Common.{refl, sym, ◌∙◌, ap, ap₂, subst, arith, inl, inr, ⊎_elim, true≢false}
use Rattle.std.proofs.Common.{get_or-set_same, get_or-set_other, length-set}
use Rattle.std.proofs.lemmas.Bool.{cases_lt}
use Rattle.std.proofs.lemmas.Bool.Decides.{eqb_tells}
use Rattle.nvm_board.specs.Facts.{address, IsMemory}
use Rattle.card_model.specs.LifeCycle.{life_cycle_at, life_cycle_byte}
use Rattle.card_model.specs.declared.life_cycle.LifeCycle.{LifeCycle}
use Rattle.card_model.specs.declared.life_cycle.LifeCycle.TheVariants.{Creation, Initialisation, Deactivated, Activated}
use Rattle.card_model.specs.declared.life_cycle.LifeCycle.TheVariants.{Terminated}
use Rattle.block_chain.specs.declared.layout.TheConstants.{HEADER_PAGE, FREE_HEAD_WORD}
use Rattle.block_chain.specs.declared.chain.Extent.{Extent}
use Rattle.block_chain.specs.Chains.{bytes_of, free_chain}
use Rattle.block_chain.specs.ChainChanges.{KeepsBlocks}
use Rattle.block_chain.specs.Layout.{blocks_of, AreLaid, SameBytes}
use Rattle.block_chain.specs.laws.Footprints.{page_words_same, laid_elsewhere}
use Rattle.block_chain.specs.laws.Words.{index-page_words}
use Rattle.file_tree.specs.declared.entry.Entry.{Entry}
use Rattle.file_tree.specs.declared.layout.TheConstants.{FIRST_ENTRY_PAGE}
use Rattle.card_model.specs.FileTrees.{Path, File}
use Rattle.file_tree.specs.Entries.{free_entry, entry_told, entry_of, file_of, byte_of, low, extent_of}
use Rattle.file_tree.specs.Entries.{entry_by, extent_told, name_of}
use Rattle.card_model.specs.FileLives.{life_at, with_life}
use Rattle.file_tree.specs.States.{ChangesLife}
use Rattle.file_tree.specs.Table.{table, entry_in, ancestor, path_in, path_of, extents, IsUsed, IsChild}
use Rattle.file_tree.specs.Table.{IsEntry, IsTable}
use Rattle.file_tree.specs.Trees.{content, tree_of, TreeStands, file_in}
use Rattle.file_tree.specs.TreeParts.{TellsLife}
use Rattle.file_changes.specs.CreationParts.{WritesEntry}
use Rattle.file_tree.specs.laws.Tables.{length-table, entry_in-table, entry_past, entry_within, entry_of-free}
use Rattle.file_tree.specs.laws.Tables.{entry_of-used, mapped-same}
use Rattle.file_tree.specs.laws.Nodes.{file_at_entry, used_small}
use Rattle.file_tree.specs.laws.Costs.{extent_of-some, all_extents}
use Rattle.file_tree.specs.laws.Contents.{content-none, content-some}
use Rattle.file_tree.specs.laws.Changing.{tree_inserted}
use Rattle.file_changes.specs.laws.Creating.{before, behind, extents_around}
use Rattle.file_changes.specs.laws.Deleting.{on_page}
use Rattle.file_tree.specs.laws.Barring.{life_told_there}
use Rattle.file_changes.specs.laws.NewEntries.{life_again}

-- an entry in another state
abbrev pub living : Entry → ℕ → Entry
living x life = record x { life = life }

-- the extent and the file of an entry in another state
extent_of-living : (x : Entry) (life : ℕ) → extent_of (living x life) ≡ extent_of x
unfolding extent_of
extent_of-living x life = refl

content-living : (m : List ℕ) (x : Entry) (life : ℕ) → content m (living x life) ≡ content m x
unfolding content
content-living m x life = ap (λ (o : Option Extent). option_map_or (λ k. bytes_of m (blocks_of m k)) o [])
    (extent_of-living x life)

file_of-living : (x : Entry) (bytes : List ℕ) (state : LifeCycle)
    → file_of (living x (life_cycle_byte state)) bytes ≡ with_life (file_of x bytes) state
unfolding file_of
file_of-living x bytes state =
    let again = life_again state in
    λ i. record (file_of x bytes) { life = unwrap_or (again i) Activated }

-- where two tables have the same entries but for their states, the one keeps to the rules where the other does
module _ (t s : List Entry) (rules : IsTable t) (size : length t ≡ 64) (long : length s ≡ 64) (lives : ℕ → ℕ)
    (same : (f : ℕ) → entry_in s f ≡ living (entry_in t f) (lives f))
    (states : (f : ℕ) → IsUsed t f → IsSome (life_cycle_at (lives f)))
    (idle : (f : ℕ) → (entry_in t f).kind ≡ 0 → lives f ≡ 0) where
  same_kind : (f : ℕ) → (entry_in s f).kind ≡ (entry_in t f).kind
  same_kind f = ap (λ (y : Entry). y.kind) (same f)

  same_parent : (f : ℕ) → (entry_in s f).parent ≡ (entry_in t f).parent
  same_parent f = ap (λ (y : Entry). y.parent) (same f)

  same_identifier : (f : ℕ) → (entry_in s f).identifier ≡ (entry_in t f).identifier
  same_identifier f = ap (λ (y : Entry). y.identifier) (same f)

  same_name : (f : ℕ) → name_of (entry_in s f) ≡ name_of (entry_in t f)
  same_name f = ap name_of (same f)

  same_short : (f : ℕ) → (entry_in s f).short ≡ (entry_in t f).short
  same_short f = ap (λ (y : Entry). y.short) (same f)

  pub living_used : (f : ℕ) → IsUsed s f → IsUsed t f
  living_used f used none = used (same_kind f ∙ none)

  pub living_now : (f : ℕ) → IsUsed t f → IsUsed s f
  living_now f used none = used (sym (same_kind f) ∙ none)

  child_before : (up f : ℕ) → IsChild s up f → IsChild t up f
  child_before up f child = record {
    below = child.below;
    used = living_used f child.used;
    parent = sym (same_parent f) ∙ child.parent;
  }

  same_ancestors : (n f : ℕ) → ancestor s n f ≡ ancestor t n f
  unfolding ancestor
  same_ancestors zero f = refl
  same_ancestors (suc n) f = ap (ancestor s n) (same_parent f) ∙ same_ancestors n (entry_in t f).parent

  same_paths : (n f : ℕ) → path_in s n f ≡ path_in t n f
  unfolding path_in
  same_paths zero f = refl
  same_paths (suc n) f =
      ap (λ (y : Entry). if f == 0 then [] else path_in s n y.parent ++ y.identifier ∷ []) (same f)
      ∙ ap (λ (p : Path). if f == 0 then [] else p ++ (entry_in t f).identifier ∷ [])
      (same_paths n (entry_in t f).parent)

  pub living_paths : (f : ℕ) → path_of s f ≡ path_of t f
  living_paths f = same_paths 7 f

  living_entry : (f : ℕ) → f < 64 → IsEntry (living (entry_in t f) (lives f))
  living_entry f lt =
      let within : f < length t = omega (arith, size, lt) in
      let family : Entry → Type 0 = λ y. IsEntry y in
      let was : IsEntry (entry_in t f) =
      subst family (entry_within t f free_entry within) (rules.each f free_entry within) in
      record {
        free = λ none. (idle f none, (was.free none).1);
        used = λ some. let file = was.used some in record {
          kind = file.kind;
          life = states f some;
          identifier = file.identifier;
          short = record { most = file.short.most; of_ef = file.short.of_ef };
          name = record { most = file.name.most; of_df = file.name.of_df };
          rule = record { most = file.rule.most; rule = file.rule.rule };
          body = record {
            transparent = λ is. let body = file.body.transparent is in record {
              some = body.some;
              size = body.size;
              record_length = body.record_length;
              records = body.records;
              start = body.start;
            };
            records = λ is. let body = file.body.records is in record {
              some = body.some;
              record_length = body.record_length;
              multiple = body.multiple;
              size = body.size;
              room = body.room;
              capacity = body.capacity;
              records = body.records;
              start = body.start;
              linear = body.linear;
            };
          };
        };
      }

  pub living_rules : IsTable s
  living_rules = record {
    each = λ i d lt.
        let small : i < 64 = omega (arith, lt, long) in
        let family : Entry → Type 0 = λ y. IsEntry y in
        subst family (sym (entry_within s i d lt ∙ same i)) (living_entry i small);
    master = record {
      kind = same_kind 0 ∙ rules.master.kind;
      identifier = same_identifier 0 ∙ rules.master.identifier;
      parent = same_parent 0 ∙ rules.master.parent;
    };
    below = λ f some used. let rule = rules.below f some (living_used f used) in record {
      parent = ap (λ (k : ℕ). (entry_in s k).kind) (same_parent f) ∙ same_kind (entry_in t f).parent ∙ rule.parent;
      level = same_ancestors 7 f ∙ rule.level;
      identifier = λ is. rule.identifier (sym (same_identifier f) ∙ is);
    };
    identifiers = λ up f g one two is. rules.identifiers up f g (child_before up f one) (child_before up g two)
        (sym (same_identifier f) ∙ is ∙ same_identifier g);
    short_identifiers = λ up f g one two some is. rules.short_identifiers up f g (child_before up f one)
        (child_before up g two) (λ none. some (same_short f ∙ none)) (sym (same_short f) ∙ is ∙ same_short g);
    names = λ f g used other some is. rules.names f g (living_used f used) (living_used g other)
        (let l = ap (λ (bs : List ℕ). length bs) (same_name f) in omega (arith, l, some))
        (sym (same_name f) ∙ is ∙ same_name g);
  }

-- what the words of a page tell where only the first is another
told_again : (old new : List ℕ) (w life : ℕ) (x : Entry) → x ≡ entry_told old → slice_index new 0 ≡ w
    → ((k : ℕ) → 0 < k → k < 11 → slice_index new k ≡ slice_index old k) → TellsLife x life w
    → entry_told new ≡ living x life
told_again old new w life x told first others tells =
    let at1 = others 1 (omega arith) (omega arith) in
    let at2 = others 2 (omega arith) (omega arith) in
    let at3 = others 3 (omega arith) (omega arith) in
    let at4 = others 4 (omega arith) (omega arith) in
    let at5 = others 5 (omega arith) (omega arith) in
    let at6 = others 6 (omega arith) (omega arith) in
    let at7 = others 7 (omega arith) (omega arith) in
    let at8 = others 8 (omega arith) (omega arith) in
    let at9 = others 9 (omega arith) (omega arith) in
    let at10 = others 10 (omega arith) (omega arith) in
    let kind : byte_of (slice_index new 0) 0 ≡ x.kind = ap (λ (v : ℕ). byte_of v 0) first ∙ tells.kind in
    let state : byte_of (slice_index new 0) 1 ≡ life = ap (λ (v : ℕ). byte_of v 1) first ∙ tells.life in
    let identifier : low (slice_index new 0) ≡ x.identifier = ap low first ∙ tells.identifier in
    let word = slice_index new 0 in
    (λ i. record (entry_by word (at1 i) (at2 i) (at3 i) (at4 i) (at5 i) (at6 i) (at7 i) (at8 i) (at9 i) (at10 i)) {
      kind = kind i;
      life = state i;
      identifier = identifier i;
    })
    ∙ (λ i. record (sym told i) { kind = x.kind; life = life; identifier = x.identifier })

-- A word of the entry's page is set that tells another state.
pub life_written : (m : List ℕ) (e w life : ℕ) → IsMemory m → e < 64 → IsUsed (table m) e
    → TellsLife (entry_in (table m) e) life w
    → WritesEntry m e (living (entry_in (table m) e) life) (slice_set m (address (FIRST_ENTRY_PAGE + e) 0) w)
life_written m e w life sized few used tells =
    let page : ℕ = FIRST_ENTRY_PAGE + e in
    let at : ℕ = address page 0 in
    let after = slice_set m at w in
    let x = entry_in (table m) e in
    let old = page_words m page in
    let new = page_words after page in
    let inside : at < length m = omega (arith, sized, few) in
    let first : slice_index new 0 ≡ w =
    index-page_words after page 0 (omega arith) ∙ get_or-set_same m at w 0 inside in
    let others : (k : ℕ) → 0 < k → k < 16 → slice_index new k ≡ slice_index old k = λ k some lt.
    let differs : address page k ≢ at = λ is. let z : ⊥ = omega (arith, is, some) in z in
    index-page_words after page k (omega (arith, lt)) ∙ get_or-set_other m at (address page k) w 0 differs
    ∙ sym (index-page_words m page k (omega (arith, lt))) in
    let is : x ≡ entry_of old = entry_in-table m e few in
    let some : slice_index old 0 ≢ 0 = λ none. used (ap (λ (y : Entry). y.kind) (is ∙ entry_of-free old none)) in
    let told : x ≡ entry_told old = is ∙ entry_of-used old some in
    let some_new : slice_index new 0 ≢ 0 =
    λ none. used (sym tells.kind ∙ ap (λ (v : ℕ). byte_of v 0) (sym first ∙ none)) in
    record {
      size = length-set m at w;
      entry = entry_of-used new some_new
          ∙ told_again old new w life x told first (λ k above lt. others k above (omega (arith, lt))) tells;
      others = λ other place small differs.
          let elsewhere : address other place ≢ at =
          λ same. differs (let z : other ≡ page = omega (arith, same, small) in z) in
          get_or-set_other m at (address other place) w 0 elsewhere;
    }

-- The state in the entry of a file is another one, and no other word is.
module _ (m after : List ℕ) (e : ℕ) (state : LifeCycle) (sized : IsMemory m) (stands : TreeStands m)
    (used : IsUsed (table m) e)
    (writes : WritesEntry m e (living (entry_in (table m) e) (life_cycle_byte state)) after) where
  few : e < 64
  few = used_small m e used

  abbrev x : Entry
  x = entry_in (table m) e

  header : (place : ℕ) → place < PAGE_WORDS → word after HEADER_PAGE place ≡ word m HEADER_PAGE place
  header place small = writes.others HEADER_PAGE place small (λ is. let z : ⊥ = omega (arith, is) in z)

  pub same_format : SameFormat m after
  same_format = record { mark = header MARK_WORD (omega arith); pages = header PAGES_WORD (omega arith) }

  keeps : KeepsBlocks (block_count m) m after
  keeps = record {
    size = writes.size;
    words = λ page place block small. writes.others page place small (λ is. let low_page = block.0 in let few_e = few in
        let z : ⊥ = omega (arith, is, few_e, low_page) in z);
    head = writes.others HEADER_PAGE FREE_HEAD_WORD (omega arith) (λ is. let z : ⊥ = omega (arith, is) in z);
  }

  other_page : (page : ℕ) → page < 65 → page ≢ 1 + e → page_words after page ≡ page_words m page
  other_page page below differs =
      page_words_same m after page (omega (arith, sized, below)) writes.size
      (λ place small. writes.others page place small differs)

  here : entry_in (table after) e ≡ living x (life_cycle_byte state)
  here = entry_in-table after e few ∙ writes.entry

  others : (f : ℕ) → f ≢ e → entry_in (table after) f ≡ entry_in (table m) f
  others f differs = ⊎_elim
      (λ (lt : f < 64).
      entry_in-table after f lt
      ∙ ap entry_of (other_page (1 + f) (omega (arith, lt)) (λ is. differs (let z : f ≡ e = omega (arith, is) in z)))
      ∙ sym (entry_in-table m f lt))
      (λ (past : 64 ≤ f).
      let a = length-table after in
      let b = length-table m in
      entry_past (table after) f (omega (arith, a, past)) ∙ sym (entry_past (table m) f (omega (arith, b, past))))
      (cases_lt f 64)

  -- the states of all entries
  abbrev lives : ℕ → ℕ
  lives f = if f == e then life_cycle_byte state else (entry_in (table m) f).life

  lives_here : lives e ≡ life_cycle_byte state
  lives_here = elim (eqb_tells e e) [
    | inl same ↦ ap (λ (b : Bool). if b then life_cycle_byte state else x.life) same.0
    | inr other ↦ absurd (other.1 refl)
  ]

  lives_other : (f : ℕ) → f ≢ e → lives f ≡ (entry_in (table m) f).life
  lives_other f differs = elim (eqb_tells f e) [
    | inl same ↦ absurd (differs same.1)
    | inr other ↦ ap (λ (b : Bool). if b then life_cycle_byte state else (entry_in (table m) f).life) other.0
  ]

  all_living : (f : ℕ) → entry_in (table after) f ≡ living (entry_in (table m) f) (lives f)
  all_living f = elim (eqb_tells f e) [
    | inl same ↦ ap (entry_in (table after)) same.1 ∙ here
        ∙ ap₂ (λ (k l : ℕ). living (entry_in (table m) k) l) (sym same.1) (sym lives_here ∙ ap lives (sym same.1))
    | inr other ↦ others f other.1 ∙ ap (living (entry_in (table m) f)) (sym (lives_other f other.1))
  ]

  all_states : (f : ℕ) → IsUsed (table m) f → IsSome (life_cycle_at (lives f))
  all_states f used_f = elim (eqb_tells f e) [
    | inl same ↦
        let family : Option LifeCycle → Type 0 = λ o. IsSome o in
        subst family (sym (ap life_cycle_at (ap lives same.1 ∙ lives_here) ∙ life_again state)) some_state
    | inr other ↦
        let within : f < length (table m) =
        (let l = length-table m in let small = used_small m f used_f in omega (arith, l, small)) in
        let family : ℕ → Type 0 = λ l. IsSome (life_cycle_at l) in
        subst family (sym (lives_other f other.1)) ((stands.entries.each f free_entry within).used used_f).life
  ]
    where
      some_state : IsSome (Some state)
      some_state = refl

  free_states : (f : ℕ) → (entry_in (table m) f).kind ≡ 0 → lives f ≡ 0
  free_states f free = elim (eqb_tells f e) [
    | inl same ↦ absurd (used (ap (λ (k : ℕ). (entry_in (table m) k).kind) (sym same.1) ∙ free))
    | inr other ↦ lives_other f other.1 ∙ ⊎_elim
        (λ (lt : f < 64).
        let within : f < length (table m) = (let l = length-table m in omega (arith, l, lt)) in
        ((stands.entries.each f free_entry within).free free).0)
        (λ (past : 64 ≤ f). ap (λ (y : Entry). y.life)
        (entry_past (table m) f (let l = length-table m in omega (arith, l, past)))) (cases_lt f 64)
  ]

  rules_after : IsTable (table after)
  rules_after = living_rules (table m) (table after) stands.entries (length-table m) (length-table after) lives
      all_living all_states free_states

  now_used : (f : ℕ) → IsUsed (table m) f → IsUsed (table after) f
  now_used = living_now (table m) (table after) stands.entries (length-table m) (length-table after) lives all_living
      all_states free_states

  before_used : (f : ℕ) → IsUsed (table after) f → IsUsed (table m) f
  before_used = living_used (table m) (table after) stands.entries (length-table m) (length-table after) lives
      all_living all_states free_states

  paths : (f : ℕ) → path_of (table after) f ≡ path_of (table m) f
  paths = living_paths (table m) (table after) stands.entries (length-table m) (length-table after) lives all_living
      all_states free_states

  extents_after : extents (table after) ≡ extents (table m)
  extents_after =
      let small = few in
      let front : before after e ≡ before m e = ap extents (mapped-same (on_page m) (on_page after) 1 e
      (λ page from below. ap entry_of
      (other_page page (omega (arith, below, small)) (λ is. let z : ⊥ = omega (arith, is, below) in z)))) in
      let back : behind after e ≡ behind m e = ap extents (mapped-same (on_page m) (on_page after) (1 + e + 1) (63 - e)
      (λ page from below. ap entry_of
      (other_page page (omega (arith, below, small)) (λ is. let z : ⊥ = omega (arith, is, from) in z)))) in
      let own : extent_of (entry_in (table after) e) ≡ extent_of x = ap extent_of here
      ∙ extent_of-living x (life_cycle_byte state) in
      extents_around after e few
      ∙ (λ i. front i ++ cons_option (own i) (back i))
      ∙ sym (extents_around m e few)

  moved : AreLaid (block_count m) after (extents (table m)) × (free_chain after ≡ free_chain m)
      × All (SameBytes m after) (extents (table m))
  moved = laid_elsewhere (block_count m) m after (extents (table m)) sized stands.blocks keeps

  -- the bytes of a file stay
  same_content : (f : ℕ) → IsUsed (table m) f → content after (entry_in (table m) f) ≡ content m (entry_in (table m) f)
  same_content f used_f =
      let y = entry_in (table m) f in
      ⊎_elim
      (λ (low_kind : y.kind < 2). content-none after y low_kind ∙ sym (content-none m y low_kind))
      (λ (high_kind : 2 ≤ y.kind).
      let long = length-table m in
      let small = used_small m f used_f in
      let kept = all_extents (SameBytes m after) (table m) moved.2 f (omega (arith, long, small)) (extent_told y)
      (extent_of-some y high_kind) in
      content-some after y high_kind ∙ ap (bytes_of after) kept.0 ∙ kept.1 ∙ sym (content-some m y high_kind))
      (cases_lt y.kind 2)

  file_stays : (f : ℕ) → f ≢ e → IsUsed (table m) f → file_in after f ≡ file_in m f
  file_stays f differs used_f =
      ap (λ (y : Entry). file_of y (content after y)) (others f differs)
      ∙ ap (file_of (entry_in (table m) f)) (same_content f used_f)

  own_content : content after (living x (life_cycle_byte state)) ≡ content m x
  own_content = content-living after x (life_cycle_byte state) ∙ same_content e used

  own_file : file_in after e ≡ with_life (file_in m e) state
  own_file =
      ap (λ (y : Entry). file_of y (content after y)) here
      ∙ ap (file_of (living x (life_cycle_byte state))) own_content
      ∙ file_of-living x (content m x) state

  -- The file is in the other state, and nothing else is other.
  pub life_changed : ChangesLife m e state after
  life_changed = record {
    tree = tree_inserted m after stands.entries rules_after e (now_used e used)
        (λ f differs used_f. (before_used f used_f, file_stays f differs (before_used f used_f)))
        (λ f used_f. (now_used f used_f, paths f))
        ∙ (λ i. insert (tree_of m) (paths e i) (own_file i))
        ∙ ap (λ (file : File). insert (tree_of m) (path_of (table m) e) (with_life file state))
        (sym (file_at_entry m stands.entries e (path_of (table m) e) used refl));
    stands = record {
      entries = rules_after;
      blocks =
          laid_as m after _ same_format (let family : List Extent → Type 0 = λ es. AreLaid (block_count m) after es in
          subst family (sym extents_after) moved.0);
    };
    free = moved.1;
    rest = record {
      size = writes.size;
      words = λ page place small entry block header.
          writes.others page place small (λ is. let few_e = few in entry (omega (arith, is), omega (arith, is, few_e)));
    };
    entry = here;
    others = others;
    paths = paths;
  }

-- A state that is the one found changes nothing.
pub life_stays : (m : List ℕ) → TreeStands m → (e : ℕ) (state : LifeCycle) → IsUsed (table m) e
    → (entry_in (table m) e).life ≡ life_cycle_byte state → ChangesLife m e state m
life_stays m stands e state used is =
    let own : file_in m e ≡ with_life (file_in m e) state =
    ap (λ (life : ℕ). file_of (living (entry_in (table m) e) life) (content m (entry_in (table m) e))) is
    ∙ file_of-living (entry_in (table m) e) (content m (entry_in (table m) e)) state in
    record {
      tree = tree_inserted m m stands.entries stands.entries e used (λ f differs used_f. (used_f, refl))
          (λ f used_f. (used_f, refl))
          ∙ ap (insert (tree_of m) (path_of (table m) e))
          (own ∙ ap (λ (file : File). with_life file state)
          (sym (file_at_entry m stands.entries e (path_of (table m) e) used refl)));
      stands = stands;
      free = refl;
      rest = record { size = refl; words = λ page place small entry block header. refl };
      entry = ap (living (entry_in (table m) e)) is;
      others = λ f differs. refl;
      paths = λ f. refl;
    }

-- a byte that stands for a state is the state's
byte_again : (byte : ℕ) (state : LifeCycle) → IsSome (life_cycle_at byte)
    → unwrap_or (life_cycle_at byte) Activated ≡ state → byte ≡ life_cycle_byte state
byte_again byte state some is = elim (eqb_tells byte 0x01) [
  | inl same ↦ same.1 ∙ ap life_cycle_byte (sym (ap told same.1) ∙ is)
  | inr one ↦ elim (eqb_tells byte 0x03) [
    | inl same ↦ same.1 ∙ ap life_cycle_byte (sym (ap told same.1) ∙ is)
    | inr two ↦ elim (eqb_tells byte 0x04) [
      | inl same ↦ same.1 ∙ ap life_cycle_byte (sym (ap told same.1) ∙ is)
      | inr three ↦ elim (eqb_tells byte 0x05) [
        | inl same ↦ same.1 ∙ ap life_cycle_byte (sym (ap told same.1) ∙ is)
        | inr four ↦ elim (eqb_tells byte 0x0C) [
          | inl same ↦ same.1 ∙ ap life_cycle_byte (sym (ap told same.1) ∙ is)
          | inr five ↦
              let none : life_cycle_at byte ≡ None = (λ i.
              if one.0 i then Some Creation else if two.0 i then Some Initialisation else
              if three.0 i then Some Deactivated else if four.0 i then Some Activated else
              if five.0 i then Some Terminated else None) in
              absurd (true≢false (sym some ∙ ap (λ (o : Option LifeCycle). is_some o) none))
        ]
      ]
    ]
  ]
]
  where
    told : ℕ → LifeCycle
    told b = unwrap_or (life_cycle_at b) Activated

pub byte_of_state : (m : List ℕ) (e : ℕ) (state : LifeCycle) → TreeStands m → IsUsed (table m) e
    → life_at (tree_of m) (path_of (table m) e) ≡ state → (entry_in (table m) e).life ≡ life_cycle_byte state
byte_of_state m e state stands used here =
    let within : e < length (table m) =
    (let l = length-table m in let small = used_small m e used in omega (arith, l, small)) in
    byte_again (entry_in (table m) e).life state ((stands.entries.each e free_entry within).used used).life
    (sym (life_told_there m stands.entries e used) ∙ here)
