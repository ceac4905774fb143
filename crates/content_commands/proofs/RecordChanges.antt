-- What other records in the body of a file make of the card.
use Rattle.std.proofs.Common.{◌≡◌, ◌≢◌, ◌⊎◌, ◌==◌, ◌<◌, ◌≤◌, ◌+◌, ◌-◌, ℕ, if◌then◌else◌, List}
use Rattle.std.proofs.Common.{length, slice_index, slice_set, Bool, Option, Some, None}
use Rattle.std.proofs.Common.{refl, sym, ◌∙◌, ap, subst, arith, inl, inr, ⊎_elim, true≢false, true, false}
use Rattle.std.proofs.Common.{get_or-set_same, get_or-set_other, length-set}
use Rattle.std.proofs.lemmas.Bool.{cases_eq}
use Rattle.std.specs.FinMap.{insert}
use Rattle.std.proofs.Math.Nat.{mod-lt}
use Rattle.nvm_board.specs.Facts.{address}
use Rattle.nvm_board.specs.Facts.{IsMemory}
use Rattle.block_chain.specs.Chains.{chain, chain_bytes, chain_of}
use Rattle.nvm_board.specs.laws.Sizes.{memory_same}
use Rattle.block_chain.specs.ChainChanges.{OnlyContent}
use Rattle.block_chain.specs.Counts.{count, IsNotIn}
use Rattle.block_chain.specs.Layout.{blocks_of}
use Rattle.block_chain.specs.laws.Bytes.{blocks_same, AreBlocks, leads_blocks}
use Rattle.ef_body.specs.declared.cyclic.Cyclic.{Cyclic as Ring}
use Rattle.ef_body.specs.Bodies.{cyclic_body_records, number_told, start_told, IsCyclic}
use Rattle.ef_body.specs.BodyChanges.{OnlyBody}
use Rattle.ef_body.specs.laws.Lists.{length-newest_first}
use Rattle.file_tree.specs.declared.entry.Entry.{Entry}
use Rattle.card_model.specs.FileTrees.{Kind, File, Tree, elementary, file_at}
use Rattle.file_tree.specs.TreeChanges.{KeepsRest}
use Rattle.file_tree.specs.Entries.{entry_capacity, extent_told, file_of, free_entry, high, low}
use Rattle.card_model.specs.Cards.{card_space}
use Rattle.command_base.specs.laws.CardLaws.{card_space_is}
use Rattle.file_tree.specs.Table.{table, entry_in, free_entries, path_of, IsEntry, IsUsed}
use Rattle.file_tree.specs.Trees.{content, tree_of, TreeStands, file_in}
use Rattle.file_tree.specs.Indexes.{KeepsPlaces}
use Rattle.file_tree.specs.laws.Indexed.{places_but}
use Rattle.file_tree.specs.laws.Changing.{tree_inserted}
use Rattle.file_tree.specs.laws.Costs.{entry_extent, space_counted}
use Rattle.file_tree.specs.laws.Nodes.{file_at_entry, used_small}
use Rattle.file_tree.specs.Formats.{block_count}
use Rattle.file_tree.specs.laws.Rewriting.{content_file, content_free, content_stands, content_table, entries_apart}
use Rattle.file_tree.specs.laws.Rewriting.{file_inside, none_outside}
use Rattle.file_tree.specs.laws.Tables.{length-table}
use Rattle.command_base.specs.declared.current.Current.{Current}
use Rattle.card_model.specs.RecordCommands.{with_records, with_records_at}
use Rattle.command_base.specs.Standing.{card_of, IsCard}
use Rattle.content_commands.specs.RecordParts.{ring_in, told_address, RingBecomes}
use Rattle.command_base.specs.Working.{session_of, IsCurrent}
use Rattle.command_base.specs.laws.Entries.{card-tree}
use Rattle.command_base.specs.laws.Keeping.{files-after, files-stand}
use Rattle.content_commands.proofs.RecordBodies.{body_with, kind-told, ring-stands, rules}
use Rattle.content_commands.proofs.RecordTables.{bytes-mid, current-mid, file-mid, free-mid, free_chain-mid, here}
use Rattle.content_commands.proofs.RecordTables.{paths-mid}
use Rattle.content_commands.proofs.RecordTables.{others, session-mid, stands-mid, used-mid, was-used-mid, retold}

-- the file of an entry holds these records, and all else of the card stays
pub record Records (m : List ℕ) (e : ℕ) (records : List (List ℕ)) (after : List ℕ) : Type 0 where
  pub stands : IsCard after
  pub card : card_of after ≡ with_records_at (card_of m) (path_of (table m) e) records
  pub space : card_space (card_of after) ≡ card_space (card_of m)
  pub session : (x : Current) → session_of (table after) x ≡ session_of (table m) x
  pub current : (x : Current) → IsCurrent (table m) x → IsCurrent (table after) x
  pub places : KeepsPlaces (table m) (table after)

-- a file depends on what its entry tells of records by its kind alone
file-retold : (x : Entry) (number start : ℕ) (bytes old : List ℕ)
    → file_of (retold x number start) bytes
    ≡ record (file_of x old) { kind = (file_of (retold x number start) bytes).kind }
unfolding file_of
file-retold x number start bytes old = refl

-- Bytes of a file of records, and the word of its entry that tells of them, are other ones.
module _ (m after : List ℕ) (e : ℕ) (sized : IsMemory m) (words : IsCard m) (used : IsUsed (table m) e)
    (of_records : ((entry_in (table m) e).kind ≡ 3) ⊎ ((entry_in (table m) e).kind ≡ 4))
    (only : OnlyBody m (chain m (entry_in (table m) e).first) (told_address e) after)
    (number : number_told after (told_address e) ≤ entry_capacity (entry_in (table m) e))
    (start : start_told after (told_address e) < entry_capacity (entry_in (table m) e))
    (first : (entry_in (table m) e).kind ≡ 3 → start_told after (told_address e) ≡ 0) where
  abbrev x : Entry
  x = entry_in (table m) e

  abbrev w : ℕ
  w = slice_index after (told_address e)

  -- the entry changes first
  abbrev mid : List ℕ
  mid = slice_set m (told_address e) w

  abbrev ps : List ℕ
  ps = chain m x.first

  few : e < 64
  few = used_small m e used

  high_kind : 2 ≤ x.kind
  high_kind = ⊎_elim (λ (is : x.kind ≡ 3). omega (arith, is)) (λ (is : x.kind ≡ 4). omega (arith, is)) of_records

  entry : IsEntry (retold x (high w) (low w))
  entry =
      let within : e < length (table m) = (let l = length-table m in let lt = few in omega (arith, l, lt)) in
      let file = (words.tree.entries.each e free_entry within).used used in
      let body = file.body.records of_records in
      record {
        free = λ none. absurd (used none);
        used = λ some. record {
          kind = file.kind;
          life = file.life;
          identifier = file.identifier;
          short = record { most = file.short.most; of_ef = file.short.of_ef };
          name = record { most = file.name.most; of_df = file.name.of_df };
          rule = record { most = file.rule.most; rule = file.rule.rule };
          body = record {
            transparent = λ is. absurd (⊎_elim (λ (three : x.kind ≡ 3). let z : ⊥ = omega (arith, is, three) in z)
                (λ (four : x.kind ≡ 4). let z : ⊥ = omega (arith, is, four) in z) of_records);
            records = λ is. record {
              some = body.some;
              record_length = body.record_length;
              multiple = body.multiple;
              size = body.size;
              room = body.room;
              capacity = body.capacity;
              records = number;
              start = start;
              linear = first;
            };
          };
        };
      }

  sized-mid : IsMemory mid
  sized-mid = memory_same _ _ (length-set m (told_address e) w) sized

  sized-after : IsMemory after
  sized-after = memory_same _ _ only.size sized

  size-mid : length mid ≡ length m
  size-mid = length-set m (told_address e) w

  blocks-before : AreBlocks m ps
  blocks-before = leads_blocks m _ 0 ps (entry_extent m sized words.tree e few high_kind).leads

  blocks : AreBlocks mid ps
  blocks = blocks_same m mid ps size-mid blocks-before

  -- then the bytes
  bytes-change : OnlyContent mid ps after
  bytes-change = record {
    size = only.size ∙ sym size-mid;
    others = λ page place small outside. ⊎_elim
        (λ (is : address page place ≡ told_address e).
        let lt = few in
        ap (slice_index after) is
        ∙ sym (get_or-set_same m (told_address e) w 0 (omega (arith, sized, lt)))
        ∙ sym (ap (slice_index mid) is))
        (λ (differs : address page place ≢ told_address e).
        only.others page place small outside differs
        ∙ sym (get_or-set_other m (told_address e) (address page place) w 0 differs))
        (cases_eq (address page place) (told_address e));
  }

  tree-mid : TreeStands mid
  tree-mid = stands-mid m e w sized words.tree used entry

  table-after : table after ≡ table mid
  table-after = content_table mid after ps sized-mid blocks bytes-change

  tree-stands : TreeStands after
  tree-stands = content_stands mid after ps sized-mid blocks bytes-change tree-mid

  pub entry-after : entry_in (table after) e ≡ retold x (high w) (low w)
  entry-after = ap (λ (t : List Entry). entry_in t e) table-after ∙ here m e w sized words.tree used entry

  now-used : (f : ℕ) → IsUsed (table m) f → IsUsed (table after) f
  now-used f u = subst (λ (t : List Entry). IsUsed t f) (sym table-after)
      (used-mid m e w sized words.tree used entry f u)

  before-used : (f : ℕ) → IsUsed (table after) f → IsUsed (table m) f
  before-used f u = was-used-mid m e w sized words.tree used entry f
      (subst (λ (t : List Entry). IsUsed t f) table-after u)

  path-after : (f : ℕ) → path_of (table after) f ≡ path_of (table m) f
  path-after f = ap (λ (t : List Entry). path_of t f) table-after ∙ paths-mid m e w sized words.tree used entry f

  -- another file's blocks are apart
  apart : (f : ℕ) → e ≢ f → f < 64 → 2 ≤ (entry_in (table mid) f).kind → (q : ℕ)
      → 1 ≤ count q (blocks_of mid (extent_told (entry_in (table mid) f))) → IsNotIn q ps
  apart f other f_in f_high q some =
      let own = here m e w sized words.tree used entry in
      let kind = ap (λ (y : Entry). y.kind) own in
      let high_now = high_kind in
      let out = entries_apart mid tree-mid e f other few f_in (omega (arith, kind, high_now)) f_high q some in
      subst (λ (qs : List ℕ). IsNotIn q qs) ((bytes-mid m e w sized words.tree used entry e used high_kind).0)
      (subst (λ (y : Entry). IsNotIn q (blocks_of mid (extent_told y))) own out)

  file-stays : (f : ℕ) → f ≢ e → IsUsed (table m) f → file_in after f ≡ file_in m f
  file-stays f differs used_f =
      content_file mid after ps sized-mid blocks bytes-change tree-mid f
      (used-mid m e w sized words.tree used entry f used_f)
      (λ q some f_high. apart f (λ is. differs (sym is)) (used_small m f used_f) f_high q some)
      ∙ file-mid m e w sized words.tree used entry f differs used_f

  rest : KeepsRest m after
  rest = record {
    size = only.size;
    words = λ page place small outside block head. only.others page place small
        (inr (none_outside (block_count m) ps (file_inside m e words.tree few high_kind) page block))
        (λ is. let lt = few in outside (omega (arith, is, small), omega (arith, is, small, lt)));
  }

  pub card-stands : IsCard after
  card-stands = files-stand m after sized rest words tree-stands

  pub space-after : card_space (card_of after) ≡ card_space (card_of m)
  space-after =
      let free = content_free mid after ps sized-mid blocks bytes-change tree-mid
      ∙ free_chain-mid m e w sized words.tree used entry in
      let entries = ap free_entries table-after ∙ free-mid m e w sized words.tree used entry in
      card_space_is after card-stands ∙ space_counted after sized-after tree-stands
      ∙ (λ i. record { blocks = length (free i); entries = entries i })
      ∙ sym (card_space_is m words ∙ space_counted m sized words.tree)

  pub session-after : (y : Current) → session_of (table after) y ≡ session_of (table m) y
  session-after y = ap (λ (t : List Entry). session_of t y) table-after
      ∙ session-mid m e w sized words.tree used entry y

  pub current-after : (y : Current) → IsCurrent (table m) y → IsCurrent (table after) y
  current-after y current = subst (λ (t : List Entry). IsCurrent t y) (sym table-after)
      (current-mid m e w sized words.tree used entry y current)

  pub places-after : KeepsPlaces (table m) (table after)
  places-after =
      let own = entry-after in
      places_but (table m) (table after) e (ap (λ (y : Entry). y.kind) own) (ap (λ (y : Entry). y.parent) own)
      (ap (λ (y : Entry). y.identifier) own)
      (λ f differs. ap (λ (t : List Entry). entry_in t f) table-after ∙ others m e w sized words.tree used entry f
      differs)

  -- where its kind is that with these records, the card is that with them
  pub card-after : (records : List (List ℕ)) → (file_in after e).kind ≡ with_records (file_in m e).kind records
      → card_of after ≡ with_records_at (card_of m) (path_of (table m) e) records
  card-after records is =
      let p = path_of (table m) e in
      let own : file_in after e ≡ file_of (retold x (high w) (low w)) (content after (entry_in (table after) e)) =
      ap (λ (y : Entry). file_of y (content after (entry_in (table after) e))) entry-after in
      let file_is : file_in after e ≡ record (file_in m e) { kind = with_records (file_in m e).kind records } =
      own ∙ file-retold x (high w) (low w) (content after (entry_in (table after) e)) (content m x)
      ∙ ap (λ (k : Kind). record (file_in m e) { kind = k }) (sym (ap (λ (f : File). f.kind) own) ∙ is) in
      let tree_is : tree_of after ≡ insert (tree_of m) p (file_in after e) =
      tree_inserted m after words.tree.entries tree-stands.entries e (now-used e used)
      (λ f differs used_f. (before-used f used_f, file-stays f differs (before-used f used_f)))
      (λ f used_f. (now-used f used_f, path-after f))
      ∙ ap (λ (q : List ℕ). insert (tree_of m) q (file_in after e)) (path-after e) in
      let at_path : file_at (tree_of m) p ≡ file_in m e = file_at_entry m words.tree.entries e p used refl in
      files-after m after sized rest
      ∙ ap (λ (tree : Tree). record (card_of m) { tree = tree }) (tree_is
      ∙ ap (insert (tree_of m) p) (file_is
      ∙ sym (ap (λ (f : File). record f { kind = with_records f.kind records }) at_path)))
      ∙ sym (ap (λ (tree : Tree). with_records_at (record (card_of m) { tree = tree }) p records) (card-tree m))

-- What becomes of a ring, whether its last record is followed by the first or not.
record Becomes (m : List ℕ) (ring : Ring) (wraps : Bool) (records : List (List ℕ)) (after : List ℕ) : Type 0 where
  becomes : cyclic_body_records after ring ≡ records
  begins : start_told after ring.counts_at < ring.capacity
  straight : wraps ≡ false → start_told after ring.counts_at ≡ ring.start
  only : OnlyBody m (chain_of m ring.chain) ring.counts_at after

of-ring : (m : List ℕ) (ring : Ring) (wraps : Bool) (records : List (List ℕ)) (after : List ℕ) → IsCyclic m ring
    → RingBecomes wraps m ring records after → Becomes m ring wraps records after
of-ring m ring true records after is made =
    let room = is.start in
    let some : 0 < ring.capacity = omega (arith, room) in
    record {
      becomes = made.becomes;
      begins = subst (λ (n : ℕ). n < ring.capacity) (sym made.start) (mod-lt (ring.start + ring.capacity - 1) some);
      straight = λ no. absurd (true≢false no);
      only = made.only;
    }
of-ring m ring false records after is made = record {
  becomes = made.becomes;
  begins = subst (λ (n : ℕ). n < ring.capacity) (sym made.start) is.start;
  straight = λ _. made.start;
  only = made.only;
}

-- other records make another kind of the same file
with-body : (short : Option ℕ) (wraps : Bool) (long capacity : ℕ) (old new : List (List ℕ))
    → elementary short (body_with wraps long capacity new)
    ≡ with_records (elementary short (body_with wraps long capacity old)) new
with-body short true long capacity old new = refl
with-body short false long capacity old new = refl

-- The ring that the entry of a file tells of has these records then.
module _ (m after : List ℕ) (e : ℕ) (sized : IsMemory m) (words : IsCard m) (used : IsUsed (table m) e)
    (of_records : ((entry_in (table m) e).kind ≡ 3) ⊎ ((entry_in (table m) e).kind ≡ 4)) (records : List (List ℕ)) where
  abbrev entry_m : Entry
  entry_m = entry_in (table m) e

  abbrev ring : Ring
  ring = ring_in e entry_m

  abbrev kind_of : List ℕ → Entry → Kind
  kind_of l y = elementary (if y.short == 0 then None else Some y.short)
      (body_with (y.kind == 4) y.record_length (entry_capacity y) (cyclic_body_records l (ring_in e y)))

  ring-become : length records ≤ ring.capacity → Becomes m ring (entry_m.kind == 4) records after → Records m e
      records after
  ring-become few made =
      let count = length-newest_first ring.record_length ring.capacity (chain_bytes after ring.chain)
      (start_told after ring.counts_at) (number_told after ring.counts_at) in
      let all = ap (λ (rs : List (List ℕ)). length rs) made.becomes in
      let number : number_told after (told_address e) ≤ entry_capacity entry_m = omega (arith, count, all, few) in
      let start : start_told after (told_address e) < entry_capacity entry_m = made.begins in
      let first : entry_m.kind ≡ 3 → start_told after (told_address e) ≡ 0 =
      λ three. made.straight (ap (λ (k : ℕ). k == 4) three) ∙ (rules m sized words e used of_records).linear three in
      let stands = card-stands m after e sized words used of_records made.only number start first in
      let own = entry-after m after e sized words used of_records made.only number start first in
      let sized_after : IsMemory after = memory_same _ _ made.only.size sized in
      let kind : (entry_in (table after) e).kind ≡ entry_m.kind = ap (λ (y : Entry). y.kind) own in
      let of_after : ((entry_in (table after) e).kind ≡ 3) ⊎ ((entry_in (table after) e).kind ≡ 4) =
      ⊎_elim (λ (three : entry_m.kind ≡ 3). inl (kind ∙ three)) (λ (four : entry_m.kind ≡ 4). inr (kind ∙ four))
      of_records in
      let used_after : IsUsed (table after) e = λ none. used (sym kind ∙ none) in
      let short = if entry_m.short == 0 then None else Some entry_m.short in
      let kind_is : (file_in after e).kind ≡ with_records (file_in m e).kind records =
      kind-told after sized_after stands e used_after of_after
      ∙ ap (kind_of after) own
      ∙ ap (λ (rs : List (List ℕ)). elementary short
      (body_with (entry_m.kind == 4) entry_m.record_length (entry_capacity entry_m) rs)) made.becomes
      ∙ with-body short (entry_m.kind == 4) entry_m.record_length (entry_capacity entry_m)
      (cyclic_body_records m ring) records
      ∙ sym (ap (λ (k : Kind). with_records k records) (kind-told m sized words e used of_records)) in
      record {
        stands = stands;
        card = card-after m after e sized words used of_records made.only number start first records kind_is;
        space = space-after m after e sized words used of_records made.only number start first;
        session = session-after m after e sized words used of_records made.only number start first;
        current = current-after m after e sized words used of_records made.only number start first;
        places = places-after m after e sized words used of_records made.only number start first;
      }

  pub records-become : length records ≤ ring.capacity → RingBecomes (entry_m.kind == 4) m ring records after
      → Records m e records after
  records-become few becomes =
      ring-become few (of-ring m ring (entry_m.kind == 4) records after (ring-stands m sized words e used of_records)
      becomes)
