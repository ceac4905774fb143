-- What a template tells of the file of an entry.
use Rattle.std.proofs.Common.{◌≡◌, ◌≢◌, ◌<◌, ◌≤◌, ◌+◌, ◌%◌, ◌==◌, ◌&&◌, ℕ, Bool, true, false, nat_le}
use Rattle.std.proofs.Common.{List, length, take, Option, Some, None, if◌then◌else◌}
use Rattle.std.proofs.Common.{refl, sym, ◌∙◌, ap, arith, inl, inr, ⊎_elim, length-take}
use Rattle.std.proofs.lemmas.Bool.{lt-leb, le-leb, ne_eqb, cases_eq}
use Rattle.std.proofs.lemmas.List.FromFn.{length-map-range_with_len}
use Rattle.nvm_board.specs.Facts.{IsMemory}
use Rattle.card_model.specs.declared.fcp.FileKind.{FileKind}
use Rattle.card_model.specs.declared.fcp.FileKind.TheVariants.{Df, Transparent, Linear, Cyclic}
use Rattle.card_model.specs.declared.fcp.ShortIdentifier.TheVariants.{Empty, Given}
use Rattle.file_tree.specs.declared.entry.Entry.{Entry}
use Rattle.card_model.specs.FileTrees.{transparent, linear, cyclic, dedicated, elementary}
use Rattle.file_tree.specs.Entries.{file_of, free_entry, entry_capacity, cyclic_records, kind_of, linear_records}
use Rattle.file_tree.specs.Entries.{life_told, name_of, rule_of, slot}
use Rattle.file_tree.specs.Table.{table, entry_in, path_of, IsFileEntry, IsRecordBody, IsUsed}
use Rattle.file_tree.specs.Trees.{content, file_in}
use Rattle.file_tree.specs.laws.Nodes.{used_small}
use Rattle.file_tree.specs.laws.Paths.{identifier_path}
use Rattle.file_tree.specs.laws.Refusing.{name_long}
use Rattle.file_tree.specs.laws.Tables.{length-table}
use Rattle.command_base.specs.laws.FoundLaws.{other-of}
use Rattle.command_base.specs.Standing.{IsCard}
use Rattle.card_model.specs.Templates.{kind_told, parameters_of, records_told, short_told}
use Rattle.command_base.specs.TemplateParts.{kind_in_entry, name_in_entry, parameters_in, records_in_entry}
use Rattle.command_base.specs.TemplateParts.{short_in_entry, IsToldEntry}
use Rattle.command_base.specs.laws.Contents.{room-is}

-- the short identifier
short-is : (none : Bool) (n : ℕ) → short_told (if none then None else Some n) ≡ (if none then Empty else Given n)
short-is true n = refl
short-is false n = refl

-- the name: none where its length is 0
module _ (x : Entry) (most : x.name_length ≤ 16) (room : length x.name ≡ 16) where
  length-name : length (name_of x) ≡ x.name_length
  length-name = let t = length-take x.name_length x.name in omega (arith, t, most, room)

  abbrev by_tests : Bool → Bool → Option (List ℕ)
  by_tests some few = if some && few then Some (name_of x) else None

  name-is : (if x.name_length == 0 then None else Some (name_of x)) ≡ name_in_entry x
  name-is = ⊎_elim
      (λ (none : x.name_length ≡ 0).
      let test : (x.name_length == 0) ≡ true = ap (λ (n : ℕ). n == 0) none in
      let few : nat_le 1 (length (name_of x)) ≡ false =
      lt-leb 1 (length (name_of x)) (omega (arith, length-name, none)) in
      ap (λ (b : Bool). if b then None else Some (name_of x)) test
      ∙ sym (ap (λ (b : Bool). by_tests b (nat_le (length (name_of x)) 16)) few))
      (λ (some : x.name_length ≢ 0).
      let test : (x.name_length == 0) ≡ false = ne_eqb x.name_length 0 some in
      let least : nat_le 1 (length (name_of x)) ≡ true =
      le-leb 1 (length (name_of x)) (omega (arith, length-name, some)) in
      let fits : nat_le (length (name_of x)) 16 ≡ true =
      le-leb (length (name_of x)) 16 (omega (arith, length-name, most)) in
      ap (λ (b : Bool). if b then None else Some (name_of x)) test
      ∙ sym (λ i. by_tests (least i) (fits i)))
      (cases_eq x.name_length 0)

-- the records of a file with room for some
module _ (x : Entry) (body : IsRecordBody x) where
  records-are : (records : List (List ℕ)) → length records ≡ x.records
      → records_told x.record_length (entry_capacity x) records ≡ records_in_entry x
  records-are records count =
      let size = sym body.multiple in
      λ i. record { size = size i; record_length = x.record_length; existing = count i }

-- the kind of a file, by the tests of its entry's kind
module _ (x : Entry) (used : x.kind ≢ 0) (file : IsFileEntry x) where
  high : (x.kind == 1) ≡ false → 2 ≤ x.kind
  high one = let k = other-of x.kind 1 one in omega (arith, k, used)

  records-body : (x.kind == 1) ≡ false → (x.kind == 2) ≡ false → IsRecordBody x
  records-body one two =
      let a = other-of x.kind 1 one in
      let b = other-of x.kind 2 two in
      let most = file.kind in
      ⊎_elim (λ (is : x.kind ≡ 3). file.body.records (inl is))
      (λ (is : x.kind ≢ 3). file.body.records (inr (let z : x.kind ≡ 4 = omega (arith, a, b, most, used, is) in z)))
      (cases_eq x.kind 3)

  abbrev wanted : Bool → Bool → Bool → FileKind
  wanted one two three =
      if one then Df (name_in_entry x) else
      if two then Transparent (short_in_entry x) x.size else
      if three then Linear (short_in_entry x) (records_in_entry x) else
      Cyclic (short_in_entry x) (records_in_entry x)

  module _ (bytes : List ℕ) (room : length x.name ≡ 16) (fits : 2 ≤ x.kind → x.size ≤ length bytes) where
    abbrev told : Bool → Bool → Bool → FileKind
    told one two three =
        kind_told (if one then dedicated (if x.name_length == 0 then None else Some (name_of x))
        else elementary (if x.short == 0 then None else Some x.short)
        (if two then transparent (take x.size bytes) else
        if three then linear x.record_length (entry_capacity x) (linear_records x bytes) else
        cyclic x.record_length (entry_capacity x) (cyclic_records x bytes)))

    by_kind : (one two three : Bool) → (one ≡ false → 2 ≤ x.kind) → (one ≡ false → two ≡ false → IsRecordBody x)
        → told one two three ≡ wanted one two three
    by_kind true two three long of_records = ap (λ (name : Option (List ℕ)). Df name) (name-is x file.name.most room)
    by_kind false true three long of_records =
        let t = length-take x.size bytes in
        let enough = fits (long refl) in
        let size : length (take x.size bytes) ≡ x.size = omega (arith, t, enough) in
        λ i. Transparent (short-is (x.short == 0) x.short i) (size i)
    by_kind false false true long of_records =
        let are = records-are x (of_records refl refl) (linear_records x bytes)
        (length-map-range_with_len (slot x bytes) 0 x.records) in
        λ i. Linear (short-is (x.short == 0) x.short i) (are i)
    by_kind false false false long of_records =
        let are = records-are x (of_records refl refl) (cyclic_records x bytes)
        (length-map-range_with_len (λ i. slot x bytes ((x.start + i) % entry_capacity x)) 0 x.records) in
        λ i. Cyclic (short-is (x.short == 0) x.short i) (are i)

    kind-is : kind_told (kind_of x bytes) ≡ kind_in_entry x
    kind-is = by_kind (x.kind == 1) (x.kind == 2) (x.kind == 3) high records-body

module _ (m : List ℕ) (sized : IsMemory m) (words : IsCard m) (e : ℕ) (used : IsUsed (table m) e) where
  abbrev entry : Entry
  entry = entry_in (table m) e

  below : e < 64
  below = used_small m e used

  -- a used entry tells a file
  pub told-entry : IsToldEntry entry
  told-entry = record {
    used = used;
    file = (words.tree.entries.each e free_entry (let l = length-table m in omega (arith, l, below))).used used;
  }

  pub parameters-are : parameters_of (path_of (table m) e) (file_in m e) ≡ parameters_in entry
  unfolding file_of
  parameters-are =
      let id = identifier_path (table m) words.tree.entries e used in
      let kind = kind-is entry used told-entry.file (content m entry) (name_long m e below)
      (room-is m e sized words below) in
      λ i. record { identifier = id i; life_cycle = life_told entry; rule = rule_of entry; kind = kind i }
