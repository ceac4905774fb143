-- The entry of a new file: that it is a file's entry, its words, and that its file is new.
use Rattle.std.specs.Prelude.{◌≢◌, ◌≡◌, ◌==◌, ◌⊎◌, ◌<◌, ◌≤◌, ◌+◌, ◌-◌, ◌*◌, ◌%◌, ℕ, zero, suc, Bool}
use Rattle.std.specs.Prelude.{true, if◌then◌else◌}
use Rattle.std.specs.Prelude.{List, ◌∷◌, length, map, take, drop, replicate, Option, None, Some, unwrap_or}
use Rattle.std.specs.Prelude.{IsTrue, IsSome}
use Rattle.std.specs.List.{range_with_len}
use Rattle.std.proofs.Common.{refl, sym, ◌∙◌, ap, ap₂, subst, arith, inl, inr, ⊎_elim}
use Rattle.std.proofs.lemmas.List.{take-replicate, drop-replicate}
use Rattle.std.proofs.lemmas.Bool.Decides.{eqb_tells}
use Rattle.std.proofs.Math.Seq.{take-append_seam}
use Rattle.std.proofs.Math.Nat.{div-mul-le_self, div-add-mod, mod-eq_of_lt, mul_comm}
use Rattle.card_model.specs.LifeCycle.{life_cycle_at, life_cycle_byte}
use Rattle.card_model.specs.Rule.{is_rule}
use Rattle.card_model.specs.RuleFacts.{length-rule}
use Rattle.card_model.specs.declared.life_cycle.LifeCycle.{LifeCycle}
use Rattle.card_model.specs.declared.life_cycle.LifeCycle.TheVariants.{Creation, Initialisation, Deactivated}
use Rattle.card_model.specs.declared.life_cycle.LifeCycle.TheVariants.{Activated, Terminated}
use Rattle.card_model.specs.declared.fcp.Fcp.{Fcp}
use Rattle.card_model.specs.declared.fcp.FileKind.{FileKind}
use Rattle.card_model.specs.declared.fcp.FileKind.TheVariants as kinds
use Rattle.card_model.specs.declared.fcp.Records.{Records}
use Rattle.card_model.specs.declared.fcp.ShortIdentifier.{ShortIdentifier}
use Rattle.card_model.specs.FileControl.{IsRecords, IsKind, IsCreatable, size_of_kind}
use Rattle.block_chain.specs.declared.chain.Chain.{Chain}
use Rattle.file_tree.specs.declared.entry.Entry.{Entry}
use Rattle.card_model.specs.FileTrees.{transparent, linear, cyclic, dedicated, elementary}
use Rattle.file_tree.specs.Entries.{file_of, slot, linear_records, cyclic_records, entry_capacity}
use Rattle.card_model.specs.Spaces.{blocks_for}
use Rattle.file_tree.specs.Table.{IsFileEntry, IsRecordBody, HasBody, HasName}
use Rattle.card_model.specs.NewFiles.{blank, new_file, capacity}
use Rattle.file_changes.specs.CreationParts.{padded, entry_for, short_option}
use Rattle.file_changes.specs.Creations.{kind_number}

-- a new file's entry is a used one
pub some_kind : (kind : FileKind) → kind_number kind ≢ 0
some_kind (kinds.Df name) same = omega (arith, same)
some_kind (kinds.Transparent told size) same = omega (arith, same)
some_kind (kinds.Linear told records) same = omega (arith, same)
some_kind (kinds.Cyclic told records) same = omega (arith, same)

-- a file has 32,767 bytes at most
pub size_most : (kind : FileKind) → IsKind kind → size_of_kind kind ≤ 32767
size_most (kinds.Df name) is = omega arith
size_most (kinds.Transparent short size) is = is.1.most
size_most (kinds.Linear short records) is = is.1.size.most
size_most (kinds.Cyclic short records) is = is.1.size.most

-- the state that its byte stands for
pub life_again : (state : LifeCycle) → life_cycle_at (life_cycle_byte state) ≡ Some state
life_again Creation = refl
life_again Initialisation = refl
life_again Deactivated = refl
life_again Activated = refl
life_again Terminated = refl

pub take_padded : (n : ℕ) (bytes : List ℕ) → take (length bytes) (padded n bytes) ≡ bytes
take_padded n bytes = take-append_seam bytes (replicate (n - length bytes) 0)

-- a stretch of FFs
stretch : (n from some : ℕ) → from + some ≤ n → take some (drop from (replicate n blank)) ≡ replicate some blank
stretch n from some fits = ap (take some) (drop-replicate from n blank)
    ∙ take-replicate some (n - from) blank (omega (arith, fits))

-- slots are not past their capacity
product_more : (a b c : ℕ) → a ≤ b → a * c ≤ b * c
product_more zero b c le = omega arith
product_more (suc a) zero c le = absurd (omega (arith, le))
product_more (suc a) (suc b) c le = let rest = product_more a b c (omega (arith, le)) in omega (arith, rest)

-- all slots that are looked at hold FFs
slot_filled : (x : Entry) (n cap i : ℕ) → i < cap → cap * x.record_length ≤ n
    → slot x (replicate n blank) i ≡ replicate x.record_length blank
slot_filled x n cap i lt fits =
    let more = product_more (suc i) cap x.record_length (omega (arith, lt)) in
    let long : i * x.record_length + x.record_length - i * x.record_length ≡ x.record_length = omega arith in
    ap (λ (k : ℕ). take k (drop (i * x.record_length) (replicate n blank))) long
    ∙ stretch n (i * x.record_length) x.record_length (omega (arith, more, fits))

-- what is one thing at each number is that so many times
all_one : (f : ℕ → List ℕ) (v : List ℕ) (a n : ℕ) → ((i : ℕ) → a ≤ i → i < a + n → f i ≡ v)
    → map f (range_with_len a n) ≡ replicate n v
all_one f v a zero each = refl
all_one f v a (suc n) each = ap₂ (λ (x : List ℕ) (xs : List (List ℕ)). x ∷ xs) (each a (omega arith) (omega arith))
    (all_one f v (a + 1) n (λ i from below. each i (omega (arith, from)) (omega (arith, below))))

pub some_option : (short : ℕ) → short ≢ 0 → short_option short ≡ Some short
some_option short some = elim (eqb_tells short 0) [
  | inl same ↦ absurd (some same.1)
  | inr other ↦ ap (λ (b : Bool). if b then None else Some short) other.0
]

-- the parts of a new file, kind by kind
rule_again : (rule : List ℕ) → take (length rule) (padded 8 rule) ≡ rule
rule_again rule = take_padded 8 rule

linear_new : (x : Entry) (n : ℕ) → x.records ≤ entry_capacity x → x.size ≤ n
    → linear_records x (replicate n blank) ≡ replicate x.records (replicate x.record_length blank)
linear_new x n few fits = all_one (slot x (replicate n blank)) (replicate x.record_length blank) 0
    x.records (λ i from below.
    let within = div-mul-le_self x.size x.record_length in
    slot_filled x n (entry_capacity x) i (omega (arith, few, below)) (omega (arith, within, fits)))

cyclic_new : (x : Entry) (n : ℕ) → x.records ≤ entry_capacity x → x.size ≤ n → x.start ≡ 0
    → cyclic_records x (replicate n blank) ≡ replicate x.records (replicate x.record_length blank)
cyclic_new x n few fits start =
    all_one (λ i. slot x (replicate n blank) ((x.start + i) % entry_capacity x)) (replicate x.record_length blank) 0
    x.records (λ i from below.
    let small : i < entry_capacity x = omega (arith, few, below) in
    let place : (x.start + i) % entry_capacity x ≡ i =
    ap (λ (s : ℕ). (s + i) % entry_capacity x) start
    ∙ (let z : 0 + i ≡ i = omega arith in ap (λ (k : ℕ). k % entry_capacity x) z) ∙ mod-eq_of_lt small in
    let within = div-mul-le_self x.size x.record_length in
    ap (slot x (replicate n blank)) place ∙ slot_filled x n (entry_capacity x) i small (omega (arith, within, fits)))

module _ (identifier : ℕ) (life : LifeCycle) (rule : List ℕ) (parent short : ℕ) (chain : Chain) where
  abbrev fcp_with : FileKind → Fcp
  fcp_with kind = record { identifier = identifier; life_cycle = life; rule = rule; kind = kind }

  -- a new dedicated file, whatever bytes there are
  new_df : (name : Option (List ℕ)) (bytes : List ℕ) → IsKind (kinds.Df name)
      → file_of (entry_for (fcp_with (kinds.Df name)) parent short chain) bytes
      ≡ new_file (fcp_with (kinds.Df name)) (short_option short)
  unfolding file_of
  new_df None bytes is = λ i. record {
    life = unwrap_or (life_again life i) Activated;
    rule = rule_again rule i;
    kind = dedicated None;
  }
  new_df (Some name) bytes is =
      let named : (if length name == 0 then None else Some (take (length name) (padded 16 name))) ≡ Some name =
      elim (eqb_tells (length name) 0) [
        | inl none ↦ absurd (let some = is.0 in let z = none.1 in omega (arith, some, z))
        | inr other ↦ ap (λ (b : Bool). if b then None else Some (take (length name) (padded 16 name))) other.0
            ∙ ap (λ (bs : List ℕ). Some bs) (take_padded 16 name)
      ] in
      λ i. record {
        life = unwrap_or (life_again life i) Activated;
        rule = rule_again rule i;
        kind = dedicated (named i);
      }

  new_transparent : (told : ShortIdentifier) (size n : ℕ) → size ≤ n
      → file_of (entry_for (fcp_with (kinds.Transparent told size)) parent short chain) (replicate n blank)
      ≡ new_file (fcp_with (kinds.Transparent told size)) (short_option short)
  unfolding file_of
  new_transparent told size n fits =
      let bytes = take-replicate size n blank fits in
      λ i. record {
        life = unwrap_or (life_again life i) Activated;
        rule = rule_again rule i;
        kind = elementary (short_option short) (transparent (bytes i));
      }

  new_linear : (told : ShortIdentifier) (records : Records) (n : ℕ) → IsRecords records → records.size ≤ n
      → file_of (entry_for (fcp_with (kinds.Linear told records)) parent short chain) (replicate n blank)
      ≡ new_file (fcp_with (kinds.Linear told records)) (short_option short)
  unfolding file_of
  new_linear told records n is fits =
      let x = entry_for (fcp_with (kinds.Linear told records)) parent short chain in
      let all = linear_new x n is.existing fits in
      λ i. record {
        life = unwrap_or (life_again life i) Activated;
        rule = rule_again rule i;
        kind = elementary (short_option short) (linear records.record_length (capacity records) (all i));
      }

  new_cyclic : (told : ShortIdentifier) (records : Records) (n : ℕ) → IsRecords records → records.size ≤ n
      → file_of (entry_for (fcp_with (kinds.Cyclic told records)) parent short chain) (replicate n blank)
      ≡ new_file (fcp_with (kinds.Cyclic told records)) (short_option short)
  unfolding file_of
  new_cyclic told records n is fits =
      let x = entry_for (fcp_with (kinds.Cyclic told records)) parent short chain in
      let all = cyclic_new x n is.existing fits refl in
      λ i. record {
        life = unwrap_or (life_again life i) Activated;
        rule = rule_again rule i;
        kind = elementary (short_option short) (cyclic records.record_length (capacity records) (all i));
      }

  -- The entry's file is new: a dedicated file's in any case, an elementary file's where its blocks hold FFs.
  pub new_dedicated : (kind : FileKind) (bytes : List ℕ) → IsKind kind → kind_number kind ≡ 1
      → file_of (entry_for (fcp_with kind) parent short chain) bytes ≡ new_file (fcp_with kind) (short_option short)
  new_dedicated (kinds.Df name) bytes is one = new_df name bytes is
  new_dedicated (kinds.Transparent told size) bytes is one = absurd (omega (arith, one))
  new_dedicated (kinds.Linear told records) bytes is one = absurd (omega (arith, one))
  new_dedicated (kinds.Cyclic told records) bytes is one = absurd (omega (arith, one))

  pub new_by_kind : (kind : FileKind) (n : ℕ) → IsKind kind → size_of_kind kind ≤ n
      → file_of (entry_for (fcp_with kind) parent short chain) (replicate n blank)
      ≡ new_file (fcp_with kind) (short_option short)
  new_by_kind (kinds.Df name) n is fits = new_df name (replicate n blank) is
  new_by_kind (kinds.Transparent told size) n is fits = new_transparent told size n fits
  new_by_kind (kinds.Linear told records) n is fits = new_linear told records n is.1 fits
  new_by_kind (kinds.Cyclic told records) n is fits = new_cyclic told records n is.1 fits

  -- the body of a new file
  record_body : (told : ShortIdentifier) (records : Records) → IsRecords records → 1 ≤ capacity records
      → IsRecordBody (entry_for (fcp_with (kinds.Linear told records)) parent short chain)
      × IsRecordBody (entry_for (fcp_with (kinds.Cyclic told records)) parent short chain)
  record_body told records is some =
      let whole = div-add-mod records.size records.record_length in
      let none = is.multiple in
      let turned = mul_comm records.record_length (capacity records) in
      let multiple : records.size ≡ capacity records * records.record_length = omega (arith, whole, none, turned) in
      let start : 0 < capacity records = omega (arith, some) in (
        record {
          some = is.shortest;
          record_length = is.longest;
          multiple = multiple;
          size = is.size.most;
          room = some;
          capacity = is.capacity;
          records = is.existing;
          start = start;
          linear = λ third. refl;
        },
        record {
          some = is.shortest;
          record_length = is.longest;
          multiple = multiple;
          size = is.size.most;
          room = some;
          capacity = is.capacity;
          records = is.existing;
          start = start;
          linear = λ third. refl;
        },
      )

  -- So it is a file's entry.
  entry_kind : (kind : FileKind) → kind_number kind ≤ 4
  entry_kind (kinds.Df name) = omega arith
  entry_kind (kinds.Transparent told size) = omega arith
  entry_kind (kinds.Linear told records) = omega arith
  entry_kind (kinds.Cyclic told records) = omega arith

  some_room : (records : Records) → IsRecords records → 1 ≤ capacity records
  some_room records is = elim (eqb_tells (capacity records) 0) [
    | inl none ↦ absurd (
        let whole = div-add-mod records.size records.record_length in
        let turned = mul_comm records.record_length (capacity records) in
        let zero_times : 0 * records.record_length ≡ 0 = omega arith in
        let nothing : capacity records * records.record_length ≡ 0 =
        ap (λ (k : ℕ). k * records.record_length) none.1 ∙ zero_times in
        let least = is.size.least in
        let multiple = is.multiple in
        omega (arith, whole, turned, nothing, least, multiple))
    | inr other ↦ (let d = other.1 in omega (arith, d))
  ]

  entry_body : (kind : FileKind) → IsKind kind → HasBody (entry_for (fcp_with kind) parent short chain)
  entry_body (kinds.Df name) is = record {
    transparent = λ same. absurd (omega (arith, same));
    records = λ same. absurd
        (⊎_elim (λ (third : 1 ≡ 3). omega (arith, third)) (λ (fourth : 1 ≡ 4). omega (arith, fourth)) same);
  }
  entry_body (kinds.Transparent told size) is = record {
    transparent =
        λ same. record { some = is.1.least; size = is.1.most; record_length = refl; records = refl; start = refl };
    records = λ same. absurd
        (⊎_elim (λ (third : 2 ≡ 3). omega (arith, third)) (λ (fourth : 2 ≡ 4). omega (arith, fourth)) same);
  }
  entry_body (kinds.Linear told records) is = record {
    transparent = λ same. absurd (omega (arith, same));
    records = λ same. (record_body told records is.1 (some_room records is.1)).0;
  }
  entry_body (kinds.Cyclic told records) is = record {
    transparent = λ same. absurd (omega (arith, same));
    records = λ same. (record_body told records is.1 (some_room records is.1)).1;
  }

  entry_name : (kind : FileKind) → IsKind kind → HasName (entry_for (fcp_with kind) parent short chain)
  entry_name (kinds.Df None) is = record { most = omega arith; of_df = λ some. absurd (some refl) }
  entry_name (kinds.Df (Some name)) is = record { most = is.1; of_df = λ some. absurd (some refl) }
  entry_name (kinds.Transparent told size) is = record { most = omega arith; of_df = λ some. refl }
  entry_name (kinds.Linear told records) is = record { most = omega arith; of_df = λ some. refl }
  entry_name (kinds.Cyclic told records) is = record { most = omega arith; of_df = λ some. refl }

  pub new_entry : (kind : FileKind) → IsCreatable (fcp_with kind) → short ≤ 30 → (kind_number kind ≡ 1 → short ≡ 0)
      → IsFileEntry (entry_for (fcp_with kind) parent short chain)
  new_entry kind is most of_df = record {
    kind = entry_kind kind;
    life = (let family : Option LifeCycle → Type 0 = λ o. IsSome o in subst family (sym (life_again life)) refl);
    identifier = (is.ranges.current_df, is.ranges.reserved);
    short = record { most = most; of_ef = of_df };
    name = entry_name kind is.ranges.kind;
    rule = record {
      most = length-rule rule (tells_true is.ranges.rule);
      rule = (let family : List ℕ → Type 0 = λ bytes. IsTrue (is_rule bytes) in
          subst family (sym (rule_again rule)) is.ranges.rule);
    };
    body = entry_body kind is.ranges.kind;
  }
    where
      tells_true : IsTrue (is_rule rule) → is_rule rule ≡ true
      tells_true is = is

-- a dedicated file takes no blocks, an elementary file some
pub kind_blocks : (kind : FileKind) → IsKind kind
    → ((kind_number kind ≡ 1) × (blocks_for (size_of_kind kind) ≡ 0))
    ⊎ ((2 ≤ kind_number kind) × (1 ≤ blocks_for (size_of_kind kind)))
kind_blocks (kinds.Df name) is = inl (refl, refl)
kind_blocks (kinds.Transparent told size) is = inr (omega arith, some_blocks size is.1.least)
  where
    some_blocks : (size : ℕ) → 1 ≤ size → 1 ≤ blocks_for size
    some_blocks size least = omega (arith, least)
kind_blocks (kinds.Linear told records) is = inr (omega arith, some_blocks records.size is.1.size.least)
  where
    some_blocks : (size : ℕ) → 1 ≤ size → 1 ≤ blocks_for size
    some_blocks size least = omega (arith, least)
kind_blocks (kinds.Cyclic told records) is = inr (omega arith, some_blocks records.size is.1.size.least)
  where
    some_blocks : (size : ℕ) → 1 ≤ size → 1 ≤ blocks_for size
    some_blocks size least = omega (arith, least)
