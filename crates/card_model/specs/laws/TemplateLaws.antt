-- What templates of bytes tell is in its ranges, and new files are proper.
use Rattle.std.specs.Prelude.{◌≡◌, ◌<◌, ◌≤◌, ◌+◌, ◌*◌, ◌/◌, ◌%◌, ◌==◌, ◌&&◌, ◌||◌, ℕ, zero, suc, Bool, true, false, not}
use Rattle.std.specs.Prelude.{nat_le, List, [], ◌∷◌, length, take, drop, replicate, IfSome, find}
use Rattle.std.specs.Prelude.{Option, Some, None, option_map, is_some, is_none, Result, Ok, Err, if◌then◌else◌}
use Rattle.std.specs.Option.{ok_or, unwrap_or}
use Rattle.std.proofs.Common.{arith, refl, sym, true≢false}
use Rattle.std.proofs.Math.Nat.{div-mul-le_self}
use Rattle.std.proofs.lemmas.Bool.{leb-true}
use Rattle.std.proofs.lemmas.List.{length-replicate}
use Rattle.std.proofs.lemmas.List.Elements.{All-head, All-replicate, All-tail, All-take, All-drop}
use Rattle.card_model.specs.declared.life_cycle.LifeCycle.{LifeCycle}
use Rattle.card_model.specs.Rule.{is_rule}
use Rattle.card_model.specs.laws.Rules.{length-rule}
use Rattle.card_model.specs.declared.fault.FcpFault.{FcpFault}
use Rattle.card_model.specs.declared.fault.FcpFault.TheVariants.{Missing, Twice, Value}
use Rattle.card_model.specs.declared.fcp.Fcp.{Fcp}
use Rattle.card_model.specs.declared.fcp.FileKind.{FileKind}
use Rattle.card_model.specs.declared.fcp.FileKind.TheVariants.{Df, Transparent, Linear, Cyclic}
use Rattle.card_model.specs.declared.fcp.Records.{Records}
use Rattle.card_model.specs.declared.fcp.ShortIdentifier.{ShortIdentifier}
use Rattle.card_model.specs.declared.fcp.ShortIdentifier.TheVariants.{Absent, Empty, Given}
use Rattle.card_model.specs.TemplateGrammar.{DataObject, fcp_read, meaning_of, objects_in, ◌>>=◌, data_bytes, df_of}
use Rattle.card_model.specs.TemplateGrammar.{fcp_of, has, has_unknown, is_missing, is_twice, kind_read, meaning}
use Rattle.card_model.specs.TemplateGrammar.{record_file_of, transparent_of, value_at, descriptor_of, identifier_of}
use Rattle.card_model.specs.TemplateGrammar.{life_cycle_of, name_read, records_read, rule_read, plain_descriptor}
use Rattle.card_model.specs.TemplateGrammar.{record_descriptor, short_read, size_of, structure_of}
use Rattle.card_model.specs.FileTrees.{Path, Tree}
use Rattle.card_model.specs.NewFiles.{blank, low_bits, new_file, new_kind, short_for, short_of_new}
use Rattle.card_model.specs.Selectors.{child_by_short}
use Rattle.card_model.specs.Requests.{AreBytes}
use Rattle.card_model.specs.Cards.{AreRecords, IsContent, IsProperFile, IsProperKind, IsProperName, IsProperShort}
use Rattle.card_model.specs.Cards.{IsRecord}
use Rattle.card_model.specs.laws.TableLaws.{choose}

abbrev byte : ℕ → Type 0
byte number = number < 256

-- what both tests tell where they hold
both : (a b : Bool) → (a && b) ≡ true → (a ≡ true) × (b ≡ true)
both true b is = (refl, is)
both false b is = absurd (true≢false (sym is))

-- what goes through an option
through : {A B : Type 0} (P : A → Type 0) (Q : B → Type 0) (o : Option A) (f : A → Option B) → IfSome o P
    → ((x : A) → P x → IfSome (f x) Q) → IfSome (o >>= f) Q
through P Q None f all next = tt
through P Q (Some x) f all next = next x all

abbrev Any : {A : Type 0} → A → Type 0
Any x = Unit {0}

anything : {A : Type 0} (o : Option A) → IfSome o Any
anything None = tt
anything (Some x) = tt

-- the values of objects are bytes
abbrev HaveBytes : List DataObject → Type 0
HaveBytes [] = Unit {0}
HaveBytes (o ∷ os) = AreBytes o.value × HaveBytes os

abbrev HasBytes : Option (List ℕ) → Type 0
HasBytes found = IfSome found AreBytes

with_object : (o : DataObject) → AreBytes o.value → (found : Option (List DataObject)) → IfSome found HaveBytes
    → IfSome (option_map (λ os. o ∷ os) found) HaveBytes
with_object o bytes None all = tt
with_object o bytes (Some os) all = (bytes, all)

bytes-objects : (most : ℕ) (bytes : List ℕ) → AreBytes bytes → IfSome (objects_in most bytes) HaveBytes
unfolding objects_in
bytes-objects most [] all = tt
bytes-objects zero (tag ∷ rest) all = tt
bytes-objects (suc most) (tag ∷ []) all = tt
bytes-objects (suc most) (tag ∷ n ∷ rest) all =
    let behind = All-tail byte n rest (All-tail byte tag (n ∷ rest) all) in
    choose (λ found. IfSome found HaveBytes) (nat_le n (length rest)) _ None
    (λ is. with_object (record { tag = tag; value = take n rest }) (All-take byte n rest behind)
    (objects_in most (drop n rest)) (bytes-objects most (drop n rest) (All-drop byte n rest behind)))
    tt

bytes-first : (tag : ℕ) (os : List DataObject) → HaveBytes os → HasBytes (value_at os tag)
bytes-first tag [] all = tt
bytes-first tag (o ∷ os) all =
    choose (λ found. HasBytes (option_map (λ x. x.value) found)) (o.tag == tag) (Some o) (find (λ x. x.tag == tag) os)
    (λ is. all.0) (bytes-first tag os all.1)

-- an identifier of two bytes
small-identifier : (value : List ℕ) → AreBytes value → IfSome (identifier_of value) (λ id. id < 65536)
small-identifier [] all = tt
small-identifier (a ∷ []) all = tt
small-identifier (high ∷ low ∷ []) all =
    let h = All-head byte high (low ∷ []) all in
    let l = All-head byte low [] (All-tail byte high (low ∷ []) all) in
    let id : 256 * high + low < 65536 = omega (arith, h, l) in
    choose (λ found. IfSome found (λ id. id < 65536))
    ((256 * high + low == 0x3F00) || (256 * high + low == 0x3FFF) || (256 * high + low == 0xFFFF)) None
    (Some (256 * high + low)) (λ is. tt) id
small-identifier (a ∷ b ∷ d ∷ rest) all = tt

-- a rule of at most 8 bytes
record IsProperRule (rule : List ℕ) : Type 0 where
  bytes : AreBytes rule
  size : length rule ≤ 8

proper-rule : (value : List ℕ) → AreBytes value → IfSome (rule_read value) IsProperRule
proper-rule value all =
    choose (λ found. IfSome found IsProperRule) (is_rule value) (Some value) None
    (λ is. record { bytes = all; size = length-rule value is }) tt

-- a name of at most 16 bytes
proper-name : (found : Option (List ℕ)) → HasBytes found → IfSome (name_read found) IsProperName
proper-name None all = tt
proper-name (Some name) all =
    choose (λ told. IfSome told IsProperName) (nat_le 1 (length name) && nat_le (length name) 16) (Some (Some name))
    None
    (λ is. record {
      bytes = all;
      some = leb-true 1 (length name) (both _ _ is).0;
      size = leb-true (length name) 16 (both _ _ is).1;
    })
    tt

-- a short identifier of 1 to 30
abbrev pub IsSmallShort : ShortIdentifier → Type 0
IsSmallShort Absent = Unit {0}
IsSmallShort Empty = Unit {0}
IsSmallShort (Given n) = (1 ≤ n) × (n ≤ 30)

small-short : (found : Option (List ℕ)) → IfSome (short_read found) IsSmallShort
small-short None = tt
small-short (Some []) = tt
small-short (Some (b ∷ [])) =
    choose (λ told. IfSome told IsSmallShort) ((b % 8 == 0) && nat_le 1 (b / 8) && nat_le (b / 8) 30)
    (Some (Given (b / 8))) None
    (λ is. (leb-true 1 (b / 8) (both _ _ (both _ _ is).0).1, leb-true (b / 8) 30 (both _ _ is).1)) tt
small-short (Some (a ∷ b ∷ rest)) = tt

-- a size of 1 to 32,767
abbrev pub IsSize : ℕ → Type 0
IsSize size = (1 ≤ size) × (size ≤ 32767)

small-size : (found : Option ℕ) → IfSome (size_of found) IsSize
small-size None = tt
small-size (Some size) =
    choose (λ told. IfSome told IsSize) (nat_le 1 size && nat_le size 32767) (Some size) None
    (λ is. (leb-true 1 size (both _ _ is).0, leb-true size 32767 (both _ _ is).1)) tt

-- records in their ranges
pub record AreSmall (records : Records) : Type 0 where
  pub some : 1 ≤ records.record_length
  pub record_length : records.record_length ≤ 255
  pub room : records.size / records.record_length * records.record_length ≤ 32767
  pub least : 1 ≤ records.size / records.record_length
  pub capacity : records.size / records.record_length ≤ 254
  pub number : records.existing ≤ records.size / records.record_length

small-records : (record_length : ℕ) (existing : Option ℕ) (size : ℕ) → size ≤ 32767
    → IfSome (records_read record_length existing size) AreSmall
small-records record_length existing size most =
    let capacity = size / record_length in
    let number = unwrap_or existing capacity in
    choose (λ told. IfSome told AreSmall)
    (nat_le 1 record_length && nat_le record_length 255 && (size % record_length == 0)
    && nat_le 1 capacity && nat_le capacity 254 && nat_le number capacity)
    (Some (record { size = size; record_length = record_length; existing = number })) None
    (λ is.
    let first = nat_le 1 record_length in
    let second = nat_le record_length 255 in
    let third = size % record_length == 0 in
    let fourth = nat_le 1 capacity in
    let fifth = nat_le capacity 254 in
    let all_six = both (first && second && third && fourth && fifth) (nat_le number capacity) is in
    let all_five = both (first && second && third && fourth) fifth all_six.0 in
    let all_four = both (first && second && third) fourth all_five.0 in
    let all_three = both (first && second) third all_four.0 in
    let both_first = both first second all_three.0 in
    let whole = div-mul-le_self size record_length in
    record {
      some = leb-true 1 record_length both_first.0;
      record_length = leb-true record_length 255 both_first.1;
      room = omega (arith, whole, most);
      least = leb-true 1 capacity all_four.1;
      capacity = leb-true capacity 254 all_five.1;
      number = leb-true number capacity all_six.1;
    })
    tt

-- what is told of a file of each kind
abbrev pub IsFineKind : FileKind → Type 0
IsFineKind (Df name) = IsProperName name
IsFineKind (Transparent short size) = IsSmallShort short × IsSize size
IsFineKind (Linear short records) = IsSmallShort short × AreSmall records
IsFineKind (Cyclic short records) = IsSmallShort short × AreSmall records

fine-df : (os : List DataObject) → HaveBytes os → IfSome (df_of os) IsFineKind
unfolding df_of
fine-df os all =
    through IsProperName IsFineKind (name_read (value_at os 0x84)) _ (proper-name _ (bytes-first 0x84 os all))
    (λ name proper. choose (λ told. IfSome told IsFineKind)
    (has os 0x88 || has os 0x80 && not (is_some (data_bytes os))) None (Some (Df name)) (λ is. tt) proper)

fine-transparent : (os : List DataObject) → IfSome (transparent_of os) IsFineKind
unfolding transparent_of
fine-transparent os =
    through IsSmallShort IsFineKind (short_read (value_at os 0x88)) _ (small-short (value_at os 0x88)) (λ short few.
    through IsSize IsFineKind (size_of (data_bytes os)) _ (small-size (data_bytes os)) (λ size sized.
    choose (λ told. IfSome told IsFineKind) (has os 0x84) None (Some (Transparent short size)) (λ is. tt)
    (few, sized)))

-- a file of records, of either order
fine-records : (build : ShortIdentifier → Records → FileKind)
    → ((short : ShortIdentifier) (records : Records) → IsSmallShort short → AreSmall records
    → IsFineKind (build short records))
    → (record_length : ℕ) (existing : Option ℕ) (os : List DataObject)
    → IfSome (short_read (value_at os 0x88) >>= (λ short. size_of (data_bytes os) >>= (λ size.
    records_read record_length existing size >>= (λ records. if has os 0x84 then None else Some
    (build short records)))))
    IsFineKind
fine-records build fine record_length existing os =
    through IsSmallShort IsFineKind (short_read (value_at os 0x88)) _ (small-short (value_at os 0x88)) (λ short few.
    through IsSize IsFineKind (size_of (data_bytes os)) _ (small-size (data_bytes os)) (λ size sized.
    through AreSmall IsFineKind (records_read record_length existing size) _ (small-records record_length existing size
    sized.1) (λ records small.
    choose (λ told. IfSome told IsFineKind) (has os 0x84) None (Some (build short records)) (λ is. tt)
    (fine short records few small))))

-- whatever kind of file the descriptor says
module _ (os : List DataObject) (all : HaveBytes os) where
  fine-plain : (b : ℕ) → IfSome (plain_descriptor b) (λ descriptor. IfSome (kind_read descriptor os) IsFineKind)
  fine-plain b =
      choose (λ found. IfSome found (λ descriptor. IfSome (kind_read descriptor os) IsFineKind))
      (b == 0x38 || b == 0x78)
      _ _ (λ is. fine-df os all)
      (choose (λ found. IfSome found (λ descriptor. IfSome (kind_read descriptor os) IsFineKind)) (b == 0x01 || b
      == 0x41) _ None (λ is. fine-transparent os) tt)

  fine-of_records : (b record_length : ℕ) (existing : Option ℕ)
      → IfSome (record_descriptor (structure_of b) record_length existing) (λ descriptor. IfSome
      (kind_read descriptor os)
      IsFineKind)
  unfolding record_file_of
  fine-of_records b record_length existing =
      choose (λ structure. IfSome (record_descriptor structure record_length existing) (λ descriptor. IfSome (kind_read
      descriptor os) IsFineKind)) (b == 0x02 || b == 0x42) _ _
      (λ is. fine-records (λ short records. Linear short records) (λ short records few small. (few, small))
      record_length existing os)
      (choose (λ structure. IfSome (record_descriptor structure record_length existing) (λ descriptor. IfSome
      (kind_read
      descriptor os) IsFineKind)) (b == 0x06 || b == 0x46) _ None
      (λ is. fine-records (λ short records. Cyclic short records) (λ short records few small. (few, small))
      record_length existing os) tt)

  fine-descriptor : (value : List ℕ) → IfSome (descriptor_of value) (λ descriptor. IfSome (kind_read descriptor os)
      IsFineKind)
  fine-descriptor [] = tt
  fine-descriptor (b ∷ []) = fine-plain b
  fine-descriptor (b ∷ coding ∷ []) = fine-plain b
  fine-descriptor (b ∷ coding ∷ high ∷ []) = tt
  fine-descriptor (b ∷ coding ∷ high ∷ low ∷ []) = fine-of_records b (256 * high + low) None
  fine-descriptor (b ∷ coding ∷ high ∷ low ∷ existing ∷ []) = fine-of_records b (256 * high + low) (Some existing)
  fine-descriptor (b ∷ coding ∷ high ∷ low ∷ existing ∷ more ∷ rest) = tt

  fine-first : (found : Option (List ℕ)) → IfSome (found >>= descriptor_of) (λ descriptor. IfSome (kind_read descriptor
      os) IsFineKind)
  fine-first None = tt
  fine-first (Some value) = fine-descriptor value

-- file control parameters of bytes, in their ranges
pub record IsFineFcp (fcp : Fcp) : Type 0 where
  pub identifier : fcp.identifier < 65536
  pub rule : AreBytes fcp.rule
  pub rule_size : length fcp.rule ≤ 8
  pub kind : IsFineKind fcp.kind

fine-fcp : (os : List DataObject) → HaveBytes os → IfSome (fcp_of os) IsFineFcp
unfolding fcp_of
fine-fcp os all =
    through (λ descriptor. IfSome (kind_read descriptor os) IsFineKind) IsFineFcp (value_at os 0x82 >>= descriptor_of) _
    (fine-first os all (value_at os 0x82)) (λ descriptor fine_kind.
    through (λ id. id < 65536) IsFineFcp (value_at os 0x83 >>= identifier_of) _
    (through AreBytes (λ id. id < 65536) (value_at os 0x83) identifier_of (bytes-first 0x83 os all) small-identifier)
    (λ id small.
    through IsFineKind IsFineFcp (kind_read descriptor os) _ fine_kind (λ kind fine.
    through Any IsFineFcp (life_cycle_of (value_at os 0x8A)) _ (anything _) (λ life any_life.
    through IsProperRule IsFineFcp (value_at os 0x8C >>= rule_read) _
    (through AreBytes IsProperRule (value_at os 0x8C) rule_read (bytes-first 0x8C os all) proper-rule)
    (λ rule proper.
    choose (λ told. IfSome told IsFineFcp) (has_unknown os) None
    (Some (record { identifier = id; life_cycle = life; rule = rule; kind = kind })) (λ is. tt)
    (record { identifier = small; rule = proper.bytes; rule_size = proper.size; kind = fine }))))))

abbrev pub IsFineRead : Result Fcp FcpFault → Type 0
IsFineRead (Ok fcp) = IsFineFcp fcp
IsFineRead (Err fault) = Unit {0}

fine-ok_or : (found : Option Fcp) → IfSome found IsFineFcp → IsFineRead (ok_or found Value)
fine-ok_or None fine = tt
fine-ok_or (Some fcp) fine = fine

fine-meaning : (os : List DataObject) → HaveBytes os → IsFineRead (meaning os)
fine-meaning os all =
    choose IsFineRead (is_missing os) (Err Missing) _ (λ is. tt)
    (choose IsFineRead (is_twice os) (Err Twice) _ (λ is. tt) (fine-ok_or (fcp_of os) (fine-fcp os all)))

fine-meaning_of : (found : Option (List DataObject)) → IfSome found HaveBytes → IsFineRead (meaning_of found)
fine-meaning_of None all = tt
fine-meaning_of (Some os) all = fine-meaning os all

-- what a template of bytes tells
pub fine-read : (text : List ℕ) → AreBytes text → IsFineRead (fcp_read text)
unfolding fcp_read
fine-read [] all = tt
fine-read (tag ∷ []) all = tt
fine-read (tag ∷ n ∷ body) all =
    choose IsFineRead ((tag == 0x62) && nat_le n 0x7F && (length body == n)) (meaning_of (objects_in n body)) _
    (λ is. fine-meaning_of (objects_in n body) (bytes-objects n body (All-tail byte n body (All-tail byte tag (n ∷
    body) all))))
    tt

-- new files
proper-content : (size : ℕ) → IsSize size → IsContent (replicate size blank)
proper-content size sized =
    let long = length-replicate {A = ℕ} size blank in
    let least = sized.0 in
    let most = sized.1 in
    record {
      bytes = All-replicate byte size blank (omega arith);
      some = omega (arith, long, least);
      size = omega (arith, long, most);
    }

proper-records : (records : Records) → AreSmall records
    → AreRecords records.record_length (records.size / records.record_length)
    (replicate records.existing (replicate records.record_length blank))
proper-records records small =
    let long = length-replicate {A = ℕ} records.record_length blank in
    let some = length-replicate {A = List ℕ} records.existing (replicate records.record_length blank) in
    let few = small.number in
    let new_record : IsRecord records.record_length (replicate records.record_length blank) = record {
      bytes = All-replicate byte records.record_length blank (omega arith);
      size = long;
    } in
    record {
      each = All-replicate (IsRecord records.record_length) records.existing (replicate records.record_length blank)
          new_record;
      some = small.some;
      record_length = small.record_length;
      room = small.room;
      least = small.least;
      capacity = small.capacity;
      number = omega (arith, some, few);
    }

proper-kind : (kind : FileKind) (short : Option ℕ) → IsFineKind kind → IsProperShort short
    → IsProperKind (new_kind kind short)
proper-kind (Df name) short fine few = fine
proper-kind (Transparent told size) short fine few = (few, proper-content size fine.1)
proper-kind (Linear told records) short fine few = (few, proper-records records fine.1)
proper-kind (Cyclic told records) short fine few = (few, proper-records records fine.1)

proper-short_for : (tree : Tree) (df : Path) (id : ℕ) (short : ShortIdentifier) → IsSmallShort short
    → IsProperShort (short_for tree df id short)
proper-short_for tree df id Empty few = tt
proper-short_for tree df id (Given n) few = few
proper-short_for tree df id Absent few =
    choose IsProperShort (nat_le 1 (low_bits id) && nat_le (low_bits id) 30 && is_none (child_by_short tree df
    (low_bits id))) (Some (low_bits id)) None
    (λ is. let few = both _ _ (both _ _ is).0 in (leb-true 1 (low_bits id) few.0, leb-true (low_bits id) 30 few.1)) tt

proper-short : (tree : Tree) (df : Path) (fcp : Fcp) → IsFineKind fcp.kind → IsProperShort (short_of_new tree df fcp)
proper-short tree df fcp fine = by_kind fcp.identifier fcp.life_cycle fcp.rule fcp.kind fine
  where
    by_kind : (id : ℕ) (life : LifeCycle) (rule : List ℕ) (kind : FileKind) → IsFineKind kind
        → IsProperShort (short_of_new tree df (record { identifier = id; life_cycle = life; rule = rule; kind = kind }))
    by_kind id life rule (Df name) fine = tt
    by_kind id life rule (Transparent short size) fine = proper-short_for tree df id short fine.0
    by_kind id life rule (Linear short records) fine = proper-short_for tree df id short fine.0
    by_kind id life rule (Cyclic short records) fine = proper-short_for tree df id short fine.0

pub proper-new : (tree : Tree) (df : Path) (fcp : Fcp) → IsFineFcp fcp
    → IsProperFile (new_file fcp (short_of_new tree df fcp))
proper-new tree df fcp fine = record {
  rule = fine.rule;
  rule_size = fine.rule_size;
  kind = proper-kind fcp.kind (short_of_new tree df fcp) fine.kind (proper-short tree df fcp fine.kind);
}
