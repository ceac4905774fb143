-- What is written of file control parameters in full is read again.
use Rattle.std.proofs.Common.{ℕ, zero, suc, ◌≡◌, ◌≢◌, ◌+◌, ◌*◌, ◌/◌, ◌%◌, ◌≤◌, false, List, [], ◌∷◌, length, Option}
use Rattle.std.proofs.Common.{Some, None, Ok, refl, sym, ap, inl, arith}
use Rattle.std.specs.Prelude.{IsTrue}
use Rattle.std.proofs.lemmas.Bool.Decides.{nat_tests}
use Rattle.std.proofs.lemmas.Grind.{common_steps}
use Rattle.std.proofs.lemmas.List.{length-append}
use Rattle.std.proofs.Math.Nat.{div-add-mod}
use Rattle.card_model.specs.declared.life_cycle.LifeCycle.{LifeCycle}
use Rattle.card_model.specs.declared.life_cycle.LifeCycle.TheVariants.{Creation, Initialisation, Deactivated, Activated}
use Rattle.card_model.specs.declared.life_cycle.LifeCycle.TheVariants.{Terminated}
use Rattle.card_model.specs.LifeCycle.{life_cycle_byte}
use Rattle.card_model.specs.Rule.{is_rule}
use Rattle.card_model.specs.laws.Rules.{length-rule}
use Rattle.card_model.specs.declared.fcp.Fcp.{Fcp}
use Rattle.card_model.specs.declared.fcp.FileKind.{FileKind}
use Rattle.card_model.specs.declared.fcp.FileKind.TheVariants as kinds
use Rattle.card_model.specs.declared.fcp.Records.{Records}
use Rattle.card_model.specs.declared.fcp.ShortIdentifier.{ShortIdentifier}
use Rattle.card_model.specs.declared.fcp.ShortIdentifier.TheVariants.{Absent, Empty, Given}
use Rattle.card_model.specs.declared.descriptor.Structure.{Structure}
use Rattle.card_model.specs.declared.descriptor.Structure.TheVariants.{Linear, Cyclic}
use Rattle.card_model.specs.declared.descriptor.Descriptor.{Descriptor}
use Rattle.card_model.specs.declared.descriptor.Descriptor.TheVariants as descriptors
use Rattle.card_model.specs.TemplateGrammar.{DataObject, objects_text, descriptor_of, identifier_of, name_read}
use Rattle.card_model.specs.TemplateGrammar.{short_read}
use Rattle.card_model.specs.TemplateGrammar.{number_read, size_of, records_read, life_cycle_of, rule_read, ◌>>=◌, has}
use Rattle.card_model.specs.TemplateGrammar.{value_at, data_bytes, is_missing, is_twice, has_unknown, df_of}
use Rattle.card_model.specs.TemplateGrammar.{transparent_of, structured, record_file_of, kind_read, fcp_of, meaning}
use Rattle.card_model.specs.TemplateGrammar.{FcpReads}
use Rattle.card_model.specs.FileControl.{IsShort, IsSize, IsRecords, IsKind}
use Rattle.card_model.specs.Templates.{IsShortSaid, IsInFull, in_two_bytes, short_value, fcp_objects, fcp_text}

-- ---- each field

identifier_again : (n : ℕ) → n ≢ 0x3F00 → n ≢ 0x3FFF → n ≢ 0xFFFF → identifier_of (in_two_bytes n) ≡ Some n
identifier_again n mf current reserved = rw (div-add-mod n 256) (grind (arith, nat_tests, common_steps))

short_again : (short : ShortIdentifier) → IsShort short → short ≢ Absent
    → short_read (Some (short_value short)) ≡ Some short
short_again Absent full said = absurd (said refl)
short_again Empty full said = refl
short_again (Given n) full said =
    let low : n * 8 % 8 ≡ 0 = omega arith in
    let high : n * 8 / 8 ≡ n = omega arith in
    rw (low, high) (grind (arith, nat_tests, common_steps))

size_again : (n : ℕ) → IsSize n → size_of (number_read (in_two_bytes n)) ≡ Some n
size_again n full = rw (div-add-mod n 256) (grind (arith, nat_tests, common_steps))

-- a number above 0 that a length divides is at least one length
one_at_least : (m q n : ℕ) → n ≡ m * q → 1 ≤ n → 1 ≤ q
one_at_least m zero n e some = omega arith
one_at_least m (suc q) n e some = omega arith

records_again : (records : Records) → IsRecords records
    → records_read records.record_length (Some records.existing) records.size ≡ Some records
records_again records full =
    let q = records.size / records.record_length in
    let whole : records.size ≡ records.record_length * q = omega (arith, full.multiple, full.shortest) in
    let some : 1 ≤ q = one_at_least records.record_length q records.size whole full.size.least in
    rw full.multiple (grind (arith, nat_tests, common_steps, some))

name_again : (name : List ℕ) → (1 ≤ length name) × (length name ≤ 16) → name_read (Some name) ≡ Some (Some name)
name_again name full = grind (arith, nat_tests, common_steps)

life_cycle_again : (state : LifeCycle) → state ≢ Terminated
    → life_cycle_of (Some (life_cycle_byte state ∷ [])) ≡ Some state
life_cycle_again Creation live = refl
life_cycle_again Initialisation live = refl
life_cycle_again Deactivated live = refl
life_cycle_again Activated live = refl
life_cycle_again Terminated live = absurd (live refl)

rule_again : (rule : List ℕ) → IsTrue (is_rule rule) → rule_read rule ≡ Some rule
rule_again rule e = rw e refl

short_length : (short : ShortIdentifier) → length (short_value short) ≤ 1
short_length Absent = omega arith
short_length Empty = omega arith
short_length (Given n) = omega arith

-- ---- the whole, from what its objects tell

df_is : (os : List DataObject) (name : Option (List ℕ)) → name_read (value_at os 0x84) ≡ Some name → has os 0x88 ≡ false
    → has os 0x80 ≡ false → df_of os ≡ Some (kinds.Df name)
unfolding df_of
df_is os name e f g = rw (e, f, g) refl

transparent_is : (os : List DataObject) (short : ShortIdentifier) (size : ℕ)
    → short_read (value_at os 0x88) ≡ Some short
    → size_of (data_bytes os) ≡ Some size → has os 0x84 ≡ false
    → transparent_of os ≡ Some (kinds.Transparent short size)
unfolding transparent_of
transparent_is os short size e f g = rw (e, f, g) refl

record_file_is : (structure : Structure) (os : List DataObject) (short : ShortIdentifier) (size : ℕ)
    (record_length existing : ℕ) (records : Records)
    → short_read (value_at os 0x88) ≡ Some short → size_of (data_bytes os) ≡ Some size
    → records_read record_length (Some existing) size ≡ Some records → has os 0x84 ≡ false
    → record_file_of structure record_length (Some existing) os ≡ Some (structured structure short records)
unfolding record_file_of
record_file_is structure os short size record_length existing records e f g h = rw (e, f, g, h) refl

fcp_is : (os : List DataObject) (descriptor : Descriptor) (fcp : Fcp)
    → (value_at os 0x82 >>= descriptor_of) ≡ Some descriptor
    → (value_at os 0x83 >>= identifier_of) ≡ Some fcp.identifier → kind_read descriptor os ≡ Some fcp.kind
    → life_cycle_of (value_at os 0x8A) ≡ Some fcp.life_cycle → (value_at os 0x8C >>= rule_read) ≡ Some fcp.rule
    → has_unknown os ≡ false → fcp_of os ≡ Some fcp
unfolding fcp_of
fcp_is os descriptor fcp d i k l r u = rw (d, i, k, l, r, u) refl

-- ---- the text

-- what the objects of each kind of file mean
module _ (identifier : ℕ) (state : LifeCycle) (rule : List ℕ) (mf : identifier ≢ 0x3F00) (current : identifier ≢ 0x3FFF)
    (reserved : identifier ≢ 0xFFFF) (live : state ≢ Terminated) (is : IsTrue (is_rule rule)) where
  abbrev of_kind : FileKind → Fcp
  of_kind kind = record { identifier = identifier; life_cycle = state; rule = rule; kind = kind }

  record_descriptor_again : (structure : Structure) (records : Records)
      → ◌≡◌ {A = Option Descriptor}
      (Some (descriptors.Records structure (256 * (records.record_length / 256) + records.record_length % 256)
      (Some records.existing))) (Some (descriptors.Records structure records.record_length (Some records.existing)))
  record_descriptor_again structure records =
      ap (λ (n : ℕ). Some (descriptors.Records structure n (Some records.existing)))
      (div-add-mod records.record_length 256)

  fcp_again : (kind : FileKind) → IsKind kind → IsShortSaid kind
      → fcp_of (fcp_objects (of_kind kind)) ≡ Some (of_kind kind)
  fcp_again (kinds.Df None) full said =
      fcp_is (fcp_objects (of_kind (kinds.Df None))) descriptors.Df (of_kind (kinds.Df None)) refl
      (identifier_again identifier mf current reserved)
      (df_is (fcp_objects (of_kind (kinds.Df None))) None refl refl refl) (life_cycle_again state live)
      (rule_again rule is) refl
  fcp_again (kinds.Df (Some name)) full said =
      fcp_is (fcp_objects (of_kind (kinds.Df (Some name)))) descriptors.Df (of_kind (kinds.Df (Some name))) refl
      (identifier_again identifier mf current reserved)
      (df_is (fcp_objects (of_kind (kinds.Df (Some name)))) (Some name) (name_again name full) refl refl)
      (life_cycle_again state live) (rule_again rule is) refl
  fcp_again (kinds.Transparent short size) full said =
      fcp_is (fcp_objects (of_kind (kinds.Transparent short size))) descriptors.Transparent
      (of_kind (kinds.Transparent short size)) refl (identifier_again identifier mf current reserved)
      (transparent_is (fcp_objects (of_kind (kinds.Transparent short size))) short size (short_again short full.0 said)
      (size_again size full.1) refl)
      (life_cycle_again state live) (rule_again rule is) refl
  fcp_again (kinds.Linear short records) full said =
      fcp_is (fcp_objects (of_kind (kinds.Linear short records)))
      (descriptors.Records Linear records.record_length (Some records.existing))
      (of_kind (kinds.Linear short records))
      (record_descriptor_again Linear records) (identifier_again identifier mf current reserved)
      (record_file_is Linear (fcp_objects (of_kind (kinds.Linear short records))) short records.size
      records.record_length records.existing records (short_again short full.0 said)
      (size_again records.size full.1.size) (records_again records full.1) refl)
      (life_cycle_again state live) (rule_again rule is) refl
  fcp_again (kinds.Cyclic short records) full said =
      fcp_is (fcp_objects (of_kind (kinds.Cyclic short records)))
      (descriptors.Records Cyclic records.record_length (Some records.existing))
      (of_kind (kinds.Cyclic short records))
      (record_descriptor_again Cyclic records) (identifier_again identifier mf current reserved)
      (record_file_is Cyclic (fcp_objects (of_kind (kinds.Cyclic short records))) short records.size
      records.record_length records.existing records (short_again short full.0 said)
      (size_again records.size full.1.size) (records_again records full.1) refl)
      (life_cycle_again state live) (rule_again rule is) refl

  -- none of the faults 2 and 3
  sound_again : (kind : FileKind) → (is_missing (fcp_objects (of_kind kind)) ≡ false)
      × (is_twice (fcp_objects (of_kind kind)) ≡ false)
  sound_again (kinds.Df None) = (refl, refl)
  sound_again (kinds.Df (Some name)) = (refl, refl)
  sound_again (kinds.Transparent short size) = (refl, refl)
  sound_again (kinds.Linear short records) = (refl, refl)
  sound_again (kinds.Cyclic short records) = (refl, refl)

  -- the objects take at most 127 bytes
  short_text : (kind : FileKind) → IsKind kind → length (objects_text (fcp_objects (of_kind kind))) ≤ 0x7F
  short_text (kinds.Df None) full = let few = length-rule rule is in simp length-append (omega arith)
  short_text (kinds.Df (Some name)) full = let few = length-rule rule is in simp length-append (omega arith)
  short_text (kinds.Transparent short size) full = let few = length-rule rule is in let one = short_length short in
      simp length-append (omega arith)
  short_text (kinds.Linear short records) full = let few = length-rule rule is in let one = short_length short in
      simp length-append (omega arith)
  short_text (kinds.Cyclic short records) full = let few = length-rule rule is in let one = short_length short in
      simp length-append (omega arith)

pub read_again : (fcp : Fcp) → IsInFull fcp → fcp.life_cycle ≢ Terminated → fcp.identifier ≢ 0x3F00
    → FcpReads (fcp_text fcp) (Ok fcp)
read_again fcp full live mf =
    let sound = sound_again fcp.identifier fcp.life_cycle fcp.rule mf full.ranges.current_df full.ranges.reserved live
    full.ranges.rule fcp.kind in
    let means = fcp_again fcp.identifier fcp.life_cycle fcp.rule mf full.ranges.current_df full.ranges.reserved live
    full.ranges.rule fcp.kind full.ranges.kind full.short in
    let short = short_text fcp.identifier fcp.life_cycle fcp.rule mf full.ranges.current_df full.ranges.reserved live
    full.ranges.rule fcp.kind full.ranges.kind in
    let e : meaning (fcp_objects fcp) ≡ Ok fcp = rw (sound.0, sound.1, means) refl in
    inl (fcp_objects fcp, record { spelled = refl; short = short }, sym e)
