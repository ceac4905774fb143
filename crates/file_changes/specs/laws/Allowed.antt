-- Where nothing refuses a new file, its entry may stand in the table.
use Rattle.std.specs.Prelude.{◌≡◌, ◌≢◌, ◌<◌, ◌≤◌, ◌&&◌, ℕ, Bool, true, false, if◌then◌else◌}
use Rattle.std.specs.Prelude.{List, [], ◌∷◌, ◌++◌, length, take, nat_le, Option, None, Some, is_some}
use Rattle.std.specs.Prelude.{is_none, unwrap_or}
use Rattle.std.proofs.Common.{refl, sym, ◌∙◌, ap, arith, inl, inr, true≢false}
use Rattle.std.proofs.lemmas.Bool.Decides.{eqb_tells, leb_tells}
use Rattle.std.proofs.lemmas.Option.{none-some}
use Rattle.card_model.specs.declared.status.Sw.{Sw}
use Rattle.card_model.specs.declared.status.TheConstants.Sw.{FILE_EXISTS, NAME_EXISTS, WRONG_DATA}
use Rattle.card_model.specs.declared.fcp.Fcp.{Fcp}
use Rattle.card_model.specs.declared.fcp.FileKind.{FileKind}
use Rattle.card_model.specs.declared.fcp.FileKind.TheVariants as kinds
use Rattle.card_model.specs.declared.fcp.ShortIdentifier.{ShortIdentifier}
use Rattle.card_model.specs.declared.fcp.ShortIdentifier.TheVariants.{Absent, Empty, Given}
use Rattle.card_model.specs.FileControl.{IsShort, IsKind, IsCreatable, name_bytes, short_of_kind}
use Rattle.block_chain.specs.declared.chain.Chain.{Chain}
use Rattle.card_model.specs.FileTrees.{Path, Tree, exists}
use Rattle.file_tree.specs.Entries.{free_entry, name_of}
use Rattle.card_model.specs.Selectors.{child_by_short}
use Rattle.file_tree.specs.Table.{table, entry_in, ancestor, path_of, IsUsed, IsTable}
use Rattle.file_tree.specs.Trees.{tree_of}
use Rattle.card_model.specs.NewFiles.{short_for, short_of_new, low_bits, has_name, has_short_given}
use Rattle.file_changes.specs.CreationRefusals.{taken_refusal}
use Rattle.file_tree.specs.Naming.{BearsName}
use Rattle.file_changes.specs.CreationParts.{entry_for, short_option}
use Rattle.file_changes.specs.Creations.{kind_number}
use Rattle.file_tree.specs.laws.Tables.{length-table}
use Rattle.file_tree.specs.laws.Nodes.{used_small}
use Rattle.file_tree.specs.laws.Shorts.{short_named}
use Rattle.file_changes.specs.laws.Adding.{MayStand}
use Rattle.file_changes.specs.laws.NewEntries.{some_kind, take_padded, new_entry}
use Rattle.file_tree.specs.laws.Refusing.{child_told, name_told}

-- nothing is taken: each test failed
pub record NoneTaken (tree : Tree) (df : Path) (fcp : Fcp) : Type 0 where
  pub identifier : exists tree (df ++ fcp.identifier ∷ []) ≡ false
  pub name : has_name tree (name_bytes fcp.kind) ≡ false
  pub short : has_short_given tree df (short_of_kind fcp.kind) ≡ false

tests_fail : (a b c : Bool) (x y z : Sw) → (if a then Some x else if b then Some y else if c then Some z else None)
    ≡ None → (a ≡ false) × (b ≡ false) × (c ≡ false)
tests_fail true b c x y z is = absurd (none-some x (sym is))
tests_fail false true c x y z is = absurd (none-some y (sym is))
tests_fail false false true x y z is = absurd (none-some z (sym is))
tests_fail false false false x y z is = (refl, refl, refl)

pub none_taken : (tree : Tree) (df : Path) (fcp : Fcp) → taken_refusal tree df fcp ≡ None → NoneTaken tree df fcp
none_taken tree df fcp is =
    let all = tests_fail (exists tree (df ++ fcp.identifier ∷ [])) (has_name tree (name_bytes fcp.kind))
    (has_short_given tree df (short_of_kind fcp.kind)) _ _ _ is in
    record { identifier = all.0; name = all.1; short = all.2 }

-- a number that is a short identifier, or 0
some_number : (n k : ℕ) → short_option n ≡ Some k → n ≡ k
some_number n k is = elim (eqb_tells n 0) [
  | inl same ↦ absurd (none-some k (sym (ap (λ (b : Bool). if b then None else Some n) same.0) ∙ is))
  | inr other ↦ ap (λ (o : Option ℕ). unwrap_or o n) (sym (ap (λ (b : Bool). if b then None else Some n) other.0) ∙ is)
]

none_number : (n : ℕ) → short_option n ≡ None → n ≡ 0
none_number n is = elim (eqb_tells n 0) [
  | inl same ↦ same.1
  | inr other ↦ absurd (none-some n (sym is ∙ ap (λ (b : Bool). if b then None else Some n) other.0))
]

-- The short identifier of a new file is 1 to 30, and no child has it.
pub record IsFresh (tree : Tree) (df : Path) (n : ℕ) : Type 0 where
  pub most : n ≤ 30
  pub free : n ≢ 0 → child_by_short tree df n ≡ None

fresh_none : (tree : Tree) (df : Path) (n : ℕ) → n ≡ 0 → IsFresh tree df n
fresh_none tree df n is = record { most = omega (arith, is); free = λ some. absurd (some is) }

fresh_low : (tree : Tree) (df : Path) (low n : ℕ) (o : Option ℕ) → (a b c : Bool) → nat_le 1 low ≡ a → nat_le low 30 ≡ b
    → is_none (child_by_short tree df low) ≡ c
    → short_option n ≡ (if a && b && c then Some low else None) → IsFresh tree df n
fresh_low tree df low n o true true true one most free is =
    let same = some_number n low is in
    record {
      most = elim (leb_tells low 30) [
        | inl le ↦ (let l = le.1 in omega (arith, l, same))
        | inr gt ↦ absurd (true≢false (sym most ∙ gt.0))
      ];
      free = λ some. ap (child_by_short tree df) same ∙ nothing (child_by_short tree df low) free;
    }
  where
    nothing : (p : Option Path) → is_none p ≡ true → p ≡ None
    nothing None none = refl
    nothing (Some q) none = absurd (true≢false (sym none))
fresh_low tree df low n o true true false one most free is = fresh_none tree df n (none_number n is)
fresh_low tree df low n o true false c one most free is = fresh_none tree df n (none_number n is)
fresh_low tree df low n o false b c one most free is = fresh_none tree df n (none_number n is)

fresh_for : (tree : Tree) (df : Path) (identifier n : ℕ) (short : ShortIdentifier) → IsShort short
    → has_short_given tree df short ≡ false → short_option n ≡ short_for tree df identifier short → IsFresh tree df n
fresh_for tree df identifier n Absent range free is =
    fresh_low tree df (low_bits identifier) n None (nat_le 1 (low_bits identifier)) (nat_le (low_bits identifier) 30)
    (is_none (child_by_short tree df (low_bits identifier))) refl refl refl is
fresh_for tree df identifier n Empty range free is = fresh_none tree df n (none_number n is)
fresh_for tree df identifier n (Given k) range free is =
    let same = some_number n k is in
    record {
      most = (let le = range.1 in omega (arith, le, same));
      free = λ some. ap (child_by_short tree df) same ∙ nothing (child_by_short tree df k) free;
    }
  where
    nothing : (p : Option Path) → is_some p ≡ false → p ≡ None
    nothing None none = refl
    nothing (Some q) none = absurd (true≢false none)

pub fresh_short : (tree : Tree) (df : Path) (fcp : Fcp) (n : ℕ)
    → IsKind fcp.kind → has_short_given tree df (short_of_kind fcp.kind) ≡ false
    → short_option n ≡ short_of_new tree df fcp → IsFresh tree df n × (kind_number fcp.kind ≡ 1 → n ≡ 0)
fresh_short tree df fcp n range free is = by_kind fcp.kind range free is
  where
    by_kind : (kind : FileKind) → IsKind kind → has_short_given tree df (short_of_kind kind) ≡ false
        → short_option n ≡ short_of_new tree df (record {
          identifier = fcp.identifier;
          life_cycle = fcp.life_cycle;
          rule = fcp.rule;
          kind = kind;
        }) → IsFresh tree df n × (kind_number kind ≡ 1 → n ≡ 0)
    by_kind (kinds.Df name) range free is = (fresh_none tree df n (none_number n is), λ same. none_number n is)
    by_kind (kinds.Transparent short size) range free is =
        (fresh_for tree df fcp.identifier n short range.0 free is, λ same. absurd (omega (arith, same)))
    by_kind (kinds.Linear short records) range free is =
        (fresh_for tree df fcp.identifier n short range.0 free is, λ same. absurd (omega (arith, same)))
    by_kind (kinds.Cyclic short records) range free is =
        (fresh_for tree df fcp.identifier n short range.0 free is, λ same. absurd (omega (arith, same)))

-- The entry of a new file may stand in the dedicated file.
pub may_stand : (m : List ℕ) (df n : ℕ) (fcp : Fcp) (chain : Chain) → IsTable (table m) → (entry_in (table m) df).kind
    ≡ 1 → ancestor (table m) 6 df ≡ 0 → IsCreatable fcp → NoneTaken (tree_of m) (path_of (table m) df) fcp
    → short_option n ≡ short_of_new (tree_of m) (path_of (table m) df) fcp
    → MayStand (table m) df (entry_for fcp df n chain)
may_stand m df n fcp chain rules dedicated level is none short =
    let t = table m in
    let path = path_of t df in
    let used_df : IsUsed t df = λ free. let z : ⊥ = omega (arith, dedicated, free) in z in
    let fresh = fresh_short (tree_of m) path fcp n is.ranges.kind none.short short in
    let file = new_entry fcp.identifier fcp.life_cycle fcp.rule df n chain fcp.kind is fresh.0.most fresh.1 in
    record {
      parent = refl;
      dedicated = dedicated;
      level = level;
      used = some_kind fcp.kind;
      file = file;
      identifier = is.below_mf;
      identifiers = λ f child same. true≢false (
          sym (child_told m rules df fcp.identifier (Some f) used_df (child, same)) ∙ none.identifier);
      shorts = λ some f child same.
          let there = short_named m rules df n used_df some (Some f) (child, same) in
          none-some (path_of t f) (sym (there ∙ fresh.0.free some));
      names = λ some f used same.
          let own : name_of (entry_for fcp df n chain) ≡ name_bytes fcp.kind = take_padded 16 (name_bytes fcp.kind) in
          let within : f < length t =
          (let l = length-table m in let small = used_small m f used in omega (arith, l, small)) in
          let entry = (rules.each f free_entry within).used used in
          let long : 0 < length (name_of (entry_in t f)) =
          (let l = ap (λ (bs : List ℕ). length bs) same in omega (arith, l, some)) in
          let named : BearsName (entry_in t f) (name_bytes fcp.kind) = record {
            kind = elim (eqb_tells (entry_in t f).kind 1) [
              | inl df_kind ↦ df_kind.1
              | inr other ↦ absurd (
                  let zero_length = entry.name.of_df other.1 in
                  let empty = ap (λ (k : ℕ). length (take k (entry_in t f).name)) zero_length in
                  omega (arith, empty, long))
            ];
            some = λ zero_length.
                let empty = ap (λ (k : ℕ). length (take k (entry_in t f).name)) zero_length in
                let z : ⊥ = omega (arith, empty, long) in z;
            name = same ∙ own;
          } in
          true≢false (sym (name_told m rules (name_bytes fcp.kind) (Some f) named) ∙ none.name);
    }

-- what each test of the three makes of the refusal
pub taken_is : (tree : Tree) (df : Path) (fcp : Fcp) (a b c : Bool) → exists tree (df ++ fcp.identifier ∷ []) ≡ a
    → has_name tree (name_bytes fcp.kind) ≡ b → has_short_given tree df (short_of_kind fcp.kind) ≡ c
    → taken_refusal tree df fcp
    ≡ (if a then Some FILE_EXISTS else if b then Some NAME_EXISTS else if c then Some WRONG_DATA else None)
taken_is tree df fcp a b c first second third = λ i.
    if first i then Some FILE_EXISTS else if second i then Some NAME_EXISTS else if third i
    then Some WRONG_DATA else None

-- the short identifier of a creatable file is in range
pub creatable_short : (kind : FileKind) → IsKind kind → IsShort (short_of_kind kind)
creatable_short (kinds.Df name) is = tt
creatable_short (kinds.Transparent short size) is = is.0
creatable_short (kinds.Linear short records) is = is.0
creatable_short (kinds.Cyclic short records) is = is.0
