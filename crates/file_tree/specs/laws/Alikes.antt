-- Entries that cannot stand in one table, whatever their identifiers: children of one dedicated file with one short
-- identifier, and files with one name. The rules on short identifiers and names say that no two used entries are so.
use Rattle.std.specs.Prelude.{◌≡◌, ◌<◌, ◌≤◌, ℕ, List, length, All}
use Rattle.std.proofs.Common.{refl, sym, ◌∙◌, ap, subst, arith, inl, inr, ⊎_elim, length-take}
use Rattle.std.proofs.lemmas.Bool.{cases_lt}
use Rattle.file_tree.specs.declared.entry.Entry.{Entry}
use Rattle.file_tree.specs.Entries.{name_of}
use Rattle.file_tree.specs.Table.{entry_in, IsUsed, IsChild, IsEntry, IsMasterFile, IsTable}
use Rattle.file_tree.specs.Table.{HaveIdentifiers, HaveShortIdentifiers, HaveNames}
use Rattle.file_tree.specs.TreeParts.{ShareShort, BearOneName, HasOwnShort, HasOwnName, IsAlone, AreUnlike}
use Rattle.file_tree.specs.TreeParts.{AreBelow}
use Rattle.file_tree.specs.laws.Tables.{entry_past}

-- of two numbers neither is below the other
same_number : (e f : ℕ) → (e < f → ⊥) → (f < e → ⊥) → e ≡ f
same_number e f before behind = ⊎_elim
    (λ (lt : e < f). absurd (before lt))
    (λ (ge : f ≤ e). ⊎_elim
    (λ (lt : f < e). absurd (behind lt))
    (λ (le : e ≤ f). let z : e ≡ f = omega (arith, ge, le) in z)
    (cases_lt f e))
    (cases_lt e f)

-- a used entry stands in the table
pub used_within : (t : List Entry) (e : ℕ) → IsUsed t e → e < length t
used_within t e used = ⊎_elim
    (λ (lt : e < length t). lt)
    (λ (past : length t ≤ e). absurd (used (ap (λ (x : Entry). x.kind) (entry_past t e past))))
    (cases_lt e (length t))

-- entries that share a short identifier or a name do so by whatever names
pub shared_there : (e : ℕ) (one other x y : Entry) → x ≡ one → y ≡ other → ShareShort e one other → ShareShort e x y
shared_there e one other x y is also shared =
    let with_one : Entry → Type 0 = λ a. ShareShort e a y in
    let with_other : Entry → Type 0 = λ b. ShareShort e one b in
    subst with_one (sym is) (subst with_other (sym also) shared)

pub named_there : (one other x y : Entry) → x ≡ one → y ≡ other → BearOneName one other → BearOneName x y
named_there one other x y is also named =
    let with_one : Entry → Type 0 = λ a. BearOneName a y in
    let with_other : Entry → Type 0 = λ b. BearOneName one b in
    subst with_one (sym is) (subst with_other (sym also) named)

-- an entry is alone where it has its own short identifier and its own name
pub alone_of : (t : List Entry) (e : ℕ) → HasOwnShort t e → HasOwnName t e → IsAlone t e
alone_of t e short name f lt used (inl shared) = short f lt used shared
alone_of t e short name f lt used (inr named) = name f lt used named

module _ (t : List Entry) (apart : AreUnlike t) where
  pub apart_shorts : HaveShortIdentifiers t
  apart_shorts df e f one other some same = same_number e f
      (λ lt. apart e one.used f lt other.used (inl (one.below, one.parent ∙ sym other.parent, some, same)))
      (λ lt. apart f other.used e lt one.used
      (inl (other.below, other.parent ∙ sym one.parent, (λ none. some (same ∙ none)), sym same)))

  pub apart_names : HaveNames t
  apart_names e f used other some same =
      let size : length (name_of (entry_in t e)) ≡ length (name_of (entry_in t f)) =
      ap (λ (l : List ℕ). length l) same in
      same_number e f
      (λ lt. apart e used f lt other (inr (some, same)))
      (λ lt. apart f other e lt used (inr (omega (arith, some, size), sym same)))

-- an entry without a name has none in common with another
pub unnamed : (one other : Entry) → one.name_length ≡ 0 → BearOneName one other → ⊥
unnamed one other none named =
    let some = named.0 in
    let most = length-take one.name_length one.name in
    omega (arith, some, most, none)

-- the rules on short identifiers and names leave no two alike
pub rules_apart : (t : List Entry) → HaveShortIdentifiers t → HaveNames t → AreUnlike t
rules_apart t shorts names e used f lt other (inl siblings) =
    let one : IsChild t (entry_in t e).parent e = record { below = siblings.0; used = used; parent = refl } in
    let two : IsChild t (entry_in t e).parent f =
    record { below = omega (arith, siblings.0, lt); used = other; parent = sym siblings.1 } in
    let z = shorts _ e f one two siblings.2 siblings.3 in omega (arith, z, lt)
rules_apart t shorts names e used f lt other (inr named) =
    let z = names e f used other named.0 named.1 in omega (arith, z, lt)

-- the rules on the table, as the check goes over them
pub table_of : (t : List Entry) → IsMasterFile (entry_in t 0) → All IsEntry t → AreBelow t → HaveIdentifiers t
    → AreUnlike t → IsTable t
table_of t master each below identifiers apart = record {
  each = each;
  master = master;
  below = below;
  identifiers = identifiers;
  short_identifiers = apart_shorts t apart;
  names = apart_names t apart;
}

pub table_apart : (t : List Entry) → IsTable t → AreUnlike t
table_apart t rules = rules_apart t rules.short_identifiers rules.names
