-- The files and the PINs of a card that is found, and the current files of a session.
use Rattle.std.specs.Prelude.{◌≡◌, ◌≢◌, ◌<◌, ◌≤◌, ◌==◌, ◌&&◌, ◌++◌, ◌∷◌, [], ℕ, Bool, true, false, not}
use Rattle.std.specs.Prelude.{if◌then◌else◌, List, length, map, All, Option, Some}
use Rattle.std.specs.Prelude.{None, IfSome, IsTrue, unwrap_or, option_map}
use Rattle.std.specs.List.{range_with_len}
use Rattle.std.specs.FinMap.{get}
use Rattle.std.proofs.Common.{arith, ap, ap₂, inl, inr, subst, sym, ◌∙◌, refl, true≢false}
use Rattle.std.proofs.lemmas.Bool.Decides.{eqb_tells}
use Rattle.std.proofs.lemmas.List.Elements.{All-map}
use Rattle.std.proofs.lemmas.List.FromFn.{length-map-range_with_len}
use Rattle.card_model.specs.Rule.{is_rule}
use Rattle.card_model.specs.declared.pins.TheConstants.{PINS}
use Rattle.card_model.specs.FileTrees.{Body, File, Kind, Path, dedicated, elementary, parent, short_of}
use Rattle.card_model.specs.FileTrees.{exists, file_at, is_dedicated}
use Rattle.card_model.specs.Secrets.{enabled_pin}
use Rattle.card_model.specs.Cards.{IsProperKind, IsProperShort}
use Rattle.file_tree.specs.declared.entry.Entry.{Entry}
use Rattle.file_tree.specs.Entries.{body_of, free_entry, file_of, name_of}
use Rattle.file_tree.specs.Formats.{is_format_2}
use Rattle.file_tree.specs.Table.{table, entry_in, path_of, IsTable}
use Rattle.file_tree.specs.Trees.{content, tree_of, TreeStands}
use Rattle.file_tree.specs.laws.Nodes.{dedicated_entry, entry_found, exists-used, file_at_entry, used_small}
use Rattle.file_tree.specs.laws.Paths.{one_path, parent_path, parent_used, path_of_child}
use Rattle.file_tree.specs.laws.Standing.{dedicated_there, stands_tree}
use Rattle.file_tree.specs.laws.Tables.{length-table}
use Rattle.file_tree.specs.laws.Refusing.{path_most}
use Rattle.file_tree.specs.laws.Barring.{rule_of-entry}
use Rattle.pin_store.specs.Pages.{pin_at, pins_of, unmarked_pins_of}
use Rattle.command_base.specs.declared.current.Current.{Current}
use Rattle.command_base.specs.Finding.{HasCard, found, words_found}
use Rattle.command_base.specs.Standing.{card_of, card_pins, IsAnyCard, IsCard}
use Rattle.command_base.specs.Working.{IsCurrent, IsElementary, session_of}
use Rattle.command_base.specs.laws.CardLaws.{any_tree}
use Rattle.command_base.specs.laws.FoundLaws.{proper-card}
use Rattle.card_model.specs.WellFormed.{HasCurrentFiles, HasEightBytes, IsWellFormed}

-- the name of a DF, and the short identifier of an EF
own-name : Kind → List ℕ
own-name (dedicated None) = []
own-name (dedicated (Some name)) = name
own-name (elementary short body) = []

own-short : Kind → ℕ
own-short kind = unwrap_or (short_of kind) 0

named : (one none : Bool) (own name : List ℕ) (short : Option ℕ) (body : Body)
    → own-name (if one then dedicated (if none then None else Some own) else elementary short body) ≡ name
    → 1 ≤ length name → own ≡ name
unfolding own-name
named true true own name short body is some =
    let empty = ap (λ (l : List ℕ). length l) is in absurd (omega (arith, empty, some))
named true false own name short body is some = is
named false none own name short body is some =
    let empty = ap (λ (l : List ℕ). length l) is in absurd (omega (arith, empty, some))

shortened : (one none : Bool) (name : Option (List ℕ)) (own short : ℕ) (body : Body)
    → own-short (if one then dedicated name else elementary (if none then None else Some own) body) ≡ short
    → 1 ≤ short → (one ≡ false) × (own ≡ short)
unfolding own-short
shortened true none name own short body is some = absurd (omega (arith, is, some))
shortened false true name own short body is some = absurd (omega (arith, is, some))
shortened false false name own short body is some = (refl, is)

entry-name : (x : Entry) (bytes name : List ℕ) → (file_of x bytes).kind ≡ dedicated (Some name) → 1 ≤ length name
    → name_of x ≡ name
unfolding file_of own-name
entry-name x bytes name is some =
    named (x.kind == 1) (x.name_length == 0) (name_of x) name (if x.short == 0 then None else Some x.short)
    (body_of x bytes) (ap own-name is) some

entry-short : (x : Entry) (bytes : List ℕ) (short : ℕ) → short_of (file_of x bytes).kind ≡ Some short → 1 ≤ short
    → ((x.kind == 1) ≡ false) × (x.short ≡ short)
unfolding file_of own-short
entry-short x bytes short is some =
    shortened (x.kind == 1) (x.short == 0) (if x.name_length == 0 then None else Some (name_of x)) x.short short
    (body_of x bytes) (ap (λ (o : Option ℕ). unwrap_or o 0) is) some

-- what a proper kind says of a name and of a short identifier
proper-name : (kind : Kind) (name : List ℕ) → IsProperKind kind → kind ≡ dedicated (Some name) → 1 ≤ length name
proper-name kind name proper is = (subst (λ (k : Kind). IsProperKind k) is proper).some

proper-short : (kind : Kind) (short : ℕ) → IsProperKind kind → short_of kind ≡ Some short → 1 ≤ short
proper-short (dedicated name) short proper is = let none : None ≡ Some short = is in absurd cc
proper-short (elementary own body) short proper is =
    (subst (λ (o : Option ℕ). IsProperShort o) is proper.0).0

-- the files of a memory that stands for a tree
module _ (m : List ℕ) (any : IsAnyCard m) where
  stands : TreeStands m
  stands = any_tree m any

  rules : IsTable (table m)
  rules = stands.entries

  kind-at : (path : Path) (file : File) → get (tree_of m) path ≡ Some file → IsProperKind file.kind
  unfolding card_of
  kind-at path file is = ((proper-card m any).files path file is).kind

  levels : (path : Path) (file : File) → get (tree_of m) path ≡ Some file → length path ≤ 7
  levels path file is =
      let at = entry_found m path file is in
      subst (λ (p : Path). length p ≤ 7) at.2 (path_most (table m) 7 at.0)

  valid-rules : (path : Path) (file : File) → get (tree_of m) path ≡ Some file → IsTrue (is_rule file.rule)
  valid-rules path file is =
      let at = entry_found m path file is in
      let e = at.0 in
      let below = used_small m e at.1 in
      let entry = entry_in (table m) e in
      let has = (rules.each e free_entry (let l = length-table m in omega (arith, l, below))).used at.1 in
      subst (λ (r : List ℕ). IsTrue (is_rule r)) (sym (ap (λ (f : File). f.rule) at.3
      ∙ rule_of-entry entry (content m entry))) has.rule.rule

  one-name : (one other : Path) (first second : File) (name : List ℕ) → get (tree_of m) one ≡ Some first
      → get (tree_of m) other ≡ Some second → first.kind ≡ dedicated (Some name)
      → second.kind ≡ dedicated (Some name) → one ≡ other
  one-name one other first second name is_first is_second kind_first kind_second =
      let at = entry_found m one first is_first in
      let to = entry_found m other second is_second in
      let some = proper-name first.kind name (kind-at one first is_first) kind_first in
      let own = entry-name (entry_in (table m) at.0) (content m (entry_in (table m) at.0)) name
      (sym (ap (λ (f : File). f.kind) at.3) ∙ kind_first) some in
      let its = entry-name (entry_in (table m) to.0) (content m (entry_in (table m) to.0)) name
      (sym (ap (λ (f : File). f.kind) to.3) ∙ kind_second) some in
      let long : 0 < length (name_of (entry_in (table m) at.0)) =
      subst (λ (l : List ℕ). 0 < length l) (sym own) (omega (arith, some)) in
      let same = rules.names at.0 to.0 at.1 to.1 long (own ∙ sym its) in
      sym at.2 ∙ ap (path_of (table m)) same ∙ to.2

  below-master : (e : ℕ) → ((entry_in (table m) e).kind == 1) ≡ false → 0 < e
  below-master e is = elim (eqb_tells e 0) [
    | inl same ↦ absurd (true≢false (sym (ap (λ (k : ℕ). k == 1)
        (ap (λ (k : ℕ). (entry_in (table m) k).kind) same.1 ∙ rules.master.kind)) ∙ is))
    | inr other ↦ (let d = other.1 in omega (arith, d))
  ]

  one-short : (one other : Path) (first second : File) (short : ℕ) → get (tree_of m) one ≡ Some first
      → get (tree_of m) other ≡ Some second → parent one ≡ parent other → short_of first.kind ≡ Some short
      → short_of second.kind ≡ Some short → one ≡ other
  one-short one other first second short is_first is_second beside kind_first kind_second =
      let at = entry_found m one first is_first in
      let to = entry_found m other second is_second in
      let some = proper-short first.kind short (kind-at one first is_first) kind_first in
      let own = entry-short (entry_in (table m) at.0) (content m (entry_in (table m) at.0)) short
      (sym (ap (λ (f : File). short_of f.kind) at.3) ∙ kind_first) some in
      let its = entry-short (entry_in (table m) to.0) (content m (entry_in (table m) to.0)) short
      (sym (ap (λ (f : File). short_of f.kind) to.3) ∙ kind_second) some in
      let above = below-master at.0 own.0 in
      let its_above = below-master to.0 its.0 in
      let p = (entry_in (table m) at.0).parent in
      let q = (entry_in (table m) to.0).parent in
      let same_parent : p ≡ q = one_path (table m) rules p q (parent_used (table m) rules at.0 above at.1)
      (parent_used (table m) rules to.0 its_above to.1) (sym (parent_path (table m) rules at.0 at.1)
      ∙ ap parent at.2 ∙ beside ∙ sym (ap parent to.2) ∙ parent_path (table m) rules to.0 to.1) in
      let given : (entry_in (table m) at.0).short ≢ 0 = λ none.
      let own_short = own.1 in omega (arith, none, own_short, some) in
      let same = rules.short_identifiers q at.0 to.0 (record { below = above; used = at.1; parent = same_parent })
      (record { below = its_above; used = to.1; parent = refl }) given (own.1 ∙ sym its.1) in
      sym at.2 ∙ ap (path_of (table m)) same ∙ to.2

-- the PINs
eight-pins : (m : List ℕ) → length (card_pins m) ≡ PINS
unfolding card_pins pins_of unmarked_pins_of
eight-pins m = by (is_format_2 m)
  where
    by : (new : Bool) → length (if new then map (pin_at m) (range_with_len 0 PINS) else
        map (λ pin. enabled_pin (pin_at m pin)) (range_with_len 0 PINS)) ≡ PINS
    by true = length-map-range_with_len (pin_at m) 0 PINS
    by false = length-map-range_with_len (λ pin. enabled_pin (pin_at m pin)) 0 PINS

eight-bytes : (m : List ℕ) → All HasEightBytes (card_pins m)
unfolding card_pins pins_of unmarked_pins_of pin_at
eight-bytes m = by (is_format_2 m)
  where
    by : (new : Bool) → All HasEightBytes (if new then map (pin_at m) (range_with_len 0 PINS) else
        map (λ pin. enabled_pin (pin_at m pin)) (range_with_len 0 PINS))
    by true = All-map HasEightBytes (pin_at m) (range_with_len 0 PINS)
        (λ k d lt. record { value = refl; unblocking = refl })
    by false = All-map HasEightBytes (λ pin. enabled_pin (pin_at m pin)) (range_with_len 0 PINS)
        (λ k d lt. record { value = refl; unblocking = refl })

well-formed : (m : List ℕ) → IsAnyCard m → IsWellFormed (card_of m)
unfolding card_of
well-formed m any = record {
  tree = stands_tree m (any_tree m any);
  levels = levels m any;
  rules = valid-rules m any;
  names = one-name m any;
  shorts = one-short m any;
  pins = eight-pins m;
  values = eight-bytes m;
}

pub found_is_well_formed : (m : List ℕ) → HasCard m → IsWellFormed (found m)
found_is_well_formed m there = well-formed (words_found m) there.words

-- the current files of a session
elementary-there : (m : List ℕ) (df e : ℕ) → IsTable (table m) → IsElementary (table m) df e
    → IsTrue (exists (tree_of m) (path_of (table m) df ++ (entry_in (table m) e).identifier ∷ [])
    && not (is_dedicated (file_at (tree_of m) (path_of (table m) df ++ (entry_in (table m) e).identifier ∷ [])).kind))
elementary-there m df e valid is =
    let path = path_of_child (table m) valid df e is.child in
    let entry = entry_in (table m) e in
    let high = is.kind in
    let other : (entry.kind == 1) ≡ false = elim (eqb_tells entry.kind 1) [
      | inl one ↦ absurd (let same = one.1 in omega (arith, same, high))
      | inr apart ↦ apart.0
    ] in
    ap₂ (λ (b c : Bool). b && not c) (exists-used m valid e _ is.child.used path)
    (ap (λ (f : File). is_dedicated f.kind) (file_at_entry m valid e _ is.child.used path)
    ∙ dedicated_entry entry (content m entry) ∙ other)

pub current-files : (m : List ℕ) (x : Current) → IsCard m → IsCurrent (table m) x
    → HasCurrentFiles (card_of m).tree (session_of (table m) x)
unfolding card_of
current-files m x card current = record {
  df = dedicated_there m card.tree.entries x.df (path_of (table m) x.df)
      (λ none. let kind = current.df in omega (arith, none, kind)) refl current.df;
  ef = by_ef x.ef current.ef;
}
  where
    by_ef : (ef : Option ℕ) → IfSome ef (IsElementary (table m) x.df)
        → IfSome (option_map (λ e. (entry_in (table m) e).identifier) ef) (λ id. IsTrue (exists (tree_of m)
        (path_of (table m) x.df ++ id ∷ []) && not (is_dedicated (file_at (tree_of m)
        (path_of (table m) x.df ++ id ∷ [])).kind)))
    by_ef None is = tt
    by_ef (Some e) is = elementary-there m x.df e card.tree.entries is
