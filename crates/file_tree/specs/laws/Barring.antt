-- Which files stand below a barred one: by steps to parents, and by their paths.
use Rattle.std.specs.Prelude.{◌≡◌, ◌≢◌, ◌<◌, ◌≤◌, ◌+◌, ◌||◌, ℕ, zero, suc, Bool, true, false, if◌then◌else◌}
use Rattle.std.specs.Prelude.{List, [], ◌∷◌, ◌++◌, length, map, take}
use Rattle.std.specs.List.{list_any, range_with_len}
use Rattle.std.proofs.Common.{refl, sym, ◌∙◌, ap, ap₂, arith, inl, inr}
use Rattle.std.proofs.lemmas.Bool.Decides.{eqb_tells}
use Rattle.std.proofs.lemmas.List.{length-append, take-append-le}
use Rattle.std.proofs.lemmas.List.Folds.{list_any-append}
use Rattle.std.proofs.lemmas.List.FromFn.{map-range_with_len_more}
use Rattle.std.proofs.Math.Seq.{take-append_seam}
use Rattle.card_model.specs.Rule.{allows}
use Rattle.card_model.specs.declared.access_mode.AccessBit.{AccessBit}
use Rattle.file_tree.specs.declared.entry.Entry.{Entry}
use Rattle.card_model.specs.FileTrees.{Path, File, Tree, file_at}
use Rattle.file_tree.specs.Entries.{file_of, is_allowed_by, life_told, rule_of}
use Rattle.card_model.specs.FileLives.{bars, above, life_at, has_barred_above, is_allowed}
use Rattle.file_tree.specs.Table.{table, entry_in, ancestor, path_of, IsUsed, IsTable}
use Rattle.file_tree.specs.Trees.{content, tree_of}
use Rattle.file_tree.specs.States.{barred_up}
use Rattle.file_tree.specs.laws.Paths.{path-zero, path_of-child, parent_used, reaches_master}
use Rattle.file_tree.specs.laws.Nodes.{file_at_entry}

pub barred_up-master : (t : List Entry) (n e : ℕ) → e ≡ 0 → barred_up t n e ≡ false
unfolding barred_up
barred_up-master t zero e is = refl
barred_up-master t (suc n) e is = elim (eqb_tells e 0) [
  | inl same ↦ ap (λ (b : Bool). if b then false
      else (bars (life_told (entry_in t (entry_in t e).parent)) || barred_up t n (entry_in t e).parent)) same.0
  | inr other ↦ absurd (other.1 is)
]

pub barred_up-none : (t : List Entry) (n e : ℕ) → n ≡ 0 → barred_up t n e ≡ false
unfolding barred_up
barred_up-none t zero e is = refl
barred_up-none t (suc n) e is = absurd (omega (arith, is))

pub barred_up-step : (t : List Entry) (n e : ℕ) → e ≢ 0 → barred_up t (suc n) e
    ≡ (bars (life_told (entry_in t (entry_in t e).parent)) || barred_up t n (entry_in t e).parent)
unfolding barred_up
barred_up-step t n e some = elim (eqb_tells e 0) [
  | inl same ↦ absurd (some same.1)
  | inr other ↦ ap (λ (b : Bool). if b then false
      else (bars (life_told (entry_in t (entry_in t e).parent)) || barred_up t n (entry_in t e).parent)) other.0
]

-- the file of an entry has the state that the entry tells
life_of-entry : (x : Entry) (bytes : List ℕ) → (file_of x bytes).life ≡ life_told x
unfolding file_of
life_of-entry x bytes = refl

pub life_told_there : (m : List ℕ) → IsTable (table m) → (e : ℕ) → IsUsed (table m) e
    → life_at (tree_of m) (path_of (table m) e) ≡ life_told (entry_in (table m) e)
life_told_there m rules e used =
    ap (λ (f : File). f.life) (file_at_entry m rules e (path_of (table m) e) used refl)
    ∙ life_of-entry (entry_in (table m) e) (content m (entry_in (table m) e))

-- and the rule that it has
pub rule_of-entry : (x : Entry) (bytes : List ℕ) → (file_of x bytes).rule ≡ rule_of x
unfolding file_of
rule_of-entry x bytes = refl

pub rule_told_there : (m : List ℕ) → IsTable (table m) → (e : ℕ) → IsUsed (table m) e
    → (file_at (tree_of m) (path_of (table m) e)).rule ≡ rule_of (entry_in (table m) e)
rule_told_there m rules e used =
    ap (λ (f : File). f.rule) (file_at_entry m rules e (path_of (table m) e) used refl)
    ∙ rule_of-entry (entry_in (table m) e) (content m (entry_in (table m) e))

-- the beginnings of a path are those of it with more behind
beginnings : (p q : Path) (a n : ℕ) → a + n ≤ length p + 1
    → map (λ k. take k (p ++ q)) (range_with_len a n) ≡ map (λ k. take k p) (range_with_len a n)
beginnings p q a zero fits = refl
beginnings p q a (suc n) fits = ap₂ (λ (x : Path) (xs : List Path). x ∷ xs) (take-append-le a p q (omega (arith, fits)))
    (beginnings p q (a + 1) n (omega (arith, fits)))

above_push : (p : Path) (id : ℕ) → above (p ++ id ∷ []) ≡ above p ++ p ∷ []
above_push p id =
    let l = length-append p (id ∷ []) in
    let long : length (p ++ id ∷ []) ≡ length p + 1 = omega (arith, l) in
    let at : 0 + length p ≡ length p = omega arith in
    ap (λ (n : ℕ). map (λ k. take k (p ++ id ∷ [])) (range_with_len 0 n)) long
    ∙ map-range_with_len_more (λ k. take k (p ++ id ∷ [])) 0 (length p) (length p) at
    ∙ ap₂ (λ (xs : List Path) (x : Path). xs ++ x ∷ []) (beginnings p (id ∷ []) 0 (length p) (omega arith))
    (take-append_seam p (id ∷ []))

or_swap : (a b : Bool) → (a || (b || false)) ≡ (b || a)
or_swap true true = refl
or_swap true false = refl
or_swap false true = refl
or_swap false false = refl

-- a file is barred exactly where its parent is barred, or bars
pub barred_push : (tree : Tree) (p : Path) (id : ℕ)
    → has_barred_above tree (p ++ id ∷ []) ≡ (bars (life_at tree p) || has_barred_above tree p)
barred_push tree p id =
    ap (λ (ps : List Path). list_any (λ q. bars (life_at tree q)) ps) (above_push p id)
    ∙ list_any-append (λ q. bars (life_at tree q)) (above p) (p ∷ [])
    ∙ or_swap (has_barred_above tree p) (bars (life_at tree p))

module _ (m : List ℕ) (rules : IsTable (table m)) where
  barred_steps : (n e : ℕ) → ancestor (table m) n e ≡ 0 → IsUsed (table m) e
      → barred_up (table m) n e ≡ has_barred_above (tree_of m) (path_of (table m) e)
  unfolding ancestor
  barred_steps zero e up used =
      barred_up-none (table m) 0 e refl ∙ sym (ap (has_barred_above (tree_of m)) (path-zero (table m) 7 e up))
  barred_steps (suc n) e up used = elim (eqb_tells e 0) [
    | inl same ↦ barred_up-master (table m) (suc n) e same.1
        ∙ sym (ap (has_barred_above (tree_of m)) (path-zero (table m) 7 e same.1))
    | inr other ↦
        let some : 0 < e = (let d = other.1 in omega (arith, d)) in
        let parent = (entry_in (table m) e).parent in
        let used_parent = parent_used (table m) rules e some used in
        barred_up-step (table m) n e other.1
        ∙ ap₂ (λ (a b : Bool). a || b) (ap bars (sym (life_told_there m rules parent used_parent)))
        (barred_steps n parent up used_parent)
        ∙ sym (ap (has_barred_above (tree_of m)) (path_of-child (table m) rules e some used)
        ∙ barred_push (tree_of m) (path_of (table m) parent) (entry_in (table m) e).identifier)
  ]

  -- Steps to parents lead by a file that bars exactly where one stands above.
  pub barred_told : (e : ℕ) → IsUsed (table m) e
      → barred_up (table m) 7 e ≡ has_barred_above (tree_of m) (path_of (table m) e)
  barred_told e used = barred_steps 7 e (reaches_master (table m) rules e used) used

-- what the rule of a used entry allows is what the rule of its file allows
pub allowed_by_there : (m : List ℕ) → IsTable (table m) → (e : ℕ) → IsUsed (table m) e → (x : Entry)
    → x ≡ entry_in (table m) e → (bit : AccessBit) (verified disabled : List Bool)
    → is_allowed_by x bit verified disabled ≡ is_allowed (tree_of m) (path_of (table m) e) bit verified disabled
allowed_by_there m rules e used x is bit verified disabled =
    let rule = ap rule_of is ∙ sym (rule_told_there m rules e used) in
    let life = ap life_told is ∙ sym (life_told_there m rules e used) in
    (λ i. allows (rule i) bit (life i) verified disabled)
