-- When the tree of a memory is a given one: it has each used entry's file at the entry's path, and nothing else.
use Rattle.std.specs.Prelude.{◌≡◌, ◌≢◌, ℕ, Bool, true, false, cond, List, Option, None, Some}
use Rattle.std.specs.Cmp.Lexicographic.{nat_list_cmp_total}
use Rattle.std.specs.FinMap.{get, insert, get-insert, same_map, slice_cmp-IsAntisymmetric, nat_cmp-IsAntisymmetric}
use Rattle.std.proofs.Common.{refl, sym, ◌∙◌, ap, subst, inl, inr}
use Rattle.std.proofs.lemmas.Bool.Decides.{eqb_tells}
use Rattle.std.proofs.lemmas.Option.{none-some}
use Rattle.file_tree.specs.declared.entry.Entry.{Entry}
use Rattle.card_model.specs.FileTrees.{Path, File, Tree}
use Rattle.file_tree.specs.Table.{table, path_of, IsUsed, IsTable}
use Rattle.file_tree.specs.Trees.{tree_of, file_in}
use Rattle.file_tree.specs.laws.Paths.{one_path}
use Rattle.card_model.specs.laws.Orders.{same_path, one_of_same, same_of_one}
use Rattle.file_tree.specs.laws.Nodes.{get-used, entry_found}

-- an entry that has a path
abbrev pub HasEntryAt : List ℕ → Path → Type 0
HasEntryAt m p = (e : ℕ) × IsUsed (table m) e × (path_of (table m) e ≡ p)

-- A tree that has each used entry's file at the entry's path, and nothing else, is the tree of the memory.
pub same_tree : (m : List ℕ) (tree : Tree) → IsTable (table m)
    → ((e : ℕ) → IsUsed (table m) e → get tree (path_of (table m) e) ≡ Some (file_in m e))
    → ((p : Path) (f : File) → get tree p ≡ Some f → HasEntryAt m p) → tree_of m ≡ tree
same_tree m tree rules has only =
    same_map nat_list_cmp_total (slice_cmp-IsAntisymmetric nat_cmp-IsAntisymmetric) (tree_of m) tree
    (λ p. at p (get (tree_of m) p) refl)
  where
    missing : (p : Path) → get (tree_of m) p ≡ None → (o : Option File) → get tree p ≡ o → None ≡ o
    missing p none None is = refl
    missing p none (Some f) is =
        let found = only p f is in
        absurd (none-some (file_in m found.0)
        (sym none ∙ ap (get (tree_of m)) (sym found.2) ∙ get-used m rules found.0 found.1))

    at : (p : Path) (o : Option File) → get (tree_of m) p ≡ o → get (tree_of m) p ≡ get tree p
    at p None is = is ∙ missing p is (get tree p) refl
    at p (Some f) is =
        let found = entry_found m p f is in
        is ∙ ap (λ (g : File). Some g) found.3 ∙ sym (has found.0 found.1) ∙ ap (get tree) found.2

-- The files of all entries stay: so does the tree.
pub tree_stays : (m after : List ℕ) → IsTable (table m) → table after ≡ table m
    → ((e : ℕ) → IsUsed (table m) e → file_in after e ≡ file_in m e) → tree_of after ≡ tree_of m
tree_stays m after rules same files = same_tree after (tree_of m) rules_after
    (λ e used. let before = used_before e used in
    (λ i. get (tree_of m) (path_of (same i) e)) ∙ get-used m rules e before
    ∙ ap (λ (f : File). Some f) (sym (files e before))) (λ p f is. let found = entry_found m p f is in
    (found.0, used_after found.0 found.1, (λ i. path_of (same i) found.0) ∙ found.2))
  where
    rules_after : IsTable (table after)
    rules_after = subst IsTable (sym same) rules

    used_before : (e : ℕ) → IsUsed (table after) e → IsUsed (table m) e
    used_before e used = subst (λ (t : List Entry). IsUsed t e) same used

    used_after : (e : ℕ) → IsUsed (table m) e → IsUsed (table after) e
    used_after e used = subst (λ (t : List Entry). IsUsed t e) (sym same) used

-- The file of one entry is put at its path, new or in place of the one that was there, and all others stay.
module _ (m after : List ℕ) (rules : IsTable (table m)) (rules_after : IsTable (table after)) (e : ℕ)
    (used : IsUsed (table after) e)
    (others : (f : ℕ) → f ≢ e → IsUsed (table after) f → IsUsed (table m) f × (file_in after f ≡ file_in m f))
    (paths : (f : ℕ) → IsUsed (table m) f
    → IsUsed (table after) f × (path_of (table after) f ≡ path_of (table m) f)) where
  abbrev pub place : Path
  place = path_of (table after) e

  got : (p : Path) → get (insert (tree_of m) place (file_in after e)) p
      ≡ cond (same_path p place) (Some (file_in after e)) (get (tree_of m) p)
  got p = get-insert nat_list_cmp_total (tree_of m) place (file_in after e) p

  got_here : (p : Path) → p ≡ place → get (insert (tree_of m) place (file_in after e)) p ≡ Some (file_in after e)
  got_here p is = got p
      ∙ ap (λ (b : Bool). cond b (Some (file_in after e)) (get (tree_of m) p)) (same_of_one p place is)

  differs : (b : Bool) (f : ℕ) → IsUsed (table after) f → f ≢ e
      → same_path (path_of (table after) f) place ≡ b → b ≡ false
  differs false f used_f other is = refl
  differs true f used_f other is =
      absurd (other (one_path (table after) rules_after f e used_f used
      (one_of_same (path_of (table after) f) place is)))

  has : (f : ℕ) → IsUsed (table after) f
      → get (insert (tree_of m) place (file_in after e)) (path_of (table after) f) ≡ Some (file_in after f)
  has f used_f = elim (eqb_tells f e) [
    | inl same ↦ got_here (path_of (table after) f) (ap (λ (k : ℕ). path_of (table after) k) same.1)
        ∙ ap (λ (k : ℕ). Some (file_in after k)) (sym same.1)
    | inr other ↦
        let before = others f other.1 used_f in
        let apart = differs _ f used_f other.1 refl in
        got (path_of (table after) f)
        ∙ ap (λ (b : Bool). cond b (Some (file_in after e)) (get (tree_of m) (path_of (table after) f))) apart
        ∙ ap (get (tree_of m)) (paths f before.0).1 ∙ get-used m rules f before.0
        ∙ ap (λ (g : File). Some g) (sym before.1)
  ]

  only : (p : Path) (f : File) → get (insert (tree_of m) place (file_in after e)) p ≡ Some f → HasEntryAt after p
  only p f is = by_test (same_path p place) refl
    where
      by_test : (b : Bool) → same_path p place ≡ b → HasEntryAt after p
      by_test true here = (e, used, sym (one_of_same p place here))
      by_test false there =
          let was = sym (got p ∙ ap (λ (b : Bool). cond b (Some (file_in after e)) (get (tree_of m) p)) there) ∙ is in
          let found = entry_found m p f was in
          let now = paths found.0 found.1 in
          (found.0, now.0, now.1 ∙ found.2)

  pub tree_inserted : tree_of after ≡ insert (tree_of m) place (file_in after e)
  tree_inserted = same_tree after (insert (tree_of m) place (file_in after e)) rules_after has only
