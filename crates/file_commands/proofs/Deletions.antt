-- DELETE FILE by the entry of the file that is named.
use Rattle.std.proofs.Common.{◌≡◌, ◌⊎◌, ◌<◌, ◌==◌, ◌&&◌, ◌||◌, ℕ, Bool, true, false, nat_eq, List, [], ◌∷◌}
use Rattle.std.proofs.Common.{◌++◌, length}
use Rattle.std.proofs.Common.{Option, Some, None, option_map, unwrap_or, refl, sym, ◌∙◌, ap, subst, arith, inl}
use Rattle.std.proofs.Common.{inr, ⊎_elim}
use Rattle.std.proofs.lemmas.Bool.{ne_eqb}
use Rattle.std.proofs.lemmas.List.{length-append}
use Rattle.std.specs.List.{starts_with}
use Rattle.nvm_board.specs.Facts.{IsMemory}
use Rattle.card_model.specs.declared.status.Sw.{Sw}
use Rattle.card_model.specs.declared.status.TheConstants.Sw.{DONE}
use Rattle.card_model.specs.declared.requests.Subject.{Subject}
use Rattle.card_model.specs.declared.requests.Subject.TheVariants as subjects
use Rattle.card_model.specs.Requests.{delete_file}
use Rattle.file_tree.specs.declared.entry.Entry.{Entry}
use Rattle.card_model.specs.declared.space.FreeSpace.{FreeSpace}
use Rattle.file_tree.specs.TreeChanges.{Deletes, with_freed}
use Rattle.file_tree.specs.Formats.{block_count}
use Rattle.card_model.specs.Spaces.{free_space}
use Rattle.card_model.specs.Cards.{card_space, Card, Path, Tree, parent}
use Rattle.command_base.specs.laws.CardLaws.{card_space_is}
use Rattle.card_model.specs.FileLives.{has_barred_above, is_barred}
use Rattle.card_model.specs.declared.access_mode.AccessBit.TheVariants.{DeleteChild, DeleteSelf}
use Rattle.file_tree.specs.Table.{table, entry_in, path_of, IsUsed}
use Rattle.file_tree.specs.Trees.{tree_of}
use Rattle.file_tree.specs.laws.Paths.{parent_path, parent_used, path_of-child}
use Rattle.file_tree.specs.laws.Barring.{barred_push}
use Rattle.command_base.specs.declared.current.Current.{Current as CurrentFiles}
use Rattle.file_commands.specs.FileParts.{IsDeletable}
use Rattle.card_model.specs.FileCommands.{delete_refusals, without}
use Rattle.card_model.specs.Guards.{allowed}
use Rattle.card_model.specs.Behaviours.{only_status, refused_by, outcome}
use Rattle.card_model.specs.Reaching.{subject_of, subject_or}
use Rattle.card_model.specs.Sessions.{Session, at_dedicated_file}
use Rattle.command_base.specs.Standing.{card_of, IsCard}
use Rattle.card_model.specs.Steps.{IsDoing, commits_served, last_of, served}
use Rattle.command_base.specs.laws.Words.{is-last}
use Rattle.command_base.specs.Working.{session_of, IsCurrent}
use Rattle.command_base.specs.NamedFiles.{file_refusal}
use Rattle.command_base.specs.laws.Entries.{card-tree, current-path}
use Rattle.card_model.specs.laws.Doing.{doing-one}
use Rattle.file_commands.proofs.FileSteps.{delete-by-file, delete-commits, delete-done, delete-unrefused}
use Rattle.command_base.specs.laws.Keeping.{files-stand, files-after}

-- the current file, by its path
pub subject-current : (m : List ℕ) → IsCard m → (x : CurrentFiles) → IsCurrent (table m) x
    → subject_of (card_of m).tree (session_of (table m) x) subjects.Current
    ≡ Some (path_of (table m) (unwrap_or x.ef x.df))
subject-current m words x current =
    ap (λ (found : Option Path). Some (unwrap_or found (path_of (table m) x.df))) (current-path m words x current)
    ∙ ap (λ (path : Path). Some path) (by_file x.ef)
  where
    by_file : (ef : Option ℕ) → unwrap_or (option_map (path_of (table m)) ef) (path_of (table m) x.df)
        ≡ path_of (table m) (unwrap_or ef x.df)
    by_file None = refl
    by_file (Some e) = refl

-- what was found for a subject whose own file is that one
pub subject-found : (m : List ℕ) → IsCard m → (x : CurrentFiles) → IsCurrent (table m) x → (own : ℕ)
    → own ≡ unwrap_or x.ef x.df → (subject : Subject) (found : Option ℕ)
    → subject_or (Some (path_of (table m) own)) (card_of m).tree (session_of (table m) x) subject
    ≡ option_map (path_of (table m)) found
    → subject_of (card_of m).tree (session_of (table m) x) subject ≡ option_map (path_of (table m)) found
subject-found m words x current own is subject found told =
    ap (λ (o : Option Path). subject_or o (card_of m).tree (session_of (table m) x) subject)
    (subject-current m words x current ∙ ap (λ (e : ℕ). Some (path_of (table m) e)) (sym is)) ∙ told

and_false : (b : Bool) → (b && false) ≡ false
and_false true = refl
and_false false = refl

-- a path does not begin with itself and an identifier more
starts-longer : (path : Path) (id : ℕ) → starts_with nat_eq path (path ++ id ∷ []) ≡ false
starts-longer [] id = refl
starts-longer (first ∷ path) id =
    ap (λ (b : Bool). nat_eq first first && b) (starts-longer path id) ∙ and_false (nat_eq first first)

-- what is free grows by what was freed
pub deleted-space : (m now after : List ℕ) (old freed : FreeSpace) → old ≡ card_space (card_of m) → now ≡ m
    → free_space (block_count after) (tree_of after) ≡ with_freed (free_space (block_count now) (tree_of now)) freed
    → IsCard m → IsCard after → with_freed old freed ≡ card_space (card_of after)
deleted-space m now after old freed is same space before stands =
    ap (λ (space : FreeSpace). with_freed space freed)
    (is ∙ card_space_is m before ∙ sym (ap (λ (l : List ℕ). free_space (block_count l) (tree_of l)) same))
    ∙ sym space ∙ sym (card_space_is after stands)

-- what refuses the deletion of a file by its parent, and by the rules of both
abbrev pub deletion_verdict : List ℕ → CurrentFiles → ℕ → ℕ → Option Sw
deletion_verdict m x e up =
    let c = card_of m in
    let s = session_of (table m) x in
    file_refusal (is_barred c.tree (path_of (table m) up)) true
    (allowed c s (path_of (table m) e) DeleteSelf || allowed c s (path_of (table m) up) DeleteChild)

-- The verdict by what the calls found that read the card: the words stayed the same.
module _ (m one two three : List ℕ) (x : CurrentFiles) (e up at : ℕ) (barred own by_parent : Bool) where
  pub findings-verdict : one ≡ m → two ≡ one → three ≡ two → at ≡ up
      → barred ≡ is_barred (tree_of one) (path_of (table one) at)
      → own ≡ allowed (card_of two) (session_of (table two) x) (path_of (table two) e) DeleteSelf
      → by_parent ≡ allowed (card_of three) (session_of (table three) x) (path_of (table three) at) DeleteChild
      → (findings : Bool) → findings ≡ (own || by_parent)
      → file_refusal barred true findings ≡ deletion_verdict m x e up
  findings-verdict read same still is barred-told own-told parent-told findings either =
      let then : two ≡ m = same ∙ read in
      let last : three ≡ m = still ∙ then in
      let bars : barred ≡ is_barred (card_of m).tree (path_of (table m) up) =
      barred-told ∙ (λ i. is_barred (tree_of (read i)) (path_of (table (read i)) (is i)))
      ∙ sym (ap (λ (tree : Tree). is_barred tree (path_of (table m) up)) (card-tree m)) in
      let self : own ≡ allowed (card_of m) (session_of (table m) x) (path_of (table m) e) DeleteSelf =
      own-told
      ∙ ap (λ (l : List ℕ). allowed (card_of l) (session_of (table l) x) (path_of (table l) e) DeleteSelf) then in
      let child : by_parent ≡ allowed (card_of m) (session_of (table m) x) (path_of (table m) up) DeleteChild =
      parent-told
      ∙ (λ i. allowed (card_of (last i)) (session_of (table (last i)) x) (path_of (table (last i)) (is i))
      DeleteChild) in
      let both = either ∙ (λ i. self i || child i) in
      λ i. file_refusal (bars i) true (both i)

module _ (m : List ℕ) (sized : IsMemory m) (words : IsCard m) (x : CurrentFiles) (subject : Subject) (e : ℕ)
    (above : 0 < e) (used : IsUsed (table m) e)
    (place : subject_of (card_of m).tree (session_of (table m) x) subject ≡ Some (path_of (table m) e)) where
  abbrev c : Card
  c = card_of m

  abbrev s : Session
  s = session_of (table m) x

  abbrev path : Path
  path = path_of (table m) e

  abbrev up : ℕ
  up = (entry_in (table m) e).parent

  abbrev at_parent : CurrentFiles
  at_parent = record x { df = up; ef = None; pointer = None }

  path-is : path ≡ path_of (table m) up ++ (entry_in (table m) e).identifier ∷ []
  path-is = path_of-child (table m) words.tree.entries e above used

  below : (length path == 0) ≡ false
  below =
      let child = ap (λ (p : Path). length p) path-is in
      let long = length-append (path_of (table m) up) ((entry_in (table m) e).identifier ∷ []) in
      ne_eqb (length path) 0 (λ none. let z : ⊥ = omega (arith, child, long, none) in z)

  file-verdict : refused_by (delete_refusals c s subject) ≡ deletion_verdict m x e up
  file-verdict =
      let barred = ap (has_barred_above c.tree) path-is
      ∙ barred_push c.tree (path_of (table m) up) (entry_in (table m) e).identifier in
      let at = parent_path (table m) words.tree.entries e used in
      delete-by-file c s subject path place below
      ∙ (λ i. file_refusal (barred i) true (allowed c s path DeleteSelf || allowed c s (at i) DeleteChild))

  -- the same by the entry that was read
  pub entry-verdict : (l : List ℕ) → l ≡ m → (entry : Entry) → entry ≡ entry_in (table m) e
      → refused_by (delete_refusals c s subject) ≡ deletion_verdict l x e entry.parent
  entry-verdict l same entry is =
      file-verdict ∙ ap (λ (y : Entry). deletion_verdict m x e y.parent) (sym is)
      ∙ ap (λ (now : List ℕ). deletion_verdict now x e entry.parent) (sym same)

  pub deletable : refused_by (delete_refusals c s subject) ≡ None → (entry : Entry) → entry ≡ entry_in (table m) e
      → IsDeletable m x subject e entry
  deletable none entry is = record { entry_is = is; place = place; used = used; below = above; unrefused = none }

  -- the parent isn't below the file
  outside : starts_with nat_eq (path_of (table m) up) path ≡ false
  outside = ap (λ (p : Path). starts_with nat_eq (path_of (table m) up) p) path-is
      ∙ starts-longer (path_of (table m) up) (entry_in (table m) e).identifier

  module _ (after : List ℕ) (deletes : Deletes m e after) where
    -- the parent's entry and its path stay
    kept : (entry_in (table after) up ≡ entry_in (table m) up) × (path_of (table after) up ≡ path_of (table m) up)
    kept = deletes.kept up (parent_used (table m) words.tree.entries e above used) outside

    pub deleted-stands : IsCard after
    deleted-stands = files-stand m after sized deletes.rest words deletes.stands

    card-is : card_of after ≡ without c path
    card-is =
        files-after m after sized deletes.rest
        ∙ ap (λ (tree : Tree). record c { tree = tree }) deletes.tree
        ∙ sym (ap (λ (tree : Tree). without (record c { tree = tree }) path) (card-tree m))

    pub deleted-current : length x.verified ≡ 8 → IsCurrent (table after) at_parent
    deleted-current marks = record {
      df = ap (λ (y : Entry). y.kind) kept.0 ∙ (words.tree.entries.below e above used).parent;
      ef = tt;
      marks = marks;
    }

    session-is : at_dedicated_file s (parent path) ≡ session_of (table after) at_parent
    session-is =
        let above_is = parent_path (table m) words.tree.entries e used ∙ sym kept.1 in
        λ i. at_dedicated_file s (above_is i)

    pub deleted-step : refused_by (delete_refusals c s subject) ≡ None → served c s (delete_file subject)
        ≡ outcome (card_of after) (session_of (table after) at_parent) [] DONE
    deleted-step none =
        delete-done c s subject path place none
        ∙ (λ i. record { card = sym card-is i; session = session-is i; response = only_status DONE })

  -- a deletion that was cut, or not: the memory before it was only read
  module _ (now after : List ℕ) (same : now ≡ m) where
    deletes_is : Deletes now e after → Deletes m e after
    deletes_is deletes = subst (λ (l : List ℕ). Deletes l e after) same deletes

    pub any-stands : (after ≡ now) ⊎ Deletes now e after → IsCard after
    any-stands (inl kept) = subst IsCard (sym (kept ∙ same)) words
    any-stands (inr deletes) = deleted-stands after (deletes_is deletes)

    pub any-deleting : refused_by (delete_refusals c s subject) ≡ None → (after ≡ now) ⊎ Deletes now e after
        → IsDoing c s (delete_file subject) (card_of after)
    any-deleting none left =
        doing-one c s (delete_file subject) (without c path)
        (card_of after) (delete-unrefused c s subject path place none) (delete-commits c s subject path place)
        (⊎_elim (λ (kept : after ≡ now). inl (ap card_of (kept ∙ same)))
        (λ (deletes : Deletes now e after). inr (card-is after (deletes_is deletes))) left)

    -- the card after the deletion is the last one
    pub deleted-last : refused_by (delete_refusals c s subject) ≡ None → Deletes now e after
        → card_of after ≡ last_of c (commits_served c s (delete_file subject))
    deleted-last none deletes =
        is-last c s (delete_file subject) (without c path) (card_of after)
        (delete-unrefused c s subject path place none) (delete-commits c s subject path place)
        (card-is after (deletes_is deletes))

    pub done-step : refused_by (delete_refusals c s subject) ≡ None → Deletes now e after
        → served c s (delete_file subject) ≡ outcome (card_of after) (session_of (table after) at_parent) [] DONE
    done-step none deletes = deleted-step after (deletes_is deletes) none

    pub done-current : length x.verified ≡ 8 → Deletes now e after → IsCurrent (table after) at_parent
    done-current marks deletes = deleted-current after (deletes_is deletes) marks
