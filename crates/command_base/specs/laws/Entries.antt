-- What the entries of a card's memory say of its files and of the session.
use Rattle.std.proofs.Common.{◌≡◌, ◌≢◌, ◌==◌, ◌<◌, ℕ, Bool, true, false, List, [], ◌∷◌, ◌++◌, length, Option}
use Rattle.std.proofs.Common.{Some, None, IfSome, option_map, refl, sym, ◌∙◌, ap, arith, ⊎_elim, if◌then◌else◌}
use Rattle.std.proofs.lemmas.Bool.{cases_eq}
use Rattle.nvm_board.specs.Facts.{IsMemory}
use Rattle.std.specs.FinMap.{get}
use Rattle.std.specs.Option.{option_map_or}
use Rattle.card_model.specs.declared.requests.Returned.{Returned}
use Rattle.card_model.specs.declared.requests.Returned.TheVariants.{Template, Nothing}
use Rattle.card_model.specs.Templates.{fcp_text, template_of}
use Rattle.card_model.specs.Requests.{Selection, select}
use Rattle.file_tree.specs.declared.entry.Entry.{Entry}
use Rattle.card_model.specs.FileTrees.{Body, File, Tree, dedicated, elementary}
use Rattle.file_tree.specs.Entries.{file_of, life_told}
use Rattle.file_tree.specs.Table.{table, entry_in, path_of, IsUsed}
use Rattle.file_tree.specs.Trees.{tree_of, file_in}
use Rattle.file_tree.specs.laws.Nodes.{get-used}
use Rattle.file_tree.specs.laws.Paths.{parent_path, identifier_path, path_of_child, path-zero}
use Rattle.command_base.specs.declared.current.Current.{Current}
use Rattle.card_model.specs.declared.requests.Target.TheVariants as target
use Rattle.card_model.specs.Reaching.{selected_from, target_of}
use Rattle.card_model.specs.Guards.{asks_less, given, right_length}
use Rattle.command_base.specs.laws.FoundLaws.{same-of, other-of}
use Rattle.card_model.specs.SelectCommand.{selecting, selection_data, selection_status}
use Rattle.card_model.specs.Sessions.{at_elementary_file}
use Rattle.command_base.specs.Standing.{card_of, IsCard}
use Rattle.card_model.specs.Steps.{served}
use Rattle.command_base.specs.Working.{session_of, IsCurrent, IsElementary}
use Rattle.command_base.specs.CurrentFiles.{current_at}
use Rattle.command_base.specs.TemplateParts.{data_in, template_in}
use Rattle.card_model.specs.Behaviours.{outcome}
use Rattle.card_model.specs.laws.SelectSteps.{select-less, select-reached}
use Rattle.command_base.specs.laws.Told.{parameters-are}

-- the tree of a card that words stand for
pub card-tree : (m : List ℕ) → (card_of m).tree ≡ tree_of m
unfolding card_of
card-tree m = refl

-- the master file is entry 0
pub master-path : (m : List ℕ) → path_of (table m) 0 ≡ []
master-path m = path-zero (table m) 7 0 refl

module _ (m : List ℕ) (words : IsCard m) (e : ℕ) (used : IsUsed (table m) e) where
  abbrev entry : Entry
  entry = entry_in (table m) e

  -- the file of an entry stands at its path
  pub there : get (card_of m).tree (path_of (table m) e) ≡ Some (file_in m e)
  there = ap (λ (tree : Tree). get tree (path_of (table m) e)) (card-tree m) ∙ get-used m words.tree.entries e used

  pub life-is : (file_in m e).life ≡ life_told entry
  unfolding file_of
  life-is = refl

  -- the session in which the file has become current
  selecting_by : (x : Current) (b : Bool) (name : Option (List ℕ)) (short : Option ℕ) (body : Body)
      → selecting (session_of (table m) x) (path_of (table m) e) (if b then dedicated name else elementary short body)
      ≡ session_of (table m) (record x {
        df = if b then e else entry.parent;
        ef = if b then None else Some e;
        pointer = None;
      })
  selecting_by x true name short body = refl
  selecting_by x false name short body =
      let above = parent_path (table m) words.tree.entries e used in
      let id = identifier_path (table m) words.tree.entries e used in
      λ i. at_elementary_file (session_of (table m) x) (above i) (id i)

  pub selecting-entry : (x : Current) → selecting (session_of (table m) x) (path_of (table m) e) (file_in m e).kind
      ≡ session_of (table m) (current_at x e entry)
  unfolding file_of
  selecting-entry x = selecting_by x (entry.kind == 1) _ _ _

  -- the numbers of the current files are then those of a dedicated file, and of an elementary file in it
  pub current-entry : (x : Current) → length x.verified ≡ 8 → IsCurrent (table m) (current_at x e entry)
  current-entry x marks = by_kind (entry.kind == 1) refl
    where
      by_kind : (b : Bool) → (entry.kind == 1) ≡ b
          → IsCurrent (table m) (record x {
            df = if b then e else entry.parent;
            ef = if b then None else Some e;
            pointer = None;
          })
      by_kind true is = record { df = same-of entry.kind 1 is; ef = tt; marks = marks }
      by_kind false is =
          let other = other-of entry.kind 1 is in
          let above : 0 < e = above-master other in
          record {
            df = (words.tree.entries.below e above used).parent;
            ef = record {
              child = record { below = above; used = used; parent = refl };
              kind = omega (arith, other, used);
            };
            marks = marks;
          }
        where
          above-master : entry.kind ≢ 1 → 0 < e
          above-master other = ⊎_elim
              (λ (master : e ≡ 0). absurd (other (ap (λ (n : ℕ). (entry_in (table m) n).kind) master ∙
              words.tree.entries.master.kind)))
              (λ (some : e ≢ 0). omega (arith, some))
              (cases_eq e 0)

  -- what SELECT finds of the file
  data-entry : IsMemory m → (returned : Returned)
      → selection_data returned (card_of m).tree (path_of (table m) e) ≡ data_in returned entry
  unfolding template_of template_in
  data-entry sized Template =
      ap (λ (found : Option File). option_map_or (template_of (path_of (table m) e)) found []) there
      ∙ ap fcp_text (parameters-are m sized words e used)
  data-entry sized Nothing = refl

  -- SELECT of the file
  module _ (sized : IsMemory m) (x : Current) (selection : Selection) (returned : Returned) (expected : Option ℕ)
      (place : selected_from (card_of m).tree (session_of (table m) x).current_df selection
      ≡ Some (path_of (table m) e)) where
    abbrev told : List ℕ
    told = data_in returned entry

    data-is : selection_data returned (card_of m).tree (path_of (table m) e) ≡ told
    data-is = data-entry sized returned

    -- with an Le that asks for less than there is
    pub select-entry-less : asks_less expected told ≡ true
        → served (card_of m) (session_of (table m) x) (select selection returned expected)
        ≡ outcome (card_of m) (session_of (table m) x) [] (right_length told)
    select-entry-less less =
        select-less (card_of m) (session_of (table m) x) selection returned expected (path_of (table m) e) (file_in m e)
        place there (ap (asks_less expected) data-is ∙ less)
        ∙ ap (λ (found : List ℕ). outcome (card_of m) (session_of (table m) x) [] (right_length found)) data-is

    pub select-entry : asks_less expected told ≡ false
        → served (card_of m) (session_of (table m) x) (select selection returned expected)
        ≡ outcome (card_of m) (session_of (table m) (current_at x e entry)) (given expected told)
        (selection_status (life_told entry))
    select-entry enough =
        let session = selecting-entry x in
        select-reached (card_of m) (session_of (table m) x) selection returned expected (path_of (table m) e)
        (file_in m e) place there (ap (asks_less expected) data-is ∙ enough)
        ∙ (λ i. outcome (card_of m) (session i) (given expected (data-is i)) (selection_status (life-is i)))

-- the current elementary file, by its path
pub current-path : (m : List ℕ) → IsCard m → (x : Current) → IsCurrent (table m) x
    → target_of (card_of m).tree (session_of (table m) x) target.Current ≡ option_map (path_of (table m)) x.ef
current-path m words x current = by_file x.ef current.ef
  where
    by_file : (ef : Option ℕ) → IfSome ef (IsElementary (table m) x.df)
        → option_map (λ (id : ℕ). path_of (table m) x.df ++ id ∷ []) (option_map (λ (e : ℕ). (entry_in (table m)
        e).identifier) ef)
        ≡ option_map (path_of (table m)) ef
    by_file None file = refl
    by_file (Some e) file = ap (λ (path : List ℕ). Some path) (sym (path_of_child (table m) words.tree.entries x.df e
        file.child))
