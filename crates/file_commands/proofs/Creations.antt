-- CREATE FILE by the dedicated file that is current.
use Rattle.std.proofs.Common.{◌≡◌, ◌⊎◌, ◌≤◌, ◌-◌, ℕ, Bool, true, false, List, [], ◌∷◌, ◌++◌, length}
use Rattle.std.proofs.Common.{Option, Some, None, Result, Ok, Err, refl, sym, ◌∙◌, ap, arith, inl}
use Rattle.std.proofs.Common.{inr, ⊎_elim}
use Rattle.std.proofs.lemmas.Option.{same_Some}
use Rattle.std.specs.Prelude.{cond}
use Rattle.std.specs.Cmp.Lexicographic.{nat_list_cmp_total}
use Rattle.std.specs.FinMap.{get, get-insert}
use Rattle.nvm_board.specs.Facts.{IsMemory}
use Rattle.card_model.specs.declared.access_mode.AccessBit.{AccessBit}
use Rattle.card_model.specs.declared.status.Sw.{Sw}
use Rattle.card_model.specs.declared.status.TheConstants.Sw.{DONE, WRONG_DATA}
use Rattle.card_model.specs.declared.fault.FcpFault.{FcpFault}
use Rattle.card_model.specs.declared.fcp.Fcp.{Fcp}
use Rattle.card_model.specs.TemplateGrammar.{fcp_read}
use Rattle.card_model.specs.Requests.{create_file}
use Rattle.card_model.specs.declared.space.FreeSpace.{FreeSpace}
use Rattle.file_tree.specs.TreeChanges.{SameTree, with_freed}
use Rattle.file_changes.specs.Creations.{CreatesNew, IsCreated}
use Rattle.file_changes.specs.CreationRefusals.{creation_refusal}
use Rattle.card_model.specs.NewFiles.{new_file, short_of_new}
use Rattle.file_tree.specs.Formats.{block_count}
use Rattle.card_model.specs.Spaces.{free_space}
use Rattle.card_model.specs.Cards.{card_space, Card, File, Kind, Path, Tree, dedicated, elementary}
use Rattle.command_base.specs.laws.CardLaws.{card_count, card_space_is}
use Rattle.card_model.specs.FileLives.{is_barred}
use Rattle.file_tree.specs.Table.{table, entry_in, path_of}
use Rattle.file_tree.specs.Trees.{tree_of, file_in}
use Rattle.file_tree.specs.laws.Nodes.{get-used}
use Rattle.card_model.specs.laws.Orders.{same_of_one}
use Rattle.command_base.specs.declared.current.Current.{Current as CurrentFiles}
use Rattle.card_model.specs.FileCommands.{create_refusals, creation_bit, with_new}
use Rattle.card_model.specs.Guards.{allowed}
use Rattle.card_model.specs.Behaviours.{refused, refused_by, only_status, outcome}
use Rattle.card_model.specs.SelectCommand.{selecting}
use Rattle.card_model.specs.Sessions.{Session}
use Rattle.command_base.specs.Standing.{card_of, IsCard}
use Rattle.card_model.specs.Steps.{IsDoing, commits_served, last_of, served}
use Rattle.command_base.specs.laws.Words.{is-last}
use Rattle.command_base.specs.Working.{session_of, IsCurrent}
use Rattle.command_base.specs.CurrentFiles.{current_at}
use Rattle.command_base.specs.laws.Entries.{card-tree, current-entry, selecting-entry}
use Rattle.card_model.specs.laws.Doing.{doing-one}
use Rattle.file_commands.proofs.FileSteps.{create-commits, create-done, create-refused, create-unread, create-unrefused}
use Rattle.command_base.specs.laws.Keeping.{files-stand, files-after}

-- what becomes current does so whatever was current before
selecting-any : (s r : Session) (path : Path) (kind : Kind) → s.verified ≡ r.verified
    → selecting s path kind ≡ selecting r path kind
selecting-any s r path (dedicated name) same = λ i. record (selecting s path (dedicated name)) { verified = same i }
selecting-any s r path (elementary short body) same = λ i. record (selecting s path (elementary short body)) {
  verified = same i;
}

-- a template that tells of no file
pub unread-step : (c : Card) (s : Session) (template : List ℕ) → is_barred c.tree s.current_df ≡ false
    → (read : Result Fcp FcpFault) → fcp_read template ≡ read → ((fcp : Fcp) → read ≡ Ok fcp → ⊥)
    → refused_by (create_refusals c s template) ≡ Some WRONG_DATA
unread-step c s template unbarred (Ok fcp) is never = absurd (never fcp refl)
unread-step c s template unbarred (Err fault) is never = create-unread c s template unbarred fault is

-- whether the current dedicated file is barred, and what its rule allows, as the code finds it
pub barred-is : (m now : List ℕ) (x : CurrentFiles) → now ≡ m → (barred : Bool) → barred
    ≡ is_barred (tree_of now) (path_of (table now) x.df) → is_barred (card_of m).tree (path_of (table m) x.df) ≡ barred
barred-is m now x same barred is =
    ap (λ (tree : Tree). is_barred tree (path_of (table m) x.df)) (card-tree m)
    ∙ sym (is ∙ ap (λ (l : List ℕ). is_barred (tree_of l) (path_of (table l) x.df)) same)

pub permits-is : (m now : List ℕ) (x : CurrentFiles) → now ≡ m → (bit wanted : AccessBit) → bit ≡ wanted
    → (permits : Bool) → permits ≡ allowed (card_of now) (session_of (table now) x) (path_of (table now) x.df) bit
    → allowed (card_of m) (session_of (table m) x) (path_of (table m) x.df) wanted ≡ permits
permits-is m now x same bit wanted bit_is permits is =
    sym (is
    ∙ (λ i. allowed (card_of (same i)) (session_of (table (same i)) x) (path_of (table (same i)) x.df) (bit_is i)))

-- what is free shrinks by what a file takes
module _ (m now after : List ℕ) (old taken : FreeSpace) (is : old ≡ card_space (card_of m)) (same : now ≡ m)
    (space : free_space (block_count now) (tree_of now)
    ≡ with_freed (free_space (block_count after) (tree_of after)) taken)
    (before : IsCard m) (stands : IsCard after) where
  sum-is : old ≡ with_freed (card_space (card_of after)) taken
  sum-is =
      is ∙ card_space_is m before ∙ sym (ap (λ (l : List ℕ). free_space (block_count l) (tree_of l)) same) ∙ space
      ∙ sym (ap (λ (left : FreeSpace). with_freed left taken) (card_space_is after stands))

  pub taken-blocks : taken.blocks ≤ old.blocks
  taken-blocks = let sum = ap (λ (s : FreeSpace). s.blocks) sum-is in omega (arith, sum)

  pub taken-entries : taken.entries ≤ old.entries
  taken-entries = let sum = ap (λ (s : FreeSpace). s.entries) sum-is in omega (arith, sum)

  pub created-space : record { blocks = old.blocks - taken.blocks; entries = old.entries - taken.entries }
      ≡ card_space (card_of after)
  created-space =
      let left = card_space (card_of after) in
      let blocks_sum = ap (λ (s : FreeSpace). s.blocks) sum-is in
      let entries_sum = ap (λ (s : FreeSpace). s.entries) sum-is in
      let blocks : old.blocks - taken.blocks ≡ left.blocks = omega (arith, blocks_sum) in
      let entries : old.entries - taken.entries ≡ left.entries = omega (arith, entries_sum) in
      λ i. record { blocks = blocks i; entries = entries i }

module _ (m : List ℕ) (sized : IsMemory m) (words : IsCard m) (x : CurrentFiles) (template : List ℕ)
    (fcp : Fcp) (is : fcp_read template ≡ Ok fcp)
    (unbarred : is_barred (card_of m).tree (path_of (table m) x.df) ≡ false) (permitted : allowed (card_of m)
    (session_of (table m) x) (path_of (table m) x.df) (creation_bit fcp.kind) ≡ true) where
  abbrev c : Card
  c = card_of m

  abbrev s : Session
  s = session_of (table m) x

  abbrev df : Path
  df = path_of (table m) x.df

  -- the tree of the card is that of its memory
  refusal-by-tree : creation_refusal c.blocks c.tree df fcp ≡ creation_refusal (block_count m) (tree_of m) df fcp
  refusal-by-tree =
      let tree = card-tree m in
      let blocks = card_count m words in
      λ i. creation_refusal (blocks i) (tree i) df fcp

  pub refused-step : (status : Sw) → creation_refusal (block_count m) (tree_of m) df fcp ≡ Some status
      → served c s (create_file template) ≡ refused c s status
  refused-step status refuses = create-refused c s template unbarred fcp is permitted status (refusal-by-tree ∙ refuses)

  -- blocks that were filled, and no file
  module _ (after : List ℕ) (same : SameTree m after) where
    pub filled-stands : IsCard after
    filled-stands = files-stand m after sized same.rest words same.stands

    pub filled-card : card_of after ≡ c
    filled-card =
        files-after m after sized same.rest
        ∙ ap (λ (tree : Tree). record c { tree = tree }) (same.tree ∙ sym (card-tree m))

  module _ (after : List ℕ) (creates : CreatesNew m x.df fcp after) where
    created-stands : IsCard after
    created-stands = files-stand m after sized creates.rest words creates.stands

    card-is : card_of after ≡ with_new c df fcp
    card-is =
        files-after m after sized creates.rest
        ∙ ap (λ (tree : Tree). record c { tree = tree }) creates.tree
        ∙ sym (ap (λ (tree : Tree). with_new (record c { tree = tree }) df fcp) (card-tree m))

  -- whichever of both it was
  pub any-stands : (after : List ℕ) → SameTree m after ⊎ CreatesNew m x.df fcp after → IsCard after
  any-stands after (inl same) = filled-stands after same
  any-stands after (inr creates) = created-stands after creates

  pub any-creating : creation_refusal (block_count m) (tree_of m) df fcp ≡ None → (after : List ℕ)
      → SameTree m after ⊎ CreatesNew m x.df fcp after → IsDoing c s (create_file template) (card_of after)
  any-creating none after left =
      doing-one c s (create_file template) (with_new c df fcp) (card_of after)
      (create-unrefused c s template unbarred fcp is permitted (refusal-by-tree ∙ none))
      (create-commits c s template unbarred fcp is permitted)
      (⊎_elim (λ (same : SameTree m after). inl (filled-card after same))
      (λ (creates : CreatesNew m x.df fcp after). inr (card-is after creates)) left)

  -- the card with the new file is the last one
  pub created-last : creation_refusal (block_count m) (tree_of m) df fcp ≡ None → (after : List ℕ)
      → CreatesNew m x.df fcp after → card_of after ≡ last_of c (commits_served c s (create_file template))
  created-last none after creates =
      is-last c s (create_file template) (with_new c df fcp) (card_of after)
      (create-unrefused c s template unbarred fcp is permitted (refusal-by-tree ∙ none))
      (create-commits c s template unbarred fcp is permitted) (card-is after creates)

  -- a creation that was cut, or not: where it is refused, as told by a refusal, only reads were made
  pub any-stage : {R : Type 0} (refusal : Option Sw) → creation_refusal (block_count m) (tree_of m) df fcp ≡ refusal
      → ((status : Sw) → refusal ≡ Some status → R) → (after : List ℕ)
      → SameTree m after ⊎ CreatesNew m x.df fcp after → R ⊎ IsDoing c s (create_file template) (card_of after)
  any-stage (Some status) told idle after exit = inl (idle status refl)
  any-stage None told idle after exit = inr (any-creating told after exit)

  -- a file that was created
  module _ (e blocks : ℕ) (after : List ℕ) (made : IsCreated m x.df fcp e blocks after) where
    abbrev path : Path
    path = df ++ fcp.identifier ∷ []

    abbrev new : File
    new = new_file fcp (short_of_new (tree_of m) df fcp)

    stands : IsCard after
    stands = created-stands after made.creates

    file-there : get (tree_of after) path ≡ Some new
    file-there =
        ap (λ (tree : Tree). get tree path) made.creates.tree
        ∙ get-insert nat_list_cmp_total (tree_of m) path new path
        ∙ ap (λ (b : Bool). cond b (Some new) (get (tree_of m) path)) (same_of_one path path refl)

    file-is : file_in after e ≡ new
    file-is = same_Some (file_in after e) new
        (sym (get-used after stands.tree.entries e made.used) ∙ ap (get (tree_of after)) made.path ∙ file-there)

    abbrev at_file : CurrentFiles
    at_file = current_at x e (entry_in (table after) e)

    session-is : selecting s path (new_file fcp (short_of_new c.tree df fcp)).kind ≡ session_of (table after) at_file
    session-is =
        ap (λ (tree : Tree). selecting s path (new_file fcp (short_of_new tree df fcp)).kind) (card-tree m)
        ∙ selecting-any s (session_of (table after) at_file) path new.kind refl
        ∙ (λ i. selecting (session_of (table after) at_file) (sym made.path i) (sym file-is i).kind)
        ∙ selecting-entry after stands e made.used at_file

    pub created-step : served c s (create_file template)
        ≡ outcome (card_of after) (session_of (table after) at_file) [] DONE
    created-step =
        create-done c s template unbarred fcp is permitted (refusal-by-tree ∙ made.none)
        ∙ (λ i. record {
          card = sym (card-is after made.creates) i;
          session = session-is i;
          response = only_status DONE;
        })

    pub created-current : length x.verified ≡ 8 → IsCurrent (table after) at_file
    created-current marks = current-entry after stands e made.used x marks

    pub created-is-card : IsCard after
    created-is-card = stands
