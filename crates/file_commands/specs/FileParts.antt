-- The files that DELETE FILE may delete and CREATE FILE may create (ISO/IEC 7816-9).
-- No clause of the card's calls names this.
use Rattle.std.specs.Prelude.{◌≡◌, ◌<◌, ℕ, true, false, List, Ok, None, Some}
use Rattle.card_model.specs.declared.fcp.Fcp.{Fcp}
use Rattle.card_model.specs.TemplateGrammar.{fcp_read}
use Rattle.card_model.specs.FileControl.{IsCreatable}
use Rattle.card_model.specs.FileLives.{is_barred}
use Rattle.card_model.specs.declared.requests.Subject.{Subject}
use Rattle.file_tree.specs.declared.entry.Entry.{Entry}
use Rattle.file_tree.specs.Table.{table, entry_in, path_of, IsUsed}
use Rattle.command_base.specs.declared.current.Current.{Current}
use Rattle.card_model.specs.Guards.{allowed}
use Rattle.card_model.specs.FileCommands.{creation_bit, delete_refusals}
use Rattle.card_model.specs.Behaviours.{refused_by}
use Rattle.card_model.specs.Reaching.{subject_of}
use Rattle.command_base.specs.Standing.{card_of}
use Rattle.command_base.specs.Working.{session_of}

-- the entry of a file, other than the master file, that DELETE FILE names and that doesn't refuse it
pub record IsDeletable (m : List ℕ) (x : Current) (subject : Subject) (e : ℕ) (entry : Entry) : Type 0 where
  pub entry_is : entry ≡ entry_in (table m) e
  pub place : subject_of (card_of m).tree (session_of (table m) x) subject ≡ Some (path_of (table m) e)
  pub used : IsUsed (table m) e
  pub below : 0 < e
  pub unrefused : refused_by (delete_refusals (card_of m) (session_of (table m) x) subject) ≡ None

-- the file of a template, which the current dedicated file may contain, as it isn't barred and its rule permits
pub record IsNewFile (m : List ℕ) (x : Current) (template : List ℕ) (fcp : Fcp) : Type 0 where
  pub told : fcp_read template ≡ Ok fcp
  pub creatable : IsCreatable fcp
  pub unbarred : is_barred (card_of m).tree (path_of (table m) x.df) ≡ false
  pub permitted : allowed (card_of m) (session_of (table m) x) (path_of (table m) x.df) (creation_bit fcp.kind) ≡ true
