-- The session after a command that named an EF by its short identifier, or took the current one.
use Rattle.std.proofs.Common.{◌≡◌, ℕ, List, refl, ◌∙◌, ap}
use Rattle.card_model.specs.declared.requests.Target.{Target}
use Rattle.card_model.specs.declared.requests.Target.TheVariants.{Current, Short}
use Rattle.card_model.specs.Guards.{naming}
use Rattle.card_model.specs.Sessions.{at_elementary_file}
use Rattle.file_tree.specs.Table.{table, path_of}
use Rattle.file_tree.specs.laws.Paths.{parent_path, identifier_path}
use Rattle.command_base.specs.declared.current.Current.{Current as CurrentFiles}
use Rattle.command_base.specs.CurrentFiles.{named_from}
use Rattle.command_base.specs.Standing.{IsCard}
use Rattle.command_base.specs.Working.{session_of, IsCurrent, IsElementary}

-- the current files after a command on contents that named the file of an entry
pub named-current : (m : List ℕ) (x : CurrentFiles) (e : ℕ) → IsElementary (table m) x.df e → (target : Target)
    → IsCurrent (table m) x → IsCurrent (table m) (named_from x target e)
named-current m x e file Current current = current
named-current m x e file (Short n) current = record { df = current.df; ef = file; marks = current.marks }

-- the session after a command on contents that named the file of an entry
pub naming-entry : (m : List ℕ) (words : IsCard m) (x : CurrentFiles) (target : Target) (e : ℕ)
    → IsElementary (table m) x.df e
    → naming (session_of (table m) x) target (path_of (table m) e) ≡ session_of (table m) (named_from x target e)
naming-entry m words x Current e file = refl
naming-entry m words x (Short n) e file =
    let above = parent_path (table m) words.tree.entries e file.child.used ∙ ap (path_of (table m)) file.child.parent in
    let id = identifier_path (table m) words.tree.entries e file.child.used in
    λ i. at_elementary_file (session_of (table m) x) (above i) (id i)
