-- What the rule of a file allows in a session, by the marks of the PINs that the code keeps and reads.
use Rattle.std.specs.Prelude.{map, not}
use Rattle.std.proofs.Common.{◌≡◌, ℕ, List, length, sym, ◌∙◌, ap}
use Rattle.card_model.specs.declared.access_mode.AccessBit.{AccessBit}
use Rattle.file_tree.specs.declared.entry.Entry.{Entry}
use Rattle.card_model.specs.FileTrees.{Tree}
use Rattle.file_tree.specs.Entries.{is_allowed_by}
use Rattle.card_model.specs.FileLives.{is_allowed}
use Rattle.file_tree.specs.Table.{table, entry_in, path_of, IsUsed}
use Rattle.file_tree.specs.Trees.{tree_of}
use Rattle.file_tree.specs.laws.Barring.{allowed_by_there}
use Rattle.command_base.specs.declared.current.Current.{Current}
use Rattle.card_model.specs.Cards.{Pin}
use Rattle.card_model.specs.Guards.{allowed, disabled_of}
use Rattle.card_model.specs.Sessions.{marks_of}
use Rattle.command_base.specs.Standing.{card_of, IsCard}
use Rattle.command_base.specs.Working.{disabled_in, session_of}
use Rattle.command_base.specs.laws.CardLaws.{card_pins_are}
use Rattle.command_base.specs.laws.Entries.{card-tree}
use Rattle.command_base.specs.laws.Verified.{marks-are}

allowed-by-marks : (m : List ℕ) → IsCard m → (x : Current) → length x.verified ≡ 8 → (e : ℕ) (bit : AccessBit)
    → is_allowed (tree_of m) (path_of (table m) e) bit x.verified (disabled_in m)
    ≡ allowed (card_of m) (session_of (table m) x) (path_of (table m) e) bit
allowed-by-marks m card x marked e bit =
    let path = path_of (table m) e in
    let shown = marks_of (session_of (table m) x).verified in
    let marks = sym (marks-are (table m) x marked) in
    let disabled = sym (ap (map (λ (pin : Pin). not pin.enabled)) (card_pins_are m card)) in
    (λ i. is_allowed (tree_of m) path bit (marks i) (disabled i))
    ∙ sym (ap (λ (tree : Tree). is_allowed tree path bit shown (disabled_of (card_of m))) (card-tree m))

-- and so what the rule of a used entry allows, by these marks, is what that of its file allows in the session
pub allowed-by-entry : (m : List ℕ) → IsCard m → (x : Current) → length x.verified ≡ 8 → (e : ℕ) → IsUsed (table m) e
    → (entry : Entry) → entry ≡ entry_in (table m) e → (bit : AccessBit)
    → is_allowed_by entry bit x.verified (disabled_in m)
    ≡ allowed (card_of m) (session_of (table m) x) (path_of (table m) e) bit
allowed-by-entry m card x marked e used entry is bit =
    allowed_by_there m card.tree.entries e used entry is bit x.verified (disabled_in m)
    ∙ allowed-by-marks m card x marked e bit
