-- What the rules on file entries and PINs mean for a card: its files (ISO/IEC 7816-4, 7.2 and 7.4), access rules, names
-- and short identifiers, and its PINs; and that the current files of a session are in its tree.
use Rattle.std.specs.Prelude.{◌≡◌, ◌≤◌, ◌++◌, ◌∷◌, [], ◌&&◌, not, ℕ, List, length, All, Some, IfSome, IsTrue}
use Rattle.std.specs.FinMap.{get}
use Rattle.card_model.specs.Rule.{is_rule}
use Rattle.card_model.specs.declared.pins.TheConstants.{PINS}
use Rattle.card_model.specs.FileTrees.{Path, File, Tree, IsTree, dedicated, exists, file_at, is_dedicated, parent}
use Rattle.card_model.specs.FileTrees.{short_of}
use Rattle.card_model.specs.Secrets.{Pin}
use Rattle.card_model.specs.Cards.{Card}
use Rattle.card_model.specs.Sessions.{Session}

-- A PIN's value and its unblocking value have eight bytes.
pub record HasEightBytes (pin : Pin) : Type 0 where
  pub value : length pin.value ≡ 8
  pub unblocking : length pin.unblocking ≡ 8

-- The files are a tree of at most eight levels, each with a valid access rule. No two DFs have one name, and no two EFs
-- of one DF have one short identifier. There are eight PINs.
pub record IsWellFormed (c : Card) : Type 0 where
  pub tree : IsTree c.tree
  pub levels : (path : Path) (file : File) → get c.tree path ≡ Some file → length path ≤ 7
  pub rules : (path : Path) (file : File) → get c.tree path ≡ Some file → IsTrue (is_rule file.rule)
  pub names : (one other : Path) (first second : File) (name : List ℕ) → get c.tree one ≡ Some first
      → get c.tree other ≡ Some second → first.kind ≡ dedicated (Some name) → second.kind ≡ dedicated (Some name)
      → one ≡ other
  pub shorts : (one other : Path) (first second : File) (short : ℕ) → get c.tree one ≡ Some first
      → get c.tree other ≡ Some second → parent one ≡ parent other → short_of first.kind ≡ Some short
      → short_of second.kind ≡ Some short → one ≡ other
  pub pins : length c.pins ≡ PINS
  pub values : All HasEightBytes c.pins

-- The current DF of a session is a DF of the tree. The current EF, if there is one, is an EF in that DF.
pub record HasCurrentFiles (tree : Tree) (s : Session) : Type 0 where
  pub df : IsTrue (exists tree s.current_df && is_dedicated (file_at tree s.current_df).kind)
  pub ef : IfSome s.current_ef (λ id. IsTrue (exists tree (s.current_df ++ id ∷ [])
      && not (is_dedicated (file_at tree (s.current_df ++ id ∷ [])).kind)))
