-- The card, and when it is proper (ISO/IEC 7816-4, clause 7; ETSI TS 102 221, clause 8).
use Rattle.std.specs.Prelude.{ℕ, Bool, List, ◌≡◌, ◌<◌, ◌≤◌, ◌*◌, length, All, Option, Some, None}
use Rattle.std.specs.FinMap.{insert, get}
use Rattle.card_model.specs.declared.space.FreeSpace.{FreeSpace}
use Rattle.card_model.specs.Spaces.{free_space}
use Rattle.card_model.specs.Requests.{AreBytes}
use Rattle.card_model.specs.Secrets.{HasFewTries}
pub use Rattle.card_model.specs.FileTrees.{Body, transparent, linear, cyclic, Kind, dedicated, elementary, File, Path}
pub use Rattle.card_model.specs.FileTrees.{Tree, master_file, parent, identifier, no_file, exists, file_at}
pub use Rattle.card_model.specs.FileTrees.{is_dedicated, is_transparent, file_bytes, with_bytes, overwrite, short_of}
pub use Rattle.card_model.specs.Secrets.{Pin}

-- The card (ISO/IEC 7816-4, clause 7; ETSI TS 102 221, clause 8).

-- PIN 1 is the first of the list. `in_use` becomes false with TERMINATE CARD USAGE. `blocks` is the number of blocks
-- for file contents after power-on.
pub record Card : Type 0 where
  pub tree : Tree
  pub pins : List Pin
  pub in_use : Bool
  pub blocks : ℕ

-- The free space of a card: blocks that no file takes up, and unused file entries.
abbrev pub card_space : Card → FreeSpace
card_space card = free_space card.blocks card.tree

-- The card with other bytes in the transparent EF at a path.
abbrev pub with_content : Card → Path → List ℕ → Card
with_content card path bytes =
    let file = file_at card.tree path in
    record card { tree = insert card.tree path (record file { kind = with_bytes file.kind bytes }) }

-- A well-formed card. Contents are bytes, and each record has the record length of its file. Each length, number and
-- short identifier is in its range.

-- A record of this length.
pub record IsRecord (long : ℕ) (text : List ℕ) : Type 0 where
  pub bytes : AreBytes text
  pub size : length text ≡ long

-- The bytes of a transparent EF, 1 to 32,767.
pub record IsContent (content : List ℕ) : Type 0 where
  pub bytes : AreBytes content
  pub some : 1 ≤ length content
  pub size : length content ≤ 32767

-- Records of one length, 1 to 255 bytes. Their number is at most the capacity, which is 1 to 254 records and at most
-- 32,767 bytes.
pub record AreRecords (long most : ℕ) (records : List (List ℕ)) : Type 0 where
  pub each : All (IsRecord long) records
  pub some : 1 ≤ long
  pub record_length : long ≤ 255
  pub room : most * long ≤ 32767
  pub least : 1 ≤ most
  pub capacity : most ≤ 254
  pub number : length records ≤ most

-- The content of a well-formed EF.
abbrev pub IsProperBody : Body → Type 0
IsProperBody (transparent bytes) = IsContent bytes
IsProperBody (linear record_length capacity records) = AreRecords record_length capacity records
IsProperBody (cyclic record_length capacity records) = AreRecords record_length capacity records

-- A name is 1 to 16 bytes.
pub record IsName (name : List ℕ) : Type 0 where
  pub bytes : AreBytes name
  pub some : 1 ≤ length name
  pub size : length name ≤ 16

abbrev pub IsProperName : Option (List ℕ) → Type 0
IsProperName None = Unit {0}
IsProperName (Some name) = IsName name

-- A short identifier is 1 to 30.
abbrev pub IsProperShort : Option ℕ → Type 0
IsProperShort None = Unit {0}
IsProperShort (Some n) = (1 ≤ n) × (n ≤ 30)

abbrev pub IsProperKind : Kind → Type 0
IsProperKind (dedicated name) = IsProperName name
IsProperKind (elementary short body) = IsProperShort short × IsProperBody body

-- An access rule is at most 8 bytes.
pub record IsProperFile (file : File) : Type 0 where
  pub rule : AreBytes file.rule
  pub rule_size : length file.rule ≤ 8
  pub kind : IsProperKind file.kind

-- A proper card: each file is proper, an identifier is two bytes, no PIN has too many tries left.
pub record IsProper (c : Card) : Type 0 where
  pub files : (path : Path) (file : File) → get c.tree path ≡ Some file → IsProperFile file
  pub identifiers : (path : Path) (file : File) → get c.tree path ≡ Some file → identifier path < 65536
  pub pins : All HasFewTries c.pins

-- An answer is 2 to 258 bytes: at most 256 bytes of data, SW1 and SW2.
pub record IsAnswer (answer : List ℕ) : Type 0 where
  pub at_least : 2 ≤ length answer
  pub at_most : length answer ≤ 258
  pub bytes : AreBytes answer
