-- The P1 of each selection method of SELECT (ISO/IEC 7816-4, 11.2.2).
use Rattle.std.specs.Prelude.{ℕ}
use Rattle.apdu_core.specs.declared.select.Way.{Way}
use Rattle.apdu_core.specs.declared.select.Way.TheVariants.{ByIdentifier, ToParent, ByName}
use Rattle.apdu_core.specs.declared.select.Way.TheVariants.{DownFromMaster, DownFromCurrent}

abbrev pub way_byte : Way → ℕ
way_byte ByIdentifier = 0x00
way_byte ToParent = 0x03
way_byte ByName = 0x04
way_byte DownFromMaster = 0x08
way_byte DownFromCurrent = 0x09
