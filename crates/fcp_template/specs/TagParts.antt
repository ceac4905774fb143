-- The tag bytes of file control parameters (ISO/IEC 7816-4, 7.4.3).
use Rattle.std.specs.Prelude.{ℕ}
use Rattle.fcp_template.specs.declared.tag.Tag.{Tag}
use Rattle.fcp_template.specs.declared.tag.Tag.TheVariants.{FileDescriptor, FileIdentifier, Name, ShortFileIdentifier}
use Rattle.fcp_template.specs.declared.tag.Tag.TheVariants.{DataBytes, LifeCycleStatus, CompactRule}

-- the tags of the parameters that the card reads or writes
abbrev pub tag_byte : Tag → ℕ
tag_byte FileDescriptor = 0x82
tag_byte FileIdentifier = 0x83
tag_byte Name = 0x84
tag_byte ShortFileIdentifier = 0x88
tag_byte DataBytes = 0x80
tag_byte LifeCycleStatus = 0x8A
tag_byte CompactRule = 0x8C
