use Rattle.spare_sectors.specs.laws.SpareTurns.{number_blank, number_entry}
use Rattle.spare_sectors.proofs.spare_map.put_number.Goals as goal

pub program_map-requires-clause-run : goal.program_map-requires-clause-run
program_map-requires-clause-run g c =
    number_entry c.args.entry c.entry_at-at.result c.entry_at-at.ensures.is

pub program_map-requires-clause-blank : goal.program_map-requires-clause-blank
program_map-requires-clause-blank g c =
    number_blank g.D.MapDevice.SPARES c.args.entry c.entry_at-at.result _ c.requires.below c.requires.free
    c.entry_at-at.ensures.is
