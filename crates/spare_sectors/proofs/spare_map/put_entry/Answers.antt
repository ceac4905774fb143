use Rattle.std.proofs.Common.{refl}
use Rattle.flash_device.specs.FlashLogs.{slot_of}
use Rattle.spare_sectors.specs.laws.SpareTurns.{mark_blank, mark_found, mark_leaves, mark_moves}
use Rattle.spare_sectors.specs.laws.SpareTurns.{number_leaves, number_moves}
use Rattle.spare_sectors.proofs.spare_map.put_entry.Goals as goal

pub returns-in_err-put_number-clause-moves : goal.returns-in_err-put_number-clause-moves
returns-in_err-put_number-clause-moves g c =
    number_moves g.D.MapDevice.SPARES c.args.entry c.args.sector (slot_of 0 c.args.entry) _ _ c.requires.below
    c.requires.free refl c.put_number.ensures.number

pub returns-in_err-put_number-clause-free : goal.returns-in_err-put_number-clause-free
returns-in_err-put_number-clause-free g c =
    number_leaves g.D.MapDevice.SPARES c.args.entry c.args.sector (slot_of 0 c.args.entry) _ _ c.requires.below
    c.requires.free refl c.put_number.ensures.number

pub put_mark-requires-clause-blank : goal.put_mark-requires-clause-blank
put_mark-requires-clause-blank g c =
    mark_blank g.D.MapDevice.SPARES c.args.entry c.args.sector (slot_of 0 c.args.entry) _ _ c.requires.below
    c.requires.free refl c.put_number.ensures.number

pub returns-clause-moves : goal.returns-clause-moves
returns-clause-moves g c =
    mark_moves g.D.MapDevice.SPARES c.args.entry c.args.sector (slot_of 0 c.args.entry) _ _ c.requires.below
    c.requires.free refl c.put_number.ensures.number _ c.in_ok-put_number.ensures.names c.put_mark.ensures.mark

pub returns-clause-free : goal.returns-clause-free
returns-clause-free g c =
    mark_leaves g.D.MapDevice.SPARES c.args.entry c.args.sector (slot_of 0 c.args.entry) _ _ c.requires.below
    c.requires.free refl c.put_number.ensures.number _ c.in_ok-put_number.ensures.names c.put_mark.ensures.mark

pub returns-clause-done : goal.returns-clause-done
returns-clause-done g c =
    mark_found g.D.MapDevice.SPARES c.args.entry c.args.sector (slot_of 0 c.args.entry) _ _ c.requires.below
    c.requires.free refl c.put_number.ensures.number _ c.in_ok-put_number.ensures.names c.put_mark.ensures.mark
    c.in_ok-put_mark.ensures.marked

pub returns-in_err-put_mark-clause-moves : goal.returns-in_err-put_mark-clause-moves
returns-in_err-put_mark-clause-moves g c =
    mark_moves g.D.MapDevice.SPARES c.args.entry c.args.sector (slot_of 0 c.args.entry) _ _ c.requires.below
    c.requires.free refl c.put_number.ensures.number _ c.in_ok-put_number.ensures.names c.put_mark.ensures.mark

pub returns-in_err-put_mark-clause-free : goal.returns-in_err-put_mark-clause-free
returns-in_err-put_mark-clause-free g c =
    mark_leaves g.D.MapDevice.SPARES c.args.entry c.args.sector (slot_of 0 c.args.entry) _ _ c.requires.below
    c.requires.free refl c.put_number.ensures.number _ c.in_ok-put_number.ensures.names c.put_mark.ensures.mark
