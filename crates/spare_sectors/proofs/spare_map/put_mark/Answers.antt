use Rattle.std.proofs.Common.{◌≡◌, ◌+◌, ℕ, true, slice_index, ap, subst, ◌∙◌, arith}
use Rattle.flash_device.specs.FlashLogs.{is_marked}
use Rattle.flash_device.specs.laws.Marks.{mark_words}
use Rattle.spare_sectors.specs.laws.SpareTurns.{mark_entry}
use Rattle.spare_sectors.proofs.spare_map.put_mark.Goals as goal

pub program_map-requires-clause-run : goal.program_map-requires-clause-run
program_map-requires-clause-run g c =
    mark_entry c.args.entry c.entry_at-at.result c.entry_at-at.ensures.is

pub returns-clause-marked : goal.returns-clause-marked
returns-clause-marked g c =
    let after = (g.D.MapDevice.state c.program_map.new.self).map in
    let at = c.entry_at-at.result in
    let first : at + 18 ≡ at + 18 + 0 = omega arith in
    let marked : is_marked after (at + 18) ≡ true =
    mark_words after (at + 18)
    (ap (λ (k : ℕ). slice_index after k) first ∙ c.in_ok-program_map.ensures.done.each 0 (omega arith))
    (c.in_ok-program_map.ensures.done.each 1 (omega arith)) in
    subst (λ (k : ℕ). is_marked after (k + 18) ≡ true) c.entry_at-at.ensures.is marked
