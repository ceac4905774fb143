use Rattle.std.proofs.Common.{◌≡◌, ◌≤◌, ◌+◌, length, inr, arith}
use Rattle.flash_device.specs.laws.Marks.{puts_none, blank_slot, blank_part, blank_same}
use Rattle.flash_area.proofs.record.program_record.Goals as goal

pub returns-in_err-program-clause-puts : goal.returns-in_err-program-clause-puts
returns-in_err-program-clause-puts g c =
    let m = (g.F.Flash.state c.args.flash.now).words in
    let size : length c.args.words.now ≡ 18 = omega arith in
    puts_none _ _ c.args.words.now c.args.at size (blank_slot m c.args.at c.requires.blank) c.program.ensures.elsewhere

pub program_mark-requires-clause-blank : goal.program_mark-requires-clause-blank
program_mark-requires-clause-blank g c =
    let m = (g.F.Flash.state c.args.flash.now).words in
    let mid = (g.F.Flash.state c.program.new.self).words in
    let at = c.args.at in
    let size : length c.args.words.now ≡ 18 = omega arith in
    let past : at + length c.args.words.now ≤ at + 18 = omega (arith, size) in
    blank_same m mid (at + 18) 2 at (length c.args.words.now) c.program.ensures.elsewhere (inr past)
    (blank_part m at 20 18 2 c.requires.blank (omega arith))
