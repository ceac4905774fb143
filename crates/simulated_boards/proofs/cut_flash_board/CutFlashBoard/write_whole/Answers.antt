use Rattle.std.specs.Prelude.{◌<◌}
use Rattle.std.proofs.Common.{arith}
use Rattle.nvm_board.specs.Facts.{address}
use Rattle.simulated_boards.proofs.ArmedFlash.{spared_counted, spared_uncounted}
use Rattle.simulated_boards.proofs.cut_flash_board.CutFlashBoard.write_whole.Goals as goal

pub returns-then-write_count-before : goal.returns-then-write_count-before
returns-then-write_count-before g c =
    let old = g.B.Board.facts c.args.self.now.board in
    let new = g.B.Board.facts c.write-ended.new.self in
    let before = c.write_count-before.ensures in
    let behind = c.write_count.ensures in
    let more : old.writes < new.writes = omega (arith, before, behind, c.if-write_count-before.true) in
    spared_counted (address c.args.page c.args.first) c.args.words.now c.args.self.now.arm c.nearer-self.result old new
    c.write-ended.result c.args.self.now.uncut c.nearer-self.ensures.due c.nearer-self.ensures.none
    c.nearer-self.ensures.before c.requires.spared more c.write-ended.ensures

pub returns-else-write_count-before : goal.returns-else-write_count-before
returns-else-write_count-before g c =
    let old = g.B.Board.facts c.args.self.now.board in
    let new = g.B.Board.facts c.write-ended.new.self in
    let before = c.write_count-before.ensures in
    let behind = c.write_count.ensures in
    let none : ¬ (old.writes < new.writes) =
    λ more. omega (arith, before, behind, c.if-write_count-before.false, more) in
    spared_uncounted (address c.args.page c.args.first) c.args.words.now c.args.self.now.arm old new
    c.write-ended.result c.args.self.now.uncut none c.write-ended.ensures
