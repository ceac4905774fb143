use Rattle.std.proofs.Common.{sym, ◌∙◌, ap, subst}
use Rattle.std.specs.Prelude.{None, Err, true, ◌+◌}
use Rattle.nvm_board.specs.declared.board.DeviceErr.TheVariants.{PowerLost}
use Rattle.nvm_board.specs.Facts.{Facts, address}
use Rattle.nvm_board.specs.BoardCalls.{Writes}
use Rattle.simulated_boards.proofs.ArmedFlash.{fallen_behind, fallen_within}
use Rattle.simulated_boards.proofs.WithArm.{with_arm}
use Rattle.simulated_boards.proofs.cut_flash_board.CutFlashBoard.write_cut.Goals as goal

pub returns-then-is_ok-clause-writes : goal.returns-then-is_ok-clause-writes
returns-then-is_ok-clause-writes g c =
    let old = g.B.Board.facts c.args.self.now.board in
    let first = g.B.Board.facts c.set_operation.new.board in
    let new = g.B.Board.facts c.write-ended.new.self in
    let at = address c.args.page c.args.first in
    let run = c.args.words.now in
    let a = c.args.self.now.arm in
    let unmasked = g.met.B.CutSocket.unmasked c.args.self.now.board in
    let told = subst (λ (f : Facts). Writes at run f new c.write-ended.result) c.set_operation.ensures.same
    c.write-ended.ensures in
    let last = c.lose_power.ensures
    ∙ ap (λ (f : Facts). record f { dark = true; cuts = f.cuts + 1 }) c.clear_cut.ensures in
    subst (λ (f : Facts). Writes {T = Unit {0}} at run (with_arm a old) (with_arm None f) (Err PowerLost))
    (sym last)
    (fallen_behind at run a c.args.mask first.due old new c.write-ended.result unmasked c.requires.fires c.requires.lit
    (sym c.is_ok.ensures.value ∙ c.if-is_ok.true) told)

pub returns-else-is_ok-clause-writes : goal.returns-else-is_ok-clause-writes
returns-else-is_ok-clause-writes g c =
    let old = g.B.Board.facts c.args.self.now.board in
    let first = g.B.Board.facts c.set_operation.new.board in
    let new = g.B.Board.facts c.write-ended.new.self in
    let at = address c.args.page c.args.first in
    let run = c.args.words.now in
    let a = c.args.self.now.arm in
    let unmasked = g.met.B.CutSocket.unmasked c.args.self.now.board in
    let told = subst (λ (f : Facts). Writes at run f new c.write-ended.result) c.set_operation.ensures.same
    c.write-ended.ensures in
    let fine = sym (ap (λ (f : Facts). f.faults) c.clear_cut.ensures) ∙ c.has_no_fault.ensures in
    subst (λ (f : Facts). Writes {T = Unit {0}} at run (with_arm a old) (with_arm None f) (Err PowerLost))
    (sym c.clear_cut.ensures)
    (fallen_within at run a c.args.mask first.due old new c.write-ended.result unmasked c.requires.fires c.requires.lit
    (sym c.is_ok.ensures.value ∙ c.if-is_ok.false) fine told)
