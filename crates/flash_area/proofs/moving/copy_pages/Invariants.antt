use Rattle.std.proofs.Common.{◌≡◌, ◌≤◌, ◌+◌, ◌*◌, false}
use Rattle.flash_area.specs.PageCopies.{HasCopied}
use Rattle.flash_device.specs.FlashCalls.{KeepsPower}
use Rattle.flash_device.specs.FlashLogs.{base_in}
use Rattle.flash_area.specs.HeldPages.{HavePages}
use Rattle.flash_area.proofs.moving.copy_pages.Given as goal

abbrev pub invariant-loop-page : goal.invariant-loop-page
invariant-loop-page g l = let old = g.F.Flash.state l.initial.flash in let new = g.F.Flash.state l.flash in record {
  lit : new.dark ≡ false;
  steady : KeepsPower old new;
  operations : new.operations + 2 * old.faults ≤ old.operations + 2 * l.page + 2 * new.faults;
  erases : new.erases ≡ old.erases;
  passes : l.next + old.faults ≤ l.page + new.faults;
  have : new.faults ≡ old.faults
      → HavePages g.F.Flash.PAGES g.F.Flash.SLOTS new.words (base_in g.F.Flash.SLOTS l.to) l.next;
  copied : HasCopied g.F.Flash.SLOTS old.words (g.F.Table.PageTable.entries l.initial.table)
      (base_in g.F.Flash.SLOTS l.from) (base_in g.F.Flash.SLOTS l.to) l.page new.words
      (g.F.Table.PageTable.entries l.table) l.next;
}
