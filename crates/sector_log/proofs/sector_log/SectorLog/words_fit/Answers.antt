use Rattle.std.proofs.Common.{length, sym, ap, subst, ◌∙◌}
use Rattle.nvm_board.specs.Facts.{AreWords, IsMemory}
use Rattle.nvm_board.specs.laws.Sizes.{memory_of_pages}
use Rattle.flash_device.specs.FlashLogs.{words_of}
use Rattle.flash_area.specs.laws.Words.{length-words}
use Rattle.flash_moves.specs.laws.Lighting.{words_fit}
use Rattle.sector_log.specs.SectorLogs.{SectorLogState}
use Rattle.sector_log.proofs.sector_log.SectorLog.words_fit.Goals as goal

pub returns-clause-size : goal.returns-clause-size
returns-clause-size g c =
    let slots = g.F.Flash.SLOTS in
    let pages = g.F.Flash.PAGES in
    let m = (g.F.Flash.state c.self.inside.flash).words in
    ap (λ (s : SectorLogState). length s.flash.words) (sym c.self.view_is) ∙ length-words pages slots m

pub returns-clause-memory : goal.returns-clause-memory
returns-clause-memory g c =
    let slots = g.F.Flash.SLOTS in
    let pages = g.F.Flash.PAGES in
    let m = (g.F.Flash.state c.self.inside.flash).words in
    let fits = g.met.F.Flash.pages_fit in
    subst (λ (s : SectorLogState). IsMemory s.flash.words) c.self.view_is
    (memory_of_pages (words_of pages slots m) pages fits.0 fits.1 (length-words pages slots m)).0

pub returns-clause-fit : goal.returns-clause-fit
returns-clause-fit g c =
    let slots = g.F.Flash.SLOTS in
    let pages = g.F.Flash.PAGES in
    let flash = c.self.inside.flash in
    let m = (g.F.Flash.state flash).words in
    subst (λ (s : SectorLogState). AreWords s.flash.words) c.self.view_is
    (words_fit pages slots m (g.met.F.Flash.sized flash) (g.met.F.Flash.words_fit flash))
