use Rattle.std.proofs.Common.{◌*◌, ◌≤◌, ◌<◌, ◌+◌, ℕ, inr, refl, sym, ap, ◌∙◌, arith}
use Rattle.flash_device.specs.declared.flash.TheConstants.{BLANK}
use Rattle.flash_device.specs.FlashCalls.{AreFilled}
use Rattle.flash_device.specs.FlashLogs.{base_in, is_closed as has_closed}
use Rattle.flash_area.specs.laws.Copying.{SameArea, area_found, area_page}
use Rattle.flash_device.specs.laws.Marks.{closed_same}
use Rattle.flash_area.specs.laws.Erased.{is_area, erased_free, erased_open}
use Rattle.flash_moves.specs.laws.Moving.{whole_area}
use Rattle.flash_device.specs.FlashBlocks.{area_size}
use Rattle.flash_moves.proofs.turns.erase_and_copy.Goals as goal

pub copy_pages-requires-clause-index : goal.copy_pages-requires-clause-index
copy_pages-requires-clause-index g c =
    let slots = g.F.Flash.SLOTS in
    let pages = g.F.Flash.PAGES in
    let m = (g.F.Flash.state c.args.flash.now).words in
    let mid = (g.F.Flash.state c.erase_area.new.flash).words in
    let to = c.args.to in
    let same : SameArea slots m mid (base_in slots c.args.from) =
    whole_area pages slots m mid c.args.from to c.requires.areas c.erase_area.ensures.elsewhere in
    record {
      each = λ p lt. c.requires.index.each p lt
          ∙ sym (area_found slots m mid (base_in slots c.args.from) same p);
    }

pub copy_pages-requires-clause-free : goal.copy_pages-requires-clause-free
copy_pages-requires-clause-free g c =
    let slots = g.F.Flash.SLOTS in
    let pages = g.F.Flash.PAGES in
    let mid = (g.F.Flash.state c.erase_area.new.flash).words in
    let to = c.args.to in
    erased_free pages slots mid (base_in slots to) c.in_ok-erase_area.ensures.done

pub returns-clause-open : goal.returns-clause-open
returns-clause-open g c =
    let slots = g.F.Flash.SLOTS in
    let pages = g.F.Flash.PAGES in
    let mid = (g.F.Flash.state c.erase_area.new.flash).words in
    let after = (g.F.Flash.state c.copy_pages.new.flash).words in
    let to = c.args.to in
    let small : to < 2 = omega (arith, c.requires.areas) in
    let area = is_area pages slots to small in
    let all : AreFilled mid (base_in slots to) (area_size slots) BLANK = c.in_ok-erase_area.ensures.done in
    let past : base_in slots to + (20 * slots) ≤ base_in slots to + (20 * slots) = omega arith in
    ap (λ (k : ℕ). has_closed after k) area.close
    ∙ closed_same mid after (base_in slots to + (20 * slots)) (base_in slots to)
    (20 * slots) c.copy_pages.ensures.elsewhere (inr past)
    ∙ erased_open pages slots mid (base_in slots to) all

pub returns-clause-pages : goal.returns-clause-pages
returns-clause-pages g c =
    let slots = g.F.Flash.SLOTS in
    let pages = g.F.Flash.PAGES in
    let m = (g.F.Flash.state c.args.flash.now).words in
    let mid = (g.F.Flash.state c.erase_area.new.flash).words in
    let to = c.args.to in
    let same : SameArea slots m mid (base_in slots c.args.from) =
    whole_area pages slots m mid c.args.from to c.requires.areas c.erase_area.ensures.elsewhere in
    λ p k lt few. c.in_ok-next.ensures.copied.words p k lt few
    ∙ area_page slots m mid (base_in slots c.args.from) same p k few

pub returns-clause-have : goal.returns-clause-have
returns-clause-have g c = λ none.
    let erased = (c.in_ok-erase_area.ensures.light.ok refl).faults in
    c.in_ok-next.ensures.have (none ∙ sym erased)
