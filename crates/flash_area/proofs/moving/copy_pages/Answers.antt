use Rattle.std.proofs.Common.{◌≡◌, ◌<◌, refl, sym, ◌∙◌, arith}
use Rattle.flash_device.specs.FlashLogs.{base_in}
use Rattle.flash_area.specs.laws.Copying.{SameArea, area_found, copied_none, copied_more, other_area}
use Rattle.flash_area.specs.laws.Holding.{none_held}
use Rattle.flash_area.proofs.moving.copy_pages.Goals as goal

pub loop-page-init : goal.loop-page-init
loop-page-init g c =
    let slots = g.F.Flash.SLOTS in
    let pages = g.F.Flash.PAGES in
    let m = (g.F.Flash.state c.args.flash.now).words in record {
      lit = c.requires.lit;
      steady = record { lit = c.requires.lit; due = refl; faults = omega arith };
      operations = omega arith;
      erases = refl;
      passes = omega arith;
      have = λ none. none_held pages slots m (base_in slots c.args.to);
      copied = copied_none slots m (g.F.Table.PageTable.entries c.args.table.now) (base_in slots c.args.from)
          (base_in slots c.args.to) c.requires.free;
    }

pub copy_page-requires-clause-entry : goal.copy_page-requires-clause-entry
copy_page-requires-clause-entry g c =
    let slots = g.F.Flash.SLOTS in
    let pages = g.F.Flash.PAGES in
    let m = (g.F.Flash.state c.args.flash.now).words in
    let mid = (g.F.Flash.state c.loop-page.flash).words in
    let from = base_in slots c.args.from in
    let has = c.loop-page.invariant.copied in
    let page = c.loop-page.page in
    let same : SameArea slots m mid from =
    other_area slots m mid c.args.from c.args.to c.requires.areas has.elsewhere in
    let lt : page < pages = omega arith in
    has.kept page (omega arith) ∙ c.requires.index.each page lt ∙ sym (area_found slots m mid from same page)

pub loop-page-preserved : goal.loop-page-preserved
loop-page-preserved g c =
    let slots = g.F.Flash.SLOTS in
    let m = (g.F.Flash.state c.args.flash.now).words in
    let mid = (g.F.Flash.state c.loop-page.flash).words in
    let after = (g.F.Flash.state c.copy_page.new.flash).words in
    let from = base_in slots c.args.from in
    let to = base_in slots c.args.to in
    let has = c.loop-page.invariant.copied in
    let page = c.loop-page.page in
    let same : SameArea slots m mid from =
    other_area slots m mid c.args.from c.args.to c.requires.areas has.elsewhere in
    let lit = c.in_ok-next.ensures.light.ok refl in
    let entries = g.F.Table.PageTable.entries in
    record {
      lit = lit.lit;
      steady = record {
        lit = lit.lit;
        due = lit.due ∙ c.loop-page.invariant.steady.due;
        faults = omega (arith, lit.faults, c.loop-page.invariant.steady.faults);
      };
      operations = omega (arith, c.loop-page.invariant.operations, c.copy_page.ensures.work.operations);
      erases = c.copy_page.ensures.erases ∙ c.loop-page.invariant.erases;
      passes = omega (arith, c.loop-page.invariant.passes, c.in_ok-next.ensures.passes);
      have = λ none.
          let before = c.loop-page.invariant.steady.faults in
          let still : (g.F.Flash.state c.loop-page.flash).faults ≡ (g.F.Flash.state c.args.flash.now).faults =
          omega (arith, none, before, lit.faults) in
          c.in_ok-next.ensures.have (none ∙ sym still) (c.loop-page.invariant.have still);
      copied = copied_more slots m (entries c.args.table.now) mid (entries c.loop-page.table) from to page
          c.loop-page.next has after (entries c.copy_page.new.table) c.in_ok-next.next
          c.copy_page.ensures.elsewhere c.in_ok-next.ensures.copies c.in_ok-next.ensures.more same;
    }
