use Rattle.std.proofs.Common.{◌≡◌, ℕ, refl, sym, ap, inl, inr, subst, ◌∙◌, arith}
use Rattle.flash_device.specs.FlashBlocks.{area_size}
use Rattle.flash_device.specs.FlashLogs.{base_in, words_of}
use Rattle.flash_device.specs.PageTables.{AreFree, IsPageTable}
use Rattle.flash_area.specs.laws.Copying.{SameArea, area_free}
use Rattle.flash_moves.specs.laws.Moving.{witness_area}
use Rattle.flash_moves.specs.laws.Sparing.{area_home, index_same, spare_none}
use Rattle.flash_moves.specs.laws.Losing.{witness_free, witness_in_pace}
use Rattle.flash_moves.specs.laws.Pacing.{free_of, stepped_on}
use Rattle.flash_moves.proofs.ahead.pass_on.Goals as goal

pub pass_witness-requires-clause-turn : goal.pass_witness-requires-clause-turn
pass_witness-requires-clause-turn g c =
    let known = c.requires.log.known c.requires.ready in
    sym known.turn ∙ c.requires.turn

pub returns-clause-log : goal.returns-clause-log
returns-clause-log g c =
    let slots = g.F.Flash.SLOTS in
    let pages = g.F.Flash.PAGES in
    let entries = g.F.Table.PageTable.entries in
    let m = (g.F.Flash.state c.args.flash.now).words in
    let after = (g.F.Flash.state c.pass_witness.new.flash).words in
    let place = c.args.place.now in
    let known = c.requires.log.known c.requires.ready in
    let fit = g.met.F.Flash.sectors_fit in
    let home : base_in slots place.turn ≡ area_size slots = ap (base_in slots) c.requires.turn in
    let area : SameArea slots m after (area_size slots) =
    witness_area pages slots m after c.pass_witness.ensures.area in
    record {
      ring = c.pass_witness.ensures.ring;
      passed =
          let passed = c.requires.log.passed in
          let free = free_of pages slots g.F.Flash.SECTORS place c.requires.ready in
          omega (arith, passed, free);
      known = λ _. record {
        turn = sym c.in_ok-pass_witness.ensures.done;
        small = omega arith;
        index = index_same slots pages m after (entries place.table) (area_size slots) area
            (subst (λ (b : ℕ). IsPageTable pages m b slots (entries place.table)) home known.index);
        free = area_free slots m after (area_size slots) area place.next
            (subst (λ (b : ℕ). AreFree m b place.next slots) home known.free);
        spare = spare_none pages slots g.F.Flash.SECTORS g.F.Flash.sector_start g.met.F.Flash.sectors_rise fit.0 fit.1
            fit.2 fit.4 g.met.F.Flash.pages_fit.0 after (words_of pages slots after) 2;
      };
    }

pub returns-in_err-pass_witness-clause-stands : goal.returns-in_err-pass_witness-clause-stands
returns-in_err-pass_witness-clause-stands g c = λ extra pace.
    let slots = g.F.Flash.SLOTS in
    let pages = g.F.Flash.PAGES in
    let m = (g.F.Flash.state c.args.flash.now).words in
    let after = (g.F.Flash.state c.pass_witness.new.flash).words in
    let fit = g.met.F.Flash.sectors_fit in
    inr (
      refl,
      witness_in_pace pages slots g.F.Flash.SECTORS extra g.F.Flash.sector_start g.met.F.Flash.sectors_rise
          fit.0 fit.1 fit.2 fit.4 g.met.F.Flash.pages_fit.0 g.F.Table.PageTable.entries m after c.args.place.now
          (c.requires.log.known c.requires.ready) c.requires.turn
          (witness_area pages slots m after c.pass_witness.ensures.area)
          c.pass_witness.ensures.passes pace,
    )

pub returns-clause-stands : goal.returns-clause-stands
returns-clause-stands g c = λ extra pace.
    let spare = (c.requires.log.known c.requires.ready).spare in
    let erased : c.args.place.now.erased ≡ 0 = spare.idle c.requires.turn in
    let some_sectors = g.met.F.Flash.sectors_fit.4 in
    let fresh = spare.fresh (omega (arith, erased, some_sectors)) in
    inl (stepped_on g.F.Flash.PAGES g.F.Flash.SLOTS g.F.Flash.SECTORS extra c.args.place.now c.requires.turn erased
    fresh.0 pace)

pub returns-in_err-pass_witness-clause-keeps_free : goal.returns-in_err-pass_witness-clause-keeps_free
returns-in_err-pass_witness-clause-keeps_free g c = λ n far.
    let m = (g.F.Flash.state c.args.flash.now).words in
    let after = (g.F.Flash.state c.pass_witness.new.flash).words in
    let known = c.requires.log.known c.requires.ready in
    witness_free g.F.Flash.PAGES g.F.Flash.SLOTS m after n (sym known.turn ∙ c.requires.turn)
    c.pass_witness.ensures.area c.pass_witness.ensures.passes

pub returns-clause-keeps_free : goal.returns-clause-keeps_free
returns-clause-keeps_free g c = λ n far.
    let m = (g.F.Flash.state c.args.flash.now).words in
    let after = (g.F.Flash.state c.pass_witness.new.flash).words in
    let known = c.requires.log.known c.requires.ready in
    witness_free g.F.Flash.PAGES g.F.Flash.SLOTS m after n (sym known.turn ∙ c.requires.turn)
    c.pass_witness.ensures.area c.pass_witness.ensures.passes

pub returns-in_err-pass_witness-clause-keeps_room : goal.returns-in_err-pass_witness-clause-keeps_room
returns-in_err-pass_witness-clause-keeps_room g c = λ n far.
    let m = (g.F.Flash.state c.args.flash.now).words in
    let after = (g.F.Flash.state c.pass_witness.new.flash).words in
    let known = c.requires.log.known c.requires.ready in
    witness_free g.F.Flash.PAGES g.F.Flash.SLOTS m after n (sym known.turn ∙ c.requires.turn)
    c.pass_witness.ensures.area c.pass_witness.ensures.passes

pub returns-clause-keeps_room : goal.returns-clause-keeps_room
returns-clause-keeps_room g c = λ n far.
    let m = (g.F.Flash.state c.args.flash.now).words in
    let after = (g.F.Flash.state c.pass_witness.new.flash).words in
    let known = c.requires.log.known c.requires.ready in
    witness_free g.F.Flash.PAGES g.F.Flash.SLOTS m after n (sym known.turn ∙ c.requires.turn)
    c.pass_witness.ensures.area c.pass_witness.ensures.passes

pub returns-in_err-pass_witness-clause-home : goal.returns-in_err-pass_witness-clause-home
returns-in_err-pass_witness-clause-home g c =
    let slots = g.F.Flash.SLOTS in
    let m = (g.F.Flash.state c.args.flash.now).words in
    let after = (g.F.Flash.state c.pass_witness.new.flash).words in
    let known = c.requires.log.known c.requires.ready in
    let one : base_in slots c.args.place.now.turn ≡ area_size slots = ap (base_in slots) c.requires.turn in
    area_home slots m after c.args.place.now.turn known.turn
    (subst (SameArea slots m after) (sym one)
    (witness_area g.F.Flash.PAGES slots m after c.pass_witness.ensures.area))

pub returns-clause-home : goal.returns-clause-home
returns-clause-home g c =
    let slots = g.F.Flash.SLOTS in
    let m = (g.F.Flash.state c.args.flash.now).words in
    let after = (g.F.Flash.state c.pass_witness.new.flash).words in
    let known = c.requires.log.known c.requires.ready in
    let one : base_in slots c.args.place.now.turn ≡ area_size slots = ap (base_in slots) c.requires.turn in
    area_home slots m after c.args.place.now.turn known.turn
    (subst (SameArea slots m after) (sym one)
    (witness_area g.F.Flash.PAGES slots m after c.pass_witness.ensures.area))
