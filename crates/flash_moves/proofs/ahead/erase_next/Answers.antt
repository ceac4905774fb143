use Rattle.std.proofs.Common.{◌≡◌, ◌+◌, ◌-◌, ℕ, refl, sym, subst, inl, inr, ◌∙◌, true≢false, arith}
use Rattle.flash_device.specs.declared.flash.TheConstants.{BLANK}
use Rattle.flash_device.specs.FlashBlocks.{area_size}
use Rattle.flash_device.specs.FlashCalls.{AreFilled, SameElsewhere}
use Rattle.flash_device.specs.FlashLogs.{base_in, words_of}
use Rattle.flash_area.specs.Spares.{spare_in, spare_sector}
use Rattle.flash_area.specs.laws.Copying.{area_free}
use Rattle.flash_moves.specs.laws.Moving.{Stays}
use Rattle.flash_moves.specs.Paces.{KeepsHome}
use Rattle.flash_moves.specs.laws.Sparing.{area_home, index_same, sector_within, spare_leaves, spare_more, spare_stays}
use Rattle.flash_moves.specs.laws.Losing.{erase_in_pace}
use Rattle.flash_moves.specs.laws.Pacing.{free_of, stepped_erased}
use Rattle.flash_moves.proofs.ahead.erase_next.Given.{Over}
use Rattle.flash_moves.proofs.ahead.erase_next.Goals.{After-erase}
use Rattle.flash_moves.proofs.ahead.erase_next.Goals as goal

pub returns-clause-log : goal.returns-clause-log
returns-clause-log g c =
    let slots = g.F.Flash.SLOTS in
    let pages = g.F.Flash.PAGES in
    let entries = g.F.Table.PageTable.entries in
    let sectors = g.F.Flash.SECTORS in
    let start = g.F.Flash.sector_start in
    let rise = g.met.F.Flash.sectors_rise in
    let fit = g.met.F.Flash.sectors_fit in
    let m = (g.F.Flash.state c.args.flash.now).words in
    let after = (g.F.Flash.state c.erase.new.self).words in
    let place = c.args.place.now in
    let turn = place.turn in
    let sector = c.first_sector_of_spare.result in
    let number : sector ≡ spare_sector sectors turn = c.first_sector_of_spare.ensures.is in
    let known = c.requires.log.known c.requires.ready in
    let run : SameElsewhere m (start (spare_sector sectors turn + place.erased))
    (start (spare_sector sectors turn + place.erased + 1) - start (spare_sector sectors turn + place.erased)) after =
    subst (λ (s : ℕ). SameElsewhere m (start (s + place.erased))
    (start (s + place.erased + 1) - start (s + place.erased)) after) number c.erase.ensures.elsewhere in
    let done : AreFilled after (start (spare_sector sectors turn + place.erased))
    (start (spare_sector sectors turn + place.erased + 1) - start (spare_sector sectors turn + place.erased)) BLANK =
    subst (λ (s : ℕ). AreFilled after (start (s + place.erased))
    (start (s + place.erased + 1) - start (s + place.erased)) BLANK) number c.in_ok-erase.ensures.done in
    let within : SameElsewhere m (spare_in slots turn) (area_size slots) after =
    sector_within pages slots sectors start rise fit.0 fit.1 fit.2 fit.4 m after turn place.erased c.requires.moves.1
    run in
    let stays : Stays pages slots m after =
    spare_stays pages slots m after turn c.requires.log.ring known.turn known.small c.requires.moves.0 within in
    let area = spare_leaves slots m after turn within in
    let base = base_in slots turn in
    record {
      ring = stays.ring;
      passed =
          let passed = c.requires.log.passed in
          let free = free_of pages slots sectors place c.requires.ready in
          omega (arith, passed, free);
      known = λ _. record {
        turn = known.turn ∙ sym stays.turn;
        small = known.small;
        index = index_same slots pages m after (entries place.table) base area known.index;
        free = area_free slots m after base area place.next known.free;
        spare = spare_more pages slots sectors start rise fit.0 fit.1 fit.2 fit.4 m after (words_of pages slots m)
            (words_of pages slots after) turn place.erased place.copied place.behind place.older c.requires.moves.0
            c.requires.moves.1 known.spare run done;
      };
    }

-- only the other area changes, whether the sector is erased or torn
erase_elsewhere : (g : Over) (c : After-erase g)
    → SameElsewhere (g.F.Flash.state c.args.flash.now).words (spare_in g.F.Flash.SLOTS c.args.place.now.turn)
    (area_size g.F.Flash.SLOTS) (g.F.Flash.state c.erase.new.self).words
erase_elsewhere g c =
    let slots = g.F.Flash.SLOTS in
    let pages = g.F.Flash.PAGES in
    let sectors = g.F.Flash.SECTORS in
    let start = g.F.Flash.sector_start in
    let rise = g.met.F.Flash.sectors_rise in
    let fit = g.met.F.Flash.sectors_fit in
    let m = (g.F.Flash.state c.args.flash.now).words in
    let after = (g.F.Flash.state c.erase.new.self).words in
    let place = c.args.place.now in
    let run : SameElsewhere m (start (spare_sector sectors place.turn + place.erased))
    (start (spare_sector sectors place.turn + place.erased + 1)
    - start (spare_sector sectors place.turn + place.erased)) after =
    subst (λ (s : ℕ). SameElsewhere m (start (s + place.erased))
    (start (s + place.erased + 1) - start (s + place.erased)) after) c.first_sector_of_spare.ensures.is
    c.erase.ensures.elsewhere in
    sector_within pages slots sectors start rise fit.0 fit.1 fit.2 fit.4 m after place.turn place.erased
    c.requires.moves.1 run

-- so the words are the same
erase_words : (g : Over) (c : After-erase g)
    → words_of g.F.Flash.PAGES g.F.Flash.SLOTS (g.F.Flash.state c.erase.new.self).words
    ≡ words_of g.F.Flash.PAGES g.F.Flash.SLOTS (g.F.Flash.state c.args.flash.now).words
erase_words g c =
    let known = c.requires.log.known c.requires.ready in
    let stays : Stays g.F.Flash.PAGES g.F.Flash.SLOTS (g.F.Flash.state c.args.flash.now).words
    (g.F.Flash.state c.erase.new.self).words =
    spare_stays g.F.Flash.PAGES g.F.Flash.SLOTS (g.F.Flash.state c.args.flash.now).words
    (g.F.Flash.state c.erase.new.self).words c.args.place.now.turn c.requires.log.ring known.turn known.small
    c.requires.moves.0 (erase_elsewhere g c) in
    stays.words

-- and so are the slots that are free
erase_home : (g : Over) (c : After-erase g)
    → KeepsHome g.F.Flash.SLOTS (g.F.Flash.state c.args.flash.now).words (g.F.Flash.state c.erase.new.self).words
erase_home g c =
    let slots = g.F.Flash.SLOTS in
    let m = (g.F.Flash.state c.args.flash.now).words in
    let after = (g.F.Flash.state c.erase.new.self).words in
    let turn = c.args.place.now.turn in
    area_home slots m after turn (c.requires.log.known c.requires.ready).turn
    (spare_leaves slots m after turn (erase_elsewhere g c))

pub returns-clause-home : goal.returns-clause-home
returns-clause-home g c = erase_home g (goal.at.returns-clause-home g c).After-erase

pub returns-in_err-erase-clause-home : goal.returns-in_err-erase-clause-home
returns-in_err-erase-clause-home g c = erase_home g (goal.at.returns-in_err-erase-clause-home g c).After-erase

pub returns-clause-words : goal.returns-clause-words
returns-clause-words g c = erase_words g (goal.at.returns-clause-words g c).After-erase

pub returns-in_err-erase-clause-words : goal.returns-in_err-erase-clause-words
returns-in_err-erase-clause-words g c = erase_words g (goal.at.returns-in_err-erase-clause-words g c).After-erase

pub returns-in_err-erase-clause-log : goal.returns-in_err-erase-clause-log
returns-in_err-erase-clause-log g c =
    let slots = g.F.Flash.SLOTS in
    let pages = g.F.Flash.PAGES in
    let sectors = g.F.Flash.SECTORS in
    let start = g.F.Flash.sector_start in
    let rise = g.met.F.Flash.sectors_rise in
    let fit = g.met.F.Flash.sectors_fit in
    let m = (g.F.Flash.state c.args.flash.now).words in
    let after = (g.F.Flash.state c.erase.new.self).words in
    let place = c.args.place.now in
    let known = c.requires.log.known c.requires.ready in
    let run : SameElsewhere m (start (spare_sector sectors place.turn + place.erased))
    (start (spare_sector sectors place.turn + place.erased + 1)
    - start (spare_sector sectors place.turn + place.erased)) after =
    subst (λ (s : ℕ). SameElsewhere m (start (s + place.erased))
    (start (s + place.erased + 1) - start (s + place.erased)) after) c.first_sector_of_spare.ensures.is
    c.erase.ensures.elsewhere in
    let stays : Stays pages slots m after =
    spare_stays pages slots m after place.turn c.requires.log.ring known.turn known.small c.requires.moves.0
    (sector_within pages slots sectors start rise fit.0 fit.1 fit.2 fit.4 m after place.turn place.erased
    c.requires.moves.1 run) in
    record {
      ring = stays.ring;
      passed = let passed = c.requires.log.passed in omega (arith, passed);
      known = λ e. absurd (true≢false (sym e));
    }

pub returns-in_err-erase-clause-stands : goal.returns-in_err-erase-clause-stands
returns-in_err-erase-clause-stands g c = λ extra pace.
    let slots = g.F.Flash.SLOTS in
    let pages = g.F.Flash.PAGES in
    let sectors = g.F.Flash.SECTORS in
    let start = g.F.Flash.sector_start in
    let rise = g.met.F.Flash.sectors_rise in
    let fit = g.met.F.Flash.sectors_fit in
    let m = (g.F.Flash.state c.args.flash.now).words in
    let after = (g.F.Flash.state c.erase.new.self).words in
    let place = c.args.place.now in
    let known = c.requires.log.known c.requires.ready in
    let run : SameElsewhere m (start (spare_sector sectors place.turn + place.erased))
    (start (spare_sector sectors place.turn + place.erased + 1)
    - start (spare_sector sectors place.turn + place.erased)) after =
    subst (λ (s : ℕ). SameElsewhere m (start (s + place.erased))
    (start (s + place.erased + 1) - start (s + place.erased)) after) c.first_sector_of_spare.ensures.is
    c.erase.ensures.elsewhere in
    let within = sector_within pages slots sectors start rise fit.0 fit.1 fit.2 fit.4 m after place.turn place.erased
    c.requires.moves.1 run in
    inr (
      refl,
      erase_in_pace pages slots sectors extra start g.F.Table.PageTable.entries m after place known
          c.requires.moves.1 run
          (spare_stays pages slots m after place.turn c.requires.log.ring known.turn known.small c.requires.moves.0
          within) (spare_leaves slots m after place.turn within) pace,
    )

pub returns-clause-stands : goal.returns-clause-stands
returns-clause-stands g c = λ extra pace.
    let place = c.args.place.now in
    let spare = (c.requires.log.known c.requires.ready).spare in
    inl (stepped_erased g.F.Flash.PAGES g.F.Flash.SLOTS g.F.Flash.SECTORS extra place c.requires.moves.1
    (spare.fresh c.requires.moves.1).0 pace)
