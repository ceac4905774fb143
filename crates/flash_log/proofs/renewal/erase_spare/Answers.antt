use Rattle.std.proofs.Common.{◌≡◌, ◌+◌, ◌-◌, ℕ, ap, sym, subst, ◌∙◌, arith, true≢false}
use Rattle.flash_device.specs.declared.flash.TheConstants.{BLANK}
use Rattle.flash_device.specs.FlashBlocks.{area_size}
use Rattle.flash_device.specs.FlashCalls.{AreFilled, SameElsewhere}
use Rattle.flash_device.specs.FlashLogs.{base_in, words_of}
use Rattle.flash_area.specs.Spares.{spare_in}
use Rattle.flash_area.specs.laws.Copying.{area_free}
use Rattle.flash_log.specs.laws.Renewing.{spare_erased}
use Rattle.flash_moves.specs.laws.Sparing.{index_same, spare_leaves, spare_stays}
use Rattle.flash_moves.specs.laws.Losing.{free_by_area}
use Rattle.flash_moves.specs.laws.Pacing.{free_of}
use Rattle.flash_moves.specs.Paces.{KeepsFree, KeepsRoom}
use Rattle.flash_log.proofs.renewal.erase_spare.Given.{Over}
use Rattle.flash_log.proofs.renewal.erase_spare.Goals.{After-erase_area}
use Rattle.flash_log.proofs.renewal.erase_spare.Goals as goal

-- the words are the same
erase_words : (g : Over) (c : After-erase_area g)
    → words_of g.F.Flash.PAGES g.F.Flash.SLOTS (g.F.Flash.state c.erase_area.new.flash).words
    ≡ words_of g.F.Flash.PAGES g.F.Flash.SLOTS (g.F.Flash.state c.args.flash.now).words
erase_words g c =
    let slots = g.F.Flash.SLOTS in
    let pages = g.F.Flash.PAGES in
    let m = (g.F.Flash.state c.args.flash.now).words in
    let after = (g.F.Flash.state c.erase_area.new.flash).words in
    let place = c.args.place.now in
    let known = c.requires.log.known c.requires.ready.0 in
    let within : SameElsewhere m (spare_in slots place.turn) (area_size slots) after =
    subst (λ (b : ℕ). SameElsewhere m b (area_size slots) after) (c.spare.ensures.is slots)
    c.erase_area.ensures.elsewhere in
    let stays = spare_stays pages slots m after place.turn c.requires.log.ring known.turn known.small c.requires.ready.1
    within in
    stays.words

pub returns-in_err-erase_area-clause-words : goal.returns-in_err-erase_area-clause-words
returns-in_err-erase_area-clause-words g c =
    erase_words g (goal.at.returns-in_err-erase_area-clause-words g c).After-erase_area

pub returns-in_err-erase_area-clause-log : goal.returns-in_err-erase_area-clause-log
returns-in_err-erase_area-clause-log g c =
    let slots = g.F.Flash.SLOTS in
    let pages = g.F.Flash.PAGES in
    let m = (g.F.Flash.state c.args.flash.now).words in
    let after = (g.F.Flash.state c.erase_area.new.flash).words in
    let place = c.args.place.now in
    let known = c.requires.log.known c.requires.ready.0 in
    let within : SameElsewhere m (spare_in slots place.turn) (area_size slots) after =
    subst (λ (b : ℕ). SameElsewhere m b (area_size slots) after) (c.spare.ensures.is slots)
    c.erase_area.ensures.elsewhere in
    let stays = spare_stays pages slots m after place.turn c.requires.log.ring known.turn known.small c.requires.ready.1
    within in
    record {
      ring = stays.ring;
      passed = let passed = c.requires.log.passed in omega (arith, passed);
      known = λ e. absurd (true≢false (sym e));
    }

pub returns-clause-words : goal.returns-clause-words
returns-clause-words g c = erase_words g (goal.at.returns-clause-words g c).After-erase_area

pub returns-clause-log : goal.returns-clause-log
returns-clause-log g c =
    let slots = g.F.Flash.SLOTS in
    let pages = g.F.Flash.PAGES in
    let m = (g.F.Flash.state c.args.flash.now).words in
    let after = (g.F.Flash.state c.erase_area.new.flash).words in
    let place = c.args.place.now in
    let known = c.requires.log.known c.requires.ready.0 in
    let within : SameElsewhere m (spare_in slots place.turn) (area_size slots) after =
    subst (λ (b : ℕ). SameElsewhere m b (area_size slots) after) (c.spare.ensures.is slots)
    c.erase_area.ensures.elsewhere in
    let stays = spare_stays pages slots m after place.turn c.requires.log.ring known.turn known.small c.requires.ready.1
    within in
    let blank : AreFilled after (spare_in slots place.turn) (area_size slots) BLANK =
    subst (λ (b : ℕ). AreFilled after b (area_size slots) BLANK) (c.spare.ensures.is slots)
    c.in_ok-erase_area.ensures.done in
    let area = spare_leaves slots m after place.turn within in
    let base = base_in slots place.turn in
    record {
      ring = stays.ring;
      passed =
          let passed = c.requires.log.passed in
          let free = free_of pages slots g.F.Flash.SECTORS place c.requires.ready.0 in
          omega (arith, passed, free);
      known = λ _. record {
        turn = known.turn ∙ sym stays.turn;
        small = known.small;
        index = index_same slots pages m after (g.F.Table.PageTable.entries place.table) base area known.index;
        free = area_free slots m after base area place.next known.free;
        spare = spare_erased pages slots g.F.Flash.SECTORS g.F.Flash.sector_start after (words_of pages slots after)
            place.turn c.SECTORS-place.result g.met.F.Flash.pages_fit.0 c.requires.ready.1
            c.SECTORS-place.ensures blank;
      };
    }

-- the area in use stays free where it was
erase_free : (g : Over) (c : After-erase_area g)
    → KeepsFree g.F.Flash.PAGES g.F.Flash.SLOTS (g.F.Flash.state c.args.flash.now)
    (g.F.Flash.state c.erase_area.new.flash)
erase_free g c = λ n far.
    let slots = g.F.Flash.SLOTS in
    let pages = g.F.Flash.PAGES in
    let m = (g.F.Flash.state c.args.flash.now).words in
    let after = (g.F.Flash.state c.erase_area.new.flash).words in
    let place = c.args.place.now in
    let known = c.requires.log.known c.requires.ready.0 in
    let within : SameElsewhere m (spare_in slots place.turn) (area_size slots) after =
    subst (λ (b : ℕ). SameElsewhere m b (area_size slots) after) (c.spare.ensures.is slots)
    c.erase_area.ensures.elsewhere in
    let stays = spare_stays pages slots m after place.turn c.requires.log.ring known.turn known.small c.requires.ready.1
    within in
    free_by_area pages slots m after (base_in slots place.turn) n (ap (base_in slots) (sym known.turn))
    (ap (base_in slots) (stays.turn ∙ sym known.turn)) (spare_leaves slots m after place.turn within)

pub returns-in_err-erase_area-clause-keeps_free : goal.returns-in_err-erase_area-clause-keeps_free
returns-in_err-erase_area-clause-keeps_free g c =
    erase_free g (goal.at.returns-in_err-erase_area-clause-keeps_free g c).After-erase_area

pub returns-clause-keeps_free : goal.returns-clause-keeps_free
returns-clause-keeps_free g c = erase_free g (goal.at.returns-clause-keeps_free g c).After-erase_area

-- the same however often the flash fails
erase_room : (g : Over) (c : After-erase_area g)
    → KeepsRoom g.F.Flash.PAGES g.F.Flash.SLOTS (g.F.Flash.state c.args.flash.now).words
    (g.F.Flash.state c.erase_area.new.flash).words
erase_room g c = λ n far.
    let slots = g.F.Flash.SLOTS in
    let pages = g.F.Flash.PAGES in
    let m = (g.F.Flash.state c.args.flash.now).words in
    let after = (g.F.Flash.state c.erase_area.new.flash).words in
    let place = c.args.place.now in
    let known = c.requires.log.known c.requires.ready.0 in
    let within : SameElsewhere m (spare_in slots place.turn) (area_size slots) after =
    subst (λ (b : ℕ). SameElsewhere m b (area_size slots) after) (c.spare.ensures.is slots)
    c.erase_area.ensures.elsewhere in
    let stays = spare_stays pages slots m after place.turn c.requires.log.ring known.turn known.small c.requires.ready.1
    within in
    free_by_area pages slots m after (base_in slots place.turn) n (ap (base_in slots) (sym known.turn))
    (ap (base_in slots) (stays.turn ∙ sym known.turn)) (spare_leaves slots m after place.turn within)

pub returns-in_err-erase_area-clause-keeps_room : goal.returns-in_err-erase_area-clause-keeps_room
returns-in_err-erase_area-clause-keeps_room g c =
    erase_room g (goal.at.returns-in_err-erase_area-clause-keeps_room g c).After-erase_area

pub returns-clause-keeps_room : goal.returns-clause-keeps_room
returns-clause-keeps_room g c = erase_room g (goal.at.returns-clause-keeps_room g c).After-erase_area
