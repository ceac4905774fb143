use Rattle.std.proofs.Common.{◌≡◌, ℕ, List, refl, sym, ap, subst, ◌∙◌, arith, true≢false}
use Rattle.flash_device.specs.FlashCalls.{SameElsewhere}
use Rattle.flash_device.specs.FlashLogs.{base_in, close_of, turn_of, words_of}
use Rattle.flash_device.specs.PageTables.{AreFree, IsPageTable}
use Rattle.flash_moves.specs.Rings.{IsRing}
use Rattle.flash_area.specs.Spares.{spare_in}
use Rattle.flash_area.specs.laws.Copying.{area_free}
use Rattle.flash_moves.specs.laws.Sparing.{pass_opened, pass_words, pass_ring, pass_turn, pass_area, spare_none}
use Rattle.flash_moves.specs.laws.Pacing.{none_tried}
use Rattle.flash_moves.proofs.ahead.pass_turn.Goals as goal

pub close-requires-clause-opened : goal.close-requires-clause-opened
close-requires-clause-opened g c =
    let slots = g.F.Flash.SLOTS in
    let pages = g.F.Flash.PAGES in
    let m = (g.F.Flash.state c.args.flash.now).words in
    let place = c.args.place.now in
    let moves = c.requires.moves in
    pass_opened pages slots m m place.turn place.behind moves.2 c.requires.turn moves.0 moves.1 c.requires.copies

pub returns-in_err-close-clause-words : goal.returns-in_err-close-clause-words
returns-in_err-close-clause-words g c =
    let slots = g.F.Flash.SLOTS in
    let pages = g.F.Flash.PAGES in
    let m = (g.F.Flash.state c.args.flash.now).words in
    let after = (g.F.Flash.state c.close.new.flash).words in
    let place = c.args.place.now in
    let moves = c.requires.moves in
    let words : words_of pages slots after ≡ words_of pages slots m =
    pass_words pages slots m after place.turn place.behind moves.2 c.requires.turn moves.0 moves.1 c.requires.copies
    c.close.ensures.elsewhere in
    words

pub returns-in_err-close-clause-log : goal.returns-in_err-close-clause-log
returns-in_err-close-clause-log g c =
    let slots = g.F.Flash.SLOTS in
    let pages = g.F.Flash.PAGES in
    let m = (g.F.Flash.state c.args.flash.now).words in
    let after = (g.F.Flash.state c.close.new.flash).words in
    let place = c.args.place.now in
    let moves = c.requires.moves in
    let ring : IsRing slots after =
    pass_ring pages slots m after place.turn place.behind moves.2 c.requires.turn moves.0 moves.1 c.requires.copies
    c.close.ensures.elsewhere in
    record {
      ring = ring;
      passed = none_tried pages slots g.F.Flash.SECTORS (record place { tried = 0 }) refl;
      known = λ e. absurd (true≢false (sym e ∙ c.requires.unready));
    }

pub returns-in_err-scan-clause-words : goal.returns-in_err-scan-clause-words
returns-in_err-scan-clause-words g c =
    let slots = g.F.Flash.SLOTS in
    let pages = g.F.Flash.PAGES in
    let m = (g.F.Flash.state c.args.flash.now).words in
    let after = (g.F.Flash.state c.close.new.flash).words in
    let place = c.args.place.now in
    let moves = c.requires.moves in
    let words : words_of pages slots after ≡ words_of pages slots m =
    pass_words pages slots m after place.turn place.behind moves.2 c.requires.turn moves.0 moves.1 c.requires.copies
    c.close.ensures.elsewhere in
    let last = (g.F.Flash.state c.scan.new.flash).words in
    let same : last ≡ after = c.scan.ensures.words in
    ap (words_of pages slots) same ∙ words

pub returns-in_err-scan-clause-log : goal.returns-in_err-scan-clause-log
returns-in_err-scan-clause-log g c =
    let slots = g.F.Flash.SLOTS in
    let pages = g.F.Flash.PAGES in
    let m = (g.F.Flash.state c.args.flash.now).words in
    let after = (g.F.Flash.state c.close.new.flash).words in
    let place = c.args.place.now in
    let moves = c.requires.moves in
    let ring : IsRing slots after =
    pass_ring pages slots m after place.turn place.behind moves.2 c.requires.turn moves.0 moves.1 c.requires.copies
    c.close.ensures.elsewhere in
    let last = (g.F.Flash.state c.scan.new.flash).words in
    let same : last ≡ after = c.scan.ensures.words in
    record {
      ring = subst (IsRing slots) (sym same) ring;
      passed = none_tried pages slots g.F.Flash.SECTORS (record place { tried = 0; table = c.scan.new.table }) refl;
      known = λ e. absurd (true≢false (sym e ∙ c.requires.unready));
    }

pub returns-clause-words : goal.returns-clause-words
returns-clause-words g c =
    let slots = g.F.Flash.SLOTS in
    let pages = g.F.Flash.PAGES in
    let m = (g.F.Flash.state c.args.flash.now).words in
    let after = (g.F.Flash.state c.close.new.flash).words in
    let place = c.args.place.now in
    let moves = c.requires.moves in
    let words : words_of pages slots after ≡ words_of pages slots m =
    pass_words pages slots m after place.turn place.behind moves.2 c.requires.turn moves.0 moves.1 c.requires.copies
    c.close.ensures.elsewhere in
    let last = (g.F.Flash.state c.scan.new.flash).words in
    let same : last ≡ after = c.scan.ensures.words in
    ap (words_of pages slots) same ∙ words

pub returns-clause-log : goal.returns-clause-log
returns-clause-log g c =
    let slots = g.F.Flash.SLOTS in
    let pages = g.F.Flash.PAGES in
    let entries = g.F.Table.PageTable.entries in
    let m = (g.F.Flash.state c.args.flash.now).words in
    let after = (g.F.Flash.state c.close.new.flash).words in
    let place = c.args.place.now in
    let moves = c.requires.moves in
    let ring : IsRing slots after =
    pass_ring pages slots m after place.turn place.behind moves.2 c.requires.turn moves.0 moves.1 c.requires.copies
    c.close.ensures.elsewhere in
    let last = (g.F.Flash.state c.scan.new.flash).words in
    let same : last ≡ after = c.scan.ensures.words in
    let fit = g.met.F.Flash.sectors_fit in
    let next = c.spare-next.result in
    let turn : turn_of slots after ≡ next =
    pass_turn pages slots m after place.turn place.behind moves.2 c.requires.turn moves.0 moves.1 c.requires.copies
    c.close.ensures.elsewhere next c.spare-next.ensures.zero c.spare-next.ensures.other c.in_ok-close.ensures.done in
    let area = pass_area pages slots m after place.turn place.behind moves.2 c.requires.turn moves.0 moves.1
    c.requires.copies c.close.ensures.elsewhere in
    let here : base_in slots next ≡ spare_in slots place.turn = c.spare-next.ensures.is slots in
    let free : AreFree last (base_in slots next) place.behind slots =
    subst (λ (b : ℕ). AreFree last b place.behind slots) (sym here)
    (subst (λ (l : List ℕ). AreFree l (spare_in slots place.turn) place.behind slots) (sym same)
    (area_free slots m after (spare_in slots place.turn) area place.behind c.requires.copies.free)) in
    let index : IsPageTable pages last (base_in slots next) slots (entries c.scan.new.table) =
    subst (λ (l : List ℕ). IsPageTable pages l (base_in slots next) slots (entries c.scan.new.table)) (sym same)
    c.in_ok-scan.ensures.index in
    let most = c.spare-next.ensures.most in
    record {
      ring = subst (IsRing slots) (sym same) ring;
      passed = omega arith;
      known = λ _. record {
        turn = sym (ap (turn_of slots) same ∙ turn);
        small = omega (arith, most);
        index = index;
        free = free;
        spare = spare_none pages slots g.F.Flash.SECTORS g.F.Flash.sector_start g.met.F.Flash.sectors_rise fit.0 fit.1
            fit.2 fit.4 g.met.F.Flash.pages_fit.0 last (words_of pages slots last) next;
      };
    }

pub returns-in_err-scan-clause-elsewhere : goal.returns-in_err-scan-clause-elsewhere
returns-in_err-scan-clause-elsewhere g c =
    let m = (g.F.Flash.state c.args.flash.now).words in
    subst (λ (l : List ℕ). SameElsewhere m (close_of g.F.Flash.SLOTS c.args.place.now.turn) 2 l)
    (sym c.scan.ensures.words) c.close.ensures.elsewhere

pub returns-clause-elsewhere : goal.returns-clause-elsewhere
returns-clause-elsewhere g c =
    let m = (g.F.Flash.state c.args.flash.now).words in
    subst (λ (l : List ℕ). SameElsewhere m (close_of g.F.Flash.SLOTS c.args.place.now.turn) 2 l)
    (sym c.scan.ensures.words) c.close.ensures.elsewhere

pub returns-clause-turned : goal.returns-clause-turned
returns-clause-turned g c =
    let slots = g.F.Flash.SLOTS in
    let pages = g.F.Flash.PAGES in
    let m = (g.F.Flash.state c.args.flash.now).words in
    let after = (g.F.Flash.state c.close.new.flash).words in
    let place = c.args.place.now in
    let moves = c.requires.moves in
    let next = c.spare-next.result in
    let turn : turn_of slots after ≡ next =
    pass_turn pages slots m after place.turn place.behind moves.2 c.requires.turn moves.0 moves.1 c.requires.copies
    c.close.ensures.elsewhere next c.spare-next.ensures.zero c.spare-next.ensures.other c.in_ok-close.ensures.done in
    ap (base_in slots) (ap (turn_of slots) c.scan.ensures.words ∙ turn) ∙ c.spare-next.ensures.is slots
