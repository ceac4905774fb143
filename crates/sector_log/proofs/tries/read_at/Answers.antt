use Rattle.std.proofs.Common.{◌≡◌, ◌/◌, ◌%◌, ℕ, List, slice_index, sym, ap, ◌∙◌}
use Rattle.flash_device.specs.FlashLogs.{base_in, page_word, words_of}
use Rattle.flash_area.specs.laws.Words.{index-words}
use Rattle.sector_log.proofs.tries.read_at.Goals as goal

pub returns-clause-word : goal.returns-clause-word
returns-clause-word g c =
    let slots = g.F.Flash.SLOTS in
    let pages = g.F.Flash.PAGES in
    let m = (g.F.Flash.state c.find_pages.new.flash).words in
    let at = c.args.at in
    let place = (c.find_pages.ensures.log.known c.in_ok-find_pages.ensures.ready).place in
    let base = c.home.ensures.is slots ∙ ap (base_in slots) place.turn in
    let word : c.in_ok-word.word ≡ page_word m (base_in slots c.home.result) slots (at / 16) (at % 16) =
    c.in_ok-word.ensures.word in
    word ∙ ap (λ (b : ℕ). page_word m b slots (at / 16) (at % 16)) base
    ∙ sym (index-words pages slots m at c.requires.at)
    ∙ ap (λ (l : List ℕ). slice_index (words_of pages slots l) at) c.find_pages.ensures.words

pub returns-in_err-word-clause-first : goal.returns-in_err-word-clause-first
returns-in_err-word-clause-first g c = λ unready ready. c.in_ok-find_pages.ensures.first unready

pub returns-clause-first : goal.returns-clause-first
returns-clause-first g c = λ unready ready. c.in_ok-find_pages.ensures.first unready

pub returns-in_err-word-clause-older : goal.returns-in_err-word-clause-older
returns-in_err-word-clause-older g c = λ unready ready. c.in_ok-find_pages.ensures.older unready

pub returns-clause-older : goal.returns-clause-older
returns-clause-older g c = λ unready ready. c.in_ok-find_pages.ensures.older unready
