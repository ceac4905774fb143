use Rattle.std.proofs.Common.{◌/◌, ◌%◌, ℕ, List, slice_index, sym, ap, inl, inr, ◌∙◌}
use Rattle.flash_device.specs.FlashLogs.{base_in, page_word, words_of}
use Rattle.flash_moves.specs.laws.Pacing.{fresh_is}
use Rattle.flash_area.specs.laws.Words.{index-words}
use Rattle.flash_moves.specs.Places.{log_value}
use Rattle.flash_log.specs.SlotsInTurn.{SameNext}
use Rattle.flash_log.specs.laws.Beginning.{next_same}
use Rattle.flash_log.proofs.steps.read_at.Given.{Over}
use Rattle.flash_log.proofs.steps.read_at.Goals.{After-read_page_word}
use Rattle.flash_log.proofs.steps.read_at.Goals as goal

pub returns-clause-word : goal.returns-clause-word
returns-clause-word g c =
    let slots = g.F.Flash.SLOTS in
    let pages = g.F.Flash.PAGES in
    let m = (g.F.Flash.state c.find_pages.new.flash).words in
    let at = c.args.at in
    let known = c.find_pages.ensures.log.known c.in_ok-find_pages.ensures.ready in
    c.in_ok-word.ensures.word
    ∙ ap (λ (b : ℕ). page_word m b slots (at / 16) (at % 16)) (c.home.ensures.is slots ∙ ap (base_in slots) known.turn)
    ∙ sym (index-words pages slots m at c.requires.at)
    ∙ ap (λ (l : List ℕ). slice_index (words_of pages slots l) at) c.find_pages.ensures.words

pub returns-in_err-word-clause-looks : goal.returns-in_err-word-clause-looks
returns-in_err-word-clause-looks g c = λ fresh.
    let is = fresh_is g.F.Flash.PAGES g.F.Flash.SLOTS g.F.Flash.SECTORS c.args.place.now fresh in
    inr (c.in_ok-find_pages.ensures.found is.0 is.1)

pub returns-clause-looks : goal.returns-clause-looks
returns-clause-looks g c = λ fresh.
    let is = fresh_is g.F.Flash.PAGES g.F.Flash.SLOTS g.F.Flash.SECTORS c.args.place.now fresh in
    inr (c.in_ok-find_pages.ensures.found is.0 is.1)

pub returns-in_err-word-clause-stands : goal.returns-in_err-word-clause-stands
returns-in_err-word-clause-stands g c = λ extra fits stands.
    inl (c.in_ok-find_pages.ensures.in_pace extra fits stands)

pub returns-clause-stands : goal.returns-clause-stands
returns-clause-stands g c = λ extra fits stands.
    inl (c.in_ok-find_pages.ensures.in_pace extra fits stands)

-- the word is read behind the search
read_next : (g : Over) (c : After-read_page_word g)
    → SameNext g.F.Flash.SLOTS (log_value g.F.Flash.PAGES g.F.Flash.SLOTS g.F.Flash.SECTORS
    (g.F.Flash.state c.args.flash.now) c.args.place.now) (log_value g.F.Flash.PAGES g.F.Flash.SLOTS g.F.Flash.SECTORS
    (g.F.Flash.state c.read_page_word.new.flash) c.find_pages.new.place)
read_next g c n =
    let found = c.find_pages.ensures.same_next n in
    let same = next_same g.F.Flash.PAGES g.F.Flash.SLOTS g.F.Flash.SECTORS (g.F.Flash.state c.find_pages.new.flash)
    (g.F.Flash.state c.read_page_word.new.flash) c.find_pages.new.place c.read_page_word.ensures.words n in
    (λ next. same.0 (found.0 next), λ next. found.1 (same.1 next))

pub returns-in_err-word-clause-same_next : goal.returns-in_err-word-clause-same_next
returns-in_err-word-clause-same_next g c =
    read_next g (goal.at.returns-in_err-word-clause-same_next g c).After-read_page_word

pub returns-clause-same_next : goal.returns-clause-same_next
returns-clause-same_next g c = read_next g (goal.at.returns-clause-same_next g c).After-read_page_word
