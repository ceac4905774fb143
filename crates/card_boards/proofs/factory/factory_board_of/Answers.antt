use Rattle.std.specs.Prelude.{Err, IfErr, IsOk, Ok, Result}
use Rattle.std.proofs.Common.{◌≡◌, ◌≤◌, ◌∙◌, ℕ, refl, subst}
use Rattle.nvm_board.specs.declared.board.DeviceErr.{DeviceErr}
use Rattle.nvm_board.specs.declared.board.TheConstants.{MOST_PAGES}
use Rattle.simulated_boards.specs.declared.cut_board.CutBoard.{CutBoard}
use Rattle.simulated_boards.specs.Cut.{cut_facts}
use Rattle.nvm_board.specs.Facts.{Answered, Facts, new_board}
use Rattle.nvm_board.specs.laws.Sizes.{pages_same}
use Rattle.undo_journal.specs.Spending.{WritesAtMost}
use Rattle.card_start.specs.declared.memory_format.MemoryFormat.TheVariants.{Two}
use Rattle.card_start.specs.Factory.{factory_card, Formats}
use Rattle.command_base.specs.Finding.{Finds}
use Rattle.card_boards.proofs.FormatLemmas.{format_succeeds, just_written, new_blocks, new_pages, none_due}
use Rattle.card_boards.proofs.factory.factory_board_of.Goals as goal

-- a new board takes the factory card
formats : (pages : ℕ) (old : Facts) (r : Result CutBoard (CutBoard × DeviceErr)) → pages ≤ MOST_PAGES
    → old ≡ new_board pages → IfErr r (λ e. WritesAtMost pages old (cut_facts e.0))
    → IfErr r (λ e. Answered {T = Unit {0}} old (cut_facts e.0) (Err e.1)) → IsOk r
formats pages old (Ok board) most is counts power = refl
formats pages old (Err e) most is counts power =
    absurd (format_succeeds pages old (cut_facts e.0) e.1 most is refl counts power)

pub unwrap-requires : goal.unwrap-requires
unwrap-requires c =
    let is = c.in_ok-with_pages.ensures.facts in
    let old = cut_facts c.in_ok-with_pages.field-0 in
    formats c.args.pages old c.format.result c.requires.most is
    (subst (λ (n : ℕ). IfErr c.format.result (λ e. WritesAtMost n old (cut_facts e.0)))
    (new_pages c.args.pages old is) c.format.ensures.counts_err) c.format.ensures.power_err

pub returns-clause-card : goal.returns-clause-card
returns-clause-card c =
    let new = cut_facts c.unwrap.result in
    let done = subst (λ (r : Result CutBoard (CutBoard × DeviceErr)). Formats cut_facts Two
    c.in_ok-with_pages.field-0 r) c.unwrap.ensures c.format.ensures in
    subst (λ (n : ℕ). Finds new.words (factory_card n)) (new_blocks c.args.pages (cut_facts c.in_ok-with_pages.field-0)
    new c.in_ok-with_pages.ensures.facts done.written.size) done.found

pub returns-clause-counts : goal.returns-clause-counts
returns-clause-counts c =
    let is = c.in_ok-with_pages.ensures.facts in
    let old = cut_facts c.in_ok-with_pages.field-0 in
    let done = subst (λ (r : Result CutBoard (CutBoard × DeviceErr)). Formats cut_facts Two
    c.in_ok-with_pages.field-0 r) c.unwrap.ensures c.format.ensures in
    just_written c.args.pages old (cut_facts c.unwrap.result) is done.power
    (subst (λ (n : ℕ). WritesAtMost n old (cut_facts c.unwrap.result)) (new_pages c.args.pages old is) done.counts)

pub returns-clause-uncut : goal.returns-clause-uncut
returns-clause-uncut c = none_due _ (returns-clause-counts c).due

pub returns-clause-pages : goal.returns-clause-pages
returns-clause-pages c =
    let old = cut_facts c.in_ok-with_pages.field-0 in
    let new = cut_facts c.unwrap.result in
    let done = subst (λ (r : Result CutBoard (CutBoard × DeviceErr)). Formats cut_facts Two
    c.in_ok-with_pages.field-0 r) c.unwrap.ensures c.format.ensures in
    pages_same old.words new.words done.written.size ∙ new_pages c.args.pages old c.in_ok-with_pages.ensures.facts
