use Rattle.std.specs.Prelude.{ℕ}
use Rattle.std.proofs.Common.{List, ap, subst, sym, ◌∙◌}
use Rattle.nvm_board.specs.Facts.{Facts}
use Rattle.card_start.specs.declared.memory_format.MemoryFormat.TheVariants.{Two}
use Rattle.card_start.specs.Factory.{IsFactory, factory_card}
use Rattle.command_base.specs.Finding.{Finds}
use Rattle.simulated_boards.specs.CutFlashFacts.{cut_flash_facts}
use Rattle.card_boards.proofs.BlankFlash.{new_blocks}
use Rattle.card_boards.proofs.blank_flash.with_factory_card.Goals as goal

pub returns-in-Ok-clause-card : goal.returns-in-Ok-clause-card
returns-in-Ok-clause-card g c =
    let facts = g.B.Board.facts in
    let old = cut_flash_facts facts c.new.result in
    let new = cut_flash_facts facts c.in-Ok.written in
    let done = c.in-Ok.ensures in
    let found = subst (λ (n : ℕ). Finds new.words (factory_card n))
    (new_blocks 1024 old new (c.new.ensures.facts ∙ c.requires) done.written.size)
    done.found in
    subst (λ (m : List ℕ). Finds m (factory_card 896)) (sym (ap (λ (f : Facts). f.words) c.into_board.ensures.facts))
    found

pub returns-in-Ok-clause-words : goal.returns-in-Ok-clause-words
returns-in-Ok-clause-words g c =
    subst (λ (m : List ℕ). IsFactory Two m) (sym (ap (λ (f : Facts). f.words) c.into_board.ensures.facts))
    c.in-Ok.ensures.factory
