use Rattle.std.proofs.Common.{◌≡◌, ◌≤◌, ◌+◌, false, ⊎_elim, sym, ◌∙◌, inl, inr, arith}
use Rattle.std.proofs.Common.{true≢false}
use Rattle.flash_device.specs.FlashLogs.{turn_of, is_closed as has_closed, words_of}
use Rattle.flash_moves.specs.laws.Moving.{Passes, Stays, one_stays}
use Rattle.flash_moves.specs.laws.Moving.{witness_passes}
use Rattle.flash_moves.specs.laws.Turns.{one_marks}
use Rattle.flash_device.specs.laws.Marks.{filled_open, closed_same}
use Rattle.flash_device.specs.FlashBlocks.{witness_start}
use Rattle.flash_device.specs.FlashLogs.{close_b}
use Rattle.flash_moves.specs.Rings.{IsRing}
use Rattle.flash_moves.proofs.turns.pass_witness.Given.{Over}
use Rattle.flash_moves.proofs.turns.pass_witness.Goals.{After-close}
use Rattle.flash_moves.proofs.turns.pass_witness.Goals as goal

pub returns-in_err-erase_witness-clause-words : goal.returns-in_err-erase_witness-clause-words
returns-in_err-erase_witness-clause-words g c =
    let slots = g.F.Flash.SLOTS in
    let pages = g.F.Flash.PAGES in
    let m = (g.F.Flash.state c.args.flash.now).words in
    let mid = (g.F.Flash.state c.erase_witness.new.flash).words in
    let stays : Stays pages slots m mid =
    one_stays pages slots m mid c.requires.turn c.erase_witness.ensures.elsewhere in
    stays.words

pub returns-in_err-erase_witness-clause-ring : goal.returns-in_err-erase_witness-clause-ring
returns-in_err-erase_witness-clause-ring g c =
    let slots = g.F.Flash.SLOTS in
    let pages = g.F.Flash.PAGES in
    let m = (g.F.Flash.state c.args.flash.now).words in
    let mid = (g.F.Flash.state c.erase_witness.new.flash).words in
    let stays : Stays pages slots m mid =
    one_stays pages slots m mid c.requires.turn c.erase_witness.ensures.elsewhere in
    stays.ring

-- the words are the same, whether the block is closed or not
close_words : (g : Over) (c : After-close g)
    → words_of g.F.Flash.PAGES g.F.Flash.SLOTS (g.F.Flash.state c.close.new.flash).words
    ≡ words_of g.F.Flash.PAGES g.F.Flash.SLOTS (g.F.Flash.state c.args.flash.now).words
close_words g c =
    let slots = g.F.Flash.SLOTS in
    let pages = g.F.Flash.PAGES in
    let m = (g.F.Flash.state c.args.flash.now).words in
    let mid = (g.F.Flash.state c.erase_witness.new.flash).words in
    let after = (g.F.Flash.state c.close.new.flash).words in
    let unmarked : has_closed mid (witness_start slots) ≡ false =
    filled_open mid (witness_start slots) c.in_ok-erase_witness.ensures.done in
    let passes : Passes pages slots m after 1 2 =
    witness_passes pages slots m mid after c.requires.turn c.erase_witness.ensures.elsewhere unmarked
    c.close.ensures.elsewhere in
    passes.words

pub returns-in_err-close-clause-words : goal.returns-in_err-close-clause-words
returns-in_err-close-clause-words g c = close_words g (goal.at.returns-in_err-close-clause-words g c).After-close

-- the marks still give a turn
close_ring : (g : Over) (c : After-close g) → IsRing g.F.Flash.SLOTS (g.F.Flash.state c.close.new.flash).words
close_ring g c =
    let slots = g.F.Flash.SLOTS in
    let pages = g.F.Flash.PAGES in
    let m = (g.F.Flash.state c.args.flash.now).words in
    let mid = (g.F.Flash.state c.erase_witness.new.flash).words in
    let after = (g.F.Flash.state c.close.new.flash).words in
    let unmarked : has_closed mid (witness_start slots) ≡ false =
    filled_open mid (witness_start slots) c.in_ok-erase_witness.ensures.done in
    let passes : Passes pages slots m after 1 2 =
    witness_passes pages slots m mid after c.requires.turn c.erase_witness.ensures.elsewhere unmarked
    c.close.ensures.elsewhere in
    passes.ring

pub returns-in_err-close-clause-ring : goal.returns-in_err-close-clause-ring
returns-in_err-close-clause-ring g c = close_ring g (goal.at.returns-in_err-close-clause-ring g c).After-close

pub returns-clause-words : goal.returns-clause-words
returns-clause-words g c = close_words g (goal.at.returns-clause-words g c).After-close

pub returns-clause-ring : goal.returns-clause-ring
returns-clause-ring g c = close_ring g (goal.at.returns-clause-ring g c).After-close

pub returns-clause-done : goal.returns-clause-done
returns-clause-done g c =
    let slots = g.F.Flash.SLOTS in
    let pages = g.F.Flash.PAGES in
    let m = (g.F.Flash.state c.args.flash.now).words in
    let mid = (g.F.Flash.state c.erase_witness.new.flash).words in
    let after = (g.F.Flash.state c.close.new.flash).words in
    let unmarked : has_closed mid (witness_start slots) ≡ false =
    filled_open mid (witness_start slots) c.in_ok-erase_witness.ensures.done in
    let passes : Passes pages slots m after 1 2 =
    witness_passes pages slots m mid after c.requires.turn c.erase_witness.ensures.elsewhere unmarked
    c.close.ensures.elsewhere in
    ⊎_elim (λ (one : turn_of slots after ≡ 1). absurd
    (true≢false (sym c.in_ok-close.ensures.done ∙ (one_marks slots after one).1)))
    (λ (two : turn_of slots after ≡ 2). two) passes.turn

pub close-requires-clause-opened : goal.close-requires-clause-opened
close-requires-clause-opened g c =
    let slots = g.F.Flash.SLOTS in
    let m = (g.F.Flash.state c.args.flash.now).words in
    let mid = (g.F.Flash.state c.erase_witness.new.flash).words in
    let before : (close_b slots) + 2 ≤ (witness_start slots) = omega arith in
    closed_same m mid (close_b slots) (witness_start slots) 2 c.erase_witness.ensures.elsewhere (inl before)
    ∙ (one_marks slots m c.requires.turn).1

pub returns-in_err-erase_witness-clause-passes : goal.returns-in_err-erase_witness-clause-passes
returns-in_err-erase_witness-clause-passes g c =
    let slots = g.F.Flash.SLOTS in
    let pages = g.F.Flash.PAGES in
    let m = (g.F.Flash.state c.args.flash.now).words in
    let mid = (g.F.Flash.state c.erase_witness.new.flash).words in
    let stays : Stays pages slots m mid =
    one_stays pages slots m mid c.requires.turn c.erase_witness.ensures.elsewhere in
    inl (stays.turn ∙ c.requires.turn)

pub returns-in_err-close-clause-passes : goal.returns-in_err-close-clause-passes
returns-in_err-close-clause-passes g c =
    let slots = g.F.Flash.SLOTS in
    let pages = g.F.Flash.PAGES in
    let m = (g.F.Flash.state c.args.flash.now).words in
    let mid = (g.F.Flash.state c.erase_witness.new.flash).words in
    let after = (g.F.Flash.state c.close.new.flash).words in
    let unmarked : has_closed mid (witness_start slots) ≡ false =
    filled_open mid (witness_start slots) c.in_ok-erase_witness.ensures.done in
    let passes : Passes pages slots m after 1 2 =
    witness_passes pages slots m mid after c.requires.turn c.erase_witness.ensures.elsewhere unmarked
    c.close.ensures.elsewhere in
    passes.turn

pub returns-clause-passes : goal.returns-clause-passes
returns-clause-passes g c = inr (returns-clause-done g c)
