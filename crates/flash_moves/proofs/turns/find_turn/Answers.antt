use Rattle.std.proofs.Common.{◌≡◌, ℕ, List, sym, ap, ◌∙◌}
use Rattle.flash_device.specs.FlashLogs.{is_closed as has_closed}
use Rattle.flash_moves.specs.laws.Turns.{turn_marks}
use Rattle.flash_device.specs.FlashBlocks.{witness_start}
use Rattle.flash_device.specs.FlashLogs.{close_b}
use Rattle.flash_moves.proofs.turns.find_turn.Goals as goal

pub returns-clause-turn : goal.returns-clause-turn
returns-clause-turn g c =
    let slots = g.F.Flash.SLOTS in
    let m = (g.F.Flash.state c.args.flash.now).words in
    let mark_b : has_closed m (close_b slots) ≡ c.in_ok-b.b =
    sym (c.in_ok-b.ensures.closed ∙ ap (λ (l : List ℕ). has_closed l (close_b slots)) c.is_closed.ensures.words) in
    let mark_c : has_closed m (witness_start slots) ≡ c.in_ok-c.c =
    sym (c.in_ok-c.ensures.closed ∙ ap (λ (l : List ℕ). has_closed l (witness_start slots))
    (c.is_closed-2.ensures.words ∙ c.is_closed.ensures.words)) in
    c.turn_by_marks.ensures.is
    ∙ sym (turn_marks slots m c.in_ok-a.a c.in_ok-b.b c.in_ok-c.c (sym c.in_ok-a.ensures.closed) mark_b mark_c)
