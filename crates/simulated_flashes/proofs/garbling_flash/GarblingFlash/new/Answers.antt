use Rattle.std.proofs.Common.{◌≡◌, ◌<◌, ◌^◌, ℕ, List, length, replicate, ap, sym, subst, ◌∙◌, arith}
use Rattle.std.proofs.Math.ListN.{length-replicate}
use Rattle.std.proofs.lemmas.List.Elements.{All-replicate}
use Rattle.nvm_board.specs.Facts.{AreWords}
use Rattle.flash_device.specs.declared.flash.TheConstants.{BLANK}
use Rattle.simulated_flashes.specs.GarblingStates.{given_garbling_state}
use Rattle.simulated_flashes.proofs.garbling_flash.GarblingFlash.new.Goals as goal

pub of_words-requires-clause-sized : goal.of_words-requires-clause-sized
of_words-requires-clause-sized g c =
    let same : c.in_ok-words.words.items ≡ replicate c.flash_words.result BLANK =
    c.in_ok-words.ensures.items_if_clones_equal (λ y is_blank. is_blank) in
    ap (λ (l : List ℕ). length l) same ∙ length-replicate {A = ℕ} c.flash_words.result BLANK
    ∙ c.flash_words.ensures

pub of_words-requires-clause-fit : goal.of_words-requires-clause-fit
of_words-requires-clause-fit g c =
    let same : c.in_ok-words.words.items ≡ replicate c.flash_words.result BLANK =
    c.in_ok-words.ensures.items_if_clones_equal (λ y is_blank. is_blank) in
    let fits : BLANK < 2 ^ 32 = omega arith in
    subst (λ (l : List ℕ). AreWords l) (sym same)
    (All-replicate (λ w. w < 2 ^ 32) c.flash_words.result BLANK fits)

pub returns-clause-state : goal.returns-clause-state
returns-clause-state g c =
    let same : c.in_ok-words.words.items ≡ replicate c.flash_words.result BLANK =
    c.in_ok-words.ensures.items_if_clones_equal (λ y is_blank. is_blank) in
    let size = ap (λ (n : ℕ). replicate n BLANK) c.flash_words.ensures in
    c.of_words.ensures.state ∙ ap given_garbling_state (same ∙ size)
