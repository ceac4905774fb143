-- Laws of how far a search finds the move to have come.
use Rattle.std.specs.Prelude.{◌≡◌, ◌≤◌, ◌-◌, ℕ, true, List}
use Rattle.std.proofs.Common.{◌∙◌, ap, subst, arith}
use Rattle.flash_moves.specs.declared.place.PageMap.{PageMap}
use Rattle.flash_device.specs.FlashLogs.{turn_of}
use Rattle.flash_area.specs.Spares.{FindsFurthest, steps_from}
use Rattle.flash_moves.specs.Paces.{extra_of, free_slots, known_steps}
use Rattle.flash_moves.specs.laws.Pacing.{free_of, left_of}
use Rattle.flash_log.specs.StepsLeft.{HasFewestLeft}

module _ {T : Type 0} (pages slots sectors : ℕ) where
  -- What is found leaves the fewest steps.
  pub fewest_found : (start : ℕ → ℕ) (m : List ℕ) (p : PageMap T) → p.ready ≡ true → p.turn ≡ turn_of slots m
      → p.next ≤ slots
      → FindsFurthest pages slots sectors start m p.turn p.next (extra_of pages slots sectors) p.erased p.copied p.older
      → HasFewestLeft pages slots sectors start m (slots - free_slots slots p) (known_steps pages sectors p)
  fewest_found start m p ready turn within finds =
      let extra = extra_of pages slots sectors in
      let free = free_of pages slots sectors p ready in
      let next : p.next ≡ slots - free_slots slots p = omega (arith, free, within) in
      let left : known_steps pages sectors p ≡ steps_from pages sectors (turn_of slots m) p.erased p.copied =
      left_of pages slots sectors p ready ∙ ap (λ (t : ℕ). steps_from pages sectors t p.erased p.copied) turn in
      let there : FindsFurthest pages slots sectors start m (turn_of slots m) p.next extra p.erased p.copied p.older =
      subst (λ (t : ℕ). FindsFurthest pages slots sectors start m t p.next extra p.erased p.copied p.older) turn
      finds in
      let here : FindsFurthest pages slots sectors start m (turn_of slots m) (slots - free_slots slots p) extra p.erased
      p.copied p.older =
      subst (λ (n : ℕ). FindsFurthest pages slots sectors start m (turn_of slots m) n extra p.erased p.copied p.older)
      next there in
      record {
        on = λ e c b o on. let less = (here.on e c b o on).0 in omega (arith, left, less);
        anew = λ e anew. let less = (here.anew e anew).0 in omega (arith, left, less);
      }
