-- Laws of a write that has no slot for its next try.
use Rattle.std.specs.Prelude.{◌≡◌, ◌⊎◌, ◌≤◌, ◌+◌, ℕ, true}
use Rattle.std.proofs.Common.{sym, ◌∙◌, ap, inl, inr, ⊎_elim, subst, arith}
use Rattle.flash_moves.specs.declared.place.PageMap.{PageMap}
use Rattle.flash_device.specs.FlashCalls.{FlashState}
use Rattle.flash_device.specs.FlashLogs.{base_in, turn_of}
use Rattle.flash_device.specs.PageTables.{AreFree}
use Rattle.flash_area.specs.Spares.{FindsFurthest, steps_from}
use Rattle.flash_moves.specs.Paces.{OwnsOlder, extra_of, move_steps_of, steps_left}
use Rattle.flash_moves.specs.Places.{log_value}
use Rattle.flash_log.specs.SlotsInTurn.{GivesUp, HasOthersOlder, IsNextSlot}
use Rattle.flash_log.specs.laws.TakingTurns.{next_behind, passed_of}

module _ {T : Type 0} (pages slots sectors : ℕ) where
  -- the copy that may be older is that of a page, as it is in another progress
  own_older : (p : PageMap T) (page o : ℕ) → (p.older ≡ 0) ⊎ (p.older ≡ o) → (o ≡ 0) ⊎ (o ≡ page + 1)
      → OwnsOlder page p
  own_older p page o found own = ⊎_elim
      (λ (none : p.older ≡ 0). inl none)
      (λ (is : p.older ≡ o). ⊎_elim
      (λ (none : o ≡ 0). inl (is ∙ none))
      (λ (one : o ≡ page + 1). inr (is ∙ one))
      own)
      found

  -- the move that is found is that of the flash's own turn
  found_here : (start : ℕ → ℕ) (s : FlashState) (p q : PageMap T) → q ≡ p → q.turn ≡ turn_of slots s.words
      → FindsFurthest pages slots sectors start s.words p.turn p.next (extra_of pages slots sectors) p.erased p.copied
      p.older
      → FindsFurthest pages slots sectors start s.words (turn_of slots s.words) q.next (extra_of pages slots sectors)
      q.erased q.copied q.older
  found_here start s p q same turn finds =
      let extra = extra_of pages slots sectors in
      subst (λ (t : ℕ). FindsFurthest pages slots sectors start s.words t q.next extra q.erased q.copied q.older) turn
      (subst (λ (z : PageMap T). FindsFurthest pages slots sectors start s.words z.turn z.next extra z.erased z.copied
      z.older) (sym same) finds)

  -- The copy of another page is older in the move that is found, so it is in each that goes on.
  pub others_older_found : (start : ℕ → ℕ) (s : FlashState) (p q : PageMap T) (page : ℕ) → q ≡ p
      → q.turn ≡ turn_of slots s.words
      → FindsFurthest pages slots sectors start s.words p.turn p.next (extra_of pages slots sectors) p.erased p.copied
      p.older
      → ¬ OwnsOlder page q → slots ≤ p.next + move_steps_of pages sectors
      → HasOthersOlder pages slots sectors start s.words page q.next
  others_older_found start s p q page same turn finds other near =
      let here = found_here start s p q same turn finds in
      record {
        on = λ e c b o on. ⊎_elim
            (λ (none : q.older ≡ 0). absurd (other (inl none)))
            (λ (is : q.older ≡ o). ((λ none. other (inl (is ∙ none))), (λ own. other (inr (is ∙ own)))))
            (here.on e c b o on).1;
        anew = λ e anew. other (inl (here.anew e anew).1);
        whole = let next = ap (λ (z : PageMap T). z.next) same in omega (arith, near, next);
      }

  -- The move that is found has no slot, so none has that goes on.
  pub gives_up_found : (start : ℕ → ℕ) (s : FlashState) (p q : PageMap T) (page : ℕ) → q ≡ p → q.ready ≡ true
      → q.turn ≡ turn_of slots s.words → AreFree s.words (base_in slots (turn_of slots s.words)) q.next slots
      → FindsFurthest pages slots sectors start s.words p.turn p.next (extra_of pages slots sectors) p.erased p.copied
      p.older
      → (OwnsOlder page q → slots ≤ steps_left pages sectors q + q.next) → slots ≤ p.next + move_steps_of pages sectors
      → GivesUp pages slots sectors start page (log_value pages slots sectors s q)
  gives_up_found start s p q page same ready turn free finds full near =
      let here = found_here start s p q same turn finds in
      let steps : steps_left pages sectors q ≡ steps_from pages sectors (turn_of slots s.words) q.erased q.copied =
      ap (λ (t : ℕ). steps_from pages sectors t q.erased q.copied) turn in
      record {
        next = q.next;
        is = subst (λ (k : ℕ). IsNextSlot slots s.words k q.next)
            (sym (passed_of pages slots sectors s q ready free.within)) (next_behind slots s.words q.next free);
        none = record {
          on = λ e c b o on own.
              let far = here.on e c b o on in
              let less = far.0 in
              let all = full (own_older q page o far.1 own) in
              omega (arith, less, all, steps);
          anew = λ e anew.
              let far = here.anew e anew in
              let less = far.0 in
              let all = full (inl far.1) in
              omega (arith, less, all, steps);
          whole = let here = ap (λ (z : PageMap T). z.next) same in omega (arith, near, here);
        };
      }
