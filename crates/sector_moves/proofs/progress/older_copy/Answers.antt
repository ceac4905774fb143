use Rattle.std.proofs.Common.{◌≡◌, ◌≢◌, ◌<◌, ◌+◌, ◌-◌, ◌∙◌, ℕ, List, refl, true, sym, inl, inr, subst, ⊎_elim, arith}
use Rattle.std.proofs.lemmas.Bool.{cases_eq}
use Rattle.flash_device.specs.FlashLogs.{base_in}
use Rattle.flash_area.specs.Spares.{spare_in}
use Rattle.sector_moves.specs.SectorSpares.{ReadsAsCopy}
use Rattle.sector_moves.proofs.progress.older_copy.Goals as goal
use Rattle.sector_moves.proofs.progress.older_copy.Goals.{then-not-branch+else-older-ne0, else-not-branch}

pub loop-k-preserved : goal.loop-k-preserved
loop-k-preserved g c =
    let slots = g.F.Flash.SLOTS in
    let m = (g.F.Flash.state c.args.flash.now).words in
    let reads : ℕ → Type 0 =
    ReadsAsCopy slots m (base_in slots c.args.turn) (spare_in slots c.args.turn) c.args.below in
    let was = c.loop-k.invariant in
    let looked = c.is_copy.ensures in
    let lit = c.in_ok-is_copy.ensures.light.ok (refl {a = true}) in
    let k = c.loop-k.k in
    let lt = c.loop-k-test.true in
    let page = c.args.pages - 1 - k in
    let words = looked.words ∙ was.words in
    let work = looked.work ∙ was.work in
    let erases = looked.erases ∙ was.erases in
    let due = lit.due ∙ was.steady.due in
    let faults = lit.faults ∙ was.steady.faults in
    elim c.if-not-branch.branch [
      | then-not-branch+else-older-ne0 w ↦
          let is : c.if-not-branch.older ≡ page + 1 = w.older-is in
          let none : c.loop-k.older ≡ 0 = w.if-older-ne0.false in
          let differs : ¬ reads page =
          subst (λ (l : List ℕ). ¬ ReadsAsCopy slots l (base_in slots c.args.turn) (spare_in slots c.args.turn)
          c.args.below page) was.words (c.in_ok-is_copy.ensures.differs w.if-not-branch.true) in
          record {
            words = words;
            work = work;
            erases = erases;
            lit = lit.lit;
            steady = record { lit = lit.lit; due = due; faults = faults };
            most = omega (arith, is, lt);
            place = inr (omega (arith, is, lt));
            differs = λ some.
                let here : page ≡ c.if-not-branch.older - 1 = omega (arith, is) in
                subst (λ (p : ℕ). ¬ reads p) here differs;
            same = λ p from below but. was.same p (omega (arith, from, but, is, lt)) below (omega (arith, none));
          }
      | else-not-branch w ↦
          let is : c.if-not-branch.older ≡ c.loop-k.older = w.older-is in
          let here : reads page =
          subst (λ (l : List ℕ). ReadsAsCopy slots l (base_in slots c.args.turn) (spare_in slots c.args.turn)
          c.args.below page) was.words (c.in_ok-is_copy.ensures.same w.if-not-branch.false) in
          let most = was.most in
          record {
            words = words;
            work = work;
            erases = erases;
            lit = lit.lit;
            steady = record { lit = lit.lit; due = due; faults = faults };
            most = omega (arith, is, most);
            place = ⊎_elim
                (λ (none : c.loop-k.older ≡ 0). inl (is ∙ none))
                (λ (past : c.args.pages < c.loop-k.older + k). inr (omega (arith, is, past)))
                was.place;
            differs = λ some. subst (λ (o : ℕ). ¬ reads (o - 1)) (sym is) (was.differs (λ none. some (is ∙ none)));
            same = λ p from below but. ⊎_elim
                (λ (e : p ≡ page). subst reads (sym e) here)
                (λ (other : p ≢ page). was.same p (omega (arith, from, other, lt)) below (λ o. but (o ∙ sym is)))
                (cases_eq p page);
          }
    ]
