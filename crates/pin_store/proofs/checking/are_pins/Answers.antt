use Rattle.std.proofs.Common.{◌≡◌, ℕ, List, subst, sym, ◌∙◌, true≢false, arith}
use Rattle.std.proofs.lemmas.Result.{IfOk-weaker}
use Rattle.undo_journal.specs.Memory.{committed}
use Rattle.undo_journal.specs.laws.Told.{reads_on}
use Rattle.card_model.specs.declared.limits.TheConstants.{TRIES, UNBLOCKING_TRIES}
use Rattle.pin_store.specs.Pages.{AreAtMost, ArePinPages}
use Rattle.pin_store.proofs.checking.are_pins.Goals as goal

-- pages have few tries where both their words are small
few-tries : (m : List ℕ) (tries unblocking : ℕ) → tries ≡ TRIES → unblocking ≡ UNBLOCKING_TRIES
    → AreAtMost tries 0 m → AreAtMost unblocking 1 m → ArePinPages m
few-tries m tries unblocking is also first second = record {
  each = λ pin small. let few = first.each pin small in let many = second.each pin small in record {
    tries = omega (arith, is, few);
    unblocking_tries = omega (arith, also, many);
  };
}

tries-few : (m : List ℕ) (tries : ℕ) → tries ≡ TRIES → ArePinPages m → AreAtMost tries 0 m
tries-few m tries is pages = record {
  each = λ pin small. let page = pages.each pin small in let few = page.tries in omega (arith, is, few);
}

unblocking-few : (m : List ℕ) (most : ℕ) → most ≡ UNBLOCKING_TRIES → ArePinPages m → AreAtMost most 1 m
unblocking-few m most is pages = record {
  each = λ pin small. let page = pages.each pin small in let few = page.unblocking_tries in omega (arith, is, few);
}

pub returns-then-not-branch : goal.returns-then-not-branch
returns-then-not-branch g c = record {
  told = (
    λ no. absurd (true≢false (sym no)),
    λ pages. absurd (true≢false
        (sym (c.in_ok-are_at_most.ensures.told.1 (tries-few _ _ c.from.ensures pages)) ∙ c.if-not-branch.true)),
  );
  store = c.in_ok-are_at_most.ensures.store;
}

pub returns : goal.returns
returns g c =
    let m = committed c.args.store.now in
    let same = c.are_at_most.ensures.store.only.keeps.committed_words in
    let first = c.in_ok-are_at_most.ensures.told.0 c.if-not-branch.false in record {
      told = IfOk-weaker c.are_at_most-2.result _ _ (λ few told. (
        λ yes. few-tries m _ _ c.from.ensures c.from-2.ensures first
            (subst (λ (l : List ℕ). AreAtMost c.from-2.result 1 l) same (told.0 yes)),
        λ pages. told.1 (subst (λ (l : List ℕ). AreAtMost c.from-2.result 1 l) (sym same)
            (unblocking-few m _ c.from-2.ensures pages)),
      )) c.are_at_most-2.ensures.told;
      store = reads_on _ _ _ _ c.are_at_most.ensures.store.only c.are_at_most-2.ensures.store;
    }
