use Rattle.std.proofs.Common.{◌≡◌, ◌<◌, ◌+◌, ◌-◌, ℕ, Bool, List, Option, sym, ◌∙◌, ap, subst, arith, rules}
use Rattle.undo_journal.specs.Memory.{committed}
use Rattle.undo_journal.specs.laws.Calls.{reads_same, reads_then}
use Rattle.undo_journal.specs.laws.Told.{reads_handed, reads_on, reads_so_far}
use Rattle.card_model.specs.Pins.{with_pin}
use Rattle.pin_store.specs.Pages.{pin_at}
use Rattle.card_model.specs.Secrets.{owner}
use Rattle.command_base.proofs.Disabled.{TellsMarks, all-told, index-next, next_index, none-told, one-disabled}
use Rattle.command_base.proofs.Disabled.{one-enabled}
use Rattle.command_base.proofs.access.disabled_pins.Goals.{then-not-branch, else-not-branch}
use Rattle.command_base.proofs.access.disabled_pins.Goals as goal

pub loop-next-init : goal.loop-next-init
loop-next-init g c =
    let m = committed c.args.store.now in record {
      ready = c.requires.ready;
      reads = reads_same _;
      so_far = subst (λ (n : ℕ). TellsMarks m (n - 1) c.new-disabled.result) (sym c.first.ensures)
          (subst (λ (marks : List Bool). TellsMarks m 0 marks) (sym c.new-disabled.ensures) (none-told m));
    }

pub is_enabled-requires : goal.is_enabled-requires
is_enabled-requires g c = record { ready = c.loop-next.invariant.ready }

pub returns-in_err-is_enabled : goal.returns-in_err-is_enabled
returns-in_err-is_enabled g c = record {
  told = search rules;
  store = reads_handed _ _ _ _ c.from_residual.ensures.1
      (reads_on _ _ _ _ c.loop-next.invariant.reads c.in_err-is_enabled.ensures.store);
}

pub loop-next-preserved : goal.loop-next-preserved
loop-next-preserved g c =
    let m = committed c.args.store.now in
    let pin = c.in-Some.pin in
    let marks = c.loop-next.disabled in
    let number = c.value_of.ensures.in_range in
    let first = number.first in
    let last = number.last in
    let small : pin - 1 < 8 = omega (arith, first, last) in
    let place : pin - 1 + 1 ≡ pin = omega (arith, first) in
    let before = subst (λ (next : Option ℕ). TellsMarks m (next_index next) marks) c.in-Some.is
    c.loop-next.invariant.so_far in
    let secret = c.value_of.ensures.secret in
    let own : owner c.value_of.result ≡ pin - 1 = omega (arith, secret, small) in
    let told : (pin_at m (pin - 1)).enabled ≡ c.in_ok-is_enabled.field-0 =
    sym (c.in_ok-is_enabled.ensures.enabled
    ∙ ap (λ (l : List ℕ). (pin_at l (owner c.value_of.result)).enabled)
    c.loop-next.invariant.reads.keeps.committed_words
    ∙ ap (λ (k : ℕ). (pin_at m k).enabled) own) in
    let after = sym (index-next pin c.next-next.result number c.next-next.ensures.valid c.next-next.ensures.value) in
    record {
      ready = c.in_ok-is_enabled.ensures.store.ready;
      reads = reads_then _ _ _ c.loop-next.invariant.reads c.is_enabled.ensures.store.only;
      so_far = elim c.if-not-branch.branch [
        | then-not-branch w ↦
            subst (λ (l : List Bool). TellsMarks m (next_index c.next-next.result) l)
            (sym (w.disabled-is ∙ w.insert.ensures))
            (subst (λ (n : ℕ). TellsMarks m n (with_pin marks pin)) after
            (subst (λ (k : ℕ). TellsMarks m (pin - 1 + 1) (with_pin marks k)) place
            (one-disabled m (pin - 1) small marks before (told ∙ w.if-not-branch.true))))
        | else-not-branch w ↦
            subst (λ (l : List Bool). TellsMarks m (next_index c.next-next.result) l) (sym w.disabled-is)
            (subst (λ (n : ℕ). TellsMarks m n marks) after
            (one-enabled m (pin - 1) small marks before (told ∙ w.if-not-branch.false)))
      ];
    }

pub returns : goal.returns
returns g c = record {
  told = all-told (committed c.args.store.now) c.loop-next.disabled
      (subst (λ (next : Option ℕ). TellsMarks (committed c.args.store.now) (next_index next) c.loop-next.disabled)
      c.in_default.is c.loop-next.invariant.so_far);
  store = reads_so_far _ _ c.loop-next.invariant.reads c.loop-next.invariant.ready;
}
