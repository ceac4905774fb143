use Rattle.std.specs.Prelude.{◌&&◌, not}
use Rattle.std.proofs.Common.{◌≡◌, ◌+◌, ℕ, Bool, nat_eq, List, slice_index, sym, ap, ◌∙◌}
use Rattle.std.proofs.lemmas.Bool.{eq-eqb, ne_eqb}
use Rattle.flash_device.specs.declared.flash.TheConstants.{BLANK}
use Rattle.flash_device.specs.FlashLogs.{is_closed as has_closed}
use Rattle.flash_area.proofs.record.is_closed.Goals as goal

pub returns-then-first-clause-closed : goal.returns-then-first-clause-closed
unfolding has_closed
returns-then-first-clause-closed g c =
    let m = (g.F.Flash.state c.args.flash.now).words in
    let at = c.close_at-at.result in
    let first = ne_eqb (slice_index m at) BLANK (λ e. c.if-first.true (c.in_ok-first.ensures.word ∙ e)) in
    sym (ap (λ (b : Bool). not (b && nat_eq (slice_index m (at + 1)) BLANK)) first)
    ∙ ap (λ (k : ℕ). has_closed m k) c.close_at-at.ensures.is

pub returns-clause-closed : goal.returns-clause-closed
unfolding has_closed
returns-clause-closed g c =
    let m = (g.F.Flash.state c.args.flash.now).words in
    let at = c.close_at-at.result in
    let first = eq-eqb (slice_index m at) BLANK (sym c.in_ok-first.ensures.word ∙ c.if-first.false) in
    let second : c.in_ok-second.second ≡ slice_index m (at + 1) =
    c.in_ok-second.ensures.word ∙ ap (λ (l : List ℕ). slice_index l (at + 1)) c.read.ensures.words in
    ap (λ (k : ℕ). not (nat_eq k BLANK)) second
    ∙ sym (ap (λ (b : Bool). not (b && nat_eq (slice_index m (at + 1)) BLANK)) first)
    ∙ ap (λ (k : ℕ). has_closed m k) c.close_at-at.ensures.is
