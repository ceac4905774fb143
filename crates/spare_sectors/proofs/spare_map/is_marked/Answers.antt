use Rattle.std.specs.Prelude.{◌&&◌}
use Rattle.std.proofs.Common.{◌≡◌, ◌+◌, ℕ, Bool, nat_eq, List, slice_index, sym, ap, ◌∙◌}
use Rattle.std.proofs.lemmas.Bool.{eq-eqb, ne_eqb}
use Rattle.flash_device.specs.declared.layout.TheConstants.{FIRST_MARK, SECOND_MARK}
use Rattle.flash_device.specs.FlashLogs.{is_marked as has_mark}
use Rattle.spare_sectors.proofs.spare_map.is_marked.Goals as goal

pub returns-then-first-eq-FIRST_MARK-clause-marked : goal.returns-then-first-eq-FIRST_MARK-clause-marked
unfolding has_mark
returns-then-first-eq-FIRST_MARK-clause-marked g c =
    let m = (g.D.MapDevice.state c.args.device.now).map in
    let at = c.args.at in
    let first = eq-eqb (slice_index m at) FIRST_MARK (sym c.in_ok-first.ensures.word ∙ c.if-first-eq-FIRST_MARK.true)
    in
    let second : c.in_ok-second.second ≡ slice_index m (at + 1) =
    c.in_ok-second.ensures.word ∙ ap (λ (l : List ℕ). slice_index l (at + 1)) c.read_map.ensures.map in
    ap (λ (k : ℕ). nat_eq k SECOND_MARK) second
    ∙ sym (ap (λ (b : Bool). b && nat_eq (slice_index m (at + 1)) SECOND_MARK) first)

pub returns-else-first-eq-FIRST_MARK-clause-marked : goal.returns-else-first-eq-FIRST_MARK-clause-marked
unfolding has_mark
returns-else-first-eq-FIRST_MARK-clause-marked g c =
    let m = (g.D.MapDevice.state c.args.device.now).map in
    let at = c.args.at in
    let first =
    ne_eqb (slice_index m at) FIRST_MARK (λ e. c.if-first-eq-FIRST_MARK.false (c.in_ok-first.ensures.word ∙ e)) in
    ne_eqb _ FIRST_MARK c.if-first-eq-FIRST_MARK.false
    ∙ sym (ap (λ (b : Bool). b && nat_eq (slice_index m (at + 1)) SECOND_MARK) first)
