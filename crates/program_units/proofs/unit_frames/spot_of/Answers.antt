use Rattle.std.proofs.Common.{◌≡◌, ◌+◌, ◌*◌, ◌-◌, ◌≤◌, ◌<◌, ℕ, sym, ap, ◌∙◌, arith}
use Rattle.flash_device.specs.FlashBlocks.{area_size, witness_start}
use Rattle.program_units.specs.UnitFrames.{frame_in, rank_in}
use Rattle.program_units.specs.laws.UnitPlaces.{in_area_a, in_area_b, in_witness}
use Rattle.program_units.proofs.unit_frames.spot_of.Goals as goal

pub returns-then-at-area-clause-frame : goal.returns-then-at-area-clause-frame
returns-then-at-area-clause-frame g c =
    let slots = g.D.UnitDevice.SLOTS in
    let at = c.args.at in
    let n : c.from-slots.result ≡ slots = omega (arith, c.from-slots.ensures, c.SLOTS.ensures) in
    let from : witness_start slots ≤ at = omega (arith, n, c.if-at-area.true) in
    ap (λ (k : ℕ). 2 * k + 2) n ∙ sym (in_witness slots at from).frame

pub returns-then-at-area-clause-rank : goal.returns-then-at-area-clause-rank
returns-then-at-area-clause-rank g c =
    let slots = g.D.UnitDevice.SLOTS in
    let at = c.args.at in
    let n : c.from-slots.result ≡ slots = omega (arith, c.from-slots.ensures, c.SLOTS.ensures) in
    let from : witness_start slots ≤ at = omega (arith, n, c.if-at-area.true) in
    ap (λ (k : ℕ). 18 + (at - (20 * k + 2 + (20 * k + 2)))) n ∙ sym (in_witness slots at from).rank

pub returns-then-at-area-2-clause-frame : goal.returns-then-at-area-2-clause-frame
returns-then-at-area-2-clause-frame g c =
    let slots = g.D.UnitDevice.SLOTS in
    let at = c.args.at in
    let n : c.from-slots.result ≡ slots = omega (arith, c.from-slots.ensures, c.SLOTS.ensures) in
    let from : area_size slots ≤ at = omega (arith, n, c.if-at-area-2.true) in
    let before : at < witness_start slots = omega (arith, n, c.if-at-area.false) in
    c.spot_in.ensures.frame ∙ ap (λ (k : ℕ). k + 1 + frame_in k (at - (20 * k + 2))) n
    ∙ sym (in_area_b slots at from before).frame

pub returns-then-at-area-2-clause-rank : goal.returns-then-at-area-2-clause-rank
returns-then-at-area-2-clause-rank g c =
    let slots = g.D.UnitDevice.SLOTS in
    let at = c.args.at in
    let n : c.from-slots.result ≡ slots = omega (arith, c.from-slots.ensures, c.SLOTS.ensures) in
    let from : area_size slots ≤ at = omega (arith, n, c.if-at-area-2.true) in
    let before : at < witness_start slots = omega (arith, n, c.if-at-area.false) in
    c.spot_in.ensures.rank ∙ ap (λ (k : ℕ). rank_in k (at - (20 * k + 2))) n
    ∙ sym (in_area_b slots at from before).rank

pub returns-else-at-area-2-clause-frame : goal.returns-else-at-area-2-clause-frame
returns-else-at-area-2-clause-frame g c =
    let slots = g.D.UnitDevice.SLOTS in
    let at = c.args.at in
    let n : c.from-slots.result ≡ slots = omega (arith, c.from-slots.ensures, c.SLOTS.ensures) in
    let before : at < area_size slots = omega (arith, n, c.if-at-area-2.false) in
    let z : 0 + frame_in slots at ≡ frame_in slots at = omega arith in
    c.spot_in-else-at-area-2.ensures.frame ∙ ap (λ (k : ℕ). 0 + frame_in k at) n ∙ z
    ∙ sym (in_area_a slots at before).frame

pub returns-else-at-area-2-clause-rank : goal.returns-else-at-area-2-clause-rank
returns-else-at-area-2-clause-rank g c =
    let slots = g.D.UnitDevice.SLOTS in
    let at = c.args.at in
    let n : c.from-slots.result ≡ slots = omega (arith, c.from-slots.ensures, c.SLOTS.ensures) in
    let before : at < area_size slots = omega (arith, n, c.if-at-area-2.false) in
    c.spot_in-else-at-area-2.ensures.rank ∙ ap (λ (k : ℕ). rank_in k at) n ∙ sym (in_area_a slots at before).rank
