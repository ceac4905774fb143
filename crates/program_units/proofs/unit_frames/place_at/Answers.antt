use Rattle.std.proofs.Common.{◌+◌, ◌*◌, ℕ, sym, ap, ◌∙◌}
use Rattle.program_units.specs.laws.UnitPlaces.{place_mark, place_record}
use Rattle.program_units.proofs.unit_frames.place_at.Goals as goal
use Rattle.program_units.proofs.unit_frames.place_at.Goals.{then-spot-ge-RECORD_WORDS, else-spot-ge-RECORD_WORDS}

pub returns-clause-is : goal.returns-clause-is
returns-clause-is c =
    let f = c.args.spot.frame in
    let r = c.args.spot.rank in
    elim c.if-spot-ge-RECORD_WORDS.branch [
      | then-spot-ge-RECORD_WORDS w ↦
          ap (λ (k : ℕ). 32 * f + k) w.in_frame-is ∙ sym (place_mark f r w.if-spot-ge-RECORD_WORDS.true)
      | else-spot-ge-RECORD_WORDS w ↦
          ap (λ (k : ℕ). 32 * f + k) w.in_frame-is ∙ sym (place_record f r w.if-spot-ge-RECORD_WORDS.false)
    ]
