use Rattle.std.specs.Prelude.{take}
use Rattle.std.proofs.Common.{◌≡◌, ◌<◌, ◌≤◌, ◌+◌, ◌-◌, ℕ, length, max, sym, subst, arith}
use Rattle.std.proofs.lemmas.List.{length-take-le}
use Rattle.flash_device.specs.declared.flash.TheConstants.{BLANK}
use Rattle.flash_device.specs.FlashCalls.{AreFilled, SameElsewhere}
use Rattle.program_units.specs.UnitFrames.{AreUnits, IsFrameRun, IsPartRun, device_size}
use Rattle.program_units.specs.laws.UnitSteps.{done_is_fresh, failed_is_fresh, placed_run, run_is_blank}
use Rattle.program_units.specs.laws.UnitSteps.{run_in_frame, run_is_fresh, run_is_there, run_keeps_others}
use Rattle.program_units.specs.laws.UnitSteps.{run_fits, run_is_part, run_units, taken_some}
use Rattle.program_units.specs.laws.UnitSteps.{run_within}
use Rattle.program_units.proofs.unit_calls.program_run.Goals as goal

pub program-requires-clause-run : goal.program-requires-clause-run
program-requires-clause-run g c =
    let unit = g.D.UnitDevice.UNIT in
    let slots = g.D.UnitDevice.SLOTS in
    let old = g.D.UnitDevice.state c.args.device.now in
    let at = c.args.at in
    let place = c.place_at-place.result in
    let words = c.args.words.now in
    let whole = c.filled_up-whole.result in
    let many = length words - 2 + c.pair_words.result in
    let most : many ≤ length whole =
    let few = c.requires.size in
    let pair = c.pair_words.ensures.few in
    let all = c.filled_up-whole.ensures.size in
    omega (arith, few.0, few.1, pair, all) in
    let taken : length (take many whole) ≡ many = length-take-le many whole most in
    let is : many ≡ length words - 2 + max 2 unit = omega (arith, c.pair_words.ensures.is) in
    let some : 0 < length words = omega (arith, c.requires.size.0) in
    let run = placed_run unit slots at (length words) c.spot_of.result.frame c.spot_of.result.rank place many
    g.met.D.UnitDevice.unit_fits c.requires.run some c.spot_of.ensures.frame c.spot_of.ensures.rank
    c.place_at-place.ensures.is is in
    subst (λ (k : ℕ). IsFrameRun place k) (sym taken)
    (run_in_frame unit slots at (length words) place many run some)

pub program-requires-clause-units : goal.program-requires-clause-units
program-requires-clause-units g c =
    let unit = g.D.UnitDevice.UNIT in
    let slots = g.D.UnitDevice.SLOTS in
    let old = g.D.UnitDevice.state c.args.device.now in
    let at = c.args.at in
    let place = c.place_at-place.result in
    let words = c.args.words.now in
    let whole = c.filled_up-whole.result in
    let many = length words - 2 + c.pair_words.result in
    let most : many ≤ length whole =
    let few = c.requires.size in
    let pair = c.pair_words.ensures.few in
    let all = c.filled_up-whole.ensures.size in
    omega (arith, few.0, few.1, pair, all) in
    let taken : length (take many whole) ≡ many = length-take-le many whole most in
    let is : many ≡ length words - 2 + max 2 unit = omega (arith, c.pair_words.ensures.is) in
    let some : 0 < length words = omega (arith, c.requires.size.0) in
    let run = placed_run unit slots at (length words) c.spot_of.result.frame c.spot_of.result.rank place many
    g.met.D.UnitDevice.unit_fits c.requires.run some c.spot_of.ensures.frame c.spot_of.ensures.rank
    c.place_at-place.ensures.is is in
    subst (λ (k : ℕ). AreUnits unit place k) (sym taken)
    (run_units unit slots at (length words) place many run g.met.D.UnitDevice.unit_fits)

pub program-requires-clause-part : goal.program-requires-clause-part
program-requires-clause-part g c =
    let unit = g.D.UnitDevice.UNIT in
    let slots = g.D.UnitDevice.SLOTS in
    let at = c.args.at in
    let place = c.place_at-place.result in
    let words = c.args.words.now in
    let whole = c.filled_up-whole.result in
    let many = length words - 2 + c.pair_words.result in
    let most : many ≤ length whole =
    let few = c.requires.size in
    let pair = c.pair_words.ensures.few in
    let all = c.filled_up-whole.ensures.size in
    omega (arith, few.0, few.1, pair, all) in
    let taken : length (take many whole) ≡ many = length-take-le many whole most in
    let is : many ≡ length words - 2 + max 2 unit = omega (arith, c.pair_words.ensures.is) in
    let some : 0 < length words = omega (arith, c.requires.size.0) in
    let run = placed_run unit slots at (length words) c.spot_of.result.frame c.spot_of.result.rank place many
    g.met.D.UnitDevice.unit_fits c.requires.run some c.spot_of.ensures.frame c.spot_of.ensures.rank
    c.place_at-place.ensures.is is in
    subst (λ (k : ℕ). IsPartRun unit place k) (sym taken)
    (run_is_part unit slots at (length words) place many run)

pub program-requires-clause-within : goal.program-requires-clause-within
program-requires-clause-within g c =
    let unit = g.D.UnitDevice.UNIT in
    let slots = g.D.UnitDevice.SLOTS in
    let old = g.D.UnitDevice.state c.args.device.now in
    let at = c.args.at in
    let place = c.place_at-place.result in
    let words = c.args.words.now in
    let whole = c.filled_up-whole.result in
    let many = length words - 2 + c.pair_words.result in
    let most : many ≤ length whole =
    let few = c.requires.size in
    let pair = c.pair_words.ensures.few in
    let all = c.filled_up-whole.ensures.size in
    omega (arith, few.0, few.1, pair, all) in
    let taken : length (take many whole) ≡ many = length-take-le many whole most in
    let is : many ≡ length words - 2 + max 2 unit = omega (arith, c.pair_words.ensures.is) in
    let some : 0 < length words = omega (arith, c.requires.size.0) in
    let run = placed_run unit slots at (length words) c.spot_of.result.frame c.spot_of.result.rank place many
    g.met.D.UnitDevice.unit_fits c.requires.run some c.spot_of.ensures.frame c.spot_of.ensures.rank
    c.place_at-place.ensures.is is in
    subst (λ (k : ℕ). place + k ≤ device_size slots) (sym taken)
    (run_within unit slots at (length words) place many run)

pub program-requires-clause-blank : goal.program-requires-clause-blank
program-requires-clause-blank g c =
    let unit = g.D.UnitDevice.UNIT in
    let slots = g.D.UnitDevice.SLOTS in
    let old = g.D.UnitDevice.state c.args.device.now in
    let at = c.args.at in
    let place = c.place_at-place.result in
    let words = c.args.words.now in
    let whole = c.filled_up-whole.result in
    let many = length words - 2 + c.pair_words.result in
    let most : many ≤ length whole =
    let few = c.requires.size in
    let pair = c.pair_words.ensures.few in
    let all = c.filled_up-whole.ensures.size in
    omega (arith, few.0, few.1, pair, all) in
    let taken : length (take many whole) ≡ many = length-take-le many whole most in
    let is : many ≡ length words - 2 + max 2 unit = omega (arith, c.pair_words.ensures.is) in
    let some : 0 < length words = omega (arith, c.requires.size.0) in
    let run = placed_run unit slots at (length words) c.spot_of.result.frame c.spot_of.result.rank place many
    g.met.D.UnitDevice.unit_fits c.requires.run some c.spot_of.ensures.frame c.spot_of.ensures.rank
    c.place_at-place.ensures.is is in
    subst (λ (k : ℕ). AreFilled old.flash.words place k BLANK) (sym taken)
    (run_is_blank unit slots at (length words) place many run old.flash.words c.requires.within c.requires.blank)

pub program-requires-clause-fresh : goal.program-requires-clause-fresh
program-requires-clause-fresh g c =
    let unit = g.D.UnitDevice.UNIT in
    let slots = g.D.UnitDevice.SLOTS in
    let old = g.D.UnitDevice.state c.args.device.now in
    let at = c.args.at in
    let place = c.place_at-place.result in
    let words = c.args.words.now in
    let whole = c.filled_up-whole.result in
    let many = length words - 2 + c.pair_words.result in
    let most : many ≤ length whole =
    let few = c.requires.size in
    let pair = c.pair_words.ensures.few in
    let all = c.filled_up-whole.ensures.size in
    omega (arith, few.0, few.1, pair, all) in
    let taken : length (take many whole) ≡ many = length-take-le many whole most in
    let is : many ≡ length words - 2 + max 2 unit = omega (arith, c.pair_words.ensures.is) in
    let some : 0 < length words = omega (arith, c.requires.size.0) in
    let run = placed_run unit slots at (length words) c.spot_of.result.frame c.spot_of.result.rank place many
    g.met.D.UnitDevice.unit_fits c.requires.run some c.spot_of.ensures.frame c.spot_of.ensures.rank
    c.place_at-place.ensures.is is in
    subst (λ (k : ℕ). AreFilled old.programs place k 0) (sym taken)
    (run_is_fresh unit slots at (length words) place many run old c.requires.within c.requires.fresh c.requires.blank)

pub program-requires-clause-some : goal.program-requires-clause-some
program-requires-clause-some g c =
    let unit = g.D.UnitDevice.UNIT in
    let slots = g.D.UnitDevice.SLOTS in
    let at = c.args.at in
    let place = c.place_at-place.result in
    let words = c.args.words.now in
    let whole = c.filled_up-whole.result in
    let many = length words - 2 + c.pair_words.result in
    let most : many ≤ length whole =
    let few = c.requires.size in
    let pair = c.pair_words.ensures.few in
    let all = c.filled_up-whole.ensures.size in
    omega (arith, few.0, few.1, pair, all) in
    let taken : length (take many whole) ≡ many = length-take-le many whole most in
    let is : many ≡ length words - 2 + max 2 unit = omega (arith, c.pair_words.ensures.is) in
    let some : 0 < length words = omega (arith, c.requires.size.0) in
    let run = placed_run unit slots at (length words) c.spot_of.result.frame c.spot_of.result.rank place many
    g.met.D.UnitDevice.unit_fits c.requires.run some c.spot_of.ensures.frame c.spot_of.ensures.rank
    c.place_at-place.ensures.is is in
    taken_some words whole many taken (run_fits unit slots at (length words) place many run)
    c.filled_up-whole.ensures.there c.requires.some

pub returns-in_err-program-clause-elsewhere : goal.returns-in_err-program-clause-elsewhere
returns-in_err-program-clause-elsewhere g c =
    let unit = g.D.UnitDevice.UNIT in
    let slots = g.D.UnitDevice.SLOTS in
    let old = g.D.UnitDevice.state c.args.device.now in
    let new = g.D.UnitDevice.state c.program.new.self in
    let at = c.args.at in
    let place = c.place_at-place.result in
    let words = c.args.words.now in
    let whole = c.filled_up-whole.result in
    let many = length words - 2 + c.pair_words.result in
    let most : many ≤ length whole =
    let few = c.requires.size in
    let pair = c.pair_words.ensures.few in
    let all = c.filled_up-whole.ensures.size in
    omega (arith, few.0, few.1, pair, all) in
    let taken : length (take many whole) ≡ many = length-take-le many whole most in
    let is : many ≡ length words - 2 + max 2 unit = omega (arith, c.pair_words.ensures.is) in
    let some : 0 < length words = omega (arith, c.requires.size.0) in
    let run = placed_run unit slots at (length words) c.spot_of.result.frame c.spot_of.result.rank place many
    g.met.D.UnitDevice.unit_fits c.requires.run some c.spot_of.ensures.frame c.spot_of.ensures.rank
    c.place_at-place.ensures.is is in
    let few : 0 < slots = let fits = (g.met.D.UnitDevice.slots_fit).0 in omega (arith, fits) in
    let same = subst (λ (k : ℕ). SameElsewhere old.flash.words place k new.flash.words) taken
    c.program.ensures.elsewhere in
    run_keeps_others unit slots at (length words) place many run old.flash.words new.flash.words few c.requires.within
    same

pub returns-in_err-program-clause-fresh : goal.returns-in_err-program-clause-fresh
returns-in_err-program-clause-fresh g c =
    let unit = g.D.UnitDevice.UNIT in
    let slots = g.D.UnitDevice.SLOTS in
    let old = g.D.UnitDevice.state c.args.device.now in
    let new = g.D.UnitDevice.state c.program.new.self in
    let at = c.args.at in
    let place = c.place_at-place.result in
    let words = c.args.words.now in
    let whole = c.filled_up-whole.result in
    let many = length words - 2 + c.pair_words.result in
    let most : many ≤ length whole =
    let few = c.requires.size in
    let pair = c.pair_words.ensures.few in
    let all = c.filled_up-whole.ensures.size in
    omega (arith, few.0, few.1, pair, all) in
    let taken : length (take many whole) ≡ many = length-take-le many whole most in
    let is : many ≡ length words - 2 + max 2 unit = omega (arith, c.pair_words.ensures.is) in
    let some : 0 < length words = omega (arith, c.requires.size.0) in
    let run = placed_run unit slots at (length words) c.spot_of.result.frame c.spot_of.result.rank place many
    g.met.D.UnitDevice.unit_fits c.requires.run some c.spot_of.ensures.frame c.spot_of.ensures.rank
    c.place_at-place.ensures.is is in
    let same = subst (λ (k : ℕ). SameElsewhere old.flash.words place k new.flash.words) taken
    c.program.ensures.elsewhere in
    failed_is_fresh unit slots at (length words) place many run old new c.requires.within c.requires.fresh
    c.requires.blank same c.in_err-program.ensures.failed

pub returns-clause-done : goal.returns-clause-done
returns-clause-done g c =
    let unit = g.D.UnitDevice.UNIT in
    let slots = g.D.UnitDevice.SLOTS in
    let old = g.D.UnitDevice.state c.args.device.now in
    let new = g.D.UnitDevice.state c.program.new.self in
    let at = c.args.at in
    let place = c.place_at-place.result in
    let words = c.args.words.now in
    let whole = c.filled_up-whole.result in
    let many = length words - 2 + c.pair_words.result in
    let most : many ≤ length whole =
    let few = c.requires.size in
    let pair = c.pair_words.ensures.few in
    let all = c.filled_up-whole.ensures.size in
    omega (arith, few.0, few.1, pair, all) in
    let taken : length (take many whole) ≡ many = length-take-le many whole most in
    let is : many ≡ length words - 2 + max 2 unit = omega (arith, c.pair_words.ensures.is) in
    let some : 0 < length words = omega (arith, c.requires.size.0) in
    let run = placed_run unit slots at (length words) c.spot_of.result.frame c.spot_of.result.rank place many
    g.met.D.UnitDevice.unit_fits c.requires.run some c.spot_of.ensures.frame c.spot_of.ensures.rank
    c.place_at-place.ensures.is is in
    run_is_there unit slots at place many words whole run c.requires.within taken c.filled_up-whole.ensures.there
    c.filled_up-whole.ensures.rest new.flash.words c.in_ok-program.ensures.done

pub returns-clause-elsewhere : goal.returns-clause-elsewhere
returns-clause-elsewhere g c =
    let unit = g.D.UnitDevice.UNIT in
    let slots = g.D.UnitDevice.SLOTS in
    let old = g.D.UnitDevice.state c.args.device.now in
    let new = g.D.UnitDevice.state c.program.new.self in
    let at = c.args.at in
    let place = c.place_at-place.result in
    let words = c.args.words.now in
    let whole = c.filled_up-whole.result in
    let many = length words - 2 + c.pair_words.result in
    let most : many ≤ length whole =
    let few = c.requires.size in
    let pair = c.pair_words.ensures.few in
    let all = c.filled_up-whole.ensures.size in
    omega (arith, few.0, few.1, pair, all) in
    let taken : length (take many whole) ≡ many = length-take-le many whole most in
    let is : many ≡ length words - 2 + max 2 unit = omega (arith, c.pair_words.ensures.is) in
    let some : 0 < length words = omega (arith, c.requires.size.0) in
    let run = placed_run unit slots at (length words) c.spot_of.result.frame c.spot_of.result.rank place many
    g.met.D.UnitDevice.unit_fits c.requires.run some c.spot_of.ensures.frame c.spot_of.ensures.rank
    c.place_at-place.ensures.is is in
    let few : 0 < slots = let fits = (g.met.D.UnitDevice.slots_fit).0 in omega (arith, fits) in
    let same = subst (λ (k : ℕ). SameElsewhere old.flash.words place k new.flash.words) taken
    c.program.ensures.elsewhere in
    run_keeps_others unit slots at (length words) place many run old.flash.words new.flash.words few c.requires.within
    same

pub returns-clause-fresh : goal.returns-clause-fresh
returns-clause-fresh g c =
    let unit = g.D.UnitDevice.UNIT in
    let slots = g.D.UnitDevice.SLOTS in
    let old = g.D.UnitDevice.state c.args.device.now in
    let new = g.D.UnitDevice.state c.program.new.self in
    let at = c.args.at in
    let place = c.place_at-place.result in
    let words = c.args.words.now in
    let whole = c.filled_up-whole.result in
    let many = length words - 2 + c.pair_words.result in
    let most : many ≤ length whole =
    let few = c.requires.size in
    let pair = c.pair_words.ensures.few in
    let all = c.filled_up-whole.ensures.size in
    omega (arith, few.0, few.1, pair, all) in
    let taken : length (take many whole) ≡ many = length-take-le many whole most in
    let is : many ≡ length words - 2 + max 2 unit = omega (arith, c.pair_words.ensures.is) in
    let some : 0 < length words = omega (arith, c.requires.size.0) in
    let run = placed_run unit slots at (length words) c.spot_of.result.frame c.spot_of.result.rank place many
    g.met.D.UnitDevice.unit_fits c.requires.run some c.spot_of.ensures.frame c.spot_of.ensures.rank
    c.place_at-place.ensures.is is in
    let same = subst (λ (k : ℕ). SameElsewhere old.flash.words place k new.flash.words) taken
    c.program.ensures.elsewhere in
    let others = subst (λ (k : ℕ). SameElsewhere old.programs place k new.programs) taken c.program.ensures.others in
    done_is_fresh unit slots at place many words whole run c.requires.within taken c.filled_up-whole.ensures.there
    c.filled_up-whole.ensures.rest old new c.requires.some c.requires.fresh same others
    c.in_ok-program.ensures.done
