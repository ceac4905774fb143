use Rattle.std.proofs.Common.{◌≡◌, ◌-◌, ℕ, List, true, false, slice_index, sym, ap, ap₂, ◌∙◌, arith}
use Rattle.program_units.specs.UnitWords.{is_blank_run, rest_at}
use Rattle.program_units.specs.laws.BlankRuns.{blank_filled, frame_word_plain, frame_word_spoilt, frame_word_there}
use Rattle.program_units.proofs.unit_calls.read_spot.Goals as goal

pub returns-then-spot-lt16-clause-word : goal.returns-then-spot-lt16-clause-word
returns-then-spot-lt16-clause-word g c =
    let m = (g.D.UnitDevice.state c.args.device.now).flash.words in
    let f = c.args.spot.frame in
    let r = c.args.spot.rank in
    c.in_ok-word.ensures.word ∙ ap (λ (p : ℕ). slice_index m p) c.place_at.ensures.is
    ∙ sym (frame_word_plain g.D.UnitDevice.UNIT m f r c.if-spot-lt16.true)

pub returns-then-branch-clause-word : goal.returns-then-branch-clause-word
returns-then-branch-clause-word g c =
    let unit = g.D.UnitDevice.UNIT in
    let m = (g.D.UnitDevice.state c.args.device.now).flash.words in
    let mid = (g.D.UnitDevice.state c.read.new.self).flash.words in
    let f = c.args.spot.frame in
    let r = c.args.spot.rank in
    let size : c.pair_words.result - 2 ≡ unit - 2 = omega (arith, c.pair_words.ensures.is) in
    let blank : is_blank_run m (rest_at f r) (unit - 2) ≡ true =
    sym (ap (λ (l : List ℕ). is_blank_run l c.rest_of.result (c.pair_words.result - 2)) c.read.ensures.words
    ∙ ap₂ (λ (p n : ℕ). is_blank_run m p n) c.rest_of.ensures.is size)
    ∙ sym c.in_ok-has_blank.ensures.blank ∙ c.if-branch.true in
    c.in_ok-word.ensures.word ∙ ap (λ (p : ℕ). slice_index m p) c.place_at.ensures.is
    ∙ sym (frame_word_there unit m f r (blank_filled m (rest_at f r) (unit - 2) blank))

pub returns-clause-word : goal.returns-clause-word
returns-clause-word g c =
    let unit = g.D.UnitDevice.UNIT in
    let m = (g.D.UnitDevice.state c.args.device.now).flash.words in
    let f = c.args.spot.frame in
    let r = c.args.spot.rank in
    let size : c.pair_words.result - 2 ≡ unit - 2 = omega (arith, c.pair_words.ensures.is) in
    let spoilt : is_blank_run m (rest_at f r) (unit - 2) ≡ false =
    sym (ap (λ (l : List ℕ). is_blank_run l c.rest_of.result (c.pair_words.result - 2)) c.read.ensures.words
    ∙ ap₂ (λ (p n : ℕ). is_blank_run m p n) c.rest_of.ensures.is size)
    ∙ sym c.in_ok-has_blank.ensures.blank ∙ c.if-branch.false in
    sym (frame_word_spoilt unit m f r c.if-spot-lt16.false spoilt)
