-- Laws of programs and erases of a device with program units, as a log sees them.
use Rattle.std.specs.Prelude.{◌≡◌, ◌≢◌, ◌⊎◌, ◌<◌, ◌≤◌, ◌+◌, ◌-◌, ◌*◌, ◌%◌, ℕ, List, length, max, slice_index, take}
use Rattle.std.proofs.Common.{sym, ◌∙◌, ap, ap₂, inl, inr, subst, ⊎_elim, arith}
use Rattle.std.proofs.lemmas.Bool.{cases_eq, cases_lt}
use Rattle.std.proofs.lemmas.List.{get_or-take}
use Rattle.flash_device.specs.declared.flash.TheConstants.{BLANK}
use Rattle.flash_device.specs.FlashBlocks.{flash_size}
use Rattle.flash_device.specs.FlashCalls.{AreFilled, IsThere, SameElsewhere}
use Rattle.flash_device.specs.ProgrammedRuns.{IsProgramRun}
use Rattle.program_units.specs.UnitFrames.{AreUnits, IsFramePart, IsFrameRun, IsPartRun, IsUnit, device_size}
use Rattle.program_units.specs.UnitFrames.{frame_of, frame_start, place_in, rank_of, span_of}
use Rattle.program_units.specs.UnitStates.{CountsErase, UnitState}
use Rattle.program_units.specs.UnitWords.{HasFreshUnits, LooksBlank, frame_word, rest_at, unit_words}
use Rattle.program_units.specs.laws.BlankRuns.{frame_word_there}
use Rattle.program_units.specs.laws.UnitImages.{index-unit_words, no-unit_word}
use Rattle.program_units.specs.laws.UnitPlaces.{before_frame, from_frame, place_mark, place_record, placed}
use Rattle.program_units.specs.laws.UnitPlaces.{start_most, starts_rise}
use Rattle.program_units.specs.laws.UnitRuns.{IsOther, LiesOutside, RunIn, apart, frame_before, frame_behind}
use Rattle.program_units.specs.laws.UnitRuns.{outside_run, part_place, part_rest, part_span, place_most, rest_most}
use Rattle.program_units.specs.laws.UnitRuns.{blank_part_is, part_units, run_frame, unit_most, word_kept}

-- a word of a run of the log
run_word : (unit slots at size frame rank : ℕ) (m : List ℕ) (k : ℕ) → RunIn slots at size frame rank
    → at + size ≤ flash_size slots → k < size
    → slice_index (unit_words unit slots m) (at + k) ≡ frame_word unit m frame (rank + k)
run_word unit slots at size frame rank m k run within lt =
    let inside : at + k < flash_size slots = omega (arith, lt, within) in
    let lies = run.each k lt in
    index-unit_words unit slots m (at + k) inside
    ∙ ap₂ (λ (f r : ℕ). frame_word unit m f r) lies.frame lies.rank

-- a run that is blank
pub run_blank : (unit slots at size frame rank : ℕ) (m : List ℕ) → RunIn slots at size frame rank
    → at + size ≤ flash_size slots → AreFilled (unit_words unit slots m) at size BLANK
    → LooksBlank unit m frame rank size
run_blank unit slots at size frame rank m run within all = record {
  each = λ k lt. sym (run_word unit slots at size frame rank m k run within lt) ∙ all.each k lt;
}

pub blank_run : (unit slots at size frame rank : ℕ) (m : List ℕ) → RunIn slots at size frame rank
    → at + size ≤ flash_size slots → LooksBlank unit m frame rank size
    → AreFilled (unit_words unit slots m) at size BLANK
blank_run unit slots at size frame rank m run within looks = record {
  each = λ k lt. run_word unit slots at size frame rank m k run within lt ∙ looks.each k lt;
}

-- What a program leaves on the device: the run, and blank words behind it.
pub record IsFilledUp (unit : ℕ) (m : List ℕ) (place size : ℕ) (words : List ℕ) : Type 0 where
  pub there : (k : ℕ) → k < size → slice_index m (place + k) ≡ slice_index words k
  pub rest : (k : ℕ) → size ≤ k → k < span_of unit size → slice_index m (place + k) ≡ BLANK

-- a run that was programmed
pub run_there : (unit slots at frame rank : ℕ) (after words : List ℕ) → unit ≤ 8
    → RunIn slots at (length words) frame rank → at + length words ≤ flash_size slots
    → IsFilledUp unit after (place_in frame rank) (length words) words
    → IsThere (unit_words unit slots after) at words
run_there unit slots at frame rank after words most run within filled =
    let size = length words in
    let span = part_span unit frame rank size most run.part in record {
      each = λ k lt.
          let rest : AreFilled after (rest_at frame (rank + k)) (unit - 2) BLANK =
          subst (λ (p : ℕ). AreFilled after p (unit - 2) BLANK) (sym (part_rest frame rank size k run.part lt))
          (record {
            each = λ j few.
                let e = span.rest in
                let fills = span.fills in
                let there : rest_at frame rank + j ≡ place_in frame rank + (size + j) = omega (arith, e) in
                ap (λ (p : ℕ). slice_index after p) there
                ∙ filled.rest (size + j) (omega arith) (omega (arith, few, fills));
          }) in
          run_word unit slots at size frame rank after k run within lt
          ∙ frame_word_there unit after frame (rank + k) rest
          ∙ ap (λ (p : ℕ). slice_index after p) (part_place frame rank size k run.part lt)
          ∙ filled.there k lt;
    }

-- all other words of the log stay
pub run_elsewhere : (unit slots at size frame rank : ℕ) (m after : List ℕ) → unit ≤ 8 → 0 < slots
    → RunIn slots at size frame rank → at + size ≤ flash_size slots
    → SameElsewhere m (place_in frame rank) (span_of unit size) after
    → SameElsewhere (unit_words unit slots m) at size (unit_words unit slots after)
run_elsewhere unit slots at size frame rank m after most some run within same = record {
  same = λ a out. ⊎_elim
      (λ (lt : a < flash_size slots).
      let is = placed slots a some lt in
      let other = outside_run slots at size frame rank a some run within out is in
      let far = apart unit frame rank size (frame_of slots a) (rank_of slots a) most run.part is.few other in
      index-unit_words unit slots after a lt
      ∙ word_kept unit m after (place_in frame rank) (span_of unit size) (frame_of slots a) (rank_of slots a) same far
      ∙ sym (index-unit_words unit slots m a lt))
      (λ (ge : flash_size slots ≤ a). no-unit_word unit slots after a ge ∙ sym (no-unit_word unit slots m a ge))
      (cases_lt a (flash_size slots));
}

-- two parts
same_size : (rank size r n : ℕ) → IsFramePart rank size → IsFramePart r n → r ≡ rank → n ≡ size
same_size rank size r n part other e = ⊎_elim
    (λ (x : (rank ≡ 0) × (size ≡ 18)). let a = x.0 in let b = x.1 in ⊎_elim
    (λ (y : (r ≡ 0) × (n ≡ 18)). let c = y.1 in omega (arith, b, c))
    (λ (y : (r ≡ 18) × (n ≡ 2)). let c = y.0 in absurd (omega (arith, a, c, e))) other.is)
    (λ (x : (rank ≡ 18) × (size ≡ 2)). let a = x.0 in let b = x.1 in ⊎_elim
    (λ (y : (r ≡ 0) × (n ≡ 18)). let c = y.0 in absurd (omega (arith, a, c, e)))
    (λ (y : (r ≡ 18) × (n ≡ 2)). let c = y.1 in omega (arith, b, c)) other.is)
    part.is

part_few : (r n k : ℕ) → IsFramePart r n → k < n → r + k < 20
part_few r n k part lt = ⊎_elim
    (λ (x : (r ≡ 0) × (n ≡ 18)). let a = x.0 in let b = x.1 in omega (arith, a, b, lt))
    (λ (x : (r ≡ 18) × (n ≡ 2)). let a = x.0 in let b = x.1 in omega (arith, a, b, lt)) part.is

other_part : (rank size r n k : ℕ) → IsFramePart rank size → IsFramePart r n → r ≢ rank → k < n → IsOther rank (r + k)
other_part rank size r n k part other differ lt = ⊎_elim
    (λ (x : (rank ≡ 0) × (size ≡ 18)). let a = x.0 in ⊎_elim
    (λ (y : (r ≡ 0) × (n ≡ 18)). let c = y.0 in absurd (differ (c ∙ sym a)))
    (λ (y : (r ≡ 18) × (n ≡ 2)). let c = y.0 in record { is = inl (a, omega (arith, c)) }) other.is)
    (λ (x : (rank ≡ 18) × (size ≡ 2)). let a = x.0 in ⊎_elim
    (λ (y : (r ≡ 0) × (n ≡ 18)). let c = y.0 in let b = y.1 in record { is = inr (a, omega (arith, c, b, lt)) })
    (λ (y : (r ≡ 18) × (n ≡ 2)). let c = y.0 in absurd (differ (c ∙ sym a))) other.is)
    part.is

-- what two parts take does not overlap
spans_apart : (unit frame rank size f r n k : ℕ) → unit ≤ 8 → IsFramePart rank size → IsFramePart r n
    → (f ≢ frame) ⊎ (r ≢ rank) → k < span_of unit n
    → (place_in f r + k < place_in frame rank) ⊎ (place_in frame rank + span_of unit size ≤ place_in f r + k)
spans_apart unit frame rank size f r n k most part other differ lt =
    let span = part_span unit frame rank size most part in
    let next = part_span unit f r n most other in
    let from = span.from in
    let last = span.last in
    let begin = next.from in
    let end = next.last in
    ⊎_elim
    (λ (before : f < frame).
    let x : place_in f r + k < place_in frame rank = omega (arith, before, end, from, lt) in inl x)
    (λ (ge : frame ≤ f). ⊎_elim
    (λ (behind : frame < f).
    let x : place_in frame rank + span_of unit size ≤ place_in f r + k = omega (arith, behind, begin, last) in inr x)
    (λ (le : f ≤ frame).
    let same : f ≡ frame = omega (arith, le, ge) in
    let ranks : r ≢ rank = ⊎_elim (λ (x : f ≢ frame). absurd (x same)) (λ (x : r ≢ rank). x) differ in
    in_frame same ranks)
    (cases_lt frame f))
    (cases_lt f frame)
  where
    in_frame : f ≡ frame → r ≢ rank
        → (place_in f r + k < place_in frame rank) ⊎ (place_in frame rank + span_of unit size ≤ place_in f r + k)
    in_frame same ranks = ⊎_elim
        (λ (x : (rank ≡ 0) × (size ≡ 18)).
        let span = part_span unit frame rank size most part in
        let one : 0 < n = ⊎_elim (λ (y : (r ≡ 0) × (n ≡ 18)). let b = y.1 in omega (arith, b))
        (λ (y : (r ≡ 18) × (n ≡ 2)). let b = y.1 in omega (arith, b)) other.is in
        let far = apart unit frame rank size f (r + 0) most part (part_few r n 0 other one)
        (inr (other_part rank size r n 0 part other ranks one)) in
        let z : place_in f (r + 0) ≡ place_in f r =
        let e : r + 0 ≡ r = omega arith in ap (λ (i : ℕ). place_in f i) e in
        let from = (place_most f (r + 0) (part_few r n 0 other one)).0 in
        ⊎_elim
        (λ (lt0 : place_in f (r + 0) < place_in frame rank).
        let a = x.0 in let place = place_record_at a in absurd (omega (arith, lt0, from, same, place)))
        (λ (ge : place_in frame rank + span_of unit size ≤ place_in f (r + 0)).
        let y : place_in frame rank + span_of unit size ≤ place_in f r + k = omega (arith, ge, z) in inr y)
        far.word)
        (λ (x : (rank ≡ 18) × (size ≡ 2)).
        let a = x.0 in
        let zero : r ≡ 0 = ⊎_elim (λ (y : (r ≡ 0) × (n ≡ 18)). y.0)
        (λ (y : (r ≡ 18) × (n ≡ 2)). let c = y.0 in absurd (ranks (c ∙ sym a))) other.is in
        let mine = place_record_of f r zero in
        let there = place_mark_at a in
        let next = part_span unit f r n most other in
        let short = next.short in
        let y : place_in f r + k < place_in frame rank = omega (arith, mine, there, short, same, lt) in inl y)
        part.is
      where
        place_record_of : (f r : ℕ) → r ≡ 0 → place_in f r ≡ 32 * f
        place_record_of f r z = let e = place_record f r (omega (arith, z)) in omega (arith, e, z)

        place_record_at : rank ≡ 0 → place_in frame rank ≡ 32 * frame
        place_record_at z = place_record_of frame rank z

        place_mark_at : rank ≡ 18 → place_in frame rank ≡ 32 * frame + 24
        place_mark_at a = let e = place_mark frame rank (omega (arith, a)) in omega (arith, e, a)

-- what looked blank elsewhere still does, and was not programmed since
pub fresh_kept : (unit : ℕ) (old new : UnitState) (frame rank size : ℕ) → unit ≤ 8 → IsFramePart rank size
    → HasFreshUnits unit old → SameElsewhere old.flash.words (place_in frame rank) (span_of unit size) new.flash.words
    → SameElsewhere old.programs (place_in frame rank) (span_of unit size) new.programs
    → (LooksBlank unit new.flash.words frame rank size
    → AreFilled new.programs (place_in frame rank) (span_of unit size) 0)
    → HasFreshUnits unit new
fresh_kept unit old new frame rank size most part fresh words programs here = record {
  each = λ f r n other looks. ⊎_elim
      (λ (same : f ≡ frame). ⊎_elim
      (λ (ranks : r ≡ rank).
      let sizes = same_size rank size r n part other ranks in
      let looks_here : LooksBlank unit new.flash.words frame rank size = record {
        each = λ k lt.
            ap₂ (λ (g s : ℕ). frame_word unit new.flash.words g (s + k)) (sym same) (sym ranks)
            ∙ looks.each k (omega (arith, lt, sizes));
      } in record {
        each = λ k lt.
            ap₂ (λ (g s : ℕ). slice_index new.programs (place_in g s + k)) same ranks
            ∙ (here looks_here).each k (subst (λ (s : ℕ). k < span_of unit s) sizes lt);
      })
      (λ (differ : r ≢ rank). elsewhere f r n other looks (inr differ))
      (cases_eq r rank))
      (λ (differ : f ≢ frame). elsewhere f r n other looks (inl differ))
      (cases_eq f frame);
}
  where
    elsewhere : (f r n : ℕ) → IsFramePart r n → LooksBlank unit new.flash.words f r n → (f ≢ frame) ⊎ (r ≢ rank)
        → AreFilled new.programs (place_in f r) (span_of unit n) 0
    elsewhere f r n other looks differ =
        let before : LooksBlank unit old.flash.words f r n = record {
          each = λ k lt.
              let far : (f ≢ frame) ⊎ IsOther rank (r + k) = ⊎_elim (λ (x : f ≢ frame). inl x)
              (λ (x : r ≢ rank). inr (other_part rank size r n k part other x lt)) differ in
              sym (word_kept unit old.flash.words new.flash.words (place_in frame rank) (span_of unit size) f (r + k)
              words (apart unit frame rank size f (r + k) most part (part_few r n k other lt) far))
              ∙ looks.each k lt;
        } in record {
          each = λ k lt.
              programs.same (place_in f r + k)
              (spans_apart unit frame rank size f r n k most part other differ lt)
              ∙ (fresh.each f r n other before).each k lt;
        }

-- an erase of whole frames: a unit there was not programmed since
pub fresh_erased : (unit : ℕ) (old new : UnitState) (from end : ℕ) → unit ≤ 8 → from ≤ end → HasFreshUnits unit old
    → SameElsewhere old.flash.words (32 * from) (32 * (end - from)) new.flash.words
    → AreFilled new.programs (32 * from) (32 * (end - from)) 0
    → SameElsewhere old.programs (32 * from) (32 * (end - from)) new.programs
    → HasFreshUnits unit new
fresh_erased unit old new from end most rise fresh words erased programs = record {
  each = λ f r n other looks.
      let span = part_span unit f r n most other in
      let begin = span.from in
      let last = span.last in ⊎_elim
      (λ (before : f < from).
      kept f r n other looks
      (λ k lt. frame_before unit (32 * from) (32 * (end - from)) f (r + k) most (part_few r n k other lt)
      (omega (arith, before)))
      (λ k lt. let x : place_in f r + k < 32 * from = omega (arith, before, last, lt) in inl x))
      (λ (ge : from ≤ f). ⊎_elim
      (λ (inside : f < end). record {
        each = λ k lt.
            let there : place_in f r + k ≡ 32 * from + (place_in f r + k - 32 * from) = omega (arith, ge, begin) in
            ap (λ (p : ℕ). slice_index new.programs p) there
            ∙ erased.each (place_in f r + k - 32 * from) (omega (arith, ge, begin, last, lt, inside));
      })
      (λ (behind : end ≤ f).
      kept f r n other looks
      (λ k lt. frame_behind unit (32 * from) (32 * (end - from)) f (r + k) (part_few r n k other lt)
      (omega (arith, behind, rise)))
      (λ k lt. let x : 32 * from + 32 * (end - from) ≤ place_in f r + k = omega (arith, behind, begin, rise) in inr x))
      (cases_lt f end))
      (cases_lt f from);
}
  where
    kept : (f r n : ℕ) → IsFramePart r n → LooksBlank unit new.flash.words f r n
        → ((k : ℕ) → k < n → LiesOutside unit (32 * from) (32 * (end - from)) f (r + k))
        → ((k : ℕ) → k < span_of unit n → (place_in f r + k < 32 * from)
        ⊎ (32 * from + 32 * (end - from) ≤ place_in f r + k))
        → AreFilled new.programs (place_in f r) (span_of unit n) 0
    kept f r n other looks out far =
        let before : LooksBlank unit old.flash.words f r n = record {
          each = λ k lt.
              sym (word_kept unit old.flash.words new.flash.words (32 * from) (32 * (end - from)) f (r + k) words
              (out k lt)) ∙ looks.each k lt;
        } in record {
          each = λ k lt. programs.same (place_in f r + k) (far k lt) ∙ (fresh.each f r n other before).each k lt;
        }

-- the words of erased frames are blank
pub frames_blank : (unit slots : ℕ) (after : List ℕ) (from end : ℕ) → unit ≤ 8 → 0 < slots → from ≤ end
    → AreFilled after (32 * from) (32 * (end - from)) BLANK
    → AreFilled (unit_words unit slots after) (frame_start slots from) (frame_start slots end - frame_start slots from)
    BLANK
frames_blank unit slots after from end most some rise all = record {
  each = λ k lt.
      let a = frame_start slots from + k in
      let most_all = start_most slots end in
      let before : a < frame_start slots end = omega (arith, lt) in
      let inside : a < flash_size slots = omega (arith, before, most_all) in
      let is = placed slots a some inside in
      let ge = from_frame slots a from is (omega arith) in
      let below = before_frame slots a end is before in
      let place = place_most (frame_of slots a) (rank_of slots a) is.few in
      let low = place.0 in
      let high = place.1 in
      let tail = rest_most (frame_of slots a) (rank_of slots a) in
      let tail_low = tail.0 in
      let tail_high = tail.1 in
      let rest : AreFilled after (rest_at (frame_of slots a) (rank_of slots a)) (unit - 2) BLANK = record {
        each = λ j few.
            let p = rest_at (frame_of slots a) (rank_of slots a) + j in
            let there : p ≡ 32 * from + (p - 32 * from) = omega (arith, ge, tail_low) in
            ap (λ (i : ℕ). slice_index after i) there
            ∙ all.each (p - 32 * from) (omega (arith, ge, below, tail_low, tail_high, few, most));
      } in
      let q = place_in (frame_of slots a) (rank_of slots a) in
      let there : q ≡ 32 * from + (q - 32 * from) = omega (arith, ge, low) in
      index-unit_words unit slots after a inside
      ∙ frame_word_there unit after (frame_of slots a) (rank_of slots a) rest
      ∙ ap (λ (i : ℕ). slice_index after i) there
      ∙ all.each (q - 32 * from) (omega (arith, ge, below, low, high));
}

-- the words of all other frames stay
pub frames_elsewhere : (unit slots : ℕ) (m after : List ℕ) (from end : ℕ) → unit ≤ 8 → 0 < slots → from ≤ end
    → SameElsewhere m (32 * from) (32 * (end - from)) after
    → SameElsewhere (unit_words unit slots m) (frame_start slots from)
    (frame_start slots end - frame_start slots from) (unit_words unit slots after)
frames_elsewhere unit slots m after from end most some rise same = record {
  same = λ a out. ⊎_elim
      (λ (lt : a < flash_size slots).
      index-unit_words unit slots after a lt
      ∙ word_kept unit m after (32 * from) (32 * (end - from)) (frame_of slots a) (rank_of slots a) same (far a lt out)
      ∙ sym (index-unit_words unit slots m a lt))
      (λ (ge : flash_size slots ≤ a). no-unit_word unit slots after a ge ∙ sym (no-unit_word unit slots m a ge))
      (cases_lt a (flash_size slots));
}
  where
    far : (a : ℕ) → a < flash_size slots
        → (a < frame_start slots from)
        ⊎ (frame_start slots from + (frame_start slots end - frame_start slots from) ≤ a)
        → LiesOutside unit (32 * from) (32 * (end - from)) (frame_of slots a) (rank_of slots a)
    far a lt out =
        let is = placed slots a some lt in
        let up = starts_rise slots from end rise in ⊎_elim
        (λ (before : a < frame_start slots from).
        let x = before_frame slots a from is before in
        frame_before unit (32 * from) (32 * (end - from)) (frame_of slots a) (rank_of slots a) most is.few
        (omega (arith, x)))
        (λ (past : frame_start slots from + (frame_start slots end - frame_start slots from) ≤ a).
        let x = from_frame slots a end is (omega (arith, past, up)) in
        frame_behind unit (32 * from) (32 * (end - from)) (frame_of slots a) (rank_of slots a) is.few
        (omega (arith, x, rise))) out

-- calls that change no word and program nothing
pub fresh_same : (unit : ℕ) (old new : UnitState) → HasFreshUnits unit old → new.flash.words ≡ old.flash.words
    → new.programs ≡ old.programs → HasFreshUnits unit new
fresh_same unit old new fresh words programs = record {
  each = λ f r n part looks.
      subst (λ (p : List ℕ). AreFilled p (place_in f r) (span_of unit n) 0) (sym programs)
      (fresh.each f r n part (subst (λ (m : List ℕ). LooksBlank unit m f r n) words looks));
}

-- an erase, begun or not
pub fresh_counted : (unit : ℕ) (old new : UnitState) (from end : ℕ) → unit ≤ 8 → from ≤ end → HasFreshUnits unit old
    → SameElsewhere old.flash.words (32 * from) (32 * (end - from)) new.flash.words
    → CountsErase old new (32 * from) (32 * (end - from))
    → SameElsewhere old.programs (32 * from) (32 * (end - from)) new.programs → HasFreshUnits unit new
fresh_counted unit old new from end most rise fresh words counted programs = ⊎_elim
    (λ (begun : AreFilled new.programs (32 * from) (32 * (end - from)) 0).
    fresh_erased unit old new from end most rise fresh words begun programs)
    (λ (none : (new.flash.words ≡ old.flash.words) × (new.programs ≡ old.programs)).
    fresh_same unit old new fresh none.0 none.1)
    counted.is

-- where a run begins
pub run_begins : (slots at size frame rank : ℕ) → RunIn slots at size frame rank → 0 < size
    → place_in (frame_of slots at) (rank_of slots at) ≡ place_in frame rank
run_begins slots at size frame rank run some =
    let lies = run.each 0 some in
    let here : at ≡ at + 0 = omega arith in
    let first : rank + 0 ≡ rank = omega arith in
    ap (λ (a : ℕ). place_in (frame_of slots a) (rank_of slots a)) here
    ∙ ap₂ (λ (f r : ℕ). place_in f r) lies.frame (lies.rank ∙ first)

-- a run that was programmed, and is not blank
pub fresh_programmed : (unit slots at frame rank : ℕ) (old new : UnitState) (words : List ℕ) → unit ≤ 8
    → RunIn slots at (length words) frame rank → at + length words ≤ flash_size slots
    → (AreFilled words 0 (length words) BLANK → ⊥) → HasFreshUnits unit old
    → SameElsewhere old.flash.words (place_in frame rank) (span_of unit (length words)) new.flash.words
    → SameElsewhere old.programs (place_in frame rank) (span_of unit (length words)) new.programs
    → IsFilledUp unit new.flash.words (place_in frame rank) (length words) words → HasFreshUnits unit new
fresh_programmed unit slots at frame rank old new words most run within some fresh same programs filled =
    fresh_kept unit old new frame rank (length words) most run.part fresh same programs (λ looks.
    absurd (some (record {
      each = λ k lt.
          let z : 0 + k ≡ k = omega arith in
          ap (λ (i : ℕ). slice_index words i) z
          ∙ sym ((run_there unit slots at frame rank new.flash.words words most run within filled).each k lt)
          ∙ (blank_run unit slots at (length words) frame rank new.flash.words run within looks).each k lt;
    })))

-- a run that failed
pub fresh_failed : (unit frame rank size : ℕ) (old new : UnitState) → unit ≤ 8 → IsFramePart rank size
    → HasFreshUnits unit old
    → SameElsewhere old.flash.words (place_in frame rank) (span_of unit size) new.flash.words
    → AreFilled old.programs (place_in frame rank) (span_of unit size) 0 → new.programs ≡ old.programs
    → HasFreshUnits unit new
fresh_failed unit frame rank size old new most part fresh same none programs =
    fresh_kept unit old new frame rank size most part fresh same
    (record { same = λ k out. ap (λ (l : List ℕ). slice_index l k) programs })
    (λ looks. subst (λ (l : List ℕ). AreFilled l (place_in frame rank) (span_of unit size) 0) (sym programs) none)

-- the run that is programmed has the words, and blank ones behind them
pub taken_run : (unit : ℕ) (m words whole : List ℕ) (place many : ℕ) → many ≡ span_of unit (length words)
    → length (take many whole) ≡ many → many ≤ 24 → length words ≤ span_of unit (length words)
    → IsThere m place (take many whole)
    → ((k : ℕ) → k < length words → slice_index whole k ≡ slice_index words k)
    → ((k : ℕ) → length words ≤ k → k < 24 → slice_index whole k ≡ BLANK)
    → IsFilledUp unit m place (length words) words
taken_run unit m words whole place many is size most fits there of_words of_rest = record {
  there = λ k lt.
      let below : k < many = omega (arith, lt, is, fits) in
      let inside : k < length (take many whole) = omega (arith, below, size) in
      there.each k inside ∙ get_or-take many whole k 0 below ∙ of_words k lt;
  rest = λ k from lt.
      let below : k < many = omega (arith, lt, is) in
      let inside : k < length (take many whole) = omega (arith, below, size) in
      let few : k < 24 = omega (arith, below, most) in
      there.each k inside ∙ get_or-take many whole k 0 below ∙ of_rest k from few;
}

-- what is programmed isn't blank, if the run isn't
pub taken_some : (words whole : List ℕ) (many : ℕ) → length (take many whole) ≡ many → length words ≤ many
    → ((k : ℕ) → k < length words → slice_index whole k ≡ slice_index words k)
    → (AreFilled words 0 (length words) BLANK → ⊥)
    → AreFilled (take many whole) 0 (length (take many whole)) BLANK → ⊥
taken_some words whole many size fits of_words some all = some (record {
  each = λ k lt.
      let below : k < many = omega (arith, lt, fits) in
      let inside : k < length (take many whole) = omega (arith, below, size) in
      let z : 0 + k ≡ k = omega arith in
      ap (λ (i : ℕ). slice_index words i) z ∙ sym (of_words k lt) ∙ sym (get_or-take many whole k 0 below)
      ∙ ap (λ (i : ℕ). slice_index (take many whole) i) (sym z) ∙ all.each k inside;
})

-- A run of a log, with its place on the device, and how many words it takes there.
pub record IsPlacedRun (unit slots at size place many : ℕ) : Type 0 where
  pub frame : ℕ
  pub rank : ℕ
  pub run : RunIn slots at size frame rank
  pub place_is : place ≡ place_in frame rank
  pub many_is : many ≡ span_of unit size
  pub most : unit ≤ 8

pub placed_run : (unit slots at size f r place many : ℕ) → IsUnit unit → IsProgramRun slots at size → 0 < size
    → f ≡ frame_of slots at → r ≡ rank_of slots at → place ≡ place_in f r → many ≡ size - 2 + max 2 unit
    → IsPlacedRun unit slots at size place many
placed_run unit slots at size f r place many fits is some frame rank there taken =
    let has = run_frame slots at size is in record {
      frame = has.frame;
      rank = has.rank;
      run = has.is;
      place_is = there ∙ ap₂ (λ (g k : ℕ). place_in g k) frame rank
          ∙ run_begins slots at size has.frame has.rank has.is some;
      many_is = taken;
      most = (unit_most unit fits).1;
    }

module _ (unit slots at size place many : ℕ) (is : IsPlacedRun unit slots at size place many) where
  pub run_units : IsUnit unit → AreUnits unit place many
  run_units fits =
      subst (λ (p : ℕ). AreUnits unit p many) (sym is.place_is)
      (subst (λ (k : ℕ). AreUnits unit (place_in is.frame is.rank) k) (sym is.many_is)
      (part_units unit is.frame is.rank size fits is.run.part))

  pub run_in_frame : 0 < size → IsFrameRun place many
  run_in_frame some =
      let span = part_span unit is.frame is.rank size is.most is.run.part in
      let from = span.from in
      let last = span.last in
      let few = span.few in
      let there = is.place_is in
      let taken = is.many_is in record {
        some = omega (arith, few, some, taken);
        fits = omega (arith, from, last, few, some, there, taken);
      }

  pub run_fits : size ≤ many
  run_fits =
      let few = (part_span unit is.frame is.rank size is.most is.run.part).few in
      let taken = is.many_is in omega (arith, few, taken)

  many_of : (n : ℕ) → size ≡ n → many ≡ span_of unit n
  many_of n e = is.many_is ∙ ap (λ (k : ℕ). span_of unit k) e

  pub run_is_part : IsPartRun unit place many
  run_is_part =
      let there = is.place_is in
      record {
        is = ⊎_elim
            (λ (x : (is.rank ≡ 0) × (size ≡ 18)). let r = x.0 in
            let e = place_record is.frame is.rank (omega (arith, r)) in
            let begins : place % 32 ≡ 0 = omega (arith, e, r, there) in inl (begins, many_of 18 x.1))
            (λ (x : (is.rank ≡ 18) × (size ≡ 2)). let r = x.0 in
            let e = place_mark is.frame is.rank (omega (arith, r)) in
            let begins : place % 32 ≡ 24 = omega (arith, e, r, there) in inr (begins, many_of 2 x.1))
            is.run.part.is;
      }

  pub run_within : place + many ≤ device_size slots
  run_within =
      let span = part_span unit is.frame is.rank size is.most is.run.part in
      let last = span.last in
      let below = is.run.within in
      let there = is.place_is in
      let taken = is.many_is in omega (arith, last, below, there, taken)

  -- a run of the device is one of the part that the run of the log has
  on_part : (T : ℕ → ℕ → Type 0) → T (place_in is.frame is.rank) (span_of unit size) → T place many
  on_part T t = subst (λ (p : ℕ). T p many) (sym is.place_is)
      (subst (λ (k : ℕ). T (place_in is.frame is.rank) k) (sym is.many_is) t)

  of_part : (T : ℕ → ℕ → Type 0) → T place many → T (place_in is.frame is.rank) (span_of unit size)
  of_part T t = subst (λ (p : ℕ). T p (span_of unit size)) is.place_is
      (subst (λ (k : ℕ). T place k) is.many_is t)

  pub run_is_blank : (m : List ℕ) → at + size ≤ flash_size slots → AreFilled (unit_words unit slots m) at size BLANK
      → AreFilled m place many BLANK
  run_is_blank m within all = on_part (λ p k. AreFilled m p k BLANK)
      (blank_part_is unit m is.frame is.rank size is.most is.run.part
      (run_blank unit slots at size is.frame is.rank m is.run within all))

  pub run_is_fresh : (s : UnitState) → at + size ≤ flash_size slots → HasFreshUnits unit s
      → AreFilled (unit_words unit slots s.flash.words) at size BLANK → AreFilled s.programs place many 0
  run_is_fresh s within fresh all = on_part (λ p k. AreFilled s.programs p k 0)
      (fresh.each is.frame is.rank size is.run.part
      (run_blank unit slots at size is.frame is.rank s.flash.words is.run within all))

  pub run_keeps_others : (m after : List ℕ) → 0 < slots → at + size ≤ flash_size slots
      → SameElsewhere m place many after
      → SameElsewhere (unit_words unit slots m) at size (unit_words unit slots after)
  run_keeps_others m after some within same =
      run_elsewhere unit slots at size is.frame is.rank m after is.most some is.run within
      (of_part (λ p k. SameElsewhere m p k after) same)

  pub failed_is_fresh : (old new : UnitState) → at + size ≤ flash_size slots → HasFreshUnits unit old
      → AreFilled (unit_words unit slots old.flash.words) at size BLANK
      → SameElsewhere old.flash.words place many new.flash.words → new.programs ≡ old.programs → HasFreshUnits unit new
  failed_is_fresh old new within fresh all same programs =
      fresh_failed unit is.frame is.rank size old new is.most is.run.part fresh
      (of_part (λ p k. SameElsewhere old.flash.words p k new.flash.words) same)
      (fresh.each is.frame is.rank size is.run.part
      (run_blank unit slots at size is.frame is.rank old.flash.words is.run within all)) programs

-- a run that was programmed, from what the device says
module _ (unit slots at place many : ℕ) (words whole : List ℕ)
    (is : IsPlacedRun unit slots at (length words) place many) (within : at + length words ≤ flash_size slots)
    (taken : length (take many whole) ≡ many)
    (of_words : (k : ℕ) → k < length words → slice_index whole k ≡ slice_index words k)
    (of_rest : (k : ℕ) → length words ≤ k → k < 24 → slice_index whole k ≡ BLANK) where
  filled_up : (m : List ℕ) → IsThere m place (take many whole)
      → IsFilledUp unit m (place_in is.frame is.rank) (length words) words
  filled_up m there =
      let span = part_span unit is.frame is.rank (length words) is.most is.run.part in
      let short = span.short in
      let size = is.many_is in
      subst (λ (p : ℕ). IsFilledUp unit m p (length words) words) is.place_is
      (taken_run unit m words whole place many is.many_is taken (omega (arith, short, size)) span.few there of_words
      of_rest)

  pub run_is_there : (after : List ℕ) → IsThere after place (take many whole)
      → IsThere (unit_words unit slots after) at words
  run_is_there after there =
      run_there unit slots at is.frame is.rank after words is.most is.run within (filled_up after there)

  pub done_is_fresh : (old new : UnitState) → (AreFilled words 0 (length words) BLANK → ⊥) → HasFreshUnits unit old
      → SameElsewhere old.flash.words place many new.flash.words
      → SameElsewhere old.programs place many new.programs → IsThere new.flash.words place (take many whole)
      → HasFreshUnits unit new
  done_is_fresh old new some fresh same programs there =
      fresh_programmed unit slots at is.frame is.rank old new words is.most is.run within some fresh
      (of_part unit slots at (length words) place many is (λ p k. SameElsewhere old.flash.words p k new.flash.words)
      same)
      (of_part unit slots at (length words) place many is (λ p k. SameElsewhere old.programs p k new.programs)
      programs)
      (filled_up new.flash.words there)
