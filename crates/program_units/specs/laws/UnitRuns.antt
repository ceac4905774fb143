-- Laws of the runs of a log on a device with program units.
use Rattle.std.specs.Prelude.{◌≡◌, ◌≢◌, ◌⊎◌, ◌<◌, ◌≤◌, ◌+◌, ◌-◌, ◌*◌, ◌/◌, ◌%◌, ℕ, Bool, true, false, List}
use Rattle.std.specs.Prelude.{max, nat_eq, nat_le, slice_index, if◌then◌else◌}
use Rattle.std.proofs.Common.{refl, sym, ◌∙◌, ap, ap₂, inl, inr, subst, ⊎_elim, arith}
use Rattle.std.proofs.lemmas.Bool.{cases_eq, cases_lt, le-leb, lt-leb}
use Rattle.flash_device.specs.declared.flash.TheConstants.{BLANK}
use Rattle.flash_device.specs.FlashBlocks.{area_size, flash_size, witness_start}
use Rattle.flash_device.specs.FlashCalls.{AreFilled, SameElsewhere}
use Rattle.flash_device.specs.FlashLogs.{base_in, close_b}
use Rattle.flash_device.specs.ProgrammedRuns.{IsClosePlace, IsCommitPlace, IsProgramRun, IsSlotPlace}
use Rattle.program_units.specs.UnitFrames.{AreUnits, IsFramePart, IsUnit, frame_count, frame_of, place_in, rank_of}
use Rattle.program_units.specs.UnitFrames.{span_of}
use Rattle.program_units.specs.UnitWords.{LooksBlank, frame_word, rest_at}
use Rattle.program_units.specs.laws.BlankRuns.{frame_word_same, looks_blank}
use Rattle.program_units.specs.laws.UnitPlaces.{IsPlaced, LiesAt, closes_a, closes_b, closes_witness, lies_in_a}
use Rattle.program_units.specs.laws.UnitPlaces.{lies_in_b, origin, place_mark, place_record, placed}

-- A run is a part of a frame.
pub record RunIn (slots at size frame rank : ℕ) : Type 0 where
  pub part : IsFramePart rank size
  pub each : (k : ℕ) → k < size → LiesAt slots (at + k) frame (rank + k)
  pub within : frame < frame_count slots

-- The frame of a run, and the rank of its first word.
pub record HasFrame (slots at size : ℕ) : Type 0 where
  pub frame : ℕ
  pub rank : ℕ
  pub is : RunIn slots at size frame rank

-- a run of a slot of area A or of area B
slot_run : (slots at size area slot from : ℕ) → slot < slots → IsFramePart from size → from + size ≤ 20
    → at ≡ base_in slots area + 20 * slot + from → HasFrame slots at size
slot_run slots at size area slot from below part few is = by_test (nat_eq area 0) is
  where
    in_a : at ≡ 0 + 20 * slot + from → HasFrame slots at size
    in_a e = record {
      frame = slot;
      rank = from;
      is = record {
        part = part;
        each = λ k lt.
            let inside : from + k < 20 = omega (arith, lt, few) in
            let there : 20 * slot + (from + k) ≡ at + k = omega (arith, e) in
            subst (λ (a : ℕ). LiesAt slots a slot (from + k)) there (lies_in_a slots slot (from + k) below inside);
        within = omega (arith, below);
      };
    }

    in_b : at ≡ area_size slots + 20 * slot + from → HasFrame slots at size
    in_b e = record {
      frame = slots + 1 + slot;
      rank = from;
      is = record {
        part = part;
        each = λ k lt.
            let inside : from + k < 20 = omega (arith, lt, few) in
            let there : area_size slots + (20 * slot + (from + k)) ≡ at + k = omega (arith, e) in
            subst (λ (a : ℕ). LiesAt slots a (slots + 1 + slot) (from + k)) there
            (lies_in_b slots slot (from + k) below inside);
        within = omega (arith, below);
      };
    }

    by_test : (b : Bool) → at ≡ (if b then 0 else area_size slots) + 20 * slot + from → HasFrame slots at size
    by_test true e = in_a e
    by_test false e = in_b e

-- a close mark
close_run : (slots at size frame start : ℕ) → size ≡ 2 → frame < frame_count slots → at ≡ start
    → ((j : ℕ) → j < 2 → LiesAt slots (start + j) frame (18 + j)) → HasFrame slots at size
close_run slots at size frame start two below e lies = record {
  frame = frame;
  rank = 18;
  is = record {
    part = record { is = inr (refl, two) };
    each = λ k lt.
        let there : start + k ≡ at + k = omega (arith, e) in
        subst (λ (a : ℕ). LiesAt slots a frame (18 + k)) there (lies k (omega (arith, lt, two)));
    within = below;
  };
}

-- each run has a part of a frame to itself
pub run_frame : (slots at size : ℕ) → IsProgramRun slots at size → HasFrame slots at size
run_frame slots at size run = ⊎_elim
    (λ (x : (size ≡ 18) × IsSlotPlace slots at).
    let is : at ≡ base_in slots x.1.area + 20 * x.1.slot + 0 = let e = x.1.is in omega (arith, e) in
    slot_run slots at size x.1.area x.1.slot 0 x.1.below (record { is = inl (refl, x.0) })
    (let n = x.0 in omega (arith, n)) is)
    (λ (x : (size ≡ 2) × (IsCommitPlace slots at ⊎ IsClosePlace slots at)). ⊎_elim
    (λ (y : IsCommitPlace slots at).
    slot_run slots at size y.area y.slot 18 y.below (record { is = inr (refl, x.0) })
    (let n = x.0 in omega (arith, n)) y.is)
    (λ (y : IsClosePlace slots at). by_block x.0 (nat_eq y.block 0) (nat_eq y.block 1) y.is)
    x.1)
    run.is
  where
    by_block : size ≡ 2 → (b c : Bool)
        → at ≡ (if b then 20 * slots else if c then close_b slots else witness_start slots) → HasFrame slots at size
    by_block two true c e =
        close_run slots at size slots (20 * slots) two (omega arith) e (λ j lt. closes_a slots j lt)
    by_block two false true e =
        close_run slots at size (2 * slots + 1) (close_b slots) two (omega arith) e (λ j lt. closes_b slots j lt)
    by_block two false false e =
        close_run slots at size (2 * slots + 2) (witness_start slots) two (omega arith) e
        (λ j lt. closes_witness slots j)

pub unit_most : (unit : ℕ) → IsUnit unit → (0 < unit) × (unit ≤ 8)
unit_most unit fits = ⊎_elim
    (λ few. ⊎_elim (λ (e : unit ≡ 1). (omega (arith, e), omega (arith, e)))
    (λ (e : unit ≡ 2). (omega (arith, e), omega (arith, e))) few)
    (λ more. ⊎_elim (λ (e : unit ≡ 4). (omega (arith, e), omega (arith, e)))
    (λ (e : unit ≡ 8). (omega (arith, e), omega (arith, e))) more) fits.is

-- Where a part lies, and how much it takes.
pub record HasSpan (unit frame rank size : ℕ) : Type 0 where
  pub from : 32 * frame ≤ place_in frame rank
  pub last : place_in frame rank + span_of unit size ≤ 32 * frame + 32
  pub rest : rest_at frame rank ≡ place_in frame rank + size
  pub few : size ≤ span_of unit size
  pub fills : span_of unit size ≡ size + (unit - 2)
  pub short : span_of unit size ≤ 24

pub part_span : (unit frame rank size : ℕ) → unit ≤ 8 → IsFramePart rank size → HasSpan unit frame rank size
part_span unit frame rank size most part = ⊎_elim
    (λ (x : (rank ≡ 0) × (size ≡ 18)). let r = x.0 in let n = x.1 in
    let place : place_in frame rank ≡ 32 * frame + rank = place_record frame rank (omega (arith, r)) in
    let rest : rest_at frame rank ≡ 32 * frame + 18 =
    ap (λ (b : Bool). 32 * frame + (if b then 26 else 18)) (lt-leb 18 rank (omega (arith, r))) in record {
      from = omega (arith, place);
      last = omega (arith, place, r, n, most);
      rest = omega (arith, place, rest, r, n);
      few = omega (arith, n);
      fills = omega (arith, n);
      short = omega (arith, n, most);
    })
    (λ (x : (rank ≡ 18) × (size ≡ 2)). let r = x.0 in let n = x.1 in
    let place : place_in frame rank ≡ 32 * frame + (24 + (rank - 18)) =
    place_mark frame rank (omega (arith, r)) in
    let rest : rest_at frame rank ≡ 32 * frame + 26 =
    ap (λ (b : Bool). 32 * frame + (if b then 26 else 18)) (le-leb 18 rank (omega (arith, r))) in record {
      from = omega (arith, place);
      last = omega (arith, place, r, n, most);
      rest = omega (arith, place, rest, r, n);
      few = omega (arith, n);
      fills = omega (arith, n);
      short = omega (arith, n, most);
    })
    part.is

-- the words of a part lie one behind the other
pub part_place : (frame rank size k : ℕ) → IsFramePart rank size → k < size
    → place_in frame (rank + k) ≡ place_in frame rank + k
part_place frame rank size k part lt = ⊎_elim
    (λ (x : (rank ≡ 0) × (size ≡ 18)). let r = x.0 in let n = x.1 in
    let one = place_record frame (rank + k) (omega (arith, r, n, lt)) in
    let all = place_record frame rank (omega (arith, r)) in omega (arith, one, all))
    (λ (x : (rank ≡ 18) × (size ≡ 2)). let r = x.0 in let n = x.1 in
    let one = place_mark frame (rank + k) (omega (arith, r)) in
    let all = place_mark frame rank (omega (arith, r)) in omega (arith, one, all, r))
    part.is

-- they have one rest of a unit
pub part_rest : (frame rank size k : ℕ) → IsFramePart rank size → k < size
    → rest_at frame (rank + k) ≡ rest_at frame rank
part_rest frame rank size k part lt = ⊎_elim
    (λ (x : (rank ≡ 0) × (size ≡ 18)). let r = x.0 in let n = x.1 in
    ap (λ (b : Bool). 32 * frame + (if b then 26 else 18))
    (lt-leb 18 (rank + k) (omega (arith, r, n, lt)) ∙ sym (lt-leb 18 rank (omega (arith, r)))))
    (λ (x : (rank ≡ 18) × (size ≡ 2)). let r = x.0 in
    ap (λ (b : Bool). 32 * frame + (if b then 26 else 18))
    (le-leb 18 (rank + k) (omega (arith, r)) ∙ sym (le-leb 18 rank (omega (arith, r)))))
    part.is

-- A word, with the rest of its unit, lies outside of a run of the device.
pub record LiesOutside (unit at size frame rank : ℕ) : Type 0 where
  pub word : (place_in frame rank < at) ⊎ (at + size ≤ place_in frame rank)
  pub rest : (k : ℕ) → k < unit - 2 → (rest_at frame rank + k < at) ⊎ (at + size ≤ rest_at frame rank + k)

pub rest_most : (frame rank : ℕ) → (32 * frame + 18 ≤ rest_at frame rank) × (rest_at frame rank ≤ 32 * frame + 26)
rest_most frame rank = by_test (nat_le 18 rank)
  where
    by_test : (b : Bool) → (32 * frame + 18 ≤ 32 * frame + (if b then 26 else 18))
        × (32 * frame + (if b then 26 else 18) ≤ 32 * frame + 26)
    by_test true = (omega arith, omega arith)
    by_test false = (omega arith, omega arith)

pub place_most : (frame rank : ℕ) → rank < 20
    → (32 * frame ≤ place_in frame rank) × (place_in frame rank < 32 * frame + 26)
place_most frame rank few = ⊎_elim
    (λ (lt : rank < 18). let e = place_record frame rank lt in (omega (arith, e), omega (arith, e, lt)))
    (λ (ge : 18 ≤ rank). let e = place_mark frame rank ge in (omega (arith, e), omega (arith, e, few, ge)))
    (cases_lt rank 18)

-- a word of another frame than those of a run of whole frames, or of a part of one
pub frame_before : (unit at size frame rank : ℕ) → unit ≤ 8 → rank < 20 → 32 * frame + 32 ≤ at
    → LiesOutside unit at size frame rank
frame_before unit at size frame rank most few below =
    let place = (place_most frame rank few).1 in let rest = (rest_most frame rank).1 in record {
      word = let x : place_in frame rank < at = omega (arith, place, below) in inl x;
      rest = λ k lt. let x : rest_at frame rank + k < at = omega (arith, rest, below, lt, most) in inl x;
    }

pub frame_behind : (unit at size frame rank : ℕ) → rank < 20 → at + size ≤ 32 * frame
    → LiesOutside unit at size frame rank
frame_behind unit at size frame rank few above =
    let place = (place_most frame rank few).0 in let rest = (rest_most frame rank).0 in record {
      word = let x : at + size ≤ place_in frame rank = omega (arith, place, above) in inr x;
      rest = λ k lt. let x : at + size ≤ rest_at frame rank + k = omega (arith, rest, above) in inr x;
    }

-- The word is in the other part of the frame.
pub record IsOther (rank r : ℕ) : Type 0 where
  pub is : ((rank ≡ 0) × (18 ≤ r)) ⊎ ((rank ≡ 18) × (r < 18))

part_other : (unit frame rank size r : ℕ) → unit ≤ 8 → IsFramePart rank size → r < 20 → IsOther rank r
    → LiesOutside unit (place_in frame rank) (span_of unit size) frame r
part_other unit frame rank size r most part few other = ⊎_elim
    (λ (x : (rank ≡ 0) × (18 ≤ r)). let z = x.0 in let ge = x.1 in
    let n : size ≡ 18 = record_size z in
    let start = place_record frame rank (omega (arith, z)) in
    let place = place_mark frame r ge in
    let rest : rest_at frame r ≡ 32 * frame + 26 =
    ap (λ (b : Bool). 32 * frame + (if b then 26 else 18)) (le-leb 18 r ge) in record {
      word = let x : place_in frame rank + span_of unit size ≤ place_in frame r =
          omega (arith, start, place, n, z, most) in inr x;
      rest = λ k lt. let x : place_in frame rank + span_of unit size ≤ rest_at frame r + k =
          omega (arith, start, rest, n, z, most) in inr x;
    })
    (λ (x : (rank ≡ 18) × (r < 18)). let z = x.0 in let lt = x.1 in
    let start = place_mark frame rank (omega (arith, z)) in
    let place = place_record frame r lt in
    let rest : rest_at frame r ≡ 32 * frame + 18 =
    ap (λ (b : Bool). 32 * frame + (if b then 26 else 18)) (lt-leb 18 r lt) in record {
      word = let x : place_in frame r < place_in frame rank = omega (arith, start, place, z, lt) in inl x;
      rest = λ k small. let x : rest_at frame r + k < place_in frame rank =
          omega (arith, start, rest, z, small, most) in inl x;
    })
    other.is
  where
    record_size : rank ≡ 0 → size ≡ 18
    record_size z = ⊎_elim
        (λ (x : (rank ≡ 0) × (size ≡ 18)). x.1)
        (λ (x : (rank ≡ 18) × (size ≡ 2)). let e = x.0 in absurd (omega (arith, e, z)))
        part.is

-- a word that is not one of a part lies outside of what the part takes
pub apart : (unit frame rank size f r : ℕ) → unit ≤ 8 → IsFramePart rank size → r < 20
    → (f ≢ frame) ⊎ IsOther rank r → LiesOutside unit (place_in frame rank) (span_of unit size) f r
apart unit frame rank size f r most part few other =
    let span = part_span unit frame rank size most part in ⊎_elim
    (λ (lt : f < frame).
    let below : 32 * f + 32 ≤ place_in frame rank = let x = span.from in omega (arith, lt, x) in
    frame_before unit (place_in frame rank) (span_of unit size) f r most few below)
    (λ (ge : frame ≤ f). ⊎_elim
    (λ (gt : frame < f).
    let above : place_in frame rank + span_of unit size ≤ 32 * f = let x = span.last in omega (arith, gt, x) in
    frame_behind unit (place_in frame rank) (span_of unit size) f r few above)
    (λ (le : f ≤ frame).
    let same : f ≡ frame = omega (arith, le, ge) in ⊎_elim
    (λ (x : f ≢ frame). absurd (x same))
    (λ (x : IsOther rank r).
    subst (λ (n : ℕ). LiesOutside unit (place_in frame rank) (span_of unit size) n r) (sym same)
    (part_other unit frame rank size r most part few x)) other)
    (cases_lt frame f))
    (cases_lt f frame)

-- a word of the log outside of a run is in another frame, or in the other part of that frame
pub outside_run : (slots at size frame rank a : ℕ) → 0 < slots → RunIn slots at size frame rank
    → at + size ≤ flash_size slots → (a < at) ⊎ (at + size ≤ a) → IsPlaced slots a
    → (frame_of slots a ≢ frame) ⊎ IsOther rank (rank_of slots a)
outside_run slots at size frame rank a some run within out is = ⊎_elim
    (λ (same : frame_of slots a ≡ frame). inr (in_frame same))
    (λ (other : frame_of slots a ≢ frame). inl other)
    (cases_eq (frame_of slots a) frame)
  where
    starts : at ≡ origin slots frame + rank
    starts =
        let one : 0 < size = ⊎_elim (λ (x : (rank ≡ 0) × (size ≡ 18)). let n = x.1 in omega (arith, n))
        (λ (x : (rank ≡ 18) × (size ≡ 2)). let n = x.1 in omega (arith, n)) run.part.is in
        let first = run.each 0 one in
        let z : at + 0 ≡ at = omega arith in
        let inside : at + 0 < flash_size slots = omega (arith, one, within) in
        let there = (placed slots (at + 0) some inside).counted in
        let n : rank + 0 ≡ rank = omega arith in
        sym z ∙ there ∙ ap₂ (λ (f r : ℕ). origin slots f + r) first.frame (first.rank ∙ n)

    in_frame : frame_of slots a ≡ frame → IsOther rank (rank_of slots a)
    in_frame same =
        let here : a ≡ origin slots frame + rank_of slots a =
        is.counted ∙ ap (λ (f : ℕ). origin slots f + rank_of slots a) same in
        let from = starts in
        let few = is.few in ⊎_elim
        (λ (x : (rank ≡ 0) × (size ≡ 18)). let z = x.0 in let n = x.1 in
        let ge : 18 ≤ rank_of slots a = ⊎_elim
        (λ (b : a < at). absurd (omega (arith, b, here, from, z)))
        (λ (b : at + size ≤ a). omega (arith, b, here, from, z, n)) out in
        record { is = inl (z, ge) })
        (λ (x : (rank ≡ 18) × (size ≡ 2)). let z = x.0 in let n = x.1 in
        let lt : rank_of slots a < 18 = ⊎_elim
        (λ (b : a < at). omega (arith, b, here, from, z))
        (λ (b : at + size ≤ a). absurd (omega (arith, b, here, from, z, n, few))) out in
        record { is = inr (z, lt) })
        run.part.is

-- a word is the same where the run changed nothing
pub word_kept : (unit : ℕ) (m after : List ℕ) (at size frame rank : ℕ) → SameElsewhere m at size after
    → LiesOutside unit at size frame rank → frame_word unit after frame rank ≡ frame_word unit m frame rank
word_kept unit m after at size frame rank same out =
    frame_word_same unit m after frame rank (same.same (place_in frame rank) out.word)
    (λ k lt. same.same (rest_at frame rank + k) (out.rest k lt))

-- a part that looks blank is blank, with the rest of its units
pub blank_part_is : (unit : ℕ) (m : List ℕ) (frame rank size : ℕ) → unit ≤ 8 → IsFramePart rank size
    → LooksBlank unit m frame rank size → AreFilled m (place_in frame rank) (span_of unit size) BLANK
blank_part_is unit m frame rank size most part looks =
    let span = part_span unit frame rank size most part in record {
      each = λ k lt. ⊎_elim
          (λ (word : k < size).
          ap (λ (p : ℕ). slice_index m p) (sym (part_place frame rank size k part word))
          ∙ (looks_blank unit m frame (rank + k) (looks.each k word)).word)
          (λ (past : size ≤ k).
          let fills = span.fills in
          let j : k - size < unit - 2 = omega (arith, lt, past, fills) in
          let rest = span.rest in
          let there : place_in frame rank + k ≡ rest_at frame rank + (k - size) = omega (arith, past, rest) in
          ap (λ (p : ℕ). slice_index m p) there ∙ blank_rest.each (k - size) j)
          (cases_lt k size);
    }
  where
    last : (size ≡ 18 → rank ≡ 0) × (0 < size)
    last = (
      λ n. ⊎_elim (λ (x : (rank ≡ 0) × (size ≡ 18)). x.0)
          (λ (x : (rank ≡ 18) × (size ≡ 2)). let two = x.1 in absurd (omega (arith, n, two))) part.is,
      ⊎_elim (λ (x : (rank ≡ 0) × (size ≡ 18)). let n = x.1 in omega (arith, n))
          (λ (x : (rank ≡ 18) × (size ≡ 2)). let n = x.1 in omega (arith, n)) part.is,
    )

    blank_rest : AreFilled m (rest_at frame rank) (unit - 2) BLANK
    blank_rest =
        let some = last.1 in
        let lt : size - 1 < size = omega (arith, some) in
        let pair : 16 ≤ rank + (size - 1) = ⊎_elim
        (λ (x : (rank ≡ 0) × (size ≡ 18)). let n = x.1 in omega (arith, n))
        (λ (x : (rank ≡ 18) × (size ≡ 2)). let r = x.0 in omega (arith, r)) part.is in
        subst (λ (p : ℕ). AreFilled m p (unit - 2) BLANK) (part_rest frame rank size (size - 1) part lt)
        ((looks_blank unit m frame (rank + (size - 1)) (looks.each (size - 1) lt)).rest pair)

-- whole units
pub part_units : (unit frame rank size : ℕ) → IsUnit unit → IsFramePart rank size
    → AreUnits unit (place_in frame rank) (span_of unit size)
part_units unit frame rank size fits part =
    let place : place_in frame rank ≡ 32 * frame + (rank / 18 * 24) = ⊎_elim
    (λ (x : (rank ≡ 0) × (size ≡ 18)). let r = x.0 in
    let e = place_record frame rank (omega (arith, r)) in omega (arith, e, r))
    (λ (x : (rank ≡ 18) × (size ≡ 2)). let r = x.0 in
    let e = place_mark frame rank (omega (arith, r)) in omega (arith, e, r)) part.is in
    let pair : (size ≡ 18) ⊎ (size ≡ 2) = ⊎_elim
    (λ (x : (rank ≡ 0) × (size ≡ 18)). inl x.1) (λ (x : (rank ≡ 18) × (size ≡ 2)). inr x.1) part.is in
    ⊎_elim
    (λ few. ⊎_elim
    (λ (e : unit ≡ 1). subst (λ (u : ℕ). AreUnits u (place_in frame rank) (span_of u size)) (sym e)
    (record { begins = omega arith; ends = omega arith }))
    (λ (e : unit ≡ 2). subst (λ (u : ℕ). AreUnits u (place_in frame rank) (span_of u size)) (sym e)
    (record { begins = omega (arith, place); ends = size_by pair 2 (omega arith) (omega arith) }))
    few)
    (λ more. ⊎_elim
    (λ (e : unit ≡ 4). subst (λ (u : ℕ). AreUnits u (place_in frame rank) (span_of u size)) (sym e)
    (record { begins = omega (arith, place); ends = size_by pair 4 (omega arith) (omega arith) }))
    (λ (e : unit ≡ 8). subst (λ (u : ℕ). AreUnits u (place_in frame rank) (span_of u size)) (sym e)
    (record { begins = omega (arith, place); ends = size_by pair 8 (omega arith) (omega arith) }))
    more) fits.is
  where
    size_by : (size ≡ 18) ⊎ (size ≡ 2) → (u : ℕ) → (18 - 2 + max 2 u) % u ≡ 0 → (2 - 2 + max 2 u) % u ≡ 0
        → span_of u size % u ≡ 0
    size_by which u a b = ⊎_elim
        (λ (e : size ≡ 18). ap (λ (n : ℕ). (n - 2 + max 2 u) % u) e ∙ a)
        (λ (e : size ≡ 2). ap (λ (n : ℕ). (n - 2 + max 2 u) % u) e ∙ b) which
