use Rattle.std.proofs.Common.{◌*◌, ◌≡◌, ◌<◌, ◌+◌, ◌-◌, ℕ, List, length, slice_index, Err, refl, ap, subst, ◌∙◌}
use Rattle.std.proofs.Common.{arith}
use Rattle.flash_device.specs.FlashCalls.{SameElsewhere}
use Rattle.flash_device.specs.FlashLogs.{base_in, slot_of}
use Rattle.flash_device.specs.PutRecords.{IsPut, PutsInSlot}
use Rattle.flash_area.specs.laws.Copying.{others_kept, others_then, others_wider, in_area}
use Rattle.flash_device.specs.laws.Marks.{elsewhere_then}
use Rattle.flash_area.proofs.moving.put_in_spare.Goals as goal

pub returns-in-Ok-clause-put : goal.returns-in-Ok-clause-put
returns-in-Ok-clause-put g c =
    let slots = g.F.Flash.SLOTS in
    let m = (g.F.Flash.state c.args.flash.now).words in
    let mid = (g.F.Flash.state c.loop-slot.flash).words in
    let after = (g.F.Flash.state c.program_record.new.flash).words in
    let base = base_in slots c.args.area in
    let words = c.args.words.now in
    let page = slice_index words 16 in
    let s = c.loop-slot.slot in
    let kept = c.loop-slot.invariant.kept in
    let below : s < slots = omega (arith, c.loop-slot-test.true, c.requires.end) in
    let size : length words ≡ 18 = omega arith in
    let puts : PutsInSlot mid (slot_of base s) words after =
    subst (λ (k : ℕ). PutsInSlot mid k words after) c.slot_at.ensures.is c.program_record.ensures.puts in
    let put : IsPut after (slot_of base s) words =
    subst (λ (k : ℕ). IsPut after k words) c.slot_at.ensures.is c.in-Ok.ensures.done in (
      c.loop-slot-test.true,
      put,
      others_then slots m mid after base page s (s + 1) kept
          (others_kept slots mid after base s words puts below kept.free size page refl),
    )

pub returns-in-Ok-clause-alone : goal.returns-in-Ok-clause-alone
returns-in-Ok-clause-alone g c = λ none.
    let slots = g.F.Flash.SLOTS in
    let mid = (g.F.Flash.state c.loop-slot.flash).words in
    let after = (g.F.Flash.state c.program_record.new.flash).words in
    let base = base_in slots c.args.area in
    let words = c.args.words.now in
    let was = c.loop-slot.invariant in
    let stays = (c.in-Ok.ensures.light.ok refl).faults in
    let first : c.loop-slot.slot ≡ c.args.next = omega (arith, was.failed, was.least, stays, none) in
    let puts : PutsInSlot mid (slot_of base c.loop-slot.slot) words after =
    subst (λ (k : ℕ). PutsInSlot mid k words after) c.slot_at.ensures.is c.program_record.ensures.puts in (
      first,
      subst (λ (l : List ℕ). SameElsewhere l (slot_of base c.args.next) 20 after) (was.first first)
          (subst (λ (s : ℕ). SameElsewhere mid (slot_of base s) 20 after) first puts.elsewhere),
    )

pub loop-slot-preserved : goal.loop-slot-preserved
loop-slot-preserved g c =
    let slots = g.F.Flash.SLOTS in
    let m = (g.F.Flash.state c.args.flash.now).words in
    let mid = (g.F.Flash.state c.loop-slot.flash).words in
    let after = (g.F.Flash.state c.program_record.new.flash).words in
    let base = base_in slots c.args.area in
    let words = c.args.words.now in
    let page = slice_index words 16 in
    let s = c.loop-slot.slot in
    let was = c.loop-slot.invariant in
    let failed = c.in-Err-Fault.ensures.light.fault (ap Err c.in-Err-Fault.field-0-is) in
    let below : s < slots = omega (arith, c.loop-slot-test.true, c.requires.end) in
    let size : length words ≡ 18 = omega arith in
    let puts : PutsInSlot mid (slot_of base s) words after =
    subst (λ (k : ℕ). PutsInSlot mid k words after) c.slot_at.ensures.is c.program_record.ensures.puts in
    let work = c.program_record.ensures.work in
    let more = failed.faults in
    let within : SameElsewhere mid base (20 * slots) after =
    in_area slots mid after base s words puts below was.kept.free size in
    record {
      lit = failed.lit;
      steady = record {
        lit = failed.lit;
        due = failed.due ∙ was.steady.due;
        faults = omega (arith, more, was.steady.faults);
      };
      failed = omega (arith, more, was.failed);
      least = omega (arith, was.least);
      first = λ e. absurd (omega (arith, e, was.least));
      operations = omega (arith, more, work, was.operations);
      erases = c.program_record.ensures.erases ∙ was.erases;
      elsewhere = elsewhere_then m mid after base (20 * slots) was.elsewhere within;
      kept = others_then slots m mid after base page s (s + 1) was.kept
          (others_kept slots mid after base s words puts below was.kept.free size page refl);
    }

pub returns-in-Ok-clause-torn : goal.returns-in-Ok-clause-torn
returns-in-Ok-clause-torn g c = λ fits.
    let slots = g.F.Flash.SLOTS in
    let old = g.F.Flash.state c.args.flash.now in
    let new = g.F.Flash.state c.program_record.new.flash in
    let next = c.args.next in
    let s = c.loop-slot.slot in
    let was = c.loop-slot.invariant in
    let stays = (c.in-Ok.ensures.light.ok refl).faults in
    let put = returns-in-Ok-clause-put g c in
    others_wider slots old.words new.words (base_in slots c.args.area) (slice_index c.args.words.now 16) (s + 1)
    (next + 1 + (new.faults - old.faults)) (omega (arith, was.failed, stays)) fits put.2

pub returns-in-Err-PowerLost-clause-torn : goal.returns-in-Err-PowerLost-clause-torn
returns-in-Err-PowerLost-clause-torn g c = λ fits.
    let slots = g.F.Flash.SLOTS in
    let old = g.F.Flash.state c.args.flash.now in
    let new = g.F.Flash.state c.program_record.new.flash in
    let mid = (g.F.Flash.state c.loop-slot.flash).words in
    let base = base_in slots c.args.area in
    let words = c.args.words.now in
    let page = slice_index words 16 in
    let next = c.args.next in
    let s = c.loop-slot.slot in
    let was = c.loop-slot.invariant in
    let below : s < slots = omega (arith, c.loop-slot-test.true, c.requires.end) in
    let size : length words ≡ 18 = omega arith in
    let stays = (c.in-Err-PowerLost.ensures.light.lost (ap Err c.in-Err-PowerLost.field-0-is)).faults in
    let puts : PutsInSlot mid (slot_of base s) words new.words =
    subst (λ (k : ℕ). PutsInSlot mid k words new.words) c.slot_at.ensures.is c.program_record.ensures.puts in
    others_wider slots old.words new.words base page (s + 1) (next + 1 + (new.faults - old.faults))
    (omega (arith, was.failed, stays)) fits
    (others_then slots old.words mid new.words base page s (s + 1) was.kept
    (others_kept slots mid new.words base s words puts below was.kept.free size page refl))

pub returns-clause-torn : goal.returns-clause-torn
returns-clause-torn g c = λ fits.
    let slots = g.F.Flash.SLOTS in
    let old = g.F.Flash.state c.args.flash.now in
    let new = g.F.Flash.state c.loop-slot.flash in
    let next = c.args.next in
    let was = c.loop-slot.invariant in
    others_wider slots old.words new.words (base_in slots c.args.area) (slice_index c.args.words.now 16)
    c.loop-slot.slot (next + 1 + (new.faults - old.faults)) (omega (arith, was.failed)) fits was.kept
