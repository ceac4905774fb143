use Rattle.std.proofs.Common.{◌*◌, ◌≡◌, ◌<◌, ◌+◌, ◌-◌, ℕ, length, slice_index, Err, refl, sym, ap, subst, ◌∙◌, arith}
use Rattle.flash_device.specs.declared.flash.TheConstants.{BLANK}
use Rattle.flash_device.specs.FlashCalls.{AreFilled, SameElsewhere}
use Rattle.flash_device.specs.FlashLogs.{base_in, slot_of}
use Rattle.flash_device.specs.PutRecords.{PutsInSlot}
use Rattle.flash_area.specs.laws.Copying.{behind_free, others_kept, others_none, others_then}
use Rattle.flash_device.specs.laws.Marks.{elsewhere_then, elsewhere_wider}
use Rattle.sector_moves.proofs.filling.put_in_sector.Given.{Over}
use Rattle.sector_moves.proofs.filling.put_in_sector.Goals.{After-program_record}
use Rattle.sector_moves.proofs.filling.put_in_sector.Goals as goal

-- what a try puts into its slot
puts : (g : Over) (c : After-program_record g) → PutsInSlot (g.F.Flash.state c.loop-slot.flash).words
    (slot_of (base_in g.F.Flash.SLOTS c.args.area) c.loop-slot.slot) c.args.words.now
    (g.F.Flash.state c.program_record.new.flash).words
puts g c = subst (λ (k : ℕ). PutsInSlot (g.F.Flash.state c.loop-slot.flash).words k c.args.words.now
    (g.F.Flash.state c.program_record.new.flash).words) c.slot_at.ensures.is c.program_record.ensures.puts

-- no word elsewhere has changed
elsewhere : (g : Over) (c : After-program_record g) → SameElsewhere (g.F.Flash.state c.args.flash.now).words
    (slot_of (base_in g.F.Flash.SLOTS c.args.area) c.args.next) (20 * (c.args.end - c.args.next))
    (g.F.Flash.state c.program_record.new.flash).words
elsewhere g c =
    let m = (g.F.Flash.state c.args.flash.now).words in
    let mid = (g.F.Flash.state c.loop-slot.flash).words in
    let after = (g.F.Flash.state c.program_record.new.flash).words in
    let base = base_in g.F.Flash.SLOTS c.args.area in
    let s = c.loop-slot.slot in
    let was = c.loop-slot.invariant in
    let least = was.least in
    let lt = c.loop-slot-test.true in
    let at = slot_of base c.args.next in
    let size = 20 * (c.args.end - c.args.next) in
    elsewhere_then m mid after at size was.elsewhere
    (elsewhere_wider mid after (slot_of base s) 20 at size (omega (arith, least)) (omega (arith, least, lt))
    (puts g c).elsewhere)

pub loop-slot-init : goal.loop-slot-init
loop-slot-init g c =
    let m = (g.F.Flash.state c.args.flash.now).words in
    let base = base_in g.F.Flash.SLOTS c.args.area in record {
      lit = c.requires.lit;
      steady = record { lit = c.requires.lit; due = refl; faults = omega arith };
      failed = omega arith;
      least = omega arith;
      operations = omega arith;
      spends = omega arith;
      erases = refl;
      elsewhere = record { same = λ k out. refl };
      free = c.requires.free;
      kept = λ below le are. others_none below m base (slice_index c.args.words.now 16) c.args.next are;
    }

pub program_record-requires-clause-lit : goal.program_record-requires-clause-lit
program_record-requires-clause-lit g c = c.loop-slot.invariant.lit

pub program_record-requires-clause-blank : goal.program_record-requires-clause-blank
program_record-requires-clause-blank g c =
    subst (λ (k : ℕ). AreFilled (g.F.Flash.state c.loop-slot.flash).words k 20 BLANK) (sym c.slot_at.ensures.is)
    (c.loop-slot.invariant.free.free c.loop-slot.slot (omega arith) (omega (arith, c.loop-slot-test.true)))

pub returns-in-Ok-clause-elsewhere : goal.returns-in-Ok-clause-elsewhere
returns-in-Ok-clause-elsewhere g c = elsewhere g (goal.at.returns-in-Ok-clause-elsewhere g c).After-program_record

pub returns-in-Ok-clause-others : goal.returns-in-Ok-clause-others
returns-in-Ok-clause-others g c = λ below le are.
    let m = (g.F.Flash.state c.args.flash.now).words in
    let mid = (g.F.Flash.state c.loop-slot.flash).words in
    let after = (g.F.Flash.state c.program_record.new.flash).words in
    let base = base_in g.F.Flash.SLOTS c.args.area in
    let words = c.args.words.now in
    let page = slice_index words 16 in
    let s = c.loop-slot.slot in
    let kept = c.loop-slot.invariant.kept below le are in
    let lt : s < below = omega (arith, c.loop-slot-test.true, le) in
    let size : length words ≡ 18 = omega arith in
    let put = puts g (goal.at.returns-in-Ok-clause-others g c).After-program_record in
    others_then below m mid after base page s (s + 1) kept
    (others_kept below mid after base s words put lt kept.free size page refl)

pub returns-in-Err-PowerLost-clause-elsewhere : goal.returns-in-Err-PowerLost-clause-elsewhere
returns-in-Err-PowerLost-clause-elsewhere g c =
    elsewhere g (goal.at.returns-in-Err-PowerLost-clause-elsewhere g c).After-program_record

pub loop-slot-preserved : goal.loop-slot-preserved
loop-slot-preserved g c =
    let m = (g.F.Flash.state c.args.flash.now).words in
    let mid = (g.F.Flash.state c.loop-slot.flash).words in
    let after = (g.F.Flash.state c.program_record.new.flash).words in
    let base = base_in g.F.Flash.SLOTS c.args.area in
    let words = c.args.words.now in
    let page = slice_index words 16 in
    let s = c.loop-slot.slot in
    let was = c.loop-slot.invariant in
    let failed = c.in-Err-Fault.ensures.light.fault (ap Err c.in-Err-Fault.field-0-is) in
    let lt = c.loop-slot-test.true in
    let size : length words ≡ 18 = omega arith in
    let try = (goal.at.loop-slot-preserved g c).After-program_record in
    let put = puts g try in
    let work = c.program_record.ensures.work in
    let more = failed.faults in
    record {
      lit = failed.lit;
      steady = record {
        lit = failed.lit;
        due = failed.due ∙ was.steady.due;
        faults = omega (arith, more, was.steady.faults);
      };
      failed = omega (arith, more, was.failed);
      least = omega (arith, was.least);
      operations = omega (arith, more, work, was.operations);
      spends = omega (arith, work, was.spends);
      erases = c.program_record.ensures.erases ∙ was.erases;
      elsewhere = elsewhere g try;
      free = behind_free c.args.end mid after base s words put (omega (arith, lt)) was.free size;
      kept = λ below le are.
          let kept = was.kept below le are in
          let inside : s < below = omega (arith, lt, le) in
          others_then below m mid after base page s (s + 1) kept
          (others_kept below mid after base s words put inside kept.free size page refl);
    }
