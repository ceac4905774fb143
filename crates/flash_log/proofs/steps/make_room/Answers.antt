use Rattle.std.proofs.Common.{◌≡◌, ℕ, List, refl, sym, subst, ◌∙◌, arith}
use Rattle.flash_device.specs.PageTables.{IsPageTable}
use Rattle.flash_area.specs.laws.Copying.{SameArea, area_found}
use Rattle.flash_device.specs.FlashLogs.{words_of}
use Rattle.flash_moves.specs.laws.Moving.{base_other, witness_area}
use Rattle.flash_moves.specs.laws.Sparing.{spare_none}
use Rattle.flash_device.specs.FlashBlocks.{area_size}
use Rattle.flash_moves.specs.Paces.{KeepsFree, KeepsRoom}
use Rattle.flash_device.specs.FlashCalls.{FlashState}
use Rattle.flash_moves.specs.laws.Lighting.{tries_faults}
use Rattle.flash_moves.specs.laws.Losing.{free_then, witness_free}
use Rattle.flash_log.proofs.steps.make_room.Given.{Over}
use Rattle.flash_log.proofs.steps.make_room.Goals.{After-move_to_a}
use Rattle.flash_log.proofs.steps.make_room.Goals as goal
use Rattle.flash_log.proofs.steps.make_room.Goals.{then-place-eq1+in_ok-pass_witness, else-place-eq1}

pub move_to_a-requires-clause-index : goal.move_to_a-requires-clause-index
move_to_a-requires-clause-index g c =
    let slots = g.F.Flash.SLOTS in
    let pages = g.F.Flash.PAGES in
    let entries = g.F.Table.PageTable.entries in
    let m = (g.F.Flash.state c.args.flash.now).words in
    let place = c.args.place.now in
    let known = c.requires.log.known c.requires.ready in
    let index : IsPageTable pages m (area_size slots) slots (entries place.table) =
    subst (λ (b : ℕ). IsPageTable pages m b slots (entries place.table))
    (base_other pages slots place.turn c.if-place-eq0.false) known.index in
    elim c.if-place-eq1.branch [
      | then-place-eq1+in_ok-pass_witness w ↦
          let after = (g.F.Flash.state w.pass_witness.new.flash).words in
          let same : SameArea slots m after (area_size slots) =
          witness_area pages slots m after w.pass_witness.ensures.area in
          subst (λ (l : List ℕ). IsPageTable pages l (area_size slots) slots (entries place.table))
          (λ i. (g.F.Flash.state ((sym w.flash-is) i)).words)
          (record { each = λ p lt. index.each p lt ∙ sym (area_found slots m after (area_size slots) same p) })
      | else-place-eq1 w ↦
          subst (λ (l : List ℕ). IsPageTable pages l (area_size slots) slots (entries place.table))
          (λ i. (g.F.Flash.state ((sym w.flash-is) i)).words) index
    ]

pub returns-then-place-eq0-clause-log : goal.returns-then-place-eq0-clause-log
returns-then-place-eq0-clause-log g c =
    let pages = g.F.Flash.PAGES in
    let fit = g.met.F.Flash.sectors_fit in
    let after = (g.F.Flash.state c.move_to_b.new.flash).words in
    record {
      ring = c.move_to_b.ensures.ring;
      passed = omega arith;
      known = λ _. record {
        turn = sym c.in_ok-free_in_b.ensures.done;
        small = omega arith;
        index = c.in_ok-free_in_b.ensures.index;
        free = c.in_ok-free_in_b.ensures.free;
        spare = spare_none pages g.F.Flash.SLOTS g.F.Flash.SECTORS g.F.Flash.sector_start
            g.met.F.Flash.sectors_rise fit.0 fit.1 fit.2 fit.4 g.met.F.Flash.pages_fit.0 after
            (words_of pages g.F.Flash.SLOTS after) 1;
      };
    }

pub returns-clause-log : goal.returns-clause-log
returns-clause-log g c =
    let pages = g.F.Flash.PAGES in
    let fit = g.met.F.Flash.sectors_fit in
    let after = (g.F.Flash.state c.move_to_a.new.flash).words in
    record {
      ring = c.move_to_a.ensures.ring;
      passed = omega arith;
      known = λ _. record {
        turn = sym c.in_ok-free_in_a.ensures.done;
        small = omega arith;
        index = c.in_ok-free_in_a.ensures.index;
        free = c.in_ok-free_in_a.ensures.free;
        spare = spare_none pages g.F.Flash.SLOTS g.F.Flash.SECTORS g.F.Flash.sector_start
            g.met.F.Flash.sectors_rise fit.0 fit.1 fit.2 fit.4 g.met.F.Flash.pages_fit.0 after
            (words_of pages g.F.Flash.SLOTS after) 0;
      };
    }

pub returns-in_err-free_in_b-clause-same : goal.returns-in_err-free_in_b-clause-same
returns-in_err-free_in_b-clause-same g c = λ lt.
    let full = c.if-place-SLOTS.false in absurd (omega (arith, lt, full))

pub returns-in_err-pass_witness-clause-same : goal.returns-in_err-pass_witness-clause-same
returns-in_err-pass_witness-clause-same g c = λ lt.
    let full = c.if-place-SLOTS.false in absurd (omega (arith, lt, full))

pub returns-in_err-free_in_a-clause-same : goal.returns-in_err-free_in_a-clause-same
returns-in_err-free_in_a-clause-same g c = λ lt.
    let full = c.if-place-SLOTS.false in absurd (omega (arith, lt, full))

pub returns-then-place-eq0-clause-same : goal.returns-then-place-eq0-clause-same
returns-then-place-eq0-clause-same g c = λ lt.
    let full = c.if-place-SLOTS.false in absurd (omega (arith, lt, full))

pub returns-clause-same : goal.returns-clause-same
returns-clause-same g c = λ lt.
    let full = c.if-place-SLOTS.false in absurd (omega (arith, lt, full))

pub returns-then-place-SLOTS-clause-fresh : goal.returns-then-place-SLOTS-clause-fresh
returns-then-place-SLOTS-clause-fresh g c = λ full same.
    let lt = c.if-place-SLOTS.true in absurd (omega (arith, lt, full))

pub returns-then-place-eq0-clause-fresh : goal.returns-then-place-eq0-clause-fresh
returns-then-place-eq0-clause-fresh g c = λ full same.
    let passes = c.in_ok-free_in_b.ensures.passes in (
      record { ready = refl; free = refl; tried = refl; erased = refl; copied = refl; behind = refl },
      omega (arith, passes, same),
    )

pub returns-then-place-SLOTS-clause-have : goal.returns-then-place-SLOTS-clause-have
returns-then-place-SLOTS-clause-have g c = λ full same.
    let lt = c.if-place-SLOTS.true in absurd (omega (arith, lt, full))

pub returns-then-place-SLOTS-clause-last : goal.returns-then-place-SLOTS-clause-last
returns-then-place-SLOTS-clause-last g c = λ full.
    let lt = c.if-place-SLOTS.true in absurd (omega (arith, lt, full))

pub returns-then-place-eq0-clause-last : goal.returns-then-place-eq0-clause-last
returns-then-place-eq0-clause-last g c = λ full. record {
  zero = λ e. absurd (omega (arith, e));
  two = λ e. absurd (omega (arith, e));
}

pub returns-clause-have : goal.returns-clause-have
returns-clause-have g c = λ full none.
    let old = g.F.Flash.state c.args.flash.now in
    let still : (g.F.Flash.state c.if-place-eq1.flash).faults ≡ old.faults =
    elim c.if-place-eq1.branch [
      | then-place-eq1+in_ok-pass_witness w ↦
          (λ i. (g.F.Flash.state (w.flash-is i)).faults) ∙ (w.in_ok-pass_witness.ensures.light.ok refl).faults
      | else-place-eq1 w ↦ λ i. (g.F.Flash.state (w.flash-is i)).faults
    ] in
    c.in_ok-free_in_a.ensures.have (none ∙ sym still)

pub returns-clause-last : goal.returns-clause-last
returns-clause-last g c = λ full. record {
  zero = λ e. c.in_ok-free_in_a.ensures.mark;
  two = λ e. absurd (omega (arith, e));
}

pub returns-then-place-SLOTS-clause-passes : goal.returns-then-place-SLOTS-clause-passes
returns-then-place-SLOTS-clause-passes g c = λ full.
    let lt = c.if-place-SLOTS.true in absurd (omega (arith, lt, full))

pub returns-clause-passes : goal.returns-clause-passes
returns-clause-passes g c = λ full.
    let passes = c.in_ok-free_in_a.ensures.passes in
    let still : (g.F.Flash.state c.if-place-eq1.flash).faults ≡ (g.F.Flash.state c.args.flash.now).faults =
    elim c.if-place-eq1.branch [
      | then-place-eq1+in_ok-pass_witness w ↦
          (λ i. (g.F.Flash.state (w.flash-is i)).faults) ∙ (w.in_ok-pass_witness.ensures.light.ok refl).faults
      | else-place-eq1 w ↦ λ i. (g.F.Flash.state (w.flash-is i)).faults
    ] in
    omega (arith, passes, still)

pub returns-then-place-SLOTS-clause-keeps_free : goal.returns-then-place-SLOTS-clause-keeps_free
returns-then-place-SLOTS-clause-keeps_free g c = λ n far free. free

pub returns-in_err-free_in_b-clause-keeps_free : goal.returns-in_err-free_in_b-clause-keeps_free
returns-in_err-free_in_b-clause-keeps_free g c = c.move_to_b.ensures.keeps_free

pub returns-then-place-eq0-clause-keeps_free : goal.returns-then-place-eq0-clause-keeps_free
returns-then-place-eq0-clause-keeps_free g c = c.move_to_b.ensures.keeps_free

pub returns-in_err-pass_witness-clause-keeps_free : goal.returns-in_err-pass_witness-clause-keeps_free
returns-in_err-pass_witness-clause-keeps_free g c = λ n far.
    let known = c.requires.log.known c.requires.ready in
    witness_free g.F.Flash.PAGES g.F.Flash.SLOTS (g.F.Flash.state c.args.flash.now).words
    (g.F.Flash.state c.pass_witness.new.flash).words n (sym known.turn ∙ c.if-place-eq1.true)
    c.pass_witness.ensures.area c.pass_witness.ensures.passes

-- the area in use is free behind its pages
move_free : (g : Over) (c : After-move_to_a g)
    → KeepsFree g.F.Flash.PAGES g.F.Flash.SLOTS (g.F.Flash.state c.args.flash.now)
    (g.F.Flash.state c.move_to_a.new.flash)
move_free g c =
    let slots = g.F.Flash.SLOTS in
    let pages = g.F.Flash.PAGES in
    let old = g.F.Flash.state c.args.flash.now in
    let mid = g.F.Flash.state c.if-place-eq1.flash in
    let known = c.requires.log.known c.requires.ready in
    let first : KeepsFree pages slots old mid = elim c.if-place-eq1.branch [
      | then-place-eq1+in_ok-pass_witness w ↦
          subst (λ (s : FlashState). KeepsFree pages slots old s) (λ i. g.F.Flash.state ((sym w.flash-is) i))
          (λ n far. witness_free pages slots old.words (g.F.Flash.state w.pass_witness.new.flash).words n
          (sym known.turn ∙ w.if-place-eq1.true) w.pass_witness.ensures.area w.pass_witness.ensures.passes)
      | else-place-eq1 w ↦
          subst (λ (s : FlashState). KeepsFree pages slots old s) (λ i. g.F.Flash.state ((sym w.flash-is) i))
          (λ n far free. free)
    ] in
    let still : mid.faults ≡ old.faults = elim c.if-place-eq1.branch [
      | then-place-eq1+in_ok-pass_witness w ↦
          (λ i. (g.F.Flash.state (w.flash-is i)).faults) ∙ (w.in_ok-pass_witness.ensures.light.ok refl).faults
      | else-place-eq1 w ↦ λ i. (g.F.Flash.state (w.flash-is i)).faults
    ] in
    let new = g.F.Flash.state c.move_to_a.new.flash in
    let more = tries_faults 1 mid new c.move_to_a.result c.move_to_a.ensures.light in
    free_then pages slots old mid new (omega (arith, still)) more first c.move_to_a.ensures.keeps_free

pub returns-in_err-free_in_a-clause-keeps_free : goal.returns-in_err-free_in_a-clause-keeps_free
returns-in_err-free_in_a-clause-keeps_free g c =
    move_free g (goal.at.returns-in_err-free_in_a-clause-keeps_free g c).After-move_to_a

pub returns-clause-keeps_free : goal.returns-clause-keeps_free
returns-clause-keeps_free g c = move_free g (goal.at.returns-clause-keeps_free g c).After-move_to_a

pub returns-then-place-SLOTS-clause-keeps_room : goal.returns-then-place-SLOTS-clause-keeps_room
returns-then-place-SLOTS-clause-keeps_room g c = λ n far free. free

pub returns-in_err-free_in_b-clause-keeps_room : goal.returns-in_err-free_in_b-clause-keeps_room
returns-in_err-free_in_b-clause-keeps_room g c = c.move_to_b.ensures.keeps_room

pub returns-then-place-eq0-clause-keeps_room : goal.returns-then-place-eq0-clause-keeps_room
returns-then-place-eq0-clause-keeps_room g c = c.move_to_b.ensures.keeps_room

pub returns-in_err-pass_witness-clause-keeps_room : goal.returns-in_err-pass_witness-clause-keeps_room
returns-in_err-pass_witness-clause-keeps_room g c = λ n far.
    let known = c.requires.log.known c.requires.ready in
    witness_free g.F.Flash.PAGES g.F.Flash.SLOTS (g.F.Flash.state c.args.flash.now).words
    (g.F.Flash.state c.pass_witness.new.flash).words n (sym known.turn ∙ c.if-place-eq1.true)
    c.pass_witness.ensures.area c.pass_witness.ensures.passes

-- the same however often the flash fails
move_room : (g : Over) (c : After-move_to_a g)
    → KeepsRoom g.F.Flash.PAGES g.F.Flash.SLOTS (g.F.Flash.state c.args.flash.now).words
    (g.F.Flash.state c.move_to_a.new.flash).words
move_room g c = λ n far free.
    let slots = g.F.Flash.SLOTS in
    let pages = g.F.Flash.PAGES in
    let m = (g.F.Flash.state c.args.flash.now).words in
    let known = c.requires.log.known c.requires.ready in
    let first : KeepsRoom pages slots m (g.F.Flash.state c.if-place-eq1.flash).words = elim c.if-place-eq1.branch [
      | then-place-eq1+in_ok-pass_witness w ↦
          subst (λ (s : FlashState). KeepsRoom pages slots m s.words) (λ i. g.F.Flash.state ((sym w.flash-is) i))
          (λ k past. witness_free pages slots m (g.F.Flash.state w.pass_witness.new.flash).words k
          (sym known.turn ∙ w.if-place-eq1.true) w.pass_witness.ensures.area w.pass_witness.ensures.passes)
      | else-place-eq1 w ↦
          subst (λ (s : FlashState). KeepsRoom pages slots m s.words) (λ i. g.F.Flash.state ((sym w.flash-is) i))
          (λ k past still. still)
    ] in
    c.move_to_a.ensures.keeps_room n far (first n far free)

pub returns-in_err-free_in_a-clause-keeps_room : goal.returns-in_err-free_in_a-clause-keeps_room
returns-in_err-free_in_a-clause-keeps_room g c =
    move_room g (goal.at.returns-in_err-free_in_a-clause-keeps_room g c).After-move_to_a

pub returns-clause-keeps_room : goal.returns-clause-keeps_room
returns-clause-keeps_room g c = move_room g (goal.at.returns-clause-keeps_room g c).After-move_to_a
