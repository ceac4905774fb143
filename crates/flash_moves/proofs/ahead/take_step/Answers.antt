use Rattle.std.proofs.Common.{◌≡◌, ◌<◌, ◌≤◌, ◌+◌, ℕ, true, refl, ap, sym, subst, inl, arith}
use Rattle.flash_moves.specs.declared.place.PageMap.{PageMap}
use Rattle.std.proofs.lemmas.Result.{on_ok_weaker}
use Rattle.flash_moves.specs.Paces.{IsCaughtUp, IsRoomy, EndsStep, failed_since, lead_of, lost_since}
use Rattle.flash_moves.specs.laws.Losing.{erased_takes, step_in_pace, witness_takes}
use Rattle.flash_moves.specs.laws.Pacing.{stands_more, stepped_more, stepped_none}
use Rattle.flash_moves.proofs.ahead.take_step.Goals as goal

pub copy_next-requires-clause-moves : goal.copy_next-requires-clause-moves
copy_next-requires-clause-moves g c =
    let within = (c.requires.log.known c.requires.ready).spare.within in
    let past = c.if-place-sectors.false in
    (c.if-place-eq1.false, omega (arith, within, past), c.requires.older)

pub returns-then-SLOTS-place-clause-steps : goal.returns-then-SLOTS-place-clause-steps
returns-then-SLOTS-place-clause-steps g c = λ extra roomy pace due.
    let far = c.if-SLOTS-place.true in
    let lead = c.lead.ensures in
    absurd (omega (arith, far, lead, due))

pub returns-then-place-eq1-clause-steps : goal.returns-then-place-eq1-clause-steps
returns-then-place-eq1-clause-steps g c =
    let slots = g.F.Flash.SLOTS in
    let pages = g.F.Flash.PAGES in
    let sectors = g.F.Flash.SECTORS in
    let place = c.args.place.now in
    let spare = (c.requires.log.known c.requires.ready).spare in
    let one = c.if-place-eq1.true in
    let erased : place.erased ≡ 0 = spare.idle one in
    let some_sectors = g.met.F.Flash.sectors_fit.4 in
    let fresh = spare.fresh (omega (arith, erased, some_sectors)) in
    on_ok_weaker c.pass_on.result
    (λ (step : c.pass_on.new.place ≡ record place {
      ready = true;
      turn = 2;
      erased = 0;
      copied = 0;
      behind = 0;
      older = 0;
    }).
    λ extra roomy pace due. subst (EndsStep pages slots sectors place) (sym step)
    (witness_takes pages slots sectors place one erased fresh.0))
    c.pass_on.ensures.step

pub returns-then-place-sectors-clause-steps : goal.returns-then-place-sectors-clause-steps
returns-then-place-sectors-clause-steps g c =
    let slots = g.F.Flash.SLOTS in
    let pages = g.F.Flash.PAGES in
    let sectors = g.F.Flash.SECTORS in
    let place = c.args.place.now in
    let below = c.if-place-sectors.true in
    let more : place.erased < sectors = omega (arith, below) in
    on_ok_weaker c.erase_next.result
    (λ (step : c.erase_next.new.place ≡ record place { ready = true; erased = place.erased + 1 }).
    λ extra roomy pace due. subst (EndsStep pages slots sectors place) (sym step)
    (erased_takes pages slots sectors place more))
    c.erase_next.ensures.step

pub returns-clause-steps : goal.returns-clause-steps
returns-clause-steps g c =
    let slots = g.F.Flash.SLOTS in
    let pages = g.F.Flash.PAGES in
    let sectors = g.F.Flash.SECTORS in
    let place = c.args.place.now in
    let old = g.F.Flash.state c.args.flash.now in
    let new = g.F.Flash.state c.copy_next.new.flash in
    on_ok_weaker c.copy_next.result
    (λ (goes : (extra : ℕ) → IsRoomy pages slots sectors (extra + failed_since old new)
    → IsCaughtUp pages slots sectors extra place → EndsStep pages slots sectors place c.copy_next.new.place).
    λ extra roomy pace due. goes extra roomy pace)
    c.copy_next.ensures.steps

pub returns-then-place-eq1-clause-idle : goal.returns-then-place-eq1-clause-idle
returns-then-place-eq1-clause-idle g c = λ far.
    let near = c.if-SLOTS-place.false in
    let lead = c.lead.ensures in
    absurd (omega (arith, near, lead, far))

pub returns-then-place-sectors-clause-idle : goal.returns-then-place-sectors-clause-idle
returns-then-place-sectors-clause-idle g c = λ far.
    let near = c.if-SLOTS-place.false in
    let lead = c.lead.ensures in
    absurd (omega (arith, near, lead, far))

pub returns-clause-idle : goal.returns-clause-idle
returns-clause-idle g c = λ far.
    let near = c.if-SLOTS-place.false in
    let lead = c.lead.ensures in
    absurd (omega (arith, near, lead, far))

pub returns-then-SLOTS-place-clause-moves_well : goal.returns-then-SLOTS-place-clause-moves_well
returns-then-SLOTS-place-clause-moves_well g c = λ extra roomy pace same. record { next = inl refl }

pub returns-then-place-eq1-clause-moves_well : goal.returns-then-place-eq1-clause-moves_well
returns-then-place-eq1-clause-moves_well g c =
    let place = c.args.place.now in
    on_ok_weaker c.pass_on.result
    (λ (step : c.pass_on.new.place ≡ record place {
      ready = true;
      turn = 2;
      erased = 0;
      copied = 0;
      behind = 0;
      older
          = 0;
    }).
    λ extra roomy pace same. record { next = inl (ap (λ (p : PageMap _). p.next) step) })
    c.pass_on.ensures.step

pub returns-then-place-sectors-clause-moves_well : goal.returns-then-place-sectors-clause-moves_well
returns-then-place-sectors-clause-moves_well g c =
    let place = c.args.place.now in
    on_ok_weaker c.erase_next.result
    (λ (step : c.erase_next.new.place ≡ record place { ready = true; erased = place.erased + 1 }).
    λ extra roomy pace same. record { next = inl (ap (λ (p : PageMap _). p.next) step) })
    c.erase_next.ensures.step

pub returns-then-SLOTS-place-clause-lost : goal.returns-then-SLOTS-place-clause-lost
returns-then-SLOTS-place-clause-lost g c = λ extra more. absurd (omega (arith, more))

pub returns-then-place-eq1-clause-lost : goal.returns-then-place-eq1-clause-lost
returns-then-place-eq1-clause-lost g c = λ extra more pace.
    step_in_pace g.F.Flash.PAGES g.F.Flash.SLOTS g.F.Flash.SECTORS extra g.F.Table.PageTable.entries
    g.F.Flash.sector_start (g.F.Flash.state c.pass_on.new.flash).words c.pass_on.new.place c.pass_on.ensures.log
    (c.pass_on.ensures.stands extra pace)

pub returns-then-place-sectors-clause-lost : goal.returns-then-place-sectors-clause-lost
returns-then-place-sectors-clause-lost g c = λ extra more pace.
    step_in_pace g.F.Flash.PAGES g.F.Flash.SLOTS g.F.Flash.SECTORS extra g.F.Table.PageTable.entries
    g.F.Flash.sector_start (g.F.Flash.state c.erase_next.new.flash).words c.erase_next.new.place
    c.erase_next.ensures.log (c.erase_next.ensures.stands extra pace)

pub returns-clause-lost : goal.returns-clause-lost
returns-clause-lost g c = λ extra more. let same = c.copy_next.ensures.erases in absurd (omega (arith, more, same))

pub returns-then-SLOTS-place-clause-stands : goal.returns-then-SLOTS-place-clause-stands
returns-then-SLOTS-place-clause-stands g c = λ extra roomy pace.
    let pages = g.F.Flash.PAGES in
    let slots = g.F.Flash.SLOTS in
    let sectors = g.F.Flash.SECTORS in
    let flash = g.F.Flash.state c.args.flash.now in
    let place = c.args.place.now in
    let far = c.if-SLOTS-place.true in
    let lead = c.lead.ensures in
    inl (stepped_more pages slots sectors extra (extra + lost_since flash flash) place (omega arith)
    (stepped_none pages slots sectors extra place (omega (arith, far, lead)) pace))

pub returns-then-place-eq1-clause-stands : goal.returns-then-place-eq1-clause-stands
returns-then-place-eq1-clause-stands g c = λ extra roomy pace.
    let pages = g.F.Flash.PAGES in
    let slots = g.F.Flash.SLOTS in
    let sectors = g.F.Flash.SECTORS in
    let new = g.F.Flash.state c.pass_on.new.flash in
    let given = extra + lost_since (g.F.Flash.state c.args.flash.now) new in
    let place = c.pass_on.new.place in
    stands_more pages slots sectors g.F.Flash.sector_start new.words extra given place (omega arith)
    (stepped_more pages slots sectors extra given place (omega arith)) (c.pass_on.ensures.stands extra pace)

pub returns-then-place-sectors-clause-stands : goal.returns-then-place-sectors-clause-stands
returns-then-place-sectors-clause-stands g c = λ extra roomy pace.
    let pages = g.F.Flash.PAGES in
    let slots = g.F.Flash.SLOTS in
    let sectors = g.F.Flash.SECTORS in
    let new = g.F.Flash.state c.erase_next.new.flash in
    let given = extra + lost_since (g.F.Flash.state c.args.flash.now) new in
    let place = c.erase_next.new.place in
    stands_more pages slots sectors g.F.Flash.sector_start new.words extra given place (omega arith)
    (stepped_more pages slots sectors extra given place (omega arith)) (c.erase_next.ensures.stands extra pace)

pub returns-clause-stands : goal.returns-clause-stands
returns-clause-stands g c = λ extra roomy pace.
    let slots = g.F.Flash.SLOTS in
    let near = c.if-SLOTS-place.false in
    let lead = c.lead.ensures in
    let within = (c.requires.log.known c.requires.ready).free.within in
    let due : slots ≤ c.args.place.now.next + lead_of g.F.Flash.PAGES g.F.Flash.SECTORS =
    omega (arith, near, lead, within) in
    c.copy_next.ensures.stands extra roomy due pace

pub returns-then-place-eq1-clause-next : goal.returns-then-place-eq1-clause-next
returns-then-place-eq1-clause-next g c = on_ok_weaker c.pass_on.result
    (λ (step : c.pass_on.new.place ≡ record c.args.place.now {
      ready = true;
      turn = 2;
      erased = 0;
      copied = 0;
      behind = 0;
      older = 0;
    }). λ same. ap (λ (p : PageMap _). p.next) step)
    c.pass_on.ensures.step

pub returns-then-place-sectors-clause-next : goal.returns-then-place-sectors-clause-next
returns-then-place-sectors-clause-next g c = on_ok_weaker c.erase_next.result
    (λ (step : c.erase_next.new.place ≡ record c.args.place.now { ready = true; erased = c.args.place.now.erased + 1 }).
    λ same. ap (λ (p : PageMap _). p.next) step)
    c.erase_next.ensures.step
