use Rattle.std.proofs.Common.{ℕ, List, true, false, refl, sym, ap, subst, inr, ◌∙◌, arith}
use Rattle.flash_device.specs.FlashCalls.{FlashState}
use Rattle.flash_moves.specs.Paces.{IsInPace, IsInPaceFrom, LogState, StandsInPace, is_paced}
use Rattle.flash_moves.specs.Places.{new_log}
use Rattle.flash_moves.specs.laws.Pacing.{in_pace_by}
use Rattle.flash_log.proofs.flash_log.FlashLog.light.Goals as goal

pub returns-clause-log : goal.returns-clause-log
unfolding is_paced
returns-clause-log g c =
    let pages = g.F.Flash.PAGES in
    let lit : LogState → LogState = λ l. record l {
      flash = record l.flash { dark = false };
      paced = false;
      extra = 0;
      ready = false;
      tried = 0;
      fresh = true;
      free = 0;
      left = 0;
    } in
    ap (λ (s : FlashState). new_log pages g.F.Flash.SLOTS s) c.light.ensures ∙ ap lit c.self.view_is

pub returns-clause-stands : goal.returns-clause-stands
unfolding is_paced
returns-clause-stands g c = λ extra.
    let pages = g.F.Flash.PAGES in
    let slots = g.F.Flash.SLOTS in
    let sectors = g.F.Flash.SECTORS in
    let start = g.F.Flash.sector_start in
    let m = (g.F.Flash.state c.self.inside.flash).words in
    let is : StandsInPace pages slots sectors start extra c.args.self.now
    → IsInPace pages slots sectors start m extra =
    subst (λ (l : LogState). StandsInPace pages slots sectors start extra l
    → IsInPace pages slots sectors start m extra)
    c.self.view_is
    (in_pace_by pages slots sectors extra g.F.Table.PageTable.entries start m c.self.inside.place c.self.invariant) in
    λ stands. inr (
      refl,
      subst (λ (l : List ℕ). IsInPaceFrom pages slots sectors start l extra 0)
          (sym (ap (λ (s : FlashState). s.words) c.light.ensures))
          (record { pace = is stands; passed = omega arith }),
    )
