use Rattle.std.specs.Prelude.{IfNone}
use Rattle.std.proofs.Common.{ℕ, List, Option, refl, true, sym, subst}
use Rattle.flash_moves.specs.Rings.{IsRing}
use Rattle.sector_moves.specs.SectorPlaces.{KeepsStep}
use Rattle.sector_moves.specs.SectorSpares.{HasOlderCopy}
use Rattle.sector_log.specs.laws.Reading.{finds_known}
use Rattle.sector_log.proofs.sector_log.SectorLog.open.Goals as goal

pub returns-in-Ok-None-clause-finds : goal.returns-in-Ok-None-clause-finds
returns-in-Ok-None-clause-finds g c =
    let pages = g.F.Flash.PAGES in
    let slots = g.F.Flash.SLOTS in
    let sectors = g.F.Flash.SECTORS in
    let start = g.F.Flash.sector_start in
    let entries = g.F.Table.PageTable.entries in
    let old = g.F.Flash.state c.args.flash in
    let new = g.F.Flash.state c.find_log.new.flash in
    let place = record c.find_log.new.place { ready = true } in
    let found : IsRing slots old.words × KeepsStep entries pages slots sectors start old.words c.find_log.new.place =
    subst (λ (o : Option _). IfNone o (IsRing slots old.words
    × KeepsStep entries pages slots sectors start old.words c.find_log.new.place))
    c.in-Ok-None.field-0-is c.in-Ok-None.ensures.found in
    let was = found.1 in
    let keeps : KeepsStep entries pages slots sectors start old.words place = record {
      place = record {
        turn = was.place.turn;
        small = was.place.small;
        index = was.place.index;
        free = was.place.free;
        spare = was.place.spare;
        goes_on = was.place.goes_on;
      };
      room = was.room;
      passed = was.passed;
    } in
    let words = sym c.find_log.ensures.words in
    finds_known entries pages slots sectors start new place refl
    (subst (λ (l : List ℕ). KeepsStep entries pages slots sectors start l place) words keeps)
    (subst (λ (l : List ℕ). HasOlderCopy slots sectors start l place.turn place.copied place.older) words
    (subst (λ (o : Option _). IfNone o (HasOlderCopy slots sectors start old.words place.turn place.copied place.older))
    c.in-Ok-None.field-0-is c.in-Ok-None.ensures.older))
