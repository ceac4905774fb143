use Rattle.std.proofs.Common.{refl}
use Rattle.sweep_reports.proofs.Reported.{sections-first}
use Rattle.card_sweeps.proofs.Turned.{are-turns-same}
use Rattle.sweep_reports.proofs.reporting.swept.Goals as goal

pub returns : goal.returns
returns g c =
    let turns = c.in_ok-turns.ensures in
    let sections = c.in_ok-push_sections.ensures c.requires in
    record {
      sweeping = _;
      board_is = refl;
      prepare = are-turns-same _ _ _ _ refl c.deref.ensures.value turns.prepare;
      command = (c.as_slice.result, refl, c.as_slice.ensures);
      probe = are-turns-same _ _ _ _ refl c.deref-2.ensures.value turns.probe;
      looks = c.deref-3.ensures.value;
      depth = refl;
      part_is = refl;
      whole = _;
      is_whole = are-turns-same _ _ _ _ refl c.deref-4.ensures.value turns.whole;
      sections = sections-first _ _ _ _ c.new-text.ensures.bytes sections;
    }
