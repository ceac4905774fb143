use Rattle.std.proofs.Common.{◌<◌, ◌+◌, ◌*◌, ◌∙◌, refl, inr, arith}
use Rattle.std.proofs.Math.Logic.{⊎_map}
use Rattle.nvm_board.specs.Facts.{address}
use Rattle.undo_journal.specs.declared.layout.TheConstants.{JOURNAL}
use Rattle.undo_journal.specs.ClearingParts.{IsPairPage}
use Rattle.undo_journal.proofs.PairChanges.{data_same, steady_then}
use Rattle.undo_journal.proofs.PairPages.{changes_pairs, cleared_more, names_page}
use Rattle.undo_journal.proofs.wiping.clear_pairs.Goals as goal

pub returns-in_err-clear_page-clause-data : goal.returns-in_err-clear_page-clause-data
returns-in_err-clear_page-clause-data g c =
    let m = (g.B.Board.facts c.args.board.now).words in
    let mid = (g.B.Board.facts c.loop-pair_page.board).words in
    let after = (g.B.Board.facts c.clear_page.new.board).words in
    let page = c.loop-pair_page.pair_page in
    let below : page < 128 = omega (arith, c.loop-pair_page-test.true) in
    let is : IsPairPage page = (c.loop-pair_page.invariant.least, below) in
    data_same m after
    (changes_pairs m mid after page is c.loop-pair_page.invariant.others c.clear_page.ensures.changes) c.requires

pub returns-in_err-clear_page-clause-names : goal.returns-in_err-clear_page-clause-names
returns-in_err-clear_page-clause-names g c =
    let m = (g.B.Board.facts c.args.board.now).words in
    let mid = (g.B.Board.facts c.loop-pair_page.board).words in
    let after = (g.B.Board.facts c.clear_page.new.board).words in
    let page = c.loop-pair_page.pair_page in
    let below : page < 128 = omega (arith, c.loop-pair_page-test.true) in
    let is : IsPairPage page = (c.loop-pair_page.invariant.least, below) in
    names_page m mid after page is c.loop-pair_page.invariant.names c.clear_page.ensures.changes

pub loop-pair_page-preserved : goal.loop-pair_page-preserved
loop-pair_page-preserved g c =
    let m = (g.B.Board.facts c.args.board.now).words in
    let mid = (g.B.Board.facts c.loop-pair_page.board).words in
    let after = (g.B.Board.facts c.clear_page.new.board).words in
    let page = c.loop-pair_page.pair_page in
    let was = c.loop-pair_page.invariant in
    let least = was.least in
    let writes = was.writes in
    let more = c.clear_page.ensures.writes in
    let change = c.clear_page.ensures.changes in
    let below : page < 128 = omega (arith, c.loop-pair_page-test.true) in
    let is : IsPairPage page = (least, below) in
    record {
      others = changes_pairs m mid after page is was.others change;
      names = names_page m mid after page is was.names change;
      cleared = λ i lt.
          let before : JOURNAL + 2 * i + 1 < address page 16 = omega (arith, lt) in
          cleared_more mid after page is change c.in_ok-clear_page.ensures.clear was.cleared i before;
      steady = inr (steady_then (g.B.Board.facts c.args.board.now) (g.B.Board.facts c.loop-pair_page.board)
          (g.B.Board.facts c.clear_page.new.board) (⊎_map (λ s. s.1) (λ s. s) was.steady)
          (c.in_ok-clear_page.ensures.light.ok refl));
      least = omega (arith, least);
      compares = c.clear_page.ensures.compares.0 ∙ was.compares;
      matches = c.clear_page.ensures.compares.1 ∙ was.matches;
      writes = omega (arith, writes, more);
    }

pub returns-clause-data : goal.returns-clause-data
returns-clause-data g c =
    let m = (g.B.Board.facts c.args.board.now).words in
    let after = (g.B.Board.facts c.loop-pair_page.board).words in
    data_same m after c.loop-pair_page.invariant.others c.requires
