use Rattle.std.proofs.Common.{◌≡◌, ◌≢◌, ◌≤◌, ℕ, List, length, refl, rules, ap, subst, sym, ◌∙◌, arith, below_more}
use Rattle.nvm_board.specs.Facts.{address}
use Rattle.nvm_board.specs.laws.Aims.{aims_same, aims_then, aims_written}
use Rattle.nvm_board.specs.laws.Sizes.{page_within, pages_same}
use Rattle.nvm_board.specs.laws.Torn.{length-written}
use Rattle.block_chain.specs.BlockWords.{page_words}
use Rattle.block_chain.specs.declared.layout.TheConstants.{HEADER_PAGE}
use Rattle.card_start.specs.Factory.{factory_page}
use Rattle.card_start.proofs.FactoryPages.{page_words-written, page_words-written_other}
use Rattle.card_start.proofs.Powers.{answered_after, steady_then}
use Rattle.card_start.proofs.FactoryPages.{length-factory_page}
use Rattle.card_start.proofs.factory.write_pages.Goals as goal

pub returns-in_err-write-clause-power : goal.returns-in_err-write-clause-power
returns-in_err-write-clause-power g c =
    let h = answered_after _ _ _ c.loop-page.invariant.steady _ c.in_err-write.ensures.light in search (rules, h)

pub loop-page-init : goal.loop-page-init
loop-page-init g c =
    let m = (g.B.Board.facts c.args.board.now).words in
    let lit = c.requires.lit in
    record {
      steady = record { was_lit = lit; lit = lit; faults = refl; cuts = refl; due = refl };
      cut = aims_same _;
      writes = refl;
      compares = refl;
      matches = refl;
      size = refl;
      so_far = λ page below.
          let first : page ≡ HEADER_PAGE = omega (arith, below) in
          subst (λ (p : ℕ). page_words m p ≡ factory_page c.args.format c.args.end p) (sym first) c.requires.header;
      behind = λ page high. refl;
    }

pub loop-page-preserved : goal.loop-page-preserved
loop-page-preserved g c =
    let m = (g.B.Board.facts c.loop-page.board).words in
    let first = (g.B.Board.facts c.args.board.now).words in
    let pages = pages_same first m c.loop-page.invariant.size in
    let within = page_within m c.loop-page.page (g.met.B.Board.is_board c.loop-page.board).sized
    (omega (arith, pages, c.loop-page-test.true, c.requires.inside)) in
    let whole : length c.factory_page.result ≡ 16 = ap length c.factory_page.ensures.words
    ∙ length-factory_page c.args.format c.args.end c.loop-page.page in
    let fits : length c.factory_page.result ≤ 16 = omega arith in
    record {
      steady = steady_then _ _ _ c.loop-page.invariant.steady (c.in_ok-write.ensures.light.ok refl);
      cut = aims_then _ _ _ c.loop-page.invariant.cut
          (aims_written _ _ _ _ _ (omega (arith, fits)) c.in_ok-write.ensures);
      writes = omega (arith, c.in_ok-write.ensures.counted);
      compares = c.in_ok-write.ensures.compares ∙ c.loop-page.invariant.compares;
      matches = c.in_ok-write.ensures.matches ∙ c.loop-page.invariant.matches;
      size = ap (λ (words : List ℕ). length words) c.in_ok-write.ensures.done
          ∙ length-written m c.factory_page.result (address c.loop-page.page 0) ∙ c.loop-page.invariant.size;
      behind = λ page high.
          let other : page ≢ c.loop-page.page = λ same. let z : ⊥ =
          omega (arith, same, high, c.loop-page-test.true) in z in
          ap (λ (words : List ℕ). page_words words page) c.in_ok-write.ensures.done
          ∙ page_words-written_other m c.factory_page.result c.loop-page.page page fits other
          ∙ c.loop-page.invariant.behind page high;
      so_far = below_more _ _
          (λ page below.
          let other : page ≢ c.loop-page.page = λ same. let z : ⊥ = omega arith in z in
          ap (λ (words : List ℕ). page_words words page) c.in_ok-write.ensures.done
          ∙ page_words-written_other m c.factory_page.result c.loop-page.page page fits other
          ∙ c.loop-page.invariant.so_far page below)
          (ap (λ (words : List ℕ). page_words words c.loop-page.page) c.in_ok-write.ensures.done
          ∙ page_words-written m c.factory_page.result c.loop-page.page whole within ∙ c.factory_page.ensures.words);
    }

pub returns-in_err-write-clause-cut : goal.returns-in_err-write-clause-cut
returns-in_err-write-clause-cut g c = aims_then _ _ _ c.loop-page.invariant.cut
    (aims_written _ _ _ _ _ (omega arith) c.in_err-write.ensures)

pub returns-clause-cut : goal.returns-clause-cut
returns-clause-cut g c = c.loop-page.invariant.cut

pub write-requires : goal.write-requires
write-requires g c =
    let pages = pages_same _ _ c.loop-page.invariant.size in
    record {
      page = omega (arith, pages, c.loop-page-test.true, c.requires.inside);
      some = search rules;
      run = search rules;
    }

pub returns-clause-written : goal.returns-clause-written
returns-clause-written g c = record {
  size = c.loop-page.invariant.size;
  pages = λ page below. c.loop-page.invariant.so_far page (omega (arith, below, c.loop-page-test.false));
  behind = c.loop-page.invariant.behind;
}
