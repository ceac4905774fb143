use Rattle.std.proofs.Common.{◌≡◌, ◌≢◌, length, refl, ap, ◌∙◌, arith, rules, ⊎_elim}
use Rattle.nvm_board.specs.Facts.{address}
use Rattle.nvm_board.specs.laws.Aims.{aims_then, aims_written}
use Rattle.nvm_board.specs.laws.Sizes.{page_within, pages_same}
use Rattle.nvm_board.specs.laws.Torn.{length-written}
use Rattle.block_chain.specs.declared.layout.TheConstants.{HEADER_PAGE}
use Rattle.undo_journal.specs.laws.Exits.{on_then}
use Rattle.card_start.specs.Factory.{IsWritten}
use Rattle.block_chain.specs.BlockWords.{page_words}
use Rattle.card_start.proofs.FactoryPages.{length-header, page_words-written, page_words-written_other}
use Rattle.card_start.proofs.Powers.{answered_after, answered_handed}
use Rattle.command_base.specs.laws.Stopping.{none-done}
use Rattle.card_start.proofs.factory.write_factory.Goals as goal

pub write-requires : goal.write-requires
write-requires g c = record {
  page = omega (arith, c.requires.least, c.requires.inside);
  some = search rules;
  run = search rules;
}

pub write_pages-requires-clause-lit : goal.write_pages-requires-clause-lit
write_pages-requires-clause-lit g c = (c.in_ok-write.ensures.light.ok refl).lit

pub write_pages-requires-clause-inside : goal.write_pages-requires-clause-inside
write_pages-requires-clause-inside g c =
    let m = (g.B.Board.facts c.args.board.now).words in
    let size = ap (λ words. length words) c.in_ok-write.ensures.done
    ∙ length-written m c.header.result (address HEADER_PAGE 0) in
    let pages = pages_same m _ size in
    omega (arith, c.requires.inside, pages)

pub write_pages-requires-clause-header : goal.write_pages-requires-clause-header
write_pages-requires-clause-header g c =
    let m = (g.B.Board.facts c.args.board.now).words in
    let within = page_within m HEADER_PAGE (g.met.B.Board.is_board c.args.board.now).sized
    (omega (arith, c.requires.least, c.requires.inside)) in
    let whole : length c.header.result ≡ 16 = ap length c.header.ensures ∙ length-header c.args.format c.args.end in
    ap (λ words. page_words words HEADER_PAGE) c.in_ok-write.ensures.done
    ∙ page_words-written m c.header.result HEADER_PAGE whole within ∙ c.header.ensures

pub returns-clause-power : goal.returns-clause-power
returns-clause-power g c = answered_after _ _ _ (c.in_ok-write.ensures.light.ok refl) _ c.write_pages.ensures.power

pub returns-clause-written : goal.returns-clause-written
returns-clause-written g c =
    let m = (g.B.Board.facts c.args.board.now).words in
    let whole : length c.header.result ≡ 16 = ap length c.header.ensures ∙ length-header c.args.format c.args.end in
    on_then _ _ c.write_pages.result (λ (rest : IsWritten c.args.format c.args.end _ _). record {
      size = rest.size ∙ ap (λ words. length words) c.in_ok-write.ensures.done
          ∙ length-written m c.header.result (address HEADER_PAGE 0);
      pages = rest.pages;
      behind = λ page high.
          let other : page ≢ HEADER_PAGE = λ same. let z : ⊥ = omega (arith, same, high, c.requires.least) in z in
          rest.behind page high ∙ ap (λ words. page_words words page) c.in_ok-write.ensures.done
          ∙ page_words-written_other m c.header.result HEADER_PAGE page (omega (arith, whole)) other;
    }) c.write_pages.ensures.written

pub returns-clause-counts : goal.returns-clause-counts
returns-clause-counts g c =
    let one = c.in_ok-write.ensures.counted in
    record {
      writes = let rest = c.write_pages.ensures.writes in omega (arith, one, rest);
      more = let rest = c.write_pages.ensures.more in omega (arith, one, rest);
      cut = aims_then _ _ _ (aims_written _ _ _ _ _ (omega arith) c.in_ok-write.ensures) c.write_pages.ensures.cut;
      compares = c.write_pages.ensures.compares ∙ c.write.ensures.compares;
      matches = c.write_pages.ensures.matches ∙ c.write.ensures.matches;
    }

pub returns-in_err-write-clause-written : goal.returns-in_err-write-clause-written
returns-in_err-write-clause-written g c = none-done _ _ _ c.from_residual.ensures.1

pub returns-in_err-write-clause-counts : goal.returns-in_err-write-clause-counts
returns-in_err-write-clause-counts g c = record {
  writes = ⊎_elim (λ e. omega (arith, e, c.requires.least)) (λ e. omega (arith, e, c.requires.least))
      c.in_err-write.ensures.counted_err;
  more = ⊎_elim (λ e. omega (arith, e)) (λ e. omega (arith, e)) c.in_err-write.ensures.counted_err;
  cut = aims_written _ _ _ _ _ (omega arith) c.in_err-write.ensures;
  compares = c.write.ensures.compares;
  matches = c.write.ensures.matches;
}

pub returns-in_err-write-clause-power : goal.returns-in_err-write-clause-power
returns-in_err-write-clause-power g c = answered_handed _ _ _ _ c.from_residual.ensures.1 c.in_err-write.ensures.light
