use Rattle.std.proofs.Common.{◌≡◌, ◌<◌, ◌≤◌, ◌+◌, ℕ, length}
use Rattle.nvm_board.specs.Aims.{AimsOn}
use Rattle.nvm_board.specs.Facts.{Steady}
use Rattle.card_start.specs.Factory.{factory_page}
use Rattle.block_chain.specs.BlockWords.{page_words}
use Rattle.card_start.proofs.factory.write_pages.Given as goal

abbrev pub invariant-loop-page : goal.invariant-loop-page
invariant-loop-page g l =
    let first = g.B.Board.facts l.initial.board in
    let now = g.B.Board.facts l.board in record {
      steady : Steady first now;
      cut : AimsOn first now;
      writes : now.writes + 1 ≡ first.writes + l.page;
      compares : now.compares ≡ first.compares;
      matches : now.matches ≡ first.matches;
      size : length now.words ≡ length first.words;
      so_far : (page : ℕ) → page < l.page → page_words now.words page ≡ factory_page l.format l.end page;
      behind : (page : ℕ) → l.end ≤ page → page_words now.words page ≡ page_words first.words page;
    }
