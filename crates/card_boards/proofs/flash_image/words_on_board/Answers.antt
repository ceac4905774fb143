use Rattle.std.proofs.Common.{◌≡◌, ◌<◌, ◌≤◌, ◌++◌, ◌*◌, ℕ, List, [], ◌∷◌, length, get_or, take_all}
use Rattle.std.proofs.Common.{sym, ap, ap₂, arith, ◌∙◌}
use Rattle.std.proofs.lemmas.List.{take_more}
use Rattle.card_boards.proofs.flash_image.words_on_board.Goals as goal

pub loop-at-preserved : goal.loop-at-preserved
loop-at-preserved g c =
    let m = (g.B.Board.facts c.args.board).words in
    let size = c.requires in
    let within : c.loop-at.at < length m = omega (arith, size, c.loop-at-test.true) in
    let word : c.in-Ok.word ≡ get_or m c.loop-at.at 0 =
    c.in-Ok.ensures.word ∙ ap (λ (l : List ℕ). get_or l c.loop-at.at 0) c.loop-at.invariant.words in
    record {
      words = c.in-Ok.ensures.words ∙ c.loop-at.invariant.words;
      so_far = c.in_ok-push.ensures.items
          ∙ ap₂ (λ (l : List ℕ) (w : ℕ). l ++ w ∷ []) c.loop-at.invariant.so_far word
          ∙ sym (take_more m c.loop-at.at 0 within);
    }

pub returns : goal.returns
returns g c =
    let m = (g.B.Board.facts c.args.board).words in
    let size = c.requires in
    let all : length m ≤ c.loop-at.at = omega (arith, size, c.loop-at-test.false) in
    c.loop-at.invariant.so_far ∙ take_all c.loop-at.at m all
