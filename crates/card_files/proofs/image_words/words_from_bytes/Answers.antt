use Rattle.std.specs.Prelude.{if◌then◌else◌, is_ok, not}
use Rattle.std.proofs.Common.{◌≡◌, ◌≤◌, ◌<◌, ◌^◌, ◌+◌, ◌*◌, ◌++◌, ℕ, Bool, true, List, [], ◌∷◌, length}
use Rattle.std.proofs.Common.{ap, arith, subst, sym, ◌∙◌}
use Rattle.std.proofs.lemmas.List.Elements.{All-push}
use Rattle.nvm_board.specs.Facts.{AreWords}
use Rattle.card_boards.specs.Images.{image_bytes}
use Rattle.card_files.proofs.Images.{image_more}
use Rattle.card_files.proofs.image_words.words_from_bytes.Goals as goal

pub loop-i-preserved : goal.loop-i-preserved
loop-i-preserved c =
    let bytes = c.args.bytes.now in
    let before = c.loop-i.words.items in
    let word = c.word_at.result in
    let room : 4 * c.loop-i.i + 4 ≤ length bytes = omega (arith, c.loop-i-test.true) in
    let fine : is_ok c.push.result ≡ true = c.is_err.ensures.negation ∙ ap not c.if-is_err.false in
    let pushed : c.push.new.self.items ≡ before ++ word ∷ [] = c.push.ensures.items
    ∙ ap (λ (ok : Bool). if ok then before ++ word ∷ [] else before) fine in
    record {
      fit = subst (λ (words : List ℕ). AreWords words) (sym pushed)
          (All-push (λ (w : ℕ). w < 2 ^ 32) before word c.loop-i.invariant.fit c.word_at.ensures.fit);
      image = ap image_bytes pushed
          ∙ image_more bytes before c.loop-i.i word room c.loop-i.invariant.image c.word_at.ensures.bytes;
    }
