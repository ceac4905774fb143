use Rattle.std.proofs.Common.{◌≡◌, ap, refl, sym, true≢false, ◌∙◌}
use Rattle.nvm_board.specs.Facts.{Facts, pages_of}
use Rattle.simulated_boards.specs.Cut.{cut_facts}
use Rattle.card_files.proofs.Refused.{holds_no_card, is_shorter, refused_rightly}
use Rattle.card_files.proofs.reading.card_in.Goals as goal

pub returns-in-Err-Start-clause-refused : goal.returns-in-Err-Start-clause-refused
returns-in-Err-Start-clause-refused g c = (
  c.in_ok-check_size.ensures.fits.0,
  c.in_ok-check_size.ensures.fits.1,
  holds_no_card _ c.args.size c.in-Ok.words.items c.in-Ok.ensures.fit c.in-Ok.ensures.words
      (refused_rightly c.in-Ok.words.items c.image_board.result c.in-Err-Start.field-0 _ c.image_board.ensures.none
      c.in-Err-Start.is c.in-Err-Start.field-0-is).1,
)

pub returns-in-Err-Size-clause-refused : goal.returns-in-Err-Size-clause-refused
returns-in-Err-Size-clause-refused g c =
    let no_memory = refused_rightly c.in-Ok.words.items c.image_board.result c.in-Err-Size.field-0 _
    c.image_board.ensures.none c.in-Err-Size.is c.in-Err-Size.field-0-is in (
      refl,
      λ image. (
        c.in_ok-check_size.ensures.fits.1,
        is_shorter _ c.args.size c.in-Ok.words.items c.in-Ok.ensures.words image (λ memory. no_memory memory.0),
      ),
    )

pub returns-then-not-has_pages-clause-refused : goal.returns-then-not-has_pages-clause-refused
returns-then-not-has_pages-clause-refused g c =
    let words = c.in-Ok.words.items in
    let same : (cut_facts c.in-Ok-image_board.board).words ≡ words =
    ap (λ (f : Facts). f.words) c.in-Ok-image_board.ensures.board in (
      refl,
      λ image. (
        c.in_ok-check_size.ensures.fits.1,
        is_shorter _ c.args.size words c.in-Ok.ensures.words image
            (λ memory. true≢false (sym (c.has_pages.ensures.1
            (λ number is. ap pages_of same ∙ memory.1 ∙ c.in_ok-check_size.ensures.fits.1 number is))
            ∙ c.if-not-has_pages.true)),
      ),
    )
