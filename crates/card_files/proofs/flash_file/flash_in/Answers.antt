use Rattle.std.proofs.Common.{◌≡◌, arith, refl}
use Rattle.card_boards.specs.FlashImages.{IsFlashRefusal}
use Rattle.card_boards.specs.declared.flash_image.NoFlashCard.TheVariants as why
use Rattle.card_files.specs.FlashFiles.{flash_image_size}
use Rattle.card_files.proofs.FlashRefused.{flash_is_shorter, flash_refused_rightly, holds_words}
use Rattle.card_files.proofs.flash_file.flash_in.Goals as goal

pub returns-in-Err-Size-clause-refused : goal.returns-in-Err-Size-clause-refused
returns-in-Err-Size-clause-refused g c =
    let kind = g.S.CardSizes.kind in
    let wanted = c.image_bytes_of-wanted.ensures in (
      refl,
      wanted,
      λ is. flash_is_shorter kind _ c.args.size c.in-Ok.words.items c.in-Ok.ensures.words (omega (arith, is, wanted))
          (flash_refused_rightly kind c.in-Ok.words.items c.flash_of_words.result c.in-Err-Size.field-0 _
          c.flash_of_words.ensures.none c.in-Err-Size.is c.in-Err-Size.field-0-is),
    )

pub returns-in-Err-Log-clause-refused : goal.returns-in-Err-Log-clause-refused
returns-in-Err-Log-clause-refused g c =
    let kind = g.S.CardSizes.kind in
    let wanted = c.image_bytes_of-wanted.ensures in
    let is : c.args.size ≡ flash_image_size kind = omega (arith, wanted) in
    let rightly = flash_refused_rightly kind c.in-Ok.words.items c.flash_of_words.result c.in-Err-Log.field-0 _
    c.flash_of_words.ensures.none c.in-Err-Log.is c.in-Err-Log.field-0-is in (
      is,
      holds_words (IsFlashRefusal kind why.Log) _ c.args.size c.in-Ok.words.items c.in-Ok.ensures.fit
          c.in-Ok.ensures.words rightly,
    )

pub returns-in-Err-OutOfStep-clause-refused : goal.returns-in-Err-OutOfStep-clause-refused
returns-in-Err-OutOfStep-clause-refused g c =
    let kind = g.S.CardSizes.kind in
    let wanted = c.image_bytes_of-wanted.ensures in
    let is : c.args.size ≡ flash_image_size kind = omega (arith, wanted) in
    let rightly = flash_refused_rightly kind c.in-Ok.words.items c.flash_of_words.result c.in-Err-OutOfStep.field-0 _
    c.flash_of_words.ensures.none c.in-Err-OutOfStep.is c.in-Err-OutOfStep.field-0-is in (
      rightly.2,
      (
        is,
        holds_words (IsFlashRefusal kind why.OutOfStep) _ c.args.size c.in-Ok.words.items c.in-Ok.ensures.fit
            c.in-Ok.ensures.words rightly,
      ),
    )

pub returns-in-Err-Card-clause-refused : goal.returns-in-Err-Card-clause-refused
returns-in-Err-Card-clause-refused g c =
    let kind = g.S.CardSizes.kind in
    let wanted = c.image_bytes_of-wanted.ensures in
    let is : c.args.size ≡ flash_image_size kind = omega (arith, wanted) in
    let rightly = flash_refused_rightly kind c.in-Ok.words.items c.flash_of_words.result c.in-Err-Card.field-0 _
    c.flash_of_words.ensures.none c.in-Err-Card.is c.in-Err-Card.field-0-is in (
      is,
      holds_words (IsFlashRefusal kind why.Card) _ c.args.size c.in-Ok.words.items c.in-Ok.ensures.fit
          c.in-Ok.ensures.words rightly,
    )
