use Rattle.std.proofs.Common.{◌≡◌, List, ℕ, Err, ◌<◌, ap, arith, subst, sym}
use Rattle.nvm_board.specs.Facts.{Facts, IsMemory}
use Rattle.simulated_boards.specs.Cut.{cut_facts}
use Rattle.simulated_boards.specs.laws.Counts.{cut_is_board}
use Rattle.card_files.specs.ImageParts.{AreAllWordsIn}
use Rattle.card_files.proofs.Refused.{all_hold_no_card, all_words, no_memory_is_no_image}
use Rattle.card_files.proofs.Refused.{parts_are_no_image, refused_rightly}
use Rattle.card_files.proofs.reading.board_in.Goals as goal

-- one byte more than the largest memory has
large : 262144 < 262145
large = omega arith

pub returns-in-Err-Parts-clause-refused : goal.returns-in-Err-Parts-clause-refused
returns-in-Err-Parts-clause-refused g c =
    parts_are_no_image _ 262145 large (c.in-Err-Parts.ensures.parts (ap Err c.in-Err-Parts.field-0-is))

pub returns-in-Ok-image_board-clause-words : goal.returns-in-Ok-image_board-clause-words
returns-in-Ok-image_board-clause-words g c =
    let board = c.in-Ok-image_board.board in
    let same : (cut_facts board).words ≡ c.in-Ok.words.items =
    ap (λ (f : Facts). f.words) c.in-Ok-image_board.ensures.board in
    let memory = subst (λ (m : List ℕ). IsMemory m) same (cut_is_board board).sized in
    subst (λ (m : List ℕ). AreAllWordsIn (g.R.Read.remaining c.args.reader.now) m) (sym same)
    (all_words _ 262145 c.in-Ok.words.items large c.in-Ok.ensures.words memory)

pub returns-in-Err-Size-clause-refused : goal.returns-in-Err-Size-clause-refused
returns-in-Err-Size-clause-refused g c =
    no_memory_is_no_image _ 262145 c.in-Ok.words.items large c.in-Ok.ensures.words
    (refused_rightly c.in-Ok.words.items c.image_board.result c.in-Err-Size.field-0 _ c.image_board.ensures.none
    c.in-Err-Size.is c.in-Err-Size.field-0-is)

pub returns-in-Err-Start-clause-refused : goal.returns-in-Err-Start-clause-refused
returns-in-Err-Start-clause-refused g c =
    let why = refused_rightly c.in-Ok.words.items c.image_board.result c.in-Err-Start.field-0 _
    c.image_board.ensures.none c.in-Err-Start.is c.in-Err-Start.field-0-is in
    all_hold_no_card _ 262145 c.in-Ok.words.items large c.in-Ok.ensures.fit c.in-Ok.ensures.words why.0 why.1
