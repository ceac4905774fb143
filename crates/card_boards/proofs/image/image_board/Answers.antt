use Rattle.std.proofs.Common.{◌∙◌}
use Rattle.card_boards.proofs.NewBoards.{board_is_memory, refused_rightly}
use Rattle.card_boards.proofs.image.image_board.Goals as goal

pub returns-in-Err-clause-none : goal.returns-in-Err-clause-none
returns-in-Err-clause-none c =
    refused_rightly c.args.words.items c.in-Ok.copy c.in-Err.field-0-0
    (c.in-Ok.ensures.facts ∙ c.in-Some.ensures.board) c.in-Err.ensures.writes_err c.in-Err.fault
    c.in-Err.ensures.stopped

pub returns-in_default-copy-clause-none : goal.returns-in_default-copy-clause-none
returns-in_default-copy-clause-none c = board_is_memory c.args.words.items c.in-Some.board c.in-Some.ensures.board
