use Rattle.card_files.proofs.Refused.{hands_fault}
use Rattle.card_files.proofs.opening.read_card.Goals as goal

pub returns-in_err-lock-clause-refused : goal.returns-in_err-lock-clause-refused
returns-in_err-lock-clause-refused c =
    hands_fault _ c.args.options.now _ c.from_residual.ensures.1 (c.in_err-lock.ensures c.args.options.now)

pub returns-in_err-size-clause-refused : goal.returns-in_err-size-clause-refused
returns-in_err-size-clause-refused c =
    hands_fault _ c.args.options.now _ c.from_residual-in_err-size.ensures.1
    (c.in_err-size.ensures c.args.options.now)
