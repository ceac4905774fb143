use Rattle.t1_link.specs.laws.CardRows.{sent_block-sending}
use Rattle.t1_link.specs.laws.ReaderRows.{last_block-advancing}
use Rattle.t1_link.proofs.laws.last_block_again.Goals as goal

pub returns-clause-card : goal.returns-clause-card
returns-clause-card c = sent_block-sending

pub returns-clause-reader : goal.returns-clause-reader
returns-clause-reader c = last_block-advancing
