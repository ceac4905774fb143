use Rattle.command_base.specs.laws.SpendLaws.{few_writes}
use Rattle.command_base.specs.laws.TouchLaws as touching
use Rattle.ef_contents.specs.laws.Updates.{touched_most}
use Rattle.card_core.proofs.laws.commands_write_little.Goals as goal

pub returns-clause-most : goal.returns-clause-most
returns-clause-most c = few_writes

pub returns-clause-words : goal.returns-clause-words
returns-clause-words c = touching.few_words

pub returns-clause-updates : goal.returns-clause-updates
returns-clause-updates c = touched_most
