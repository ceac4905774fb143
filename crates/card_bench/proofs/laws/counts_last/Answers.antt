use Rattle.card_bench.proofs.DarkLines.{dark-spends, dark-unsets}
use Rattle.bench_turns.proofs.Wearing.{block-due, due-spent, few-run, few-steps, not-mute, runs-last}
use Rattle.bench_turns.proofs.Wearing.{steps-new}
use Rattle.card_bench.proofs.LineWear.{script-lasts}
use Rattle.card_bench.specs.Prints.{IsUnfollowed}
use Rattle.card_bench.proofs.laws.counts_last.Goals as goal

pub returns-clause-starts : goal.returns-clause-starts
returns-clause-starts c = not-mute

pub returns-clause-due : goal.returns-clause-due
returns-clause-due c = due-spent

pub returns-clause-block : goal.returns-clause-block
returns-clause-block c = block-due

pub returns-clause-turns : goal.returns-clause-turns
returns-clause-turns c = λ n old new turns trace run.
    (few-run old new turns trace run, runs-last n old new turns trace run)

pub returns-clause-script : goal.returns-clause-script
returns-clause-script c = script-lasts IsUnfollowed IsUnfollowed

pub returns-clause-dark : goal.returns-clause-dark
returns-clause-dark c = dark-spends

pub returns-clause-cut : goal.returns-clause-cut
returns-clause-cut c = dark-unsets

pub returns-clause-steps : goal.returns-clause-steps
returns-clause-steps c = λ old t. (few-steps old t, steps-new old t)
