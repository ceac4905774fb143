use Rattle.std.proofs.Common.{◌≡◌, rules}
use Rattle.t1_link.specs.ReaderTable.{reader_step, turns_block}
use Rattle.t1_link.specs.laws.ReaderBusy.{agrees-block, agrees-resynch, agrees-step, answer-kept, send-in_hand}
use Rattle.t1_link.proofs.reader_end.ReaderEnd.got.Goals as goal

pub returns-then-self-gt0-clause-busy : goal.returns-then-self-gt0-clause-busy
returns-then-self-gt0-clause-busy c =
    send-in_hand _ _ _ c.take_resynch.ensures.next c.take_resynch.ensures.state
    (agrees-resynch c.args.self.now c.requires _)

pub returns-in-Ok-clause-busy : goal.returns-in-Ok-clause-busy
returns-in-Ok-clause-busy c =
    send-in_hand _ _ _ c.take_block.ensures.next c.take_block.ensures.state (agrees-block c.args.self.now c.requires _)

pub returns-then-self-gt0-clause-answer : goal.returns-then-self-gt0-clause-answer
returns-then-self-gt0-clause-answer c =
    let turned = reader_step c.args.self.now c.args.got.now in
    let state : c.take_resynch.new.self ≡ turned.reader = search rules in
    answer-kept turned c.take_resynch.new.self state (agrees-step c.args.self.now c.requires c.args.got.now)

pub returns-in-Ok-clause-answer : goal.returns-in-Ok-clause-answer
unfolding turns_block
returns-in-Ok-clause-answer c =
    let turned = reader_step c.args.self.now c.args.got.now in
    let state : c.take_block.new.self ≡ turned.reader = search rules in
    answer-kept turned c.take_block.new.self state (agrees-step c.args.self.now c.requires c.args.got.now)
