use Rattle.std.specs.Prelude.{IsErrOf}
use Rattle.nvm_board.specs.declared.board.DeviceErr.TheVariants.{Fault}
use Rattle.std.proofs.Common.{◌+◌, ◌-◌, refl, sym, rules, true≢false, arith}
use Rattle.nvm_board.specs.Facts.{address, IsLostRightly}
use Rattle.nvm_board.specs.laws.Torn.{Torn-none}
use Rattle.flash_board.specs.laws.Boards.{whole_torn}
use Rattle.flash_log.specs.laws.Beginning.{begins_later}
use Rattle.flash_log.specs.laws.Ending.{log_stands_more}
use Rattle.flash_log.specs.laws.TakingTurns.{takes_more, takes_none}
use Rattle.flash_board.proofs.flash_board.FlashBoardBoard.write.Goals as goal

pub returns-then-self-clause-writes : goal.returns-then-self-clause-writes
unfolding IsLostRightly
returns-then-self-clause-writes g c = record {
  done = search rules;
  torn = Torn-none _ _ _;
  light = search rules;
  worn = search rules;
  cut = search rules;
  counted = search rules;
  counted_err = search rules;
  log = λ lit. refl;
  compares = search rules;
  matches = search rules;
}

pub returns-then-self-2-clause-writes : goal.returns-then-self-2-clause-writes
unfolding IsLostRightly
returns-then-self-2-clause-writes g c = record {
  done = search rules;
  torn = Torn-none _ _ _;
  light = search rules;
  worn = search rules;
  cut = search rules;
  counted = search rules;
  counted_err = search rules;
  log = λ lit. refl;
  compares = search rules;
  matches = search rules;
}

pub returns-then-self-3-clause-writes : goal.returns-then-self-3-clause-writes
unfolding IsLostRightly
returns-then-self-3-clause-writes g c = record {
  done = search rules;
  torn =
      whole_torn c.args.self.now.log.flash.words c.args.words.now c.write-ended.new.self.flash.words
      (address c.args.page c.args.first)
      c.write-ended.ensures.whole;
  light = search rules;
  worn = search rules;
  cut = search rules;
  counted = search rules;
  counted_err = search rules;
  log = λ lit. refl;
  compares = search rules;
  matches = search rules;
}

pub returns-in-Ok-clause-writes : goal.returns-in-Ok-clause-writes
unfolding IsLostRightly
returns-in-Ok-clause-writes g c = record {
  done = search rules;
  torn =
      whole_torn c.args.self.now.log.flash.words c.args.words.now c.write-ended.new.self.flash.words
      (address c.args.page c.args.first)
      c.write-ended.ensures.whole;
  light = search rules;
  worn = search rules;
  cut = search rules;
  counted = search rules;
  counted_err = search rules;
  log = λ lit. refl;
  compares = search rules;
  matches = search rules;
}

pub returns-in-Err-PowerLost-clause-writes : goal.returns-in-Err-PowerLost-clause-writes
unfolding IsLostRightly
returns-in-Err-PowerLost-clause-writes g c = record {
  done = search rules;
  torn =
      whole_torn c.args.self.now.log.flash.words c.args.words.now c.write-ended.new.self.flash.words
      (address c.args.page c.args.first)
      c.write-ended.ensures.whole;
  light = search rules;
  worn = search rules;
  cut = search rules;
  counted = search rules;
  counted_err = search rules;
  log = λ lit. refl;
  compares = search rules;
  matches = search rules;
}

pub returns-else-self-3-clause-writes : goal.returns-else-self-3-clause-writes
unfolding IsLostRightly
returns-else-self-3-clause-writes g c = record {
  done = search rules;
  torn =
      whole_torn c.args.self.now.log.flash.words c.args.words.now c.write-ended.new.self.flash.words
      (address c.args.page c.args.first)
      c.write-ended.ensures.whole;
  light = search rules;
  worn = search rules;
  cut = search rules;
  counted = search rules;
  counted_err = search rules;
  log = λ lit. refl;
  compares = search rules;
  matches = search rules;
}

pub returns-then-self-clause-pause : goal.returns-then-self-clause-pause
returns-then-self-clause-pause g c = λ extra roomy. record {
  short = λ pace. record { work = record { operations = omega arith }; erases = omega arith };
  stays = λ pace ok. absurd (true≢false (sym ok));
  long = λ same ok. absurd (true≢false (sym ok));
}

pub returns-then-self-2-clause-pause : goal.returns-then-self-2-clause-pause
returns-then-self-2-clause-pause g c = λ extra roomy. record {
  short = λ pace. record { work = record { operations = omega arith }; erases = omega arith };
  stays = λ pace ok. absurd (true≢false (sym ok));
  long = λ same ok. absurd (true≢false (sym ok));
}

pub returns-then-self-3-clause-pause : goal.returns-then-self-3-clause-pause
returns-then-self-3-clause-pause g c = λ extra roomy. record {
  short = (c.write-ended.ensures.pause extra roomy).short;
  stays = λ pace ok. absurd (true≢false (sym ok));
  long = λ same ok. absurd (true≢false (sym ok));
}

pub returns-in-Err-PowerLost-clause-pause : goal.returns-in-Err-PowerLost-clause-pause
returns-in-Err-PowerLost-clause-pause g c = λ extra roomy. record {
  short = (c.write-ended.ensures.pause extra roomy).short;
  stays = λ pace ok. absurd (true≢false (sym ok));
  long = λ same ok. absurd (true≢false (sym ok));
}

pub returns-else-self-3-clause-pause : goal.returns-else-self-3-clause-pause
returns-else-self-3-clause-pause g c = λ extra roomy. record {
  short = (c.write-ended.ensures.pause extra roomy).short;
  stays = λ pace ok. absurd (true≢false (sym ok));
  long = λ same ok. absurd (true≢false (sym ok));
}

pub returns-in-Ok-clause-pause : goal.returns-in-Ok-clause-pause
returns-in-Ok-clause-pause g c = λ extra roomy. c.in-Ok.ensures.pause extra roomy

pub returns-then-self-clause-calm : goal.returns-then-self-clause-calm
returns-then-self-clause-calm g c = λ far same. record {
  operations = omega arith;
  fewer = λ pace. omega arith;
  erases = refl;
  slots = λ ok. absurd (true≢false (sym ok));
}

pub returns-then-self-2-clause-calm : goal.returns-then-self-2-clause-calm
returns-then-self-2-clause-calm g c = λ far same. record {
  operations = omega arith;
  fewer = λ pace. omega arith;
  erases = refl;
  slots = λ ok. absurd (true≢false (sym ok));
}

pub returns-then-self-3-clause-calm : goal.returns-then-self-3-clause-calm
returns-then-self-3-clause-calm g c = λ far same.
    let calm = c.write-ended.ensures.calm far same in record {
      operations = calm.operations;
      fewer = calm.fewer;
      erases = calm.erases;
      slots = λ ok. absurd (true≢false (sym ok));
    }

pub returns-in-Err-PowerLost-clause-calm : goal.returns-in-Err-PowerLost-clause-calm
returns-in-Err-PowerLost-clause-calm g c = λ far same.
    let calm = c.write-ended.ensures.calm far same in record {
      operations = calm.operations;
      fewer = calm.fewer;
      erases = calm.erases;
      slots = λ ok. absurd (true≢false (sym ok));
    }

pub returns-else-self-3-clause-calm : goal.returns-else-self-3-clause-calm
returns-else-self-3-clause-calm g c = λ far same.
    let calm = c.write-ended.ensures.calm far same in record {
      operations = calm.operations;
      fewer = calm.fewer;
      erases = calm.erases;
      slots = λ ok. absurd (true≢false (sym ok));
    }

pub returns-in-Ok-clause-calm : goal.returns-in-Ok-clause-calm
returns-in-Ok-clause-calm g c = λ far same. c.in-Ok.ensures.calm far same

pub returns-then-self-clause-stands : goal.returns-then-self-clause-stands
returns-then-self-clause-stands g c = λ extra roomy.
    log_stands_more g.F.Flash.PAGES g.F.Flash.SLOTS g.F.Flash.SECTORS g.F.Flash.sector_start extra _ c.args.self.now.log
    (omega arith)

pub returns-then-self-2-clause-stands : goal.returns-then-self-2-clause-stands
returns-then-self-2-clause-stands g c = λ extra roomy.
    log_stands_more g.F.Flash.PAGES g.F.Flash.SLOTS g.F.Flash.SECTORS g.F.Flash.sector_start extra _ c.args.self.now.log
    (omega arith)

pub returns-then-self-clause-work : goal.returns-then-self-clause-work
returns-then-self-clause-work g c = record { operations = omega arith }

pub returns-then-self-2-clause-work : goal.returns-then-self-2-clause-work
returns-then-self-2-clause-work g c = record { operations = omega arith }

pub returns-then-self-clause-slots : goal.returns-then-self-clause-slots
returns-then-self-clause-slots g c = λ n far takes.
    takes_more g.F.Flash.SLOTS n 0 _ _ _ (omega arith) (takes_none g.F.Flash.SLOTS n c.args.self.now.log takes)

pub returns-then-self-2-clause-slots : goal.returns-then-self-2-clause-slots
returns-then-self-2-clause-slots g c = λ n far takes.
    takes_more g.F.Flash.SLOTS n 0 _ _ _ (omega arith) (takes_none g.F.Flash.SLOTS n c.args.self.now.log takes)

pub returns-else-self-3-clause-keeps_trying : goal.returns-else-self-3-clause-keeps_trying
returns-else-self-3-clause-keeps_trying g c = λ failed n far takes.
    let is : IsErrOf c.write-ended.result Fault = search rules in
    ((c.write-ended.ensures.keeps_trying n far takes).fault is).1

pub returns-else-self-3-clause-gives_up : goal.returns-else-self-3-clause-gives_up
returns-else-self-3-clause-gives_up g c = λ failed.
    let is : IsErrOf c.write-ended.result Fault = search rules in
    c.write-ended.ensures.gives_up is

pub returns-then-self-clause-begins : goal.returns-then-self-clause-begins
returns-then-self-clause-begins g c = λ extra n roomy stands stays begins.
    let faults = c.args.self.now.log.flash.faults in
    begins_later g.F.Flash.SLOTS c.args.self.now.log n (n + 1 + (faults - faults)) (omega arith) begins

pub returns-then-self-2-clause-begins : goal.returns-then-self-2-clause-begins
returns-then-self-2-clause-begins g c = λ extra n roomy stands stays begins.
    let faults = c.args.self.now.log.flash.faults in
    begins_later g.F.Flash.SLOTS c.args.self.now.log n (n + 1 + (faults - faults)) (omega arith) begins

pub returns-else-self-3-clause-passes : goal.returns-else-self-3-clause-passes
returns-else-self-3-clause-passes g c = λ failed.
    let is : IsErrOf c.write-ended.result Fault = search rules in
    c.write-ended.ensures.passes is

pub returns-else-self-3-clause-keeps_on : goal.returns-else-self-3-clause-keeps_on
returns-else-self-3-clause-keeps_on g c = λ failed.
    let is : IsErrOf c.write-ended.result Fault = search rules in
    c.write-ended.ensures.keeps_on is
