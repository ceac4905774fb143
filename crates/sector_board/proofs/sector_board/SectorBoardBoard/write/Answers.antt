use Rattle.std.specs.Prelude.{IsErrOf}
use Rattle.std.proofs.Common.{refl, rules}
use Rattle.nvm_board.specs.Facts.{address, IsLostRightly}
use Rattle.nvm_board.specs.laws.Torn.{Torn-none}
use Rattle.nvm_board.specs.declared.board.DeviceErr.TheVariants.{Fault}
use Rattle.flash_board.specs.laws.Boards.{whole_torn}
use Rattle.sector_board.proofs.sector_board.SectorBoardBoard.write.Goals as goal

pub returns-then-self-clause-writes : goal.returns-then-self-clause-writes
unfolding IsLostRightly
returns-then-self-clause-writes g c = record {
  done = search rules;
  torn = Torn-none _ _ _;
  light = search rules;
  worn = search rules;
  cut = search rules;
  counted = search rules;
  counted_err = search rules;
  log = λ lit. refl;
  compares = search rules;
  matches = search rules;
}

pub returns-then-self-2-clause-writes : goal.returns-then-self-2-clause-writes
unfolding IsLostRightly
returns-then-self-2-clause-writes g c = record {
  done = search rules;
  torn = Torn-none _ _ _;
  light = search rules;
  worn = search rules;
  cut = search rules;
  counted = search rules;
  counted_err = search rules;
  log = λ lit. refl;
  compares = search rules;
  matches = search rules;
}

pub returns-then-self-3-clause-writes : goal.returns-then-self-3-clause-writes
unfolding IsLostRightly
returns-then-self-3-clause-writes g c = record {
  done = search rules;
  torn =
      whole_torn c.args.self.now.log.flash.words c.args.words.now c.write-ended.new.self.flash.words
      (address c.args.page c.args.first)
      c.write-ended.ensures.whole;
  light = search rules;
  worn = search rules;
  cut = search rules;
  counted = search rules;
  counted_err = search rules;
  log = λ lit. refl;
  compares = search rules;
  matches = search rules;
}

pub returns-in-Ok-clause-writes : goal.returns-in-Ok-clause-writes
unfolding IsLostRightly
returns-in-Ok-clause-writes g c = record {
  done = search rules;
  torn =
      whole_torn c.args.self.now.log.flash.words c.args.words.now c.write-ended.new.self.flash.words
      (address c.args.page c.args.first)
      c.write-ended.ensures.whole;
  light = search rules;
  worn = search rules;
  cut = search rules;
  counted = search rules;
  counted_err = search rules;
  log = λ lit. refl;
  compares = search rules;
  matches = search rules;
}

pub returns-in-Err-PowerLost-clause-writes : goal.returns-in-Err-PowerLost-clause-writes
unfolding IsLostRightly
returns-in-Err-PowerLost-clause-writes g c = record {
  done = search rules;
  torn =
      whole_torn c.args.self.now.log.flash.words c.args.words.now c.write-ended.new.self.flash.words
      (address c.args.page c.args.first)
      c.write-ended.ensures.whole;
  light = search rules;
  worn = search rules;
  cut = search rules;
  counted = search rules;
  counted_err = search rules;
  log = λ lit. refl;
  compares = search rules;
  matches = search rules;
}

pub returns-else-self-3-clause-writes : goal.returns-else-self-3-clause-writes
unfolding IsLostRightly
returns-else-self-3-clause-writes g c = record {
  done = search rules;
  torn =
      whole_torn c.args.self.now.log.flash.words c.args.words.now c.write-ended.new.self.flash.words
      (address c.args.page c.args.first)
      c.write-ended.ensures.whole;
  light = search rules;
  worn = search rules;
  cut = search rules;
  counted = search rules;
  counted_err = search rules;
  log = λ lit. refl;
  compares = search rules;
  matches = search rules;
}

pub returns-else-self-3-clause-keeps_trying : goal.returns-else-self-3-clause-keeps_trying
returns-else-self-3-clause-keeps_trying g c = λ k failed some room.
    let is : IsErrOf c.write-ended.result Fault = search rules in
    c.write-ended.ensures.keeps_trying k some room is
