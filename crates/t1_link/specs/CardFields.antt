-- The state of a `CardEnd` as the card's table describes it.
use Rattle.std.specs.Prelude.{◌≤◌, [], length, Some, None, if◌then◌else◌}
use Rattle.t1_link.specs.CardTable.{CardLink}
use Rattle.t1_link.specs.declared.card_end.CardEnd.TheInside.{Inside}

abbrev pub card_link : Inside → CardLink
card_link c = record {
  link = record {
    ns = c.answer.number;
    nr = c.expected;
    ifsd = c.ifsd;
    sent = if c.has_sent then Some c.answer.field else None;
    rest = c.answer.rest;
    held = if c.waits then [] else c.command.items;
  };
  waiting = if c.waits then Some c.command.items else None;
}

-- every I-block fits into a block
pub record IsFitting (c : Inside) : Type 0 where
  pub some : 1 ≤ c.ifsd
  pub size : c.ifsd ≤ 254
  pub field : length c.answer.field ≤ 254
