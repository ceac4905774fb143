use Rattle.std.proofs.Common.{arith}
use Rattle.pin_store.proofs.putting.set_renewed.Goals as goal

pub set_value-requires : goal.set_value-requires
set_value-requires g c = record {
  ready = c.requires.ready;
  enough = omega (arith, c.requires.enough);
}

pub set_all-requires : goal.set_all-requires
set_all-requires g c = record {
  ready = c.requires.ready;
  enough = omega (arith, c.requires.enough);
}

pub set_mark-requires : goal.set_mark-requires
set_mark-requires g c = record {
  ready = c.requires.ready;
  enough = omega (arith, c.requires.enough);
}
