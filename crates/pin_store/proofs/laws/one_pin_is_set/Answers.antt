use Rattle.pin_store.specs.laws.AllPins.{marks_set, pages_set, pins_set}
use Rattle.pin_store.proofs.laws.one_pin_is_set.Goals as goal

pub returns-clause-pins : goal.returns-clause-pins
returns-clause-pins c = pins_set

pub returns-clause-pages : goal.returns-clause-pages
returns-clause-pages c = pages_set

pub returns-clause-marks : goal.returns-clause-marks
returns-clause-marks c = marks_set
