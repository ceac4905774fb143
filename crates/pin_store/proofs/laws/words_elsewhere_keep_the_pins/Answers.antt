use Rattle.pin_store.specs.laws.AllPins.{marks_kept, pages_kept, pins_kept}
use Rattle.pin_store.proofs.laws.words_elsewhere_keep_the_pins.Goals as goal

pub returns-clause-pins : goal.returns-clause-pins
returns-clause-pins c = pins_kept

pub returns-clause-pages : goal.returns-clause-pages
returns-clause-pages c = pages_kept

pub returns-clause-marks : goal.returns-clause-marks
returns-clause-marks c = marks_kept
