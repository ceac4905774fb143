use Rattle.std.proofs.Common.{ap}
use Rattle.t1_link.specs.declared.reader_end.Phase.TheVariants.{Dead}
use Rattle.t1_link.specs.ReaderTable.{Reader}
use Rattle.t1_link.proofs.reader_end.ReaderEnd.fail.Goals as goal

pub returns-clause-state : goal.returns-clause-state
returns-clause-state c = ap (λ (r : Reader). record r { phase = Dead }) c.self.view_is
