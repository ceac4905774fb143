use Rattle.std.proofs.Common.{rules}
use Rattle.t1_link.proofs.reader_end.ReaderEnd.take_receive_ready.Goals as goal

pub returns-else-has_more : goal.returns-else-has_more
returns-else-has_more c = record { state = search rules; next = search rules; out = search rules }
