-- What `Next` is to a call, with the block and the answer that go with it. No public contract names these.
use Rattle.std.specs.Prelude.{ℕ, List, []}
use Rattle.t1_link.specs.declared.reader_end.Next.{Next}
use Rattle.t1_link.specs.declared.reader_end.Next.TheVariants.{Send, Done, Unknown, Failed}
use Rattle.card_calls.specs.declared.outcome.CallOutcome.{CallOutcome}
use Rattle.card_calls.specs.declared.outcome.CallOutcome.TheVariants as outcome
use Rattle.card_calls.specs.ReaderCalls.{failure_outcome}

-- its outcome
abbrev pub next_outcome : Next → CallOutcome
next_outcome Send = outcome.Send
next_outcome Done = outcome.Done
next_outcome Unknown = outcome.Resynched
next_outcome (Failed failure) = failure_outcome failure

-- its bytes
abbrev pub next_bytes : Next → List ℕ → List ℕ → List ℕ
next_bytes Send block answer = block
next_bytes Done block answer = answer
next_bytes Unknown block answer = []
next_bytes (Failed failure) block answer = []
