-- How the steps of both ends of the link follow their tables. No public contract names these.
use Rattle.std.specs.Prelude.{◌≡◌, ℕ, List}
use Rattle.t1_link.specs.declared.card_end.Action.{Action}
use Rattle.t1_link.specs.declared.card_end.Action.TheVariants.{Reply}
use Rattle.t1_link.specs.declared.reader_end.Next.{Next}
use Rattle.t1_link.specs.Blocks.{Block, frame}
use Rattle.t1_link.specs.CardTable.{CardLink, Taken, action_of, after, reply_bytes}
use Rattle.t1_link.specs.ReaderTable.{CommandReport, Reader, Turned}
use Rattle.t1_link.specs.ReaderFields.{left_in, next_of}

-- the card's end follows its table: its state, the action it returns, and the contents of the block buffer
pub record TakesByTable (taken : Taken) (link : CardLink) (told : Action) (held : List ℕ) : Type 0 where
  pub state : link ≡ after taken
  pub action : told ≡ action_of taken.reaction
  pub block : held ≡ reply_bytes taken.reaction

-- the card's end stays unchanged and replies with this block
pub record RepliesUnchanged (reply : Block) (told : Action) (held : List ℕ) : Type 0 where
  pub action : told ≡ Reply
  pub block : held ≡ frame reply

-- the reader's end follows its table: the step it returns, and the block buffer, rewritten or unchanged
pub record Says (outcome : CommandReport) (told : Next) (before held : List ℕ) : Type 0 where
  pub next : told ≡ next_of outcome
  pub out : held ≡ left_in outcome before

-- the reader's end follows its table: its state, the step it returns, and the block buffer
pub record Turns (turned : Turned) (reader : Reader) (told : Next) (before held : List ℕ) : Type 0 where
  pub state : reader ≡ turned.reader
  pub next : told ≡ next_of turned.outcome
  pub out : held ≡ left_in turned.outcome before
