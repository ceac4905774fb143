-- A block in which a whole command came: what the card makes of the command is what it makes of the block.
use Rattle.std.specs.Prelude.{◌≡◌, ◌⊎◌, ℕ, List, [], Option, Some, None, false, unwrap_or}
use Rattle.std.proofs.Common.{ap, inl, inr, refl, subst, sym, ◌∙◌}
use Rattle.nvm_board.specs.Facts.{Facts}
use Rattle.nvm_board.specs.laws.Aims.{aim_same}
use Rattle.undo_journal.specs.Spending.{KeepsBoard}
use Rattle.t1_link.specs.Blocks.{Block}
use Rattle.t1_link.specs.CardTable.{Link, Reaction, answers, reply_bytes, waiting_command, link_step, replies, runs}
use Rattle.command_base.specs.Comparing.{ComparesAsked}
use Rattle.card_start.specs.declared.state.CardState.TheVariants.{Working}
use Rattle.card_start.specs.Running.{CommandFails, CommandIsCut, Steps, card_found, memory_failure}
use Rattle.card_model.specs.CommandTable.{asked}
use Rattle.card_model.specs.Steps.{ChangesNothing, answer_bytes}
use Rattle.bench_turns.specs.CardBlocks.{BlockChangesNothing, BlockCompares, BlockCounts, BlockFails, BlockIsCut}
use Rattle.bench_turns.specs.CardBlocks.{IsRun, Powered, Replies, answering}
use Rattle.bench_turns.specs.CardBlocks.{card_by, machine, session_by}

-- a fact of the reaction that runs a command, where that command waits
pub of-run : (P : Reaction → Type 0) (reaction : Reaction) (bytes : List ℕ) → waiting_command reaction ≡ Some bytes
    → P (runs bytes) → P reaction
of-run P (replies block) bytes waits holds = absurd cc
of-run P (runs command) bytes waits holds =
    subst (λ (l : List ℕ). P (runs l)) (sym (ap (λ (o : Option (List ℕ)). unwrap_or o []) waits)) holds

-- a fact of the reaction that replies, where no command waits
pub of-reply : (P : Reaction → Type 0) (reaction : Reaction) → waiting_command reaction ≡ None
    → ((block : Block) → P (replies block)) → P reaction
of-reply P (replies block) none holds = holds block
of-reply P (runs command) none holds = absurd cc

pub kept-board : (f : Facts) → KeepsBoard f f
kept-board f = record { cut = aim_same f; words = refl; writes = refl; compares = refl; matches = refl }

-- a block without a command: the card's end replies by itself, and the card is unchanged
pub silent-replies : (p : Powered) (link : Link) (got out : List ℕ)
    → waiting_command (link_step p.link got).reaction ≡ None → p.card.state ≡ Working → p.card.facts.dark ≡ false
    → link ≡ (link_step p.link got).link → out ≡ reply_bytes (link_step p.link got).reaction
    → Replies p got (record { card = p.card; link = link }) out
silent-replies p link got out silent works lit links block =
    let now : Reaction = (link_step p.link got).reaction in
    let answer_to : List ℕ → List ℕ = λ command. answer_bytes (machine p command).response in
    record {
      power = record { was_lit = lit; lit = lit; faults = refl; cuts = refl; due = refl };
      state = works;
      card = of-reply (λ (r : Reaction). card_found p.card
          ≡ card_by (card_found p.card) r (λ command. (machine p command).card)) now silent (λ b. refl);
      session = of-reply (λ (r : Reaction). p.card.session
          ≡ session_by p.card.session r (λ command. (machine p command).session)) now silent (λ b. refl);
      link = of-reply (λ (r : Reaction). link ≡ (answering (link_step p.link got).link r answer_to).link) now silent
          (λ b. links);
      block = of-reply (λ (r : Reaction). out ≡ reply_bytes r
          → out ≡ reply_bytes (answering (link_step p.link got).link r answer_to).reaction) now silent
          (λ b same. same) block;
      counted = of-reply (λ (r : Reaction). BlockCounts p r (record { card = p.card; link = link })) now silent
          (λ b. tt);
      compares = of-reply (λ (r : Reaction). BlockCompares p r p.card.facts) now silent (λ b. refl);
      idle = λ nothing. kept-board p.card.facts;
    }

-- power was lost in the command
pub cut-at : (p new : Powered) (got bytes answer out : List ℕ)
    → waiting_command (link_step p.link got).reaction ≡ Some bytes
    → out ≡ reply_bytes (link_step p.link got).reaction → CommandIsCut p.card new.card answer → BlockIsCut p got new out
cut-at p new got bytes answer out waits block cut = record {
  power = cut.power;
  run = of-run IsRun (link_step p.link got).reaction bytes waits tt;
  state = cut.state;
  session = cut.session;
  block = block ∙ of-run (λ (r : Reaction). reply_bytes r ≡ []) (link_step p.link got).reaction bytes waits refl;
}

module _ (p new : Powered) (got bytes answer out : List ℕ) where
  module _ (waits : waiting_command (link_step p.link got).reaction ≡ Some bytes)
      (link : new.link ≡ (answers (link_step p.link got).link answer).link)
      (block : out ≡ reply_bytes (answers (link_step p.link got).link answer).reaction) where
    -- the link goes on with the answer to the command, which is that of the card
    linked : (answer_to : List ℕ → List ℕ) → answer ≡ answer_to bytes
        → new.link ≡ (answering (link_step p.link got).link (link_step p.link got).reaction answer_to).link
    linked answer_to is =
        of-run (λ (r : Reaction). new.link ≡ (answering (link_step p.link got).link r answer_to).link)
        (link_step p.link got).reaction bytes waits
        (link ∙ ap (λ (l : List ℕ). (answers (link_step p.link got).link l).link) is)

    blocked : (answer_to : List ℕ → List ℕ) → answer ≡ answer_to bytes
        → out ≡ reply_bytes (answering (link_step p.link got).link (link_step p.link got).reaction answer_to).reaction
    blocked answer_to is =
        of-run (λ (r : Reaction). out ≡ reply_bytes (answering (link_step p.link got).link r answer_to).reaction)
        (link_step p.link got).reaction
        bytes waits (block ∙ ap (λ (l : List ℕ). reply_bytes (answers (link_step p.link got).link l).reaction) is)

    steps-replies : Steps p.card bytes new.card answer
        → ComparesAsked (asked bytes) (card_found p.card) p.card.facts (card_found new.card) new.card.facts
        → (ChangesNothing (card_found p.card) p.card.session bytes → KeepsBoard p.card.facts new.card.facts)
        → Replies p got new out
    steps-replies steps compares idle = record {
      power = steps.power;
      state = steps.state;
      card = of-run (λ (r : Reaction). card_found new.card ≡ card_by (card_found p.card) r
          (λ command. (machine p command).card)) (link_step p.link got).reaction bytes waits steps.card;
      session = of-run (λ (r : Reaction). new.card.session ≡ session_by p.card.session r
          (λ command. (machine p command).session)) (link_step p.link got).reaction bytes waits steps.session;
      link = linked (λ command. answer_bytes (machine p command).response) steps.answered;
      block = blocked (λ command. answer_bytes (machine p command).response) steps.answered;
      counted = of-run (λ (r : Reaction). BlockCounts p r new) (link_step p.link got).reaction
          bytes waits steps.counted;
      compares = of-run (λ (r : Reaction). BlockCompares p r new.card.facts) (link_step p.link got).reaction
          bytes waits compares;
      idle = of-run (λ (r : Reaction). BlockChangesNothing p r → KeepsBoard p.card.facts new.card.facts)
          (link_step p.link got).reaction bytes waits idle;
    }

    fails-at : CommandFails p.card new.card answer → BlockFails p got new out
    fails-at fails = record {
      power = fails.power;
      run = of-run IsRun (link_step p.link got).reaction bytes waits tt;
      session = fails.session;
      reply = record {
        state = fails.state;
        link = linked (λ command. memory_failure) fails.answered;
        block = blocked (λ command. memory_failure) fails.answered;
      };
    }

    pub run-replies : Steps p.card bytes new.card answer ⊎ CommandFails p.card new.card answer
        → ComparesAsked (asked bytes) (card_found p.card) p.card.facts (card_found new.card) new.card.facts
        → (ChangesNothing (card_found p.card) p.card.session bytes → KeepsBoard p.card.facts new.card.facts)
        → Replies p got new out ⊎ BlockFails p got new out
    run-replies (inl steps) compares idle = inl (steps-replies steps compares idle)
    run-replies (inr fails) compares idle = inr (fails-at fails)
