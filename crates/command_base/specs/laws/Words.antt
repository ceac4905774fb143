-- Which card stands by the word that was written, from what a call tells of the gate.
use Rattle.std.proofs.Common.{◌≡◌, ◌⊎◌, ℕ, zero, suc, List, [], ◌∷◌, ◌++◌, Contains, Option, None, Some, refl, sym, ◌∙◌}
use Rattle.std.proofs.Common.{ap, subst, arith, inl, inr, ⊎_elim}
use Rattle.undo_journal.specs.StoreCalls.{OnlyReads}
use Rattle.undo_journal.specs.Commits.{CommitsByGate, TurnsGate, TurnsTo}
use Rattle.undo_journal.specs.Memory.{Memory, committed}
use Rattle.undo_journal.specs.Spending.{Advances, WritesAtMost}
use Rattle.undo_journal.specs.Undo.{gate}
use Rattle.undo_journal.specs.laws.Calls.{advances_by, advances_kept, spends_after}
use Rattle.card_model.specs.Requests.{Request}
use Rattle.command_base.specs.declared.current.Current.{Current}
use Rattle.card_model.specs.Cards.{Card}
use Rattle.card_model.specs.Steps.{attempt_of, IsDoing, commits, commits_unless, refusals_of, commits_alone}
use Rattle.card_model.specs.Steps.{commits_gated, commits_served, last_of}
use Rattle.command_base.specs.Finding.{found}
use Rattle.card_model.specs.Behaviours.{refused_by, Attempt}
use Rattle.card_model.specs.Sessions.{Session}
use Rattle.command_base.specs.Standing.{card_of, IsCard}
use Rattle.command_base.specs.CommitWords.{StandsByWord, StandsServed, TurnsServed}
use Rattle.command_base.specs.Working.{card_in, session_in}

-- the last of some cards is one of them
last-in : (c : Card) (cards : List Card) → Contains (c ∷ cards) (last_of c cards)
last-in c [] = (0, omega arith, refl)
last-in c (d ∷ cards) = let there = last-in d cards in (suc there.0, (let far = there.1 in omega (arith, far)), there.2)

-- a card among others is one of the first, or of the rest
among : (c : Card) (alone gated : List Card) (d : Card) → Contains (c ∷ (alone ++ gated)) d
    → Contains (c ∷ alone) d ⊎ Contains gated d
among c [] gated d (zero, near, is) = inl (0, omega arith, is)
among c [] gated d (suc k, near, is) = inr (k, omega (arith, near), is)
among c (e ∷ alone) gated d (zero, near, is) = inl (0, omega arith, is)
among c (e ∷ alone) gated d (suc k, near, is) =
    ⊎_elim (λ first. inl (suc first.0, (let far = first.1 in omega (arith, far)), first.2)) (λ rest. inr rest)
    (among e alone gated d (k, omega (arith, near), is))

-- where no pair counts, and the card is one that words of its own committed
pub stands-alone : (c : Card) (alone gated : List Card) (m : List ℕ) → gate m ≡ 0 → Contains (c ∷ alone) (found m)
    → StandsByWord c alone gated m
stands-alone c alone gated m shut card =
    record { undone = λ some. absurd (omega (arith, some, shut)); shut = λ _. inl card }

-- the card is the one before the command
pub stands-first : (c : Card) (alone gated : List Card) (m : List ℕ) → gate m ≡ 0 → found m ≡ c
    → StandsByWord c alone gated m
stands-first c alone gated m shut same = stands-alone c alone gated m shut (0, omega arith, sym same)

-- what the gate alone may have committed, over the words `before`
pub stands-gated : (c : Card) (alone gated : List Card) (before : List ℕ) (new : Memory) → IsCard before
    → card_of before ≡ last_of c alone → (committed new ≡ before) ⊎ TurnsGate before new
    → Contains (c ∷ (alone ++ gated)) (card_in new) → StandsByWord c alone gated new.facts.words
stands-gated c alone gated before new stood is (inl same) card =
    let last : card_in new ≡ last_of c alone = ap card_of same ∙ is in
    record {
      undone = λ _. last;
      shut = λ _. inl (subst (λ (d : Card). Contains (c ∷ alone) d) (sym last) (last-in c alone));
    }
stands-gated c alone gated before new stood is (inr turned) card = record {
  undone = λ some. absurd (omega (arith, some, turned.shut));
  shut = λ _. ⊎_elim (λ first. inl first)
      (λ rest. inr (record {
        card = rest;
        pairs = turned.pairs;
        former = record {
          has_card = record { journal = turned.sound; words = inl (subst IsCard (sym turned.former) stood) };
          card = ap card_of turned.former ∙ is;
        };
      }))
      (among c alone gated (card_in new) card);
}

-- the card after the one commit of a request is the last one
pub is-last : (c : Card) (s : Session) (request : Request) (after d : Card)
    → refused_by (refusals_of c s request) ≡ None → commits c s request ≡ after ∷ [] → d ≡ after
    → d ≡ last_of c (commits_served c s request)
is-last c s request after d none is done = done ∙ sym (λ i. last_of c (commits_unless (none i) (is i)))

module _ (request : Request) (old : Memory) (x : Current) (new : Memory) where
  abbrev c : Card
  c = card_in old

  abbrev s : Session
  s = session_in old x

  -- what a call that carries out a request did to the board's writes, and which card stands by the word
  abbrev pub Went : Type 0
  Went = Advances old.facts new.facts × (gate old.facts.words ≡ 0 → StandsServed c s request new.facts.words)
      × TurnsServed c s request old.facts new.facts

  -- it only read
  pub went-reads : OnlyReads old new → Went
  went-reads reads = (
    advances_kept old.facts new.facts reads.board,
    λ shut. stands-first c _ _ new.facts.words (ap gate reads.board.words ∙ shut)
        (ap card_of reads.keeps.committed_words),
    λ shut more. absurd (omega (arith, reads.board.writes, more)),
  )

  -- a request with one commit, once its gate has turned
  pub turns-one : (d : Card) (becomes : List ℕ → Type 0) (mid : Memory)
      → refused_by (refusals_of c s request) ≡ None → commits c s request ≡ d ∷ [] → OnlyReads old mid
      → TurnsTo becomes mid new → (becomes (committed new) → card_in new ≡ d)
      → TurnsServed c s request old.facts new.facts
  turns-one d becomes mid none is reads turned card = λ shut more.
      is-last c s request d (card_in new) none is (card (turned shut (omega (arith, reads.board.writes, more))))

  -- the lists of a request that isn't refused and shows no secret
  unshown : (shown : Option Attempt) (verdict : Option _) → verdict ≡ None → shown ≡ None
      → StandsByWord c [] (commits c s request) new.facts.words
      → StandsByWord c (commits_unless verdict (commits_alone c shown))
      (commits_unless verdict (commits_gated c shown (commits c s request))) new.facts.words
  unshown None None none is stands = stands
  unshown None (Some status) none is stands = absurd cc
  unshown (Some a) None none is stands = absurd cc
  unshown (Some a) (Some status) none is stands = absurd cc

  -- it committed by the gate, if at all
  pub went-gated : attempt_of request ≡ None → OnlyReads old new ⊎ IsDoing c s request (card_in new)
      → (before : List ℕ) → IsCard before → card_of before ≡ c → (committed new ≡ before) ⊎ TurnsGate before new
      → Advances old.facts new.facts → TurnsServed c s request old.facts new.facts → Went
  went-gated none (inl reads) before stood is exit advances turns = went-reads reads
  went-gated none (inr doing) before stood is exit advances turns = (
    advances,
    λ shut. unshown (attempt_of request) (refused_by (refusals_of c s request)) doing.unrefused none
        (stands-gated c [] (commits c s request) before new stood is exit doing.card),
    turns,
  )

  -- after reads
  pub went-after : (n : ℕ) (mid : Memory) → IsCard (committed old) → attempt_of request ≡ None
      → OnlyReads old new ⊎ IsDoing c s request (card_in new) → OnlyReads old mid → WritesAtMost n mid.facts new.facts
      → CommitsByGate mid new → TurnsServed c s request old.facts new.facts → Went
  went-after n mid card none stage reads spends exit turns =
      went-gated none stage (committed mid)
      (subst IsCard (sym reads.keeps.committed_words) card) (ap card_of reads.keeps.committed_words) exit
      (advances_by n old.facts new.facts (spends_after n old.facts mid.facts new.facts reads.board spends)) turns
