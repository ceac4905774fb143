-- From what a call leaves of the request that was asked for to what it leaves of the bytes of a command.
use Rattle.std.proofs.Common.{◌≡◌, ◌+◌, ◌≤◌, ◌==◌, ℕ, Bool, true, false, true≢false, List, [], length}
use Rattle.std.proofs.Common.{Option, Some, None}
use Rattle.std.proofs.Common.{Result, Ok, Err, IfOk, OnOk, if◌then◌else◌, sym, ◌∙◌, ap, subst, arith, inl, inr}
use Rattle.std.proofs.Common.{⊎_elim, refl}
use Rattle.std.specs.Result.{result_err}
use Rattle.card_model.specs.declared.status.Sw.{Sw}
use Rattle.card_model.specs.declared.status.TheConstants.Sw.{CONDITIONS_NOT_SATISFIED}
use Rattle.undo_journal.specs.declared.error.StoreErr.{StoreErr}
use Rattle.undo_journal.specs.StoreCalls.{OnlyReads}
use Rattle.undo_journal.specs.Undo.{gate}
use Rattle.undo_journal.specs.laws.Calls.{advances_kept, advances_then, reads_then}
use Rattle.undo_journal.specs.laws.Exits.{on_then}
use Rattle.undo_journal.specs.laws.Memory.{reports_then}
use Rattle.undo_journal.specs.Memory.{Memory, committed, IsReady}
use Rattle.undo_journal.specs.Spending.{KeepsBoard}
use Rattle.nvm_board.specs.Facts.{Facts, raised}
use Rattle.block_chain.specs.BlockWords.{word}
use Rattle.std.proofs.lemmas.Result.{on_ok_weaker}
use Rattle.file_tree.specs.Indexes.{KeepsPlaces}
use Rattle.file_tree.specs.Table.{table}
use Rattle.card_model.specs.CommandTable.{asked}
use Rattle.card_model.specs.Requests.{Request}
use Rattle.command_base.specs.declared.current.Current.{Current}
use Rattle.block_chain.specs.declared.layout.TheConstants.{HEADER_PAGE}
use Rattle.file_tree.specs.declared.layout.TheConstants.{STATE_WORD}
use Rattle.card_model.specs.Cards.{Card}
use Rattle.card_model.specs.Steps.{attempt_of, IsDoing, carried_out, outcome_of, served, step, alone_served}
use Rattle.card_model.specs.Steps.{commits_served, gated_served, last_of}
use Rattle.command_base.specs.Comparing.{ComparesAsked, ComparesBy}
use Rattle.command_base.specs.Counting.{CountsAnswered, CountsServed, CountsShown}
use Rattle.card_model.specs.Behaviours.{Attempt, is_right, refused, outcome}
use Rattle.command_base.specs.Served.{ExecutesBytes, Executes}
use Rattle.card_model.specs.Sessions.{Session}
use Rattle.command_base.specs.CommandWrites.{writes_asked}
use Rattle.command_base.specs.Standing.{IsCard, card_of}
use Rattle.command_base.specs.CommitWords.{StandsAsked, StandsByWord, StandsServed, TurnsAsked}
use Rattle.command_base.specs.Finding.{found}
use Rattle.command_base.specs.Working.{card_in, session_in, session_of, IsKept}
use Rattle.card_model.specs.laws.StageLaws.{doing_lasts, stage_doing, stage_first}
use Rattle.command_base.specs.laws.Readings.{kept_still}
use Rattle.command_base.specs.laws.CompareLaws.{compares-after}
use Rattle.command_base.specs.laws.Executes.{reads-compared, reads-nothing}
use Rattle.command_base.specs.laws.Words.{stands-first}

-- whether a card is in use, by its header
pub in-use-is : (m : List ℕ) → (card_of m).in_use ≡ (word m HEADER_PAGE STATE_WORD == 0)
unfolding card_of
in-use-is m = refl

-- what was counted after reads was counted with them
counts-after : (shown : Option Attempt) (c : Card) (a b d : Facts) → KeepsBoard a b → CountsShown shown c b d
    → CountsShown shown c a d
counts-after None c a b d keeps counts = tt
counts-after (Some attempt) c a b d keeps counts = record {
  compared = counts.compared ∙ ap (λ (l : List ℕ). raised l attempt.secret) keeps.compares;
  matched = counts.matched
      ∙ ap (λ (l : List ℕ). if is_right c attempt then raised l attempt.secret else l) keeps.matches;
  charged = let more = counts.charged in omega (arith, more, keeps.writes);
}

-- Reads before a call that carries out a request change nothing of what it leaves.
module _ (request : Request) (old mid new : Memory) (x y : Current) (text : List ℕ) (result : Result Sw StoreErr)
    (reads : OnlyReads old mid) where
  pub serves-after : Executes request mid x new y text result → Executes request old x new y text result
  serves-after serves =
      let same = reads.keeps.committed_words in
      record {
        step = subst (λ (l : List ℕ). IfOk result (λ status. served (card_of l) (session_of (table l) x) request
            ≡ outcome (card_in new) (session_in new y) text status)) same serves.step;
        room = serves.room;
        stage = ⊎_elim (λ more. inl (reads_then old mid new reads more))
            (λ doing. inr (subst (λ (l : List ℕ). IsDoing (card_of l) (session_of (table l) x) request (card_in new))
            same doing)) serves.stage;
        kept = serves.kept;
        card = serves.card;
        reports = reports_then old mid new reads.reports serves.reports;
        tells = serves.tells;
        writes = omega (arith, reads.board.writes, serves.writes);
        advances = advances_then old.facts mid.facts new.facts (advances_kept old.facts mid.facts reads.board)
            serves.advances;
        stands = λ shut. subst (λ (l : List ℕ). StandsServed (card_of l) (session_of (table l) x) request
            new.facts.words) same (serves.stands (ap gate reads.board.words ∙ shut));
        turned = λ shut more. subst (λ (l : List ℕ). found new.facts.words
            ≡ last_of (card_of l) (commits_served (card_of l) (session_of (table l) x) request)) same
            (serves.turned shut (omega (arith, reads.board.writes, more)));
        compares = compares-after request (card_in old) old.facts mid.facts (card_in new) new.facts reads.board
            (subst (λ (l : List ℕ). ComparesBy request (card_of l) mid.facts (card_in new) new.facts) same
            serves.compares);
        places = on_ok_weaker result (λ keeps stays. subst
            (λ (l : List ℕ). KeepsPlaces (table l) (table (committed new))) same (keeps stays)) serves.places;
        counted = subst (λ (l : List ℕ). OnOk result (CountsServed (card_of l) (session_of (table l) x) request
            old.facts new.facts)) same
            (on_then _ _ result (λ counts unrefused. counts-after (attempt_of request) (card_in mid) old.facts mid.facts
            new.facts reads.board (counts unrefused)) serves.counted);
      }

module _ (bytes : List ℕ) (old new : Memory) (x y : Current) (text : List ℕ) (result : Result Sw StoreErr) where
  abbrev c : Card
  c = card_in old

  abbrev s : Session
  s = session_in old x

  -- the step of a card in use
  step-in-use : (request : Request) → c.in_use ≡ true → step c s request ≡ served c s request
  unfolding step
  step-in-use request in_use =
      ap (λ (b : Bool). if b then served c s request else refused c s CONDITIONS_NOT_SATISFIED) in_use

  -- and of one whose use has ended
  pub step-ended : (request : Request) → c.in_use ≡ false → step c s request ≡ refused c s CONDITIONS_NOT_SATISFIED
  unfolding step
  step-ended request ended =
      ap (λ (b : Bool). if b then served c s request else refused c s CONDITIONS_NOT_SATISFIED) ended

  -- A call that carries out what was asked for, of a card in use, carries out the command.
  pub carried : (request : Request) → asked bytes ≡ Ok request → c.in_use ≡ true
      → Executes request old x new y text result → ExecutesBytes bytes old x new y text result
  carried request is in_use serves = record {
    step = by_result result serves.step;
    room = serves.room;
    stage = ⊎_elim (λ reads. stage_first c s bytes (card_in new) (ap card_of reads.keeps.committed_words))
        (λ doing. stage_doing c s bytes request is in_use (card_in new) doing) serves.stage;
    idle = λ nothing. ⊎_elim (λ reads. reads)
        (λ doing. absurd (doing_lasts c s bytes request is in_use (card_in new) doing nothing)) serves.stage;
    kept = serves.kept;
    card = serves.card;
    reports = serves.reports;
    tells = serves.tells;
    writes = subst (λ (wanted : Result Request Sw). new.facts.writes ≤ old.facts.writes + writes_asked wanted) (sym is)
        serves.writes;
    advances = serves.advances;
    stands = λ shut. subst (λ (wanted : Result Request Sw). StandsAsked c s wanted new.facts.words) (sym is)
        (subst (λ (b : Bool). StandsByWord c (if b then alone_served c s request else [])
        (if b then gated_served c s request else []) new.facts.words) (sym in_use) (serves.stands shut));
    turned = subst (λ (wanted : Result Request Sw). TurnsAsked c s wanted old.facts new.facts) (sym is)
        (λ shut more. subst (λ (b : Bool). found new.facts.words
        ≡ last_of c (if b then commits_served c s request else [])) (sym in_use)
        (serves.turned shut more));
    compares = subst (λ (wanted : Result Request Sw). ComparesAsked wanted c old.facts (card_in new) new.facts) (sym is)
        serves.compares;
    counted = subst (λ (wanted : Result Request Sw). OnOk result (CountsAnswered wanted c s old.facts new.facts))
        (sym is) (on_then _ _ result (λ counts _. counts) serves.counted);
  }
    where
      by_result : (r : Result Sw StoreErr)
          → IfOk r (λ status. served c s request ≡ outcome (card_in new) (session_in new y) text status)
          → IfOk r (λ status. carried_out c s bytes ≡ outcome (card_in new) (session_in new y) text status)
      by_result (Ok status) done =
          ap (λ (wanted : Result Request Sw). outcome_of c s wanted) is ∙ step-in-use request in_use ∙ done
      by_result (Err e) done = tt

  -- after reads alone, whatever was asked for, the card before the command stands
  asked-first : (wanted : Result Request Sw) → gate new.facts.words ≡ 0 → card_in new ≡ c
      → StandsAsked c s wanted new.facts.words
  asked-first (Ok request) shut same = stands-first c _ _ new.facts.words shut same
  asked-first (Err status) shut same = stands-first c [] [] new.facts.words shut same

  -- after reads alone, whatever was asked for, no gate has turned
  asked-unturned : (wanted : Result Request Sw) → new.facts.writes ≡ old.facts.writes
      → TurnsAsked c s wanted old.facts new.facts
  asked-unturned (Ok request) same = λ shut more. absurd (omega (arith, same, more))
  asked-unturned (Err status) same = tt

  -- after reads alone, whatever was asked for, nothing was compared
  asked-nothing : (wanted : Result Request Sw) → OnlyReads old new
      → ComparesAsked wanted c old.facts (card_in new) new.facts
  asked-nothing (Ok request) reads = reads-nothing request old x new reads
  asked-nothing (Err status) reads = reads-compared old new reads

  -- A call that only read carries out the command, if its answer is the step's.
  looked : OnlyReads old new → IsCard (committed old)
      → IfOk result (λ status. carried_out c s bytes ≡ outcome (card_in new) (session_in new y) text status)
      → length text ≤ 256 → OnOk result (IsKept new y) → new.failed ≡ result_err result
      → OnOk result (CountsAnswered (asked bytes) c s old.facts new.facts)
      → ExecutesBytes bytes old x new y text result
  looked reads card is room kept tells counted = record {
    step = is;
    room = room;
    stage = stage_first c s bytes (card_in new) (ap card_of reads.keeps.committed_words);
    idle = λ nothing. reads;
    kept = kept;
    card = subst IsCard (sym reads.keeps.committed_words) card;
    reports = reads.reports;
    tells = tells;
    writes = omega (arith, reads.board.writes);
    advances = advances_kept old.facts new.facts reads.board;
    stands = λ shut. asked-first (asked bytes) (ap gate reads.board.words ∙ shut)
        (ap card_of reads.keeps.committed_words);
    turned = asked-unturned (asked bytes) reads.board.writes;
    compares = asked-nothing (asked bytes) reads;
    counted = counted;
  }

module _ (bytes : List ℕ) (old new : Memory) (x : Current) (kept : IsKept old x) where
  -- a refusal after reads
  turned-down : (status : Sw) → carried_out (card_in old) (session_in old x) bytes
      ≡ refused (card_in old) (session_in old x) status → OnlyReads old new → IsReady new
      → CountsAnswered (asked bytes) (card_in old) (session_in old x) old.facts new.facts
      → ExecutesBytes bytes old x new x [] (Ok status)
  turned-down status is reads ready counted =
      let same = sym reads.keeps.committed_words in
      looked bytes old new x x [] (Ok status) reads kept.card
      (is ∙ ap (λ (l : List ℕ). outcome (card_of l) (session_of (table l) x) [] status) same) (omega arith)
      (kept_still old new x reads ready kept) ready.usable.works counted

  -- the form of the command refuses it
  pub refused-by-form : (status : Sw) → asked bytes ≡ Err status → OnlyReads old new → IsReady new
      → ExecutesBytes bytes old x new x [] (Ok status)
  refused-by-form status is reads ready =
      turned-down status (ap (λ (wanted : Result Request Sw). outcome_of (card_in old) (session_in old x) wanted) is)
      reads ready (subst (λ (wanted : Result Request Sw). CountsAnswered wanted (card_in old) (session_in old x)
      old.facts new.facts) (sym is) tt)

  -- the use of the card has ended
  pub use-ended : (request : Request) → asked bytes ≡ Ok request → (card_in old).in_use ≡ false → OnlyReads old new
      → IsReady new → ExecutesBytes bytes old x new x [] (Ok CONDITIONS_NOT_SATISFIED)
  use-ended request is ended reads ready =
      turned-down CONDITIONS_NOT_SATISFIED
      (ap (λ (wanted : Result Request Sw). outcome_of (card_in old) (session_in old x) wanted) is
      ∙ step-ended bytes old new x x [] (Ok CONDITIONS_NOT_SATISFIED) request ended) reads ready
      (subst (λ (wanted : Result Request Sw). CountsAnswered wanted (card_in old) (session_in old x) old.facts
      new.facts) (sym is) (λ in_use. absurd (true≢false (sym in_use ∙ ended))))

  -- the store failed in a read
  pub failed-reading : (y : Current) (e : StoreErr) → OnlyReads old new → new.failed ≡ Some e
      → ExecutesBytes bytes old x new y [] (Err e)
  failed-reading y e reads failed = looked bytes old new x y [] (Err e) reads kept.card tt (omega arith) tt failed tt
