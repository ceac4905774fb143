-- What a call that carries out a request leaves, by the kinds of its exits.
use Rattle.std.proofs.Common.{◌≡◌, ◌⊎◌, ◌+◌, ◌≤◌, ℕ, false, List, [], length, Option, Some, None, Result, Ok, Err, OnOk}
use Rattle.std.proofs.Common.{sym, ◌∙◌, ap, subst, arith, inl}
use Rattle.std.specs.Result.{IsErrAnd}
use Rattle.card_model.specs.declared.status.Sw.{Sw}
use Rattle.undo_journal.specs.declared.error.StoreErr.{StoreErr}
use Rattle.undo_journal.specs.StoreCalls.{OnlyReads, Reads}
use Rattle.undo_journal.specs.Memory.{Memory, committed, IsReady, Reports}
use Rattle.undo_journal.specs.Spending.{WritesAtMost}
use Rattle.nvm_board.specs.Facts.{Facts}
use Rattle.card_model.specs.declared.space.FreeSpace.{FreeSpace}
use Rattle.file_tree.specs.Indexes.{IsIndex, KeepsPlaces}
use Rattle.file_tree.specs.declared.index.Index.{Index}
use Rattle.file_tree.specs.laws.Indexed.{index_kept, places_same}
use Rattle.std.proofs.lemmas.Result.{on_ok_weaker}
use Rattle.file_tree.specs.Table.{table}
use Rattle.card_model.specs.Requests.{Request}
use Rattle.command_base.specs.declared.current.Current.{Current}
use Rattle.card_model.specs.Steps.{attempt_of, moves_files, IsDoing, served}
use Rattle.command_base.specs.Comparing.{comparisons, ComparesBy, ComparesNothing}
use Rattle.command_base.specs.Counting.{CountsServed, CountsShown}
use Rattle.card_model.specs.Cards.{Card}
use Rattle.card_model.specs.Behaviours.{refused, outcome, Attempt}
use Rattle.card_model.specs.Sessions.{Session}
use Rattle.command_base.specs.Served.{Executes}
use Rattle.command_base.specs.CommandWrites.{most_writes}
use Rattle.command_base.specs.Standing.{IsCard, card_of}
use Rattle.command_base.specs.declared.stop.Stop.{Stop}
use Rattle.command_base.specs.declared.stop.Stop.TheVariants.{Refused, Failed}
use Rattle.command_base.specs.Stops.{failure_of, reply, IfRefused}
use Rattle.command_base.specs.laws.CompareLaws.{compares-none}
use Rattle.command_base.specs.Working.{card_in, session_in, session_of, table_in, IsCurrent}
use Rattle.command_base.specs.laws.Stopping.{err-is, refused-weaker}
use Rattle.command_base.specs.laws.Words.{Went, went-reads}

-- at most so many writes and no comparison
pub compared-none : (n : ℕ) (old new : Facts) → WritesAtMost n old new
    → ComparesNothing (comparisons old) (comparisons new)
compared-none n old new spends =
    let compares = spends.compares in
    let matches = spends.matches in λ i. record { compares = compares i; matches = matches i }

-- nor do reads
pub reads-compared : (old new : Memory) → OnlyReads old new
    → ComparesNothing (comparisons old.facts) (comparisons new.facts)
reads-compared old new reads =
    let compares = reads.board.compares in
    let matches = reads.board.matches in λ i. record { compares = compares i; matches = matches i }

-- a request that shows no secret has nothing to count
pub counts-none : (request : Request) (c : Card) (s : Session) (old new : Facts) → attempt_of request ≡ None
    → CountsServed c s request old new
counts-none request c s old new unshown =
    λ _. subst (λ (shown : Option Attempt). CountsShown shown c old new) (sym unshown) tt

module _ (request : Request) (old : Memory) (x : Current) (new : Memory) where
  -- after reads alone nothing was compared
  pub reads-nothing : OnlyReads old new
      → ComparesBy request (card_in old) old.facts (card_in new) new.facts
  reads-nothing reads =
      compares-none request (card_in old) old.facts (card_in new) new.facts
      (ap card_of reads.keeps.committed_words) (reads-compared old new reads)

  -- an error after reads
  pub stopped : IsCard (committed old) → (y : Current) (text : List ℕ) (e : StoreErr) → OnlyReads old new
      → new.failed ≡ Some e → length text ≤ 256 → Executes request old x new y text (Err e)
  stopped card y text e reads failed room = record {
    step = tt;
    room = room;
    stage = inl reads;
    kept = tt;
    card = subst IsCard (sym reads.keeps.committed_words) card;
    reports = reads.reports;
    tells = failed;
    writes = omega (arith, reads.board.writes);
    advances = (went-reads request old x new reads).0;
    stands = (went-reads request old x new reads).1;
    turned = (went-reads request old x new reads).2;
    compares = reads-nothing reads;
    places = tt;
    counted = tt;
  }

  -- which is handed on
  pub handed : IsCard (committed old) → (y : Current) (text : List ℕ) (r : Result Sw StoreErr) (e : StoreErr)
      → IsErrAnd r (λ f. f ≡ e) → Reads old new (Some e) → length text ≤ 256 → Executes request old x new y text r
  handed card y text r e is reads room =
      subst (λ (s : Result Sw StoreErr). Executes request old x new y text s) (sym (err-is r e is))
      (stopped card y text e reads.only reads.tells room)

  -- an answer after reads, which leaves the card
  pub answered : CountsServed (card_in old) (session_in old x) request old.facts new.facts
      → IsCard (committed old) → (y : Current) (text : List ℕ) (status : Sw) → OnlyReads old new → IsReady new
      → IsCurrent (table_in old) y → length text ≤ 256
      → served (card_in old) (session_in old x) request ≡ outcome (card_in old) (session_in old y) text status
      → Executes request old x new y text (Ok status)
  answered counted card y text status reads ready current room is =
      let same = sym reads.keeps.committed_words in
      record {
        step = is ∙ ap (λ (l : List ℕ). outcome (card_of l) (session_of (table l) y) text status) same;
        room = room;
        stage = inl reads;
        kept = record {
          ready = ready;
          card = subst IsCard same card;
          current = subst (λ (l : List ℕ). IsCurrent (table l) y) same current;
        };
        card = subst IsCard same card;
        reports = reads.reports;
        tells = ready.usable.works;
        writes = omega (arith, reads.board.writes);
        advances = (went-reads request old x new reads).0;
        stands = (went-reads request old x new reads).1;
        turned = (went-reads request old x new reads).2;
        compares = reads-nothing reads;
        places = λ _. places_same (table_in old) (table_in new) (ap (λ (l : List ℕ). table l)
            reads.keeps.committed_words);
        counted = counted;
      }

  -- a refusal after reads
  pub declined : CountsServed (card_in old) (session_in old x) request old.facts new.facts
      → IsCard (committed old) → (status : Sw) → OnlyReads old new → IsReady new → IsCurrent (table_in old) x
      → served (card_in old) (session_in old x) request ≡ refused (card_in old) (session_in old x) status
      → Executes request old x new x [] (Ok status)
  declined counted card status reads ready current is =
      answered counted card x [] status reads ready current (omega arith) is

  -- What stops a look stops the command: a refusal is its answer, with no data, and only reads were made.
  pub halted-with : CountsServed (card_in old) (session_in old x) request old.facts new.facts
      → IsCard (committed old) → IsCurrent (table_in old) x → (text : List ℕ) → length text ≤ 256
      → (r : Result Sw Stop) (stop : Stop) → IsErrAnd r (λ f. f ≡ stop) → Reads old new (failure_of stop)
      → IfRefused stop (λ status. (text ≡ [])
      × (served (card_in old) (session_in old x) request ≡ refused (card_in old) (session_in old x) status))
      → Executes request old x new x text (reply r)
  halted-with counted card current text room r stop is reads said =
      subst (λ (s : Result Sw Stop). Executes request old x new x text (reply s)) (sym (err-is r stop is))
      (by stop reads said)
    where
      by : (stop : Stop) → Reads old new (failure_of stop) → IfRefused stop (λ status. (text ≡ [])
          × (served (card_in old) (session_in old x) request ≡ refused (card_in old) (session_in old x) status))
          → Executes request old x new x text (reply (Err stop))
      by (Refused status) reads said =
          subst (λ (l : List ℕ). Executes request old x new x l (Ok status)) (sym said.0)
          (declined counted card status reads.only reads.ready current said.1)
      by (Failed e) reads said = stopped card x text e reads.only reads.tells room

  pub halted : CountsServed (card_in old) (session_in old x) request old.facts new.facts
      → IsCard (committed old) → IsCurrent (table_in old) x → (text : List ℕ) → text ≡ []
      → (r : Result Sw Stop) (stop : Stop) → IsErrAnd r (λ f. f ≡ stop) → Reads old new (failure_of stop)
      → (P : Sw → Type 0) → ((status : Sw) → P status
      → served (card_in old) (session_in old x) request ≡ refused (card_in old) (session_in old x) status)
      → IfRefused stop P → Executes request old x new x text (reply r)
  halted counted card current text empty r stop is reads P step said =
      let none : length text ≡ 0 = ap (λ (l : List ℕ). length l) empty in
      halted-with counted card current text (omega (arith, none)) r stop is reads
      (refused-weaker stop P _ (λ status due. (empty, step status due)) said)

  -- a write that stopped, before or after its commit
  pub torn : (y : Current) (text : List ℕ) (e : StoreErr)
      → OnlyReads old new ⊎ IsDoing (card_in old) (session_in old x) request (card_in new) → IsCard (committed new)
      → Reports old new → new.failed ≡ Some e → length text ≤ 256
      → new.facts.writes ≤ old.facts.writes + most_writes request → Went request old x new
      → ComparesBy request (card_in old) old.facts (card_in new) new.facts
      → Executes request old x new y text (Err e)
  torn y text e stage card reports failed room writes went compares = record {
    step = tt;
    room = room;
    stage = stage;
    kept = tt;
    card = card;
    reports = reports;
    tells = failed;
    writes = writes;
    advances = went.0;
    stands = went.1;
    turned = went.2;
    compares = compares;
    places = tt;
    counted = tt;
  }

  -- a write that was made
  pub written : CountsServed (card_in old) (session_in old x) request old.facts new.facts
      → (y : Current) (text : List ℕ) (status : Sw)
      → OnlyReads old new ⊎ IsDoing (card_in old) (session_in old x) request (card_in new) → IsCard (committed new)
      → Reports old new → IsReady new → IsCurrent (table_in new) y
      → (moves_files request ≡ false → KeepsPlaces (table_in old) (table_in new)) → length text ≤ 256
      → new.facts.writes ≤ old.facts.writes + most_writes request → Went request old x new
      → ComparesBy request (card_in old) old.facts (card_in new) new.facts
      → served (card_in old) (session_in old x) request ≡ outcome (card_in new) (session_in new y) text status
      → Executes request old x new y text (Ok status)
  written counted y text status stage card reports ready current places room writes went compares is = record {
    step = is;
    room = room;
    stage = stage;
    kept = record { ready = ready; card = card; current = current };
    card = card;
    reports = reports;
    tells = ready.usable.works;
    writes = writes;
    advances = went.0;
    stands = went.1;
    turned = went.2;
    compares = compares;
    places = places;
    counted = counted;
  }

-- the count of what is free stays right where no space is taken or given back
pub space_kept : (free before after : FreeSpace) (result : Result Sw StoreErr) → free ≡ before
    → OnOk result (after ≡ before) → OnOk result (free ≡ after)
space_kept free before after (Ok status) counted same = counted ∙ sym same
space_kept free before after (Err e) counted same = tt

-- and so does the index, where each file stays in its place
pub index_left : (request : Request) (old : Memory) (x : Current) (new : Memory) (y : Current) (text : List ℕ)
    (result : Result Sw StoreErr) (index : Index) → Executes request old x new y text result → moves_files request
    ≡ false
    → IsIndex (table_in old) index → OnOk result (IsIndex (table_in new) index)
index_left request old x new y text result index serves stays is =
    on_ok_weaker result (λ keeps. index_kept (table_in old) (table_in new) index (keeps stays) is) serves.places
