-- READ BINARY and UPDATE BINARY by the entry of the file that is named.
use Rattle.std.proofs.Common.{◌≡◌, ◌⊎◌, ◌<◌, ◌≤◌, ◌+◌, ◌==◌, ℕ, Bool, true, false, List, [], length, length-take, take}
use Rattle.std.proofs.Common.{drop, Result, Ok, Err}
use Rattle.std.proofs.Common.{Some, None, refl, sym, ◌∙◌, ap, ap₂, subst, arith, if◌then◌else◌, inl, inr, ⊎_elim}
use Rattle.std.specs.FinMap.{insert}
use Rattle.nvm_board.specs.Facts.{IsMemory}
use Rattle.nvm_board.specs.laws.Sizes.{memory_same}
use Rattle.card_model.specs.declared.status.Sw.{Sw}
use Rattle.card_model.specs.declared.status.TheConstants.Sw.{DONE}
use Rattle.card_model.specs.declared.access_mode.AccessBit.{AccessBit}
use Rattle.card_model.specs.declared.access_mode.AccessBit.TheVariants.{Read, Update}
use Rattle.undo_journal.specs.declared.error.StoreErr.{StoreErr}
use Rattle.undo_journal.specs.StoreCalls.{OnlyReads}
use Rattle.undo_journal.specs.Commits.{CommitsByGate, TurnsTo}
use Rattle.undo_journal.specs.Memory.{Memory, committed, IsReady, Reports}
use Rattle.undo_journal.specs.Spending.{WritesAtMost}
use Rattle.undo_journal.specs.laws.Memory.{reports_then}
use Rattle.card_model.specs.declared.requests.Target.{Target}
use Rattle.card_model.specs.Requests.{Request, read_binary, update_binary}
use Rattle.block_chain.specs.Chains.{bytes_of}
use Rattle.block_chain.specs.ChainChanges.{AppendsSome}
use Rattle.ef_body.specs.declared.transparent.Transparent.{Transparent}
use Rattle.ef_body.specs.TransparentBodies.{transparent_bytes, IsTransparent}
use Rattle.ef_body.specs.TransparentBodies.{TransparentBecomes}
use Rattle.ef_contents.specs.Refusals.{why_failed, Decides, WhereRefused, overlong, past_end}
use Rattle.ef_contents.specs.declared.error.BodyErr.{BodyErr}
use Rattle.ef_contents.specs.declared.error.BodyErr.TheVariants as body_err
use Rattle.std.specs.Result.{IsErrAnd}
use Rattle.command_base.specs.declared.stop.Stop.{Stop}
use Rattle.command_base.specs.Stops.{reply, stop_of_body}
use Rattle.file_tree.specs.declared.entry.Entry.{Entry}
use Rattle.card_model.specs.FileTrees.{Kind, Tree, File, file_at, overwrite, with_bytes, file_bytes as bytes_in}
use Rattle.file_tree.specs.TreeChanges.{Rewrites}
use Rattle.file_tree.specs.Entries.{free_entry}
use Rattle.command_base.specs.laws.CardLaws.{card_space_is}
use Rattle.file_tree.specs.Table.{table, entry_in, path_of, free_entries}
use Rattle.file_tree.specs.Trees.{tree_of, file_in}
use Rattle.file_tree.specs.laws.Costs.{space_counted}
use Rattle.file_tree.specs.laws.Nodes.{file_at_entry, used_small}
use Rattle.file_tree.specs.laws.Rewriting.{rewritten}
use Rattle.file_tree.specs.laws.Tables.{length-table}
use Rattle.file_tree.specs.laws.Indexed.{places_same}
use Rattle.command_base.specs.declared.current.Current.{Current as CurrentFiles}
use Rattle.command_base.specs.declared.target_file.Need.{Need}
use Rattle.command_base.specs.declared.target_file.AcceptedStructure.TheVariants.{Bytes}
use Rattle.card_model.specs.BinaryCommands.{read_response, end_status}
use Rattle.command_base.specs.Comparing.{ComparesBy}
use Rattle.card_model.specs.Cards.{with_content}
use Rattle.card_model.specs.Behaviours.{Response, refused, only_status, outcome}
use Rattle.command_base.specs.laws.FoundLaws.{same-of}
use Rattle.card_model.specs.Steps.{IsDoing, served}
use Rattle.command_base.specs.Served.{Executes}
use Rattle.command_base.specs.CommandWrites.{most_writes}
use Rattle.command_base.specs.Standing.{card_of, IsCard}
use Rattle.command_base.specs.Working.{card_in, session_in, session_of, space_in, table_in, IsCurrent}
use Rattle.command_base.specs.CurrentFiles.{named_from}
use Rattle.command_base.specs.NamedFiles.{IsNamed}
use Rattle.content_commands.proofs.BinarySteps.{read-past, read-within, update-commits, update-decided, update-past}
use Rattle.content_commands.proofs.BinarySteps.{update-within}
use Rattle.card_model.specs.laws.Doing.{doing-one}
use Rattle.command_base.specs.laws.Contents.{transparent-is, content-is, chain-is, fits-chain, response-is}
use Rattle.command_base.specs.laws.Entries.{card-tree, there}
use Rattle.command_base.specs.laws.Keeping.{files-stand, files-after}
use Rattle.command_base.specs.laws.Naming.{named-current, naming-entry}
use Rattle.command_base.specs.laws.Executes.{compared-none, declined, reads-compared, torn, written}
use Rattle.command_base.specs.laws.Stopping.{err-is}
use Rattle.command_base.specs.laws.Words.{Went, turns-one, went-after}

-- what a file of bytes is needed for
abbrev pub bytes_for : AccessBit → Need
bytes_for bit = record { structure = Bytes; bit = bit }

-- the body that the entry of a file of bytes tells of
abbrev pub bytes_told : Entry → Transparent
bytes_told entry = record { chain = record { first = entry.first; last = entry.last }; size = entry.size }

-- The body of what is found stands in a memory that was only read since, and its bytes are the file's.
module _ (m : List ℕ) (sized : IsMemory m) (words : IsCard m) (x : CurrentFiles) (target : Target) (bit : AccessBit)
    (e : ℕ) (entry : Entry) (found : IsNamed m x target (bytes_for bit) e entry) (body : Transparent)
    (is : body ≡ bytes_told entry) (now : List ℕ) (same : now ≡ m) where
  abbrev told : Entry
  told = entry_in (table m) e

  of-bytes : told.kind ≡ 2
  of-bytes = ap (λ (y : Entry). y.kind) (sym found.entry_is) ∙ same-of entry.kind 2 found.structure

  below : e < 64
  below = used_small m e found.file.child.used

  body-is : body ≡ bytes_told told
  body-is = is ∙ ap bytes_told found.entry_is

  stands : IsTransparent m (bytes_told told)
  stands =
      let lt = below in
      let within : e < length (table m) = (let l = length-table m in omega (arith, l, lt)) in
      let rules =
      ((words.tree.entries.each e free_entry within).used found.file.child.used).body.transparent of-bytes in
      record {
        chain = chain-is m e sized words lt found.file.kind;
        some = rules.some;
        size = rules.size;
        fits = fits-chain m e sized words lt found.file.kind;
      }

  pub found-body : IsTransparent now body
  found-body = subst (λ (l : List ℕ). IsTransparent l body) (sym same)
      (subst (λ (b : Transparent). IsTransparent m b) (sym body-is) stands)

  pub found-bytes : bytes_in (file_in m e).kind ≡ transparent_bytes now body
  found-bytes = ap (λ (k : Kind). bytes_in k) (transparent-is m e of-bytes)
      ∙ ap (take told.size) (content-is m e sized words below found.file.kind)
      ∙ sym (λ i. transparent_bytes (same i) (body-is i))

  -- the file is written where its body is
  pub found-rewritten : (offset : ℕ) (bytes after : List ℕ)
      → TransparentBecomes now body (overwrite (transparent_bytes now body) offset bytes) after
      → Rewrites m e offset bytes after
  found-rewritten offset bytes after becomes =
      let change = subst (λ (b : Transparent). TransparentBecomes m b
      (overwrite (transparent_bytes m b) offset bytes) after) body-is (subst (λ (l : List ℕ). TransparentBecomes l body
      (overwrite (transparent_bytes l body) offset bytes) after) same becomes) in
      rewritten m after e offset bytes sized words.tree found.file.child.used of-bytes change.only
      (ap (λ (ps : List ℕ). take told.size (bytes_of after ps)) (sym change.blocks) ∙ change.becomes)

-- READ BINARY of what is found
module _ (m : List ℕ) (sized : IsMemory m) (words : IsCard m) (x : CurrentFiles) (target : Target)
    (e : ℕ) (entry : Entry) (found : IsNamed m x target (bytes_for Read) e entry) (body : Transparent)
    (is : body ≡ bytes_told entry) (now : List ℕ) (same : now ≡ m) (offset expected : ℕ) where
  abbrev held : List ℕ
  held = transparent_bytes now body

  holds : bytes_in (file_in m e).kind ≡ held
  holds = found-bytes m sized words x target Read e entry found body is now same

  pub found-read-past : (status : Sw) → past_end held offset ≡ Some status
      → served (card_of m) (session_of (table m) x) (read_binary target offset expected)
      ≡ refused (card_of m) (session_of (table m) x) status
  found-read-past status past =
      read-past (card_of m) (session_of (table m) x) target offset (path_of (table m) e) (file_in m e) found.place
      (there m words e found.file.child.used) expected found.unrefused status
      (ap (λ (bytes : List ℕ). past_end bytes offset) holds ∙ past)

  pub found-read : past_end held offset ≡ None → (text : List ℕ)
      → text ≡ take (if expected == 0 then 256 else expected) (drop offset held)
      → served (card_of m) (session_of (table m) x) (read_binary target offset expected)
      ≡ outcome (card_of m) (session_of (table m) (named_from x target e)) text (end_status (length text) expected)
  found-read within text given =
      read-within (card_of m) (session_of (table m) x) target offset (path_of (table m) e) (file_in m e) found.place
      (there m words e found.file.child.used) expected found.unrefused
      (ap (λ (bytes : List ℕ). past_end bytes offset) holds ∙ within)
      ∙ (λ i. record {
        card = card_of m;
        session = naming-entry m words x target e found.file i;
        response = read_response (drop offset (holds i)) expected;
      })
      ∙ ap (λ (r : Response). record {
        card = card_of m;
        session = session_of (table m) (named_from x target e);
        response = r;
      }) (response-is (drop offset held) expected)
      ∙ ap (λ (t : List ℕ). outcome (card_of m) (session_of (table m) (named_from x target e)) t (end_status (length t)
      expected)) (sym given)

-- UPDATE BINARY of what is found, in a memory that was only read since
module _ (old mid : Memory) (ready : IsReady old) (words : IsCard (committed old)) (x : CurrentFiles) (target : Target)
    (e : ℕ) (entry : Entry) (found : IsNamed (committed old) x target (bytes_for Update) e entry) (body : Transparent)
    (is : body ≡ bytes_told entry) (offset : ℕ) (bytes : List ℕ) (reads : OnlyReads old mid) where
  abbrev m : List ℕ
  m = committed old

  abbrev request : Request
  request = update_binary target offset bytes

  abbrev path : List ℕ
  path = path_of (table m) e

  abbrev f : File
  f = file_in m e

  abbrev held_now : List ℕ
  held_now = transparent_bytes (committed mid) body

  sized : IsMemory m
  sized = ready.usable.committed_size

  same : committed mid ≡ m
  same = reads.keeps.committed_words

  decides : overlong (bytes_in f.kind) offset bytes ≡ overlong held_now offset bytes
  decides = ap (λ (b : List ℕ). overlong b offset bytes)
      (found-bytes m sized words x target Update e entry found body is (committed mid) same)

  pub found-update-past : (status : Sw) → overlong held_now offset bytes ≡ Some status
      → served (card_in old) (session_in old x) request ≡ refused (card_in old) (session_in old x) status
  found-update-past status past =
      update-past (card_in old) (session_in old x) target offset path f found.place
      (there m words e found.file.child.used) bytes found.unrefused status (decides ∙ past)

  module _ (none : overlong held_now offset bytes ≡ None) (new : Memory)
      (any_exit : (committed new ≡ committed mid)
      ⊎ TransparentBecomes (committed mid) body (overwrite held_now offset bytes) (committed new))
      (by_gate : CommitsByGate mid new)
      (turned : TurnsTo (TransparentBecomes (committed mid) body (overwrite held_now offset bytes)) mid new)
      (reports : Reports mid new)
      (spends : WritesAtMost (most_writes request) mid.facts new.facts) where
    abbrev after : List ℕ
    after = committed new

    abbrev Becomes : Type 0
    Becomes = TransparentBecomes (committed mid) body (overwrite held_now offset bytes) after

    rewrites : Becomes → Rewrites m e offset bytes after
    rewrites = found-rewritten m sized words x target Update e entry found body is
        (committed mid) same offset bytes after

    -- the card with the bytes in it
    card-is : Becomes → card_of after ≡ with_content (card_of m) path (overwrite (bytes_in f.kind) offset bytes)
    card-is becomes =
        let change = rewrites becomes in
        let at_path : file_at (tree_of m) path ≡ f =
        file_at_entry m words.tree.entries e path found.file.child.used refl in
        files-after m after sized change.rest
        ∙ ap (λ (tree : Tree). record (card_of m) { tree = tree }) change.tree
        ∙ (λ i. record (card_of m) {
          tree = insert (tree_of m) path (record (file_at (tree_of m) path) {
            kind = with_bytes
                (file_at (tree_of m) path).kind (overwrite (bytes_in (at_path i).kind) offset bytes);
          });
        })
        ∙ sym (ap (λ (tree : Tree). with_content (record (card_of m) { tree = tree }) path (overwrite (bytes_in f.kind)
        offset bytes)) (card-tree m))

    card-stands : IsCard after
    card-stands = ⊎_elim (λ (kept : after ≡ committed mid). subst IsCard (sym (kept ∙ same)) words)
        (λ (becomes : Becomes). files-stand m after sized (rewrites becomes).rest words
        (rewrites becomes).stands) any_exit

    stage : OnlyReads old new ⊎ IsDoing (card_in old) (session_in old x) request (card_in new)
    stage = inr (doing-one (card_in old) (session_in old x) request
        (with_content (card_of m) path (overwrite (bytes_in f.kind) offset bytes)) (card_of after)
        (update-decided (card_in old) (session_in old x) target offset path f found.place
        (there m words e found.file.child.used) bytes found.unrefused ∙ decides ∙ none)
        (update-commits (card_in old) (session_in old x) target offset path f found.place
        (there m words e found.file.child.used) bytes found.unrefused)
        (⊎_elim (λ (kept : after ≡ committed mid). inl (ap card_of (kept ∙ same)))
        (λ (becomes : Becomes). inr (card-is becomes)) any_exit))

    all-reports : Reports old new
    all-reports = reports_then old mid new reads.reports reports

    costs : new.facts.writes ≤ old.facts.writes + most_writes request
    costs = let spent = spends.writes in let kept = reads.board.writes in omega (arith, spent, kept)

    went : Went request old x new
    went = went-after request old x new (most_writes request) mid words refl stage reads spends by_gate
        (turns-one request old x new (with_content (card_of m) path (overwrite (bytes_in f.kind) offset bytes))
        (TransparentBecomes (committed mid) body (overwrite held_now offset bytes)) mid
        (update-decided (card_in old) (session_in old x) target offset path f found.place
        (there m words e found.file.child.used) bytes found.unrefused ∙ decides ∙ none)
        (update-commits (card_in old) (session_in old x) target offset path f found.place
        (there m words e found.file.child.used) bytes found.unrefused) reads turned
        (λ (becomes : Becomes). card-is becomes))

    compares : ComparesBy request (card_in old) old.facts (card_in new) new.facts
    compares = compared-none (most_writes request) mid.facts new.facts spends ∙ reads-compared old mid reads

    -- an update that stopped, before or after its commit
    pub found-torn : (error : StoreErr) → new.failed ≡ Some error → Executes request old x new x [] (Err error)
    found-torn error failed =
        torn request old x new x [] error stage card-stands all-reports failed (omega arith) costs went compares

    -- an update that was made
    pub found-made : Becomes → IsReady new → IsCurrent (table_in old) x
        → Executes request old x new (named_from x target e) [] (Ok DONE)
    found-made becomes ready_now current =
        let y = named_from x target e in
        let files = sym (rewrites becomes).table in
        written request old x new (λ _. tt) y [] DONE stage card-stands all-reports ready_now
        (subst (λ (t : List Entry). IsCurrent t y) files (named-current m x e found.file target current))
        (λ _. places_same _ _ (rewrites becomes).table) (omega arith) costs went compares
        (update-within (card_in old) (session_in old x) target offset path f found.place
        (there m words e found.file.child.used) bytes found.unrefused (decides ∙ none)
        ∙ (λ i. record {
          card = sym (card-is becomes) i;
          session = naming-entry m words x target e found.file i;
          response = only_status DONE;
        })
        ∙ ap (λ (t : List Entry). outcome (card_of after) (session_of t y) [] DONE) files)

    pub found-space : Becomes → space_in new ≡ space_in old
    found-space becomes =
        let change = rewrites becomes in
        let sized_after : IsMemory after = memory_same _ _ change.rest.size sized in
        card_space_is after card-stands ∙ space_counted after sized_after change.stands
        ∙ ap₂ (λ (free : List ℕ) (t : List Entry). record { blocks = length free; entries = free_entries t })
        change.free change.table
        ∙ sym (card_space_is m words ∙ space_counted m sized words.tree)

  -- an update that stops: it is refused where that is due, or the store failed
  pub found-stopped : IsCurrent (table_in old) x → IsReady mid → (new : Memory)
      → (committed new ≡ committed mid)
      ⊎ TransparentBecomes (committed mid) body (overwrite held_now offset bytes) (committed new)
      → CommitsByGate mid new
      → TurnsTo (TransparentBecomes (committed mid) body (overwrite held_now offset bytes)) mid new
      → Reports mid new → WritesAtMost (most_writes request) mid.facts new.facts
      → (error : BodyErr) → Decides (overlong held_now offset bytes) (Some error)
      → WhereRefused (Some error) (new ≡ mid)
      → new.failed ≡ why_failed (Some error) → (r : Result Sw Stop) → IsErrAnd r (λ f. f ≡ stop_of_body error)
      → Executes request old x new x [] (reply r)
  found-stopped current ready_mid new any_exit by_gate turned reports spends error due kept failed r is =
      subst (λ (s : Result Sw Stop). Executes request old x new x [] (reply s)) (sym (err-is r (stop_of_body error) is))
      (by error due kept failed)
    where
      by : (error : BodyErr)
          → Decides (overlong held_now offset bytes) (Some error) → WhereRefused (Some error) (new ≡ mid)
          → new.failed ≡ why_failed (Some error) → Executes request old x new x [] (reply (Err (stop_of_body error)))
      by (body_err.Refused status) due kept failed =
          subst (λ (n : Memory). Executes request old x n x [] (Ok status)) (sym kept)
          (declined request old x mid (λ _. tt) words status reads ready_mid current (found-update-past status due))
      by (body_err.Store e) due kept failed = found-torn due new any_exit by_gate turned reports spends e failed

-- an Le byte asks for at most 256 bytes
pub asked-most : (expected : ℕ) → expected < 256 → (if expected == 0 then 256 else expected) ≤ 256
asked-most expected small = by_test (expected == 0)
  where
    by_test : (all : Bool) → (if all then 256 else expected) ≤ 256
    by_test true = omega arith
    by_test false = omega (arith, small)

-- so what a read left of them fits an answer
pub read-short : (expected count : ℕ) → expected < 256 → count ≡ (if expected == 0 then 256 else expected)
    → (bytes text : List ℕ) → AppendsSome [] (take count bytes) text → length text ≤ 256
read-short expected count small is bytes text appends =
    let size = ap (λ (l : List ℕ). length l) appends.is in
    let some = length-take appends.some (take count bytes) in
    let most = length-take count bytes in
    let few = asked-most expected small in
    omega (arith, size, some, most, few, is)
