-- The device writes of bytes that are put into a chain, counted word by word, in a transaction that had made no set.
use Rattle.std.proofs.Common.{◌≡◌, ◌≢◌, ◌==◌, ◌<◌, ◌≤◌, ◌+◌, ◌-◌, ◌*◌, ◌/◌, ◌%◌, ℕ, zero, suc, List, [], length}
use Rattle.std.proofs.Common.{slice_index, refl, sym, ◌∙◌, ap, subst, inl, inr, arith, Option, None, IsSome, is_some}
use Rattle.std.specs.Prelude.{if◌then◌else◌}
use Rattle.std.proofs.lemmas.Bool.{cases_lt}
use Rattle.std.proofs.lemmas.Bool.Decides.{eqb_tells}
use Rattle.std.proofs.lemmas.List.{nil_from_length}
use Rattle.nvm_board.specs.Facts.{address}
use Rattle.undo_journal.specs.declared.batch.TheConstants.{BATCH}
use Rattle.undo_journal.specs.declared.batch.Waiting.{Waiting}
use Rattle.undo_journal.specs.Batches.{batch_writes, with_set, look_up}
use Rattle.undo_journal.specs.StoreCalls.{OnlyReads}
use Rattle.undo_journal.specs.Memory.{Memory, IsIdle, Joins, commit_writes, spent, taken}
use Rattle.undo_journal.specs.laws.Joining.{commit_of_some, joins-first, joins-goes_on, joins-begins, joins-takes}
use Rattle.undo_journal.specs.laws.Told.{idle_waits}
use Rattle.undo_journal.specs.laws.Waits.{AreAscending, ascending-joined, look_up-joined, look_up-other}
use Rattle.block_chain.specs.ChainChanges.{touched_words}
use Rattle.block_chain.specs.Counts.{NoneTwice}
use Rattle.chain_bytes.specs.JoinParts.{JoinsAt}
use Rattle.chain_bytes.specs.Writes.{begins_run, put_writes, run_count, word_writes, WaitInBlocks}
use Rattle.block_chain.specs.declared.layout.TheConstants.{BLOCK_WORDS, FIRST_BLOCK_PAGE}
use Rattle.block_chain.specs.laws.Overwriting.{touched}
use Rattle.chain_bytes.specs.laws.Writes.{begins, goes_on, run_at}
use Rattle.chain_bytes.proofs.Places.{word_address, word-after, word-before, words-apart}

-- What waits, once the words of a chain from the one numbered `first` to the one before word k are set: none of a word
-- from k on, none of a link, none before the blocks, and word k - 1, unless a batch was written with it.
pub record AreBehind (ps : List ℕ) (first k : ℕ) (waiting : List Waiting) : Type 0 where
  pub ascending : AreAscending 0 waiting
  pub later : (j : ℕ) → k ≤ j → j < BLOCK_WORDS * length ps → look_up (word_address ps j) waiting ≡ None
  pub links : (page : ℕ) → look_up (address page 0) waiting ≡ None
  pub low : (at : ℕ) → at < address FIRST_BLOCK_PAGE 0 → look_up at waiting ≡ None
  pub last : (k - first) % BATCH ≢ 0 → IsSome (look_up (word_address ps (k - 1)) waiting)

-- the same, with how many wait, and what was spent for them
pub record IsCounted (ps : List ℕ) (first k : ℕ) (old now : Memory) : Type 0 where
  pub costs : spent now ≡ old.facts.writes + word_writes first (k - first)
  pub takes : taken now ≡ k - first
  pub waits : length now.waiting ≡ (k - first) % BATCH
  pub behind : AreBehind ps first k now.waiting

-- nothing is set yet
pub counted-none : (ps : List ℕ) (first : ℕ) (old now : Memory) → OnlyReads old now → IsIdle old
    → IsCounted ps first first old now
counted-none ps first old now reads idle =
    let waiting : now.waiting ≡ [] = reads.keeps.waiting ∙ idle_waits old idle in
    let none : first - first ≡ 0 = omega arith in
    let nothing : word_writes first (first - first) ≡ 0 = ap (λ (n : ℕ). word_writes first n) none in
    record {
      costs = omega (arith, nothing, ap batch_writes waiting, reads.board.writes);
      takes = omega (arith, none, reads.keeps.taken, idle);
      waits = omega (arith, none, ap (λ (l : List Waiting). length l) waiting);
      behind = subst (λ (l : List Waiting). AreBehind ps first first l) (sym waiting) (record {
        ascending = tt;
        later = λ j le lt. refl;
        links = λ page. refl;
        low = λ at lt. refl;
        last = λ some. absurd (some (omega (arith, none)));
      });
    }

-- One word more is set.
module _ (ps : List ℕ) (first k : ℕ) (old now : Memory) (so_far : IsCounted ps first k old now) (once : NoneTwice ps)
    (from : first ≤ k) (within : k < BLOCK_WORDS * length ps) (block : FIRST_BLOCK_PAGE ≤ slice_index ps
    (k / BLOCK_WORDS))
    (set : Waiting) (is : set.at ≡ word_address ps k)
    (after : Memory) (joins : Joins set now after) where
  free : look_up set.at now.waiting ≡ None
  free = ap (λ (a : ℕ). look_up a now.waiting) is ∙ so_far.behind.later k (omega arith) within

  free-behind : look_up (set.at + 1) now.waiting ≡ None
  free-behind = elim (cases_lt (k % BLOCK_WORDS) 14) [
    | inl inside ↦
        let there : set.at + 1 ≡ word_address ps (k + 1) = omega (arith, is, word-after ps k inside) in
        ap (λ (a : ℕ). look_up a now.waiting) there
        ∙ so_far.behind.later (k + 1) (omega arith) (omega (arith, within, inside))
    | inr ends ↦
        let there : set.at + 1 ≡ address (slice_index ps (k / BLOCK_WORDS) + 1) 0 = omega (arith, is, ends) in
        ap (λ (a : ℕ). look_up a now.waiting) there ∙ so_far.behind.links (slice_index ps (k / BLOCK_WORDS) + 1)
  ]

  takes-one : taken after ≡ taken now + 1
  takes-one = joins-takes set now after joins so_far.behind.ascending free free-behind

  next : k + 1 - first ≡ suc (k - first)
  next = omega (arith, from)

  place : first + (k - first) ≡ k
  place = omega (arith, from)

  runs-next : run_count first (k + 1 - first) ≡ run_count first (k - first) + begins_run first k
  runs-next = ap (λ (n : ℕ). run_count first n) next
      ∙ ap (λ (j : ℕ). run_count first (k - first) + begins_run first j) place

  costs-first : (k - first) % BATCH ≡ 0 → spent after ≡ spent now + 3
  costs-first batch =
      let size : length now.waiting ≡ 0 = omega (arith, so_far.waits, batch) in
      joins-first set now after joins (nil_from_length now.waiting size)

  -- it costs what a run costs, and what a batch does, if it is the first of one
  costs-next : spent after ≡ old.facts.writes + word_writes first (k + 1 - first)
  costs-next = elim (eqb_tells ((k - first) % BATCH) 0) [
    | inl batch ↦ elim (run_at first k) [
      | begins one o ↦ omega (arith, so_far.costs, costs-first batch.1, runs-next, one, batch.1, next)
      | goes_on one block among ↦ absurd (among batch.1)
    ]
    | inr inside ↦
        let among : (k - first) % BATCH ≢ 0 = inside.1 in
        let some : 1 ≤ length now.waiting = omega (arith, so_far.waits, among) in
        let ascending = so_far.behind.ascending in
        elim (run_at first k) [
          | begins one o ↦
              let block : k % BLOCK_WORDS ≡ 0 = elim o [ inl b ↦ b | inr b ↦ absurd (among b) ] in
              let before : set.at - 1 ≡ address (slice_index ps (k / BLOCK_WORDS)) 0 = omega (arith, is, block) in
              let apart : 0 ≢ set.at = omega (arith, is) in
              let link = ap (λ (a : ℕ). look_up a now.waiting) before
              ∙ so_far.behind.links (slice_index ps (k / BLOCK_WORDS)) in
              let more = joins-begins set now after joins ascending free free-behind some (inr (apart, link)) in
              omega (arith, so_far.costs, more, runs-next, one, among, next)
          | goes_on one block apart ↦
              let before : word_address ps (k - 1) ≡ set.at - 1 = omega (arith, is, word-before ps k block) in
              let waits : IsSome (look_up (set.at - 1) now.waiting) =
              subst (λ (a : ℕ). IsSome (look_up a now.waiting)) before (so_far.behind.last among) in
              let later : set.at % 16 ≢ 0 = omega (arith, is) in
              let same = joins-goes_on set now after joins ascending free free-behind some later waits in
              omega (arith, so_far.costs, same, runs-next, one, among, next)
        ]
  ]

  behind-next : AreBehind ps first (k + 1) (with_set set now.waiting)
  behind-next = record {
    ascending = ascending-joined set now.waiting 0 so_far.behind.ascending (omega arith);
    later = λ j le lt.
        let other : word_address ps j ≢ set.at = λ e.
        words-apart ps once j k lt within (omega (arith, le)) (e ∙ is) in
        look_up-other set (word_address ps j) other now.waiting ∙ so_far.behind.later j (omega (arith, le)) lt;
    links = λ page.
        let other : address page 0 ≢ set.at = omega (arith, is) in
        look_up-other set (address page 0) other now.waiting ∙ so_far.behind.links page;
    low = λ at lt.
        let other : at ≢ set.at = omega (arith, lt, is, block) in
        look_up-other set at other now.waiting ∙ so_far.behind.low at lt;
    last = λ some.
        let here : set.at ≡ word_address ps (k + 1 - 1) =
        is ∙ ap (λ (j : ℕ). word_address ps j) (let z : k ≡ k + 1 - 1 = omega arith in z) in
        subst (λ (a : ℕ). IsSome (look_up a (with_set set now.waiting))) here
        (ap (λ (o : Option ℕ). is_some o) (look_up-joined set now.waiting));
  }

  -- so it is counted
  pub counted-next : IsCounted ps first (k + 1) old after
  counted-next = elim joins [
    | inl waits ↦
        let size = ap (λ (l : List Waiting). length l) waits.waiting in
        record {
          costs = costs-next;
          takes = omega (arith, takes-one, so_far.takes, from);
          waits = omega (arith, takes-one, so_far.takes, so_far.waits, waits.used, waits.few, size, from);
          behind = subst (λ (l : List Waiting). AreBehind ps first (k + 1) l) (sym waits.waiting) behind-next;
        }
    | inr fills ↦
        let size = ap (λ (l : List Waiting). length l) fills.waiting in
        record {
          costs = costs-next;
          takes = omega (arith, takes-one, so_far.takes, from);
          waits = omega (arith, takes-one, so_far.takes, so_far.waits, fills.used, size, from);
          behind = subst (λ (l : List Waiting). AreBehind ps first (k + 1) l) (sym fills.waiting) (record {
            ascending = tt;
            later = λ j le lt. refl;
            links = λ page. refl;
            low = λ at lt. refl;
            last = λ some. absurd (some (omega (arith, takes-one, so_far.takes, so_far.waits, fills.used, size, from)));
          });
        }
  ]

-- reads count nothing
counted-read : (ps : List ℕ) (first k : ℕ) (old now last : Memory) → IsCounted ps first k old now → OnlyReads now last
    → IsCounted ps first k old last
counted-read ps first k old now last so_far reads = record {
  costs = omega (arith, so_far.costs, reads.board.writes, ap batch_writes reads.keeps.waiting);
  takes = reads.keeps.taken ∙ so_far.takes;
  waits = ap (λ (l : List Waiting). length l) reads.keeps.waiting ∙ so_far.waits;
  behind = subst (λ (l : List Waiting). AreBehind ps first k l) (sym reads.keeps.waiting) so_far.behind;
}

-- a word is set behind its read, and the next block is read
pub counted-more : (ps : List ℕ) (first k page : ℕ) (old now after last : Memory) → IsCounted ps first k old now
    → NoneTwice ps → first ≤ k → k < BLOCK_WORDS * length ps → FIRST_BLOCK_PAGE ≤ page
    → page ≡ slice_index ps (k / BLOCK_WORDS)
    → JoinsAt (address page (1 + k % BLOCK_WORDS)) now after → OnlyReads after last
    → IsCounted ps first (k + 1) old last
counted-more ps first k page old now after last so_far once from within block is set reads =
    let here = ap (λ (q : ℕ). address q (1 + k % BLOCK_WORDS)) is in
    let found = counted-read ps first k old now set.found so_far set.reads in
    let low : FIRST_BLOCK_PAGE ≤ slice_index ps (k / BLOCK_WORDS) = omega (arith, block, is) in
    let more = counted-next ps first k old set.found found once from within low _ here after set.joins in
    counted-read ps first (k + 1) old after last more reads

-- all words are set
pub counted-all : (ps : List ℕ) (offset count k : ℕ) (old now : Memory) → IsCounted ps (offset / 4) k old now
    → 1 ≤ count → offset / 4 ≤ k → (offset + count + 3) / 4 ≤ k → k ≤ (offset + count + 3) / 4
    → now.facts.writes + commit_writes now ≡ old.facts.writes + put_writes offset count
counted-all ps offset zero k old now so_far some from far le = absurd (omega (arith, some))
counted-all ps offset (suc n) k old now so_far some from far le =
    let all : k - offset / 4 ≡ touched_words offset (suc n) = omega (arith, touched offset (suc n) some, far, le) in
    let costs = ap (λ (words : ℕ). word_writes (offset / 4) words) all in
    let taken_some : 1 ≤ taken now = omega (arith, so_far.takes, far) in
    omega (arith, so_far.costs, costs, commit_of_some now taken_some)

-- no bytes
pub counted-no_bytes : (offset count : ℕ) (m : Memory) → count ≡ 0 → IsIdle m
    → m.facts.writes + commit_writes m ≡ m.facts.writes + put_writes offset count
counted-no_bytes offset count m none idle =
    let no_put : put_writes offset count ≡ 0 = ap (λ (n : ℕ). put_writes offset n) none in
    let test = ap (λ (n : ℕ). (if n == 0 then 0 else batch_writes m.waiting + 1)) idle in
    omega (arith, no_put, test)

-- what waits then
pub waits-all : (ps : List ℕ) (offset count k : ℕ) (old now : Memory) → IsCounted ps (offset / 4) k old now
    → 1 ≤ count → (offset + count + 3) / 4 ≤ k → k ≤ (offset + count + 3) / 4
    → WaitInBlocks (touched_words offset count) now
waits-all ps offset count k old now so_far some far le =
    let words : k - offset / 4 ≡ touched_words offset count = omega (arith, touched offset count some, far, le) in
    record {
      takes = so_far.takes ∙ words;
      last = so_far.waits ∙ ap (λ (n : ℕ). n % BATCH) words;
      ascending = so_far.behind.ascending;
      blocks = so_far.behind.low;
    }

-- and without bytes
pub waits-no_bytes : (offset count : ℕ) (m : Memory) → count ≡ 0 → IsIdle m
    → WaitInBlocks (touched_words offset count) m
waits-no_bytes offset count m none idle =
    let waiting : m.waiting ≡ [] = idle_waits m idle in
    let words : touched_words offset count ≡ 0 = ap (λ (n : ℕ). touched_words offset n) none in
    record {
      takes = idle ∙ sym words;
      last = ap (λ (l : List Waiting). length l) waiting ∙ sym (ap (λ (n : ℕ). n % BATCH) words);
      ascending = subst (λ (l : List Waiting). AreAscending 0 l) (sym waiting) tt;
      blocks = λ at lt. ap (λ (l : List Waiting). look_up at l) waiting;
    }
