-- Laws of what calls tell: a call after others, and an error that is handed on. `a` is the store before them, `b`
-- between them, `c` after them; `r` is what is answered.
use Rattle.std.specs.Prelude.{Option, Some, None, Result, Ok, Err, IsErrAnd}
use Rattle.std.specs.Result.{result_err}
use Rattle.std.proofs.Common.{◌≡◌, ◌≤◌, ◌+◌, ℕ, [], length, sym, ap, subst, ◌∙◌, arith}
use Rattle.std.proofs.lemmas.List.{nil_from_length}
use Rattle.undo_journal.specs.declared.error.StoreErr.{StoreErr}
use Rattle.undo_journal.specs.declared.txn.Txn.{Txn}
use Rattle.undo_journal.specs.Memory.{Memory, Reports, IsIdle, IsReady}
use Rattle.undo_journal.specs.StoreCalls.{OnlyReads, TxnReads, Sets, UnlessFailed, Reads, Leaves, Changes, ReadsIn}
use Rattle.undo_journal.specs.StoreCalls.{SetsIn}
use Rattle.undo_journal.specs.laws.Memory.{reports_then, writes_then}
use Rattle.undo_journal.specs.laws.Calls.{reads_then, reads_same, reads_spend, writes_after, within_more}
use Rattle.undo_journal.specs.laws.Calls.{txn_reads_then, sets_then, sets_weaker}

-- the error that is answered is the one that was handed on
pub told_is : {T E : Type 0} (r : Result T E) (e : E) → IsErrAnd r (λ f. f ≡ e) → Some e ≡ result_err r
told_is (Ok v) e is = absurd is
told_is {T} {E} (Err f) e is = ap (λ (x : E). Some x) (sym is)

-- and nothing is said of the store but that it has failed
pub none_ready : {T : Type 0} (r : Result T StoreErr) (e : StoreErr) (P : Type 0) → IsErrAnd r (λ f. f ≡ e)
    → UnlessFailed (result_err r) P
none_ready (Ok v) e P is = absurd is
none_ready (Err f) e P is = tt

-- reads in a row
pub reads_on : (a b c : Memory) (told : Option StoreErr) → OnlyReads a b → Reads b c told → Reads a c told
reads_on a b c told first rest = record {
  only = reads_then a b c first rest.only;
  ready = rest.ready;
  tells = rest.tells;
}

pub reads_handed : {T : Type 0} (a b : Memory) (r : Result T StoreErr) (e : StoreErr) → IsErrAnd r (λ f. f ≡ e)
    → Reads a b (Some e) → Reads a b (result_err r)
reads_handed a b r e is reads = subst (λ (told : Option StoreErr). Reads a b told) (told_is r e is) reads

-- what reads so far left ready
pub reads_so_far : (a b : Memory) → OnlyReads a b → IsReady b → Reads a b None
reads_so_far a b reads ready = record { only = reads; ready = ready; tells = ready.usable.works }

-- no call at all
pub reads_none : (a : Memory) → IsReady a → Reads a a None
reads_none a ready = reads_so_far a a (reads_same a) ready

-- reads leave a store idle, and cost nothing
pub reads_leave : (a b : Memory) (told : Option StoreErr) → IsIdle a → Reads a b told → Leaves a b told
reads_leave a b told idle reads = record {
  reports = reads.only.reports;
  idle = reads.only.keeps.taken ∙ idle;
  ready = reads.ready;
  tells = reads.tells;
}

pub reads_change : (n : ℕ) (a b : Memory) (told : Option StoreErr) → IsIdle a → Reads a b told → Changes n a b told
reads_change n a b told idle reads = record {
  reports = reads.only.reports;
  idle = reads.only.keeps.taken ∙ idle;
  ready = reads.ready;
  tells = reads.tells;
  writes = reads_spend n a b reads.only;
}

-- calls that may write, after others
pub leaves_on : (a b c : Memory) (told : Option StoreErr) → Reports a b → Leaves b c told → Leaves a c told
leaves_on a b c told first rest = record {
  reports = reports_then a b c first rest.reports;
  idle = rest.idle;
  ready = rest.ready;
  tells = rest.tells;
}

pub changes_after : (n : ℕ) (a b c : Memory) (told : Option StoreErr) → OnlyReads a b → Changes n b c told
    → Changes n a c told
changes_after n a b c told first rest = record {
  reports = reports_then a b c first.reports rest.reports;
  idle = rest.idle;
  ready = rest.ready;
  tells = rest.tells;
  writes = writes_after n a b c.facts first rest.writes;
}

pub changes_on : (i k n : ℕ) (a b c : Memory) (told : Option StoreErr) → i + k ≤ n → Changes i a b None
    → Changes k b c told → Changes n a c told
changes_on i k n a b c told fits first rest = record {
  reports = reports_then a b c first.reports rest.reports;
  idle = rest.idle;
  ready = rest.ready;
  tells = rest.tells;
  writes = within_more (i + k) n a.facts c.facts fits
      (writes_then i k a.facts b.facts c.facts first.writes rest.writes);
}

-- reads after calls that may write
pub reads_after : (n : ℕ) (a b c : Memory) (told : Option StoreErr) → Changes n a b None → Reads b c told
    → Changes n a c told
reads_after n a b c told first reads =
    changes_on n 0 n a b c told (omega arith) first (reads_change 0 b c told first.idle reads)

-- a bound may be higher
pub changes_within : (n k : ℕ) (a b : Memory) (told : Option StoreErr) → n ≤ k → Changes n a b told → Changes k a b told
changes_within n k a b told fits changes = record {
  reports = changes.reports;
  idle = changes.idle;
  ready = changes.ready;
  tells = changes.tells;
  writes = within_more n k a.facts b.facts fits changes.writes;
}

pub changes_leave : (n : ℕ) (a b : Memory) (told : Option StoreErr) → Changes n a b told → Leaves a b told
changes_leave n a b told changes = record {
  reports = changes.reports;
  idle = changes.idle;
  ready = changes.ready;
  tells = changes.tells;
}

pub leaves_handed : {T : Type 0} (a b : Memory) (r : Result T StoreErr) (e : StoreErr) → IsErrAnd r (λ f. f ≡ e)
    → Leaves a b (Some e) → Leaves a b (result_err r)
leaves_handed a b r e is leaves = subst (λ (told : Option StoreErr). Leaves a b told) (told_is r e is) leaves

pub changes_handed : {T : Type 0} (n : ℕ) (a b : Memory) (r : Result T StoreErr) (e : StoreErr)
    → IsErrAnd r (λ f. f ≡ e) → Changes n a b (Some e) → Changes n a b (result_err r)
changes_handed n a b r e is changes = subst (λ (told : Option StoreErr). Changes n a b told) (told_is r e is) changes

-- in a transaction
pub reads_in_on : {B : Type 0} (a b c : Txn B) (told : Option StoreErr) → TxnReads a b → ReadsIn b c told
    → ReadsIn a c told
reads_in_on a b c told first rest = record {
  only = txn_reads_then a b c first rest.only;
  ready = rest.ready;
  tells = rest.tells;
}

pub reads_in_handed : {B T : Type 0} (a b : Txn B) (r : Result T StoreErr) (e : StoreErr) → IsErrAnd r (λ f. f ≡ e)
    → ReadsIn a b (Some e) → ReadsIn a b (result_err r)
reads_in_handed a b r e is reads = subst (λ (told : Option StoreErr). ReadsIn a b told) (told_is r e is) reads

pub sets_in_on : {B : Type 0} (i k n : ℕ) (a b c : Txn B) (told : Option StoreErr) → i + k ≤ n → Sets i a b
    → SetsIn k b c told → SetsIn n a c told
sets_in_on i k n a b c told fits first rest = record {
  sets = sets_then i k n a b c fits first rest.sets;
  ready = rest.ready;
  tells = rest.tells;
}

-- a bound on sets may be higher
pub sets_in_within : {B : Type 0} (i n : ℕ) (a b : Txn B) (told : Option StoreErr) → i ≤ n → SetsIn i a b told
    → SetsIn n a b told
sets_in_within i n a b told fits calls = record {
  sets = sets_weaker i n a b fits calls.sets;
  ready = calls.ready;
  tells = calls.tells;
}

pub sets_in_handed : {B T : Type 0} (n : ℕ) (a b : Txn B) (r : Result T StoreErr) (e : StoreErr)
    → IsErrAnd r (λ f. f ≡ e) → SetsIn n a b (Some e) → SetsIn n a b (result_err r)
sets_in_handed n a b r e is sets = subst (λ (told : Option StoreErr). SetsIn n a b told) (told_is r e is) sets

-- where no set was made nothing waits
pub idle_waits : (m : Memory) → IsIdle m → m.waiting ≡ []
idle_waits m idle = nil_from_length m.waiting (let none : length m.waiting ≡ 0 = omega (arith, idle) in none)
