-- Laws of a transaction that is begun on a ready store, worked in and ended: `a` is the store before it, `b` as it is
-- begun, `t` after the work, `c` as the end leaves it, and `x` the store afterwards.
use Rattle.std.specs.Prelude.{Option, Some, None, Result, Ok, Err, OnOk, IsOk}
use Rattle.std.specs.Result.{result_err}
use Rattle.std.specs.Prelude.{if◌then◌else◌}
use Rattle.std.proofs.lemmas.Bool.Decides.{eqb_tells}
use Rattle.std.proofs.Common.{◌≡◌, ◌≢◌, ◌⊎◌, ◌≤◌, ◌<◌, ◌+◌, ℕ, Bool, List, refl, sym, ◌∙◌, ap, subst, inl, inr}
use Rattle.std.proofs.Common.{⊎_elim, true≢false, arith}
use Rattle.nvm_board.specs.Facts.{Facts}
use Rattle.nvm_board.specs.laws.Aims.{aims_then}
use Rattle.undo_journal.specs.declared.error.StoreErr.{StoreErr}
use Rattle.undo_journal.specs.StoreCalls.{Changes}
use Rattle.undo_journal.specs.Commits.{CommitsByGate, CommitsLast, RisesEarly, TurnedCommits, TurnsGate, TurnsTo}
use Rattle.undo_journal.specs.Endings.{ended, end_writes}
use Rattle.undo_journal.specs.Batches.{batch_writes}
use Rattle.undo_journal.specs.Memory.{Memory, committed, current, commit_writes, CountsCommit, InRuns, IsIdle, IsReady}
use Rattle.undo_journal.specs.Memory.{Reports, taken}
use Rattle.undo_journal.specs.Spending.{transaction_writes}
use Rattle.undo_journal.specs.Undo.{gate}
use Rattle.undo_journal.specs.laws.LastWrites.{last_then}
use Rattle.undo_journal.specs.laws.Memory.{reports_then}
use Rattle.undo_journal.specs.laws.Told.{idle_waits}
use Rattle.undo_journal.specs.laws.Transactions.{begun, stays, stays_spends}

-- what the work made of the current words is made of the committed ones
lasts : (P : List ℕ → List ℕ → Type 0) (a b t c x : Memory) → b ≡ a → x ≡ c → IsReady a → P (current b) (current t)
    → committed c ≡ current t → P (committed a) (committed x)
lasts P a b t c x same last ready made is =
    let after : committed x ≡ current t = ap committed last ∙ is in
    let by_words : List ℕ → Type 0 = λ m. P m (committed x) in
    let by_after : List ℕ → Type 0 = λ l. P (current b) l in
    subst by_words (sym (begun a b same ready)) (subst by_after (sym after) made)

-- it ends so only where it was done
done_work : {T : Type 0} (P Q : Type 0) (work : Result T StoreErr) → OnOk work P → IsOk work → (P → Q) → Q
done_work P Q (Ok v) made is f = f made
done_work P Q (Err e) made is f = absurd (true≢false (sym is))

-- at every exit the words are as before, or the work's
pub ends : {T : Type 0} (P : List ℕ → List ℕ → Type 0) (G : Type 0) (work : Result T StoreErr) (a b t c x : Memory)
    → b ≡ a → x ≡ c → IsReady a → committed t ≡ committed b → OnOk work (P (current b) (current t))
    → (committed c ≡ committed t) ⊎ (IsOk work × (committed c ≡ current t) × G)
    → (committed x ≡ committed a) ⊎ P (committed a) (committed x)
ends P G work a b t c x same last ready kept made exit = ⊎_elim
    (λ still. inl (stays a b t c x same last kept still))
    (λ turned. inr (done_work (P (current b) (current t)) (P (committed a) (committed x)) work made turned.0
    (λ p. lasts P a b t c x same last ready p turned.1)))
    exit

-- by the gate alone
pub ends_by_gate : (W P : Type 0) (a b t c x : Memory) → b ≡ a → x ≡ c → committed t ≡ committed b
    → (committed c ≡ committed t) ⊎ (W × P × TurnsGate (committed t) c) → CommitsByGate a x
ends_by_gate W P a b t c x same last kept exit =
    let before : committed t ≡ committed a = kept ∙ ap committed same in
    subst (λ (m : Memory). CommitsByGate a m) (sym last)
    (⊎_elim (λ still. inl (still ∙ before))
    (λ turned. inr (subst (λ (l : List ℕ). TurnsGate l c) before turned.2)) exit)

-- its end can't have turned the gate so early
ends_early : (P : Type 0) (a b t c x : Memory) → b ≡ a → x ≡ c → c.facts.writes ≤ b.facts.writes + 2
    → a.facts.writes + 2 < x.facts.writes → P
ends_early P a b t c x same last few more =
    let first = ap (λ (m : Memory). m.facts.writes) same in
    let end = ap (λ (m : Memory). m.facts.writes) last in
    absurd (omega (arith, first, end, few, more))

-- once the gate has turned they are the work's
pub ends_turned : {T : Type 0} (P : List ℕ → List ℕ → Type 0) (work : Result T StoreErr) (a b t c x : Memory) → b ≡ a
    → x ≡ c → IsReady a → RisesEarly b t → OnOk work (P (current b) (current t)) → t.failed ≡ result_err work
    → Reports t c → (IsOk work → TurnedCommits t c) → TurnsTo (P (committed a)) a x
ends_turned P (Ok v) a b t c x same last ready rises made tells reports turned = λ shut more.
    ⊎_elim
    (λ (is : committed c ≡ current t). lasts P a b t c x same last ready made is)
    (λ early.
    let before = (rises early.1).2 tells in
    let after = early.2 in
    ends_early (P (committed a) (committed x)) a b t c x same last (omega (arith, before, after)) more)
    (turned refl (sym (ap (λ (m : Memory). gate m.facts.words) last) ∙ shut) tells)
ends_turned P (Err e) a b t c x same last ready rises made tells reports turned = λ shut more.
    let kept = (reports.stuck e tells).1 in
    let closed = sym (ap (λ (f : Facts). gate f.words) kept)
    ∙ sym (ap (λ (m : Memory). gate m.facts.words) last) ∙ shut in
    let before = (rises closed).1 in
    let same_writes = ap (λ (f : Facts). f.writes) kept in
    ends_early (P (committed a) (committed x)) a b t c x same last (omega (arith, before, same_writes)) more

-- where it is answered they are the work's
pub ends_done : {T : Type 0} (P : List ℕ → List ℕ → Type 0) (work result : Result T StoreErr) (a b t c x : Memory)
    → b ≡ a → x ≡ c → IsReady a → OnOk work (P (current b) (current t)) → result ≡ ended work c.failed
    → OnOk result (committed c ≡ current t) → OnOk result (P (committed a) (committed x))
ends_done {T} P (Err e) result a b t c x same last ready made told is =
    subst (λ (r : Result T StoreErr). OnOk r (P (committed a) (committed x))) (sym told) tt
ends_done P (Ok v) (Err e) a b t c x same last ready made told is = tt
ends_done P (Ok v) (Ok w) a b t c x same last ready made told is = lasts P a b t c x same last ready made is

-- and then its device writes are those that the work counts
pub ends_counted : {T : Type 0} (n : ℕ) (work result : Result T StoreErr) (a b t c x : Memory) → b ≡ a → x ≡ c
    → IsReady a → OnOk work (CountsCommit n b t) → result ≡ ended work c.failed
    → (c.failed ≡ None → c.facts.writes ≡ t.facts.writes + end_writes work t)
    → OnOk result (x.facts.writes ≡ a.facts.writes + n)
ends_counted {T} n (Err e) result a b t c x same last ready counts told counted =
    subst (λ (r : Result T StoreErr). OnOk r (x.facts.writes ≡ a.facts.writes + n)) (sym told) tt
ends_counted {T} n (Ok v) result a b t c x same last ready counts told counted = by_failure c.failed refl
  where
    by_failure : (f : Option StoreErr) → c.failed ≡ f → OnOk result (x.facts.writes ≡ a.facts.writes + n)
    by_failure (Some e) is =
        let error : result ≡ Err e = told ∙ ap (λ (o : Option StoreErr). ended (Ok v) o) is in
        subst (λ (r : Result T StoreErr). OnOk r (x.facts.writes ≡ a.facts.writes + n)) (sym error) tt
    by_failure None is =
        let answer : result ≡ Ok v = told ∙ ap (λ (o : Option StoreErr). ended (Ok v) o) is in
        let idle : IsIdle b = subst (λ (m : Memory). IsIdle m) (sym same) ready.idle in
        let all = counts idle in
        let first = ap (λ (m : Memory). m.facts.writes) same in
        let end = ap (λ (m : Memory). m.facts.writes) last in
        subst (λ (r : Result T StoreErr). OnOk r (x.facts.writes ≡ a.facts.writes + n)) (sym answer)
        (omega (arith, counted is, all, first, end))

-- what the sets of a transaction and its commit cost
transaction_costs : (n r : ℕ) (b t : Memory) → IsIdle b → taken t ≤ taken b + n → InRuns r b t
    → t.facts.writes + commit_writes t ≤ b.facts.writes + transaction_writes n r
transaction_costs n r b t idle few runs =
    let none = ap batch_writes (idle_waits b idle) in
    elim (eqb_tells (taken t) 0) [
      | inl nothing ↦
          let commit = ap (λ (z : Bool). if z then 0 else batch_writes t.waiting + 1) nothing.0 in
          omega (arith, idle, few, runs.writes, none, commit, nothing.1)
      | inr some ↦
          let commit = ap (λ (z : Bool). if z then 0 else batch_writes t.waiting + 1) some.0 in
          let more : taken t ≢ 0 = some.1 in
          omega (arith, idle, few, runs.writes, none, commit, more)
    ]

-- one that is committed
spent_done : (r k : ℕ) (a b t c x : Memory) (told : Option StoreErr) → t.facts.writes + commit_writes t ≤ b.facts.writes
    + k → b ≡ a → x ≡ c → Reports b t → InRuns r b t → Changes (commit_writes t) t c told → Changes k a x told
spent_done r k a b t c x told costs begun last first runs rest =
    subst (λ (m : Memory). Changes k m x told) begun
    (subst (λ (m : Memory). Changes k b m told) (sym last) (record {
      reports = reports_then b t c first rest.reports;
      idle = rest.idle;
      ready = rest.ready;
      tells = rest.tells;
      writes = record {
        writes = omega (arith, costs, rest.writes.writes);
        more = omega (arith, runs.more, rest.writes.more);
        cut = aims_then b.facts t.facts c.facts runs.cut rest.writes.cut;
        compares = rest.writes.compares ∙ runs.compares;
        matches = rest.writes.matches ∙ runs.matches;
      };
    }))

-- one whose work failed: what abandoning it does is nothing
spent_failed : (r k i : ℕ) (a b t c x : Memory) (told : Option StoreErr) (e : StoreErr)
    → t.facts.writes ≤ b.facts.writes + k → b ≡ a → x ≡ c → Reports b t → InRuns r b t → t.failed ≡ Some e
    → Changes i t c told → Changes k a x told
spent_failed r k i a b t c x told e costs begun last first runs failed rest =
    let same = stays_spends t.facts c.facts (rest.reports.stuck e failed).1 in
    subst (λ (m : Memory). Changes k m x told) begun
    (subst (λ (m : Memory). Changes k b m told) (sym last) (record {
      reports = reports_then b t c first rest.reports;
      idle = rest.idle;
      ready = rest.ready;
      tells = rest.tells;
      writes = record {
        writes = omega (arith, costs, same.writes);
        more = omega (arith, runs.more, same.more);
        cut = aims_then b.facts t.facts c.facts runs.cut same.cut;
        compares = same.compares ∙ runs.compares;
        matches = same.matches ∙ runs.matches;
      };
    }))

-- the store tells what is answered
ended_tells : {T : Type 0} (work result : Result T StoreErr) (failed : Option StoreErr) → result ≡ ended work failed
    → ((e : StoreErr) → result_err work ≡ Some e → failed ≡ Some e) → failed ≡ result_err result
ended_tells (Err e) result failed told stuck = stuck e refl ∙ sym (ap result_err told)
ended_tells {T} (Ok v) result None told stuck = sym (ap result_err told)
ended_tells {T} (Ok v) result (Some e) told stuck = sym (ap result_err told)

-- What they cost where it is known, of work that is done and of work that failed, and what the store is then: one whose
-- work failed has failed, and what the end does is nothing.
pub ends_within : {T : Type 0} (r k : ℕ) (work result : Result T StoreErr) (a b t c x : Memory)
    → OnOk work (t.facts.writes + commit_writes t ≤ b.facts.writes + k) → t.facts.writes ≤ b.facts.writes + k → b ≡ a
    → x ≡ c → Reports b t → InRuns r b t → t.failed ≡ result_err work → Changes (end_writes work t) t c c.failed
    → result ≡ ended work c.failed → Changes k a x (result_err result)
ends_within {T} r k work result a b t c x costs so_far same last first runs failed rest told =
    let tells : c.failed ≡ result_err result =
    ended_tells work result c.failed told (λ e is. (rest.reports.stuck e (failed ∙ is)).0) in
    subst (λ (o : Option StoreErr). Changes k a x o) tells (by_work work costs failed rest)
  where
    by_work : (w : Result T StoreErr) → OnOk w (t.facts.writes + commit_writes t ≤ b.facts.writes + k)
        → t.failed ≡ result_err w → Changes (end_writes w t) t c c.failed → Changes k a x c.failed
    by_work (Ok v) costs works rest = spent_done r k a b t c x c.failed costs same last first runs rest
    by_work (Err e) none fails rest = spent_failed r k _ a b t c x c.failed e so_far same last first runs fails rest

-- the same by how many sets the work makes, in how many runs
pub ends_answered : {T : Type 0} (n r k : ℕ) (work result : Result T StoreErr) (a b t c x : Memory)
    → transaction_writes n r ≤ k → b ≡ a → x ≡ c → IsReady a → taken t ≤ taken b + n → Reports b t → InRuns r b t
    → t.failed ≡ result_err work
    → Changes (end_writes work t) t c c.failed → result ≡ ended work c.failed → Changes k a x (result_err result)
ends_answered {T} n r k work result a b t c x fits same last ready few first runs failed rest told =
    let idle : IsIdle b = subst (λ (m : Memory). IsIdle m) (sym same) ready.idle in
    let costs = transaction_costs n r b t idle few runs in
    let all : t.facts.writes + commit_writes t ≤ b.facts.writes + k = omega (arith, costs, fits) in
    ends_within r k work result a b t c x (always work all) (omega (arith, all)) same last first runs failed rest told
  where
    always : (w : Result T StoreErr) → t.facts.writes + commit_writes t ≤ b.facts.writes + k
        → OnOk w (t.facts.writes + commit_writes t ≤ b.facts.writes + k)
    always (Ok v) all = all
    always (Err e) all = tt

-- only its last device write may commit
pub ends_last : (a b t c x : Memory) → b ≡ a → x ≡ c → committed t ≡ committed b → Reports b t
    → CommitsLast b.facts t.facts → CommitsLast t.facts c.facts → CommitsLast a.facts x.facts
ends_last a b t c x same last kept reports work end =
    subst (λ (m : Memory). CommitsLast a.facts m.facts) (sym last)
    (subst (λ (m : Memory). CommitsLast m.facts c.facts) same
    (last_then b.facts t.facts c.facts work (record { sound = reports.sound; words = kept }) end))
