-- What a call promises, handed on: by a call that answers for it, or by one that promises less of the words.
use Rattle.std.proofs.Common.{sym, refl, ap, subst, inl, arith}
use Rattle.std.proofs.Math.Logic.{⊎_map}
use Rattle.std.proofs.lemmas.Result.{on_ok_weaker}
use Rattle.std.specs.Prelude.{◌≡◌, ◌≤◌, ◌+◌, ℕ, List, [], Option, Some, None, Result, Ok, Err, IsErrAnd, OnOk}
use Rattle.std.specs.Prelude.{option_map}
use Rattle.std.specs.Result.{result_err}
use Rattle.card_model.specs.declared.status.Sw.{Sw}
use Rattle.undo_journal.specs.declared.error.StoreErr.{StoreErr}
use Rattle.undo_journal.specs.StoreCalls.{Reads, Changes}
use Rattle.undo_journal.specs.Memory.{Memory, committed, IsReady}
use Rattle.undo_journal.specs.laws.Told.{changes_within, reads_change, reads_none}
use Rattle.ef_contents.specs.declared.error.BodyErr.{BodyErr}
use Rattle.ef_contents.specs.declared.error.BodyErr.TheVariants.{Refused, Store}
use Rattle.ef_contents.specs.BodyCalls.{Commits, CommitsUnlessRefused, ReadsInto, ReadsUnlessRefused}
use Rattle.ef_contents.specs.laws.Refusing.{store_decides, store_done, store_refuses, store_told}

-- what is committed is something else too
pub commits_weaker : {T : Type 0} (n : ℕ) (old new : Memory) (r : Result T StoreErr) (P Q : List ℕ → Type 0)
    → (P (committed new) → Q (committed new)) → Commits P n old new r → Commits Q n old new r
commits_weaker n old new r P Q also commits = record {
  any_exit = ⊎_map (λ kept. kept) also commits.any_exit;
  done = on_ok_weaker r also commits.done;
  by_gate = commits.by_gate;
  turned = λ shut more. also (commits.turned shut more);
  store = commits.store;
}

-- a bound may be higher
pub commits_within : {T : Type 0} (n k : ℕ) (old new : Memory) (r : Result T StoreErr) (P : List ℕ → Type 0) → n ≤ k
    → Commits P n old new r → Commits P k old new r
commits_within n k old new r P fits commits = record {
  any_exit = commits.any_exit;
  done = commits.done;
  by_gate = commits.by_gate;
  turned = commits.turned;
  store = changes_within n k old new (result_err r) fits commits.store;
}

-- what a call costs at an offset, said of the slot that lies there
pub counted_at : {T : Type 0} (r : Result T StoreErr) (costs : ℕ → ℕ) (old new at offset : ℕ) → at ≡ offset
    → OnOk r (new ≡ old + costs at) → OnOk r (new ≡ old + costs offset)
counted_at r costs old new at offset is counts = subst (λ (o : ℕ). OnOk r (new ≡ old + costs o)) is counts

-- the store's answer, as a body's, of a call that nothing refuses
module _ {T : Type 0} (r : Result T StoreErr) (s : Result T BodyErr)
    (is : result_err s ≡ option_map Store (result_err r)) (due : Option Sw) (none : due ≡ None) (old new : Memory)
  where
    pub store_reads : (wanted buffer : List ℕ) → ReadsInto wanted old new buffer r
        → ReadsUnlessRefused due wanted old new buffer s
    store_reads wanted buffer reads = record {
      bytes = store_done r s is _ reads.bytes;
      any_exit = reads.any_exit;
      refusal = store_decides r s is due none;
      refused = store_refuses r s is _;
      store = store_told r s is (Reads old new) reads.store;
    }

    pub store_commits : (n : ℕ) (becomes : List ℕ → Type 0) → Commits becomes n old new r
        → CommitsUnlessRefused due becomes n old new s
    store_commits n becomes commits = record {
      any_exit = commits.any_exit;
      done = store_done r s is _ commits.done;
      refusal = store_decides r s is due none;
      refused = store_refuses r s is _;
      by_gate = commits.by_gate;
      turned = commits.turned;
      store = store_told r s is (Changes n old new) commits.store;
    }

-- the answer is the refusal that was handed on
refusal_is : {T : Type 0} (r : Result T BodyErr) (status : Sw) → IsErrAnd r (λ b. b ≡ Refused status)
    → Err (Refused status) ≡ r
refusal_is (Ok v) status is = absurd is
refusal_is {T} (Err e) status is = ap (λ (b : BodyErr). let r : Result T BodyErr = Err b in r) (sym is)

-- a call that is refused
module _ {T : Type 0} (r : Result T BodyErr) (status : Sw) (is : IsErrAnd r (λ b. b ≡ Refused status))
    (due : Option Sw)
    (is_due : due ≡ Some status) (old : Memory) (ready : IsReady old) where
  pub refused_reads : (wanted buffer : List ℕ) → buffer ≡ [] → ReadsUnlessRefused due wanted old old buffer r
  refused_reads wanted buffer empty =
      subst (λ (r : Result T BodyErr). ReadsUnlessRefused due wanted old old buffer r) (refusal_is r status is)
      (record {
        bytes = tt;
        any_exit = record { some = 0; is = empty };
        refusal = is_due;
        refused = (empty, refl);
        store = reads_none old ready;
      })

  pub refused_commits : (n : ℕ) (becomes : List ℕ → Type 0) → CommitsUnlessRefused due becomes n old old r
  refused_commits n becomes =
      subst (λ (r : Result T BodyErr). CommitsUnlessRefused due becomes n old old r) (refusal_is r status is)
      (record {
        any_exit = inl refl;
        done = tt;
        refusal = is_due;
        refused = refl;
        by_gate = inl refl;
        turned = λ shut more. absurd (omega (arith, more));
        store = reads_change n old old None ready.idle (reads_none old ready);
      })
