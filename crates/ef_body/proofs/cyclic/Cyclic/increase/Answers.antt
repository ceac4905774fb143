use Rattle.std.specs.Prelude.{◌≡◌, ◌⊎◌, Option}
use Rattle.std.proofs.Common.{rules, ◌∙◌, List, ℕ, ap, inl, sym, subst, length}
use Rattle.undo_journal.specs.StoreCalls.{Changes}
use Rattle.undo_journal.specs.Memory.{committed}
use Rattle.undo_journal.specs.laws.Told.{changes_after, reads_change, told_is}
use Rattle.ef_body.specs.declared.layout.TheConstants.{RECORD_WRITES}
use Rattle.ef_body.specs.declared.cyclic.Cyclic.{Cyclic}
use Rattle.ef_body.specs.Bodies.{cyclic_body_records}
use Rattle.ef_contents.specs.Refusals.{why_failed}
use Rattle.ef_contents.specs.declared.error.BodyErr.{BodyErr}
use Rattle.card_model.specs.RecordLists.{raised_number}
use Rattle.std.proofs.Math.Logic.{⊎_map}
use Rattle.std.proofs.lemmas.Result.{on_ok_weaker}
use Rattle.undo_journal.specs.Commits.{TurnsGate}
use Rattle.ef_body.proofs.Increasing.{handed_sum, increases, stored_sum}
use Rattle.ef_contents.specs.laws.Refusing.{store_done, store_told}
use Rattle.card_model.specs.laws.Spelling.{length-spelled}
use Rattle.ef_body.proofs.cyclic.Cyclic.increase.Goals as goal

pub returns-clause-store : goal.returns-clause-store
returns-clause-store g c =
    store_told c.replace_oldest.result c.from_store.result c.from_store.ensures
    (Changes RECORD_WRITES c.args.store.now c.replace_oldest.new.store)
    (changes_after _ _ _ _ _ c.raise.ensures.store.only c.replace_oldest.ensures.commits.store)

pub returns-in_err-newest-clause-store : goal.returns-in_err-newest-clause-store
returns-in_err-newest-clause-store g c =
    subst (λ (told : Option BodyErr). Changes RECORD_WRITES c.args.store.now c.raise.new.store (why_failed told))
    (told_is _ _ c.from_residual.ensures.1)
    (reads_change RECORD_WRITES _ _ _ c.requires.body.ready.idle c.in_err-newest.ensures.store)

pub replace_oldest-requires : goal.replace_oldest-requires
replace_oldest-requires g c = record {
  body = record {
    ready = search rules;
    body = search rules;
    size = let m = committed c.args.store.now in
        ap (λ (l : List ℕ). length l) (c.deref.ensures.0 ∙ c.in_ok-newest.ensures.sum.bytes)
        ∙ length-spelled c.args.self.record_length (raised_number (cyclic_body_records m c.args.self) c.args.sent.now)
        ∙ ap (λ (r : Cyclic). r.record_length) (sym c.in_ok-newest.ensures.found.0);
  };
}

pub returns-in_err-newest-clause-sum : goal.returns-in_err-newest-clause-sum
returns-in_err-newest-clause-sum g c =
    handed_sum _ _ c.from_residual.ensures.1 _ _ _ _ c.in_err-newest.ensures.sum

pub returns-in_err-newest-clause-any_exit : goal.returns-in_err-newest-clause-any_exit
returns-in_err-newest-clause-any_exit g c = inl c.raise.ensures.store.only.keeps.committed_words

pub returns-in_err-newest-clause-refused : goal.returns-in_err-newest-clause-refused
returns-in_err-newest-clause-refused g c = λ status due. c.raise.ensures.store.only

pub returns-in_err-newest-clause-by_gate : goal.returns-in_err-newest-clause-by_gate
returns-in_err-newest-clause-by_gate g c = inl c.raise.ensures.store.only.keeps.committed_words

pub returns-clause-sum : goal.returns-clause-sum
returns-clause-sum g c =
    let m = committed c.args.store.now in
    stored_sum c.replace_oldest.result c.from_store.result c.from_store.ensures c.args.self.record_length
    (cyclic_body_records m c.args.self) c.args.sent.now c.raise.new.bytes.items c.in_ok-newest.ensures.sum.bytes
    c.in_ok-newest.ensures.sum.refusal

pub returns-clause-any_exit : goal.returns-clause-any_exit
returns-clause-any_exit g c =
    let same = c.raise.ensures.store.only.keeps.committed_words in
    ⊎_map (λ kept. kept ∙ same)
    (increases _ _ _ c.args.self c.in_ok-newest.newest.ring c.args.sent.now c.deref.result.now same
    c.in_ok-newest.ensures.found.0 (c.deref.ensures.0 ∙ c.in_ok-newest.ensures.sum.bytes))
    c.replace_oldest.ensures.commits.any_exit

pub returns-clause-done : goal.returns-clause-done
returns-clause-done g c =
    let same = c.raise.ensures.store.only.keeps.committed_words in
    store_done c.replace_oldest.result c.from_store.result c.from_store.ensures _
    (on_ok_weaker c.replace_oldest.result
    (increases _ _ _ c.args.self c.in_ok-newest.newest.ring c.args.sent.now c.deref.result.now same
    c.in_ok-newest.ensures.found.0 (c.deref.ensures.0 ∙ c.in_ok-newest.ensures.sum.bytes))
    c.replace_oldest.ensures.commits.done)

pub returns-clause-refused : goal.returns-clause-refused
returns-clause-refused g c = λ status due.
    let none = c.in_ok-newest.ensures.sum.refusal in cc

pub returns-clause-by_gate : goal.returns-clause-by_gate
returns-clause-by_gate g c =
    let new = c.replace_oldest.new.store in
    subst (λ (m : List ℕ). (committed new ≡ m) ⊎ TurnsGate m new) c.raise.ensures.store.only.keeps.committed_words
    c.replace_oldest.ensures.commits.by_gate
