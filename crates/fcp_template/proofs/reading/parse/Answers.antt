use Rattle.std.proofs.Common.{ℕ, ◌≡◌, ◌≤◌, ◌∷◌, List, length, ap, subst, sym, ◌∙◌, Result, Err, inl, inr, refl}
use Rattle.card_model.specs.declared.fcp.Fcp.{Fcp}
use Rattle.card_model.specs.declared.fault.FcpFault.{FcpFault}
use Rattle.card_model.specs.declared.fault.FcpFault.TheVariants.{Shape}
use Rattle.card_model.specs.TemplateGrammar.{objects_text, FcpReads}
use Rattle.fcp_template.specs.ObjectParts.{BodyReads, IsBody}
use Rattle.fcp_template.proofs.OneReading.{fcp_read-is}
use Rattle.fcp_template.proofs.reading.parse.Goals as goal

-- a text reads as its bytes behind tag and length
reads_body : (text body : List ℕ) (read : Result Fcp FcpFault) → IsBody text body → BodyReads body read
    → FcpReads text read
reads_body text body read is (inl h) =
    inl (
      h.0,
      record {
        spelled = is.spelled ∙ ap (λ (bytes : List ℕ). 0x62 ∷ length bytes ∷ bytes) h.1;
        short = subst (λ (bytes : List ℕ). length bytes ≤ 0x7F) h.1 is.short;
      },
      h.2,
    )
reads_body text body read is (inr h) =
    inr (
      (λ os t.
          let own = is.spelled in
          let spelled = t.spelled in
          let same : body ≡ objects_text os = cc in
          h.0 os same),
      h.1,
    )

-- without them it reads as the fault Shape
reads_none : (text : List ℕ) → ((body : List ℕ) → IsBody text body → ⊥) → FcpReads text (Err Shape)
reads_none text none =
    inr ((λ os t. none (objects_text os) (record { spelled = t.spelled; short = t.short })), refl)

-- and as nothing else
reads_only : (text : List ℕ) (read other : Result Fcp FcpFault) → FcpReads text read → FcpReads text other
    → other ≡ read
reads_only text read other mine reads = fcp_read-is text other reads ∙ sym (fcp_read-is text read mine)

pub returns-in-Some-clause-reads : goal.returns-in-Some-clause-reads
returns-in-Some-clause-reads c =
    reads_body c.args.text.now _ c.parse_body.result c.in-Some.ensures.body c.parse_body.ensures.reads

pub returns-in-Some-clause-only : goal.returns-in-Some-clause-only
returns-in-Some-clause-only c = λ other.
    reads_only c.args.text.now c.parse_body.result other
    (reads_body c.args.text.now _ c.parse_body.result c.in-Some.ensures.body c.parse_body.ensures.reads)

pub returns-in-Some-clause-value : goal.returns-in-Some-clause-value
returns-in-Some-clause-value c =
    fcp_read-is c.args.text.now c.parse_body.result
    (reads_body c.args.text.now _ c.parse_body.result c.in-Some.ensures.body c.parse_body.ensures.reads)

pub returns-in-None-clause-reads : goal.returns-in-None-clause-reads
returns-in-None-clause-reads c = reads_none c.args.text.now c.in-None.ensures.none

pub returns-in-None-clause-only : goal.returns-in-None-clause-only
returns-in-None-clause-only c = λ other.
    reads_only c.args.text.now (Err Shape) other (reads_none c.args.text.now c.in-None.ensures.none)

pub returns-in-None-clause-value : goal.returns-in-None-clause-value
returns-in-None-clause-value c =
    fcp_read-is c.args.text.now (Err Shape) (reads_none c.args.text.now c.in-None.ensures.none)
