use Rattle.std.proofs.Common.{inl}
use Rattle.fcp_template.proofs.reading.parse_body.Goals as goal

pub returns-in-Some-clause-reads : goal.returns-in-Some-clause-reads
returns-in-Some-clause-reads c =
    inl (c.in-Some.objects, c.in-Some.ensures.filled, c.meaning.ensures.value)
