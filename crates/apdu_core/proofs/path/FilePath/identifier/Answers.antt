use Rattle.std.proofs.Common.{arith, rules}
use Rattle.card_model.specs.laws.Identifiers.{identifier_at, identifier_stands}
use Rattle.apdu_core.proofs.path.FilePath.identifier.Goals as goal

pub overflow_mul-first : goal.overflow_mul-first
overflow_mul-first c =
    let stands = identifier_stands c.args.self.bytes.now c.args.index c.requires in
    let fits = c.ranges.self.0 in
    omega (arith, stands, fits)

pub bounds-self-first : goal.bounds-self-first
bounds-self-first c =
    let stands = identifier_stands c.args.self.bytes.now c.args.index c.requires in
    omega (arith, stands)

pub overflow_add-first : goal.overflow_add-first
overflow_add-first c =
    let stands = identifier_stands c.args.self.bytes.now c.args.index c.requires in
    let fits = c.ranges.self.0 in
    omega (arith, stands, fits)

pub bounds-self-first-2 : goal.bounds-self-first-2
bounds-self-first-2 c = identifier_stands c.args.self.bytes.now c.args.index c.requires

pub returns : goal.returns
returns c = search (rules, identifier_at)
