use Rattle.std.specs.Prelude.{◌≡◌, Ok}
use Rattle.std.proofs.Common.{◌∙◌, ap, sym}
use Rattle.t1_link.specs.Blocks.{heard}
use Rattle.t1_link.specs.SpokenParts.{block_of, spoken}
use Rattle.t1_link.specs.laws.Blocks.{frame-heard}
use Rattle.t1_link.proofs.card_end.CardEnd.take.Goals as goal

pub take_block-requires-clause-spellable : goal.take_block-requires-clause-spellable
take_block-requires-clause-spellable c =
    let is_block : heard c.args.got.now ≡ Ok (block_of c.in-Ok.block) = sym c.parse.ensures ∙ ap spoken c.in-Ok.is in
    (frame-heard _ _ is_block).1
