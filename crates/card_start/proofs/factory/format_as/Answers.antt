use Rattle.std.proofs.Common.{◌≡◌, ◌∙◌, ap, sym, rules}
use Rattle.card_start.specs.declared.memory_format.MemoryFormat.{MemoryFormat}
use Rattle.card_model.specs.Cards.{Card, card_space}
use Rattle.card_start.specs.Factory.{factory_card, factory_end}
use Rattle.card_start.proofs.FactoryLemmas.{factory-written, space-of-factory, stands-factory}
use Rattle.card_start.proofs.FactoryFound.{stands-found}
use Rattle.card_start.proofs.factory.format_as.Goals.{in-One, in-Two}
use Rattle.card_start.proofs.factory.format_as.Goals as goal

pub returns-in-Ok : goal.returns-in-Ok
returns-in-Ok g c =
    let format = c.args.format in
    let m = (g.B.Board.facts c.args.board).words in
    let sized = (g.met.B.Board.is_board _).sized in
    let end_is : c.match-format.end ≡ factory_end format m = elim c.match-format.branch [
      | in-One w ↦ w.end-is ∙ sym (ap (λ (f : MemoryFormat). factory_end f m) w.in-One.is)
      | in-Two w ↦ w.end-is ∙ w.pages-end.ensures ∙ sym (ap (λ (f : MemoryFormat). factory_end f m) w.in-Two.is)
    ] in
    let factory = factory-written format _ _ _ end_is c.in-Ok.ensures.written in
    let stands = stands-factory format _ sized factory in
    let finds = stands-found _ sized stands.shut (factory_card _) stands in
    record {
      factory = factory;
      stands = stands;
      found = finds;
      space = ap (λ (card : Card). card_space card) finds.card ∙ space-of-factory format _ sized factory;
      written = search rules;
      power = search rules;
      power_err = tt;
      counts = search rules;
      counts_err = tt;
    }
