use Rattle.std.proofs.Common.{◌≢◌, sym, subst, ap}
use Rattle.std.specs.Prelude.{All}
use Rattle.file_tree.specs.declared.steps.Key.{Key}
use Rattle.file_tree.specs.declared.steps.Place.{Place}
use Rattle.file_tree.specs.laws.Indexes.{room, adds_key, adds_place, put_apart}
use Rattle.file_tree.proofs.index.Index.with.Goals as goal

pub put-requires : goal.put-requires
put-requires c = room c.args.self.now c.args.entry c.requires.free

pub returns : goal.returns
returns c = record {
  added = λ t after rules adds is.
      let others : Key → Type 0 = λ k. All (λ p. p.key ≢ k) c.args.self.now.places.items in
      let apart = subst others (sym c.new.ensures)
      (adds_key t after c.args.self.now c.args.parent c.args.identifier c.args.entry rules adds is) in
      let place : Place = record { key = c.new.result; entry = c.args.entry } in
      adds_place t after c.args.self.now c.put.new.self c.args.parent c.args.identifier c.args.entry place adds is
      (ap (λ (k : Key). record { key = k; entry = c.args.entry }) c.new.ensures)
      (put_apart _ place _ c.put.result apart (c.put.ensures is.sorted));
}
