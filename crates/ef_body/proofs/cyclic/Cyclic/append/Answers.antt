use Rattle.std.proofs.Common.{refl}
use Rattle.ef_contents.specs.laws.Calling.{store_commits}
use Rattle.ef_body.proofs.cyclic.Cyclic.append.Goals as goal

pub returns : goal.returns
returns g c =
    store_commits c.push_front.result c.from_store.result c.from_store.ensures _ refl _ _ _ _
    c.push_front.ensures.commits
