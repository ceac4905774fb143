use Rattle.std.proofs.Common.{rules, ℕ, List, arith, refl, subst}
use Rattle.std.proofs.lemmas.Result.{on_ok_weaker}
use Rattle.card_model.specs.declared.status.TheConstants.Sw.{WRONG_OFFSET}
use Rattle.undo_journal.specs.Memory.{committed}
use Rattle.ef_body.specs.TransparentBodies.{transparent_bytes}
use Rattle.ef_contents.specs.BodyCalls.{ReadsInto}
use Rattle.ef_contents.specs.laws.Buffers.{all_appended, length-emptied, some_appended}
use Rattle.ef_body.proofs.Bytes.{length-transparent, inside, offset_past, offset_inside, taken_within}
use Rattle.ef_contents.specs.laws.Calling.{refused_reads, store_reads}
use Rattle.ef_body.proofs.transparent.Transparent.read.Goals as goal

pub returns-then-ends_at : goal.returns-then-ends_at
returns-then-ends_at g c =
    let m = committed c.args.store.now in
    refused_reads _ WRONG_OFFSET refl _
    (offset_past (transparent_bytes m c.args.self) c.args.self.size c.args.offset c.ends_at.result
    (length-transparent m c.args.self c.requires.body.ready.usable.committed_size c.requires.body.body)
    c.ends_at.ensures
    c.if-ends_at.true) _ c.requires.body.ready _ _ c.clear.ensures

pub read_bytes-requires : goal.read_bytes-requires
read_bytes-requires g c =
    let m = committed c.args.store.now in
    let low = inside (transparent_bytes m c.args.self) c.args.self.size c.args.offset c.ends_at.result
    (length-transparent m c.args.self c.requires.body.ready.usable.committed_size c.requires.body.body)
    c.ends_at.ensures
    c.if-ends_at.false in
    let is = c.smaller-count.ensures in
    let fits = c.requires.body.body.fits in (
      search rules,
      (
        record { ready = c.requires.body.ready; leads = c.requires.body.body.chain.leads },
        (
          omega (arith, low, is, fits),
          (
            (let size = c.requires.body.body.size in omega (arith, low, is, size)),
            omega (arith, is, length-emptied _ c.clear.ensures, c.requires.room),
          ),
        ),
      ),
    )

pub returns : goal.returns
returns g c =
    let m = committed c.args.store.now in
    let long = length-transparent m c.args.self c.requires.body.ready.usable.committed_size c.requires.body.body in
    let low = inside (transparent_bytes m c.args.self) c.args.self.size c.args.offset c.ends_at.result long
    c.ends_at.ensures c.if-ends_at.false in
    store_reads c.read_bytes.result c.from_store.result c.from_store.ensures _
    (offset_inside (transparent_bytes m c.args.self) c.args.self.size c.args.offset c.ends_at.result long
    c.ends_at.ensures c.if-ends_at.false) _ _ _ _
    (subst (λ (l : List ℕ). ReadsInto l c.args.store.now c.read_bytes.new.store c.read_bytes.new.out.items
    c.read_bytes.result)
    (taken_within m c.args.self c.requires.body.ready.usable.committed_size c.requires.body.body c.args.offset
    c.args.most
    c.smaller-count.result low c.smaller-count.ensures) (record {
      bytes = on_ok_weaker c.read_bytes.result (all_appended _ _ _ c.clear.ensures) c.read_bytes.ensures.done;
      any_exit = some_appended _ _ _ c.clear.ensures c.read_bytes.ensures.any_exit;
      store = c.read_bytes.ensures.store;
    }))
