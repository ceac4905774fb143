use Rattle.std.proofs.Common.{◌≤◌, ℕ, Bool, false, List, arith, sym, subst}
use Rattle.undo_journal.specs.Memory.{committed}
use Rattle.ef_body.specs.declared.layout.TheConstants.{RECORD_WRITES, UPDATE_WRITES}
use Rattle.ef_body.specs.Bodies.{cyclic_body_records}
use Rattle.ef_contents.specs.BodyCalls.{Commits}
use Rattle.content_commands.specs.RecordParts.{replaced_in, RingBecomes}
use Rattle.content_commands.proofs.RecordPuts.{commits-within}
use Rattle.content_commands.proofs.record_file.RecordFile.replace.Goals as goal

-- an update of a record takes fewer device writes than a new record
few_writes : UPDATE_WRITES ≤ RECORD_WRITES
few_writes = omega arith

pub returns-then-self : goal.returns-then-self
returns-then-self g c =
    let old = c.args.store.now in
    let ring = c.args.slot.ring in
    let becomes : Bool → List ℕ → Type 0 = λ wraps. RingBecomes wraps (committed old) ring (replaced_in wraps
    (cyclic_body_records (committed old) ring) c.args.slot.number c.args.bytes.now) in
    subst (λ (wraps : Bool). Commits (becomes wraps) RECORD_WRITES old c.replace_oldest.new.store
    c.replace_oldest.result) (sym c.if-self.true) c.replace_oldest.ensures.commits

pub returns-else-self : goal.returns-else-self
returns-else-self g c =
    let old = c.args.store.now in
    let ring = c.args.slot.ring in
    let becomes : Bool → List ℕ → Type 0 = λ wraps. RingBecomes wraps (committed old) ring (replaced_in wraps
    (cyclic_body_records (committed old) ring) c.args.slot.number c.args.bytes.now) in
    subst (λ (wraps : Bool). Commits (becomes wraps) RECORD_WRITES old c.replace.new.store c.replace.result)
    (sym c.if-self.false) (commits-within (becomes false) UPDATE_WRITES RECORD_WRITES old c.replace.new.store
    c.replace.result few_writes c.replace.ensures.commits)
