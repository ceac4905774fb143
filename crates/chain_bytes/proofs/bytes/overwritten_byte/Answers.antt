use Rattle.std.proofs.Common.{◌≤◌, ◌<◌, ◌+◌, length, slice_index, ap, arith, inl, inr, sym, ◌∙◌}
use Rattle.block_chain.specs.laws.Overwriting.{byte_over-inside, byte_over-outside}
use Rattle.chain_bytes.proofs.bytes.overwritten_byte.Goals as goal
use Rattle.chain_bytes.proofs.bytes.overwritten_byte.Goals.{else-offset-at-via-else-offset-at}
use Rattle.chain_bytes.proofs.bytes.overwritten_byte.Goals.{else-offset-at-via-then-offset-at+else-from-bytes}

pub returns-then-from-bytes : goal.returns-then-from-bytes
returns-then-from-bytes c =
    let offset = c.args.offset in
    let at = c.args.at in
    let low : offset ≤ at = omega (arith, c.if-offset-at.true) in
    let high : at < offset + length c.args.bytes.now = omega (arith, c.if-from-bytes.true, c.from.ensures, low) in
    ap (slice_index c.args.bytes.now) c.from-then-from-bytes.ensures
    ∙ sym (byte_over-inside offset at c.args.byte c.args.bytes.now low high)

pub returns-else-offset-at : goal.returns-else-offset-at
returns-else-offset-at c =
    sym (byte_over-outside c.args.offset c.args.at c.args.byte c.args.bytes.now (elim c.else-offset-at.branch [
      | else-offset-at-via-else-offset-at v ↦ inl (omega (arith, v.if-offset-at.false))
      | else-offset-at-via-then-offset-at+else-from-bytes v ↦ inr (omega (arith, v.from.ensures, v.if-from-bytes.false))
    ]))
