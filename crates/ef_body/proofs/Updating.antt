-- The device writes of an update are few.
use Rattle.std.proofs.Common.{arith}
use Rattle.std.specs.Prelude.{◌≤◌, ℕ}
use Rattle.chain_bytes.specs.Writes.{put_writes}
use Rattle.chain_bytes.specs.laws.Touching.{touched_few, touched_few_blocks}
use Rattle.chain_bytes.specs.laws.Writes.{put_writes_most}
use Rattle.ef_body.specs.declared.layout.TheConstants.{UPDATE_WRITES}
use Rattle.ef_contents.specs.UpdateWrites.{update_writes}
use Rattle.ef_contents.specs.laws.Updates.{touched_most}

-- the exact number of an update is no more than its bound
pub updates_most : (offset count : ℕ) → put_writes offset count ≤ update_writes count
updates_most offset count =
    let most = put_writes_most offset count in let bound = touched_most offset count in omega (arith, most, bound)

pub updates_few : (offset count : ℕ) → count ≤ 255 → put_writes offset count ≤ UPDATE_WRITES
updates_few offset count few =
    let most = put_writes_most offset count in
    let words = touched_few offset count few in
    let blocks = touched_few_blocks offset count few in
    omega (arith, most, words, blocks)
