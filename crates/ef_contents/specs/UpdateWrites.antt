-- The device writes of an update of bytes.
use Rattle.std.specs.Prelude.{◌+◌, ◌*◌, ◌/◌, ℕ}

-- The device writes of an UPDATE BINARY of `count` bytes, at most. They touch at most ceil(count / 4) + 1 words. Each
-- eight of these take three writes: pairs, gate and words. Each of at most ceil(count / 60) block ends takes one
-- more, and the commit one.
abbrev pub update_writes : ℕ → ℕ
update_writes count = 3 * (((count + 3) / 4 + 1 + 7) / 8) + (count + 59) / 60 + 1
