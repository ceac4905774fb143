-- Transparent EFs in a memory and in a store: their bytes, and what an update makes of them.
use Rattle.std.specs.Prelude.{◌≡◌, ◌≤◌, ◌*◌, ℕ, List, length, take}
use Rattle.undo_journal.specs.Memory.{Memory, committed, IsReady}
use Rattle.block_chain.specs.declared.layout.TheConstants.{BLOCK_BYTES}
use Rattle.block_chain.specs.Chains.{IsChain, chain_of, chain_bytes}
use Rattle.block_chain.specs.ChainChanges.{OnlyContent}
use Rattle.ef_body.specs.declared.transparent.Transparent.{Transparent}

-- The bytes of a transparent EF.
abbrev pub transparent_bytes : List ℕ → Transparent → List ℕ
transparent_bytes m body = take body.size (chain_bytes m body.chain)

-- A valid transparent body: 1 to 32,767 bytes in the blocks of its chain.
pub record IsTransparent (m : List ℕ) (body : Transparent) : Type 0 where
  pub chain : IsChain m body.chain.first (chain_of m body.chain)
  pub some : 1 ≤ body.size
  pub size : body.size ≤ 32767
  pub fits : body.size ≤ BLOCK_BYTES * length (chain_of m body.chain)

-- The store is ready, and its words have the bytes of a transparent EF.
pub record HasBytes (m : Memory) (file : Transparent) : Type 0 where
  pub ready : IsReady m
  pub body : IsTransparent (committed m) file

-- A transparent EF has these bytes. All else is unchanged.
pub record TransparentBecomes (m : List ℕ) (body : Transparent) (bytes after : List ℕ) : Type 0 where
  pub becomes : transparent_bytes after body ≡ bytes
  pub blocks : chain_of after body.chain ≡ chain_of m body.chain
  pub only : OnlyContent m (chain_of m body.chain) after
