-- The bytes of a transparent body.
use Rattle.nvm_board.specs.Facts.{IsMemory}
use Rattle.std.proofs.Common.{refl, sym, ◌∙◌, ap, ap₂, arith, ⊎_elim, get_or-take}
use Rattle.std.proofs.lemmas.Bool.{cases_lt, le-leb, lt-leb, lt-ltb, le-ltb}
use Rattle.std.proofs.lemmas.List.{length-take-le, take_min, drop-take, length-drop}
use Rattle.std.proofs.lemmas.Grind.{same_number_lists}
use Rattle.std.specs.Prelude.{◌≡◌, ◌<◌, ◌≤◌, ◌+◌, ◌-◌, ◌↔◌, ℕ, zero, suc, Bool, true, false}
use Rattle.std.specs.Prelude.{List, [], ◌∷◌, length}
use Rattle.std.specs.Prelude.{take, drop, min}
use Rattle.std.specs.Prelude.{Option, Some, None, IsTrue, if◌then◌else◌, nat_le, nat_lt}
use Rattle.card_model.specs.declared.status.Sw.{Sw}
use Rattle.card_model.specs.declared.status.TheConstants.Sw.{WRONG_OFFSET, NO_ROOM}
use Rattle.block_chain.specs.Chains.{chain_of, chain_bytes, bytes_of}
use Rattle.block_chain.specs.ChainChanges.{Overwrites}
use Rattle.card_model.specs.FileTrees.{overwrite}
use Rattle.block_chain.specs.ChainParts.{byte_over}
use Rattle.block_chain.specs.laws.Bytes.{leads_blocks, length-bytes_of}
use Rattle.block_chain.specs.laws.Overwriting.{index-overwrite, length-overwrite}
use Rattle.ef_body.specs.declared.transparent.Transparent.{Transparent}
use Rattle.ef_body.specs.TransparentBodies.{transparent_bytes, IsTransparent, TransparentBecomes}
use Rattle.ef_contents.specs.Refusals.{past_end, overlong}
use Rattle.chain_bytes.specs.laws.Keeping.{chain_kept}
use Rattle.ef_contents.specs.laws.Refusing.{not_so}

-- the first of the first bytes
take-first : (k n : ℕ) (xs : List ℕ) → k ≤ n → take k (take n xs) ≡ take k xs
take-first zero n xs few = refl
take-first (suc k) zero xs few = absurd (omega (arith, few))
take-first (suc k) (suc n) [] few = refl
take-first (suc k) (suc n) (x ∷ xs) few = ap (λ (l : List ℕ). x ∷ l) (take-first k n xs (omega (arith, few)))

-- the chain of a body has room for its bytes
pub chain_whole : (m : List ℕ) (body : Transparent) → IsMemory m → IsTransparent m body
    → body.size ≤ length (chain_bytes m body.chain)
chain_whole m body sized is =
    let all = length-bytes_of m (chain_of m body.chain) sized (leads_blocks m body.chain.first 0 (chain_of m
    body.chain) is.chain.leads) in
    let fits = is.fits in
    omega (arith, all, fits)

-- as many bytes of a body as are asked for, or all that are left
pub taken_within : (m : List ℕ) (body : Transparent) → IsMemory m → IsTransparent m body → (offset most count : ℕ)
    → offset < body.size → count ≡ min most (body.size - offset)
    → take count (drop offset (chain_bytes m body.chain)) ≡ take most (drop offset (transparent_bytes m body))
taken_within m body sized is_body offset most count inside is =
    let bytes = chain_bytes m body.chain in
    let size = body.size in
    let rest = size - offset in
    let whole = chain_whole m body sized is_body in
    let split : offset + rest ≡ size = omega (arith, inside) in
    let back : drop offset (take size bytes) ≡ take rest (drop offset bytes) =
    sym (ap (λ (n : ℕ). drop offset (take n bytes)) split) ∙ drop-take offset rest bytes in
    let behind = length-drop offset bytes in
    let long : length (take rest (drop offset bytes)) ≡ rest =
    length-take-le rest (drop offset bytes) (omega (arith, behind, whole)) in
    let few : count ≤ rest = omega (arith, is) in
    sym (take-first count rest (drop offset bytes) few)
    ∙ ap (λ (n : ℕ). take n (take rest (drop offset bytes))) is
    ∙ ap (λ (n : ℕ). take (min most n) (take rest (drop offset bytes))) (sym long)
    ∙ take_min most (take rest (drop offset bytes))
    ∙ ap (take most) (sym back)

-- how many bytes a body has
pub length-transparent : (m : List ℕ) (body : Transparent) → IsMemory m → IsTransparent m body
    → length (transparent_bytes m body) ≡ body.size
length-transparent m body sized is = length-take-le body.size (chain_bytes m body.chain) (chain_whole m body sized is)

-- bytes put within the first ones
take-overwrite : (bytes new : List ℕ) (size offset : ℕ) → size ≤ length bytes → offset + length new ≤ size
    → take size (overwrite bytes offset new) ≡ overwrite (take size bytes) offset new
take-overwrite bytes new size offset whole within =
    let fits : offset + length new ≤ length bytes = omega (arith, whole, within) in
    let first = length-take-le size bytes whole in
    let first_fits : offset + length new ≤ length (take size bytes) = omega (arith, first, within) in
    let long = length-overwrite bytes new offset fits in
    let here = length-take-le size (overwrite bytes offset new) (omega (arith, long, whole)) in
    let there = length-overwrite (take size bytes) new offset first_fits in
    same_number_lists _ _ (here ∙ sym first ∙ sym there) (λ k lt.
    let below : k < size = omega (arith, lt, here) in
    get_or-take size (overwrite bytes offset new) k 0 below
    ∙ index-overwrite bytes new offset fits k
    ∙ ap (byte_over offset new k) (sym (get_or-take size bytes k 0 below))
    ∙ sym (index-overwrite (take size bytes) new offset first_fits k))

-- a body with bytes put in place of its own
pub bytes_put : (m after : List ℕ) (body : Transparent) (offset : ℕ) (bytes : List ℕ) → IsMemory m
    → IsTransparent m body → offset + length bytes ≤ body.size
    → Overwrites m (chain_of m body.chain) offset bytes after
    → TransparentBecomes m body (overwrite (transparent_bytes m body) offset bytes) after
bytes_put m after body offset bytes sized is within over =
    let blocks = chain_kept m after body.chain offset bytes sized is.chain over in
    record {
      becomes = ap (take body.size) (ap (bytes_of after) blocks ∙ over.content)
          ∙ take-overwrite (chain_bytes m body.chain) bytes body.size offset (chain_whole m body sized is) within;
      blocks = blocks;
      only = over.only;
    }

-- what the tests of an offset tell
module _ (bytes : List ℕ) (size offset : ℕ) (b : Bool) (long : length bytes ≡ size)
    (tells : IsTrue b ↔ (size ≤ offset)) where
  pub inside : b ≡ false → offset < size
  inside is = ⊎_elim (λ (less : offset < size). less) (λ (most : size ≤ offset). absurd (not_so b _ tells is most))
      (cases_lt offset size)

  pub at_end : b ≡ true → nat_le (length bytes) offset ≡ true
  at_end is = let most = tells.0 is in le-leb (length bytes) offset (omega (arith, most, long))

  pub not_at_end : b ≡ false → nat_le (length bytes) offset ≡ false
  not_at_end is = let less = inside is in lt-leb (length bytes) offset (omega (arith, less, long))

  pub offset_past : b ≡ true → past_end bytes offset ≡ Some WRONG_OFFSET
  offset_past is = ap (λ (h : Bool). let status : Option Sw = if h then Some WRONG_OFFSET else None in status)
      (at_end is)

  pub offset_inside : b ≡ false → past_end bytes offset ≡ None
  offset_inside is = ap (λ (h : Bool). let status : Option Sw = if h then Some WRONG_OFFSET else None in status)
      (not_at_end is)

  pub update_past : (new : List ℕ) → b ≡ true → overlong bytes offset new ≡ Some WRONG_OFFSET
  update_past new is =
      ap (λ (h : Bool). let status : Option Sw = if h then Some WRONG_OFFSET else
      (if nat_lt (length bytes) (offset + length new) then Some NO_ROOM else None) in status) (at_end is)

  module _ (new : List ℕ) (d : Bool) (ends : IsTrue d ↔ (size < offset + length new)) (here : b ≡ false) where
    pub new_fits : d ≡ false → offset + length new ≤ size
    new_fits is = ⊎_elim (λ (past : size < offset + length new). absurd (not_so d _ ends is past))
        (λ (within : offset + length new ≤ size). within) (cases_lt size (offset + length new))

    pub new_past : d ≡ true → overlong bytes offset new ≡ Some NO_ROOM
    new_past is =
        let past = ends.0 is in
        ap₂ (λ (h k : Bool). let status : Option Sw = if h then Some WRONG_OFFSET else
        (if k then Some NO_ROOM else None) in status) (not_at_end here)
        (lt-ltb (length bytes) (offset + length new) (omega (arith, past, long)))

    pub new_inside : d ≡ false → overlong bytes offset new ≡ None
    new_inside is =
        let within = new_fits is in
        ap₂ (λ (h k : Bool). let status : Option Sw = if h then Some WRONG_OFFSET else
        (if k then Some NO_ROOM else None) in status) (not_at_end here)
        (le-ltb (length bytes) (offset + length new) (omega (arith, within, long)))
