-- What a line does to blocks that are put on it one after another.
use Rattle.std.specs.Prelude.{◌≡◌, ◌≢◌, ◌≤◌, ◌<◌, ◌+◌, ◌-◌, ◌^◌, ◌==◌, ℕ, Bool, true, false, nat_lt, bit_xor, List, []}
use Rattle.std.specs.Prelude.{◌∷◌, ◌++◌, Option, None, Some, Ok, Err, refl, if◌then◌else◌}
use Rattle.std.specs.Int.Bits.{xor_self, xor_assoc, xor_zero_l}
use Rattle.std.proofs.Common.{arith, ap, ap₂, sym, subst, ◌∙◌}
use Rattle.std.proofs.lemmas.Bool.{and_from, and_parts, ltb-true, ltb-false, lt-ltb, le-ltb, ne_eqb, eq-eqb, eqb-true}
use Rattle.std.proofs.lemmas.Nat.{xor_lt}
use Rattle.t1_link.specs.declared.block.Fault.TheVariants.{WrongCheck}
use Rattle.t1_link.specs.Blocks.{Block, IsSpellable, exclusive_or, frame, checked_bytes, heard}
use Rattle.t1_link.specs.BlockLaws.{frame-heard, heard-other_check}
use Rattle.card_bench.specs.declared.line.Line.{Line}
use Rattle.t1_link.specs.Garbled.{last_bit_turned}
use Rattle.card_bench.specs.Lines.{arriving, is_due, line_after, pending_after}
use Rattle.t1_link.specs.Worlds.{are_bytes, is_garbled, may_arrive}

-- no block was put on the line
pending_after-none : (pending : Option ℕ) → pending_after 0 pending ≡ pending
pending_after-none None = refl
pending_after-none (Some wait) = simp (le-ltb wait 0 (omega arith)) (ap (λ (n : ℕ). Some n) (omega arith))

pub line_after-none : (line : Line) → line_after 0 line ≡ line
line_after-none line = λ i. record { lose = pending_after-none line.lose i; garble = pending_after-none line.garble i }

-- blocks, and then others
pending_after-later : (first second : ℕ) (pending : Option ℕ)
    → pending_after second (pending_after first pending) ≡ pending_after (first + second) pending
pending_after-later first second None = refl
pending_after-later first second (Some wait) = by (nat_lt wait first) refl
  where
    by : (past : Bool) → nat_lt wait first ≡ past
        → pending_after second (pending_after first (Some wait)) ≡ pending_after (first + second) (Some wait)
    by true e =
        let before = ltb-true wait first e in
        simp (e, lt-ltb wait (first + second) (omega (arith, before))) refl
    by false e =
        let waits = ltb-false wait first e in
        simp e (shifted (nat_lt wait (first + second)) refl waits)
      where
        shifted : (past : Bool) → nat_lt wait (first + second) ≡ past → first ≤ wait
            → pending_after second (Some (wait - first)) ≡ pending_after (first + second) (Some wait)
        shifted true later waits = let after = ltb-true wait (first + second) later in
            simp (later, lt-ltb (wait - first) second (omega (arith, after, waits))) refl
        shifted false later waits =
            let after = ltb-false wait (first + second) later in
            simp (later, le-ltb (wait - first) second (omega (arith, after, waits)))
            (ap (λ (n : ℕ). Some n) (omega (arith, after, waits)))

pub line_after-later : (first second : ℕ) (line : Line)
    → line_after second (line_after first line) ≡ line_after (first + second) line
line_after-later first second line = λ i. record {
  lose = pending_after-later first second line.lose i;
  garble = pending_after-later first second line.garble i;
}

is_due-later : (first before : ℕ) (pending : Option ℕ)
    → is_due (pending_after first pending) before ≡ is_due pending (first + before)
is_due-later first before None = refl
is_due-later first before (Some wait) = by (nat_lt wait first) refl
  where
    by : (past : Bool) → nat_lt wait first ≡ past
        → is_due (pending_after first (Some wait)) before ≡ (wait == first + before)
    by true e =
        let spent = ltb-true wait first e in
        simp (e, ne_eqb wait (first + before) (λ same. absurd (omega (arith, spent, same)))) refl
    by false e =
        let waits = ltb-false wait first e in
        simp e (decides (wait - first == before) refl waits)
      where
        apart : (wait - first == before) ≡ false → wait - first ≡ before → ⊥
        apart other same = let e = eq-eqb (wait - first) before same in absurd (cc (e, other))

        decides : (due : Bool) → (wait - first == before) ≡ due → first ≤ wait
            → (wait - first == before) ≡ (wait == first + before)
        decides true same waits = let n = eqb-true (wait - first) before same in
            same ∙ sym (eq-eqb wait (first + before) (omega (arith, n, waits)))
        decides false other waits = other
            ∙ sym (ne_eqb wait (first + before) (λ same. absurd (apart other (omega (arith, same)))))

pub arriving-later : (first before : ℕ) (line : Line) (block : List ℕ)
    → arriving (line_after first line) before block ≡ arriving line (first + before) block
arriving-later first before line block =
    ap₂ (λ (lost garbled : Bool). if lost then None else if garbled then Some (last_bit_turned block) else Some block)
    (is_due-later first before line.lose) (is_due-later first before line.garble)

-- the last byte is the one that changes
pub last_bit_turned-last : (bytes : List ℕ) (last : ℕ)
    → last_bit_turned (bytes ++ last ∷ []) ≡ bytes ++ bit_xor last 1 ∷ []
last_bit_turned-last [] last = refl
last_bit_turned-last (byte ∷ []) last = refl
last_bit_turned-last (byte ∷ next ∷ bytes) last =
    ap (λ (rest : List ℕ). byte ∷ rest) (last_bit_turned-last (next ∷ bytes) last)

-- a bit that is turned makes another number
bit-turned : (n : ℕ) → bit_xor n 1 ≢ n
bit-turned n same =
    let one : 1 ≡ 0 = sym (xor_zero_l 1) ∙ ap (λ (x : ℕ). bit_xor x 1) (sym (xor_self n)) ∙ xor_assoc n n 1
    ∙ ap (bit_xor n) same ∙ xor_self n in
    omega (arith, one)

-- a block that is garbled is no block any more
garbled-frame : (b : Block) → IsSpellable b → heard (last_bit_turned (frame b)) ≡ Err WrongCheck
garbled-frame b spellable = ap heard (last_bit_turned-last (checked_bytes b) (exclusive_or (checked_bytes b)))
    ∙ heard-other_check b (bit_xor (exclusive_or (checked_bytes b)) 1) spellable (bit-turned (exclusive_or
    (checked_bytes b)))

pub heard-garbled : (bytes : List ℕ) (b : Block) → heard bytes ≡ Ok b → heard (last_bit_turned bytes) ≡ Err WrongCheck
heard-garbled bytes b e =
    let spelled = frame-heard bytes b e in
    subst (λ (x : List ℕ). heard (last_bit_turned x) ≡ Err WrongCheck) spelled.0 (garbled-frame b spelled.1)

-- bytes stay bytes
bytes-garbled : (bytes : List ℕ) → are_bytes bytes ≡ true → are_bytes (last_bit_turned bytes) ≡ true
bytes-garbled [] e = refl
bytes-garbled (last ∷ []) e =
    let small : last < 2 ^ 8 = ltb-true last 256 (and_parts (nat_lt last 256) true e).0 in
    let turned : bit_xor last 1 < 2 ^ 8 = xor_lt 8 last 1 small (omega arith) in
    and_from (nat_lt (bit_xor last 1) 256) true (lt-ltb (bit_xor last 1) 256 turned) refl
bytes-garbled (byte ∷ next ∷ bytes) e =
    let parts = and_parts (nat_lt byte 256) (are_bytes (next ∷ bytes)) e in
    and_from (nat_lt byte 256) (are_bytes (last_bit_turned (next ∷ bytes))) parts.0
    (bytes-garbled (next ∷ bytes) parts.1)

pub garbled-may_arrive : (bytes : List ℕ) (b : Block) → are_bytes bytes ≡ true → heard bytes ≡ Ok b
    → may_arrive (last_bit_turned bytes) ≡ true
garbled-may_arrive bytes b sound e =
    and_from (are_bytes (last_bit_turned bytes)) (is_garbled (heard (last_bit_turned bytes)))
    (bytes-garbled bytes sound) (ap is_garbled (heard-garbled bytes b e))
