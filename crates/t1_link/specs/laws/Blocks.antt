-- A block is read again as itself, and what is read as a block is spelled so.
use Rattle.std.specs.Prelude.{◌≡◌, ◌≢◌, ◌+◌, ◌-◌, ◌≤◌, ◌==◌, ℕ, Bool, true, false, not, ◌||◌, ◌&&◌, nat_lt, nat_le}
use Rattle.std.specs.Prelude.{List, [], ◌∷◌, ◌++◌, length, take, bit_xor}
use Rattle.std.specs.Prelude.{slice_index, slice_range, Option, None, Some, Result, Ok, Err, refl}
use Rattle.std.specs.Option.{ok_or, option_map}
use Rattle.std.specs.Int.Bits.{xor_self, xor_assoc, xor_zero_l, xor_zero_r}
use Rattle.std.proofs.Common.{cond, ⊎_elim, sym, ◌∙◌, ap, subst, arith}
use Rattle.std.proofs.lemmas.Bool.{and_parts, or_parts, le-ltb, ltb-false, eq-eqb, ne_eqb, eqb-true, le-leb, leb-true}
use Rattle.std.proofs.lemmas.Grind.{elements, same_number_lists}
use Rattle.std.proofs.lemmas.Bool.Decides.{eqb_tells}
use Rattle.std.proofs.lemmas.List.{length-append, length-take}
use Rattle.std.proofs.lemmas.List.Sums.{fold-append}
use Rattle.std.proofs.Math.Seq.{take-append_seam}
use Rattle.t1_link.specs.declared.block.ErrorKind.TheVariants.{ErrorFree, RedundancyError, OtherError}
use Rattle.t1_link.specs.declared.block.Fault.{Fault}
use Rattle.t1_link.specs.declared.block.Fault.TheVariants.{WrongLength, WrongCheck, UnknownBlock}
use Rattle.t1_link.specs.declared.sequence_number.SequenceNumber.TheVariants.{Zero, One}
use Rattle.t1_link.specs.Blocks.{Block, information, receive_ready, resynch_request, resynch_response}
use Rattle.t1_link.specs.Blocks.{ifs_request, ifs_response, field_of, control_byte}
use Rattle.t1_link.specs.Blocks.{exclusive_or, checked_bytes, frame, bare, size_told, kinds, at_byte, has_wrong_length}
use Rattle.t1_link.specs.Blocks.{heard}
use Rattle.t1_link.specs.Blocks.{IsSpellable}

-- bytes with no fault but in their kind
pub heard-no_fault : (bytes : List ℕ) → has_wrong_length bytes ≡ false → (exclusive_or bytes == 0) ≡ true
    → (slice_index bytes 0 == 0) ≡ true
    → heard bytes ≡ ok_or (at_byte (slice_index bytes 1) (kinds (slice_range bytes 3 (3 + slice_index bytes 2))))
    UnknownBlock
unfolding heard
heard-no_fault bytes right_length right_check right_node = simp (right_length, right_check, right_node) refl

-- the faults that a line makes of a block
pub heard-wrong_length : (bytes : List ℕ) → has_wrong_length bytes ≡ true → heard bytes ≡ Err WrongLength
unfolding heard
heard-wrong_length bytes wrong = simp wrong refl

pub heard-wrong_check : (bytes : List ℕ) → has_wrong_length bytes ≡ false → exclusive_or bytes ≢ 0
    → heard bytes ≡ Err WrongCheck
unfolding heard
heard-wrong_check bytes right wrong = simp (right, ne_eqb (exclusive_or bytes) 0 wrong) refl

pub length-field : (b : Block) → IsSpellable b → length (field_of b) ≤ 254
length-field (information number more field) h = h
length-field (receive_ready number error) h = omega arith
length-field resynch_request h = omega arith
length-field resynch_response h = omega arith
length-field (ifs_request size) h = omega arith
length-field (ifs_response size) h = omega arith

-- the exclusive-or of a whole block
pub exclusive_or-frame : (b : Block) → exclusive_or (frame b) ≡ 0
exclusive_or-frame b = fold-append bit_xor 0 (checked_bytes b) (exclusive_or (checked_bytes b)
    ∷ []) ∙ xor_self (exclusive_or (checked_bytes b))

-- 4 bytes beside the information field
right_length : (control check : ℕ) (field : List ℕ) → length field ≤ 254
    → has_wrong_length (0 ∷ control ∷ length field ∷ (field ++ check ∷ [])) ≡ false
right_length control check field fits =
    let n : length (field ++ check ∷ []) ≡ length field + 1 = length-append field (check ∷ []) in
    let long : nat_lt (length (0 ∷ control ∷ length field ∷ (field ++ check ∷ []))) 4 ≡ false =
    le-ltb _ 4 (omega arith) in
    let small : nat_lt 254 (length field) ≡ false = le-ltb 254 (length field) fits in
    let equal : (length (0 ∷ control ∷ length field ∷ (field ++ check ∷ [])) == length field + 4) ≡ true =
    eq-eqb _ _ (omega arith) in
    λ i. (long i || small i) || not (equal i)

-- two numbers whose exclusive-or is 0 are the same
xor-none : (a b : ℕ) → bit_xor a b ≡ 0 → b ≡ a
xor-none a b e = sym (xor_zero_l b) ∙ ap (λ (n : ℕ). bit_xor n b) (sym (xor_self a)) ∙ xor_assoc a a b
    ∙ ap (bit_xor a) e ∙ xor_zero_r a

-- with another check byte it is no block
pub heard-other_check : (b : Block) (check : ℕ) → IsSpellable b → check ≢ exclusive_or (checked_bytes b)
    → heard (checked_bytes b ++ check ∷ []) ≡ Err WrongCheck
heard-other_check b check h other =
    let all : exclusive_or (checked_bytes b ++ check ∷ []) ≡ bit_xor (exclusive_or (checked_bytes b)) check =
    fold-append bit_xor 0 (checked_bytes b) (check ∷ []) in
    heard-wrong_check (checked_bytes b ++ check
    ∷ []) (right_length (control_byte b) check (field_of b) (length-field b h))
    (λ none. other (xor-none (exclusive_or (checked_bytes b)) check (sym all ∙ none)))

right_field : (control check : ℕ) (field : List ℕ)
    → slice_range (0 ∷ control ∷ length field ∷ (field ++ check ∷ [])) 3 (3 + length field) ≡ field
right_field control check field =
    let n : 3 + length field - 3 ≡ length field = omega arith in
    ap (λ (n : ℕ). take n (field ++ check ∷ [])) n ∙ take-append_seam field (check ∷ [])

-- a block's bytes are what its kind makes of its field
pub heard-kind : (b : Block) → length (field_of b) ≤ 254
    → heard (frame b) ≡ ok_or (at_byte (control_byte b) (kinds (field_of b))) UnknownBlock
heard-kind b fits =
    heard-no_fault (frame b) (right_length (control_byte b) (exclusive_or (checked_bytes b)) (field_of b) fits)
    (eq-eqb _ 0 (exclusive_or-frame b)) refl
    ∙ ap (λ (field : List ℕ). ok_or (at_byte (control_byte b) (kinds field)) UnknownBlock)
    (right_field (control_byte b) (exclusive_or (checked_bytes b)) (field_of b))

size_told-one : (size : ℕ) → 1 ≤ size → size ≤ 254 → size_told (size ∷ []) ≡ Some size
size_told-one size low high = simp (le-leb 1 size low, le-leb size 254 high) refl

-- a block that has bytes is read again as itself
pub heard-frame : (b : Block) → IsSpellable b → heard (frame b) ≡ Ok b
heard-frame (information Zero false field) h = heard-kind (information Zero false field) h
heard-frame (information Zero true field) h = heard-kind (information Zero true field) h
heard-frame (information One false field) h = heard-kind (information One false field) h
heard-frame (information One true field) h = heard-kind (information One true field) h
heard-frame (receive_ready Zero ErrorFree) h = heard-kind (receive_ready Zero ErrorFree) (omega arith)
heard-frame (receive_ready Zero RedundancyError) h = heard-kind (receive_ready Zero RedundancyError) (omega arith)
heard-frame (receive_ready Zero OtherError) h = heard-kind (receive_ready Zero OtherError) (omega arith)
heard-frame (receive_ready One ErrorFree) h = heard-kind (receive_ready One ErrorFree) (omega arith)
heard-frame (receive_ready One RedundancyError) h = heard-kind (receive_ready One RedundancyError) (omega arith)
heard-frame (receive_ready One OtherError) h = heard-kind (receive_ready One OtherError) (omega arith)
heard-frame resynch_request h = heard-kind resynch_request (omega arith)
heard-frame resynch_response h = heard-kind resynch_response (omega arith)
heard-frame (ifs_request size) h = heard-kind (ifs_request size) (omega arith)
    ∙ ap (λ (s : Option ℕ). ok_or (option_map ifs_request s) UnknownBlock) (size_told-one size h.0 h.1)
heard-frame (ifs_response size) h = heard-kind (ifs_response size) (omega arith)
    ∙ ap (λ (s : Option ℕ). ok_or (option_map ifs_response s) UnknownBlock) (size_told-one size h.0 h.1)

-- a control byte and an information field are read as this block: they are its own, and it has bytes
pub record IsReadAs (control : ℕ) (field : List ℕ) (b : Block) : Type 0 where
  pub control_is : control_byte b ≡ control
  pub field_is : field_of b ≡ field
  pub spellable : IsSpellable b

passed : {A : Type 0} (test : Bool) (a x : A) → cond test (Some a) None ≡ Some x → (test ≡ true) × (a ≡ x)
passed true a x e = (refl, cc)
passed false a x e = absurd cc

is_empty : (field : List ℕ) → length field ≡ 0 → field ≡ []
is_empty [] e = refl
is_empty (x ∷ field) e = absurd (omega (arith, e))

is_one : (field : List ℕ) → length field ≡ 1 → field ≡ slice_index field 0 ∷ []
is_one [] e = absurd (omega (arith, e))
is_one (x ∷ field) e = ap (λ (xs : List ℕ). x ∷ xs) (is_empty field (omega (arith, e)))

reads_some : (control : ℕ) (field : List ℕ) (a b : Block) → IsReadAs control field a → Some a ≡ Some b
    → IsReadAs control field b
reads_some control field a b h e = let same : a ≡ b = cc in subst (IsReadAs control field) same h

reads_bare : (control : ℕ) (field : List ℕ) (a b : Block) → IsReadAs control [] a → bare field a ≡ Some b
    → IsReadAs control field b
reads_bare control field a b h e =
    let p = passed (length field == 0) a b e in
    let none : [] ≡ field = sym (is_empty field (eqb-true _ 0 p.0)) in
    subst (λ (xs : List ℕ). IsReadAs control xs b) none (subst (IsReadAs control []) p.1 h)

passed_map : (make : ℕ → Block) (test : Bool) (v : ℕ) (b : Block) → option_map make (cond test (Some v) None) ≡ Some b
    → (test ≡ true) × (make v ≡ b)
passed_map make true v b e = (refl, cc)
passed_map make false v b e = absurd cc

reads_size : (control : ℕ) (field : List ℕ) (make : ℕ → Block) (b : Block)
    → ((size : ℕ) → 1 ≤ size → size ≤ 254 → IsReadAs control (size ∷ []) (make size))
    → option_map make (size_told field) ≡ Some b → IsReadAs control field b
reads_size control field make b h e =
    let v = slice_index field 0 in
    let p = passed_map make (length field == 1 && (nat_le 1 v && nat_le v 254)) v b e in
    let one = and_parts (length field == 1) (nat_le 1 v && nat_le v 254) p.0 in
    let range = and_parts (nat_le 1 v) (nat_le v 254) one.1 in
    let alone : v ∷ [] ≡ field = sym (is_one field (eqb-true (length field) 1 one.0)) in
    subst (λ (xs : List ℕ). IsReadAs control xs b) alone
    (subst (IsReadAs control (v ∷ [])) p.1 (h v (leb-true 1 v range.0) (leb-true v 254 range.1)))

-- the entries of a table at a control byte
abbrev pub AllRead : List ℕ → List (ℕ × Option Block) → Type 0
AllRead field [] = Unit {0}
AllRead field (k ∷ ks) = ((b : Block) → k.1 ≡ Some b → IsReadAs k.0 field b) × AllRead field ks

at_byte-reads : (control : ℕ) (field : List ℕ) (ks : List (ℕ × Option Block)) (b : Block) → AllRead field ks
    → at_byte control ks ≡ Some b → IsReadAs control field b
at_byte-reads control field [] b all e = absurd cc
at_byte-reads control field (k ∷ ks) b all e = ⊎_elim
    (λ (here : ((control == k.0) ≡ true) × (control ≡ k.0)).
    let found : k.1 ≡ Some b = subst (λ (t : Bool). cond t k.1 (at_byte control ks) ≡ Some b) here.0 e in
    subst (λ (n : ℕ). IsReadAs n field b) (sym here.1) (all.0 b found))
    (λ (there : ((control == k.0) ≡ false) × (control ≢ k.0)).
    let found : at_byte control ks ≡ Some b =
    subst (λ (t : Bool). cond t k.1 (at_byte control ks) ≡ Some b) there.0 e in
    at_byte-reads control field ks b all.1 found)
    (eqb_tells control k.0)

all_read : (field : List ℕ) → length field ≤ 254 → AllRead field (kinds field)
all_read field h =
    let bare_one = λ (control : ℕ) (a : Block) (r : IsReadAs control [] a). λ (b : Block) (e : bare field a ≡ Some b).
    reads_bare control field a b r e in (
      λ b e. reads_some 0x00 field (information Zero false field) b
          (record { control_is = refl; field_is = refl; spellable = h }) e,
      (
        λ b e. reads_some 0x20 field (information Zero true field) b
            (record { control_is = refl; field_is = refl; spellable = h }) e,
        (
          λ b e. reads_some 0x40 field (information One false field) b
              (record { control_is = refl; field_is = refl; spellable = h }) e,
          (
            λ b e. reads_some 0x60 field (information One true field) b
                (record { control_is = refl; field_is = refl; spellable = h }) e,
            (
              bare_one 0x80 (receive_ready Zero ErrorFree)
                  (record { control_is = refl; field_is = refl; spellable = tt }),
              (
                bare_one 0x81 (receive_ready Zero RedundancyError)
                    (record { control_is = refl; field_is = refl; spellable = tt }),
                (
                  bare_one 0x82 (receive_ready Zero OtherError)
                      (record { control_is = refl; field_is = refl; spellable = tt }),
                  (
                    bare_one 0x90 (receive_ready One ErrorFree)
                        (record { control_is = refl; field_is = refl; spellable = tt }),
                    (
                      bare_one 0x91 (receive_ready One RedundancyError)
                          (record { control_is = refl; field_is = refl; spellable = tt }),
                      (
                        bare_one 0x92 (receive_ready One OtherError)
                            (record { control_is = refl; field_is = refl; spellable = tt }),
                        (
                          bare_one 0xC0 resynch_request (record { control_is = refl; field_is = refl; spellable = tt }),
                          (
                            bare_one 0xE0 resynch_response
                                (record { control_is = refl; field_is = refl; spellable = tt }),
                            (
                              λ b e. reads_size 0xC1 field ifs_request b
                                  (λ size low high. record
                                  { control_is = refl; field_is = refl; spellable = (low, high) }) e,
                              (
                                λ b e. reads_size 0xE1 field ifs_response b
                                    (λ size low high. record
                                    { control_is = refl; field_is = refl; spellable = (low, high) }) e,
                                tt,
                              ),
                            ),
                          ),
                        ),
                      ),
                    ),
                  ),
                ),
              ),
            ),
          ),
        ),
      ),
    )

-- a test that was no fault
unless : (test : Bool) (fault : Fault) (r : Result Block Fault) (b : Block) → cond test (Err fault) r ≡ Ok b
    → (test ≡ false) × (r ≡ Ok b)
unless true fault r b e = absurd cc
unless false fault r b e = (refl, e)

not_not : (a : Bool) → not a ≡ false → a ≡ true
not_not true e = refl
not_not false e = absurd cc

found_some : (o : Option Block) (fault : Fault) (b : Block) → ok_or o fault ≡ Ok b → o ≡ Some b
found_some None fault b e = absurd cc
found_some (Some a) fault b e = let same : a ≡ b = cc in ap (λ (x : Block). Some x) same

-- bytes that end with a check byte
ends_with : (n : ℕ) (bytes : List ℕ) → length bytes ≡ n + 1 → bytes ≡ take n bytes ++ slice_index bytes n ∷ []
ends_with n bytes e = same_number_lists _ _ (grind (arith, elements)) (λ k lt. grind (arith, elements))

xor_same : (a b : ℕ) → bit_xor a b ≡ 0 → a ≡ b
xor_same a b e = sym (xor_zero_r a) ∙ ap (bit_xor a) (sym (xor_self b)) ∙ sym (xor_assoc a b b)
    ∙ ap (λ (n : ℕ). bit_xor n b) e ∙ xor_zero_l b

-- what is read as a block is that block's bytes
pub frame-heard : (bytes : List ℕ) (b : Block) → heard bytes ≡ Ok b → (frame b ≡ bytes) × IsSpellable b
unfolding heard
frame-heard [] b e = absurd cc
frame-heard (node ∷ []) b e = absurd cc
frame-heard (node ∷ control ∷ []) b e = absurd cc
frame-heard (node ∷ control ∷ len ∷ rest) b e =
    let bytes = node ∷ control ∷ len ∷ rest in
    let field = slice_range bytes 3 (3 + len) in
    let a = unless (has_wrong_length bytes) WrongLength _ b e in
    let c = unless (not (exclusive_or bytes == 0)) WrongCheck _ b a.1 in
    let d = unless (not (node == 0)) UnknownBlock _ b c.1 in
    let right = or_parts (nat_lt (length bytes) 4 || nat_lt 254 len) (not (length bytes == len + 4)) a.0 in
    let small : len ≤ 254 = ltb-false 254 len (or_parts (nat_lt (length bytes) 4) (nat_lt 254 len) right.0).1 in
    let size : length rest ≡ len + 1 = let all : length bytes ≡ len + 4 = eqb-true _ _ (not_not _ right.1) in
    omega (arith, all) in
    let zero_node : node ≡ 0 = eqb-true _ _ (not_not _ d.0) in
    let n : 3 + len - 3 ≡ len = omega arith in
    let field_is : field ≡ take len rest = ap (λ (n : ℕ). take n rest) n in
    let ends : rest ≡ field ++ slice_index rest len ∷ [] = ends_with len rest size
    ∙ ap (λ (xs : List ℕ). xs ++ slice_index rest len ∷ []) (sym field_is) in
    let count : length field ≡ len = ap length field_is ∙ (let l = length-take len rest in omega (arith, l, size)) in
    let reads = at_byte-reads control field (kinds field) b (all_read field (omega (arith, count, small)))
    (found_some _ UnknownBlock b d.1) in
    let whole : bytes ≡ (0 ∷ control ∷ len ∷ field) ++ slice_index rest len ∷ [] =
    λ i. zero_node i ∷ control ∷ len ∷ ends i in
    let fronts : checked_bytes b ≡ 0 ∷ control ∷ len ∷ field =
    λ i. 0 ∷ reads.control_is i ∷ (ap length reads.field_is ∙ count) i ∷ reads.field_is i in
    let sum : bit_xor (exclusive_or (0 ∷ control ∷ len ∷ field)) (slice_index rest len) ≡ 0 =
    sym (fold-append bit_xor 0 (0 ∷ control ∷ len ∷ field) (slice_index rest len ∷ [])) ∙ ap exclusive_or (sym whole)
    ∙ eqb-true _ _ (not_not _ c.0) in
    let check : exclusive_or (checked_bytes b) ≡ slice_index rest len = ap exclusive_or fronts ∙ xor_same _ _ sum in
    ((λ i. fronts i ++ check i ∷ []) ∙ sym whole, reads.spellable)
