-- One step of an addition, from the least significant byte up.
use Rattle.std.proofs.Common.{refl, sym, ◌∙◌, ap, ap₂, arith, ⊎_elim, inl, inr, subst, get_or-set_other}
use Rattle.std.proofs.lemmas.Bool.Decides.{eqb_tells}
use Rattle.std.proofs.Math.ListN.{length-set}
use Rattle.std.proofs.Math.Seq.{drop-cons, drop-length}
use Rattle.std.proofs.lemmas.List.{length-drop, drop-set, take_all, append-nil}
use Rattle.std.proofs.lemmas.Bool.{cases_lt, lt-ltb, le-ltb}
use Rattle.std.proofs.Math.Nat.{pow-succ'}
use Rattle.std.specs.Prelude.{◌≡◌, ◌<◌, ◌≤◌, ◌+◌, ◌-◌, ◌*◌, ◌/◌, ◌%◌, ◌^◌, ℕ, zero, suc, Bool, List, ◌∷◌, length, All}
use Rattle.std.specs.List.{refill}
use Rattle.std.specs.Prelude.{take, ◌++◌, drop, slice_index, slice_set, nat_lt, not, ◌==◌, if◌then◌else◌}
use Rattle.card_model.specs.RecordLists.{number_of}
use Rattle.card_model.specs.laws.Numbers.{number-cons, number-nil}

-- a byte of a number, by its place from the least significant one
abbrev pub digit_of : List ℕ → ℕ → ℕ
digit_of bytes place = if nat_lt place (length bytes) then slice_index bytes (length bytes - 1 - place) else 0

-- the number that the last n bytes spell
abbrev pub last_number : List ℕ → ℕ → ℕ
last_number bytes n = number_of (drop (length bytes - n) bytes)

-- one more byte
last_more : (bytes : List ℕ) (n : ℕ) → n < length bytes
    → last_number bytes (n + 1) ≡ slice_index bytes (length bytes - 1 - n) * 256 ^ n + last_number bytes n
last_more bytes n lt =
    let place = length bytes - 1 - n in
    let here : length bytes - (n + 1) ≡ place = omega (arith, lt) in
    let next : suc place ≡ length bytes - n = omega (arith, lt) in
    let inside : place < length bytes = omega (arith, lt) in
    let rest = length-drop (length bytes - n) bytes in
    let count : length (drop (length bytes - n) bytes) ≡ n = omega (arith, rest, lt) in
    ap (λ (k : ℕ). number_of (drop k bytes)) here
    ∙ ap number_of (drop-cons bytes place 0 inside ∙ ap (λ (k : ℕ). slice_index bytes place ∷ drop k bytes) next)
    ∙ number-cons (slice_index bytes place) (drop (length bytes - n) bytes)
    ∙ ap (λ (k : ℕ). slice_index bytes place * 256 ^ k + last_number bytes n) count

-- with zeros before the first byte
last_digit : (bytes : List ℕ) (n : ℕ)
    → last_number bytes (n + 1) ≡ digit_of bytes n * 256 ^ n + last_number bytes n
last_digit bytes n = ⊎_elim
    (λ (lt : n < length bytes). last_more bytes n lt
    ∙ sym (ap (λ (b : Bool). (if b then slice_index bytes (length bytes - 1 - n) else 0) * 256 ^ n + last_number
    bytes n)
    (lt-ltb n (length bytes) lt)))
    (λ (past : length bytes ≤ n).
    let here : length bytes - (n + 1) ≡ length bytes - n = omega (arith, past) in
    let none : last_number bytes n ≡ 0 * 256 ^ n + last_number bytes n = omega arith in
    ap (λ (k : ℕ). number_of (drop k bytes)) here ∙ none
    ∙ sym (ap (λ (b : Bool). (if b then slice_index bytes (length bytes - 1 - n) else 0) * 256 ^ n + last_number
    bytes n)
    (le-ltb n (length bytes) past)))
    (cases_lt n (length bytes))

-- the sum of one place
place_sum : (v carried total old digit carry power now first second : ℕ) → total ≡ v + 256 * carried
    → total ≡ old + digit + carry → now + carry * power ≡ first + second
    → v * power + now + carried * (256 * power) ≡ old * power + first + (digit * power + second)
place_sum v carried total old digit carry power now first second is sum so_far =
    let e : (v + 256 * carried) * power ≡ (old + digit + carry) * power = ap (λ (n : ℕ). n * power) (sym is ∙ sum) in
    omega (arith, e, so_far)

-- the sum so far: the last n bytes, and what is carried
pub record IsAdded (old sent now : List ℕ) (n carry : ℕ) : Type 0 where
  pub size : length now ≡ length old
  pub carry_small : carry ≤ 1
  pub before : (k : ℕ) → k + n < length old → slice_index now k ≡ slice_index old k
  pub sum : last_number now n + carry * 256 ^ n ≡ last_number old n + last_number sent n
  pub digits : All (λ b. b < 256) (drop (length old - n) now)

last_none : (bytes : List ℕ) → last_number bytes 0 ≡ 0
last_none bytes =
    let whole : length bytes - 0 ≡ length bytes = omega arith in
    ap (λ (k : ℕ). number_of (drop k bytes)) whole ∙ ap number_of (drop-length bytes) ∙ number-nil

pub added_none : (old sent : List ℕ) → IsAdded old sent old 0 0
added_none old sent = record {
  size = refl;
  carry_small = omega arith;
  before = λ k lt. refl;
  sum = (let a = last_none old in let b = last_none sent in omega (arith, a, b));
  digits = λ k d lt. absurd (let rest = length-drop (length old - 0) old in omega (arith, rest, lt));
}

-- a byte before others
digits_more : (byte : ℕ) (bytes : List ℕ) → byte < 256 → All (λ b. b < 256) bytes → All (λ b. b < 256) (byte ∷ bytes)
digits_more byte bytes small each zero d lt = small
digits_more byte bytes small each (suc k) d lt = each k d (omega (arith, lt))

pub added_more : (old sent now : List ℕ) (n carry total : ℕ) → IsAdded old sent now n carry → n < length old
    → total ≡ digit_of now n + digit_of sent n + carry → digit_of now n < 256 → digit_of sent n < 256
    → IsAdded old sent (slice_set now (length now - 1 - n) (total % 256)) (n + 1) (total / 256)
added_more old sent now n carry total is lt adds small_old small_digit =
    let place = length now - 1 - n in
    let after = slice_set now place (total % 256) in
    let size = is.size in
    let own : digit_of now n ≡ slice_index now place =
    ap (λ (b : Bool). if b then slice_index now place else 0) (lt-ltb n (length now) (omega (arith, size, lt))) in
    let after_size : length after ≡ length now = length-set now place (total % 256) in
    let inside : place < length now = omega (arith, size, lt) in
    let here : length old - (n + 1) ≡ place = omega (arith, size, lt) in
    let next : place + 1 ≡ length old - n = omega (arith, size, lt) in
    let tail : drop (length old - (n + 1)) after ≡ total % 256 ∷ drop (length old - n) now =
    ap (λ (k : ℕ). drop k after) here ∙ drop-set now place (total % 256) inside
    ∙ ap (λ (k : ℕ). total % 256 ∷ drop k now) next in
    let byte : total % 256 < 256 = omega arith in
    let same : slice_index now place ≡ slice_index old (length old - 1 - n) =
    is.before place (omega (arith, size, lt)) ∙ ap (λ (l : ℕ). slice_index old (l - 1 - n)) size in
    let rest = length-drop (length old - n) now in
    let count : length (drop (length old - n) now) ≡ n = omega (arith, rest, size, lt) in
    let value : last_number after (n + 1) ≡ total % 256 * 256 ^ n + last_number now n =
    ap (λ (l : ℕ). number_of (drop (l - (n + 1)) after)) (after_size ∙ size) ∙ ap number_of tail
    ∙ number-cons (total % 256) (drop (length old - n) now)
    ∙ ap₂ (λ (k l : ℕ). total % 256 * 256 ^ k + number_of (drop (l - n) now)) count (sym size) in
    let carries : total ≡ total % 256 + 256 * (total / 256) = omega arith in
    let sums : total ≡ slice_index old (length old - 1 - n) + digit_of sent n + carry =
    adds ∙ ap (λ (b : ℕ). b + digit_of sent n + carry) (own ∙ same) in
    let step = place_sum (total % 256) (total / 256) total (slice_index old (length old - 1 - n)) (digit_of sent n)
    carry
    (256 ^ n) (last_number now n) (last_number old n) (last_number sent n) carries sums is.sum in
    let power : 256 ^ (n + 1) ≡ 256 * 256 ^ n = (let up : n + 1 ≡ suc n = omega arith in
    ap (λ (k : ℕ). 256 ^ k) up ∙ pow-succ' 256 n) in
    record {
      size = after_size ∙ size;
      carry_small = (let small = is.carry_small in omega (arith, adds, small_old, small_digit, small));
      before = λ k below. get_or-set_other now place k (total % 256) 0
          (λ e. let z : ⊥ = omega (arith, e, below, size, lt) in z) ∙ is.before k (omega (arith, below));
      sum = ap₂ (λ (a p : ℕ). a + total / 256 * p) value power ∙ step
          ∙ ap₂ (λ (a b : ℕ). a + b) (sym (last_more old n lt)) (sym (last_digit sent n));
      digits = (let family : List ℕ → Type 0 = λ l. All (λ b. b < 256) l in
          subst family (sym tail) (digits_more (total % 256) (drop (length old - n) now) byte is.digits));
    }

-- the whole sum
pub added_all : (old sent now : List ℕ) (n carry : ℕ) → IsAdded old sent now n carry → n ≡ length old
    → length sent ≤ length old
    → number_of now + (if not (carry == 0) then 256 ^ length old else 0) ≡ number_of old + number_of sent
added_all old sent now n carry is all fits = elim (eqb_tells carry 0) [
  | inl none ↦
      let no : carry * 256 ^ n ≡ 0 = ap (λ (k : ℕ). k * 256 ^ n) none.1 ∙ omega_zero (256 ^ n) in
      let e : (if not (carry == 0) then 256 ^ length old else 0) ≡ 0 = ap (λ (k : ℕ). if not (k == 0) then 256 ^
      length old else 0) none.1 in
      omega (arith, sums, no, e)
  | inr some ↦
      let one : carry ≡ 1 = (let small = is.carry_small in let s = some.1 in omega (arith, small, s)) in
      let p : carry * 256 ^ n ≡ 256 ^ length old = ap₂ (λ (k l : ℕ). k * 256 ^ l) one all
      ∙ omega_one (256 ^ length old) in
      let e : (if not (carry == 0) then 256 ^ length old else 0) ≡ 256 ^ length old = ap (λ (k : ℕ). if not (k == 0)
      then 256 ^ length old else 0) one in
      omega (arith, sums, p, e)
]
  where
    omega_zero : (x : ℕ) → 0 * x ≡ 0
    omega_zero x = omega arith

    omega_one : (x : ℕ) → 1 * x ≡ x
    omega_one x = omega arith

    whole : (bytes : List ℕ) (k : ℕ) → length bytes ≤ k → last_number bytes k ≡ number_of bytes
    whole bytes k most = let z : length bytes - k ≡ 0 = omega (arith, most) in ap (λ (i : ℕ). number_of (drop i
        bytes)) z

    sums : number_of now + carry * 256 ^ n ≡ number_of old + number_of sent
    sums =
        let size = is.size in
        let a = whole now n (omega (arith, size, all)) in
        let b = whole old n (omega (arith, all)) in
        let c = whole sent n (omega (arith, all, fits)) in
        let s = is.sum in
        omega (arith, a, b, c, s)

pub added_digits : (old sent now : List ℕ) (n carry : ℕ) → IsAdded old sent now n carry → n ≡ length old
    → All (λ b. b < 256) now
added_digits old sent now n carry is all =
    let none : length old - n ≡ 0 = omega (arith, all) in
    let family : ℕ → Type 0 = λ i. All (λ b. b < 256) (drop i now) in
    subst family none is.digits

-- elements that are written through a slice of the same length
pub refilled : (xs ws : List ℕ) → length ws ≡ length xs → refill (length xs) xs ws ≡ ws
refilled xs ws same =
    ap (λ (k : ℕ). take (length xs) (ws ++ drop k xs)) same
    ∙ ap (λ (r : List ℕ). take (length xs) (ws ++ r)) (drop-length xs)
    ∙ ap (take (length xs)) (append-nil ws) ∙ take_all (length xs) ws (omega (arith, same))
