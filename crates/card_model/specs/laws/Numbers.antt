-- Laws of numbers that bytes spell.
use Rattle.std.proofs.Common.{refl, ◌∙◌, ap, ap₂, arith}
use Rattle.std.proofs.Math.Nat.{pow-succ', mul-le-mul_left}
use Rattle.std.proofs.lemmas.Nat.{mod-mul-add, div-mul-add}
use Rattle.std.specs.Prelude.{◌≡◌, ◌<◌, ◌≤◌, ◌+◌, ◌*◌, ◌/◌, ◌%◌, ◌^◌, ℕ, suc, List, [], ◌∷◌, length, All}
use Rattle.card_model.specs.RecordLists.{number_of, spelled}

-- no byte spells 0, and a byte before others counts as often as its place says
pub number-nil : number_of [] ≡ 0
unfolding number_of
number-nil = refl

pub number-cons : (byte : ℕ) (bytes : List ℕ) → number_of (byte ∷ bytes) ≡ byte * 256 ^ length bytes + number_of bytes
unfolding number_of
number-cons byte bytes = refl

-- the first of some bytes, and the others
pub first_small : (byte : ℕ) (bytes : List ℕ) → All (λ b. b < 256) (byte ∷ bytes) → byte < 256
first_small byte bytes each = each 0 0 (omega arith)

pub rest_small : (byte : ℕ) (bytes : List ℕ) → All (λ b. b < 256) (byte ∷ bytes) → All (λ b. b < 256) bytes
rest_small byte bytes each k d lt = each (suc k) d (omega (arith, lt))

-- a number of so many bytes is below the power of as many
below_power : (byte rest power : ℕ) → byte < 256 → rest < power → byte * power + rest < 256 * power
below_power byte rest power small below =
    let most : power * byte ≤ power * 255 = mul-le-mul_left power (omega (arith, small)) in omega (arith, most, below)

pub number-small : (bytes : List ℕ) → All (λ b. b < 256) bytes → number_of bytes < 256 ^ length bytes
number-small [] each = let one : 256 ^ 0 ≡ 1 = refl in let none = number-nil in omega (arith, one, none)
number-small (byte ∷ bytes) each =
    let rest = number-small bytes (rest_small byte bytes each) in
    let small = first_small byte bytes each in
    let here = number-cons byte bytes in
    let power = pow-succ' 256 (length bytes) in
    let below = below_power byte (number_of bytes) (256 ^ length bytes) small rest in
    omega (arith, here, power, below)

-- bytes spell their number
pub spelled-number : (bytes : List ℕ) → All (λ b. b < 256) bytes → spelled (length bytes) (number_of bytes) ≡ bytes
unfolding spelled
spelled-number [] each = refl
spelled-number (byte ∷ bytes) each =
    let rest = number-small bytes (rest_small byte bytes each) in
    let small = first_small byte bytes each in
    let p = 256 ^ length bytes in
    let top : number_of (byte ∷ bytes) / p ≡ byte =
    ap (λ (n : ℕ). n / p) (number-cons byte bytes) ∙ div-mul-add byte p (number_of bytes) rest in
    let low : number_of (byte ∷ bytes) % p ≡ number_of bytes =
    ap (λ (n : ℕ). n % p) (number-cons byte bytes) ∙ mod-mul-add byte p (number_of bytes) rest in
    let digit : number_of (byte ∷ bytes) / p % 256 ≡ byte = omega (arith, top, small) in
    ap₂ (λ (b : ℕ) (bs : List ℕ). b ∷ bs) digit
    (ap (spelled (length bytes)) low ∙ spelled-number bytes (rest_small byte bytes each))
