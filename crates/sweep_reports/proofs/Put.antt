-- Text that is appended, part by part.
use Rattle.std.specs.Prelude.{◌≡◌, ◌+◌, ℕ, suc, List, [], ◌++◌, Result, Ok, Err, OnOk}
use Rattle.std.proofs.Common.{refl, sym, ◌∙◌, ap, subst, arith, append_assoc, append-nil}
use Rattle.sweep_reports.specs.ReportParts.{AddsText}
use Rattle.sweep_reports.specs.Reporting.{TextsInTurn}

-- of an answer that is Ok, one fact follows from the other
pub on-ok : {T E : Type 0} (r : Result T E) (A B : Type 0) → (A → B) → OnOk r A → OnOk r B
on-ok (Ok t) A B then holds = then holds
on-ok (Err e) A B then holds = holds

-- what was appended, said otherwise
pub puts-weaker : (Is Also : List ℕ → Type 0) (old new : List ℕ) → ((text : List ℕ) → Is text → Also text)
    → AddsText Is old new → AddsText Also old new
puts-weaker Is Also old new weaker some =
    record { more = some.more; holds = weaker some.more some.holds; all = some.all }

-- two parts, one behind the other
pub puts-both : (Is Next Both : List ℕ → Type 0) (old between new : List ℕ)
    → ((one two : List ℕ) → Is one → Next two → Both (one ++ two))
    → AddsText Is old between → AddsText Next between new → AddsText Both old new
puts-both Is Next Both old between new both some next = record {
  more = some.more ++ next.more;
  holds = both some.more next.more some.holds next.holds;
  all = next.all ∙ ap (λ (l : List ℕ). l ++ next.more) some.all ∙ append_assoc old some.more next.more;
}

-- nothing yet
pub in-turn-none : (IsText : ℕ → List ℕ → Type 0) (old : List ℕ) → AddsText (TextsInTurn IsText 0) old old
unfolding TextsInTurn
in-turn-none IsText old = record { more = []; holds = refl; all = sym (append-nil old) }

-- one more
pub in-turn-next : (IsText : ℕ → List ℕ → Type 0) (n : ℕ) (old between new : List ℕ)
    → AddsText (TextsInTurn IsText n) old between → AddsText (IsText n) between new
    → AddsText (TextsInTurn IsText (n + 1)) old new
unfolding TextsInTurn
in-turn-next IsText n old between new some next =
    let more : AddsText (TextsInTurn IsText (suc n)) old new =
    puts-both (TextsInTurn IsText n) (IsText n) (TextsInTurn IsText (suc n)) old between new
    (λ one two texts text. (one, two, texts, text, refl)) some next in
    let same : suc n ≡ n + 1 = omega arith in
    subst (λ (m : ℕ). AddsText (TextsInTurn IsText m) old new) same more

-- three texts, one behind the other
pub three-parts : (old one two three : List ℕ) → ((old ++ one) ++ two) ++ three ≡ old ++ ((one ++ two) ++ three)
three-parts old one two three =
    ap (λ (l : List ℕ). l ++ three) (append_assoc old one two) ∙ append_assoc old (one ++ two) three

-- four texts, one after the other
pub four-parts : (old one two three four : List ℕ)
    → (((old ++ one) ++ two) ++ three) ++ four ≡ old ++ (((one ++ two) ++ three) ++ four)
four-parts old one two three four =
    ap (λ (l : List ℕ). l ++ four) (three-parts old one two three) ∙ append_assoc old ((one ++ two) ++ three) four

-- five texts, one after the other
pub five-parts : (old one two three four five : List ℕ)
    → ((((old ++ one) ++ two) ++ three) ++ four) ++ five ≡ old ++ ((((one ++ two) ++ three) ++ four) ++ five)
five-parts old one two three four five =
    ap (λ (l : List ℕ). l ++ five) (four-parts old one two three four)
    ∙ append_assoc old (((one ++ two) ++ three) ++ four) five
