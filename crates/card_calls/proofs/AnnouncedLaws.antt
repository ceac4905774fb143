-- An order with bytes, as it is kept with its first write.
use Rattle.std.specs.Prelude.{◌≡◌, ◌≢◌, ◌↔◌, ℕ, List, Bool, true, false, IsTrue, Option, None, Some}
use Rattle.std.proofs.Common.{ap, refl, subst, sym}
use Rattle.std.proofs.lemmas.Bool.{false≢true}
use Rattle.bench_lines.specs.OrderViews.{order_with}
use Rattle.bench_lines.specs.declared.order.Order as told
use Rattle.bench_lines.specs.declared.order.Order.TheVariants as kind
use Rattle.card_bench.specs.Charges.{MayCompare}
use Rattle.nvm_board.specs.History.{Log, Run}
use Rattle.card_calls.specs.FirstWrites.{EndsCharge, sent_order}
use Rattle.card_calls.specs.SessionStates.{Announcement}

-- runs at two addresses, and at one
pub differ_at : (a b : Run) → a.at ≢ b.at → (IsTrue false ↔ (a ≡ b))
differ_at a b differ = ((λ e. absurd (false≢true e)), (λ e. absurd (differ (ap (λ (r : Run). r.at) e))))

pub same_at : (a b : Run) (is : Bool) → a.at ≡ b.at → (IsTrue is ↔ (a.words ≡ b.words)) → (IsTrue is ↔ (a ≡ b))
same_at a b is at words = (
  (λ e. λ i. record { at = at i; words = words.0 e i }),
  (λ e. words.1 (ap (λ (r : Run). r.words) e)),
)

-- the end of an order without a charge, and of one that began otherwise
pub ends_without : (log : Option Log) (stored : ℕ) (charge : Option Announcement) → charge ≡ None
    → EndsCharge log stored charge (Some stored)
ends_without log stored charge none =
    subst (λ (c : Option Announcement). EndsCharge log stored c (Some stored)) (sym none) refl

no-block : kind.Apdu ≡ kind.Block → ⊥
no-block e = absurd cc

-- what can compare is a block or a command
pub sent_so : (order : told.Order) (given : List ℕ) (is_block : Bool) → MayCompare (order_with order given)
    → (is_block ≡ true ↔ order ≡ kind.Block) → sent_order is_block given ≡ order_with order given
sent_so kind.Nothing given is_block may is = absurd may
sent_so kind.On given is_block may is = absurd may
sent_so kind.Off given is_block may is = absurd may
sent_so kind.Free given is_block may is = absurd may
sent_so kind.Apdu given true may is = absurd (no-block (is.0 refl))
sent_so kind.Apdu given false may is = refl
sent_so kind.Block given true may is = refl
sent_so kind.Block given false may is = absurd (false≢true (is.1 refl))
sent_so (kind.Cut number mask) given is_block may is = absurd may
sent_so (kind.Lose number) given is_block may is = absurd may
sent_so (kind.Garble number) given is_block may is = absurd may
