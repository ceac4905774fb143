-- Pages that are linked one by one.
use Rattle.std.specs.Prelude.{◌≡◌, ◌≢◌, ◌⊎◌, ◌==◌, ◌<◌, ◌≤◌, ◌+◌, ℕ, if◌then◌else◌, List, slice_set, length}
use Rattle.std.proofs.Common.{refl, sym, ◌∙◌, ap, subst, arith, inl, inr, ⊎_elim}
use Rattle.std.proofs.Math.ListN.{length-set}
use Rattle.std.proofs.lemmas.Bool.{cases_lt}
use Rattle.nvm_board.specs.Facts.{address, IsMemory, pages_of}
use Rattle.nvm_board.specs.laws.Sizes.{page_within}
use Rattle.block_chain.specs.BlockWords.{link}
use Rattle.block_chain.specs.ChainChanges.{LinksAlone, LinksFirst}
use Rattle.block_chain.specs.laws.Words.{word-set_other, word-set_same}

-- none is linked yet
pub links_none : (first end : ℕ) (m : List ℕ) → LinksAlone first end m m
links_none first end m = record { size = refl; others = λ page place small apart. refl }

-- whole or torn, one write more changes links alone
pub links_more : (first end page w : ℕ) (m now after : List ℕ) → first ≤ page → page < end → LinksAlone first end m now
    → (after ≡ now) ⊎ (after ≡ slice_set now (address page 0) w) → LinksAlone first end m after
links_more first end page w m now after from below only torn = ⊎_elim
    (λ (old : after ≡ now). subst (λ (l : List ℕ). LinksAlone first end m l) (sym old) only)
    (λ (new : after ≡ slice_set now (address page 0) w).
    subst (λ (l : List ℕ). LinksAlone first end m l) (sym new) (record {
      size = length-set now (address page 0) w ∙ only.size;
      others = λ other place small apart.
          word-set_other now page 0 other place w (omega arith) small
          (⊎_elim (λ (away : place ≢ 0). inr away)
          (λ (outside : (other < first) ⊎ (end ≤ other)). inl (λ is. ⊎_elim
          (λ (low : other < first). let z : ⊥ = omega (arith, low, is, from) in z)
          (λ (past : end ≤ other). let z : ⊥ = omega (arith, past, is, below) in z)
          outside)) apart)
          ∙ only.others other place small apart;
    }))
    torn

-- and the links behind it stay
pub links_behind : (page w : ℕ) (now after : List ℕ) → (after ≡ now) ⊎ (after ≡ slice_set now (address page 0) w)
    → (q : ℕ) → page < q → link after q ≡ link now q
links_behind page w now after torn q past = ⊎_elim
    (λ (old : after ≡ now). ap (λ (l : List ℕ). link l q) old)
    (λ (new : after ≡ slice_set now (address page 0) w). ap (λ (l : List ℕ). link l q) new
    ∙ word-set_other now page 0 q 0 w (omega arith) (omega arith)
    (inl (λ same. let z : ⊥ = omega (arith, same, past) in z)))
    torn

-- then it is linked, beside those before it
pub linked_more : (first end rest page w : ℕ) (now after : List ℕ) → IsMemory now → page < pages_of now
    → w ≡ (if page + 1 == end then rest else page + 1) → after ≡ slice_set now (address page 0) w
    → ((q : ℕ) → first ≤ q → q < page → link now q ≡ (if q + 1 == end then rest else q + 1))
    → (q : ℕ) → first ≤ q → q < page + 1 → link after q ≡ (if q + 1 == end then rest else q + 1)
linked_more first end rest page w now after sized inner is done linked q from below =
    let within = page_within now page sized inner in
    let inside : address page 0 < length now = omega (arith, within) in
    ap (λ (l : List ℕ). link l q) done
    ∙ ⊎_elim
    (λ (before : q < page).
    word-set_other now page 0 q 0 w (omega arith) (omega arith)
    (inl (λ same. let z : ⊥ = omega (arith, same, before) in z))
    ∙ linked q from before)
    (λ (past : page ≤ q).
    let here : q ≡ page = omega (arith, past, below) in
    ap (λ (p : ℕ). link (slice_set now (address page 0) w) p) here
    ∙ word-set_same now page 0 w inside ∙ is
    ∙ sym (ap (λ (p : ℕ). if p + 1 == end then rest else p + 1) here))
    (cases_lt q page)

-- whole or torn, the first pages are linked, up to this one or with it
pub links_first : (first end rest page w : ℕ) (m now after : List ℕ) → IsMemory now → page < pages_of now
    → w ≡ (if page + 1 == end then rest else page + 1)
    → ((q : ℕ) → first ≤ q → q < page → link now q ≡ (if q + 1 == end then rest else q + 1))
    → ((q : ℕ) → page ≤ q → q < end → link now q ≡ link m q)
    → (after ≡ now) ⊎ (after ≡ slice_set now (address page 0) w) → LinksFirst first end rest m after
links_first first end rest page w m now after sized inner is linked behind torn = ⊎_elim
    (λ (old : after ≡ now). record {
      made = page;
      linked = λ q from below. ap (λ (l : List ℕ). link l q) old ∙ linked q from below;
      behind = λ q past below. ap (λ (l : List ℕ). link l q) old ∙ behind q past below;
    })
    (λ (new : after ≡ slice_set now (address page 0) w). record {
      made = page + 1;
      linked = linked_more first end rest page w now after sized inner is new linked;
      behind = λ q past below.
          links_behind page w now after (inr new) q (omega (arith, past)) ∙ behind q (omega (arith, past)) below;
    })
    torn
