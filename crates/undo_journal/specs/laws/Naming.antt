-- Laws of the pages that pairs name.
use Rattle.std.specs.Prelude.{ℕ, List}
use Rattle.std.proofs.Common.{sym, subst}
use Rattle.undo_journal.specs.Undo.{pair_at}
use Rattle.undo_journal.specs.Wiping.{IsInPages, NamesPages, NamesSame}

-- pairs with the addresses that they had
pub names_back : (m after : List ℕ) → NamesSame m after → NamesSame after m
names_back m after same = record { each = λ i lt. sym (same.each i lt) }

-- name the pages that they named
pub names_kept : (first end : ℕ) (m after : List ℕ) → NamesSame m after → NamesPages first end m
    → NamesPages first end after
names_kept first end m after same named = record {
  pair = named.pair;
  is_pair = named.is_pair;
  inside = subst (λ (a : ℕ). IsInPages first end a) (sym (same.each named.pair named.is_pair)) named.inside;
}
