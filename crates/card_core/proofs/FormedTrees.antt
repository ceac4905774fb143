-- A well-formed card stays so with another file in its tree, and with files less.
use Rattle.std.specs.Prelude.{◌≡◌, ◌⊎◌, ◌<◌, ◌≤◌, ◌-◌, ◌&&◌, not, ℕ, zero, suc, Bool, true, false, cond}
use Rattle.std.specs.Prelude.{if◌then◌else◌, List, [], ◌∷◌, length, take, find, nat_eq}
use Rattle.std.specs.Prelude.{Option, Some, None, unwrap_or, is_some, IsTrue}
use Rattle.std.specs.List.{starts_with}
use Rattle.std.specs.Ordering.{nat_cmp}
use Rattle.std.specs.Cmp.Lexicographic.{slice_cmp, nat_list_cmp_total}
use Rattle.std.specs.FinMap.{get, insert, get-insert, retain_keys, get-retain_keys}
use Rattle.std.specs.FinMap.{slice_cmp-IsAntisymmetric, nat_cmp-IsAntisymmetric}
use Rattle.std.specs.FinMap.Entries as keyed
use Rattle.std.proofs.Common.{arith, refl, sym, ◌∙◌, ap, subst, inl, inr, true≢false}
use Rattle.std.proofs.lemmas.Option.{none-some, same_Some}
use Rattle.card_model.specs.Rule.{is_rule}
use Rattle.card_model.specs.FileTrees.{File, Kind, Path, Tree, IsTree, dedicated, file_at, is_dedicated, no_file}
use Rattle.card_model.specs.FileTrees.{parent, short_of}
use Rattle.card_model.specs.Cards.{Card}
use Rattle.card_model.specs.FileCommands.{without}
use Rattle.card_model.specs.WellFormed.{IsWellFormed}
use Rattle.card_model.specs.laws.Orders.{same_path, one_of_same}

-- whether what is found is a DF
abbrev pub is_df : Option File → Bool
is_df found = is_some found && is_dedicated (unwrap_or found no_file).kind

-- what is found where a file was put into a tree
abbrev pub IsPut : Tree → Path → File → Path → File → Type 0
IsPut tree path file q found = ((q ≡ path) × (file ≡ found)) ⊎ (get tree q ≡ Some found)

put_found : (tree : Tree) (path : Path) (file : File) (q : Path) (found : File)
    → get (insert tree path file) q ≡ Some found → IsPut tree path file q found
put_found tree path file q found is =
    by (same_path q path) refl (sym (get-insert nat_list_cmp_total tree path file q) ∙ is)
  where
    by : (test : Bool) → same_path q path ≡ test → cond test (Some file) (get tree q) ≡ Some found
        → IsPut tree path file q found
    by true same is = inl (one_of_same q path same, same_Some file found is)
    by false same is = inr is

-- A file that fits a path of a tree. There is a DF above it, it is a DF if there was one, and it is on one of eight
-- levels. Its rule is valid. No other file has its name, and none beside it has its short identifier.
pub record Fits (tree : Tree) (path : Path) (file : File) : Type 0 where
  pub above : is_df (get tree (parent path)) ≡ true
  pub kept : is_df (get tree path) ≡ true → is_dedicated file.kind ≡ true
  pub level : length path ≤ 7
  pub rule : IsTrue (is_rule file.rule)
  pub name : (q : Path) (found : File) (name : List ℕ) → get tree q ≡ Some found
      → found.kind ≡ dedicated (Some name) → file.kind ≡ dedicated (Some name) → q ≡ path
  pub short : (q : Path) (found : File) (short : ℕ) → get tree q ≡ Some found → parent q ≡ parent path
      → short_of found.kind ≡ Some short → short_of file.kind ≡ Some short → q ≡ path

module _ (tree : Tree) (path : Path) (file : File) (fits : Fits tree path file) where
  pub df_stays : (q : Path) → is_df (get tree q) ≡ true → is_df (get (insert tree path file) q) ≡ true
  df_stays q df = ap is_df (get-insert nat_list_cmp_total tree path file q) ∙ by (same_path q path) refl
    where
      by : (test : Bool) → same_path q path ≡ test → is_df (cond test (Some file) (get tree q)) ≡ true
      by true same = fits.kept (sym (ap (λ (p : Path). is_df (get tree p)) (one_of_same q path same)) ∙ df)
      by false same = df

  there_stays : (q : Path) → is_some (get tree q) ≡ true → is_some (get (insert tree path file) q) ≡ true
  there_stays q there =
      ap (λ (o : Option File). is_some o) (get-insert nat_list_cmp_total tree path file q) ∙ by (same_path q path)
    where
      by : (test : Bool) → is_some (cond test (Some file) (get tree q)) ≡ true
      by true = refl
      by false = there

  put_tree : IsTree tree → IsTree (insert tree path file)
  put_tree valid = record {
    master = there_stays [] valid.master;
    parents = λ q there. by q (same_path q path) refl
        (sym (ap (λ (o : Option File). is_some o) (get-insert nat_list_cmp_total tree path file q)) ∙ there);
  }
    where
      by : (q : Path) (test : Bool) → same_path q path ≡ test → is_some (cond test (Some file) (get tree q)) ≡ true
          → is_df (get (insert tree path file) (parent q)) ≡ true
      by q true same there =
          df_stays (parent q) (ap (λ (p : Path). is_df (get tree (parent p))) (one_of_same q path same) ∙ fits.above)
      by q false same there = df_stays (parent q) (valid.parents q there)

-- a card with a file that fits
module _ (c : Card) (path : Path) (file : File) (formed : IsWellFormed c) (fits : Fits c.tree path file) where
  put_level : (q : Path) (found : File) → IsPut c.tree path file q found → length q ≤ 7
  put_level q found (inl here) = subst (λ (p : Path). length p ≤ 7) (sym here.0) fits.level
  put_level q found (inr was) = formed.levels q found was

  put_rule : (q : Path) (found : File) → IsPut c.tree path file q found → IsTrue (is_rule found.rule)
  put_rule q found (inl here) = subst (λ (f : File). IsTrue (is_rule f.rule)) here.1 fits.rule
  put_rule q found (inr was) = formed.rules q found was

  put_names : (one other : Path) (first second : File) (name : List ℕ) → IsPut c.tree path file one first
      → IsPut c.tree path file other second → first.kind ≡ dedicated (Some name)
      → second.kind ≡ dedicated (Some name) → one ≡ other
  put_names one other first second name (inl here) (inl there) is_one is_other = here.0 ∙ sym there.0
  put_names one other first second name (inl here) (inr old) is_one is_other =
      here.0 ∙ sym (fits.name other second name old is_other (ap (λ (f : File). f.kind) here.1 ∙ is_one))
  put_names one other first second name (inr was) (inl there) is_one is_other =
      fits.name one first name was is_one (ap (λ (f : File). f.kind) there.1 ∙ is_other) ∙ sym there.0
  put_names one other first second name (inr was) (inr old) is_one is_other =
      formed.names one other first second name was old is_one is_other

  put_shorts : (one other : Path) (first second : File) (short : ℕ) → IsPut c.tree path file one first
      → IsPut c.tree path file other second → parent one ≡ parent other → short_of first.kind ≡ Some short
      → short_of second.kind ≡ Some short → one ≡ other
  put_shorts one other first second short (inl here) (inl there) beside is_one is_other = here.0 ∙ sym there.0
  put_shorts one other first second short (inl here) (inr old) beside is_one is_other =
      here.0 ∙ sym (fits.short other second short old (sym beside ∙ ap parent here.0) is_other
      (ap (λ (f : File). short_of f.kind) here.1 ∙ is_one))
  put_shorts one other first second short (inr was) (inl there) beside is_one is_other =
      fits.short one first short was (beside ∙ ap parent there.0) is_one
      (ap (λ (f : File). short_of f.kind) there.1 ∙ is_other) ∙ sym there.0
  put_shorts one other first second short (inr was) (inr old) beside is_one is_other =
      formed.shorts one other first second short was old beside is_one is_other

  pub put_formed : IsWellFormed (record c { tree = insert c.tree path file })
  put_formed = record {
    tree = put_tree c.tree path file fits formed.tree;
    levels = λ q found is. put_level q found (put_found c.tree path file q found is);
    rules = λ q found is. put_rule q found (put_found c.tree path file q found is);
    names = λ one other first second name is_one is_other. put_names one other first second name
        (put_found c.tree path file one first is_one) (put_found c.tree path file other second is_other);
    shorts = λ one other first second short is_one is_other. put_shorts one other first second short
        (put_found c.tree path file one first is_one) (put_found c.tree path file other second is_other);
    pins = formed.pins;
    values = formed.values;
  }

-- A kind with the name or short identifier of another one, and with other content.
pub record AreAlike (old new : Kind) : Type 0 where
  pub df : is_dedicated new ≡ is_dedicated old
  pub name : (name : List ℕ) → new ≡ dedicated (Some name) → old ≡ dedicated (Some name)
  pub short : short_of new ≡ short_of old

-- a file of the same rule and of a kind alike fits where the file was
pub fits_again : (c : Card) (path : Path) (old new : File) → IsWellFormed c → get c.tree path ≡ Some old
    → new.rule ≡ old.rule → AreAlike old.kind new.kind → Fits c.tree path new
fits_again c path old new formed is rule alike = record {
  above = formed.tree.parents path (ap (λ (o : Option File). is_some o) is);
  kept = λ df. alike.df ∙ (sym (ap is_df is) ∙ df);
  level = formed.levels path old is;
  rule = ap is_rule rule ∙ formed.rules path old is;
  name = λ q found name at its own. formed.names q path found old name at is its (alike.name name own);
  short = λ q found short at beside its own.
      formed.shorts q path found old short at is beside its (sym alike.short ∙ own);
}

-- where the file at a path is other than one that stands for none, there is one
pub there_is : (c : Card) (path : Path) (test : File → Bool) → test no_file ≡ false
    → test (file_at c.tree path) ≡ true → get c.tree path ≡ Some (file_at c.tree path)
there_is c path test never is = among (get c.tree path) refl is
  where
    among : (found : Option File) → get c.tree path ≡ found → test (unwrap_or found no_file) ≡ true
        → get c.tree path ≡ Some (unwrap_or found no_file)
    among None at is = absurd (true≢false (sym is ∙ never))
    among (Some file) at is = at

-- where no file passes a test, the one at a path doesn't
pub none_passes : (test : Path × File → Bool) (es : List (Path × File)) (q : Path) (found : File)
    → is_some (find test es) ≡ false → keyed.find (slice_cmp nat_cmp) q es ≡ Some found → test (q, found) ≡ false
none_passes test [] q found none at = absurd (none-some found at)
none_passes test (e ∷ es) q found none at =
    by_test (test e) refl (λ rest at_rest. none_passes test es q found rest at_rest) none
  where
    by_path : (same : Bool) → same_path q e.0 ≡ same → test e ≡ false
        → (keyed.find (slice_cmp nat_cmp) q es ≡ Some found → test (q, found) ≡ false)
        → cond same (Some e.1) (keyed.find (slice_cmp nat_cmp) q es) ≡ Some found → test (q, found) ≡ false
    by_path true same fails rest at =
        let here : e ≡ (q, found) = λ i. (sym (one_of_same q e.0 same) i, same_Some e.1 found at i) in
        sym (ap test here) ∙ fails
    by_path false same fails rest at = rest at

    by_test : (b : Bool) → test e ≡ b → (is_some (find test es) ≡ false
        → keyed.find (slice_cmp nat_cmp) q es ≡ Some found → test (q, found) ≡ false)
        → is_some (if b then Some e else find test es) ≡ false → test (q, found) ≡ false
    by_test true is rest none = absurd (true≢false none)
    by_test false is rest none = by_path (same_path q e.0) refl is (rest none) at

-- what doesn't begin with a path, doesn't if it is shorter
begins_less : (n : ℕ) (q path : Path) → starts_with nat_eq q path ≡ false → starts_with nat_eq (take n q) path ≡ false
begins_less zero [] path e = e
begins_less zero (x ∷ q) [] e = absurd (true≢false e)
begins_less zero (x ∷ q) (y ∷ path) e = refl
begins_less (suc n) [] path e = e
begins_less (suc n) (x ∷ q) [] e = absurd (true≢false e)
begins_less (suc n) (x ∷ q) (y ∷ path) e =
    by (nat_eq y x) (starts_with nat_eq q path) (starts_with nat_eq (take n q) path) (begins_less n q path) e
  where
    by : (same whole part : Bool) → (whole ≡ false → part ≡ false) → (same && whole) ≡ false → (same && part) ≡ false
    by true whole part less e = less e
    by false whole part less e = refl

-- a card without a file and what is below it
module _ (c : Card) (path : Path) (below : 0 < length path) (formed : IsWellFormed c) where
  abbrev stays : Path → Bool
  stays q = not (starts_with nat_eq q path)

  kept_at : (q : Path) → get (retain_keys c.tree stays) q ≡ cond (stays q) (get c.tree q) None
  kept_at q = get-retain_keys c.tree stays q
      (λ other same. ap stays (sym (slice_cmp-IsAntisymmetric nat_cmp-IsAntisymmetric q other same)))

  pub was_there : (q : Path) (found : File) → get (without c path).tree q ≡ Some found → get c.tree q ≡ Some found
  was_there q found is = by (stays q) (sym (kept_at q) ∙ is)
    where
      by : (test : Bool) → cond test (get c.tree q) None ≡ Some found → get c.tree q ≡ Some found
      by true is = is
      by false is = absurd (none-some found is)

  master_stays : stays [] ≡ true
  master_stays = by path below
    where
      by : (p : Path) → 0 < length p → not (starts_with nat_eq [] p) ≡ true
      by [] some = absurd (omega (arith, some))
      by (x ∷ p) some = refl

  -- what stays has a parent that stays
  pub parent_stays : (q : Path) → stays q ≡ true → stays (parent q) ≡ true
  parent_stays q is = by (starts_with nat_eq q path) (starts_with nat_eq (parent q) path)
      (begins_less (length q - 1) q path) is
    where
      by : (whole part : Bool) → (whole ≡ false → part ≡ false) → not whole ≡ true → not part ≡ true
      by whole true less is = absurd (true≢false (less (to_false whole is)))
        where
          to_false : (b : Bool) → not b ≡ true → b ≡ false
          to_false true e = absurd (true≢false (sym e))
          to_false false e = refl
      by whole false less is = refl

  pub df_is_kept : (q : Path) → stays q ≡ true → is_df (get c.tree q) ≡ true
      → is_df (get (without c path).tree q) ≡ true
  df_is_kept q stay df =
      ap is_df (kept_at q) ∙ ap (λ (b : Bool). is_df (cond b (get c.tree q) None)) stay ∙ df

  less_tree : IsTree (without c path).tree
  less_tree = record {
    master = ap (λ (o : Option File). is_some o) (kept_at [])
        ∙ ap (λ (b : Bool). is_some (cond b (get c.tree []) None)) master_stays ∙ formed.tree.master;
    parents = λ q there. by q (stays q) refl
        (sym (ap (λ (o : Option File). is_some o) (kept_at q)) ∙ there);
  }
    where
      by : (q : Path) (test : Bool) → stays q ≡ test → is_some (cond test (get c.tree q) None) ≡ true
          → is_df (get (without c path).tree (parent q)) ≡ true
      by q true stay there = df_is_kept (parent q) (parent_stays q stay) (formed.tree.parents q there)
      by q false stay there = absurd (true≢false (sym there))

  pub less_formed : IsWellFormed (without c path)
  less_formed = record {
    tree = less_tree;
    levels = λ q found is. formed.levels q found (was_there q found is);
    rules = λ q found is. formed.rules q found (was_there q found is);
    names = λ one other first second name is_one is_other. formed.names one other first second name
        (was_there one first is_one) (was_there other second is_other);
    shorts = λ one other first second short is_one is_other. formed.shorts one other first second short
        (was_there one first is_one) (was_there other second is_other);
    pins = formed.pins;
    values = formed.values;
  }
