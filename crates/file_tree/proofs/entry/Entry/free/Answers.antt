use Rattle.std.proofs.Common.{◌≡◌, ◌<◌, ℕ, List, length, replicate, slice_index_or, sym, ◌∙◌, subst}
use Rattle.std.proofs.lemmas.List.{same_lists, length-replicate, get_or-replicate}
use Rattle.file_tree.proofs.entry.Entry.free.Goals as goal

-- a list of zeros
zeros : (xs : List ℕ) (n : ℕ) → length xs ≡ n → ((i d : ℕ) → i < n → slice_index_or xs i d ≡ 0) → xs ≡ replicate n 0
zeros xs n long each =
    same_lists xs (replicate n 0) (long ∙ sym (length-replicate n 0)) (λ k d below.
    let within = subst (λ (l : ℕ). k < l) long below in
    each k d within ∙ sym (get_or-replicate n k 0 d within))

pub returns : goal.returns
returns c =
    let (kind, (life, (identifier, (parent, (short, (name_length, rest)))))) = c.default.ensures in
    let (rule_length, (rule, (name, (size, (record_length, (first, (last, (records, start)))))))) = rest in
    λ i. record {
      kind = kind i;
      life = life i;
      identifier = identifier i;
      parent = parent i;
      short = short i;
      name_length = name_length i;
      rule_length = rule_length i;
      rule = zeros _ 8 rule.long rule.at i;
      name = zeros _ 16 name.long name.at i;
      size = size i;
      record_length = record_length i;
      first = first i;
      last = last i;
      records = records i;
      start = start i;
    }
