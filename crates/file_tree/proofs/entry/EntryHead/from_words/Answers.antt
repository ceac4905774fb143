use Rattle.std.proofs.Common.{rules, ◌≡◌, ℕ, Bool, if◌then◌else◌, slice_index_or, inl, inr, sym, ◌∙◌, ap}
use Rattle.std.proofs.lemmas.Bool.Decides.{eqb_tells}
use Rattle.block_chain.specs.BlockWords.{word_bytes}
use Rattle.file_tree.specs.declared.entry.Entry.{Entry}
use Rattle.file_tree.specs.declared.entry.EntryHead.{EntryHead}
use Rattle.file_tree.specs.Entries.{byte_of, free_entry, head_of}
use Rattle.file_tree.proofs.entry.EntryHead.from_words.Goals as goal

-- what two words tell
abbrev told : ℕ → ℕ → EntryHead
told first second = record {
  kind = byte_of first 0;
  life = byte_of first 1;
  parent = byte_of second 0;
  short = byte_of second 1;
  name_length = byte_of second 2;
}

pub returns-then-first-eq0 : goal.returns-then-first-eq0
returns-then-first-eq0 c = elim (eqb_tells c.args.first 0) [
  | inl same ↦ c.head.ensures ∙ ap (λ (x : Entry). head_of x) c.free.ensures
      ∙ sym (ap (λ (b : Bool). if b then head_of free_entry else told c.args.first c.args.second) same.0)
  | inr other ↦ absurd (other.1 c.if-first-eq0.true)
]

pub returns : goal.returns
returns c =
    let first : c.to_be_bytes.result ≡ word_bytes c.args.first = search rules in
    let second : c.to_be_bytes-2.result ≡ word_bytes c.args.second = search rules in
    elim (eqb_tells c.args.first 0) [
      | inl same ↦ absurd (c.if-first-eq0.false same.1)
      | inr other ↦ (λ i. record {
        kind = slice_index_or (first i) 0 0;
        life = slice_index_or (first i) 1 0;
        parent = slice_index_or (second i) 0 0;
        short = slice_index_or (second i) 1 0;
        name_length = slice_index_or (second i) 2 0;
      })
          ∙ sym (ap (λ (b : Bool). if b then head_of free_entry else told c.args.first c.args.second) other.0)
    ]
