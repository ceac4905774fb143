use Rattle.std.specs.Prelude.{◌==◌}
use Rattle.std.proofs.Common.{◌≡◌, ◌∙◌}
use Rattle.std.proofs.lemmas.Bool.Decides.{Decides-eqb, same_from_decides}
use Rattle.file_tree.specs.declared.kinds.EntryKind.TheVariants.{Dedicated}
use Rattle.file_tree.specs.Kinds.{kind_byte}
use Rattle.command_base.specs.CurrentFiles.{made_current}
use Rattle.command_base.proofs.current.Current.at_head.Goals as goal

pub returns : goal.returns
returns c =
    let kind = c.args.head.kind in
    let dedicated : c.is_dedicated.result ≡ (kind == kind_byte Dedicated) =
    same_from_decides _ _ c.is_dedicated.ensures (Decides-eqb kind (kind_byte Dedicated)) in
    c.at_file.ensures ∙ (λ i. made_current c.args.self c.args.e (c.new.ensures i) (dedicated i))
