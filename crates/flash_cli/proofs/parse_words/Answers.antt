use Rattle.std.specs.String.{string_bytes}
use Rattle.std.proofs.Common.{Global, sym, ◌∙◌}
use Rattle.flash_cli.proofs.GivenWords.{none_given, option_first, same_bytes, small_given}
use Rattle.flash_cli.proofs.parse_words.Goals as goal

pub returns-clause-flash : goal.returns-clause-flash
returns-clause-flash c =
    let option = sym c.as_bytes.ensures.value ∙ same_bytes _ _ c.if-ne.ensures ∙ c.as_slice.ensures in
    let a = c.in_ok-_program.ensures.cases in
    let b = c.in_ok-first.ensures.cases in
    let d = c.in_ok-text.ensures.cases in
    small_given _ _ _ _
    (option_first (string_bytes {Z = Global}) _ _ _ _ _ _ _ _ _ _ _ a.0 a.1 b.0 b.1 d.0 d.1 option)
    c.parse_seed-2.result c.parse_seed-2.ensures.sectors c.parse_seed-2.ensures.seed

pub returns-clause-none : goal.returns-clause-none
returns-clause-none c =
    let option = sym c.as_bytes.ensures.value ∙ same_bytes _ _ c.if-ne.ensures ∙ c.as_slice.ensures in
    let a = c.in_ok-_program.ensures.cases in
    let b = c.in_ok-first.ensures.cases in
    let d = c.in_ok-text.ensures.cases in
    none_given _ _ _ _
    (option_first (string_bytes {Z = Global}) _ _ _ _ _ _ _ _ _ _ _ a.0 a.1 b.0 b.1 d.0 d.1 option)
    c.parse_seed-2.result c.parse_seed-2.ensures.none
