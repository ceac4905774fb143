use Rattle.std.proofs.Common.{◌≢◌, ◌<◌, sym, ◌∙◌, true≢false, arith}
use Rattle.file_tree.specs.Table.{table}
use Rattle.file_tree.specs.laws.Above.{child_named, child_not_named, master_named}
use Rattle.file_lookup.proofs.look_up.has_identifier.Goals as goal

pub returns-then-is_master : goal.returns-then-is_master
returns-then-is_master c = λ m rules used is. master_named (table m) rules c.args.e c.args.identifier
    (c.is_master.ensures.0 c.if-is_master.true)

pub returns-in-Some : goal.returns-in-Some
returns-in-Some c = λ m rules used is.
    let other : c.args.e ≢ 0 = λ none. true≢false (sym (c.is_master.ensures.1 none) ∙ c.if-is_master.false) in
    let below : 0 < c.args.e = omega (arith, other) in
    c.eq.ensures
    ∙ child_named (table m) rules c.args.e c.parent.result c.args.identifier used (c.parent.ensures m rules used is)
    c.in-Some.child below (c.in-Some.ensures m is)

pub returns-in-None : goal.returns-in-None
returns-in-None c = λ m rules used is.
    let other : c.args.e ≢ 0 = λ none. true≢false (sym (c.is_master.ensures.1 none) ∙ c.if-is_master.false) in
    let below : 0 < c.args.e = omega (arith, other) in
    child_not_named (table m) rules c.args.e c.parent.result c.args.identifier used (c.parent.ensures m rules used is)
    below (c.in-None.ensures m is)
