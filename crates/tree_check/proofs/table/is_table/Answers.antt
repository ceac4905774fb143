use Rattle.std.proofs.Common.{rules, IsTrue, subst}
use Rattle.file_tree.specs.declared.entry.Entry.{Entry}
use Rattle.file_tree.specs.Table.{IsMasterFile}
use Rattle.file_tree.specs.laws.Tables.{entry_within}
use Rattle.file_tree.specs.laws.Alikes.{table_of, table_apart}
use Rattle.tree_check.proofs.table.is_table.Goals as goal
use Rattle.tree_check.proofs.table.is_table.Goals.{then-is_master_file, else-is_master_file, then-are_entries}
use Rattle.tree_check.proofs.table.is_table.Goals.{else-are_entries}

pub returns-then-are_below_master : goal.returns-then-are_below_master
returns-then-are_below_master c = elim c.if-are_entries.branch [
  | then-are_entries lower ↦ elim c.if-is_master_file.branch [
    | then-is_master_file each ↦
        let t = c.args.entries.now in
        let some = c.requires.some in
        let is_master : Entry → Type 0 = λ x. IsMasterFile x in
        let master : IsTrue c.is_master_file.result = search rules in
        let first = subst is_master (entry_within t 0 _ some) (c.is_master_file.ensures.0 master) in
        let here : IsTrue each.are_entries.result = search rules in
        let all = each.are_entries.ensures.0 here in
        let below : IsTrue lower.are_below_master.result = search rules in
        let stand = lower.are_below_master.ensures.0 below in (
          λ yes. table_of t first all stand c.requires.apart (c.are_apart.ensures.0 yes),
          λ stands. c.are_apart.ensures.1 (table_apart t stands),
        )
    | else-is_master_file w ↦ search rules
  ]
  | else-are_entries w ↦ search rules
]
