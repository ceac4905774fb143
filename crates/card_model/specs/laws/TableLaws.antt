-- What holds of each row of the table of commands.
use Rattle.std.specs.Prelude.{◌≡◌, Bool, true, false, List, [], ◌∷◌, ◌++◌, find, Option, Some, IfSome}
use Rattle.std.specs.Prelude.{if◌then◌else◌}
use Rattle.std.proofs.Common.{refl}
use Rattle.card_model.specs.CommandTable.{Row, select_rows, binary_rows, file_rows, record_rows, life_cycle_rows}
use Rattle.card_model.specs.CommandTable.{pin_rows, command_table}

-- each of some rows has a property
abbrev pub EachRow : (Row → Type 0) → List Row → Type 0
EachRow P [] = Unit {0}
EachRow P (row ∷ rows) = P row × EachRow P rows

-- rows of two groups
both_groups : (P : Row → Type 0) (rows others : List Row) → EachRow P rows → EachRow P others
    → EachRow P (rows ++ others)
both_groups P [] others all more = more
both_groups P (row ∷ rows) others all more = (all.0, both_groups P rows others all.1 more)

-- the table of commands, group by group
pub each_group : (P : Row → Type 0) → EachRow P select_rows → EachRow P binary_rows → EachRow P file_rows
    → EachRow P record_rows → EachRow P life_cycle_rows → EachRow P pin_rows → EachRow P command_table
each_group P selects binaries files records life_cycles pins =
    both_groups P select_rows (binary_rows ++ file_rows ++ record_rows ++ life_cycle_rows ++ pin_rows) selects
    (both_groups P binary_rows (file_rows ++ record_rows ++ life_cycle_rows ++ pin_rows) binaries
    (both_groups P file_rows (record_rows ++ life_cycle_rows ++ pin_rows) files
    (both_groups P record_rows (life_cycle_rows ++ pin_rows) records
    (both_groups P life_cycle_rows pin_rows life_cycles pins))))

-- a choice between two: the one has the property if the test holds, the other has it anyhow
pub choose : {X : Type 0} (P : X → Type 0) (test : Bool) (one other : X) → (test ≡ true → P one) → P other
    → P (if test then one else other)
choose P true one other y n = y refl
choose P false one other y n = n

-- a row that is found among some of which each has the property has it
pub each_found : (P : Row → Type 0) (test : Row → Bool) (rows : List Row) → EachRow P rows → IfSome (find test rows) P
each_found P test [] all = tt
each_found P test (row ∷ rows) all =
    choose (λ (found : Option Row). IfSome found P) (test row) (Some row) _ (λ holds. all.0) (each_found P test rows
    all.1)
