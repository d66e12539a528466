-- What the unit of a command is taken for, as it is written: JOB, TSU, or STC: and a member.
use Rattle.std.specs.Prelude.{◌&&◌, ℕ, List, Option, Some, None, codes, drop, if◌then◌else◌, is_none, nat_eq}
use Rattle.std.specs.List.{starts_with}
use Rattle.std.specs.Str.{bytes_eq}
use Rattle.opc_names.specs.Names.{name_fault, unit_rule}
use Rattle.opc_terms.specs.declared.unit_kind.UnitKindAt.{UnitKindAt}
use Rattle.opc_terms.specs.declared.unit_kind.UnitKindAt.TheVariants.{Job, Stc, Tsu}

abbrev pub task_of : List ℕ → Option UnitKindAt
task_of text = if starts_with nat_eq text (codes "STC:") && is_none (name_fault unit_rule (drop 4 text))
    then Some (Stc (drop 4 text)) else None

abbrev pub kind_of : List ℕ → Option UnitKindAt
kind_of text = if bytes_eq text (codes "JOB") then Some Job else
    (if bytes_eq text (codes "TSU") then Some Tsu else task_of text)
