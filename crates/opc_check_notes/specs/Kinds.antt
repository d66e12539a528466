-- The rows of each kind.
use Rattle.std.specs.Prelude.{Bool, true, false, List, filter}
use Rattle.opc_policy_members.specs.declared.row.Row.{Row}
use Rattle.opc_policy_members.specs.declared.row.Row.TheVariants as rows
use Rattle.opc_import.specs.declared.kind.Kind.{Kind}
use Rattle.opc_import.specs.declared.kind.Kind.TheVariants as kind
use Rattle.opc_check_notes.specs.declared.numbered.NumberedRow.{NumberedRow}

abbrev pub is_of : Kind → Row → Bool
is_of kind.Class (rows.Class class active) = true
is_of kind.Group (rows.Group name) = true
is_of kind.User (rows.User user) = true
is_of kind.Connect (rows.Connect user group) = true
is_of kind.Console (rows.Console name auth mode) = true
is_of kind.Profile (rows.Profile class pattern uacc owner warning) = true
is_of kind.Permit (rows.Permit class pattern id level when) = true
is_of kind row = false

abbrev pub of_kind : List NumberedRow → Kind → List NumberedRow
of_kind list kind = filter (λ (at : NumberedRow). is_of kind at.row) list
