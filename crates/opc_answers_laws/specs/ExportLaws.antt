-- What an export writes, for those who read it.
use Rattle.std.specs.Prelude.{◌≤◌, ℕ, List}
use Rattle.std.specs.List.{AllPairs}
use Rattle.opc_names.specs.declared.class.Class.TheVariants.{Console, Opercmds}
use Rattle.opc_policy_members.specs.declared.policy.Policy.{Policy}
use Rattle.opc_policy_members.specs.declared.row.Row.{Row}
use Rattle.opc_policy_members.specs.declared.row.Row.TheVariants as row
use Rattle.opc_board.specs.declared.rows.ConsoleRow.{ConsoleRow}
use Rattle.opc_state.specs.PolicyFile.{rows_of}

-- Where rows of this kind stand: the classes, CONSOLE first, the groups, the users, the connects, the consoles, the
-- profiles, and the permits.
abbrev pub part_of : Row → ℕ
part_of (row.Class Console active) = 0
part_of (row.Class Opercmds active) = 1
part_of (row.Group name) = 2
part_of (row.User user) = 3
part_of (row.Connect user group) = 4
part_of (row.Console name auth mode) = 5
part_of (row.Profile class pattern uacc owner warning) = 6
part_of (row.Permit class pattern id level when) = 7

abbrev pub IsNotAfter : Row → Row → Type 0
IsNotAfter one other = part_of one ≤ part_of other

-- the rows of an export, of any policy and consoles
abbrev pub ExportsGoByKind : Type 0
ExportsGoByKind = (p : Policy) (consoles : List ConsoleRow) → AllPairs IsNotAfter (rows_of p consoles)
