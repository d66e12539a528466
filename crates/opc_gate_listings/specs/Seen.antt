-- Who sees a profile, of those who do not see all.
use Rattle.std.specs.Prelude.{ℕ, Bool, ◌||◌, List, Some}
use Rattle.opc_names.specs.Authority.{includes}
use Rattle.opc_names.specs.declared.level.Level.TheVariants.{Read}
use Rattle.opc_policy_members.specs.declared.profile.Profile.{Profile}
use Rattle.opc_policy_members.specs.declared.user.User.{User}
use Rattle.opc_policy_members.specs.Held.{held}
use Rattle.opc_board.specs.declared.rows.ConsoleRow.{ConsoleRow}
use Rattle.opc_machine.specs.Rights.{is_owner}

-- a user of these groups holds READ in it at the console
abbrev pub holds_read : ConsoleRow → User → List (List ℕ) → Profile → Bool
holds_read console user groups p = includes (held p user (Some console.name) groups) Read

-- the user owns it, or holds READ in it
abbrev pub is_seen : ConsoleRow → User → List (List ℕ) → Profile → Bool
is_seen console user groups p = is_owner (Some user) (Some p) || holds_read console user groups p
