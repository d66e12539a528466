-- The policy and the consoles as rows of a policy file.
use Rattle.std.specs.Prelude.{ℕ, List, [], ◌∷◌, ◌++◌, map}
use Rattle.std.specs.List.{flat_map}
use Rattle.opc_names.specs.declared.class.Class.{Class}
use Rattle.opc_names.specs.declared.class.Class.TheVariants.{Console, Opercmds}
use Rattle.opc_policy_members.specs.declared.connect.Connect.{Connect}
use Rattle.opc_policy_members.specs.declared.entry.Entry.{Entry}
use Rattle.opc_policy_members.specs.declared.policy.ActiveClasses.{ActiveClasses}
use Rattle.opc_policy_members.specs.declared.policy.Policy.{Policy}
use Rattle.opc_policy_members.specs.declared.profile.Profile.{Profile}
use Rattle.opc_policy_members.specs.declared.row.Row.{Row}
use Rattle.opc_policy_members.specs.declared.row.Row.TheVariants as row
use Rattle.opc_policy_members.specs.declared.user.User.{User}
use Rattle.opc_board.specs.declared.rows.ConsoleRow.{ConsoleRow}

abbrev pub rows_of_classes : ActiveClasses → List Row
rows_of_classes active = row.Class Console active.console ∷ row.Class Opercmds active.opercmds ∷ []

abbrev pub row_of_group : List ℕ → Row
row_of_group name = row.Group name

abbrev pub row_of_user : User → Row
row_of_user user = row.User user

abbrev pub row_of_connect : Connect → Row
row_of_connect c = row.Connect c.user c.group

abbrev pub row_of_console : ConsoleRow → Row
row_of_console c = row.Console c.name c.auth c.mode

abbrev pub row_of_profile : Profile → Row
row_of_profile p = row.Profile p.class p.pattern p.uacc p.owner p.warning

abbrev pub row_of_entry : Class → List ℕ → Entry → Row
row_of_entry class pattern e = row.Permit class pattern e.id e.level e.when

-- the access list of a profile
abbrev pub permits_of : Profile → List Row
permits_of p = map (row_of_entry p.class p.pattern) p.entries

-- Kind by kind, each in the order in which the policy and the board have it: the classes, the groups, the users, the
-- connects, the consoles, the profiles, and the access list of each profile.
abbrev pub rows_of : Policy → List ConsoleRow → List Row
rows_of p consoles =
    rows_of_classes p.active
    ++ map row_of_group p.groups
    ++ map row_of_user p.users
    ++ map row_of_connect p.connects
    ++ map row_of_console consoles
    ++ map row_of_profile p.profiles
    ++ flat_map permits_of p.profiles
