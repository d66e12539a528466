-- The name that a refused row may mean: the nearest to the one that is missing.
use Rattle.std.specs.Prelude.{◌++◌, ℕ, List, Option, Some, None, if◌then◌else◌, is_some}
use Rattle.std.specs.List.{filter_map}
use Rattle.opc_names.specs.declared.class.Class.{Class}
use Rattle.opc_policy_members.specs.declared.policy.Policy.{Policy}
use Rattle.opc_policy_members.specs.declared.row.Row.{Row}
use Rattle.opc_policy_members.specs.declared.row.Row.TheVariants as kind
use Rattle.opc_policy_members.specs.Profiles.{profile_of}
use Rattle.opc_policy_members.specs.Taken.{has_group, has_user}
use Rattle.opc_cli_commands.specs.Nearest.{nearest}
use Rattle.opc_check.specs.declared.near_names.Holder.{Holder}
use Rattle.opc_check.specs.declared.near_names.Holder.TheVariants as holder

-- the name of a user or of a group, if a row has one and the policy has it
abbrev pub name_in : Holder → Policy → Row → Option (List ℕ)
name_in holder.User p (kind.User user) = if has_user p user.id then Some user.id else None
name_in holder.Group p (kind.Group name) = if has_group p name then Some name else None
name_in holder p row = None

-- the names that a policy has of rows that are stored and of others
abbrev pub names_of : Holder → Policy → (stored rows : List Row) → List (List ℕ)
names_of holder p stored rows = filter_map (name_in holder p) stored ++ filter_map (name_in holder p) rows

abbrev pub holders_of : Policy → (stored rows : List Row) → List (List ℕ)
holders_of p stored rows = names_of holder.User p stored rows ++ names_of holder.Group p stored rows

-- of a connect: the group, or the user
abbrev pub near_connected : Policy → (stored rows : List Row) → (user group : List ℕ) → Option (List ℕ)
near_connected p stored rows user group =
    if has_user p user then nearest group (names_of holder.Group p stored rows)
    else nearest user (names_of holder.User p stored rows)

-- of a permit: who it is for, if the profile is there
abbrev pub near_permitted : Policy → (stored rows : List Row) → Class → (pattern id : List ℕ) → Option (List ℕ)
near_permitted p stored rows class pattern id =
    if is_some (profile_of p.profiles class pattern) then nearest id (holders_of p stored rows) else None

-- the name that a row may mean, if one that it needs is missing
abbrev pub near_name : Policy → (stored rows : List Row) → Row → Option (List ℕ)
near_name p stored rows (kind.Connect user group) = near_connected p stored rows user group
near_name p stored rows (kind.Profile class pattern uacc owner warning) =
    nearest owner (names_of holder.User p stored rows)
near_name p stored rows (kind.Permit class pattern id level when) = near_permitted p stored rows class pattern id
near_name p stored rows row = None
