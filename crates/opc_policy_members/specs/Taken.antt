-- What the rows of a written policy make of a policy.
use Rattle.std.specs.Prelude.{
  ◌≡◌,
  ◌+◌,
  ◌||◌,
  ℕ,
  Bool,
  false,
  List,
  [],
  ◌∷◌,
  Result,
  Ok,
  Err,
  codes,
  if◌then◌else◌,
  is_some,
  take,
}
use Rattle.std.specs.Str.{bytes_eq}
use Rattle.opc_names.specs.declared.class.Class.{Class}
use Rattle.opc_names.specs.declared.class.Class.TheVariants.{Console, Opercmds}
use Rattle.opc_terms.specs.declared.fault.Fault.{Fault}
use Rattle.opc_terms.specs.declared.fault.Fault.TheVariants.{Exists, Missing}
use Rattle.opc_policy_members.specs.declared.policy.ActiveClasses.{ActiveClasses}
use Rattle.opc_policy_members.specs.declared.policy.Policy.{Policy}
use Rattle.opc_policy_members.specs.declared.profile.Profile.{Profile}
use Rattle.opc_policy_members.specs.declared.row.Row.{Row}
use Rattle.opc_policy_members.specs.declared.row.Row.TheVariants as rows
use Rattle.opc_policy_members.specs.Members.{user_of, with_user, is_group, with_group, with_connect}
use Rattle.opc_policy_members.specs.Profiles.{profile_of, with_definition, with_permission}

-- whether a class is active
abbrev pub is_active : ActiveClasses → Class → Bool
is_active active Console = active.console
is_active active Opercmds = active.opercmds

-- the active classes, with a class made active or inactive
abbrev pub with_active : Class → Bool → ActiveClasses → ActiveClasses
with_active Console on active = record active { console = on }
with_active Opercmds on active = record active { opercmds = on }

-- whether a user is stored
abbrev pub has_user : Policy → List ℕ → Bool
has_user policy id = is_some (user_of policy.users id)

-- whether a group is stored
abbrev pub has_group : Policy → List ℕ → Bool
has_group policy name = is_group policy.groups name

-- whether an entry may be for an id: a user or a group that is stored, or `*` for everyone
abbrev pub has_holder : Policy → List ℕ → Bool
has_holder policy id = bytes_eq id (codes "*") || has_user policy id || has_group policy id

-- what a row makes, if what has this name is not in the way
abbrev pub unless : Bool → List ℕ → Result Policy Fault → Result Policy Fault
unless is_there name made = if is_there then Err (Exists name) else made

-- and if it is stored
abbrev pub needing : Bool → List ℕ → Result Policy Fault → Result Policy Fault
needing is_there name made = if is_there then made else Err (Missing name)

-- The policy after a profile is defined, with its access list if it is new.
abbrev pub after_definition : Profile → Policy → Result Policy Fault
after_definition profile p = needing (has_user p profile.owner) profile.owner
    (Ok (record p { profiles = with_definition profile p.profiles }))

-- The policy after a row, or its fault. A row defines or replaces and never deletes. A user and a group never have one
-- name. What a row needs must be stored, in the order in which the row lists it. A group or a connect that is there
-- stays, and a profile keeps its access list. Consoles are not part of a policy.
abbrev pub after_row : Row → Policy → Result Policy Fault
after_row (rows.Class class active) p = Ok (record p { active = with_active class active p.active })
after_row (rows.Group name) p = unless (has_user p name) name (Ok (record p { groups = with_group name p.groups }))
after_row (rows.User user) p = unless (has_group p user.id) user.id (Ok (record p { users = with_user user p.users }))
after_row (rows.Connect user group) p =
    needing (has_user p user) user
    (needing (has_group p group) group
    (Ok (record p { connects = with_connect (record { user = user; group = group }) p.connects })))
after_row (rows.Console name auth mode) p = Ok p
after_row (rows.Profile class pattern uacc owner warning) p =
    after_definition (record {
      class = class;
      pattern = pattern;
      owner = owner;
      uacc = uacc;
      warning = warning;
      entries = [];
    }) p
after_row (rows.Permit class pattern id level when) p =
    needing (is_some (profile_of p.profiles class pattern)) pattern
    (needing (has_holder p id) id
    (Ok (record p {
      profiles = with_permission class pattern (record {
        id = id;
        when = when;
        level = level;
      }) p.profiles;
    })))

-- with nothing in it, and no class active
abbrev pub no_policy : Policy
no_policy = record {
  users = [];
  groups = [];
  connects = [];
  profiles = [];
  active = record { console = false; opercmds = false };
}

abbrev pub then_policy : Result Policy Fault → (Policy → Result Policy Fault) → Result Policy Fault
then_policy (Ok p) next = next p
then_policy (Err fault) next = Err fault

-- rows taken one after another, up to the first that has a fault
abbrev pub policy_after : List Row → Policy → Result Policy Fault
policy_after [] p = Ok p
policy_after (row ∷ more) p = then_policy (after_row row p) (λ q. policy_after more q)

-- This many rows make one policy out of another, and one row more has this fault.
pub record IsRefusedAt (old new : Policy) (all : List Row) (count : ℕ) (fault : Fault) : Type 0 where
  pub applied : policy_after (take count all) old ≡ Ok new
  pub refused : policy_after (take (count + 1) all) old ≡ Err fault
