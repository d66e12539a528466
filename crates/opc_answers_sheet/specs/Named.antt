-- Users whom an access list names, and what the others hold.
use Rattle.std.specs.Prelude.{◌||◌, ℕ, Bool, false, List, Option, Some, None, codes, filter, map}
use Rattle.std.specs.List.{list_any}
use Rattle.std.specs.Option.{is_some, option_map_or}
use Rattle.opc_names.specs.declared.level.Level.{Level}
use Rattle.opc_names.specs.declared.level.Level.TheVariants as level
use Rattle.opc_names.specs.Authority.{includes}
use Rattle.opc_policy_members.specs.Access.{entry_level}
use Rattle.opc_policy_members.specs.declared.entry.Entry.{Entry}
use Rattle.opc_policy_members.specs.declared.profile.Profile.{Profile}
use Rattle.opc_answers.specs.declared.lines.UserLine.{UserLine}
use Rattle.opc_answers.specs.declared.members.UserWithGroups.{UserWithGroups}
use Rattle.opc_answers_sheet.specs.Callers.{Caller}
use Rattle.opc_answers_sheet.specs.Commands.{said_everywhere}

-- an entry for every console is for this name
abbrev pub has_entry : List Entry → (name : List ℕ) → Bool
has_entry entries name = is_some (entry_level entries None name)

-- one is for the user, or for a group of the user
abbrev pub is_named : List Entry → UserWithGroups → Bool
is_named entries m = has_entry entries m.user.id || list_any (has_entry entries) m.groups

-- the entry for everyone gives the level
abbrev pub everyone_holds : List Entry → Level → Bool
everyone_holds entries needed =
    option_map_or (λ (l : Level). includes l needed) (entry_level entries None (codes "*")) false

-- A user whom no entry names may: with a warning, or by what everybody holds.
abbrev pub lets_others : Profile → Level → Bool
lets_others p needed = p.warning || (includes level.None needed || (includes p.uacc needed
    || everyone_holds p.entries needed))

-- what is said of those who are named
abbrev pub is_called : Profile → Caller → Bool
is_called p caller = is_named p.entries caller.member

abbrev pub said_to_named : Profile → Level → List Caller → List UserLine
said_to_named p needed callers = map (said_everywhere (Some p) needed) (filter (is_called p) callers)
