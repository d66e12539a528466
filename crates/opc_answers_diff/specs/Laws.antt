-- What changes is listed, exactly.
use Rattle.std.specs.Prelude.{◌≡◌, ◌≢◌, ◌↔◌, ◌&&◌, ℕ, Bool, false, true, List, [], Option, Some, None}
use Rattle.std.specs.List.{list_any, slice_get}
use Rattle.std.specs.Option.{option_map}
use Rattle.std.specs.Str.{bytes_eq}
use Rattle.opc_names.specs.declared.class.Class.TheVariants.{Opercmds}
use Rattle.opc_policy_deciders.specs.declared.kind.AskedKind.{AskedKind}
use Rattle.opc_policy_deciders.specs.Forms.{AskedForm, forms}
use Rattle.opc_policy_deciders.specs.Kinds.{is_of_kind}
use Rattle.opc_policy_deciders.specs.Laws.{ExplainedBy, ruled}
use Rattle.opc_policy_deciders.specs.Pairs.{IsDecidedByBoth}
use Rattle.opc_policy.specs.Rulings.{rule_of, verdict_of}
use Rattle.opc_policy_members.specs.Members.{groups_of, user_of}
use Rattle.opc_policy_members.specs.declared.policy.Policy.{Policy}
use Rattle.opc_policy_members.specs.declared.profile.Profile.{Profile}
use Rattle.opc_policy_members.specs.declared.row.Row.{Row}
use Rattle.opc_answers.specs.declared.lines.UserLine.{UserLine}
use Rattle.opc_answers.specs.declared.members.UserWithGroups.{UserWithGroups}
use Rattle.opc_answers.specs.declared.room.Room.{Room}
use Rattle.opc_answers.specs.Deciding.{decider}
use Rattle.opc_answers.specs.Made.{member_of, members_of}
use Rattle.opc_answers_may.specs.declared.commands.FormsAsked.TheVariants.{OfKind}
use Rattle.opc_answers_may.specs.MayTexts.{names_of}
use Rattle.opc_answers_diff.specs.declared.asked.Asked.{Asked}
use Rattle.opc_answers_diff.specs.declared.asked.Asked.TheVariants.{Logon, Resource}
use Rattle.opc_answers_diff.specs.declared.row_place.RowPlace.{RowPlace}
use Rattle.opc_answers_diff.specs.declared.verdicts.UserChange.{UserChange}
use Rattle.opc_answers_diff.specs.declared.compared.Compared.{Compared}
use Rattle.opc_answers_diff.specs.Consoles.{console_changes}
use Rattle.opc_answers_diff.specs.Logons.{logon_changes}
use Rattle.opc_answers_diff.specs.Members.{ids_of_both, member_change, member_in, members_of_both}
use Rattle.opc_answers_diff.specs.RowChanges.{row_at, row_changes, with_classes}
use Rattle.opc_answers_diff.specs.Sections.{AreFoundAt, IsCompared, one_at, other_at, sections_json, sections_text}
use Rattle.opc_answers_diff.specs.Verdicts.{
  changes_at,
  consoles_named,
  is_listed,
  is_raised_on_a_side,
  says_else,
  side_line,
  user_change,
}

-- whether some lines have one of a user
abbrev pub has_line : List UserChange → (id : List ℕ) → Bool
has_line changes id = list_any (λ (c : UserChange). bytes_eq id c.id) changes

-- whether either side has the user
abbrev pub is_known : (before after : Room) → (id : List ℕ) → Bool
is_known before after id = list_any (bytes_eq id) (ids_of_both before.members after.members)

-- what both sides say of a user where these profiles decide, at a console or at none
abbrev pub both_say : Asked → (before after : Room) → (one other : Option Profile) → Option (List ℕ) → (id : List ℕ)
    → UserChange
both_say asked before after one other console id =
    user_change asked one other console (member_change before.members after.members id)

abbrev pub lines_at : Asked → (before after : Room) → (one other : Option Profile) → Option (List ℕ) → List UserChange
lines_at asked before after one other console = changes_at asked one other (members_of_both before after) console

-- what both sides say of a user about a resource, by the profiles that decide it
abbrev pub said_about : Compared → AskedKind → (resource : List ℕ) → Option (List ℕ) → (id : List ℕ) → UserChange
said_about c kind resource console id = both_say (Resource kind) c.before c.after
    (decider c.before.policy Opercmds resource) (decider c.after.policy Opercmds resource) console id

-- A section has a line of the user, at a console or at none.
abbrev pub IsInSection : Compared → AskedKind → (at at' : ℕ) → (found : List (Option (List ℕ))) → Option (List ℕ)
    → (id : List ℕ) → Type 0
IsInSection c kind at at' found console id = (names_of (OfKind kind) found ≢ [])
    × (has_line (lines_at (Resource kind) c.before c.after (one_at c at) (other_at c at') console) id ≡ true)

-- There is a name for which the verdict on the user differs: a resource of a form of the kind that these profiles
-- decide, one before and one after. At a console an entry for it gives the level on a side.
pub record DiffersSomewhere (c : Compared) (kind : AskedKind) (at at' : ℕ) (console : Option (List ℕ)) (id : List ℕ)
    : Type 0 where
  pub form : AskedForm
  pub place : ℕ
  pub among : slice_get forms place ≡ Some form
  pub of_kind : is_of_kind kind form ≡ true
  pub resource : List ℕ
  pub decided : IsDecidedByBoth c.before.policy c.after.policy (slice_get c.patterns.items at)
      (slice_get c.others.items at') form resource
  pub known : is_known c.before c.after id ≡ true
  pub differs : is_listed (Resource kind) console (said_about c kind resource console id) ≡ true

-- A user is in the lines of a section if and only if there is one;
abbrev pub ListsWhoDiffers : Type 0
ListsWhoDiffers = (c : Compared) → IsCompared c → (kind : AskedKind) (at at' : ℕ) (found : List (Option (List ℕ)))
    → AreFoundAt c at at' found → (console : Option (List ℕ)) (id : List ℕ)
    → IsInSection c kind at at' found console id ↔ DiffersSomewhere c kind at at' console id

-- if no entry for a console gives the level, the verdict differs there exactly if it does at no console;
abbrev pub DiffersAsAtNone : Type 0
DiffersAsAtNone = (before after : Room) (kind : AskedKind) (one other : Option Profile) (console id : List ℕ)
    → is_raised_on_a_side (both_say (Resource kind) before after one other (Some console) id) ≡ false
    → says_else (Resource kind) (both_say (Resource kind) before after one other (Some console) id)
    ≡ says_else (Resource kind) (both_say (Resource kind) before after one other None id)

-- and a section has the lines of each console for which an entry gives it.
abbrev pub RaisesWhereNamed : Type 0
RaisesWhereNamed = (before after : Room) (kind : AskedKind) (one other : Option Profile) (console id : List ℕ)
    → is_raised_on_a_side (both_say (Resource kind) before after one other (Some console) id) ≡ true
    → list_any (bytes_eq console) (consoles_named one other) ≡ true

-- Of a LOGON a user has a line if and only if the verdict at the console differs.
abbrev pub ListsWhoLogsOn : Type 0
ListsWhoLogsOn = (before after : Room) (one other : Option Profile) (console id : List ℕ)
    → has_line (lines_at Logon before after one other (Some console)) id ≡ (is_known before after id
    && says_else Logon (both_say Logon before after one other (Some console) id))

-- Two policies that have the same rows in effect have no row that differs.
abbrev pub SameRowsDifferNowhere : Type 0
SameRowsDifferNowhere = (before after : List Row)
    → ((place : RowPlace) → row_at (with_classes before) place ≡ row_at (with_classes after) place)
    → row_changes before after ≡ []

-- Where both sides have the same policy, users and consoles, nothing is printed but the last line.
pub record PrintsNothing (c : Compared) : Type 0 where
  pub text : (at at' : ℕ) (found : List (Option (List ℕ))) → AreFoundAt c at at' found → sections_text c at at' found ≡ []
  pub json : (at at' : ℕ) (found : List (Option (List ℕ))) → AreFoundAt c at at' found → sections_json c at at' found ≡ []
  pub logons : (console : List ℕ) → logon_changes c.before.policy c.after.policy c.members console ≡ []
  pub consoles : console_changes c.before.board c.after.board ≡ []

abbrev pub SamePrintsNothing : Type 0
SamePrintsNothing = (c : Compared) → IsCompared c → c.before ≡ c.after → PrintsNothing c

-- The ruling in the line of a user who is not revoked is the one that is explained to the user about each resource that
-- the profile decides.
abbrev pub line_by : AskedKind → Profile → Option (List ℕ) → UserWithGroups → UserLine
line_by kind profile console m = side_line (Resource kind) (Some profile) console m

abbrev pub IsExplained : Policy → Profile → (resource : List ℕ) → UserWithGroups → Option (List ℕ) → AskedKind → Type 0
IsExplained p profile resource m console kind =
    ((line_by kind profile console m).ruling ≡ Some (ruled p profile m.user console kind.level))
    × ExplainedBy p resource m.user console kind.level (verdict_of (ruled p profile m.user console kind.level))
    (rule_of (ruled p profile m.user console kind.level))

abbrev pub SaysAsExplained : Type 0
SaysAsExplained = (p : Policy) (m : UserWithGroups) (profile : Profile) (resource : List ℕ) (console : Option (List ℕ))
    (kind : AskedKind) → user_of p.users m.user.id ≡ Some m.user → m.groups ≡ groups_of p.connects m.user.id
    → m.user.revoked ≡ false → decider p Opercmds resource ≡ Some profile → IsExplained p profile resource m console kind

-- And the user of a side is the one of its policy.
abbrev pub MembersAreStored : Type 0
MembersAreStored = (p : Policy) (id : List ℕ) → member_in (members_of p) id
    ≡ option_map (member_of p.connects) (user_of p.users id)
