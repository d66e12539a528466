-- Whoever stands in a row is listed by `who --allowed`.
use Rattle.std.proofs.Common.{◌≡◌, ◌∙◌, ℕ, Bool, true, false, List, Option, Some, None, ap, ap₂, map, sym, refl, if◌then◌else◌}
use Rattle.std.specs.Prelude.{◌&&◌, ◌||◌, option_map}
use Rattle.std.specs.List.{slice_get}
use Rattle.std.specs.Option.{is_none, option_eq}
use Rattle.std.specs.Str.{bytes_eq}
use Rattle.std.proofs.lemmas.Option.{slice_get-map}
use Rattle.opc_names.specs.declared.class.Class.TheVariants.{Console, Opercmds}
use Rattle.opc_names.specs.declared.level.Level.TheVariants.{Read}
use Rattle.opc_policy_members.specs.declared.profile.Profile.{Profile}
use Rattle.opc_answers.specs.declared.lines.UserLine.{UserLine}
use Rattle.opc_answers.specs.declared.members.UserWithGroups.{UserWithGroups}
use Rattle.opc_answers.specs.declared.who.AskedAt.TheVariants.{Everywhere, OnBoard}
use Rattle.opc_answers.specs.declared.who.Who.{Who}
use Rattle.opc_answers.specs.Deciding.{decider}
use Rattle.opc_answers.specs.Made.{members_of}
use Rattle.opc_answers.specs.Texts.{may}
use Rattle.opc_answers.specs.Who.{is_raised, member_line, no_logon_at, or_admitted, or_authority, said_at, user_said, without_digest}
use Rattle.opc_answers_sheet.specs.Commands.{who_about}
use Rattle.opc_answers_sheet.specs.Consoles.{who_logs_on}
use Rattle.opc_answers_sheet.specs.Laws.{ListsAsWho, ListsAsWhoThere, ListsLogonsAsWho}
use Rattle.opc_answers_sheet.specs.Ways.{console_of}
use Rattle.opc_answers_sheet.proofs.Raised.{for_either, for_no_console, for_this_console, still_held}
use Rattle.opc_answers_sheet.proofs.Standing.{lists_who_may}

line_at : (said : UserWithGroups → UserLine) (members : List UserWithGroups) (place : ℕ) (m : UserWithGroups) → slice_get members place ≡ Some m
    → slice_get (map said members) place ≡ Some (said m)
line_at said members place m at = slice_get-map said members place ∙ ap (option_map said) at

and_true : (a : Bool) → (a && true) ≡ a
and_true true = refl
and_true false = refl

or_false : (a : Bool) → (a || false) ≡ a
or_false true = refl
or_false false = refl

both : (m a b : Bool) → ((m && a) || (m && b)) ≡ (m && (a || b))
both true a b = refl
both false a b = refl

pub lists_as_who : ListsAsWho
lists_as_who p b need place m at =
    let who : Who = who_about p b need in
    let plain : UserLine = member_line (decider p Opercmds need.resource) None need.level m in
    let held : console_of (user_said who m).held ≡ None =
    ap console_of (still_held (no_logon_at p b Everywhere m) plain) ∙ for_no_console (decider p Opercmds need.resource) need.level m in
    lists_who_may None (map (user_said who) (members_of p)) place (user_said who m) (line_at (user_said who) (members_of p) place m at)
    ∙ ap (λ w. may (user_said who m) && option_eq bytes_eq w None) held ∙ and_true (may (user_said who m))

pub lists_as_who_there : ListsAsWhoThere
lists_as_who_there p b need c place m at =
    let who : Who = who_about p b need in
    let said : UserWithGroups → UserLine = said_at who (OnBoard c) in
    let d : Option Profile = decider p Opercmds need.resource in
    let plain : UserLine = member_line d (Some c.name) need.level m in
    let held : console_of (said m).held ≡ console_of plain.held =
    ap console_of (still_held (no_logon_at p b (OnBoard c) m) (or_authority c need plain)) in
    let there : option_eq bytes_eq (console_of (said m).held) (Some c.name) ≡ (is_raised plain || false) =
    ap (λ w. option_eq bytes_eq w (Some c.name)) held ∙ (for_this_console d c.name need.level m ∙ sym (or_false (is_raised plain))) in
    lists_who_may (Some c.name) (map said (members_of p)) place (said m) (line_at said (members_of p) place m at)
    ∙ ap (λ r. may (said m) && r) there

-- a LOGON without a digest has no level
logon_there : (b : Bool) (m : UserWithGroups) (l : UserLine) (console : List ℕ)
    → (option_eq bytes_eq (console_of l.held) None || option_eq bytes_eq (console_of l.held) (Some console)) ≡ true
    → (option_eq bytes_eq (console_of (if b then without_digest m.user else or_admitted l).held) None
    || option_eq bytes_eq (console_of (if b then without_digest m.user else or_admitted l).held) (Some console)) ≡ true
logon_there true m l console either = refl
logon_there false m l console either = either

pub lists_logons_as_who : ListsLogonsAsWho
lists_logons_as_who p b c place m at =
    let who : Who = who_logs_on p b c in
    let d : Option Profile = decider p Console c.name in
    let said : UserWithGroups → UserLine = user_said who in
    let plain : UserLine = member_line d (Some c.name) Read m in
    let all : slice_get (map said (members_of p)) place ≡ Some (said m) = line_at said (members_of p) place m at in
    ap₂ (λ (x y : Bool). x || y) (lists_who_may None (map said (members_of p)) place (said m) all)
    (lists_who_may (Some c.name) (map said (members_of p)) place (said m) all)
    ∙ (both (may (said m)) (option_eq bytes_eq (console_of (said m).held) None) (option_eq bytes_eq (console_of (said m).held) (Some c.name))
    ∙ (ap (λ r. may (said m) && r) (logon_there (is_none m.user.digest) m plain c.name (for_either d c.name Read m)) ∙ and_true (may (said m))))
