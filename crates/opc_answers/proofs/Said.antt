-- The ruling in the line of a user.
use Rattle.std.proofs.Common.{◌≡◌, ℕ, Bool, true, false, List, Option, Some, None, refl, sym, ap, ◌∙◌, if◌then◌else◌}
use Rattle.std.specs.Prelude.{◌&&◌, unwrap_or}
use Rattle.std.specs.Option.{is_some}
use Rattle.opc_names.specs.declared.auth.Auth.{Auth}
use Rattle.opc_names.specs.declared.class.Class.TheVariants.{Opercmds}
use Rattle.opc_names.specs.declared.level.Level.{Level}
use Rattle.opc_terms.specs.declared.need.Need.{Need}
use Rattle.opc_terms.specs.declared.rule.Rule.{Rule}
use Rattle.opc_terms.specs.declared.rule.Rule.TheVariants as rule
use Rattle.opc_policy_members.specs.declared.profile.Profile.{Profile}
use Rattle.opc_policy_members.specs.declared.user.User.{User}
use Rattle.opc_policy_members.specs.Members.{groups_of, user_of}
use Rattle.opc_policy.specs.declared.ruling.Ruling.{Ruling}
use Rattle.opc_policy.specs.declared.ruling.Ruling.TheVariants.{Denied}
use Rattle.opc_policy.specs.Rulings.{console_ruling, profile_ruling, ruling_at}
use Rattle.opc_policy_sources.specs.Sources.{held_from}
use Rattle.opc_policy_sources.proofs.SourceLevels.{held_so}
use Rattle.opc_policy_sources.proofs.Raising.{plain_where_none_raises, unnamed_raises_none}
use Rattle.opc_board.specs.declared.rows.ConsoleRow.{ConsoleRow}
use Rattle.opc_state.specs.State.{State}
use Rattle.opc_machine.specs.Rulings.{access_ruling, denied_or, is_required, is_revoked, ruling}
use Rattle.opc_answers.specs.declared.lines.UserLine.{UserLine}
use Rattle.opc_answers.specs.Laws.{
  RaisesWhereNamed,
  SaysTheRulingAtAConsole,
  SaysTheRulingElsewhere,
  SaysTheRulingWhereRaised,
  said,
}
use Rattle.opc_answers.specs.Deciding.{decider}
use Rattle.opc_answers.specs.Who.{by_decider, by_profile, is_named, is_raised, line, line_of, on_at}
use Rattle.opc_answers.proofs.Ruled.{access_so}

-- the ruling of the line, or else that of the console's authority
abbrev ruling_or : Option Ruling → Auth → Need → Ruling
ruling_or ruling auth need = unwrap_or ruling (console_ruling auth need)

-- for a user who is logged on, by whether the user is revoked
by_revoked : (b : Bool) (d : Option Profile) (user : User) (console : Option (List ℕ)) (groups : List (List ℕ)) (auth : Auth) (need : Need)
    → denied_or (if b then Some rule.Revoked else None) (by_decider d user console groups auth need)
    ≡ ruling_or (if b then line user (Some (Denied rule.Revoked)) None else by_profile d console need.level groups user).ruling auth need
by_revoked true d user console groups auth need = refl
by_revoked false None user console groups auth need = refl
by_revoked false (Some p) user console groups auth need = refl

-- somebody is logged on, so that no logon is required
on_required : (b : Bool) (other : Option Rule) → (if b && false then Some rule.LogonRequired else other) ≡ other
on_required true other = refl
on_required false other = refl

-- the ruling with a stored user logged on
pub with_user : (s : State) (need : Need) (c : ConsoleRow) (user : User) (acting : Option User) → acting ≡ Some user
    → denied_or (if is_required c.mode && false then Some rule.LogonRequired else (if is_revoked acting then Some rule.Revoked else None))
    (access_ruling s (on_at user.id c) acting need)
    ≡ denied_or (if user.revoked then Some rule.Revoked else None) (access_ruling s (on_at user.id c) (Some user) need)
with_user s need c user acting is =
    ap (λ a. denied_or (if is_required c.mode && false then Some rule.LogonRequired else (if is_revoked a then Some rule.Revoked else None))
    (access_ruling s (on_at user.id c) a need)) is
    ∙ ap (λ d. denied_or d (access_ruling s (on_at user.id c) (Some user) need))
    (on_required (is_required c.mode) (if user.revoked then Some rule.Revoked else None))

ruled : (s : State) (need : Need) (c : ConsoleRow) (user : User) (acting : Option User) → acting ≡ Some user
    → denied_or (if is_required c.mode && false then Some rule.LogonRequired else (if is_revoked acting then Some rule.Revoked else None))
    (access_ruling s (on_at user.id c) acting need)
    ≡ ruling_or (said s need (Some c.name) user).ruling c.auth need
ruled s need c user acting is =
    with_user s need c user acting is
    ∙ ap (denied_or (if user.revoked then Some rule.Revoked else None)) (access_so s (on_at user.id c) user need)
    ∙ by_revoked user.revoked (decider s.policy Opercmds need.resource) user (Some c.name) (groups_of s.policy.connects user.id) c.auth need

pub ruling_so : (s : State) (need : Need) (c : ConsoleRow) (user : User) → user_of s.policy.users user.id ≡ Some user
    → ruling s (on_at user.id c) need ≡ ruling_or (said s need (Some c.name) user).ruling c.auth need
ruling_so s need c user is = ruled s need c user (user_of s.policy.users user.id) is

pub ruling_by : (s : State) (need : Need) (c : ConsoleRow) (user : User) (decided : Option Profile) (groups : List (List ℕ)) (l : UserLine)
    → decided ≡ decider s.policy Opercmds need.resource → user_of s.policy.users user.id ≡ Some user
    → groups ≡ groups_of s.policy.connects user.id → l ≡ line_of decided (Some c.name) need.level groups user
    → ruling_or l.ruling c.auth need ≡ ruling s (on_at user.id c) need
ruling_by s need c user decided groups l decides stored are is =
    ap (λ (x : UserLine). ruling_or x.ruling c.auth need)
    (is ∙ ap (λ d. line_of d (Some c.name) need.level groups user) decides
    ∙ ap (λ g. line_of (decider s.policy Opercmds need.resource) (Some c.name) need.level g user) are)
    ∙ sym (ruling_so s need c user stored)

pub at_a_console : SaysTheRulingAtAConsole
at_a_console s need c user is = ap (λ r. Some r) (sym (ruling_so s need c user is))

-- where a level is held, there is a ruling
raised_so : (b : Bool) (d : Option Profile) (user : User) (console : Option (List ℕ)) (groups : List (List ℕ)) (level : Level) (auth : Auth)
    (need : Need) → is_raised (if b then line user (Some (Denied rule.Revoked)) None else by_profile d console level groups user) ≡ true
    → (if b then line user (Some (Denied rule.Revoked)) None else by_profile d console level groups user).ruling
    ≡ Some (ruling_or (if b then line user (Some (Denied rule.Revoked)) None else by_profile d console level groups user).ruling auth need)
raised_so true d user console groups level auth need is = refl
raised_so false None user console groups level auth need is = cc
raised_so false (Some p) user console groups level auth need is = refl

pub where_raised : SaysTheRulingWhereRaised
where_raised s need c user is raises =
    raised_so user.revoked (decider s.policy Opercmds need.resource) user (Some c.name) (groups_of s.policy.connects user.id) need.level c.auth need
    raises
    ∙ ap (λ r. Some r) (sym (ruling_so s need c user is))

-- what a profile rules where no entry for the console gives the level
same_ruling : (p : Profile) (user : User) (console : List ℕ) (groups : List (List ℕ)) (needed : Level)
    → is_some (held_from p user (Some console) groups).when ≡ false
    → profile_ruling p user None groups needed ≡ profile_ruling p user (Some console) groups needed
same_ruling p user console groups needed none =
    ap (λ l. ruling_at p l needed)
    (sym (held_so p user None groups) ∙ ap (λ h. h.level) (sym (plain_where_none_raises p user console groups none))
    ∙ held_so p user (Some console) groups)

unraised_so : (b : Bool) (d : Option Profile) (user : User) (console : List ℕ) (groups : List (List ℕ)) (level : Level) (auth : Auth)
    (need : Need) → is_raised (if b then line user (Some (Denied rule.Revoked)) None else by_profile d (Some console) level groups user) ≡ false
    → ruling_or (if b then line user (Some (Denied rule.Revoked)) None else by_profile d None level groups user).ruling auth need
    ≡ ruling_or (if b then line user (Some (Denied rule.Revoked)) None else by_profile d (Some console) level groups user).ruling auth need
unraised_so true d user console groups level auth need none = refl
unraised_so false None user console groups level auth need none = refl
unraised_so false (Some p) user console groups level auth need none = same_ruling p user console groups level none

pub elsewhere : SaysTheRulingElsewhere
elsewhere s need c user is none =
    unraised_so user.revoked (decider s.policy Opercmds need.resource) user c.name (groups_of s.policy.connects user.id) need.level c.auth need none
    ∙ sym (ruling_so s need c user is)

unnamed_so : (b : Bool) (d : Option Profile) (user : User) (c : ConsoleRow) (groups : List (List ℕ)) (level : Level) → is_named d c ≡ false
    → is_raised (if b then line user (Some (Denied rule.Revoked)) None else by_profile d (Some c.name) level groups user) ≡ false
unnamed_so true d user c groups level none = refl
unnamed_so false None user c groups level none = refl
unnamed_so false (Some p) user c groups level none = unnamed_raises_none p user c.name groups none

pub where_named : RaisesWhereNamed
where_named s need c user none =
    unnamed_so user.revoked (decider s.policy Opercmds need.resource) user c (groups_of s.policy.connects user.id) need.level none
