-- What is said of a user is what `who` says.
use Rattle.std.proofs.Common.{◌≡◌, ◌∙◌, ap, sym, refl, ℕ, Bool, true, false, List, Option, Some, None}
use Rattle.std.specs.Prelude.{if◌then◌else◌, nat_lt}
use Rattle.opc_names.specs.Authority.{enters}
use Rattle.opc_names.specs.declared.level.Level.{Level}
use Rattle.opc_terms.specs.declared.need.Need.{Need}
use Rattle.opc_terms.specs.declared.rule.Rule.{Rule}
use Rattle.opc_policy_members.specs.declared.profile.Profile.{Profile}
use Rattle.opc_policy.specs.declared.ruling.Ruling.{Ruling}
use Rattle.opc_policy.specs.declared.ruling.Ruling.TheVariants.{Allowed}
use Rattle.opc_policy.specs.Rulings.{rule_of}
use Rattle.opc_board.specs.declared.rows.ConsoleRow.{ConsoleRow}
use Rattle.opc_machine.specs.Machine.{is_warned}
use Rattle.opc_answers.specs.declared.lines.UserLine.{UserLine}
use Rattle.opc_answers.specs.declared.logons.Instead.TheVariants as instead
use Rattle.opc_answers.specs.declared.logons.NoLogon.{NoLogon}
use Rattle.opc_answers.specs.declared.members.UserWithGroups.{UserWithGroups}
use Rattle.opc_answers.specs.declared.who.AskedAt.{AskedAt}
use Rattle.opc_answers.specs.declared.who.AskedAt.TheVariants.{Everywhere, Named, OnBoard}
use Rattle.opc_answers.specs.Texts.{verdict_word}
use Rattle.opc_answers.specs.Who.{by_profile, command_at, doubt_of, is_denied, line_of, member_line, name_of, no_logon_at, or_authority, said_line, said_of, unless_on}
use Rattle.opc_answers_may.specs.MayLaws.{HidesAsWho, SaysAsWho, SaysAsWhoByAuthority, SaysAsWhoEverywhere, SaysLogonsAsWho, by_authority}
use Rattle.opc_answers_may.specs.MayTexts.{said_word}

-- the authority of a console adds nothing to what a profile rules
authority_adds_none : (c : ConsoleRow) (need : Need) (q : Profile) (console : Option (List ℕ)) (level : Level) (m : UserWithGroups)
    → or_authority c need (member_line (Some q) console level m) ≡ member_line (Some q) console level m
authority_adds_none c need q console level m = go m.user.revoked
  where
    revoked : UserLine
    revoked = line_of (Some q) console level m.groups (record m.user { revoked = true })

    go : (b : Bool) → or_authority c need (if b then revoked else by_profile (Some q) console level m.groups m.user)
        ≡ (if b then revoked else by_profile (Some q) console level m.groups m.user)
    go true = refl
    go false = refl

command_adds_none : (place : AskedAt) (need : Need) (q : Profile) (level : Level) (m : UserWithGroups)
    → command_at need place (member_line (Some q) (name_of place) level m) ≡ member_line (Some q) (name_of place) level m
command_adds_none Everywhere need q level m = refl
command_adds_none (OnBoard c) need q level m = authority_adds_none c need q (Some c.name) level m
command_adds_none (Named name) need q level m = refl

pub says_as_who : SaysAsWho
says_as_who p b place m need q is =
    let why = no_logon_at p b place m in
    sym (ap (unless_on why) (command_adds_none place need q need.level m))
    ∙ sym (ap (λ d. unless_on why (command_at need place (member_line d (name_of place) need.level m))) is)

pub says_everywhere : SaysAsWhoEverywhere
says_everywhere p b m need is =
    sym (ap (λ d. unless_on (no_logon_at p b Everywhere m) (member_line d None need.level m)) is)

pub says_logons : SaysLogonsAsWho
says_logons p b c m = refl

abbrev word_of : UserLine → List ℕ
word_of l = verdict_word l.ruling l.instead

-- by whether the authority enters the group, and whether the user can log on
by_authority_so : (c : ConsoleRow) (need : Need) (m : UserWithGroups) (why : Option NoLogon) (b e : Bool) → m.user.revoked ≡ b → b ≡ false
    → enters c.auth need.group ≡ e → said_word (by_authority c.auth why need.group)
    ≡ word_of (unless_on why (or_authority c need (member_line None (Some c.name) need.level m)))
by_authority_so c need m why true e is off enters = cc
by_authority_so c need m None false true is off enters = rw (is, enters) refl
by_authority_so c need m (Some reason) false true is off enters = rw (is, enters) refl
by_authority_so c need m None false false is off enters = rw (is, enters) refl
by_authority_so c need m (Some reason) false false is off enters = rw (is, enters) refl

pub says_by_authority : SaysAsWhoByAuthority
says_by_authority p b c m need is active =
    let why = no_logon_at p b (OnBoard c) m in
    by_authority_so c need m why m.user.revoked (enters c.auth need.group) refl active refl
    ∙ sym (ap (λ d. word_of (unless_on why (or_authority c need (member_line d (Some c.name) need.level m)))) is)

never_below_none : (ruling : Option Ruling) → nat_lt (doubt_of ruling) 0 ≡ false
never_below_none None = refl
never_below_none (Some ruling) = go (is_warned (Some (rule_of ruling)))
  where
    go : (b : Bool) → nat_lt (if b then 1 else 0) 0 ≡ false
    go true = refl
    go false = refl

hides : (command l : UserLine) (r : Rule) (denied : Bool) → is_denied l.ruling ≡ denied → is_warned (Some r) ≡ false
    → (if denied then record l { instead = Some instead.Hidden } else l) ≡ said_line (said_of (Some (Allowed r)) l.ruling) command l
hides command l r true is certain = rw is refl
hides command l r false is certain = rw (is, certain, never_below_none l.ruling) refl

pub hides_as_who : HidesAsWho
hides_as_who command l r ruled certain on =
    hides command l r (is_denied l.ruling) refl certain ∙ sym (rw (on, ruled) refl)
