-- Each form stands in one line of a section, and a console has a section of its own as `who` has a line for it.
use Rattle.std.proofs.Common.{◌≡◌, ◌∙◌, ap, sym, refl, Bool, true, false, ◌||◌, List, [], ◌∷◌, Some, None, map}
use Rattle.std.specs.Prelude.{ℕ, if◌then◌else◌}
use Rattle.opc_names.specs.Authority.{enters}
use Rattle.opc_names.specs.declared.level.Level.{Level}
use Rattle.opc_names.specs.declared.level.Level.TheVariants.{Read}
use Rattle.opc_terms.specs.declared.rule.Rule.TheVariants as rule
use Rattle.opc_policy_members.specs.declared.profile.Profile.{Profile}
use Rattle.opc_policy.specs.declared.ruling.Ruling.TheVariants.{Denied}
use Rattle.opc_answers.specs.declared.members.UserWithGroups.{UserWithGroups}
use Rattle.opc_answers.specs.Who.{by_profile, is_raised, line, member_line}
use Rattle.opc_policy_deciders.specs.Forms.{AskedForm, forms}
use Rattle.opc_policy_deciders.specs.Kinds.{kinds}
use Rattle.opc_policy_deciders.specs.declared.kind.AskedKind.{AskedKind}
use Rattle.opc_answers_may.specs.declared.commands.CommandsLine.{CommandsLine}
use Rattle.opc_answers_may.specs.declared.commands.CommandsSaid.{CommandsSaid}
use Rattle.opc_answers_may.specs.declared.commands.CommandsSaid.TheVariants.{Ruled}
use Rattle.opc_answers_may.specs.declared.commands.FormsAsked.TheVariants.{OfKind}
use Rattle.opc_answers_may.specs.Commands.{authority_lines, said_of}
use Rattle.opc_answers_may.specs.MayLaws.{RaisedAsWho, StandsByItsGroup, StandsByItsKind, by_authority, said_about}

abbrev line_saying : (AskedKind → CommandsSaid) → AskedKind → CommandsLine
line_saying says kind = record { asked = OfKind kind; said = says kind }

abbrev kind_of : AskedForm → AskedKind
kind_of form = record { level = form.level; is_line = form.is_line }

-- whatever is said of the kinds
by_kind_so : (says : AskedKind → CommandsSaid) → map (said_about (map (line_saying says) kinds)) forms
    ≡ map (λ (form : AskedForm). says (kind_of form) ∷ []) forms
by_kind_so says = refl

pub stands_by_its_kind : StandsByItsKind
stands_by_its_kind place why decided m = by_kind_so (λ (kind : AskedKind). Ruled (said_of place why decided m kind))

pub stands_by_its_group : StandsByItsGroup
stands_by_its_group auth why form = go (enters auth form.group) refl
  where
    go : (b : Bool) → enters auth form.group ≡ b → said_about (authority_lines auth why) form ≡ by_authority auth why form.group ∷ []
    go true is = rw is refl
    go false is = rw is refl

or_false : (b : Bool) → b ≡ (b || false)
or_false true = refl
or_false false = refl

-- the level that is needed does not count
any_level : (b : Bool) (q : Profile) (console : List ℕ) (one other : Level) (m : UserWithGroups)
    → is_raised (if b then line m.user (Some (Denied rule.Revoked)) None else by_profile (Some q) (Some console) one m.groups m.user)
    ≡ (is_raised (if b then line m.user (Some (Denied rule.Revoked)) None else by_profile (Some q) (Some console) other m.groups m.user) || false)
any_level true q console one other m = refl
any_level false q console one other m = or_false _

pub raised_as_who : RaisedAsWho
raised_as_who p b c m need q is =
    any_level m.user.revoked q c.name Read need.level m
    ∙ sym (ap (λ d. is_raised (member_line d (Some c.name) need.level m) || false) is)
