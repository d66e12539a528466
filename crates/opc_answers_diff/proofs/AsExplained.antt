-- The line of a user says what is explained to the user.
use Rattle.std.proofs.Common.{◌≡◌, ◌∙◌, ap, sym, refl, ℕ, Bool, true, false, cond, List, [], ◌∷◌, Option, Some, None, map}
use Rattle.std.specs.Prelude.{if◌then◌else◌}
use Rattle.std.specs.Option.{option_map}
use Rattle.std.specs.Str.{bytes_eq}
use Rattle.opc_names.specs.declared.class.Class.TheVariants.{Opercmds}
use Rattle.opc_names.specs.declared.level.Level.{Level}
use Rattle.opc_terms.specs.declared.rule.Rule.TheVariants as rule
use Rattle.opc_policy_members.specs.declared.policy.Policy.{Policy}
use Rattle.opc_policy_members.specs.declared.profile.Profile.{Profile}
use Rattle.opc_policy_members.specs.declared.user.User.{User}
use Rattle.opc_policy_members.specs.Members.{user_of}
use Rattle.opc_policy_members.specs.Profiles.{of_class}
use Rattle.opc_policy_members.specs.Taken.{is_active}
use Rattle.opc_policy.specs.declared.ruling.Ruling.TheVariants.{Denied}
use Rattle.opc_policy.specs.Deciding.{deciding}
use Rattle.opc_policy.specs.Rulings.{profile_ruling}
use Rattle.opc_policy_deciders.specs.declared.kind.AskedKind.{AskedKind}
use Rattle.opc_policy_deciders.specs.Decided.{in_effect}
use Rattle.opc_policy_deciders.proofs.Explained.{rules_as_explained}
use Rattle.opc_answers.specs.declared.lines.UserLine.{UserLine}
use Rattle.opc_answers.specs.declared.logons.Instead.TheVariants.{Hidden}
use Rattle.opc_answers.specs.declared.members.UserWithGroups.{UserWithGroups}
use Rattle.opc_answers.specs.Deciding.{decider}
use Rattle.opc_answers.specs.Made.{member_of}
use Rattle.opc_answers.specs.Who.{by_profile, is_denied, line, member_line}
use Rattle.opc_answers_diff.specs.declared.asked.Asked.TheVariants.{Resource}
use Rattle.opc_answers_diff.specs.Laws.{MembersAreStored, SaysAsExplained}
use Rattle.opc_answers_diff.specs.Members.{member_in}
use Rattle.opc_answers_diff.specs.Verdicts.{as_asked}

in_effect_so : (p : Policy) (r : List ℕ) → decider p Opercmds r ≡ deciding (in_effect p) r
in_effect_so p r = go (is_active p.active Opercmds)
  where
    go : (b : Bool) → (if b then deciding (of_class Opercmds p.profiles) r else None)
        ≡ deciding (if b then of_class Opercmds p.profiles else []) r
    go true = refl
    go false = refl

-- hiding a line leaves the ruling
asked_ruling : (kind : AskedKind) (m : UserWithGroups) (l : UserLine) → (as_asked (Resource kind) m l).ruling ≡ l.ruling
asked_ruling kind m l = go kind.is_line (is_denied l.ruling)
  where
    go : (b c : Bool) → (if b then (if c then record l { instead = Some Hidden } else l) else l).ruling ≡ l.ruling
    go true true = refl
    go true false = refl
    go false c = refl

ruling_so : (b : Bool) (p : Profile) (user : User) (console : Option (List ℕ)) (groups : List (List ℕ)) (level : Level) → b ≡ false
    → (if b then line user (Some (Denied rule.Revoked)) None else by_profile (Some p) console level groups user).ruling
    ≡ Some (profile_ruling p user console groups level)
ruling_so true p user console groups level on = cc
ruling_so false p user console groups level on = refl

pub says_as_explained : SaysAsExplained
says_as_explained p m profile resource console kind stored groups on decides = (
  asked_ruling kind m (member_line (Some profile) console kind.level m)
      ∙ ruling_so m.user.revoked profile m.user console m.groups kind.level on
      ∙ ap (λ gs. Some (profile_ruling profile m.user console gs kind.level)) groups,
  rules_as_explained p profile resource m.user console kind.level stored (sym (in_effect_so p resource) ∙ decides),
)

module _ (p : Policy) (id : List ℕ) where
  stored_in : (users : List User) → member_in (map (member_of p.connects) users) id ≡ option_map (member_of p.connects) (user_of users id)
  stored_in [] = refl
  stored_in (u ∷ users) = go (bytes_eq id u.id) (stored_in users)
    where
      go : (b : Bool) → member_in (map (member_of p.connects) users) id ≡ option_map (member_of p.connects) (user_of users id)
          → cond b (Some (member_of p.connects u)) (member_in (map (member_of p.connects) users) id)
          ≡ option_map (member_of p.connects) (cond b (Some u) (user_of users id))
      go true later = refl
      go false later = later

pub members_are_stored : MembersAreStored
members_are_stored p id = stored_in p id p.users
