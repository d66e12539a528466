-- A user whom no entry names may not, unless the profile lets others.
use Rattle.std.proofs.Common.{◌≡◌, ◌∙◌, ℕ, Bool, true, false, List, [], ◌∷◌, Option, Some, None, ap, refl, sym, subst, if◌then◌else◌}
use Rattle.std.specs.Prelude.{◌||◌, codes, unwrap_or}
use Rattle.std.specs.List.{list_any}
use Rattle.std.specs.Option.{is_some, option_map, option_map_or, option_or}
use Rattle.opc_names.specs.declared.level.Level.{Level}
use Rattle.opc_names.specs.declared.level.Level.TheVariants as level
use Rattle.opc_names.specs.Authority.{includes}
use Rattle.opc_terms.specs.declared.rule.Rule.{Rule}
use Rattle.opc_terms.specs.declared.rule.Rule.TheVariants as rule
use Rattle.opc_policy.specs.declared.ruling.Ruling.{Ruling}
use Rattle.opc_policy.specs.declared.ruling.Ruling.TheVariants.{Denied}
use Rattle.opc_policy.specs.Rulings.{profile_ruling, rule_at, ruling_at}
use Rattle.opc_policy_members.specs.Access.{entry_level}
use Rattle.opc_policy_members.specs.declared.entry.Entry.{Entry}
use Rattle.opc_policy_members.specs.declared.profile.Profile.{Profile}
use Rattle.opc_policy_members.specs.declared.user.User.{User}
use Rattle.opc_policy_sources.specs.declared.sources.HeldLevel.{HeldLevel}
use Rattle.opc_policy_sources.specs.declared.sources.LevelSource.{LevelSource}
use Rattle.opc_policy_sources.specs.declared.sources.LevelSource.TheVariants.{Everyone, Group, Own, Restricted, Universal}
use Rattle.opc_policy_sources.specs.Sources.{everyone_source, first_highest, first_source, from_entry, group_source, held_from, plain_source, universal_source}
use Rattle.opc_policy_sources.proofs.SourceLevels.{held_so}
use Rattle.opc_answers.specs.declared.lines.UserLine.{UserLine}
use Rattle.opc_answers.specs.declared.logons.NoLogon.{NoLogon}
use Rattle.opc_answers.specs.Texts.{may}
use Rattle.opc_answers.specs.Who.{line, unless_on}
use Rattle.opc_answers_sheet.specs.Callers.{Caller}
use Rattle.opc_answers_sheet.specs.Commands.{said_everywhere}
use Rattle.opc_answers_sheet.specs.Named.{everyone_holds, has_entry, is_called, lets_others}
use Rattle.opc_answers_sheet.specs.Ways.{with_held, with_source}
use Rattle.opc_answers_sheet.proofs.Raised.{still_held}

first_false : (a b : Bool) → (a || b) ≡ false → a ≡ false
first_false true b is = cc
first_false false b is = refl

second_false : (a b : Bool) → (a || b) ≡ false → b ≡ false
second_false true b is = cc
second_false false b is = is

not_there : {A : Type 0} (o : Option A) → is_some o ≡ false → o ≡ None
not_there None is = refl
not_there (Some a) is = cc

no_group : (entries : List Entry) (groups : List (List ℕ)) → list_any (has_entry entries) groups ≡ false
    → group_source entries None groups ≡ None
no_group entries [] none = refl
no_group entries (g ∷ groups) none =
    ap (λ l. first_highest (from_entry (Group g) None l) (group_source entries None groups))
    (not_there (entry_level entries None g) (first_false (has_entry entries g) (list_any (has_entry entries) groups) none))
    ∙ no_group entries groups (second_false (has_entry entries g) (list_any (has_entry entries) groups) none)

-- what the others hold: too little, and by no group
pub record IsOthers (needed : Level) (h : HeldLevel) : Type 0 where
  pub low : includes h.level needed ≡ false
  pub groupless : (groups : List (List ℕ)) → with_source h.source groups ≡ groups

by_everyone : (p : Profile) (needed : Level) (o : Option Level)
    → option_map_or (λ (l : Level). includes l needed) o false ≡ false → includes p.uacc needed ≡ false
    → IsOthers needed (unwrap_or (from_entry Everyone None o) (record { level = p.uacc; source = Universal; when = None }))
by_everyone p needed None low uacc = record { low = uacc; groupless = λ groups. refl }
by_everyone p needed (Some l) low uacc = record { low = low; groupless = λ groups. refl }

abbrev nothing : HeldLevel
nothing = record { level = level.None; source = Restricted; when = None }

abbrev everybody : Profile → HeldLevel
everybody p = record { level = p.uacc; source = Universal; when = None }

others_hold : (p : Profile) (needed : Level) (restricted : Bool) → includes level.None needed ≡ false → includes p.uacc needed ≡ false
    → everyone_holds p.entries needed ≡ false
    → IsOthers needed (unwrap_or (if restricted then None else from_entry Everyone None (entry_level p.entries None (codes "*")))
    (if restricted then nothing else everybody p))
others_hold p needed true none uacc everyone = record { low = none; groupless = λ groups. refl }
others_hold p needed false none uacc everyone = by_everyone p needed (entry_level p.entries None (codes "*")) everyone uacc

unnamed_hold : (p : Profile) (needed : Level) (user : User) (groups : List (List ℕ)) → lets_others p needed ≡ false
    → has_entry p.entries user.id ≡ false → list_any (has_entry p.entries) groups ≡ false
    → IsOthers needed (plain_source p user groups)
unnamed_hold p needed user groups lets own shared =
    let rest : (includes level.None needed || (includes p.uacc needed || everyone_holds p.entries needed)) ≡ false = second_false p.warning _ lets in
    let more : (includes p.uacc needed || everyone_holds p.entries needed) ≡ false = second_false (includes level.None needed) _ rest in
    let own_none : entry_level p.entries None user.id ≡ None = not_there (entry_level p.entries None user.id) own in
    let is : first_source p.entries None user groups ≡ everyone_source p.entries None user =
    ap (λ l. option_or (from_entry Own None l) (option_or (group_source p.entries None groups) (everyone_source p.entries None user))) own_none
    ∙ ap (λ s. option_or s (everyone_source p.entries None user)) (no_group p.entries groups shared) in
    subst (λ s. IsOthers needed (unwrap_or s (universal_source p user))) (sym is)
    (others_hold p needed user.restricted (first_false (includes level.None needed) _ rest) (first_false (includes p.uacc needed) _ more)
    (second_false (includes p.uacc needed) _ more))

-- what is said of them denies
denies : (p : Profile) (l needed : Level) → includes l needed ≡ false → p.warning ≡ false
    → ruling_at p l needed ≡ Denied (rule_at p l needed)
denies p l needed low warns = rw (low, warns) refl

denied_line : (why : Option NoLogon) (user : User) (r : Ruling) (why_not : Rule) (held : Option HeldLevel) → r ≡ Denied why_not
    → may (unless_on why (line user (Some r) held)) ≡ false
denied_line why user r why_not held is = ap (λ x. may (unless_on why (line user (Some x) held))) is

abbrev said_by : (revoked : Bool) → Profile → Level → Caller → UserLine
said_by revoked p needed c = unless_on c.no_logon (if revoked then line c.member.user (Some (Denied rule.Revoked)) None else
    line c.member.user (Some (profile_ruling p c.member.user None c.member.groups needed)) (Some (held_from p c.member.user None c.member.groups)))

module _ (p : Profile) (needed : Level) (lets : lets_others p needed ≡ false) (c : Caller) (other : is_called p c ≡ false) where
  holds : IsOthers needed (held_from p c.member.user None c.member.groups)
  holds = unnamed_hold p needed c.member.user c.member.groups lets
      (first_false (has_entry p.entries c.member.user.id) _ other) (second_false (has_entry p.entries c.member.user.id) _ other)

  denied : profile_ruling p c.member.user None c.member.groups needed ≡ Denied (rule_at p (held_from p c.member.user None c.member.groups).level needed)
  denied = ap (λ l. ruling_at p l needed) (sym (held_so p c.member.user None c.member.groups))
      ∙ denies p (held_from p c.member.user None c.member.groups).level needed holds.low (first_false p.warning _ lets)

  pub may_not : may (said_everywhere (Some p) needed c) ≡ false
  may_not = go c.member.user.revoked
    where
      go : (revoked : Bool) → may (said_by revoked p needed c) ≡ false
      go true = refl
      go false = denied_line c.no_logon c.member.user (profile_ruling p c.member.user None c.member.groups needed)
          (rule_at p (held_from p c.member.user None c.member.groups).level needed)
          (Some (held_from p c.member.user None c.member.groups)) denied

  pub by_no_group : (groups : List (List ℕ)) → with_held (said_everywhere (Some p) needed c).held groups ≡ groups
  by_no_group groups = go c.member.user.revoked
    where
      go : (revoked : Bool) → with_held (said_by revoked p needed c).held groups ≡ groups
      go true = refl
      go false = ap (λ h. with_held h groups) (still_held c.no_logon (line c.member.user
          (Some (profile_ruling p c.member.user None c.member.groups needed)) (Some (held_from p c.member.user None c.member.groups))))
          ∙ holds.groupless groups
