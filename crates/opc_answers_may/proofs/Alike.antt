-- One head says the same of its consoles, unless an entry is for one of them alone.
use Rattle.std.proofs.Common.{◌≡◌, ◌∙◌, ap, sym, refl, ℕ, Bool, true, false, ◌&&◌, List, Option, Some, None}
use Rattle.std.specs.Prelude.{find, if◌then◌else◌, not}
use Rattle.std.specs.Option.{is_none, is_some}
use Rattle.std.specs.Str.{bytes_eq}
use Rattle.std.proofs.lemmas.Option.{same_Some}
use Rattle.std.proofs.lemmas.Slice.Eq.{bytes_eq-Decides}
use Rattle.opc_names.specs.declared.class.Class.TheVariants.{Console}
use Rattle.opc_names.specs.declared.level.Level.TheVariants.{Read}
use Rattle.opc_terms.specs.declared.rule.Rule.TheVariants as rule
use Rattle.opc_policy_members.specs.declared.profile.Profile.{Profile}
use Rattle.opc_policy_members.specs.declared.user.User.{User}
use Rattle.opc_policy_members.specs.Profiles.{is_of}
use Rattle.opc_policy.specs.declared.ruling.Ruling.TheVariants.{Denied}
use Rattle.opc_policy.specs.Rulings.{ruling_at}
use Rattle.opc_policy_sources.specs.declared.sources.HeldLevel.{HeldLevel}
use Rattle.opc_policy_sources.specs.Sources.{held_from}
use Rattle.opc_policy_sources.proofs.SourceLevels.{held_so}
use Rattle.opc_policy_sources.proofs.Raising.{plain_where_none_raises}
use Rattle.opc_machine.specs.Rulings.{is_auto}
use Rattle.opc_answers.specs.declared.lines.UserLine.{UserLine}
use Rattle.opc_answers.specs.declared.members.UserWithGroups.{UserWithGroups}
use Rattle.opc_answers.specs.Deciding.{decider}
use Rattle.opc_answers.specs.Logons.{acts_for}
use Rattle.opc_answers.specs.Who.{by_profile, is_raised, line, or_admitted, without_digest}
use Rattle.opc_answers_may.specs.declared.logons.LogonBasis.{LogonBasis}
use Rattle.opc_answers_may.specs.declared.logons.LogonBasis.TheVariants.{Auto, NoDigest}
use Rattle.opc_answers_may.specs.Logons as logons
use Rattle.opc_answers_may.specs.Logons.{same_basis}
use Rattle.opc_answers_may.specs.MayLaws.{SaysOneUnderAHead}
use Rattle.opc_answers_may.proofs.Heads.{decider_stored}

abbrev basis : (acts none : Bool) → Option Profile → LogonBasis
basis a n d = if a then Auto else (if n then NoDigest else logons.by_profile d)

abbrev said_by : (revoked none : Bool) → Option Profile → (console : List ℕ) → UserWithGroups → UserLine
said_by b n d console m = if n then without_digest m.user else
    or_admitted (if b then line m.user (Some (Denied rule.Revoked)) None else by_profile d (Some console) Read m.groups m.user)

-- by the level that is held
abbrev by_held : Profile → User → HeldLevel → UserLine
by_held q user h = or_admitted (line user (Some (ruling_at q h.level Read)) (Some h))

not_true : (b : Bool) → not b ≡ true → b ≡ false
not_true true is = sym is
not_true false is = refl

plain_said : (q : Profile) (console : List ℕ) (m : UserWithGroups) → not (is_raised (said_by false false (Some q) console m)) ≡ true
    → said_by false false (Some q) console m ≡ by_held q m.user (held_from q m.user None m.groups)
plain_said q console m plain =
    let none : is_some (held_from q m.user (Some console) m.groups).when ≡ false = not_true _ plain in
    ap (λ l. or_admitted (line m.user (Some (ruling_at q l Read)) (Some (held_from q m.user (Some console) m.groups))))
    (sym (held_so q m.user (Some console) m.groups))
    ∙ ap (by_held q m.user) (plain_where_none_raises q m.user console m.groups none)

alike : (b a e n : Bool) (d f : Option Profile) (x y : List ℕ) (m : UserWithGroups)
    → (a ≡ true → e ≡ true → said_by b n d x m ≡ said_by b n f y m)
    → ((q r : Profile) → d ≡ Some q → f ≡ Some r → q.pattern ≡ r.pattern → q ≡ r)
    → same_basis (basis a n d) (basis e n f) ≡ true → not (is_raised (said_by b n d x m)) ≡ true
    → not (is_raised (said_by b n f y m)) ≡ true → said_by b n d x m ≡ said_by b n f y m
alike b a e true d f x y m auto one same here there = refl
alike b true true false d f x y m auto one same here there = auto refl refl
alike b true false false d None x y m auto one same here there = cc
alike b true false false d (Some r) x y m auto one same here there = cc
alike b false true false None f x y m auto one same here there = cc
alike b false true false (Some q) f x y m auto one same here there = cc
alike b false false false None None x y m auto one same here there = refl
alike b false false false None (Some r) x y m auto one same here there = cc
alike b false false false (Some q) None x y m auto one same here there = cc
alike true false false false (Some q) (Some r) x y m auto one same here there = refl
alike false false false false (Some q) (Some r) x y m auto one same here there =
    plain_said q x m here
    ∙ ap (λ t. by_held t m.user (held_from t m.user None m.groups))
    (one q r refl refl ((bytes_eq-Decides q.pattern r.pattern).0 same))
    ∙ sym (plain_said r y m there)

both : (a b : Bool) → (a && b) ≡ true → b ≡ true
both true b h = h
both false b h = cc

pub says_one_under_a_head : SaysOneUnderAHead
says_one_under_a_head p m c d order same here there =
    alike m.user.revoked (acts_for c m) (acts_for d m) (is_none m.user.digest) (decider p Console c.name) (decider p Console d.name)
    c.name d.name m
    (λ acts other. ap (λ name. said_by m.user.revoked (is_none m.user.digest) (decider p Console name) name m)
    (own c.name m.user.id (both (is_auto c.mode) (bytes_eq c.name m.user.id) acts)
    ∙ sym (own d.name m.user.id (both (is_auto d.mode) (bytes_eq d.name m.user.id) other))))
    (λ q r one other is. same_Some q r (sym (decider_stored p c.name q order one)
    ∙ ap (λ t. find (is_of Console t) p.profiles) is ∙ decider_stored p d.name r order other)) same here there
  where
    own : (name id : List ℕ) → bytes_eq name id ≡ true → name ≡ id
    own name id is = (bytes_eq-Decides name id).0 is
