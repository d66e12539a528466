-- Users, levels and definitions that are the same by their fields are the same.
use Rattle.std.proofs.Common.{◌≡◌, true, Some, refl, sym, ap, ◌∙◌, rules}
use Rattle.std.specs.Cmp.Derive.{one_truth}
use Rattle.std.specs.Str.{bytes_eq}
use Rattle.opc_names.specs.Spellings.{level_text, levels, lookup}
use Rattle.opc_names.specs.declared.level.Level.{Level}
use Rattle.opc_names.specs.declared.level.Level.TheVariants as level
use Rattle.opc_names.specs.contracts.level.LevelPartialEq.TheImpl as of_level
use Rattle.opc_policy_members.specs.declared.profile.Profile.{Profile}
use Rattle.opc_policy_members.specs.declared.user.User.{User}
use Rattle.opc_state.specs.Difference.{same_flag, same_text}
use Rattle.opc_state.proofs.SameRows.{both, first, flag_itself, flags, name_itself, names, rest, text_itself, texts}
use Rattle.opc_machine.specs.Imports.{same_user}
use Rattle.opc_gate_admin.specs.Operations.{same_definition}

level_back : (a : Level) → lookup levels (level_text a) ≡ Some a
level_back level.None = refl
level_back level.Read = refl
level_back level.Update = refl
level_back level.Control = refl
level_back level.Alter = refl

pub level_is : (a b : Level) → bytes_eq (level_text a) (level_text b) ≡ true → a ≡ b
level_is a b h = let s : Some a ≡ Some b = sym (level_back a) ∙ ap (lookup levels) (names (level_text a) (level_text b) h) ∙ level_back b in cc

-- the equality that levels derive is that of their texts
derived_level : (a : Level) → of_level.eq-value.it a a ≡ true
derived_level a = search rules

pub same_levels : (a b : Level) → of_level.eq-value.it a b ≡ bytes_eq (level_text a) (level_text b)
same_levels a b = one_truth (of_level.eq-value.it a b) (bytes_eq (level_text a) (level_text b))
    (λ h. let same : a ≡ b = search (rules, h) in ap (λ x. bytes_eq (level_text a) (level_text x)) (sym same) ∙ name_itself (level_text a))
    (λ h. ap (of_level.eq-value.it a) (sym (level_is a b h)) ∙ derived_level a)

pub user_is : (u v : User) → same_user u v ≡ true → u ≡ v
user_is u v h =
    let id : u.id ≡ v.id = names _ _ (first _ _ h) in
    let h1 = rest (bytes_eq u.id v.id) _ h in
    let special : u.special ≡ v.special = flags _ _ (first _ _ h1) in
    let h2 = rest (same_flag u.special v.special) _ h1 in
    let auditor : u.auditor ≡ v.auditor = flags _ _ (first _ _ h2) in
    let h3 = rest (same_flag u.auditor v.auditor) _ h2 in
    let revoked : u.revoked ≡ v.revoked = flags _ _ (first _ _ h3) in
    let h4 = rest (same_flag u.revoked v.revoked) _ h3 in
    let digest : u.digest ≡ v.digest = texts _ _ (first _ _ h4) in
    let restricted : u.restricted ≡ v.restricted = flags _ _ (rest (same_text u.digest v.digest) _ h4) in
    λ i. record { id = id i; special = special i; auditor = auditor i; revoked = revoked i; digest = digest i; restricted = restricted i }

pub user_itself : (u : User) → same_user u u ≡ true
user_itself u = both _ _ (name_itself u.id)
    (both _ _ (flag_itself u.special) (both _ _ (flag_itself u.auditor)
    (both _ _ (flag_itself u.revoked) (both _ _ (text_itself u.digest) (flag_itself u.restricted)))))

pub record AreDefinedAlike (p q : Profile) : Type 0 where
  pub owner : p.owner ≡ q.owner
  pub uacc : p.uacc ≡ q.uacc
  pub warning : p.warning ≡ q.warning

pub definition_is : (p q : Profile) → same_definition p q ≡ true → AreDefinedAlike p q
definition_is p q h =
    let h1 = rest (bytes_eq p.owner q.owner) _ h in
    record {
      owner = names _ _ (first _ _ h);
      uacc = level_is _ _ (first _ _ h1);
      warning = flags _ _ (rest (bytes_eq (level_text p.uacc) (level_text q.uacc)) _ h1);
    }

pub definition_itself : (p : Profile) → same_definition p p ≡ true
definition_itself p = both _ _ (name_itself p.owner) (both _ _ (name_itself (level_text p.uacc)) (flag_itself p.warning))
