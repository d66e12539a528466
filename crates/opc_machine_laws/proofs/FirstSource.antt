-- The first source that has a level decides, everywhere and at a console.
use Rattle.std.proofs.Common.{◌≡◌, ◌⊎◌, inl, inr, ℕ, Bool, true, false, cond, List, Option, Some, None, codes, unwrap_or, refl, sym, ap, ◌∙◌}
use Rattle.std.specs.Option.{option_or}
use Rattle.opc_names.specs.declared.level.Level.{Level}
use Rattle.opc_names.specs.declared.level.Level.TheVariants as level
use Rattle.opc_policy_members.specs.declared.profile.Profile.{Profile}
use Rattle.opc_policy_members.specs.declared.user.User.{User}
use Rattle.opc_policy_members.specs.Access.{entry_level, higher_level, highest_level}
use Rattle.opc_policy_members.specs.Held.{held, plain_level}
use Rattle.opc_machine_laws.specs.HoldingLaws.{FirstSourceAtConsoleDecides, FirstSourceDecides}

above_none : (a : Level) → higher_level a level.None ≡ a
above_none level.None = refl
above_none level.Read = refl
above_none level.Update = refl
above_none level.Control = refl
above_none level.Alter = refl

module _ (p : Profile) (u : User) (groups : List (List ℕ)) where
  plain : held p u None groups ≡ plain_level p u groups
  unfolding held
  plain = above_none (plain_level p u groups)

  abbrev by : Option Level → Option Level → Bool → Option Level → Level
  by own group restricted everyone = unwrap_or (option_or own (option_or group (cond restricted None everyone))) (cond restricted level.None p.uacc)

  is : plain_level p u groups ≡ by (entry_level p.entries None u.id) (highest_level p.entries None groups) u.restricted (entry_level p.entries None (codes "*"))
  is = refl

pub first : FirstSourceDecides
first p u groups = record {
  own = λ l o. plain p u groups ∙ ap (λ x. by p u groups x (highest_level p.entries None groups) u.restricted (entry_level p.entries None (codes "*"))) o;
  group = λ l o g. plain p u groups ∙ ap (λ x. by p u groups x (highest_level p.entries None groups) u.restricted (entry_level p.entries None (codes "*"))) o
      ∙ ap (λ x. by p u groups None x u.restricted (entry_level p.entries None (codes "*"))) g;
  everyone = λ l r o g e. plain p u groups
      ∙ ap (λ x. by p u groups x (highest_level p.entries None groups) u.restricted
      (entry_level p.entries None (codes "*"))) o
      ∙ ap (λ x. by p u groups None x u.restricted (entry_level p.entries None (codes "*"))) g
      ∙ ap (λ b. by p u groups None None b (entry_level p.entries None (codes "*"))) r ∙ ap (λ x. by p u groups None None false x) e;
  universal = λ r o g e. plain p u groups
      ∙ ap (λ x. by p u groups x (highest_level p.entries None groups) u.restricted
      (entry_level p.entries None (codes "*"))) o
      ∙ ap (λ x. by p u groups None x u.restricted (entry_level p.entries None (codes "*"))) g
      ∙ ap (λ b. by p u groups None None b (entry_level p.entries None (codes "*"))) r ∙ ap (λ x. by p u groups None None false x) e;
}

module _ (p : Profile) (u : User) (console : List ℕ) (groups : List (List ℕ)) where
  -- what is held there, by what the entries for the console give
  abbrev there_by : Option Level → Option Level → Bool → Option Level → Level
  there_by own group restricted everyone = higher_level (plain_level p u groups)
      (unwrap_or (option_or own (option_or group (cond restricted None everyone))) level.None)

  there_is : held p u (Some console) groups ≡ there_by (entry_level p.entries (Some console) u.id)
      (highest_level p.entries (Some console) groups) u.restricted (entry_level p.entries (Some console) (codes "*"))
  unfolding held
  there_is = refl

  over : (l : Level) → higher_level (plain_level p u groups) l ≡ higher_level (held p u None groups) l
  over l = ap (λ x. higher_level x l) (sym (plain p u groups))

  own_none : entry_level p.entries (Some console) u.id ≡ None
      → held p u (Some console) groups ≡ there_by None (highest_level p.entries (Some console) groups) u.restricted
      (entry_level p.entries (Some console) (codes "*"))
  own_none o = there_is ∙ ap (λ x. there_by x (highest_level p.entries (Some console) groups) u.restricted
      (entry_level p.entries (Some console) (codes "*"))) o

  group_none : entry_level p.entries (Some console) u.id ≡ None → highest_level p.entries (Some console) groups ≡ None
      → held p u (Some console) groups ≡ there_by None None u.restricted (entry_level p.entries (Some console) (codes "*"))
  group_none o g = own_none o ∙ ap (λ x. there_by None x u.restricted (entry_level p.entries (Some console) (codes "*"))) g

pub first_at_console : FirstSourceAtConsoleDecides
first_at_console p u console groups = record {
  own = λ l o. there_is p u console groups ∙ ap (λ x. there_by p u console groups x (highest_level p.entries (Some console) groups)
      u.restricted (entry_level p.entries (Some console) (codes "*"))) o ∙ over p u console groups l;
  group = λ l o g. own_none p u console groups o ∙ ap (λ x. there_by p u console groups None x u.restricted
      (entry_level p.entries (Some console) (codes "*"))) g ∙ over p u console groups l;
  everyone = λ l r o g e. group_none p u console groups o g ∙ ap (λ b. there_by p u console groups None None b
      (entry_level p.entries (Some console) (codes "*"))) r ∙ ap (λ x. there_by p u console groups None None false x) e
      ∙ over p u console groups l;
  nobody = λ o g n. group_none p u console groups o g ∙ none n ∙ above_none (plain_level p u groups) ∙ sym (plain p u groups);
}
  where
    none : (u.restricted ≡ true) ⊎ (entry_level p.entries (Some console) (codes "*") ≡ None)
        → there_by p u console groups None None u.restricted (entry_level p.entries (Some console) (codes "*"))
        ≡ higher_level (plain_level p u groups) level.None
    none (inl r) = ap (λ b. there_by p u console groups None None b (entry_level p.entries (Some console) (codes "*"))) r
    none (inr e) = ap (λ x. there_by p u console groups None None u.restricted x) e ∙ either u.restricted
      where
        either : (b : Bool) → there_by p u console groups None None b None ≡ higher_level (plain_level p u groups) level.None
        either true = refl
        either false = refl
