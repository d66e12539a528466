-- A profile and its own class and pattern.
use Rattle.std.proofs.Common.{◌≡◌, ◌&&◌, Bool, true, false, refl, ap₂, Less}
use Rattle.std.proofs.lemmas.Slice.Eq.{bytes_eq-Decides}
use Rattle.opc_names.specs.declared.class.Class.{Class}
use Rattle.opc_names.specs.declared.class.Class.TheVariants.{Console, Opercmds}
use Rattle.opc_names.specs.Authority.{same_class}
use Rattle.opc_policy_members.specs.declared.profile.Profile.{Profile}
use Rattle.opc_policy_members.specs.Profiles.{profile_cmp, is_of}
use Rattle.opc_store_schema.proofs.AccessLists.{ties}

same_itself : (class : Class) → same_class class class ≡ true
same_itself Console = refl
same_itself Opercmds = refl

pub is_itself : (x : Profile) → is_of x.class x.pattern x ≡ true
is_itself x = ap₂ (λ a b. a && b) (same_itself x.class) ((bytes_eq-Decides x.pattern x.pattern).1 refl)

pub not_of : (x z : Profile) → profile_cmp z x ≡ Less → is_of x.class x.pattern z ≡ false
not_of x z less = go (is_of x.class x.pattern z) refl
  where
    go : (b : Bool) → is_of x.class x.pattern z ≡ b → b ≡ false
    go true e = absurd (let tie = ties x.class x.pattern z x e (is_itself x) in cc)
    go false e = refl
