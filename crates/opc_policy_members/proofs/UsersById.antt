-- Users that are kept at their ids.
use Rattle.std.proofs.Common.{◌≡◌, refl, sym, ap, ◌∙◌, ℕ, List}
use Rattle.std.specs.BTreeMap.{insert_entry, is_at}
use Rattle.std.specs.Cmp.Lexicographic.{texts_ties}
use Rattle.std.specs.Map.{lookup, values_of}
use Rattle.std.specs.Ordering.{is_eq}
use Rattle.std.specs.Str.{bytes_eq}
use Rattle.std.proofs.lemmas.Slice.Eq.{bytes_eq-Decides}
use Rattle.opc_policy_members.proofs.Maps.{lookup-values, values-insert, All-insert, All-weaker}
use Rattle.opc_policy_members.specs.declared.user.User.{User}
use Rattle.opc_policy_members.specs.Members.{name_cmp, user_cmp, user_of, with_user}
use Rattle.opc_policy_members.specs.Stored.{AreById}

pub lookup-user : (id : List ℕ) (es : List (List ℕ × User)) → AreById es → lookup (is_at (name_cmp id)) es ≡ user_of (values_of es) id
lookup-user id es h =
    lookup-values (is_at (name_cmp id)) (λ (u : User). bytes_eq id u.id) es
    (All-weaker _ _ (λ e at. rw at (sym (texts_ties id e.1.id))) es h)

pub values-with_user : (user : User) (es : List (List ℕ × User)) → AreById es
    → values_of (insert_entry name_cmp es user.id user) ≡ with_user user (values_of es)
values-with_user user es h =
    values-insert name_cmp user_cmp user.id user es (All-weaker _ _ (λ e at. ap (name_cmp user.id) at) es h)

pub AreById-insert : (user : User) (es : List (List ℕ × User)) → AreById es → AreById (insert_entry name_cmp es user.id user)
AreById-insert user es h =
    All-insert _ name_cmp user.id user es refl (λ e tie. sym ((bytes_eq-Decides user.id e.0).0 (texts_ties user.id e.0 ∙ ap is_eq tie))) h
