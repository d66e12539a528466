-- The groups that a user is connected to, by lookups of connects.
use Rattle.std.proofs.Common.{
  ◌≡◌,
  ℕ,
  ◌+◌,
  ◌<◌,
  Bool,
  true,
  false,
  cond,
  ◌||◌,
  ◌&&◌,
  List,
  [],
  ◌∷◌,
  ◌++◌,
  filter,
  get_or,
  length,
  map,
  take,
  append-nil,
  refl,
  sym,
  ap,
  ap₂,
  ◌∙◌,
}
use Rattle.std.specs.List.{list_any}
use Rattle.std.specs.Str.{bytes_eq}
use Rattle.std.specs.Cmp.{both_ways}
use Rattle.std.proofs.lemmas.Slice.Eq.{bytes_eq-Decides}
use Rattle.std.proofs.lemmas.List.{take_more}
use Rattle.opc_policy_members.specs.declared.entry.Entry.{Entry}
use Rattle.opc_policy_members.specs.Held.{listed_groups}
use Rattle.opc_policy_members.specs.declared.connect.Connect.{Connect}
use Rattle.opc_policy_members.specs.declared.policy.Policy.{Policy}
use Rattle.opc_policy_members.specs.Members.{groups_of, is_group}
use Rattle.opc_state.specs.Changes.{IsKept}
use Rattle.opc_state.specs.Loads.{is_connected}
use Rattle.opc_state.specs.Meaning.{Meaning}

mirrored : (a b : List ℕ) → bytes_eq a b ≡ bytes_eq b a
mirrored a b = both_ways (bytes_eq a b) (bytes_eq b a)
    (λ e. (bytes_eq-Decides b a).1 (sym ((bytes_eq-Decides a b).0 e)))
    (λ e. (bytes_eq-Decides a b).1 (sym ((bytes_eq-Decides b a).0 e)))

among : (user group : List ℕ) (connects : List Connect)
    → list_any (λ (c : Connect). bytes_eq c.user user && bytes_eq c.group group) connects ≡ is_group
    (groups_of connects user) group
among user group [] = refl
among user group (c ∷ connects) = go (bytes_eq c.user user) (among user group connects)
  where
    go : (b : Bool) → list_any (λ (d : Connect). bytes_eq d.user user && bytes_eq d.group group) connects ≡ is_group (groups_of connects user) group
        → ((b && bytes_eq c.group group)
        || list_any (λ (d : Connect). bytes_eq d.user user && bytes_eq d.group group) connects) ≡ is_group
        (map (λ (d : Connect). d.group)
        (cond b (c ∷ filter (λ (d : Connect). bytes_eq d.user user) connects)
        (filter (λ (d : Connect). bytes_eq d.user user) connects))) group
    go true rest = ap₂ (λ a b. a || b) (mirrored c.group group) rest
    go false rest = rest

-- a connect is there if the group is among those of the user
pub connected_is : (p : Policy) (user group : List ℕ) → is_connected p user group ≡ is_group (groups_of p.connects user) group
connected_is p user group = among user group p.connects

-- what two loads keep, one after the other
pub kept_again : {T : Type 0} (m : Meaning T) (old mid new : T)
    → IsKept m old mid → IsKept m mid new
    → IsKept m old new
kept_again m old mid new first second = record {
  sure = λ h. first.sure (second.sure h);
  same = λ h s r. second.same h s (first.same (second.sure h) s r);
  crash = λ s m. first.crash s (second.crash s m);
}

-- entries, one after the other

listed_push : (groups : List (List ℕ)) (entries : List Entry) (e : Entry)
    → listed_groups (entries ++ e ∷ []) groups ≡ listed_groups entries groups
    ++ cond (is_group groups e.id) (e.id ∷ []) []
listed_push groups [] e = refl
listed_push groups (x ∷ entries) e = go (is_group groups x.id) (listed_push groups entries e)
  where
    go : (b : Bool) → listed_groups (entries ++ e ∷ []) groups ≡ listed_groups entries groups ++ cond (is_group groups e.id) (e.id ∷ []) []
        → cond b (x.id ∷ listed_groups (entries ++ e ∷ []) groups) (listed_groups (entries ++ e ∷ []) groups) ≡ cond b
        (x.id ∷ listed_groups entries groups) (listed_groups entries groups)
        ++ cond (is_group groups e.id) (e.id ∷ []) []
    go true rest = ap (λ l. x.id ∷ l) rest
    go false rest = rest

listed_more : (groups : List (List ℕ)) (entries : List Entry) (i : ℕ) (e : Entry) → i < length entries
    → e ≡ get_or entries i e → listed_groups (take (i + 1) entries) groups ≡ listed_groups (take i entries) groups
    ++ cond (is_group groups e.id) (e.id ∷ []) []
listed_more groups entries i e low is =
    ap (λ l. listed_groups l groups) (take_more entries i e low ∙ ap (λ x. take i entries ++ x ∷ []) (sym is))
    ∙ listed_push groups (take i entries) e

-- the next entry is for a group of the user
pub one_listed : (groups : List (List ℕ)) (entries : List Entry) (i : ℕ) (e : Entry) (so_far : List (List ℕ)) → i < length entries → e ≡ get_or entries i e
    → so_far ≡ listed_groups (take i entries) groups → is_group groups e.id ≡ true → so_far ++ e.id ∷ [] ≡ listed_groups (take (i + 1) entries) groups
one_listed groups entries i e so_far low is so member =
    ap (λ l. l ++ e.id ∷ []) so ∙ ap (λ b. listed_groups (take i entries) groups ++ cond b (e.id ∷ []) []) (sym member)
    ∙ sym (listed_more groups entries i e low is)

-- it is for none
pub none_listed : (groups : List (List ℕ)) (entries : List Entry) (i : ℕ) (e : Entry) (so_far : List (List ℕ)) → i < length entries → e ≡ get_or entries i e
    → so_far ≡ listed_groups (take i entries) groups → is_group groups e.id ≡ false → so_far ≡ listed_groups (take (i + 1) entries) groups
none_listed groups entries i e so_far low is so member =
    so ∙ sym (append-nil _) ∙ ap (λ b. listed_groups (take i entries) groups ++ cond b (e.id ∷ []) []) (sym member)
    ∙ sym (listed_more groups entries i e low is)
