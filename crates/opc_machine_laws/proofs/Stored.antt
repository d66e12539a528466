-- What is stored, connected, named, and who is logged on.
use Rattle.std.proofs.Common.{
  ◌≡◌,
  ◌⊎◌,
  inl,
  inr,
  ℕ,
  zero,
  suc,
  Bool,
  true,
  false,
  ◌&&◌,
  ◌||◌,
  if◌then◌else◌,
  List,
  [],
  ◌∷◌,
  Option,
  Some,
  None,
  codes,
  filter,
  find,
  Contains,
  refl,
  sym,
  ap,
  subst,
  ◌∙◌,
  arith,
}
use Rattle.std.specs.List.{list_any}
use Rattle.std.specs.Str.{bytes_eq}
use Rattle.std.proofs.lemmas.Bool.{and_parts, or_left, or_right}
use Rattle.opc_names.specs.declared.auth.Auth.{Auth}
use Rattle.opc_names.specs.declared.auth.Auth.TheVariants.{All, Cons, Info, Io, IoCons, Master, Sys, SysCons, SysIo, SysIoCons}
use Rattle.opc_policy.proofs.MostSpecific.{of_filter, to_filter}
use Rattle.opc_policy_members.specs.declared.connect.Connect.{Connect}
use Rattle.opc_policy_members.specs.declared.entry.Entry.{Entry}
use Rattle.opc_policy_members.specs.declared.policy.Policy.{Policy}
use Rattle.opc_policy_members.specs.declared.profile.Profile.{Profile}
use Rattle.opc_policy_members.specs.declared.user.User.{User}
use Rattle.opc_policy_members.specs.Members.{user_of}
use Rattle.opc_policy_members.specs.Taken.{has_group, has_holder, has_user}
use Rattle.opc_board.specs.declared.rows.ConsoleRow.{ConsoleRow}
use Rattle.opc_board.specs.declared.rows.UnitKind.{UnitKind}
use Rattle.opc_board.specs.declared.rows.UnitKind.TheVariants.{Job, Stc, Tsu}
use Rattle.opc_board.specs.declared.rows.UnitRow.{UnitRow}
use Rattle.opc_board.specs.Invariants.{Name, is_master, is_master_auth, unit_at}
use Rattle.opc_board.specs.Replies.{is_session}
use Rattle.opc_board.specs.Units.{is_holder}
use Rattle.opc_board.proofs.Names.{is_itself, is_same_name}
use Rattle.opc_state.specs.Loads.{has_entry, is_named}
use Rattle.opc_machine_laws.specs.StoredLaws.{
  ConnectsConnect,
  IsNamedIn,
  MastersAreOnline,
  NamedIsWhoIsNamed,
  OnIsWhoIsOn,
  SessionsAreOfTheirUsers,
  StoredIsWhatIsThere,
}
use Rattle.opc_machine_laws.proofs.Changing.{made_of, makes}
use Rattle.opc_machine_laws.proofs.Keys.{both_true, name_itself, same_name}
use Rattle.opc_machine_laws.proofs.RowsKept.{any_found}

-- one that passes a test is there

abbrev IsThere : {A : Type 0} → (A → Bool) → List A → Type 0
IsThere {A = A} q xs = (x : A) × Contains xs x × (q x ≡ true)

there : {A : Type 0} (q : A → Bool) (xs : List A) → list_any q xs ≡ true → IsThere q xs
there q [] h = absurd (cc)
there q (x ∷ xs) h = go (q x) refl h (there q xs)
  where
    go : (b : Bool) → q x ≡ b → (b || list_any q xs) ≡ true → (list_any q xs ≡ true → IsThere q xs) → IsThere q (x ∷ xs)
    go true is k later = (x, (0, omega arith, refl), is)
    go false is k later = let found = later k in (found.0, (suc found.1.0, omega (arith, found.1.1), found.1.2), found.2)

any : {A : Type 0} (q : A → Bool) (xs : List A) (x : A) → Contains xs x → q x ≡ true → list_any q xs ≡ true
any q [] x (k, low, is) h = absurd (omega (arith, low))
any q (y ∷ ys) x (zero, low, is) h = ap (λ b. b || list_any q ys) (ap q is ∙ h)
any q (y ∷ ys) x (suc k, low, is) h = or_right (q y) (list_any q ys) (any q ys x (k, omega (arith, low), is) h)

found : {A : Type 0} (q : A → Bool) (xs : List A) (x : A) → find q xs ≡ Some x → Contains xs x × (q x ≡ true)
found q [] x h = absurd (cc)
found q (y ∷ ys) x h = go (q y) refl h (found q ys x)
  where
    go : (b : Bool) → q y ≡ b → (if b then Some y else find q ys) ≡ Some x
        → (find q ys ≡ Some x → Contains ys x × (q x ≡ true)) → Contains (y ∷ ys) x × (q x ≡ true)
    go true is k later = let same : y ≡ x = cc in ((0, omega arith, same), subst (λ z. q z ≡ true) same is)
    go false is k later = let f = later k in ((suc f.0.0, omega (arith, f.0.1), f.0.2), f.1)

-- users and groups

user_there : (p : Policy) (name : List ℕ) → has_user p name ≡ true → (u : User) × Contains p.users u × (u.id ≡ name)
user_there p name h = let one = there (λ (u : User). bytes_eq name u.id) p.users
    (any_found (λ (u : User). bytes_eq name u.id) p.users ∙ h) in (one.0, one.1, sym (same_name name one.0.id one.2))

user_back : (p : Policy) (name : List ℕ) → (u : User) × Contains p.users u × (u.id ≡ name) → has_user p name ≡ true
user_back p name (u, in_it, is) =
    sym (any_found (λ (v : User). bytes_eq name v.id) p.users)
    ∙ any (λ (v : User). bytes_eq name v.id) p.users u in_it (ap (bytes_eq name) is ∙ name_itself name)

pub user_found : (p : Policy) (name : List ℕ) (u : User) → user_of p.users name ≡ Some u → Contains p.users u × (u.id ≡ name)
user_found p name u h = let f = found (λ (v : User). bytes_eq name v.id) p.users u h in (f.0, sym (same_name name u.id f.1))

group_there : (p : Policy) (name : List ℕ) → has_group p name ≡ true → Contains p.groups name
group_there p name h = let one = there (bytes_eq name) p.groups h in subst (Contains p.groups) (sym (same_name name one.0 one.2)) one.1

holder_parts : (a b c : Bool) → (a || b || c) ≡ true → (a ≡ true) ⊎ ((b ≡ true) ⊎ (c ≡ true))
holder_parts true b c h = inl refl
holder_parts false true c h = inr (inl refl)
holder_parts false false true h = inr (inr refl)
holder_parts false false false h = absurd (cc)

holder_is : (p : Policy) (name : List ℕ) → has_holder p name ≡ true → (name ≡ codes "*") ⊎ ((has_user p name ≡ true) ⊎ (has_group p name ≡ true))
holder_is p name h = go (holder_parts (bytes_eq name (codes "*")) (has_user p name) (has_group p name) h)
  where
    go : (bytes_eq name (codes "*") ≡ true) ⊎ ((has_user p name ≡ true) ⊎ (has_group p name ≡ true))
        → (name ≡ codes "*") ⊎ ((has_user p name ≡ true) ⊎ (has_group p name ≡ true))
    go (inl everyone) = inl (same_name name (codes "*") everyone)
    go (inr other) = inr other

holder_whole : (a b c : Bool) → (a ≡ true) ⊎ ((b ≡ true) ⊎ (c ≡ true)) → (a || b || c) ≡ true
holder_whole true b c h = refl
holder_whole false true c h = refl
holder_whole false false true h = refl
holder_whole false false false (inl h) = h
holder_whole false false false (inr (inl h)) = h
holder_whole false false false (inr (inr h)) = h

holder_back : (p : Policy) (name : List ℕ) → (name ≡ codes "*") ⊎ ((has_user p name ≡ true) ⊎ (has_group p name ≡ true)) → has_holder p name ≡ true
holder_back p name (inl everyone) = holder_whole _ _ _ (inl (ap (λ n. bytes_eq n (codes "*")) everyone ∙ name_itself (codes "*")))
holder_back p name (inr other) = holder_whole (bytes_eq name (codes "*")) (has_user p name) (has_group p name) (inr other)

pub stored : StoredIsWhatIsThere
stored p name = record {
  user = (user_there p name, user_back p name);
  found = user_found p name;
  group = (group_there p name, λ in_it. any (bytes_eq name) p.groups name in_it (name_itself name));
  holder = (holder_is p name, holder_back p name);
}

-- connects

both_names : (c : Connect) (user group : List ℕ) → c.user ≡ user → c.group ≡ group → c ≡ record { user = user; group = group }
both_names c user group one other = ap (λ u. record { user = u; group = c.group }) one ∙ ap (λ g. record { user = user; group = g }) other

pub connects_connect : ConnectsConnect
connects_connect p user group = record {
  connected = (
    λ h.
        let one = there (λ (c : Connect). bytes_eq c.user user && bytes_eq c.group group) p.connects h in
        let both = both_true (bytes_eq one.0.user user) (bytes_eq one.0.group group) one.2 in
        subst (Contains p.connects) (both_names one.0 user group (same_name one.0.user user both.0) (same_name one.0.group group both.1)) one.1,
    λ in_it. any (λ (c : Connect). bytes_eq c.user user && bytes_eq c.group group) p.connects (record { user = user; group = group }) in_it
        (ap (λ b. b && bytes_eq group group) (name_itself user) ∙ name_itself group),
  );
  listed = (
    λ h.
        let one = made_of (λ (c : Connect). c.group) (filter (λ (c : Connect). bytes_eq c.user user) p.connects) group h in
        let of = of_filter (λ (c : Connect). bytes_eq c.user user) p.connects one.0 one.2 in
        subst (Contains p.connects) (both_names one.0 user group (same_name one.0.user user of.1) (sym one.1)) of.0,
    λ in_it. makes (λ (c : Connect). c.group) (filter (λ (c : Connect). bytes_eq c.user user) p.connects) (record {
      user = user;
      group = group;
    }) (to_filter (λ (c : Connect). bytes_eq c.user user) p.connects (record { user = user; group = group }) in_it (name_itself user)),
  );
}

-- who is named

either : (a b : Bool) → (a || b) ≡ true → (a ≡ true) ⊎ (b ≡ true)
either true b h = inl refl
either false b h = inr h

abbrev names : List ℕ → Profile → Bool
names id q = bytes_eq q.owner id || has_entry id q

profile_names : (id : List ℕ) (q : Profile) → names id q ≡ true → (q.owner ≡ id) ⊎ ((e : Entry) × Contains q.entries e × (e.id ≡ id))
profile_names id q h = go (either (bytes_eq q.owner id) (has_entry id q) h)
  where
    go : (bytes_eq q.owner id ≡ true) ⊎ (has_entry id q ≡ true) → (q.owner ≡ id) ⊎ ((e : Entry) × Contains q.entries e × (e.id ≡ id))
    go (inl owner) = inl (same_name q.owner id owner)
    go (inr entry) = let one = there (λ (e : Entry). bytes_eq e.id id) q.entries entry in inr (one.0, one.1, same_name one.0.id id one.2)

names_back : (id : List ℕ) (q : Profile) → (q.owner ≡ id) ⊎ ((e : Entry) × Contains q.entries e × (e.id ≡ id)) → names id q ≡ true
names_back id q (inl owner) = or_left (bytes_eq q.owner id) (has_entry id q) (ap (λ n. bytes_eq n id) owner ∙ name_itself id)
names_back id q (inr (e, in_it, is)) = or_right (bytes_eq q.owner id) (has_entry id q)
    (any (λ (f : Entry). bytes_eq f.id id) q.entries e in_it (ap (λ n. bytes_eq n id) is ∙ name_itself id))

is_named_in : (p : Policy) (id : List ℕ) → is_named p id ≡ true → IsNamedIn p id
is_named_in p id h = go (either (list_any (λ (c : Connect). bytes_eq c.user id) p.connects) (list_any (names id) p.profiles) h)
  where
    go : (list_any (λ (c : Connect). bytes_eq c.user id) p.connects ≡ true) ⊎ (list_any (names id) p.profiles ≡ true) → IsNamedIn p id
    go (inl connect) = let one = there (λ (c : Connect). bytes_eq c.user id) p.connects connect in inl (one.0, one.1, same_name one.0.user id one.2)
    go (inr profile) = let one = there (names id) p.profiles profile in inr (one.0, one.1, profile_names id one.0 one.2)

named_back : (p : Policy) (id : List ℕ) → IsNamedIn p id → is_named p id ≡ true
named_back p id (inl (c, in_it, is)) =
    or_left (list_any (λ (d : Connect). bytes_eq d.user id) p.connects) (list_any (names id) p.profiles)
    (any (λ (d : Connect). bytes_eq d.user id) p.connects c in_it (ap (λ n. bytes_eq n id) is ∙ name_itself id))
named_back p id (inr (q, in_it, is)) =
    or_right (list_any (λ (d : Connect). bytes_eq d.user id) p.connects) (list_any (names id) p.profiles)
    (any (names id) p.profiles q in_it (names_back id q is))

pub named_is : NamedIsWhoIsNamed
named_is p id = (is_named_in p id, named_back p id)

-- who is logged on

held_by : (user : Name) (o : Option Name) → is_holder user o ≡ true → o ≡ Some user
held_by user None h = absurd (cc)
held_by user (Some holder) h = ap Some (is_same_name holder user h)

pub on_is : OnIsWhoIsOn
on_is user b = (
  λ h. let one = there (λ (c : ConsoleRow). is_holder user c.user) b.consoles h in (one.0, one.1, held_by user one.0.user one.2),
  λ on. any (λ (c : ConsoleRow). is_holder user c.user) b.consoles on.0 on.1 (ap (is_holder user) on.2 ∙ is_itself user),
)

-- sessions

kind_is : (unit : UnitRow) (kind : UnitKind) → unit.kind ≡ kind → is_session (Some (record unit { kind = kind })) ≡ true → unit.kind ≡ Tsu
kind_is unit Job at h = absurd (cc)
kind_is unit (Stc member) at h = absurd (cc)
kind_is unit Tsu at h = at

pub sessions : SessionsAreOfTheirUsers
sessions user b = (
  there_is (unit_at b user) refl,
  λ one. ap is_session one.1 ∙ ap (λ k. is_session (Some (record one.0 { kind = k }))) one.2,
)
  where
    there_is : (o : Option UnitRow) → unit_at b user ≡ o → is_session (unit_at b user) ≡ true
        → (unit : UnitRow) × (unit_at b user ≡ Some unit) × (unit.kind ≡ Tsu)
    there_is None at h = absurd (cc)
    there_is (Some unit) at h = (unit, at, kind_is unit unit.kind refl (ap is_session (sym at) ∙ h))

-- masters

auth_is : (a : Auth) → is_master_auth a ≡ true → a ≡ Master
auth_is Master h = refl
auth_is All h = absurd (cc)
auth_is Info h = absurd (cc)
auth_is Sys h = absurd (cc)
auth_is Io h = absurd (cc)
auth_is Cons h = absurd (cc)
auth_is SysIo h = absurd (cc)
auth_is SysCons h = absurd (cc)
auth_is IoCons h = absurd (cc)
auth_is SysIoCons h = absurd (cc)

pub masters : MastersAreOnline
masters consoles = (
  λ h. let one = there is_master consoles h in
      let parts = and_parts one.0.online (is_master_auth one.0.auth) one.2 in
      (one.0, one.1, parts.0, auth_is one.0.auth parts.1),
  λ one. any is_master consoles one.0 one.1 (ap (λ x. x && is_master_auth one.0.auth) one.2 ∙ ap is_master_auth one.3),
)
