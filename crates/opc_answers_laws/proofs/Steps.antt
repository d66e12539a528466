-- A row that is taken is stored, in place of one of its key; all else stays.
use Rattle.std.proofs.Common.{◌≡◌, ◌≢◌, ℕ, Bool, true, false, cond, ◌&&◌, List, [], Option, Some, None, refl, sym, ap, ◌∙◌}
use Rattle.std.specs.Option.{option_eq, option_map, option_or}
use Rattle.std.specs.Str.{bytes_eq}
use Rattle.opc_names.specs.declared.auth.Auth.{Auth}
use Rattle.opc_names.specs.declared.class.Class.{Class}
use Rattle.opc_names.specs.declared.level.Level.{Level}
use Rattle.opc_names.specs.Authority.{same_class}
use Rattle.opc_terms.specs.declared.mode.Mode.{Mode}
use Rattle.opc_policy_members.specs.declared.policy.Policy.{Policy}
use Rattle.opc_policy_members.specs.declared.profile.Profile.{Profile}
use Rattle.opc_policy_members.specs.declared.row.Row.{Row}
use Rattle.opc_policy_members.specs.declared.row.Row.TheVariants as rows
use Rattle.opc_policy_members.specs.declared.user.User.{User}
use Rattle.opc_policy_members.specs.Access.{entry_level}
use Rattle.opc_policy_members.specs.Members.{user_of}
use Rattle.opc_policy_members.specs.Profiles.{profile_of}
use Rattle.opc_policy_members.specs.Taken.{has_group, is_active}
use Rattle.opc_board.specs.declared.board.BoardRows.{BoardRows}
use Rattle.opc_board.specs.declared.rows.ConsoleRow.{ConsoleRow}
use Rattle.opc_board.specs.Consoles.{console_defined}
use Rattle.opc_board.specs.Invariants.{Name, console_at}
use Rattle.opc_state.specs.Loads.{is_connected}
use Rattle.opc_machine_laws.specs.RowLaws.{ConsoleIsDefined, HasTaken, IsKept, IsOther, IsPermitted, ProfileBecomes}
use Rattle.opc_machine_laws.specs.TakingLaws.{with_console_of}
use Rattle.opc_machine_laws.proofs.Keys.{both_true, class_itself, name_itself, place_itself, same_classes, same_name, same_place}
use Rattle.opc_machine_laws.proofs.RowObstacles.{consoles_defined}
use Rattle.opc_answers_laws.specs.Stored.{definition, level_of, stored_for}
use Rattle.opc_answers_laws.proofs.LastRows.{as_key}

unlike : (a b : List ℕ) → bytes_eq a b ≡ false → b ≢ a
unlike a b apart e = let alike : bytes_eq a b ≡ true = ap (bytes_eq a) e ∙ name_itself a in absurd (cc)

unlike_class : (c d : Class) → same_class c d ≡ false → d ≢ c
unlike_class c d apart e = let alike : same_class c d ≡ true = ap (same_class c) e ∙ class_itself c in absurd (cc)

-- what is found at a key, after the row of one was kept
kept_at : {K R : Type 0} (b : Bool) (old new : K → R) (key other : K) (row : R) → (b ≡ true → other ≡ key)
    → (b ≡ false → other ≢ key) → IsKept old new key row → new other ≡ cond b row (old other)
kept_at true old new key other row alike apart kept = ap new (alike refl) ∙ kept.here
kept_at false old new key other row alike apart kept = kept.others other (apart refl)

-- classes

class_so : (b : Bool) (class d : Class) (on n o : Bool) → (b ≡ true → d ≡ class) → n ≡ cond b on o
    → ◌≡◌ {A = Option Row} (Some (rows.Class d n)) (option_or (cond b (Some (rows.Class class on)) None) (Some (rows.Class d o)))
class_so true class d on n o alike h = ap (λ x. Some (rows.Class d x)) h ∙ ap (λ c. Some (rows.Class c on)) (alike refl)
class_so false class d on n o alike h = ap (λ x. Some (rows.Class d x)) h

-- groups

abbrev group_if : List ℕ → Bool → Option Row
group_if name b = cond b (Some (rows.Group name)) None

group_so : (b : Bool) (name other : List ℕ) (n o : Bool) → (b ≡ true → other ≡ name) → n ≡ cond b true o
    → group_if other n ≡ option_or (group_if name b) (group_if other o)
group_so true name other n o alike h = ap (group_if other) h ∙ ap (λ m. group_if m true) (alike refl)
group_so false name other n o alike h = ap (group_if other) h

-- users

abbrev as_user : Option User → Option Row
as_user o = option_map (λ (u : User). rows.User u) o

user_so : (b : Bool) (user : User) (n o : Option User) → n ≡ cond b (Some user) o → as_user n ≡ option_or (cond b (Some (rows.User user)) None) (as_user o)
user_so true user n o h = ap as_user h
user_so false user n o h = ap as_user h

-- connects

abbrev connect_if : List ℕ → List ℕ → Bool → Option Row
connect_if user group b = cond b (Some (rows.Connect user group)) None

connect_so : (b : Bool) (user group u g : List ℕ) (n o : Bool)
    → (b ≡ true → ◌≡◌ {A = List ℕ × List ℕ} (u, g) (user, group)) → n ≡ cond b true o
    → connect_if u g n ≡ option_or (connect_if user group b) (connect_if u g o)
connect_so true user group u g n o alike h = ap (connect_if u g) h ∙ ap (λ (c : List ℕ × List ℕ). connect_if c.0 c.1 true) (alike refl)
connect_so false user group u g n o alike h = ap (connect_if u g) h

pair_like : (user group u g : List ℕ) → (bytes_eq user u && bytes_eq group g) ≡ true → ◌≡◌ {A = List ℕ × List ℕ} (u, g) (user, group)
pair_like user group u g same =
    let both = both_true (bytes_eq user u) (bytes_eq group g) same in
    let one : u ≡ user = sym (same_name user u both.0) in
    let two : g ≡ group = sym (same_name group g both.1) in
    ap (λ (n : List ℕ). (n, g)) one ∙ ap (λ (n : List ℕ). (user, n)) two

pair_unlike : (user group u g : List ℕ) → (bytes_eq user u && bytes_eq group g) ≡ false → ◌≢◌ {A = List ℕ × List ℕ} (u, g) (user, group)
pair_unlike user group u g apart e =
    let alike : (bytes_eq user u && bytes_eq group g) ≡ true =
    ap (λ (c : List ℕ × List ℕ). bytes_eq user c.0 && bytes_eq group c.1) e
    ∙ (ap (λ b. b && bytes_eq group group) (name_itself user) ∙ name_itself group) in
    absurd (cc)

-- consoles

abbrev as_console : Name → Option ConsoleRow → Option Row
as_console name o = option_map (λ (c : ConsoleRow). rows.Console name c.auth c.mode) o

module _ (name : Name) (auth : Auth) (mode : Mode) (b : BoardRows) where
  defined_here : as_console name (console_at (console_defined name auth mode b) name) ≡ Some (rows.Console name auth mode)
  defined_here = go (console_at b name) refl
    where
      is : ConsoleIsDefined name auth mode b (console_defined name auth mode b)
      is = consoles_defined name auth mode b

      go : (o : Option ConsoleRow) → console_at b name ≡ o
          → as_console name (console_at (console_defined name auth mode b) name) ≡ Some (rows.Console name auth mode)
      go None at = ap (as_console name) (is.fresh at)
      go (Some c) at = ap (as_console name) (is.kept c at)

  console_so : (t : Bool) (other : Name) → (t ≡ true → other ≡ name) → (t ≡ false → other ≢ name)
      → as_console other (console_at (console_defined name auth mode b) other)
      ≡ option_or (cond t (Some (rows.Console name auth mode)) None) (as_console other (console_at b other))
  console_so true other alike apart = ap (λ n. as_console n (console_at (console_defined name auth mode b) n)) (alike refl) ∙ defined_here
  console_so false other alike apart = ap (as_console other) ((consoles_defined name auth mode b).others other (apart refl))

-- profiles and entries

abbrev is_same : Class → List ℕ → Class → List ℕ → Bool
is_same class pattern c n = same_class class c && bytes_eq pattern n

like : (class c : Class) (pattern n : List ℕ) → is_same class pattern c n ≡ true → (c ≡ class) × (n ≡ pattern)
like class c pattern n same =
    let both = both_true (same_class class c) (bytes_eq pattern n) same in
    (sym (same_classes class c both.0), sym (same_name pattern n both.1))

other_if : (class c : Class) (pattern n : List ℕ) → is_same class pattern c n ≡ false → IsOther c n class pattern
other_if class c pattern n apart one two =
    let alike : is_same class pattern c n ≡ true =
    ap (λ (d : Class). is_same class pattern d n) one
    ∙ (ap (λ (m : List ℕ). is_same class pattern class m) two
    ∙ (ap (λ b. b && bytes_eq pattern pattern) (class_itself class) ∙ name_itself pattern)) in
    absurd (cc)

abbrev defined_at : Policy → Class → List ℕ → Option Row
defined_at p class pattern = option_map definition (profile_of p.profiles class pattern)

module _ (profile : Profile) (old new : Policy) (becomes : ProfileBecomes profile old new) where
  defined_so : defined_at new profile.class profile.pattern ≡ Some (definition profile)
  defined_so = go (profile_of old.profiles profile.class profile.pattern) refl
    where
      go : (o : Option Profile) → profile_of old.profiles profile.class profile.pattern ≡ o
          → defined_at new profile.class profile.pattern ≡ Some (definition profile)
      go None at = ap (option_map definition) (becomes.fresh at)
      go (Some was) at = ap (option_map definition) (becomes.kept was at)

  profile_so : (b : Bool) (c : Class) (n : List ℕ) → is_same profile.class profile.pattern c n ≡ b
      → defined_at new c n ≡ option_or (cond b (Some (definition profile)) None) (defined_at old c n)
  profile_so true c n at =
      let same = like profile.class c profile.pattern n at in
      ap (λ (d : Class). defined_at new d n) same.0 ∙ (ap (λ (m : List ℕ). defined_at new profile.class m) same.1 ∙ defined_so)
  profile_so false c n at = ap (option_map definition) (becomes.others c n (other_if profile.class c profile.pattern n at))

  levels_here : (id : List ℕ) (when : Option (List ℕ))
      → level_of new profile.class profile.pattern id when ≡ level_of old profile.class profile.pattern id when
  levels_here id when = go (profile_of old.profiles profile.class profile.pattern) refl
    where
      go : (o : Option Profile) → profile_of old.profiles profile.class profile.pattern ≡ o
          → level_of new profile.class profile.pattern id when ≡ level_of old profile.class profile.pattern id when
      go None at = rw (becomes.fresh at, at) refl
      go (Some was) at = rw (becomes.kept was at, at) refl

  levels_stay : (b : Bool) (c : Class) (n id : List ℕ) (when : Option (List ℕ)) → is_same profile.class profile.pattern c n ≡ b
      → level_of new c n id when ≡ level_of old c n id when
  levels_stay true c n id when at =
      let same = like profile.class c profile.pattern n at in
      rw (same.0, same.1) (levels_here id when)
  levels_stay false c n id when at = rw (becomes.others c n (other_if profile.class c profile.pattern n at)) refl

-- the entry of an id and a console
abbrev is_entry : List ℕ → Option (List ℕ) → List ℕ → Option (List ℕ) → Bool
is_entry id when i w = bytes_eq id i && option_eq bytes_eq when w

entry_like : (id i : List ℕ) (when w : Option (List ℕ)) → is_entry id when i w ≡ true → (i ≡ id) × (w ≡ when)
entry_like id i when w same =
    let both = both_true (bytes_eq id i) (option_eq bytes_eq when w) same in
    (sym (same_name id i both.0), sym (same_place when w both.1))

entry_unlike : (id i : List ℕ) (when w : Option (List ℕ)) → is_entry id when i w ≡ false → IsOther i w id when
entry_unlike id i when w apart one two =
    let alike : is_entry id when i w ≡ true =
    ap (λ (j : List ℕ). is_entry id when j w) one
    ∙ (ap (λ (v : Option (List ℕ)). is_entry id when id v) two
    ∙ (ap (λ b. b && option_eq bytes_eq when when) (name_itself id) ∙ place_itself when)) in
    absurd (cc)

module _ (class : Class) (pattern id : List ℕ) (when : Option (List ℕ)) (level : Level) (old new : Policy)
    (is : IsPermitted class pattern id when (Some level) old new) where
  definitions_stay : (b : Bool) (c : Class) (n : List ℕ) → is_same class pattern c n ≡ b → defined_at new c n ≡ defined_at old c n
  definitions_stay true c n at =
      let same = like class c pattern n at in
      rw (same.0, same.1, is.here, is.there) refl
  definitions_stay false c n at = ap (option_map definition) (is.others c n (other_if class c pattern n at))

  listed_here : (b : Bool) (i : List ℕ) (w : Option (List ℕ)) → is_entry id when i w ≡ b
      → entry_level is.entries w i ≡ cond b (Some level) (entry_level is.profile.entries w i)
  listed_here true i w at =
      let same = entry_like id i when w at in
      rw (same.0, same.1) is.given
  listed_here false i w at = is.listed i w (entry_unlike id i when w at)

  level_so : (b t : Bool) (c : Class) (n i : List ℕ) (w : Option (List ℕ)) → is_same class pattern c n ≡ b → is_entry id when i w ≡ t
      → level_of new c n i w ≡ cond (b && t) (Some level) (level_of old c n i w)
  level_so true t c n i w at entry =
      let same = like class c pattern n at in
      rw (same.0, same.1, is.here, is.there) (listed_here t i w entry)
  level_so false t c n i w at entry = rw (is.others c n (other_if class c pattern n at)) refl

abbrev permit_if : Class → (pattern id : List ℕ) → (when : Option (List ℕ)) → Option Level → Option Row
permit_if class pattern id when o = option_map (λ (l : Level). rows.Permit class pattern id l when) o

permit_so : (b t : Bool) (class c : Class) (pattern n id i : List ℕ) (when w : Option (List ℕ)) (level : Level) (new old : Option Level)
    → is_same class pattern c n ≡ b → is_entry id when i w ≡ t → new ≡ cond (b && t) (Some level) old
    → permit_if c n i w new ≡ option_or (cond (b && t) (Some (rows.Permit class pattern id level when)) None) (permit_if c n i w old)
permit_so true true class c pattern n id i when w level new old at entry h =
    let same = like class c pattern n at in
    let of = entry_like id i when w entry in
    rw (h, same.0, same.1, of.0, of.1) refl
permit_so true false class c pattern n id i when w level new old at entry h = ap (permit_if c n i w) h
permit_so false t class c pattern n id i when w level new old at entry h = ap (permit_if c n i w) h

-- the four parts of the key of an entry
four : (a b c d : Bool) → (a && (b && (c && d))) ≡ ((a && b) && (c && d))
four true b c d = refl
four false b c d = refl

abbrev connected : Policy → List ℕ × List ℕ → Bool
connected p c = is_connected p c.0 c.1

abbrev bare : Class → (pattern : List ℕ) → Level → (owner : List ℕ) → Bool → Profile
bare class pattern uacc owner warning =
    record { class = class; pattern = pattern; owner = owner; uacc = uacc; warning = warning; entries = [] }

-- a row that is taken, and what is stored for any
pub stored_after : (row q : Row) (old new : Policy) (b : BoardRows) → HasTaken row old new
    → stored_for new (with_console_of row b) q ≡ option_or (as_key q row) (stored_for old b q)
stored_after (rows.Class class on) (rows.Class d x) old new b h =
    class_so (same_class class d) class d on _ _ (λ e. sym (same_classes class d e))
    (kept_at (same_class class d) (is_active old.active) (is_active new.active) class d on (λ e. sym (same_classes class d e)) (unlike_class class d) h.0)
stored_after (rows.Class class on) (rows.Group n) old new b h = ap (λ (p : Policy). stored_for p b (rows.Group n)) h.1
stored_after (rows.Class class on) (rows.User u) old new b h = ap (λ (p : Policy). stored_for p b (rows.User u)) h.1
stored_after (rows.Class class on) (rows.Connect u g) old new b h =
    ap (λ (p : Policy). stored_for p b (rows.Connect u g)) h.1
stored_after (rows.Class class on) (rows.Console n y z) old new b h = refl
stored_after (rows.Class class on) (rows.Profile c n x y z) old new b h =
    ap (λ (p : Policy). stored_for p b (rows.Profile c n x y z)) h.1
stored_after (rows.Class class on) (rows.Permit c n i x w) old new b h =
    ap (λ (p : Policy). stored_for p b (rows.Permit c n i x w)) h.1
stored_after (rows.Group name) (rows.Class d x) old new b h = ap (λ (p : Policy). stored_for p b (rows.Class d x)) h.1
stored_after (rows.Group name) (rows.Group n) old new b h =
    group_so (bytes_eq name n) name n _ _ (λ e. sym (same_name name n e))
    (kept_at (bytes_eq name n) (has_group old) (has_group new) name n true (λ e. sym (same_name name n e)) (unlike name n) h.0)
stored_after (rows.Group name) (rows.User u) old new b h = ap (λ (p : Policy). stored_for p b (rows.User u)) h.1
stored_after (rows.Group name) (rows.Connect u g) old new b h =
    ap (λ (p : Policy). stored_for p b (rows.Connect u g)) h.1
stored_after (rows.Group name) (rows.Console n y z) old new b h = refl
stored_after (rows.Group name) (rows.Profile c n x y z) old new b h =
    ap (λ (p : Policy). stored_for p b (rows.Profile c n x y z)) h.1
stored_after (rows.Group name) (rows.Permit c n i x w) old new b h =
    ap (λ (p : Policy). stored_for p b (rows.Permit c n i x w)) h.1
stored_after (rows.User user) (rows.Class d x) old new b h = ap (λ (p : Policy). stored_for p b (rows.Class d x)) h.1
stored_after (rows.User user) (rows.Group n) old new b h = ap (λ (p : Policy). stored_for p b (rows.Group n)) h.1
stored_after (rows.User user) (rows.User u) old new b h =
    user_so (bytes_eq user.id u.id) user _ _
    (kept_at (bytes_eq user.id u.id) (user_of old.users) (user_of new.users) user.id u.id (Some user)
    (λ e. sym (same_name user.id u.id e)) (unlike user.id u.id) h.0)
stored_after (rows.User user) (rows.Connect u g) old new b h =
    ap (λ (p : Policy). stored_for p b (rows.Connect u g)) h.1
stored_after (rows.User user) (rows.Console n y z) old new b h = refl
stored_after (rows.User user) (rows.Profile c n x y z) old new b h =
    ap (λ (p : Policy). stored_for p b (rows.Profile c n x y z)) h.1
stored_after (rows.User user) (rows.Permit c n i x w) old new b h =
    ap (λ (p : Policy). stored_for p b (rows.Permit c n i x w)) h.1
stored_after (rows.Connect user group) (rows.Class d x) old new b h =
    ap (λ (p : Policy). stored_for p b (rows.Class d x)) h.1
stored_after (rows.Connect user group) (rows.Group n) old new b h =
    ap (λ (p : Policy). stored_for p b (rows.Group n)) h.1
stored_after (rows.Connect user group) (rows.User u) old new b h =
    ap (λ (p : Policy). stored_for p b (rows.User u)) h.1
stored_after (rows.Connect user group) (rows.Connect u g) old new b h =
    connect_so (bytes_eq user u && bytes_eq group g) user group u g _ _ (pair_like user group u g)
    (kept_at (bytes_eq user u && bytes_eq group g) (connected old) (connected new)
    (user, group) (u, g) true (pair_like user group u g) (pair_unlike user group u g) h.0)
stored_after (rows.Connect user group) (rows.Console n y z) old new b h = refl
stored_after (rows.Connect user group) (rows.Profile c n x y z) old new b h =
    ap (λ (p : Policy). stored_for p b (rows.Profile c n x y z)) h.1
stored_after (rows.Connect user group) (rows.Permit c n i x w) old new b h =
    ap (λ (p : Policy). stored_for p b (rows.Permit c n i x w)) h.1
stored_after (rows.Console name auth mode) (rows.Class d x) old new b h =
    ap (λ (p : Policy). stored_for p b (rows.Class d x)) h
stored_after (rows.Console name auth mode) (rows.Group n) old new b h =
    ap (λ (p : Policy). stored_for p b (rows.Group n)) h
stored_after (rows.Console name auth mode) (rows.User u) old new b h =
    ap (λ (p : Policy). stored_for p b (rows.User u)) h
stored_after (rows.Console name auth mode) (rows.Connect u g) old new b h =
    ap (λ (p : Policy). stored_for p b (rows.Connect u g)) h
stored_after (rows.Console name auth mode) (rows.Console n y z) old new b h =
    console_so name auth mode b (bytes_eq name n) n (λ e. sym (same_name name n e)) (unlike name n)
stored_after (rows.Console name auth mode) (rows.Profile c n x y z) old new b h =
    ap (λ (p : Policy). stored_for p b (rows.Profile c n x y z)) h
stored_after (rows.Console name auth mode) (rows.Permit c n i x w) old new b h =
    ap (λ (p : Policy). stored_for p b (rows.Permit c n i x w)) h
stored_after (rows.Profile class pattern uacc owner warning) (rows.Class d x) old new b h =
    ap (λ (p : Policy). stored_for p b (rows.Class d x)) h.1
stored_after (rows.Profile class pattern uacc owner warning) (rows.Group n) old new b h =
    ap (λ (p : Policy). stored_for p b (rows.Group n)) h.1
stored_after (rows.Profile class pattern uacc owner warning) (rows.User u) old new b h =
    ap (λ (p : Policy). stored_for p b (rows.User u)) h.1
stored_after (rows.Profile class pattern uacc owner warning) (rows.Connect u g) old new b h =
    ap (λ (p : Policy). stored_for p b (rows.Connect u g)) h.1
stored_after (rows.Profile class pattern uacc owner warning) (rows.Console n y z) old new b h = refl
stored_after (rows.Profile class pattern uacc owner warning) (rows.Profile c n x y z) old new b h =
    profile_so (bare class pattern uacc owner warning) old new h.0 (is_same class pattern c n) c n refl
stored_after (rows.Profile class pattern uacc owner warning) (rows.Permit c n i x w) old new b h =
    ap (permit_if c n i w) (levels_stay (bare class pattern uacc owner warning) old new h.0 (is_same class pattern c n) c n i w refl)
stored_after (rows.Permit class pattern id level when) (rows.Class d x) old new b h =
    ap (λ (p : Policy). stored_for p b (rows.Class d x)) h.1
stored_after (rows.Permit class pattern id level when) (rows.Group n) old new b h =
    ap (λ (p : Policy). stored_for p b (rows.Group n)) h.1
stored_after (rows.Permit class pattern id level when) (rows.User u) old new b h =
    ap (λ (p : Policy). stored_for p b (rows.User u)) h.1
stored_after (rows.Permit class pattern id level when) (rows.Connect u g) old new b h =
    ap (λ (p : Policy). stored_for p b (rows.Connect u g)) h.1
stored_after (rows.Permit class pattern id level when) (rows.Console n y z) old new b h = refl
stored_after (rows.Permit class pattern id level when) (rows.Profile c n x y z) old new b h =
    definitions_stay class pattern id when level old new h.0 (is_same class pattern c n) c n refl
stored_after (rows.Permit class pattern id level when) (rows.Permit c n i x w) old new b h =
    permit_so (is_same class pattern c n) (is_entry id when i w) class c pattern n id i when w level _ _ refl refl
    (level_so class pattern id when level old new h.0 (is_same class pattern c n) (is_entry id when i w) c n i w refl refl)
    ∙ ap (λ t. option_or (cond t (Some (rows.Permit class pattern id level when)) None) (permit_if c n i w (level_of old c n i w)))
    (sym (four (same_class class c) (bytes_eq pattern n) (bytes_eq id i) (option_eq bytes_eq when w)))
