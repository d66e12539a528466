-- Edits that leave the names of the profiles, and the order of all keys.
use Rattle.std.proofs.Common.{◌≡◌, ℕ, Bool, true, false, not, cond, ◌||◌, List, [], ◌∷◌, Option, Some, None, map, refl, sym, ap, ◌∙◌, rules}
use Rattle.std.specs.BTreeSet.{replace_key}
use Rattle.std.specs.List.{find, list_any}
use Rattle.std.specs.Option.{is_none, option_map_or}
use Rattle.std.specs.Ordering.{is_lt}
use Rattle.std.specs.Str.{bytes_eq}
use Rattle.opc_names.specs.Authority.{same_class}
use Rattle.opc_names.specs.declared.class.Class.{Class}
use Rattle.opc_policy_members.specs.declared.entry.Entry.{Entry}
use Rattle.opc_policy_members.specs.declared.policy.Policy.{Policy}
use Rattle.opc_policy_members.specs.declared.profile.Profile.{Profile}
use Rattle.opc_policy_members.specs.declared.user.User.{User}
use Rattle.opc_policy_members.specs.Access.{entry_cmp, is_for, with_entry}
use Rattle.opc_policy_members.specs.Members.{user_cmp}
use Rattle.opc_policy_members.specs.Profiles.{is_of, profile_cmp, profile_of}
use Rattle.opc_policy_members.proofs.Classes.{same_class_is}
use Rattle.opc_policy_members.proofs.Placed.{order}
use Rattle.opc_rows.specs.Ordered.{Ascends}
use Rattle.opc_rows.proofs.Orders.{all_found, ascends_filter}
use Rattle.opc_state.specs.declared.account.AccountRow.{AccountRow}
use Rattle.opc_state.specs.declared.change.Edit.{Edit}
use Rattle.opc_state.specs.declared.change.Edit.TheVariants as edit
use Rattle.opc_state.specs.Changes.{all_edited, edited, with_account, with_profiles}
use Rattle.opc_state.specs.Invariants.{IsKeyed}
use Rattle.opc_state.specs.Members.{unit_cmp, device_cmp, console_cmp, reply_cmp, without_entry}
use Rattle.opc_state.specs.State.{State}
use Rattle.opc_state.proofs.SameRows.{console_total, device_total, first, names, reply_total, rest, unit_total}
use Rattle.opc_board.specs.declared.rows.ConsoleRow.{ConsoleRow}
use Rattle.opc_board.specs.declared.rows.DeviceRow.{DeviceRow}
use Rattle.opc_board.specs.declared.rows.ReplyRow.{ReplyRow}
use Rattle.opc_board.specs.declared.rows.UnitRow.{UnitRow}
use Rattle.opc_board.specs.Invariants.{console_before, device_before, reply_before, unit_before}
use Rattle.opc_state_cache.specs.Cache.{invalidates, adds_or_removes_profile}
use Rattle.opc_state_cache.specs.Redefining.{redefines}
use Rattle.opc_state_cache.proofs.Keyed.{profile_total, put_all, put_ascends, user_total}
use Rattle.opc_state_cache.proofs.Named.{name_of, put_named}

-- the order of all keys is kept, and so are the classes and patterns of the profiles
pub record Stays (s new : State) : Type 0 where
  pub keyed : IsKeyed new
  pub named : map name_of new.policy.profiles ≡ map name_of s.policy.profiles

found_passes : (test : Profile → Bool) (k : Profile) (xs : List Profile) → find test xs ≡ Some k → test k ≡ true
found_passes test k [] found = absurd (search (rules, found))
found_passes test k (x ∷ xs) found = go (test x) refl found (found_passes test k xs)
  where
    some_is : (x y : Profile) → Some x ≡ Some y → x ≡ y
    some_is x y h = search (rules, h)

    go : (b : Bool) → test x ≡ b → cond b (Some x) (find test xs) ≡ Some k → (find test xs ≡ Some k → test k ≡ true) → test k ≡ true
    go true e f later = ap test (sym (some_is x k f)) ∙ e
    go false e f later = later f

module _ (s : State) (k : IsKeyed s) where
  abbrev IsListed : Profile → Type 0
  IsListed q = Ascends (λ (e f : Entry). is_lt (entry_cmp e f)) q.entries

  -- one profile is put where one of its name is
  put_stays : (new old : Profile) (test : Profile → Bool) → find test s.policy.profiles ≡ Some old
      → name_of new ≡ name_of old → IsListed new
      → Stays s (with_profiles (replace_key profile_cmp s.policy.profiles new) s)
  put_stays new old test found same listed = record {
    keyed = record {
      board = k.board;
      users = k.users;
      profiles = put_ascends profile_cmp profile_total new s.policy.profiles k.profiles;
      entries = put_all profile_cmp profile_total IsListed new s.policy.profiles listed k.entries;
    };
    named = put_named new old test s.policy.profiles same k.profiles found;
  }

  profiles_stay : Stays s (with_profiles s.policy.profiles s)
  profiles_stay = record { keyed = record { board = k.board; users = k.users; profiles = k.profiles; entries = k.entries }; named = refl }

  listed_at : (test : Profile → Bool) (q : Profile) → find test s.policy.profiles ≡ Some q → IsListed q
  listed_at test q found = all_found IsListed test q s.policy.profiles found k.entries

  definition_stays : (d : Profile) → is_none (profile_of s.policy.profiles d.class d.pattern) ≡ false → Stays s (edited (edit.PutProfile d) s)
  definition_stays d there = go (profile_of s.policy.profiles d.class d.pattern) refl there
    where
      go : (o : Option Profile) → profile_of s.policy.profiles d.class d.pattern ≡ o → is_none o ≡ false
          → Stays s (with_profiles (replace_key profile_cmp s.policy.profiles
          (record d { entries = option_map_or (λ (p : Profile). p.entries) o d.entries })) s)
      go None found h = absurd (search (rules, h))
      go (Some q) found h =
          let passes : is_of d.class d.pattern q ≡ true = found_passes (is_of d.class d.pattern) q s.policy.profiles found in
          let of_class : q.class ≡ d.class = same_class_is q.class d.class (first (same_class q.class d.class) (bytes_eq q.pattern d.pattern) passes) in
          let of_pattern : q.pattern ≡ d.pattern = names q.pattern d.pattern (rest (same_class q.class d.class) (bytes_eq q.pattern d.pattern) passes) in
          put_stays (record d { entries = q.entries }) q (is_of d.class d.pattern) found
          (λ i. (sym of_class i, sym of_pattern i)) (listed_at (is_of d.class d.pattern) q found)

  permission_stays : (class : Class) (pattern : List ℕ) (e : Entry) → Stays s (edited (edit.PutEntry class pattern e) s)
  permission_stays class pattern e = go (profile_of s.policy.profiles class pattern) refl
    where
      go : (o : Option Profile) → profile_of s.policy.profiles class pattern ≡ o
          → Stays s (with_profiles (option_map_or
          (λ (p : Profile). replace_key profile_cmp s.policy.profiles
          (record p { entries = with_entry e p.entries })) o s.policy.profiles) s)
      go None found = profiles_stay
      go (Some q) found =
          put_stays (record q { entries = with_entry e q.entries }) q (is_of class pattern) found refl
          (put_ascends entry_cmp order e q.entries (listed_at (is_of class pattern) q found))

  removal_stays : (class : Class) (pattern id : List ℕ) (when : Option (List ℕ)) → Stays s (edited (edit.RemoveEntry class pattern id when) s)
  removal_stays class pattern id when = go (profile_of s.policy.profiles class pattern) refl
    where
      go : (o : Option Profile) → profile_of s.policy.profiles class pattern ≡ o
          → Stays s (with_profiles (option_map_or
          (λ (p : Profile). replace_key profile_cmp s.policy.profiles
          (record p { entries = without_entry id when p.entries })) o s.policy.profiles) s)
      go None found = profiles_stay
      go (Some q) found =
          put_stays (record q { entries = without_entry id when q.entries }) q (is_of class pattern) found refl
          (ascends_filter _ (λ (e : Entry). not (is_for when id e)) q.entries (listed_at (is_of class pattern) q found))

  users_stay : (users : List User) → Ascends (λ (u v : User). is_lt (user_cmp u v)) users → Stays s (record s { policy = record s.policy { users = users } })
  users_stay users up = record { keyed = record { board = k.board; users = up; profiles = k.profiles; entries = k.entries }; named = refl }

  abbrev BoardStays : List UnitRow → List DeviceRow → List ConsoleRow → List ReplyRow → Type 0
  BoardStays units devices consoles replies = Stays s (record s {
    board = record s.board {
      units = units;
      devices = devices;
      consoles = consoles;
      replies = replies;
    };
  })

  board_stays : (units : List UnitRow) (devices : List DeviceRow) (consoles : List ConsoleRow) (replies : List ReplyRow)
      → Ascends unit_before units → Ascends device_before devices → Ascends console_before consoles
      → Ascends reply_before replies
      → BoardStays units devices consoles replies
  board_stays units devices consoles replies u d c r = record {
    keyed = record { board = record { units = u; devices = d; consoles = c; replies = r }; users = k.users; profiles = k.profiles; entries = k.entries };
    named = refl;
  }

-- one edit that does not change which profiles there are
pub edit_stays : (e : Edit) (s : State) → IsKeyed s → adds_or_removes_profile s.policy e ≡ false → Stays s (edited e s)
edit_stays (edit.PutProfile d) s k h = definition_stays s k d h
edit_stays (edit.RemoveProfile class pattern) s k h = absurd (search (rules, h))
edit_stays (edit.PutBatch batch) s k h = absurd (search (rules, h))
edit_stays (edit.PutEntry class pattern e) s k h = permission_stays s k class pattern e
edit_stays (edit.RemoveEntry class pattern id when) s k h = removal_stays s k class pattern id when
edit_stays (edit.PutUser user) s k h = users_stay s k _ (put_ascends user_cmp user_total user s.policy.users k.users)
edit_stays (edit.RemoveUser id) s k h = users_stay s k _ (ascends_filter _ (λ (u : User). not (bytes_eq u.id id)) s.policy.users k.users)
edit_stays (edit.PutUnit unit) s k h = board_stays s k _ _ _ _
    (put_ascends unit_cmp unit_total unit s.board.units k.board.units) k.board.devices k.board.consoles k.board.replies
edit_stays (edit.RemoveUnit name) s k h =
    board_stays s k _ _ _ _ (ascends_filter _ (λ (u : UnitRow). not (bytes_eq u.name name)) s.board.units k.board.units)
    k.board.devices k.board.consoles k.board.replies
edit_stays (edit.PutDevice device) s k h =
    board_stays s k _ _ _ _ k.board.units (put_ascends device_cmp device_total device s.board.devices k.board.devices)
    k.board.consoles k.board.replies
edit_stays (edit.RemoveDevice number) s k h =
    board_stays s k _ _ _ _ k.board.units
    (ascends_filter _ (λ (d : DeviceRow). not (bytes_eq d.number number)) s.board.devices k.board.devices)
    k.board.consoles k.board.replies
edit_stays (edit.PutConsole console) s k h =
    board_stays s k _ _ _ _ k.board.units k.board.devices
    (put_ascends console_cmp console_total console s.board.consoles k.board.consoles) k.board.replies
edit_stays (edit.RemoveConsole name) s k h =
    board_stays s k _ _ _ _ k.board.units k.board.devices
    (ascends_filter _ (λ (c : ConsoleRow). not (bytes_eq c.name name)) s.board.consoles k.board.consoles)
    k.board.replies
edit_stays (edit.PutReply reply) s k h =
    board_stays s k _ _ _ _ k.board.units k.board.devices k.board.consoles
    (put_ascends reply_cmp reply_total reply s.board.replies k.board.replies)
edit_stays (edit.RemoveReply id) s k h =
    board_stays s k _ _ _ _ k.board.units k.board.devices k.board.consoles
    (ascends_filter _ _ s.board.replies k.board.replies)
edit_stays other s k h = record {
  keyed = record {
    board = record { units = k.board.units; devices = k.board.devices; consoles = k.board.consoles; replies = k.board.replies };
    users = k.users;
    profiles = k.profiles;
    entries = k.entries;
  };
  named = refl;
}

-- edits of which none is of profiles
alone_too : (p : Policy) (e : Edit) → redefines e ≡ false → adds_or_removes_profile p e ≡ false
alone_too p (edit.PutProfile d) h = absurd (search (rules, h))
alone_too p other h = h

pub left_false : (a b : Bool) → (a || b) ≡ false → a ≡ false
left_false true b h = h
left_false false b h = refl

pub right_false : (a b : Bool) → (a || b) ≡ false → b ≡ false
right_false true b h = absurd (search (rules, h))
right_false false b h = h

pub none_stay : (edits : List Edit) (s : State) → IsKeyed s → list_any redefines edits ≡ false → Stays s (all_edited edits s)
none_stay [] s k h = record { keyed = k; named = refl }
none_stay (e ∷ edits) s k h =
    let one : Stays s (edited e s) = edit_stays e s k (alone_too s.policy e (left_false (redefines e) (list_any redefines edits) h)) in
    let more : Stays (edited e s) (all_edited edits (edited e s)) =
    none_stay edits (edited e s) one.keyed (right_false (redefines e) (list_any redefines edits) h) in
    record { keyed = more.keyed; named = more.named ∙ one.named }

pub edits_stay : (edits : List Edit) (s : State) → IsKeyed s → invalidates s.policy edits ≡ false → Stays s (all_edited edits s)
edits_stay [] s k h = record { keyed = k; named = refl }
edits_stay (e ∷ []) s k h = edit_stays e s k h
edits_stay (e ∷ (f ∷ more)) s k h = none_stay (e ∷ f ∷ more) s k h

-- nor does a row of the account change any of that
pub account_stays : (row : Option AccountRow) (s new : State) → Stays s new → Stays s (with_account row new)
account_stays None s new h = h
account_stays (Some row) s new h = record {
  keyed = record { board = h.keyed.board; users = h.keyed.users; profiles = h.keyed.profiles; entries = h.keyed.entries };
  named = h.named;
}
