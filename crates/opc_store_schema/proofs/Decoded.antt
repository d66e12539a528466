-- Tables represent one state alone: it can be read from their rows.
use Rattle.std.proofs.Common.{
  ◌≡◌,
  ℕ,
  Bool,
  false,
  ◌&&◌,
  cond,
  List,
  [],
  ◌∷◌,
  map,
  filter,
  drop,
  Some,
  refl,
  sym,
  ap,
  ap₂,
  subst,
  ◌∙◌,
  Ordering,
  Less,
  IsPermutation,
}
use Rattle.std.specs.List.{AllByRecursion, flat_map}
use Rattle.std.specs.Cmp.{IsTotalOrder}
use Rattle.std.specs.Ordering.{nat_cmp}
use Rattle.std.specs.Str.{bytes_eq}
use Rattle.std.proofs.lemmas.Cmp.{on_total, nat_cmp_total}
use Rattle.std.proofs.lemmas.List.Sorted.{IsPermutation-map}
use Rattle.sqlite.specs.Order.{Row}
use Rattle.sqlite.specs.Tree.{Trees}
use Rattle.sqlite_keyed.specs.Lists.{sort_by}
use Rattle.sqlite_keyed.proofs.ListLemmas.{IsPermutation-filter, map_back, map-map, map_same, all-map, all-flat_map, all_of, all_both, ascending-map}
use Rattle.opc_store_sql.specs.Order.{Rises}
use Rattle.opc_store_sql.proofs.Sorting.{decoded_as, decoded_is, in_order, places_back}
use Rattle.opc_names.specs.declared.class.Class.{Class}
use Rattle.opc_names.specs.declared.class.Class.TheVariants.{Console, Opercmds}
use Rattle.opc_names.specs.Authority.{same_class}
use Rattle.opc_policy_members.specs.declared.entry.Entry.{Entry}
use Rattle.opc_policy_members.specs.declared.policy.ActiveClasses.{ActiveClasses}
use Rattle.opc_policy_members.specs.declared.profile.Profile.{Profile}
use Rattle.opc_policy_members.specs.Access.{entry_cmp}
use Rattle.opc_policy_members.specs.Members.{name_cmp, user_cmp, connect_cmp}
use Rattle.opc_policy_members.specs.Profiles.{class_cmp, profile_cmp, profile_of}
use Rattle.opc_state.specs.Members.{unit_cmp, device_cmp, console_cmp}
use Rattle.opc_state.specs.State.{State}
use Rattle.opc_store_schema.specs.Content.{bare, profile_said, entry_said, is_entry_of, entries_in, profiles_in}
use Rattle.opc_store_schema.specs.State.{IsOrdered, IsAccessList}
use Rattle.opc_store_schema.specs.Contents.{Holds}
use Rattle.opc_store_schema.specs.Placed.{
  classes_at,
  consoles_at,
  units_at,
  devices_at,
  replies_at,
  answered_at,
  log_at,
  messages_at,
  board_at,
  account_at,
  batches_at,
  grp_at,
  usr_at,
  connects_at,
  profiles_at,
  entries_at,
}
use Rattle.opc_store_schema.specs.Represented.{
  contents_of,
  AreTablesOf,
  class_row,
  halted_row,
  group_row,
  user_row,
  connect_row,
  profile_row,
  entry_row,
  entry_rows,
  console_row,
  unit_row,
  device_row,
  answered_values,
  log_values,
  message_values,
  account_values,
  reply_row,
}
use Rattle.opc_store_schema.proofs.AccessLists.{split, list_hit}
use Rattle.opc_store_schema.proofs.Keys.{
  group_total,
  user_total,
  connect_total,
  profile_total,
  entry_total,
  unit_total,
  device_total,
  console_total,
  class_total,
}
use Rattle.opc_store_schema.proofs.PolicyRead.{is_itself, not_of}
use Rattle.opc_store_schema.proofs.ProfileTexts.{has_profile, picks_entries}
use Rattle.opc_store_schema.proofs.DecodedRows.{
  flag_back,
  class_back,
  group_said,
  user_said,
  user_back,
  connect_said,
  connect_back,
  profile_back,
  entries_back,
  class_row_said,
  class_row_back,
  halted_said,
  unit_said,
  unit_back,
  device_said,
  device_back,
  console_said,
  console_back,
  reply_said,
  answered_said,
  log_said,
  message_said,
  account_said,
  batch_said,
  batches_back,
}

-- ---- profiles with their access lists

pub filter_on : {X : Type 0} (p q : X → Bool) (xs : List X) → AllByRecursion (λ x. p x ≡ q x) xs → filter p xs ≡ filter q xs
filter_on p q [] h = refl
filter_on p q (x ∷ xs) h = rw (h.0, filter_on p q xs h.1)

same_pick : (class : Class) (pattern : List ℕ) (p : Profile) (e : Entry)
    → is_entry_of class pattern (entry_row p.class p.pattern e) ≡ has_profile class pattern
    (entry_row p.class p.pattern e)
same_pick class pattern p e = ap (λ (c : Class). same_class c class && bytes_eq p.pattern pattern) (class_back p.class) ∙ sym (picks_entries class pattern p e)

-- the entries of a profile are those that name its class and pattern
own_entries : (class : Class) (pattern : List ℕ) (ps : List Profile) (p : Profile) → Rises profile_cmp ps → profile_of ps class pattern ≡ Some p
    → filter (is_entry_of class pattern) (flat_map entry_rows ps) ≡ map (entry_row p.class p.pattern) p.entries
own_entries class pattern ps p up here =
    let agree = all-flat_map (λ v. is_entry_of class pattern v ≡ has_profile class pattern v) entry_rows ps
    (all_of (λ (q : Profile). AllByRecursion (λ v. is_entry_of class pattern v ≡ has_profile class pattern v) (entry_rows q))
    (λ q. all-map (λ v. is_entry_of class pattern v ≡ has_profile class pattern v) (entry_row q.class q.pattern) (same_pick class pattern q) q.entries) ps) in
    filter_on (is_entry_of class pattern) (has_profile class pattern) (flat_map entry_rows ps) agree
    ∙ list_hit class pattern ps p (split class pattern ps p up here)

-- each profile is the one of its class and pattern
pub each_found : (ps : List Profile) → Rises profile_cmp ps → AllByRecursion (λ (p : Profile). profile_of ps p.class p.pattern ≡ Some p) ps
each_found [] up = tt
each_found (x ∷ xs) up = (
  ap (λ b. cond b (Some x) (profile_of xs x.class x.pattern)) (is_itself x),
  all_both (λ (p : Profile). profile_cmp x p ≡ Less) (λ (p : Profile). profile_of xs p.class p.pattern ≡ Some p)
      (λ (p : Profile). profile_of (x ∷ xs) p.class p.pattern ≡ Some p)
      (λ p less here. ap (λ b. cond b (Some x) (profile_of xs p.class p.pattern)) (not_of p x less) ∙ here) xs up.0 (each_found xs up.1),
)

module _ (trees : Trees) (s : State) (ordered : IsOrdered s) (holds : Holds trees (contents_of s)) where
  abbrev ps : List Profile
  ps = s.policy.profiles

  -- the entries that the test selects are those of the profile
  listed_here : (p : Profile) → profile_of ps p.class p.pattern ≡ Some p → IsAccessList p.entries → entries_in trees p.class p.pattern ≡ p.entries
  listed_here p here list =
      let own = is_entry_of p.class p.pattern in
      let hits : List Row = filter own (map (λ (r : Row). drop 1 r) (trees entries_at.tree)) in
      let picked : IsPermutation (map (entry_row p.class p.pattern) p.entries) hits =
      subst (λ (l : List Row). IsPermutation l hits) (own_entries p.class p.pattern ps p ordered.profiles here)
      (IsPermutation-filter own _ _ holds.entries.each) in
      in_order entry_cmp entry_total p.entries _ list.0
      (subst (λ (l : List Entry). IsPermutation l (map entry_said hits))
      (entries_back p.class p.pattern p.entries list.1) (IsPermutation-map entry_said _ _ picked))

  filled : (qs : List Profile) → AllByRecursion (λ (p : Profile). profile_of ps p.class p.pattern ≡ Some p) qs
      → AllByRecursion (λ (p : Profile). IsAccessList p.entries) qs
      → map (λ (p : Profile). record p { entries = entries_in trees p.class p.pattern }) (map bare qs) ≡ qs
  filled [] found up = refl
  filled (q ∷ qs) found up = ap₂ (λ (p : Profile) (l : List Profile). p ∷ l) (λ i. record q { entries = listed_here q found.0 up.0 i }) (filled qs found.1 up.1)

  bare_rise : (qs : List Profile) → Rises profile_cmp qs → Rises profile_cmp (map bare qs)
  bare_rise qs up = ascending-map (λ (p q : Profile). profile_cmp p q ≡ Less) bare qs up

  -- the profiles that the tables hold are those of the state
  pub profiles_are : profiles_in trees ≡ ps
  profiles_are =
      let returns : map profile_said (map profile_row ps) ≡ map bare ps = map-map profile_said profile_row ps ∙ map_same _ _ profile_back ps in
      let sorted = decoded_as profile_cmp profile_total profile_said (map profile_row ps) (map bare ps)
      (trees profiles_at.tree) (bare_rise ps ordered.profiles) returns holds.profiles in
      ap (map (λ (p : Profile). record p { entries = entries_in trees p.class p.pattern })) sorted ∙ filled ps (each_found ps ordered.profiles) ordered.entries

-- ---- the state that the rows represent

abbrev actives_said : List (Class × Bool) → ActiveClasses
actives_said (a ∷ b ∷ more) = record { console = a.1; opercmds = b.1 }
actives_said _ = record { console = false; opercmds = false }

abbrev first_flag : List Bool → Bool
first_flag [] = false
first_flag (b ∷ more) = b

abbrev by_class : Class × Bool → Class × Bool → Ordering
by_class a b = class_cmp a.0 b.0

by_class_total : IsTotalOrder by_class
by_class_total = on_total (λ (c : Class × Bool). c.0) class_total

abbrev bool_number : Bool → ℕ
bool_number b = cond b 1 0

abbrev by_flag : Bool → Bool → Ordering
by_flag a b = nat_cmp (bool_number a) (bool_number b)

by_flag_total : IsTotalOrder by_flag
by_flag_total = on_total bool_number nat_cmp_total

abbrev returned : Trees → State
returned t = record {
  policy = record {
    users = sort_by user_cmp (map (λ (r : Row). user_said (drop 1 r)) (t usr_at.tree));
    groups = sort_by name_cmp (map (λ (r : Row). group_said (drop 1 r)) (t grp_at.tree));
    connects = sort_by connect_cmp (map (λ (r : Row). connect_said (drop 1 r)) (t connects_at.tree));
    profiles = profiles_in t;
    active = actives_said (sort_by by_class (map (λ (r : Row). class_row_said (drop 1 r)) (t classes_at.tree)));
  };
  board = record {
    units = sort_by unit_cmp (map (λ (r : Row). unit_said (drop 1 r)) (t units_at.tree));
    devices = sort_by device_cmp (map (λ (r : Row). device_said (drop 1 r)) (t devices_at.tree));
    consoles = sort_by console_cmp (map (λ (r : Row). console_said (drop 1 r)) (t consoles_at.tree));
    replies = map reply_said (t replies_at.tree);
    answered = map answered_said (t answered_at.tree);
    log = map log_said (t log_at.tree);
    messages = map message_said (t messages_at.tree);
    halted = first_flag (sort_by by_flag (map (λ (r : Row). halted_said (drop 1 r)) (t board_at.tree)));
  };
  account = map account_said (t account_at.tree);
  batches = map batch_said (t batches_at.tree);
}

module _ (t : Trees) (s : State) (h : AreTablesOf t s) where
  o : IsOrdered s
  o = h.ordered

  users_are : sort_by user_cmp (map (λ (r : Row). user_said (drop 1 r)) (t usr_at.tree)) ≡ s.policy.users
  users_are = decoded_is user_cmp user_total user_row user_said user_back s.policy.users (t usr_at.tree) o.users h.holds.usr

  groups_are : sort_by name_cmp (map (λ (r : Row). group_said (drop 1 r)) (t grp_at.tree)) ≡ s.policy.groups
  groups_are = decoded_is name_cmp group_total group_row group_said (λ g. refl) s.policy.groups (t grp_at.tree) o.groups h.holds.grp

  connects_are : sort_by connect_cmp (map (λ (r : Row). connect_said (drop 1 r)) (t connects_at.tree)) ≡ s.policy.connects
  connects_are = decoded_is connect_cmp connect_total connect_row connect_said connect_back s.policy.connects (t connects_at.tree) o.connects h.holds.connects

  actives_are : actives_said (sort_by by_class (map (λ (r : Row). class_row_said (drop 1 r)) (t classes_at.tree))) ≡ s.policy.active
  actives_are =
      let both : List (Class × Bool) = (Console, s.policy.active.console) ∷ (Opercmds, s.policy.active.opercmds) ∷ [] in
      ap actives_said (decoded_is by_class by_class_total class_row class_row_said class_row_back both
      (t classes_at.tree) ((refl, tt), (tt, tt)) h.holds.classes)

  units_are : sort_by unit_cmp (map (λ (r : Row). unit_said (drop 1 r)) (t units_at.tree)) ≡ s.board.units
  units_are = decoded_is unit_cmp unit_total unit_row unit_said unit_back s.board.units (t units_at.tree) o.units h.holds.units

  devices_are : sort_by device_cmp (map (λ (r : Row). device_said (drop 1 r)) (t devices_at.tree)) ≡ s.board.devices
  devices_are = decoded_is device_cmp device_total device_row device_said device_back s.board.devices (t devices_at.tree) o.devices h.holds.devices

  consoles_are : sort_by console_cmp (map (λ (r : Row). console_said (drop 1 r)) (t consoles_at.tree)) ≡ s.board.consoles
  consoles_are = decoded_is console_cmp console_total console_row console_said console_back s.board.consoles (t consoles_at.tree) o.consoles h.holds.consoles

  replies_are : map reply_said (t replies_at.tree) ≡ s.board.replies
  replies_are = ap (map reply_said) h.holds.replies ∙ map_back reply_row reply_said (λ r. refl) s.board.replies

  answered_are : map answered_said (t answered_at.tree) ≡ s.board.answered
  answered_are = ap (map answered_said) h.holds.answered ∙ places_back answered_values answered_said (λ n r. refl) 1 s.board.answered

  log_is : map log_said (t log_at.tree) ≡ s.board.log
  log_is = ap (map log_said) h.holds.log ∙ places_back log_values log_said (λ n r. refl) 1 s.board.log

  messages_are : map message_said (t messages_at.tree) ≡ s.board.messages
  messages_are = ap (map message_said) h.holds.messages ∙ places_back message_values message_said (λ n r. refl) 1 s.board.messages

  halted_is : first_flag (sort_by by_flag (map (λ (r : Row). halted_said (drop 1 r)) (t board_at.tree))) ≡ s.board.halted
  halted_is = ap first_flag (decoded_is by_flag by_flag_total halted_row halted_said flag_back (s.board.halted ∷ []) (t board_at.tree) (tt, tt) h.holds.board)

  account_is : map account_said (t account_at.tree) ≡ s.account
  account_is = ap (map account_said) h.holds.account ∙ places_back account_values account_said (λ n r. refl) 1 s.account

  batches_are : map batch_said (t batches_at.tree) ≡ s.batches
  batches_are = ap (map batch_said) h.holds.batches ∙ batches_back s.batches o.read_back

  policy_is : (returned t).policy ≡ s.policy
  policy_is = λ i. record {
    users = users_are i;
    groups = groups_are i;
    connects = connects_are i;
    profiles = profiles_are t s o h.holds i;
    active = actives_are i;
  }

  board_is : (returned t).board ≡ s.board
  board_is = λ i. record {
    units = units_are i;
    devices = devices_are i;
    consoles = consoles_are i;
    replies = replies_are i;
    answered = answered_are i;
    log = log_is i;
    messages = messages_are i;
    halted = halted_is i;
  }

  pub reported_is : returned t ≡ s
  reported_is = λ i. record { policy = policy_is i; board = board_is i; account = account_is i; batches = batches_are i }

-- trees are the tables of one state alone
pub one_state : (t : Trees) (a b : State) → AreTablesOf t a → AreTablesOf t b → a ≡ b
one_state t a b here there = sym (reported_is t a here) ∙ reported_is t b there
