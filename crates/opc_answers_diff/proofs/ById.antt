-- The users of a side by their ids, and those who are not the same on both sides.
use Rattle.std.proofs.Common.{◌≡◌, ◌<◌, ◌+◌, ◌∙◌, ℕ, Bool, true, false, cond, List, [], ◌∷◌, ◌++◌, Option, Some, None, Result, Ok, Err, ap, ap₂, refl, sym, filter, map, take, get_or, length}
use Rattle.std.specs.Prelude.{IfOk, if◌then◌else◌}
use Rattle.std.specs.BTreeMap.{get, is_at}
use Rattle.std.specs.Option.{is_some, option_or}
use Rattle.std.specs.Str.{bytes_eq}
use Rattle.std.proofs.lemmas.List.{take_more}
use Rattle.std.proofs.lemmas.Map.Text.{is_eq-slice_cmp}
use Rattle.std.proofs.lemmas.Slice.Eq.{bytes_eq-Decides}
use Rattle.opc_policy_members.specs.Members.{name_cmp}
use Rattle.opc_answers.specs.declared.members.UserWithGroups.{UserWithGroups}
use Rattle.opc_answers.specs.declared.room.Room.{Room}
use Rattle.opc_answers_diff.specs.declared.members.MemberChange.{MemberChange}
use Rattle.opc_answers_diff.proofs.Rows.{map_same}
use Rattle.opc_answers_diff.specs.Members.{ById, change_by_id, changed_ids, has_id, if_is, ids_of_both, is_changed, member_change, member_in, members_of_both}

or_none : {A : Type 0} (x : Option A) → option_or x None ≡ x
or_none None = refl
or_none (Some x) = refl

-- ---- one more user

find_end : (ms : List UserWithGroups) (m : UserWithGroups) (id : List ℕ)
    → member_in (ms ++ m ∷ []) id ≡ option_or (member_in ms id) (if_is id m)
find_end [] m id = refl
find_end (x ∷ ms) m id = go (has_id id x) (find_end ms m id)
  where
    go : (b : Bool) → member_in (ms ++ m ∷ []) id ≡ option_or (member_in ms id) (if_is id m)
        → cond b (Some x) (member_in (ms ++ m ∷ []) id) ≡ option_or (cond b (Some x) (member_in ms id)) (if_is id m)
    go true later = refl
    go false later = later

pub member_more : (all : List UserWithGroups) (i : ℕ) (m : UserWithGroups) (id : List ℕ) (old new : Option UserWithGroups) → i < length all
    → m ≡ get_or all i m → old ≡ member_in (take i all) id → new ≡ option_or old (if_is id m) → new ≡ member_in (take (i + 1) all) id
member_more all i m id old new low is was next =
    next
    ∙ ap (λ x. option_or x (if_is id m)) was
    ∙ sym (find_end (take i all) m id)
    ∙ ap (λ ms. member_in ms id) (sym (take_more all i m low ∙ ap (λ x. take i all ++ x ∷ []) (sym is)))

-- one whose id is there is not kept, and another one is

kept_so : (b : Bool) (m : UserWithGroups) (id : List ℕ) (old : Option UserWithGroups) → bytes_eq id m.user.id ≡ b
    → (id ≡ m.user.id → is_some old ≡ true) → old ≡ option_or old (if b then Some m else None)
kept_so false m id old apart there = sym (or_none old)
kept_so true m id None same there = let bad : false ≡ true = there ((bytes_eq-Decides id m.user.id).0 same) in cc
kept_so true m id (Some x) same there = refl

pub kept_already : (old : List ℕ → Option UserWithGroups) (m : UserWithGroups) (id : List ℕ) (b : Bool)
    → b ≡ is_some (old m.user.id) → b ≡ true → old id ≡ option_or (old id) (if_is id m)
kept_already old m id b is there =
    kept_so (bytes_eq id m.user.id) m id (old id) refl (λ same. ap (λ x. is_some (old x)) same ∙ sym is ∙ there)

pub bytes_sym : (a b : List ℕ) → bytes_eq a b ≡ bytes_eq b a
bytes_sym a b = go (bytes_eq a b) (bytes_eq b a) refl refl
  where
    go : (x y : Bool) → bytes_eq a b ≡ x → bytes_eq b a ≡ y → x ≡ y
    go true true is same = refl
    go true false is same =
        let bad : true ≡ false = sym ((bytes_eq-Decides b a).1 (sym ((bytes_eq-Decides a b).0 is))) ∙ same in cc
    go false true is same =
        let bad : true ≡ false = sym ((bytes_eq-Decides a b).1 (sym ((bytes_eq-Decides b a).0 same))) ∙ is in cc
    go false false is same = refl

pub kept_new : (old : List ℕ → Option UserWithGroups) (new : Option UserWithGroups) (m copy : UserWithGroups) (id : List ℕ) (b : Bool)
    → b ≡ is_some (old m.user.id) → b ≡ false → copy ≡ m → new ≡ cond (is_at (name_cmp m.user.id) id) (Some copy) (old id)
    → new ≡ option_or (old id) (if_is id m)
kept_new old new m copy id b is none same next =
    next ∙ ap₂ (λ c x. cond c (Some x) (old id)) (is_eq-slice_cmp m.user.id id ∙ bytes_sym m.user.id id) same ∙ go (bytes_eq id m.user.id) refl
  where
    absent : (x : Option UserWithGroups) → is_some x ≡ false → x ≡ None
    absent None empty = refl
    absent (Some x) empty = cc

    go : (c : Bool) → bytes_eq id m.user.id ≡ c → cond c (Some m) (old id) ≡ option_or (old id) (if c then Some m else None)
    go false apart = sym (or_none (old id))
    go true same =
        ap (λ x. option_or x (Some m)) (sym (absent (old id) (ap (λ x. is_some (old x)) ((bytes_eq-Decides id m.user.id).0 same) ∙ sym is ∙ none)))

-- ---- what two maps have

pub by_id_so : {E : Type 0} (before after : List UserWithGroups) (old new : ById) (ids : List (List ℕ)) (result : Result (List MemberChange) E)
    → ((id : List ℕ) → get name_cmp old id ≡ member_in before id) → ((id : List ℕ) → get name_cmp new id ≡ member_in after id)
    → IfOk result (λ list. list ≡ map (change_by_id old new) ids) → IfOk result (λ list. list ≡ map (member_change before after) ids)
by_id_so before after old new ids (Err e) was is found = tt
by_id_so before after old new ids (Ok list) was is found =
    found ∙ map_same (change_by_id old new) (member_change before after) ids (λ id.
    ap₂ (λ (x y : Option UserWithGroups). let change : MemberChange = record { id = id; before = x; after = y } in change) (was id) (is id))

-- ---- those who are not the same

ids_made : (make : List ℕ → MemberChange) (ids : List (List ℕ)) → ((id : List ℕ) → (make id).id ≡ id)
    → map make (map (λ (m : MemberChange). m.id) (filter is_changed (map make ids))) ≡ filter is_changed (map make ids)
ids_made make [] own = refl
ids_made make (id ∷ ids) own = go (is_changed (make id)) (ids_made make ids own)
  where
    rest : List MemberChange
    rest = filter is_changed (map make ids)

    go : (b : Bool) → map make (map (λ (m : MemberChange). m.id) rest) ≡ rest
        → map make (map (λ (m : MemberChange). m.id) (cond b (make id ∷ rest) rest)) ≡ cond b (make id ∷ rest) rest
    go true later = ap₂ (λ x xs. x ∷ xs) (ap make (own id)) later
    go false later = later

pub changed_so : {E : Type 0} (before after : Room) (members : List MemberChange) (ids : List (List ℕ)) (result : Result (List MemberChange) E)
    → members ≡ members_of_both before after → ids ≡ changed_ids members
    → IfOk result (λ list. list ≡ map (member_change before.members after.members) ids)
    → IfOk result (λ list. list ≡ filter is_changed members)
changed_so before after members ids (Err e) are is found = tt
changed_so before after members ids (Ok list) are is found =
    found ∙ ap (map (member_change before.members after.members)) (is ∙ ap changed_ids are)
    ∙ ids_made (member_change before.members after.members) (ids_of_both before.members after.members) (λ id. refl)
    ∙ ap (filter is_changed) (sym are)
