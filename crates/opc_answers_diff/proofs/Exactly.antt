-- A user is listed exactly if what is said differs.
use Rattle.std.proofs.Common.{◌≡◌, ◌∙◌, ap, sym, refl, ℕ, Bool, true, false, cond, ◌&&◌, ◌||◌, List, [], ◌∷◌, Option, Some, filter, map}
use Rattle.std.specs.List.{list_any}
use Rattle.std.specs.Str.{bytes_eq}
use Rattle.std.proofs.lemmas.Slice.Eq.{bytes_eq-Decides}
use Rattle.opc_policy_members.specs.declared.profile.Profile.{Profile}
use Rattle.opc_answers.specs.declared.room.Room.{Room}
use Rattle.opc_answers_diff.specs.declared.asked.Asked.{Asked}
use Rattle.opc_answers_diff.specs.declared.asked.Asked.TheVariants.{Logon}
use Rattle.opc_answers_diff.specs.declared.verdicts.UserChange.{UserChange}
use Rattle.opc_answers_diff.specs.Laws.{ListsWhoLogsOn, has_line}
use Rattle.opc_answers_diff.specs.Members.{ids_of_both, member_change}
use Rattle.opc_answers_diff.specs.Verdicts.{is_listed, user_change}

pub and_false : (b : Bool) → (b && false) ≡ false
and_false true = refl
and_false false = refl

listed_so : (listed : UserChange → Bool) (make : List ℕ → UserChange) (ids : List (List ℕ)) (id : List ℕ)
    → ((x : List ℕ) → (make x).id ≡ x)
    → has_line (filter listed (map make ids)) id ≡ (list_any (bytes_eq id) ids && listed (make id))
listed_so listed make [] id own = refl
listed_so listed make (x ∷ ids) id own = go (bytes_eq id x) (listed (make x)) refl refl (listed_so listed make ids id own)
  where
    rest : Bool
    rest = has_line (filter listed (map make ids)) id

    go : (b l : Bool) → bytes_eq id x ≡ b → listed (make x) ≡ l → rest ≡ (list_any (bytes_eq id) ids && listed (make id))
        → has_line (cond l (make x ∷ filter listed (map make ids)) (filter listed (map make ids))) id
        ≡ ((b || list_any (bytes_eq id) ids) && listed (make id))
    go true true same lists later =
        ap (λ b. b || rest) (ap (bytes_eq id) (own x) ∙ same)
        ∙ sym (ap (λ y. listed (make y)) ((bytes_eq-Decides id x).0 same) ∙ lists)
    go true false same unlisted later =
        let none : listed (make id) ≡ false = ap (λ y. listed (make y)) ((bytes_eq-Decides id x).0 same) ∙ unlisted in
        later ∙ ap (λ b. list_any (bytes_eq id) ids && b) none
        ∙ and_false (list_any (bytes_eq id) ids) ∙ sym none
    go false true other lists later = ap (λ b. b || rest) (ap (bytes_eq id) (own x) ∙ other) ∙ later
    go false false other unlisted later = later

map_map : {A B C : Type 0} (f : B → C) (g : A → B) (xs : List A) → map f (map g xs) ≡ map (λ x. f (g x)) xs
map_map f g [] = refl
map_map f g (x ∷ xs) = ap (λ l. f (g x) ∷ l) (map_map f g xs)

pub exactly : (asked : Asked) (before after : Room) (one other : Option Profile) (console : Option (List ℕ)) (id : List ℕ)
    → has_line (filter (is_listed asked console) (map (user_change asked one other console)
    (map (member_change before.members after.members) (ids_of_both before.members after.members)))) id
    ≡ (list_any (bytes_eq id) (ids_of_both before.members after.members)
    && is_listed asked console (user_change asked one other console (member_change before.members after.members id)))
exactly asked before after one other console id =
    ap (λ l. has_line (filter (is_listed asked console) l) id)
    (map_map (user_change asked one other console) (member_change before.members after.members) (ids_of_both before.members after.members))
    ∙ listed_so (is_listed asked console) (λ x. user_change asked one other console (member_change before.members after.members x))
    (ids_of_both before.members after.members) id (λ x. refl)

pub lists_who_logs_on : ListsWhoLogsOn
lists_who_logs_on before after one other console id = exactly Logon before after one other (Some console) id
