-- Of a user who is the same on both sides nothing else is said where the same profile decides.
use Rattle.std.proofs.Common.{◌≡◌, ◌∙◌, ap, ap₂, sym, refl, ℕ, Bool, true, false, cond, ◌&&◌, List, [], ◌∷◌, ◌++◌, Option, Some, None, Result, Ok, Err, filter, map, subst}
use Rattle.std.specs.Prelude.{IfOk, not}
use Rattle.std.specs.Cmp.Lexicographic.{pointwise}
use Rattle.std.specs.List.{flat_map}
use Rattle.std.specs.Option.{option_map}
use Rattle.std.specs.Str.{bytes_eq}
use Rattle.std.proofs.lemmas.Slice.Eq.{bytes_eq-Decides}
use Rattle.opc_policy_members.specs.declared.profile.Profile.{Profile}
use Rattle.opc_policy_members.specs.declared.user.User.{User}
use Rattle.opc_answers.specs.declared.members.UserWithGroups.{UserWithGroups}
use Rattle.opc_answers_diff.specs.declared.asked.Asked.{Asked}
use Rattle.opc_answers_diff.specs.declared.members.MemberChange.{MemberChange}
use Rattle.opc_answers_diff.specs.declared.verdicts.UserChange.{UserChange}
use Rattle.opc_answers_diff.proofs.Exactly.{and_false}
use Rattle.opc_answers_diff.specs.Members.{differ, is_changed, is_same_digest, is_same_flag, is_same_user}
use Rattle.opc_answers_diff.specs.Unchanged.{AreEnough}
use Rattle.opc_answers_diff.specs.Verdicts.{at_console, changes_at, consoles_named, counts_at, is_listed, said_of, side_line, user_change, user_changes}

-- ---- who is the same

pub and_both : (a b : Bool) → (a && b) ≡ true → (a ≡ true) × (b ≡ true)
and_both true b both = (refl, both)
and_both false b both = cc

pub not_false : (a : Bool) → not a ≡ false → a ≡ true
not_false true e = refl
not_false false e = cc

same_flag : (a b : Bool) → is_same_flag a b ≡ true → a ≡ b
same_flag true true h = refl
same_flag true false h = cc
same_flag false true h = cc
same_flag false false h = refl

same_digest : (a b : Option (List ℕ)) → is_same_digest a b ≡ true → a ≡ b
same_digest None None h = refl
same_digest None (Some y) h = cc
same_digest (Some x) None h = cc
same_digest (Some x) (Some y) h = ap Some ((bytes_eq-Decides x y).0 h)

abbrev made : List ℕ → Bool → Bool → Bool → Option (List ℕ) → Bool → User
made id special auditor revoked digest restricted = record {
  id = id;
  special = special;
  auditor = auditor;
  revoked = revoked;
  digest = digest;
  restricted = restricted;
}

same_user : (u v : User) → is_same_user u v ≡ true → u ≡ v
same_user u v h =
    let one = and_both (bytes_eq u.id v.id) _ h in
    let two = and_both (is_same_flag u.special v.special) _ one.1 in
    let three = and_both (is_same_flag u.auditor v.auditor) _ two.1 in
    let four = and_both (is_same_flag u.revoked v.revoked) _ three.1 in
    let five = and_both (is_same_digest u.digest v.digest) _ four.1 in
    ap (λ x. made x u.special u.auditor u.revoked u.digest u.restricted) ((bytes_eq-Decides u.id v.id).0 one.0)
    ∙ ap (λ x. made v.id x u.auditor u.revoked u.digest u.restricted) (same_flag u.special v.special two.0)
    ∙ ap (λ x. made v.id v.special x u.revoked u.digest u.restricted) (same_flag u.auditor v.auditor three.0)
    ∙ ap (λ x. made v.id v.special v.auditor x u.digest u.restricted) (same_flag u.revoked v.revoked four.0)
    ∙ ap (λ x. made v.id v.special v.auditor v.revoked x u.restricted) (same_digest u.digest v.digest five.0)
    ∙ ap (λ x. made v.id v.special v.auditor v.revoked v.digest x) (same_flag u.restricted v.restricted five.1)

same_groups : (xs ys : List (List ℕ)) → pointwise bytes_eq xs ys ≡ true → xs ≡ ys
same_groups [] [] h = refl
same_groups [] (y ∷ ys) h = cc
same_groups (x ∷ xs) [] h = cc
same_groups (x ∷ xs) (y ∷ ys) h =
    let both = and_both (bytes_eq x y) (pointwise bytes_eq xs ys) h in
    ap₂ (λ a b. a ∷ b) ((bytes_eq-Decides x y).0 both.0) (same_groups xs ys both.1)

same_member : (m n : UserWithGroups) → (is_same_user m.user n.user && pointwise bytes_eq m.groups n.groups) ≡ true → m ≡ n
same_member m n h =
    let both = and_both (is_same_user m.user n.user) (pointwise bytes_eq m.groups n.groups) h in
    ap₂ (λ (u : User) (gs : List (List ℕ)). let it : UserWithGroups = record { user = u; groups = gs } in it)
    (same_user m.user n.user both.0) (same_groups m.groups n.groups both.1)

same_sides : (before after : Option UserWithGroups) → differ before after ≡ false → before ≡ after
same_sides None after h = cc
same_sides (Some m) None h = cc
same_sides (Some m) (Some n) h =
    ap Some (same_member m n (not_false (is_same_user m.user n.user && pointwise bytes_eq m.groups n.groups) h))

-- ---- of whom nothing else is said

pub itself : (s : List ℕ) → bytes_eq s s ≡ true
itself s = (bytes_eq-Decides s s).1 refl

pub unlisted : (asked : Asked) (one other : Option Profile) (console : Option (List ℕ)) (m : MemberChange) → one ≡ other → m.before ≡ m.after
    → is_listed asked console (user_change asked one other console m) ≡ false
unlisted asked one other console m same sides =
    ap (λ b. counts_at asked console (user_change asked one other console m) && b)
    (ap (λ s. not (bytes_eq (said_of asked (option_map (side_line asked one console) m.before)) s))
    (sym (ap₂ (λ p x. said_of asked (option_map (side_line asked p console) x)) same sides))
    ∙ ap not (itself (said_of asked (option_map (side_line asked one console) m.before))))
    ∙ and_false (counts_at asked console (user_change asked one other console m))

module _ (asked : Asked) (one other : Option Profile) (console : Option (List ℕ)) (same : one ≡ other) where
  abbrev make : MemberChange → UserChange
  make = user_change asked one other console

  fewer : (ms : List MemberChange) → filter (is_listed asked console) (map make (filter is_changed ms)) ≡ filter (is_listed asked console) (map make ms)
  fewer [] = refl
  fewer (m ∷ ms) = go (is_changed m) refl (fewer ms)
    where
      rest : List UserChange
      rest = filter (is_listed asked console) (map make ms)

      go : (b : Bool) → is_changed m ≡ b → filter (is_listed asked console) (map make (filter is_changed ms)) ≡ rest
          → filter (is_listed asked console) (map make (cond b (m ∷ filter is_changed ms) (filter is_changed ms)))
          ≡ cond (is_listed asked console (make m)) (make m ∷ rest) rest
      go true changed later = ap (λ l. cond (is_listed asked console (make m)) (make m ∷ l) l) later
      go false unchanged later =
          later ∙ sym (ap (λ b. cond b (make m ∷ rest) rest) (unlisted asked one other console m same (same_sides m.before m.after unchanged)))

pub enough_changed : (one other : Option Profile) (some all : List MemberChange) → one ≡ other → some ≡ filter is_changed all
    → AreEnough one other some all
enough_changed one other some all same are asked console =
    ap (λ l. filter (is_listed asked console) (map (user_change asked one other console) l)) are ∙ fewer asked one other console same all

pub enough_all : (one other : Option Profile) (some all : List MemberChange) → some ≡ all → AreEnough one other some all
enough_all one other some all are asked console = ap (λ l. changes_at asked one other l console) are

flat_same : {A B : Type 0} (f g : A → List B) (xs : List A) → ((x : A) → f x ≡ g x) → flat_map f xs ≡ flat_map g xs
flat_same f g [] same = refl
flat_same f g (x ∷ xs) same = ap₂ (λ y ys. y ++ ys) (same x) (flat_same f g xs same)

module _ {T E : Type 0} (list : T → List UserChange) (asked : Asked) (one other : Option Profile) (some all : List MemberChange) where
  pub enough_sections : (result : Result T E) → AreEnough one other some all → IfOk result (λ v. list v ≡ user_changes asked one other some)
      → IfOk result (λ v. list v ≡ user_changes asked one other all)
  enough_sections (Err e) enough is = tt
  enough_sections (Ok v) enough is =
      is ∙ ap₂ (λ xs ys. xs ++ ys) (enough asked None)
      (flat_same (at_console asked one other some) (at_console asked one other all) (consoles_named one other) (λ c. enough asked (Some c)))

  pub enough_lines : (console : Option (List ℕ)) (result : Result T E) → AreEnough one other some all
      → IfOk result (λ v. list v ≡ changes_at asked one other some console) → IfOk result (λ v. list v ≡ changes_at asked one other all console)
  enough_lines console (Err e) enough is = tt
  enough_lines console (Ok v) enough is = is ∙ enough asked console

pub same_lines : {T E : Type 0} (list : T → List UserChange) (asked : Asked) (p one q other : Option Profile) (members : List MemberChange)
    (console : Option (List ℕ)) (result : Result T E) → p ≡ one → q ≡ other → IfOk result (λ v. list v ≡ changes_at asked p q members console)
    → IfOk result (λ v. list v ≡ changes_at asked one other members console)
same_lines list asked p one q other members console result same also found =
    subst (λ x. IfOk result (λ v. list v ≡ changes_at asked x other members console)) same
    (subst (λ y. IfOk result (λ v. list v ≡ changes_at asked p y members console)) also found)
