-- Of whom something else is said about what is found.
use Rattle.std.proofs.Common.{◌≡◌, ◌∙◌, sym, refl, subst, ℕ, Bool, true, false, List, [], ◌∷◌, Option, Result, Ok, Err, length, map, arith}
use Rattle.std.specs.Prelude.{◌==◌, IfOk}
use Rattle.std.specs.List.{slice_get}
use Rattle.std.proofs.lemmas.Bool.Decides.{nat_tests}
use Rattle.opc_policy_deciders.specs.declared.kind.AskedKind.{AskedKind}
use Rattle.opc_policy_deciders.specs.Decided.{AreShortest}
use Rattle.opc_policy_deciders.specs.Forms.{forms}
use Rattle.opc_policy_deciders.specs.Pairs.{IsDecidedByBoth}
use Rattle.opc_policy_members.specs.declared.policy.Policy.{Policy}
use Rattle.opc_answers_may.specs.declared.commands.FormsAsked.TheVariants.{OfKind}
use Rattle.opc_answers_may.specs.MayTexts.{names_of}
use Rattle.opc_answers_diff.specs.declared.compared.Compared.{Compared}
use Rattle.opc_answers_diff.specs.declared.verdicts.UserChange.{UserChange}
use Rattle.opc_answers_diff.specs.Sections.{found_changes, if_any, kind_changes}

some_there : {A : Type 0} (x : A) (xs : List A) → (length (x ∷ xs) == 0) ≡ false
some_there x xs = grind (arith, nat_tests)

no_names : {A B D : Type 0} (f : A → D) (g : B → D) (xs : List A) (ys : List B) (changes : List UserChange) → map f xs ≡ map g ys
    → (length xs == 0) ≡ true → if_any ys changes ≡ []
no_names f g [] [] changes same none = refl
no_names f g [] (y ∷ ys) changes same none = cc
no_names f g (x ∷ xs) ys changes same none = let bad : true ≡ false = sym none ∙ some_there x xs in cc

some_names : {A B D : Type 0} (f : A → D) (g : B → D) (xs : List A) (ys : List B) (changes : List UserChange) → map f xs ≡ map g ys
    → (length xs == 0) ≡ false → if_any ys changes ≡ changes
some_names f g [] ys changes same some = cc
some_names f g (x ∷ xs) [] changes same some = cc
some_names f g (x ∷ xs) (y ∷ ys) changes same some = refl

module _ (c : Compared) (kind : AskedKind) (found : List (Option (List ℕ))) (at at' : ℕ) {A D : Type 0} (f : A → D) (g : List ℕ → D) (items : List A)
    (b : Bool) (same : map f items ≡ map g (names_of (OfKind kind) found)) (is : b ≡ (length items == 0)) where
  pub found_none : (list : List UserChange) → b ≡ true → list ≡ [] → list ≡ found_changes c kind found at at'
  found_none list none empty =
      empty ∙ sym (no_names f g items (names_of (OfKind kind) found) (kind_changes c kind at at') same (sym is ∙ none))

  pub found_any : {T E : Type 0} (list : T → List UserChange) (result : Result T E) → b ≡ false
      → IfOk result (λ v. list v ≡ kind_changes c kind at at') → IfOk result (λ v. list v ≡ found_changes c kind found at at')
  found_any list (Err e) some are = tt
  found_any list (Ok v) some are =
      are ∙ sym (some_names f g items (names_of (OfKind kind) found) (kind_changes c kind at at') same (sym is ∙ some))

pub nothing : {A : Type 0} (xs : List A) → (length xs == 0) ≡ true → xs ≡ []
nothing [] none = refl
nothing (x ∷ xs) none = let bad : true ≡ false = sym none ∙ some_there x xs in cc

-- ---- what is found where two patterns stand

pub found_moved : {T E : Type 0} (list : T → List (Option (List ℕ))) (one other : Policy) (ps ps' qs qs' : List (List ℕ)) (i j : ℕ)
    (result : Result T E) → ps' ≡ ps → qs' ≡ qs
    → IfOk result (λ v. AreShortest (IsDecidedByBoth one other (slice_get ps' i) (slice_get qs' j)) forms (list v))
    → IfOk result (λ v. AreShortest (IsDecidedByBoth one other (slice_get ps i) (slice_get qs j)) forms (list v))
found_moved list one other ps ps' qs qs' i j result same also found =
    subst (λ xs. IfOk result (λ v. AreShortest (IsDecidedByBoth one other (slice_get xs i) (slice_get qs j)) forms (list v))) same
    (subst (λ ys. IfOk result (λ v. AreShortest (IsDecidedByBoth one other (slice_get ps' i) (slice_get ys j)) forms (list v))) also found)
