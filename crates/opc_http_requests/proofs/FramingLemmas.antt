-- The values of the fields with a name, field by field.
use Rattle.std.proofs.Common.{
  ◌≡◌,
  ◌∙◌,
  ◌<◌,
  ◌+◌,
  ◌++◌,
  ◌∷◌,
  [],
  ℕ,
  List,
  true,
  false,
  refl,
  sym,
  ap,
  Some,
  None,
  Ok,
  Err,
  inl,
  inr,
  get_or,
  take,
  drop,
  length,
  map,
}
use Rattle.std.specs.Prelude.{Option, Result, is_some}
use Rattle.std.specs.Option.{option_map, option_to_list}
use Rattle.std.proofs.lemmas.Bool.{cases_Bool}
use Rattle.std.proofs.lemmas.List.{map-append, take_more, take-append-drop}
use Rattle.opc_http_requests.specs.Framing.{FieldLine, has_name, length_with, only, values_of}
use Rattle.opc_http_requests.specs.declared.refusal.HttpRefusal.{HttpRefusal}
use Rattle.opc_http_requests.specs.declared.refusal.HttpRefusal.TheVariants.{BadRequest}
use Rattle.opc_http_requests.specs.declared.refusal.InvalidPart.TheVariants.{Coding, Length}

false-true : false ≡ true → ⊥
false-true e = cc

none-is-some : (v : List ℕ) → Path (Result (Option (List ℕ)) HttpRefusal) (Ok None) (Ok (Some v)) → ⊥
none-is-some v e = cc

ok-is-err : (o : Option (List ℕ)) (why : HttpRefusal) → Path (Result (Option (List ℕ)) HttpRefusal) (Ok o) (Err why) → ⊥
ok-is-err o why e = cc

values-split : (name : List ℕ) (xs ys : List FieldLine) → values_of name (xs ++ ys) ≡ values_of name xs ++ values_of name ys
values-split name [] ys = refl
values-split name (x ∷ xs) ys = elim (cases_Bool (has_name name x)) [
  | inl named ↦ rw named (ap (λ (t : List (List ℕ)). x.1 ∷ t) (values-split name xs ys))
  | inr other ↦ rw other (values-split name xs ys)
]

values-named : (name : List ℕ) (x : FieldLine) (rest : List FieldLine) → has_name name x ≡ true → values_of name (x ∷ rest) ≡ x.1 ∷ values_of name rest
values-named name x rest named = rw named refl

values-other : (name : List ℕ) (x : FieldLine) (rest : List FieldLine) → has_name name x ≡ false → values_of name (x ∷ rest) ≡ values_of name rest
values-other name x rest other = rw other refl

module _ {H : Type 0} (line : H → FieldLine) where
  -- one field more
  more : (name : List ℕ) (hs : List H) (i : ℕ) (d : H) → i < length hs
      → values_of name (map line (take (i + 1) hs)) ≡ values_of name (map line (take i hs)) ++ values_of name (line (get_or hs i d) ∷ [])
  more name hs i d low =
      ap (λ (t : List H). values_of name (map line t)) (take_more hs i d low)
      ∙ ap (values_of name) (map-append line (take i hs) (get_or hs i d ∷ []))
      ∙ values-split name (map line (take i hs)) (line (get_or hs i d) ∷ [])

  pub more-named : (name : List ℕ) (hs : List H) (i : ℕ) (d : H) → i < length hs
      → values_of name (map line (take i hs)) ≡ [] → has_name name (line (get_or hs i d)) ≡ true
      → values_of name (map line (take (i + 1) hs)) ≡ (line (get_or hs i d)).1 ∷ []
  more-named name hs i d low none named = more name hs i d low ∙ rw (none, values-named name (line (get_or hs i d)) [] named) refl

  pub more-other : (name : List ℕ) (hs : List H) (i : ℕ) (d : H) (vs : List (List ℕ)) → i < length hs
      → values_of name (map line (take i hs)) ≡ vs → has_name name (line (get_or hs i d)) ≡ false
      → values_of name (map line (take (i + 1) hs)) ≡ vs
  more-other name hs i d vs low same other = more name hs i d low ∙ rw (same, values-other name (line (get_or hs i d)) [] other) (nothing vs)
    where
      nothing : (xs : List (List ℕ)) → xs ++ [] ≡ xs
      nothing [] = refl
      nothing (x ∷ xs) = ap (λ (t : List (List ℕ)). x ∷ t) (nothing xs)

  -- a second one
  pub often : {A : Type 0} (f : A → List ℕ) (name : List ℕ) (hs : List H) (i : ℕ) (d : H) (found : Option A) → i < length hs
      → values_of name (map line (take i hs)) ≡ option_to_list (option_map f found) → is_some found ≡ true → has_name name (line (get_or hs i d)) ≡ true
      → only (values_of name (map line hs)) ≡ Err (BadRequest Length)
  often f name hs i d None low same is named = absurd (false-true is)
  often f name hs i d (Some value) low same is named =
      let rest : List H = drop (i + 1) hs in
      let all : map line hs ≡ map line (take (i + 1) hs) ++ map line rest =
      ap (map line) (sym (take-append-drop (i + 1) hs)) ∙ map-append line (take (i + 1) hs) rest in
      let two : values_of name (map line (take (i + 1) hs)) ≡ f value ∷ (line (get_or hs i d)).1 ∷ [] =
      more name hs i d low ∙ rw (same, values-named name (line (get_or hs i d)) [] named) refl in
      ap (λ (t : List FieldLine). only (values_of name t)) all ∙ ap only (values-split name (map line (take (i + 1) hs)) (map line rest)) ∙ rw two refl

-- the length, by what is known of the codings
nothing-coded : (vs : List (List ℕ)) → only vs ≡ Ok None → vs ≡ []
nothing-coded [] e = refl
nothing-coded (v ∷ []) e = absurd (none-is-some v (sym e))
nothing-coded (v ∷ w ∷ vs) e = absurd (ok-is-err None (BadRequest Length) (sym e))

pub no-coding : (vs : List (List ℕ)) (r : Result ℕ HttpRefusal) → only vs ≡ Ok None → length_with vs r ≡ r
no-coding vs r e = rw (nothing-coded vs e) refl

pub one-coding : (vs : List (List ℕ)) (r : Result ℕ HttpRefusal) (v : List ℕ) → only vs ≡ Ok (Some v) → length_with vs r ≡ Err (BadRequest Coding)
one-coding [] r v e = absurd (none-is-some v e)
one-coding (w ∷ vs) r v e = refl

pub codings : (vs : List (List ℕ)) (r : Result ℕ HttpRefusal) (why : HttpRefusal) → only vs ≡ Err why → length_with vs r ≡ Err (BadRequest Coding)
codings [] r why e = absurd (ok-is-err None why e)
codings (w ∷ vs) r why e = refl
