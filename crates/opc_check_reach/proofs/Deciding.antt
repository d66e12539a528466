-- A pattern decides a resource of a form exactly if there is a witness.
use Rattle.std.proofs.Common.{
  ◌≡◌,
  ◌≢◌,
  ℕ,
  Bool,
  true,
  false,
  ◌==◌,
  cond,
  List,
  [],
  ◌∷◌,
  ◌++◌,
  map,
  refl,
  ap,
  sym,
  ◌∙◌,
  subst,
}
use Rattle.std.specs.Prelude.{IfSome, None, Option, Some, is_some, not}
use Rattle.std.specs.List.{AllByRecursion, list_all, list_any, onto_first}
use Rattle.opc_names.specs.Names.{console_rule, is_name_character, qualifiers, unit_rule}
use Rattle.opc_names.specs.Patterns.{Covers, tokens}
use Rattle.opc_names.proofs.Computed.{covers_computes}
use Rattle.opc_names.proofs.Parts.{qualifiers_some}
use Rattle.opc_policy_witness.specs.declared.forms.FormQualifier.{FormQualifier}
use Rattle.opc_policy_witness.specs.declared.forms.FormQualifier.TheVariants as part
use Rattle.opc_policy_witness.specs.Forms.{AreOf as HaveForm, IsFine, IsForm}
use Rattle.opc_policy_witness.specs.Witness.{IsWitness, covers_parts, joined}
use Rattle.opc_policy_witness.proofs.Names.{and_true, both, console_usual, name_characters, one_qualifier, unit_usual}
use Rattle.opc_check_reach.specs.Forms.{AreOf, decides_of, decides_parts, shape}
use Rattle.opc_check_reach.proofs.Trying.{or_left, or_right, resource_gives, resource_some}

-- ---- the text of a resource

onto_append : (c : ℕ) (xs ys : List (List ℕ)) → (xs ≡ [] → ⊥) → onto_first c (xs ++ ys) ≡ onto_first c xs ++ ys
onto_append c [] ys h = absurd (h refl)
onto_append c (x ∷ xs) ys h = refl

pub qualifiers_period : (a b : List ℕ) → qualifiers (a ++ 46 ∷ b) ≡ qualifiers a ++ qualifiers b
qualifiers_period [] b = refl
qualifiers_period (c ∷ a) b =
    elim (c == 46) as (λ v. cond v ([] ∷ qualifiers (a ++ 46 ∷ b)) (onto_first c (qualifiers (a ++ 46 ∷ b))) ≡ cond v
    ([] ∷ qualifiers a) (onto_first c (qualifiers a)) ++ qualifiers b) [
      | true ↦ ap (λ t. [] ∷ t) (qualifiers_period a b)
      | false ↦ ap (onto_first c) (qualifiers_period a b) ∙ onto_append c (qualifiers a) (qualifiers b) (qualifiers_some a)
    ]

abbrev Named : List ℕ → Type 0
Named s = list_all is_name_character s ≡ true

joined_parts : (r : List (List ℕ)) → r ≢ [] → AllByRecursion Named r → qualifiers (joined r) ≡ r
joined_parts [] some named = absurd (some refl)
joined_parts (s ∷ []) some named = one_qualifier s named.0
joined_parts (s ∷ (t ∷ r)) some named =
    qualifiers_period s (joined (t ∷ r)) ∙ ap (λ x. x ++ qualifiers (joined (t ∷ r))) (one_qualifier s named.0)
    ∙ ap (λ x. s ∷ x) (joined_parts (t ∷ r) (λ e. cc) named.1)

named_one : (f : FormQualifier) (s : List ℕ) → IsFine f → AreOf (shape f ∷ []) (s ∷ []) → Named s
named_one (part.Word text) s fine are = ap (list_all is_name_character) are.0 ∙ fine.1
named_one part.AnyUnit s fine are = name_characters unit_rule s unit_usual are.0
named_one part.AnyConsole s fine are = name_characters console_rule s console_usual are.0

named_all : (form : List FormQualifier) (r : List (List ℕ)) → AllByRecursion IsFine form → AreOf (map shape form) r
    → AllByRecursion Named r
named_all [] [] fine are = tt
named_all [] (s ∷ r) fine are = absurd are
named_all (f ∷ form) [] fine are = absurd are
named_all (f ∷ form) (s ∷ r) fine are = (named_one f s fine.0 (are.0, tt), named_all form r fine.1 are.1)

some_parts : (form : List FormQualifier) (r : List (List ℕ)) → form ≢ [] → AreOf (map shape form) r → r ≢ []
some_parts [] r some are = absurd (some refl)
some_parts (f ∷ form) [] some are = absurd are
some_parts (f ∷ form) (s ∷ r) some are = λ e. cc

-- ---- forms of the code

to_shape : (form : List FormQualifier) (r : List (List ℕ)) → HaveForm form r → AreOf (map shape form) r
to_shape [] [] are = tt
to_shape [] (s ∷ r) are = absurd are
to_shape (f ∷ form) [] are = absurd are
to_shape (part.Word text ∷ form) (s ∷ r) are = (are.0, to_shape form r are.1)
to_shape (part.AnyUnit ∷ form) (s ∷ r) are = (are.0, to_shape form r are.1)
to_shape (part.AnyConsole ∷ form) (s ∷ r) are = (are.0, to_shape form r are.1)

of_shape : (form : List FormQualifier) (r : List (List ℕ)) → AreOf (map shape form) r → HaveForm form r
of_shape [] [] are = tt
of_shape [] (s ∷ r) are = absurd are
of_shape (f ∷ form) [] are = absurd are
of_shape (part.Word text ∷ form) (s ∷ r) are = (are.0, of_shape form r are.1)
of_shape (part.AnyUnit ∷ form) (s ∷ r) are = (are.0, of_shape form r are.1)
of_shape (part.AnyConsole ∷ form) (s ∷ r) are = (are.0, of_shape form r are.1)

-- ---- covering

pub covers_true : (pattern : List ℕ) (parts : List (List ℕ)) → Covers (map tokens (qualifiers pattern)) parts
    → covers_parts parts pattern ≡ true
covers_true pattern parts h = (covers_computes (map tokens (qualifiers pattern)) parts).1 h

pub true_covers : (pattern : List ℕ) (parts : List (List ℕ)) → covers_parts parts pattern ≡ true
    → Covers (map tokens (qualifiers pattern)) parts
true_covers pattern parts h = (covers_computes (map tokens (qualifiers pattern)) parts).0 h

abbrev pub Uncovered : List (List ℕ) → List (List ℕ) → Type 0
Uncovered before parts = AllByRecursion (λ q. Covers (map tokens (qualifiers q)) parts → ⊥) before

not_true : (b : Bool) → (b ≡ true → ⊥) → b ≡ false
not_true true h = absurd (h refl)
not_true false h = refl

pub not_false : (b : Bool) → not b ≡ true → b ≡ false
not_false true h = cc
not_false false h = refl

pub none_covers : (before parts : List (List ℕ)) → Uncovered before parts → list_any (covers_parts parts) before ≡ false
none_covers [] parts h = refl
none_covers (q ∷ before) parts h =
    rw (not_true (covers_parts parts q) (λ e. h.0 (true_covers q parts e))) (none_covers before parts h.1)

pub covers_none : (before parts : List (List ℕ)) → list_any (covers_parts parts) before ≡ false → Uncovered before parts
covers_none [] parts h = tt
covers_none (q ∷ before) parts h = (
  λ e. let bad : true ≡ false = sym (or_left (covers_parts parts q) (list_any (covers_parts parts) before) (covers_true q parts e)) ∙ h in cc,
  covers_none before parts (not_true (list_any (covers_parts parts) before) (λ e. let bad : true ≡ false = sym (or_right (covers_parts parts q) (list_any (covers_parts parts) before) e) ∙ h in cc)),
)

pub parts_decide : (pattern : List ℕ) (before parts : List (List ℕ)) → Covers (map tokens (qualifiers pattern)) parts
    → Uncovered before parts → decides_parts pattern before parts ≡ true
parts_decide pattern before parts h none = and_true _ _ (covers_true pattern parts h) (ap not (none_covers before parts none))

pub decide_parts : (pattern : List ℕ) (before parts : List (List ℕ)) → decides_parts pattern before parts ≡ true
    → Covers (map tokens (qualifiers pattern)) parts × Uncovered before parts
decide_parts pattern before parts h =
    let k = both (covers_parts parts pattern) (not (list_any (covers_parts parts) before)) h in
    (true_covers pattern parts k.0, covers_none before parts (not_false (list_any (covers_parts parts) before) k.1))

-- ---- witnesses

pub witness_decides : (form : List FormQualifier) (pattern : List ℕ) (before : List (List ℕ)) (resource : List ℕ)
    → IsWitness form (pattern ∷ []) before resource → decides_of pattern before (map shape form) ≡ true
witness_decides form pattern before resource w =
    resource_some (map shape form) (decides_parts pattern before) (qualifiers resource) (to_shape form (qualifiers resource) w.of_form)
    (parts_decide pattern before (qualifiers resource) w.covered.0 w.uncovered)

decides_witness : (form : List FormQualifier) (pattern : List ℕ) (before : List (List ℕ)) → IsForm form
    → decides_of pattern before (map shape form) ≡ true → (resource : List ℕ) × IsWitness form (pattern ∷ []) before resource
decides_witness form pattern before fine h =
    let found = resource_gives (map shape form) (decides_parts pattern before) h in
    let says = decide_parts pattern before found.0 found.2 in
    let parts = joined_parts found.0 (some_parts form found.0 fine.some found.1) (named_all form found.0 fine.fine found.1) in (
      joined found.0,
      record {
        of_form = subst (λ r. HaveForm form r) (sym parts) (of_shape form found.0 found.1);
        covered = (subst (λ r. Covers (map tokens (qualifiers pattern)) r) (sym parts) says.0, tt);
        uncovered = subst (λ r. Uncovered before r) (sym parts) says.1;
      },
    )

pub no_witness : (form : List FormQualifier) (pattern : List ℕ) (before : List (List ℕ)) → IsForm form
    → ((resource : List ℕ) → IsWitness form (pattern ∷ []) before resource → ⊥) → decides_of pattern before (map shape form) ≡ false
no_witness form pattern before fine none =
    not_true (decides_of pattern before (map shape form)) (λ h. let k = decides_witness form pattern before fine h in none k.0 k.1)

pub found_decides : (form : List FormQualifier) (pattern : List ℕ) (before : List (List ℕ)) (found : Option (List ℕ)) → IsForm form
    → IfSome found (IsWitness form (pattern ∷ []) before)
    → (found ≡ None → (resource : List ℕ) → IsWitness form (pattern ∷ []) before resource → ⊥)
    → is_some found ≡ decides_of pattern before (map shape form)
found_decides form pattern before None fine found none = sym (no_witness form pattern before fine (none refl))
found_decides form pattern before (Some r) fine found none = sym (witness_decides form pattern before r found)
