-- Resources made of words and names, and their qualifiers.
use Rattle.std.proofs.Common.{
  ◌≡◌,
  ℕ,
  List,
  [],
  ◌∷◌,
  ◌++◌,
  map,
  refl,
  ap,
  sym,
  ◌∙◌,
  subst,
  append_assoc,
}
use Rattle.std.specs.List.{AllByRecursion}
use Rattle.std.proofs.lemmas.List.{append-nil}
use Rattle.opc_names.specs.Names.{unit_rule, console_rule, qualifiers}
use Rattle.opc_table.specs.Table.{qualified}
use Rattle.opc_policy_witness.proofs.Names.{unit_usual, console_usual, name_characters, one_qualifier}
use Rattle.opc_check_reach.specs.Forms.{Qualifier, Word, AnyUnit, AnyConsole, IsOf, AreOf, form}
use Rattle.opc_check_reach.proofs.Deciding.{qualifiers_period}

-- words, and names after them
abbrev pub Made : List ℕ → List Qualifier → List ℕ → Type 0
Made words [] resource = resource ≡ words
Made words (f ∷ fs) resource = (name : List ℕ) × IsOf f name × Made (qualified words name) fs resource

-- any name
abbrev pub IsAny : Qualifier → Type 0
IsAny (Word text) = ⊥
IsAny AnyUnit = Unit {0}
IsAny AnyConsole = Unit {0}

name_alone : (f : Qualifier) (s : List ℕ) → IsAny f → IsOf f s → qualifiers s ≡ s ∷ []
name_alone (Word text) s n is = absurd n
name_alone AnyUnit s n is = one_qualifier s (name_characters unit_rule s unit_usual is)
name_alone AnyConsole s n is = one_qualifier s (name_characters console_rule s console_usual is)

one_more : (f : Qualifier) (words s : List ℕ) (r : List (List ℕ)) → IsAny f → IsOf f s
    → qualifiers (qualified words s) ++ r ≡ qualifiers words ++ s ∷ r
one_more f words s r n is =
    ap (λ x. x ++ r) (qualifiers_period words s ∙ ap (λ x. qualifiers words ++ x) (name_alone f s n is))
    ∙ append_assoc (qualifiers words) (s ∷ []) r

made : (fs : List Qualifier) (words : List ℕ) (r : List (List ℕ)) → AllByRecursion IsAny fs → AreOf fs r
    → (resource : List ℕ) × Made words fs resource × (qualifiers resource ≡ qualifiers words ++ r)
made [] words [] n a = (words, refl, sym (append-nil (qualifiers words)))
made [] words (s ∷ r) n a = absurd a
made (f ∷ fs) words [] n a = absurd a
made (f ∷ fs) words (s ∷ r) n a =
    let more = made fs (qualified words s) r n.1 a.1 in
    (more.0, (s, a.0, more.1), more.2 ∙ one_more f words s r n.0 a.0)

unmade : (fs : List Qualifier) (words resource : List ℕ) → AllByRecursion IsAny fs → Made words fs resource
    → (r : List (List ℕ)) × AreOf fs r × (qualifiers resource ≡ qualifiers words ++ r)
unmade [] words resource n m = ([], tt, ap qualifiers m ∙ sym (append-nil (qualifiers words)))
unmade (f ∷ fs) words resource n m =
    let more = unmade fs (qualified words m.0) resource n.1 m.2 in
    (m.0 ∷ more.0, (m.1, more.1), more.2 ∙ one_more f words m.0 more.0 n.0 m.1)

with_words : (ws : List (List ℕ)) (fs : List Qualifier) (r : List (List ℕ)) → AreOf fs r → AreOf (map Word ws ++ fs) (ws ++ r)
with_words [] fs r a = a
with_words (w ∷ ws) fs r a = (refl, with_words ws fs r a)

after_words : (ws : List (List ℕ)) (fs : List Qualifier) (x : List (List ℕ)) → AreOf (map Word ws ++ fs) x
    → (r : List (List ℕ)) × AreOf fs r × (x ≡ ws ++ r)
after_words [] fs x a = (x, a, refl)
after_words (w ∷ ws) fs [] a = absurd a
after_words (w ∷ ws) fs (s ∷ x) a =
    let more = after_words ws fs x a.1 in
    (more.0, more.1, ap (λ y. s ∷ y) more.2 ∙ ap (λ y. y ∷ (ws ++ more.0)) a.0)

-- a resource with the qualifiers of a form is made like this, and the other way round
pub form_made : (words : List ℕ) (fs : List Qualifier) (r : List (List ℕ)) → AllByRecursion IsAny fs → AreOf (form words fs) r
    → (resource : List ℕ) × Made words fs resource × (qualifiers resource ≡ r)
form_made words fs r n are =
    let rest = after_words (qualifiers words) fs r are in
    let more = made fs words rest.0 n rest.1 in
    (more.0, more.1, more.2 ∙ sym rest.2)

pub made_form : (words : List ℕ) (fs : List Qualifier) (resource : List ℕ) → AllByRecursion IsAny fs → Made words fs resource
    → AreOf (form words fs) (qualifiers resource)
made_form words fs resource n m =
    let parts = unmade fs words resource n m in
    subst (λ y. AreOf (form words fs) y) (sym parts.2) (with_words (qualifiers words) fs parts.0 parts.1)
