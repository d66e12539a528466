-- What is found form by form.
use Rattle.std.proofs.Common.{
  ◌≡◌,
  ◌≤◌,
  ◌<◌,
  ◌∙◌,
  ap,
  sym,
  ℕ,
  List,
  [],
  ◌∷◌,
  ◌++◌,
  append-nil,
  append_assoc,
  Option,
  Some,
  None,
  drop,
  get_or,
  length,
  map,
  subst,
  arith,
}
use Rattle.std.specs.Prelude.{◌↔◌}
use Rattle.opc_policy_deciders.specs.Decided.{AddsShortest, AreShortest, IsShortest}
use Rattle.opc_policy_witness.specs.Forms.{IsForm}
use Rattle.opc_policy_deciders.specs.Forms.{AreForms, AskedForm, asked}
use Rattle.opc_policy_deciders.specs.declared.form.ResourceForm.{ResourceForm}

pub adds_none : (Holds : AskedForm → List ℕ → Type 0) (old : List (Option (List ℕ))) → AddsShortest Holds [] old old
adds_none Holds old = ([], sym (append-nil old), tt)

pub adds_one : (Holds : AskedForm → List ℕ → Type 0) (form : AskedForm) (forms : List AskedForm) (found : Option (List ℕ))
    (old one new : List (Option (List ℕ))) → one ≡ old ++ found ∷ [] → IsShortest (Holds form) found
    → AddsShortest Holds forms one new → AddsShortest Holds (form ∷ forms) old new
adds_one Holds form forms found old one new is shortest more = (
  found ∷ more.0,
  more.1 ∙ ap (λ l. l ++ more.0) is ∙ append_assoc old (found ∷ []) more.0,
  (shortest, more.2),
)

-- ---- the forms that the code has

pub first_form : (forms : List ResourceForm) (d : ResourceForm) → 1 ≤ length forms → AreForms forms → IsForm (get_or forms 0 d).qualifiers.now
first_form [] d some are = absurd (omega (arith, some))
first_form (form ∷ forms) d some are = are.0

pub forms_left : (forms : List ResourceForm) → AreForms forms → AreForms (drop 1 forms)
forms_left [] are = tt
forms_left (form ∷ forms) are = are.1

pub adds_more : (Holds : AskedForm → List ℕ → Type 0) (forms : List ResourceForm) (d : ResourceForm) (found : Option (List ℕ))
    (old one new : List (Option (List ℕ))) → 1 ≤ length forms → one ≡ old ++ found ∷ []
    → IsShortest (Holds (asked (get_or forms 0 d))) found → AddsShortest Holds (map asked (drop 1 forms)) one new
    → AddsShortest Holds (map asked forms) old new
adds_more Holds [] d found old one new some is shortest more = absurd (omega (arith, some))
adds_more Holds (form ∷ forms) d found old one new some is shortest more =
    adds_one Holds (asked form) (map asked forms) found old one new is shortest more

pub adds_at_end : (Holds : AskedForm → List ℕ → Type 0) (forms : List ResourceForm) (old : List (Option (List ℕ))) → length forms < 1
    → AddsShortest Holds (map asked forms) old old
adds_at_end Holds [] old none = adds_none Holds old
adds_at_end Holds (form ∷ forms) old none = absurd (omega (arith, none))

-- what holds of the same texts has the same shortest
pub shortest_same : (H K : List ℕ → Type 0) → ((text : List ℕ) → H text ↔ K text) → (found : Option (List ℕ)) → IsShortest H found
    → IsShortest K found
shortest_same H K same None none = λ text k. none text ((same text).1 k)
shortest_same H K same (Some text) is = ((same text).0 is.0, λ other k. is.1 other ((same other).1 k))

pub all_same : (H K : AskedForm → List ℕ → Type 0) → ((form : AskedForm) (text : List ℕ) → H form text ↔ K form text)
    → (forms : List AskedForm) (list : List (Option (List ℕ))) → AreShortest H forms list → AreShortest K forms list
all_same H K same [] [] are = tt
all_same H K same [] (found ∷ list) are = absurd are
all_same H K same (form ∷ forms) [] are = absurd are
all_same H K same (form ∷ forms) (found ∷ list) are =
    (shortest_same (H form) (K form) (same form) found are.0, all_same H K same forms list are.1)

pub all_added : (Holds : AskedForm → List ℕ → Type 0) (forms : List AskedForm) (old new : List (Option (List ℕ)))
    → old ≡ [] → AddsShortest Holds forms old new → AreShortest Holds forms new
all_added Holds forms old new none adds =
    subst (λ l. AreShortest Holds forms l) (sym (adds.1 ∙ ap (λ l. l ++ adds.0) none)) adds.2
