-- A witness lies between patterns.
use Rattle.std.proofs.Common.{◌≡◌, ◌≤◌, ◌∙◌, ap, sym, refl, ℕ, Bool, true, false, ◌&&◌, ◌||◌, List, [], ◌∷◌, Option, Some, None, Result, Ok, Err, length, map}
use Rattle.std.specs.Prelude.{IfOk, IfSome}
use Rattle.std.specs.List.{AllByRecursion, list_all, list_any}
use Rattle.opc_names.specs.Names.{qualifiers}
use Rattle.opc_names.specs.Patterns.{CoversText, covers_text}
use Rattle.opc_names.proofs.Computed.{text_computes}
use Rattle.opc_policy_witness.specs.declared.forms.FormQualifier.{FormQualifier}
use Rattle.opc_policy_witness.specs.declared.forms.FormQualifier.TheVariants as part
use Rattle.opc_policy_witness.specs.Forms.{AreOf as HaveForm}
use Rattle.opc_policy_witness.specs.Witness.{IsWitness}
use Rattle.opc_policy_deciders.specs.Between.{IsBetween}
use Rattle.opc_policy_deciders.specs.Decided.{IsShortest}
use Rattle.opc_policy_deciders.specs.Forms.{AreOf, asked, shape}
use Rattle.opc_policy_deciders.specs.declared.form.ResourceForm.{ResourceForm}

to_shape : (form : List FormQualifier) (r : List (List ℕ)) → HaveForm form r → AreOf (map shape form) r
to_shape [] [] are = tt
to_shape [] (s ∷ r) are = absurd are
to_shape (q ∷ form) [] are = absurd are
to_shape (part.Word text ∷ form) (s ∷ r) are = (are.0, to_shape form r are.1)
to_shape (part.AnyUnit ∷ form) (s ∷ r) are = (are.0, to_shape form r are.1)
to_shape (part.AnyConsole ∷ form) (s ∷ r) are = (are.0, to_shape form r are.1)

of_shape : (form : List FormQualifier) (r : List (List ℕ)) → AreOf (map shape form) r → HaveForm form r
of_shape [] [] are = tt
of_shape [] (s ∷ r) are = absurd are
of_shape (q ∷ form) [] are = absurd are
of_shape (part.Word text ∷ form) (s ∷ r) are = (are.0, of_shape form r are.1)
of_shape (part.AnyUnit ∷ form) (s ∷ r) are = (are.0, of_shape form r are.1)
of_shape (part.AnyConsole ∷ form) (s ∷ r) are = (are.0, of_shape form r are.1)

-- ---- covering

covers_true : (p r : List ℕ) → CoversText p r → covers_text p r ≡ true
covers_true p r h = (text_computes (covers_text p r) p r refl).1 h

true_covers : (p r : List ℕ) → covers_text p r ≡ true → CoversText p r
true_covers p r h = (text_computes (covers_text p r) p r refl).0 h

not_true : (b : Bool) → (b ≡ true → ⊥) → b ≡ false
not_true true h = absurd (h refl)
not_true false h = refl

pub both_true : (a b : Bool) → (a && b) ≡ true → (a ≡ true) × (b ≡ true)
both_true true b h = (refl, h)
both_true false b h = cc

pub none_true : (a b : Bool) → (a || b) ≡ false → (a ≡ false) × (b ≡ false)
none_true true b h = cc
none_true false b h = (refl, h)

all_true : (ps : List (List ℕ)) (r : List ℕ) → AllByRecursion (λ p. CoversText p r) ps
    → list_all (λ (p : List ℕ). covers_text p r) ps ≡ true
all_true [] r h = refl
all_true (p ∷ ps) r h = ap (λ b. b && list_all (λ (q : List ℕ). covers_text q r) ps) (covers_true p r h.0) ∙ all_true ps r h.1

true_all : (ps : List (List ℕ)) (r : List ℕ) → list_all (λ (p : List ℕ). covers_text p r) ps ≡ true
    → AllByRecursion (λ p. CoversText p r) ps
true_all [] r h = tt
true_all (p ∷ ps) r h =
    let parts = both_true (covers_text p r) (list_all (λ (q : List ℕ). covers_text q r) ps) h in
    (true_covers p r parts.0, true_all ps r parts.1)

all_false : (ps : List (List ℕ)) (r : List ℕ) → AllByRecursion (λ p. CoversText p r → ⊥) ps
    → list_any (λ (p : List ℕ). covers_text p r) ps ≡ false
all_false [] r h = refl
all_false (p ∷ ps) r h =
    ap (λ b. b || list_any (λ (q : List ℕ). covers_text q r) ps) (not_true (covers_text p r) (λ e. h.0 (true_covers p r e)))
    ∙ all_false ps r h.1

false_all : (ps : List (List ℕ)) (r : List ℕ) → list_any (λ (p : List ℕ). covers_text p r) ps ≡ false
    → AllByRecursion (λ p. CoversText p r → ⊥) ps
false_all [] r h = tt
false_all (p ∷ ps) r h =
    let parts = none_true (covers_text p r) (list_any (λ (q : List ℕ). covers_text q r) ps) h in
    (λ covers. let bad : true ≡ false = sym (covers_true p r covers) ∙ parts.0 in cc, false_all ps r parts.1)

-- ---- witnesses

between : (form : ResourceForm) (include exclude : List (List ℕ)) (r : List ℕ) → IsWitness form.qualifiers.now include exclude r
    → IsBetween include exclude (asked form) r
between form include exclude r w = record {
  of_form = to_shape form.qualifiers.now (qualifiers r) w.of_form;
  covered = all_true include r w.covered;
  uncovered = all_false exclude r w.uncovered;
}

witness_of : (form : ResourceForm) (include exclude : List (List ℕ)) (r : List ℕ) → IsBetween include exclude (asked form) r
    → IsWitness form.qualifiers.now include exclude r
witness_of form include exclude r b = record {
  of_form = of_shape form.qualifiers.now (qualifiers r) b.of_form;
  covered = true_all include r b.covered;
  uncovered = false_all exclude r b.uncovered;
}

pub found_so : {E : Type 0} (form : ResourceForm) (include exclude : List (List ℕ)) (result : Result (Option (List ℕ)) E)
    → IfOk result (λ found. IfSome found (IsWitness form.qualifiers.now include exclude))
    → IfOk result (λ found. IfSome found (λ resource. (other : List ℕ)
    → IsWitness form.qualifiers.now include exclude other → length resource ≤ length other))
    → (result ≡ Ok None → (resource : List ℕ) → IsWitness form.qualifiers.now include exclude resource → ⊥)
    → IfOk result (IsShortest (IsBetween include exclude (asked form)))
found_so form include exclude (Ok None) found shortest none = λ r b. none refl r (witness_of form include exclude r b)
found_so form include exclude (Ok (Some r)) found shortest none =
    (between form include exclude r found, λ other b. shortest other (witness_of form include exclude other b))
found_so form include exclude (Err fault) found shortest none = tt
