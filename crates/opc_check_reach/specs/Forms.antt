-- The forms of the resources about which the gate asks, and whether a resource of one of them passes a test. The public
-- laws are about `IsAsked` of Reach. The notes N17 and N20 are computed by these forms; a law states that both are the
-- same.
use Rattle.std.specs.Prelude.{◌≡◌, ℕ, zero, suc, Bool, false, not, ◌&&◌, ◌||◌, List, [], ◌∷◌, ◌++◌, map, codes, None, is_none, ⊤}
use Rattle.std.specs.Borrow.{Bor}
use Rattle.std.specs.List.{AllByRecursion, list_any}
use Rattle.opc_names.specs.declared.rule.NameRule.{NameRule}
use Rattle.opc_names.specs.Names.{name_fault, unit_rule, console_rule, qualifiers}
use Rattle.opc_policy_witness.specs.declared.forms.FormQualifier.{FormQualifier}
use Rattle.opc_policy_witness.specs.declared.forms.FormQualifier.TheVariants as part
use Rattle.opc_policy_witness.specs.Forms.{IsForm}
use Rattle.opc_policy_witness.specs.Witness.{covers_parts}

-- a qualifier of a resource, as it stands in a form: a fixed word, or any name of a unit or of a console
pub data Qualifier : Type 0 where
  Word : List ℕ → Qualifier
  AnyUnit : Qualifier
  AnyConsole : Qualifier

abbrev pub shape : FormQualifier → Qualifier
shape (part.Word text) = Word text.now
shape part.AnyUnit = AnyUnit
shape part.AnyConsole = AnyConsole

-- forms as the code has them
abbrev pub forms_of : List (Bor (List FormQualifier)) → List (List Qualifier)
forms_of forms = map (λ form. map shape form.now) forms

-- whose texts are resources
abbrev pub AreForms : List (Bor (List FormQualifier)) → Type 0
AreForms forms = AllByRecursion (λ form. IsForm form.now) forms

abbrev pub IsOf : Qualifier → List ℕ → Type 0
IsOf (Word text) s = s ≡ text
IsOf AnyUnit s = name_fault unit_rule s ≡ None
IsOf AnyConsole s = name_fault console_rule s ≡ None

abbrev pub AreOf : List Qualifier → List (List ℕ) → Type 0
AreOf [] [] = ⊤
AreOf [] (s ∷ r) = ⊥
AreOf (f ∷ fs) [] = ⊥
AreOf (f ∷ fs) (s ∷ r) = IsOf f s × AreOf fs r

-- some words, and names after them
abbrev pub form : List ℕ → List Qualifier → List Qualifier
form words names = map Word (qualifiers words) ++ names

abbrev pub fixed_forms : List (List Qualifier)
fixed_forms =
    form (codes "MVS.DISPLAY.JOB") [] ∷ form (codes "MVS.DISPLAY.U") [] ∷ form (codes "MVS.DISPLAY.CN") []
    ∷ form (codes "MVS.DISPLAY.R") [] ∷ form (codes "MVS.REPLY") [] ∷ form (codes "MVS.VARY.DEV") []
    ∷ form (codes "MVS.MOUNT") [] ∷ form (codes "MVS.UNLOAD") [] ∷ form (codes "MVS.SWAP") []
    ∷ form (codes "MVS.VARY.CN") [] ∷ form (codes "MVS.VARYAUTH.CN") [] ∷ form (codes "MVS.RESET.CN") []
    ∷ form (codes "MVS.SEND") [] ∷ form (codes "MVS.LOG") [] ∷ form (codes "MVS.MONITOR") []
    ∷ form (codes "MVS.STOPMN") [] ∷ form (codes "MVS.HALT.EOD") [] ∷ []

abbrev pub named_forms : List (List Qualifier)
named_forms =
    form (codes "MVS.DISPLAY.JOB") (AnyUnit ∷ []) ∷ form (codes "MVS.DISPLAY.CN") (AnyConsole ∷ [])
    ∷ form (codes "MVS.CANCEL.JOB") (AnyUnit ∷ []) ∷ form (codes "MVS.CANCEL.TSU") (AnyUnit ∷ [])
    ∷ form (codes "MVS.FORCE.JOB") (AnyUnit ∷ []) ∷ form (codes "MVS.FORCE.TSU") (AnyUnit ∷ [])
    ∷ form (codes "MVS.STOP.JOB") (AnyUnit ∷ []) ∷ form (codes "MVS.MODIFY.JOB") (AnyUnit ∷ [])
    ∷ form (codes "MVS.START.STC") (AnyUnit ∷ AnyUnit ∷ []) ∷ form (codes "MVS.CANCEL.STC") (AnyUnit ∷ AnyUnit ∷ [])
    ∷ form (codes "MVS.FORCE.STC") (AnyUnit ∷ AnyUnit ∷ []) ∷ form (codes "MVS.STOP.STC") (AnyUnit ∷ AnyUnit ∷ [])
    ∷ form (codes "MVS.MODIFY.STC") (AnyUnit ∷ AnyUnit ∷ []) ∷ []

-- whether some number below a bound passes a test
unfoldable pub any_below : ℕ → (ℕ → Bool) → Bool
any_below zero test = false
any_below (suc n) test = test n || any_below n test

-- whether some ASCII text of at most so many characters does
unfoldable pub any_text : ℕ → (List ℕ → Bool) → Bool
any_text zero test = test []
any_text (suc n) test = test [] || any_below 128 (λ c. any_text n (λ s. test (c ∷ s)))

-- whether some name by a rule does, of those with at most eight characters
abbrev pub any_name : NameRule → (List ℕ → Bool) → Bool
any_name rule test = any_text 8 (λ s. is_none (name_fault rule s) && test s)

abbrev pub any_qualifier : Qualifier → (List ℕ → Bool) → Bool
any_qualifier (Word text) test = test text
any_qualifier AnyUnit test = any_name unit_rule test
any_qualifier AnyConsole test = any_name console_rule test

-- whether some resource of a form passes a test of its qualifiers
abbrev pub any_resource : List Qualifier → (List (List ℕ) → Bool) → Bool
any_resource [] test = test []
any_resource (f ∷ fs) test = any_qualifier f (λ s. any_resource fs (λ r. test (s ∷ r)))

-- whether a pattern covers a resource and none of those before it does, so that it decides the resource
abbrev pub decides_parts : (pattern : List ℕ) → (before : List (List ℕ)) → List (List ℕ) → Bool
decides_parts pattern before parts = covers_parts parts pattern && not (list_any (covers_parts parts) before)

-- whether it decides a resource of a form, of one of some forms, and one about which the gate asks
abbrev pub decides_of : List ℕ → List (List ℕ) → List Qualifier → Bool
decides_of pattern before form = any_resource form (decides_parts pattern before)

abbrev pub decides : (pattern : List ℕ) → (before : List (List ℕ)) → Bool
decides pattern before =
    list_any (decides_of pattern before) fixed_forms || list_any (decides_of pattern before) named_forms
