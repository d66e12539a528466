-- Lists of names, and lines with a verdict, by whether something stands there.
use Rattle.std.proofs.Common.{◌≡◌, ◌∙◌, ◌==◌, ap, sym, refl, ℕ, Bool, true, false, List, [], ◌∷◌, ◌++◌, append_assoc, length, map, arith}
use Rattle.std.proofs.lemmas.Bool.Decides.{nat_tests}
use Rattle.serde_json.specs.Data.{Data, string}
use Rattle.serde_json.specs.View.{view}
use Rattle.serde_json.specs.declared.value.Value.{Value}
use Rattle.opc_answers.specs.Json.{json_line}
use Rattle.opc_answers_may.specs.MayJson.{json_if}
use Rattle.opc_answers_may.specs.MayTexts.{line_if, line_of, under, with_name}

-- how long a list is that begins so
some_there : {A : Type 0} (x : A) (xs : List A) → (length (x ∷ xs) == 0) ≡ false
some_there x xs = grind (arith, nat_tests)

pub none_there : (0 == 0) ≡ true
none_there = refl

pub name_first : (old name new seen : List ℕ) → seen ≡ old → (length seen == 0) ≡ true → new ≡ old ++ name → new ≡ with_name old name
name_first [] name new seen is none added = added
name_first (c ∷ old) name new seen is none added = let bad : true ≡ false = sym none ∙ ap (λ (l : List ℕ). length l == 0) is ∙ some_there c old in cc

pub name_next : (old name one new seen : List ℕ) → seen ≡ old → (length seen == 0) ≡ false → one ≡ old ++ 44 ∷ [] → new ≡ one ++ name
    → new ≡ with_name old name
name_next [] name one new seen is some comma added = let bad : true ≡ false = sym none_there ∙ sym (ap (λ (l : List ℕ). length l == 0) is) ∙ some in cc
name_next (c ∷ old) name one new seen is some comma added = added ∙ ap (λ t. t ++ name) comma ∙ append_assoc (c ∷ old) (44 ∷ []) name

pub line_none : (column things : List ℕ) (b : Bool) → b ≡ (length things == 0) → b ≡ true → line_if column things ≡ []
line_none column [] b is none = refl
line_none column (c ∷ things) b is none = let bad : true ≡ false = sym none ∙ is ∙ some_there c things in cc

pub line_some : (column things : List ℕ) (b : Bool) → b ≡ (length things == 0) → b ≡ false → line_if column things ≡ line_of column things
line_some column [] b is some = let bad : true ≡ false = sym none_there ∙ sym is ∙ some in cc
line_some column (c ∷ things) b is some = refl

pub unnamed : (names : List (List ℕ)) (items : List Value) (value : Data) (b : Bool) → map view items ≡ map string names
    → b ≡ (length items == 0) → b ≡ true → json_if names value ≡ []
unnamed [] items value b are is none = refl
unnamed (name ∷ names) [] value b are is none = cc
unnamed (name ∷ names) (i ∷ items) value b are is none = let bad : true ≡ false = sym none ∙ is ∙ some_there i items in cc

pub named : (names : List (List ℕ)) (items : List Value) (value : Data) (b : Bool) → map view items ≡ map string names
    → b ≡ (length items == 0) → b ≡ false → json_if names value ≡ json_line value
named [] [] value b are is some = let bad : true ≡ false = sym none_there ∙ sym is ∙ some in cc
named [] (i ∷ items) value b are is some = cc
named (name ∷ names) items value b are is some = refl

pub under_none : (head lines : List ℕ) (b : Bool) → b ≡ (length lines == 0) → b ≡ true → under head lines ≡ []
under_none head [] b is none = refl
under_none head (c ∷ lines) b is none = let bad : true ≡ false = sym none ∙ is ∙ some_there c lines in cc

pub under_some : (head lines : List ℕ) (b : Bool) → b ≡ (length lines == 0) → b ≡ false → under head lines ≡ head ++ lines
under_some head [] b is some = let bad : true ≡ false = sym none_there ∙ sym is ∙ some in cc
under_some head (c ∷ lines) b is some = refl
