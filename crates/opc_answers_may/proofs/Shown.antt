-- Forms of which something is found, one by one.
use Rattle.std.proofs.Common.{◌≡◌, ◌≤◌, ◌<◌, ◌∙◌, ap, sym, refl, ℕ, Bool, true, false, List, [], ◌∷◌, ◌++◌, append_assoc, Option, Some, None, Result, Ok, Err, drop, get_or, length, string_bytes, string_cmp, String, Global, map, arith}
use Rattle.std.specs.BTreeMap.{insert_entry}
use Rattle.std.specs.Option.{is_some}
use Rattle.std.proofs.lemmas.Option.{same_Some}
use Rattle.std.specs.Prelude.{OnOk, if◌then◌else◌}
use Rattle.serde_json.proofs.Views.{Entry, members_view-insert_entry}
use Rattle.serde_json.specs.Data.{Data, Members, put, string}
use Rattle.serde_json.specs.View.{members_view, view}
use Rattle.serde_json.specs.declared.value.Value.{Value}
use Rattle.opc_policy_deciders.specs.declared.form.ResourceForm.{ResourceForm}
use Rattle.opc_policy_deciders.specs.Forms.{AskedForm, asked}
use Rattle.opc_policy_deciders.specs.Kinds.{Example}
use Rattle.opc_answers_may.specs.declared.commands.FormsAsked.{FormsAsked}
use Rattle.opc_answers_may.specs.Commands.{shown, takes}
use Rattle.opc_answers_may.specs.MayJson.{with_examples}
use Rattle.opc_answers_may.specs.MayTexts.{name_of, with_name, with_names}

pub on_ok : {T E : Type 0} (result : Result T E) (P Q : Type 0) → OnOk result P → (P → Q) → OnOk result Q
on_ok (Ok v) P Q h f = f h
on_ok (Err e) P Q h f = tt

-- ---- one form

pub not_found : (which : FormsAsked) (form : AskedForm) (found : Option (List ℕ)) → is_some found ≡ false
    → shown which (form ∷ []) (found ∷ []) ≡ []
not_found which form None is = refl
not_found which form (Some resource) is = cc

pub not_taken : (which : FormsAsked) (form : AskedForm) (found : Option (List ℕ)) → takes which form ≡ false
    → shown which (form ∷ []) (found ∷ []) ≡ []
not_taken which form None is = refl
not_taken which form (Some resource) is = rw is refl

abbrev one_of : (form : AskedForm) → List ℕ → Example
one_of form resource = record { form = form; resource = resource }

pub taken : (which : FormsAsked) (form : AskedForm) (resource : List ℕ) → takes which form ≡ true
    → shown which (form ∷ []) (Some resource ∷ []) ≡ one_of form resource ∷ []
taken which form resource is = rw is refl

pub name_taken : (which : FormsAsked) (form : AskedForm) (found : Option (List ℕ)) → is_some found ≡ true → takes which form ≡ true
    → map name_of (shown which (form ∷ []) (found ∷ [])) ≡ form.name ∷ []
name_taken which form None is takes = cc
name_taken which form (Some resource) is takes = ap (map name_of) (taken which form resource takes)

pub text_put : (old new : List Entry) (key : String Global) (value : Value) (name text : List ℕ) → new ≡ insert_entry string_cmp old key value
    → string_bytes key ≡ name → view value ≡ string text → members_view new ≡ put name (string text) (members_view old)
text_put old new key value name text is named said =
    ap members_view is ∙ members_view-insert_entry old key value ∙ ap (λ k. put k (view value) (members_view old)) named
    ∙ ap (λ d. put name d (members_view old)) said

pub example_put : (which : FormsAsked) (form : AskedForm) (found : Option (List ℕ)) (resource : List ℕ) (old new : Members)
    → found ≡ Some resource → takes which form ≡ true → new ≡ put form.name (string resource) old
    → new ≡ with_examples old (shown which (form ∷ []) (found ∷ []))
example_put which form None resource old new is takes added = cc
example_put which form (Some other) resource old new is takes added =
    added ∙ ap (λ r. put form.name (string r) old) (sym (same_Some other resource is))
    ∙ sym (ap (with_examples old) (taken which form other takes))

-- ---- and those after it

step : (b : Bool) (e : Example) (rest : List Example) → (if b then e ∷ rest else rest) ≡ (if b then e ∷ [] else []) ++ rest
step true e rest = refl
step false e rest = refl

first_and_rest : (which : FormsAsked) (form : AskedForm) (forms : List AskedForm) (found : Option (List ℕ))
    (list : List (Option (List ℕ))) → shown which (form ∷ forms) (found ∷ list)
    ≡ shown which (form ∷ []) (found ∷ []) ++ shown which forms list
first_and_rest which form forms None list = refl
first_and_rest which form forms (Some resource) list = step (takes which form) (one_of form resource) (shown which forms list)

pub by_first : (which : FormsAsked) (forms : List ResourceForm) (d : ResourceForm) (found : List (Option (List ℕ))) (first : Option (List ℕ))
    → 1 ≤ length forms → 1 ≤ length found → first ≡ get_or found 0 first → shown which (map asked forms) found
    ≡ shown which (asked (get_or forms 0 d) ∷ []) (first ∷ []) ++ shown which (map asked (drop 1 forms)) (drop 1 found)
by_first which [] d found first some more is = absurd (omega (arith, some))
by_first which (form ∷ forms) d [] first some more is = absurd (omega (arith, more))
by_first which (form ∷ forms) d (o ∷ found) first some more is =
    first_and_rest which (asked form) (map asked forms) o found
    ∙ ap (λ f. shown which (asked form ∷ []) (f ∷ []) ++ shown which (map asked forms) found) (sym is)

pub none_left : (which : FormsAsked) (forms : List ResourceForm) (found : List (Option (List ℕ))) → length forms < 1
    → shown which (map asked forms) found ≡ []
none_left which [] found none = refl
none_left which (form ∷ forms) found none = absurd (omega (arith, none))

pub none_found : (which : FormsAsked) (forms : List ResourceForm) (found : List (Option (List ℕ))) → length found < 1
    → shown which (map asked forms) found ≡ []
none_found which [] found none = refl
none_found which (form ∷ forms) [] none = refl
none_found which (form ∷ forms) (o ∷ found) none = absurd (omega (arith, none))

-- ---- what is made of them

map_both : {A B : Type 0} (f : A → B) (xs ys : List A) → map f (xs ++ ys) ≡ map f xs ++ map f ys
map_both f [] ys = refl
map_both f (x ∷ xs) ys = ap (λ l. f x ∷ l) (map_both f xs ys)

names_both : (text : List ℕ) (xs ys : List (List ℕ)) → with_names text (xs ++ ys) ≡ with_names (with_names text xs) ys
names_both text [] ys = refl
names_both text (x ∷ xs) ys = names_both (with_name text x) xs ys

examples_both : (ms : Members) (xs ys : List Example) → with_examples ms (xs ++ ys) ≡ with_examples (with_examples ms xs) ys
examples_both ms [] ys = refl
examples_both ms (x ∷ xs) ys = examples_both (put x.form.name (string x.resource) ms) xs ys

pub names_more : (first rest all : List Example) (old one new : List ℕ) → all ≡ first ++ rest
    → one ≡ with_names old (map name_of first) → new ≡ with_names one (map name_of rest) → new ≡ with_names old (map name_of all)
names_more first rest all old one new is begun ended =
    ended ∙ ap (λ t. with_names t (map name_of rest)) begun ∙ sym (names_both old (map name_of first) (map name_of rest))
    ∙ sym (ap (with_names old) (map_both name_of first rest)) ∙ sym (ap (λ l. with_names old (map name_of l)) is)

pub commands_more : (first rest all : List Example) (old one new : List Data) → all ≡ first ++ rest
    → one ≡ old ++ map string (map name_of first) → new ≡ one ++ map string (map name_of rest)
    → new ≡ old ++ map string (map name_of all)
commands_more first rest all old one new is begun ended =
    let f : List Example → List Data = λ l. map string (map name_of l) in
    ended ∙ ap (λ l. l ++ f rest) begun ∙ append_assoc old (f first) (f rest)
    ∙ ap (λ l. old ++ l) (sym (map_both string (map name_of first) (map name_of rest)) ∙ sym (ap (map string) (map_both name_of first rest)))
    ∙ sym (ap (λ l. old ++ f l) is)

pub examples_more : (first rest all : List Example) (old one new : Members) → all ≡ first ++ rest
    → one ≡ with_examples old first → new ≡ with_examples one rest → new ≡ with_examples old all
examples_more first rest all old one new is begun ended =
    ended ∙ ap (λ ms. with_examples ms rest) begun ∙ sym (examples_both old first rest) ∙ sym (ap (with_examples old) is)
