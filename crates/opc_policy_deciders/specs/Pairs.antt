-- Which resources are decided by one profile of a policy and by one of another, form by form.
use Rattle.std.specs.Prelude.{◌≡◌, ◌++◌, ℕ, Bool, true, List, Option}
use Rattle.std.specs.List.{list_all, list_any}
use Rattle.std.specs.Str.{bytes_eq}
use Rattle.opc_names.specs.Names.{qualifiers}
use Rattle.opc_names.specs.Patterns.{covers_text}
use Rattle.opc_policy_members.specs.declared.policy.Policy.{Policy}
use Rattle.opc_policy_deciders.specs.Decided.{deciding_pattern}
use Rattle.opc_policy_deciders.specs.Forms.{AreOf, AskedForm}
use Rattle.opc_policy_deciders.specs.Near.{CoverAsMany}

-- A resource of a form that the profiles of these patterns decide, one by each policy. Without a pattern, no profile of
-- that policy does.
pub record IsDecidedByBoth (one other : Policy) (p q : Option (List ℕ)) (form : AskedForm) (resource : List ℕ) : Type 0 where
  pub of_form : AreOf form.qualifiers (qualifiers resource)
  pub by_one : deciding_pattern one resource ≡ p
  pub by_other : deciding_pattern other resource ≡ q

-- Of resources that all of these patterns cover, some cover as many as others.
abbrev pub AreNearAll : (include these those : List (List ℕ)) → Type 0
AreNearAll include these those =
    CoverAsMany (λ resource. list_all (λ (p : List ℕ). covers_text p resource) include ≡ true) these those

-- a resource begins with a text
abbrev pub BeginsWith : (text resource : List ℕ) → Type 0
BeginsWith text resource = (rest : List ℕ) × (resource ≡ text ++ rest)

-- all does that these patterns all cover
abbrev pub BeginAll : (include : List (List ℕ)) → (text : List ℕ) → Type 0
BeginAll include text = (resource : List ℕ) → list_all (λ (p : List ℕ). covers_text p resource) include ≡ true
    → BeginsWith text resource

-- of resources that begin with a text, some patterns cover as many as others
abbrev pub AreNearText : (text : List ℕ) → (these those : List (List ℕ)) → Type 0
AreNearText text these those = CoverAsMany (BeginsWith text) these those

-- these patterns all cover what those all cover
abbrev pub CoverAlike : (these those : List (List ℕ)) → Type 0
CoverAlike these those = (resource : List ℕ) → list_all (λ (p : List ℕ). covers_text p resource) these
    ≡ list_all (λ (p : List ℕ). covers_text p resource) those

-- No resource of any form is decided by both.
abbrev pub NoneDecidedByBoth : (one other : Policy) (p q : Option (List ℕ)) → Type 0
NoneDecidedByBoth one other p q = (form : AskedForm) (resource : List ℕ) → IsDecidedByBoth one other p q form resource → ⊥

-- for each of some patterns, whether it is among others
abbrev pub is_among : List (List ℕ) → List ℕ → Bool
is_among others p = list_any (bytes_eq p) others
