-- A user is in a section exactly if the verdict differs about some name.
use Rattle.std.proofs.Common.{◌≡◌, ◌∙◌, ap, ap₂, sym, refl, ℕ, zero, suc, Bool, true, false, cond, ◌&&◌, List, [], ◌∷◌, Option, Some, None, map, subst}
use Rattle.std.specs.List.{slice_get}
use Rattle.std.proofs.lemmas.Option.{same_Some}
use Rattle.opc_names.specs.declared.class.Class.TheVariants.{Opercmds}
use Rattle.opc_policy_deciders.specs.declared.kind.AskedKind.{AskedKind}
use Rattle.opc_policy_deciders.specs.Decided.{AreShortest}
use Rattle.opc_policy_deciders.specs.Forms.{AskedForm, forms}
use Rattle.opc_policy_deciders.specs.Kinds.{Example, found_of, is_of_kind}
use Rattle.opc_policy_deciders.specs.Pairs.{IsDecidedByBoth}
use Rattle.opc_policy_members.specs.declared.profile.Profile.{Profile}
use Rattle.opc_answers.specs.Deciding.{decider}
use Rattle.opc_answers_may.specs.MayTexts.{name_of}
use Rattle.opc_answers_may.proofs.Placing.{decides_at_its_place}
use Rattle.opc_answers_diff.specs.declared.asked.Asked.TheVariants.{Resource}
use Rattle.opc_answers_diff.specs.declared.compared.Compared.{Compared}
use Rattle.opc_answers_diff.specs.Laws.{DiffersSomewhere, IsInSection, ListsWhoDiffers, both_say, has_line, is_known, lines_at, said_about}
use Rattle.opc_answers_diff.specs.Sections.{AreFoundAt, IsCompared, one_at, other_at}
use Rattle.opc_answers_diff.specs.Verdicts.{is_listed}
use Rattle.opc_answers_diff.proofs.Exactly.{exactly}
use Rattle.opc_answers_diff.proofs.Skipped.{and_both}

abbrev example : AskedForm → List ℕ → Example
example form resource = record { form = form; resource = resource }

module _ (kind : AskedKind) (Holds : AskedForm → List ℕ → Type 0) where
  -- a form of the kind of which something is found
  pub record Named (all : List AskedForm) : Type 0 where
    pub form : AskedForm
    pub place : ℕ
    pub among : slice_get all place ≡ Some form
    pub of_kind : is_of_kind kind form ≡ true
    pub resource : List ℕ
    pub holds : Holds form resource

  abbrev pub names : List AskedForm → List (Option (List ℕ)) → List (List ℕ)
  names all found = map name_of (found_of (is_of_kind kind) all found)

  later : (f : AskedForm) (all : List AskedForm) → Named all → Named (f ∷ all)
  later f all n =
      record { form = n.form; place = suc n.place; among = n.among; of_kind = n.of_kind; resource = n.resource; holds = n.holds }

  pub first_named : (all : List AskedForm) (found : List (Option (List ℕ))) → AreShortest Holds all found → (names all found ≡ [] → ⊥) → Named all
  first_named [] found are some = absurd (some refl)
  first_named (f ∷ all) [] are some = absurd (some refl)
  first_named (f ∷ all) (None ∷ found) are some = later f all (first_named all found are.1 some)
  first_named (f ∷ all) (Some r ∷ found) are some =
      go (is_of_kind kind f) refl some (λ more. later f all (first_named all found are.1 more))
    where
      go : (b : Bool) → is_of_kind kind f ≡ b
          → (map name_of (cond b (example f r ∷ found_of (is_of_kind kind) all found) (found_of (is_of_kind kind) all found)) ≡ [] → ⊥)
          → ((names all found ≡ [] → ⊥) → Named (f ∷ all)) → Named (f ∷ all)
      go true is some rest = record { form = f; place = zero; among = refl; of_kind = is; resource = r; holds = are.0.0 }
      go false is some rest = rest some

  pub some_named : (all : List AskedForm) (found : List (Option (List ℕ))) → AreShortest Holds all found → (place : ℕ) (form : AskedForm) (r : List ℕ)
      → slice_get all place ≡ Some form → is_of_kind kind form ≡ true → Holds form r → names all found ≡ [] → ⊥
  some_named [] found are place form r at of_kind holds none = cc
  some_named (f ∷ all) [] are place form r at of_kind holds none = absurd are
  some_named (f ∷ all) (None ∷ found) are zero form r at of_kind holds none =
      are.0 r (subst (λ g. Holds g r) (sym (same_Some f form at)) holds)
  some_named (f ∷ all) (None ∷ found) are (suc place) form r at of_kind holds none =
      some_named all found are.1 place form r at of_kind holds none
  some_named (f ∷ all) (Some x ∷ found) are zero form r at of_kind holds none =
      go (is_of_kind kind f) (ap (is_of_kind kind) (same_Some f form at) ∙ of_kind) none
    where
      go : (b : Bool) → b ≡ true
          → map name_of (cond b (example f x ∷ found_of (is_of_kind kind) all found) (found_of (is_of_kind kind) all found)) ≡ []
          → ⊥
      go true is none = cc
      go false is none = cc
  some_named (f ∷ all) (Some x ∷ found) are (suc place) form r at of_kind holds none =
      go (is_of_kind kind f) none (λ left. some_named all found are.1 place form r at of_kind holds left)
    where
      go : (b : Bool)
          → map name_of (cond b (example f x ∷ found_of (is_of_kind kind) all found) (found_of (is_of_kind kind) all found)) ≡ []
          → (names all found ≡ [] → ⊥) → ⊥
      go true none rest = cc
      go false none rest = rest none

-- ---- the profiles at two places are those that decide

pub decided_at_places : (c : Compared) (at at' : ℕ) (form : AskedForm) (r : List ℕ) → IsCompared c
    → IsDecidedByBoth c.before.policy c.after.policy (slice_get c.patterns.items at) (slice_get c.others.items at') form r
    → (one_at c at ≡ decider c.before.policy Opercmds r) × (other_at c at' ≡ decider c.after.policy Opercmds r)
decided_at_places c at at' form r is d = (
  decides_at_its_place c.before.policy c.patterns.items r at is.patterns d.by_one,
  decides_at_its_place c.after.policy c.others.items r at' is.others d.by_other,
)

true_both : (a b : Bool) → a ≡ true → b ≡ true → (a && b) ≡ true
true_both true b one other = other
true_both false b one other = cc

module _ (c : Compared) (is : IsCompared c) (kind : AskedKind) (at at' : ℕ) (found : List (Option (List ℕ))) (are : AreFoundAt c at at' found)
    (console : Option (List ℕ)) (id : List ℕ) where
  abbrev Both : AskedForm → List ℕ → Type 0
  Both = IsDecidedByBoth c.before.policy c.after.policy (slice_get c.patterns.items at) (slice_get c.others.items at')

  -- what is said at these places is what is said about a resource that is decided there
  lines_so : (form : AskedForm) (r : List ℕ) → Both form r
      → has_line (lines_at (Resource kind) c.before c.after (one_at c at) (other_at c at') console) id
      ≡ (is_known c.before c.after id && is_listed (Resource kind) console (said_about c kind r console id))
  lines_so form r d =
      let places = decided_at_places c at at' form r is d in
      exactly (Resource kind) c.before c.after (one_at c at) (other_at c at') console id
      ∙ ap₂ (λ (p q : Option Profile). is_known c.before c.after id
      && is_listed (Resource kind) console (both_say (Resource kind) c.before c.after p q console id)) places.0 places.1

  listed_then : IsInSection c kind at at' found console id → DiffersSomewhere c kind at at' console id
  listed_then section =
      let n = first_named kind Both forms found are section.0 in
      let both = and_both _ _ (sym (lines_so n.form n.resource n.holds) ∙ section.1) in
      record {
        form = n.form;
        place = n.place;
        among = n.among;
        of_kind = n.of_kind;
        resource = n.resource;
        decided = n.holds;
        known = both.0;
        differs = both.1;
      }

  differs_then : DiffersSomewhere c kind at at' console id → IsInSection c kind at at' found console id
  differs_then d = (
    λ none. some_named kind Both forms found are d.place d.form d.resource d.among d.of_kind d.decided none,
    lines_so d.form d.resource d.decided ∙ true_both _ _ d.known d.differs,
  )

pub lists_who_differs : ListsWhoDiffers
lists_who_differs c is kind at at' found are console id =
    (listed_then c is kind at at' found are console id, differs_then c is kind at at' found are console id)
