-- What the queries of the search read: the profiles of a class, of all heads or of one, in the order of their keys.
use Rattle.std.proofs.Common.{◌≡◌, inl, inr, ℕ, List, [], ◌∷◌, ◌++◌, filter, find, Bool, true, refl, sym, ap₂, subst, ◌∙◌, ◌&&◌, append_assoc, Some, None}
use Rattle.std.specs.Str.{bytes_eq}
use Rattle.sqlite_trees.specs.declared.store.Store.{Ghosts}
use Rattle.sqlite.specs.Order.{Row}
use Rattle.sqlite.specs.declared.types.Value.TheVariants.{Text}
use Rattle.sqlite.specs.Effect.{Database}
use Rattle.sqlite.specs.Held.{Held, state}
use Rattle.sqlite.specs.Given.{HasGiven, HasBegun}
use Rattle.sqlite.specs.Ops.{binary, is_true}
use Rattle.sqlite.specs.Term.{col, op2}
use Rattle.sqlite_sql.specs.declared.ops.BinaryOp.TheVariants.{Compare}
use Rattle.sqlite_sql.specs.declared.ops.CompareOp.TheVariants.{Eq}
use Rattle.sqlite_value.specs.declared.keys.Collation.TheVariants.{Binary}
use Rattle.sqlite_tied.specs.Compute.{everything}
use Rattle.sqlite.specs.Listing.{understood}
use Rattle.sqlite.specs.State.{Shown, Begins, IsUnchanged}
use Rattle.opc_store_sql.specs.Steps.{NeverWrites}
use Rattle.opc_store_sql.specs.Taken.{taken_for}
use Rattle.opc_store_sql.proofs.Asked.{Asked, IsAsked, returned, returned_first}
use Rattle.opc_store_sql.proofs.Values.{equal_texts, and_true, same_texts}
use Rattle.opc_store_sql.proofs.Streams.{HasTaken, TakesOn, takes_on, taken_all}
use Rattle.opc_names.specs.declared.class.Class.{Class}
use Rattle.opc_names.specs.Authority.{same_class}
use Rattle.opc_names.specs.Spellings.{class_text}
use Rattle.opc_policy_members.specs.declared.profile.Profile.{Profile}
use Rattle.opc_policy_members.specs.Profiles.{of_class, profile_cmp}
use Rattle.opc_policy.specs.Examined.{head_of, with_head, is_chosen}
use Rattle.opc_policy.proofs.FirstCovering.{filter_both}
use Rattle.opc_store_profiles.proofs.ProfileLoads.{by_class, by_class_asked, class_is, class_params, class_returned, in_class, profiles_rise}
use Rattle.opc_state.specs.State.{State}
use Rattle.opc_store_search.specs.declared.search.TheConstants.{BY_HEAD}
use Rattle.opc_store_search.specs.Search.{chosen, Selects}
use Rattle.opc_store_schema.specs.Represented.{Represents, profile_row}

-- ---- with a head

abbrev pub by_head : Asked
by_head = record by_class { text = BY_HEAD.now; tests = op2 (Compare Eq Binary) (col 1 1) (col 0 0) ∷ op2 (Compare Eq Binary) (col 1 7) (col 0 1) ∷ [] }

pub by_head_asked : IsAsked by_head
unfolding understood everything
by_head_asked = record { selects = refl; unlisted = refl; plain = (refl, refl); shows = λ schema base. refl }

abbrev pub head_params : Class → List ℕ → Row
head_params class head = Text (class_text class) ∷ Text head ∷ []

-- the profiles of a class and with a head, as one choice
pub chosen_by_head : (class : Class) (head : List ℕ) (ps : List Profile) → with_head head (of_class class ps) ≡ filter (is_chosen class (Some head)) ps
chosen_by_head class head ps = filter_both (λ (p : Profile). same_class p.class class) (λ (p : Profile). bytes_eq (head_of p) head) ps

module _ (class : Class) (head : List ℕ) where
  picks : (p : Profile) → (is_true (binary (Compare Eq Binary) (Text (class_text p.class)) (Text (class_text class)))
      && (is_true (binary (Compare Eq Binary) (Text (head_of p)) (Text head)) && true)) ≡ is_chosen class (Some head) p
  picks p = ap₂ (λ a b. a && b) (equal_texts (class_text p.class) (class_text class) ∙ class_is p.class class) (and_true _ ∙ same_texts (head_of p) head)

  -- the query selects the profiles of the class and with the head
  pub selects_chosen : {S : Type 0} (g : Ghosts S) → Selects g by_head.text (head_params class head) (chosen class head)
  selects_chosen g = record {
    begins = λ h s was. returned_first by_head (head_params class head) refl profile_row profile_cmp (λ _. refl)
        profiles_rise (is_chosen class (Some head)) picks by_head_asked (state g h) was.rows.schema s.policy.profiles
        was.ordered.profiles was.rows.holds.profiles;
    shows = λ h k s was. returned by_head (head_params class head) refl profile_row profile_cmp (λ _. refl) profiles_rise
        (is_chosen class (Some head)) picks by_head_asked (state g h) (state g k) was.rows.schema s.policy.profiles
        was.ordered.profiles was.rows.holds.profiles;
  }

-- ---- of a class

module _ (class : Class) where
  -- the query selects the profiles of the class
  pub selects_class : {S : Type 0} (g : Ghosts S) → Selects g by_class.text (class_params class) (λ s. of_class class s.policy.profiles)
  selects_class g = record {
    begins = λ h s was. returned_first by_class (class_params class) refl profile_row profile_cmp (λ _. refl) profiles_rise
        (λ p. same_class p.class class) (in_class class) by_class_asked (state g h) was.rows.schema s.policy.profiles
        was.ordered.profiles was.rows.holds.profiles;
    shows = λ h k s was. class_returned class (state g h) (state g k) s was;
  }

-- ---- rows that are taken one at a time

module _ {S : Type 0} (g : Ghosts S) (sql : List ℕ) (params : Row) (select : State → List Profile) (selects : Selects g sql params select) (p : Profile → Bool)
    (old now : Held S) (s : State) (was : Represents (state g old).now s)
    (same : IsUnchanged (state g old) (state g now)) (given : List Row) (n : ℕ)
    (taken : HasTaken profile_row p (select s) given n) where
  still : Represents (state g now).now s
  still = subst (λ (d : Database). Represents d s) (sym same.0.now_is) was

  pub next_profile : (y : Row) → Begins sql params (state g now) (given ++ y ∷ []) → TakesOn profile_row p (select s) given y n
  next_profile y h =
      let b = selects.begins now s still (given ++ y ∷ []) h in
      takes_on profile_row p (select s) given b.0 y n taken (b.1 ∙ append_assoc given (y ∷ []) b.0)

  pub no_profile : (new : Held S) → Shown sql params (state g now) (state g new) given → (None ≡ find p (select s)) × (n ≡ taken_for p (select s))
  no_profile new h = taken_all profile_row p (select s) given n taken (sym (selects.shows now new s still given h))

-- a query that never writes has begun
pub begun_quiet : {S : Type 0} (g : Ghosts S) (sql : List ℕ) (params : Row) (old new : Held S) → NeverWrites sql
    → HasBegun g sql params old new → HasGiven g sql params new [] × IsUnchanged (state g old) (state g new)
begun_quiet g sql params old new quiet (inl h) = h
begun_quiet g sql params old new quiet (inr h) = absurd (quiet old.schema h.0)
