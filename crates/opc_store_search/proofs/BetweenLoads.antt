-- What the query for heads between two texts reads.
use Rattle.std.proofs.Common.{◌≡◌, ◌∙◌, ℕ, List, [], ◌∷◌, map, filter, Bool, true, false, ◌&&◌, refl, sym, ap, ap₂, subst, is_ge, is_le}
use Rattle.std.specs.List.{AllByRecursion}
use Rattle.std.specs.Prelude.{Some}
use Rattle.sqlite.specs.Order.{Row, value_cmp}
use Rattle.sqlite.specs.State.{Shown, State as SqlState}
use Rattle.sqlite.specs.declared.types.Value.TheVariants.{Text}
use Rattle.sqlite.specs.Listing.{understood}
use Rattle.sqlite.specs.Ops.{binary, is_true, from_truth}
use Rattle.sqlite.specs.Term.{col, op2}
use Rattle.sqlite_sql.specs.declared.ops.BinaryOp.TheVariants.{Compare}
use Rattle.sqlite_sql.specs.declared.ops.CompareOp.TheVariants.{Eq, Ge, Le}
use Rattle.sqlite_value.specs.declared.keys.Collation.TheVariants.{Binary}
use Rattle.sqlite_value.proofs.OrderLemmas.{value_cmp-Text}
use Rattle.sqlite_tied.specs.Compute.{everything}
use Rattle.sqlite_keyed.proofs.ListLemmas.{filter-map}
use Rattle.opc_store_sql.specs.Order.{Rises, text_cmp}
use Rattle.opc_store_sql.proofs.Asked.{Asked, IsAsked, returned}
use Rattle.opc_store_sql.proofs.Values.{equal_texts, and_true}
use Rattle.opc_names.specs.declared.class.Class.{Class}
use Rattle.opc_names.specs.Names.{IsPattern}
use Rattle.opc_names.specs.Authority.{same_class}
use Rattle.opc_names.specs.Spellings.{class_text}
use Rattle.opc_policy_members.specs.declared.profile.Profile.{Profile}
use Rattle.opc_policy_members.specs.Profiles.{AreProfiles, of_class, profile_cmp}
use Rattle.opc_policy.specs.Examined.{head_of}
use Rattle.opc_policy.proofs.FirstCovering.{filter_both}
use Rattle.opc_policy.proofs.MostSpecific.{class_profiles}
use Rattle.opc_policy_shared.specs.Shared.{lies_between, with_heads_between}
use Rattle.opc_state.specs.Loads.{bare}
use Rattle.opc_state.specs.State.{State}
use Rattle.opc_store_profiles.proofs.ProfileLoads.{by_class, class_is, profiles_rise}
use Rattle.opc_store_search.proofs.Bare.{bare_are_profiles, of_class_bare}
use Rattle.opc_store_schema.specs.Represented.{Represents, profile_row}
use Rattle.opc_store_search.specs.declared.between.TheConstants.{BETWEEN}

abbrev pub between : Asked
between = record by_class {
  text = BETWEEN.now;
  tests = op2 (Compare Eq Binary) (col 1 1) (col 0 0) ∷ op2 (Compare Ge Binary) (col 1 7) (col 0 1)
      ∷ op2 (Compare Le Binary) (col 1 7) (col 0 2) ∷ [];
}

pub between_asked : IsAsked between
unfolding understood everything
between_asked = record { selects = refl; unlisted = refl; plain = (refl, refl); shows = λ schema base. refl }

abbrev between_params : Class → List ℕ → List ℕ → Row
between_params class first last = Text (class_text class) ∷ Text first ∷ Text last ∷ []

truth_is : (b : Bool) → is_true (from_truth (Some b)) ≡ b
truth_is true = refl
truth_is false = refl

at_least : (a b : List ℕ) → is_true (binary (Compare Ge Binary) (Text a) (Text b)) ≡ is_ge (text_cmp a b)
unfolding binary
at_least a b = truth_is (is_ge (value_cmp (Text a) (Text b))) ∙ ap is_ge (value_cmp-Text a b)

at_most : (a b : List ℕ) → is_true (binary (Compare Le Binary) (Text a) (Text b)) ≡ is_le (text_cmp a b)
unfolding binary
at_most a b = truth_is (is_le (value_cmp (Text a) (Text b))) ∙ ap is_le (value_cmp-Text a b)

abbrev is_between : Class → List ℕ → List ℕ → Profile → Bool
is_between class first last p = same_class p.class class && lies_between first last (head_of p)

picks : (class : Class) (first last : List ℕ) (p : Profile)
    → (is_true (binary (Compare Eq Binary) (Text (class_text p.class)) (Text (class_text class)))
    && (is_true (binary (Compare Ge Binary) (Text (head_of p)) (Text first))
    && (is_true (binary (Compare Le Binary) (Text (head_of p)) (Text last)) && true))) ≡ is_between class first last p
picks class first last p = ap₂ (λ a b. a && b) (equal_texts (class_text p.class) (class_text class) ∙ class_is p.class class)
    (ap₂ (λ a b. a && b) (at_least (head_of p) first) (and_true _ ∙ at_most (head_of p) last))

pub between_returned : (class : Class) (first last : List ℕ) (old new : SqlState) (s : State) → Represents old.now s → (rows : List Row)
    → Shown between.text (between_params class first last) old new rows
    → rows ≡ map profile_row (with_heads_between first last (of_class class s.policy.profiles))
between_returned class first last old new s was rows shown =
    returned between (between_params class first last) refl profile_row profile_cmp (λ _. refl) profiles_rise
    (is_between class first last) (picks class first last) between_asked old new was.rows.schema s.policy.profiles
    was.ordered.profiles was.rows.holds.profiles rows shown
    ∙ ap (map profile_row) (sym (filter_both (λ (p : Profile). same_class p.class class)
    (λ (p : Profile). lies_between first last (head_of p)) s.policy.profiles))

-- a head does not depend on the access list
pub between_bare : (first last : List ℕ) (ps : List Profile) → with_heads_between first last (map bare ps) ≡ map bare (with_heads_between first last ps)
between_bare first last ps = filter-map (λ (p : Profile). lies_between first last (head_of p)) bare ps

-- those of a class are profiles
pub class_bare_are_profiles : (class : Class) (ps : List Profile) → AllByRecursion (λ (p : Profile). IsPattern p.pattern) ps
    → Rises profile_cmp ps → AreProfiles (map bare (of_class class ps))
class_bare_are_profiles class ps patterns up =
    subst AreProfiles (of_class_bare class ps) (class_profiles (map bare ps) class (bare_are_profiles ps patterns up))
