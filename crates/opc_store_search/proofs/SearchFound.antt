-- What the search found for one head, with its access list.
use Rattle.std.proofs.Common.{◌≡◌, ◌∙◌, ℕ, List, find, filter, length, Option, Some, None, option_map, Result, Ok, Err, IfOk, refl, sym, ap, subst}
use Rattle.sqlite_keyed.proofs.ListLemmas.{all-filter}
use Rattle.opc_store_sql.specs.Taken.{taken_for}
use Rattle.opc_store_sql.proofs.Parts.{found_one}
use Rattle.opc_names.specs.declared.class.Class.{Class}
use Rattle.opc_policy_members.specs.declared.entry.Entry.{Entry}
use Rattle.opc_policy_members.specs.declared.profile.Profile.{Profile}
use Rattle.opc_policy.specs.Deciding.{deciding}
use Rattle.opc_policy.specs.Examined.{is_chosen, read_until}
use Rattle.opc_policy_members.specs.Profiles.{profile_of}
use Rattle.opc_policy.proofs.FirstCovering.{chosen_order}
use Rattle.opc_state.specs.Loads.{bare}
use Rattle.opc_state.specs.State.{State}
use Rattle.opc_store_search.specs.Search.{covers}
use Rattle.opc_store_schema.specs.State.{IsOrdered}
use Rattle.opc_store_schema.proofs.Decoded.{each_found}
use Rattle.opc_store_search.proofs.FirstDeciding.{Decides, first_decides, most_specific_first}

-- what holds of a success
pub on_success : {T E : Type 0} {P Q : T → Type 0} (r : Result T E) → IfOk r P → ((x : T) → P x → Q x) → IfOk r Q
on_success (Ok x) h more = more x h
on_success (Err e) h more = tt

-- on a condition that a success may require
pub on_clean : {T E : Type 0} {P Q : T → Type 0} (r : Result T E) (clean : Type 0) → (clean → IfOk r P) → ((x : T) → P x → Q x) → IfOk r (λ x. clean → Q x)
on_clean (Ok x) clean h more = λ c. more x (h c)
on_clean (Err e) clean h more = tt

pub on_clean_both : {T E : Type 0} {P Q R : T → Type 0} (r : Result T E) (clean : Type 0) → (clean → IfOk r P)
    → (clean → IfOk r Q) → ((x : T) → P x → Q x → R x) → IfOk r (λ x. clean → R x)
on_clean_both (Ok x) clean p q more = λ c. more x (p c) (q c)
on_clean_both (Err e) clean p q more = tt

-- ---- the profiles of a class, of all heads or with one

module _ (s : State) (ordered : IsOrdered s) (class : Class) (head : Option (List ℕ)) (resource : List ℕ) where
  abbrev ps : List Profile
  ps = s.policy.profiles

  abbrev pub asked : List Profile
  asked = filter (is_chosen class head) ps

  abbrev first : Option Profile
  first = find (covers resource) asked

  pub decided : Decides resource asked
  decided = first_decides resource asked (chosen_order class head ps (most_specific_first ps ordered.profiles))

  decides : first ≡ deciding asked resource
  decides = decided.decides

  reads : (n : ℕ) → n ≡ taken_for (covers resource) asked → n ≡ length (read_until first asked)
  reads n is = is ∙ decided.reads

  module _ (n : ℕ) (many : n ≡ taken_for (covers resource) asked) where
    -- none was found
    pub found_none : None ≡ option_map bare first → (None ≡ deciding asked resource) × (n ≡ length (read_until None asked))
    found_none is = go first refl is
      where
        go : (o : Option Profile) → first ≡ o → None ≡ option_map bare o → (None ≡ deciding asked resource) × (n ≡ length (read_until None asked))
        go None e h = (sym e ∙ decides, reads n many ∙ ap (λ (o : Option Profile). length (read_until o asked)) e)
        go (Some d) e h = absurd cc

    -- one was found, but without its access list
    pub record Whole (q : Profile) : Type 0 where
      pub d : Profile
      pub is : q ≡ bare d
      pub here : profile_of ps q.class q.pattern ≡ Some d
      pub decides : Some d ≡ deciding asked resource
      pub reads : n ≡ length (read_until (Some d) asked)

    pub found_some : (q : Profile) → Some q ≡ option_map bare first → Whole q
    found_some q is = go first refl is
      where
        go : (o : Option Profile) → first ≡ o → Some q ≡ option_map bare o → Whole q
        go None e h = absurd cc
        go (Some d) e h =
            let same : q ≡ bare d = cc in
            let mine : profile_of ps d.class d.pattern ≡ Some d =
            found_one (λ (p : Profile). profile_of ps p.class p.pattern ≡ Some p) (covers resource) asked d
            (all-filter (λ (p : Profile). profile_of ps p.class p.pattern ≡ Some p) (is_chosen class head) ps
            (each_found ps ordered.profiles)) e in
            record {
              d = d;
              is = same;
              here = subst (λ (p : Profile). profile_of ps p.class p.pattern ≡ Some d) (sym same) mine;
              decides = sym e ∙ decides;
              reads = reads n many ∙ ap (λ (o : Option Profile). length (read_until o asked)) e;
            }

    -- with its access list it is whole
    pub whole : (q : Profile) (w : Whole q) (entries : List Entry) → entries ≡ w.d.entries → record q { entries = entries } ≡ w.d
    whole q w entries are = λ i. record (w.is i) { entries = are i }
