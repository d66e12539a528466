-- Patterns that cover one resource have heads of which one begins with the other.
use Rattle.std.proofs.Common.{
  ◌≡◌,
  inl,
  inr,
  ◌∙◌,
  sym,
  refl,
  ℕ,
  Bool,
  true,
  false,
  ◌&&◌,
  List,
  [],
  ◌∷◌,
  ◌++◌,
  Option,
  length,
  arith,
}
use Rattle.opc_names.specs.Names.{IsPattern}
use Rattle.opc_names.specs.Order.{head}
use Rattle.opc_names.specs.Patterns.{covers_text, tokens}
use Rattle.opc_names.proofs.Heads.{heads_are_prefixes}
use Rattle.std.proofs.lemmas.Bool.{cases_lt}
use Rattle.opc_policy_witness.proofs.SortKeys.{begins_so}
use Rattle.opc_policy_deciders.specs.Between.{IsBetween}
use Rattle.opc_policy_deciders.specs.Decided.{AreShortest}
use Rattle.opc_policy_deciders.specs.Forms.{AskedForm}
use Rattle.opc_policy_witness.specs.Ends.{AreNearThese, NoneInCommon}
use Rattle.opc_policy_deciders.specs.Near.{AreNear}
use Rattle.opc_policy_deciders.proofs.Between.{both_true}
use Rattle.opc_policy_deciders.proofs.Listing.{all_same}

-- tests whether one head begins with the other say that nothing is in common, if both fail
pub none_in_common : (p q : List ℕ) (one other : Bool) → IsPattern p → IsPattern q
    → ((rest : List ℕ) → head (tokens p) ≡ head (tokens q) ++ rest → one ≡ true)
    → ((rest : List ℕ) → head (tokens q) ≡ head (tokens p) ++ rest → other ≡ true)
    → one ≡ false → other ≡ false → NoneInCommon p q
none_in_common p q one other valid also longer shorter not_one not_other resource covers covered =
    let first = heads_are_prefixes p resource valid covers in
    let second = heads_are_prefixes q resource also covered in
    elim (cases_lt (length (head (tokens p))) (length (head (tokens q)))) [
      | inl less ↦ (let more = begins_so (head (tokens p)) (head (tokens q)) first.0 second.0 (sym first.1 ∙ second.1) (omega (arith, less)) in
          let bad : true ≡ false = sym (shorter more.0 more.1) ∙ not_other in cc)
      | inr high ↦ (let more = begins_so (head (tokens q)) (head (tokens p)) second.0 first.0 (sym second.1 ∙ first.1) high in
          let bad : true ≡ false = sym (longer more.0 more.1) ∙ not_one in cc)
    ]

-- those of those that are near
pub nearer : (p : List ℕ) (near those before : List (List ℕ)) → AreNearThese (p ∷ []) near those → AreNear p those before → AreNear p near before
nearer p near those before one other r covers = one r (alone (covers_text p r) covers) ∙ other r covers
  where
    alone : (b : Bool) → b ≡ true → (b && true) ≡ true
    alone true h = refl
    alone false h = cc

-- ---- what lies between

pub near_so : (p : List ℕ) (near before : List (List ℕ)) (forms : List AskedForm) (list : List (Option (List ℕ)))
    → AreNear p near before → AreShortest (IsBetween (p ∷ []) near) forms list → AreShortest (IsBetween (p ∷ []) before) forms list
near_so p near before forms list as_many found =
    all_same (IsBetween (p ∷ []) near) (IsBetween (p ∷ []) before) (λ form r. (
      λ b. record {
        of_form = b.of_form;
        covered = b.covered;
        uncovered = sym (as_many r (both_true (covers_text p r) true b.covered).0) ∙ b.uncovered;
      },
      λ b. record {
        of_form = b.of_form;
        covered = b.covered;
        uncovered = as_many r (both_true (covers_text p r) true b.covered).0 ∙ b.uncovered;
      },
    )) forms list found
