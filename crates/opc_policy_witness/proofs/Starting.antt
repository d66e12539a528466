-- Patterns that cannot cover a resource which begins with some qualifiers.
use Rattle.std.proofs.Common.{
  ◌≡◌,
  ◌≢◌,
  ℕ,
  ◌-◌,
  ◌<◌,
  ◌≤◌,
  Bool,
  true,
  false,
  ◌&&◌,
  ◌||◌,
  List,
  [],
  ◌∷◌,
  ◌++◌,
  Option,
  Some,
  None,
  drop,
  get_or,
  is_some,
  length,
  map,
  refl,
  ap,
  sym,
  ◌∙◌,
}
use Rattle.std.specs.Prelude.{if◌then◌else◌, not}
use Rattle.std.specs.List.{list_all, list_any}
use Rattle.std.specs.Option.{option_map}
use Rattle.opc_names.specs.declared.token.Token.{Token}
use Rattle.opc_names.specs.declared.token.Token.TheVariants.{Literal, Percent, Star, Stars}
use Rattle.opc_names.specs.Names.{qualifiers}
use Rattle.opc_names.specs.Patterns.{ends_in_star, is_empty, tokens}
use Rattle.opc_policy_witness.specs.declared.forms.FormQualifier.{FormQualifier}
use Rattle.opc_policy_witness.specs.declared.pieces.FormPiece.{FormPiece}
use Rattle.opc_policy_witness.specs.Forms.{pieces_of, places}
use Rattle.opc_policy_witness.specs.Masks.{fits_one, may_stand_all}
use Rattle.opc_policy_witness.specs.Pieces.{behind, cell_of, filled, mask_of, masks_of, may_begin, open_mask, size, spread}
use Rattle.opc_policy_witness.specs.Witness.{NonePlaced, covers_parts, lies_between}
use Rattle.opc_policy_witness.proofs.Covering.{and_false, covers_fits}
use Rattle.opc_policy_witness.proofs.Joining.{places_long, stands_long}
use Rattle.opc_policy_witness.proofs.Spreading.{spread_behind}

mapped : {A B : Type 0} (f : A → B) (o : Option A) → is_some (option_map f o) ≡ is_some o
mapped f None = refl
mapped f (Some x) = refl

pub width_behind : (q : List ℕ) (n d : ℕ) → 1 ≤ length q → get_or q 0 d ≢ 42 → 0 < n
    → is_some (spread (tokens (drop 1 q)) (n - 1)) ≡ is_some (spread (tokens q) n)
width_behind q n d h k some =
    sym (mapped (λ mask. (cell_of (get_or q 0 d) ∷ []) ++ mask) (spread (tokens (drop 1 q)) (n - 1)))
    ∙ ap is_some (spread_behind q [] (cell_of (get_or q 0 d) ∷ []) n d h k some refl)
    ∙ mapped (λ mask. [] ++ mask) (spread (tokens q) n)

-- ---- no masks

none_behind : (m : Option (List (Option ℕ))) (last begins : Bool) (opened : List (Option ℕ)) (masks : List (List (Option ℕ)))
    → (is_some m && (last || begins)) ≡ false → (begins ≡ false → masks ≡ []) → behind m (if last then opened ∷ [] else masks) ≡ []
none_behind None last begins opened masks h rest = refl
none_behind (Some x) true begins opened masks h rest = absurd (cc)
none_behind (Some x) false true opened masks h rest = absurd (cc)
none_behind (Some x) false false opened masks h rest = ap (map (λ r. x ++ r)) (rest refl)

no_masks : (p : List (List Token)) (pieces more : List FormPiece) → may_begin p pieces ≡ false → masks_of p (pieces ++ more) ≡ []
no_masks p [] more h = absurd (cc)
no_masks [] (piece ∷ pieces) more h = refl
no_masks ((Stars ∷ q) ∷ p) (piece ∷ pieces) more h = absurd (cc)
no_masks ([] ∷ p) (piece ∷ pieces) more h =
    none_behind (mask_of [] piece) (is_empty p && false) (may_begin p pieces) (open_mask (pieces ++ more)) (masks_of p (pieces ++ more)) h
    (λ e. no_masks p pieces more e)
no_masks ((Literal c ∷ q) ∷ p) (piece ∷ pieces) more h =
    none_behind (mask_of (Literal c ∷ q) piece) (is_empty p && ends_in_star (Literal c ∷ q)) (may_begin p pieces) (open_mask (pieces ++ more))
    (masks_of p (pieces ++ more)) h (λ e. no_masks p pieces more e)
no_masks ((Percent ∷ q) ∷ p) (piece ∷ pieces) more h =
    none_behind (mask_of (Percent ∷ q) piece) (is_empty p && ends_in_star (Percent ∷ q)) (may_begin p pieces) (open_mask (pieces ++ more))
    (masks_of p (pieces ++ more)) h (λ e. no_masks p pieces more e)
no_masks ((Star ∷ q) ∷ p) (piece ∷ pieces) more h =
    none_behind (mask_of (Star ∷ q) piece) (is_empty p && ends_in_star (Star ∷ q)) (may_begin p pieces) (open_mask (pieces ++ more))
    (masks_of p (pieces ++ more)) h (λ e. no_masks p pieces more e)

-- ---- no resources

pub not_covered : (p : List ℕ) (pieces more : List FormPiece) (s : List ℕ) → may_begin (map tokens (qualifiers p)) pieces ≡ false
    → length s ≡ size (pieces ++ more) → covers_parts (filled (pieces ++ more) s) p ≡ false
not_covered p pieces more s h long =
    covers_fits (map tokens (qualifiers p)) (pieces ++ more) s long
    ∙ ap (λ masks. fits_one masks s) (no_masks (map tokens (qualifiers p)) pieces more h)

none_cover : (include : List (List ℕ)) (pieces more : List FormPiece) (s : List ℕ)
    → list_all (λ p. may_begin (map tokens (qualifiers p)) pieces) include ≡ false → length s ≡ size (pieces ++ more)
    → list_all (covers_parts (filled (pieces ++ more) s)) include ≡ false
none_cover [] pieces more s h long = absurd (cc)
none_cover (p ∷ include) pieces more s h long =
    go (may_begin (map tokens (qualifiers p)) pieces) refl h (λ e. none_cover include pieces more s e long)
  where
    go : (b : Bool) → may_begin (map tokens (qualifiers p)) pieces ≡ b
        → (b && list_all (λ x. may_begin (map tokens (qualifiers x)) pieces) include) ≡ false
        → (list_all (λ x. may_begin (map tokens (qualifiers x)) pieces) include ≡ false
        → list_all (covers_parts (filled (pieces ++ more) s)) include ≡ false)
        → (covers_parts (filled (pieces ++ more) s) p && list_all (covers_parts (filled (pieces ++ more) s)) include) ≡ false
    go false is all rest =
        ap (λ b. b && list_all (covers_parts (filled (pieces ++ more) s)) include) (not_covered p pieces more s is long)
    go true is all rest = ap (λ b. covers_parts (filled (pieces ++ more) s) p && b) (rest all) ∙ and_false _

pub none_begin : (pieces : List FormPiece) (form : List FormQualifier) (include exclude : List (List ℕ)) (n : ℕ)
    → list_all (λ p. may_begin (map tokens (qualifiers p)) pieces) include ≡ false → NonePlaced pieces form include exclude n
none_begin pieces form include exclude n h widths s are e = by (may_stand_all (places (pieces ++ pieces_of form widths)) s) refl
  where
    by : (b : Bool) → may_stand_all (places (pieces ++ pieces_of form widths)) s ≡ b
        → (may_stand_all (places (pieces ++ pieces_of form widths)) s
        && lies_between include exclude (filled (pieces ++ pieces_of form widths) s)) ≡ false
    by false k = ap (λ b. b && lies_between include exclude (filled (pieces ++ pieces_of form widths) s)) k
    by true k =
        let long : length s ≡ size (pieces ++ pieces_of form widths) =
        stands_long (places (pieces ++ pieces_of form widths)) s k ∙ places_long (pieces ++ pieces_of form widths) in
        ap (λ b. may_stand_all (places (pieces ++ pieces_of form widths)) s
        && (b && not (list_any (covers_parts (filled (pieces ++ pieces_of form widths) s)) exclude)))
        (none_cover include pieces (pieces_of form widths) s h long)
        ∙ and_false _
