-- The words with which a form begins.
use Rattle.std.proofs.Common.{
  ◌≡◌,
  ◌≢◌,
  ℕ,
  ◌+◌,
  ◌-◌,
  ◌≤◌,
  Bool,
  true,
  false,
  not,
  cond,
  ◌||◌,
  List,
  [],
  ◌∷◌,
  ◌++◌,
  length,
  map,
  append-nil,
  append_assoc,
  ap,
  refl,
  sym,
  ◌∙◌,
  subst,
  arith,
}
use Rattle.std.specs.Prelude.{filter}
use Rattle.std.specs.List.{AllByRecursion, list_any}
use Rattle.opc_names.specs.Names.{qualifiers}
use Rattle.opc_names.specs.Patterns.{covers_text, tokens}
use Rattle.opc_policy_witness.specs.declared.forms.FormQualifier.{FormQualifier}
use Rattle.opc_policy_witness.specs.declared.forms.FormQualifier.TheVariants.{Word, AnyUnit, AnyConsole}
use Rattle.opc_policy_witness.specs.declared.pieces.FormPiece.{FormPiece}
use Rattle.opc_policy_witness.specs.declared.pieces.FormPiece.TheVariants as piece
use Rattle.opc_policy_witness.specs.Ends.{AllCover, NoneCoveredByAll}
use Rattle.opc_policy_witness.specs.Forms.{
  AreOf,
  AreWidths,
  IsFine,
  behind_words,
  first_words,
  most_of_all,
  most_size,
  pieces_of,
  places,
  total,
}
use Rattle.opc_policy_witness.specs.Pieces.{filled, may_begin, size}
use Rattle.opc_policy_witness.specs.Witness.{IsFinePiece, IsPlaced, IsWitness, NonePlaced, covers_parts, is_found, room}
use Rattle.opc_policy_witness.proofs.Joining.{places_long, stands_long}
use Rattle.opc_policy_witness.proofs.Placing.{placed_more}
use Rattle.opc_policy_witness.proofs.Sizes.{all_cover, all_spelled, cover_none, none_cover, witness_found}
use Rattle.opc_policy_witness.proofs.Starting.{not_covered}

-- ---- what is placed behind them

pub placed_led : (form : List FormQualifier) (pieces : List FormPiece) (include exclude : List (List ℕ)) (n : ℕ) (r : List ℕ)
    → IsPlaced (pieces ++ first_words form) (behind_words form) include exclude n r → IsPlaced pieces form include exclude n r
placed_led [] pieces include exclude n r p = subst (λ ps. IsPlaced ps [] include exclude n r) (append-nil pieces) p
placed_led (AnyUnit ∷ form) pieces include exclude n r p =
    subst (λ ps. IsPlaced ps (AnyUnit ∷ form) include exclude n r) (append-nil pieces) p
placed_led (AnyConsole ∷ form) pieces include exclude n r p =
    subst (λ ps. IsPlaced ps (AnyConsole ∷ form) include exclude n r) (append-nil pieces) p
placed_led (Word text ∷ form) pieces include exclude n r p =
    let same : pieces ++ piece.Word text ∷ first_words form ≡ (pieces ++ piece.Word text ∷ []) ++ first_words form =
    sym (append_assoc pieces (piece.Word text ∷ []) (first_words form)) in
    let rest : IsPlaced (pieces ++ piece.Word text ∷ []) form include exclude n r =
    placed_led form (pieces ++ piece.Word text ∷ []) include exclude n r
    (subst (λ ps. IsPlaced ps (behind_words form) include exclude n r) same p) in
    let all : n ≡ n - 0 = omega arith in
    placed_more pieces include exclude (Word text ∷ form) n 0 AnyUnit (pieces ++ piece.Word text ∷ []) r (omega arith) (omega arith) (omega arith)
    (omega arith) refl (subst (λ k. IsPlaced (pieces ++ piece.Word text ∷ []) form include exclude k r) all rest)

pub none_led : (form : List FormQualifier) (pieces : List FormPiece) (include exclude : List (List ℕ)) (n : ℕ)
    → NonePlaced (pieces ++ first_words form) (behind_words form) include exclude n → NonePlaced pieces form include exclude n
none_led [] pieces include exclude n h widths s a e =
    subst (λ ps. NonePlaced ps [] include exclude n) (append-nil pieces) h widths s a e
none_led (AnyUnit ∷ form) pieces include exclude n h widths s a e =
    subst (λ ps. NonePlaced ps (AnyUnit ∷ form) include exclude n) (append-nil pieces) h widths s a e
none_led (AnyConsole ∷ form) pieces include exclude n h widths s a e =
    subst (λ ps. NonePlaced ps (AnyConsole ∷ form) include exclude n) (append-nil pieces) h widths s a e
none_led (Word text ∷ form) pieces include exclude n h [] s a e = absurd a
none_led (Word text ∷ form) pieces include exclude n h (w ∷ widths) s a e =
    let same : pieces ++ piece.Word text ∷ first_words form ≡ (pieces ++ piece.Word text ∷ []) ++ first_words form =
    sym (append_assoc pieces (piece.Word text ∷ []) (first_words form)) in
    let few = a.1 in
    let sum : total widths ≡ n = omega (arith, e, few) in
    let rest : is_found ((pieces ++ piece.Word text ∷ []) ++ pieces_of form widths) include exclude s ≡ false =
    none_led form (pieces ++ piece.Word text ∷ []) include exclude n
    (subst (λ ps. NonePlaced ps (behind_words form) include exclude n) same h) widths s a.2 sum in
    subst (λ ps. is_found ps include exclude s ≡ false) (append_assoc pieces (piece.Word text ∷ []) (pieces_of form widths)) rest

module _ (form rest : List FormQualifier) (words : List FormPiece) (include exclude : List (List ℕ)) (n : ℕ) (first : words ≡ first_words form)
    (behind : rest ≡ behind_words form) where
  pub placed_first : (r : List ℕ) → IsPlaced words rest include exclude n r → IsPlaced [] form include exclude n r
  placed_first r p =
      placed_led form [] include exclude n r (subst (λ ps. IsPlaced ps (behind_words form) include exclude n r) first
      (subst (λ fs. IsPlaced words fs include exclude n r) behind p))

  pub none_first : NonePlaced words rest include exclude n → NonePlaced [] form include exclude n
  none_first h =
      none_led form [] include exclude n (subst (λ ps. NonePlaced ps (behind_words form) include exclude n) first
      (subst (λ fs. NonePlaced words fs include exclude n) behind h))

pub none_at_all : (form : List FormQualifier) (include exclude : List (List ℕ)) → ((n : ℕ) → NonePlaced [] form include exclude n)
    → (r : List ℕ) → IsWitness form include exclude r → ⊥
none_at_all form include exclude none r w =
    let q = witness_found form include exclude r w in
    let bad : false ≡ true = sym (none _ q.widths q.characters q.are refl) ∙ q.found in cc

-- ---- what they have

pub first_fine : (form : List FormQualifier) → AllByRecursion IsFine form → AllByRecursion IsFinePiece (first_words form)
first_fine [] h = tt
first_fine (AnyUnit ∷ form) h = tt
first_fine (AnyConsole ∷ form) h = tt
first_fine (Word text ∷ form) h = (h.0, first_fine form h.1)

pub behind_fine : (form : List FormQualifier) → AllByRecursion IsFine form → AllByRecursion IsFine (behind_words form)
behind_fine [] h = h
behind_fine (AnyUnit ∷ form) h = h
behind_fine (AnyConsole ∷ form) h = h
behind_fine (Word text ∷ form) h = behind_fine form h.1

pub led_room : (form : List FormQualifier) → room (first_words form) + most_of_all (behind_words form) ≡ most_of_all form
led_room [] = omega arith
led_room (AnyUnit ∷ form) = omega arith
led_room (AnyConsole ∷ form) = omega arith
led_room (Word text ∷ form) = let e = led_room form in omega (arith, e)

pub led_some : (form : List FormQualifier) → form ≢ [] → 1 ≤ length (first_words form) + length (behind_words form)
led_some [] h = absurd (h refl)
led_some (AnyUnit ∷ form) h = omega arith
led_some (AnyConsole ∷ form) h = omega arith
led_some (Word text ∷ form) h = omega arith

pub led_size : (form : List FormQualifier) → most_size (behind_words form) ≡ most_size form
led_size [] = refl
led_size (AnyUnit ∷ form) = refl
led_size (AnyConsole ∷ form) = refl
led_size (Word text ∷ form) = let e = led_size form in omega (arith, e)

-- ---- patterns that cannot begin with them

led_pieces : (form : List FormQualifier) (widths : List ℕ) → AreWidths form widths
    → (more : List FormPiece) × (pieces_of form widths ≡ first_words form ++ more)
led_pieces [] [] a = ([], refl)
led_pieces [] (w ∷ widths) a = absurd a
led_pieces (Word text ∷ form) [] a = absurd a
led_pieces (Word text ∷ form) (w ∷ widths) a =
    let rest = led_pieces form widths a.2 in (rest.0, ap (λ l. piece.Word text ∷ l) rest.1)
led_pieces (AnyUnit ∷ form) widths a = (pieces_of (AnyUnit ∷ form) widths, refl)
led_pieces (AnyConsole ∷ form) widths a = (pieces_of (AnyConsole ∷ form) widths, refl)

far : (form : List FormQualifier) (q r : List ℕ) → AreOf form (qualifiers r) → may_begin (map tokens (qualifiers q)) (first_words form) ≡ false
    → covers_text q r ≡ false
far form q r of_form h =
    let spelled = all_spelled form (qualifiers r) of_form in
    let s = spelled.characters in
    let led = led_pieces form spelled.widths spelled.are in
    let long : length s ≡ size (pieces_of form spelled.widths) =
    stands_long (places (pieces_of form spelled.widths)) s spelled.stand ∙ places_long (pieces_of form spelled.widths) in
    let none : covers_parts (filled (first_words form ++ led.0) s) q ≡ false =
    not_covered q (first_words form) led.0 s h (long ∙ ap size led.1) in
    subst (λ parts. covers_parts parts q ≡ false) spelled.is (subst (λ ps. covers_parts (filled ps s) q ≡ false) (sym led.1) none)

kept_cover : (r : List ℕ) (test : List ℕ → Bool) (qs : List (List ℕ)) → ((q : List ℕ) → test q ≡ false → covers_text q r ≡ false)
    → list_any (λ (q : List ℕ). covers_text q r) (filter test qs) ≡ list_any (λ (q : List ℕ). covers_text q r) qs
kept_cover r test [] none = refl
kept_cover r test (q ∷ qs) none = go (test q) refl (kept_cover r test qs none)
  where
    go : (b : Bool) → test q ≡ b
        → list_any (λ (x : List ℕ). covers_text x r) (filter test qs) ≡ list_any (λ (x : List ℕ). covers_text x r) qs
        → list_any (λ (x : List ℕ). covers_text x r) (cond b (q ∷ filter test qs) (filter test qs))
        ≡ (covers_text q r || list_any (λ (x : List ℕ). covers_text x r) qs)
    go true is rest = ap (λ b. covers_text q r || b) rest
    go false is rest = rest ∙ ap (λ b. b || list_any (λ (x : List ℕ). covers_text x r) qs) (sym (none q is))

pub near_cover : (form : List FormQualifier) (words : List FormPiece) (near all : List (List ℕ)) → words ≡ first_words form
    → near ≡ filter (λ (q : List ℕ). may_begin (map tokens (qualifiers q)) words) all → (r : List ℕ) → AreOf form (qualifiers r)
    → list_any (λ (q : List ℕ). covers_text q r) near ≡ list_any (λ (q : List ℕ). covers_text q r) all
near_cover form words near all first is r of_form =
    ap (list_any (λ (q : List ℕ). covers_text q r)) is
    ∙ kept_cover r (λ (q : List ℕ). may_begin (map tokens (qualifiers q)) words) all
    (λ q h. far form q r of_form (sym (ap (may_begin (map tokens (qualifiers q))) first) ∙ h))

-- ---- resources that included patterns cover, and excluded ones do not

module _ (form : List FormQualifier) (include : List (List ℕ)) where
  pub alone : (exclude : List (List ℕ)) (r : List ℕ) → IsWitness form include exclude r → IsWitness form include [] r
  alone exclude r w = record { of_form = w.of_form; covered = w.covered; uncovered = tt }

  pub not_alone : (exclude : List (List ℕ)) (r : List ℕ) → IsWitness form include [] r
      → list_any (λ (q : List ℕ). covers_text q r) exclude ≡ false → IsWitness form include exclude r
  not_alone exclude r w none =
      record { of_form = w.of_form; covered = w.covered; uncovered = cover_none exclude r (ap not none) }

  pub none_meet : (exclude : List (List ℕ)) → NoneCoveredByAll include → (r : List ℕ) → IsWitness form include exclude r → ⊥
  none_meet exclude none r w = none r (all_cover include r w.covered)

  pub as_near : (near exclude : List (List ℕ))
      → ((r : List ℕ) → AreOf form (qualifiers r) → AllCover include r
      → list_any (λ (q : List ℕ). covers_text q r) near ≡ list_any (λ (q : List ℕ). covers_text q r) exclude)
      → (r : List ℕ) → IsWitness form include near r → IsWitness form include exclude r
  as_near near exclude same r w = record {
    of_form = w.of_form;
    covered = w.covered;
    uncovered = cover_none exclude r (ap not (sym (same r w.of_form (all_cover include r w.covered))) ∙ none_cover near r w.uncovered);
  }
