-- The lines of a page, one row after another.
use Rattle.std.proofs.Common.{
  ◌≡◌,
  ◌≤◌,
  ◌<◌,
  ◌+◌,
  ◌∙◌,
  ◌++◌,
  ◌∷◌,
  ℕ,
  Bool,
  true,
  false,
  List,
  [],
  ap,
  append_assoc,
  arith,
  cond,
  get_or,
  length,
  length-append,
  refl,
  subst,
  sym,
  take,
}
use Rattle.std.proofs.lemmas.List.{append-nil, length-take, take-append-le, take_all}
use Rattle.std.proofs.lemmas.List.Elements.{filter_more}
use Rattle.opc_state.specs.declared.account.AccountRow.{AccountRow}
use Rattle.opc_account.specs.Filters.{meets, met}
use Rattle.opc_account.specs.Lines.{AreLines, IsRowLine}
use Rattle.opc_account.specs.declared.filter.Filter.{Filter}

-- one more line at the end
lines_more : (is_json : Bool) (rows : List (ℕ × AccountRow)) (row : ℕ × AccountRow) (text line : List ℕ)
    → AreLines is_json rows text → IsRowLine is_json row line → AreLines is_json (rows ++ row ∷ []) (text ++ line)
lines_more is_json [] row text line are is = (line, [], is, refl, ap (λ t. t ++ line) are ∙ sym (append-nil line))
lines_more is_json (first ∷ rows) row text line are is = (
  are.0,
  are.1 ++ line,
  are.2,
  lines_more is_json rows row are.1 line are.3 is,
  ap (λ t. t ++ line) are.4 ∙ append_assoc are.0 are.1 line,
)

-- the first of a list to which one is added, or to which any are added after there are as many
take_one_more : {X : Type 0} (most : ℕ) (xs : List X) (x : X) → length (take most xs) < most
    → take most (xs ++ x ∷ []) ≡ take most xs ++ x ∷ []
take_one_more most xs x few =
    let short : length xs < most = omega (arith, few, length-take most xs) in
    take_all most (xs ++ x ∷ []) (omega (arith, short, length-append xs (x ∷ [])))
    ∙ ap (λ t. t ++ x ∷ []) (sym (take_all most xs (omega (arith, short))))

take_no_more : {X : Type 0} (most : ℕ) (xs ys : List X) → most ≤ length (take most xs)
    → take most (xs ++ ys) ≡ take most xs
take_no_more most xs ys full = take-append-le most xs ys (omega (arith, full, length-take most xs))

module _ (is_json : Bool) (f : Filter) (rows : List (ℕ × AccountRow)) (most i : ℕ) (row : ℕ × AccountRow) (text : List ℕ)
    (within : i < length rows) (at : get_or rows i row ≡ row)
    (are : AreLines is_json (take most (met f (take i rows))) text) where
  -- a row that meets the filter is shown, if fewer are than requested,
  added : (meets f row.1 ≡ true) → met f (take (i + 1) rows) ≡ met f (take i rows) ++ row ∷ []
  added passes = filter_more _ rows i row within
      ∙ ap (λ (r : ℕ × AccountRow). met f (take i rows) ++ cond (meets f r.1) (r ∷ []) []) at
      ∙ ap (λ (b : Bool). met f (take i rows) ++ cond b (row ∷ []) []) passes

  shown_more : (meets f row.1 ≡ true) → length (take most (met f (take i rows))) < most
      → take most (met f (take (i + 1) rows)) ≡ take most (met f (take i rows)) ++ row ∷ []
  shown_more passes few = ap (take most) (added passes) ∙ take_one_more most (met f (take i rows)) row few

  pub line_added : (line : List ℕ) → (meets f row.1 ≡ true) → length (take most (met f (take i rows))) < most
      → IsRowLine is_json row line
      → AreLines is_json (take most (met f (take (i + 1) rows))) (text ++ line)
  line_added line passes few is =
      subst (λ r. AreLines is_json r (text ++ line)) (sym (shown_more passes few))
      (lines_more is_json (take most (met f (take i rows))) row text line are is)

  pub count_added : (meets f row.1 ≡ true) → length (take most (met f (take i rows))) < most
      → length (take most (met f (take (i + 1) rows))) ≡ length (take most (met f (take i rows))) + 1
  count_added passes few = ap length (shown_more passes few) ∙ length-append (take most (met f (take i rows))) (row ∷ [])

  -- and no other
  pub not_shown : (meets f row.1 ≡ false) → take most (met f (take (i + 1) rows)) ≡ take most (met f (take i rows))
  not_shown fails = ap (take most) (filter_more _ rows i row within
      ∙ ap (λ (r : ℕ × AccountRow). met f (take i rows) ++ cond (meets f r.1) (r ∷ []) []) at
      ∙ ap (λ (b : Bool). met f (take i rows) ++ cond b (row ∷ []) []) fails
      ∙ append-nil (met f (take i rows)))

  pub none_more : most ≤ length (take most (met f (take i rows)))
      → take most (met f (take (i + 1) rows)) ≡ take most (met f (take i rows))
  none_more full = ap (take most) (filter_more _ rows i row within)
      ∙ take_no_more most (met f (take i rows)) (cond (meets f (get_or rows i row).1) (get_or rows i row ∷ []) []) full
