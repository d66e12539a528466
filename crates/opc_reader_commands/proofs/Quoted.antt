-- A quoted text is read in one way.
use Rattle.std.proofs.Common.{
  ◌≡◌,
  ℕ,
  ◌+◌,
  ◌==◌,
  ◌&&◌,
  Bool,
  true,
  false,
  cond,
  List,
  [],
  ◌∷◌,
  ◌++◌,
  length,
  Option,
  Some,
  None,
  refl,
  sym,
  ap,
  ◌∙◌,
  arith,
  Result,
  Ok,
  Err,
  IfOk,
}
use Rattle.std.specs.Option.{option_map}
use Rattle.opc_reader_commands.specs.Stretches.{folded}
use Rattle.std.proofs.lemmas.Option.{none-some}
use Rattle.std.proofs.lemmas.Bool.Decides.{nat_tests}
use Rattle.opc_reader_commands.specs.Quotes.{doubled, closing_len, ends_at, is_quoted, is_open, opens_quote, unquoted, text_value, Says, IsQuoted, OpensQuote}

pub same_code : (a b : ℕ) → (a == b) ≡ true → a ≡ b
same_code a b h = grind (arith, nat_tests)

quote_other : (c : ℕ) (b : List ℕ) → (c == 39) ≡ false → closing_len (c ∷ b) ≡ option_map (λ n. n + 1) (closing_len b)
quote_other c [] e = rw e refl
quote_other c (d ∷ cs) e = rw e refl

doubled_other : (c : ℕ) (text : List ℕ) → (c == 39) ≡ false → doubled (c ∷ text) ≡ c ∷ doubled text
doubled_other c text e = rw e refl

-- the text of doubled apostrophes is closed by the apostrophe after it
pub quote_read : (text : List ℕ) → closing_len (doubled text ++ 39 ∷ []) ≡ Some (length (doubled text ++ 39 ∷ []))
quote_read [] = refl
quote_read (c ∷ text) =
    elim (c == 39) as (λ b. (c == 39) ≡ b
    → closing_len (cond b (39 ∷ (39 ∷ doubled text)) (c ∷ doubled text) ++ 39 ∷ []) ≡ Some
    (length (cond b (39 ∷ (39 ∷ doubled text)) (c ∷ doubled text) ++ 39 ∷ []))) [
      | true ↦ (λ e. rw (quote_read text) (ap Some (omega arith)))
      | false ↦ (λ e. quote_other c (doubled text ++ 39 ∷ []) e ∙ rw (quote_read text) (ap Some (omega arith)))
    ] refl

pub some_of_map : (o : Option ℕ) (k n : ℕ) → option_map (λ m. m + k) o ≡ Some n → (m : ℕ) × (o ≡ Some m) × (n ≡ m + k)
some_of_map None k n h = cc
some_of_map (Some m) k n h = (m, refl, cc)

-- if a closing apostrophe ends the list, the list before it is a text of doubled apostrophes
pub quote_found : (b : List ℕ) (n : ℕ) → closing_len b ≡ Some n → n ≡ length b → (text : List ℕ) × (b ≡ doubled text ++ 39 ∷ [])
quote_found [] n h all = cc
quote_found (c ∷ []) n h all =
    elim (c == 39) as (λ b. (c == 39) ≡ b → cond b (Some 1) None ≡ Some n → (text : List ℕ) × (c ∷ [] ≡ doubled text ++ 39 ∷ [])) [
      | true ↦ (λ e k. ([], ap (λ x. x ∷ []) (same_code c 39 e)))
      | false ↦ (λ e k. cc)
    ] refl h
quote_found (c ∷ (d ∷ cs)) n h all =
    elim (c == 39) as (λ b. (c == 39) ≡ b
    → cond b (cond (d == 39) (option_map (λ m. m + 2) (closing_len cs)) (Some 1))
    (option_map (λ m. m + 1) (closing_len (d ∷ cs))) ≡ Some n → (text : List ℕ)
    × (c ∷ (d ∷ cs) ≡ doubled text ++ 39 ∷ [])) [
      | true ↦ (λ e. elim (d == 39) as (λ v. (d == 39) ≡ v
          → cond v (option_map (λ m. m + 2) (closing_len cs)) (Some 1) ≡ Some n → (text : List ℕ)
          × (c ∷ (d ∷ cs) ≡ doubled text ++ 39 ∷ [])) [
            | true ↦ (λ f k.
                let m = some_of_map (closing_len cs) 2 n k in
                let rest = quote_found cs m.0 m.1 (omega (arith, m.2)) in
                (39 ∷ rest.0, rw (same_code c 39 e, same_code d 39 f) (ap (λ x. 39 ∷ (39 ∷ x)) rest.1)))
            | false ↦ (λ f k. absurd (let one : 1 ≡ n = cc in omega arith))
          ] refl)
      | false ↦ (λ e k.
          let m = some_of_map (closing_len (d ∷ cs)) 1 n k in
          let rest = quote_found (d ∷ cs) m.0 m.1 (omega (arith, m.2)) in
          (c ∷ rest.0, ap (λ x. c ∷ x) rest.1 ∙ ap (λ x. x ++ 39 ∷ []) (sym (doubled_other c rest.0 e))))
    ] refl h

ends_there : (o : Option ℕ) (n : ℕ) → ends_at o n ≡ true → o ≡ Some n
ends_there None n h = cc
ends_there (Some m) n h = ap Some (same_code m n h)

pub both_true : (a b : Bool) → (a && b) ≡ true → (a ≡ true) × (b ≡ true)
both_true true b h = (refl, h)
both_true false b h = cc

same_refl : (n : ℕ) → (n == n) ≡ true
same_refl n = grind (arith, nat_tests)

pub quoted_is : (t : List ℕ) → is_quoted t ≡ true → IsQuoted t
quoted_is [] h = cc
quoted_is (c ∷ cs) h =
    let parts = both_true (c == 39) (ends_at (closing_len cs) (length cs)) h in
    let found = quote_found cs (length cs) (ends_there (closing_len cs) (length cs) parts.1) refl in
    (found.0, ap (λ x. x ∷ cs) (same_code c 39 parts.0) ∙ ap (λ x. 39 ∷ x) found.1)

pub is_quoted_of : (t : List ℕ) → IsQuoted t → is_quoted t ≡ true
is_quoted_of t (text, e) = rw (e, quote_read text) (same_refl (length (doubled text ++ 39 ∷ [])))

-- a quoted text is closed, and begins with an apostrophe
pub closed : (t : List ℕ) → IsQuoted t → is_open t ≡ false
closed t (text, e) = rw (e, quote_read text) refl

pub quoted_opens : (t : List ℕ) → IsQuoted t → opens_quote t ≡ true
quoted_opens t (text, e) = rw e refl

pub plain_closed : (t : List ℕ) → opens_quote t ≡ false → is_open t ≡ false
plain_closed [] h = refl
plain_closed (c ∷ cs) h = rw h refl

pub opens_is : (t : List ℕ) → opens_quote t ≡ true → OpensQuote t
opens_is [] h = cc
opens_is (c ∷ cs) h = same_code c 39 h

pub not_opens : (t : List ℕ) → (OpensQuote t → ⊥) → opens_quote t ≡ false
not_opens [] h = refl
not_opens (c ∷ cs) h = grind (arith, nat_tests, h)

pub opens_not : (t : List ℕ) → opens_quote t ≡ false → OpensQuote t → ⊥
opens_not [] h o = o
opens_not (c ∷ cs) h o = grind (arith, nat_tests)

unquoted_doubled : (text : List ℕ) → unquoted (doubled text ++ 39 ∷ []) ≡ text
unquoted_doubled [] = refl
unquoted_doubled (c ∷ text) =
    elim (c == 39) as (λ b. (c == 39) ≡ b → unquoted (cond b (39 ∷ (39 ∷ doubled text)) (c ∷ doubled text) ++ 39 ∷ []) ≡ c ∷ text) [
      | true ↦ (λ e. ap (λ t. 39 ∷ t) (unquoted_doubled text) ∙ ap (λ x. x ∷ text) (sym (same_code c 39 e)))
      | false ↦ (λ e. other (doubled text ++ 39 ∷ []) e ∙ ap (λ t. c ∷ t) (unquoted_doubled text))
    ] refl where
      other : (b : List ℕ) → (c == 39) ≡ false → unquoted (c ∷ b) ≡ c ∷ unquoted b
      other [] e = rw e refl
      other (d ∷ cs) e = rw e refl

plain_value : (t : List ℕ) → (OpensQuote t → ⊥) → text_value t ≡ folded t
plain_value [] h = refl
plain_value (c ∷ cs) h = let other : (c == 39) ≡ false = grind (arith, nat_tests, h) in rw other refl

pub says : (t value : List ℕ) → value ≡ text_value t → Says t value
says t value e = record {
  between = λ text same. e ∙ ap text_value same ∙ unquoted_doubled text;
  plain = λ h. e ∙ plain_value t h;
}

pub said : {S E : Type 0} (bytes_of : S → List ℕ) (r : Result S E) (t b : List ℕ) → b ≡ t
    → IfOk r (λ v. bytes_of v ≡ text_value b) → IfOk r (λ v. Says t (bytes_of v))
said bytes_of (Ok v) t b e h = says t (bytes_of v) (h ∙ ap text_value e)
said bytes_of (Err x) t b e h = tt

-- a quoted text at the start, with other text after it, ends at one place
pub quote_prefix : (text rest : List ℕ) → opens_quote rest ≡ false → closing_len (doubled text ++ 39 ∷ rest) ≡ Some (length (doubled text) + 1)
quote_prefix [] [] h = refl
quote_prefix [] (d ∷ rest) h = rw h refl
quote_prefix (c ∷ text) rest h =
    elim (c == 39) as (λ b. (c == 39) ≡ b
    → closing_len (cond b (39 ∷ (39 ∷ doubled text)) (c ∷ doubled text) ++ 39 ∷ rest) ≡ Some
    (length (cond b (39 ∷ (39 ∷ doubled text)) (c ∷ doubled text)) + 1)) [
      | true ↦ (λ e. rw (quote_prefix text rest h) (ap Some (omega arith)))
      | false ↦ (λ e. quote_other c (doubled text ++ 39 ∷ rest) e ∙ rw (quote_prefix text rest h) (ap Some (omega arith)))
    ] refl

pub record Prefix (b : List ℕ) (n : ℕ) : Type 0 where
  pub text : List ℕ
  pub rest : List ℕ
  pub whole : b ≡ doubled text ++ 39 ∷ rest
  pub count : n ≡ length (doubled text) + 1
  pub ends : opens_quote rest ≡ false

pub prefix_found : (b : List ℕ) (n : ℕ) → closing_len b ≡ Some n → Prefix b n
prefix_found [] n h = absurd (none n h) where
  none : (m : ℕ) → None ≡ Some m → ⊥
  none m e = absurd (none-some m e)
prefix_found (c ∷ []) n h =
    elim (c == 39) as (λ b. (c == 39) ≡ b → cond b (Some 1) None ≡ Some n → Prefix (c ∷ []) n) [
      | true ↦ (λ e k. record { text = []; rest = []; whole = ap (λ x. x ∷ []) (same_code c 39 e); count = cc; ends = refl })
      | false ↦ (λ e k. absurd (none-some n k))
    ] refl h
prefix_found (c ∷ (d ∷ cs)) n h =
    elim (c == 39) as (λ b. (c == 39) ≡ b
    → cond b (cond (d == 39) (option_map (λ m. m + 2) (closing_len cs)) (Some 1))
    (option_map (λ m. m + 1) (closing_len (d ∷ cs))) ≡ Some n → Prefix (c ∷ (d ∷ cs)) n) [
      | true ↦ (λ e. elim (d == 39) as (λ v. (d == 39) ≡ v → cond v (option_map (λ m. m + 2) (closing_len cs)) (Some 1) ≡ Some n → Prefix (c ∷ (d ∷ cs)) n) [
        | true ↦ (λ f k.
            let m = some_of_map (closing_len cs) 2 n k in
            let found = prefix_found cs m.0 m.1 in
            record {
              text = 39 ∷ found.text;
              rest = found.rest;
              whole = ap (λ x. x ∷ (d ∷ cs)) (same_code c 39 e) ∙ ap (λ x. 39 ∷ (x ∷ cs)) (same_code d 39 f) ∙ ap (λ x. 39 ∷ (39 ∷ x)) found.whole;
              count = omega (arith, m.2, found.count);
              ends = found.ends;
            })
        | false ↦ (λ f k. record { text = []; rest = d ∷ cs; whole = ap (λ x. x ∷ (d ∷ cs)) (same_code c 39 e); count = cc; ends = f })
      ] refl)
      | false ↦ (λ e k.
          let m = some_of_map (closing_len (d ∷ cs)) 1 n k in
          let found = prefix_found (d ∷ cs) m.0 m.1 in
          record {
            text = c ∷ found.text;
            rest = found.rest;
            whole = ap (λ x. c ∷ x) found.whole ∙ ap (λ x. x ++ 39 ∷ found.rest) (sym (doubled_other c found.text e));
            count = omega (arith, m.2, found.count, ap length (doubled_other c found.text e));
            ends = found.ends;
          })
    ] refl h
