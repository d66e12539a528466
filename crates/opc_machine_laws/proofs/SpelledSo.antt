-- How authorities and the ids of replies are typed and read.
use Rattle.std.proofs.Common.{◌≡◌, ◌⊎◌, inl, inr, ◌<◌, ◌+◌, ◌-◌, ◌*◌, ◌&&◌, ℕ, zero, suc, Bool, true, false, if◌then◌else◌, List, [], ◌∷◌, Option, Some, None, nat_eq, refl, sym, ap, subst, ◌∙◌, arith}
use Rattle.std.specs.Char.{is_ascii_digit}
use Rattle.std.specs.Fmt.{decimal, digits}
use Rattle.std.specs.List.{AllByRecursion}
use Rattle.std.specs.Str.{bytes_eq}
use Rattle.std.proofs.lemmas.Bool.{and_parts}
use Rattle.std.proofs.lemmas.Bool.Decides.{nat_tests}
use Rattle.std.proofs.lemmas.Slice.Eq.{bytes_eq-Decides}
use Rattle.opc_names.specs.Spellings.{auths, class_text, classes, level_text, levels, lookup, two_digits}
use Rattle.opc_terms.specs.Modes.{mode_text, modes}
use Rattle.opc_reader.specs.Authorities.{authorities}
use Rattle.opc_reader.specs.Operands.{number}
use Rattle.opc_reader.specs.Verbs.{verbs}
use Rattle.opc_machine_laws.specs.ReportingLaws.{words_of}
use Rattle.opc_machine_laws.specs.SpellingLaws.{
  AuthoritiesAreSpelledSo,
  AuthoritiesAreTypedSo,
  IsSpelledBy,
  RepliesAreNumberedSo,
  SpellingsAreAlone,
  as_typed,
  without_parentheses,
}

-- what holds of each row of a table holds of each text and what is read of it
of_table : {A : Type 0} (P : List ℕ → A → Type 0) (rows : List (List ℕ × A)) → AllByRecursion (λ (row : List ℕ × A). P row.0 row.1) rows
    → (text : List ℕ) (x : A) → lookup rows text ≡ Some x → P text x
of_table P [] all text x h = absurd (cc)
of_table {A} P (row ∷ rows) all text x h = go (bytes_eq text row.0) refl h (of_table P rows all.1 text x)
  where
    go : (b : Bool) → bytes_eq text row.0 ≡ b → (if b then Some row.1 else lookup rows text) ≡ Some x
        → (lookup rows text ≡ Some x → P text x) → P text x
    go true is k later =
        let same : row.1 ≡ x = cc in
        subst (λ t. P t x) (sym ((bytes_eq-Decides text row.0).0 is)) (subst (P row.0) same all.0)
    go false is k later = later k

pub authorities_spelled : AuthoritiesAreSpelledSo
authorities_spelled = record {
  each = of_table IsSpelledBy auths
      (record { entered = refl; shown = refl }, (record { entered = refl; shown = refl }, (record { entered = refl; shown = refl }, (record { entered = refl; shown = refl }, (record { entered = refl; shown = refl }, (record { entered = refl; shown = refl }, (record { entered = refl; shown = refl }, (record { entered = refl; shown = refl }, (record { entered = refl; shown = refl }, (record { entered = refl; shown = refl }, (record { entered = refl; shown = refl }, (record { entered = refl; shown = refl }, (record { entered = refl; shown = refl }, (record { entered = refl; shown = refl }, (record { entered = refl; shown = refl }, (record { entered = refl; shown = refl }, (record { entered = refl; shown = refl }, (record { entered = refl; shown = refl }, tt))))))))))))))))));
  any_order = (refl, (refl, (refl, (refl, (refl, (refl, (refl, (refl, (refl, (refl, (refl, (refl, tt))))))))))));
}

pub spellings_alone : SpellingsAreAlone
spellings_alone = record {
  level = of_table (λ text l. text ≡ level_text l) levels (refl, (refl, (refl, (refl, (refl, tt)))));
  class = of_table (λ text c. text ≡ class_text c) classes (refl, (refl, tt));
  mode = of_table (λ text m. text ≡ mode_text m) modes (refl, (refl, (refl, tt)));
  verb = of_table (λ text v. (text ≡ (words_of v).0) ⊎ ((words_of v).1 ≡ Some text)) verbs (
    inl refl,
    (
      inr refl,
      (
        inl refl,
        (
          inr refl,
          (
            inl refl,
            (
              inl refl,
              (
                inr refl,
                (
                  inl refl,
                  (
                    inr refl,
                    (
                      inl refl,
                      (
                        inr refl,
                        (
                          inl refl,
                          (
                            inr refl,
                            (
                              inl refl,
                              (
                                inr refl,
                                (
                                  inl refl,
                                  (
                                    inr refl,
                                    (
                                      inl refl,
                                      (
                                        inr refl,
                                        (
                                          inl refl,
                                          (
                                            inr refl,
                                            (
                                              inl refl,
                                              (
                                                inr refl,
                                                (
                                                  inl refl,
                                                  (
                                                    inr refl,
                                                    (
                                                      inl refl,
                                                      (inr refl, (inl refl, (inr refl, (inl refl, (inr refl, (inl refl, (inr refl, (inl refl, (inl refl, tt))))))))),
                                                    ),
                                                  ),
                                                ),
                                              ),
                                            ),
                                          ),
                                        ),
                                      ),
                                    ),
                                  ),
                                ),
                              ),
                            ),
                          ),
                        ),
                      ),
                    ),
                  ),
                ),
              ),
            ),
          ),
        ),
      ),
    ),
  );
}

pub authorities_typed : AuthoritiesAreTypedSo
authorities_typed = record {
  typed = of_table (λ text a. lookup authorities (as_typed text) ≡ Some a) auths
      (refl, (refl, (refl, (refl, (refl, (refl, (refl, (refl, (refl, (refl, (refl, (refl, (refl, (refl, (refl, (refl, (refl, (refl, tt))))))))))))))))));
  read = of_table (λ text a. lookup auths (without_parentheses text) ≡ Some a) authorities
      (refl, (refl, (refl, (refl, (refl, (refl, (refl, (refl, (refl, (refl, (refl, (refl, (refl, (refl, (refl, (refl, (refl, (refl, (refl, (refl, (refl, tt)))))))))))))))))))));
  sys = refl;
  io = refl;
  cons = refl;
  master = refl;
  all = refl;
  info = refl;
  bare = (refl, (refl, (refl, (refl, (refl, (refl, (refl, (refl, (refl, (refl, (refl, (refl, tt))))))))))));
}

-- a test of each number below one
abbrev all_below : ℕ → (ℕ → Bool) → Bool
all_below zero q = true
all_below (suc n) q = q n && all_below n q

below : (n : ℕ) (q : ℕ → Bool) → all_below n q ≡ true → (k : ℕ) → k < n → q k ≡ true
below zero q h k low = absurd (omega (arith, low))
below (suc n) q h k low = go (nat_eq k n) refl (below n q (and_parts (q n) (all_below n q) h).1 k)
  where
    go : (b : Bool) → nat_eq k n ≡ b → (k < n → q k ≡ true) → q k ≡ true
    go true is earlier = let same : k ≡ n = grind (arith, nat_tests, is) in ap q same ∙ (and_parts (q n) (all_below n q) h).0
    go false is earlier = earlier (grind (arith, nat_tests, is, low))

-- whether this number was read
abbrev reads : Option ℕ → ℕ → Bool
reads None id = false
reads (Some n) id = nat_eq n id

is_read : (o : Option ℕ) (id : ℕ) → reads o id ≡ true → o ≡ Some id
is_read None id h = absurd (cc)
is_read (Some n) id h = let same : n ≡ id = grind (arith, nat_tests, h) in ap Some same

plain_read : all_below 100 (λ id. reads (number (decimal id)) id) ≡ true
unfolding digits
plain_read = refl

shown_read : all_below 100 (λ id. reads (number (two_digits id)) id) ≡ true
unfolding digits
shown_read = refl

one_digit : all_below 10 (λ d. bytes_eq ((48 + d) ∷ []) (decimal d)) ≡ true
unfolding digits
one_digit = refl

digit_pairs : all_below 10 (λ d. all_below 10 (λ e. bytes_eq ((48 + d) ∷ (48 + e) ∷ []) (two_digits (10 * d + e)))) ≡ true
unfolding digits
digit_pairs = refl

-- a digit is 48 and its value
digit : (c : ℕ) → is_ascii_digit c ≡ true → (c - 48 < 10) × (c ≡ 48 + (c - 48))
digit c h = (grind (arith, nat_tests, h), grind (arith, nat_tests, h))

back : (text : List ℕ) (id : ℕ) → number text ≡ Some id → (text ≡ decimal id) ⊎ (text ≡ two_digits id)
back [] id h = absurd (cc)
back (a ∷ []) id h = go (is_ascii_digit a) refl h
  where
    go : (b : Bool) → is_ascii_digit a ≡ b → (if b then Some (a - 48) else None) ≡ Some id
        → (a ∷ [] ≡ decimal id) ⊎ (a ∷ [] ≡ two_digits id)
    go false is k = absurd (cc)
    go true is k =
        let same : a - 48 ≡ id = cc in
        let one = digit a is in
        inl (ap (λ c. c ∷ []) one.1
        ∙ (bytes_eq-Decides ((48 + (a - 48)) ∷ []) (decimal (a - 48))).0 (below 10 (λ d. bytes_eq ((48 + d) ∷ []) (decimal d)) one_digit (a - 48) one.0)
        ∙ ap decimal same)
back (a ∷ (b ∷ [])) id h = go (is_ascii_digit a) (is_ascii_digit b) refl refl h
  where
    go : (x y : Bool) → is_ascii_digit a ≡ x → is_ascii_digit b ≡ y → (if x && y then Some (10 * (a - 48) + (b - 48)) else None) ≡ Some id
        → (a ∷ (b ∷ []) ≡ decimal id) ⊎ (a ∷ (b ∷ []) ≡ two_digits id)
    go false y is so k = absurd (cc)
    go true false is so k = absurd (cc)
    go true true is so k =
        let same : 10 * (a - 48) + (b - 48) ≡ id = cc in
        let one = digit a is in
        let other = digit b so in
        inr (ap (λ c. c ∷ (b ∷ [])) one.1 ∙ ap (λ c. (48 + (a - 48)) ∷ (c ∷ [])) other.1
        ∙ (bytes_eq-Decides ((48 + (a - 48)) ∷ (48 + (b - 48)) ∷ []) (two_digits (10 * (a - 48) + (b - 48)))).0
        (below 10 (λ e. bytes_eq ((48 + (a - 48)) ∷ (48 + e) ∷ []) (two_digits (10 * (a - 48) + e)))
        (below 10 (λ d. all_below 10 (λ e. bytes_eq ((48 + d) ∷ (48 + e) ∷ []) (two_digits (10 * d + e)))) digit_pairs (a - 48) one.0)
        (b - 48) other.0)
        ∙ ap two_digits same)
back (a ∷ (b ∷ (c ∷ cs))) id h = absurd (cc)

pub replies_numbered : RepliesAreNumberedSo
replies_numbered = record {
  plain = λ id low. is_read (number (decimal id)) id (below 100 (λ n. reads (number (decimal n)) n) plain_read id low);
  shown = λ id low. is_read (number (two_digits id)) id (below 100 (λ n. reads (number (two_digits n)) n) shown_read id low);
  read = back;
}
