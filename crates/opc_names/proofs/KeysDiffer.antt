-- Different patterns have different sort keys.
use Rattle.std.proofs.Common.{◌≡◌, ℕ, Bool, true, false, List, [], ◌∷◌, ◌++◌, inl, inr, refl, sym, ap, ◌∙◌, subst, arith}
use Rattle.std.specs.List.{flat_map}
use Rattle.std.proofs.lemmas.Bool.Decides.{eqb_tells}
use Rattle.opc_names.specs.declared.token.Token.{Token}
use Rattle.opc_names.specs.Order.{is_open, key_byte}
use Rattle.opc_names.specs.Laws.{KeysDiffer}
use Rattle.opc_names.specs.Names.{pattern_rule}
use Rattle.opc_names.specs.Walk.{sort_key_after}
use Rattle.opc_names.specs.Patterns.{tokens, token_of, spelling}
use Rattle.opc_names.proofs.Faults.{name_ascii}
use Rattle.opc_names.proofs.Keys.{IsSmall, AreSmall, small_tokens, small_byte, ranked, key_is}

spelled_one : (c : ℕ) → spelling (token_of c) ≡ c ∷ []
spelled_one c =
    elim (eqb_tells c 42) [
      | inl h ↦ rw h.0 (ap (λ n. n ∷ []) (sym h.1))
      | inr h ↦ rw h.0 (elim (eqb_tells c 37) [ inl k ↦ rw k.0 (ap (λ n. n ∷ []) (sym k.1)) | inr k ↦ rw k.0 refl ])
    ]

spelled_two : (c d : ℕ) (cs : List ℕ) → flat_map spelling (tokens cs) ≡ cs → flat_map spelling (tokens (d ∷ cs)) ≡ d
    ∷ cs → flat_map spelling (tokens (c ∷ (d ∷ cs))) ≡ c ∷ d ∷ cs
spelled_two c d cs e f =
    elim (eqb_tells c 42) [
      | inl h ↦
          (let g = h.1 in
          elim (eqb_tells d 42) [
            | inl k ↦ (let m = k.1 in rw (h.0, k.0) cc)
            | inr k ↦ rw (h.0, k.0) cc
          ])
      | inr h ↦ rw h.0 (elim (eqb_tells c 37) [ inl k ↦ (let m = k.1 in rw k.0 cc) | inr k ↦ rw k.0 cc ])
    ]

-- the tokens spell the text
spelled : (text : List ℕ) → flat_map spelling (tokens text) ≡ text
spelled [] = refl
spelled (c ∷ []) = ap (λ x. x ++ []) (spelled_one c)
spelled (c ∷ (d ∷ cs)) = spelled_two c d cs (spelled cs) (spelled (d ∷ cs))

same_token : (t u : Token) → IsSmall t → IsSmall u → key_byte t ≡ key_byte u → t ≡ u
same_token t u a b e =
    elim (ranked t u a b) [
      | inl h ↦ absurd (omega (arith, h.1, e))
      | inr (inl h) ↦ h
      | inr (inr h) ↦ absurd (omega (arith, h.2, e))
    ]

same_tokens : (opened : Bool) (p q : List Token) → AreSmall p → AreSmall q → sort_key_after opened p ≡ sort_key_after opened q → p ≡ q
same_tokens opened [] [] a b e = refl
same_tokens true [] (u ∷ q) a b e = let h : 255 ≡ key_byte u = cc in absurd (omega (arith, h, small_byte u b.0))
same_tokens false [] (u ∷ q) a b e = cc
same_tokens true (t ∷ p) [] a b e = let h : 255 ≡ key_byte t = cc in absurd (omega (arith, h, small_byte t a.0))
same_tokens false (t ∷ p) [] a b e = cc
same_tokens opened (t ∷ p) (u ∷ q) a b e =
    let head : key_byte t ≡ key_byte u = cc in
    let rest : sort_key_after (is_open t) p ≡ sort_key_after (is_open u) q = cc in
    let token = same_token t u a.0 b.0 head in
    let tokens = same_tokens (is_open t) p q a.1 b.1 (subst (λ x. sort_key_after (is_open t) p ≡ sort_key_after (is_open x) q) (sym token) rest) in
    cc

-- texts with the same tokens are the same
pub same_text : (p q : List ℕ) → tokens p ≡ tokens q → p ≡ q
same_text p q e = sym (spelled p) ∙ ap (flat_map spelling) e ∙ spelled q

pub keys_differ : KeysDiffer
keys_differ p q a b e =
    same_text p q (same_tokens false (tokens p) (tokens q) (small_tokens p (name_ascii pattern_rule p a))
    (small_tokens q (name_ascii pattern_rule q b)) (key_is p ∙ e ∙ sym (key_is q)))
