-- Worked cases, and patterns of `**` alone.
use Rattle.std.proofs.Common.{◌≡◌, ℕ, Bool, true, false, ◌+◌, ◌&&◌, ◌||◌, List, [], ◌∷◌, inl, inr, map, codes, cond, refl, sym, ◌∙◌}
use Rattle.std.specs.Prelude.{None, Some, not}
use Rattle.std.specs.Char.{is_ascii_digit}
use Rattle.std.specs.List.{list_any, position, AllByRecursion}
use Rattle.std.specs.Option.{option_map}
use Rattle.std.specs.Str.{chars}
use Rattle.std.proofs.lemmas.List.{append-nil}
use Rattle.opc_names.specs.declared.rule.Alphabet.TheVariants.{NoDigitFirst}
use Rattle.opc_names.specs.declared.token.Token.{Token}
use Rattle.opc_names.specs.declared.token.Token.TheVariants.{Literal, Percent, Star, Stars}
use Rattle.opc_names.specs.Names.{
  bad_character,
  console_rule,
  is_name_character,
  may_begin,
  may_follow,
  name_fault,
  qualifiers,
}
use Rattle.opc_names.specs.Patterns.{Covers, Matches, ends_in_star, matches, tokens}
use Rattle.opc_names.proofs.Faults.{name_passes}
use Rattle.opc_names.proofs.Parts.{qualifiers_some}
use Rattle.opc_names.proofs.Stars.{BeginsOther, covers_part}
use Rattle.opc_names.proofs.Computed.{ends_in_star_is, matches_is}
use Rattle.opc_table.specs.Table.{qualified}
use Rattle.opc_policy_witness.specs.Witness.{covers_parts}
use Rattle.opc_policy_witness.proofs.Names.{and_true, both}
use Rattle.opc_check_reach.specs.Forms.{
  AnyConsole,
  AnyUnit,
  AreOf,
  IsOf,
  Qualifier,
  Word,
  decides_of,
  decides_parts,
  fixed_forms,
  named_forms,
}
use Rattle.opc_check_reach.specs.Reach.{IsAsked, IsMet}
use Rattle.opc_check_reach.specs.Laws.{BasePatternsAreMet, MistypedAreNotMet, StarsAreMet}
use Rattle.opc_check_reach.proofs.Asked.{cancel_job, device, shown_unit, units}
use Rattle.opc_check_reach.proofs.Deciding.{decide_parts, true_covers}
use Rattle.opc_check_reach.proofs.Formed.{decides_so}
use Rattle.opc_check_reach.proofs.Trying.{or_cases, or_left, or_right, resource_gives}

-- ---- by an example

met_at : (pattern resource : List ℕ) → IsAsked resource → covers_parts (qualifiers resource) pattern ≡ true → IsMet pattern
met_at pattern resource asked h = (resource, asked, true_covers pattern (qualifiers resource) h)

pub base_patterns : BasePatternsAreMet
unfolding chars
base_patterns = (
  met_at (codes "MVS.CANCEL.JOB.PAY*") (qualified (codes "MVS.CANCEL.JOB") (codes "PAY")) (cancel_job (codes "PAY") refl) refl,
  (
    met_at (codes "MVS.CANCEL.JOB.*") (qualified (codes "MVS.CANCEL.JOB") (codes "PAY")) (cancel_job (codes "PAY") refl) refl,
    (
      met_at (codes "MVS.DISPLAY.JOB.SECRET") (qualified (codes "MVS.DISPLAY.JOB") (codes "SECRET")) (shown_unit (codes "SECRET") refl) refl,
      (
        met_at (codes "MVS.DISPLAY.**") (codes "MVS.DISPLAY.JOB") units refl,
        (
          met_at (codes "MVS.VARY.DEV") (codes "MVS.VARY.DEV") device refl,
          (met_at (codes "MVS.**") (codes "MVS.DISPLAY.JOB") units refl, tt),
        ),
      ),
    ),
  ),
)

-- ---- by what no name changes: a pattern has to match the words of a form, and what no console begins with

abbrev may_match : List Token → Qualifier → Bool
may_match q (Word text) = matches q text
may_match q AnyUnit = true
may_match [] AnyConsole = true
may_match (Literal c ∷ q) AnyConsole = not (is_ascii_digit c)
may_match (Percent ∷ q) AnyConsole = true
may_match (Star ∷ q) AnyConsole = true
may_match (Stars ∷ q) AnyConsole = true

abbrev may_cover : List (List Token) → List Qualifier → Bool
may_cover [] [] = true
may_cover [] (f ∷ fs) = false
may_cover ((Stars ∷ q) ∷ p) fs = true
may_cover (q ∷ p) [] = false
may_cover (q ∷ p) (f ∷ fs) = may_match q f && (ends_in_star q || may_cover p fs)

begins : (c : ℕ) (cs : List ℕ) → bad_character NoDigitFirst (c ∷ cs) ≡ None → may_begin NoDigitFirst c ≡ true
begins c cs h =
    elim (may_begin NoDigitFirst c) as
    (λ b. cond b (option_map (λ i. i + 1) (position (λ d. not (may_follow NoDigitFirst d)) cs)) (Some 0) ≡ None → b ≡ true) [
      | true ↦ (λ k. refl)
      | false ↦ (λ k. cc)
    ] h

no_digit : (c : ℕ) (q : List Token) (s : List ℕ) → name_fault console_rule s ≡ None → Matches (Literal c ∷ q) s
    → not (is_ascii_digit c) ≡ true
no_digit c q [] is m = absurd m
no_digit c q (d ∷ s) is m =
    rw m.0 (both (is_name_character d) _ (begins d s (name_passes console_rule (d ∷ s) is).characters)).1

match_may : (q : List Token) (f : Qualifier) (s : List ℕ) → IsOf f s → Matches q s → may_match q f ≡ true
match_may q (Word text) s is m = rw (← is) ((matches_is q s).1 m)
match_may q AnyUnit s is m = refl
match_may [] AnyConsole s is m = refl
match_may (Literal c ∷ q) AnyConsole s is m = no_digit c q s is m
match_may (Percent ∷ q) AnyConsole s is m = refl
match_may (Star ∷ q) AnyConsole s is m = refl
match_may (Stars ∷ q) AnyConsole s is m = refl

may_part : (q : List Token) (p : List (List Token)) (f : Qualifier) (fs : List Qualifier) → BeginsOther q
    → may_cover (q ∷ p) (f ∷ fs) ≡ (may_match q f && (ends_in_star q || may_cover p fs))
may_part [] p f fs b = refl
may_part (Literal c ∷ q) p f fs b = refl
may_part (Percent ∷ q) p f fs b = refl
may_part (Star ∷ q) p f fs b = refl
may_part (Stars ∷ q) p f fs b = absurd b

part_may : (q : List Token) (p : List (List Token)) (f : Qualifier) (fs : List Qualifier) (s : List ℕ) (r : List (List ℕ))
    → BeginsOther q → (Covers p r → may_cover p fs ≡ true) → IsOf f s → Covers (q ∷ p) (s ∷ r) → may_cover (q ∷ p) (f ∷ fs) ≡ true
part_may q p f fs s r b rest is h =
    let k = (covers_part q p s r b).0 h in
    let more : (ends_in_star q || may_cover p fs) ≡ true =
    elim k.1 [
      | inl e ↦ or_left (ends_in_star q) (may_cover p fs) ((ends_in_star_is q).1 e.1)
      | inr e ↦ or_right (ends_in_star q) (may_cover p fs) (rest e)
    ] in
    may_part q p f fs b ∙ and_true (may_match q f) (ends_in_star q || may_cover p fs) (match_may q f s is k.0) more

cover_may : (p : List (List Token)) (fs : List Qualifier) (r : List (List ℕ)) → AreOf fs r → Covers p r → may_cover p fs ≡ true
cover_may [] [] r are h = refl
cover_may [] (f ∷ fs) [] are h = absurd are
cover_may [] (f ∷ fs) (s ∷ r) are h = absurd h
cover_may ([] ∷ p) [] [] are h = absurd h
cover_may ([] ∷ p) [] (s ∷ r) are h = absurd are
cover_may ([] ∷ p) (f ∷ fs) [] are h = absurd are
cover_may ([] ∷ p) (f ∷ fs) (s ∷ r) are h = part_may [] p f fs s r tt (λ k. cover_may p fs r are.1 k) are.0 h
cover_may ((Literal c ∷ q) ∷ p) [] [] are h = absurd h
cover_may ((Literal c ∷ q) ∷ p) [] (s ∷ r) are h = absurd are
cover_may ((Literal c ∷ q) ∷ p) (f ∷ fs) [] are h = absurd are
cover_may ((Literal c ∷ q) ∷ p) (f ∷ fs) (s ∷ r) are h =
    part_may (Literal c ∷ q) p f fs s r tt (λ k. cover_may p fs r are.1 k) are.0 h
cover_may ((Percent ∷ q) ∷ p) [] [] are h = absurd h
cover_may ((Percent ∷ q) ∷ p) [] (s ∷ r) are h = absurd are
cover_may ((Percent ∷ q) ∷ p) (f ∷ fs) [] are h = absurd are
cover_may ((Percent ∷ q) ∷ p) (f ∷ fs) (s ∷ r) are h =
    part_may (Percent ∷ q) p f fs s r tt (λ k. cover_may p fs r are.1 k) are.0 h
cover_may ((Star ∷ q) ∷ p) [] [] are h = absurd h
cover_may ((Star ∷ q) ∷ p) [] (s ∷ r) are h = absurd are
cover_may ((Star ∷ q) ∷ p) (f ∷ fs) [] are h = absurd are
cover_may ((Star ∷ q) ∷ p) (f ∷ fs) (s ∷ r) are h =
    part_may (Star ∷ q) p f fs s r tt (λ k. cover_may p fs r are.1 k) are.0 h
cover_may ((Stars ∷ q) ∷ p) fs r are h = refl

may_decide : (pattern : List ℕ) (forms : List (List Qualifier)) → list_any (decides_of pattern []) forms ≡ true
    → list_any (may_cover (map tokens (qualifiers pattern))) forms ≡ true
may_decide pattern [] h = cc
may_decide pattern (fs ∷ forms) h =
    elim (or_cases (decides_of pattern [] fs) (list_any (decides_of pattern []) forms) h) [
      | inl e ↦ (let found = resource_gives fs (decides_parts pattern []) e in
          or_left _ _ (cover_may (map tokens (qualifiers pattern)) fs found.0 found.1 (decide_parts pattern [] found.0 found.2).0))
      | inr e ↦ or_right _ _ (may_decide pattern forms e)
    ]

not_met : (pattern : List ℕ) → list_any (may_cover (map tokens (qualifiers pattern))) fixed_forms ≡ false
    → list_any (may_cover (map tokens (qualifiers pattern))) named_forms ≡ false → IsMet pattern → ⊥
not_met pattern fixed named (resource, asked, covered) =
    elim (or_cases (list_any (decides_of pattern []) fixed_forms) (list_any (decides_of pattern []) named_forms)
    (decides_so pattern [] (resource, asked, covered, tt))) [
      | inl e ↦ (let bad : true ≡ false = sym (may_decide pattern fixed_forms e) ∙ fixed in cc)
      | inr e ↦ (let bad : true ≡ false = sym (may_decide pattern named_forms e) ∙ named in cc)
    ]

pub mistyped : MistypedAreNotMet
unfolding chars
mistyped = (
  not_met (codes "MVS.CANCLE.**") refl refl,
  (
    not_met (codes "MVS.DISPLAY.A") refl refl,
    (
      not_met (codes "MVS.CANCEL.JOB") refl refl,
      (not_met (codes "MVS.DISPLAY.U.0A80") refl refl, (not_met (codes "MVS.DISPLAY.CN.1C") refl refl, tt)),
    ),
  ),
)

-- ---- `**` alone

all_stars : (parts r : List (List ℕ)) → (parts ≡ [] → ⊥) → AllByRecursion (λ q. q ≡ codes "**") parts → Covers (map tokens parts) r
all_stars [] r some h = absurd (some refl)
all_stars (q ∷ []) r some h = rw h.0 (r, [], sym (append-nil r), tt)
all_stars (q ∷ (p ∷ parts)) r some h = rw h.0 ([], r, refl, all_stars (p ∷ parts) r (λ e. cc) h.1)

pub stars : StarsAreMet
stars pattern h = (codes "MVS.DISPLAY.JOB", units, all_stars (qualifiers pattern) (qualifiers (codes "MVS.DISPLAY.JOB")) (qualifiers_some pattern) h)
