-- Lines that leave out users who may not, and who hold their level by no group, make the same paragraphs.
use Rattle.std.proofs.Common.{◌≡◌, ◌<◌, ◌≤◌, ◌+◌, ◌-◌, ◌++◌, ◌∙◌, ℕ, Bool, true, false, not, List, [], ◌∷◌, Option, None, Some}
use Rattle.std.proofs.Common.{ap, ap₂, arith, filter, flat_map, length, map, refl, subst, sym, if◌then◌else◌}
use Rattle.std.specs.Prelude.{◌==◌, codes}
use Rattle.std.proofs.lemmas.Bool.{le-ltb, ne_eqb}
use Rattle.std.proofs.lemmas.List.{length-map}
use Rattle.std.proofs.lemmas.List.Filters.{length-filter_both}
use Rattle.opc_names.specs.declared.level.Level.{Level}
use Rattle.opc_policy_members.specs.declared.profile.Profile.{Profile}
use Rattle.opc_policy_sources.specs.declared.sources.LevelSource.{LevelSource}
use Rattle.opc_answers.specs.declared.lines.UserLine.{UserLine}
use Rattle.opc_answers.specs.Texts.{may}
use Rattle.opc_answers_sheet.specs.declared.ways.Way.{Way}
use Rattle.opc_answers_sheet.specs.Callers.{Caller}
use Rattle.opc_answers_sheet.specs.Cells.{by_source, count_text, joined, names_text, paragraph, users_at, users_text, way_text, way_words, ways_text}
use Rattle.opc_answers_sheet.specs.Commands.{said_everywhere}
use Rattle.opc_answers_sheet.specs.Named.{is_called, lets_others, said_to_named}
use Rattle.opc_answers_sheet.specs.Ways.{groups_after, ids_by, is_as, may_by, sources_of, way, with_held}
use Rattle.opc_answers_sheet.proofs.Unnamed.{by_no_group, may_not}

not_zero : (n : ℕ) → 0 < n → (n == 0) ≡ false
not_zero n low = ne_eqb n 0 (λ none. omega (arith, low, none))

names_listed : (ids : List (List ℕ)) (unlisted : ℕ) (others : List (List ℕ)) → length ids - unlisted ≤ length others
    → names_text ids unlisted others ≡ joined ids
names_listed ids unlisted others low = rw (le-ltb (length others) (length ids - unlisted) low) refl

-- where the others are more, listed or not, the users are written by their ids
same_users : (ids few others : List (List ℕ)) (unlisted : ℕ) → 0 < unlisted → length ids ≤ unlisted → 0 < length others
    → length ids ≤ length others → users_text ids unlisted few ≡ users_text ids 0 others
same_users ids few others unlisted some more there most =
    rw (not_zero unlisted some, not_zero (length others) there)
    (ap (λ names. count_text (length ids) ++ (codes ": " ++ names))
    (names_listed ids unlisted few (omega (arith, more)) ∙ sym (names_listed ids 0 others (omega (arith, most)))))

pushed : (may : Bool) (line : UserLine) (some all : List UserLine)
    → map (λ (l : UserLine). l.id) some ≡ map (λ (l : UserLine). l.id) all
    → map (λ (l : UserLine). l.id) (if may then line ∷ some else some) ≡ map (λ (l : UserLine). l.id) (if may then line ∷ all else all)
pushed true line some all is = ap (λ ids. line.id ∷ ids) is
pushed false line some all is = is

-- each user stands among those who may in a way, or among the others
both : (w : Way) (lines : List UserLine) → length (ids_by true w lines) + length (ids_by false w lines) ≡ length lines
both w lines =
    ap₂ (λ (a b : ℕ). a + b) (length-map (filter (λ (l : UserLine). is_as true (may_by w l)) lines) (λ (l : UserLine). l.id))
    (length-map (filter (λ (l : UserLine). is_as false (may_by w l)) lines) (λ (l : UserLine). l.id))
    ∙ length-filter_both (λ (l : UserLine). is_as true (may_by w l)) (λ (l : UserLine). is_as false (may_by w l)) (λ l. refl) lines

module _ {X : Type 0} (said : X → UserLine) (keeps : X → Bool) (denied : (x : X) → keeps x ≡ false → may (said x) ≡ false)
    (groupless : (x : X) → keeps x ≡ false → (groups : List (List ℕ)) → with_held (said x).held groups ≡ groups) where
  abbrev kept : List X → List UserLine
  kept xs = map said (filter keeps xs)

  same_groups : (xs : List X) (groups : List (List ℕ)) → groups_after (kept xs) groups ≡ groups_after (map said xs) groups
  same_groups [] groups = refl
  same_groups (x ∷ xs) groups = go (keeps x) refl (same_groups xs)
    where
      go : (b : Bool) → keeps x ≡ b → ((g : List (List ℕ)) → groups_after (kept xs) g ≡ groups_after (map said xs) g)
          → groups_after (map said (if b then x ∷ filter keeps xs else filter keeps xs)) groups
          ≡ groups_after (map said xs) (with_held (said x).held groups)
      go true is later = later (with_held (said x).held groups)
      go false is later = later groups ∙ ap (groups_after (map said xs)) (sym (groupless x is groups))

  same_ids : (w : Way) (xs : List X) → ids_by true w (kept xs) ≡ ids_by true w (map said xs)
  same_ids w [] = refl
  same_ids w (x ∷ xs) = go (keeps x) refl (same_ids w xs)
    where
      go : (b : Bool) → keeps x ≡ b → ids_by true w (kept xs) ≡ ids_by true w (map said xs)
          → ids_by true w (map said (if b then x ∷ filter keeps xs else filter keeps xs)) ≡ ids_by true w (said x ∷ map said xs)
      go true is later = pushed (may_by w (said x)) (said x) (filter (λ (l : UserLine). is_as true (may_by w l)) (kept xs))
          (filter (λ (l : UserLine). is_as true (may_by w l)) (map said xs)) later
      go false is later =
          let none : may_by w (said x) ≡ false = rw (denied x is) refl in
          rw none later

  module _ (xs : List X) (unlisted : ℕ) (is : unlisted ≡ length xs - length (kept xs)) (fewer : length (kept xs) < unlisted) where
    same_way : (w : Way) → way_text unlisted (kept xs) w ≡ way_text 0 (map said xs) w
    same_way w =
        let ids : List (List ℕ) = ids_by true w (map said xs) in
        let low : length ids ≤ length (kept xs) =
        omega (arith, both w (kept xs), ap (λ (l : List (List ℕ)). length l) (same_ids w xs)) in
        let all : length (map said xs) ≡ length xs = length-map xs said in
        ap (λ some. paragraph w some unlisted (ids_by false w (kept xs))) (same_ids w xs)
        ∙ ap (λ users. if length ids == 0 then [] else way_words w ++ (users ++ codes "</p>"))
        (same_users ids (ids_by false w (kept xs)) (ids_by false w (map said xs)) unlisted (omega (arith, fewer)) (omega (arith, fewer, low))
        (omega (arith, both w (map said xs), all, is, fewer, low)) (omega (arith, both w (map said xs), all, is, fewer, low)))

    same_sources : (console : Option (List ℕ)) (warned : Bool) (sources : List (Option LevelSource))
        → flat_map (by_source console warned unlisted (kept xs)) sources ≡ flat_map (by_source console warned 0 (map said xs)) sources
    same_sources console warned [] = refl
    same_sources console warned (s ∷ sources) =
        ap₂ (λ (a b : List ℕ). a ++ b) (same_way (way console warned s)) (same_sources console warned sources)

    same_ways : (console : Option (List ℕ)) (warned : Bool)
        → ways_text console warned unlisted (kept xs) ≡ ways_text console warned 0 (map said xs)
    same_ways console warned =
        ap (λ groups. flat_map (by_source console warned unlisted (kept xs)) (sources_of groups)) (same_groups xs [])
        ∙ same_sources console warned (sources_of (groups_after (map said xs) []))

    pub few_suffice : (console : Option (List ℕ)) → users_at console unlisted (kept xs) ≡ users_at console 0 (map said xs)
    few_suffice console = ap₂ (λ (a b : List ℕ). a ++ b) (same_ways console false) (same_ways console true)

pub named_suffice : (p : Profile) (level : Level) (callers : List Caller) (named : List UserLine) (unlisted : ℕ)
    → lets_others p level ≡ false → named ≡ said_to_named p level callers → unlisted ≡ length callers - length named
    → length named < unlisted → users_at None unlisted named ≡ users_at None 0 (map (said_everywhere (Some p) level) callers)
named_suffice p level callers named unlisted lets are is fewer =
    ap (users_at None unlisted) are
    ∙ few_suffice (said_everywhere (Some p) level) (is_called p) (λ c other. may_not p level lets c other)
    (λ c other groups. by_no_group p level lets c other groups) callers unlisted
    (is ∙ ap (λ l. length callers - length l) are) (subst (λ (l : List UserLine). length l < unlisted) are fewer) None
