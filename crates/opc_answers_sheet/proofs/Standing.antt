-- Whoever may stands in one of the paragraphs.
use Rattle.std.proofs.Common.{◌≡◌, ◌∙◌, ap, ap₂, sym, refl, ℕ, zero, suc, Bool, true, false, not, List, [], ◌∷◌, ◌++◌, Option, Some, None, map}
use Rattle.std.specs.Prelude.{◌&&◌, ◌||◌}
use Rattle.std.specs.List.{list_any, slice_get}
use Rattle.std.specs.Option.{option_eq}
use Rattle.std.specs.Ordering.{match_ordering}
use Rattle.std.specs.Str.{bytes_eq}
use Rattle.std.specs.declared.cmp.Ordering.{Ordering}
use Rattle.std.specs.declared.cmp.Ordering.TheVariants.{Less, Equal, Greater}
use Rattle.std.specs.Ordering.{is_eq}
use Rattle.std.proofs.lemmas.Map.Text.{is_eq-slice_cmp}
use Rattle.std.proofs.lemmas.Option.{same_Some}
use Rattle.std.proofs.lemmas.Slice.Eq.{bytes_eq-Decides}
use Rattle.opc_policy_members.specs.Members.{name_cmp, with_group}
use Rattle.opc_policy_sources.specs.declared.sources.HeldLevel.{HeldLevel}
use Rattle.opc_policy_sources.specs.declared.sources.LevelSource.{LevelSource}
use Rattle.opc_policy_sources.specs.declared.sources.LevelSource.TheVariants as source
use Rattle.opc_answers.specs.declared.lines.UserLine.{UserLine}
use Rattle.opc_answers.specs.Texts.{may}
use Rattle.opc_answers_sheet.specs.Laws.{ListsWhoMay, stands_by}
use Rattle.opc_answers_sheet.specs.Ways.{console_of, group_source, groups_after, has_source, is_as, is_by_warning}
use Rattle.opc_answers_sheet.specs.Ways.{same_source, sources_of, with_held, with_source}

-- ---- which groups are among the sources

abbrev is_named : List ℕ → List (List ℕ) → Bool
is_named name groups = list_any (λ (g : List ℕ). bytes_eq g name) groups

same_name : (name : List ℕ) → bytes_eq name name ≡ true
same_name name = (bytes_eq-Decides name name).1 refl

or_true : (a : Bool) → (a || true) ≡ true
or_true true = refl
or_true false = refl

added : (name : List ℕ) (groups : List (List ℕ)) → is_named name (with_group name groups) ≡ true
added name [] = ap (λ b. b || false) (same_name name)
added name (g ∷ groups) = go (name_cmp name g) refl (added name groups)
  where
    go : (o : Ordering) → name_cmp name g ≡ o → is_named name (with_group name groups) ≡ true
        → is_named name (match_ordering o (name ∷ g ∷ groups) (g ∷ groups) (g ∷ with_group name groups)) ≡ true
    go Less e later = ap (λ b. b || is_named name (g ∷ groups)) (same_name name)
    go Equal e later = ap (λ b. b || is_named name groups)
        ((bytes_eq-Decides g name).1 (sym ((bytes_eq-Decides name g).0 (sym (is_eq-slice_cmp name g) ∙ ap is_eq e))))
    go Greater e later = ap (λ b. bytes_eq g name || b) later ∙ or_true (bytes_eq g name)

kept : (name other : List ℕ) (groups : List (List ℕ)) → is_named name groups ≡ true → is_named name (with_group other groups) ≡ true
kept name other [] was = cc
kept name other (g ∷ groups) was = go (name_cmp other g) (bytes_eq g name) refl was (kept name other groups)
  where
    go : (o : Ordering) (b : Bool) → bytes_eq g name ≡ b → (b || is_named name groups) ≡ true
        → (is_named name groups ≡ true → is_named name (with_group other groups) ≡ true)
        → is_named name (match_ordering o (other ∷ g ∷ groups) (g ∷ groups) (g ∷ with_group other groups)) ≡ true
    go Less b e h later = ap (λ r. bytes_eq other name || (r || is_named name groups)) e ∙ ap (λ r. bytes_eq other name || r) h
        ∙ or_true (bytes_eq other name)
    go Equal b e h later = ap (λ r. r || is_named name groups) e ∙ h
    go Greater true e h later = ap (λ r. r || is_named name (with_group other groups)) e
    go Greater false e h later = ap (λ r. r || is_named name (with_group other groups)) e ∙ later h

kept_after_held : (name : List ℕ) (held : Option HeldLevel) (groups : List (List ℕ)) → is_named name groups ≡ true
    → is_named name (with_held held groups) ≡ true
kept_after_held name None groups was = was
kept_after_held name (Some held) groups was = go held.source
  where
    go : (s : LevelSource) → is_named name (with_source s groups) ≡ true
    go source.Own = was
    go (source.Group other) = kept name other groups was
    go source.Everyone = was
    go source.Universal = was
    go source.Restricted = was

kept_after : (name : List ℕ) (lines : List UserLine) (groups : List (List ℕ)) → is_named name groups ≡ true
    → is_named name (groups_after lines groups) ≡ true
kept_after name [] groups was = was
kept_after name (line ∷ lines) groups was =
    kept_after name lines (with_held line.held groups) (kept_after_held name line.held groups was)

-- ---- the source of each line is among them

abbrev any_has : Option HeldLevel → List (Option LevelSource) → Bool
any_has held sources = list_any (λ (s : Option LevelSource). has_source s held) sources

abbrev has_any : List (List ℕ) → Option HeldLevel → Bool
has_any groups held = any_has held (sources_of groups)

of_groups : (held : HeldLevel) (name : List ℕ) (groups : List (List ℕ)) (rest : List (Option LevelSource)) → held.source ≡ source.Group name
    → is_named name groups ≡ true
    → any_has (Some held) (map group_source groups ++ rest) ≡ true
of_groups held name [] rest is was = cc
of_groups held name (g ∷ groups) rest is was = go (bytes_eq g name) refl was (of_groups held name groups rest is)
  where
    go : (b : Bool) → bytes_eq g name ≡ b → (b || is_named name groups) ≡ true
        → (is_named name groups ≡ true → any_has (Some held) (map group_source groups ++ rest) ≡ true)
        → (same_source (source.Group g) held.source || any_has (Some held) (map group_source groups ++ rest)) ≡ true
    go true e h later = ap (λ s. same_source (source.Group g) s || any_has (Some held) (map group_source groups ++ rest)) is
        ∙ ap (λ b. b || any_has (Some held) (map group_source groups ++ rest)) e
    go false e h later = ap (λ b. same_source (source.Group g) held.source || b) (later h) ∙ or_true (same_source (source.Group g) held.source)

any_after : (held : Option HeldLevel) (first rest : List (Option LevelSource))
    → any_has held rest ≡ true
    → any_has held (first ++ rest) ≡ true
any_after held [] rest is = is
any_after held (s ∷ first) rest is = ap (λ b. has_source s held || b) (any_after held first rest is) ∙ or_true (has_source s held)

abbrev given_to_all : List (Option LevelSource)
given_to_all = Some source.Everyone ∷ Some source.Universal ∷ Some source.Restricted ∷ None ∷ []

abbrev to_all : LevelSource → Bool
to_all s = same_source source.Everyone s || (same_source source.Universal s || (same_source source.Restricted s || (false || false)))

has_among : (held : Option HeldLevel) (groups : List (List ℕ))
    → ((h : HeldLevel) (name : List ℕ) → held ≡ Some h → h.source ≡ source.Group name → is_named name groups ≡ true)
    → has_any groups held ≡ true
has_among None groups named = any_after None (map group_source groups) given_to_all refl
has_among (Some h) groups named = go h.source refl
  where
    by_all : any_has (Some h) given_to_all ≡ true → has_any groups (Some h) ≡ true
    by_all is = ap (λ b. same_source source.Own h.source || b) (any_after (Some h) (map group_source groups) given_to_all is)
        ∙ or_true (same_source source.Own h.source)

    go : (s : LevelSource) → h.source ≡ s → has_any groups (Some h) ≡ true
    go source.Own is = ap (λ s. same_source source.Own s
        || any_has (Some h) (map group_source groups ++ given_to_all)) is
    go (source.Group name) is = ap (λ b. same_source source.Own h.source || b)
        (of_groups h name groups given_to_all is (named h name refl is)) ∙ or_true (same_source source.Own h.source)
    go source.Everyone is = by_all (ap to_all is)
    go source.Universal is = by_all (ap to_all is)
    go source.Restricted is = by_all (ap to_all is)

named_after : (lines : List UserLine) (place : ℕ) (line : UserLine) (groups : List (List ℕ)) (h : HeldLevel) (name : List ℕ)
    → slice_get lines place ≡ Some line → line.held ≡ Some h → h.source ≡ source.Group name
    → is_named name (groups_after lines groups) ≡ true
named_after [] place line groups h name at held is = cc
named_after (l ∷ lines) zero line groups h name at held is =
    let gives : with_held l.held groups ≡ with_group name groups =
    ap (λ (o : UserLine). with_held o.held groups) (same_Some l line at) ∙ (ap (λ o. with_held o groups) held ∙ ap (λ s. with_source s groups) is) in
    kept_after name lines (with_held l.held groups) (ap (is_named name) gives ∙ added name groups)
named_after (l ∷ lines) (suc place) line groups h name at held is = named_after lines place line (with_held l.held groups) h name at held is

-- ---- whoever may stands in one paragraph, with a warning or without one

and_false : (m : Bool) → (m && false) ≡ false
and_false true = refl
and_false false = refl

shared : (m a b k : Bool) → ((m && (a && k)) || (m && (b && k))) ≡ (m && ((a || b) && k))
shared false a b k = refl
shared true false b k = refl
shared true true b true = refl
shared true true true false = refl
shared true true false false = refl

any_by : (m k : Bool) (test : Option LevelSource → Bool) (sources : List (Option LevelSource))
    → list_any (λ (s : Option LevelSource). m && (test s && k)) sources ≡ (m && (list_any test sources && k))
any_by m k test [] = sym (and_false m)
any_by m k test (s ∷ sources) = ap (λ b. (m && (test s && k)) || b) (any_by m k test sources) ∙ shared m (test s) (list_any test sources) k

either_way : (m k w : Bool) → ((m && (k && not w)) || (m && (k && w))) ≡ (m && k)
either_way false k w = refl
either_way true false w = refl
either_way true true true = refl
either_way true true false = refl

pub lists_who_may : ListsWhoMay
lists_who_may console lines place line at =
    let among : has_any (groups_after lines []) line.held ≡ true =
    has_among line.held (groups_after lines []) (λ h name held is. named_after lines place line [] h name at held is) in
    let here : Bool = option_eq bytes_eq (console_of line.held) console in
    let by : (warned : Bool) → stands_by console warned lines line
    ≡ (may line && (here && is_as warned (is_by_warning line.ruling))) = λ warned.
    any_by (may line) (here && is_as warned (is_by_warning line.ruling)) (λ (s : Option LevelSource). has_source s line.held)
    (sources_of (groups_after lines []))
    ∙ ap (λ b. may line && (b && (here && is_as warned (is_by_warning line.ruling)))) among in
    ap₂ (λ (p q : Bool). p || q) (by false) (by true) ∙ either_way (may line) here (is_by_warning line.ruling)
