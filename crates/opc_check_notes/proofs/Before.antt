-- Of the patterns that come before one, those that can cover what it covers have sort keys from its head on.
use Rattle.std.proofs.Common.{◌≡◌, ℕ, ◌+◌, ◌<◌, ◌≤◌, ◌==◌, inl, inr, Bool, true, false, not, cond, ◌&&◌, ◌||◌, List, [], ◌∷◌, ◌++◌, Option, Some, None, Ordering, append_assoc, filter, get_or, length, map, refl, ap, sym, ◌∙◌, subst, take, arith}
use Rattle.std.specs.Prelude.{◌↔◌, IfSome, IsTrue, filter_map, if◌then◌else◌}
use Rattle.std.specs.Cmp.{both_ways, nat_cmp_is}
use Rattle.std.specs.Cmp.Lexicographic.{slice_cmp}
use Rattle.std.specs.List.{cons_option, list_any}
use Rattle.std.specs.Option.{option_and_then}
use Rattle.std.specs.Ordering.{is_lt, nat_cmp}
use Rattle.std.specs.declared.cmp.Ordering.TheVariants.{Less, Equal, Greater}
use Rattle.std.proofs.lemmas.Bool.{cases_lt}
use Rattle.std.proofs.lemmas.List.{length-append}
use Rattle.opc_names.specs.declared.class.Class.TheVariants.{Console, Opercmds}
use Rattle.opc_names.specs.declared.token.Token.{Token}
use Rattle.opc_names.specs.declared.token.Token.TheVariants.{Literal, Percent, Star, Stars}
use Rattle.opc_names.specs.Names.{IsPattern}
use Rattle.opc_names.specs.Order.{Before, begins_with_stars, ends_open, head, key_byte, sort_key}
use Rattle.opc_names.specs.Patterns.{CoversText, covers_text, tokens}
use Rattle.opc_names.proofs.Computed.{text_computes}
use Rattle.opc_names.proofs.Heads.{heads_are_prefixes, longer_heads_come_first}
use Rattle.opc_names.proofs.Keys.{keys_are_in_order}
use Rattle.opc_names.proofs.Orders.{before_itself, before_trans}
use Rattle.opc_policy_members.specs.declared.row.Row.{Row}
use Rattle.opc_policy_members.specs.declared.row.Row.TheVariants as rows
use Rattle.opc_import.specs.declared.kind.Kind.TheVariants as kind
use Rattle.opc_check_reach.specs.Forms.{decides}
use Rattle.opc_check_reach.specs.Reach.{IsMet}
use Rattle.opc_check_reach.proofs.Formed.{met_decides, same_decides}
use Rattle.opc_check_notes.specs.declared.note.Finding.{Finding}
use Rattle.opc_check_notes.specs.declared.note.Finding.TheVariants as found
use Rattle.opc_check_notes.specs.declared.numbered.NumberedRow.{NumberedRow}
use Rattle.opc_check_notes.specs.Kinds.{is_of, of_kind}
use Rattle.opc_check_notes.specs.Met.{is_met, is_preceded}
use Rattle.opc_check_notes.specs.Notes.{if_so, never_decides, no_resource}
use Rattle.opc_check_notes.specs.Preceding.{ArePreceding, AreValid, HasPatterns, all_before, all_keyed, earlier, keyed, opercmds_pattern}
use Rattle.opc_check_notes.specs.SortedPairs.{from_to}
use Rattle.opc_check_notes.proofs.OfKind.{others_give_none}
use Rattle.opc_check_notes.proofs.Steps.{found_step}

order : List ℕ → List ℕ → Ordering
order = slice_cmp nat_cmp

-- ---- heads and sort keys

-- a sort key begins with the head
head_first : (ts : List Token) (end : List ℕ) → (rest : List ℕ) × (map key_byte ts ++ end ≡ head ts ++ rest)
head_first [] end = (end, refl)
head_first (Literal c ∷ ts) end =
    elim ((c == 46) && begins_with_stars ts) as (λ b. (rest : List ℕ) × (c ∷ (map key_byte ts ++ end) ≡ cond b [] (c ∷ head ts) ++ rest)) [
      | true ↦ (c ∷ (map key_byte ts ++ end), refl)
      | false ↦ (let more = head_first ts end in (more.0, ap (λ l. c ∷ l) more.1))
    ]
head_first (Percent ∷ ts) end = (map key_byte (Percent ∷ ts) ++ end, refl)
head_first (Star ∷ ts) end = (map key_byte (Star ∷ ts) ++ end, refl)
head_first (Stars ∷ ts) end = (map key_byte (Stars ∷ ts) ++ end, refl)

pub head_short : (p : List ℕ) → length (sort_key p) ≤ 40 → length (head (tokens p)) ≤ 40
head_short p few =
    let key = head_first (tokens p) (if ends_open (tokens p) then 255 ∷ [] else []) in
    let long : length (sort_key p) ≡ length (head (tokens p)) + length key.0 =
    ap length key.1 ∙ length-append (head (tokens p)) key.0 in
    omega (arith, long, few)

-- of two beginnings of a text the longer one begins with the other
begins_so : (g h x y : List ℕ) → g ++ x ≡ h ++ y → length g ≤ length h → (rest : List ℕ) × (h ≡ g ++ rest)
begins_so [] h x y e few = (h, refl)
begins_so (c ∷ g) [] x y e few = absurd (omega (arith, few))
begins_so (c ∷ g) (d ∷ h) x y e few =
    let same : c ≡ d = cc in
    let rest : g ++ x ≡ h ++ y = cc in
    let more = begins_so g h x y rest (omega (arith, few)) in
    (more.0, ap (λ l. d ∷ l) more.1 ∙ ap (λ i. i ∷ (g ++ more.0)) (sym same))

-- a text is not below its beginning
not_below : (h rest : List ℕ) → is_lt (order (h ++ rest) h) ≡ false
unfolding order
not_below [] [] = refl
not_below [] (c ∷ rest) = refl
not_below (c ∷ h) rest = let same : nat_cmp c c ≡ Equal = sym (nat_cmp_is c c Equal refl) in rw same (not_below h rest)

less_is : (r : Ordering) → is_lt r ≡ true → r ≡ Less
less_is Less h = refl
less_is Equal h = cc
less_is Greater h = cc

in_range : (p q resource : List ℕ) → IsPattern p → IsPattern q → CoversText p resource → CoversText q resource
    → is_lt (order (sort_key q) (sort_key p)) ≡ true → is_lt (order (sort_key q) (head (tokens p))) ≡ false
unfolding order
in_range p q resource valid other covers also below =
    let before : Before (tokens q) (tokens p) = (keys_are_in_order q p other valid).0 (less_is _ below) in
    elim (cases_lt (length (head (tokens q))) (length (head (tokens p)))) [
      | inl shorter ↦ absurd (before_itself (tokens p)
          (before_trans (tokens p) (tokens q) (tokens p) (longer_heads_come_first p q resource valid other covers also shorter) before))
      | inr long ↦ (let of_one = heads_are_prefixes p resource valid covers in
          let of_other = heads_are_prefixes q resource other also in
          let more = begins_so (head (tokens p)) (head (tokens q)) of_one.0 of_other.0 (sym of_one.1 ∙ of_other.1) long in
          let key = head_first (tokens q) (if ends_open (tokens q) then 255 ∷ [] else []) in
          let begins : sort_key q ≡ head (tokens p) ++ (more.0 ++ key.0) =
          key.1 ∙ ap (λ l. l ++ key.0) more.1 ∙ append_assoc (head (tokens p)) more.0 key.0 in
          ap (λ k. is_lt (order k (head (tokens p)))) begins ∙ not_below (head (tokens p)) (more.0 ++ key.0))
    ]

-- ---- what covers a resource among the patterns that come before

module _ (p resource : List ℕ) (valid : IsPattern p) (covered : covers_text p resource ≡ true) where
  covering : List ℕ → Bool
  covering q = covers_text q resource

  is_near : List ℕ × List ℕ → Bool
  is_near x = not (is_lt (slice_cmp nat_cmp x.0 (head (tokens p)))) && is_lt (slice_cmp nat_cmp x.0 (sort_key p))

  covers_so : (q : List ℕ) → covers_text q resource ≡ true → CoversText q resource
  covers_so q h = (text_computes true q resource (sym h)).0 refl

  one : (q : List ℕ) → IsPattern q → (rest : Bool) (more : List (List ℕ)) → rest ≡ list_any covering more
      → ((is_near (sort_key q, q) && covering q) || rest)
      ≡ list_any covering (cons_option (if is_lt (slice_cmp nat_cmp (sort_key q) (sort_key p)) then Some q else None) more)
  unfolding covering is_near order
  one q other rest more same = go (is_lt (slice_cmp nat_cmp (sort_key q) (sort_key p))) (covers_text q resource) refl refl
    where
      low : Bool
      low = is_lt (slice_cmp nat_cmp (sort_key q) (head (tokens p)))

      go : (below covers : Bool) → is_lt (slice_cmp nat_cmp (sort_key q) (sort_key p)) ≡ below → covers_text q resource ≡ covers
          → (((not (is_lt (slice_cmp nat_cmp (sort_key q) (head (tokens p)))) && below) && covers) || rest)
          ≡ list_any covering (cons_option (if below then Some q else None) more)
      go false covers b c = ap (λ t. (t && covers) || rest) (never (not (is_lt (slice_cmp nat_cmp (sort_key q) (head (tokens p)))))) ∙ same
        where
          never : (a : Bool) → (a && false) ≡ false
          never true = refl
          never false = refl
      go true false b c =
          ap (λ t. t || rest) (never (not (is_lt (slice_cmp nat_cmp (sort_key q) (head (tokens p)))) && true)) ∙ same
          ∙ ap (λ t. t || list_any covering more) (sym c)
        where
          never : (a : Bool) → (a && false) ≡ false
          never true = refl
          never false = refl
      go true true b c =
          ap (λ t. ((not t && true) && true) || rest) (in_range p q resource valid other (covers_so p covered) (covers_so q c) b)
          ∙ ap (λ t. t || list_any covering more) (sym c)

  one_row : (row : Row) (list : List NumberedRow) → AreValid (cons_option (keyed row) (all_keyed list))
      → (AreValid (all_keyed list)
      → list_any (λ (x : List ℕ × List ℕ). is_near x && covering x.1) (all_keyed list) ≡ list_any covering (all_before list p))
      → list_any (λ (x : List ℕ × List ℕ). is_near x && covering x.1) (cons_option (keyed row) (all_keyed list))
      ≡ list_any covering (cons_option (earlier p row) (all_before list p))
  one_row (rows.Profile Opercmds q uacc owner warns) list h more = one q h.0 _ (all_before list p) (more h.1)
  one_row (rows.Profile Console q uacc owner warns) list h more = more h
  one_row (rows.Class class active) list h more = more h
  one_row (rows.Group name) list h more = more h
  one_row (rows.User user) list h more = more h
  one_row (rows.Connect user group) list h more = more h
  one_row (rows.Console name auth mode) list h more = more h
  one_row (rows.Permit class pattern id level when) list h more = more h

  rows_any : (list : List NumberedRow) → AreValid (all_keyed list)
      → list_any (λ (x : List ℕ × List ℕ). is_near x && covering x.1) (all_keyed list) ≡ list_any covering (all_before list p)
  rows_any [] all = refl
  rows_any (at ∷ list) all = one_row at.row list all (λ h. rows_any list h)

  any_near : (near : List ℕ × List ℕ → Bool) (xs : List (List ℕ × List ℕ))
      → list_any covering (map (λ (x : List ℕ × List ℕ). x.1) (filter near xs))
      ≡ list_any (λ (x : List ℕ × List ℕ). near x && covering x.1) xs
  any_near near [] = refl
  any_near near (x ∷ xs) = go (near x) (any_near near xs)
    where
      go : (b : Bool) → list_any covering (map (λ (y : List ℕ × List ℕ). y.1) (filter near xs))
          ≡ list_any (λ (y : List ℕ × List ℕ). near y && covering y.1) xs
          → list_any covering (map (λ (y : List ℕ × List ℕ). y.1) (cond b (x ∷ filter near xs) (filter near xs)))
          ≡ ((b && covering x.1) || list_any (λ (y : List ℕ × List ℕ). near y && covering y.1) xs)
      go true more = ap (λ t. covering x.1 || t) more
      go false more = more

  near_any : (list : List NumberedRow) (kept : List (List ℕ × List ℕ)) → HasPatterns list kept
      → list_any covering (map (λ (x : List ℕ × List ℕ). x.1) (from_to (slice_cmp nat_cmp) (head (tokens p)) (sort_key p) kept))
      ≡ list_any covering (all_before list p)
  unfolding is_near
  near_any list kept has =
      any_near is_near kept ∙ has.same (λ (x : List ℕ × List ℕ). is_near x && covering x.1) ∙ rows_any list has.valid

pub are_preceding : (list : List NumberedRow) (p : List ℕ) (kept : List (List ℕ × List ℕ)) (found : List (List ℕ)) → IsPattern p
    → HasPatterns list kept
    → found ≡ map (λ (x : List ℕ × List ℕ). x.1) (from_to (slice_cmp nat_cmp) (head (tokens p)) (sort_key p) kept)
    → ArePreceding list p found
unfolding covering
are_preceding list p kept found valid has is resource covered =
    ap (list_any (λ (q : List ℕ). covers_text q resource)) is ∙ near_any p resource valid covered list kept has

-- ---- how they are kept

pub has_patterns : (list : List NumberedRow) (pairs kept : List (List ℕ × List ℕ)) → pairs ≡ all_keyed list → AreValid pairs
    → ((test : List ℕ × List ℕ → Bool) → list_any test kept ≡ list_any test pairs) → HasPatterns list kept
has_patterns list pairs kept is valid same =
    record { same = λ test. same test ∙ ap (list_any test) is; valid = subst (λ l. AreValid l) is valid }

pub valid_more : (pairs : List (List ℕ × List ℕ)) (found : Option (List ℕ × List ℕ)) → AreValid pairs
    → AreValid (cons_option found []) → AreValid (pairs ++ cons_option found [])
valid_more [] found all h = h
valid_more (x ∷ pairs) found all h = (all.0, valid_more pairs found all.1 h)

valid_found : (found : Option (List ℕ × List ℕ)) → IfSome found (λ (x : List ℕ × List ℕ). IsPattern x.1) → AreValid (cons_option found [])
valid_found None h = tt
valid_found (Some x) h = (h, tt)

pub keyed_step : (list : List NumberedRow) (i : ℕ) (at : NumberedRow) (found : Option (List ℕ × List ℕ)) (old new : List (List ℕ × List ℕ))
    → i < length list → at ≡ get_or list i at → found ≡ keyed at.row → IfSome found (λ (x : List ℕ × List ℕ). IsPattern x.1)
    → (old ≡ filter_map (λ (a : NumberedRow). keyed a.row) (take i list)) × AreValid old → new ≡ old ++ cons_option found []
    → (new ≡ filter_map (λ (a : NumberedRow). keyed a.row) (take (i + 1) list)) × AreValid new
keyed_step list i at found old new low is what valid was next =
    let all = valid_more old found was.1 (valid_found found valid) in (
      found_step (λ (a : NumberedRow). keyed a.row) list i at [] old new found low is what was.0 next,
      subst (λ l. AreValid l) (sym next) all,
    )

pub all_keyed_of : (list : List NumberedRow) → filter_map (λ (at : NumberedRow). keyed at.row) (of_kind list kind.Profile) ≡ all_keyed list
all_keyed_of list =
    others_give_none (λ (at : NumberedRow). is_of kind.Profile at.row) (λ (at : NumberedRow). keyed at.row) (λ at. keyed_none at.row) list
  where
    keyed_none : (row : Row) → is_of kind.Profile row ≡ false → keyed row ≡ None
    keyed_none (rows.Class class active) h = refl
    keyed_none (rows.Group name) h = refl
    keyed_none (rows.User user) h = refl
    keyed_none (rows.Connect user group) h = refl
    keyed_none (rows.Console name auth mode) h = refl
    keyed_none (rows.Profile class pattern uacc owner warning) h = absurd (cc)
    keyed_none (rows.Permit class pattern id level when) h = refl

-- ---- a pattern that is met, and one that never decides

pub met_so : (pattern : List ℕ) (b : Bool) → (IsTrue b ↔ IsMet pattern) → b ≡ is_met pattern
met_so pattern b says =
    both_ways b (is_met pattern) (λ t. (met_decides pattern).1 (says.0 t)) (λ t. says.1 ((met_decides pattern).0 t))

none_before : (a b : Bool) → a ≡ b → false ≡ (a && not b)
none_before true true h = refl
none_before true false h = cc
none_before false b h = refl

pub preceded_by_none : (list : List NumberedRow) (pattern : List ℕ) (found : List (List ℕ)) → found ≡ []
    → ArePreceding list pattern found → false ≡ is_preceded list pattern
preceded_by_none list pattern found none preceding =
    none_before (decides pattern []) (decides pattern (all_before list pattern))
    (same_decides pattern [] (all_before list pattern) (λ r covered. ap (list_any (λ (q : List ℕ). covers_text q r)) (sym none) ∙ preceding r covered))

some_before : (a b : Bool) → b ≡ true → false ≡ (a && not b)
some_before true b h = sym (ap not h)
some_before false b h = refl

pub preceded_not : (list : List NumberedRow) (pattern : List ℕ) (found : List (List ℕ)) → decides pattern found ≡ true
    → ArePreceding list pattern found → false ≡ is_preceded list pattern
preceded_not list pattern found some preceding =
    some_before (is_met pattern) (decides pattern (all_before list pattern))
    (sym (same_decides pattern found (all_before list pattern) preceding) ∙ some)

not_before : (a b : Bool) → b ≡ false → a ≡ (a && not b)
not_before true b h = sym (ap not h)
not_before false b h = refl

pub preceded_so : (list : List NumberedRow) (pattern : List ℕ) (found : List (List ℕ)) → decides pattern found ≡ false
    → ArePreceding list pattern found → is_met pattern ≡ is_preceded list pattern
preceded_so list pattern found none preceding =
    not_before (is_met pattern) (decides pattern (all_before list pattern))
    (sym (same_decides pattern found (all_before list pattern) preceding) ∙ none)

pub never_so : (list : List NumberedRow) (row : Row) (pattern : List ℕ) (b : Bool) (result : Option Finding)
    → Some pattern ≡ opercmds_pattern row → b ≡ is_preceded list pattern → result ≡ if_so b (found.NeverDecides pattern)
    → result ≡ never_decides list row
never_so list row pattern b result is what next =
    next ∙ ap (λ t. if_so t (found.NeverDecides pattern)) what
    ∙ ap (option_and_then (λ (p : List ℕ). if_so (is_preceded list p) (found.NeverDecides p))) is

pub unmet_so : (row : Row) (pattern : List ℕ) (b : Bool) (result : Option Finding) → Some pattern ≡ opercmds_pattern row
    → b ≡ is_met pattern → result ≡ if_so (not b) (found.NoResource pattern) → result ≡ no_resource row
unmet_so row pattern b result is what next =
    next ∙ ap (λ t. if_so (not t) (found.NoResource pattern)) what
    ∙ ap (option_and_then (λ (p : List ℕ). if_so (not (is_met p)) (found.NoResource p))) is
