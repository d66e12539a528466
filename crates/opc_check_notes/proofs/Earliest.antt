-- What is found first by the groups of a user, in the order of their connects.
use Rattle.std.proofs.Common.{
  ◌≡◌,
  ◌<◌,
  ◌≤◌,
  ◌+◌,
  ℕ,
  Bool,
  true,
  false,
  ◌&&◌,
  ◌||◌,
  append-nil,
  append_assoc,
  List,
  [],
  ◌∷◌,
  ◌++◌,
  Option,
  Some,
  None,
  get_or,
  length,
  map,
  take,
  arith,
  refl,
  sym,
  ap,
  ◌∙◌,
}
use Rattle.std.specs.Prelude.{if◌then◌else◌, nat_lt}
use Rattle.std.specs.Cmp.{both_ways}
use Rattle.std.specs.List.{AllByRecursion, fold, list_any}
use Rattle.std.specs.Option.{option_and_then, option_map, option_or}
use Rattle.std.specs.Str.{bytes_eq}
use Rattle.std.proofs.lemmas.Bool.{ltb-false, ltb-true}
use Rattle.std.proofs.lemmas.List.{map-append, take_more}
use Rattle.std.proofs.lemmas.List.Sums.{fold-append}
use Rattle.std.proofs.lemmas.Slice.Eq.{bytes_eq-Decides}
use Rattle.opc_policy_members.specs.declared.row.Row.{Row}
use Rattle.opc_policy_members.specs.declared.row.Row.TheVariants as rows
use Rattle.opc_check_notes.specs.declared.connects.Side.TheVariants as side
use Rattle.opc_check_notes.specs.declared.numbered.NumberedRow.{NumberedRow}
use Rattle.opc_check_notes.specs.Connects.{connects, number_at, pair}
use Rattle.opc_check_notes.specs.Effect.{AreInOrder}
use Rattle.opc_check_notes.specs.First.{first_of, paired}
use Rattle.opc_check_notes.specs.declared.groups.Ranked.{Ranked}
use Rattle.opc_check_notes.specs.declared.note.Finding.{Finding}
use Rattle.opc_check_notes.specs.Notes.{group_above}
use Rattle.opc_check_notes.specs.Ranked.{earlier, first_ranked, ranked}

-- ---- first by groups after their keys

pub first_of-map : {A B C : Type 0} (f : B → Option C) (g : A → B) (xs : List A) → first_of f (map g xs) ≡ first_of (λ x. f (g x)) xs
first_of-map f g [] = refl
first_of-map f g (x ∷ xs) = ap (option_or (f (g x))) (first_of-map f g xs)

-- ---- one more group

one_ranked_more : {A : Type 0} (list : List NumberedRow) (row : Row) (user : List ℕ) (g : A → List ℕ) (ys : List A) (y : A)
    → first_ranked list row user (map g (ys ++ y ∷ [])) ≡ earlier (first_ranked list row user (map g ys)) (ranked list row user (g y))
one_ranked_more list row user g ys y =
    ap (first_ranked list row user) (map-append g ys (y ∷ []))
    ∙ fold-append (λ (first : Option Ranked) (group : List ℕ). earlier first (ranked list row user group)) None (map g ys) (g y ∷ [])

pub ranked_step : {A : Type 0} (list : List NumberedRow) (row : Row) (user : List ℕ) (g : A → List ℕ) (xs : List A) (i : ℕ) (x : A)
    (old new : Option Ranked) → i < length xs → x ≡ get_or xs i x → old ≡ first_ranked list row user (map g (take i xs))
    → new ≡ earlier old (ranked list row user (g x)) → new ≡ first_ranked list row user (map g (take (i + 1) xs))
ranked_step list row user g xs i x old new low is was next =
    next ∙ ap (λ o. earlier o (ranked list row user (g x))) was
    ∙ ap (λ y. earlier (first_ranked list row user (map g (take i xs))) (ranked list row user (g y))) is
    ∙ sym (ap (λ l. first_ranked list row user (map g l)) (take_more xs i x low)
    ∙ one_ranked_more list row user g (take i xs) (get_or xs i x))

-- ---- the earlier of what is found first in rows whose numbers rise

abbrev Numbers : (NumberedRow → Option Ranked) → Type 0
Numbers f = (at : NumberedRow) (r : Ranked) → f at ≡ Some r → r.number ≡ at.number

pub none_some : {A : Type 0} (r : A) → ◌≡◌ {A = Option A} None (Some r) → ⊥
none_some r h = cc

same_some : (a b : Ranked) → ◌≡◌ {A = Option Ranked} (Some a) (Some b) → a.number ≡ b.number
same_some a b h = ap number h
  where
    number : Option Ranked → ℕ
    number None = 0
    number (Some r) = r.number

found_after : (f : NumberedRow → Option Ranked) → Numbers f → (n : ℕ) (xs : List NumberedRow)
    → AllByRecursion (λ (y : NumberedRow). n < y.number) xs → (r : Ranked) → first_of f xs ≡ Some r → n < r.number
found_after f numbers n [] low r h = absurd (none_some r h)
found_after f numbers n (x ∷ xs) low r h = go (f x) refl (found_after f numbers n xs low.1 r) h
  where
    go : (o : Option Ranked) → f x ≡ o → (first_of f xs ≡ Some r → n < r.number) → option_or o (first_of f xs) ≡ Some r → n < r.number
    go None is more at = more at
    go (Some s) is more at = omega (arith, low.0, numbers x s is, same_some s r at)

not_less : (a b : ℕ) (one two : Option Ranked) → a ≤ b → (if nat_lt b a then two else one) ≡ one
not_less a b one two up = go (nat_lt b a) refl
  where
    go : (t : Bool) → nat_lt b a ≡ t → (if t then two else one) ≡ one
    go true is = absurd (omega (arith, up, ltb-true b a is))
    go false is = refl

less : (a b : ℕ) (one two : Option Ranked) → b < a → (if nat_lt b a then two else one) ≡ two
less a b one two down = go (nat_lt b a) refl
  where
    go : (t : Bool) → nat_lt b a ≡ t → (if t then two else one) ≡ two
    go true is = refl
    go false is = absurd (omega (arith, down, ltb-false b a is))

keeps : (r : Ranked) (o : Option Ranked) → ((s : Ranked) → o ≡ Some s → r.number ≤ s.number) → Some r ≡ earlier (Some r) o
keeps r None later = refl
keeps r (Some s) later = sym (not_less r.number s.number (Some r) (Some s) (later s refl))

takes : (s : Ranked) (o : Option Ranked) → ((r : Ranked) → o ≡ Some r → s.number < r.number) → Some s ≡ earlier o (Some s)
takes s None later = refl
takes s (Some r) later = sym (less r.number s.number (Some r) (Some s) (later r refl))

pub first_either : (f h : NumberedRow → Option Ranked) → Numbers f → Numbers h → (xs : List NumberedRow) → AreInOrder xs
    → first_of (λ at. option_or (f at) (h at)) xs ≡ earlier (first_of f xs) (first_of h xs)
first_either f h fs hs [] order = refl
first_either f h fs hs (x ∷ xs) order = go (f x) (h x) refl refl (first_either f h fs hs xs order.1)
  where
    go : (a b : Option Ranked) → f x ≡ a → h x ≡ b
        → first_of (λ at. option_or (f at) (h at)) xs ≡ earlier (first_of f xs) (first_of h xs)
        → option_or (option_or a b) (first_of (λ at. option_or (f at) (h at)) xs)
        ≡ earlier (option_or a (first_of f xs)) (option_or b (first_of h xs))
    go (Some r) (Some s) is at more = keeps r (Some s) (λ t same. omega (arith, fs x r is, hs x s at, same_some s t same))
    go (Some r) None is at more =
        keeps r (first_of h xs) (λ s same. omega (arith, fs x r is, found_after h hs x.number xs order.0 s same))
    go None (Some s) is at more =
        takes s (first_of f xs) (λ r same. omega (arith, hs x s at, found_after f fs x.number xs order.0 r same))
    go None None is at more = more

-- ---- what the groups of a list give at the connects of a user

abbrev pub rank : ℕ → Option Finding → Option Ranked
rank n found = option_map (λ (f : Finding). record { number = n; finding = f }) found

abbrev pub within : (List ℕ → Option Finding) → List (List ℕ) → ℕ → Option (List ℕ) → Option Ranked
within f groups n partner =
    option_and_then (λ (g : List ℕ). if list_any (λ (e : List ℕ). bytes_eq e g) groups then rank n (f g) else None) partner

abbrev pub at_connect : (List ℕ → Option Finding) → List ℕ → List (List ℕ) → NumberedRow → Option Ranked
at_connect f user groups at = within f groups at.number (paired user (pair side.User at.row))

its_number : (b : Bool) (n : ℕ) (found : Option Finding) (r : Ranked) → (if b then rank n found else None) ≡ Some r → r.number ≡ n
its_number true n None r h = absurd (none_some r h)
its_number true n (Some f) r h = sym (same_some (record { number = n; finding = f }) r h)
its_number false n found r h = absurd (none_some r h)

numbers_of : (f : List ℕ → Option Finding) (user : List ℕ) (groups : List (List ℕ)) → Numbers (at_connect f user groups)
numbers_of f user groups at r h = go (paired user (pair side.User at.row)) h
  where
    go : (o : Option (List ℕ)) → within f groups at.number o ≡ Some r → r.number ≡ at.number
    go None is = absurd (none_some r is)
    go (Some g) is = its_number (list_any (λ (e : List ℕ). bytes_eq e g) groups) at.number (f g) r is

either_way : (a b : Bool) (o : Option Ranked) → (if a || b then o else None) ≡ option_or (if a then o else None) (if b then o else None)
either_way true true None = refl
either_way true true (Some r) = refl
either_way true false None = refl
either_way true false (Some r) = refl
either_way false b o = refl

any_more : (g e : List ℕ) (groups : List (List ℕ)) → list_any (λ (x : List ℕ). bytes_eq x g) (groups ++ e ∷ [])
    ≡ (list_any (λ (x : List ℕ). bytes_eq x g) groups || list_any (λ (x : List ℕ). bytes_eq x g) (e ∷ []))
any_more g e [] = refl
any_more g e (x ∷ xs) = ap (λ t. bytes_eq x g || t) (any_more g e xs) ∙ go (bytes_eq x g)
  where
    go : (b : Bool) → (b || (list_any (λ (y : List ℕ). bytes_eq y g) xs || list_any (λ (y : List ℕ). bytes_eq y g) (e ∷ [])))
        ≡ ((b || list_any (λ (y : List ℕ). bytes_eq y g) xs) || list_any (λ (y : List ℕ). bytes_eq y g) (e ∷ []))
    go true = refl
    go false = refl

more_groups : (f : List ℕ → Option Finding) (groups : List (List ℕ)) (e : List ℕ) (n : ℕ) (o : Option (List ℕ))
    → within f (groups ++ e ∷ []) n o ≡ option_or (within f groups n o) (within f (e ∷ []) n o)
more_groups f groups e n None = refl
more_groups f groups e n (Some g) =
    ap (λ b. if b then rank n (f g) else None) (any_more g e groups)
    ∙ either_way (list_any (λ (x : List ℕ). bytes_eq x g) groups) (list_any (λ (x : List ℕ). bytes_eq x g) (e ∷ [])) (rank n (f g))

same_first : {A B : Type 0} (f h : A → Option B) (xs : List A) → ((x : A) → f x ≡ h x) → first_of f xs ≡ first_of h xs
same_first f h [] same = refl
same_first f h (x ∷ xs) same = ap (λ o. option_or o (first_of f xs)) (same x) ∙ ap (option_or (h x)) (same_first f h xs same)

-- ---- one group: by the number of its connect

pub bytes_same : (a b : List ℕ) → bytes_eq a b ≡ true → a ≡ b
bytes_same a b h = (bytes_eq-Decides a b).0 h

turned : (a b : List ℕ) → bytes_eq a b ≡ bytes_eq b a
turned a b =
    both_ways (bytes_eq a b) (bytes_eq b a) (λ h. (bytes_eq-Decides b a).1 (sym (bytes_same a b h)))
    (λ h. (bytes_eq-Decides a b).1 (sym (bytes_same b a h)))

abbrev numbered : Option Finding → Option ℕ → Option Ranked
numbered found number = option_and_then (λ (f : Finding). option_map (λ (n : ℕ). record { number = n; finding = f }) number) found

one_here : (f : List ℕ → Option Finding) (user group : List ℕ) (at : NumberedRow)
    → at_connect f user (group ∷ []) at ≡ numbered (f group) (if connects user group at.row then Some at.number else None)
one_here f user group at = of_row at.row at.number
  where
    no_number : (o : Option Finding) → ◌≡◌ {A = Option Ranked} None (numbered o None)
    no_number None = refl
    no_number (Some x) = refl

    one : (n : ℕ) (o : Option Finding) → rank n o ≡ numbered o (Some n)
    one n None = refl
    one n (Some x) = refl

    go : (n : ℕ) (g : List ℕ) (b c : Bool) → bytes_eq group g ≡ c → bytes_eq g group ≡ c
        → within f (group ∷ []) n (if b then Some g else None) ≡ numbered (f group) (if b && bytes_eq g group then Some n else None)
    go n g false c is back = no_number (f group)
    go n g true true is back =
        ap (λ t. if t || false then rank n (f g) else None) is ∙ ap (λ h. rank n (f h)) (sym (bytes_same group g is)) ∙ one n (f group)
        ∙ sym (ap (λ t. numbered (f group) (if t then Some n else None)) back)
    go n g true false is back =
        ap (λ t. if t || false then rank n (f g) else None) is ∙ no_number (f group)
        ∙ sym (ap (λ t. numbered (f group) (if t then Some n else None)) back)

    of_row : (row : Row) (n : ℕ) → within f (group ∷ []) n (paired user (pair side.User row))
        ≡ numbered (f group) (if connects user group row then Some n else None)
    of_row (rows.Class class active) n = no_number (f group)
    of_row (rows.Group name) n = no_number (f group)
    of_row (rows.User u) n = no_number (f group)
    of_row (rows.Connect u g) n = go n g (bytes_eq u user) (bytes_eq group g) refl (turned g group)
    of_row (rows.Console name auth mode) n = no_number (f group)
    of_row (rows.Profile class pattern uacc owner warning) n = no_number (f group)
    of_row (rows.Permit class pattern id level when) n = no_number (f group)

number_or : (o : Option Finding) (a b : Option ℕ) → numbered o (option_or a b) ≡ option_or (numbered o a) (numbered o b)
number_or None a b = refl
number_or (Some f) None b = refl
number_or (Some f) (Some n) b = refl

one_group : (f : List ℕ → Option Finding) (user group : List ℕ) (xs : List NumberedRow)
    → first_of (at_connect f user (group ∷ [])) xs ≡ numbered (f group) (number_at xs user group)
one_group f user group [] = go (f group)
  where
    go : (o : Option Finding) → ◌≡◌ {A = Option Ranked} None (numbered o None)
    go None = refl
    go (Some x) = refl
one_group f user group (x ∷ xs) =
    ap (λ o. option_or o (first_of (at_connect f user (group ∷ [])) xs)) (one_here f user group x)
    ∙ ap (option_or (numbered (f group) (if connects user group x.row then Some x.number else None))) (one_group f user group xs)
    ∙ sym (number_or (f group) (if connects user group x.row then Some x.number else None) (number_at xs user group))

-- ---- all groups, one after another

nothing_within : (f : List ℕ → Option Finding) (user : List ℕ) (xs : List NumberedRow) → first_of (at_connect f user []) xs ≡ None
nothing_within f user [] = refl
nothing_within f user (x ∷ xs) =
    ap (λ o. option_or o (first_of (at_connect f user []) xs)) (go (paired user (pair side.User x.row))) ∙ nothing_within f user xs
  where
    go : (o : Option (List ℕ)) → within f [] x.number o ≡ None
    go None = refl
    go (Some g) = refl

module _ (list : List NumberedRow) (row : Row) (user : List ℕ) (order : AreInOrder list) where
  abbrev by_group : List ℕ → Option Finding
  by_group = group_above list row

  one_more : (done : List (List ℕ)) (e : List ℕ) → earlier (first_of (at_connect by_group user done) list) (ranked list row user e)
      ≡ first_of (at_connect by_group user (done ++ e ∷ [])) list
  one_more done e =
      ap (earlier (first_of (at_connect by_group user done) list)) (sym (one_group by_group user e list))
      ∙ sym (first_either (at_connect by_group user done) (at_connect by_group user (e ∷ [])) (numbers_of by_group user done)
      (numbers_of by_group user (e ∷ [])) list order)
      ∙ sym (same_first _ _ list (λ at. more_groups by_group done e at.number (paired user (pair side.User at.row))))

  in_turn : (done rest : List (List ℕ))
      → fold (λ (first : Option Ranked) (group : List ℕ). earlier first (ranked list row user group))
      (first_of (at_connect by_group user done) list) rest ≡ first_of (at_connect by_group user (done ++ rest)) list
  in_turn done [] = sym (ap (λ l. first_of (at_connect by_group user l) list) (append-nil done))
  in_turn done (e ∷ es) =
      ap (λ o. fold (λ (first : Option Ranked) (group : List ℕ). earlier first (ranked list row user group)) o es) (one_more done e)
      ∙ in_turn (done ++ e ∷ []) es
      ∙ ap (λ l. first_of (at_connect by_group user l) list) (append_assoc done (e ∷ []) es)

  pub ranked_first : (groups : List (List ℕ)) → first_ranked list row user groups ≡ first_of (at_connect by_group user groups) list
  ranked_first groups =
      ap (λ o. fold (λ (first : Option Ranked) (group : List ℕ). earlier first (ranked list row user group)) o groups)
      (sym (nothing_within by_group user list))
      ∙ in_turn [] groups
