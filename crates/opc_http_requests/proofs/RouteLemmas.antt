-- Which route a path takes.
use Rattle.std.proofs.Common.{
  ◌≡◌,
  ◌∙◌,
  ◌<◌,
  ◌++◌,
  ◌∷◌,
  [],
  ℕ,
  List,
  Bool,
  true,
  false,
  Some,
  None,
  refl,
  sym,
  ap,
  subst,
  codes,
  cond,
  drop,
  arith,
  inl,
  inr,
  lit<,
  suc,
  get_or,
}
use Rattle.std.specs.Prelude.{Option, nat_eq, if◌then◌else◌}
use Rattle.std.specs.List.{starts_with}
use Rattle.std.specs.Str.{bytes_eq}
use Rattle.std.proofs.lemmas.Bool.{cases_Bool, eqb-true}
use Rattle.matchit.specs.Level.{IsText}
use Rattle.std.proofs.lemmas.Bool.Decides.{nat_tests}
use Rattle.matchit.specs.Rows.{Rows, RowsOf, prepend, param_token}
use Rattle.matchit.specs.Router.{RouteOf, map_key, rename}
use Rattle.matchit.specs.Seek.{first, seek, step}
use Rattle.matchit.proofs.SeekLemmas.{first-prefix, seek-empty}
use Rattle.matchit.proofs.LongestLemmas.{better-again}
use Rattle.matchit.proofs.RenameLemmas.{seek-rename}
use Rattle.opc_http_requests.specs.Routes.{
  account_tail,
  after_part,
  at_console,
  if_none,
  import_tail,
  kept,
  last_part,
  part,
  profiles_tail,
  route_of,
  tail_route,
  the_routes,
  two_parts,
}
use Rattle.opc_http_requests.specs.declared.routes.Route.{Route}
use Rattle.opc_http_requests.specs.declared.routes.Route.TheVariants.{Command, Admin, Import, ListProfiles, ListAccount}
use Rattle.opc_http_requests.proofs.PartLemmas.{Slashed, lit, literal-end, part-whole, part-cut, cut, last-route, middle-first, under, IsText-drop, IsText-after}

-- what stands after the console, by number
abbrev after_console : Rows
after_console = (account_tail, 5) ∷ (codes "/admin", 2) ∷ (codes "/command", 1) ∷ (import_tail, 3) ∷ (profiles_tail, 4) ∷ []

-- the routes, by number
abbrev route_named : ℕ → Route
route_named n =
    cond (nat_eq n 1) Command (cond (nat_eq n 2) Admin (cond (nat_eq n 3) Import (cond (nat_eq n 4) ListProfiles ListAccount)))

abbrev route_at : ℕ → RouteOf Route
route_at n =
    cond (nat_eq n 1) (kept (at_console (codes "/command")) (codes "/consoles/{console}/command") ((11, 18) ∷ []) Command).1
    (cond (nat_eq n 2) (kept (at_console (codes "/admin")) (codes "/consoles/{console}/admin") ((11, 18) ∷ []) Admin).1
    (cond (nat_eq n 3) (kept (at_console import_tail) (codes "/consoles/{console}/import/{batch}") ((11, 18) ∷ (28, 33) ∷ []) Import).1
    (cond (nat_eq n 4) (kept (at_console profiles_tail) (codes "/consoles/{console}/profiles/{class}") ((11, 18) ∷ (30, 35) ∷ []) ListProfiles).1
    (kept (at_console account_tail) (codes "/consoles/{console}/account/{from}/{count}") ((11, 18) ∷ (29, 33) ∷ (36, 41) ∷ []) ListAccount).1)))

routes-renamed : the_routes ≡ rename route_at (prepend (codes "/consoles/") (prepend (param_token ∷ []) after_console))
routes-renamed = refl

pub first-consoles : (rows : Rows) (path : List ℕ)
    → first (prepend (codes "/consoles/") rows) path ≡ cond (starts_with nat_eq path (codes "/consoles/"))
    (first rows (drop 10 path)) None
first-consoles rows path = first-prefix (codes "/consoles/") rows path
    (lit< tt, (lit< tt, (lit< tt, (lit< tt, (lit< tt, (lit< tt, (lit< tt, (lit< tt, (lit< tt, (lit< tt, tt))))))))))

slashed : Slashed after_console
slashed = record {
  longest = λ seg. let again = better-again seg [] (47 ∷ []) in rw (again, again, again, again) refl;
  keeps = refl;
}

-- the two parts of an account
abbrev count_rows : Rows
count_rows = (codes "/" ++ param_token ∷ [], 5) ∷ []

count-slashed : Slashed count_rows
count-slashed = record { longest = λ seg. refl; keeps = refl }

count-nil : first count_rows [] ≡ None
unfolding seek
count-nil = refl

count-route : (r : List ℕ) → IsText r → first count_rows r ≡ cond (starts_with nat_eq r (codes "/")) (last_part 5 (drop 1 r)) None
count-route r text =
    first-prefix (47 ∷ []) ((param_token ∷ [], 5) ∷ []) r (lit< tt, tt)
    ∙ under (starts_with nat_eq r (codes "/")) _ _ (last-route 5 (drop 1 r) (IsText-drop 1 r text))

two-route : (p : List ℕ) → IsText p → first (prepend (param_token ∷ []) count_rows) p ≡ two_parts 5 p
two-route p text =
    middle-first count_rows count-slashed count-nil p text
    ∙ ap (λ (o : Option ℕ). if_none (part p) None o) (count-route (after_part p) (IsText-after p text))

after_console-nil : first after_console [] ≡ None
unfolding seek
after_console-nil = refl

-- what follows the slash, by its first letter
abbrev tails : Rows
tails =
    (codes "account/" ++ param_token ∷ codes "/" ++ param_token ∷ [], 5) ∷ (codes "admin", 2) ∷ (codes "command", 1)
    ∷ (codes "import/" ++ param_token ∷ [], 3) ∷ (codes "profiles/" ++ param_token ∷ [], 4) ∷ []

tail-slash : (r : List ℕ) → first after_console (47 ∷ r) ≡ first tails r
tail-slash r = first-prefix (47 ∷ []) tails (47 ∷ r) (lit< tt, tt)

-- what the rows give of what follows the slash
abbrev tail_of : List ℕ → Option ℕ
tail_of r =
    if bytes_eq r (codes "command") then Some 1
    else if bytes_eq r (codes "admin") then Some 2
    else if starts_with nat_eq r (codes "import/") then last_part 3 (drop 7 r)
    else if starts_with nat_eq r (codes "profiles/") then last_part 4 (drop 9 r)
    else if starts_with nat_eq r (codes "account/") then two_parts 5 (drop 8 r)
    else None

tail-nil : first tails [] ≡ None
unfolding seek
tail-nil = refl

tail-c : (p : List ℕ) → first tails (99 ∷ p) ≡ tail_of (99 ∷ p)
tail-c p =
    lit tails 99 p refl refl ∙ first-prefix (codes "ommand") (([], 1) ∷ []) p (lit< tt, (lit< tt, (lit< tt, (lit< tt, (lit< tt, (lit< tt, tt))))))
    ∙ literal-end (codes "ommand") 1 p

tail-i : (p : List ℕ) → IsText p → first tails (105 ∷ p) ≡ tail_of (105 ∷ p)
tail-i p text =
    lit tails 105 p refl refl
    ∙ first-prefix (codes "mport/") ((param_token ∷ [], 3) ∷ []) p (lit< tt, (lit< tt, (lit< tt, (lit< tt, (lit< tt, (lit< tt, tt))))))
    ∙ under (starts_with nat_eq p (codes "mport/")) _ _ (last-route 3 (drop 6 p) (IsText-drop 6 p text))

tail-p : (p : List ℕ) → IsText p → first tails (112 ∷ p) ≡ tail_of (112 ∷ p)
tail-p p text =
    lit tails 112 p refl refl
    ∙ first-prefix (codes "rofiles/") ((param_token ∷ [], 4) ∷ []) p (lit< tt, (lit< tt, (lit< tt, (lit< tt, (lit< tt, (lit< tt, (lit< tt, (lit< tt, tt))))))))
    ∙ under (starts_with nat_eq p (codes "rofiles/")) _ _ (last-route 4 (drop 8 p) (IsText-drop 8 p text))

-- after an `a`
abbrev a_tails : Rows
a_tails = (codes "ccount/" ++ param_token ∷ codes "/" ++ param_token ∷ [], 5) ∷ (codes "dmin", 2) ∷ []

abbrev a_tail_of : List ℕ → Option ℕ
a_tail_of r =
    if bytes_eq r (codes "dmin") then Some 2
    else if starts_with nat_eq r (codes "ccount/") then two_parts 5 (drop 7 r)
    else None

a-nil : first a_tails [] ≡ None
unfolding seek
a-nil = refl

a-d : (p : List ℕ) → first a_tails (100 ∷ p) ≡ a_tail_of (100 ∷ p)
a-d p =
    lit a_tails 100 p refl refl ∙ first-prefix (codes "min") (([], 2) ∷ []) p (lit< tt, (lit< tt, (lit< tt, tt)))
    ∙ literal-end (codes "min") 2 p

a-c : (p : List ℕ) → IsText p → first a_tails (99 ∷ p) ≡ a_tail_of (99 ∷ p)
a-c p text =
    lit a_tails 99 p refl refl
    ∙ first-prefix (codes "count/") (prepend (param_token ∷ []) count_rows) p (lit< tt, (lit< tt, (lit< tt, (lit< tt, (lit< tt, (lit< tt, tt))))))
    ∙ under (starts_with nat_eq p (codes "count/")) _ _ (two-route (drop 6 p) (IsText-drop 6 p text))

a-other : (y : ℕ) (p : List ℕ) → nat_eq y 100 ≡ false → nat_eq y 99 ≡ false → first a_tails (y ∷ p) ≡ a_tail_of (y ∷ p)
a-other y p d c =
    let d' : nat_eq 100 y ≡ false = grind (arith, nat_tests) in
    let c' : nat_eq 99 y ≡ false = grind (arith, nat_tests) in
    let gone : step y a_tails ≡ [] = rw (d', c') refl in
    let wanted : a_tail_of (y ∷ p) ≡ None = rw (d, c') refl in
    lit a_tails y p refl refl ∙ ap (λ (t : Rows). seek 0 t p) gone ∙ seek-empty 0 p ∙ sym wanted

a-first : (r : List ℕ) → IsText r → first a_tails r ≡ a_tail_of r
a-first [] text = a-nil
a-first (y ∷ p) text = elim (cases_Bool (nat_eq y 100)) [
  | inl d ↦ subst (λ (n : ℕ). first a_tails (n ∷ p) ≡ a_tail_of (n ∷ p)) (sym (eqb-true y 100 d)) (a-d p)
  | inr other ↦ elim (cases_Bool (nat_eq y 99)) [
    | inl c ↦ subst (λ (n : ℕ). first a_tails (n ∷ p) ≡ a_tail_of (n ∷ p)) (sym (eqb-true y 99 c)) (a-c p text.1)
    | inr last ↦ a-other y p other last
  ]
]

tail-a : (p : List ℕ) → IsText p → first tails (97 ∷ p) ≡ tail_of (97 ∷ p)
tail-a p text = lit tails 97 p refl refl ∙ a-first p text

tail-other : (y : ℕ) (p : List ℕ) → nat_eq y 99 ≡ false → nat_eq y 97 ≡ false → nat_eq y 105 ≡ false → nat_eq y 112 ≡ false
    → first tails (y ∷ p) ≡ tail_of (y ∷ p)
tail-other y p c a i q =
    let c' : nat_eq 99 y ≡ false = grind (arith, nat_tests) in
    let a' : nat_eq 97 y ≡ false = grind (arith, nat_tests) in
    let i' : nat_eq 105 y ≡ false = grind (arith, nat_tests) in
    let q' : nat_eq 112 y ≡ false = grind (arith, nat_tests) in
    let gone : step y tails ≡ [] = rw (c', a', i', q') refl in
    let wanted : tail_of (y ∷ p) ≡ None = rw (c, a, i', q', a') refl in
    lit tails y p refl refl ∙ ap (λ (t : Rows). seek 0 t p) gone ∙ seek-empty 0 p ∙ sym wanted

tail-first : (r : List ℕ) → IsText r → first tails r ≡ tail_of r
tail-first [] text = tail-nil
tail-first (y ∷ p) text = elim (cases_Bool (nat_eq y 99)) [
  | inl c ↦ subst (λ (n : ℕ). first tails (n ∷ p) ≡ tail_of (n ∷ p)) (sym (eqb-true y 99 c)) (tail-c p)
  | inr not_c ↦ elim (cases_Bool (nat_eq y 97)) [
    | inl a ↦ subst (λ (n : ℕ). first tails (n ∷ p) ≡ tail_of (n ∷ p)) (sym (eqb-true y 97 a)) (tail-a p text.1)
    | inr not_a ↦ elim (cases_Bool (nat_eq y 105)) [
      | inl i ↦ subst (λ (n : ℕ). first tails (n ∷ p) ≡ tail_of (n ∷ p)) (sym (eqb-true y 105 i)) (tail-i p text.1)
      | inr not_i ↦ elim (cases_Bool (nat_eq y 112)) [
        | inl q ↦ subst (λ (n : ℕ). first tails (n ∷ p) ≡ tail_of (n ∷ p)) (sym (eqb-true y 112 q)) (tail-p p text.1)
        | inr last ↦ tail-other y p not_c not_a not_i last
      ]
    ]
  ]
]

IsText-tail : (a r : List ℕ) → IsText (a ++ 47 ∷ r) → IsText r
IsText-tail [] r text = text.1
IsText-tail (b ∷ a) r text = IsText-tail a r text.1

-- the routes by number, of what stands after a console and of a path
abbrev tail_number : List ℕ → Option ℕ
tail_number r =
    if bytes_eq r (codes "/command") then Some 1
    else if bytes_eq r (codes "/admin") then Some 2
    else if starts_with nat_eq r (codes "/import/") then last_part 3 (drop 8 r)
    else if starts_with nat_eq r (codes "/profiles/") then last_part 4 (drop 10 r)
    else if starts_with nat_eq r (codes "/account/") then two_parts 5 (drop 9 r)
    else None

abbrev number_of : List ℕ → Option ℕ
number_of path =
    cond (starts_with nat_eq path (codes "/consoles/")) (if_none (part (drop 10 path)) None (tail_number (after_part (drop 10 path)))) None

-- what stands after a console begins with a slash, or is nothing
tail-route : (q : List ℕ) → IsText q → first after_console (after_part q) ≡ tail_number (after_part q)
tail-route q text = elim (cut q) [
  | inl none ↦ rw (part-whole q none).1 after_console-nil
  | inr found ↦
      let rest : after_part q ≡ 47 ∷ found.1 = ap after_part found.2 ∙ (part-cut found.0 found.1 found.3).1 in
      rw rest (tail-slash found.1 ∙ tail-first found.1 (IsText-tail found.0 found.1 (subst IsText found.2 text)))
]

first-number_of : (path : List ℕ) → IsText path → first (prepend (codes "/consoles/") (prepend (param_token ∷ []) after_console)) path ≡ number_of path
first-number_of path text = first-consoles (prepend (param_token ∷ []) after_console) path ∙ under (starts_with nat_eq path (codes "/consoles/")) _ _
    (middle-first after_console slashed after_console-nil (drop 10 path) (IsText-drop 10 path text)
    ∙ ap (λ (o : Option ℕ). if_none (part (drop 10 path)) None o) (tail-route (drop 10 path) (IsText-drop 10 path text)))

-- the value of the route that the router gives
abbrev pub value_of : Option (RouteOf Route) → Option Route
value_of None = None
value_of (Some route) = Some route.value

-- the route with a number
abbrev named : Option ℕ → Option Route
named o = value_of (map_key route_at o)

named-last : (n : ℕ) (k : List ℕ) → named (last_part n k) ≡ last_part (route_at n).value k
named-last n [] = refl
named-last n (b ∷ k) = by (after_part (b ∷ k))
  where
    by : (r : List ℕ) → named (if_none r (Some n) None) ≡ if_none r (Some (route_at n).value) None
    by [] = refl
    by (x ∷ r) = refl

named-two : (n : ℕ) (p : List ℕ) → named (two_parts n p) ≡ two_parts (route_at n).value p
named-two n p = by (part p) (starts_with nat_eq (after_part p) (codes "/"))
  where
    by : (a : List ℕ) (u : Bool) → named (if_none a None (cond u (last_part n (drop 1 (after_part p))) None))
        ≡ if_none a None (cond u (last_part (route_at n).value (drop 1 (after_part p))) None)
    by [] u = refl
    by (x ∷ a) false = refl
    by (x ∷ a) true = named-last n (drop 1 (after_part p))

named-tail : (r : List ℕ) → named (tail_number r) ≡ tail_route r
named-tail r =
    by (bytes_eq r (codes "/command")) (bytes_eq r (codes "/admin")) (starts_with nat_eq r (codes "/import/"))
    (starts_with nat_eq r (codes "/profiles/")) (starts_with nat_eq r (codes "/account/"))
  where
    by : (c a i q n : Bool)
        → named (cond c (Some 1) (cond a (Some 2) (cond i (last_part 3 (drop 8 r)) (cond q (last_part 4 (drop 10 r)) (cond n (two_parts 5 (drop 9 r)) None)))))
        ≡ cond c (Some Command) (cond a (Some Admin)
        (cond i (last_part Import (drop 8 r))
        (cond q (last_part ListProfiles (drop 10 r)) (cond n (two_parts ListAccount (drop 9 r)) None))))
    by true a i q n = refl
    by false true i q n = refl
    by false false true q n = named-last 3 (drop 8 r)
    by false false false true n = named-last 4 (drop 10 r)
    by false false false false true = named-two 5 (drop 9 r)
    by false false false false false = refl

named-path : (path : List ℕ) → named (number_of path) ≡ route_of path
named-path path = by (starts_with nat_eq path (codes "/consoles/")) (part (drop 10 path))
  where
    by : (u : Bool) (a : List ℕ) → named (cond u (if_none a None (tail_number (after_part (drop 10 path)))) None)
        ≡ cond u (if_none a None (tail_route (after_part (drop 10 path)))) None
    by false a = refl
    by true [] = refl
    by true (x ∷ a) = named-tail (after_part (drop 10 path))

-- the router's answer is the route of the path
pub first-value : (path : List ℕ) → IsText path → value_of (first the_routes path) ≡ route_of path
first-value path text =
    ap (λ (rows : RowsOf (RouteOf Route)). value_of (first rows path)) routes-renamed
    ∙ ap value_of (seek-rename route_at 0 (prepend (codes "/consoles/") (prepend (param_token ∷ []) after_console)) path)
    ∙ ap (λ (o : Option ℕ). named o) (first-number_of path text)
    ∙ named-path path

-- the bytes of a text are bytes
pub text-bytes : (p : List ℕ) → ((i : ℕ) → get_or p i 0 < 256) → IsText p
text-bytes [] h = tt
text-bytes (b ∷ p) h = (h 0, text-bytes p (λ i. h (suc i)))
