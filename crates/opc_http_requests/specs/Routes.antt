-- The five routes: cut out of a path at its slashes, and as `matchit` keeps them.
use Rattle.std.specs.Prelude.{
  ℕ,
  zero,
  suc,
  List,
  [],
  ◌∷◌,
  ◌++◌,
  codes,
  drop,
  nat_eq,
  ◌==◌,
  Option,
  Some,
  None,
  if◌then◌else◌,
}
use Rattle.std.specs.List.{starts_with}
use Rattle.std.specs.Str.{bytes_eq}
use Rattle.matchit.specs.Rows.{RowsOf, param_token}
use Rattle.matchit.specs.Router.{RouteOf}
use Rattle.opc_http_requests.specs.declared.routes.Route.{Route}
use Rattle.opc_http_requests.specs.declared.routes.Route.TheVariants.{Command, Admin, Import, ListProfiles, ListAccount}

-- the bytes before the first slash
abbrev pub part : List ℕ → List ℕ
part [] = []
part (b ∷ rest) = if b == 47 then [] else b ∷ part rest

-- the bytes from the first slash on
abbrev pub after_part : List ℕ → List ℕ
after_part [] = []
after_part (b ∷ rest) = if b == 47 then b ∷ rest else after_part rest

-- the part of a path at a place, counted from 0 for the text before the first slash
abbrev pub part_at : ℕ → List ℕ → List ℕ
part_at zero path = part path
part_at (suc n) path = part_at n (drop 1 (after_part path))

-- the first if there are no bytes, otherwise the second
abbrev pub if_none : {A : Type 0} → List ℕ → A → A → A
if_none [] a b = a
if_none (x ∷ rest) a b = b

-- one part, of one byte or more, to the end
abbrev pub last_part : {A : Type 0} → A → List ℕ → Option A
last_part route p = if_none p None (if_none (after_part p) (Some route) None)

-- two such parts
abbrev pub two_parts : {A : Type 0} → A → List ℕ → Option A
two_parts route p = if_none (part p) None
    (if starts_with nat_eq (after_part p) (codes "/") then last_part route (drop 1 (after_part p)) else None)

-- what follows a console
abbrev pub tail_route : List ℕ → Option Route
tail_route r =
    if bytes_eq r (codes "/command") then Some Command
    else if bytes_eq r (codes "/admin") then Some Admin
    else if starts_with nat_eq r (codes "/import/") then last_part Import (drop 8 r)
    else if starts_with nat_eq r (codes "/profiles/") then last_part ListProfiles (drop 10 r)
    else if starts_with nat_eq r (codes "/account/") then two_parts ListAccount (drop 9 r)
    else None

-- a console is one byte or more
abbrev pub console_route : List ℕ → Option Route
console_route q = if_none (part q) None (tail_route (after_part q))

-- the route of a path, if it has one
abbrev pub route_of : List ℕ → Option Route
route_of path = if starts_with nat_eq path (codes "/consoles/") then console_route (drop 10 path) else None

-- a route as `matchit` stores it: its tokens, its text, the places of its names in the text
abbrev pub kept : List ℕ → List ℕ → List (ℕ × ℕ) → Route → List ℕ × RouteOf Route
kept pattern text names route = (pattern, record { pattern = pattern; text = text; names = names; value = route })

-- what follows the console, as tokens
abbrev pub import_tail : List ℕ
import_tail = codes "/import/" ++ param_token ∷ []

abbrev pub profiles_tail : List ℕ
profiles_tail = codes "/profiles/" ++ param_token ∷ []

abbrev pub account_tail : List ℕ
account_tail = codes "/account/" ++ param_token ∷ codes "/" ++ param_token ∷ []

abbrev pub at_console : List ℕ → List ℕ
at_console tail = codes "/consoles/" ++ param_token ∷ tail

-- in the order of their tokens
abbrev pub the_routes : RowsOf (RouteOf Route)
the_routes =
    kept (at_console account_tail) (codes "/consoles/{console}/account/{from}/{count}")
    ((11, 18) ∷ (29, 33) ∷ (36, 41) ∷ []) ListAccount
    ∷ kept (at_console (codes "/admin")) (codes "/consoles/{console}/admin") ((11, 18) ∷ []) Admin
    ∷ kept (at_console (codes "/command")) (codes "/consoles/{console}/command") ((11, 18) ∷ []) Command
    ∷ kept (at_console import_tail) (codes "/consoles/{console}/import/{batch}") ((11, 18) ∷ (28, 33) ∷ []) Import
    ∷ kept (at_console profiles_tail) (codes "/consoles/{console}/profiles/{class}") ((11, 18) ∷ (30, 35) ∷ [])
    ListProfiles
    ∷ []
