-- Where each profile that a query gives can be found by its own keys, each that is stored can.
use Rattle.std.proofs.Common.{◌≡◌, List, [], ◌∷◌, map, drop, filter, true, refl, subst}
use Rattle.std.specs.List.{AllByRecursion}
use Rattle.std.proofs.ByRecursion.{all_shuffled}
use Rattle.std.proofs.lemmas.List.Sorted.{IsPermutation-sym}
use Rattle.sqlite.specs.Order.{Row}
use Rattle.sqlite.specs.Query.{Output}
use Rattle.sqlite.specs.State.{State as SqlState, Shown}
use Rattle.sqlite_keyed.proofs.ListLemmas.{all_map, all_of, all_weaker, filter_all}
use Rattle.opc_store_sql.proofs.Asked.{answers, query, shows_values}
use Rattle.opc_store_sql.proofs.Queries.{answered, passes, shown}
use Rattle.opc_store_schema.specs.Contents.{Contents}
use Rattle.opc_store_schema.specs.Made.{IsMade}
use Rattle.opc_store_profiles.specs.Keys.{IsKeyed}
use Rattle.opc_store_profiles.proofs.ProfileLoads.{every, every_asked}

from_map : {X Y : Type 0} (P : Y → Type 0) (f : X → Y) (xs : List X) → AllByRecursion P (map f xs) → AllByRecursion (λ x. P (f x)) xs
from_map P f [] h = tt
from_map P f (x ∷ xs) h = (h.0, from_map P f xs h.1)

pub all_keyed : (old new : SqlState) (c : Contents) → IsMade c old.now → (rows : List Row)
    → Shown every.text [] old new rows → AllByRecursion IsKeyed rows → AllByRecursion IsKeyed c.profiles
all_keyed old new c made rows given all =
    let a = every in
    let db = old.now.trees in
    let show = shown a.tree a.tests a.project a.order db [] in
    let lists = answered a.tree a.tests a.project a.order db [] old.now.schema rows
    (answers a.schema a.text (query a) every_asked [] old new made.schema rows given) in
    let outputs = from_map IsKeyed (λ (o : Output). o.1) lists.ordered (subst (AllByRecursion IsKeyed) lists.are all) in
    let hits = from_map (λ (o : Output). IsKeyed o.1) show (filter (passes a.tree a.tests a.project a.order db []) (db a.tree))
    (all_shuffled (λ (o : Output). IsKeyed o.1) _ _ (IsPermutation-sym _ _ lists.same) outputs) in
    let rows_of = subst (AllByRecursion (λ (r : Row). IsKeyed (show r).1))
    (filter_all (λ (r : Row). true) (db a.tree) (all_of (λ (r : Row). true ≡ true) (λ _. refl) (db a.tree))) hits in
    let values = all_map IsKeyed (λ (r : Row). drop 1 r) (db a.tree)
    (all_weaker (λ (r : Row). IsKeyed (show r).1) (λ (r : Row). IsKeyed (drop 1 r))
    (λ r keyed. subst (λ (o : Output). IsKeyed o.1) (shows_values a [] refl db r) keyed)
    (db a.tree) rows_of) in
    all_shuffled IsKeyed _ _ (IsPermutation-sym _ _ made.holds.profiles.each) values
