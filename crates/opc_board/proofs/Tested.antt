-- The invariants of a board, tested.
use Rattle.std.proofs.Common.{◌≡◌, Ordering, ap, Some, None, Option, Bool, true, false, List, [], ◌∷◌, refl, ◌&&◌, IfSome, MatchBool}
use Rattle.std.specs.Option.{is_some}
use Rattle.std.specs.List.{find, list_all, AllByRecursion, IsAllAdjacentAnswer}
use Rattle.opc_board.specs.Invariants.{Name, is, IsHeldRightly, held_rightly, holds_rightly, unit_before, device_before, console_before, reply_before}
use Rattle.opc_rows.specs.Ordered.{Ascends}
use Rattle.opc_rows.proofs.Orders.{ascends_or_not}
use Rattle.opc_board.proofs.Names.{earlier_on}
use Rattle.std.specs.declared.cmp.Ordering.TheVariants.{Less, Equal, Greater}
use Rattle.std.specs.Ordering.{is_lt}
use Rattle.std.proofs.lemmas.Cmp.{nat_cmp_total}
use Rattle.opc_board.specs.declared.rows.ConsoleRow.{ConsoleRow}
use Rattle.opc_board.specs.declared.rows.ReplyRow.{ReplyRow}
use Rattle.opc_board.specs.declared.rows.UnitRow.{UnitRow}
use Rattle.opc_board.specs.declared.rows.DeviceRow.{DeviceRow}

both : (p q : Bool) → p && q ≡ true → (p ≡ true) × (q ≡ true)
both true q e = (refl, e)
both false q e = absurd (cc)

joined : (p q : Bool) → p ≡ true → q ≡ true → p && q ≡ true
joined true q e f = f
joined false q e f = absurd (cc)

shown : (units : List UnitRow) (online : Bool) (unit : Option Name) → holds_rightly units online unit ≡ true
    → IfSome unit (λ n. (online ≡ true) × (is_some (find (λ u. is u.name n) units) ≡ true))
shown units online None e = tt
shown units online (Some n) e = both online _ e

passed : (units : List UnitRow) (online : Bool) (unit : Option Name)
    → IfSome unit (λ n. (online ≡ true) × (is_some (find (λ u. is u.name n) units) ≡ true))
    → holds_rightly units online unit ≡ true
passed units online None e = refl
passed units online (Some n) e = joined online _ e.0 e.1

pub all_shown : (units : List UnitRow) (devices : List DeviceRow) → list_all (held_rightly units) devices ≡ true → AllByRecursion (IsHeldRightly units) devices
all_shown units [] e = tt
all_shown units (d ∷ ds) e = let parts = both (held_rightly units d) _ e in (shown units d.online d.unit parts.0, all_shown units ds parts.1)

pub all_passed : (units : List UnitRow) (devices : List DeviceRow) → AllByRecursion (IsHeldRightly units) devices → list_all (held_rightly units) devices ≡ true
all_passed units [] e = refl
all_passed units (d ∷ ds) e = joined (held_rightly units d) _ (passed units d.online d.unit e.0) (all_passed units ds e.1)

-- what an answer says, true and false
split : (P : Type 0) (r : Bool) → MatchBool r P (P → ⊥) → (r ≡ true → P) × (r ≡ false → P → ⊥)
split P true holds = (λ e. holds, λ e p. absurd (cc))
split P false holds = (λ e. absurd (cc), λ e. holds)

less_is : (o : Ordering) → is_lt o ≡ true → o ≡ Less
less_is Less e = refl
less_is Equal e = absurd (cc)
less_is Greater e = absurd (cc)

pub units_tested : (xs : List UnitRow) (r : Bool) → IsAllAdjacentAnswer (λ x y b. b ≡ unit_before x y) xs r
    → (r ≡ true → Ascends unit_before xs) × (r ≡ false → Ascends unit_before xs → ⊥)
units_tested xs r answer = split (Ascends unit_before xs) r (ascends_or_not unit_before (λ x y z. earlier_on x.name y.name z.name) xs r answer)

pub devices_tested : (xs : List DeviceRow) (r : Bool) → IsAllAdjacentAnswer (λ x y b. b ≡ device_before x y) xs r
    → (r ≡ true → Ascends device_before xs) × (r ≡ false → Ascends device_before xs → ⊥)
devices_tested xs r answer = split (Ascends device_before xs) r (ascends_or_not device_before (λ x y z. earlier_on x.number y.number z.number) xs r answer)

pub consoles_tested : (xs : List ConsoleRow) (r : Bool) → IsAllAdjacentAnswer (λ x y b. b ≡ console_before x y) xs r
    → (r ≡ true → Ascends console_before xs) × (r ≡ false → Ascends console_before xs → ⊥)
consoles_tested xs r answer = split (Ascends console_before xs) r (ascends_or_not console_before (λ x y z. earlier_on x.name y.name z.name) xs r answer)

pub replies_tested : (xs : List ReplyRow) (r : Bool) → IsAllAdjacentAnswer (λ x y b. b ≡ reply_before x y) xs r
    → (r ≡ true → Ascends reply_before xs) × (r ≡ false → Ascends reply_before xs → ⊥)
replies_tested xs r answer = split (Ascends reply_before xs) r
    (ascends_or_not reply_before (λ x y z e f. ap is_lt
    (nat_cmp_total.trans x.id y.id z.id (less_is _ e) (less_is _ f))) xs r answer)
