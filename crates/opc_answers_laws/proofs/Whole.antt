-- Rows without a filter.
use Rattle.std.proofs.Common.{◌≡◌, ◌∙◌, ◌-◌, ◌&&◌, ◌∷◌, ℕ, true, List, [], Option, Some, None, Bor, ap, arith, cond, drop, is_none, refl, take}
use Rattle.std.proofs.lemmas.List.{length-take, take_all}
use Rattle.opc_state.specs.Loads.{asked_for, numbered}
use Rattle.opc_state.specs.declared.account.AccountRow.{AccountRow}
use Rattle.opc_account.specs.Filters.{is_code, is_wanted, is_within, meets, met, takes_all}
use Rattle.opc_account.specs.declared.filter.Filter.{Filter}
use Rattle.opc_answers_laws.specs.AccountLaws.{LoadedRowsAreShown}

all_pass : (since until : Option ℕ) (user console codes : Option (Bor (List ℕ))) (row : AccountRow)
    → (is_none since && is_none until && is_none user && is_none console && is_none codes) ≡ true
    → (is_within since until row.moment && is_wanted user row.user && is_wanted console row.console
    && is_code codes row.code) ≡ true
all_pass None None None None None row none = refl
all_pass (Some first) until user console codes row none = absurd (cc)
all_pass None (Some last) user console codes row none = absurd (cc)
all_pass None None (Some name) console codes row none = absurd (cc)
all_pass None None None (Some name) codes row none = absurd (cc)
all_pass None None None None (Some some) row none = absurd (cc)

meets_all : (f : Filter) (row : AccountRow) → takes_all f ≡ true → meets f row ≡ true
meets_all f row none = all_pass f.since f.until f.user f.console f.codes row none

all_met : (f : Filter) (rows : List (ℕ × AccountRow)) → takes_all f ≡ true → met f rows ≡ rows
all_met f [] none = refl
all_met f (row ∷ rows) none =
    ap (λ b. cond b (row ∷ met f rows) (met f rows)) (meets_all f row.1 none) ∙ ap (λ r. row ∷ r) (all_met f rows none)

pub are_all_shown : LoadedRowsAreShown
are_all_shown q account next most left none few =
    let page = asked_for next most account in
    ap (take left) (all_met q.filter page none)
    ∙ take_all left page (omega (arith, few, length-take most (drop (next - 1) (numbered account))))
