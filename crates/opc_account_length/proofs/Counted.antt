-- How many rows an account has.
use Rattle.std.proofs.Common.{◌≡◌, ◌≤◌, ◌+◌, ◌-◌, ◌==◌, ℕ, List, arith, drop, length, not, nat_le}
use Rattle.std.proofs.lemmas.Bool.Decides.{nat_tests}
use Rattle.std.proofs.lemmas.List.{length-drop, length-take}
use Rattle.std.proofs.lemmas.List.FromFn.{length-enumerate_from}
use Rattle.opc_state.specs.Loads.{asked_for, numbered}
use Rattle.opc_state.specs.declared.account.AccountRow.{AccountRow}

-- one requested row is there, if the account is long enough
pub row_there : (number : ℕ) (account : List AccountRow) → 1 ≤ number
    → not (length (asked_for number 1 account) == 0) ≡ nat_le number (length account)
row_there number account some =
    let one = length-take 1 (drop (number - 1) (numbered account)) in
    let rest = length-drop (number - 1) (numbered account) in
    let all = length-enumerate_from 1 account in
    grind (arith, nat_tests, one, rest, all)

-- a page of three rows that is not full ends the account
pub page_ends : (number : ℕ) (account : List AccountRow) → 1 ≤ number
    → (length (asked_for number 3 account) ≡ 1 → number ≡ length account)
    × (length (asked_for number 3 account) ≡ 2 → number + 1 ≡ length account)
page_ends number account some =
    let page = length-take 3 (drop (number - 1) (numbered account)) in
    let rest = length-drop (number - 1) (numbered account) in
    let all = length-enumerate_from 1 account in
    (λ one. grind (arith, nat_tests, page, rest, all, one, some), λ two. grind (arith, nat_tests, page, rest, all, two, some))
