-- Which rows a page of the account has.
use Rattle.std.proofs.Common.{◌≡◌, inl, inr, ℕ, zero, suc, ◌+◌, ◌-◌, ◌<◌, ◌≤◌, List, [], ◌∷◌, Some, None, map, take, drop, arith, refl, sym, ap, subst, ◌∙◌}
use Rattle.std.specs.List.{enumerate_from, slice_get}
use Rattle.std.specs.Option.{option_map}
use Rattle.std.proofs.lemmas.Bool.{cases_lt}
use Rattle.std.proofs.lemmas.Option.{slice_get-map}
use Rattle.opc_state.specs.declared.account.AccountRow.{AccountRow}
use Rattle.opc_state.specs.Loads.{asked_for}
use Rattle.opc_machine.specs.Listings.{account_line}
use Rattle.opc_machine_laws.specs.ChangingLaws.{AccountIsPaged, IsPage}
use Rattle.opc_machine_laws.proofs.Changing.{account_only}

module _ {A : Type 0} where
  get_drop : (n k : ℕ) (xs : List A) → slice_get (drop n xs) k ≡ slice_get xs (n + k)
  get_drop zero k xs = let e : 0 + k ≡ k = omega arith in sym (ap (slice_get xs) e)
  get_drop (suc n) k [] = refl
  get_drop (suc n) k (x ∷ xs) = let e : suc n + k ≡ suc (n + k) = omega arith in get_drop n k xs ∙ sym (ap (slice_get (x ∷ xs)) e)

  get_take : (n k : ℕ) (xs : List A) → k < n → slice_get (take n xs) k ≡ slice_get xs k
  get_take zero k xs low = absurd (omega arith)
  get_take (suc n) k [] low = refl
  get_take (suc n) zero (x ∷ xs) low = refl
  get_take (suc n) (suc k) (x ∷ xs) low = get_take n k xs (omega arith)

  get_past : (n k : ℕ) (xs : List A) → n ≤ k → slice_get (take n xs) k ≡ None
  get_past zero k xs past = refl
  get_past (suc n) k [] past = refl
  get_past (suc n) zero (x ∷ xs) past = absurd (omega arith)
  get_past (suc n) (suc k) (x ∷ xs) past = get_past n k xs (omega arith)

  get_numbered : (n k : ℕ) (xs : List A) → slice_get (enumerate_from n xs) k ≡ option_map (λ x. (n + k, x)) (slice_get xs k)
  get_numbered n k [] = refl
  get_numbered n zero (x ∷ xs) = let e : n ≡ n + 0 = omega arith in ap (λ (m : ℕ). Some (m, x)) e
  get_numbered n (suc k) (x ∷ xs) = let e : n + 1 + k ≡ n + suc k =
      omega arith in get_numbered (n + 1) k xs ∙ ap (λ (m : ℕ). option_map (λ (y : A). (m, y)) (slice_get xs k)) e

module _ (from count : ℕ) (account : List AccountRow) (k : ℕ) where
  line_at : slice_get (map account_line (asked_for from count account)) k ≡ option_map account_line (slice_get (asked_for from count account) k)
  line_at = slice_get-map account_line (asked_for from count account) k

  asked_at : k < count → slice_get (asked_for from count account) k ≡ option_map (λ row. (from - 1 + k + 1, row)) (slice_get account (from - 1 + k))
  asked_at low =
      let e : 1 + (from - 1 + k) ≡ from - 1 + k + 1 = omega arith in
      get_take count k _ low ∙ get_drop (from - 1) k _ ∙ get_numbered 1 (from - 1 + k) account
      ∙ ap (λ (m : ℕ). option_map (λ (row : AccountRow). (m, row)) (slice_get account (from - 1 + k))) e

page : (from count : ℕ) (account : List AccountRow) → IsPage from count account (map account_line (asked_for from count account))
page from count account = record {
  within = λ k row low at. line_at from count account k
      ∙ ap (option_map account_line) (asked_at from count account k low
      ∙ ap (option_map (λ (row : AccountRow). (from - 1 + k + 1, row))) at);
  past_count = λ k past. line_at from count account k ∙ ap (option_map account_line) (get_past count k _ past);
  past_account = λ k none. line_at from count account k ∙ ap (option_map account_line) (go k none);
}
  where
    go : (k : ℕ) → slice_get account (from - 1 + k) ≡ None → slice_get (asked_for from count account) k ≡ None
    go k none = elim (cases_lt k count) as (λ _. slice_get (asked_for from count account) k ≡ None) [
      | inl low ↦ asked_at from count account k low
          ∙ ap (option_map (λ (row : AccountRow). (from - 1 + k + 1, row))) none
      | inr past ↦ get_past count k _ past
    ]

pub account_is_paged : AccountIsPaged
account_is_paged s moment name from count lines why new step =
    let shown = account_only s moment name from count lines why new step in
    subst (IsPage from count s.account) (sym shown.3) (page from count s.account)
