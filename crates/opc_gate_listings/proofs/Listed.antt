-- Which profiles are listed.
use Rattle.std.proofs.Common.{
  ◌≡◌,
  ◌<◌,
  ℕ,
  zero,
  suc,
  Bool,
  true,
  false,
  not,
  ◌||◌,
  List,
  [],
  ◌∷◌,
  Option,
  Some,
  None,
  Ok,
  filter,
  length,
  if◌then◌else◌,
  map,
  take,
  refl,
  rules,
  sym,
  ap,
  ◌∙◌,
  arith,
}
use Rattle.opc_names.specs.declared.class.Class.{Class}
use Rattle.opc_terms.specs.declared.fault.Fault.TheVariants.{NotSpecial}
use Rattle.opc_policy_members.specs.declared.profile.Profile.{Profile}
use Rattle.opc_policy_members.specs.declared.user.User.{User}
use Rattle.opc_policy_members.specs.Profiles.{of_class}
use Rattle.opc_policy_members.specs.Members.{groups_of}
use Rattle.opc_board.specs.declared.line.Line.{Line}
use Rattle.opc_board.specs.declared.rows.ConsoleRow.{ConsoleRow}
use Rattle.opc_state.specs.Loads.{asked_for, bare}
use Rattle.opc_state.specs.State.{State}
use Rattle.opc_machine.specs.Listings.{account_line, account_outcome, profile_line, profiles_outcome}
use Rattle.opc_machine.specs.Outcome.{◌>>=◌, does, refuse_if}
use Rattle.opc_machine.specs.Rights.{account_shown, console_asking, holds_read, is_owner, profile_shown, sees_all}
use Rattle.opc_machine.specs.Rulings.{acting}
use Rattle.opc_gate_listings.specs.Seen.{is_seen}

-- what is taken and is shorter than it may be is all
pub whole : {X : Type 0} (n : ℕ) (xs : List X) → length (take n xs) < n → take n xs ≡ xs
whole zero xs short = absurd (omega (arith, short))
whole (suc n) [] short = refl
whole (suc n) (x ∷ xs) short = ap (λ l. x ∷ l) (whole n xs (omega (arith, short)))

-- a line shows nothing of the access list
pub bare_lines : (profiles : List Profile) → map profile_line (map bare profiles) ≡ map profile_line profiles
bare_lines [] = refl
bare_lines (p ∷ profiles) = ap (λ l. profile_line p ∷ l) (bare_lines profiles)

-- filters by tests that return the same keep the same
pub alike : {X : Type 0} (p q : X → Bool) → ((x : X) → p x ≡ q x) → (xs : List X) → filter p xs ≡ filter q xs
alike p q same [] = refl
alike {X} p q same (x ∷ xs) = go (p x) (q x) (same x) (alike p q same xs)
  where
    go : (a b : Bool) → a ≡ b → filter p xs ≡ filter q xs → (if a then x ∷ filter p xs else filter p xs) ≡ (if b then x ∷ filter q xs else filter q xs)
    go true true e rest = ap (λ l. x ∷ l) rest
    go true false e rest = absurd (search (rules, e))
    go false true e rest = absurd (search (rules, e))
    go false false e rest = rest

kept_all : {X : Type 0} (xs : List X) → filter (λ (x : X). true) xs ≡ xs
kept_all [] = refl
kept_all (x ∷ xs) = ap (λ l. x ∷ l) (kept_all xs)

kept_none : {X : Type 0} (xs : List X) → filter (λ (x : X). false) xs ≡ []
kept_none [] = refl
kept_none (x ∷ xs) = kept_none xs

module _ (s : State) (c : ConsoleRow) (profiles : List Profile) where
  -- a user who sees all is shown all,
  pub all_shown : (o : Option User) → o ≡ acting s c → sees_all o ≡ true → profiles ≡ filter (profile_shown s c) profiles
  all_shown o acts sees =
      sym (alike (profile_shown s c) (λ p. true)
      (λ p. ap (λ b. b || is_owner (acting s c) (Some p) || holds_read s c (acting s c) p)
      (ap sees_all (sym acts) ∙ sees)) profiles ∙ kept_all profiles)

  -- nobody nothing,
  pub none_shown : None ≡ acting s c → filter (profile_shown s c) profiles ≡ []
  none_shown acts = alike (profile_shown s c) (λ p. false)
      (λ p. ap (λ o. sees_all o || is_owner o (Some p) || holds_read s c o p) (sym acts)) profiles ∙ kept_none profiles

  -- and another user what that user may see
  pub seen_shown : (u : User) → Some u ≡ acting s c → sees_all (Some u) ≡ false
      → filter (is_seen c u (groups_of s.policy.connects u.id)) profiles ≡ filter (profile_shown s c) profiles
  seen_shown u acts not_all =
      sym (alike (profile_shown s c) (is_seen c u (groups_of s.policy.connects u.id))
      (λ p. ap (λ o. sees_all o || is_owner o (Some p) || holds_read s c o p) (sym acts)
      ∙ ap (λ b. b || is_owner (Some u) (Some p) || holds_read s c (Some u) p) not_all) profiles)

-- the outcome of a listing, by what was found out about its console
pub account_reported : (s : State) (name : List ℕ) (from count : ℕ) (c : ConsoleRow) (u : Option User) (lines : List Line)
    → console_asking s name ≡ Ok c → u ≡ acting s c → sees_all u ≡ true
    → lines ≡ map account_line (asked_for from count s.account)
    → account_outcome s name from count ≡ does s lines None
account_reported s name from count c u lines asks acts sees are =
    ap (λ x. x >>= λ d. refuse_if NotSpecial None (not (account_shown s d)) >>= λ _. does s (map account_line (asked_for from count s.account)) None) asks
    ∙ ap (λ b. refuse_if NotSpecial None (not b) >>= λ _. does s (map account_line (asked_for from count s.account)) None) (ap sees_all (sym acts) ∙ sees)
    ∙ ap (λ l. does s l None) (sym are)

pub profiles_reported : (s : State) (name : List ℕ) (class : Class) (c : ConsoleRow) (lines : List Line)
    → console_asking s name ≡ Ok c → lines ≡ map profile_line
    (filter (profile_shown s c) (of_class class s.policy.profiles))
    → profiles_outcome s name class ≡ does s lines None
profiles_reported s name class c lines asks are =
    ap (λ x. x >>= λ d. does s (map profile_line (filter (profile_shown s d) (of_class class s.policy.profiles))) None) asks ∙ ap (λ l. does s l None) (sym are)
