-- What is explained at a console, by what is found there.
use Rattle.std.proofs.Common.{◌≡◌, ℕ, List, Option, Some, None, Result, Ok, Err, sym, ap, ◌∙◌}
use Rattle.std.specs.Option.{option_and_then}
use Rattle.opc_names.specs.declared.class.Class.TheVariants.{Console, Opercmds}
use Rattle.opc_names.specs.declared.level.Level.TheVariants.{Read}
use Rattle.opc_terms.specs.declared.fault.Fault.{Fault}
use Rattle.opc_terms.specs.declared.fault.Fault.TheVariants.{Missing, NoConsole}
use Rattle.opc_terms.specs.declared.need.Need.{Need}
use Rattle.opc_policy_members.specs.declared.user.User.{User}
use Rattle.opc_policy_members.specs.Members.{user_of}
use Rattle.opc_policy.specs.declared.explained.Explained.{Explained}
use Rattle.opc_policy.specs.declared.ruling.Ruling.{Ruling}
use Rattle.opc_policy.specs.Explained.{explained_to, explanation}
use Rattle.opc_board.specs.declared.rows.ConsoleRow.{ConsoleRow}
use Rattle.opc_board.specs.Invariants.{console_at}
use Rattle.opc_state.specs.State.{State}
use Rattle.opc_machine.specs.Rulings.{logon_ruling, own_user, ruling}
use Rattle.opc_answers.specs.declared.explaining.CommandExplained.{CommandExplained}
use Rattle.opc_answers.specs.Explaining.{
  at_console,
  at_none,
  by_actor,
  by_profiles,
  logon_explained,
  logon_of,
  no_logon_of,
  with_logon,
  with_nobody,
  with_ruling,
  without_console,
}
use Rattle.opc_answers.specs.declared.logons.NoLogon.{NoLogon}
use Rattle.opc_answers.specs.declared.who.AskedAt.{AskedAt}
use Rattle.opc_answers.specs.declared.who.AskedAt.TheVariants.{Everywhere, OnBoard}
use Rattle.opc_answers.specs.Made.{member_of}
use Rattle.opc_answers.specs.Who.{no_logon_at, nobody_at, on_at}
use Rattle.opc_answers.proofs.Found.{has_the_id}

-- why a stored user cannot log on
stored_so : (s : State) (place : AskedAt) (id : List ℕ) (u : User) (why : Option NoLogon) → Some u ≡ user_of s.policy.users id
    → why ≡ no_logon_at s.policy s.board place (member_of s.policy.connects u) → no_logon_of s place id ≡ why
stored_so s place id u why found is =
    ap (option_and_then (λ (v : User). no_logon_at s.policy s.board place (member_of s.policy.connects v))) (sym found) ∙ sym is

module _ (s : State) (need : Need) (c : ConsoleRow) (ruled : Ruling) (out : Result CommandExplained Fault) where
  pub with_own : (id : List ℕ) (r : Result Explained Fault) → Some id ≡ own_user s c → ruled ≡ ruling s (nobody_at c) need
      → by_profiles s.policy need id (Some c.name) ≡ r → with_ruling ruled None r ≡ out → at_console s need None c ≡ out
  with_own id r own is by so =
      ap (by_actor s need c) (sym own)
      ∙ ap (λ x. with_ruling x None (by_profiles s.policy need id (Some c.name))) (sym is)
      ∙ ap (with_ruling ruled None) by
      ∙ so

  pub without_own : None ≡ own_user s c → ruled ≡ ruling s (nobody_at c) need → Ok (with_nobody ruled) ≡ out
      → at_console s need None c ≡ out
  without_own own is so = ap (by_actor s need c) (sym own) ∙ ap (λ x. Ok (with_nobody x)) (sym is) ∙ so

  pub with_on : (id : List ℕ) (u : User) (why : Option NoLogon) (r : Result Explained Fault) → Some u ≡ user_of s.policy.users id
      → ruled ≡ ruling s (on_at u.id c) need → why ≡ no_logon_at s.policy s.board (OnBoard c) (member_of s.policy.connects u)
      → by_profiles s.policy need id (Some c.name) ≡ r → with_ruling ruled why r ≡ out → at_console s need (Some id) c ≡ out
  with_on id u why r found is off by so =
      ap (λ x. with_ruling x (no_logon_of s (OnBoard c) id) (by_profiles s.policy need id (Some c.name)))
      (ap (λ name. ruling s (on_at name c) need) (has_the_id s.policy.users id u (sym found)) ∙ sym is)
      ∙ ap (λ y. with_ruling ruled y (by_profiles s.policy need id (Some c.name))) (stored_so s (OnBoard c) id u why found off)
      ∙ ap (with_ruling ruled why) by
      ∙ so

pub not_stored : (s : State) (need : Need) (c : ConsoleRow) (id : List ℕ) → None ≡ user_of s.policy.users id
    → at_console s need (Some id) c ≡ Err (Missing id)
not_stored s need c id none =
    ap (λ o. with_ruling (ruling s (on_at id c) need) (no_logon_of s (OnBoard c) id)
    (explained_to o s.policy Opercmds need.resource id (Some c.name) need.level)) (sym none)

-- at no console
module _ (s : State) (need : Need) (id : List ℕ) (console : Option (List ℕ)) where
  pub with_none : (u : User) (why : Option NoLogon) (r : Result Explained Fault) (out : Result CommandExplained Fault)
      → Some u ≡ user_of s.policy.users id → why ≡ no_logon_at s.policy s.board Everywhere (member_of s.policy.connects u)
      → by_profiles s.policy need id console ≡ r → without_console why r ≡ out → at_none s need (Some id) console ≡ out
  with_none u why r out found off by so =
      ap (λ y. without_console y (by_profiles s.policy need id console)) (stored_so s Everywhere id u why found off)
      ∙ ap (without_console why) by
      ∙ so

  pub not_stored_anywhere : None ≡ user_of s.policy.users id → at_none s need (Some id) console ≡ Err (Missing id)
  not_stored_anywhere none =
      ap (λ o. without_console (no_logon_of s Everywhere id)
      (explained_to o s.policy Opercmds need.resource id console need.level)) (sym none)

-- for a LOGON
module _ (s : State) (name id : List ℕ) where
  pub logs_on : (u : User) (c : ConsoleRow) (ruled : Ruling) (r : Result Explained Fault) (out : Result CommandExplained Fault)
      → Some u ≡ user_of s.policy.users id → Some c ≡ console_at s.board name → ruled ≡ logon_ruling s c u
      → explanation s.policy Console name id (Some name) Read ≡ r → with_logon u.digest ruled r ≡ out
      → logon_explained s name (Some id) ≡ out
  logs_on u c ruled r out found there is by so =
      ap (λ o. logon_of s name id o (console_at s.board name)) (sym found)
      ∙ ap (logon_of s name id (Some u)) (sym there)
      ∙ ap (λ x. with_logon u.digest x (explanation s.policy Console name id (Some name) Read)) (sym is)
      ∙ ap (with_logon u.digest ruled) by
      ∙ so

  pub logs_on_nowhere : (u : User) → Some u ≡ user_of s.policy.users id → None ≡ console_at s.board name
      → logon_explained s name (Some id) ≡ Err NoConsole
  logs_on_nowhere u found none =
      ap (λ o. logon_of s name id o (console_at s.board name)) (sym found) ∙ ap (logon_of s name id (Some u)) (sym none)

  pub nobody_logs_on : None ≡ user_of s.policy.users id → logon_explained s name (Some id) ≡ Err (Missing id)
  nobody_logs_on none = ap (λ o. logon_of s name id o (console_at s.board name)) (sym none)
