-- For whom consoles act.
use Rattle.std.proofs.Common.{◌≡◌, inl, inr, ℕ, false, ◌&&◌, ◌||◌, if◌then◌else◌, List, Option, Some, None, codes, refl, sym, ap, ◌∙◌}
use Rattle.std.specs.Option.{is_none, option_and_then, option_or}
use Rattle.std.proofs.lemmas.Bool.{and_right}
use Rattle.opc_terms.specs.declared.mode.Mode.{Mode}
use Rattle.opc_terms.specs.declared.mode.Mode.TheVariants.{Optional, Auto}
use Rattle.opc_terms.specs.declared.need.Need.{Need}
use Rattle.opc_terms.specs.declared.rule.Rule.{Rule}
use Rattle.opc_terms.specs.declared.rule.Rule.TheVariants as rule
use Rattle.opc_policy_members.specs.declared.user.User.{User}
use Rattle.opc_policy_members.specs.Members.{user_of}
use Rattle.opc_policy_members.specs.Taken.{has_user}
use Rattle.opc_board.specs.declared.rows.ConsoleRow.{ConsoleRow}
use Rattle.opc_board.specs.Invariants.{console_at}
use Rattle.opc_board.specs.Texts.{text_or}
use Rattle.opc_state.specs.State.{State}
use Rattle.opc_machine.specs.declared.operation.Operation.{Operation}
use Rattle.opc_machine.specs.declared.operation.Operation.TheVariants as operation
use Rattle.opc_machine.specs.Rights.{holds_read, is_owner, is_special, owns_changed, sees_all}
use Rattle.opc_machine.specs.Rulings.{
  access_ruling,
  acting,
  acting_user,
  denied_or,
  is_allowed,
  is_auto,
  is_required,
  is_revoked,
  logon_denial,
  need_to_show,
  own_user,
  passes,
  ruling,
}
use Rattle.opc_machine_laws.specs.ActingLaws.{
  ActsAlone,
  ActsAs,
  ActsFor,
  AutoConsolesActForTheirOwn,
  IsAccountedTo,
  OptionalConsolesActAlone,
  OtherAutoConsolesActAlone,
  OthersAreAccountedToNobody,
  RequiredConsolesActForNobody,
  WhoIsOnComesFirst,
}

-- whether the user who acts is revoked, if nobody must be logged on
abbrev revoked_only : Option User → Option Rule
revoked_only u = if is_revoked u then Some rule.Revoked else None

denial_is : (s : State) (c : ConsoleRow) → (is_required c.mode && is_none c.user) ≡ false → logon_denial s c ≡ revoked_only (acting s c)
denial_is s c h = ap (λ b. if b then Some rule.LogonRequired else revoked_only (acting s c)) h

-- two consoles that differ in mode and user alone, with the same user acting
module _ (s : State) (c : ConsoleRow) (mode : Mode) (user : Option (List ℕ))
    (here : (is_required c.mode && is_none c.user) ≡ false) (there : (is_required mode && is_none user) ≡ false)
    (who : acting s c ≡ acting s (record c {
      mode = mode;
      user = user;
    })) where
  other : ConsoleRow
  other = record c { mode = mode; user = user }

  denial : logon_denial s c ≡ logon_denial s (record c { mode = mode; user = user })
  denial = denial_is s c here ∙ ap revoked_only who ∙ sym (denial_is s (record c { mode = mode; user = user }) there)

  same_ruling : (need : Need) → ruling s c need ≡ ruling s (record c { mode = mode; user = user }) need
  same_ruling need =
      ap (λ d. denied_or d (access_ruling s c (acting s c) need)) denial
      ∙ ap (λ u. denied_or (logon_denial s (record c { mode = mode; user = user })) (access_ruling s c u need)) who

  passes_same : (o : Option Need) → passes s c o ≡ passes s (record c { mode = mode; user = user }) o
  passes_same None = refl
  passes_same (Some need) = ap is_allowed (same_ruling need)

  acts_as : ActsAs s c (record c { mode = mode; user = user })
  acts_as = record {
    logon = denial;
    rulings = same_ruling;
    lines = λ line. passes_same (need_to_show line.item);
    rights = λ o. ap (λ u. is_special u || owns_changed s.policy u o) who;
    profiles = λ p. ap (λ u. sees_all u || is_owner u (Some p) || holds_read s c u p) who;
    account = ap sees_all who;
  }

accounted_to : (s : State) (c : ConsoleRow) (user : Option (List ℕ)) → acting_user s c ≡ user → IsAccountedTo s c user
accounted_to s c user is = λ moment r name code why names at. ap (text_or (codes "-"))
    (ap (λ o. option_and_then (acting_user s) (option_and_then (console_at s.board) o)) names ∙ ap (option_and_then (acting_user s)) at ∙ is)

acts_for : (s : State) (c : ConsoleRow) (user : Option (List ℕ)) → acting_user s c ≡ user → ActsFor s c user
acts_for s c None is = record { acts = ap (option_and_then (user_of s.policy.users)) is; returned = accounted_to s c None is }
acts_for s c (Some id) is = record { acts = ap (option_and_then (user_of s.policy.users)) is; returned = accounted_to s c (Some id) is }

pub nobody_owns : (s : State) (o : Operation) → owns_changed s.policy None o ≡ false
nobody_owns s (operation.RAlter class pattern owner uacc warning) = refl
nobody_owns s (operation.RDelete class pattern) = refl
nobody_owns s (operation.Permit class pattern id level when) = refl
nobody_owns s (operation.PermitDelete class pattern id when) = refl
nobody_owns s o = refl

acts_alone : (s : State) (c : ConsoleRow) → (is_required c.mode && is_none c.user) ≡ false → acting_user s c ≡ None → ActsAlone s c
acts_alone s c here is =
    let who : acting s c ≡ None = ap (option_and_then (user_of s.policy.users)) is in
    let logon : logon_denial s c ≡ None = denial_is s c here ∙ ap revoked_only who in
    record {
      logon = logon;
      rulings = λ need. ap (λ d. denied_or d (access_ruling s c (acting s c) need)) logon ∙ ap (λ u. access_ruling s c u need) who;
      rights = λ o. ap (λ u. is_special u || owns_changed s.policy u o) who ∙ nobody_owns s o;
      profiles = λ p. ap (λ u. sees_all u || is_owner u (Some p) || holds_read s c u p) who;
      account = ap sees_all who;
      nobody = acts_for s c None is;
    }

-- an AUTO console where nobody is logged on
module _ (s : State) (c : ConsoleRow) (auto : c.mode ≡ Auto) (nobody : c.user ≡ None) where
  not_required : (is_required c.mode && is_none c.user) ≡ false
  not_required = ap (λ m. is_required m && is_none c.user) auto

  acting_is : acting_user s c ≡ (if has_user s.policy c.name then Some c.name else None)
  acting_is = ap (λ o. option_or o (own_user s c)) nobody ∙ ap (λ m. if is_auto m && has_user s.policy c.name then Some c.name else None) auto

pub for_their_own : AutoConsolesActForTheirOwn
for_their_own s c auto nobody stored =
    let is : acting_user s c ≡ Some c.name = acting_is s c auto nobody ∙ ap (λ b. if b then Some c.name else None) stored in (
      acts_for s c (Some c.name) is,
      acts_as s c c.mode (Some c.name) (not_required s c auto nobody)
          (and_right (is_required c.mode) false refl) (ap (option_and_then (user_of s.policy.users)) is),
    )

pub for_nobody : OtherAutoConsolesActAlone
for_nobody s c auto nobody none = acts_alone s c (not_required s c auto nobody) (acting_is s c auto nobody ∙ ap (λ b. if b then Some c.name else None) none)

pub optional_for_nobody : OptionalConsolesActAlone
optional_for_nobody s c optional nobody =
    acts_alone s c (ap (λ m. is_required m && is_none c.user) optional)
    (ap (λ o. option_or o (own_user s c)) nobody ∙ ap (λ m. if is_auto m && has_user s.policy c.name then Some c.name else None) optional)

pub who_is_on_first : WhoIsOnComesFirst
who_is_on_first s c user on =
    let on_there : acting_user s (record c { mode = Optional }) ≡ Some user = ap (λ o. option_or o (own_user s (record c { mode = Optional }))) on in
    let is : acting_user s c ≡ Some user = ap (λ o. option_or o (own_user s c)) on in
    let here : (is_required c.mode && is_none c.user) ≡ false = and_right (is_required c.mode) (is_none c.user) (ap is_none on) in
    (acts_for s c (Some user) is, acts_as s c Optional c.user here refl (ap (option_and_then (user_of s.policy.users)) (is ∙ sym on_there)))

pub required_for_nobody : RequiredConsolesActForNobody
required_for_nobody s c required nobody =
    acts_for s c None (ap (λ o. option_or o (own_user s c)) nobody ∙ ap (λ m. if is_auto m && has_user s.policy c.name then Some c.name else None) required)

pub others_to_nobody : OthersAreAccountedToNobody
others_to_nobody s moment r code why (inl none) = ap (λ o. text_or (codes "-") (option_and_then (acting_user s) (option_and_then (console_at s.board) o))) none
others_to_nobody s moment r code why (inr h) =
    ap (λ o. text_or (codes "-") (option_and_then (acting_user s) (option_and_then (console_at s.board) o))) h.1
    ∙ ap (λ o. text_or (codes "-") (option_and_then (acting_user s) o)) h.2
