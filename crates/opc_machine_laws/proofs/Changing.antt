-- When administration, listings and imports are done.
use Rattle.std.proofs.Common.{
  ◌≡◌,
  ◌⊎◌,
  inl,
  inr,
  ℕ,
  Bool,
  true,
  false,
  not,
  if◌then◌else◌,
  List,
  [],
  ◌∷◌,
  Option,
  Some,
  None,
  Result,
  Ok,
  Err,
  filter,
  map,
  refl,
  sym,
  ap,
  subst,
  ◌∙◌,
  rules,
  codes,
}
use Rattle.std.specs.List.{Contains}
use Rattle.std.proofs.lemmas.List.{get_or-map, length-map}
use Rattle.std.proofs.lemmas.List.Elements.{All-map, All-weaker, All-contains, All-contains_itself}
use Rattle.opc_names.specs.declared.class.Class.{Class}
use Rattle.opc_policy.proofs.MostSpecific.{to_filter, of_filter}
use Rattle.opc_terms.specs.declared.fault.Fault.{Fault}
use Rattle.opc_terms.specs.declared.fault.Fault.TheVariants.{BatchChanged, NotSpecial}
use Rattle.opc_policy_members.specs.declared.row.Row.{Row}
use Rattle.opc_terms.specs.declared.rule.Rule.{Rule}
use Rattle.opc_policy_members.specs.Profiles.{of_class}
use Rattle.opc_board.specs.declared.line.Line.{Line}
use Rattle.opc_board.specs.declared.rows.ConsoleRow.{ConsoleRow}
use Rattle.opc_board.specs.Invariants.{console_at}
use Rattle.opc_state.specs.declared.change.Batch.{Batch}
use Rattle.opc_state.specs.Members.{with_batch}
use Rattle.opc_state.specs.State.{State}
use Rattle.opc_state.specs.Loads.{asked_for}
use Rattle.opc_machine.specs.declared.request.Answer.TheVariants.{Done}
use Rattle.opc_machine.specs.Administration.{admin_outcome, changed}
use Rattle.opc_machine.specs.Bootstrap.{with_rows}
use Rattle.opc_machine_laws.specs.ChangingLaws.{
  MayAsk,
  AdministersOnlyWhereAllowed,
  AdministersWhereverAllowed,
  ListsProfiles,
  ListsExactlyProfilesShown,
  ListsProfilesWhereverAsked,
  ListsAccountOnlyWhereShown,
  ListsAccountWhereverShown,
  IsKeptAgain,
  IsTakenWhole,
  ImportsOnlyWhereAllowed,
  ImportsWhereverAllowed,
  RepeatsWhereverAllowed,
}
use Rattle.opc_machine.specs.Commands.{console_for}
use Rattle.opc_machine.specs.Imports.{batch_line, batch_of, batch_outcome, import_outcome, same_rows}
use Rattle.opc_machine.specs.Inputs.{Input}
use Rattle.opc_machine.specs.Inputs as input
use Rattle.opc_machine.specs.Listings.{account_line, account_outcome, profile_line, profiles_outcome}
use Rattle.opc_machine.specs.Machine.{account_row, accounted, after, answer_of, is_warned}
use Rattle.opc_machine.specs.Outcome.{StateEffect, ◌>>=◌, does, or_refused, refuse_if, refused}
use Rattle.opc_machine.specs.Rights.{account_shown, console_asking, is_special, may_change, profile_shown, right_fault, unless_denied}
use Rattle.opc_machine.specs.Rulings.{acting, logon_denial}
use Rattle.opc_machine_laws.proofs.Acting.{console_back}
use Rattle.opc_machine.proofs.SameBatches.{same_are_equal}
use Rattle.opc_machine.proofs.Inversion.{bind_ok, console_is, done_is, is_on, not_aborted, ok_is, refuse_if_ok}

unless_denied_ok : (o : Option Rule) (u : Unit {0}) → unless_denied o ≡ Ok u → o ≡ None
unless_denied_ok None u h = refl
unless_denied_ok (Some rule) u h = absurd (search (rules, h))

or_refused_ok : {A : Type 0} (r : Result A Fault) (x : A) → or_refused r ≡ Ok x → r ≡ Ok x
or_refused_ok (Ok y) x h = search (rules, h)
or_refused_ok (Err f) x h = absurd (search (rules, h))

lines_of_done : (lines others : List Line) (why because : Option Rule) → Done lines why ≡ Done others because → (lines ≡ others) × (why ≡ because)
lines_of_done lines others why because h = (search (rules, h), search (rules, h))

-- the console of a request may make one, and the converse
asking_is : (s : State) (name : List ℕ) (c : ConsoleRow) → console_asking s name ≡ Ok c → MayAsk s name c
asking_is s name c h =
    let a = bind_ok (console_for s name) (λ d. unless_denied (logon_denial s d) >>= λ _. Ok d) c h in
    let u = bind_ok (unless_denied (logon_denial s a.0)) (λ _. Ok a.0) c a.2 in
    let at = console_is s name a.0 a.1 in
    let asks : MayAsk s name a.0 = record { there = at.0; online = at.1; logon = unless_denied_ok (logon_denial s a.0) u.0 u.1 } in
    subst (MayAsk s name) (ok_is a.0 c u.2) asks

pub asking_back : (s : State) (name : List ℕ) (c : ConsoleRow) → MayAsk s name c → console_asking s name ≡ Ok c
asking_back s name c asks =
    ap (λ x. x >>= λ d. unless_denied (logon_denial s d) >>= λ _. Ok d) (console_back (console_at s.board name) c asks.there asks.online)
    ∙ ap (λ o. unless_denied o >>= λ _. Ok c) asks.logon

-- lines that are made of rows, one of each
pub made_of : {X Y : Type 0} (f : X → Y) (xs : List X) (y : Y) → Contains (map f xs) y → (x : X) × (y ≡ f x) × Contains xs x
made_of {X} {Y} f xs y h = All-contains P (map f xs) y
    (All-map P f xs (All-weaker (Contains xs) (λ x. P (f x)) (λ x c. (x, refl, c)) xs (All-contains_itself xs))) h
  where
    P : Y → Type 0
    P z = (x : X) × (z ≡ f x) × Contains xs x

pub makes : {X Y : Type 0} (f : X → Y) (xs : List X) (x : X) → Contains xs x → Contains (map f xs) (f x)
makes f xs x h = (h.0, simp length-map h.1, get_or-map f xs h.0 x (f x) h.1 ∙ ap f h.2)

pub administers_only : AdministersOnlyWhereAllowed
administers_only s moment name o lines why new (inl left) = absurd (not_aborted lines why left.aborts)
administers_only s moment name o lines why new (inr (inl full)) = absurd (not_aborted lines why (inr full.answers))
administers_only s moment name o lines why new (inr (inr done)) =
    let d = done_is (admin_outcome s name o) lines why done.answers in
    let a = bind_ok (console_asking s name)
    (λ c. refuse_if (right_fault o) None (not (may_change s c o)) >>= λ _. or_refused (changed s o) >>= λ next. does
    next [] None) d.0 d.1 in
    let u = bind_ok (refuse_if (right_fault o) None (not (may_change s a.0 o))) (λ _. or_refused (changed s o) >>= λ next. does next [] None) d.0 a.2 in
    let m = bind_ok (or_refused (changed s o)) (λ next. does next [] None) d.0 u.2 in
    let reached : StateEffect = record { state = m.0; lines = []; rule = None } in
    let comes : admin_outcome s name o ≡ Ok reached = d.1 ∙ sym m.2 in
    let ends : new ≡ m.0 = done.becomes ∙ ap (after s moment (input.Admin name o)) comes in
    let returned = lines_of_done lines [] why None (done.answers ∙ ap answer_of comes) in (
      a.0,
      asking_is s name a.0 a.1,
      is_on (may_change s a.0 o) (refuse_if_ok _ _ _ _ u.1),
      or_refused_ok (changed s o) m.0 m.1 ∙ ap Ok (sym ends),
      returned.0,
      returned.1,
    )

pub administers_wherever : AdministersWhereverAllowed
administers_wherever s moment name o c next answer new asks may makes_it (inl left) = inl left.aborts
administers_wherever s moment name o c next answer new asks may makes_it (inr (inl full)) = inl (inr full.answers)
administers_wherever s moment name o c next answer new asks may makes_it (inr (inr done)) =
    let reached : StateEffect = record { state = next; lines = []; rule = None } in
    let of_console : admin_outcome s name
    o ≡ (refuse_if (right_fault o) None (not (may_change s c o)) >>= λ _. or_refused (changed s o) >>= λ t. does t
    [] None) =
    ap (λ x. x >>= λ d. refuse_if (right_fault o) None (not (may_change s d o)) >>= λ _. or_refused (changed s o) >>=
    λ t. does t [] None) (asking_back s name c asks) in
    let of_right : (refuse_if (right_fault o) None (not (may_change s c o)) >>= λ _. or_refused (changed s o) >>= λ t.
    does t [] None) ≡ (or_refused (changed s o) >>= λ t. does t [] None) =
    ap (λ b. refuse_if (right_fault o) None (not b) >>= λ _. or_refused (changed s o) >>= λ t. does t [] None) may in
    let of_change : (or_refused (changed s o) >>= λ t. does t [] None) ≡ Ok reached = ap (λ x. or_refused x >>= λ t. does t [] None) makes_it in
    let comes : admin_outcome s name o ≡ Ok reached = of_console ∙ of_right ∙ of_change in
    inr (done.answers ∙ ap answer_of comes, done.becomes ∙ ap (after s moment (input.Admin name o)) comes)

-- what is listed of the profiles of a class
listed : (s : State) (c : ConsoleRow) (class : Class) (new : State) → new ≡ s
    → ListsProfiles s c class (map profile_line (filter (profile_shown s c) (of_class class s.policy.profiles))) new
listed s c class new same = record {
  each_once = refl;
  exactly = λ line. (
    λ h.
        let found = made_of profile_line (filter (profile_shown s c) (of_class class s.policy.profiles)) line h in
        let shown = of_filter (profile_shown s c) (of_class class s.policy.profiles) found.0 found.2 in
        (found.0, found.1, shown.0, shown.1),
    λ h. subst (Contains (map profile_line (filter (profile_shown s c) (of_class class s.policy.profiles)))) (sym h.1)
        (makes profile_line (filter (profile_shown s c) (of_class class s.policy.profiles)) h.0
        (to_filter (profile_shown s c) (of_class class s.policy.profiles) h.0 h.2 h.3)),
  );
  same = same;
}

pub profiles_exactly : ListsExactlyProfilesShown
profiles_exactly s moment name class lines why new (inl left) = absurd (not_aborted lines why left.aborts)
profiles_exactly s moment name class lines why new (inr (inl full)) = absurd (not_aborted lines why (inr full.answers))
profiles_exactly s moment name class lines why new (inr (inr done)) =
    let d = done_is (profiles_outcome s name class) lines why done.answers in
    let a = bind_ok (console_asking s name) (λ c. does s (map profile_line (filter (profile_shown s c) (of_class class s.policy.profiles))) None) d.0 d.1 in
    let shown : List Line = map profile_line (filter (profile_shown s a.0) (of_class class s.policy.profiles)) in
    let reached : StateEffect = record { state = s; lines = shown; rule = None } in
    let comes : profiles_outcome s name class ≡ Ok reached = d.1 ∙ sym a.2 in
    let ends : new ≡ s = done.becomes ∙ ap (after s moment (input.ListProfiles name class)) comes in
    let returned = lines_of_done lines shown why None (done.answers ∙ ap answer_of comes) in
    (a.0, asking_is s name a.0 a.1, subst (λ l. ListsProfiles s a.0 class l new) (sym returned.0) (listed s a.0 class new ends))

pub profiles_wherever : ListsProfilesWhereverAsked
profiles_wherever s moment name class c answer new asks (inl left) = inl left.aborts
profiles_wherever s moment name class c answer new asks (inr (inl full)) = inl (inr full.answers)
profiles_wherever s moment name class c answer new asks (inr (inr done)) =
    let shown : List Line = map profile_line (filter (profile_shown s c) (of_class class s.policy.profiles)) in
    let reached : StateEffect = record { state = s; lines = shown; rule = None } in
    let comes : profiles_outcome s name class ≡ Ok reached =
    ap (λ x. x >>= λ d. does s (map profile_line (filter (profile_shown s d) (of_class class s.policy.profiles))) None) (asking_back s name c asks) in
    inr (shown, done.answers ∙ ap answer_of comes, listed s c class new (done.becomes ∙ ap (after s moment (input.ListProfiles name class)) comes))

pub account_only : ListsAccountOnlyWhereShown
account_only s moment name from count lines why new (inl left) = absurd (not_aborted lines why left.aborts)
account_only s moment name from count lines why new (inr (inl full)) = absurd (not_aborted lines why (inr full.answers))
account_only s moment name from count lines why new (inr (inr done)) =
    let d = done_is (account_outcome s name from count) lines why done.answers in
    let a = bind_ok (console_asking s name)
    (λ c. refuse_if NotSpecial None (not (account_shown s c)) >>= λ _. does s
    (map account_line (asked_for from count s.account)) None) d.0 d.1 in
    let u = bind_ok (refuse_if NotSpecial None (not (account_shown s a.0))) (λ _. does s (map account_line (asked_for from count s.account)) None) d.0 a.2 in
    let shown : List Line = map account_line (asked_for from count s.account) in
    let reached : StateEffect = record { state = s; lines = shown; rule = None } in
    let comes : account_outcome s name from count ≡ Ok reached = d.1 ∙ sym u.2 in
    let ends : new ≡ s = done.becomes ∙ ap (after s moment (input.ListAccount name from count)) comes in
    let returned = lines_of_done lines shown why None (done.answers ∙ ap answer_of comes) in
    (a.0, asking_is s name a.0 a.1, is_on (account_shown s a.0) (refuse_if_ok _ _ _ _ u.1), returned.0, ends)

pub account_wherever : ListsAccountWhereverShown
account_wherever s moment name from count c answer new asks may (inl left) = inl left.aborts
account_wherever s moment name from count c answer new asks may (inr (inl full)) = inl (inr full.answers)
account_wherever s moment name from count c answer new asks may (inr (inr done)) =
    let shown : List Line = map account_line (asked_for from count s.account) in
    let reached : StateEffect = record { state = s; lines = shown; rule = None } in
    let comes : account_outcome s name from count ≡ Ok reached =
    ap (λ x. x >>= λ d. refuse_if NotSpecial None (not (account_shown s d)) >>= λ _. does s shown None) (asking_back s name c asks)
    ∙ ap (λ b. refuse_if NotSpecial None (not b) >>= λ _. does s shown None) may in
    inr (done.answers ∙ ap answer_of comes, done.becomes ∙ ap (after s moment (input.ListAccount name from count)) comes)

-- the result of a batch
again_is : (s : State) (number : ℕ) (all : List Row) (kept : Batch) (reached : StateEffect)
    → (if same_rows kept.rows all then does s (batch_line number (codes "AGAIN") ∷ []) None else refused BatchChanged
    None) ≡ Ok reached
    → (same_rows kept.rows all ≡ true) × (reached ≡ record { state = s; lines = batch_line number (codes "AGAIN") ∷ []; rule = None })
again_is s number all kept reached h = go (same_rows kept.rows all) h
  where
    go : (b : Bool) → (if b then does s (batch_line number (codes "AGAIN") ∷ []) None else refused BatchChanged None) ≡ Ok reached
        → (b ≡ true) × (reached ≡ record { state = s; lines = batch_line number (codes "AGAIN") ∷ []; rule = None })
    go true k = (refl, sym (ok_is _ reached k))
    go false k = absurd (search (rules, k))

module _ (s : State) (number : ℕ) (all : List Row) (lines : List Line) (new : State) where
  -- the effect, with the lines that were shown and the state that was reached
  batch_is : (kept : Option Batch) → batch_of s.batches number ≡ kept → (reached : StateEffect)
      → batch_outcome s number all kept ≡ Ok reached → lines ≡ reached.lines → (reached.rule ≡ None → new ≡ reached.state)
      → IsKeptAgain s number all lines new ⊎ IsTakenWhole s number all lines new
  batch_is (Some kept) at reached h returned ends =
      let is = again_is s number all kept reached h in
      inl (record {
        kept = kept;
        found = at;
        matches = is.0;
        returned = returned ∙ ap (λ (d : StateEffect). d.lines) is.1;
        same = ends (ap (λ (d : StateEffect). d.rule) is.1) ∙ ap (λ (d : StateEffect). d.state) is.1;
      })
  batch_is None at reached h returned ends =
      let m = bind_ok (or_refused (with_rows all s)) (λ next. does (record next {
        batches = with_batch (record {
          number = number;
          rows = all;
        }) next.batches;
      }) (batch_line number (codes "KEPT") ∷ []) None) reached h in
      let is = ok_is _ reached m.2 in
      inr (record {
        unknown = at;
        next = m.0;
        taken = or_refused_ok (with_rows all s) m.0 m.1;
        returned = returned ∙ ap (λ (d : StateEffect). d.lines) (sym is);
        becomes = ends (ap (λ (d : StateEffect). d.rule) (sym is)) ∙ ap (λ (d : StateEffect). d.state) (sym is);
      })

-- without a rule nothing is accounted
unwarned : (s : State) (moment : ℕ) (r : Input) (reached : StateEffect) → reached.rule ≡ None → after s moment r (Ok reached) ≡ reached.state
unwarned s moment r reached none =
    ap (λ (w : Option Rule). if is_warned w then accounted (account_row s moment r (codes "WARN") w) reached.state else
    reached.state) none

pub imports_only : ImportsOnlyWhereAllowed
imports_only s moment name number all lines why new (inl left) = absurd (not_aborted lines why left.aborts)
imports_only s moment name number all lines why new (inr (inl full)) = absurd (not_aborted lines why (inr full.answers))
imports_only s moment name number all lines why new (inr (inr done)) =
    let d = done_is (import_outcome s name number all) lines why done.answers in
    let a = bind_ok (console_asking s name)
    (λ c. refuse_if NotSpecial None (not (is_special (acting s c))) >>= λ _. batch_outcome s number all
    (batch_of s.batches number)) d.0 d.1 in
    let u = bind_ok (refuse_if NotSpecial None (not (is_special (acting s a.0)))) (λ _. batch_outcome s number all (batch_of s.batches number)) d.0 a.2 in
    let ends : d.0.rule ≡ None → new ≡ d.0.state =
    λ none. done.becomes ∙ ap (after s moment (input.Import name number all)) d.1
    ∙ unwarned s moment (input.Import name number all) d.0 none in (
      a.0,
      asking_is s name a.0 a.1,
      is_on (is_special (acting s a.0)) (refuse_if_ok _ _ _ _ u.1),
      batch_is s number all lines new (batch_of s.batches number) refl d.0 u.2 d.2 ends,
    )

-- if SPECIAL imports, the outcome is that of the batch
pub import_right : (s : State) (name : List ℕ) (number : ℕ) (all : List Row) (c : ConsoleRow) → MayAsk s name c
    → is_special (acting s c) ≡ true → import_outcome s name number all ≡ batch_outcome s number all
    (batch_of s.batches number)
import_right s name number all c asks may =
    ap (λ x. x >>= λ d. refuse_if NotSpecial None (not (is_special (acting s d))) >>= λ _. batch_outcome s number all
    (batch_of s.batches number)) (asking_back s name c asks)
    ∙ ap (λ b. refuse_if NotSpecial None (not b) >>= λ _. batch_outcome s number all (batch_of s.batches number)) may

pub imports_wherever : ImportsWhereverAllowed
imports_wherever s moment name number all c next answer new asks may unknown takes (inl left) = inl left.aborts
imports_wherever s moment name number all c next answer new asks may unknown takes (inr (inl full)) = inl (inr full.answers)
imports_wherever s moment name number all c next answer new asks may unknown takes (inr (inr done)) =
    let reached : StateEffect = record {
      state = record next { batches = with_batch (record { number = number; rows = all }) next.batches };
      lines = batch_line number (codes "KEPT") ∷ [];
      rule = None;
    } in
    let of_number : batch_outcome s number all (batch_of s.batches number) ≡ batch_outcome s number all None = ap (batch_outcome s number all) unknown in
    let of_rows : batch_outcome s number all None ≡ Ok reached =
    ap (λ x. or_refused x >>= λ t. does (record t {
      batches = with_batch (record {
        number = number;
        rows = all;
      }) t.batches;
    }) (batch_line number (codes "KEPT") ∷ []) None) takes in
    let comes : import_outcome s name number all ≡ Ok reached = import_right s name number all c asks may ∙ of_number ∙ of_rows in
    inr (done.answers ∙ ap answer_of comes, done.becomes ∙ ap (after s moment (input.Import name number all)) comes)

pub repeats_wherever : RepeatsWhereverAllowed
repeats_wherever s moment name number all c kept answer new asks may is_kept equal (inl left) = inl left.aborts
repeats_wherever s moment name number all c kept answer new asks may is_kept equal (inr (inl full)) = inl (inr full.answers)
repeats_wherever s moment name number all c kept answer new asks may is_kept equal (inr (inr done)) =
    let reached : StateEffect = record { state = s; lines = batch_line number (codes "AGAIN") ∷ []; rule = None } in
    let of_number : batch_outcome s number all (batch_of s.batches number) ≡ batch_outcome s number all (Some kept) = ap (batch_outcome s number all) is_kept in
    let of_rows : batch_outcome s number all (Some kept) ≡ Ok reached =
    ap (λ b. if b then does s (batch_line number (codes "AGAIN") ∷ []) None else refused BatchChanged None) ((same_are_equal kept.rows all).1 equal) in
    let comes : import_outcome s name number all ≡ Ok reached = import_right s name number all c asks may ∙ of_number ∙ of_rows in
    inr (done.answers ∙ ap answer_of comes, done.becomes ∙ ap (after s moment (input.Import name number all)) comes)
