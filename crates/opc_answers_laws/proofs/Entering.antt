-- Who enters a command, after a LOGON.
use Rattle.std.proofs.Common.{◌≡◌, ℕ, Bool, true, false, cond, List, [], ◌∷◌, Option, Some, None, Result, Ok, Err, refl, sym, ap, subst, ◌∙◌, filter, if◌then◌else◌}
use Rattle.std.specs.Prelude.{◌&&◌, ◌||◌, not}
use Rattle.std.specs.List.{AllByRecursion}
use Rattle.std.specs.Option.{is_none, option_and_then, option_map_or}
use Rattle.opc_names.specs.declared.auth.Auth.{Auth}
use Rattle.opc_terms.specs.declared.fault.Fault.{Fault}
use Rattle.opc_terms.specs.declared.fault.Fault.TheVariants as fault
use Rattle.opc_terms.specs.declared.mode.Mode.{Mode}
use Rattle.opc_terms.specs.declared.need.Need.{Need}
use Rattle.opc_policy_members.specs.declared.policy.Policy.{Policy}
use Rattle.opc_policy_members.specs.declared.row.Row.{Row}
use Rattle.opc_policy_members.specs.declared.row.Row.TheVariants as rows
use Rattle.opc_policy_members.specs.declared.user.User.{User}
use Rattle.opc_policy_members.specs.Taken.{policy_after}
use Rattle.opc_policy.specs.declared.ruling.Ruling.{Ruling}
use Rattle.opc_policy.specs.declared.ruling.Ruling.TheVariants.{Allowed, Denied}
use Rattle.opc_reader_commands.specs.declared.command.Command.TheVariants.{DisplayUnit}
use Rattle.opc_rows.proofs.Orders.{all_changed, all_found, all_put}
use Rattle.opc_board.specs.declared.board.BoardRows.{BoardRows}
use Rattle.opc_board.specs.declared.line.Item.TheVariants.{Unit as AboutUnit}
use Rattle.opc_board.specs.declared.line.Line.{Line}
use Rattle.opc_board.specs.declared.rows.ConsoleRow.{ConsoleRow}
use Rattle.opc_board.specs.declared.rows.UnitRow.{UnitRow}
use Rattle.opc_board.specs.Consoles.{console_defined, defined, logged_on, new_console}
use Rattle.opc_board.specs.Invariants.{Name, console_at, console_before, is}
use Rattle.opc_board.specs.Outcome.{done_with}
use Rattle.opc_board.specs.Texts.{lines_of, unit_line}
use Rattle.opc_board.proofs.Names.{is_itself}
use Rattle.opc_state.specs.State.{State, empty}
use Rattle.opc_machine.specs.Bootstrap.{bootstrapped, console_after, consoles_after, with_rows_of}
use Rattle.opc_machine.specs.Commands.{acted, admit, allowed, command_in, command_or, command_outcome, is_password, known_by, logon, need_of, nobody_on, typed}
use Rattle.opc_machine.specs.Outcome.{StateOutcome, ◌>>=◌, does, found}
use Rattle.opc_machine.specs.Rulings.{is_allowed, logon_ruling, need_to_show, passes, ruling, shown}
use Rattle.opc_machine_laws.proofs.Acting.{console_back}
use Rattle.opc_machine_laws.proofs.AtNames.{named}
use Rattle.opc_machine_laws.proofs.Finding.{find_here}
use Rattle.opc_answers.specs.declared.lines.UserLine.{UserLine}
use Rattle.opc_answers.specs.declared.logons.NoLogon.{NoLogon}
use Rattle.opc_answers.specs.declared.logons.NoLogon.TheVariants.{NoDigest}
use Rattle.opc_answers.specs.declared.wanted.Entered.{Entered}
use Rattle.opc_answers.specs.declared.wanted.Wanted.TheVariants.{Command}
use Rattle.opc_answers.specs.declared.who.AskedAt.TheVariants.{OnBoard}
use Rattle.opc_answers.specs.declared.who.Who.{Who}
use Rattle.opc_answers.specs.Laws.{enters, said_there}
use Rattle.opc_answers.specs.Logons.{door_of, refusal}
use Rattle.opc_answers.specs.Made.{member_of}
use Rattle.opc_answers.specs.Needed.{line_by, need_by}
use Rattle.opc_answers.specs.Texts.{cannot_log_on, may}
use Rattle.opc_answers.specs.Who.{on_at, on_board, who_at, who_placed}
use Rattle.opc_answers.proofs.Admitted.{admits, no_digest, own_needs_none, who_cannot, who_enters, who_may}
use Rattle.opc_answers_laws.specs.EnteringLaws.{
  EntersAfterALogon,
  EntersWithoutADigest,
  IsAsked,
  IsDisplayOf,
  IsLogonOf,
  IsShown,
  SaysNoLogonIfRefused,
  SaysNoLogonWithoutADigest,
  SaysWhichOwnUserIsShownTheLine,
  SaysWhoIsShownTheLine,
  acts_for_user,
  allowed_after,
  allowed_at,
  allowed_on,
  display_of,
  is_refused,
  said_of,
}

-- ---- consoles that rows define are online, and nobody is on

abbrev IsNew : ConsoleRow → Type 0
IsNew c = (c.online ≡ true) × (c.user ≡ None)

define_new : (name : Name) (auth : Auth) (mode : Mode) (b : BoardRows) → AllByRecursion IsNew b.consoles
    → AllByRecursion IsNew (console_defined name auth mode b).consoles
define_new name auth mode b all = go (console_at b name) refl
  where
    go : (o : Option ConsoleRow) → console_at b name ≡ o → AllByRecursion IsNew (defined name auth mode o b).consoles
    go None at = all_put IsNew console_before (new_console name auth mode) (refl, refl) b.consoles all
    go (Some c) at =
        let was : IsNew c = all_found IsNew (λ d. is d.name name) c b.consoles at all in
        all_changed IsNew (λ d. is d.name c.name) (λ d. record c { auth = auth; mode = mode }) (λ d here so. was) b.consoles all

row_new : (row : Row) (b : BoardRows) → AllByRecursion IsNew b.consoles → AllByRecursion IsNew (console_after row b).consoles
row_new (rows.Console name auth mode) b all = define_new name auth mode b all
row_new other b all = all

rows_new : (more : List Row) (b : BoardRows) → AllByRecursion IsNew b.consoles → AllByRecursion IsNew (consoles_after more b).consoles
rows_new [] b all = all
rows_new (row ∷ more) b all = rows_new more (console_after row b) (row_new row b all)

board_of : (board : BoardRows) (s : State) (r : Result Policy Fault) → with_rows_of empty board r ≡ Ok s → board ≡ s.board
board_of board s (Ok policy) is =
    let same : ◌≡◌ {A = State} (record empty { policy = policy; board = board }) s = cc in ap (λ (x : State). x.board) same
board_of board s (Err f) is = absurd (cc)

begun_new : (all : List Row) (s : State) → bootstrapped all empty ≡ Ok s → AllByRecursion IsNew s.board.consoles
begun_new all s begun =
    subst (λ (b : BoardRows). AllByRecursion IsNew b.consoles)
    (board_of (consoles_after all empty.board) s (policy_after all empty.policy) begun)
    (rows_new all empty.board tt)

-- ---- tests

enters_so : (acts : Bool) (refuses : Option NoLogon) (admitted on alone : Bool) → is_none refuses ≡ admitted → (acts ≡ true → alone ≡ on)
    → (is_none (if acts then None else refuses) && on) ≡ ((admitted && on) || (acts && alone))
enters_so true refuses true true alone has own = refl
enters_so true refuses true false alone has own = sym (own refl)
enters_so true refuses false on alone has own = sym (own refl)
enters_so false refuses true true alone has own = ap (λ b. b && true) has
enters_so false refuses true false alone has own = ap (λ b. b && false) has
enters_so false refuses false on alone has own = ap (λ b. b && on) has

acts_alone : (acts on alone : Bool) → (acts ≡ true → alone ≡ on) → (is_none (if acts then None else Some NoDigest) && on) ≡ (acts && alone)
acts_alone true on alone own = sym (own refl)
acts_alone false on alone own = refl

cannot_so : (acts : Bool) (refuses : Option NoLogon) (admitted on : Bool) → is_none refuses ≡ admitted
    → (on && not (is_none (if acts then None else refuses))) ≡ (on && (not acts && not admitted))
cannot_so true refuses admitted on has = refl
cannot_so false refuses admitted on has = ap (λ b. on && not b) has

cannot_alone : (acts on : Bool) → (on && not (is_none (if acts then None else Some NoDigest))) ≡ (on && not acts)
cannot_alone true on = refl
cannot_alone false on = refl

has_digest : (password : List ℕ) (o : Option (List ℕ)) → is_password password o ≡ true → (digest : List ℕ) × (o ≡ Some digest)
has_digest password None known = absurd (cc)
has_digest password (Some digest) known = (digest, refl)

-- ---- a LOGON

abbrev by_ruling : State → ConsoleRow → List ℕ → Ruling → StateOutcome
by_ruling s c id r = do
  rule ← admit r
  does (record s { board = logged_on c.name id s.board }) [] (Some rule)

abbrev by_user : State → ConsoleRow → List ℕ → Option User → StateOutcome
by_user s c id u = do
  user ← found fault.BadLogon u
  by_ruling s c id (logon_ruling s c user)

abbrev by_state : State → ConsoleRow → List ℕ → Option (List ℕ) → Option User → StateOutcome
by_state s c id on u = do
  _ ← nobody_on on
  by_user s c id u

refused_so : (s : State) (c : ConsoleRow) (id : List ℕ) (r : Ruling) → is_refused (by_ruling s c id r) ≡ not (is_allowed r)
refused_so s c id (Allowed rule) = refl
refused_so s c id (Denied rule) = refl

allowed_so : (s : State) (c : ConsoleRow) (id : List ℕ) (need : Need) (r : Ruling)
    → allowed_after (by_ruling s c id r) c.name need
    ≡ (is_allowed r && allowed_at (record s { board = logged_on c.name id s.board }) c.name need)
allowed_so s c id need (Allowed rule) = refl
allowed_so s c id need (Denied rule) = refl

module _ (all : List Row) (s : State) (entered : Entered) (c : ConsoleRow) (user : User) (who : Who) (asked : IsAsked all s entered c user who) where
  new : IsNew c
  new = all_found IsNew (λ d. is d.name c.name) c s.board.consoles asked.there (begun_new all s asked.begun)

  abbrev need : Need
  need = entered.need

  abbrev on : ConsoleRow
  on = on_at user.id c

  -- what is said is what the definitions say there
  who_is : who ≡ who_at s.policy s.board (Command entered) (OnBoard c)
  who_is =
      let is : ◌≡◌ {A = Result Who Fault} (Ok (who_at s.policy s.board (Command entered) (OnBoard c))) (Ok who) =
      ap (λ o. who_placed s.policy s.board (Command entered) (on_board o)) (sym asked.there) ∙ asked.answered in
      let same : who_at s.policy s.board (Command entered) (OnBoard c) ≡ who = cc in sym same

  said_so : (f : UserLine → Bool) → f (said_of s who user) ≡ f (said_there s entered c user)
  said_so f = ap (λ w. f (said_of s w user)) who_is

  -- with nobody logged on, at the console as it is
  alone_so : allowed_at s c.name need ≡ is_allowed (ruling s c need)
  alone_so = ap (λ o. option_map_or (λ (d : ConsoleRow). is_allowed (ruling s d need)) o false) asked.there

  own_so : acts_for_user s c user ≡ true → allowed_at s c.name need ≡ is_allowed (ruling s on need)
  own_so acts =
      alone_so ∙ ap (λ u. is_allowed (ruling s (record c { user = u }) need)) new.1
      ∙ ap is_allowed (own_needs_none s need c user asked.stored acts)

  -- after the LOGON the user is on there
  then_on : allowed_at (record s { board = logged_on c.name user.id s.board }) c.name need ≡ is_allowed (ruling s on need)
  then_on =
      ap (λ o. option_map_or (λ (d : ConsoleRow). is_allowed (ruling (record s { board = logged_on c.name user.id s.board }) d need)) o false)
      (find_here (λ d. is d.name c.name) (λ d. record d { user = Some user.id }) c (is_itself c.name) s.board.consoles asked.there)

  module _ (text : List ℕ) (typed_logon : IsLogonOf user text) where
    abbrev checked : User → Option User
    checked u = if is_password typed_logon.password.value u.digest then Some u else None

    logs_on : command_outcome s c.name text ≡ by_ruling s c user.id (logon_ruling s c user)
    logs_on =
        ap (λ x. x >>= λ d. command_in text >>= λ k. typed s d k (need_of s.board k)) (console_back (console_at s.board c.name) c asked.there new.0)
        ∙ ap (λ x. command_or x >>= λ k. typed s c k (need_of s.board k)) typed_logon.reads
        ∙ ap (λ id. logon s c id typed_logon.password.value) typed_logon.of_user
        ∙ ap (λ u. by_state s c user.id u (known_by s user.id typed_logon.password.value)) new.1
        ∙ ap (λ o. by_user s c user.id (option_and_then checked o)) asked.stored
        ∙ ap (λ b. by_user s c user.id (if b then Some user else None)) typed_logon.known

    admitted : is_none (refusal (door_of s.policy c) (member_of s.policy.connects user)) ≡ is_allowed (logon_ruling s c user)
    admitted =
        let digest = has_digest typed_logon.password.value user.digest typed_logon.known in
        admits s c user digest.0 digest.1

    then_allowed : allowed_after (command_outcome s c.name text) c.name need ≡ (is_allowed (logon_ruling s c user) && is_allowed (ruling s on need))
    then_allowed =
        ap (λ o. allowed_after o c.name need) logs_on ∙ allowed_so s c user.id need (logon_ruling s c user)
        ∙ ap (λ b. is_allowed (logon_ruling s c user) && b) then_on

    enters_then : enters (said_of s who user) ≡ (allowed_after (command_outcome s c.name text) c.name need
        || (acts_for_user s c user && allowed_at s c.name need))
    enters_then =
        said_so enters ∙ who_enters s entered c user asked.stored
        ∙ enters_so (acts_for_user s c user) (refusal (door_of s.policy c) (member_of s.policy.connects user))
        (is_allowed (logon_ruling s c user)) (is_allowed (ruling s on need)) (allowed_at s c.name need) admitted own_so
        ∙ ap (λ b. b || (acts_for_user s c user && allowed_at s c.name need)) (sym then_allowed)

    cannot_then : cannot_log_on (said_of s who user) ≡ (allowed_on s c user need
        && (not (acts_for_user s c user) && is_refused (command_outcome s c.name text)))
    cannot_then =
        said_so cannot_log_on ∙ who_cannot s entered c user asked.stored
        ∙ cannot_so (acts_for_user s c user) (refusal (door_of s.policy c) (member_of s.policy.connects user))
        (is_allowed (logon_ruling s c user)) (is_allowed (ruling s on need)) admitted
        ∙ ap (λ b. allowed_on s c user need && (not (acts_for_user s c user) && b))
        (sym (ap is_refused logs_on ∙ refused_so s c user.id (logon_ruling s c user)))

  module _ (none : user.digest ≡ None) where
    refused : refusal (door_of s.policy c) (member_of s.policy.connects user) ≡ Some NoDigest
    refused = no_digest (door_of s.policy c) (member_of s.policy.connects user) none

    enters_alone : enters (said_of s who user) ≡ (acts_for_user s c user && allowed_at s c.name need)
    enters_alone =
        said_so enters ∙ who_enters s entered c user asked.stored
        ∙ ap (λ r. is_none (if acts_for_user s c user then None else r) && is_allowed (ruling s on need)) refused
        ∙ acts_alone (acts_for_user s c user) (is_allowed (ruling s on need)) (allowed_at s c.name need) own_so

    cannot_at_all : cannot_log_on (said_of s who user) ≡ (allowed_on s c user need && not (acts_for_user s c user))
    cannot_at_all =
        said_so cannot_log_on ∙ who_cannot s entered c user asked.stored
        ∙ ap (λ r. is_allowed (ruling s on need) && not (is_none (if acts_for_user s c user then None else r))) refused
        ∙ cannot_alone (acts_for_user s c user) (is_allowed (ruling s on need))

pub enters_after : EntersAfterALogon
enters_after all s entered c user who text asked logon_typed = enters_then all s entered c user who asked text logon_typed

pub enters_without : EntersWithoutADigest
enters_without all s entered c user who asked none = enters_alone all s entered c user who asked none

pub no_logon_if_refused : SaysNoLogonIfRefused
no_logon_if_refused all s entered c user who text asked logon_typed = cannot_then all s entered c user who asked text logon_typed

pub no_logon_without : SaysNoLogonWithoutADigest
no_logon_without all s entered c user who asked none = cannot_at_all all s entered c user who asked none

-- ---- the line of a unit

abbrev display : State → BoardRows → ConsoleRow → Ruling → List Line → StateOutcome
display s board on r lines = do
  rule ← allowed r
  act ← acted (Some rule) (done_with board lines)
  does (record s { board = act.board }) (filter (shown (record s { board = board }) on) act.lines) (Some rule)

both : (a b : Bool) → (a && b) ≡ true → (a ≡ true) × (b ≡ true)
both true b h = (refl, h)
both false b h = absurd (cc)

both_back : (a b : Bool) → a ≡ true → b ≡ true → (a && b) ≡ true
both_back a b h k = ap (λ t. t && b) h ∙ k

module _ (s : State) (board : BoardRows) (on : ConsoleRow) (unit : UnitRow) where
  abbrev is_shown : Bool
  is_shown = shown (record s { board = board }) on (unit_line unit)

  line_there : is_shown ≡ true → filter (shown (record s { board = board }) on) (unit_line unit ∷ []) ≡ unit_line unit ∷ []
  line_there h = ap (λ b. cond b (unit_line unit ∷ []) []) h

  shown_by : (b : Bool) → cond b (unit_line unit ∷ []) [] ≡ unit_line unit ∷ [] → b ≡ true
  shown_by true h = refl
  shown_by false h = absurd (cc)

  displays : (r : Ruling) → is_allowed r ≡ true → is_shown ≡ true → IsShown (display s board on r (unit_line unit ∷ [])) unit
  displays (Allowed rule) allows h = line_there h
  displays (Denied rule) allows h = absurd (cc)

  displayed : (r : Ruling) → IsShown (display s board on r (unit_line unit ∷ [])) unit → (is_allowed r ≡ true) × (is_shown ≡ true)
  displayed (Allowed rule) h = (refl, shown_by is_shown h)
  displayed (Denied rule) h = absurd h

-- what is typed there, with whoever acts at the console d
module _ (s : State) (entered : Entered) (text : List ℕ) (board : BoardRows) (unit : UnitRow) (asked : IsDisplayOf entered text board unit)
    (d : ConsoleRow) (name : List ℕ) (there : console_at board name ≡ Some d) (online : d.online ≡ true) where
  abbrev reached : State
  reached = record s { board = board }

  needs_so : need_of board (DisplayUnit asked.name) ≡ Some entered.need
  needs_so =
      let same : ◌≡◌ {A = Result (Option Need) Fault} (Ok (need_of board (DisplayUnit asked.name))) (Ok (Some entered.need)) =
      sym (ap (λ r. need_by r asked.kind) asked.reads) ∙ asked.needs in
      let is : need_of board (DisplayUnit asked.name) ≡ Some entered.need = cc in is

  answered_so : display_of s board name text ≡ display s board d (ruling s d entered.need) (unit_line unit ∷ [])
  answered_so =
      ap (λ x. x >>= λ c. command_in text >>= λ k. typed reached c k (need_of board k)) (console_back (console_at board name) d there online)
      ∙ ap (λ x. command_or x >>= λ k. typed reached d k (need_of board k)) asked.reads
      ∙ ap (typed reached d (DisplayUnit asked.name)) needs_so
      ∙ ap (λ o. display s board d (ruling s d entered.need) (lines_of o)) asked.there

  passes_so : passes s d entered.line ≡ is_shown s board d unit
  passes_so =
      ap (passes s d) (asked.asks ∙ ap line_by asked.reads
      ∙ ap (λ n. need_to_show (AboutUnit n)) (sym (named (λ (u : UnitRow). u.name) board.units asked.name.value unit asked.there)))

  lets : (is_allowed (ruling s d entered.need) && passes s d entered.line) ≡ true → IsShown (display_of s board name text) unit
  lets h =
      let two = both (is_allowed (ruling s d entered.need)) (passes s d entered.line) h in
      subst (λ o. IsShown o unit) (sym answered_so)
      (displays s board d unit (ruling s d entered.need) two.0 (sym passes_so ∙ two.1))

  let_so : IsShown (display_of s board name text) unit → (is_allowed (ruling s d entered.need) && passes s d entered.line) ≡ true
  let_so h =
      let two = displayed s board d unit (ruling s d entered.need) (subst (λ o. IsShown o unit) answered_so h) in
      both_back (is_allowed (ruling s d entered.need)) (passes s d entered.line) two.0 (passes_so ∙ two.1)

pub shown_the_line : SaysWhoIsShownTheLine
shown_the_line all s entered c user who text board unit asked typed_display at =
    let on = on_at user.id c in
    let gets = is_none (if acts_for_user s c user then None else refusal (door_of s.policy c) (member_of s.policy.connects user)) in
    let online : c.online ≡ true = (new all s entered c user who asked).0 in
    let one = is_allowed (ruling s on entered.need) in
    let line = passes s on entered.line in
    let may_so : may (said_of s who user) ≡ (gets && (one && line)) =
    said_so all s entered c user who asked may ∙ who_may s entered c user asked.stored in
    let enters_is : enters (said_of s who user) ≡ (gets && one) =
    said_so all s entered c user who asked enters ∙ who_enters s entered c user asked.stored in (
      λ h.
          let parts = both gets (one && line) (sym may_so ∙ h) in (
            enters_is ∙ both_back gets one parts.0 (both one line parts.1).0,
            lets s entered text board unit typed_display on c.name at online parts.1,
          ),
      λ h.
          may_so ∙ both_back gets (one && line) (both gets one (sym enters_is ∙ h.0)).0
          (let_so s entered text board unit typed_display on c.name at online h.1),
    )

passes_alike : (s : State) (c other : ConsoleRow) → ((need : Need) → ruling s c need ≡ ruling s other need) → (line : Option Need)
    → passes s other line ≡ passes s c line
passes_alike s c other alike None = refl
passes_alike s c other alike (Some need) = ap is_allowed (sym (alike need))

pub shown_without : SaysWhichOwnUserIsShownTheLine
shown_without all s entered c user who text board unit asked typed_display at acts =
    let online : c.online ≡ true = (new all s entered c user who asked).0 in
    let on = on_at user.id c in
    let alike : (need : Need) → ruling s c need ≡ ruling s on need =
    λ need. ap (λ u. ruling s (record c { user = u }) need) (new all s entered c user who asked).1
    ∙ own_needs_none s need c user asked.stored acts in
    let both_so : (is_allowed (ruling s on entered.need) && passes s on entered.line)
    ≡ (is_allowed (ruling s c entered.need) && passes s c entered.line) =
    ap (λ r. is_allowed r && passes s on entered.line) (sym (alike entered.need))
    ∙ ap (λ b. is_allowed (ruling s c entered.need) && b) (passes_alike s c on alike entered.line) in
    let may_so : may (said_of s who user) ≡ (is_allowed (ruling s c entered.need) && passes s c entered.line) =
    said_so all s entered c user who asked may ∙ who_may s entered c user asked.stored
    ∙ ap (λ b. is_none (if b then None else refusal (door_of s.policy c) (member_of s.policy.connects user))
    && (is_allowed (ruling s on entered.need) && passes s on entered.line)) acts
    ∙ both_so in (
      λ h. lets s entered text board unit typed_display c c.name at online (sym may_so ∙ h),
      λ h. may_so ∙ let_so s entered text board unit typed_display c c.name at online h,
    )
