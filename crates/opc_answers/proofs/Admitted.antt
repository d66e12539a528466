-- Who can act at a console is ruled by the machine.
use Rattle.std.proofs.Common.{◌≡◌, ℕ, Bool, true, false, List, Option, Some, None, refl, sym, ap, ◌∙◌, if◌then◌else◌}
use Rattle.std.specs.Prelude.{◌&&◌, ◌||◌, [], is_ok, nat_lt, not, unwrap_or}
use Rattle.std.specs.Option.{is_none, is_some, option_and_then, option_map}
use Rattle.std.specs.Str.{bytes_eq}
use Rattle.std.proofs.lemmas.Slice.Eq.{bytes_eq-Decides}
use Rattle.opc_names.specs.declared.class.Class.TheVariants.{Console, Opercmds}
use Rattle.opc_names.specs.declared.level.Level.{Level}
use Rattle.opc_names.specs.declared.level.Level.TheVariants.{Read}
use Rattle.opc_names.specs.Authority.{includes}
use Rattle.opc_terms.specs.declared.mode.Mode.{Mode}
use Rattle.opc_terms.specs.declared.mode.Mode.TheVariants as modes
use Rattle.opc_terms.specs.declared.need.Need.{Need}
use Rattle.opc_terms.specs.declared.rule.Rule.{Rule}
use Rattle.opc_terms.specs.declared.rule.Rule.TheVariants as rules
use Rattle.opc_policy_members.specs.declared.profile.Profile.{Profile}
use Rattle.opc_policy_members.specs.declared.user.User.{User}
use Rattle.opc_policy_members.specs.Held.{held}
use Rattle.opc_policy_members.specs.Members.{groups_of, user_of}
use Rattle.opc_policy_members.specs.Taken.{is_active}
use Rattle.opc_policy.specs.declared.ruling.Ruling.{Ruling}
use Rattle.opc_policy.specs.declared.ruling.Ruling.TheVariants as rulings
use Rattle.opc_policy.specs.declared.verdict.Verdict.TheVariants.{Allowed, Denied}
use Rattle.opc_policy.specs.Rulings.{by_verdict, profile_rule, verdict, verdict_rule}
use Rattle.opc_policy_sources.specs.declared.sources.HeldLevel.{HeldLevel}
use Rattle.opc_board.specs.declared.rows.ConsoleRow.{ConsoleRow}
use Rattle.opc_state.specs.State.{State, deciding_in}
use Rattle.opc_board.specs.Consoles.{logged_on}
use Rattle.opc_machine.specs.Commands.{admit, is_password, known_by, nobody_on}
use Rattle.opc_machine.specs.Outcome.{StateOutcome, ◌>>=◌, does, found}
use Rattle.opc_terms.specs.declared.fault.Fault.TheVariants as fault
use Rattle.opc_machine.specs.Rulings.{is_allowed, is_auto, is_required, logon_ruling, own_user, passes, ruling}
use Rattle.opc_answers.specs.declared.lines.UserLine.{UserLine}
use Rattle.opc_answers.specs.declared.logons.Instead.{Instead}
use Rattle.opc_answers.specs.declared.logons.Instead.TheVariants as instead
use Rattle.opc_answers.specs.declared.logons.NoLogon.{NoLogon}
use Rattle.opc_answers.specs.declared.logons.NoLogon.TheVariants as off
use Rattle.opc_answers.specs.declared.members.UserWithGroups.{UserWithGroups}
use Rattle.opc_answers.specs.Deciding.{decider}
use Rattle.opc_answers.specs.Laws.{
  AdmitsAsTheMachineDoes,
  AdmitsNobodyWithoutADigest,
  LogsOnWhereSaid,
  OwnUsersNeedNoLogon,
  SaysTheLogonRuling,
  SaysWhoCannotLogOnThere,
  SaysWhoEntersThere,
  SaysWhoLogsOn,
  SaysWhoMayThere,
  enters,
  said,
}
use Rattle.opc_answers.specs.Logons.{by_profile as admitted_by, denied_by, door_of, no_logon}
use Rattle.opc_answers.specs.Made.{member_of}
use Rattle.opc_answers.specs.Texts.{cannot_log_on, may}
use Rattle.opc_answers.specs.declared.shows.Said.TheVariants as one_of
use Rattle.opc_answers.specs.declared.who.AskedAt.TheVariants.{OnBoard}
use Rattle.opc_answers.specs.Who.{
  by_profile,
  doubt_of,
  line,
  line_of,
  on_at,
  or_admitted,
  or_authority,
  said_line,
  shown_at,
  shows_by,
  unless_on,
  with_line,
}
use Rattle.opc_answers.proofs.Ruled.{by_own, verdict_is}
use Rattle.opc_answers.proofs.Said.{ruling_so, with_user}

-- ---- who may

said_with : (why : Option NoLogon) (id : List ℕ) (held : Option HeldLevel) (r : Ruling)
    → may (unless_on why (record { id = id; ruling = Some r; held = held; instead = None })) ≡ (is_none why && is_allowed r)
said_with None id held (rulings.Allowed rule) = refl
said_with (Some why) id held (rulings.Allowed rule) = refl
said_with None id held (rulings.Denied rule) = refl
said_with (Some why) id held (rulings.Denied rule) = refl

enters_with : (why : Option NoLogon) (id : List ℕ) (held : Option HeldLevel) (r : Ruling)
    → enters (unless_on why (record { id = id; ruling = Some r; held = held; instead = None })) ≡ (is_none why && is_allowed r)
enters_with None id held (rulings.Allowed rule) = refl
enters_with (Some why) id held (rulings.Allowed rule) = refl
enters_with None id held (rulings.Denied rule) = refl
enters_with (Some why) id held (rulings.Denied rule) = refl

off_with : (why : Option NoLogon) (id : List ℕ) (held : Option HeldLevel) (r : Ruling)
    → cannot_log_on (unless_on why (record { id = id; ruling = Some r; held = held; instead = None })) ≡ (is_allowed r && not (is_none why))
off_with None id held (rulings.Allowed rule) = refl
off_with (Some why) id held (rulings.Allowed rule) = refl
off_with None id held (rulings.Denied rule) = refl
off_with (Some why) id held (rulings.Denied rule) = refl

-- a line begins without a word on logons
on_so : (b : Bool) (d : Option Profile) (user : User) (console : Option (List ℕ)) (groups : List (List ℕ)) (level : Level)
    → (if b then line user (Some (rulings.Denied rules.Revoked)) None else by_profile d console level groups user).instead ≡ None
on_so true d user console groups level = refl
on_so false None user console groups level = refl
on_so false (Some p) user console groups level = refl

-- a line with a ruling alone
abbrev ruled_line : List ℕ → Option HeldLevel → Ruling → UserLine
ruled_line id held r = record { id = id; ruling = Some r; held = held; instead = None }

and_true : (b : Bool) → b ≡ (b && true)
and_true true = refl
and_true false = refl

-- the command's line or that of what it shows: which of two that allow is said is no matter
either : {v : Bool} (b : Bool) (f : UserLine → Bool) (one two : UserLine) → f one ≡ v → f two ≡ v
    → f (said_line (if b then one_of.OfCommand else one_of.OfLine) one two) ≡ v
either true f one two h k = h
either false f one two h k = k

module _ (why : Option NoLogon) (id other : List ℕ) (held1 held2 : Option HeldLevel) where
  both_may : (one two : Ruling)
      → may (with_line (unless_on why (ruled_line id held1 one)) (ruled_line other held2 two))
      ≡ (is_none why && (is_allowed one && is_allowed two))
  both_may one two = go why one two
    where
      go : (w : Option NoLogon) (a b : Ruling)
          → may (with_line (unless_on w (ruled_line id held1 a)) (ruled_line other held2 b))
          ≡ (is_none w && (is_allowed a && is_allowed b))
      go None (rulings.Denied rule) b = refl
      go (Some w) (rulings.Denied rule) b = refl
      go (Some w) (rulings.Allowed rule) b = refl
      go None (rulings.Allowed rule) (rulings.Denied other) = refl
      go None (rulings.Allowed rule) (rulings.Allowed other) =
          either (nat_lt (doubt_of (Some (rulings.Allowed other))) (doubt_of (Some (rulings.Allowed rule)))) may _ _ refl refl

  both_enter : (one two : Ruling)
      → enters (with_line (unless_on why (ruled_line id held1 one)) (ruled_line other held2 two))
      ≡ (is_none why && is_allowed one)
  both_enter one two = go why one two
    where
      go : (w : Option NoLogon) (a b : Ruling)
          → enters (with_line (unless_on w (ruled_line id held1 a)) (ruled_line other held2 b))
          ≡ (is_none w && is_allowed a)
      go None (rulings.Denied rule) b = refl
      go (Some w) (rulings.Denied rule) b = refl
      go (Some w) (rulings.Allowed rule) b = refl
      go None (rulings.Allowed rule) (rulings.Denied other) = refl
      go None (rulings.Allowed rule) (rulings.Allowed other) =
          either (nat_lt (doubt_of (Some (rulings.Allowed other))) (doubt_of (Some (rulings.Allowed rule)))) enters _ _ refl refl

  both_off : (one two : Ruling)
      → cannot_log_on (with_line (unless_on why (ruled_line id held1 one)) (ruled_line other held2 two))
      ≡ (is_allowed one && not (is_none why))
  both_off one two = go why one two
    where
      go : (w : Option NoLogon) (a b : Ruling)
          → cannot_log_on (with_line (unless_on w (ruled_line id held1 a)) (ruled_line other held2 b))
          ≡ (is_allowed a && not (is_none w))
      go None (rulings.Denied rule) b = refl
      go (Some w) (rulings.Denied rule) b = refl
      go (Some w) (rulings.Allowed rule) b = refl
      go None (rulings.Allowed rule) (rulings.Denied other) = refl
      go None (rulings.Allowed rule) (rulings.Allowed other) =
          either (nat_lt (doubt_of (Some (rulings.Allowed other))) (doubt_of (Some (rulings.Allowed rule)))) cannot_log_on _ _ refl refl

-- of a stored user who is on at a console
module _ (s : State) (c : ConsoleRow) (user : User) (is : user_of s.policy.users user.id ≡ Some user) where
  abbrev m : UserWithGroups
  m = member_of s.policy.connects user

  abbrev why_off : Option NoLogon
  why_off = no_logon (door_of s.policy c) m

  abbrev line_with : Need → UserLine
  line_with need = or_authority c need (said s need (Some c.name) user)

  abbrev rules_on : Need → Ruling
  rules_on need = ruling s (on_at user.id c) need

  -- the line has the ruling with the user on, and nothing else is said
  has_ruling : {A : Type 0} (f : UserLine → A) (need : Need)
      → f (line_with need) ≡ f (ruled_line (line_with need).id (line_with need).held (rules_on need))
  has_ruling f need =
      let l = line_with need in
      ap (λ n. f (record { id = l.id; ruling = l.ruling; held = l.held; instead = n }))
      (on_so user.revoked (decider s.policy Opercmds need.resource) user (Some c.name) (groups_of s.policy.connects user.id) need.level)
      ∙ ap (λ r. f (ruled_line l.id l.held r)) (sym (ruling_so s need c user is))

  alone : (f : UserLine → Bool) (need : Need)
      → f (unless_on why_off (line_with need))
      ≡ f (unless_on why_off (ruled_line (line_with need).id (line_with need).held (rules_on need)))
  alone f need = has_ruling (λ l. f (unless_on why_off l)) need

  with_both : (f : UserLine → Bool) (need line : Need)
      → f (with_line (unless_on why_off (line_with need)) (line_with line))
      ≡ f (with_line (unless_on why_off (ruled_line (line_with need).id (line_with need).held (rules_on need)))
      (ruled_line (line_with line).id (line_with line).held (rules_on line)))
  with_both f need line =
      has_ruling (λ l. f (with_line (unless_on why_off l) (line_with line))) need
      ∙ has_ruling (λ l. f (with_line (unless_on why_off (ruled_line (line_with need).id (line_with need).held (rules_on need))) l)) line

  may_by : (need : Need) (line : Option Need)
      → may (shown_at (shows_by s.policy line) (OnBoard c) m (unless_on why_off (line_with need)))
      ≡ (is_none why_off && (is_allowed (rules_on need) && passes s (on_at user.id c) line))
  may_by need None =
      alone may need ∙ said_with why_off (line_with need).id (line_with need).held (rules_on need)
      ∙ ap (λ b. is_none why_off && b) (and_true (is_allowed (rules_on need)))
  may_by need (Some line) =
      with_both may need line
      ∙ both_may why_off (line_with need).id (line_with line).id (line_with need).held (line_with line).held (rules_on need) (rules_on line)

  enters_by : (need : Need) (line : Option Need)
      → enters (shown_at (shows_by s.policy line) (OnBoard c) m (unless_on why_off (line_with need)))
      ≡ (is_none why_off && is_allowed (rules_on need))
  enters_by need None =
      alone enters need ∙ enters_with why_off (line_with need).id (line_with need).held (rules_on need)
  enters_by need (Some line) =
      with_both enters need line
      ∙ both_enter why_off (line_with need).id (line_with line).id (line_with need).held (line_with line).held (rules_on need) (rules_on line)

  off_by : (need : Need) (line : Option Need)
      → cannot_log_on (shown_at (shows_by s.policy line) (OnBoard c) m (unless_on why_off (line_with need)))
      ≡ (is_allowed (rules_on need) && not (is_none why_off))
  off_by need None =
      alone cannot_log_on need ∙ off_with why_off (line_with need).id (line_with need).held (rules_on need)
  off_by need (Some line) =
      with_both cannot_log_on need line
      ∙ both_off why_off (line_with need).id (line_with line).id (line_with need).held (line_with line).held (rules_on need) (rules_on line)

pub who_may : SaysWhoMayThere
who_may s entered c user is = may_by s c user is entered.need entered.line

pub who_enters : SaysWhoEntersThere
who_enters s entered c user is = enters_by s c user is entered.need entered.line

pub who_cannot : SaysWhoCannotLogOnThere
who_cannot s entered c user is = off_by s c user is entered.need entered.line

-- ---- who logs on

logon_so : (revoked active : Bool) (d : Option Profile) (user : User) (console : Option (List ℕ)) (groups : List (List ℕ))
    → unwrap_or (if revoked then line user (Some (rulings.Denied rules.Revoked)) None else
    by_profile (if active then d else None) console Read groups user).ruling (rulings.Allowed rules.NoProfile)
    ≡ (if revoked then rulings.Denied rules.Revoked else by_verdict (verdict active d user console groups Read)
    (verdict_rule active d user console groups Read) (rulings.Allowed rules.NoProfile))
logon_so true active d user console groups = refl
logon_so false false d user console groups = refl
logon_so false true None user console groups = refl
logon_so false true (Some p) user console groups =
    sym (verdict_is (includes (held p user console groups) Read || p.warning) (profile_rule p user console groups Read)
    (rulings.Allowed rules.NoProfile))

pub logon_by : (s : State) (c : ConsoleRow) (user : User) (decided : Option Profile) (groups : List (List ℕ)) (l : UserLine)
    → decided ≡ decider s.policy Console c.name → groups ≡ groups_of s.policy.connects user.id
    → l ≡ line_of decided (Some c.name) Read groups user
    → unwrap_or l.ruling (rulings.Allowed rules.NoProfile) ≡ logon_ruling s c user
logon_by s c user decided groups l decides are is =
    ap (λ (x : UserLine). unwrap_or x.ruling (rulings.Allowed rules.NoProfile))
    (is ∙ ap (λ d. line_of d (Some c.name) Read groups user) decides
    ∙ ap (λ g. line_of (decider s.policy Console c.name) (Some c.name) Read g user) are)
    ∙ logon_so user.revoked (is_active s.policy.active Console) (deciding_in s.policy Console c.name) user (Some c.name)
    (groups_of s.policy.connects user.id)

-- the line before the digest is consulted
abbrev logon_said : State → ConsoleRow → User → UserLine
logon_said s c user =
    line_of (decider s.policy Console c.name) (Some c.name) Read (groups_of s.policy.connects user.id) user

pub rules_logons : SaysTheLogonRuling
rules_logons s c user digest has =
    ap (λ o. (if is_none o then record { id = user.id; ruling = None; held = None; instead = Some instead.NoDigest } else
    or_admitted (logon_said s c user)).ruling) has
    ∙ ap (λ r. Some r) (logon_by s c user _ _ (logon_said s c user) refl refl refl)

pub who_logs_on : SaysWhoLogsOn
who_logs_on s c user =
    by_digest user.digest
  where
    by_digest : (o : Option (List ℕ))
        → may (if is_none o then record { id = user.id; ruling = None; held = None; instead = Some instead.NoDigest } else
        or_admitted (logon_said s c user)) ≡ (is_some o && is_allowed (logon_ruling s c user))
    by_digest None = refl
    by_digest (Some digest) =
        ap (λ (i : Option Instead). is_none i && is_allowed (unwrap_or (logon_said s c user).ruling (rulings.Allowed rules.NoProfile)))
        (on_so user.revoked (decider s.policy Console c.name) user (Some c.name) (groups_of s.policy.connects user.id) Read)
        ∙ ap is_allowed (logon_by s c user _ _ (logon_said s c user) refl refl refl)

-- a LOGON by the user that is found, and by the ruling
abbrev by_ruling : State → ConsoleRow → List ℕ → Ruling → StateOutcome
by_ruling s c id r = do
  rule ← admit r
  does (record s { board = logged_on c.name id s.board }) [] (Some rule)

abbrev by_user : State → ConsoleRow → List ℕ → Option User → StateOutcome
by_user s c id u = do
  user ← found fault.BadLogon u
  by_ruling s c id (logon_ruling s c user)

abbrev by_state : State → ConsoleRow → List ℕ → Option (List ℕ) → Option User → StateOutcome
by_state s c id on u = do
  _ ← nobody_on on
  by_user s c id u

admitted_so : (s : State) (c : ConsoleRow) (id : List ℕ) (r : Ruling) → is_ok (by_ruling s c id r) ≡ is_allowed r
admitted_so s c id (rulings.Allowed rule) = refl
admitted_so s c id (rulings.Denied rule) = refl

has_digest : (password : List ℕ) (o : Option (List ℕ)) → is_password password o ≡ true → is_some o ≡ true
has_digest password None known = absurd (cc)
has_digest password (Some digest) known = refl

pub is_done : LogsOnWhereSaid
is_done s c user password is nobody known =
    let checked = λ (u : User). if is_password password u.digest then Some u else None in
    ap (λ on. is_ok (by_state s c user.id on (known_by s user.id password))) nobody
    ∙ ap (λ o. is_ok (by_user s c user.id (option_and_then checked o))) is
    ∙ ap (λ b. is_ok (by_user s c user.id (if b then Some user else None))) known
    ∙ admitted_so s c user.id (logon_ruling s c user)
    ∙ ap (λ b. b && is_allowed (logon_ruling s c user)) (sym (has_digest password user.digest known))
    ∙ sym (who_logs_on s c user)

-- ---- who is admitted

allowed_so : (b : Bool) (rule : Rule) (other : Ruling)
    → is_none (denied_by (if b then rulings.Allowed rule else rulings.Denied rule))
    ≡ is_allowed (by_verdict (if b then Allowed else Denied) rule other)
allowed_so true rule other = refl
allowed_so false rule other = refl

-- without the rule
admits_or : (b : Bool) (rule : Rule) → is_none (denied_by (if b then rulings.Allowed rule else rulings.Denied rule)) ≡ b
admits_or true rule = refl
admits_or false rule = refl

pub admits_by : (p : Profile) (c : ConsoleRow) (m : UserWithGroups)
    → is_none (admitted_by (Some p) c m) ≡ (includes (held p m.user (Some c.name) m.groups) Read || p.warning)
admits_by p c m =
    admits_or (includes (held p m.user (Some c.name) m.groups) Read || p.warning) (profile_rule p m.user (Some c.name) m.groups Read)

decided_so : (revoked active : Bool) (d : Option Profile) (c : ConsoleRow) (m : UserWithGroups)
    → is_none (if revoked then Some (off.Denied rules.Revoked) else admitted_by (if active then d else None) c m)
    ≡ is_allowed (if revoked then rulings.Denied rules.Revoked else by_verdict (verdict active d m.user (Some c.name) m.groups Read)
    (verdict_rule active d m.user (Some c.name) m.groups Read) (rulings.Allowed rules.NoProfile))
decided_so true active d c m = refl
decided_so false false d c m = refl
decided_so false true None c m = refl
decided_so false true (Some p) c m =
    allowed_so (includes (held p m.user (Some c.name) m.groups) Read || p.warning) (profile_rule p m.user (Some c.name) m.groups Read)
    (rulings.Allowed rules.NoProfile)

pub admits : AdmitsAsTheMachineDoes
admits s c user digest has =
    let m = member_of s.policy.connects user in
    let door = door_of s.policy c in
    ap (λ o. is_none (if is_none o then Some off.NoDigest else
    (if user.revoked then Some (off.Denied rules.Revoked) else admitted_by door.profile c m))) has
    ∙ decided_so user.revoked (is_active s.policy.active Console) (deciding_in s.policy Console c.name) c m

pub no_digest : AdmitsNobodyWithoutADigest
no_digest d m none =
    ap (λ o. if is_none o then Some off.NoDigest else
    (if m.user.revoked then Some (off.Denied rules.Revoked) else admitted_by d.profile d.console m)) none

-- ---- the user of a console's name

first_of : (a b : Bool) → (a && b) ≡ true → a ≡ true
first_of true b h = refl
first_of false b h = absurd (cc)

second_of : (a b : Bool) → (a && b) ≡ true → b ≡ true
second_of true b h = h
second_of false b h = absurd (cc)

not_required : (mode : Mode) → is_auto mode ≡ true → is_required mode ≡ false
not_required modes.Auto h = refl
not_required modes.Optional h = absurd (cc)
not_required modes.Required h = absurd (cc)

pub own_needs_none : OwnUsersNeedNoLogon
own_needs_none s need c user is acts =
    let users = s.policy.users in
    let auto : is_auto c.mode ≡ true = first_of (is_auto c.mode) (bytes_eq c.name user.id) acts in
    let name : c.name ≡ user.id = (bytes_eq-Decides c.name user.id).0 (second_of (is_auto c.mode) (bytes_eq c.name user.id) acts) in
    let found : user_of users c.name ≡ Some user = ap (user_of users) name ∙ is in
    let own : own_user s c ≡ Some c.name =
    ap (λ b. if b && is_some (user_of users c.name) then Some c.name else None) auto
    ∙ ap (λ (o : Option User). if is_some o then Some c.name else None) found in
    by_own s c need (Some user) (not_required c.mode auto) (ap (option_and_then (user_of users)) own ∙ found)
    ∙ sym (with_user s need c user (user_of users user.id) is)
