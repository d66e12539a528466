-- Who may more, and who may less.
use Rattle.std.specs.Prelude.{
  ◌&&◌,
  ◌==◌,
  ℕ,
  Bool,
  false,
  List,
  [],
  ◌∷◌,
  ◌++◌,
  Option,
  Some,
  None,
  codes,
  if◌then◌else◌,
  not,
}
use Rattle.std.specs.BTreeSet.{insert_key}
use Rattle.std.specs.Fmt.{decimal}
use Rattle.std.specs.Option.{is_none}
use Rattle.opc_policy_members.specs.Members.{name_cmp}
use Rattle.opc_answers.specs.declared.lines.UserLine.{UserLine}
use Rattle.opc_answers.specs.Who.{is_denied}
use Rattle.opc_answers_diff.specs.declared.verdicts.UserChange.{UserChange}

-- a line that does not deny: ALLOWED, WARNED or UNDECIDED
abbrev pub lets : Option UserLine → Bool
lets None = false
lets (Some line) = is_none line.instead && not (is_denied line.ruling)

abbrev pub is_gain : UserChange → Bool
is_gain change = lets change.after && not (lets change.before)

abbrev pub is_loss : UserChange → Bool
is_loss change = lets change.before && not (lets change.after)

-- the users of some lines that pass a test, among others
abbrev pub with_those : (UserChange → Bool) → List UserChange → List (List ℕ) → List (List ℕ)
with_those test [] ids = ids
with_those test (change ∷ changes) ids =
    with_those test changes (if test change then insert_key name_cmp ids change.id else ids)

-- a number of things, with their name
abbrev pub counted : ℕ → (one : List ℕ) → List ℕ
counted n one = decimal n ++ (codes " " ++ (if n == 1 then one else one ++ codes "s"))

-- the last line: how many rows differ, how many users may more and how many may less
abbrev pub ending_text : (rows more less : ℕ) → List ℕ
ending_text rows more less = counted rows (codes "row") ++ (codes ", " ++ (counted more (codes "user")
    ++ (codes " may more, " ++ (decimal less ++ codes " may less\n"))))
