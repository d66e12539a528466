-- What is wrong with rows: those that cannot be read, and those that are refused.
use Rattle.std.specs.Prelude.{
  ◌≡◌,
  ◌++◌,
  ℕ,
  List,
  [],
  ◌∷◌,
  Option,
  Some,
  None,
  codes,
  if◌then◌else◌,
  is_some,
  length,
  map,
  string_bytes,
  take,
}
use Rattle.opc_names.specs.Spellings.{class_text}
use Rattle.opc_terms.specs.declared.fault.Fault.{Fault}
use Rattle.opc_terms.specs.declared.fault.Fault.TheVariants.{RowFault}
use Rattle.opc_policy_members.specs.declared.policy.Policy.{Policy}
use Rattle.opc_policy_members.specs.declared.row.Row.{Row}
use Rattle.opc_policy_members.specs.declared.row.Row.TheVariants as rows
use Rattle.opc_policy_members.specs.Profiles.{profile_of}
use Rattle.opc_policy_members.specs.Taken.{has_user, no_policy}
use Rattle.opc_cli_commands.specs.Hints.{question}
use Rattle.opc_check.specs.NearNames.{near_name}
use Rattle.opc_check.specs.Judged.{Bad, File, bad_rows, good_rows}
use Rattle.opc_check.specs.Refusals.{Refusal, policy_of_kept, refusals_of}
use Rattle.opc_check.specs.Words.{bad_text}
use Rattle.opc_check.specs.declared.problem.RowProblem.{RowProblem}
use Rattle.opc_check.specs.declared.reading.Reading.{Reading}
use Rattle.opc_check.specs.declared.refusing.Refused.{Refused}

-- a row's number, its fault, and what is wrong in words
pub record Problem : Type 0 where
  pub number : ℕ
  pub fault : Fault
  pub text : List ℕ

abbrev pub problem_of : RowProblem → Problem
problem_of p = record { number = p.number; fault = p.fault; text = string_bytes p.text }

abbrev pub problems_of : List RowProblem → List Problem
problems_of problems = map problem_of problems

-- of a bad row, in a file whose rows have this many fields
abbrev pub bad_problem : ℕ → Bad → Problem
bad_problem width bad = record {
  number = bad.number;
  fault = RowFault bad.number bad.why;
  text = bad_text width bad.fields bad.why;
}

-- What is in the way of a row, by the policy at that point: who has its name, or what it needs and is missing. Rows of
-- classes and consoles are never refused.
abbrev pub obstacle_text : Policy → Row → List ℕ
obstacle_text p (rows.Class class active) = []
obstacle_text p (rows.Group name) = codes "a user has the name " ++ name
obstacle_text p (rows.User user) = codes "a group has the name " ++ user.id
obstacle_text p (rows.Connect user group) =
    if has_user p user then codes "no group " ++ group else codes "no user " ++ user
obstacle_text p (rows.Console name auth mode) = []
obstacle_text p (rows.Profile class pattern uacc owner warning) = codes "no user " ++ owner
obstacle_text p (rows.Permit class pattern id level when) =
    if is_some (profile_of p.profiles class pattern) then codes "no user or group " ++ id
    else codes "no profile " ++ (class_text class ++ (codes " " ++ pattern))

-- of a row that is refused among others, over rows that are stored: what is in its way, and the name that it may mean
abbrev pub refused_problem : (stored rows : List Row) → Refusal → Problem
refused_problem stored rows r = record {
  number = r.number;
  fault = r.fault;
  text = obstacle_text r.policy r.row ++ question (near_name r.policy stored rows r.row);
}

-- the most problems that are reported
abbrev pub most_told : ℕ
most_told = 100

-- What was read of a file: the rows that can be read, how many were judged, how many are bad, and what is wrong with
-- the first of these.
pub record IsReading (file : File) (r : Reading) : Type 0 where
  pub rows : r.rows.items ≡ good_rows file.rows
  pub judged : r.judged ≡ length file.rows
  pub bad : r.bad ≡ length (bad_rows file.rows)
  pub problems : problems_of r.problems.items ≡ map (bad_problem file.width) (take most_told (bad_rows file.rows))

-- a text without a header has no reading
abbrev pub IsReadingOf : Option File → Option Reading → Type 0
IsReadingOf None None = Unit {0}
IsReadingOf (Some file) (Some reading) = IsReading file reading
IsReadingOf None (Some reading) = ⊥
IsReadingOf (Some file) None = ⊥

-- What was refused of rows: how many, what is wrong with the first of these, and the policy of the others.
pub record IsRefused (rows : List Row) (r : Refused) : Type 0 where
  pub policy : r.policy ≡ policy_of_kept rows no_policy
  pub count : r.count ≡ length (refusals_of rows)
  pub problems : problems_of r.problems.items ≡ map (refused_problem [] rows) (take most_told (refusals_of rows))

abbrev pub first_of : ℕ → List Bad → Option Problem
first_of width [] = None
first_of width (bad ∷ more) = Some (bad_problem width bad)

-- the first bad row of a file, if it has a header and a bad row
abbrev pub first_bad : Option File → Option Problem
first_bad None = None
first_bad (Some file) = first_of file.width (bad_rows file.rows)
