-- The source of a command's policy, by its argument FILE and its options --policy and --db.
use Rattle.std.specs.Prelude.{
  ◌≡◌,
  ◌&&◌,
  ◌||◌,
  ℕ,
  true,
  false,
  List,
  Option,
  Some,
  None,
  codes,
  drop,
  is_none,
  nat_eq,
}
use Rattle.std.specs.List.{starts_with}
use Rattle.std.specs.Option.{option_copied}
use Rattle.opc_cli_words.specs.Checks.{Check}
use Rattle.opc_cli_tasks.specs.declared.source.NamedPolicy.{NamedPolicy}
use Rattle.opc_cli_tasks.specs.declared.source.NamedPolicy.TheVariants as named
use Rattle.opc_cli_tasks.specs.declared.source.PolicySource.{PolicySource}
use Rattle.opc_cli_tasks.specs.declared.source.PolicySource.TheVariants.{PolicyFile, Database}
use Rattle.opc_cli_words.specs.declared.mistake.Mistake.TheVariants as wrong

-- no two of them
abbrev pub source_check : (file policy database : Option (List ℕ)) → Check
source_check file policy database = (
  wrong.TwoSources,
  (is_none file || is_none policy) && (is_none database || is_none file && is_none policy),
)

-- the one that is given, by itself or by its option
abbrev pub policy_file : (file policy : Option (List ℕ)) → Option (List ℕ)
policy_file (Some path) policy = Some path
policy_file None policy = policy

-- The source is the policy file that is given or, if none is, the one on the input; or it is the database file.
abbrev pub IsSource : (file policy database : Option (List ℕ)) → PolicySource → Type 0
IsSource file policy database (PolicyFile path) = (option_copied path ≡ policy_file file policy) × (database ≡ None)
IsSource file policy database (Database path) =
    (database ≡ Some path.now) × (file ≡ None) × (policy ≡ None)

-- how a page names the policy
abbrev pub name_of : PolicySource → List ℕ
name_of (PolicyFile (Some path)) = path.now
name_of (PolicyFile None) = codes "standard input"
name_of (Database path) = path.now

-- A policy that is compared: the database file behind `db:`, or else the policy file.
abbrev pub IsNamed : List ℕ → NamedPolicy → Type 0
IsNamed text (named.File path) = (starts_with nat_eq text (codes "db:") ≡ false) × (path.now ≡ text)
IsNamed text (named.Database path) = (starts_with nat_eq text (codes "db:") ≡ true) × (path.now ≡ drop 3 text)
