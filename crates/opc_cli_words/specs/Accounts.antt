-- What `opcmds account` is asked, by the values of its options.
use Rattle.std.specs.Prelude.{
  ◌≡◌,
  ◌||◌,
  ◌++◌,
  ℕ,
  Bool,
  true,
  List,
  [],
  ◌∷◌,
  Option,
  Some,
  None,
  codes,
  is_none,
  is_some,
  option_map,
}
use Rattle.std.specs.Option.{option_and_then, option_copied, option_map_or}
use Rattle.std.specs.Str.{bytes_eq}
use Rattle.opc_names.specs.Names.{console_rule, user_rule}
use Rattle.opc_account.specs.Codes.{are_known}
use Rattle.opc_account.specs.declared.asked.AskedQuery.{AskedQuery}
use Rattle.opc_account.specs.declared.asked.RowTime.{RowTime}
use Rattle.opc_account.specs.declared.filter.Filter.{Filter}
use Rattle.opc_account.specs.declared.query.First.{First}
use Rattle.opc_account.specs.declared.query.First.TheVariants as first
use Rattle.opc_cli_words.specs.declared.account.TimedFilter.{TimedFilter}
use Rattle.opc_cli_words.specs.Checks.{Check}
use Rattle.opc_cli_words.specs.Enquiries.{is_a}
use Rattle.opc_cli_words.specs.Moments.{row_time_of}
use Rattle.opc_cli_words.specs.Numbers.{number_between}
use Rattle.opc_cli_words.specs.Options.{is_set}
use Rattle.opc_cli_words.specs.declared.mistake.Mistake.TheVariants as wrong
use Rattle.opc_cli_words.specs.declared.mistake.Opt.{Opt}
use Rattle.opc_cli_words.specs.declared.mistake.Opt.TheVariants as opt
use Rattle.opc_cli_words.specs.declared.moment.DaySecond.{DaySecond}
use Rattle.opc_cli_words.specs.declared.moment.DaySecond.TheVariants as day

-- as many rows as an account can have
abbrev pub all_rows : ℕ
all_rows = 9_223_372_036_854_775_807

-- the number of a row, or a number of rows
abbrev pub rows_of : List ℕ → Option ℕ
rows_of text = number_between 1 all_rows text

-- a user, or `-` for nobody
abbrev pub is_user : List ℕ → Bool
is_user text = is_a user_rule text || bytes_eq text (codes "-")

-- a console, or `*` for events
abbrev pub is_console : List ℕ → Bool
is_console text = is_a console_rule text || bytes_eq text (codes "*")

-- an option that is not given, or whose value is valid
abbrev pub option_check : Opt → (List ℕ → Bool) → Option (List ℕ) → Check
option_check option is value = (wrong.Unread option, option_map_or is value true)

abbrev pub IsFirst : (from last : Option (List ℕ)) → First → Type 0
IsFirst from last (first.Number n) = (last ≡ None) × (option_map_or rows_of from (Some 1) ≡ Some n)
IsFirst from last (first.Last n) = (from ≡ None) × (option_and_then rows_of last ≡ Some n)

-- of a day, this second of it is meant
abbrev pub IsTime : DaySecond → Option (List ℕ) → Option RowTime → Type 0
IsTime second value time = option_map (row_time_of second) value ≡ option_map (λ t. Some t) time

abbrev pub time_check : Opt → DaySecond → Option (List ℕ) → Check
time_check option second value = option_check option (λ text. is_some (row_time_of second text)) value

-- not both beginnings
abbrev pub first_checks : (from last : Option (List ℕ)) → List Check
first_checks from last =
    (wrong.TwoBeginnings, is_none from || is_none last)
    ∷ option_check opt.From (λ text. is_some (rows_of text)) from
    ∷ option_check opt.Last (λ text. is_some (rows_of text)) last
    ∷ []

-- In these, `value` is what the arguments give an option, by its name.
module _ (value : List ℕ → Option (List ℕ)) where
  abbrev pub filter_checks : List Check
  filter_checks =
      time_check opt.Since day.First (value (codes "since"))
      ∷ time_check opt.Until day.Last (value (codes "until"))
      ∷ option_check opt.User is_user (value (codes "user"))
      ∷ option_check opt.Console is_console (value (codes "console"))
      ∷ option_check opt.Code are_known (value (codes "code"))
      ∷ []

  -- the checks, in the order in which they are made
  abbrev pub account_checks : List Check
  account_checks =
      first_checks (value (codes "from")) (value (codes "last"))
      ++ option_check opt.Count (λ text. is_some (rows_of text)) (value (codes "count")) ∷ filter_checks

  pub record IsFilter (filter : Filter) : Type 0 where
    pub user : option_copied filter.user ≡ value (codes "user")
    pub console : option_copied filter.console ≡ value (codes "console")
    pub codes_are : option_copied filter.codes ≡ value (codes "code")

  pub record IsTimedFilter (timed : TimedFilter) : Type 0 where
    pub since : IsTime day.First (value (codes "since")) timed.since
    pub until : IsTime day.Last (value (codes "until")) timed.until
    pub filter : IsFilter timed.filter

  -- the arguments of `account`
  pub record IsAccount (asked : AskedQuery) : Type 0 where
    pub first : IsFirst (value (codes "from")) (value (codes "last")) asked.query.first
    pub count : option_map_or rows_of (value (codes "count")) (Some all_rows) ≡ Some asked.query.count
    pub since : IsTime day.First (value (codes "since")) asked.since
    pub until : IsTime day.Last (value (codes "until")) asked.until
    pub filter : IsFilter asked.query.filter
    pub json : asked.query.json ≡ is_set value (codes "json")
