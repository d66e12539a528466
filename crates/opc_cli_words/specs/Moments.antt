-- Times among the arguments of the command line.
use Rattle.std.specs.Prelude.{
  ◌==◌,
  ◌++◌,
  ℕ,
  List,
  Option,
  codes,
  drop,
  if◌then◌else◌,
  length,
  nat_eq,
  option_map,
}
use Rattle.std.specs.List.{starts_with}
use Rattle.std.specs.Option.{option_or}
use Rattle.opc_account.specs.declared.asked.RowTime.{RowTime}
use Rattle.opc_account.specs.declared.asked.RowTime.TheVariants.{At, Ago}
use Rattle.opc_times.specs.Readings.{moment_in}
use Rattle.opc_cli_words.specs.Numbers.{number_between}
use Rattle.opc_cli_words.specs.Spans.{seconds_ago}
use Rattle.opc_cli_words.specs.declared.moment.DaySecond.{DaySecond}
use Rattle.opc_cli_words.specs.declared.moment.DaySecond.TheVariants.{First, Last}

-- the first second of a day, in UTC, or its last
abbrev pub second_text : DaySecond → List ℕ
second_text First = codes "T00:00:00Z"
second_text Last = codes "T23:59:59Z"

-- a time; or a day, which has ten characters, and of which this second is meant
abbrev pub time_of : DaySecond → List ℕ → Option ℕ
time_of second text = if length text == 10 then moment_in (text ++ second_text second) else moment_in text

-- a timestamp: `@` and its seconds since 1970, a time, or a day
abbrev pub moment_of : DaySecond → List ℕ → Option ℕ
moment_of second text = if starts_with nat_eq text (codes "@")
    then number_between 0 9_999_999_999_999 (drop 1 text) else time_of second text

-- how long ago, or a timestamp
abbrev pub row_time_of : DaySecond → List ℕ → Option RowTime
row_time_of second text = option_or (option_map (λ seconds. Ago seconds) (seconds_ago text))
    (option_map (λ moment. At moment) (moment_of second text))
