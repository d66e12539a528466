-- Queries as they are asked: their times may be so long ago.
use Rattle.std.specs.Prelude.{◌-◌, ℕ, option_map}
use Rattle.opc_account.specs.declared.asked.AskedQuery.{AskedQuery}
use Rattle.opc_account.specs.declared.asked.RowTime.{RowTime}
use Rattle.opc_account.specs.declared.asked.RowTime.TheVariants.{At, Ago}
use Rattle.opc_account.specs.declared.filter.Filter.{Filter}
use Rattle.opc_account.specs.declared.query.Query.{Query}

-- the timestamp of a time that a query names, if the clock shows this one; 0 if it is longer ago than that
abbrev pub time_at : (now : ℕ) → RowTime → ℕ
time_at now (At moment) = moment
time_at now (Ago seconds) = now - seconds

-- the query, by the clock
abbrev pub query_at : (now : ℕ) → AskedQuery → Query
query_at now asked = record asked.query {
  filter = record asked.query.filter {
    since = option_map (time_at now) asked.since;
    until = option_map (time_at now) asked.until;
  };
}
