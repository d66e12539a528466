-- Which rows of the account are requested.
use Rattle.std.specs.Prelude.{◌&&◌, ℕ, Bool, true, List, Option, filter, is_none, nat_le}
use Rattle.std.specs.Borrow.{Bor}
use Rattle.std.specs.Option.{option_map_or}
use Rattle.std.specs.Str.{bytes_eq}
use Rattle.opc_state.specs.declared.account.AccountRow.{AccountRow}
use Rattle.opc_account.specs.Codes.{is_among}
use Rattle.opc_account.specs.declared.filter.Filter.{Filter}

-- whether a text is the requested one, if one is requested
abbrev pub is_wanted : Option (Bor (List ℕ)) → (text : List ℕ) → Bool
is_wanted wanted text = option_map_or (λ (w : Bor (List ℕ)). bytes_eq text w.now) wanted true

-- whether a code is among the requested ones, if some are requested
abbrev pub is_code : (codes : Option (Bor (List ℕ))) → (code : List ℕ) → Bool
is_code codes code = option_map_or (λ (text : Bor (List ℕ)). is_among text.now code) codes true

-- not before one time, nor after another
abbrev pub is_within : (since until : Option ℕ) → (moment : ℕ) → Bool
is_within since until moment =
    option_map_or (λ first. nat_le first moment) since true && option_map_or (λ last. nat_le moment last) until true

-- whether a row meets the whole filter
abbrev pub meets : Filter → AccountRow → Bool
meets f row =
    is_within f.since f.until row.moment && is_wanted f.user row.user && is_wanted f.console row.console
    && is_code f.codes row.code

-- whether the filter is empty
abbrev pub takes_all : Filter → Bool
takes_all f = is_none f.since && is_none f.until && is_none f.user && is_none f.console && is_none f.codes

-- those of some numbered rows that meet the filter
abbrev pub met : Filter → List (ℕ × AccountRow) → List (ℕ × AccountRow)
met f rows = filter (λ (row : ℕ × AccountRow). meets f row.1) rows
