-- Which logs hold something, and which files a refused opening leaves that nobody needs.
use Rattle.std.specs.Prelude.{◌&&◌, ◌+◌, ◌==◌, ℕ, Bool, nat_le, nat_lt, not}
use Rattle.opc_store_file.specs.declared.spare.Prior.{Prior}

-- a log with at least its header, that of a page and the smallest page
abbrev pub has_page : ℕ → Bool
has_page log_length = nat_le (32 + 24 + 512) log_length

-- a database file that the opening made, and that is empty still
abbrev pub is_spare_database : Prior → ℕ → Bool
is_spare_database prior length = prior.is_made && length == 0

-- More than one byte is there now, and at most one was before. So the file may be half made, and the log has the mark
-- that records this.
abbrev pub may_be_half_made : Prior → ℕ → Bool
may_be_half_made prior length = nat_le prior.length 1 && nat_lt 1 length

-- a log that the opening made, without a page, beside a file that is not half made
abbrev pub is_spare_log : Prior → ℕ → ℕ → Bool
is_spare_log prior length log_length =
    not prior.has_log && not (has_page log_length) && not (may_be_half_made prior length)
