-- The page of what is found that a client asks for.
use Rattle.std.specs.Prelude.{ℕ, ◌-◌, Bool, true, false, List, [], Option, Some, None, codes, filter, length, map, nat_lt, take}
use Rattle.std.specs.Cmp.Lexicographic.{slice_cmp}
use Rattle.std.specs.List.{slice_get}
use Rattle.std.specs.Ordering.{is_lt, nat_cmp}
use Rattle.serde_json.specs.Data.{Data, array, member, no_members, number, object, string, unsigned}
use Rattle.serde_json.specs.View.{items_of}
use Rattle.opc_decide_searches.specs.declared.candidate.AccessCandidate.{AccessCandidate}
use Rattle.opc_decide_searches.specs.Candidates.{candidate_name, candidate_value}

-- what comes after the last result of the page before
abbrev pub is_after : (token : List ℕ) → AccessCandidate → Bool
is_after token c = is_lt (slice_cmp nat_cmp token (candidate_name c))

abbrev pub rest_of : (token : List ℕ) → List AccessCandidate → List AccessCandidate
rest_of token found = filter (is_after token) found

-- the first of them, up to a limit
abbrev pub shown_of : (limit : ℕ) → List AccessCandidate → List AccessCandidate
shown_of limit rest = take limit rest

-- the last result, if more come after the page
abbrev pub name_or_none : Option AccessCandidate → List ℕ
name_or_none None = []
name_or_none (Some c) = candidate_name c

abbrev pub next_token : (more : Bool) → List AccessCandidate → List ℕ
next_token true shown = name_or_none (slice_get shown (length shown - 1))
next_token false shown = []

-- the page, how many are on it, and how many there are
abbrev pub page_value : (count : ℕ) → (token : List ℕ) → (total : ℕ) → Data
page_value count token total =
    object (member (codes "count") (number (unsigned count))
    (member (codes "next_token") (string token)
    (member (codes "total") (number (unsigned total)) no_members)))

abbrev pub page_of : (shown rest found : List AccessCandidate) → Data
page_of shown rest found =
    object (member (codes "page")
    (page_value (length shown) (next_token (nat_lt (length shown) (length rest)) shown) (length found))
    (member (codes "results") (array (items_of (map candidate_value shown))) no_members))

abbrev pub results_value : (limit : ℕ) → (token : List ℕ) → List AccessCandidate → Data
results_value limit token found = page_of (shown_of limit (rest_of token found)) (rest_of token found) found
