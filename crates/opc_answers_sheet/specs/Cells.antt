-- The cells of a row: what decides, and who may, by what.
use Rattle.std.specs.Prelude.{
  ◌==◌,
  ◌&&◌,
  ◌-◌,
  ◌++◌,
  ℕ,
  Bool,
  false,
  true,
  List,
  [],
  Option,
  Some,
  None,
  codes,
  flat_map,
  if◌then◌else◌,
  length,
  nat_lt,
}
use Rattle.std.specs.Fmt.{decimal}
use Rattle.std.specs.List.{join_by}
use Rattle.opc_policy_members.specs.declared.profile.Profile.{Profile}
use Rattle.opc_policy_sources.specs.declared.sources.LevelSource.{LevelSource}
use Rattle.opc_policy_sources.specs.SourceTexts.{source_text}
use Rattle.opc_answers.specs.declared.lines.UserLine.{UserLine}
use Rattle.opc_answers.specs.Texts.{warning_text}
use Rattle.opc_answers_sheet.specs.declared.ways.Way.{Way}
use Rattle.opc_answers_sheet.specs.Ways.{groups_after, ids_by, sources_of, way}

-- names with commas between them
abbrev pub joined : List (List ℕ) → List ℕ
joined names = join_by (λ name. name) (codes ", ") names

-- how many, unless it is one
abbrev pub count_text : ℕ → List ℕ
count_text n = if n == 1 then [] else codes " (" ++ (decimal n ++ codes ")")

-- Users by their ids, or all but the others, if these are fewer; and how many they are, or that it is everybody. So many
-- further users are unlisted, who are others, too.
abbrev pub names_text : (ids : List (List ℕ)) → (unlisted : ℕ) → (others : List (List ℕ)) → List ℕ
names_text ids unlisted others =
    if nat_lt (length others) (length ids - unlisted) then codes "all but " ++ joined others else joined ids

abbrev pub users_text : (ids : List (List ℕ)) → (unlisted : ℕ) → (others : List (List ℕ)) → List ℕ
users_text ids unlisted others = if (unlisted == 0) && (length others == 0) then codes ": everybody" else
    (count_text (length ids) ++ (codes ": " ++ names_text ids unlisted others))

-- by what they may
abbrev pub source_words : Option LevelSource → List ℕ
source_words None = codes "NOPROFILE"
source_words (Some source) = source_text source

abbrev pub console_words : Option (List ℕ) → List ℕ
console_words None = []
console_words (Some name) = codes " AT " ++ name

abbrev pub warning_words : Bool → List ℕ
warning_words true = codes ", with a warning"
warning_words false = []

abbrev pub way_words : Way → List ℕ
way_words way = codes "<p><b>" ++ (source_words way.source ++ (console_words way.console
    ++ (codes "</b>" ++ warning_words way.warned)))

-- a paragraph for those who may in one way, if there are such
abbrev pub paragraph : Way → (ids : List (List ℕ)) → (unlisted : ℕ) → (others : List (List ℕ)) → List ℕ
paragraph way ids unlisted others =
    if length ids == 0 then [] else way_words way ++ (users_text ids unlisted others ++ codes "</p>")

abbrev pub way_text : (unlisted : ℕ) → List UserLine → Way → List ℕ
way_text unlisted lines way = paragraph way (ids_by true way lines) unlisted (ids_by false way lines)

-- By entries for one console alone, or for every one: those who may, and those whom only a warning lets. Lines that
-- leave out users who may not tell how many are unlisted.
abbrev pub by_source : (console : Option (List ℕ)) → (warned : Bool) → (unlisted : ℕ) → List UserLine
    → Option LevelSource → List ℕ
by_source console warned unlisted lines source = way_text unlisted lines (way console warned source)

abbrev pub ways_text : (console : Option (List ℕ)) → (warned : Bool) → (unlisted : ℕ) → List UserLine → List ℕ
ways_text console warned unlisted lines =
    flat_map (by_source console warned unlisted lines) (sources_of (groups_after lines []))

abbrev pub users_at : (console : Option (List ℕ)) → (unlisted : ℕ) → List UserLine → List ℕ
users_at console unlisted lines = ways_text console false unlisted lines ++ ways_text console true unlisted lines

-- the cell of who may
abbrev pub or_nobody : List ℕ → List ℕ
or_nobody text = if length text == 0 then codes "<p class=\"none\">nobody</p>" else text

abbrev pub users_cell : List ℕ → List ℕ
users_cell text = codes "<td>" ++ (or_nobody text ++ codes "</td>")

-- the cell of what decides
abbrev pub decider_cell : Option Profile → List ℕ
decider_cell None = codes "<td>no profile</td>"
decider_cell (Some p) =
    codes "<td><code>" ++ (p.pattern ++ (codes "</code>" ++ (warning_text p.warning ++ codes "</td>")))

-- a row of a table
abbrev pub row_text : (first : List ℕ) → Option Profile → (users : List ℕ) → List ℕ
row_text first decided users =
    codes "<tr>" ++ (first ++ (decider_cell decided ++ (users_cell users ++ codes "</tr>\n")))
