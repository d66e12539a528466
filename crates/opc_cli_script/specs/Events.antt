-- How events are written in a script.
use Rattle.std.specs.Prelude.{◌≡◌, ◌<◌, ℕ, Bool, true, false, List, [], ◌∷◌, ◌++◌, None, codes, length}
use Rattle.opc_names.specs.declared.rule.NameRule.{NameRule}
use Rattle.opc_names.specs.Names.{name_fault, unit_rule, device_rule}
use Rattle.opc_board.specs.declared.event.Event.{Event}
use Rattle.opc_board.specs.declared.event.Event.TheVariants as event
use Rattle.opc_board.specs.declared.rows.UnitKind.{UnitKind}
use Rattle.opc_board.specs.declared.rows.UnitKind.TheVariants.{Job, Stc, Tsu}
use Rattle.opc_board.specs.Texts.{columns, two_digits}

abbrev pub kind_words : UnitKind → List (List ℕ)
kind_words Job = codes "JOB" ∷ []
kind_words (Stc member) = codes "STC" ∷ member ∷ []
kind_words Tsu = codes "TSU" ∷ []

abbrev pub cancelable_words : Bool → List (List ℕ)
cancelable_words true = []
cancelable_words false = codes "NONCANCEL" ∷ []

-- The words of an event.
abbrev pub event_words : Event → List (List ℕ)
event_words (event.JobIn name kind cancelable) = codes "JOBIN" ∷ name ∷ (kind_words kind ++ cancelable_words cancelable)
event_words (event.JobEnd name) = codes "JOBEND" ∷ name ∷ []
event_words (event.Ask id text) = codes "ASK" ∷ two_digits id ∷ text ∷ []
event_words (event.Attach device) = codes "ATTACH" ∷ device ∷ []
event_words (event.Allocate device unit) = codes "ALLOCATE" ∷ device ∷ unit ∷ []
event_words (event.Free device) = codes "FREE" ∷ device ∷ []
event_words event.Resume = codes "RESUME" ∷ []

-- Its text, with one space between its words. How an event is spelled is this definition; reading is another. Two laws
-- join them, EventsReadBack and EventsAreSpelled: each event reads back from its text, and a text is an event only if
-- it is that event's text.
abbrev pub event_text : Event → List ℕ
event_text e = columns (event_words e)

-- a text that is a name of this kind
abbrev pub IsName : NameRule → List ℕ → Type 0
IsName rule text = name_fault rule text ≡ None

abbrev pub IsKind : UnitKind → Type 0
IsKind Job = Unit {0}
IsKind (Stc member) = IsName unit_rule member
IsKind Tsu = Unit {0}

-- An event whose names are names, whose number has two digits, and whose text is not empty.
abbrev pub IsEvent : Event → Type 0
IsEvent (event.JobIn name kind cancelable) = IsName unit_rule name × IsKind kind
IsEvent (event.JobEnd name) = IsName unit_rule name
IsEvent (event.Ask id text) = (id < 100) × (0 < length text)
IsEvent (event.Attach device) = IsName device_rule device
IsEvent (event.Allocate device unit) = IsName device_rule device × IsName unit_rule unit
IsEvent (event.Free device) = IsName device_rule device
IsEvent event.Resume = Unit {0}
