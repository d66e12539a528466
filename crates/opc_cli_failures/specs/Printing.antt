-- What is printed of a failure.
use Rattle.std.specs.Prelude.{◌≤◌, ◌++◌, ◌∷◌, ℕ, List, [], Option, codes, decimal, length}
use Rattle.std.specs.Io.KnownBytes.{Appends}
use Rattle.opc_terms.specs.declared.fault.Fault.{Fault}
use Rattle.opc_terms.specs.Faults.{fault_code, fault_text, why_text}
use Rattle.opc_cli_failures.specs.declared.fault_line.Details.{Details}
use Rattle.opc_cli_failures.specs.declared.fault_line.Details.TheVariants.{Nothing, Number, Span, Name, Row}

-- the code of a fault, a space, its text and a line feed
abbrev pub fault_line : Fault → List ℕ
fault_line fault = fault_code fault ++ codes " " ++ fault_text fault ++ 10 ∷ []

abbrev pub word_text : List ℕ → List ℕ
word_text word = 32 ∷ word

abbrev pub number_text : ℕ → List ℕ
number_text number = word_text (decimal number)

-- each after a space
abbrev pub details_text : Details → List ℕ
details_text Nothing = []
details_text (Number number) = number_text number
details_text (Span from to) = number_text from ++ number_text to
details_text (Name name) = word_text name.now
details_text (Row row why) = number_text row ++ word_text (why_text why)

abbrev pub name_in : Details → List ℕ
name_in (Name name) = name.now
name_in details = []

-- no name is longer than a pattern
abbrev pub AreShort : Details → Type 0
AreShort details = length (name_in details) ≤ 39

-- some bytes were written
abbrev pub Grows : (before written : Option (List ℕ)) → Type 0
Grows before written = (more : List ℕ) × Appends before written more

-- The line of a fault was printed first.
pub record IsReported (fault : Fault) (before written : Option (List ℕ)) : Type 0 where
  pub more : List ℕ
  pub text : Appends before written (fault_line fault ++ more)
