-- The words of a question.
use Rattle.std.specs.Prelude.{◌==◌, ℕ, List}
use Rattle.std.specs.List.{slice_split}
use Rattle.opc_cli_words.specs.Joined.{joined}

-- what stands between the NULs
abbrev pub words_of : (question : List ℕ) → List (List ℕ)
words_of question = slice_split (λ c. c == 0) question

-- those words as the program reads them: an option and how long ago are one
abbrev pub asked_words : (question : List ℕ) → List (List ℕ)
asked_words question = joined (words_of question)
