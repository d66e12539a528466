-- The words of a question, as the arguments of the program.
use Rattle.std.proofs.Common.{◌≡◌, ◌∷◌, ◌∙◌, ℕ, List, [], ap, drop, map, refl, sym}
use Rattle.std.specs.Prelude.{String, string_bytes}
use Rattle.std.specs.declared.alloc.Global.{Global}
use Rattle.std.proofs.lemmas.List.{drop-map}
use Rattle.opc_cli_words.specs.Joined.{joined}
use Rattle.opc_cli_words.specs.Reading.{words_after}
use Rattle.opc_embedded.specs.Words.{asked_words, words_of}

-- an empty word is no option
after_name : (words : List (List ℕ)) → drop 1 (joined ([] ∷ words)) ≡ joined words
after_name [] = refl
after_name (word ∷ words) = refl

pub words_are : (question : List ℕ) (words all : List (String Global)) → map string_bytes words ≡ [] ∷ words_of question
    → map string_bytes all ≡ joined (map string_bytes words) → words_after all ≡ asked_words question
words_are question words all named is =
    sym (drop-map string_bytes 1 all) ∙ ap (drop 1) (is ∙ ap joined named) ∙ after_name (words_of question)
