-- Arguments of which clap would take the value for an option: `--since -8h` is read as `--since=-8h`.
use Rattle.std.specs.Prelude.{◌&&◌, ◌||◌, ◌++◌, ◌∷◌, ℕ, Bool, List, [], codes, if◌then◌else◌, is_some}
use Rattle.std.specs.Str.{bytes_eq}
use Rattle.opc_cli_words.specs.Spans.{seconds_ago}

-- an option and, as the next argument, how long ago
abbrev pub is_apart : (option value : List ℕ) → Bool
is_apart option value =
    (bytes_eq option (codes "--since") || bytes_eq option (codes "--until")) && is_some (seconds_ago value)

-- these are one argument
abbrev pub joined : List (List ℕ) → List (List ℕ)
joined [] = []
joined (word ∷ []) = word ∷ []
joined (option ∷ value ∷ words) = if is_apart option value then (option ++ codes "=" ++ value) ∷ joined words
    else option ∷ joined (value ∷ words)
