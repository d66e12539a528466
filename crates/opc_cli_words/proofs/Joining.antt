-- Arguments, of which one more is joined.
use Rattle.std.proofs.Common.{◌≡◌, ◌∙◌, ◌++◌, ◌∷◌, ℕ, Bool, List, [], ap, arith, false, length, map, refl, sym, true}
use Rattle.std.specs.Prelude.{String, codes, if◌then◌else◌, string_bytes}
use Rattle.std.specs.declared.alloc.Global.{Global}
use Rattle.std.proofs.lemmas.List.{append_assoc, append-nil, map-append}
use Rattle.opc_cli_words.specs.Joined.{is_apart, joined}

-- an option and its value are one argument,
pub are_one : (option value : List ℕ) (words : List (List ℕ)) → is_apart option value ≡ true
    → joined (option ∷ value ∷ words) ≡ (option ++ codes "=" ++ value) ∷ joined words
are_one option value words is =
    ap (λ (b : Bool). if b then (option ++ codes "=" ++ value) ∷ joined words else option ∷ joined (value ∷ words)) is

-- and others are not, nor is a last one.
pub are_two : (option value : List ℕ) (words : List (List ℕ)) → is_apart option value ≡ false
    → joined (option ∷ value ∷ words) ≡ option ∷ joined (value ∷ words)
are_two option value words is =
    ap (λ (b : Bool). if b then (option ++ codes "=" ++ value) ∷ joined words else option ∷ joined (value ∷ words)) is

pub is_last : (word : List ℕ) (rest : List (String Global)) → length rest ≡ 0 → joined (word ∷ map string_bytes rest) ≡ word ∷ joined (map string_bytes rest)
is_last word [] none = refl
is_last word (value ∷ rest) none = absurd (omega (arith, none))

pub one_more : (all left rest : List (String Global)) (word : String Global) (wanted : List (List ℕ))
    → joined (map string_bytes left) ≡ string_bytes word ∷ joined (map string_bytes rest)
    → map string_bytes all ++ joined (map string_bytes left) ≡ wanted
    → map string_bytes (all ++ word ∷ []) ++ joined (map string_bytes rest) ≡ wanted
one_more all left rest word wanted next before =
    ap (λ l. l ++ joined (map string_bytes rest)) (map-append string_bytes all (word ∷ []))
    ∙ append_assoc (map string_bytes all) (string_bytes word ∷ []) (joined (map string_bytes rest))
    ∙ ap (λ j. map string_bytes all ++ j) (sym next)
    ∙ before

-- if none is left
pub none_left : (all left : List (String Global)) (wanted : List (List ℕ)) → length left ≡ 0
    → map string_bytes all ++ joined (map string_bytes left) ≡ wanted → map string_bytes all ≡ wanted
none_left all [] wanted none is = sym (append-nil (map string_bytes all)) ∙ is
none_left all (word ∷ left) wanted none is = absurd (omega (arith, none))
