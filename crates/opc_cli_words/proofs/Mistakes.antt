-- The first mistake among checks, and those before and after them.
use Rattle.std.proofs.Common.{◌≡◌, ◌++◌, ◌∷◌, List, [], None, Some, false, refl, true}
use Rattle.opc_cli_words.specs.Checks.{Check, first_mistake}
use Rattle.opc_cli_words.specs.declared.mistake.Mistake.{Mistake}

-- whatever is checked after it
pub first_stays : (one other : List Check) (mistake : Mistake) → first_mistake one ≡ Some mistake → first_mistake (one ++ other) ≡ Some mistake
first_stays [] other mistake h = absurd (cc)
first_stays ((wrong, true) ∷ checks) other mistake h = first_stays checks other mistake h
first_stays ((wrong, false) ∷ checks) other mistake h = h

-- after checks without a mistake
pub first_follows : (one other : List Check) → first_mistake one ≡ None → first_mistake (one ++ other) ≡ first_mistake other
first_follows [] other none = refl
first_follows ((wrong, true) ∷ checks) other none = first_follows checks other none
first_follows ((wrong, false) ∷ checks) other none = absurd (cc)

-- of four checks, the last
pub last_of_four : (one two three four : Check) → one.1 ≡ true → two.1 ≡ true → three.1 ≡ true → four.1 ≡ false
    → first_mistake (one ∷ two ∷ three ∷ four ∷ []) ≡ Some four.0
last_of_four (a, true) (b, true) (c, true) (d, false) h k l m = refl
last_of_four (a, false) two three four h k l m = absurd (cc)
last_of_four (a, true) (b, false) three four h k l m = absurd (cc)
last_of_four (a, true) (b, true) (c, false) four h k l m = absurd (cc)
last_of_four (a, true) (b, true) (c, true) (d, true) h k l m = absurd (cc)
