-- Lines of a script, one after another.
use Rattle.std.proofs.Common.{
  ◌≡◌,
  ◌≤◌,
  ◌<◌,
  ◌+◌,
  ◌++◌,
  ◌∷◌,
  ℕ,
  zero,
  suc,
  Bor,
  map,
  Bool,
  true,
  false,
  List,
  [],
  Some,
  None,
  length,
  take,
  get_or,
  refl,
  sym,
  ap,
  subst,
  ◌∙◌,
  rules,
  arith,
  nat_lt,
  nat_le,
}
use Rattle.std.proofs.lemmas.Bool.{lt-ltb, le-ltb}
use Rattle.std.proofs.lemmas.Bool.Decides.{nat_tests}
use Rattle.std.proofs.lemmas.List.{take_more, take_all, append-nil, length-map}
use Rattle.std.proofs.lemmas.Grind.{flat_map-append}
use Rattle.std.proofs.lemmas.List.Sums.{fails_before_first, passes_at_first, position_or_len_is}
use Rattle.std.specs.List.{position, position_or_len, flat_map}
use Rattle.std.specs.Option.{option_to_list}
use Rattle.std.specs.Str.Lines.{lines}
use Rattle.opc_machine.specs.declared.request.Request.{Request}
use Rattle.opc_cli_script.specs.declared.script.ScriptFault.{ScriptFault}
use Rattle.opc_cli_script.specs.declared.script.ScriptFault.TheVariants.{BadLine, NoMemory, Output}
use Rattle.opc_cli_script.specs.Refusals.{IsLineUnread, IsUnread}
use Rattle.opc_cli_script.specs.Reading.{is_space}
use Rattle.opc_cli_script.specs.Scripts.{parts_in, request_in, is_bad, is_blank, bad_line, requests_in, script_limit}

-- none of the first elements, this many, passes
abbrev pub NoneBefore : {X : Type 0} → (X → Bool) → List X → ℕ → Type 0
NoneBefore p xs i = i ≤ position_or_len p xs

pub none_more : {X : Type 0} (p : X → Bool) (xs : List X) (i : ℕ) (d : X) → i < length xs → NoneBefore p xs i
    → p (get_or xs i d) ≡ false → NoneBefore p xs (i + 1)
none_more p xs i d low before fails = go (nat_lt i (position_or_len p xs)) refl
  where
    go : (b : Bool) → nat_lt i (position_or_len p xs) ≡ b → NoneBefore p xs (i + 1)
    go true e = grind (arith, nat_tests, e)
    go false e =
        let same : position_or_len p xs ≡ i = grind (arith, nat_tests, e, before) in
        let passes : p (get_or xs i d) ≡ true = subst (λ j. p (get_or xs j d) ≡ true) same (passes_at_first p xs d (omega (arith, same, low))) in
        absurd (cc (sym passes ∙ fails))

pub first_found : {X : Type 0} (p : X → Bool) (xs : List X) (i : ℕ) (d : X) → i < length xs → NoneBefore p xs i
    → p (get_or xs i d) ≡ true → position p xs ≡ Some i
first_found p xs i d low before passes =
    let at : position_or_len p xs ≡ i = position_or_len_is p xs i d (omega (arith, low))
    (λ k l. fails_before_first p xs k d (omega (arith, l, before))) (λ _. passes) in
    rw (at, lt-ltb _ _ low) refl

pub none_found : {X : Type 0} (p : X → Bool) (xs : List X) → NoneBefore p xs (length xs) → position p xs ≡ None
none_found p xs before = rw (le-ltb (position_or_len p xs) (length xs) before) refl

pub flat_more : {X Y : Type 0} (f : X → List Y) (xs : List X) (x : X) → flat_map f (xs ++ x ∷ []) ≡ flat_map f xs ++ f x
flat_more f xs x = flat_map-append f xs (x ∷ []) ∙ ap (λ t. flat_map f xs ++ t) (append-nil (f x))

-- a blank line has no request: no digit stands before its first space
pub blank_asks_nothing : (line : List ℕ) → is_blank line ≡ true → request_in line ≡ None
unfolding parts_in
blank_asks_nothing [] h = refl
blank_asks_nothing (c ∷ line) h =
    let at : position_or_len is_space (c ∷ line) ≡ 0 =
    position_or_len_is is_space (c ∷ line) 0 0 (omega arith) (λ k low. absurd (omega (arith, low)))
    (λ _. search (rules, h)) in
    let low : nat_lt 0 (length (c ∷ line)) ≡ true = lt-ltb 0 (length (c ∷ line)) (omega arith) in
    let some : position is_space (c ∷ line) ≡ Some 0 = rw (at, low) refl in
    rw some refl

abbrev asked_in : List ℕ → List (ℕ × Request)
asked_in line = option_to_list (request_in line)

-- the first lines, this many, are read: none of them is bad, and these are their requests
abbrev pub AreRead : List (List ℕ) → ℕ → List (ℕ × Request) → Type 0
AreRead all at requests = NoneBefore is_bad all at × (requests ≡ flat_map asked_in (take at all))

pub read_more : (all : List (List ℕ)) (at : ℕ) (line : List ℕ) (requests : List (ℕ × Request)) → at < length all
    → line ≡ get_or all at line → is_bad line ≡ false → AreRead all at requests
    → AreRead all (at + 1) (requests ++ option_to_list (request_in line))
read_more all at line requests low is good far =
    let first : take (at + 1) all ≡ take at all ++ line ∷ [] = take_more all at line low ∙ ap (λ x. take at all ++ x ∷ []) (sym is) in (
      none_more is_bad all at line low far.0 (subst (λ x. is_bad x ≡ false) is good),
      ap (λ rs. rs ++ asked_in line) far.1 ∙ sym (ap (flat_map asked_in) first ∙ flat_more asked_in (take at all) line),
    )

pub all_read : (script : List ℕ) (requests : List (ℕ × Request)) → nat_le (length script) script_limit ≡ true
    → AreRead (lines script) (length (lines script)) requests
    → (bad_line script ≡ None) × (requests ≡ requests_in script)
all_read script requests short far =
    let none : position is_bad (lines script) ≡ None = none_found is_bad (lines script) far.0 in
    (rw (short, none) refl, far.1 ∙ ap (flat_map asked_in) (take_all (length (lines script)) (lines script) (omega arith)))

bad_found : (script line : List ℕ) (at : ℕ) (requests : List (ℕ × Request)) → nat_le (length script) script_limit ≡ true
    → at < length (lines script) → line ≡ get_or (lines script) at line → is_bad line ≡ true
    → AreRead (lines script) at requests
    → bad_line script ≡ Some (at + 1)
bad_found script line at requests short low is bad far =
    let first : position is_bad (lines script) ≡ Some at = first_found is_bad (lines script) at line low far.0 (subst (λ x. is_bad x ≡ true) is bad) in
    rw (short, first) refl

pub unread : (script line : List ℕ) (at : ℕ) (requests : List (ℕ × Request)) (fault : ScriptFault)
    → nat_le (length script) script_limit ≡ true → at < length (lines script) → line ≡ get_or (lines script) at line
    → AreRead (lines script) at requests → IsLineUnread (at + 1) line fault → IsUnread script fault
unread script line at requests (BadLine number) short low is far bad = bad_found script line at requests short low is bad.1 far ∙ ap Some (sym bad.0)
unread script line at requests NoMemory short low is far bad = tt
unread script line at requests (Output error) short low is far bad = absurd bad

-- a line is the text that stands at its place
item_now : (items : List (Bor (List ℕ))) (i : ℕ) (d : Bor (List ℕ)) (e : List ℕ) → i < length items
    → (get_or items i d).now ≡ get_or (map (λ (x : Bor (List ℕ)). x.now) items) i e
item_now [] i d e low = absurd (omega (arith, low))
item_now (x ∷ items) zero d e low = refl
item_now (x ∷ items) (suc i) d e low = item_now items i d e (omega (arith, low))

pub line_at : (items : List (Bor (List ℕ))) (all : List (List ℕ)) (i : ℕ) (d : Bor (List ℕ)) → map (λ (x : Bor (List ℕ)). x.now) items ≡ all → i < length items
    → (i < length all) × ((get_or items i d).now ≡ get_or all i (get_or items i d).now)
line_at items all i d same low =
    let long : length (map (λ (x : Bor (List ℕ)). x.now) items) ≡ length items = length-map items (λ x. x.now) in (
      subst (λ xs. i < length xs) same (omega (arith, long, low)),
      item_now items i d (get_or items i d).now low ∙ ap (λ xs. get_or xs i (get_or items i d).now) same,
    )
