-- The parts of a page, printed one after another.
use Rattle.std.proofs.Common.{◌≡◌, ◌<◌, ◌+◌, ◌++◌, ◌∙◌, ℕ, zero, suc, List, [], ◌∷◌, Option, Some, Result, Ok}
use Rattle.std.proofs.Common.{Err, ap, append-nil, flat_map, get_or, length, refl, subst, sym, take}
use Rattle.std.specs.Prelude.{OnOk}
use Rattle.std.specs.Io.KnownBytes.{Appends}
use Rattle.std.specs.List.{slice_get}
use Rattle.std.proofs.KnownBytes.{Appends-nil, Appends-trans}
use Rattle.std.proofs.lemmas.List.{length-append, take_more}
use Rattle.std.proofs.lemmas.List.Concat.{flat_map-append}
use Rattle.std.proofs.lemmas.Option.{same_Some}
use Rattle.opc_policy_members.specs.declared.policy.Policy.{Policy}
use Rattle.opc_policy_members.specs.declared.row.Row.{Row}
use Rattle.opc_policy_deciders.specs.Decided.{ArePatternsOf}
use Rattle.opc_board.specs.declared.board.BoardRows.{BoardRows}
use Rattle.opc_answers_sheet.specs.Commands.{AreRowsAt}
use Rattle.opc_answers_sheet.specs.Page.{beginning_text, page_text, rest_text}
use Rattle.opc_answers_sheet.specs.Printed.{PrintsRowsAt, PrintsRowsUpTo, PrintsSheet, PrintsTables}

pub on_ok : {T E P Q : Type 0} (r : Result T E) → (P → Q) → OnOk r P → OnOk r Q
on_ok (Ok x) f h = f h
on_ok (Err e) f h = h

-- the text of one more
module _ {X : Type 0} (f : X → List ℕ) where
  one_more : (xs : List X) (at : ℕ) (x : X) → at < length xs → x ≡ get_or xs at x
      → flat_map f (take (at + 1) xs) ≡ flat_map f (take at xs) ++ f x
  one_more xs at x low is =
      ap (flat_map f) (take_more xs at x low ∙ ap (λ y. take at xs ++ y ∷ []) (sym is))
      ∙ flat_map-append f (take at xs) (x ∷ []) ∙ ap (λ t. flat_map f (take at xs) ++ t) (append-nil (f x))

  pub printed_more : (xs : List X) (at : ℕ) (x : X) (a b c : Option (List ℕ)) → at < length xs → x ≡ get_or xs at x
      → Appends a b (flat_map f (take at xs)) → Appends b c (f x) → Appends a c (flat_map f (take (at + 1) xs))
  printed_more xs at x a b c low is one two = subst (Appends a c) (sym (one_more xs at x low is)) (Appends-trans a b c _ _ one two)

-- rows place by place
added : (Holds : ℕ → List ℕ → Type 0) (texts : List (List ℕ)) (new : List ℕ)
    → ((place : ℕ) (text : List ℕ) → slice_get texts place ≡ Some text → Holds place text) → Holds (length texts) new
    → (place : ℕ) (text : List ℕ) → slice_get (texts ++ new ∷ []) place ≡ Some text → Holds place text
added Holds [] new was here zero text at = subst (Holds zero) (same_Some new text at) here
added Holds [] new was here (suc place) text at = cc
added Holds (t ∷ texts) new was here zero text at = was zero text at
added Holds (t ∷ texts) new was here (suc place) text at =
    added (λ n. Holds (suc n)) texts new (λ n x is. was (suc n) x is) here place text at

pub no_rows : (p : Policy) (b : BoardRows) (a : Option (List ℕ)) → PrintsRowsUpTo p b 0 a a
no_rows p b a = record { texts = []; all = refl; each = λ place text at. cc; printed = Appends-nil a }

pub rows_more : (p : Policy) (b : BoardRows) (end : ℕ) (x y z : Option (List ℕ)) → PrintsRowsUpTo p b end x y
    → PrintsRowsAt p b end y z → PrintsRowsUpTo p b (end + 1) x z
rows_more p b end x y z first next =
    let last : AreRowsAt p b (length first.texts) next.text = subst (λ n. AreRowsAt p b n next.text) (sym first.all) next.rows in
    let text : flat_map (λ t. t) (first.texts ++ next.text ∷ []) ≡ flat_map (λ t. t) first.texts ++ next.text =
    flat_map-append (λ t. t) first.texts (next.text ∷ []) ∙ ap (λ t. flat_map (λ s. s) first.texts ++ t) (append-nil next.text) in
    record {
      texts = first.texts ++ next.text ∷ [];
      all = length-append first.texts (next.text ∷ []) ∙ ap (λ n. n + 1) first.all;
      each = added (AreRowsAt p b) first.texts next.text first.each last;
      printed = subst (Appends x z) (sym text) (Appends-trans x y z _ _ first.printed next.printed);
    }

pub rows_last : (p : Policy) (b : BoardRows) (n end at : ℕ) (x y z : Option (List ℕ)) → PrintsRowsUpTo p b end x y
    → PrintsRowsAt p b at y z → end ≡ n → at ≡ n → PrintsRowsUpTo p b (n + 1) x z
rows_last p b n end at x y z first last ends is =
    rows_more p b n x y z (subst (λ m. PrintsRowsUpTo p b m x y) ends first) (subst (λ m. PrintsRowsAt p b m y z) is last)

pub tables_so : (p : Policy) (b : BoardRows) (patterns : List (List ℕ)) (x y z : Option (List ℕ)) → ArePatternsOf p patterns
    → PrintsRowsUpTo p b (length patterns + 1) x y → Appends y z (rest_text p b) → PrintsTables p b x z
tables_so p b patterns x y z are rows rest = record {
  commands = rows.texts;
  each = record { all = rows.all ∙ ap (λ l. length l + 1) are.all; each = rows.each };
  printed = Appends-trans x y z _ _ rows.printed rest;
}

pub sheet_so : (name digest : List ℕ) (rows : List Row) (p : Policy) (b : BoardRows) (x y z : Option (List ℕ))
    → Appends x y (beginning_text name digest rows) → PrintsTables p b y z → PrintsSheet name digest rows p b x z
sheet_so name digest rows p b x y z beginning tables = record {
  text = page_text name digest rows p b tables.commands;
  sheet = record { commands = tables.commands; each = tables.each; page = refl };
  printed = Appends-trans x y z _ _ beginning tables.printed;
}
