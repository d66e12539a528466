-- Pages, one after another.
use Rattle.std.proofs.Common.{
  ◌≡◌,
  ◌≤◌,
  ◌<◌,
  ◌∙◌,
  ◌+◌,
  ◌-◌,
  ◌++◌,
  ◌∷◌,
  ℕ,
  zero,
  suc,
  Bool,
  List,
  [],
  Option,
  Some,
  None,
  Ok,
  true,
  append_assoc,
  ap,
  drop,
  length,
  nat_lt,
  refl,
  subst,
  sym,
  take,
  arith,
}
use Rattle.std.specs.Io.KnownBytes.{Appends}
use Rattle.std.proofs.lemmas.Bool.{ltb-true}
use Rattle.std.proofs.lemmas.List.{append-nil, drop-drop, length-take, take-append-drop, take_all}
use Rattle.std.proofs.lemmas.List.Elements.{filter-append}
use Rattle.opc_state.specs.Asked.{Loads}
use Rattle.opc_state.specs.Changes.{IsKept}
use Rattle.opc_state.specs.Meaning.{Meaning}
use Rattle.opc_state.specs.State.{State}
use Rattle.opc_state.specs.Loads.{asked_for, numbered}
use Rattle.opc_state.specs.declared.account.AccountRow.{AccountRow}
use Rattle.opc_account.specs.Filters.{met}
use Rattle.opc_account.specs.Lines.{AreLines}
use Rattle.opc_account.specs.Queries.{rows_from}
use Rattle.opc_account.specs.declared.filter.Filter.{Filter}
use Rattle.opc_account.specs.declared.query.Query.{Query}
use Rattle.opc_account.specs.Printed.{ArePrinted, IsPage}
use Rattle.opc_account.specs.declared.printing.PageEnd.{PageEnd}

abbrev pub Rows : Type 0
Rows = List (ℕ × AccountRow)

-- the lines of rows, and of those after them
lines_after : (is_json : Bool) (rows more : Rows) (text rest : List ℕ) → AreLines is_json rows text
    → AreLines is_json more rest → AreLines is_json (rows ++ more) (text ++ rest)
lines_after is_json [] more text rest are then = subst (λ t. AreLines is_json more (t ++ rest)) (sym are) then
lines_after is_json (row ∷ rows) more text rest are then = (
  are.0,
  are.1 ++ rest,
  are.2,
  lines_after is_json rows more are.1 rest are.3 then,
  ap (λ t. t ++ rest) are.4 ∙ append_assoc are.0 are.1 rest,
)

appends_after : (a b c : Option (List ℕ)) (text rest : List ℕ) → Appends a b text → Appends b c rest
    → Appends a c (text ++ rest)
appends_after None b c text rest one two = tt
appends_after (Some xs) None c text rest one two = absurd one
appends_after (Some xs) (Some ys) None text rest one two = absurd two
appends_after (Some xs) (Some ys) (Some zs) text rest one two =
    two ∙ ap (λ t. t ++ rest) one ∙ append_assoc xs text rest

appends_nothing : (a : Option (List ℕ)) → Appends a a []
appends_nothing None = tt
appends_nothing (Some xs) = sym (append-nil xs)

pub none_printed : (is_json : Bool) (a : Option (List ℕ)) → ArePrinted is_json [] a a
none_printed is_json a = record { text = []; are = refl; printed = appends_nothing a }

pub printed_after : (is_json : Bool) (rows more : Rows) (a b c : Option (List ℕ)) → ArePrinted is_json rows a b
    → ArePrinted is_json more b c → ArePrinted is_json (rows ++ more) a c
printed_after is_json rows more a b c one two = record {
  text = one.text ++ two.text;
  are = lines_after is_json rows more one.text two.text one.are two.are;
  printed = appends_after a b c one.text two.text one.printed two.printed;
}

-- the first of two lists, and then of the other what is left
take_both : {X : Type 0} (n : ℕ) (xs ys : List X)
    → take n (xs ++ ys) ≡ take n xs ++ take (n - length (take n xs)) ys
take_both zero [] ys = ap (λ k. take k ys) {x = 0} {y = 0 - 0} (omega arith)
take_both (suc n) [] ys = ap (λ k. take k ys) {x = suc n} {y = suc n - 0} (omega arith)
take_both zero (x ∷ xs) ys = ap (λ k. take k ys) {x = 0} {y = 0 - 0} (omega arith)
take_both (suc n) (x ∷ xs) ys =
    let shown = length (take n xs) in
    ap (λ t. x ∷ t) (take_both n xs ys)
    ∙ ap (λ k. x ∷ take n xs ++ take k ys) {x = n - shown} {y = suc n - suc shown} (omega arith)

module _ (f : Filter) (account : List AccountRow) (next most left : ℕ) (from : 1 ≤ next) where
  abbrev pub page : Rows
  page = asked_for next most account

  -- the rows after the page
  after : drop most (rows_from next account) ≡ rows_from (next + most) account
  after =
      drop-drop most (next - 1) (numbered account)
      ∙ ap (λ n. drop n (numbered account)) {x = next - 1 + most} {y = next + most - 1} (omega (arith, from))

  split : met f (rows_from next account) ≡ met f page ++ met f (rows_from (next + most) account)
  split =
      ap (met f) (sym (take-append-drop most (rows_from next account)))
      ∙ filter-append _ page (drop most (rows_from next account)) ∙ ap (λ r. met f page ++ met f r) after

  -- one page more is shown, of the rows that were left
  pub page_more : (whole done : Rows) → whole ≡ done ++ take left (met f (rows_from next account))
      → whole ≡ (done ++ take left (met f page))
      ++ take (left - length (take left (met f page))) (met f (rows_from (next + most) account))
  page_more whole done is =
      is ∙ ap (λ r. done ++ take left r) split
      ∙ ap (λ r. done ++ r) (take_both left (met f page) (met f (rows_from (next + most) account)))
      ∙ sym (append_assoc done (take left (met f page)) _)

  -- the last one
  pub page_last : (whole done : Rows) → whole ≡ done ++ take left (met f (rows_from next account))
      → length page < most → whole ≡ done ++ take left (met f page)
  page_last whole done is few =
      is ∙ ap (λ r. done ++ take left (met f r)) (sym (take_all most (rows_from next account)
      (omega (arith, few, length-take most (rows_from next account)))))

-- what was printed of the rows that were loaded
pub page_is : (query : Query) (next left most : ℕ) (account : List AccountRow) (rows : Rows) (text : List ℕ) (count : ℕ)
    (before written : Option (List ℕ)) → rows ≡ asked_for next most account
    → AreLines query.json (take left (met query.filter rows)) text → count ≡ length (take left (met query.filter rows))
    → Appends before written text → IsPage query next left most account before written count (nat_lt (length rows) most)
page_is query next left most account rows text count before written is are counted printed = record {
  printed = record {
    text = text;
    are = subst (λ r. AreLines query.json (take left (met query.filter r)) text) is are;
    printed = printed;
  };
  count_is = counted ∙ ap (λ r. length (take left (met query.filter r))) is;
  last_is = ap (λ r. nat_lt (length r) most) is;
}

-- up to a row, what the query shows from its first row on was printed, and the tables mean the same
abbrev pub SoFar : {T : Type 0} (m : Meaning T) (query : Query) (first next left : ℕ) (old now : T)
    (before written : Option (List ℕ)) → Type 0
SoFar m query first next left old now before written =
    IsKept m old now × (1 ≤ next)
    × (m.is_sure now → (s : State) → m.represents old s
    → (done : Rows) × ArePrinted query.json done before written
    × (take query.count (met query.filter (rows_from first s.account)) ≡ done ++ take left (met query.filter (rows_from next s.account))))

-- what two loads keep, one after the other
kept_again : {T : Type 0} (m : Meaning T) (old mid new : T) → IsKept m old mid → IsKept m mid new → IsKept m old new
kept_again m old mid new one two = record {
  sure = λ h. one.sure (two.sure h);
  same = λ h s r. two.same h s (one.same (two.sure h) s r);
  crash = λ s h. one.crash s (two.crash s h);
}

module _ {T E : Type 0} (m : Meaning T) (query : Query) (first next left most : ℕ) (old mid new : T)
    (before between written : Option (List ℕ)) (page : PageEnd) (so : SoFar m query first next left old mid before between)
    (loaded : Loads {V = PageEnd} {E = E} m mid new (Ok page)
    (λ s p. IsPage query next left most s.account between written p.shown p.is_last)) where
  -- the last page was printed, too
  pub last_shown : page.is_last ≡ true
      → Loads {V = Unit {0}} {E = E} m old new (Ok tt)
      (λ s _. ArePrinted query.json (take query.count (met query.filter (rows_from first s.account))) before written)
  last_shown is_last = record {
    kept = kept_again m old mid new so.0 loaded.kept;
    answers = λ sure s same.
        let earlier = loaded.kept.sure sure in
        let done = so.2 earlier s same in
        let shown = loaded.answers sure s (so.0.same earlier s same) in
        let few = ltb-true (length (asked_for next most s.account)) most (sym shown.last_is ∙ is_last) in
        subst (λ (r : Rows). ArePrinted query.json r before written)
        (sym (page_last query.filter s.account next most left so.1
        (take query.count (met query.filter (rows_from first s.account))) done.0 done.2 few))
        (printed_after query.json done.0 (take left (met query.filter (asked_for next most s.account))) before between written
        done.1 shown.printed);
  }

  -- one page more was printed
  pub more_shown : (further : ℕ) → further ≡ next + most
      → SoFar m query first further (left - page.shown) old new before written
  more_shown further is = (
    kept_again m old mid new so.0 loaded.kept,
    omega (arith, so.1, is),
    λ sure s same.
        let earlier = loaded.kept.sure sure in
        let done = so.2 earlier s same in
        let shown = loaded.answers sure s (so.0.same earlier s same) in (
          done.0 ++ take left (met query.filter (asked_for next most s.account)),
          printed_after query.json done.0 (take left (met query.filter (asked_for next most s.account))) before between
              written done.1 shown.printed,
          rw (is, shown.count_is)
              (page_more query.filter s.account next most left so.1
              (take query.count (met query.filter (rows_from first s.account))) done.0 done.2),
        ),
  )
