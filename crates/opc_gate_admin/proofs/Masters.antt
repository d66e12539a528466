-- A console that is defined, and whether a master is left.
use Rattle.std.proofs.Common.{
  ◌≡◌,
  Bool,
  true,
  false,
  cond,
  not,
  ◌&&◌,
  ◌||◌,
  List,
  [],
  ◌∷◌,
  Option,
  Some,
  None,
  Ok,
  Err,
  Ordering,
  Less,
  Equal,
  Greater,
  filter,
  take,
  is_eq,
  refl,
  sym,
  ap,
  ap₂,
  ◌∙◌,
  rules,
}
use Rattle.std.specs.BTreeSet.{replace_key}
use Rattle.std.specs.Cmp.Lexicographic.{texts_ties}
use Rattle.std.specs.List.{find, list_any}
use Rattle.std.specs.Ordering.{is_lt, match_ordering, ordering_reverse}
use Rattle.std.specs.Str.{bytes_eq}
use Rattle.opc_names.specs.declared.auth.Auth.{Auth}
use Rattle.opc_terms.specs.declared.fault.Fault.TheVariants.{LastMaster}
use Rattle.opc_terms.specs.declared.mode.Mode.{Mode}
use Rattle.opc_rows.specs.Ordered.{Ascends, put}
use Rattle.opc_rows.proofs.Filtered.{any_changed, any_split, passes}
use Rattle.opc_rows.proofs.Orders.{all_found, ascends_filter}
use Rattle.opc_board.specs.declared.board.BoardRows.{BoardRows}
use Rattle.opc_board.specs.declared.rows.ConsoleRow.{ConsoleRow}
use Rattle.opc_board.specs.Consoles.{defined, new_console, replaced}
use Rattle.opc_board.specs.Invariants.{Name, console_at, console_before, has_master, is, is_master}
use Rattle.opc_board.specs.Footprint.{has_other_master}
use Rattle.opc_board.proofs.Kept.{apart_names}
use Rattle.opc_board.proofs.Names.{is_itself, is_same_name}
use Rattle.opc_state.specs.declared.change.Edit.TheVariants as edit
use Rattle.opc_state.specs.Changes.{edited}
use Rattle.opc_state.specs.Invariants.{IsKeyed}
use Rattle.opc_state.specs.Loads.{masters}
use Rattle.opc_state.specs.Members.{console_cmp}
use Rattle.opc_state.specs.State.{State}
use Rattle.opc_state.proofs.SameRows.{auth_of, console_total, first, mode_of, name_itself, rest}
use Rattle.opc_names.specs.Spellings.{auth_text}
use Rattle.opc_terms.specs.Modes.{mode_text}
use Rattle.opc_gate_rulings.proofs.Named.{found_by_name}
use Rattle.opc_machine.specs.declared.operation.Operation.TheVariants as operation
use Rattle.opc_machine.specs.Administration.{changed}
use Rattle.opc_machine.specs.Bootstrap.{loses_master, mastered}
use Rattle.opc_gate_admin.specs.Operations.{same_setting}
use Rattle.opc_gate_admin.proofs.Done.{none_lost}
use Rattle.opc_gate_admin.proofs.Idle.{found_passes, found_put, itself, put_again, some_is}

-- ---- another master

any_filtered : {A : Type 0} (q p : A → Bool) (xs : List A) → list_any p (filter q xs) ≡ list_any (λ x. q x && p x) xs
any_filtered q p [] = refl
any_filtered {A} q p (x ∷ xs) = go (q x) (any_filtered q p xs)
  where
    go : (b : Bool) → list_any p (filter q xs) ≡ list_any (λ y. q y && p y) xs
        → list_any p (cond b (x ∷ filter q xs) (filter q xs)) ≡ ((b && p x) || list_any (λ y. q y && p y) xs)
    go true later = ap (λ r. p x || r) later
    go false later = later

not_false : (b : Bool) → not b ≡ false → b ≡ true
not_false true h = refl
not_false false h = absurd (search (rules, h))

-- of two consoles, one has another name
two_report : (name : Name) (xs : List ConsoleRow) → Ascends console_before xs
    → list_any (λ c. not (is c.name name)) (take 2 xs) ≡ list_any (λ c. not (is c.name name)) xs
two_report name [] order = refl
two_report name (x ∷ []) order = refl
two_report name (x ∷ y ∷ xs) order = go (not (is x.name name)) (not (is y.name name)) refl refl
  where
    go : (a b : Bool) → not (is x.name name) ≡ a → not (is y.name name) ≡ b → (a || (b || false)) ≡ (a || (b || list_any (λ c. not (is c.name name)) xs))
    go true b e f = refl
    go false true e f = refl
    go false false e f = absurd (search (rules, sym f ∙ ap not (apart_names x.name y.name name (not_false _ e) order.0.0)))

pub others : (s : State) (name : Name) → IsKeyed s → list_any (λ c. not (is c.name name)) (take 2 (masters s.board)) ≡ has_other_master name s.board.consoles
others s name order =
    two_report name (masters s.board) (ascends_filter console_before is_master s.board.consoles order.board.consoles)
    ∙ any_filtered is_master (λ c. not (is c.name name)) s.board.consoles

-- ---- whether the last one is lost

left_over : (other was now : Bool) → ((other || was) && not (other || now)) ≡ (was && (not now && not other))
left_over true true true = refl
left_over true true false = refl
left_over true false now = refl
left_over false true true = refl
left_over false true false = refl
left_over false false now = refl

lost_at : (row console : ConsoleRow) (xs : List ConsoleRow) → Ascends console_before xs → find (λ c. is c.name row.name) xs ≡ Some console
    → (has_master xs && not (has_master (replaced row xs))) ≡ (is_master console && (not (is_master row) && not (has_other_master row.name xs)))
lost_at row console xs order at =
    ap₂ (λ was now. was && not now)
    (any_split is_master (λ c. is c.name row.name) console_before once xs order ∙ ap (λ o. has_other_master row.name xs || passes is_master o) at)
    (any_changed is_master (λ c. is c.name row.name) (λ c. row) console_before once console xs order at)
    ∙ left_over (has_other_master row.name xs) (is_master console) (is_master row)
  where
    once : (x y : ConsoleRow) → is x.name row.name ≡ true → console_before x y ≡ true → is y.name row.name ≡ false
    once x y here back = apart_names x.name y.name row.name here back

-- ---- a row in its place

compares_equal : (k c : ConsoleRow) → is c.name k.name ≡ true → console_cmp k c ≡ Equal
compares_equal k c h = ap (λ n. console_cmp k (record c { name = n })) (is_same_name c.name k.name h) ∙ itself (console_cmp k k) (console_total.antisymm k k)

back : (o : Ordering) → is_lt o ≡ true → ordering_reverse o ≡ Greater
back Less h = refl
back Equal h = absurd (search (rules, h))
back Greater h = absurd (search (rules, h))

-- a row that is put where one of its name is replaces it
put_replaces : (row console : ConsoleRow) (xs : List ConsoleRow) → Ascends console_before xs
    → find (λ c. is c.name row.name) xs ≡ Some console → replace_key console_cmp xs row ≡ replaced row xs
put_replaces row console [] order found = absurd (search (rules, found))
put_replaces row console (x ∷ xs) order found = go (is x.name row.name) refl found (put_replaces row console xs order.1)
  where
    go : (b : Bool) → is x.name row.name ≡ b → cond b (Some x) (find (λ c. is c.name row.name) xs) ≡ Some console
        → (find (λ c. is c.name row.name) xs ≡ Some console → replace_key console_cmp xs row ≡ replaced row xs)
        → match_ordering (console_cmp row x) (row ∷ x ∷ xs) (row ∷ xs) (x ∷ replace_key console_cmp xs row) ≡ cond b (row ∷ xs) (x ∷ replaced row xs)
    go true e f later = ap (λ o. match_ordering o (row ∷ x ∷ xs) (row ∷ xs) (x ∷ replace_key console_cmp xs row)) (compares_equal row x e)
    go false e f later =
        let before : console_before x console ≡ true = all_found (λ y. console_before x y ≡ true) (λ c. is c.name row.name) console xs f order.0 in
        let same = is_same_name console.name row.name (found_passes (λ (c : ConsoleRow). is c.name row.name) console xs f) in
        let greater : console_cmp row x ≡ Greater =
        ap (λ n. console_cmp (record row { name = n }) x) (sym same) ∙ console_total.antisymm console x
        ∙ back (console_cmp x console) before in
        ap (λ o. match_ordering o (row ∷ x ∷ xs) (row ∷ xs) (x ∷ replace_key console_cmp xs row)) greater ∙ ap (λ ys. x ∷ ys) (later f)

-- and one of a new name is inserted at its place
put_adds : (row : ConsoleRow) (xs : List ConsoleRow) → find (λ c. is c.name row.name) xs ≡ None → replace_key console_cmp xs row ≡ put console_before row xs
put_adds row [] none = refl
put_adds row (x ∷ xs) none = go (is x.name row.name) refl none (put_adds row xs)
  where
    some_none : (let o : Option ConsoleRow = Some x in o) ≡ None → ⊥
    some_none h = search (rules, h)

    by_order : (o : Ordering) → console_cmp row x ≡ o → is x.name row.name ≡ false → replace_key console_cmp xs row ≡ put console_before row xs
        → match_ordering o (row ∷ x ∷ xs) (row ∷ xs) (x ∷ replace_key console_cmp xs row) ≡ cond (is_lt o) (row ∷ x ∷ xs) (x ∷ put console_before row xs)
    by_order Less e apart later = refl
    by_order Equal e apart later =
        let same : row.name ≡ x.name = is_same_name row.name x.name (texts_ties row.name x.name ∙ ap is_eq e) in
        absurd (search (rules, sym apart ∙ ap (λ n. is x.name n) same ∙ is_itself x.name))
    by_order Greater e apart later = ap (λ ys. x ∷ ys) later

    go : (b : Bool) → is x.name row.name ≡ b → cond b (Some x) (find (λ c. is c.name row.name) xs) ≡ None
        → (find (λ c. is c.name row.name) xs ≡ None → replace_key console_cmp xs row ≡ put console_before row xs)
        → replace_key console_cmp (x ∷ xs) row ≡ put console_before row (x ∷ xs)
    go true e f later = absurd (some_none f)
    go false e f later = by_order (console_cmp row x) refl e (later f)

any_put : (q : ConsoleRow → Bool) (row : ConsoleRow) (xs : List ConsoleRow) → list_any q (put console_before row xs) ≡ (q row || list_any q xs)
any_put q row [] = refl
any_put q row (x ∷ xs) = go (console_before row x) (any_put q row xs)
  where
    swapped : (a b c : Bool) → (a || (b || c)) ≡ (b || (a || c))
    swapped true true c = refl
    swapped true false c = refl
    swapped false b c = refl

    go : (b : Bool) → list_any q (put console_before row xs) ≡ (q row || list_any q xs)
        → list_any q (cond b (row ∷ x ∷ xs) (x ∷ put console_before row xs)) ≡ (q row || (q x || list_any q xs))
    go true later = refl
    go false later = ap (λ r. q x || r) later ∙ swapped (q x) (q row) (list_any q xs)

put_changes : (s : State) (row : ConsoleRow) → (console_at s.board row.name ≡ Some row → ⊥) → edited (edit.PutConsole row) s ≡ s → ⊥
put_changes s row other same =
    other (sym (ap (λ (t : State). console_at t.board row.name) same)
    ∙ found_put console_cmp (λ (c : ConsoleRow). is c.name row.name) row s.board.consoles (is_itself row.name)
    (compares_equal row))

-- ---- a new console

none_of_more : (more one : Bool) → (one && not (more || one)) ≡ false
none_of_more true true = refl
none_of_more true false = refl
none_of_more false true = refl
none_of_more false false = refl

pub new_one : (s : State) (name : Name) (auth : Auth) (mode : Mode) → console_at s.board name ≡ None
    → changed s (operation.DefineConsole name auth mode) ≡ Ok (edited (edit.PutConsole (new_console name auth mode)) s)
new_one s name auth mode none =
    let row : ConsoleRow = new_console name auth mode in
    let added : BoardRows = record s.board { consoles = put console_before row s.board.consoles } in
    ap (λ o. mastered (loses_master s.board (defined name auth mode o s.board)) (record s { board = defined name auth mode o s.board })) none
    ∙ ap (λ b. mastered b (record s { board = added }))
    (ap (λ h. has_master s.board.consoles && not h) (any_put is_master row s.board.consoles)
    ∙ none_of_more (is_master row) (has_master s.board.consoles))
    ∙ ap (λ cs. Ok (record s { board = record s.board { consoles = cs } })) (sym (put_adds row s.board.consoles none))

pub new_one_changes : (s : State) (name : Name) (auth : Auth) (mode : Mode) → console_at s.board name ≡ None
    → edited (edit.PutConsole (new_console name auth mode)) s ≡ s → ⊥
new_one_changes s name auth mode none = put_changes s (new_console name auth mode) (λ there. search (rules, sym none ∙ there))

-- ---- one that is there

-- with another authority and mode
abbrev set : ConsoleRow → Auth → Mode → ConsoleRow
set c auth mode = record c { auth = auth; mode = mode }

module _ (s : State) (name : Name) (auth : Auth) (mode : Mode) (stored : ConsoleRow) (order : IsKeyed s) (at : console_at s.board name ≡ Some stored) where
  abbrev row : ConsoleRow
  row = set stored auth mode

  by_row : find (λ (c : ConsoleRow). is c.name row.name) s.board.consoles ≡ Some stored
  by_row = found_by_name s.board.consoles name stored at

  abbrev after : BoardRows
  after = record s.board { consoles = replaced row s.board.consoles }

  comes : changed s (operation.DefineConsole name auth mode) ≡ mastered (loses_master s.board after) (record s { board = after })
  comes = ap (λ o. mastered (loses_master s.board (defined name auth mode o s.board)) (record s { board = defined name auth mode o s.board })) at

  lost_is : loses_master s.board after ≡ (is_master stored && (not (is_master row) && not (has_other_master stored.name s.board.consoles)))
  lost_is = lost_at row stored s.board.consoles order.board.consoles by_row

  pub last_lost : (is_master stored && (not (is_master row) && not (has_other_master stored.name s.board.consoles)))
      ≡ true → changed s (operation.DefineConsole name auth mode) ≡ Err LastMaster
  last_lost lost = comes ∙ ap (λ b. mastered b (record s { board = after })) (lost_is ∙ lost)

  pub set_anew : (is_master stored && (not (is_master row) && not (has_other_master stored.name s.board.consoles))) ≡ false
      → changed s (operation.DefineConsole name auth mode) ≡ Ok (edited (edit.PutConsole row) s)
  set_anew lost =
      comes ∙ ap (λ b. mastered b (record s { board = after })) (lost_is ∙ lost)
      ∙ ap (λ cs. Ok (record s { board = record s.board { consoles = cs } })) (sym (put_replaces row stored s.board.consoles order.board.consoles by_row))

  pub set_changes : same_setting stored row ≡ false → edited (edit.PutConsole row) s ≡ s → ⊥
  set_changes differs = put_changes s row (λ there.
      let is_row : stored ≡ row = some_is stored row (sym by_row ∙ there) in
      let alike : same_setting stored row ≡ true =
      ap (λ c. same_setting c row) is_row
      ∙ ap (λ b. b && bytes_eq (mode_text mode) (mode_text mode)) (name_itself (auth_text auth))
      ∙ name_itself (mode_text mode) in
      cc)

  pub set_again : same_setting stored row ≡ true → changed s (operation.DefineConsole name auth mode) ≡ Ok s
  set_again same =
      let to_auth : stored.auth ≡ auth = auth_of _ _ (first _ _ same) in
      let to_mode : stored.mode ≡ mode = mode_of _ _ (rest (bytes_eq (auth_text stored.auth) (auth_text auth)) _ same) in
      let is_row : stored ≡ row = (λ i. record stored { auth = to_auth i; mode = to_mode i }) in
      let again : replace_key console_cmp s.board.consoles row ≡ s.board.consoles =
      put_again console_cmp console_total (λ (c : ConsoleRow). is c.name row.name) row s.board.consoles
      order.board.consoles (by_row ∙ ap Some is_row) in
      let stays : replaced row s.board.consoles ≡ s.board.consoles = sym (put_replaces row stored s.board.consoles order.board.consoles by_row) ∙ again in
      comes ∙ ap (λ cs. mastered (has_master s.board.consoles && not (has_master cs)) (record s { board = record s.board { consoles = cs } })) stays
      ∙ ap (λ b. mastered b s) (none_lost (has_master s.board.consoles))
