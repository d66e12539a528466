-- The rows that a policy is written as make consoles as they are defined.
use Rattle.std.proofs.Common.{
  ◌≡◌,
  ◌++◌,
  ℕ,
  Bool,
  true,
  false,
  cond,
  List,
  [],
  ◌∷◌,
  Option,
  None,
  Ordering,
  Less,
  Equal,
  Greater,
  map,
  refl,
  sym,
  ap,
  subst,
  ◌∙◌,
  append_assoc,
  append-nil,
}
use Rattle.std.specs.Cmp.Lexicographic.{slice_cmp}
use Rattle.std.specs.List.{AllByRecursion, flat_map}
use Rattle.std.specs.Ordering.{is_lt, nat_cmp, ordering_reverse}
use Rattle.std.proofs.lemmas.Cmp.{nat_list_cmp_total}
use Rattle.opc_policy_members.specs.declared.policy.Policy.{Policy}
use Rattle.opc_policy_members.specs.declared.profile.Profile.{Profile}
use Rattle.opc_policy_members.specs.declared.row.Row.{Row}
use Rattle.opc_rows.specs.Ordered.{Ascends, put}
use Rattle.opc_board.proofs.Kept.{apart_names}
use Rattle.opc_board.proofs.Names.{is_itself, is_mirrored}
use Rattle.opc_board.specs.declared.board.BoardRows.{BoardRows}
use Rattle.opc_board.specs.declared.rows.ConsoleRow.{ConsoleRow}
use Rattle.opc_board.specs.Consoles.{defined}
use Rattle.opc_board.specs.Invariants.{console_at, console_before, earlier, is}
use Rattle.opc_state.specs.PolicyFile.{
  permits_of,
  row_of_connect,
  row_of_console,
  row_of_entry,
  row_of_group,
  row_of_profile,
  row_of_user,
  rows_of,
  rows_of_classes,
}
use Rattle.opc_state.specs.State.{empty}
use Rattle.opc_machine.specs.Bootstrap.{console_after, consoles_after}
use Rattle.opc_machine_invariants.specs.ComeBack.{as_defined}
use Rattle.opc_machine_invariants.proofs.Appending.{all_before, all_of}
use Rattle.opc_machine_invariants.proofs.ExportedPolicies.{all_map, map_last, none_found}

rows_then : (rows more : List Row) (b : BoardRows) → consoles_after (rows ++ more) b ≡ consoles_after more (consoles_after rows b)
rows_then [] more b = refl
rows_then (row ∷ rows) more b = rows_then rows more (console_after row b)

-- rows of another kind leave a board
past : {X : Type 0} (row_of : X → Row) → ((x : X) (b : BoardRows) → console_after (row_of x) b ≡ b)
    → (xs : List X) (b : BoardRows) → consoles_after (map row_of xs) b ≡ b
past row_of leaves [] b = refl
past row_of leaves (x ∷ xs) b = ap (consoles_after (map row_of xs)) (leaves x b) ∙ past row_of leaves xs b

past_permits : (profiles : List Profile) (b : BoardRows) → consoles_after (flat_map permits_of profiles) b ≡ b
past_permits [] b = refl
past_permits (q ∷ profiles) b =
    rows_then (permits_of q) (flat_map permits_of profiles) b
    ∙ ap (consoles_after (flat_map permits_of profiles)) (past (row_of_entry q.class q.pattern) (λ e c. refl) q.entries b)
    ∙ past_permits profiles b

-- two names are not each before the other
once : (a b : List ℕ) → earlier a b ≡ true → earlier b a ≡ false
once a b less = ap is_lt (nat_list_cmp_total.antisymm b a) ∙ go (slice_cmp nat_cmp a b) less
  where
    go : (o : Ordering) → is_lt o ≡ true → is_lt (ordering_reverse o) ≡ false
    go Less h = refl
    go Equal h = refl
    go Greater h = absurd (cc)

put_last : {R : Type 0} (before : R → R → Bool) (xs : List R) (y : R) → AllByRecursion (λ x. before y x ≡ false) xs → put before y xs ≡ xs ++ y ∷ []
put_last before [] y all = refl
put_last before (x ∷ xs) y all = ap (λ b. cond b (y ∷ x ∷ xs) (x ∷ put before y xs)) all.0 ∙ ap (λ zs. x ∷ zs) (put_last before xs y all.1)

abbrev of_consoles : List ConsoleRow → BoardRows
of_consoles consoles = record empty.board { consoles = map as_defined consoles }

console_taken : (done : List ConsoleRow) (c : ConsoleRow) → AllByRecursion (λ d. console_before d c ≡ true) done
    → console_after (row_of_console c) (of_consoles done) ≡ of_consoles (done ++ c ∷ [])
console_taken done c all =
    ap (λ (o : Option ConsoleRow). defined c.name c.auth c.mode o (of_consoles done)) unknown
    ∙ ap (λ cs. record empty.board { consoles = cs }) (put_last console_before (map as_defined done) (as_defined c) last ∙ sym (map_last as_defined done c))
  where
    unknown : console_at (of_consoles done) c.name ≡ None
    unknown =
        none_found (λ d. is d.name c.name) (map as_defined done)
        (all_map as_defined (λ d. is d.name c.name ≡ false) done
        (all_of (λ d. console_before d c ≡ true) (λ d. is (as_defined d).name c.name ≡ false)
        (λ d less. is_mirrored c.name d.name (apart_names d.name c.name d.name (is_itself d.name) less)) done all))

    last : AllByRecursion (λ d. console_before (as_defined c) d ≡ false) (map as_defined done)
    last =
        all_map as_defined (λ d. console_before (as_defined c) d ≡ false) done
        (all_of (λ d. console_before d c ≡ true) (λ d. console_before (as_defined c) (as_defined d) ≡ false) (λ d less. once d.name c.name less) done all)

consoles_from : (done todo : List ConsoleRow) → Ascends console_before (done ++ todo)
    → consoles_after (map row_of_console todo) (of_consoles done) ≡ of_consoles (done ++ todo)
consoles_from done [] order = ap of_consoles (sym (append-nil done))
consoles_from done (c ∷ todo) order =
    let same : (done ++ c ∷ []) ++ todo ≡ done ++ c ∷ todo = append_assoc done (c ∷ []) todo in
    ap (consoles_after (map row_of_console todo)) (console_taken done c (all_before console_before done c todo order))
    ∙ consoles_from (done ++ c ∷ []) todo (subst (Ascends console_before) (sym same) order)
    ∙ ap of_consoles same

pub consoles_come_back : (p : Policy) (consoles : List ConsoleRow) → Ascends console_before consoles
    → consoles_after (rows_of p consoles) empty.board ≡ of_consoles consoles
consoles_come_back p consoles order =
    let some = rows_of_classes p.active ++ map row_of_group p.groups in
    let more = some ++ map row_of_user p.users in
    let most = more ++ map row_of_connect p.connects in
    let others = most ++ map row_of_console consoles in
    let all = others ++ map row_of_profile p.profiles in
    rows_then all (flat_map permits_of p.profiles) empty.board
    ∙ past_permits p.profiles (consoles_after all empty.board)
    ∙ rows_then others (map row_of_profile p.profiles) empty.board
    ∙ past row_of_profile (λ q b. refl) p.profiles (consoles_after others empty.board)
    ∙ rows_then most (map row_of_console consoles) empty.board
    ∙ ap (consoles_after (map row_of_console consoles)) (
    rows_then more (map row_of_connect p.connects) empty.board
    ∙ past row_of_connect (λ c b. refl) p.connects (consoles_after more empty.board)
    ∙ rows_then some (map row_of_user p.users) empty.board
    ∙ past row_of_user (λ u b. refl) p.users (consoles_after some empty.board)
    ∙ past row_of_group (λ g b. refl) p.groups empty.board)
    ∙ consoles_from [] consoles order
