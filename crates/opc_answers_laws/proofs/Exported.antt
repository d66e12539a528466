-- The rows of an export, kind by kind.
use Rattle.std.proofs.Common.{◌≡◌, ◌∙◌, ◌≤◌, ℕ, List, [], ◌∷◌, ◌++◌, append_assoc, arith, map, refl, subst, sym}
use Rattle.std.specs.List.{All, AllPairs, flat_map}
use Rattle.std.proofs.lemmas.List.Elements.{All-cons, All-nil, All-weaker}
use Rattle.std.proofs.lemmas.List.Kept.{AllPairs-cons}
use Rattle.opc_names.specs.declared.class.Class.TheVariants.{Console, Opercmds}
use Rattle.opc_policy_members.specs.declared.policy.Policy.{Policy}
use Rattle.opc_policy_members.specs.declared.profile.Profile.{Profile}
use Rattle.opc_policy_members.specs.declared.row.Row.{Row}
use Rattle.opc_policy_members.specs.declared.row.Row.TheVariants as row
use Rattle.opc_board.specs.declared.rows.ConsoleRow.{ConsoleRow}
use Rattle.opc_state.specs.PolicyFile.{
  permits_of,
  row_of_connect,
  row_of_console,
  row_of_entry,
  row_of_group,
  row_of_profile,
  row_of_user,
  rows_of,
  rows_of_classes,
}
use Rattle.opc_answers_laws.specs.ExportLaws.{IsNotAfter, part_of}

-- rows in order, from a part on
record AreFrom (part : ℕ) (rows : List Row) : Type 0 where
  later : All (λ (r : Row). part ≤ part_of r) rows
  sorted : AllPairs IsNotAfter rows

none_from : (part : ℕ) → AreFrom part []
none_from part = record { later = All-nil (λ (r : Row). part ≤ part_of r); sorted = λ i j d before within. absurd (omega (arith, before, within)) }

-- one row before them
first_from : (r : Row) (part : ℕ) (rows : List Row) → part_of r ≤ part → AreFrom part rows → AreFrom (part_of r) (r ∷ rows)
first_from r part rows low are =
    let above = All-weaker (λ (x : Row). part ≤ part_of x) (λ (x : Row). part_of r ≤ part_of x) (λ x h. omega (arith, low, h)) rows are.later in
    record {
      later = All-cons (λ (x : Row). part_of r ≤ part_of x) r rows (omega arith) above;
      sorted = AllPairs-cons IsNotAfter r rows above are.sorted;
    }

-- from an earlier part on
earlier : (low part : ℕ) (rows : List Row) → low ≤ part → AreFrom part rows → AreFrom low rows
earlier low part rows below are = record {
  later = All-weaker (λ (x : Row). part ≤ part_of x) (λ (x : Row). low ≤ part_of x) (λ x h. omega (arith, below, h)) rows are.later;
  sorted = are.sorted;
}

-- the rows of a part before them
module _ {A : Type 0} (row_of : A → Row) (part : ℕ) (is : (a : A) → part_of (row_of a) ≡ part) where
  before : (members : List A) (rows : List Row) → AreFrom part rows → AreFrom part (map row_of members ++ rows)
  before [] rows are = are
  before (a ∷ more) rows are =
      subst (λ p. AreFrom p (row_of a ∷ map row_of more ++ rows)) (is a)
      (first_from (row_of a) part (map row_of more ++ rows) (omega (arith, is a)) (before more rows are))

permits_from : (profiles : List Profile) → AreFrom 7 (flat_map permits_of profiles)
permits_from [] = none_from 7
permits_from (p ∷ more) = before (row_of_entry p.class p.pattern) 7 (λ e. refl) p.entries (flat_map permits_of more) (permits_from more)

regrouped : (a b c d e f g : List Row) → a ++ b ++ c ++ d ++ e ++ f ++ g ≡ a ++ (b ++ (c ++ (d ++ (e ++ (f ++ g)))))
regrouped a b c d e f g =
    append_assoc (a ++ b ++ c ++ d ++ e) f g ∙ append_assoc (a ++ b ++ c ++ d) e (f ++ g) ∙ append_assoc (a ++ b ++ c) d (e ++ (f ++ g))
    ∙ append_assoc (a ++ b) c (d ++ (e ++ (f ++ g))) ∙ append_assoc a b (c ++ (d ++ (e ++ (f ++ g))))

pub by_kind : (p : Policy) (consoles : List ConsoleRow) → AllPairs IsNotAfter (rows_of p consoles)
by_kind p consoles =
    let profiles = before row_of_profile 6 (λ x. refl) p.profiles _ (earlier 6 7 _ (omega arith) (permits_from p.profiles)) in
    let boards = before row_of_console 5 (λ x. refl) consoles _ (earlier 5 6 _ (omega arith) profiles) in
    let connects = before row_of_connect 4 (λ x. refl) p.connects _ (earlier 4 5 _ (omega arith) boards) in
    let users = before row_of_user 3 (λ x. refl) p.users _ (earlier 3 4 _ (omega arith) connects) in
    let groups = before row_of_group 2 (λ x. refl) p.groups _ (earlier 2 3 _ (omega arith) users) in
    let second = first_from (row.Class Opercmds p.active.opercmds) 2 _ (omega arith) groups in
    let all = first_from (row.Class Console p.active.console) 1 _ (omega arith) second in
    subst (AllPairs IsNotAfter)
    (sym (regrouped (rows_of_classes p.active) (map row_of_group p.groups) (map row_of_user p.users)
    (map row_of_connect p.connects) (map row_of_console consoles) (map row_of_profile p.profiles) (flat_map permits_of p.profiles)))
    all.sorted
