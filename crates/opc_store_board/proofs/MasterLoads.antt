-- What the query on the first masters reads.
use Rattle.std.proofs.Common.{◌≡◌, ◌==◌, ◌&&◌, List, [], ◌∷◌, map, take, codes, Bool, true, false, pos, refl, sym, ap₂, ◌∙◌}
use Rattle.std.proofs.lemmas.Bool.{and_parts}
use Rattle.std.proofs.lemmas.List.{take-map}
use Rattle.sqlite.specs.Order.{Row}
use Rattle.sqlite.specs.declared.types.Value.TheVariants.{Int}
use Rattle.sqlite.specs.Listing.{understood}
use Rattle.sqlite.specs.Ops.{binary, is_true}
use Rattle.sqlite.specs.State.{State as SqlState, Shown}
use Rattle.sqlite.specs.Term.{Term, col, lit, op2}
use Rattle.sqlite_tied.specs.Compute.{everything}
use Rattle.sqlite_sql.specs.declared.ops.BinaryOp.TheVariants.{Compare}
use Rattle.sqlite_sql.specs.declared.ops.CompareOp.TheVariants.{Eq}
use Rattle.sqlite_value.proofs.OrderLemmas.{value_cmp-Text}
use Rattle.sqlite_value.specs.Keys.{ascending}
use Rattle.sqlite_value.specs.declared.keys.Collation.TheVariants.{Binary}
use Rattle.opc_store_sql.proofs.Asked.{Asked, IsPaged, by_columns}
use Rattle.opc_store_sql.proofs.Fixed.{returned_fixed_first}
use Rattle.opc_store_sql.proofs.Numbered.{number_cmp}
use Rattle.opc_store_sql.proofs.Values.{equal_numbers}
use Rattle.opc_names.specs.declared.auth.Auth.{Auth}
use Rattle.opc_names.specs.declared.auth.Auth.TheVariants as auth
use Rattle.opc_board.specs.Invariants.{is_master, is_master_auth}
use Rattle.opc_board.specs.declared.rows.ConsoleRow.{ConsoleRow}
use Rattle.opc_state.specs.Loads.{masters as masters_of}
use Rattle.opc_state.specs.Members.{console_cmp}
use Rattle.opc_state.specs.State.{State}
use Rattle.opc_store_schema.specs.Represented.{Represents, auth_number, console_row, flag}
use Rattle.opc_store_board.proofs.ConsoleLoads.{consoles}

abbrev pub masters : Asked
masters = record consoles {
  text = codes "SELECT name, auth, mode, online, usr, monitor FROM consoles WHERE auth = 2 AND online = 1 ORDER BY auth, online, name LIMIT 2";
  tests = op2 (Compare Eq Binary) (col 1 2) (lit (Int (pos 2))) ∷ op2 (Compare Eq Binary) (col 1 4) (lit (Int (pos 1))) ∷ [];
  order = (col 1 2, ascending Binary) ∷ (col 1 4, ascending Binary) ∷ by_columns 1 1;
}

abbrev two_rows : Term
two_rows = lit (Int (pos 2))

pub masters_asked : IsPaged masters two_rows
unfolding understood everything
masters_asked = record { selects = refl; unlisted = refl; plain = (refl, refl); shows = λ schema base. refl }

-- 2 is MASTER alone
is_two : (a : Auth) → (auth_number a == 2) ≡ is_master_auth a
is_two auth.Info = refl
is_two auth.All = refl
is_two auth.Master = refl
is_two auth.Sys = refl
is_two auth.Io = refl
is_two auth.SysIo = refl
is_two auth.Cons = refl
is_two auth.SysCons = refl
is_two auth.IoCons = refl
is_two auth.SysIoCons = refl

is_one : (b : Bool) → is_true (binary (Compare Eq Binary) (flag b) (Int (pos 1))) ≡ b
is_one true = equal_numbers 1 1
is_one false = equal_numbers 0 1

swapped : (a b : Bool) → (a && (b && true)) ≡ (b && a)
swapped true true = refl
swapped true false = refl
swapped false true = refl
swapped false false = refl

-- the row of a console, as it is of an online master
abbrev mastering : ConsoleRow → Row
mastering c = console_row (record c { auth = auth.Master; online = true })

the_master : (a : Auth) → is_master_auth a ≡ true → auth.Master ≡ a
the_master auth.Info h = absurd cc
the_master auth.All h = absurd cc
the_master auth.Master h = refl
the_master auth.Sys h = absurd cc
the_master auth.Io h = absurd cc
the_master auth.SysIo h = absurd cc
the_master auth.Cons h = absurd cc
the_master auth.SysCons h = absurd cc
the_master auth.IoCons h = absurd cc
the_master auth.SysIoCons h = absurd cc

same_master : (c : ConsoleRow) → is_master c ≡ true → mastering c ≡ console_row c
same_master c h =
    let both = and_parts c.online (is_master_auth c.auth) h in
    ap₂ (λ (a : Auth) (online : Bool). console_row (record c { auth = a; online = online })) (the_master c.auth both.1) (sym both.0)

pub masters_returned : (old new : SqlState) (s : State) → Represents old.now s → (rows : List Row)
    → Shown masters.text [] old new rows → rows ≡ map console_row (take 2 (masters_of s.board))
masters_returned old new s was rows h =
    returned_fixed_first masters [] refl console_row mastering console_cmp (λ _. refl)
    (λ x y h. rw (number_cmp 2 2, number_cmp 1 1, value_cmp-Text x.name y.name, h))
    is_master (λ c. ap₂ (λ (a b : Bool). a && (b && true)) (equal_numbers (auth_number c.auth) 2 ∙ is_two c.auth)
    (is_one c.online) ∙ swapped (is_master_auth c.auth) c.online) same_master
    old new was.rows.schema s.board.consoles was.ordered.consoles was.rows.holds.consoles rows h two_rows masters_asked
    ∙ take-map console_row 2 (masters_of s.board)
