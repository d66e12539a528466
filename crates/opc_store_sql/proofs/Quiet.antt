-- A query commits nothing, whatever the schema is.
use Rattle.std.proofs.Common.{◌≡◌, ℕ, ◌+◌, List, Bool, true, false, cond, Ok, Err, Result, Option, None, subst}
use Rattle.sqlite_resolve.specs.declared.compiled.Compiled.{Compiled}
use Rattle.sqlite_resolve.specs.declared.error.CompileError.{CompileError}
use Rattle.sqlite_schema.specs.declared.command.Command.{Command}
use Rattle.sqlite_schema.specs.declared.command.Returning.{Returning}
use Rattle.sqlite.specs.Schema.{Schema}
use Rattle.sqlite.specs.Given.{Returns}
use Rattle.sqlite.specs.Listing.{understood, reads_listing, listing_schema, if_select, is_select}
use Rattle.sqlite_resolve.specs.Compile.{compiled, planned, meaning, returning, command, first, with_command, timed, small}
use Rattle.sqlite_resolve.specs.Lowering.{Checked, and_then}
use Rattle.sqlite_syntax.specs.declared.statement.Parsed.{Parsed}
use Rattle.opc_store_sql.specs.Steps.{NeverWrites}

-- the statement has no RETURNING
abbrev pub ShowsNothing : Checked Parsed → Type 0
ShowsNothing (Ok p) = (schema : Schema) (base : ℕ) → returning schema base p.statement ≡ Ok None
ShowsNothing (Err e) = Unit {0}

after_command : (p : Parsed) (formats : List (List ℕ)) (r : Checked Command)
    → ¬ Returns (and_then (and_then (and_then r (λ c. Ok (c, None)))
    (λ (found : Command × Option Returning). Ok (formats, found))) (λ plan. Ok (with_command p plan)))
after_command p formats (Ok c) h = absurd cc
after_command p formats (Err e) h = h

compiled_quiet : (schema : Schema) (text : List ℕ) → ShowsNothing (first text) → ¬ Returns (compiled schema text)
unfolding compiled planned meaning
compiled_quiet schema text = go (first text)
  where
    go : (f : Checked Parsed) → ShowsNothing f → ¬ Returns (and_then f (λ p. and_then (planned schema p) (λ plan. Ok (with_command p plan))))
    go (Err e) quiet h = h
    go (Ok p) quiet h =
        let formats = timed schema p.formats p.statement in
        let base = small p.names + small formats in
        after_command p formats (command schema p.formats base p.statement)
        (subst (λ (shown : Checked (Option Returning)). Returns
        (and_then (and_then (and_then shown
        (λ shown. and_then (command schema p.formats base p.statement) (λ c. Ok (c, shown))))
        (λ (found : Command × Option Returning). Ok (formats, found))) (λ plan. Ok (with_command p plan))))
        (quiet schema base) h)

selected_quiet : (r : Result Compiled CompileError) → ¬ Returns r → ¬ Returns (if_select r)
selected_quiet (Err e) quiet h = h
selected_quiet (Ok c) quiet h = go (is_select c.command) h
  where
    go : (b : Bool) → Returns (cond b (Ok c) (Err Rattle.sqlite_resolve.specs.declared.error.CompileError.TheVariants.NoSuchTable)) → ⊥
    go true h = quiet h
    go false h = h

pub understood_quiet : (text : List ℕ) → ShowsNothing (first text) → NeverWrites text
unfolding understood
understood_quiet text quiet schema = go (reads_listing schema text)
  where
    go : (b : Bool) → Returns (cond b (if_select (compiled listing_schema text)) (compiled schema text)) → ⊥
    go true = selected_quiet (compiled listing_schema text) (compiled_quiet listing_schema text quiet)
    go false = compiled_quiet schema text quiet
