use Rattle.std.proofs.Common.{◌≡◌, ◌∙◌, List, ℕ, Bool, Some, IsTrue, false, sym, ap, ap₂, subst, arith, inl, inr}
use Rattle.sqlite.specs.Effect.{Database}
use Rattle.sqlite.specs.Recovery.{Image}
use Rattle.sqlite.specs.Start.{FindsIn}
use Rattle.sqlite.specs.Tree.{Trees}
use Rattle.sqlite.specs.State.{HasCleanDisk}
use Rattle.sqlite.specs.Files.{file_state}
use Rattle.opc_store_file.specs.Copies.{bytes_held, bytes_read, is_blank}
use Rattle.opc_store_file.proofs.Copied.{held_is_read, log_held, database_read, database_held}
use Rattle.opc_store_schema.specs.Represented.{AreTablesOf}
use Rattle.opc_store.proofs.reading.Store+FileStore+CopyFrom+S.open_copies.Goals as goal

abbrev image : List ℕ → List ℕ → Image
image log db = record { log = log; db = db }

pub returns-in-Ok-read_files-clause-found : goal.returns-in-Ok-read_files-clause-found
returns-in-Ok-read_files-clause-found g c = record {
  found = λ clean db holds s alone.
      let conn = c.in-Ok.conn in
      let early : HasCleanDisk (file_state conn) = omega (arith, c.in-Ok-read_files.ensures.crash.clean) in
      let opened = c.in-Ok.ensures.opened early in
      let finds = c.in-Ok.ensures.found early in
      let log : bytes_held c.args.files.log ≡ g.S.Start.log =
      log_held g.S.Start c.args.files.log c.args.files.db finds.honest c.requires.log in
      let file : bytes_held c.args.files.db ≡ g.S.Start.db =
      database_held g.S.Start c.args.files.log c.args.files.db finds.honest c.requires.db in
      let there : FindsIn (image g.S.Start.log g.S.Start.db) (file_state conn) =
      subst (λ i. FindsIn i (file_state conn)) (ap₂ image log file) (record { holds = finds.holds; reads = finds.reads }) in
      let trees : (file_state conn).now.trees ≡ db = ap (λ (d : Database). d.trees) opened.0.clean ∙ there.holds db holds in
      c.in-Ok-read_files.ensures.found clean opened.0.is_open s (subst (λ (t : Trees). AreTablesOf t s) (sym trees) alone);
  stored = λ clean.
      let early : HasCleanDisk (file_state c.in-Ok.conn) = omega (arith, c.in-Ok-read_files.ensures.crash.clean) in
      let file : bytes_read c.args.files.db ≡ g.S.Start.db =
      database_read g.S.Start c.args.files.log c.args.files.db (c.in-Ok.ensures.found early).honest c.requires.db in
      let not_blank : is_blank (bytes_read c.args.files.db) ≡ false = sym c.is_blank.ensures ∙ c.if-is_blank.false in
      ap is_blank (sym file) ∙ not_blank;
  settled = c.in-Ok-read_files.ensures.settled;
}

pub returns-then-is_blank-clause-failed : goal.returns-then-is_blank-clause-failed
returns-then-is_blank-clause-failed g c =
    let blank : IsTrue (is_blank (bytes_read c.args.files.db)) = sym c.is_blank.ensures ∙ c.if-is_blank.true in
    let held : IsTrue (is_blank (bytes_held c.args.files.db)) =
    ap is_blank (held_is_read false c.args.files.db c.requires.db) ∙ blank in
    inr (inl (c.args.files.db, c.requires.db, held, c.unread.ensures))

pub returns-in-Err-clause-failed : goal.returns-in-Err-clause-failed
returns-in-Err-clause-failed g c =
    inl (
      c.in-Err.error,
      Some c.in-Err.field-0-1,
      c.by_files.ensures,
      λ none. cc,
      (c.args.files, c.requires.log, c.requires.db, λ clean. (c.in-Err.ensures.cause clean, c.in-Err.ensures.unharmed clean)),
    )

pub returns-in-Err-read_files-clause-failed : goal.returns-in-Err-read_files-clause-failed
returns-in-Err-read_files-clause-failed g c =
    let failed = c.in-Err-read_files.ensures in
    let early : HasCleanDisk (file_state c.in-Err-read_files.conn) → HasCleanDisk (file_state c.in-Ok.conn) =
    λ clean. omega (arith, failed.crash_at_fault.clean) in
    let there : HasCleanDisk (file_state c.in-Err-read_files.conn)
    → FindsIn (image g.S.Start.log g.S.Start.db) (file_state c.in-Ok.conn) =
    λ clean.
    subst (λ i. FindsIn i (file_state c.in-Ok.conn))
    (ap₂ image (log_held g.S.Start c.args.files.log c.args.files.db (c.in-Ok.ensures.found (early clean)).honest c.requires.log)
    (database_held g.S.Start c.args.files.log c.args.files.db (c.in-Ok.ensures.found (early clean)).honest c.requires.db))
    (record {
      holds = (c.in-Ok.ensures.found (early clean)).holds;
      reads = (c.in-Ok.ensures.found (early clean)).reads;
    }) in
    rw c.by_tables.ensures (inr (inr (
      c.in-Ok.conn,
      c.in-Err-read_files.conn,
      record {
        opens = λ clean. c.in-Ok.ensures.opened (early clean);
        found = there;
        unnamed = failed.unnamed;
        another = failed.another;
        unharmed = failed.unharmed;
        survives = failed.crash_at_fault;
      },
    )))
