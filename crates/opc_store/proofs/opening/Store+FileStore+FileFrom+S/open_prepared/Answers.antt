use Rattle.std.proofs.Common.{◌≡◌, ◌∙◌, sym, ap, subst, arith, inl, inr, not}
use Rattle.sqlite.specs.Effect.{Database}
use Rattle.sqlite.specs.Tree.{Trees}
use Rattle.sqlite.specs.State.{HasCleanDisk}
use Rattle.sqlite.specs.Files.{file_state}
use Rattle.sqlite_catalog.proofs.ReadLemmas.{lists_once}
use Rattle.sqlite_trees.specs.Objects.{catalog_tree}
use Rattle.opc_store_sql.specs.Shapes.{no_schema}
use Rattle.opc_store_schema.specs.Ours.{has_our_name}
use Rattle.opc_store_schema.specs.Represented.{AreTablesOf}
use Rattle.opc_store_old_tables.specs.Old.{AreOldTablesOf}
use Rattle.opc_store.proofs.opening.Store+FileStore+FileFrom+S.open_prepared.Goals as goal

pub returns-in-Ok-open_files : goal.returns-in-Ok-open_files
returns-in-Ok-open_files g c = record {
  opened = record {
    found = λ clean db holds s alone.
        let conn = c.in-Ok.conn in
        let early : HasCleanDisk (file_state conn) = omega (arith, c.in-Ok-open_files.ensures.crash.clean) in
        let opened = c.in-Ok.ensures.opened early in
        let trees : (file_state conn).now.trees ≡ db = ap (λ (d : Database). d.trees) opened.0.clean ∙ (c.in-Ok.ensures.found early).holds db holds in
        c.in-Ok-open_files.ensures.found clean opened.0.is_open s (subst (λ (t : Trees). AreTablesOf t s) (sym trees) alone);
    copied = λ clean db holds version s alone.
        let conn = c.in-Ok.conn in
        let early : HasCleanDisk (file_state conn) = omega (arith, c.in-Ok-open_files.ensures.crash.clean) in
        let opened = c.in-Ok.ensures.opened early in
        let trees : (file_state conn).now.trees ≡ db = ap (λ (d : Database). d.trees) opened.0.clean ∙ (c.in-Ok.ensures.found early).holds db holds in
        c.in-Ok-open_files.ensures.copied clean opened.0.is_open version s (subst (λ (t : Trees). AreOldTablesOf version t s) (sym trees) alone);
    made = λ clean.
        let conn = c.in-Ok.conn in
        let early : HasCleanDisk (file_state conn) = omega (arith, c.in-Ok-open_files.ensures.crash.clean) in
        let opened = c.in-Ok.ensures.opened early in
        let found = (file_state conn).committed in (
          found.trees,
          (c.in-Ok.ensures.found early).reads,
          λ bare. c.in-Ok-open_files.ensures.made clean
              (ap (λ (d : Database). d.schema) opened.0.clean
              ∙ lists_once (found.trees catalog_tree) found.schema no_schema (opened.1 opened.0.is_open).1.lists bare),
        );
    settled = c.in-Ok-open_files.ensures.settled;
    adopted = λ clean.
        let conn = c.in-Ok.conn in
        let early : HasCleanDisk (file_state conn) = omega (arith, c.in-Ok-open_files.ensures.crash.clean) in (
          conn,
          record {
            opens = c.in-Ok.ensures.opened early;
            found = c.in-Ok.ensures.found early;
            known = c.in-Ok-open_files.ensures.ours clean;
            made = c.in-Ok-open_files.ensures.unnamed clean;
            counts = ap not (c.has_our_name-is_made.ensures ∙ ap has_our_name c.schema.ensures.value);
          },
        );
  };
  failed = tt;
}

pub returns-in-Err-clause-failed : goal.returns-in-Err-clause-failed
returns-in-Err-clause-failed g c =
    inl (c.in-Err.error, c.in-Err.field-0-1, c.by_files.ensures, c.in-Err.ensures.unopened, c.in-Err.ensures.cause)

pub returns-in-Err-open_files-clause-failed : goal.returns-in-Err-open_files-clause-failed
returns-in-Err-open_files-clause-failed g c =
    let failed = c.in-Err-open_files.ensures in
    let early : HasCleanDisk (file_state c.in-Err-open_files.conn) → HasCleanDisk (file_state c.in-Ok.conn) =
    λ clean. omega (arith, failed.crash_at_fault.clean) in
    rw c.by_tables.ensures (inr (
      c.in-Ok.conn,
      c.in-Err-open_files.conn,
      record {
        opens = λ clean. c.in-Ok.ensures.opened (early clean);
        found = λ clean. c.in-Ok.ensures.found (early clean);
        unmade = failed.unmade;
        refused = failed.refused;
        unharmed = λ clean. failed.unharmed clean (c.in-Ok.ensures.opened (early clean)).0.is_open;
        survives = failed.crash_at_fault;
      },
    ))
