use Rattle.std.proofs.Common.{◌≡◌, ◌∙◌, sym, ap, subst, arith}
use Rattle.sqlite.specs.Closing.{IsCopied}
use Rattle.sqlite.specs.Effect.{Database}
use Rattle.sqlite.specs.Files.{file_state}
use Rattle.sqlite.specs.State.{HasCleanDisk}
use Rattle.sqlite.specs.Tree.{Trees}
use Rattle.sqlite.proofs.Callers.{finds_again}
use Rattle.opc_state.specs.State.{State}
use Rattle.opc_store_schema.specs.Represented.{Represents, AreTablesOf}
use Rattle.opc_store_schema.proofs.Opened.{alone_from}
use Rattle.opc_store.proofs.reopening.what_was_committed_is_found_again.Goals as goal

pub returns-in-Ok-open_files-2 : goal.returns-in-Ok-open_files-2
returns-in-Ok-open_files-2 g c =
    let store = c.args.store in
    let conn = c.in-Ok-open_files.conn in
    let again = c.in-Ok-open_files-2.again in
    let early : HasCleanDisk (file_state again) → HasCleanDisk (file_state conn) =
    λ clean. omega (arith, c.in-Ok-open_files-2.ensures.crash.clean) in
    let copied : HasCleanDisk (file_state again) → IsCopied store c.in-Ok.files =
    λ clean. c.in-Ok.ensures.copied (c.in-Ok-open_files.ensures.found (early clean)).honest in
    let found : HasCleanDisk (file_state again) → (s : State) → Represents (file_state store).committed s
    → Represents (file_state again).now s =
    λ clean s was.
    let opened = c.in-Ok-open_files.ensures.opened (early clean) in
    let same = finds_again store conn c.in-Ok.files c.in-Ok.ensures.copied (c.in-Ok-open_files.ensures.found (early clean)) in
    let trees : (file_state conn).now.trees ≡ (file_state store).committed.trees = ap (λ (d : Database). d.trees) opened.0.clean ∙ same in
    let alone = subst (λ (t : Trees). AreTablesOf t s) (sym trees) (alone_from (file_state store).committed s was) in
    c.in-Ok-open_files-2.ensures.found clean opened.0.is_open s alone in
    record {
      sure = λ clean. (copied clean).was_clean;
      committed = found;
      represented = λ clean s was.
          let is_open = (copied clean).was_open in
          found clean s (subst (λ (d : Database). Represents d s) (c.in-Ok.ensures.settled is_open) (was is_open));
      settled = c.in-Ok-open_files-2.ensures.settled;
    }
