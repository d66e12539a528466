use Rattle.std.proofs.Common.{◌∙◌, ap, subst, sym}
use Rattle.std.proofs.lemmas.Result.{IfOk-weaker}
use Rattle.std.specs.List.{slice_get}
use Rattle.std.specs.Option.{option_copied}
use Rattle.opc_policy_deciders.specs.Decided.{AreShortest, IsDecided}
use Rattle.opc_policy_deciders.specs.Forms.{forms}
use Rattle.opc_answers_sheet.specs.Commands.{AreRowsAt, DecidesAll, rows_of}
use Rattle.opc_answers_sheet.proofs.Decided.{decides_found}
use Rattle.opc_answers_sheet.proofs.commands.rows_at.Goals as goal

pub returns : goal.returns
returns c =
    let policy = c.args.room.now.policy in
    let found = c.in_ok-found.found.items in
    let shortest = subst (λ patterns. AreShortest (IsDecided policy (slice_get patterns c.args.place)) forms found)
    c.requires.patterns.all c.in_ok-found.ensures in
    IfOk-weaker c.rows_of.result _ _ (λ rows is. record {
      found = found;
      shortest = shortest;
      rows = is ∙ ap (rows_of policy c.args.room.now.board) c.as_slice.ensures.value;
    }) c.rows_of.ensures

pub rows_of-requires-clause-decided : goal.rows_of-requires-clause-decided
rows_of-requires-clause-decided c =
    let policy = c.args.room.now.policy in
    let found = c.in_ok-found.found.items in
    subst (DecidesAll policy (option_copied c.profile_at-decided.result)) (sym c.as_slice.ensures.value)
    (subst (λ decided. DecidesAll policy decided found) (sym c.profile_at-decided.ensures)
    (decides_found policy c.args.patterns.now c.args.place c.requires.patterns forms found c.in_ok-found.ensures))
