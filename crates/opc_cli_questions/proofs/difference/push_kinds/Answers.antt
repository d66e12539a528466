use Rattle.std.proofs.Common.{append-nil, arith, sym}
use Rattle.std.specs.Prelude.{string_bytes}
use Rattle.opc_cli_questions.specs.Differences.{kind_listed, kind_shown}
use Rattle.opc_cli_questions.proofs.Differences.{changes_more, get_or-any, no_change, text_more}
use Rattle.opc_cli_questions.proofs.difference.push_kinds.Goals as goal

pub loop-kind-init : goal.loop-kind-init
loop-kind-init c = (sym (append-nil (string_bytes c.args.text.now)), no_change c.args.gains.now)

pub loop-kind-preserved : goal.loop-kind-preserved
loop-kind-preserved c =
    let pair = c.args.pair.now in
    let kinds = c.args.kinds.now in
    let i = c.loop-kind.kind-index in (
      text_more kinds i _ (omega arith) (get_or-any kinds i _ _ (omega arith))
          (kind_shown c.args.form c.args.compared.now pair.at pair.other_at pair.found.items) _ _ _ c.loop-kind.invariant.0
          c.in_ok-push_kind.ensures.text,
      changes_more kinds i _ (omega arith) (get_or-any kinds i _ _ (omega arith))
          (kind_listed c.args.compared.now pair.at pair.other_at pair.found.items) _ _ _ c.loop-kind.invariant.1
          c.in_ok-push_kind.ensures.counted,
    )
