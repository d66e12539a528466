use Rattle.std.proofs.Common.{◌≡◌, filter, map, take}
use Rattle.std.specs.Option.{option_copied}
use Rattle.opc_answers_diff.specs.Verdicts.{is_listed, user_change}
use Rattle.opc_answers_diff.proofs.verdicts.changes_at.Given as goal

abbrev pub invariant-loop-member : goal.invariant-loop-member
invariant-loop-member l = l.list.items ≡ filter (is_listed l.asked (option_copied l.console))
    (map (user_change l.asked (option_copied l.before) (option_copied l.after) (option_copied l.console)) (take l.member-index l.members))
