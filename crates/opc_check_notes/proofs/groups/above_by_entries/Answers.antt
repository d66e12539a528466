use Rattle.std.proofs.Common.{ap, ◌∙◌}
use Rattle.std.specs.Option.{option_map}
use Rattle.opc_check_notes.specs.declared.groups.Ranked.{Ranked}
use Rattle.opc_check_notes.specs.Ranked.{first_ranked}
use Rattle.opc_check_notes.proofs.ByPlace.{first_by_place}
use Rattle.opc_check_notes.proofs.groups.above_by_entries.Goals as goal

pub returns : goal.returns
returns c =
    c.finding_of.ensures
    ∙ ap (option_map (λ (r : Ranked). r.finding)) (c.first_ranked.ensures
    ∙ ap (first_ranked c.args.known.now c.args.row.now c.args.user.now) c.groups_at.ensures.groups)
    ∙ first_by_place c.args.known.now c.args.row.now c.args.user.now c.args.place.now c.groups_at.ensures.order c.requires
