use Rattle.std.proofs.Common.{ℕ, List, ap, sym, ◌∙◌}
use Rattle.std.specs.List.{list_all}
use Rattle.opc_check_notes.specs.Notes.{has_own}
use Rattle.opc_check_notes.proofs.Serving.{list_all-map}
use Rattle.opc_check_notes.proofs.entry_notes.users_have_own.Goals as goal

pub returns : goal.returns
returns c =
    c.have_own.ensures ∙ sym (list_all-map (has_own c.args.known.now c.args.row.now) (λ (p : List ℕ × List ℕ). p.1) c.users_of.result.now)
    ∙ ap (list_all (has_own c.args.known.now c.args.row.now)) c.users_of.ensures
