use Rattle.std.proofs.Common.{◌≡◌, IfOk, subst, sym, rules}
use Rattle.opc_board.specs.Invariants.{console_at}
use Rattle.opc_machine.specs.Effects.{IsOutcome}
use Rattle.opc_machine.specs.Listings.{profiles_outcome}
use Rattle.opc_gate_rulings.specs.declared.requester.Asking.TheVariants.{By}
use Rattle.opc_gate_rulings.specs.Requester.{IsRequester}
use Rattle.opc_gate_rulings.proofs.Named.{by_any_name}
use Rattle.opc_gate_listings.proofs.Listed.{profiles_reported}
use Rattle.opc_gate_listings.proofs.profiles.profiles_on.Goals as goal

pub returns : goal.returns
returns g c = record {
  kept = search rules;
  answers = λ sure s represents.
      let before = c.in_ok-lines.ensures.kept.sure sure in
      by_any_name (λ name. c.args.console ≡ console_at s.board name) (λ name. IsOutcome s (profiles_outcome s name c.args.class)) _
      (λ name at.
      let asks : IsRequester s name (By c.in-By.requester) = subst (IsRequester s name) c.in-By.is
      (c.in_ok-requester.ensures.asking.answers before s represents name at) in
      let lines = c.in_ok-lines.ensures.answers sure s (c.in_ok-requester.ensures.asking.kept.same before s represents) asks.1 in
      let comes = profiles_reported s name c.args.class c.in-By.requester.console c.in_ok-lines.lines asks.0 lines in
      subst (λ o. IfOk c.listing.result (IsOutcome s o)) (sym comes) (c.listing.ensures s));
}
