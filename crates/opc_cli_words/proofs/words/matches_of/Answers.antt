use Rattle.std.proofs.lemmas.Result.{IfOk-weaker}
use Rattle.opc_cli_words.proofs.CommandLine.{what_fails, what_is_found}
use Rattle.opc_cli_words.proofs.words.matches_of.Goals as goal

pub returns : goal.returns
returns c =
    let parse = c.try_get_matches_from in
    record {
      found = IfOk-weaker parse.result _ _
          (λ found. what_is_found _ c.in_ok-command_line.ensures c.args.words.now _ c.after_first.ensures found)
          parse.ensures.matches;
      fails = what_fails _ c.in_ok-command_line.ensures c.args.words.now _ c.after_first.ensures parse.result parse.ensures.kinds;
    }
