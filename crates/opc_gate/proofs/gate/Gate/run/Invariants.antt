use Rattle.std.proofs.Common.{◌≡◌, ◌≤◌, length, take, vec_capacity, vec_len}
use Rattle.opc_gate.proofs.Running.{IsSureRun}
use Rattle.opc_gate.proofs.gate.Gate.run.Given as goal

abbrev pub invariant-loop-request : goal.invariant-loop-request
invariant-loop-request g l =
    record {
      sure : g.T.Tables.meaning.is_sure l.self → g.T.Tables.meaning.is_sure l.fn.self;
      room : length l.requests ≤ vec_capacity l.answers;
      counted : vec_len l.answers ≡ l.request-index;
      each : length l.answers.items ≡ l.request-index;
      run : IsSureRun g.T.Tables.meaning l.fn.self l.self (take l.request-index l.requests) l.answers.items;
    }
