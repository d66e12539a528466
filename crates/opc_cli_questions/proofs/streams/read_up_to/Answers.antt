use Rattle.std.proofs.Common.{◌≡◌, ◌≤◌, ◌+◌, length, vec_len, arith}
use Rattle.opc_io.proofs.Reading.{takes-after}
use Rattle.opc_cli_questions.proofs.Taking.{full_read}
use Rattle.opc_cli_questions.proofs.streams.read_up_to.Goals as goal

pub returns-in_err-read_block-clause-most : goal.returns-in_err-read_block-clause-most
returns-in_err-read_block-clause-most g c =
    let inv = c.loop-input.invariant in
    let bytes = c.loop-input.bytes in
    let is : length bytes.items ≡ vec_len bytes = omega (arith, bytes.ok.0) in
    let fits : length bytes.items ≤ c.args.limit + 1 = omega arith in
    takes-after (c.args.limit + 1) (vec_len bytes) _ _ _ bytes.items inv.1 fits is c.read_block.ensures.most

pub returns : goal.returns
returns g c =
    let inv = c.loop-input.invariant in
    let bytes = c.loop-input.bytes in
    let is : length bytes.items ≡ vec_len bytes = omega (arith, bytes.ok.0) in
    let full : length bytes.items ≡ c.args.limit + 1 = omega arith in
    record {
      bytes = full_read (c.args.limit + 1) _ _ bytes.items inv.1 full;
      most = record { taken = bytes.items; consumes = inv.1; few = omega arith };
    }
