use Rattle.std.proofs.Common.{rules}
use Rattle.opc_board.specs.Enough.{no_rows}
use Rattle.opc_gate_footprints.proofs.Growing.{on_ok}
use Rattle.opc_gate_footprints.proofs.footprint.load_keys.Goals as goal

pub returns-in-Unit : goal.returns-in-Unit
returns-in-Unit g c = record {
  kept = search rules;
  answers = λ sure s represents. on_ok c.load_unit_once.result
      (λ grows unit keyed part. rw c.in-Unit.is (grows unit keyed no_rows part)) (c.load_unit_once.ensures.answers sure s represents);
}

pub returns-in-Leaving : goal.returns-in-Leaving
returns-in-Leaving g c = record {
  kept = search rules;
  answers = λ sure s represents. on_ok c.load_leaving.result
      (λ grows unit keyed part. rw c.in-Leaving.is (grows unit keyed part)) (c.load_leaving.ensures.answers sure s represents);
}

pub returns-in-Device : goal.returns-in-Device
returns-in-Device g c = record {
  kept = search rules;
  answers = λ sure s represents. on_ok c.load_device.result
      (λ grows unit keyed part. rw c.in-Device.is (grows keyed no_rows part)) (c.load_device.ensures.answers sure s represents);
}

pub returns-in-Swapped : goal.returns-in-Swapped
returns-in-Swapped g c = record {
  kept = search rules;
  answers = λ sure s represents. on_ok c.load_swapped.result
      (λ grows unit keyed part. rw c.in-Swapped.is (grows keyed no_rows part)) (c.load_swapped.ensures.answers sure s represents);
}

pub returns-in-Taken : goal.returns-in-Taken
returns-in-Taken g c = record {
  kept = search rules;
  answers = λ sure s represents. on_ok c.load_taken.result
      (λ grows unit keyed part. rw c.in-Taken.is (grows keyed no_rows part)) (c.load_taken.ensures.answers sure s represents);
}

pub returns-in-Console : goal.returns-in-Console
returns-in-Console g c = record {
  kept = search rules;
  answers = λ sure s represents. on_ok c.load_console.result
      (λ grows unit keyed part. rw c.in-Console.is (grows keyed no_rows part)) (c.load_console.ensures.answers sure s represents);
}

pub returns-in-Addressed : goal.returns-in-Addressed
returns-in-Addressed g c = record {
  kept = search rules;
  answers = λ sure s represents. on_ok c.load_addressed.result
      (λ grows unit keyed part. rw c.in-Addressed.is (grows keyed part)) (c.load_addressed.ensures.answers sure s represents);
}

pub returns-in-Reply : goal.returns-in-Reply
returns-in-Reply g c = record {
  kept = search rules;
  answers = λ sure s represents. on_ok c.load_reply.result
      (λ grows unit keyed part. rw c.in-Reply.is (grows keyed no_rows part)) (c.load_reply.ensures.answers sure s represents);
}
