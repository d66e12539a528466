use Rattle.opc_gate_footprints.proofs.Naming.{addressed_sees, varied_sees}
use Rattle.opc_gate_footprints.proofs.keys.keys_of_command.Goals as goal

pub returns-in-VaryConsoleOnline : goal.returns-in-VaryConsoleOnline
returns-in-VaryConsoleOnline c = λ footprint b console order sees typed. rw c.in-VaryConsoleOnline.is
    (varied_sees footprint b c.in-VaryConsoleOnline.name.value order sees)

pub returns-in-VaryConsoleOffline : goal.returns-in-VaryConsoleOffline
returns-in-VaryConsoleOffline c = λ footprint b console order sees typed. rw c.in-VaryConsoleOffline.is
    (varied_sees footprint b c.in-VaryConsoleOffline.name.value order sees)

pub returns-in-VaryConsoleAuth : goal.returns-in-VaryConsoleAuth
returns-in-VaryConsoleAuth c = λ footprint b console order sees typed. rw c.in-VaryConsoleAuth.is
    (varied_sees footprint b c.in-VaryConsoleAuth.name.value order sees)

pub returns-in-Send : goal.returns-in-Send
returns-in-Send c = λ footprint b console order sees typed. rw c.in-Send.is (addressed_sees footprint b c.in-Send.user.value sees)
