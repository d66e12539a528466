use Rattle.opc_machine_laws.proofs.Reporting.{read_back, spelled, texts_say}
use Rattle.opc_machine_laws.proofs.meanings.what_is_read_is_what_is_written.Goals as goal

pub returns : goal.returns
returns c = record { spellings = read_back; verbs = spelled; texts = texts_say }
