-- Each edit of the board, the account and the batches keeps the order of the parts.
use Rattle.std.proofs.Common.{ℕ, Bool, List, [], ◌++◌, ◌∷◌}
use Rattle.sqlite_keyed.proofs.ListLemmas.{ascending-filter}
use Rattle.opc_store_sql.proofs.Sets.{replaced_rises, all_replaced}
use Rattle.opc_board.specs.declared.rows.ConsoleRow.{ConsoleRow}
use Rattle.opc_board.specs.declared.rows.DeviceRow.{DeviceRow}
use Rattle.opc_board.specs.declared.rows.MessageRow.{MessageRow}
use Rattle.opc_board.specs.declared.rows.ReplyRow.{ReplyRow}
use Rattle.opc_board.specs.declared.rows.UnitRow.{UnitRow}
use Rattle.opc_state.specs.declared.account.AccountRow.{AccountRow}
use Rattle.opc_state.specs.declared.change.Batch.{Batch}
use Rattle.opc_state.specs.State.{State}
use Rattle.opc_state.specs.Changes.{
  with_units,
  with_devices,
  with_consoles,
  with_replies,
  with_halted,
  with_answered,
  with_log,
  with_messages,
  with_batches,
  with_account_row,
}
use Rattle.opc_state.specs.Members.{
  unit_cmp,
  device_cmp,
  console_cmp,
  reply_cmp,
  batch_cmp,
  with_batch,
  with_unit,
  with_device,
  with_console,
  with_reply,
  without_unit,
  without_device,
  without_console,
  without_reply,
}
use Rattle.opc_store_schema.specs.State.{IsOrdered, IsReadBack, CanBeNumbered}
use Rattle.opc_store_schema.proofs.Keys.{unit_total, device_total, console_total, reply_total, batch_total}

module _ (s : State) (h : IsOrdered s) where
  pub account_ordered : (row : AccountRow) → CanBeNumbered (s.account ++ row ∷ []) → IsOrdered (with_account_row row s)
  account_ordered row fits = record {
    groups = h.groups;
    users = h.users;
    connects = h.connects;
    profiles = h.profiles;
    patterns = h.patterns;
    entries = h.entries;
    units = h.units;
    devices = h.devices;
    consoles = h.consoles;
    replies = h.replies;
    batches = h.batches;
    read_back = h.read_back;
    numbered = (fits, h.numbered.1, h.numbered.2, h.numbered.3);
  }

  pub halted_ordered : (halted : Bool) → IsOrdered (with_halted halted s)
  halted_ordered halted = record {
    groups = h.groups;
    users = h.users;
    connects = h.connects;
    profiles = h.profiles;
    patterns = h.patterns;
    entries = h.entries;
    units = h.units;
    devices = h.devices;
    consoles = h.consoles;
    replies = h.replies;
    batches = h.batches;
    read_back = h.read_back;
    numbered = h.numbered;
  }

  pub answered_ordered : (reply : ReplyRow) → CanBeNumbered (s.board.answered ++ reply ∷ []) → IsOrdered (with_answered (s.board.answered ++ reply ∷ []) s)
  answered_ordered reply fits = record {
    groups = h.groups;
    users = h.users;
    connects = h.connects;
    profiles = h.profiles;
    patterns = h.patterns;
    entries = h.entries;
    units = h.units;
    devices = h.devices;
    consoles = h.consoles;
    replies = h.replies;
    batches = h.batches;
    read_back = h.read_back;
    numbered = (h.numbered.0, fits, h.numbered.2, h.numbered.3);
  }

  pub log_ordered : (text : List ℕ) → CanBeNumbered (s.board.log ++ text ∷ []) → IsOrdered (with_log (s.board.log ++ text ∷ []) s)
  log_ordered text fits = record {
    groups = h.groups;
    users = h.users;
    connects = h.connects;
    profiles = h.profiles;
    patterns = h.patterns;
    entries = h.entries;
    units = h.units;
    devices = h.devices;
    consoles = h.consoles;
    replies = h.replies;
    batches = h.batches;
    read_back = h.read_back;
    numbered = (h.numbered.0, h.numbered.1, fits, h.numbered.3);
  }

  pub messages_ordered : (message : MessageRow) → CanBeNumbered (s.board.messages ++ message ∷ [])
      → IsOrdered (with_messages (s.board.messages ++ message ∷ []) s)
  messages_ordered message fits = record {
    groups = h.groups;
    users = h.users;
    connects = h.connects;
    profiles = h.profiles;
    patterns = h.patterns;
    entries = h.entries;
    units = h.units;
    devices = h.devices;
    consoles = h.consoles;
    replies = h.replies;
    batches = h.batches;
    read_back = h.read_back;
    numbered = (h.numbered.0, h.numbered.1, h.numbered.2, fits);
  }

  pub with_unit_ordered : (unit : UnitRow) → IsOrdered (with_units (with_unit unit s.board.units) s)
  with_unit_ordered unit = record {
    groups = h.groups;
    users = h.users;
    connects = h.connects;
    profiles = h.profiles;
    patterns = h.patterns;
    entries = h.entries;
    units = replaced_rises unit_cmp unit_total unit s.board.units h.units;
    devices = h.devices;
    consoles = h.consoles;
    replies = h.replies;
    batches = h.batches;
    read_back = h.read_back;
    numbered = h.numbered;
  }

  pub without_unit_ordered : (name : List ℕ) → IsOrdered (with_units (without_unit name s.board.units) s)
  without_unit_ordered name = record {
    groups = h.groups;
    users = h.users;
    connects = h.connects;
    profiles = h.profiles;
    patterns = h.patterns;
    entries = h.entries;
    units = ascending-filter _ _ s.board.units h.units;
    devices = h.devices;
    consoles = h.consoles;
    replies = h.replies;
    batches = h.batches;
    read_back = h.read_back;
    numbered = h.numbered;
  }

  pub with_device_ordered : (device : DeviceRow) → IsOrdered (with_devices (with_device device s.board.devices) s)
  with_device_ordered device = record {
    groups = h.groups;
    users = h.users;
    connects = h.connects;
    profiles = h.profiles;
    patterns = h.patterns;
    entries = h.entries;
    units = h.units;
    devices = replaced_rises device_cmp device_total device s.board.devices h.devices;
    consoles = h.consoles;
    replies = h.replies;
    batches = h.batches;
    read_back = h.read_back;
    numbered = h.numbered;
  }

  pub without_device_ordered : (number : List ℕ) → IsOrdered (with_devices (without_device number s.board.devices) s)
  without_device_ordered number = record {
    groups = h.groups;
    users = h.users;
    connects = h.connects;
    profiles = h.profiles;
    patterns = h.patterns;
    entries = h.entries;
    units = h.units;
    devices = ascending-filter _ _ s.board.devices h.devices;
    consoles = h.consoles;
    replies = h.replies;
    batches = h.batches;
    read_back = h.read_back;
    numbered = h.numbered;
  }

  pub with_console_ordered : (console : ConsoleRow) → IsOrdered (with_consoles (with_console console s.board.consoles) s)
  with_console_ordered console = record {
    groups = h.groups;
    users = h.users;
    connects = h.connects;
    profiles = h.profiles;
    patterns = h.patterns;
    entries = h.entries;
    units = h.units;
    devices = h.devices;
    consoles = replaced_rises console_cmp console_total console s.board.consoles h.consoles;
    replies = h.replies;
    batches = h.batches;
    read_back = h.read_back;
    numbered = h.numbered;
  }

  pub without_console_ordered : (name : List ℕ) → IsOrdered (with_consoles (without_console name s.board.consoles) s)
  without_console_ordered name = record {
    groups = h.groups;
    users = h.users;
    connects = h.connects;
    profiles = h.profiles;
    patterns = h.patterns;
    entries = h.entries;
    units = h.units;
    devices = h.devices;
    consoles = ascending-filter _ _ s.board.consoles h.consoles;
    replies = h.replies;
    batches = h.batches;
    read_back = h.read_back;
    numbered = h.numbered;
  }

  pub with_reply_ordered : (reply : ReplyRow) → IsOrdered (with_replies (with_reply reply s.board.replies) s)
  with_reply_ordered reply = record {
    groups = h.groups;
    users = h.users;
    connects = h.connects;
    profiles = h.profiles;
    patterns = h.patterns;
    entries = h.entries;
    units = h.units;
    devices = h.devices;
    consoles = h.consoles;
    replies = replaced_rises reply_cmp reply_total reply s.board.replies h.replies;
    batches = h.batches;
    read_back = h.read_back;
    numbered = h.numbered;
  }

  pub without_reply_ordered : (id : ℕ) → IsOrdered (with_replies (without_reply id s.board.replies) s)
  without_reply_ordered id = record {
    groups = h.groups;
    users = h.users;
    connects = h.connects;
    profiles = h.profiles;
    patterns = h.patterns;
    entries = h.entries;
    units = h.units;
    devices = h.devices;
    consoles = h.consoles;
    replies = ascending-filter _ _ s.board.replies h.replies;
    batches = h.batches;
    read_back = h.read_back;
    numbered = h.numbered;
  }

  pub with_batch_ordered : (batch : Batch) → IsReadBack batch → IsOrdered (with_batches (with_batch batch s.batches) s)
  with_batch_ordered batch again = record {
    groups = h.groups;
    users = h.users;
    connects = h.connects;
    profiles = h.profiles;
    patterns = h.patterns;
    entries = h.entries;
    units = h.units;
    devices = h.devices;
    consoles = h.consoles;
    replies = h.replies;
    batches = replaced_rises batch_cmp batch_total batch s.batches h.batches;
    read_back = all_replaced batch_cmp batch_total IsReadBack batch s.batches again h.read_back;
    numbered = h.numbered;
  }
