-- Rows in order, and one more that may be among them already.
use Rattle.std.specs.Prelude.{Bool, if◌then◌else◌, List, Option, Some, None}
use Rattle.std.specs.List.{find}
use Rattle.std.specs.Option.{is_some}
use Rattle.opc_rows.specs.Ordered.{put}

abbrev pub joined : {A : Type 0} → (A → A → Bool) → (A → Bool) → Option A → List A → List A
joined before is_at None rows = rows
joined before is_at (Some row) rows = if is_some (find is_at rows) then rows else put before row rows
