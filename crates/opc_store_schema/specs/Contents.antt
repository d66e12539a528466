-- The rows of all tables, in values.
use Rattle.std.specs.Prelude.{List, [], ◌∷◌}
use Rattle.sqlite_value.specs.Order.{Row}
use Rattle.sqlite_trees.specs.Tree.{Trees}
use Rattle.opc_store_sql.specs.Rows.{IsFilled}
use Rattle.opc_store_schema.specs.Placed.{
  meta_at,
  classes_at,
  consoles_at,
  units_at,
  devices_at,
  replies_at,
  answered_at,
  log_at,
  messages_at,
  board_at,
  account_at,
  batches_at,
  grp_at,
  usr_at,
  connects_at,
  profiles_at,
  entries_at,
}

-- The rows that each table has. If the key is a number, the number stands first, as the rowid, and its own column is
-- NULL.
pub record Contents : Type 0 where
  pub meta : List Row
  pub classes : List Row
  pub consoles : List Row
  pub units : List Row
  pub devices : List Row
  pub replies : List Row
  pub answered : List Row
  pub log : List Row
  pub messages : List Row
  pub board : List Row
  pub account : List Row
  pub batches : List Row
  pub grp : List Row
  pub usr : List Row
  pub connects : List Row
  pub profiles : List Row
  pub entries : List Row

-- the rows of the tables, in the order of the schema
abbrev pub as_list : Contents → List (List Row)
as_list c =
    c.meta ∷ c.classes ∷ c.consoles ∷ c.units ∷ c.devices ∷ c.replies ∷ c.answered ∷ c.log ∷ c.messages
    ∷ c.board ∷ c.account ∷ c.batches ∷ c.grp ∷ c.usr ∷ c.connects ∷ c.profiles ∷ c.entries ∷ []

-- Each table has these rows, and no other.
pub record Holds (trees : Trees) (c : Contents) : Type 0 where
  pub meta : IsFilled meta_at c.meta trees
  pub classes : IsFilled classes_at c.classes trees
  pub consoles : IsFilled consoles_at c.consoles trees
  pub units : IsFilled units_at c.units trees
  pub devices : IsFilled devices_at c.devices trees
  pub replies : IsFilled replies_at c.replies trees
  pub answered : IsFilled answered_at c.answered trees
  pub log : IsFilled log_at c.log trees
  pub messages : IsFilled messages_at c.messages trees
  pub board : IsFilled board_at c.board trees
  pub account : IsFilled account_at c.account trees
  pub batches : IsFilled batches_at c.batches trees
  pub grp : IsFilled grp_at c.grp trees
  pub usr : IsFilled usr_at c.usr trees
  pub connects : IsFilled connects_at c.connects trees
  pub profiles : IsFilled profiles_at c.profiles trees
  pub entries : IsFilled entries_at c.entries trees
