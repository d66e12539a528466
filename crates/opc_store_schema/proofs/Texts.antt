-- Each statement that makes a table or an index defines its own.
use Rattle.std.proofs.Common.{refl}
use Rattle.sqlite_tied.specs.Compute.{everything}
use Rattle.sqlite.specs.Listing.{understood}
use Rattle.opc_store_sql.specs.Shapes.{no_schema}
use Rattle.opc_store_sql.proofs.Making.{AreDefined, AreIndexed}
use Rattle.opc_store_schema.specs.Making.{lasting, last, indexes}
use Rattle.opc_store_schema.specs.Placed.{consoles_at, devices_at}
use Rattle.opc_store_schema.specs.Tables.{lasting_tables, last_tables, the_indexes, lasting_schema, tables_schema}

pub lasting_defined : AreDefined no_schema lasting lasting_tables
unfolding understood everything
lasting_defined = (
  (refl, (refl, refl), refl, refl),
  (
    (refl, (refl, refl), refl, refl),
    (
      (refl, (refl, refl), refl, refl),
      (
        (refl, (refl, refl), refl, refl),
        (
          (refl, (refl, refl), refl, refl),
          (
            (refl, (refl, refl), refl, refl),
            (
              (refl, (refl, refl), refl, refl),
              (
                (refl, (refl, refl), refl, refl),
                (
                  (refl, (refl, refl), refl, refl),
                  (
                    (refl, (refl, refl), refl, refl),
                    (
                      (refl, (refl, refl), refl, refl),
                      (
                        (refl, (refl, refl), refl, refl),
                        ((refl, (refl, refl), refl, refl), tt),
                      ),
                    ),
                  ),
                ),
              ),
            ),
          ),
        ),
      ),
    ),
  ),
)

pub last_defined : AreDefined lasting_schema last last_tables
unfolding understood everything
last_defined = (
  (refl, (refl, refl), refl, refl),
  (
    (refl, (refl, refl), refl, refl),
    ((refl, (refl, refl), refl, refl), ((refl, (refl, refl), refl, refl), tt)),
  ),
)

pub indexes_defined : AreIndexed tables_schema indexes the_indexes
unfolding understood everything
indexes_defined = (
  (refl, (refl, refl), consoles_at, refl, refl),
  ((refl, (refl, refl), consoles_at, refl, refl), ((refl, (refl, refl), devices_at, refl, refl), tt)),
)
