-- What the query on a class reads.
use Rattle.std.proofs.Common.{◌≡◌, List, [], ◌∷◌, map, filter, codes, Bool, refl, ◌∙◌, Ordering, is_eq}
use Rattle.sqlite.specs.Order.{Row}
use Rattle.sqlite.specs.declared.types.Value.TheVariants.{Text}
use Rattle.sqlite.specs.Listing.{understood}
use Rattle.sqlite.specs.State.{State as SqlState, Shown}
use Rattle.sqlite_tied.specs.Compute.{everything}
use Rattle.sqlite_value.proofs.OrderLemmas.{value_cmp-Text}
use Rattle.opc_store_sql.specs.Order.{text_cmp}
use Rattle.opc_store_sql.proofs.Asked.{Asked, IsAsked, by_columns, columns, returned}
use Rattle.opc_store_sql.proofs.Keyed.{same_columns}
use Rattle.opc_store_sql.proofs.Values.{equal_texts, and_true}
use Rattle.opc_names.specs.declared.class.Class.{Class}
use Rattle.opc_names.specs.declared.class.Class.TheVariants.{Console, Opercmds}
use Rattle.opc_names.specs.Spellings.{class_text}
use Rattle.opc_policy_members.specs.Taken.{is_active}
use Rattle.opc_state.specs.State.{State}
use Rattle.opc_store_schema.specs.Placed.{classes_at}
use Rattle.opc_store_schema.specs.Tables.{the_schema}
use Rattle.opc_store_schema.specs.Represented.{Represents, class_row}

abbrev pub class : Asked
class = record {
  schema = the_schema;
  text = codes "SELECT class, active FROM classes WHERE class = ?1 ORDER BY class";
  tree = classes_at.tree;
  tests = same_columns 0 1;
  project = columns 1 2;
  order = by_columns 1 1;
}

pub class_asked : IsAsked class
unfolding understood everything
class_asked = record { selects = refl; unlisted = refl; plain = (refl, refl); shows = λ schema base. refl }

abbrev class_order : Class × Bool → Class × Bool → Ordering
class_order x y = text_cmp (class_text x.0) (class_text y.0)

-- both classes, always
abbrev classes_of : State → List (Class × Bool)
classes_of s = (Console, s.policy.active.console) ∷ (Opercmds, s.policy.active.opercmds) ∷ []

pub class_returned : (old new : SqlState) (s : State) → Represents old.now s → (of : Class) (rows : List Row)
    → Shown class.text (Text (class_text of) ∷ []) old new rows → rows ≡ class_row (of, is_active s.policy.active of)
    ∷ []
class_returned old new s was of rows h =
    returned class (Text (class_text of) ∷ []) refl class_row class_order (λ _. refl)
    (λ x y h. rw (value_cmp-Text (class_text x.0) (class_text y.0), h))
    (λ x. is_eq (text_cmp (class_text x.0) (class_text of)))
    (λ x. and_true _ ∙ equal_texts (class_text x.0) (class_text of))
    class_asked old new was.rows.schema (classes_of s) ((refl, tt), (tt, tt)) was.rows.holds.classes rows h
    ∙ one of
  where
    one : (of : Class)
        → map class_row (filter (λ (x : Class × Bool). is_eq (text_cmp (class_text x.0) (class_text of)))
        (classes_of s)) ≡ class_row (of, is_active s.policy.active of) ∷ []
    one Console = refl
    one Opercmds = refl
