-- The same rows differ nowhere.
use Rattle.std.proofs.Common.{◌≡◌, ◌∙◌, ap, refl, true, false, cond, List, [], ◌∷◌, Option, Some, None, filter, map, rules}
use Rattle.std.specs.Prelude.{not}
use Rattle.std.specs.Option.{option_eq}
use Rattle.opc_policy_members.specs.declared.row.Row.{Row}
use Rattle.opc_policy_members.specs.contracts.row.RowPartialEq.TheImpl as of_row
use Rattle.opc_answers_diff.specs.declared.row_place.RowPlace.{RowPlace}
use Rattle.opc_answers_diff.specs.Laws.{SameRowsDifferNowhere}
use Rattle.opc_answers_diff.specs.RowChanges.{differs, places_with, row_at, row_change, with_classes}

row_itself : (r : Row) → of_row.eq-value.it r r ≡ true
row_itself r = search rules

same_itself : (r : Option Row) → option_eq of_row.eq-value.it r r ≡ true
same_itself None = refl
same_itself (Some r) = row_itself r

not_different : (before after : List Row) (place : RowPlace) → row_at before place ≡ row_at after place
    → differs (row_change before after place) ≡ false
not_different before after place same =
    ap (λ r. not (option_eq of_row.eq-value.it r (row_at after place))) same ∙ ap not (same_itself (row_at after place))

none_left : (before after : List Row) (places : List RowPlace) → ((place : RowPlace) → row_at before place ≡ row_at after place)
    → filter differs (map (row_change before after) places) ≡ []
none_left before after [] same = refl
none_left before after (place ∷ places) same =
    ap (λ b. cond b (row_change before after place ∷ filter differs (map (row_change before after) places))
    (filter differs (map (row_change before after) places))) (not_different before after place (same place))
    ∙ none_left before after places same

pub same_rows_differ_nowhere : SameRowsDifferNowhere
same_rows_differ_nowhere before after same =
    none_left (with_classes before) (with_classes after) (places_with (with_classes after) (places_with (with_classes before) [])) same
