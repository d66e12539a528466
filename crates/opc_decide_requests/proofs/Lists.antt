-- The elements of an array.
use Rattle.std.proofs.Common.{◌≡◌, List, [], ◌∷◌, Some, Ok, refl, sym, map}
use Rattle.serde_json.specs.Data.{Data}
use Rattle.serde_json.specs.Find.{as_array}
use Rattle.serde_json.specs.View.{items_of, items_view, view}
use Rattle.serde_json.specs.declared.value.Value.{Value}
use Rattle.opc_decide_requests.specs.Evaluations.{elements_of, list_at}

elements_so : (list : List Data) → elements_of (items_of list) ≡ list
elements_so [] = refl
elements_so (d ∷ list) = rw (elements_so list) refl

pub list_so : (d : Data) (list : List Value) → Some (items_view list) ≡ as_array d → list_at d ≡ Ok (map view list)
list_so d list e = rw (sym e, elements_so (map view list)) refl
