-- What differs within a footprint is what differs at all, if the other rows are the same.
use Rattle.std.proofs.Common.{◌≡◌, ◌++◌, ℕ, Bool, true, false, not, List, filter, map, Some, Ordering, refl, sym, ap, ap₂, ◌∙◌, eqb-true}
use Rattle.std.specs.Cmp.{IsTotalOrder}
use Rattle.std.specs.List.{find}
use Rattle.std.specs.Option.{is_none}
use Rattle.std.specs.Ordering.{is_lt, is_eq}
use Rattle.std.specs.Str.{bytes_eq}
use Rattle.std.proofs.lemmas.Slice.Eq.{bytes_eq-Decides}
use Rattle.opc_rows.specs.Ordered.{Ascends}
use Rattle.opc_rows.proofs.Filtered.{filter_within, find_seen}
use Rattle.opc_rows.proofs.Orders.{all_weaker}
use Rattle.opc_board.specs.Footprint.{has_console_of, has_device_of, has_reply_of, has_unit_of}
use Rattle.opc_state.specs.declared.change.Edit.{Edit}
use Rattle.opc_state.specs.declared.change.Edit.TheVariants as edit
use Rattle.opc_state.specs.Difference.{
  gone,
  as_it_was,
  fresh,
  part_difference,
  unit_at,
  device_at,
  console_at,
  reply_at,
  same_unit,
  same_device,
  same_console,
  same_reply,
  unit_removal,
  device_removal,
  console_removal,
  reply_removal,
}
use Rattle.opc_state.specs.Members.{unit_cmp, device_cmp, console_cmp, reply_cmp}
use Rattle.opc_state.specs.Footprints.{DifferencesAreLocal}
use Rattle.opc_state.proofs.Replacing.{each_found}
use Rattle.opc_state.proofs.SameRows.{
  unit_total,
  device_total,
  console_total,
  reply_total,
  unit_ties,
  device_ties,
  console_ties,
  reply_ties,
  unit_itself,
  device_itself,
  console_itself,
  reply_itself,
}

same_name : (a b : List ℕ) → bytes_eq a b ≡ true → a ≡ b
same_name a b h = (bytes_eq-Decides a b).0 h

module _ {R : Type 0} (cmp : R → R → Ordering) (total : IsTotalOrder cmp) (is_at is_same : R → R → Bool)
    (ties : (q r : R) → is_at q r ≡ is_eq (cmp q r)) (itself : (r : R) → is_same r r ≡ true)
    (removal put : R → Edit) where
  -- a row is looked up among those that are chosen in the same way
  find_alike : (s : R → Bool) → ((q r : R) → is_at q r ≡ true → s q ≡ s r) → (r : R) → s r ≡ true → (rows : List R)
      → find (λ q. is_at q r) (filter s rows) ≡ find (λ q. is_at q r) rows
  find_alike s alike r chosen rows = find_seen (λ q. is_at q r) s (λ q here. alike q r here ∙ chosen) rows

  -- what is not in the footprint is in both
  elsewhere : (s : R → Bool) → ((q r : R) → is_at q r ≡ true → s q ≡ s r) → (rows others : List R)
      → filter (λ q. not (s q)) others ≡ filter (λ q. not (s q)) rows → (r : R) → s r ≡ false
      → find (λ q. is_at q r) rows ≡ Some r → find (λ q. is_at q r) others ≡ Some r
  elsewhere s alike rows others left r out found =
      sym (find_alike (λ q. not (s q)) (λ x y h. ap not (alike x y h)) r (ap not out) others)
      ∙ ap (find (λ q. is_at q r)) left
      ∙ find_alike (λ q. not (s q)) (λ x y h. ap not (alike x y h)) r (ap not out) rows
      ∙ found

  parts_alike : (s : R → Bool) → ((q r : R) → is_at q r ≡ true → s q ≡ s r) → (old new : List R)
      → Ascends (λ q r. is_lt (cmp q r)) old → Ascends (λ q r. is_lt (cmp q r)) new
      → filter (λ q. not (s q)) new ≡ filter (λ q. not (s q)) old
      → part_difference is_at is_same removal put (filter s old) (filter s new) ≡ part_difference is_at is_same removal put old new
  parts_alike s alike old new was now left = ap₂ (λ rs ps. map removal rs ++ map put ps) goes comes
    where
      goes : gone is_at (filter s old) (filter s new) ≡ gone is_at old new
      goes =
          filter_within (λ r. is_none (find (λ q. is_at q r) (filter s new))) (λ r. is_none (find (λ q. is_at q r) new)) s old
          (all_weaker (λ r. find (λ q. is_at q r) old ≡ Some r) _
          (λ r found. (
            λ there. ap is_none (find_alike s alike r there new),
            λ out. ap is_none (elsewhere s alike old new left r out found),
          )) old
          (each_found cmp total is_at ties old was))

      comes : fresh is_at is_same (filter s old) (filter s new) ≡ fresh is_at is_same old new
      comes =
          filter_within (λ r. not (as_it_was is_same (find (λ q. is_at q r) (filter s old)) r))
          (λ r. not (as_it_was is_same (find (λ q. is_at q r) old) r)) s new
          (all_weaker (λ r. find (λ q. is_at q r) new ≡ Some r) _
          (λ r found. (
            λ there. ap (λ o. not (as_it_was is_same o r)) (find_alike s alike r there old),
            λ out. ap (λ o. not (as_it_was is_same o r)) (elsewhere s alike new old (sym left) r out found)
                ∙ ap not (itself r),
          )) new (each_found cmp total is_at ties new now))

pub differences : DifferencesAreLocal
differences footprint old new was now left =
    rw (
      parts_alike unit_cmp unit_total unit_at same_unit unit_ties unit_itself unit_removal edit.PutUnit
          (has_unit_of footprint) (λ q r h. ap footprint.units (same_name q.name r.name h)) old.units new.units
          was.units now.units left.units,
      parts_alike device_cmp device_total device_at same_device device_ties device_itself device_removal edit.PutDevice
          (has_device_of footprint) (λ q r h. ap footprint.devices (same_name q.number r.number h)) old.devices
          new.devices was.devices now.devices left.devices,
      parts_alike console_cmp console_total console_at same_console console_ties console_itself console_removal
          edit.PutConsole (has_console_of footprint) (λ q r h. ap footprint.consoles (same_name q.name r.name h))
          old.consoles new.consoles was.consoles now.consoles left.consoles,
      parts_alike reply_cmp reply_total reply_at same_reply reply_ties reply_itself reply_removal edit.PutReply
          (has_reply_of footprint) (λ q r h. ap footprint.replies (eqb-true q.id r.id h)) old.replies new.replies
          was.replies now.replies left.replies,
    ) refl
