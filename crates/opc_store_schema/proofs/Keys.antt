-- The orders of names.
use Rattle.std.proofs.Common.{◌≡◌, ℕ, List, refl, ap₂, subst, Ordering, Less, Equal, Greater}
use Rattle.std.specs.Cmp.{IsTotalOrder}
use Rattle.std.specs.Cmp.Lexicographic.{options_total}
use Rattle.std.proofs.lemmas.Cmp.{on_total, then_total, nat_cmp_total, nat_list_cmp_total}
use Rattle.std.proofs.lemmas.Map.Lookups.{exact_bytes}
use Rattle.std.specs.Ordering.{nat_cmp, ordering_then}
use Rattle.opc_policy_members.specs.Members.{name_cmp, user_cmp, connect_cmp}
use Rattle.opc_policy_members.specs.declared.user.User.{User}
use Rattle.opc_policy_members.specs.declared.connect.Connect.{Connect}
use Rattle.opc_policy_members.specs.declared.entry.Entry.{Entry}
use Rattle.opc_policy_members.specs.declared.profile.Profile.{Profile}
use Rattle.opc_policy_members.specs.Access.{entry_cmp}
use Rattle.opc_policy_members.specs.Profiles.{class_cmp, profile_cmp}
use Rattle.opc_names.specs.declared.class.Class.{Class}
use Rattle.opc_names.specs.declared.class.Class.TheVariants.{Console, Opercmds}
use Rattle.opc_names.specs.Order.{sort_key}
use Rattle.opc_board.specs.declared.rows.UnitRow.{UnitRow}
use Rattle.opc_board.specs.declared.rows.DeviceRow.{DeviceRow}
use Rattle.opc_board.specs.declared.rows.ConsoleRow.{ConsoleRow}
use Rattle.opc_board.specs.declared.rows.ReplyRow.{ReplyRow}
use Rattle.opc_state.specs.Members.{unit_cmp, device_cmp, console_cmp, reply_cmp, batch_cmp}
use Rattle.opc_state.specs.declared.change.Batch.{Batch}

pub group_total : IsTotalOrder name_cmp
group_total = nat_list_cmp_total

pub user_total : IsTotalOrder user_cmp
user_total = on_total (λ (u : User). u.id) nat_list_cmp_total

pub connect_total : IsTotalOrder connect_cmp
connect_total = then_total (on_total (λ (c : Connect). c.user) nat_list_cmp_total) (on_total (λ (c : Connect). c.group) nat_list_cmp_total)

pub unit_total : IsTotalOrder unit_cmp
unit_total = on_total (λ (u : UnitRow). u.name) nat_list_cmp_total

pub device_total : IsTotalOrder device_cmp
device_total = on_total (λ (d : DeviceRow). d.number) nat_list_cmp_total

pub console_total : IsTotalOrder console_cmp
console_total = on_total (λ (c : ConsoleRow). c.name) nat_list_cmp_total

pub reply_total : IsTotalOrder reply_cmp
reply_total = on_total (λ (r : ReplyRow). r.id) nat_cmp_total

pub batch_total : IsTotalOrder batch_cmp
batch_total = on_total (λ (b : Batch). b.number) nat_cmp_total

abbrev class_rank : Class → ℕ
class_rank Console = 0
class_rank Opercmds = 1

by_rank : (c d : Class) → nat_cmp (class_rank c) (class_rank d) ≡ class_cmp c d
by_rank Console Console = refl
by_rank Console Opercmds = refl
by_rank Opercmds Console = refl
by_rank Opercmds Opercmds = refl

pub class_total : IsTotalOrder class_cmp
class_total = subst IsTotalOrder (λ i c d. by_rank c d i) (on_total class_rank nat_cmp_total)

pub profile_total : IsTotalOrder profile_cmp
profile_total = then_total (on_total (λ (p : Profile). p.class) class_total) (on_total (λ (p : Profile). sort_key p.pattern) nat_list_cmp_total)

pub entry_total : IsTotalOrder entry_cmp
entry_total = then_total (on_total (λ (e : Entry). e.id) nat_list_cmp_total) (on_total (λ (e : Entry). e.when) (options_total nat_list_cmp_total))

pub same_name : (a b : List ℕ) → name_cmp a b ≡ Equal → a ≡ b
same_name = exact_bytes

pub same_connect : (c d : Connect) → connect_cmp c d ≡ Equal → c ≡ d
same_connect c d h = go (name_cmp c.user d.user) refl h
  where
    go : (o : Ordering) → name_cmp c.user d.user ≡ o → ordering_then o (name_cmp c.group d.group) ≡ Equal → c ≡ d
    go Less e h = absurd cc
    go Equal e h = ap₂ (λ (user group : List ℕ). let r : Connect = record {
      user = user;
      group = group;
    } in r) (same_name c.user d.user e) (same_name c.group d.group h)
    go Greater e h = absurd cc
