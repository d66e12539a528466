-- Rows that are the same by their fields are the same, and keys that tie are one key.
use Rattle.std.proofs.Common.{◌≡◌, ◌&&◌, ℕ, Bool, true, false, List, Option, Some, None, refl, sym, ap, ◌∙◌, eqb-true, eq-eqb, is_eq, rules}
use Rattle.std.specs.Cmp.{IsTotalOrder, unsigned_ties}
use Rattle.std.specs.Cmp.Derive.{one_truth}
use Rattle.std.specs.Cmp.Lexicographic.{texts_ties}
use Rattle.std.specs.Str.{bytes_eq}
use Rattle.std.proofs.lemmas.Cmp.{on_total, nat_cmp_total, nat_list_cmp_total}
use Rattle.std.proofs.lemmas.Slice.Eq.{bytes_eq-Decides}
use Rattle.opc_names.specs.declared.auth.Auth.{Auth}
use Rattle.opc_names.specs.declared.auth.Auth.TheVariants.{Master, All, Info, Sys, Io, Cons, SysIo, SysCons, IoCons, SysIoCons}
use Rattle.opc_names.specs.contracts.auth.AuthPartialEq.TheImpl as of_auth
use Rattle.opc_names.specs.Spellings.{auths, auth_text, lookup}
use Rattle.opc_terms.specs.declared.mode.Mode.{Mode}
use Rattle.opc_terms.specs.declared.mode.Mode.TheVariants.{Optional, Required, Auto}
use Rattle.opc_terms.specs.contracts.mode.ModePartialEq.TheImpl as of_mode
use Rattle.opc_terms.specs.Modes.{mode_text, modes}
use Rattle.opc_board.specs.declared.rows.ConsoleRow.{ConsoleRow}
use Rattle.opc_board.specs.declared.rows.DeviceRow.{DeviceRow}
use Rattle.opc_board.specs.declared.rows.ReplyRow.{ReplyRow}
use Rattle.opc_board.specs.declared.rows.UnitKind.{UnitKind}
use Rattle.opc_board.specs.declared.rows.UnitKind.TheVariants.{Job, Stc, Tsu}
use Rattle.opc_board.specs.declared.rows.UnitRow.{UnitRow}
use Rattle.opc_state.specs.Members.{unit_cmp, device_cmp, console_cmp, reply_cmp}
use Rattle.opc_state.specs.Difference.{
  unit_at,
  device_at,
  console_at,
  reply_at,
  same_flag,
  same_text,
  same_kind,
  same_unit,
  same_device,
  same_console,
  same_reply,
}

pub unit_total : IsTotalOrder unit_cmp
unit_total = on_total (λ (u : UnitRow). u.name) nat_list_cmp_total

pub device_total : IsTotalOrder device_cmp
device_total = on_total (λ (d : DeviceRow). d.number) nat_list_cmp_total

pub console_total : IsTotalOrder console_cmp
console_total = on_total (λ (c : ConsoleRow). c.name) nat_list_cmp_total

pub reply_total : IsTotalOrder reply_cmp
reply_total = on_total (λ (r : ReplyRow). r.id) nat_cmp_total

pub unit_ties : (u v : UnitRow) → unit_at u v ≡ is_eq (unit_cmp u v)
unit_ties u v = texts_ties u.name v.name

pub device_ties : (d e : DeviceRow) → device_at d e ≡ is_eq (device_cmp d e)
device_ties d e = texts_ties d.number e.number

pub console_ties : (c d : ConsoleRow) → console_at c d ≡ is_eq (console_cmp c d)
console_ties c d = texts_ties c.name d.name

pub reply_ties : (r q : ReplyRow) → reply_at r q ≡ is_eq (reply_cmp r q)
reply_ties r q = unsigned_ties r.id q.id

pub first : (a b : Bool) → (a && b) ≡ true → a ≡ true
first true b h = refl
first false b h = absurd (cc)

pub rest : (a b : Bool) → (a && b) ≡ true → b ≡ true
rest true b h = h
rest false b h = absurd (cc)

pub names : (a b : List ℕ) → bytes_eq a b ≡ true → a ≡ b
names a b h = (bytes_eq-Decides a b).0 h

pub flags : (a b : Bool) → same_flag a b ≡ true → a ≡ b
flags true true h = refl
flags true false h = absurd (cc)
flags false true h = absurd (cc)
flags false false h = refl

pub texts : (a b : Option (List ℕ)) → same_text a b ≡ true → a ≡ b
texts None None h = refl
texts (Some a) (Some b) h = ap Some (names a b h)
texts (Some a) None h = absurd (cc)
texts None (Some b) h = absurd (cc)

kinds : (a b : UnitKind) → same_kind a b ≡ true → a ≡ b
kinds Job Job h = refl
kinds Job (Stc n) h = absurd (cc)
kinds Job Tsu h = absurd (cc)
kinds (Stc m) Job h = absurd (cc)
kinds (Stc m) (Stc n) h = ap Stc (names m n h)
kinds (Stc m) Tsu h = absurd (cc)
kinds Tsu Job h = absurd (cc)
kinds Tsu (Stc n) h = absurd (cc)
kinds Tsu Tsu h = refl

auth_reads_back : (a : Auth) → lookup auths (auth_text a) ≡ Some a
auth_reads_back Master = refl
auth_reads_back All = refl
auth_reads_back Info = refl
auth_reads_back Sys = refl
auth_reads_back Io = refl
auth_reads_back Cons = refl
auth_reads_back SysIo = refl
auth_reads_back SysCons = refl
auth_reads_back IoCons = refl
auth_reads_back SysIoCons = refl

pub auth_of : (a b : Auth) → bytes_eq (auth_text a) (auth_text b) ≡ true → a ≡ b
auth_of a b h = let s : Some a ≡ Some b = sym (auth_reads_back a) ∙ ap (lookup auths) (names (auth_text a) (auth_text b) h) ∙ auth_reads_back b in cc

mode_reads_back : (m : Mode) → lookup modes (mode_text m) ≡ Some m
mode_reads_back Optional = refl
mode_reads_back Required = refl
mode_reads_back Auto = refl

pub mode_of : (a b : Mode) → bytes_eq (mode_text a) (mode_text b) ≡ true → a ≡ b
mode_of a b h = let s : Some a ≡ Some b = sym (mode_reads_back a) ∙ ap (lookup modes) (names (mode_text a) (mode_text b) h) ∙ mode_reads_back b in cc

pub units_same : (u v : UnitRow) → same_unit u v ≡ true → u ≡ v
units_same u v h =
    let name : u.name ≡ v.name = names _ _ (first _ _ h) in
    let h1 = rest _ _ h in
    let kind : u.kind ≡ v.kind = kinds _ _ (first _ _ h1) in
    let h2 = rest _ _ h1 in
    let cancelable : u.cancelable ≡ v.cancelable = flags _ _ (first _ _ h2) in
    let h3 = rest _ _ h2 in
    let stopping : u.stopping ≡ v.stopping = flags _ _ (first _ _ h3) in
    let last_text : u.last_text ≡ v.last_text = texts _ _ (rest _ _ h3) in
    λ i. record { name = name i; kind = kind i; cancelable = cancelable i; stopping = stopping i; last_text = last_text i }

pub devices_same : (d e : DeviceRow) → same_device d e ≡ true → d ≡ e
devices_same d e h =
    let number : d.number ≡ e.number = names _ _ (first _ _ h) in
    let h1 = rest _ _ h in
    let online : d.online ≡ e.online = flags _ _ (first _ _ h1) in
    let h2 = rest _ _ h1 in
    let volume : d.volume ≡ e.volume = texts _ _ (first _ _ h2) in
    let unit : d.unit ≡ e.unit = texts _ _ (rest _ _ h2) in
    λ i. record { number = number i; online = online i; volume = volume i; unit = unit i }

pub consoles_same : (c d : ConsoleRow) → same_console c d ≡ true → c ≡ d
consoles_same c d h =
    let name : c.name ≡ d.name = names _ _ (first _ _ h) in
    let h1 = rest _ _ h in
    let auth : c.auth ≡ d.auth = auth_of _ _ (first _ _ h1) in
    let h2 = rest _ _ h1 in
    let mode : c.mode ≡ d.mode = mode_of _ _ (first _ _ h2) in
    let h3 = rest _ _ h2 in
    let online : c.online ≡ d.online = flags _ _ (first _ _ h3) in
    let h4 = rest _ _ h3 in
    let user : c.user ≡ d.user = texts _ _ (first _ _ h4) in
    let monitor : c.monitor ≡ d.monitor = flags _ _ (rest _ _ h4) in
    λ i. record { name = name i; auth = auth i; mode = mode i; online = online i; user = user i; monitor = monitor i }

pub replies_same : (r q : ReplyRow) → same_reply r q ≡ true → r ≡ q
replies_same r q h =
    let id : r.id ≡ q.id = eqb-true r.id q.id (first _ _ h) in
    let text : r.text ≡ q.text = names _ _ (rest _ _ h) in
    λ i. record { id = id i; text = text i }

-- and each row is the same as itself

pub both : (a b : Bool) → a ≡ true → b ≡ true → (a && b) ≡ true
both true b h k = k
both false b h k = absurd (cc)

pub name_itself : (a : List ℕ) → bytes_eq a a ≡ true
name_itself a = (bytes_eq-Decides a a).1 refl

pub flag_itself : (a : Bool) → same_flag a a ≡ true
flag_itself true = refl
flag_itself false = refl

pub text_itself : (a : Option (List ℕ)) → same_text a a ≡ true
text_itself None = refl
text_itself (Some a) = name_itself a

kind_itself : (a : UnitKind) → same_kind a a ≡ true
kind_itself Job = refl
kind_itself (Stc m) = name_itself m
kind_itself Tsu = refl

pub unit_itself : (u : UnitRow) → same_unit u u ≡ true
unit_itself u = both _ _ (name_itself u.name)
    (both _ _ (kind_itself u.kind) (both _ _ (flag_itself u.cancelable)
    (both _ _ (flag_itself u.stopping) (text_itself u.last_text))))

pub device_itself : (d : DeviceRow) → same_device d d ≡ true
device_itself d = both _ _ (name_itself d.number) (both _ _ (flag_itself d.online) (both _ _ (text_itself d.volume) (text_itself d.unit)))

pub console_itself : (c : ConsoleRow) → same_console c c ≡ true
console_itself c = both _ _ (name_itself c.name)
    (both _ _ (name_itself (auth_text c.auth))
    (both _ _ (name_itself (mode_text c.mode))
    (both _ _ (flag_itself c.online) (both _ _ (text_itself c.user) (flag_itself c.monitor)))))

pub reply_itself : (r : ReplyRow) → same_reply r r ≡ true
reply_itself r = both _ _ (eq-eqb r.id r.id refl) (name_itself r.text)

-- The equality that a type derives is that of its texts.

derived_auth : (a : Auth) → of_auth.eq-value.it a a ≡ true
derived_auth a = search rules

pub same_auths : (a b : Auth) → of_auth.eq-value.it a b ≡ bytes_eq (auth_text a) (auth_text b)
same_auths a b = one_truth (of_auth.eq-value.it a b) (bytes_eq (auth_text a) (auth_text b))
    (λ h. let same : a ≡ b = search (rules, h) in ap (λ x. bytes_eq (auth_text a) (auth_text x)) (sym same) ∙ name_itself (auth_text a))
    (λ h. ap (of_auth.eq-value.it a) (sym (auth_of a b h)) ∙ derived_auth a)

derived_mode : (m : Mode) → of_mode.eq-value.it m m ≡ true
derived_mode m = search rules

pub same_modes : (m k : Mode) → of_mode.eq-value.it m k ≡ bytes_eq (mode_text m) (mode_text k)
same_modes m k = one_truth (of_mode.eq-value.it m k) (bytes_eq (mode_text m) (mode_text k))
    (λ h. let same : m ≡ k = search (rules, h) in ap (λ x. bytes_eq (mode_text m) (mode_text x)) (sym same) ∙ name_itself (mode_text m))
    (λ h. ap (of_mode.eq-value.it m) (sym (mode_of m k h)) ∙ derived_mode m)
