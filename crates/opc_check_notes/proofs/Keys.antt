-- Keys that compare as equal are the same.
use Rattle.std.proofs.Common.{◌≡◌, ℕ, Bool, true, false, cond, ◌&&◌, ◌||◌, List, Option, Some, None, is_some, refl, sym, ap, ◌∙◌}
use Rattle.std.specs.Prelude.{if◌then◌else◌}
use Rattle.std.specs.Cmp.Lexicographic.{slice_cmp}
use Rattle.std.specs.Option.{option_cmp, option_eq}
use Rattle.std.specs.Ordering.{is_eq, nat_cmp, ordering_then}
use Rattle.std.specs.Str.{bytes_eq}
use Rattle.std.specs.declared.cmp.Ordering.{Ordering}
use Rattle.std.specs.declared.cmp.Ordering.TheVariants.{Less, Equal, Greater}
use Rattle.std.proofs.lemmas.Map.Text.{is_eq-slice_cmp}
use Rattle.std.proofs.lemmas.Slice.Eq.{bytes_eq-Decides}
use Rattle.opc_names.specs.Authority.{same_class}
use Rattle.opc_names.specs.contracts.class.ClassOrd.TheImpl.{ghosts as classes}
use Rattle.opc_names.specs.declared.class.Class.{Class}
use Rattle.opc_names.specs.declared.class.Class.TheVariants.{Console, Opercmds}
use Rattle.opc_check_notes.specs.contracts.effect.RowKeyOrd.TheImpl.{ghosts}
use Rattle.opc_check_notes.specs.declared.effect.RowKey.{RowKey}
use Rattle.opc_check_notes.specs.declared.effect.RowKey.TheVariants as key
use Rattle.opc_check_notes.specs.Effect.{same_key}
use Rattle.opc_check_notes.specs.declared.effect.Kept.{Kept}

both : (a b : Ordering) → is_eq (ordering_then a b) ≡ (is_eq a && is_eq b)
both Less b = refl
both Equal b = refl
both Greater b = refl

four : (a b c d : Ordering)
    → is_eq (ordering_then a (ordering_then b (ordering_then c d))) ≡ (is_eq a && (is_eq b && (is_eq c && is_eq d)))
four Less b c d = refl
four Greater b c d = refl
four Equal Less c d = refl
four Equal Greater c d = refl
four Equal Equal Less d = refl
four Equal Equal Greater d = refl
four Equal Equal Equal d = refl

and_so : {a b c d : Bool} → a ≡ b → c ≡ d → (a && c) ≡ (b && d)
and_so {a} {b} {c} {d} one other = ap (λ x. x && c) one ∙ ap (λ x. b && x) other

-- the id is compared first, and named third
id_third : (i c p w : Bool) → (i && (c && (p && w))) ≡ (c && (p && (i && w)))
id_third true c p w = refl
id_third false true true w = refl
id_third false true false w = refl
id_third false false p w = refl

pub of_class : (c d : Class) → is_eq (classes.cmp c d) ≡ same_class c d
of_class Console Console = refl
of_class Console Opercmds = refl
of_class Opercmds Console = refl
of_class Opercmds Opercmds = refl

pub of_option : (a b : Option (List ℕ)) → is_eq (option_cmp (slice_cmp nat_cmp) a b) ≡ option_eq bytes_eq a b
of_option None None = refl
of_option None (Some b) = refl
of_option (Some a) None = refl
of_option (Some a) (Some b) = is_eq-slice_cmp a b

pub keys_so : (k q : RowKey) → is_eq (ghosts.cmp k q) ≡ same_key k q
keys_so (key.Class c) (key.Class c_) = of_class c c_
keys_so (key.Class c) (key.Group g_) = refl
keys_so (key.Class c) (key.User u_) = refl
keys_so (key.Class c) (key.Connect u_ g_) = refl
keys_so (key.Class c) (key.Console n_) = refl
keys_so (key.Class c) (key.Profile c_ p_) = refl
keys_so (key.Class c) (key.Permit i_ c_ p_ w_) = refl
keys_so (key.Group g) (key.Class c_) = refl
keys_so (key.Group g) (key.Group g_) = is_eq-slice_cmp g g_
keys_so (key.Group g) (key.User u_) = refl
keys_so (key.Group g) (key.Connect u_ g_) = refl
keys_so (key.Group g) (key.Console n_) = refl
keys_so (key.Group g) (key.Profile c_ p_) = refl
keys_so (key.Group g) (key.Permit i_ c_ p_ w_) = refl
keys_so (key.User u) (key.Class c_) = refl
keys_so (key.User u) (key.Group g_) = refl
keys_so (key.User u) (key.User u_) = is_eq-slice_cmp u u_
keys_so (key.User u) (key.Connect u_ g_) = refl
keys_so (key.User u) (key.Console n_) = refl
keys_so (key.User u) (key.Profile c_ p_) = refl
keys_so (key.User u) (key.Permit i_ c_ p_ w_) = refl
keys_so (key.Connect u g) (key.Class c_) = refl
keys_so (key.Connect u g) (key.Group g_) = refl
keys_so (key.Connect u g) (key.User u_) = refl
keys_so (key.Connect u g) (key.Connect u_ g_) = both (slice_cmp nat_cmp u u_) (slice_cmp nat_cmp g g_) ∙ and_so (is_eq-slice_cmp u u_) (is_eq-slice_cmp g g_)
keys_so (key.Connect u g) (key.Console n_) = refl
keys_so (key.Connect u g) (key.Profile c_ p_) = refl
keys_so (key.Connect u g) (key.Permit i_ c_ p_ w_) = refl
keys_so (key.Console n) (key.Class c_) = refl
keys_so (key.Console n) (key.Group g_) = refl
keys_so (key.Console n) (key.User u_) = refl
keys_so (key.Console n) (key.Connect u_ g_) = refl
keys_so (key.Console n) (key.Console n_) = is_eq-slice_cmp n n_
keys_so (key.Console n) (key.Profile c_ p_) = refl
keys_so (key.Console n) (key.Permit i_ c_ p_ w_) = refl
keys_so (key.Profile c p) (key.Class c_) = refl
keys_so (key.Profile c p) (key.Group g_) = refl
keys_so (key.Profile c p) (key.User u_) = refl
keys_so (key.Profile c p) (key.Connect u_ g_) = refl
keys_so (key.Profile c p) (key.Console n_) = refl
keys_so (key.Profile c p) (key.Profile c_ p_) = both (classes.cmp c c_) (slice_cmp nat_cmp p p_) ∙ and_so (of_class c c_) (is_eq-slice_cmp p p_)
keys_so (key.Profile c p) (key.Permit i_ c_ p_ w_) = refl
keys_so (key.Permit i c p w) (key.Class c_) = refl
keys_so (key.Permit i c p w) (key.Group g_) = refl
keys_so (key.Permit i c p w) (key.User u_) = refl
keys_so (key.Permit i c p w) (key.Connect u_ g_) = refl
keys_so (key.Permit i c p w) (key.Console n_) = refl
keys_so (key.Permit i c p w) (key.Profile c_ p_) = refl
keys_so (key.Permit i c p w) (key.Permit i_ c_ p_ w_) =
    four (slice_cmp nat_cmp i i_) (classes.cmp c c_) (slice_cmp nat_cmp p p_) (option_cmp (slice_cmp nat_cmp) w w_)
    ∙ and_so (is_eq-slice_cmp i i_) (and_so (of_class c c_) (and_so (is_eq-slice_cmp p p_) (of_option w w_)))
    ∙ id_third (bytes_eq i i_) (same_class c c_) (bytes_eq p p_) (option_eq bytes_eq w w_)

-- ---- keys that are the same

left_of : (a b : Bool) → (a && b) ≡ true → a ≡ true
left_of true b h = refl
left_of false b h = absurd (cc)

right_of : (a b : Bool) → (a && b) ≡ true → b ≡ true
right_of true b h = h
right_of false b h = absurd (cc)

class_same : (c d : Class) → same_class c d ≡ true → c ≡ d
class_same Console Console h = refl
class_same Console Opercmds h = absurd (cc)
class_same Opercmds Console h = absurd (cc)
class_same Opercmds Opercmds h = refl

bytes_same : (a b : List ℕ) → bytes_eq a b ≡ true → a ≡ b
bytes_same a b h = (bytes_eq-Decides a b).0 h

place_same : (a b : Option (List ℕ)) → option_eq bytes_eq a b ≡ true → a ≡ b
place_same None None h = refl
place_same None (Some b) h = absurd (cc)
place_same (Some a) None h = absurd (cc)
place_same (Some a) (Some b) h = ap Some (bytes_same a b h)

pub key_same : (k q : RowKey) → same_key k q ≡ true → k ≡ q
key_same (key.Class c) (key.Class c_) h = ap key.Class (class_same c c_ h)
key_same (key.Class c) (key.Group g_) h = absurd (cc)
key_same (key.Class c) (key.User u_) h = absurd (cc)
key_same (key.Class c) (key.Connect u_ g_) h = absurd (cc)
key_same (key.Class c) (key.Console n_) h = absurd (cc)
key_same (key.Class c) (key.Profile c_ p_) h = absurd (cc)
key_same (key.Class c) (key.Permit i_ c_ p_ w_) h = absurd (cc)
key_same (key.Group g) (key.Class c_) h = absurd (cc)
key_same (key.Group g) (key.Group g_) h = ap key.Group (bytes_same g g_ h)
key_same (key.Group g) (key.User u_) h = absurd (cc)
key_same (key.Group g) (key.Connect u_ g_) h = absurd (cc)
key_same (key.Group g) (key.Console n_) h = absurd (cc)
key_same (key.Group g) (key.Profile c_ p_) h = absurd (cc)
key_same (key.Group g) (key.Permit i_ c_ p_ w_) h = absurd (cc)
key_same (key.User u) (key.Class c_) h = absurd (cc)
key_same (key.User u) (key.Group g_) h = absurd (cc)
key_same (key.User u) (key.User u_) h = ap key.User (bytes_same u u_ h)
key_same (key.User u) (key.Connect u_ g_) h = absurd (cc)
key_same (key.User u) (key.Console n_) h = absurd (cc)
key_same (key.User u) (key.Profile c_ p_) h = absurd (cc)
key_same (key.User u) (key.Permit i_ c_ p_ w_) h = absurd (cc)
key_same (key.Connect u g) (key.Class c_) h = absurd (cc)
key_same (key.Connect u g) (key.Group g_) h = absurd (cc)
key_same (key.Connect u g) (key.User u_) h = absurd (cc)
key_same (key.Connect u g) (key.Connect u_ g_) h =
    ap (λ (x : List ℕ). key.Connect x g) (bytes_same u u_ (left_of (bytes_eq u u_) (bytes_eq g g_) h))
    ∙ ap (λ (x : List ℕ). key.Connect u_ x) (bytes_same g g_ (right_of (bytes_eq u u_) (bytes_eq g g_) h))
key_same (key.Connect u g) (key.Console n_) h = absurd (cc)
key_same (key.Connect u g) (key.Profile c_ p_) h = absurd (cc)
key_same (key.Connect u g) (key.Permit i_ c_ p_ w_) h = absurd (cc)
key_same (key.Console n) (key.Class c_) h = absurd (cc)
key_same (key.Console n) (key.Group g_) h = absurd (cc)
key_same (key.Console n) (key.User u_) h = absurd (cc)
key_same (key.Console n) (key.Connect u_ g_) h = absurd (cc)
key_same (key.Console n) (key.Console n_) h = ap key.Console (bytes_same n n_ h)
key_same (key.Console n) (key.Profile c_ p_) h = absurd (cc)
key_same (key.Console n) (key.Permit i_ c_ p_ w_) h = absurd (cc)
key_same (key.Profile c p) (key.Class c_) h = absurd (cc)
key_same (key.Profile c p) (key.Group g_) h = absurd (cc)
key_same (key.Profile c p) (key.User u_) h = absurd (cc)
key_same (key.Profile c p) (key.Connect u_ g_) h = absurd (cc)
key_same (key.Profile c p) (key.Console n_) h = absurd (cc)
key_same (key.Profile c p) (key.Profile c_ p_) h =
    ap (λ (x : Class). key.Profile x p) (class_same c c_ (left_of (same_class c c_) (bytes_eq p p_) h))
    ∙ ap (λ (x : List ℕ). key.Profile c_ x) (bytes_same p p_ (right_of (same_class c c_) (bytes_eq p p_) h))
key_same (key.Profile c p) (key.Permit i_ c_ p_ w_) h = absurd (cc)
key_same (key.Permit i c p w) (key.Class c_) h = absurd (cc)
key_same (key.Permit i c p w) (key.Group g_) h = absurd (cc)
key_same (key.Permit i c p w) (key.User u_) h = absurd (cc)
key_same (key.Permit i c p w) (key.Connect u_ g_) h = absurd (cc)
key_same (key.Permit i c p w) (key.Console n_) h = absurd (cc)
key_same (key.Permit i c p w) (key.Profile c_ p_) h = absurd (cc)
key_same (key.Permit i c p w) (key.Permit i_ c_ p_ w_) h =
    let after_class = right_of (same_class c c_) (bytes_eq p p_ && (bytes_eq i i_ && option_eq bytes_eq w w_)) h in
    let after_pattern = right_of (bytes_eq p p_) (bytes_eq i i_ && option_eq bytes_eq w w_) after_class in
    ap (λ (x : List ℕ). key.Permit x c p w) (bytes_same i i_ (left_of (bytes_eq i i_) (option_eq bytes_eq w w_) after_pattern))
    ∙ ap (λ (x : Class). key.Permit i_ x p w)
    (class_same c c_ (left_of (same_class c c_) (bytes_eq p p_ && (bytes_eq i i_ && option_eq bytes_eq w w_)) h))
    ∙ ap (λ (x : List ℕ). key.Permit i_ c_ x w)
    (bytes_same p p_ (left_of (bytes_eq p p_) (bytes_eq i i_ && option_eq bytes_eq w w_) after_class))
    ∙ ap (λ (x : Option (List ℕ)). key.Permit i_ c_ p_ x) (place_same w w_ (right_of (bytes_eq i i_) (option_eq bytes_eq w w_) after_pattern))

-- ---- a map by keys

pub put_so : (row_key k q : RowKey) (kept : Kept) (old new : Option Kept) → k ≡ row_key
    → new ≡ cond (is_eq (ghosts.cmp k q)) (Some kept) old → new ≡ (if same_key row_key q then Some kept else old)
put_so row_key k q kept old new is put =
    put ∙ ap (λ b. cond b (Some kept) old) (keys_so k q ∙ ap (λ (x : RowKey). same_key x q) is)

-- where a key had a row, and that is put back
pub put_back : (row_key k q : RowKey) (kept later : Kept) (old : RowKey → Option Kept) (mid new rest : Option Kept)
    → k ≡ row_key → old k ≡ Some later → mid ≡ cond (is_eq (ghosts.cmp k q)) (Some kept) (old q)
    → new ≡ (if same_key row_key q then Some later else mid) → new ≡ (if is_some (old row_key) then old q else rest)
put_back row_key k q kept later old mid new rest is had first back =
    back ∙ ap (λ o. if same_key row_key q then Some later else o) (put_so row_key k q kept (old q) mid is first)
    ∙ go (same_key row_key q) refl ∙ sym (ap (λ b. if b then old q else rest) (ap is_some (sym (ap old is) ∙ had)))
  where
    go : (b : Bool) → same_key row_key q ≡ b → (if b then Some later else (if b then Some kept else old q)) ≡ old q
    go true same = sym had ∙ ap old (is ∙ key_same row_key q same)
    go false same = refl

-- where it had none
pub put_new : (row_key k q : RowKey) (kept : Kept) (old : RowKey → Option Kept) (new : Option Kept) → k ≡ row_key → old k ≡ None
    → new ≡ cond (is_eq (ghosts.cmp k q)) (Some kept) (old q)
    → new ≡ (if is_some (old row_key) then old q else (if same_key row_key q then Some kept else old q))
put_new row_key k q kept old new is had put =
    put_so row_key k q kept (old q) new is put
    ∙ sym (ap (λ b. if b then old q else (if same_key row_key q then Some kept else old q)) (ap is_some (sym (ap old is) ∙ had)))

pub seen_so : (row_key q : RowKey) (kept : Kept) (old : RowKey → Option Kept) (new : Option Kept)
    → new ≡ (if is_some (old row_key) then old q else (if same_key row_key q then Some kept else old q))
    → is_some new ≡ (same_key row_key q || is_some (old q))
seen_so row_key q kept old new is = ap is_some is ∙ go (is_some (old row_key)) (same_key row_key q) refl refl
  where
    go : (b s : Bool) → is_some (old row_key) ≡ b → same_key row_key q ≡ s
        → is_some (if b then old q else (if s then Some kept else old q)) ≡ (s || is_some (old q))
    go true true seen same = sym (ap (λ (k : RowKey). is_some (old k)) (key_same row_key q same)) ∙ seen
    go true false seen same = refl
    go false true seen same = refl
    go false false seen same = refl
