-- The parts of what changes from one policy to another, one after another.
use Rattle.std.proofs.Common.{◌≡◌, ◌∙◌, ◌+◌, ◌-◌, ◌≤◌, ◌<◌, ◌++◌, ◌∷◌, ℕ, zero, suc, Bool, List, [], Option, ap, append-nil, append_assoc, arith, get_or, if◌then◌else◌, length, refl, subst, sym, take}
use Rattle.std.specs.BTreeSet.{insert_key}
use Rattle.std.specs.Io.KnownBytes.{Appends}
use Rattle.std.specs.List.{flat_map}
use Rattle.std.proofs.KnownBytes.{Appends-nil, Appends-trans}
use Rattle.std.proofs.lemmas.List.{length-append, take_more}
use Rattle.std.proofs.lemmas.List.Concat.{flat_map-append}
use Rattle.opc_policy_members.specs.Members.{name_cmp}
use Rattle.opc_answers_diff.specs.declared.compared.Compared.{Compared}
use Rattle.opc_answers_diff.specs.declared.gains.Gains.{Gains}
use Rattle.opc_answers_diff.specs.declared.verdicts.UserChange.{UserChange}
use Rattle.opc_answers_diff.specs.Consoles.{console_changes}
use Rattle.opc_answers_diff.specs.Gains.{is_gain, is_loss, with_those}
use Rattle.opc_check.specs.declared.form.Form.{Form}
use Rattle.opc_cli_questions.specs.Differences.{
  AreCounted,
  AreJoined,
  AreListedFrom,
  IsListed,
  Listed,
  consoles_of,
  consoles_shown,
  ending,
  joined,
  logon_listed,
  logon_shown,
  logons_listed,
  none_listed,
  sections_shown,
}

-- nobody
pub no_change : (g : Gains) → AreCounted [] g g
no_change g = record { more = refl; less = refl }

with_append : (test : UserChange → Bool) (one more : List UserChange) (ids : List (List ℕ))
    → with_those test (one ++ more) ids ≡ with_those test more (with_those test one ids)
with_append test [] more ids = refl
with_append test (change ∷ one) more ids = with_append test one more (if test change then insert_key name_cmp ids change.id else ids)

pub counted_more : (one more : List UserChange) (a b c : Gains) → AreCounted one a b → AreCounted more b c → AreCounted (one ++ more) a c
counted_more one more a b c first rest = record {
  more = rest.more ∙ ap (with_those is_gain more) first.more ∙ sym (with_append is_gain one more a.more.keys);
  less = rest.less ∙ ap (with_those is_loss more) first.less ∙ sym (with_append is_loss one more a.less.keys);
}

-- nothing is written
pub nothing_listed : (a : Option (List ℕ)) (g : Gains) → IsListed a a g g none_listed
nothing_listed a g = record { printed = Appends-nil a; counted = no_change g }

pub listed_more : (a b c : Option (List ℕ)) (x y z : Gains) (one more : Listed) → IsListed a b x y one → IsListed b c y z more
    → IsListed a c x z (one.0 ++ more.0, one.1 ++ more.1)
listed_more a b c x y z one more first rest = record {
  printed = Appends-trans a b c one.0 more.0 first.printed rest.printed;
  counted = counted_more one.1 more.1 x y z first.counted rest.counted;
}

-- one element more
pub flat_more : {X A : Type 0} (f : X → List A) (xs : List X) (i : ℕ) (d : X) → i < length xs
    → flat_map f (take (i + 1) xs) ≡ flat_map f (take i xs) ++ f (get_or xs i d)
flat_more f xs i d low =
    ap (flat_map f) (take_more xs i d low) ∙ flat_map-append f (take i xs) (get_or xs i d ∷ [])
    ∙ ap (λ l. flat_map f (take i xs) ++ l) (append-nil (f (get_or xs i d)))

-- no place, and one place more
pub none_joined : (is : ℕ → Listed → Type 0) → AreJoined is 0 none_listed
none_joined is = record { parts = []; each = refl; are = tt; join = refl }

from_more : (is : ℕ → Listed → Type 0) (from : ℕ) (parts : List Listed) (place : ℕ) (one : Listed) → place ≡ from + length parts
    → AreListedFrom is from parts → is place one → AreListedFrom is from (parts ++ one ∷ [])
from_more is from [] place one at none here = (subst (λ n. is n one) (omega (arith, at)) here, tt)
from_more is from (first ∷ parts) place one at (there, more) here =
    (there, from_more is (from + 1) parts place one (omega (arith, at)) more here)

joined_more : (parts : List Listed) (one : Listed) → joined (parts ++ one ∷ []) ≡ ((joined parts).0 ++ one.0, (joined parts).1 ++ one.1)
joined_more parts one =
    let texts = flat_map-append (λ (part : Listed). part.0) parts (one ∷ []) ∙ ap (λ l. (joined parts).0 ++ l) (append-nil one.0) in
    let changes = flat_map-append (λ (part : Listed). part.1) parts (one ∷ []) ∙ ap (λ l. (joined parts).1 ++ l) (append-nil one.1) in
    λ k. (texts k, changes k)

places_more : (is : ℕ → Listed → Type 0) (count : ℕ) (all one : Listed) → AreJoined is count all → is count one
    → AreJoined is (count + 1) (all.0 ++ one.0, all.1 ++ one.1)
places_more is count all one so_far here =
    let at : count ≡ 0 + length so_far.parts = omega (arith, so_far.each) in
    record {
      parts = so_far.parts ++ one ∷ [];
      each = length-append so_far.parts (one ∷ []) ∙ ap (λ n. n + 1) so_far.each;
      are = from_more is 0 so_far.parts count one at so_far.are here;
      join = ap (λ (l : Listed). let it : Listed = (l.0 ++ one.0, l.1 ++ one.1) in it) so_far.join ∙ sym (joined_more so_far.parts one);
    }

-- What is listed at so many places was written.
abbrev pub ArePlacesWritten : (is : ℕ → Listed → Type 0) → (a b : Option (List ℕ)) → (x y : Gains) → (count : ℕ) → Type 0
ArePlacesWritten is a b x y count = (all : Listed) × AreJoined is count all × IsListed a b x y all

pub no_place : (is : ℕ → Listed → Type 0) (a : Option (List ℕ)) (x : Gains) → ArePlacesWritten is a a x x 0
no_place is a x = (none_listed, none_joined is, nothing_listed a x)

pub place_more : (is : ℕ → Listed → Type 0) (a b c : Option (List ℕ)) (x y z : Gains) (count : ℕ) → ArePlacesWritten is a b x y count
    → (one : Listed) × is count one × IsListed b c y z one → ArePlacesWritten is a c x z (count + 1)
place_more is a b c x y z count (all, joined, so_far) (one, here, rest) =
    ((all.0 ++ one.0, all.1 ++ one.1), places_more is count all one joined here, listed_more a b c x y z all one so_far rest)

-- places where nothing is listed
pub places_passed : (is : ℕ → Listed → Type 0) (a b : Option (List ℕ)) (x y : Gains) (from upto : ℕ) → ArePlacesWritten is a b x y from
    → from ≤ upto → ((place : ℕ) → from ≤ place → place < upto → is place none_listed) → ArePlacesWritten is a b x y upto
places_passed is a b x y from upto so_far up none =
    go (upto - from) from (omega arith) (omega (arith, up)) so_far
  where
    go : (n count : ℕ) → from ≤ count → upto ≡ count + n → ArePlacesWritten is a b x y count → ArePlacesWritten is a b x y upto
    go zero count low at so_far = subst (ArePlacesWritten is a b x y) (omega (arith, at)) so_far
    go (suc n) count low at so_far =
        go n (count + 1) (omega (arith, low)) (omega (arith, at)) (place_more is a b b x y y count so_far
        (none_listed, none count low (omega (arith, at)), nothing_listed b y))

-- the last place
pub place_last : (is : ℕ → Listed → Type 0) (a b c : Option (List ℕ)) (x y z : Gains) (reached at total : ℕ) → reached ≡ total → at ≡ total
    → ArePlacesWritten is a b x y reached → (one : Listed) × is at one × IsListed b c y z one → ArePlacesWritten is a c x z (total + 1)
place_last is a b c x y z reached at total all last so_far (one, here, rest) =
    place_more is a b c x y z total (subst (ArePlacesWritten is a b x y) all so_far) (one, subst (λ n. is n one) last here, rest)

-- who may more and less in the end
pub all_counted : (changes : List UserChange) (before after : Gains) → before.more.keys ≡ [] → before.less.keys ≡ []
    → AreCounted changes before after → (form : Form) (rows : ℕ)
    → ending form rows after.more.keys after.less.keys ≡ ending form rows (with_those is_gain changes []) (with_those is_loss changes [])
all_counted changes before after no_more no_less counted form rows =
    let more = counted.more ∙ ap (with_those is_gain changes) no_more in
    let less = counted.less ∙ ap (with_those is_loss changes) no_less in
    λ k. ending form rows (more k) (less k)

-- an element that is there, whatever stands in for one that is not
pub get_or-any : {A : Type 0} (xs : List A) (i : ℕ) (d e : A) → i < length xs → get_or xs i d ≡ get_or xs i e
get_or-any [] i d e low = absurd (omega (arith, low))
get_or-any (x ∷ xs) zero d e low = refl
get_or-any (x ∷ xs) (suc i) d e low = get_or-any xs i d e (omega (arith, low))

-- one more of some things, each with a text and with changes
module _ {X : Type 0} (xs : List X) (i : ℕ) (x : X) (low : i < length xs) (is : x ≡ get_or xs i x) where
  one_more : {A : Type 0} (f : X → List A) → flat_map f (take i xs) ++ f x ≡ flat_map f (take (i + 1) xs)
  one_more f = ap (λ y. flat_map f (take i xs) ++ f y) is ∙ sym (flat_more f xs i x low)

  pub text_more : (f : X → List ℕ) (old now next : List ℕ) → now ≡ old ++ flat_map f (take i xs) → next ≡ now ++ f x
      → next ≡ old ++ flat_map f (take (i + 1) xs)
  text_more f old now next so_far rest =
      rest ∙ ap (λ t. t ++ f x) so_far ∙ append_assoc old (flat_map f (take i xs)) (f x) ∙ ap (λ l. old ++ l) (one_more f)

  pub changes_more : (f : X → List UserChange) (a b c : Gains) → AreCounted (flat_map f (take i xs)) a b → AreCounted (f x) b c
      → AreCounted (flat_map f (take (i + 1) xs)) a c
  changes_more f a b c so_far rest =
      subst (λ l. AreCounted l a c) (one_more f) (counted_more (flat_map f (take i xs)) (f x) a b c so_far rest)

-- the logons at one console more
pub logons_more : (form : Form) (both : Compared) (consoles : List (List ℕ)) (i : ℕ) (console : List ℕ) → i < length consoles
    → console ≡ get_or consoles i console → (a b c : Option (List ℕ)) (x y z : Gains)
    → IsListed a b x y (logons_listed form both (take i consoles))
    → IsListed b c y z (logon_shown form both console, logon_listed both console)
    → IsListed a c x z (logons_listed form both (take (i + 1) consoles))
logons_more form both consoles i console low is a b c x y z so_far rest =
    let texts = flat_more (logon_shown form both) consoles i console low
    ∙ ap (λ one. flat_map (logon_shown form both) (take i consoles) ++ logon_shown form both one) (sym is) in
    let changes = flat_more (logon_listed both) consoles i console low
    ∙ ap (λ one. flat_map (logon_listed both) (take i consoles) ++ logon_listed both one) (sym is) in
    let both_is : _ ≡ logons_listed form both (take (i + 1) consoles) = λ k. (sym texts k, sym changes k) in
    subst (IsListed a c x z) both_is (listed_more a b c x y z _ _ so_far rest)

-- what is printed of the sections
pub sections_written : (form : Form) (both : Compared) (rows : ℕ) (commands : Listed) (a b c d e : Option (List ℕ)) (x y z : Gains)
    → x.more.keys ≡ [] → x.less.keys ≡ [] → IsListed a b x y commands → IsListed b c y z (logons_listed form both (consoles_of both))
    → Appends c d (consoles_shown form (console_changes both.before.board both.after.board))
    → Appends d e (ending form rows z.more.keys z.less.keys) → Appends a e (sections_shown form both rows commands)
sections_written form both rows commands a b c d e x y z no_more no_less first rest lets_in last =
    let logons = logons_listed form both (consoles_of both) in
    let counted = counted_more commands.1 logons.1 x y z first.counted rest.counted in
    let ends = all_counted (commands.1 ++ logons.1) x z no_more no_less counted form rows in
    Appends-trans a b e _ _ first.printed (Appends-trans b c e _ _ rest.printed
    (Appends-trans c d e _ _ lets_in (subst (Appends d e) ends last)))
