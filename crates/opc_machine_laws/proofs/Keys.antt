-- Keys that tie are the same.
use Rattle.std.proofs.Common.{◌≡◌, ◌≢◌, ◌⊎◌, inl, inr, ℕ, Bool, true, false, ◌&&◌, List, [], ◌∷◌, Option, Some, None, refl, sym, ap, ◌∙◌}
use Rattle.std.specs.Cmp.Lexicographic.{slice_cmp, texts_ties}
use Rattle.std.specs.List.{AllByRecursion}
use Rattle.std.specs.Option.{option_cmp, option_eq}
use Rattle.std.specs.Ordering.{is_eq, nat_cmp, ordering_then}
use Rattle.std.specs.Str.{bytes_eq}
use Rattle.std.specs.declared.cmp.Ordering.{Ordering}
use Rattle.std.specs.declared.cmp.Ordering.TheVariants.{Less, Equal, Greater}
use Rattle.std.proofs.lemmas.Slice.Eq.{bytes_eq-Decides}
use Rattle.opc_names.specs.declared.class.Class.{Class}
use Rattle.opc_names.specs.declared.class.Class.TheVariants.{Console, Opercmds}
use Rattle.opc_names.specs.Authority.{same_class}
use Rattle.opc_policy_members.specs.Members.{name_cmp}
use Rattle.opc_policy_members.specs.Profiles.{class_cmp}

pub all_of : {A : Type 0} (P : A → Type 0) → ((x : A) → P x) → (xs : List A) → AllByRecursion P xs
all_of P h [] = tt
all_of P h (x ∷ xs) = (h x, all_of P h xs)

tied : (o : Ordering) → is_eq o ≡ true → o ≡ Equal
tied Less h = absurd (cc)
tied Equal h = refl
tied Greater h = absurd (cc)

pub both_tied : (o p : Ordering) → ordering_then o p ≡ Equal → (o ≡ Equal) × (p ≡ Equal)
both_tied Less p h = absurd (cc)
both_tied Equal p h = (refl, h)
both_tied Greater p h = absurd (cc)

pub then_tied : (o p : Ordering) → o ≡ Equal → p ≡ Equal → ordering_then o p ≡ Equal
then_tied o p one other = ap (λ x. ordering_then x p) one ∙ other

pub both_true : (a b : Bool) → (a && b) ≡ true → (a ≡ true) × (b ≡ true)
both_true true b h = (refl, h)
both_true false b h = absurd (cc)

-- names

pub same_name : (a b : List ℕ) → bytes_eq a b ≡ true → a ≡ b
same_name a b h = (bytes_eq-Decides a b).0 h

pub name_itself : (a : List ℕ) → bytes_eq a a ≡ true
name_itself a = (bytes_eq-Decides a a).1 refl

pub other_name : (a b : List ℕ) → a ≢ b → bytes_eq a b ≡ false
other_name a b apart = go (bytes_eq a b) refl
  where
    go : (t : Bool) → bytes_eq a b ≡ t → t ≡ false
    go true same = absurd (apart (same_name a b same))
    go false differ = refl

pub tied_names : (a b : List ℕ) → name_cmp a b ≡ Equal → a ≡ b
tied_names a b h = same_name a b (texts_ties a b ∙ ap is_eq h)

pub names_tie : (a b : List ℕ) → a ≡ b → name_cmp a b ≡ Equal
names_tie a b same = tied (name_cmp a b) (sym (texts_ties a b) ∙ (bytes_eq-Decides a b).1 same)

pub which_name : (a b : List ℕ) → (a ≡ b) ⊎ (a ≢ b)
which_name a b = go (bytes_eq a b) refl
  where
    go : (t : Bool) → bytes_eq a b ≡ t → (a ≡ b) ⊎ (a ≢ b)
    go true same = inl (same_name a b same)
    go false differ = inr (λ e. let same : bytes_eq a b ≡ true = (bytes_eq-Decides a b).1 e in absurd (cc))

-- names that may be missing

pub tied_places : (a b : Option (List ℕ)) → option_cmp (slice_cmp nat_cmp) a b ≡ Equal → a ≡ b
tied_places None None h = refl
tied_places None (Some b) h = absurd (cc)
tied_places (Some a) None h = absurd (cc)
tied_places (Some a) (Some b) h = ap Some (tied_names a b h)

pub places_tie : (a b : Option (List ℕ)) → a ≡ b → option_cmp (slice_cmp nat_cmp) a b ≡ Equal
places_tie None None h = refl
places_tie None (Some b) h = absurd (cc)
places_tie (Some a) None h = absurd (cc)
places_tie (Some a) (Some b) h = let same : a ≡ b = cc in names_tie a b same

pub same_place : (a b : Option (List ℕ)) → option_eq bytes_eq a b ≡ true → a ≡ b
same_place None None h = refl
same_place None (Some b) h = absurd (cc)
same_place (Some a) None h = absurd (cc)
same_place (Some a) (Some b) h = ap Some (same_name a b h)

pub place_itself : (a : Option (List ℕ)) → option_eq bytes_eq a a ≡ true
place_itself None = refl
place_itself (Some a) = name_itself a

-- classes

pub class_itself : (c : Class) → same_class c c ≡ true
class_itself Console = refl
class_itself Opercmds = refl

pub same_classes : (c d : Class) → same_class c d ≡ true → c ≡ d
same_classes Console Console h = refl
same_classes Console Opercmds h = absurd (cc)
same_classes Opercmds Console h = absurd (cc)
same_classes Opercmds Opercmds h = refl

pub tied_classes : (c d : Class) → class_cmp c d ≡ Equal → c ≡ d
tied_classes Console Console h = refl
tied_classes Console Opercmds h = absurd (cc)
tied_classes Opercmds Console h = absurd (cc)
tied_classes Opercmds Opercmds h = refl

pub classes_tie : (c : Class) → class_cmp c c ≡ Equal
classes_tie Console = refl
classes_tie Opercmds = refl
