-- What a look-up finds is declared.
use Rattle.std.proofs.Common.{◌≡◌, ℕ, List, [], ◌∷◌, Bool, true, false, ◌||◌, Some, IfSome, Ordering, refl, sym, subst}
use Rattle.std.specs.Prelude.{Contains}
use Rattle.std.specs.List.{find}
use Rattle.std.specs.BTreeMap.{is_at}
use Rattle.std.proofs.lemmas.Bool.{cond_both}
use Rattle.std.proofs.lemmas.Map.Lookups.{CmpEqualImpliesEq, exact_bytes}
use Rattle.sc_lists.proofs.OrderingLaws.{is_eq_true}
use Rattle.sc_lists.proofs.ListLaws.{contains_first, contains_rest}
use Rattle.sc_lists.specs.Ordered.{is_in}
use Rattle.sc_names.specs.declared.uid.Uid.{Uid}
use Rattle.sc_names.specs.Uids.{text_cmp, uid_cmp}
use Rattle.sc_names.proofs.UidLaws.{uid_cmp_level}

-- ---- members of a list

module _ {X : Type 0} (R : X → X → Ordering) (exact : CmpEqualImpliesEq R) where
  either_contained : (b c : Bool) (x y : X) (ys : List X) → (b ≡ true → x ≡ y) → (c ≡ true → Contains ys x) → b || c ≡ true → Contains (y ∷ ys) x
  either_contained true c x y ys h k e = subst (λ z. Contains (y ∷ ys) z) (sym (h refl)) (contains_first y ys)
  either_contained false c x y ys h k e = contains_rest y ys x (k e)

  contained : (x : X) (ys : List X) → is_in R x ys ≡ true → Contains ys x
  contained x [] e = absurd cc
  contained x (y ∷ ys) e = either_contained (is_at (R x) y) (is_in R x ys) x y ys (λ h. exact x y (is_eq_true (R x y) h)) (contained x ys) e

pub name_contained : (name : List ℕ) (names : List (List ℕ)) → is_in text_cmp name names ≡ true → Contains names name
name_contained = contained text_cmp exact_bytes

pub uid_contained : (uid : Uid) (uids : List Uid) → is_in uid_cmp uid uids ≡ true → Contains uids uid
uid_contained = contained uid_cmp uid_cmp_level

-- ---- the first that passes

pub found_passes : {X : Type 0} (p : X → Bool) (xs : List X) → IfSome (find p xs) (λ x. p x ≡ true)
found_passes p [] = tt
found_passes p (x ∷ xs) = cond_both (p x) (Some x) (find p xs) (λ o. IfSome o (λ y. p y ≡ true)) (λ e. e) (λ _. found_passes p xs)
