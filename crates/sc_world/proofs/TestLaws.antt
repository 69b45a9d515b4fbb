-- What a test tells: of each element of a list, and of texts and uids that are equal.
use Rattle.std.proofs.Common.{◌≡◌, ◌↔◌, ◌&&◌, ℕ, List, [], ◌∷◌, length, get_or, Bool, true, Result, Ok, Err, is_ok, All, Contains, IsTrue, refl, sym, ap, subst, ◌∙◌}
use Rattle.std.specs.Cmp.{IsTotalOrder}
use Rattle.std.specs.List.{AllByRecursion}
use Rattle.std.specs.List.Sorted.{IsStrictlySortedBy, IsSearchInRange, IsBinarySearchResult}
use Rattle.std.specs.Str.{bytes_eq}
use Rattle.std.specs.declared.cmp.Ordering.{Ordering}
use Rattle.std.specs.Ordering.{is_eq}
use Rattle.std.specs.Cmp.Lexicographic.{pointwise}
use Rattle.std.proofs.lemmas.Cmp.{tied_itself}
use Rattle.std.proofs.lemmas.List.Elements.{All-from_recursion, recursion_from_All}
use Rattle.std.proofs.lemmas.Map.Lookups.{CmpEqualImpliesEq}
use Rattle.std.proofs.lemmas.Slice.Eq.{bytes_eq-Decides}
use Rattle.std.proofs.lemmas.Bool.{and_parts}
use Rattle.sc_names.proofs.LitsLaws.{ties, same}
use Rattle.sc_lists.proofs.OrderingLaws.{is_eq_true}
use Rattle.sc_names.specs.declared.uid.Uid.{Uid}
use Rattle.sc_names.specs.contracts.uid.UidPartialEq.TheImpl.{ghosts}
use Rattle.sc_names.specs.Uids.{uid_cmp}
use Rattle.sc_names.proofs.UidLaws.{uid_cmp_total, uid_cmp_level}
use Rattle.sc_schema.proofs.PlaceLaws.{absent}
use Rattle.sc_world.specs.Tests.{Holds}

pub each_from_all : {X : Type 0} (P : X → Type 0) (xs : List X) → All (Holds P) xs → AllByRecursion P xs
unfolding Holds
each_from_all P xs all = recursion_from_All P xs all

pub all_from_each : {X : Type 0} (P : X → Type 0) (xs : List X) → AllByRecursion P xs → All (Holds P) xs
unfolding Holds
all_from_each P xs each = All-from_recursion P xs each

pub one_text : (b : Bool) (x y : List ℕ) → b ≡ bytes_eq x y → IsTrue b ↔ x ≡ y
one_text b x y is = (λ h. (bytes_eq-Decides x y).0 (sym is ∙ h), λ same. is ∙ (bytes_eq-Decides x y).1 same)

pub one_uid : (r : Bool) (o : Ordering) (a b : Uid) → r ≡ is_eq o → o ≡ uid_cmp a b → IsTrue r ↔ a ≡ b
one_uid r o a b is tied = (
  λ h. uid_cmp_level a b (sym tied ∙ is_eq_true o (sym is ∙ h)),
  λ same. is ∙ ap is_eq (tied ∙ ap (uid_cmp a) (sym same) ∙ tied_itself uid_cmp_total a),
)

itself : (a : Uid) → ghosts.eq a a ≡ true
itself a = ties a a ∙ ap is_eq (tied_itself uid_cmp_total a)

same_uids : (xs ys : List Uid) → pointwise ghosts.eq xs ys ≡ true → xs ≡ ys
same_uids [] [] h = refl
same_uids [] (y ∷ ys) h = cc
same_uids (x ∷ xs) [] h = cc
same_uids (x ∷ xs) (y ∷ ys) h =
    let parts = and_parts (ghosts.eq x y) (pointwise ghosts.eq xs ys) h in
    let first : x ≡ y = same x y parts.0 in
    let rest : xs ≡ ys = same_uids xs ys parts.1 in
    cc

themselves : (xs : List Uid) → pointwise ghosts.eq xs xs ≡ true
themselves [] = refl
themselves (x ∷ xs) = ap (λ (b : Bool). b && pointwise ghosts.eq xs xs) (itself x) ∙ themselves xs

pub one_list : (b : Bool) (xs ys : List Uid) → b ≡ pointwise ghosts.eq xs ys → IsTrue b ↔ xs ≡ ys
one_list b xs ys is = (
  λ h. same_uids xs ys (sym is ∙ h),
  λ same. is ∙ ap (pointwise ghosts.eq xs) (sym same) ∙ themselves xs,
)

-- ---- what a binary search tells

-- the place that was found, or that there is none
searched : {K : Type 0} {R : K → K → Ordering} (o : IsTotalOrder R) → CmpEqualImpliesEq R → (ks : List K) (k : K) (r : Result ℕ ℕ) → IsStrictlySortedBy R ks → IsSearchInRange r (length ks) → IsBinarySearchResult (λ j. R j k) ks r
    → IsTrue (is_ok r) ↔ Contains ks k
searched o tied ks k (Ok i) sorted within search = (λ h. (i, within, tied (get_or ks i k) k (search k)), λ h. refl)
searched o tied ks k (Err i) sorted within search = (λ h. absurd cc, λ has. absurd (absent o ks k i sorted search has))

pub found_among : {K : Type 0} {R : K → K → Ordering} (o : IsTotalOrder R) → CmpEqualImpliesEq R → (ks : List K) (k : K) (r : Result ℕ ℕ) (b : Bool) → b ≡ is_ok r → IsStrictlySortedBy R ks
    → IsSearchInRange r (length ks) → IsBinarySearchResult (λ j. R j k) ks r → IsTrue b ↔ Contains ks k
found_among o tied ks k r b is sorted within search = subst (λ c. IsTrue c ↔ Contains ks k) (sym is) (searched o tied ks k r sorted within search)
