-- Each list can be put in ascending order, each element kept.
use Rattle.std.proofs.Common.{◌≡◌, ◌⊎◌, ◌↔◌, List, [], ◌∷◌, map, Contains, inl, inr, refl, sym, ap, subst, ◌∙◌}
use Rattle.std.specs.Cmp.{IsTotalOrder}
use Rattle.std.specs.List.{AllByRecursion}
use Rattle.std.specs.List.Sorted.{IsStrictlySortedBy}
use Rattle.std.specs.Ordering.{ordering_reverse}
use Rattle.std.specs.declared.cmp.Ordering.{Ordering}
use Rattle.std.specs.declared.cmp.Ordering.TheVariants.{Less, Equal, Greater}
use Rattle.std.proofs.lemmas.Map.Keys.{sorted_head, sorted_tail}
use Rattle.sc_lists.proofs.ListLaws.{all_element, contains_nothing, contains_split, contains_rest, contains_first, contains_map}

-- ---- elements of lists

pub contains_one : {X : Type 0} (x y : X) → Contains (x ∷ []) y → x ≡ y
contains_one x y has = elim (contains_split x [] y has) [
  | inl same ↦ same
  | inr none ↦ absurd (contains_nothing y none)
]

all_keys : {X K : Type 0} (key : X → K) (P : K → Type 0) (xs : List X) → ((x : X) → Contains xs x → P (key x)) → AllByRecursion P (map key xs)
all_keys key P [] h = tt
all_keys key P (x ∷ xs) h = (h x (contains_first x xs), all_keys key P xs (λ y has. h y (contains_rest x xs y has)))

-- these elements, in ascending order of their keys
pub record Ascends {X K : Type 0} (R : K → K → Ordering) (key : X → K) (P : X → Type 0) : Type 0 where
  pub list : List X
  pub ascending : IsStrictlySortedBy R (map key list)
  pub members : (x : X) → Contains list x ↔ P x

module _ {X K : Type 0} {R : K → K → Ordering} (o : IsTotalOrder R) (key : X → K) where
  nothing_ascends : IsStrictlySortedBy R []
  unfolding IsStrictlySortedBy
  nothing_ascends = tt

  ascends_behind : (x : X) (xs : List X) → ((y : X) → Contains xs y → R (key x) (key y) ≡ Less) → IsStrictlySortedBy R (map key xs) → IsStrictlySortedBy R (map key (x ∷ xs))
  unfolding IsStrictlySortedBy
  ascends_behind x xs below ascending = (all_keys key (λ k. R (key x) k ≡ Less) xs below, ascending)

  pub below_rest : (x : X) (xs : List X) (y : X) → IsStrictlySortedBy R (map key (x ∷ xs)) → Contains xs y → R (key x) (key y) ≡ Less
  below_rest x xs y ascending has =
      all_element (λ k. R (key x) k ≡ Less) (map key xs) (key y) (sorted_head R (key x) (map key xs) ascending) (contains_map key xs y has)

  -- ---- one element more

  abbrev OneMore : X → List X → Type 0
  OneMore x xs = Ascends R key (λ y. (x ≡ y) ⊎ Contains xs y)

  put_alone : (x : X) → OneMore x []
  put_alone x =
      record {
        list = x ∷ [];
        ascending = ascends_behind x [] (λ y has. absurd (contains_nothing y has)) nothing_ascends;
        members = λ y. (
          contains_split x [] y,
          λ h. elim h [
            | inl same ↦ subst (λ (z : X). Contains (x ∷ []) z) same (contains_first x [])
            | inr none ↦ absurd (contains_nothing y none)
          ],
        );
      }

  put_first : (x y : X) (ys : List X) → R (key x) (key y) ≡ Less → IsStrictlySortedBy R (map key (y ∷ ys)) → OneMore x (y ∷ ys)
  put_first x y ys less ascending =
      record {
        list = x ∷ y ∷ ys;
        ascending = ascends_behind x (y ∷ ys) (λ z has. elim (contains_split y ys z has) [
          | inl same ↦ subst (λ (w : X). R (key x) (key w) ≡ Less) same less
          | inr later ↦ o.trans (key x) (key y) (key z) less (below_rest y ys z ascending later)
        ]) ascending;
        members = λ z. (
          contains_split x (y ∷ ys) z,
          λ h. elim h [
            | inl same ↦ subst (λ (w : X). Contains (x ∷ y ∷ ys) w) same (contains_first x (y ∷ ys))
            | inr later ↦ contains_rest x (y ∷ ys) z later
          ],
        );
      }

  put_there : (x y : X) (ys : List X) → x ≡ y → IsStrictlySortedBy R (map key (y ∷ ys)) → OneMore x (y ∷ ys)
  put_there x y ys same ascending =
      record {
        list = y ∷ ys;
        ascending = ascending;
        members = λ z. (
          λ has. inr has,
          λ h. elim h [
            | inl is ↦ subst (λ (w : X). Contains (y ∷ ys) w) (sym same ∙ is) (contains_first y ys)
            | inr later ↦ later
          ],
        );
      }

  put_later : (x y : X) (ys : List X) → R (key y) (key x) ≡ Less → IsStrictlySortedBy R (map key (y ∷ ys)) → OneMore x ys → OneMore x (y ∷ ys)
  put_later x y ys less ascending rest =
      record {
        list = y ∷ rest.list;
        ascending = ascends_behind y rest.list (λ z has. elim ((rest.members z).0 has) [
          | inl same ↦ subst (λ (w : X). R (key y) (key w) ≡ Less) same less
          | inr later ↦ below_rest y ys z ascending later
        ]) rest.ascending;
        members = λ z. (
          λ has. (elim (contains_split y rest.list z has) [
            | inl same ↦ inr (subst (λ (w : X). Contains (y ∷ ys) w) same (contains_first y ys))
            | inr later ↦ elim ((rest.members z).0 later) [
              | inl is ↦ inl is
              | inr more ↦ inr (contains_rest y ys z more)
            ]
          ]),
          λ h. (elim h [
            | inl is ↦ contains_rest y rest.list z ((rest.members z).1 (inl is))
            | inr there ↦ elim (contains_split y ys z there) [
              | inl same ↦ subst (λ (w : X). Contains (y ∷ rest.list) w) same (contains_first y rest.list)
              | inr more ↦ contains_rest y rest.list z ((rest.members z).1 (inr more))
            ]
          ]),
        );
      }

  put : (x : X) (ys : List X) → IsStrictlySortedBy R (map key ys) → ((y : X) → Contains ys y → R (key x) (key y) ≡ Equal → x ≡ y) → OneMore x ys
  put x [] ascending ties = put_alone x
  put x (y ∷ ys) ascending ties =
      at (R (key x) (key y)) refl (put x ys (sorted_tail R (key y) (map key ys) ascending) (λ z has. ties z (contains_rest y ys z has))) where
        at : (r : Ordering) → R (key x) (key y) ≡ r → OneMore x ys → OneMore x (y ∷ ys)
        at Less is rest = put_first x y ys is ascending
        at Equal is rest = put_there x y ys (ties y (contains_first y ys) is) ascending
        at Greater is rest = put_later x y ys (o.antisymm (key y) (key x) ∙ ap ordering_reverse is) ascending rest

  -- ---- a whole list

  pub ascending_of : (xs : List X) → ((x y : X) → Contains xs x → Contains xs y → R (key x) (key y) ≡ Equal → x ≡ y) → Ascends R key (Contains xs)
  ascending_of [] ties = record { list = []; ascending = nothing_ascends; members = λ x. (λ has. has, λ has. has) }
  ascending_of (x ∷ xs) ties =
      whole (ascending_of xs (λ y z has had. ties y z (contains_rest x xs y has) (contains_rest x xs z had))) where
        more : (rest : Ascends R key (Contains xs)) → OneMore x rest.list → Ascends R key (Contains (x ∷ xs))
        more rest all =
            record {
              list = all.list;
              ascending = all.ascending;
              members = λ z. (
                λ has. (elim ((all.members z).0 has) [
                  | inl same ↦ subst (λ (w : X). Contains (x ∷ xs) w) same (contains_first x xs)
                  | inr later ↦ contains_rest x xs z ((rest.members z).0 later)
                ]),
                λ has. (elim (contains_split x xs z has) [
                  | inl same ↦ (all.members z).1 (inl same)
                  | inr later ↦ (all.members z).1 (inr ((rest.members z).1 later))
                ]),
              );
            }

        whole : Ascends R key (Contains xs) → Ascends R key (Contains (x ∷ xs))
        whole rest =
            more rest (put x rest.list rest.ascending (λ y has. ties x y (contains_first x xs) (contains_rest x xs y ((rest.members y).0 has))))
