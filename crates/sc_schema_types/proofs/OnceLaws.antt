-- Each name that a search for an order met stands in the order or on the path, and once.
use Rattle.std.proofs.Common.{◌≡◌, ◌⊎◌, ℕ, List, [], ◌∷◌, ◌++◌, Bool, false, cond, Option, Some, None, Contains, refl, sym, ap, ◌∙◌, inl, inr, subst}
use Rattle.std.specs.BTreeMap.{is_at}
use Rattle.std.specs.List.{IsDistinct}
use Rattle.std.specs.Str.{bytes_eq}
use Rattle.std.proofs.lemmas.List.Elements.{Contains-append_left, Contains-push, Contains-push_cases}
use Rattle.sc_lists.proofs.ListLaws.{contains_nothing, contains_split, contains_rest, contains_first}
use Rattle.sc_lists.proofs.TextLaws.{bytes_eq_false}
use Rattle.sc_names.specs.Uids.{text_cmp}
use Rattle.sc_schema_types.specs.declared.search.Mark.{Mark}
use Rattle.sc_schema_types.specs.declared.search.Mark.TheVariants.{Open, Placed}
use Rattle.sc_schema_types.specs.References.{Names}
use Rattle.sc_schema_types.specs.Searches.{Marks, mark_in, marked_in, IsOnce}
use Rattle.sc_schema_types.proofs.MembersLaws.{all_push, all_front}
use Rattle.sc_schema_types.proofs.TextsLaws.{is_at-bytes, same_at, not_first}

-- ---- names that differ

not_at : (a b : List ℕ) → (a ≡ b → ⊥) → is_at (text_cmp a) b ≡ false
not_at a b other = is_at-bytes a b ∙ bytes_eq_false b a (λ is. other (sym is))

distinct_push : (xs : Names) (y : List ℕ) → IsDistinct bytes_eq xs → (Contains xs y → ⊥) → IsDistinct bytes_eq (xs ++ y ∷ [])
unfolding IsDistinct
distinct_push [] y h none = (tt, tt)
distinct_push (x ∷ xs) y h none = (
  all_push (λ z. bytes_eq x z ≡ false) xs y h.0 (bytes_eq_false x y (λ is. none (subst (Contains (x ∷ xs)) is (contains_first x xs)))),
  distinct_push xs y h.1 (λ has. none (contains_rest x xs y has)),
)

distinct_front : (xs : Names) (y : List ℕ) → IsDistinct bytes_eq (xs ++ y ∷ []) → IsDistinct bytes_eq xs × (Contains xs y → ⊥)
unfolding IsDistinct
distinct_front [] y h = (tt, contains_nothing y)
distinct_front (x ∷ xs) y h =
    let rest = distinct_front xs y h.1 in
    let first = all_front (λ z. bytes_eq x z ≡ false) xs y h.0 in
    ((first.0, rest.0), λ has. not_first x xs y first.1 rest.1 (contains_split x xs y has))

-- ---- marks

mark_here : (old new : Marks) (name q : List ℕ) (m : Mark) → mark_in new q ≡ marked_in old name m q → name ≡ q → mark_in new q ≡ Some m
mark_here old new name q m put is = put ∙ ap (λ (b : Bool). cond b (Some m) (mark_in old q)) (same_at name q is)

mark_there : (old new : Marks) (name q : List ℕ) (m : Mark) → mark_in new q ≡ marked_in old name m q → (name ≡ q → ⊥) → mark_in new q ≡ mark_in old q
mark_there old new name q m put other = put ∙ ap (λ (b : Bool). cond b (Some m) (mark_in old q)) (not_at name q other)

-- a name that has neither mark has none
pub no_mark : (marks : Marks) (q : List ℕ) → (mark_in marks q ≡ Some Placed → ⊥) → (mark_in marks q ≡ Some Open → ⊥) → mark_in marks q ≡ None
no_mark marks q placed is_open = by (mark_in marks q) refl where
  by : (o : Option Mark) → mark_in marks q ≡ o → mark_in marks q ≡ None
  by None e = e
  by (Some Placed) e = absurd (placed e)
  by (Some Open) e = absurd (is_open e)

none_is_some : (marks : Marks) (name q : List ℕ) (m : Mark) → mark_in marks name ≡ None → mark_in marks q ≡ Some m → name ≡ q → ⊥
none_is_some marks name q m none some is = let both : None ≡ Some m = sym none ∙ (ap (λ (r : List ℕ). mark_in marks r) is ∙ some) in cc

open_is_placed : (marks : Marks) (name q : List ℕ) → mark_in marks name ≡ Some Open → mark_in marks q ≡ Some Placed → name ≡ q → ⊥
open_is_placed marks name q is_open placed is = let both : Some Open ≡ Some Placed = sym is_open ∙ (ap (λ (r : List ℕ). mark_in marks r) is ∙ placed) in cc

-- ---- one name more

-- a name without a mark is put on the path
module _ (order path : Names) (old new : Marks) (name : List ℕ) (h : IsOnce order path old) (none : mark_in old name ≡ None) (put : (q : List ℕ) → mark_in new q ≡ marked_in old name Open q) where
  opened_on : (q : List ℕ) → Contains path q ⊎ (name ≡ q) → mark_in new q ≡ Some Open
  opened_on q (inl on) = mark_there old new name q Open (put q) (none_is_some old name q Open none (h.on_path q on)) ∙ h.on_path q on
  opened_on q (inr is) = mark_here old new name q Open (put q) is

  pub once_opened : IsOnce order (path ++ name ∷ []) new
  once_opened = record {
    in_order = λ q has. mark_there old new name q Open (put q) (none_is_some old name q Placed none (h.in_order q has)) ∙ h.in_order q has;
    on_path = λ q on. opened_on q (Contains-push_cases path name q on);
    order_once = h.order_once;
    path_once = distinct_push path name h.path_once (λ on. none_is_some old name name Open none (h.on_path name on) refl);
  }

-- the end of the path gets its place
module _ (order path : Names) (old new : Marks) (name : List ℕ) (h : IsOnce order (path ++ name ∷ []) old) (put : (q : List ℕ) → mark_in new q ≡ marked_in old name Placed q) where
  was_open : mark_in old name ≡ Some Open
  was_open = h.on_path name (Contains-push path name)

  left_in : (q : List ℕ) → Contains order q ⊎ (name ≡ q) → mark_in new q ≡ Some Placed
  left_in q (inl has) = mark_there old new name q Placed (put q) (open_is_placed old name q was_open (h.in_order q has)) ∙ h.in_order q has
  left_in q (inr is) = mark_here old new name q Placed (put q) is

  pub once_left : IsOnce (order ++ name ∷ []) path new
  once_left =
      let front = distinct_front path name h.path_once in
      record {
        in_order = λ q has. left_in q (Contains-push_cases order name q has);
        on_path = λ q on. mark_there old new name q Placed (put q) (λ is. front.1 (subst (Contains path) (sym is) on)) ∙ h.on_path q (Contains-append_left path (name ∷ []) q on);
        order_once = distinct_push order name h.order_once (λ has. open_is_placed old name name was_open (h.in_order name has) refl);
        path_once = front.0;
      }

-- nothing is met yet
pub once_first : (marks : Marks) → IsOnce [] [] marks
unfolding IsDistinct
once_first marks = record {
  in_order = λ q has. absurd (contains_nothing q has);
  on_path = λ q on. absurd (contains_nothing q on);
  order_once = tt;
  path_once = tt;
}
