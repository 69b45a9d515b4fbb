-- What goes with two roles of terms is a term.
use Rattle.std.proofs.Common.{◌≡◌, ◌==◌, ◌&&◌, inl, inr, ⊎_elim, ℕ, List, Bool, true, false, Option, Some, None, length, Contains, refl, sym, ap, ◌∙◌, subst}
use Rattle.std.specs.Bool.{⊤}
use Rattle.sc_laws.proofs.BoolLaws.{and_first, and_second}
use Rattle.sc_lists.proofs.MemberLaws.{flat_map-Has, Has-append}
use Rattle.sc_lists.specs.Members.{Has}
use Rattle.sc_names.specs.declared.uid.Uid.{Uid}
use Rattle.sc_schema.specs.declared.declarations.Env.{Env}
use Rattle.sc_schema.specs.Declarations.{Declarations, ancestor_types}
use Rattle.sc_schema.specs.Lawful.{IsLawful}
use Rattle.sc_sorts.specs.declared.sort.Sort.{Sort, Sort-F, out-Sort}
use Rattle.sc_sorts.specs.declared.sort.Sort.TheVariants as sort
use Rattle.sc_sorts.specs.declared.sort.Sort.TheVariants.{rolls-String}
use Rattle.sc_sorts.specs.declared.sort.Sort.TheOpen as s
use Rattle.sc_sorts.specs.Entities.{choices_of, entity_sort}
use Rattle.sc_sorts.specs.Inside.{member_sort, name_in}
use Rattle.sc_sorts.proofs.OutLaws.{out_Entity}
use Rattle.sc_pattern.specs.declared.part.Part.{Part}
use Rattle.sc_sorts.specs.declared.node.BinaryOp.TheVariants as binary
use Rattle.sc_sorts.specs.declared.node.UnaryOp.TheVariants as unary
use Rattle.sc_terms.specs.Trees.{Tree, one, two}
use Rattle.sc_terms.specs.TreeSorts.{tree_sort}
use Rattle.sc_terms.specs.Order.{tree_eq}
use Rattle.sc_terms.specs.Folds.{equal_term, like_term}
use Rattle.sc_terms.proofs.OrderLaws.{tree_eq-exact}
use Rattle.sc_term_laws.specs.Judging.{IsTermOf, IsTerm}
use Rattle.sc_term_laws.specs.Judging as judged
use Rattle.sc_term_laws.proofs.ChoicesLaws.{no_actions}
use Rattle.sc_term_laws.proofs.JudgingLaws.{sort_is, member_of}
use Rattle.sc_term_laws.proofs.MadeLaws.{like_made}
use Rattle.sc_term_laws.proofs.TestLaws.{at_level, same_sorts}
use Rattle.sc_term_laws.proofs.ToldLaws.{empty_is}
use Rattle.sc_rule_laws.specs.Terms.{one_sort, choices_in, choices_level, written}
use Rattle.sc_rule_laws.specs.Places.{roots}
use Rattle.sc_closure_rules.specs.Closure.{Role, named, candidate, set, flow, above, pattern, unless_written, roles_by, roles_in, roles, equated_by, own_sets, are_linked, is_under, ancestors_of, ancestors_up, members_by, matches_by, meet}
use Rattle.sc_closure_rules.proofs.PartLaws.{own}
use Rattle.sc_closure_rules.proofs.MadeLaws.{at, equation_made}
use Rattle.sc_closure_rules.proofs.UpLaws.{above_within}

pub equated_is : (b : Bool) (x y t : Tree) → Has (equated_by b x y) t → (b ≡ true) × (equal_term x y ≡ t)
equated_is true x y t (inl e) = (refl, e)
equated_is true x y t (inr m) = absurd m
equated_is false x y t m = absurd m

pub member_is : (b : Bool) (x y t : Tree) → Has (members_by b x y) t → (b ≡ true) × (two binary.Member x y ≡ t)
member_is true x y t (inl e) = (refl, e)
member_is true x y t (inr m) = absurd m
member_is false x y t m = absurd m

unless_is : (o : Option (List Tree)) (r p : Role) → Has (unless_written o r) p → r ≡ p
unless_is (Some ts) r p m = absurd m
unless_is None r p (inl e) = e
unless_is None r p (inr m) = absurd m

one_member : (j k : Sort) → sort.Set j ≡ sort.Set k → j ≡ k
one_member j k e = sym (member_of j) ∙ ap member_sort e ∙ member_of k

ancestors_sort : (k : Sort) (e : Tree) → tree_sort (one (unary.Ancestors k) e) ≡ sort.Set k
unfolding tree_sort
ancestors_sort k e = refl

module _ (d : Declarations) (env : Env) (literals : List Uid) (lawful : IsLawful d) where
  abbrev Of : Sort → Tree → Type 0
  Of = IsTermOf d env literals

  abbrev Is : Tree → Type 0
  Is = IsTerm d env literals

  -- ---- what stands in sets, and in ancestors

  -- two sets of one member sort
  record AreSets (a b : Tree) : Type 0 where
    member : Sort
    first : Of (sort.Set member) a
    second : Of (sort.Set member) b

  -- a member and a set of its sort
  record AreMembers (x a : Tree) : Type 0 where
    member : Sort
    first : Of member x
    second : Of (sort.Set member) a

  members_of : (k : Sort) (x a : Tree) → Of k (two binary.Member x a) → AreMembers x a
  members_of _ _ _ (judged.of_member j x a h i) = record { member = j; first = h; second = i }
  members_of _ _ _ (judged.of_arithmetic _ _ _ (judged.of_sum _ i) _ _) = elim i [ ]
  members_of _ _ _ (judged.of_overflow _ _ _ i _ _) = elim i [ ]
  members_of _ _ _ (judged.of_sets _ _ _ _ i _ _) = elim i [ ]
  members_of _ _ _ (judged.of_pick _ _ _ _ i _ _) = elim i [ ]

  within_of : (k : Sort) (a b : Tree) → Of k (two binary.Subset a b) → AreSets a b
  within_of _ _ _ (judged.of_sets _ k a b _ h i) = record { member = k; first = h; second = i }
  within_of _ _ _ (judged.of_arithmetic _ _ _ (judged.of_sum _ i) _ _) = elim i [ ]
  within_of _ _ _ (judged.of_overflow _ _ _ i _ _) = elim i [ ]
  within_of _ _ _ (judged.of_pick _ _ _ _ i _ _) = elim i [ ]

  common_of : (k : Sort) (a b : Tree) → Of k (two binary.Common a b) → AreSets a b
  common_of _ _ _ (judged.of_sets _ k a b _ h i) = record { member = k; first = h; second = i }
  common_of _ _ _ (judged.of_arithmetic _ _ _ (judged.of_sum _ i) _ _) = elim i [ ]
  common_of _ _ _ (judged.of_overflow _ _ _ i _ _) = elim i [ ]
  common_of _ _ _ (judged.of_pick _ _ _ _ i _ _) = elim i [ ]

  record OfAncestors (j k : Sort) (e : Tree) : Type 0 where
    name : List ℕ
    up : List ℕ
    names : List (List ℕ)
    declared : ancestor_types d name ≡ Some names
    among : Contains names up
    own_sort : k ≡ entity_sort d up
    whole : j ≡ sort.Set k
    entity : Of (entity_sort d name) e

  ancestors_in : (j k : Sort) (e : Tree) → Of j (one (unary.Ancestors k) e) → OfAncestors j k e
  ancestors_in _ _ _ (judged.of_ancestors name up names e g c h) =
      record { name = name; up = up; names = names; declared = g; among = c; own_sort = refl; whole = refl; entity = h }

  -- ---- roles of terms

  abbrev IsRole : Role → Type 0
  IsRole (named x) = Is x
  IsRole (candidate x a) = AreMembers x a
  IsRole (set x) = Is x
  IsRole (flow a b) = AreSets a b
  IsRole (above k e) = Of (sort.Set k) (one (unary.Ancestors k) e)
  IsRole (pattern p) = ⊤

  role_by : (l : Sort-F Sort) (x : Tree) (p : Role) → Is x → Has (roles_by l x) p → IsRole p
  role_by s.String x p h (inl e) = subst IsRole e h
  role_by s.String x p h (inr m) = absurd m
  role_by (s.Entity name us) x p h (inl e) = subst IsRole e h
  role_by (s.Entity name us) x p h (inr m) = absurd m
  role_by (s.Set member) x p h (inl e) = subst IsRole e h
  role_by (s.Set member) x p h (inr m) = absurd m
  role_by _ x p h m = absurd m

  role_in : (x : Tree) (p : Role) → Is x → Has (roles_in x) p → IsRole p
  role_in (two binary.Member x a) p h m =
      subst IsRole (unless_is (written a) (candidate x a) p m) (members_of (tree_sort (two binary.Member x a)) x a h)
  role_in (two binary.Subset a b) p h m =
      subst IsRole (unless_is (written a) (flow a b) p m) (within_of (tree_sort (two binary.Subset a b)) a b h)
  role_in (two binary.Common a b) p h m =
      let q = flat_map-Has (λ r. unless_written (written b) r) (unless_written (written a) (flow a b)) p m in
      subst IsRole (unless_is (written a) (flow a b) q.0 q.1 ∙ unless_is (written b) q.0 p q.2) (common_of (tree_sort (two binary.Common a b)) a b h)
  role_in (one (unary.Ancestors k) e) p h (inl m) = subst IsRole m (at d env literals (sort.Set k) (one (unary.Ancestors k) e) (ancestors_sort k e) h)
  role_in (one (unary.Ancestors k) e) p h (inr m) = absurd m
  role_in (one (unary.Like ps) x) p h (inl m) = subst IsRole m tt
  role_in (one (unary.Like ps) x) p h (inr m) = absurd m
  role_in _ p h m = absurd m

  role_made : (x : Tree) (p : Role) → Is x → Has (roles x) p → IsRole p
  role_made x p h m = ⊎_elim (role_by (out-Sort (tree_sort x)) x p h) (role_in x p h) (Has-append (roles_by (out-Sort (tree_sort x)) x) (roles_in x) p m)

  -- ---- what goes with two

  with_one : (x y t : Tree) → Is x → Is y → Has (equated_by (one_sort x y) x y) t → Is t
  with_one x y t h i m = let e = equated_is (one_sort x y) x y t m in subst Is e.1 (equation_made d env literals x y h i (same_sorts (tree_sort x) (tree_sort y) e.0))

  with_pattern : (l : Sort-F Sort) (x t : Tree) (ps : List Part) → out-Sort (tree_sort x) ≡ l → Is x → Has (matches_by l x ps) t → Is t
  with_pattern s.String x t ps e h (inl m) =
      subst Is m (own d env literals sort.Bool (like_term x ps) (like_made d env literals ps x (at d env literals sort.String x (at_level (tree_sort x) s.String e ∙ rolls-String) h)))
  with_pattern s.String x t ps e h (inr m) = absurd m
  with_pattern _ x t ps e h m = absurd m

  a_member : (k : Sort) (x a t : Tree) → Of k x → Of (sort.Set k) a → two binary.Member x a ≡ t → Is t
  a_member k x a t h i e = subst Is e (own d env literals sort.Bool (two binary.Member x a) (judged.of_member k x a h i))

  -- a set is of one member sort
  one_kind : (j k : Sort) (a b : Tree) → a ≡ b → Of (sort.Set j) a → Of (sort.Set k) b → j ≡ k
  one_kind j k a b e h i = one_member j k (sym (sort_is d env literals (sort.Set j) a h) ∙ ap tree_sort e ∙ sort_is d env literals (sort.Set k) b i)

  with_other : (x a y b t : Tree) → AreMembers x a → AreMembers y b → Has (equated_by (tree_eq a b) x y) t → Is t
  with_other x a y b t h i m =
      let e = equated_is (tree_eq a b) x y t m in
      let same = one_kind h.member i.member a b (tree_eq-exact a b e.0) h.second i.second in
      subst Is e.1 (equation_made d env literals x y (own d env literals h.member x h.first) (own d env literals i.member y i.first)
      (sort_is d env literals h.member x h.first ∙ same ∙ sym (sort_is d env literals i.member y i.first)))

  with_linked : (x a b t : Tree) → AreMembers x a → Is b → Has (members_by (are_linked a b) x b) t → Is t
  with_linked x a b t h i m =
      let e = member_is (are_linked a b) x b t m in
      let same = same_sorts (tree_sort a) (tree_sort b) (and_first (one_sort a b) (own_sets (roots a b).0 (roots a b).1) e.0) in
      a_member h.member x b t h.first (at d env literals (sort.Set h.member) b (sym same ∙ sort_is d env literals (sort.Set h.member) a h.second) i) e.1

  with_flow : (x a b c t : Tree) → AreMembers x a → AreSets b c → Has (members_by (tree_eq a b) x c) t → Is t
  with_flow x a b c t h i m =
      let e = member_is (tree_eq a b) x c t m in
      let same = one_kind h.member i.member a b (tree_eq-exact a b e.0) h.second i.first in
      a_member i.member x c t (subst (λ (k : Sort). Of k x) same h.first) i.second e.1

  -- an entity of the type of another's ancestors
  under_is : (k : Sort) (f : Tree) → is_under f k ≡ true → tree_sort f ≡ k
  under_is k f e = same_sorts (tree_sort f) k e

  with_up : (x f e t : Tree) (k own_sort : Sort) → AreMembers x (one (unary.Ancestors k) f) → Of (sort.Set own_sort) (one (unary.Ancestors own_sort) e)
      → Has (members_by (is_under f own_sort && (length (choices_in e) == 0)) x (ancestors_of k e)) t → Is t
  with_up x f e t k own_sort h i m =
      let q = member_is (is_under f own_sort && (length (choices_in e) == 0)) x (ancestors_of k e) t m in
      let near = ancestors_in (sort.Set own_sort) own_sort e i in
      let far = ancestors_in (sort.Set h.member) k f h.second in
      let middle_sort : entity_sort d near.up ≡ entity_sort d far.name =
      sym near.own_sort ∙ sym (under_is own_sort f (and_first (is_under f own_sort) (length (choices_in e) == 0) q.0)) ∙ sort_is d env literals (entity_sort d far.name) f far.entity in
      let middle : near.up ≡ far.name =
      sym (ap name_in (out_Entity near.up (choices_of d near.up))) ∙ ap (λ (j : Sort). name_in (out-Sort j)) middle_sort ∙ ap name_in (out_Entity far.name (choices_of d far.name)) in
      let none : choices_in e ≡ choices_of d near.name =
      ap (λ (j : Sort). choices_level (out-Sort j)) (sort_is d env literals (entity_sort d near.name) e near.entity) ∙ ap choices_level (out_Entity near.name (choices_of d near.name)) in
      let plain = no_actions d near.name (sym none ∙ empty_is (choices_in e) (and_second (is_under f own_sort) (length (choices_in e) == 0) q.0)) in
      let there = above_within d lawful near.name far.name far.up near.names far.names plain near.declared (subst (Contains near.names) middle near.among) far.declared far.among in
      let whole : Of (sort.Set k) (one (unary.Ancestors k) e) =
      subst (λ (j : Sort). Of (sort.Set j) (one (unary.Ancestors j) e)) (sym far.own_sort) (judged.of_ancestors near.name far.up near.names e near.declared there near.entity) in
      a_member k x (one (unary.Ancestors k) e) t (subst (λ (j : Sort). Of j x) (one_member h.member k far.whole) h.first) whole q.1

  up_made : (x a e t : Tree) (own_sort : Sort) → AreMembers x a → Of (sort.Set own_sort) (one (unary.Ancestors own_sort) e) → Has (ancestors_up x a own_sort e) t → Is t
  up_made x (one (unary.Ancestors k) f) e t own_sort h i m = with_up x f e t k own_sort h i m
  up_made x _ e t own_sort h i m = absurd m

  with_entity : (k j : Sort) (e f t : Tree) → Of (sort.Set k) (one (unary.Ancestors k) e) → Of (sort.Set j) (one (unary.Ancestors j) f)
      → Has (members_by (is_under f k) f (ancestors_of k e)) t → Is t
  with_entity k j e f t h i m =
      let q = member_is (is_under f k) f (ancestors_of k e) t m in
      let far = ancestors_in (sort.Set j) j f i in
      let sorted : entity_sort d far.name ≡ k = sym (sort_is d env literals (entity_sort d far.name) f far.entity) ∙ under_is k f q.0 in
      a_member k f (one (unary.Ancestors k) e) t (subst (λ (l : Sort). Of l f) sorted far.entity) h q.1

  met_made : (p q : Role) (t : Tree) → IsRole p → IsRole q → Has (meet p q) t → Is t
  met_made (named x) (named y) t h i m = with_one x y t h i m
  met_made (named x) (pattern ps) t h i m = with_pattern (out-Sort (tree_sort x)) x t ps refl h m
  met_made (candidate x a) (candidate y b) t h i m = with_other x a y b t h i m
  met_made (candidate x a) (set b) t h i m = with_linked x a b t h i m
  met_made (candidate x a) (flow b c) t h i m = with_flow x a b c t h i m
  met_made (candidate x a) (above k e) t h i m = up_made x a e t k h i m
  met_made (above k e) (above j f) t h i m = with_entity k j e f t h i m
  met_made _ _ t h i m = absurd m

  pub roles_made : (x y : Tree) (p q : Role) (t : Tree) → Is x → Is y → Has (roles x) p → Has (roles y) q → Has (meet p q) t → Is t
  roles_made x y p q t h i j k m = met_made p q t (role_made x p h j) (role_made y q i k) m
