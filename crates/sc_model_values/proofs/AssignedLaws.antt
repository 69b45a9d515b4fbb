-- What is assigned to a set, closed term by closed term, and that its members are closed and of one sort.
use Rattle.std.proofs.Common.{◌≡◌, ◌<◌, ◌≤◌, ◌+◌, ◌++◌, ◌&&◌, ℕ, suc, Bool, true, false, cond, inl, inr, List, [], ◌∷◌, map, flat_map, drop, length, slice_get, Option, Some, None, unwrap_or, Contains, refl, sym, ap, ◌∙◌, subst, arith}
use Rattle.std.proofs.lemmas.List.{append-nil, append_assoc, map-append}
use Rattle.std.specs.List.{AllByRecursion}
use Rattle.sc_lists.proofs.ListLaws.{all_of_elements, all_element, contains_map, contains_from_map}
use Rattle.sc_lists.proofs.MemberLaws.{Has-from_Contains, Contains-from_Has, flat_map-Has}
use Rattle.sc_lists.specs.Members.{Has}
use Rattle.sc_clauses.specs.Assignments as clauses
use Rattle.sc_sorts.specs.declared.sort.Sort.{Sort}
use Rattle.sc_sorts.specs.declared.sort.Sort.TheVariants as sort
use Rattle.sc_sorts.specs.Inside.{member_sort}
use Rattle.sc_sorts.specs.declared.node.BinaryOp.TheVariants as binary
use Rattle.sc_sorts.specs.declared.node.ManyOp.TheVariants as manys
use Rattle.sc_sorts.specs.declared.node.Node.{Node}
use Rattle.sc_terms.specs.Trees.{Tree, leaf, one, two, choice, many}
use Rattle.sc_terms.specs.TreeSorts.{tree_sort}
use Rattle.sc_terms.specs.Tables.{Places, tree, node_parts, AreBelow, IsTable}
use Rattle.sc_terms.specs.Order.{tree_eq}
use Rattle.sc_terms.proofs.OrderLaws.{tree_eq-exact}
use Rattle.sc_term_laws.proofs.BinaryJudged.{binary_kept}
use Rattle.sc_term_laws.specs.Judging.{IsTermOf}
use Rattle.sc_term_laws.proofs.JudgingLaws.{sort_is, member_of}
use Rattle.sc_term_laws.proofs.TestLaws.{set_sort}
use Rattle.sc_rule_laws.specs.Terms.{members, written}
use Rattle.sc_rule_laws.proofs.WrittenTerms.{written_made}
use Rattle.sc_rule_instances.specs.Lookups.{IsMembers}
use Rattle.sc_footprint.specs.Closure.{Closed}
use Rattle.sc_footprint.specs.Problems.{Posed, IsPosed, goal_term, closed_terms, numbered}
use Rattle.sc_footprint.specs.Theories.{ClosedAreTerms}
use Rattle.sc_model_values.specs.Models.{model, truth_in}
use Rattle.sc_model_laws.proofs.ClosureLaws.{of_part}
use Rattle.sc_model_laws.specs.Assignments.{Assignment, lit}
use Rattle.sc_model_laws.specs.Vals.{assigned, elements, member_in}
use Rattle.sc_model_laws.proofs.ClosedLaws.{standing_closed}
use Rattle.sc_rule_instances.proofs.PartLaws.{drop_at, drop_end, number_suc}
use Rattle.sc_model_values.specs.Parts.{IsOf}

-- ---- one closed term after the other

module _ (tree_at : ℕ → Tree) (f : Tree → List Tree) (closed : List ℕ) (whole : List Tree) where
  -- one more is so far
  pub one_more : (place n : ℕ) (old new : List ℕ) → numbered closed (place + 1) ≡ Some n → map tree_at new ≡ map tree_at old ++ f (tree_at n)
      → map tree_at old ++ flat_map f (map tree_at (drop place closed)) ≡ whole → map tree_at new ++ flat_map f (map tree_at (drop (place + 1) closed)) ≡ whole
  one_more place n old new e put so_far =
      let next : place + 1 ≡ suc place = omega arith in
      let at : slice_get closed place ≡ Some n = sym (number_suc closed place) ∙ ap (numbered closed) (sym next) ∙ e in
      let rest : List Tree = flat_map f (map tree_at (drop (place + 1) closed)) in
      ap (λ (ts : List Tree). ts ++ flat_map f (map tree_at (drop (place + 1) closed))) put
      ∙ append_assoc (map tree_at old) (f (tree_at n)) (flat_map f (map tree_at (drop (place + 1) closed)))
      ∙ sym (ap (λ (ns : List ℕ). map tree_at old ++ flat_map f (map tree_at ns)) (drop_at closed place n at))
      ∙ so_far

  pub no_more : (place : ℕ) (ys : List ℕ) → length closed ≤ place → map tree_at ys ++ flat_map f (map tree_at (drop place closed)) ≡ whole → map tree_at ys ≡ whole
  no_more place ys h so_far =
      sym (append-nil (map tree_at ys)) ∙ sym (ap (λ (ns : List ℕ). map tree_at ys ++ flat_map f (map tree_at ns)) (drop_end closed place h)) ∙ so_far

-- ---- what a term says

module _ (m : Assignment) (tree_at : ℕ → Tree) (t x : Tree) (y z : ℕ) (is : t ≡ two binary.Member (tree_at y) (tree_at z)) where
  said_by : (b c : Bool) → tree_eq (tree_at z) x ≡ b → lit m t ≡ c → member_in m x t ≡ cond (b && c) (tree_at y ∷ []) []
  unfolding lit
  said_by b c e h =
      let same : lit m t ≡ m (two binary.Member (tree_at y) (tree_at z)) = ap (lit m) is in
      ap (member_in m x) is ∙ ap (λ (d : Bool). cond (d && m (two binary.Member (tree_at y) (tree_at z))) (tree_at y ∷ []) []) e ∙ ap (λ (d : Bool). cond (b && d) (tree_at y ∷ []) []) (sym same ∙ h)

  pub said_put : (old new : List ℕ) → tree_eq (tree_at z) x ≡ true → lit m t ≡ true → new ≡ old ++ y ∷ [] → map tree_at new ≡ map tree_at old ++ member_in m x t
  said_put old new e h put =
      ap (map tree_at) put ∙ map-append tree_at old (y ∷ []) ∙ ap (λ (ts : List Tree). map tree_at old ++ ts) (sym (said_by true true e h))

  pub other_set : (old : List ℕ) → tree_eq (tree_at z) x ≡ false → map tree_at old ≡ map tree_at old ++ member_in m x t
  other_set old e = sym (ap (λ (ts : List Tree). map tree_at old ++ ts) (said_by false (lit m t) e refl) ∙ append-nil (map tree_at old))

  pub not_said : (old : List ℕ) → tree_eq (tree_at z) x ≡ true → lit m t ≡ false → map tree_at old ≡ map tree_at old ++ member_in m x t
  not_said old e h = sym (ap (λ (ts : List Tree). map tree_at old ++ ts) (said_by true false e h) ∙ append-nil (map tree_at old))

-- ---- what is assigned

pub assigned_by : (p : Posed) (m : clauses.Assignment) (names : List (List ℕ)) (x : Tree) → flat_map (member_in (truth_in p m) x) (closed_terms p) ≡ assigned (model p m names) x
unfolding model
assigned_by p m names x = refl

member_by : (m : Assignment) (c x y : Tree) → Has (member_in m x c) y → c ≡ two binary.Member y x
member_by m (two binary.Member z u) x y h = by (tree_eq u x) (m (two binary.Member z u)) refl h where
  by : (b c : Bool) → tree_eq u x ≡ b → Has (cond (b && c) (z ∷ []) []) y → two binary.Member z u ≡ two binary.Member y x
  by true true e (inl is) = λ i. two binary.Member (is i) (tree_eq-exact u x e i)
  by true true e (inr other) = absurd other
  by true false e h = absurd h
  by false c e h = absurd h
member_by m _ x y h = absurd h

module _ (terms : ClosedAreTerms) (p : Posed) (posed : IsPosed p) (table : IsTable p.nodes) where
  said_closed : (m : Assignment) (x y : Tree) → Has (flat_map (member_in m x) (closed_terms p)) y → Closed p.schema p.env (goal_term p) (two binary.Member y x)
  said_closed m x y h =
      let c = flat_map-Has (member_in m x) (closed_terms p) y h in
      subst (Closed p.schema p.env (goal_term p)) (member_by m c.0 x y c.2) ((posed.are_closed.just c.0).0 (Contains-from_Has (closed_terms p) c.0 c.1))

  member_sorted : (k : Sort) (x y : Tree) → tree_sort x ≡ sort.Set k → Closed p.schema p.env (goal_term p) (two binary.Member y x) → tree_sort y ≡ k
  member_sorted k x y e c =
      let kept = binary_kept p.schema p.env p.literals (tree_sort (two binary.Member y x)) binary.Member y x
      (terms p.schema p.env p.literals (goal_term p) (two binary.Member y x) posed.lawful posed.goal_is c) in
      let set : tree_sort x ≡ sort.Set (tree_sort y) = set_sort (tree_sort x) (tree_sort y) kept.2 in
      sym (member_of (tree_sort y)) ∙ ap member_sort (sym set ∙ e) ∙ member_of k

  -- a number of the table is closed where its term is
  closed_number : (n : ℕ) → n < length p.nodes → Closed p.schema p.env (goal_term p) (tree p.nodes n) → Contains p.closed n
  closed_number n h c =
      let r = contains_from_map (tree p.nodes) p.closed (tree p.nodes n) ((posed.are_closed.just (tree p.nodes n)).1 c) in
      let within : r.0 < length p.nodes = all_element (λ m. m < length p.nodes) p.closed r.0 posed.within r.1 in
      subst (Contains p.closed) (table.apart r.0 n within h r.2) r.1

  pub members_are : (m : Assignment) (k : Sort) (n : ℕ) (ys : List ℕ) → IsOf p (sort.Set k) n → AllByRecursion (λ y. y < length p.nodes) ys
      → map (tree p.nodes) ys ≡ flat_map (member_in m (tree p.nodes n)) (closed_terms p) → AllByRecursion (IsOf p k) ys
  members_are m k n ys is within e = all_of_elements (IsOf p k) ys (λ y h. (
      let below : y < length p.nodes = all_element (λ y. y < length p.nodes) ys y within h in
      let here : Has (flat_map (member_in m (tree p.nodes n)) (closed_terms p)) (tree p.nodes y) =
      subst (λ (ts : List Tree). Has ts (tree p.nodes y)) e (Has-from_Contains (map (tree p.nodes) ys) (tree p.nodes y) (contains_map (tree p.nodes) ys y h)) in
      let said = said_closed m (tree p.nodes n) (tree p.nodes y) here in
      record {
        closed = closed_number y below (of_part p.schema p.env (goal_term p) (two binary.Member (tree p.nodes y) (tree p.nodes n)) (tree p.nodes y) said (inl refl));
        within = below;
        sorted = member_sorted k (tree p.nodes n) (tree p.nodes y) is.sorted said;
      }))

  -- ---- the terms of its members

  pub elements_are : (m : clauses.Assignment) (names : List (List ℕ)) (k : Sort) (n : ℕ) (ys : List ℕ) → IsOf p (sort.Set k) n → AllByRecursion (λ y. y < length p.nodes) ys
      → map (tree p.nodes) ys ≡ elements (model p m names) (tree p.nodes n) → AllByRecursion (IsOf p k) ys
  elements_are m names k n ys is within e = by (written (tree p.nodes n)) refl e
    where
      whole : Closed p.schema p.env (goal_term p) (tree p.nodes n)
      whole = (posed.are_closed.just (tree p.nodes n)).0 (contains_map (tree p.nodes) p.closed n is.closed)

      made : IsTermOf p.schema p.env p.literals (sort.Set k) (tree p.nodes n)
      made =
          subst (λ (j : Sort). IsTermOf p.schema p.env p.literals j (tree p.nodes n)) is.sorted
          (terms p.schema p.env p.literals (goal_term p) (tree p.nodes n) posed.lawful posed.goal_is whole)

      by : (o : Option (List Tree)) → written (tree p.nodes n) ≡ o → map (tree p.nodes) ys ≡ unwrap_or o (assigned (model p m names) (tree p.nodes n)) → AllByRecursion (IsOf p k) ys
      by None w e = members_are (truth_in p m) k n ys is within (e ∙ sym (assigned_by p m names (tree p.nodes n)))
      by (Some us) w e = all_of_elements (IsOf p k) ys (λ y h. (
          let below : y < length p.nodes = all_element (λ y. y < length p.nodes) ys y within h in
          let here : Has us (tree p.nodes y) =
          subst (λ (ts : List Tree). Has ts (tree p.nodes y)) e (Has-from_Contains (map (tree p.nodes) ys) (tree p.nodes y) (contains_map (tree p.nodes) ys y h)) in
          record {
            closed = closed_number y below (standing_closed p.schema p.env (goal_term p) (tree p.nodes n) (tree p.nodes y) us w whole here);
            within = below;
            sorted = sort_is p.schema p.env p.literals k (tree p.nodes y) (written_made p.schema p.env p.literals k (tree p.nodes n) us (tree p.nodes y) made w here);
          }))

-- ---- by the parts of a set term, and else by what is assigned

parts_stand : (xs : List Node) (ps : Places) → map (tree xs) (map (λ (q : List ℕ × ℕ). q.1) ps) ≡ members (node_parts xs ps)
parts_stand xs [] = refl
parts_stand xs (q ∷ ps) = ap (λ (ts : List Tree). tree xs q.1 ∷ ts) (parts_stand xs ps)

pub parts_below : (l : ℕ) (ps : Places) → AreBelow l ps → AllByRecursion (λ n. n < l) (map (λ (q : List ℕ × ℕ). q.1) ps)
parts_below l [] h = tt
parts_below l (q ∷ ps) h = (h.0, parts_below l ps h.1)

pub standing_elements : (p : Posed) (m : clauses.Assignment) (names : List (List ℕ)) (x : Tree) (ps : Places) (ys : List ℕ) → IsMembers p.nodes x (Some ps)
    → ys ≡ map (λ (q : List ℕ × ℕ). q.1) ps → map (tree p.nodes) ys ≡ elements (model p m names) x
standing_elements p m names x ps ys (k, is, below) e =
    ap (map (tree p.nodes)) e ∙ parts_stand p.nodes ps ∙ sym (ap (λ (t : Tree). elements (model p m names) t) is)

not_written : (xs : List Node) (x : Tree) → IsMembers xs x None → written x ≡ None
not_written xs (leaf l) h = refl
not_written xs (one o a) h = refl
not_written xs (two o a b) h = refl
not_written xs (choice c a b) h = refl
not_written xs (many (manys.Set k) ts) h = absurd (h k ts refl)
not_written xs (many manys.Record ts) h = refl

pub assigned_elements : (p : Posed) (m : clauses.Assignment) (names : List (List ℕ)) (x : Tree) (ys : List ℕ) → IsMembers p.nodes x None
    → map (tree p.nodes) ys ≡ assigned (model p m names) x → map (tree p.nodes) ys ≡ elements (model p m names) x
assigned_elements p m names x ys h e = e ∙ sym (ap (λ (o : Option (List Tree)). unwrap_or o (assigned (model p m names) x)) (not_written p.nodes x h))
