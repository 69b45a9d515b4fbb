-- What holds of each membership that an assignment says is true tells that no instance of EN2, EN4 or EN5 is falsified.
use Rattle.std.proofs.Common.{◌≡◌, ◌==◌, ◌∙◌, ℕ, zero, suc, Bool, true, false, cond, List, [], ◌∷◌, Option, Some, None, refl, sym, ap, subst, arith}
use Rattle.std.proofs.lemmas.Bool.{and_parts}
use Rattle.std.proofs.lemmas.Bool.Decides.{nat_tests}
use Rattle.std.specs.List.{AllByRecursion}
use Rattle.sc_lists.proofs.MemberLaws.{AllByRecursion-Has, Has-AllByRecursion, Has-from_Contains}
use Rattle.sc_lists.specs.Members.{Has}
use Rattle.sc_clauses.specs.Assignments.{Assignment}
use Rattle.sc_sorts.specs.declared.node.UnaryOp.TheVariants as unary
use Rattle.sc_terms.specs.Folds.{equal_term}
use Rattle.sc_terms.specs.Order.{tree_eq}
use Rattle.sc_terms.specs.Tables.{tree}
use Rattle.sc_terms.specs.Trees.{Tree, one}
use Rattle.sc_terms.specs.TreeSorts.{tree_sort}
use Rattle.sc_terms.proofs.OrderLaws.{tree_cmp_level, tree_eq-exact}
use Rattle.sc_footprint.specs.Problems.{Posed, IsPosed, closed_terms, literal, literal_in, term_of}
use Rattle.sc_footprint.proofs.NumberingLaws.{at_suc, numbered_map, numbered_back}
use Rattle.sc_rule_instances.specs.declared.rule.EntityRule.TheVariants.{En2, En4, En5}
use Rattle.sc_rule_instances.specs.Instances.{entity_said, on_one, on_three, on_four}
use Rattle.sc_rule_instances.specs.Known.{is_falsified}
use Rattle.sc_rule_instances.specs.Clauses.{literal_for}
use Rattle.sc_rule_instances.proofs.FalseLaws.{false_negation, known_atom}
use Rattle.sc_rule_instances.proofs.LiteralLaws.{number_at, number_closed}
use Rattle.sc_rule_laws.proofs.MemberLaws.{has_any}
use Rattle.sc_rule_laws.specs.Signed.{Signed, Said, so, unless, given}
use Rattle.sc_rule_laws.specs.Entities.{en2, en4, en5, same_sets}
use Rattle.sc_rule_laws.specs.Terms.{above, member}
use Rattle.th_entities.specs.declared.memberships.Membership.{Membership}
use Rattle.th_entities.specs.Free.{IsFree, IsMovedFree, IsOwnFree, IsLifted, AreLifted, IsUnder, IsThroughFree, has_member, is_out}
use Rattle.th_entities.specs.Memberships.{number_in, owner_in, membership_in, is_true, true_closed, IsAmong, AreMemberships}

-- ---- the numbers of closed terms

module _ (p : Posed) (posed : IsPosed p) where
  pub number_back : (n : ℕ) (t : Tree) → term_of p n ≡ Some t → number_in p t ≡ n
  number_back zero t e = absurd cc
  number_back (suc k) t e = number_at (closed_terms p) k t posed.are_closed.ordered (sym (at_suc (closed_terms p) k) ∙ sym (numbered_map (tree p.nodes) p.closed (suc k)) ∙ e)

-- ---- a membership that is said to be true is listed

module _ (p : Posed) (m : Assignment) where
  closed_true : (x s : Tree) → is_true p m (member x s) ≡ true → term_of p (number_in p (member x s)) ≡ Some (member x s)
  unfolding literal
  closed_true x s h =
      numbered_map (tree p.nodes) p.closed (number_in p (member x s))
      ∙ numbered_back tree_cmp_level (closed_terms p) (member x s) (Has-from_Contains (closed_terms p) (member x s)
      (number_closed p (member x s) (known_atom m (literal_in p (member x s)) true (false_negation m (literal_in p (member x s)) h))))

  pub true_listed : (known : List Membership) → AreMemberships p m known → (x s : Tree) → is_true p m (member x s) ≡ true → Has known (membership_in p x s)
  unfolding AreMemberships
  true_listed known all x s h =
      let said : true_closed p m (Some (member x s)) ≡ Some (membership_in p x s) = ap (λ (b : Bool). cond b (Some (membership_in p x s)) None) h in
      subst (IsAmong known) (ap (true_closed p m) (closed_true x s h) ∙ said) (all.0 (number_in p (member x s)))

  -- ---- what an assignment that falsifies an instance says

  abbrev Out : Said → Type 0
  Out said = is_falsified p m said ≡ true

  pub nothing_out : Out None → ⊥
  unfolding is_falsified
  nothing_out h = cc

  pub free_if : (said : Said) → (Out said → is_falsified p m said ≡ false) → is_falsified p m said ≡ false
  free_if said h = by (is_falsified p m said) refl
    where
      by : (b : Bool) → is_falsified p m said ≡ b → b ≡ false
      by false e = refl
      by true e = let never : true ≡ false = sym e ∙ h e in cc

  pub given_out : (test : Bool) (s t : Signed) (parts : List Signed) → Out (given test (s ∷ t ∷ parts)) → (test ≡ true) × (is_out m (literal_for p s) ≡ true) × (is_out m (literal_for p t) ≡ true)
  unfolding is_falsified
  given_out true s t parts h = let all = and_parts _ _ h in let rest = and_parts _ _ all.1 in (refl, all.0, rest.0)
  given_out false s t parts h = absurd (nothing_out h)

  second_out : (x s z : Tree) → Out (en2 x s z) → is_true p m (member x s) ≡ true
  second_out x (one o e) (one q f) h = let (same, equal, held) = given_out (same_sets o q) (unless (equal_term e f)) (unless (member x (one o e))) (so (member x (one q f)) ∷ []) h in held
  second_out x (one o e) _ h = absurd (nothing_out h)
  second_out x _ z h = absurd (nothing_out h)

  fourth_out : (e : Tree) → Out (en4 e) → is_true p m (member e (above (tree_sort e) e)) ≡ true
  unfolding is_falsified
  fourth_out e h = let all = and_parts _ _ h in all.0

  fifth_out : (e f x u : Tree) → Out (en5 e f x u) → (number_in p f ≡ owner_in p u) × (is_true p m (member f (above (tree_sort f) e)) ≡ true) × (is_true p m (member x u) ≡ true)
  fifth_out e f x (one (unary.Ancestors k) g) h =
      let (same, below, held) = given_out (tree_eq f g) (unless (member f (above (tree_sort f) e))) (unless (member x (above k g))) (so (member x (above k e)) ∷ []) h in
      (ap (number_in p) (tree_eq-exact f g same), below, held)
  fifth_out e f x _ h = absurd (nothing_out h)

  -- ---- so it is one that the list leads to

  module _ (known : List Membership) (all : AreMemberships p m known) where
    moved_listed : (o q r : Option Tree) → Out (on_three o q r en2) → (a : Tree) × (b : Tree) × (o ≡ Some a) × (q ≡ Some b) × Has known (membership_in p a b)
    moved_listed (Some a) (Some b) (Some c) h = (a, b, refl, refl, true_listed known all a b (second_out a b c h))
    moved_listed (Some a) (Some b) None h = absurd (nothing_out h)
    moved_listed (Some a) None r h = absurd (nothing_out h)
    moved_listed None q r h = absurd (nothing_out h)

    own_listed : (o : Option Tree) → Out (on_one o en4) → (a : Tree) × (o ≡ Some a) × Has known (membership_in p a (above (tree_sort a) a))
    own_listed (Some a) h = (a, refl, true_listed known all a (above (tree_sort a) a) (fourth_out a h))
    own_listed None h = absurd (nothing_out h)

    through_listed : (o q r t : Option Tree) → Out (on_four o q r t en5)
        → (a : Tree) × (b : Tree) × (c : Tree) × (d : Tree) × (o ≡ Some a) × (q ≡ Some b) × (r ≡ Some c) × (t ≡ Some d) × (number_in p b ≡ owner_in p d) × Has known (membership_in p b (above (tree_sort b) a)) × Has known (membership_in p c d)
    through_listed (Some a) (Some b) (Some c) (Some d) h =
        let (own, below, held) = fifth_out a b c d h in (a, b, c, d, refl, refl, refl, refl, own, true_listed known all b (above (tree_sort b) a) below, true_listed known all c d held)
    through_listed (Some a) (Some b) (Some c) None h = absurd (nothing_out h)
    through_listed (Some a) (Some b) None t h = absurd (nothing_out h)
    through_listed (Some a) None r t h = absurd (nothing_out h)
    through_listed None q r t h = absurd (nothing_out h)

    module _ (posed : IsPosed p) where
      pub moved_free : (s z : ℕ) → AllByRecursion (IsMovedFree p m s z) known → (x : ℕ) → IsFree p m (En2 x s z)
      moved_free s z each x = free_if (entity_said p (En2 x s z)) by
        where
          by : Out (entity_said p (En2 x s z)) → IsFree p m (En2 x s z)
          by h =
              let (a, b, is, of, has) = moved_listed (term_of p x) (term_of p s) (term_of p z) h in
              let free : IsFree p m (En2 (number_in p a) s z) = AllByRecursion-Has (IsMovedFree p m s z) known (membership_in p a b) each has (number_back p posed s b of) in
              subst (λ (i : ℕ). IsFree p m (En2 i s z)) (number_back p posed x a is) free

      pub own_free : AllByRecursion (IsOwnFree p m) known → (e : ℕ) → IsFree p m (En4 e)
      own_free each e = free_if (entity_said p (En4 e)) by
        where
          by : Out (entity_said p (En4 e)) → IsFree p m (En4 e)
          by h =
              let (a, is, has) = own_listed (term_of p e) h in
              let free : IsFree p m (En4 (number_in p a)) = AllByRecursion-Has (IsOwnFree p m) known (membership_in p a (above (tree_sort a) a)) each has refl in
              subst (λ (i : ℕ). IsFree p m (En4 i)) (number_back p posed e a is) free

      pub through_free : AllByRecursion (IsThroughFree p m known) known → (u f e x : ℕ) → IsFree p m (En5 e f x u)
      through_free each u f e x = free_if (entity_said p (En5 e f x u)) by
        where
          by : Out (entity_said p (En5 e f x u)) → IsFree p m (En5 e f x u)
          by h =
              let (a, b, c, d, e_is, f_is, x_is, u_is, same, below, held) = through_listed (term_of p e) (term_of p f) (term_of p x) (term_of p u) h in
              let low = membership_in p b (above (tree_sort b) a) in
              let ups = AllByRecursion-Has (IsThroughFree p m known) known low each below in
              let free : IsFree p m (En5 (number_in p a) (number_in p b) (number_in p c) (number_in p d)) =
              AllByRecursion-Has (λ (up : Membership). up.owner ≡ low.member → IsLifted p m low.owner low.member up) known (membership_in p c d) ups held (sym same) in
              subst (λ (i : ℕ). IsFree p m (En5 i f x u)) (number_back p posed e a e_is)
              (subst (λ (i : ℕ). IsFree p m (En5 (number_in p a) i x u)) (number_back p posed f b f_is)
              (subst (λ (i : ℕ). IsFree p m (En5 (number_in p a) (number_in p b) i u)) (number_back p posed x c x_is)
              (subst (λ (i : ℕ). IsFree p m (En5 (number_in p a) (number_in p b) (number_in p c) i)) (number_back p posed u d u_is) free)))

-- ---- the memberships in the ancestors of one entity, with all that stands in those of others

itself : (n : ℕ) → (n == n) ≡ true
itself n = grind (arith, nat_tests)

module _ (p : Posed) (m : Assignment) where
  pub run_under : (e : ℕ) (lows : List Membership) (f : ℕ) (ups : List Membership) → AllByRecursion (λ (k : Membership). k.owner ≡ f) ups → AreLifted p m e f lows ups → AllByRecursion (IsUnder p m e lows) ups
  run_under e lows f ups alike lifted = Has-AllByRecursion (IsUnder p m e lows) ups each_of
    where
      each_of : (up : Membership) → Has ups up → IsUnder p m e lows up
      each_of up has below =
          let own : up.owner ≡ f = AllByRecursion-Has (λ (k : Membership). k.owner ≡ f) ups up alike has in
          let each = lifted (subst (λ (i : ℕ). has_member lows i ≡ true) own below) in
          subst (λ (i : ℕ). IsLifted p m e i up) (sym own) (AllByRecursion-Has (IsLifted p m e f) ups up each has)

  pub run_free : (known : List Membership) (e : ℕ) (lows : List Membership) → AllByRecursion (λ (k : Membership). k.owner ≡ e) lows → AllByRecursion (IsUnder p m e lows) known → AllByRecursion (IsThroughFree p m known) lows
  run_free known e lows alike under = Has-AllByRecursion (IsThroughFree p m known) lows (λ (low : Membership) there. Has-AllByRecursion (λ (up : Membership). up.owner ≡ low.member → IsLifted p m low.owner low.member up) known (each_of low there))
    where
      each_of : (low : Membership) → Has lows low → (up : Membership) → Has known up → up.owner ≡ low.member → IsLifted p m low.owner low.member up
      each_of low there up here own =
          let same : low.owner ≡ e = AllByRecursion-Has (λ (k : Membership). k.owner ≡ e) lows low alike there in
          let is : (low.member == up.owner) ≡ true = ap (λ (i : ℕ). low.member == i) own ∙ itself low.member in
          let below : has_member lows up.owner ≡ true = has_any (λ (k : Membership). k.member == up.owner) lows low there is in
          let free = AllByRecursion-Has (IsUnder p m e lows) known up under here below in
          subst (λ (i : ℕ). IsLifted p m i low.member up) (sym same) (subst (λ (i : ℕ). IsLifted p m e i up) own free)
