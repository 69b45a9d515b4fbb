-- An instance of EN5 isn't falsified where a membership that an assignment says is true is the one that it tells of.
use Rattle.std.proofs.Common.{◌≡◌, ◌≢◌, ◌&&◌, ◌||◌, ◌==◌, ◌∙◌, ℕ, Bool, true, false, List, [], ◌∷◌, Option, Some, None, inl, inr, refl, sym, ap, subst}
use Rattle.std.proofs.lemmas.Bool.{and_parts}
use Rattle.std.specs.List.{list_any}
use Rattle.sc_laws.proofs.NumberLaws.{nat_eq_true}
use Rattle.sc_laws.proofs.OptionLaws.{same_some}
use Rattle.sc_lists.proofs.MemberLaws.{AllByRecursion-Has}
use Rattle.sc_lists.specs.Members.{Has}
use Rattle.sc_clauses.specs.Assignments.{Assignment}
use Rattle.sc_sorts.specs.declared.node.UnaryOp.TheVariants as unary
use Rattle.sc_sorts.specs.declared.sort.Sort.{Sort}
use Rattle.sc_sorts.specs.OrderLaws.{sort_eq_decides}
use Rattle.sc_terms.specs.Order.{tree_eq}
use Rattle.sc_terms.specs.Tables.{tree}
use Rattle.sc_terms.specs.Trees.{Tree, one}
use Rattle.sc_terms.specs.TreeSorts.{tree_sort}
use Rattle.sc_terms.proofs.OrderLaws.{tree_cmp_level}
use Rattle.sc_footprint.specs.Problems.{Posed, closed_terms, literal_in, numbered, term_of}
use Rattle.sc_footprint.proofs.NumberingLaws.{numbered_map, numbered_back}
use Rattle.sc_rule_instances.specs.Instances.{on_four}
use Rattle.sc_rule_instances.specs.Known.{is_falsified}
use Rattle.sc_rule_instances.specs.Clauses.{literal_for}
use Rattle.sc_rule_instances.proofs.LiteralLaws.{number_there}
use Rattle.sc_rule_laws.specs.Signed.{Signed, so, unless, given}
use Rattle.sc_rule_laws.specs.Entities.{en5}
use Rattle.sc_rule_laws.specs.Terms.{above, member}
use Rattle.th_entities.specs.declared.memberships.Membership.{Membership}
use Rattle.th_entities.specs.Free.{IsLifted, is_out}
use Rattle.th_entities.specs.Memberships.{number_in, owner_in, is_above, is_true, IsHeld, AreOf}
use Rattle.th_entities.proofs.PastLaws.{free_none}
use Rattle.th_entities.proofs.PruneLaws.{both_out}

-- ---- one of the list that passes

any_has : {X : Type 0} (p : X → Bool) (xs : List X) → list_any p xs ≡ true → (x : X) × Has xs x × (p x ≡ true)
any_has p [] h = absurd cc
any_has {X} p (x ∷ xs) h = by (p x) refl h (any_has p xs)
  where
    by : (b : Bool) → p x ≡ b → (b || list_any p xs) ≡ true → (list_any p xs ≡ true → (y : X) × Has xs y × (p y ≡ true)) → (y : X) × Has (x ∷ xs) y × (p y ≡ true)
    by true e g rest = (x, inl refl, e)
    by false e g rest = let (y, there, is) = rest g in (y, inr there, is)

-- ---- the term that has a number

module _ (p : Posed) where
  number_some : (n : ℕ) (t u : Tree) → term_of p n ≡ Some t → number_in p u ≡ n → n ≢ 0 → u ≡ t
  number_some n t u e f some =
      let there : Has (closed_terms p) u = number_there (closed_terms p) u (λ z. some (sym f ∙ z)) in
      let back : numbered (closed_terms p) n ≡ Some u = ap (numbered (closed_terms p)) (sym f) ∙ numbered_back tree_cmp_level (closed_terms p) u there in
      let here : Some u ≡ Some t = sym back ∙ sym (numbered_map (tree p.nodes) p.closed n) ∙ e in
      same_some here

  not_zero : (n : ℕ) (t : Tree) → term_of p n ≡ Some t → n ≢ 0
  not_zero n t e z = let none : None ≡ Some t = sym (ap (term_of p) z) ∙ e in cc

  pub number_is : (n : ℕ) (t u : Tree) → term_of p n ≡ Some t → number_in p u ≡ n → u ≡ t
  number_is n t u e f = number_some n t u e f (not_zero n t e)

-- ---- a true third term

module _ (p : Posed) (m : Assignment) where
  ends_false : (a b c : Bool) → c ≡ false → (a && (b && (c && true))) ≡ false
  ends_false false b c h = refl
  ends_false true false c h = refl
  ends_false true true false h = refl
  ends_false true true true h = absurd cc

  not_out : (t : Tree) → is_true p m t ≡ true → is_out m (literal_in p t) ≡ false
  not_out t h = by (is_out m (literal_in p t)) refl
    where
      by : (b : Bool) → is_out m (literal_in p t) ≡ b → b ≡ false
      by false e = refl
      by true e = absurd (both_out p m (literal_in p t) h e)

  third_free : (test : Bool) (s t : Signed) (u : Tree) → is_true p m u ≡ true → is_falsified p m (given test (s ∷ t ∷ so u ∷ [])) ≡ false
  unfolding is_falsified
  third_free true s t u h = ends_false (is_out m (literal_for p s)) (is_out m (literal_for p t)) (is_out m (literal_for p (so u))) (not_out u h)
  third_free false s t u h = free_none p m None refl

  moved : (c a h : Tree) (k l : Sort) → l ≡ k → h ≡ a → member c (above l h) ≡ member c (above k a)
  moved c a h k l e f = ap (λ (j : Sort). member c (above j h)) e ∙ ap (λ (t : Tree). member c (above k t)) f

  lifted5 : (a b c s t : Tree) (n : ℕ) → is_above c s ≡ true → is_above c t ≡ true → term_of p n ≡ Some a → owner_in p t ≡ n → is_true p m (member c t) ≡ true → is_falsified p m (en5 a b c s) ≡ false
  lifted5 a b c (one (unary.Ancestors k) g) (one (unary.Ancestors l) h) n first second is own said =
      let sorts : l ≡ k = (sort_eq_decides l (tree_sort c)).0 second ∙ sym ((sort_eq_decides k (tree_sort c)).0 first) in
      let entity : h ≡ a = number_is p n a h is own in
      third_free (tree_eq b g) (unless (member b (above (tree_sort b) a))) (unless (member c (above k g))) (member c (above k a))
      (subst (λ (u : Tree). is_true p m u ≡ true) (moved c a h k l sorts entity) said)
  lifted5 a b c (one (unary.Ancestors k) g) _ n first second is own said = absurd cc
  lifted5 a b c _ t n first second is own said = absurd cc

  on_lifted5 : (e f x u : ℕ) (o q r i : Option Tree) → o ≡ term_of p e → r ≡ term_of p x → i ≡ term_of p u → (c d s t : Tree) → number_in p c ≡ x → number_in p s ≡ u → number_in p d ≡ x → owner_in p t ≡ e
      → is_above c s ≡ true → is_above d t ≡ true → is_true p m (member d t) ≡ true → is_falsified p m (on_four o q r i en5) ≡ false
  on_lifted5 e f x u (Some a) (Some b) (Some y) (Some z) at_e at_x at_u c d s t c_is s_is d_is t_is first second said =
      let here : c ≡ y = number_is p x y c (sym at_x) c_is in
      let there : d ≡ y = number_is p x y d (sym at_x) d_is in
      let set : s ≡ z = number_is p u z s (sym at_u) s_is in
      lifted5 a b y z t e (subst (λ (w : Tree). is_above y w ≡ true) set (subst (λ (w : Tree). is_above w s ≡ true) here first)) (subst (λ (w : Tree). is_above w t ≡ true) there second) (sym at_e) t_is
      (subst (λ (w : Tree). is_true p m (member w t) ≡ true) there said)
  on_lifted5 e f x u (Some a) (Some b) (Some y) None _ _ _ c d s t _ _ _ _ _ _ _ = free_none p m None refl
  on_lifted5 e f x u (Some a) (Some b) None i _ _ _ c d s t _ _ _ _ _ _ _ = free_none p m None refl
  on_lifted5 e f x u (Some a) None r i _ _ _ c d s t _ _ _ _ _ _ _ = free_none p m None refl
  on_lifted5 e f x u None q r i _ _ _ c d s t _ _ _ _ _ _ _ = free_none p m None refl

  -- the membership of the same member in the ancestors of the first entity is among these
  pub lifted_free : (e f : ℕ) (lows : List Membership) (up : Membership) (b : Bool) → AreOf p m e lows → IsHeld p m up → b ≡ (up.is_above && list_any (λ (k : Membership). k.member == up.member && k.is_above) lows) → b ≡ true → IsLifted p m e f up
  unfolding AreOf
  lifted_free e f lows up b (alike, held) at_up is h =
      let both = and_parts up.is_above (list_any (λ (k : Membership). k.member == up.member && k.is_above) lows) (sym is ∙ h) in
      let (other, here, passes) = any_has (λ (k : Membership). k.member == up.member && k.is_above) lows both.1 in
      let same = and_parts (other.member == up.member) other.is_above passes in
      let at_other = AllByRecursion-Has (IsHeld p m) lows other held here in
      let own : other.owner ≡ e = AllByRecursion-Has (λ (k : Membership). k.owner ≡ e) lows other alike here in
      on_lifted5 e f up.member up.set (term_of p e) (term_of p f) (term_of p up.member) (term_of p up.set) refl refl refl at_up.element at_other.element at_up.whole at_other.whole
      (sym (ap (λ (k : Membership). k.member) at_up.stands)) (sym (ap (λ (k : Membership). k.set) at_up.stands))
      (sym (ap (λ (k : Membership). k.member) at_other.stands) ∙ nat_eq_true other.member up.member same.0)
      (sym (ap (λ (k : Membership). k.owner) at_other.stands) ∙ own)
      (sym (ap (λ (k : Membership). k.is_above) at_up.stands) ∙ both.0)
      (sym (ap (λ (k : Membership). k.is_above) at_other.stands) ∙ same.1)
      at_other.said
