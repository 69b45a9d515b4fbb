-- Where a test of some terms fails, no instance with these is falsified.
use Rattle.std.proofs.Common.{◌≡◌, ◌≢◌, ◌∙◌, ◌&&◌, ℕ, Bool, true, false, List, [], ◌∷◌, Option, Some, None, is_some, refl, ap, subst}
use Rattle.sc_clauses.specs.declared.lit.Lit.{Lit}
use Rattle.sc_clauses.specs.Assignments.{Assignment}
use Rattle.sc_clauses.specs.Clauses.{negation}
use Rattle.sc_sorts.specs.declared.node.Leaf.TheVariants.{Literal}
use Rattle.sc_sorts.specs.declared.node.Literal.TheVariants as literal
use Rattle.sc_sorts.specs.declared.node.UnaryOp.TheVariants as unary
use Rattle.sc_terms.specs.Trees.{Tree, leaf, one, two, choice, many}
use Rattle.sc_terms.specs.Folds.{equal_term}
use Rattle.sc_footprint.specs.Problems.{Posed, literal_in, term_of}
use Rattle.sc_rule_instances.specs.declared.rule.EntityRule.TheVariants.{En2, En7}
use Rattle.sc_rule_instances.specs.Clauses.{clause_for, literal_for, said_clause}
use Rattle.sc_rule_instances.specs.Instances.{entity_said, on_two, on_three}
use Rattle.sc_rule_instances.proofs.FalseLaws.{false_known, false_negation}
use Rattle.sc_rule_instances.specs.Known.{is_broken, is_falsified, known}
use Rattle.sc_rule_instances.specs.Saying.{count_of, literal_of}
use Rattle.sc_rule_laws.specs.Signed.{Signed, Said, so, unless, given}
use Rattle.sc_rule_laws.specs.Entities.{en2, en7, en7_by, same_sets}
use Rattle.sc_rule_laws.specs.Terms.{above, member}
use Rattle.th_entities_instances.specs.Rows.{above_name, declared_in}
use Rattle.th_entities.specs.Free.{IsFree, is_head_out, is_out, is_stored}
use Rattle.th_entities.proofs.PastLaws.{free_none}

module _ (p : Posed) (m : Assignment) where
  head_free : (s : Signed) (parts : List Signed) → is_out m (literal_for p s) ≡ false → is_falsified p m (Some (s ∷ parts)) ≡ false
  unfolding is_falsified
  head_free s parts h = ap (λ (b : Bool). b && is_broken m (clause_for p parts)) h

  given_head : (test : Bool) (s : Signed) (parts others : List Signed) → is_head_out p m (given test (s ∷ others)) ≡ false → is_falsified p m (given test (s ∷ parts)) ≡ false
  given_head true s parts others h = head_free s parts h
  given_head false s parts others h = free_none p m None refl

  -- the first literal of an instance, where it has any
  pub head_of : (said : Said) (n : ℕ) (l : Lit) (b : Bool) → Some n ≡ count_of said → n ≢ 0 → l ≡ literal_of p said 0 → b ≡ is_out m l → b ≡ is_head_out p m said
  unfolding said_clause
  head_of None n l b e h f g = absurd cc
  head_of (Some []) n l b e h f g = absurd (let z : n ≡ 0 = cc in h z)
  head_of (Some (s ∷ parts)) n l b e h f g = g ∙ ap (is_out m) f

  -- ---- EN2

  head2 : (x s z : Tree) → is_head_out p m (en2 s s z) ≡ false → is_falsified p m (en2 x s z) ≡ false
  head2 x (one o e) (one q f) h =
      given_head (same_sets o q) (unless (equal_term e f)) (unless (member x (one o e)) ∷ so (member x (one q f)) ∷ []) (unless (member (one o e) (one o e)) ∷ so (member (one o e) (one q f)) ∷ []) h
  head2 x (one o e) (leaf l) h = free_none p m None refl
  head2 x (one o e) (two q a b) h = free_none p m None refl
  head2 x (one o e) (choice c a b) h = free_none p m None refl
  head2 x (one o e) (many q ts) h = free_none p m None refl
  head2 x (leaf l) z h = free_none p m None refl
  head2 x (two o a b) z h = free_none p m None refl
  head2 x (choice c a b) z h = free_none p m None refl
  head2 x (many o ts) z h = free_none p m None refl

  on_head2 : (o q r : Option Tree) → is_head_out p m (on_three q q r en2) ≡ false → is_falsified p m (on_three o q r en2) ≡ false
  on_head2 (Some x) (Some s) (Some z) h = head2 x s z h
  on_head2 (Some x) (Some s) None h = free_none p m None refl
  on_head2 (Some x) None r h = free_none p m None refl
  on_head2 None q r h = free_none p m None refl

  pub prune2 : (x s z : ℕ) → is_head_out p m (entity_said p (En2 s s z)) ≡ false → IsFree p m (En2 x s z)
  prune2 x s z = on_head2 (term_of p x) (term_of p s) (term_of p z)

  -- a set and itself have the same members
  opposed : (a b c : Bool) → (b ≡ true → c ≡ true → ⊥) → (a && (b && (c && true))) ≡ false
  opposed false b c h = refl
  opposed true false c h = refl
  opposed true true false h = refl
  opposed true true true h = absurd (h refl refl)

  pub both_out : (l : Lit) → is_out m (negation l) ≡ true → is_out m l ≡ true → ⊥
  both_out l e f = let one : known m l ≡ Some true = false_negation m l e in let other : known m l ≡ Some false = false_known m l f in absurd cc

  itself : (s : Signed) (t : Tree) → is_falsified p m (Some (s ∷ unless t ∷ so t ∷ [])) ≡ false
  unfolding is_falsified
  itself s t = opposed (is_out m (literal_for p s)) (is_out m (literal_for p (unless t))) (is_out m (literal_for p (so t))) (both_out (literal_in p t))

  given_kept : (test : Bool) (parts : List Signed) → is_falsified p m (Some parts) ≡ false → is_falsified p m (given test parts) ≡ false
  given_kept true parts h = h
  given_kept false parts h = free_none p m None refl

  same2 : (x s : Tree) → is_falsified p m (en2 x s s) ≡ false
  same2 x (one o e) = given_kept (same_sets o o) (unless (equal_term e e) ∷ unless (member x (one o e)) ∷ so (member x (one o e)) ∷ []) (itself (unless (equal_term e e)) (member x (one o e)))
  same2 x _ = free_none p m None refl

  on_same2 : (o q : Option Tree) → is_falsified p m (on_three o q q en2) ≡ false
  on_same2 (Some x) (Some s) = same2 x s
  on_same2 (Some x) None = free_none p m None refl
  on_same2 None q = free_none p m None refl

  pub prune2z : (x s z : ℕ) → s ≡ z → IsFree p m (En2 x s z)
  prune2z x s z e = subst (λ (n : ℕ). IsFree p m (En2 x s n)) e (on_same2 (term_of p x) (term_of p s))

  stored2 : (x s z : Tree) → is_stored (Some s) ≡ false → en2 x s z ≡ None
  stored2 x (one (unary.Ancestors k) e) z h = absurd cc
  stored2 x (one unary.Keys e) z h = absurd cc
  stored2 x (one _ e) (one q f) h = refl
  stored2 x (one _ e) _ h = refl
  stored2 x _ z h = refl

  on_stored2 : (o q r : Option Tree) → is_stored q ≡ false → is_falsified p m (on_three o q r en2) ≡ false
  on_stored2 (Some x) (Some s) (Some z) h = free_none p m _ (stored2 x s z h)
  on_stored2 (Some x) (Some s) None h = free_none p m None refl
  on_stored2 (Some x) None r h = free_none p m None refl
  on_stored2 None q r h = free_none p m None refl

  pub prune2s : (x s z : ℕ) → is_stored (term_of p s) ≡ false → IsFree p m (En2 x s z)
  prune2s x s z = on_stored2 (term_of p x) (term_of p s) (term_of p z)

  second_stored2 : (x s z : Tree) → is_stored (Some z) ≡ false → en2 x s z ≡ None
  second_stored2 x (one o e) (one (unary.Ancestors k) f) h = absurd cc
  second_stored2 x (one o e) (one unary.Keys f) h = absurd cc
  second_stored2 x (one (unary.Ancestors k) e) (one _ f) h = refl
  second_stored2 x (one unary.Keys e) (one _ f) h = refl
  second_stored2 x (one _ e) (one _ f) h = refl
  second_stored2 x (one o e) _ h = refl
  second_stored2 x _ z h = refl

  on_second_stored2 : (o q r : Option Tree) → is_stored r ≡ false → is_falsified p m (on_three o q r en2) ≡ false
  on_second_stored2 (Some x) (Some s) (Some z) h = free_none p m _ (second_stored2 x s z h)
  on_second_stored2 (Some x) (Some s) None h = free_none p m None refl
  on_second_stored2 (Some x) None r h = free_none p m None refl
  on_second_stored2 None q r h = free_none p m None refl

  pub prune2_second : (x s z : ℕ) → is_stored (term_of p z) ≡ false → IsFree p m (En2 x s z)
  prune2_second x s z = on_second_stored2 (term_of p x) (term_of p s) (term_of p z)

  -- ---- EN7

  declared7 : (s t x : Tree) (name : List ℕ) (us : _) → is_some (count_of (en7_by p.schema s name us t)) ≡ false → is_falsified p m (en7_by p.schema s name us x) ≡ false
  declared7 s t x name (Some us) h = absurd cc
  declared7 s t x name None h = free_none p m None refl

  said7 : (s x : Tree) → is_some (count_of (en7 p.schema s s)) ≡ false → is_falsified p m (en7 p.schema s x) ≡ false
  said7 (one (unary.Ancestors k) (leaf (Literal (literal.Entity u choices)))) x h =
      let action = leaf (Literal (literal.Entity u choices)) in
      declared7 (above k action) (above k action) x (above_name (above k action)) (declared_in p.schema action) h
  said7 _ x h = free_none p m None refl

  on_said7 : (o q : Option Tree) → is_some (count_of (on_two o o (en7 p.schema))) ≡ false → is_falsified p m (on_two o q (en7 p.schema)) ≡ false
  on_said7 (Some s) (Some x) h = said7 s x h
  on_said7 (Some s) None h = free_none p m None refl
  on_said7 None q h = free_none p m None refl

  pub prune7 : (s x : ℕ) → is_some (count_of (entity_said p (En7 s s))) ≡ false → IsFree p m (En7 s x)
  prune7 s x = on_said7 (term_of p s) (term_of p x)
