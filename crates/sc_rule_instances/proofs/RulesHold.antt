-- What an instance says holds in every well-formed world of its problem: the rules' laws at closed terms.
use Rattle.std.proofs.Common.{◌≡◌, ◌-◌, ◌==◌, ℕ, Bool, true, false, slice_get, Option, Some, None, cond, Contains, refl, sym, ◌∙◌}
use Rattle.sc_lists.proofs.ListLaws.{contains_place}
use Rattle.sc_clauses.specs.declared.step.Instance.{Instance}
use Rattle.sc_world.specs.declared.world.World.{World}
use Rattle.sc_terms.specs.Trees.{Tree}
use Rattle.sc_footprint.specs.Judging.{IsTerm}
use Rattle.sc_terms.specs.Tables.{tree}
use Rattle.sc_footprint.specs.Problems.{Posed, IsPosed, closed_terms, term_of}
use Rattle.sc_footprint.specs.Theories.{TermsHold}
use Rattle.sc_footprint.specs.Truths.{IsWorldOf}
use Rattle.sc_footprint.proofs.NumberingLaws.{numbered_map}
use Rattle.sc_footprint.proofs.ProblemLaws.{term_judged}
use Rattle.sc_rule_instances.specs.declared.rule.EqualRule.{EqualRule}
use Rattle.sc_rule_instances.specs.declared.rule.EqualRule.TheVariants.{Eq1, Eq2, Eq3, Eq4, Eq5, Eq6, Eq7, Eq8}
use Rattle.sc_rule_instances.specs.declared.rule.SetRule.{SetRule}
use Rattle.sc_rule_instances.specs.declared.rule.SetRule.TheVariants.{Se1, Se2, Se3, Se4, Se5, Se6, Se7, Se8, Se9, Se10}
use Rattle.sc_rule_instances.specs.declared.rule.EntityRule.{EntityRule}
use Rattle.sc_rule_instances.specs.declared.rule.EntityRule.TheVariants.{En1, En2, En3, En4, En5, En6, En7, En8, Eq9}
use Rattle.sc_rule_laws.specs.Signed.{Said, Holds}
use Rattle.sc_rule_instances.specs.Names.{equal_rule, set_rule, entity_rule}
use Rattle.sc_rule_instances.specs.Instances.{on_one, on_two, on_three, on_four, equal_said, set_said, entity_said, equal_of, set_of, entity_of, said_by}
use Rattle.sc_rule_laws.proofs.EqualSound.{eq1_holds, eq2_holds, eq5_holds, eq6_holds, eq8_holds}
use Rattle.sc_rule_laws.proofs.SetSound.{se1_holds, se3_holds, se4_holds, se5_holds, se6_holds, se7_holds}
use Rattle.sc_rule_laws.proofs.WrittenSound.{se9_holds, se10_holds}
use Rattle.sc_rule_laws.proofs.EntitySound.{en1_holds, en2_holds, en3_holds}
use Rattle.sc_rule_laws.proofs.TermsHold.{eq3_true, eq4_true, eq7_true, se2_true, se8_true, en4_true, en5_true, en6_true, en7_true, en8_true, eq9_true}

-- ---- rules on closed terms

module _ (w : World) where
  one_holds : (o : Option Tree) (rule : Tree → Said) → ((a : Tree) → o ≡ Some a → Holds w (rule a)) → Holds w (on_one o rule)
  one_holds (Some a) rule h = h a refl
  one_holds None rule h = tt

  two_hold : (o q : Option Tree) (rule : Tree → Tree → Said) → ((a b : Tree) → o ≡ Some a → q ≡ Some b → Holds w (rule a b)) → Holds w (on_two o q rule)
  two_hold (Some a) (Some b) rule h = h a b refl refl
  two_hold (Some a) None rule h = tt
  two_hold None q rule h = tt

  three_hold : (o q r : Option Tree) (rule : Tree → Tree → Tree → Said) → ((a b c : Tree) → Holds w (rule a b c)) → Holds w (on_three o q r rule)
  three_hold (Some a) (Some b) (Some c) rule h = h a b c
  three_hold (Some a) (Some b) None rule h = tt
  three_hold (Some a) None r rule h = tt
  three_hold None q r rule h = tt

  four_hold : (o q r s : Option Tree) (rule : Tree → Tree → Tree → Tree → Said) → ((a b c d : Tree) → Holds w (rule a b c d)) → Holds w (on_four o q r s rule)
  four_hold (Some a) (Some b) (Some c) (Some d) rule h = h a b c d
  four_hold (Some a) (Some b) (Some c) None rule h = tt
  four_hold (Some a) (Some b) None s rule h = tt
  four_hold (Some a) None r s rule h = tt
  four_hold None q r s rule h = tt

-- ---- rules of closed terms

-- the term of a number is closed
pub term_closed : (p : Posed) (n : ℕ) (t : Tree) → term_of p n ≡ Some t → Contains (closed_terms p) t
term_closed p n t e = by (n == 0) (sym (numbered_map (tree p.nodes) p.closed n) ∙ e)
  where
    by : (b : Bool) → cond b None (slice_get (closed_terms p) (n - 1)) ≡ Some t → Contains (closed_terms p) t
    by true f = absurd cc
    by false f = contains_place (closed_terms p) (n - 1) t f

module _ (laws : TermsHold) (p : Posed) (w : World) (posed : IsPosed p) (formed : IsWorldOf p w) where
  -- and a term of its sort
  closed_term : (n : ℕ) (t : Tree) → term_of p n ≡ Some t → IsTerm p.schema p.env p.literals t
  closed_term n t e = term_judged laws p posed t (term_closed p n t e)

  equal_holds : (rule : EqualRule) → Holds w (equal_said p rule)
  equal_holds (Eq1 a b c) = three_hold w (term_of p a) (term_of p b) (term_of p c) _ (eq1_holds w)
  equal_holds (Eq2 x i) = one_holds w (term_of p x) _ (λ t e. eq2_holds w t i)
  equal_holds (Eq3 r s i) = two_hold w (term_of p r) (term_of p s) _ (λ t u e f. eq3_true p.schema p.env p.literals w posed.lawful formed t u i (closed_term r t e) (closed_term s u f))
  equal_holds (Eq4 r s) = two_hold w (term_of p r) (term_of p s) _ (λ t u e f. eq4_true p.schema p.env p.literals w posed.lawful formed t u (closed_term r t e) (closed_term s u f))
  equal_holds (Eq5 o q) = two_hold w (term_of p o) (term_of p q) _ (λ t u e f. eq5_holds w t u)
  equal_holds (Eq6 o q) = two_hold w (term_of p o) (term_of p q) _ (λ t u e f. eq6_holds w t u)
  equal_holds (Eq7 o q i) = two_hold w (term_of p o) (term_of p q) _ (λ t u e f. eq7_true p.schema p.env p.literals w posed.lawful formed t u i (closed_term o t e) (closed_term q u f))
  equal_holds (Eq8 o) = one_holds w (term_of p o) _ (λ t e. eq8_holds w t)

  set_holds : (rule : SetRule) → Holds w (set_said p rule)
  set_holds (Se1 x y s) = three_hold w (term_of p x) (term_of p y) (term_of p s) _ (se1_holds w)
  set_holds (Se2 x s) = two_hold w (term_of p x) (term_of p s) _ (λ t u e f. se2_true p.schema p.env p.literals w posed.lawful formed t u (closed_term x t e) (closed_term s u f))
  set_holds (Se3 x s i) = two_hold w (term_of p x) (term_of p s) _ (λ t u e f. se3_holds w t u i)
  set_holds (Se4 s t x) = three_hold w (term_of p s) (term_of p t) (term_of p x) _ (se4_holds w)
  set_holds (Se5 s t i) = two_hold w (term_of p s) (term_of p t) _ (λ u v e f. se5_holds w u v i)
  set_holds (Se6 s t i) = two_hold w (term_of p s) (term_of p t) _ (λ u v e f. se6_holds w u v i)
  set_holds (Se7 s t x) = three_hold w (term_of p s) (term_of p t) (term_of p x) _ (se7_holds w)
  set_holds (Se8 s t i) = two_hold w (term_of p s) (term_of p t) _ (λ u v e f. se8_true p.schema p.env p.literals w posed.lawful formed u v i (closed_term s u e) (closed_term t v f))
  set_holds (Se9 s t i) = two_hold w (term_of p s) (term_of p t) _ (λ u v e f. se9_holds w u v i)
  set_holds (Se10 s t i) = two_hold w (term_of p s) (term_of p t) _ (λ u v e f. se10_holds w u v i)

  entity_holds : (rule : EntityRule) → Holds w (entity_said p rule)
  entity_holds (En1 x y i) = two_hold w (term_of p x) (term_of p y) _ (λ t u e f. en1_holds w t u i (term_of p i))
  entity_holds (En2 x s z) = three_hold w (term_of p x) (term_of p s) (term_of p z) _ (en2_holds w)
  entity_holds (En3 x y i) = two_hold w (term_of p x) (term_of p y) _ (λ t u e f. en3_holds w t u i (term_of p i))
  entity_holds (En4 e) = one_holds w (term_of p e) _ (λ t i. en4_true p.schema p.env p.literals w posed.lawful formed t)
  entity_holds (En5 e f x u) = four_hold w (term_of p e) (term_of p f) (term_of p x) (term_of p u) _ (en5_true p.schema p.env p.literals w posed.lawful formed)
  entity_holds (En6 a) = one_holds w (term_of p a) _ (λ t i. en6_true p.schema p.env p.literals w posed.lawful formed t (closed_term a t i))
  entity_holds (En7 s x) = two_hold w (term_of p s) (term_of p x) _ (λ t u i j. en7_true p.schema p.env p.literals w posed.lawful formed t u)
  entity_holds (En8 x) = one_holds w (term_of p x) _ (λ t i. en8_true p.schema p.env p.literals w posed.lawful formed t (closed_term x t i))
  entity_holds (Eq9 x) = one_holds w (term_of p x) _ (λ t i. eq9_true p.schema p.env p.literals w posed.lawful formed t (closed_term x t i))

-- ---- of the instances that are written

pub equal_true : TermsHold → (p : Posed) (i : Instance) (w : World) → IsPosed p → IsWorldOf p w → Holds w (equal_of p i)
equal_true laws p i w posed formed = by (equal_rule i)
  where
    by : (o : Option EqualRule) → Holds w (said_by (equal_said p) o)
    by (Some rule) = equal_holds laws p w posed formed rule
    by None = tt

pub set_true : TermsHold → (p : Posed) (i : Instance) (w : World) → IsPosed p → IsWorldOf p w → Holds w (set_of p i)
set_true laws p i w posed formed = by (set_rule i)
  where
    by : (o : Option SetRule) → Holds w (said_by (set_said p) o)
    by (Some rule) = set_holds laws p w posed formed rule
    by None = tt

pub entity_true : TermsHold → (p : Posed) (i : Instance) (w : World) → IsPosed p → IsWorldOf p w → Holds w (entity_of p i)
entity_true laws p i w posed formed = by (entity_rule i)
  where
    by : (o : Option EntityRule) → Holds w (said_by (entity_said p) o)
    by (Some rule) = entity_holds laws p w posed formed rule
    by None = tt
