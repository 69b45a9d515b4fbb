-- An instance with a number that no closed term has says nothing, and isn't falsified.
use Rattle.std.proofs.Common.{◌≡◌, ℕ, false, Option, Some, None, refl, ap, ◌∙◌}
use Rattle.sc_clauses.specs.Assignments.{Assignment}
use Rattle.sc_terms.specs.Trees.{Tree}
use Rattle.sc_footprint.specs.Problems.{Posed, term_of}
use Rattle.sc_rule_instances.specs.declared.rule.EntityRule.TheVariants.{En2, En6, En7}
use Rattle.sc_rule_instances.specs.Instances.{on_one, on_two, on_three}
use Rattle.sc_rule_instances.specs.Known.{is_falsified}
use Rattle.sc_rule_laws.specs.Signed.{Said}
use Rattle.sc_rule_laws.specs.Entities.{en2, en6, en7, en8, eq9}
use Rattle.th_entities.specs.Free.{IsFree, IsChosenFree}

pub free_none : (p : Posed) (m : Assignment) (said : Said) → said ≡ None → is_falsified p m said ≡ false
unfolding is_falsified
free_none p m said e = ap (is_falsified p m) e

two_second : (o : Option Tree) (rule : Tree → Tree → Said) → on_two o None rule ≡ None
two_second (Some a) rule = refl
two_second None rule = refl

three_second : (o r : Option Tree) (rule : Tree → Tree → Tree → Said) → on_three o None r rule ≡ None
three_second (Some a) r rule = refl
three_second None r rule = refl

three_third : (o q : Option Tree) (rule : Tree → Tree → Tree → Said) → on_three o q None rule ≡ None
three_third (Some a) (Some b) rule = refl
three_third (Some a) None rule = refl
three_third None q rule = refl

module _ (p : Posed) (m : Assignment) where
  pub past2s : (x s z : ℕ) → term_of p s ≡ None → IsFree p m (En2 x s z)
  past2s x s z gone = free_none p m _ (ap (λ (o : Option Tree). on_three (term_of p x) o (term_of p z) en2) gone ∙ three_second (term_of p x) (term_of p z) en2)

  pub past2z : (x s z : ℕ) → term_of p z ≡ None → IsFree p m (En2 x s z)
  past2z x s z gone = free_none p m _ (ap (λ (o : Option Tree). on_three (term_of p x) (term_of p s) o en2) gone ∙ three_third (term_of p x) (term_of p s) en2)

  pub past6 : (a : ℕ) → term_of p a ≡ None → IsFree p m (En6 a)
  past6 a gone = free_none p m _ (ap (λ (o : Option Tree). on_one o en6) gone)

  pub past7s : (s x : ℕ) → term_of p s ≡ None → IsFree p m (En7 s x)
  past7s s x gone = free_none p m _ (ap (λ (o : Option Tree). on_two o (term_of p x) (en7 p.schema)) gone)

  pub past7x : (s x : ℕ) → term_of p x ≡ None → IsFree p m (En7 s x)
  past7x s x gone = free_none p m _ (ap (λ (o : Option Tree). on_two (term_of p s) o (en7 p.schema)) gone ∙ two_second (term_of p s) (en7 p.schema))

  pub past_chosen : (x : ℕ) → term_of p x ≡ None → IsChosenFree p m x
  past_chosen x gone = (free_none p m _ (ap (λ (o : Option Tree). on_one o (en8 p.schema)) gone), free_none p m _ (ap (λ (o : Option Tree). on_one o (eq9 p.schema)) gone))
