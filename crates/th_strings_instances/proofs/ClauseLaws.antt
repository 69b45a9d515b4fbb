-- Literals of what is said, where there are some: the clause, and whether that is an instance.
use Rattle.std.proofs.Common.{◌≡◌, ◌↔◌, Bool, true, false, IsTrue, [], Option, Some, None, option_map, refl, sym, ap, ◌∙◌, subst}
use Rattle.sc_clauses.specs.Clauses.{Clause}
use Rattle.sc_clauses.specs.declared.step.Instance.{Instance}
use Rattle.sc_footprint.specs.Problems.{Posed}
use Rattle.sc_rule_instances.specs.Clauses.{is_clause, clause_for, is_instance, said_clause}
use Rattle.sc_rule_instances.specs.Instances.{said_by}
use Rattle.sc_rule_laws.specs.Signed.{Said}
use Rattle.th_strings_instances.specs.Instances.{string_said, string_clause}
use Rattle.th_strings_instances.specs.Names.{string_rule}
use Rattle.th_strings_instances.specs.declared.rule.StringRule.{StringRule}

module _ (p : Posed) where
  pub clause_some : (said : Said) (o : Option Clause) (c : Clause) → o ≡ option_map (clause_for p) said → o ≡ Some c → c ≡ said_clause p said
  unfolding said_clause
  clause_some None o c e f = let g : None ≡ Some c = sym e ∙ f in absurd cc
  clause_some (Some parts) o c e f = let g : Some (clause_for p parts) ≡ Some c = sym e ∙ f in let same : clause_for p parts ≡ c = cc in sym same

  pub clause_none : (said : Said) (o : Option Clause) → o ≡ option_map (clause_for p) said → o ≡ None → [] ≡ said_clause p said
  unfolding said_clause
  clause_none None o e f = refl
  clause_none (Some parts) o e f = let g : Some (clause_for p parts) ≡ None = sym e ∙ f in absurd cc

  -- of an instance that names no rule there is none
  pub clause_unnamed : (i : Instance) (o : Option StringRule) → o ≡ string_rule i → o ≡ None → [] ≡ string_clause p i
  unfolding said_clause
  clause_unnamed i o e f = ap (λ (q : Option StringRule). said_clause p (said_by (string_said p) q)) (sym (sym e ∙ f))

  module _ (said : Said) (Q : Type 0) where
    abbrev Is : Type 0
    Is = IsTrue (is_instance p said) × Q

    pub instance_none : (o : Option Clause) → o ≡ option_map (clause_for p) said → o ≡ None → IsTrue false ↔ Is
    unfolding is_instance
    instance_none o = by said
      where
        by : (s : Said) → o ≡ option_map (clause_for p) s → o ≡ None → IsTrue false ↔ (IsTrue (is_instance p s) × Q)
        by None e f = ((λ h. absurd cc), (λ h. h.0))
        by (Some parts) e f = let g : Some (clause_for p parts) ≡ None = sym e ∙ f in absurd cc

    told : (o : Option Clause) (c ls : Clause) (b : Bool) → o ≡ option_map (clause_for p) said → o ≡ Some c → ls ≡ c → b ≡ is_clause ls → b ≡ is_instance p said
    unfolding is_instance
    told o c ls b = by said
      where
        by : (s : Said) → o ≡ option_map (clause_for p) s → o ≡ Some c → ls ≡ c → b ≡ is_clause ls → b ≡ is_instance p s
        by None e f g h = let k : None ≡ Some c = sym e ∙ f in absurd cc
        by (Some parts) e f g h = let k : Some (clause_for p parts) ≡ Some c = sym e ∙ f in let same : clause_for p parts ≡ c = cc in h ∙ ap is_clause (g ∙ sym same)

    pub instance_not : (o : Option Clause) (c ls : Clause) (b : Bool) → o ≡ option_map (clause_for p) said → o ≡ Some c → ls ≡ c → b ≡ is_clause ls → b ≡ false → IsTrue false ↔ Is
    instance_not o c ls b e f g h untrue = let is = sym untrue ∙ told o c ls b e f g h in subst (λ (t : Bool). IsTrue false ↔ (IsTrue t × Q)) is ((λ k. absurd cc), (λ k. k.0))

    pub instance_so : (o : Option Clause) (c ls : Clause) (b d : Bool) → o ≡ option_map (clause_for p) said → o ≡ Some c → ls ≡ c → b ≡ is_clause ls → b ≡ true → (IsTrue d ↔ Q) → IsTrue d ↔ Is
    instance_so o c ls b d e f g h truth q = let is = sym truth ∙ told o c ls b e f g h in subst (λ (t : Bool). IsTrue d ↔ (IsTrue t × Q)) is ((λ k. (refl, q.0 k)), (λ k. q.1 k.1))
