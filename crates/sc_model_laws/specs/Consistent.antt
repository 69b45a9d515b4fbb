-- Assignments that falsify nothing that is said of the closed terms of a goal.
use Rattle.std.specs.Prelude.{◌≡◌, ℕ, true, List, length, map, Option, Some, IfSome}
use Rattle.std.specs.List.{AllByRecursion}
use Rattle.sc_schema.specs.declared.declarations.Env.{Env}
use Rattle.sc_schema.specs.Declarations.{Declarations}
use Rattle.sc_sorts.specs.declared.sort.Sort.TheVariants as sort
use Rattle.sc_bits.specs.Blocks.{AreBlockBits}
use Rattle.sc_terms.specs.Trees.{Tree}
use Rattle.sc_terms.specs.TreeSorts.{tree_sort}
use Rattle.sc_terms.specs.Folds.{bit_term}
use Rattle.sc_term_definitions.specs.Definitions.{shape_of, inputs_of}
use Rattle.sc_term_definitions.specs.Truths.{defined}
use Rattle.sc_rule_laws.specs.Signed.{Signed, Said}
use Rattle.sc_rule_laws.specs.Equal.{eq1, eq2, eq3, eq4, eq5, eq6, eq7, eq8}
use Rattle.sc_rule_laws.specs.Sets.{se1, se2, se3, se4, se5, se6, se7, se8, se9, se10}
use Rattle.sc_rule_laws.specs.Entities.{en1, en2, en3, en4, en5, en6, en7, en8, eq9}
use Rattle.sc_rule_laws.specs.Strings.{Pattern, Signs, AreFew, st1, st3}
use Rattle.sc_closure_rules.specs.Closure.{Closed}
use Rattle.sc_model_laws.specs.Assignments.{Assignment, lit, some_hold}

-- What some rule says at terms of which something holds. ST2 is ST3 where each pattern is asked.
pub data IsRuleAt (d : Declarations) (Is : Tree → Type 0) : Said → Type 0 where
  of_eq1 : (a b c : Tree) → Is a → Is b → Is c → IsRuleAt d Is (eq1 a b c)
  of_eq2 : (x : Tree) (i : ℕ) → Is x → IsRuleAt d Is (eq2 x i)
  of_eq3 : (r s : Tree) (i : ℕ) → Is r → Is s → IsRuleAt d Is (eq3 r s i)
  of_eq4 : (r s : Tree) → Is r → Is s → IsRuleAt d Is (eq4 r s)
  of_eq5 : (o q : Tree) → Is o → Is q → IsRuleAt d Is (eq5 o q)
  of_eq6 : (o q : Tree) → Is o → Is q → IsRuleAt d Is (eq6 o q)
  of_eq7 : (o q : Tree) (i : ℕ) → Is o → Is q → IsRuleAt d Is (eq7 o q i)
  of_eq8 : (o : Tree) → Is o → IsRuleAt d Is (eq8 o)
  of_se1 : (x y s : Tree) → Is x → Is y → Is s → IsRuleAt d Is (se1 x y s)
  of_se2 : (x s : Tree) → Is x → Is s → IsRuleAt d Is (se2 x s)
  of_se3 : (x s : Tree) (i : ℕ) → Is x → Is s → IsRuleAt d Is (se3 x s i)
  of_se4 : (s t x : Tree) → Is s → Is t → Is x → IsRuleAt d Is (se4 s t x)
  of_se5 : (s t : Tree) (i : ℕ) → Is s → Is t → IsRuleAt d Is (se5 s t i)
  of_se6 : (s t : Tree) (i : ℕ) → Is s → Is t → IsRuleAt d Is (se6 s t i)
  of_se7 : (s t x : Tree) → Is s → Is t → Is x → IsRuleAt d Is (se7 s t x)
  of_se8 : (s t : Tree) (i : ℕ) → Is s → Is t → IsRuleAt d Is (se8 s t i)
  of_se9 : (s t : Tree) (i : ℕ) → Is s → Is t → IsRuleAt d Is (se9 s t i)
  of_se10 : (s t : Tree) (i : ℕ) → Is s → Is t → IsRuleAt d Is (se10 s t i)
  of_en1 : (x y : Tree) (i : ℕ) (z : Option Tree) → Is x → Is y → IfSome z Is → IsRuleAt d Is (en1 x y i z)
  of_en2 : (x s t : Tree) → Is x → Is s → Is t → IsRuleAt d Is (en2 x s t)
  of_en3 : (x y : Tree) (i : ℕ) (z : Option Tree) → Is x → Is y → IfSome z Is → IsRuleAt d Is (en3 x y i z)
  of_en4 : (e : Tree) → Is e → IsRuleAt d Is (en4 e)
  of_en5 : (e f x s : Tree) → Is e → Is f → Is x → Is s → IsRuleAt d Is (en5 e f x s)
  of_en6 : (a : Tree) → Is a → IsRuleAt d Is (en6 a)
  of_en7 : (s x : Tree) → Is s → Is x → IsRuleAt d Is (en7 d s x)
  of_en8 : (x : Tree) → Is x → IsRuleAt d Is (en8 d x)
  of_eq9 : (x : Tree) → Is x → IsRuleAt d Is (eq9 d x)
  of_st1 : (qs : List Pattern) (a b : Tree) (i : ℕ) → Is a → Is b → IsRuleAt d Is (st1 qs a b i)
  of_st3 : (qs : List Pattern) (v : Signs) (ts : List Tree) → AllByRecursion Is ts → AreFew qs v (length ts)
      → IsRuleAt d Is (st3 qs v ts)

-- Each closed truth value is as its definition says, the bits of each closed address are those of one, and each rule
-- at closed terms holds that speaks of closed terms alone.
pub record IsConsistent (d : Declarations) (env : Env) (goal : Tree) (m : Assignment) : Type 0 where
  pub definitions : (x : Tree) → Closed d env goal x → tree_sort x ≡ sort.Bool
      → IfSome (defined (shape_of x) (map (lit m) (inputs_of x))) (λ b. lit m x ≡ b)
  pub addresses : (x : Tree) → Closed d env goal x → tree_sort x ≡ sort.Ip → AreBlockBits (λ i. lit m (bit_term x i))
  pub rules : (parts : List Signed) → IsRuleAt d (Closed d env goal) (Some parts)
      → AllByRecursion (λ (s : Signed). Closed d env goal s.1) parts → some_hold m parts ≡ true
