-- The instances of the rules on strings that an assignment falsifies.
use Rattle.std.specs.Prelude.{◌≡◌, ℕ, true, List}
use Rattle.sc_clauses.specs.Assignments.{Assignment}
use Rattle.sc_footprint.specs.Problems.{Posed}
use Rattle.sc_rule_instances.specs.Known.{is_falsified}
use Rattle.sc_rule_laws.specs.Strings.{Pattern, Signs, is_asked_all}
use Rattle.th_strings_instances.specs.declared.rule.StringRule.{StringRule}
use Rattle.th_strings_instances.specs.declared.rule.StringRule.TheVariants.{St1, St2, St3}
use Rattle.th_strings_instances.specs.Instances.{said_of, IsCrowded}

-- what the rule says is falsified; of a counting rule, fewer texts have its signs than it has strings
abbrev pub IsViolated : Posed → Assignment → List Pattern → StringRule → Type 0
IsViolated p m qs rule = (is_falsified p m (said_of p qs rule) ≡ true) × IsCrowded qs rule

abbrev pub NoneViolated : Posed → Assignment → List Pattern → Type 0
NoneViolated p m qs = (rule : StringRule) → ¬ (IsViolated p m qs rule)

-- no instance of ST1 is
abbrev pub AreMatchesFree : Posed → Assignment → List Pattern → Type 0
AreMatchesFree p m qs = (a b i : ℕ) → ¬ (IsViolated p m qs (St1 a b i))

-- no instance of ST3 is, and so none of ST2
abbrev pub AreCrowdsFree : Posed → Assignment → List Pattern → Type 0
AreCrowdsFree p m qs = (v : Signs) (ns : List ℕ) → ¬ (IsViolated p m qs (St3 v ns))

-- a counting rule of these signs and strings
abbrev pub IsRuleOf : Signs → List ℕ → StringRule → Type 0
IsRuleOf v ns (St1 a b i) = ⊥
IsRuleOf v ns (St2 w ms) = (w ≡ v) × (ms ≡ ns) × (is_asked_all v ≡ true)
IsRuleOf v ns (St3 w ms) = (w ≡ v) × (ms ≡ ns)
