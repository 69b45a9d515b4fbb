-- What the instances of the rules on strings say of a problem, and which it has.
use Rattle.std.specs.Prelude.{⊤, ℕ, IsTrue, List, [], ◌∷◌, length, Option, Some, None, IsSomeAnd}
use Rattle.sc_clauses.specs.declared.step.Instance.{Instance}
use Rattle.sc_clauses.specs.Clauses.{Clause}
use Rattle.sc_terms.specs.Trees.{Tree}
use Rattle.sc_footprint.specs.Problems.{Posed, term_of}
use Rattle.sc_rule_laws.specs.Signed.{Said}
use Rattle.sc_rule_laws.specs.Strings.{Pattern, AreFew, st1, st2, st3}
use Rattle.sc_rule_instances.specs.Clauses.{is_instance, said_clause}
use Rattle.sc_rule_instances.specs.Instances.{on_two, said_by}
use Rattle.th_strings_instances.specs.declared.rule.StringRule.{StringRule}
use Rattle.th_strings_instances.specs.declared.rule.StringRule.TheVariants.{St1, St2, St3}
use Rattle.th_strings_instances.specs.Names.{string_rule}
use Rattle.th_strings_instances.specs.Patterns.{patterns}

-- the closed terms of numbers, where each is one
abbrev pub with_term : Option Tree → Option (List Tree) → Option (List Tree)
with_term (Some t) (Some ts) = Some (t ∷ ts)
with_term _ _ = None

abbrev pub all_at : Posed → List ℕ → Option (List Tree)
all_at p [] = Some []
all_at p (n ∷ ns) = with_term (term_of p n) (all_at p ns)

-- a rule on several closed terms
abbrev pub on_all : Option (List Tree) → (List Tree → Said) → Said
on_all (Some ts) rule = rule ts
on_all None rule = None

-- what is said, of these patterns
abbrev pub said_of : Posed → List Pattern → StringRule → Said
said_of p qs (St1 a b i) = on_two (term_of p a) (term_of p b) (λ t u. st1 qs t u i)
said_of p qs (St2 v ns) = on_all (all_at p ns) (st2 qs v)
said_of p qs (St3 v ns) = on_all (all_at p ns) (st3 qs v)

abbrev pub string_said : Posed → StringRule → Said
string_said p rule = said_of p (patterns p) rule

-- fewer texts have the signs than there are strings
abbrev pub IsCrowded : List Pattern → StringRule → Type 0
IsCrowded qs (St1 a b i) = ⊤
IsCrowded qs (St2 v ns) = AreFew qs v (length ns)
IsCrowded qs (St3 v ns) = AreFew qs v (length ns)

-- an instance, by its rule
abbrev pub IsInstanceOf : Posed → List Pattern → StringRule → Type 0
IsInstanceOf p qs rule = IsTrue (is_instance p (said_of p qs rule)) × IsCrowded qs rule

-- ---- of the instances that are written

abbrev pub string_of : Posed → Instance → Said
string_of p i = said_by (string_said p) (string_rule i)

-- what the theory of strings has
abbrev pub HasString : Posed → Instance → Type 0
HasString p i = IsSomeAnd (string_rule i) (IsInstanceOf p (patterns p))

abbrev pub string_clause : Posed → Instance → Clause
string_clause p i = said_clause p (string_of p i)
