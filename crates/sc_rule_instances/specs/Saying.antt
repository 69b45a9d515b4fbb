-- What an instance says, literal by literal.
use Rattle.std.specs.Prelude.{ℕ, List, length, get_or, Option, option_map}
use Rattle.sc_clauses.specs.declared.lit.Lit.{Lit}
use Rattle.sc_clauses.specs.Clauses.{positive}
use Rattle.sc_footprint.specs.Problems.{Posed}
use Rattle.sc_rule_laws.specs.Signed.{Signed, Said}
use Rattle.sc_rule_instances.specs.Clauses.{said_clause}

-- how many signed terms there are, where it is of the rule's form
abbrev pub count_of : Said → Option ℕ
count_of said = option_map (λ (parts : List Signed). length parts) said

-- the literal at a place; one of no atom where there is none
abbrev pub literal_of : Posed → Said → ℕ → Lit
literal_of p said k = get_or (said_clause p said) k (positive 0)
