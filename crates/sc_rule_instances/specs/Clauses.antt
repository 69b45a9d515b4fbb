-- The clauses of what rules say, and what is said that is an instance.
use Rattle.std.specs.Prelude.{◌&&◌, ◌==◌, Bool, false, not, List, [], map, Some, None, if◌then◌else◌}
use Rattle.std.specs.List.{list_all}
use Rattle.sc_clauses.specs.declared.lit.Lit.{Lit}
use Rattle.sc_clauses.specs.Clauses.{Clause, lit_eq, positive, negation}
use Rattle.sc_footprint.specs.Problems.{Posed, literal_in}
use Rattle.sc_footprint.specs.Definitions.{is_tautology}
use Rattle.sc_rule_laws.specs.Signed.{Signed, Said}

-- the literal of a signed term
abbrev pub literal_for : Posed → Signed → Lit
literal_for p s = if s.0 then literal_in p s.1 else negation (literal_in p s.1)

abbrev pub clause_for : Posed → List Signed → Clause
clause_for p parts = map (literal_for p) parts

-- the literal is of a listed atom, and it isn't `true`
abbrev pub is_asked : Lit → Bool
is_asked l = not (l.atom == 0) && not (lit_eq l (positive 1))

-- each literal is of a listed atom and isn't `true`, and none stands with its negation
abbrev pub is_clause : Clause → Bool
is_clause c = list_all is_asked c && not (is_tautology c)

-- what is said is an instance of a problem
unfoldable pub is_instance : Posed → Said → Bool
is_instance p None = false
is_instance p (Some parts) = is_clause (clause_for p parts)

-- the clause of an instance
unfoldable pub said_clause : Posed → Said → Clause
said_clause p None = []
said_clause p (Some parts) = clause_for p parts
