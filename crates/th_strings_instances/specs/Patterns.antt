-- The patterns of a problem: those that its closed terms ask, each once, in the order of terms. Of a text a closed
-- term asks all of them, so they are in order.
use Rattle.std.specs.Prelude.{List, [], ◌∷◌, ◌++◌, Option, Some, None, if◌then◌else◌}
use Rattle.std.specs.List.{list_any}
use Rattle.sc_pattern.specs.contracts.pattern.PatternPartialEq.TheImpl.{ghosts as same}
use Rattle.sc_terms.specs.Trees.{Tree}
use Rattle.sc_footprint.specs.Problems.{Posed, closed_terms}
use Rattle.sc_rule_laws.specs.Strings.{Pattern, asked_of}

-- a pattern comes after the others, if it is a new one
abbrev pub with_new : List Pattern → Option Pattern → List Pattern
with_new qs None = qs
with_new qs (Some q) = if list_any (same.eq q) qs then qs else qs ++ q ∷ []

-- those that some terms ask, after others
abbrev pub with_asked : List Pattern → List Tree → List Pattern
with_asked qs [] = qs
with_asked qs (t ∷ ts) = with_asked (with_new qs (asked_of t)) ts

abbrev pub patterns : Posed → List Pattern
patterns p = with_asked [] (closed_terms p)
