-- Which steps have a text.
use Rattle.std.specs.Prelude.{◌&&◌, ◌==◌, ℕ, List, Bool, not, nat_lt, length}
use Rattle.std.specs.List.{list_all}
use Rattle.sc_clauses.specs.declared.lit.Lit.{Lit}
use Rattle.sc_clauses.specs.declared.step.Learned as learned
use Rattle.sc_clauses.specs.declared.step.Step.{Step}
use Rattle.sc_clauses.specs.declared.step.Step.TheVariants.{Instance, Learned}
use Rattle.sc_footprint.specs.Written.{is_number, is_instance}

-- a number other than 0, or its negation
abbrev pub is_lit : Lit → Bool
is_lit l = nat_lt 0 l.atom && is_number l.atom

abbrev pub is_hint : ℕ → Bool
is_hint h = nat_lt 0 h && is_number h

-- one hint at least
abbrev pub are_hints : List ℕ → Bool
are_hints hints = not (length hints == 0) && list_all is_hint hints

abbrev pub is_learned : learned.Learned → Bool
is_learned l = list_all is_lit l.clause && are_hints l.hints

-- the step has a text
abbrev pub is_writable : Step → Bool
is_writable (Instance i) = is_instance i
is_writable (Learned l) = is_learned l
