-- The names of a problem's strings.
use Rattle.std.specs.Prelude.{◌≡◌, List}
use Rattle.sc_clauses.specs.Assignments.{Assignment}
use Rattle.sc_footprint.specs.Problems.{Posed, goal_term, closed_terms}
use Rattle.sc_rule_laws.specs.Strings.{Pattern}
use Rattle.sc_model_values.specs.Models.{truth_in}
use Rattle.sc_model_laws.specs.Names.{Texts, names_of}
use Rattle.sc_model_laws.specs.Texts.{ArePatterns, AreTextsOf}
use Rattle.sc_model_names.specs.Numbers.{Entry, named_terms}

-- strings by their numbers in the table, with their names: those of literals first, and then in the order of strings
-- the name of an equal one, or a text with the same signs that is no name yet
pub record AreStringNames (p : Posed) (m : Assignment) (es : List Entry) : Type 0 where
  pub patterns : List Pattern
  pub texts : Texts
  pub asked : ArePatterns p.schema p.env (goal_term p) patterns
  pub found : AreTextsOf p.schema p.env (goal_term p) (truth_in p m) patterns texts
  pub names : named_terms p.nodes es ≡ names_of (truth_in p m) patterns texts (closed_terms p)
