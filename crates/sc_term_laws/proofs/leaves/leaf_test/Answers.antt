use Rattle.sc_term_laws.proofs.LeavesJudged.{literal_told, none_told, principal_told, resource_told, context_told}
use Rattle.sc_term_laws.proofs.leaves.leaf_test.Goals as goal

pub returns-in-Literal : goal.returns-in-Literal
returns-in-Literal c = literal_told _ _ _ _ _ _ c.in-Literal.is c.literal_test.ensures

pub returns-in-None : goal.returns-in-None
returns-in-None c = none_told _ _ _ _ _ _ c.in-None.is c.is_lawful_held.ensures

pub returns-in-Principal : goal.returns-in-Principal
returns-in-Principal c = principal_told _ _ _ _ _ _ c.in-Principal.is c.is_sort_of_entities.ensures

pub returns-in-Resource : goal.returns-in-Resource
returns-in-Resource c = resource_told _ _ _ _ _ _ c.in-Resource.is c.is_sort_of_entities-in-Resource.ensures

pub returns-in-Context : goal.returns-in-Context
returns-in-Context c = context_told _ _ _ _ _ _ _ c.in-Context.is c.context_of.ensures c.is_sort_of.ensures
