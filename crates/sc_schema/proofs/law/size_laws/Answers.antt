use Rattle.sc_schema.proofs.CountedLaws.{level_most, last_level, nodes_counted}
use Rattle.sc_schema.proofs.SizesLaws.{attrs_small, tags_small, context_small}
use Rattle.sc_schema.proofs.law.size_laws.Goals as goal

pub returns-clause-no_lower : goal.returns-clause-no_lower
returns-clause-no_lower c = level_most

pub returns-clause-lowest : goal.returns-clause-lowest
returns-clause-lowest c = last_level

pub returns-clause-all_nodes : goal.returns-clause-all_nodes
returns-clause-all_nodes c = nodes_counted

pub returns-clause-attributes : goal.returns-clause-attributes
returns-clause-attributes c = attrs_small

pub returns-clause-tags : goal.returns-clause-tags
returns-clause-tags c = tags_small

pub returns-clause-context : goal.returns-clause-context
returns-clause-context c = context_small
