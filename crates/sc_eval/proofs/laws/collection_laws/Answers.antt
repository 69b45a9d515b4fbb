use Rattle.sc_eval.specs.CollectionLaws.{is_same-decides, is_member-decides, members_of-set, fields_of-ascends}
use Rattle.sc_eval.proofs.CollectionsLaws.{fields_of-names, fields_of-field}
use Rattle.sc_eval.proofs.laws.collection_laws.Goals as goal

pub returns-clause-same : goal.returns-clause-same
returns-clause-same c = is_same-decides

pub returns-clause-member : goal.returns-clause-member
returns-clause-member c = is_member-decides

pub returns-clause-set : goal.returns-clause-set
returns-clause-set c = members_of-set

pub returns-clause-ascending : goal.returns-clause-ascending
returns-clause-ascending c = fields_of-ascends

pub returns-clause-names : goal.returns-clause-names
returns-clause-names c = fields_of-names

pub returns-clause-fields : goal.returns-clause-fields
returns-clause-fields c = fields_of-field
