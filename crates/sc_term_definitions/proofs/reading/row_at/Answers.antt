use Rattle.sc_term_definitions.proofs.ReadingLaws.{row_leaf, row_one, row_two, row_choice, row_many}
use Rattle.sc_term_definitions.proofs.reading.row_at.Goals as goal

pub returns-in-Leaf : goal.returns-in-Leaf
returns-in-Leaf c = row_leaf _ _ _ _ _ c.node.ensures.stands c.in-Leaf.is c.leaf_row.ensures

pub returns-in-One : goal.returns-in-One
returns-in-One c =
    row_one _ _ _ _ _ _ _ c.node.ensures.stands c.in-One.is c.node.ensures.parts_in c.node-in-One.ensures.stands c.node-in-One.ensures.parts_in c.one_row.ensures

pub returns-in-Two : goal.returns-in-Two
returns-in-Two c = row_two _ _ _ _ _ _ _ _ c.node.ensures.stands c.in-Two.is c.node.ensures.parts_in c.sort.ensures c.two_row.ensures

pub returns-in-Choice : goal.returns-in-Choice
returns-in-Choice c = row_choice _ _ _ _ _ _ _ _ c.node.ensures.stands c.in-Choice.is c.node.ensures.parts_in c.sort-in-Choice.ensures c.choice_row.ensures

pub returns-in-Many : goal.returns-in-Many
returns-in-Many c = row_many _ _ _ _ _ c.node.ensures.stands c.in-Many.is
