use Rattle.std.proofs.lemmas.Result.{on_ok_weaker}
use Rattle.std.proofs.Common.{subst, List, ℕ, OnOk}
use Rattle.sc_terms.specs.Tables.{node_parts}
use Rattle.sc_closure_rules.specs.Closure.{trees_in}
use Rattle.sc_term_definitions.specs.Making.{Puts}
use Rattle.sc_closure_rules.proofs.FollowLaws.{parts_put}
use Rattle.sc_closure_rules.proofs.following.put_parts.Goals as goal

pub returns-in-One : goal.returns-in-One
returns-in-One c = on_ok_weaker c.put_these.result (parts_put _ _ _ _ _ _ c.node.ensures.stands c.in-One.is) c.put_these.ensures

pub returns-in-Two : goal.returns-in-Two
returns-in-Two c = on_ok_weaker c.put_these-in-Two.result (parts_put _ _ _ _ _ _ c.node.ensures.stands c.in-Two.is) c.put_these-in-Two.ensures

pub returns-in-Choice : goal.returns-in-Choice
returns-in-Choice c = on_ok_weaker c.put_these-in-Choice.result (parts_put _ _ _ _ _ _ c.node.ensures.stands c.in-Choice.is) c.put_these-in-Choice.ensures

pub returns-in-Many : goal.returns-in-Many
returns-in-Many c = on_ok_weaker c.put_labelled.result (parts_put _ _ _ _ _ _ c.node.ensures.stands c.in-Many.is)
    (subst (λ (ps : List (List ℕ × ℕ)). OnOk c.put_labelled.result (Puts c.args.terms.now c.args.terms.now c.args.numbers.now.items c.put_labelled.new.numbers.items (trees_in (node_parts c.args.terms.now ps)))) c.as_slice.ensures c.put_labelled.ensures)
