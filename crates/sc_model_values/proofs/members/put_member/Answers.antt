use Rattle.std.proofs.Common.{rules, ◌≡◌, ◌∙◌, List, true, sym, subst}
use Rattle.sc_sorts.specs.declared.node.BinaryOp.TheVariants as binary
use Rattle.sc_sorts.specs.declared.node.Node.{Node}
use Rattle.sc_model_values.specs.Models.{truth_in}
use Rattle.sc_terms.specs.Tables.{tree}
use Rattle.sc_terms.specs.Order.{tree_eq}
use Rattle.sc_terms.specs.Trees.{two}
use Rattle.sc_model_values.proofs.AssignedLaws.{said_put, other_set, not_said}
use Rattle.sc_model_values.proofs.members.put_member.Goals as goal
use Rattle.sc_model_values.proofs.members.put_member.Goals.{else-is_same-via-then-is_same+else-truth, else-is_same-via-else-is_same}

pub returns-in_ok-push-in-Two-Member-default-default-clause-value : goal.returns-in_ok-push-in-Two-Member-default-default-clause-value
returns-in_ok-push-in-Two-Member-default-default-clause-value c =
    let is : tree c.args.problem.now.nodes c.args.term ≡ two binary.Member (tree c.args.problem.now.nodes c.in-Two-Member-default-default.member) (tree c.args.problem.now.nodes c.in-Two-Member-default-default.of) = search rules in
    let same : tree_eq (tree c.args.problem.now.nodes c.in-Two-Member-default-default.of) (tree c.args.problem.now.nodes c.args.set) ≡ true =
    sym (subst (λ (xs : List Node). c.is_same.result ≡ tree_eq (tree xs c.in-Two-Member-default-default.of) (tree xs c.args.set)) c.terms-in-Two-Member-default-default.ensures c.is_same.ensures) ∙ c.if-is_same.true in
    said_put (truth_in c.args.problem.now c.args.m.now) (tree c.args.problem.now.nodes) (tree c.args.problem.now.nodes c.args.term) (tree c.args.problem.now.nodes c.args.set)
    c.in-Two-Member-default-default.member c.in-Two-Member-default-default.of is
    c.args.members.now c.push.new.self same (sym c.truth.ensures ∙ c.if-truth.true) c.in_ok-push-in-Two-Member-default-default.ensures.ok

pub returns-else-is_same-clause-value : goal.returns-else-is_same-clause-value
returns-else-is_same-clause-value c =
    let is : tree c.args.problem.now.nodes c.args.term ≡ two binary.Member (tree c.args.problem.now.nodes c.in-Two-Member-default-default.member) (tree c.args.problem.now.nodes c.in-Two-Member-default-default.of) = search rules in
    let told : c.is_same.result ≡ tree_eq (tree c.args.problem.now.nodes c.in-Two-Member-default-default.of) (tree c.args.problem.now.nodes c.args.set) =
    subst (λ (xs : List Node). c.is_same.result ≡ tree_eq (tree xs c.in-Two-Member-default-default.of) (tree xs c.args.set)) c.terms-in-Two-Member-default-default.ensures c.is_same.ensures in
    elim c.else-is_same.branch [
      | else-is_same-via-then-is_same+else-truth w ↦
          not_said (truth_in c.args.problem.now c.args.m.now) (tree c.args.problem.now.nodes) (tree c.args.problem.now.nodes c.args.term) (tree c.args.problem.now.nodes c.args.set)
          c.in-Two-Member-default-default.member c.in-Two-Member-default-default.of is
          c.args.members.now (sym told ∙ w.if-is_same.true) (sym w.truth.ensures ∙ w.if-truth.false)
      | else-is_same-via-else-is_same w ↦
          other_set (truth_in c.args.problem.now c.args.m.now) (tree c.args.problem.now.nodes) (tree c.args.problem.now.nodes c.args.term) (tree c.args.problem.now.nodes c.args.set)
          c.in-Two-Member-default-default.member c.in-Two-Member-default-default.of is
          c.args.members.now (sym told ∙ w.if-is_same.false)
    ]
