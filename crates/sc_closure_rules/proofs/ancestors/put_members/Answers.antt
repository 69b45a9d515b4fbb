use Rattle.std.proofs.Common.{sym, ◌∙◌, arith}
use Rattle.std.specs.Str.{bytes_eq}
use Rattle.sc_closure_rules.proofs.ancestors.put_members.Goals.{then-is_of_type+in_ok-m+in_ok-push, else-is_of_type}
use Rattle.sc_names.specs.declared.uid.Uid.{Uid}
use Rattle.sc_sorts.specs.declared.node.BinaryOp.TheVariants as binary
use Rattle.sc_terms.specs.Trees.{Tree, two}
use Rattle.sc_terms.specs.Tables.{tree}
use Rattle.sc_term_definitions.proofs.MakingLaws.{stands_same, puts_nothing}
use Rattle.sc_closure_rules.specs.Closure.{uid_term}
use Rattle.sc_closure_rules.proofs.LoopLaws.{passing_next, failing_next, passing_end}
use Rattle.sc_closure_rules.proofs.ancestors.put_members.Goals as goal

pub loop-uid-init : goal.loop-uid-init
loop-uid-init c = puts_nothing _ _

pub loop-uid-preserved : goal.loop-uid-preserved
loop-uid-preserved c = elim c.if-is_of_type.branch [
  | then-is_of_type+in_ok-m+in_ok-push w ↦
      let so_far = c.loop-uid.invariant in
      let stays = so_far.kept.same c.args.set c.requires in
      rw (w.terms-is, w.numbers-is)
      (passing_next (λ (v : Uid). two binary.Member (uid_term c.args.choices.now v) (tree c.args.terms.now c.args.set)) (λ (u : Uid). bytes_eq c.args.name.now u.type_name) c.args.uids.now _ _ _ _ c.loop-uid.uid-index so_far _ _ c.uid-item.result w.in_ok-m.m
      c.loop-uid-test.true c.uid-item.is (sym c.is_of_type.ensures ∙ w.if-is_of_type.true) w.in_ok-m.ensures.kept
      (stands_same (λ (t : Tree). two binary.Member (uid_term c.args.choices.now c.uid-item.result) t) stays w.in_ok-m.ensures.ok)
      w.in_ok-push.ensures.items)
  | else-is_of_type w ↦
      rw (w.terms-is, w.numbers-is)
      (failing_next (λ (v : Uid). two binary.Member (uid_term c.args.choices.now v) (tree c.args.terms.now c.args.set)) (λ (u : Uid). bytes_eq c.args.name.now u.type_name) c.args.uids.now _ _ _ _ c.loop-uid.uid-index c.loop-uid.invariant c.uid-item.result
      c.loop-uid-test.true c.uid-item.is (sym c.is_of_type.ensures ∙ w.if-is_of_type.false))
]

pub returns-clause-ok : goal.returns-clause-ok
returns-clause-ok c =
    passing_end (λ (v : Uid). two binary.Member (uid_term c.args.choices.now v) (tree c.args.terms.now c.args.set)) (λ (u : Uid). bytes_eq c.args.name.now u.type_name) c.args.uids.now _ _ _ _ c.loop-uid.uid-index c.loop-uid.invariant
    (omega (arith, c.loop-uid-test.false))
