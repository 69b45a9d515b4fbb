use Rattle.std.proofs.Common.{◌++◌, ◌∙◌, ◌<◌, ap, flat_map, length, sym, subst}
use Rattle.std.specs.List.{AllByRecursion}
use Rattle.sc_lists.proofs.MemberLaws.{Has-AllByRecursion}
use Rattle.sc_terms.specs.Tables.{tree}
use Rattle.sc_smtlib_lines.specs.Gaining.{terms_of}
use Rattle.sc_smtlib_lines.specs.Scripts.{assertions, declarations, with_newline}
use Rattle.sc_smtlib_lines.proofs.OrderLaws.{closed_subterms}
use Rattle.sc_smtlib_lines.proofs.PutLaws.{all_put}
use Rattle.sc_smtlib_lines.proofs.script.named_script.Goals as goal

pub order-requires-clause-closed : goal.order-requires-clause-closed
order-requires-clause-closed c = closed_subterms _ _ c.requires.subterms

pub put_assertions-requires-clause-order : goal.put_assertions-requires-clause-order
put_assertions-requires-clause-order c =
    let ts = terms_of c.args.names.now in
    subst (AllByRecursion (λ x. x < length ts)) (sym c.as_slice-places.ensures) (Has-AllByRecursion (λ x. x < length ts) c.in_ok-order.order c.in_ok-order.ensures.within)

pub returns : goal.returns
returns c =
    let s = c.args.names.now in
    let asked = tree s.terms.now c.args.goal in
    record {
      functions = c.in_ok-functions.functions;
      order = c.in_ok-order.order;
      used = c.in_ok-functions.ensures;
      in_turn = c.in_ok-order.ensures.in_turn;
      whole = c.in_ok-order.ensures.whole;
      is = all_put _ _ _ (declarations s.sorts.now (terms_of s) c.as_slice-declared.result.now) (assertions s.sorts.now (terms_of s) c.as_slice-places.result.now asked) c.new-out.ensures.items c.in_ok-put_declarations.ensures c.in_ok-put_assertions.ensures
          ∙ ap (λ z. flat_map with_newline (declarations s.sorts.now (terms_of s) z ++ assertions s.sorts.now (terms_of s) c.as_slice-places.result.now asked)) c.as_slice-declared.ensures
          ∙ ap (λ z. flat_map with_newline (declarations s.sorts.now (terms_of s) c.in_ok-functions.functions ++ assertions s.sorts.now (terms_of s) z asked)) c.as_slice-places.ensures;
    }
