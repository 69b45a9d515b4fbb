use Rattle.std.proofs.Common.{◌∙◌, sym, subst}
use Rattle.sc_schema.specs.Lawful.{AreAscending}
use Rattle.sc_schema.proofs.IndexLaws.{with_name-there, ascending-with_name, places, put_is}
use Rattle.sc_schema.proofs.index.put_name.Goals as goal

pub returns-in-Ok-clause-put : goal.returns-in-Ok-clause-put
returns-in-Ok-clause-put c =
    with_name-there c.args.names.now c.args.name.now c.in-Ok.field-0 c.requires
    (places _ _ c.args.name.now c.in-Ok.field-0 c.as_slice.ensures c.in-Ok.ensures.bound c.in-Ok.ensures.position)

pub returns-in_ok-insert-in-Err-clause-put : goal.returns-in_ok-insert-in-Err-clause-put
returns-in_ok-insert-in-Err-clause-put c =
    c.in_ok-insert-in-Err.ensures.ok
    ∙ put_is c.args.names.now _ c.args.name.now _ c.in-Err.at c.as_slice.ensures c.in_ok-try_clone-in-Err.ensures c.requires c.in-Err.ensures.bound c.in-Err.ensures.position

pub returns-in_ok-insert-in-Err-clause-ascending : goal.returns-in_ok-insert-in-Err-clause-ascending
returns-in_ok-insert-in-Err-clause-ascending c =
    subst AreAscending (sym (returns-in_ok-insert-in-Err-clause-put c)) (ascending-with_name c.args.names.now c.args.name.now c.requires)
