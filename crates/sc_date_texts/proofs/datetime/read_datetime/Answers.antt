use Rattle.std.proofs.Common.{rules, arith}
use Rattle.std.proofs.lemmas.Grind.{common_steps}
use Rattle.sc_date_texts.proofs.OnlyLaws.{datetime_only}
use Rattle.sc_date_texts.proofs.DatetimeValueLaws.{datetime_read}
use Rattle.sc_date_texts.proofs.datetime.read_datetime.Goals as goal

pub returns-clause-ok : goal.returns-clause-ok
returns-clause-ok c = first_of (search rules, grind (arith, common_steps))

pub returns-clause-err : goal.returns-clause-err
returns-clause-err c = first_of (search rules, grind (arith, common_steps))

pub returns-clause-value : goal.returns-clause-value
returns-clause-value c = datetime_read c.args.text.now c.ok_or.result (returns-clause-ok c) (returns-clause-err c)

pub returns-clause-only : goal.returns-clause-only
returns-clause-only c y z = datetime_only _ y z
