use Rattle.std.proofs.Common.{◌∙◌, ap}
use Rattle.sc_smtlib_lines.specs.Scripts.{choices_lines}
use Rattle.sc_smtlib_lines.proofs.ChoiceLaws.{of_Bool, of_Long, of_String, of_Decimal, of_Ip, of_Set, of_Record, of_Option}
use Rattle.sc_smtlib_lines.proofs.PutLaws.{none_put}
use Rattle.sc_smtlib_lines.proofs.declarations.put_choices_of.Goals as goal

pub returns-in-Bool : goal.returns-in-Bool
returns-in-Bool c = none_put _ _ (ap (choices_lines c.args.sorts.now) c.in-Bool.is ∙ of_Bool _)

pub returns-in-Long : goal.returns-in-Long
returns-in-Long c = none_put _ _ (ap (choices_lines c.args.sorts.now) c.in-Long.is ∙ of_Long _)

pub returns-in-String : goal.returns-in-String
returns-in-String c = none_put _ _ (ap (choices_lines c.args.sorts.now) c.in-String.is ∙ of_String _)

pub returns-in-Decimal : goal.returns-in-Decimal
returns-in-Decimal c = none_put _ _ (ap (choices_lines c.args.sorts.now) c.in-Decimal.is ∙ of_Decimal _)

pub returns-in-Ip : goal.returns-in-Ip
returns-in-Ip c = none_put _ _ (ap (choices_lines c.args.sorts.now) c.in-Ip.is ∙ of_Ip _)

pub returns-in-Set : goal.returns-in-Set
returns-in-Set c = none_put _ _ (ap (choices_lines c.args.sorts.now) c.in-Set.is ∙ of_Set _ _)

pub returns-in-Record : goal.returns-in-Record
returns-in-Record c = none_put _ _ (ap (choices_lines c.args.sorts.now) c.in-Record.is ∙ of_Record _ _)

pub returns-in-Option : goal.returns-in-Option
returns-in-Option c = none_put _ _ (ap (choices_lines c.args.sorts.now) c.in-Option.is ∙ of_Option _ _)
