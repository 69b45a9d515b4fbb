use Rattle.std.proofs.Common.{sym, subst}
use Rattle.sc_ast.specs.declared.literal.Literal.{Literal}
use Rattle.sc_values.specs.Proper.{IsProper, IsProperLevel}
use Rattle.sc_values.proofs.LevelLaws.{in_Bool, in_Long, in_String, in_Entity}
use Rattle.sc_eval.specs.Operators.{literal_value}
use Rattle.sc_eval.proofs.constants.of_literal.Goals as goal

pub returns-in-Bool : goal.returns-in-Bool
returns-in-Bool c = subst (λ (l : Literal). IsProper (literal_value l)) (sym c.in-Bool.is) ((in_Bool IsProperLevel _).1 tt)

pub returns-in-Long : goal.returns-in-Long
returns-in-Long c = subst (λ (l : Literal). IsProper (literal_value l)) (sym c.in-Long.is) ((in_Long IsProperLevel _).1 c.of_long.ensures)

pub returns-in-String : goal.returns-in-String
returns-in-String c = subst (λ (l : Literal). IsProper (literal_value l)) (sym c.in-String.is) ((in_String IsProperLevel _).1 c.of_text.ensures)

pub returns-in-Entity : goal.returns-in-Entity
returns-in-Entity c = subst (λ (l : Literal). IsProper (literal_value l)) (sym c.in-Entity.is) ((in_Entity IsProperLevel _).1 c.of_uid.ensures)
