use Rattle.sc_typing.proofs.AnswersLaws.{gives_If, gives_Or, gives_And, gives_Binary, gives_Has, gives_Like, gives_Is, gives_IsIn, gives_Unary, gives_Access, gives_Literal, gives_Variable, gives_Set, gives_Record}
use Rattle.sc_typing.proofs.typing.+typing.Goals as goal

pub type_expr-returns-in-If : goal.type_expr-returns-in-If
type_expr-returns-in-If t c = gives_If _ _ _ _ c.in-If.place c.in-If.c c.in-If.a c.in-If.b _ c.in-If.is c.choose.ensures

pub type_expr-returns-in-Or : goal.type_expr-returns-in-Or
type_expr-returns-in-Or t c = gives_Or _ _ _ _ c.in-Or.place c.in-Or.a c.in-Or.b _ c.in-Or.is c.or_else.ensures

pub type_expr-returns-in-And : goal.type_expr-returns-in-And
type_expr-returns-in-And t c = gives_And _ _ _ _ c.in-And.place c.in-And.a c.in-And.b _ c.in-And.is c.and_also.ensures

pub type_expr-returns-in-Binary : goal.type_expr-returns-in-Binary
type_expr-returns-in-Binary t c = gives_Binary _ _ _ _ c.in-Binary.place c.in-Binary.operator c.in-Binary.a c.in-Binary.b _ c.in-Binary.is c.type_binary.ensures

pub type_expr-returns-in-Has : goal.type_expr-returns-in-Has
type_expr-returns-in-Has t c =
    gives_Has _ _ _ _ c.in-Has.place c.in-Has.a c.in-Has.names _ _ c.in-Has.is c.as_slice.ensures c.type_has.ensures

pub type_expr-returns-in-Like : goal.type_expr-returns-in-Like
type_expr-returns-in-Like t c = gives_Like _ _ _ _ c.in-Like.place c.in-Like.a c.in-Like.pattern _ c.in-Like.is c.type_like.ensures

pub type_expr-returns-in-Is : goal.type_expr-returns-in-Is
type_expr-returns-in-Is t c = gives_Is _ _ _ _ c.in-Is.place c.in-Is.a c.in-Is.type_name _ c.in-Is.is c.type_is.ensures

pub type_expr-returns-in-IsIn : goal.type_expr-returns-in-IsIn
type_expr-returns-in-IsIn t c = gives_IsIn _ _ _ _ c.in-IsIn.place c.in-IsIn.a c.in-IsIn.type_name c.in-IsIn.in_place c.in-IsIn.b _ c.in-IsIn.is c.type_is_in.ensures

pub type_expr-returns-in-Unary : goal.type_expr-returns-in-Unary
type_expr-returns-in-Unary t c = gives_Unary _ _ _ _ c.in-Unary.place c.in-Unary.operator c.in-Unary.a _ c.in-Unary.is c.type_unary.ensures

pub type_expr-returns-in-Access : goal.type_expr-returns-in-Access
type_expr-returns-in-Access t c = gives_Access _ _ _ _ c.in-Access.place c.in-Access.a c.in-Access.name _ c.in-Access.is c.type_access.ensures

pub type_expr-returns-in-Literal : goal.type_expr-returns-in-Literal
type_expr-returns-in-Literal t c = gives_Literal _ _ _ _ c.in-Literal.place c.in-Literal.l _ c.in-Literal.is c.type_literal.ensures

pub type_expr-returns-in-Variable : goal.type_expr-returns-in-Variable
type_expr-returns-in-Variable t c = gives_Variable _ _ _ _ c.in-Variable.place c.in-Variable.x _ c.in-Variable.is c.type_variable.ensures

pub type_expr-returns-in-Set : goal.type_expr-returns-in-Set
type_expr-returns-in-Set t c =
    gives_Set _ _ _ _ c.in-Set.place c.in-Set.members _ _ c.in-Set.is c.as_slice-in-Set.ensures c.type_set.ensures

pub type_expr-returns-in-Record : goal.type_expr-returns-in-Record
type_expr-returns-in-Record t c =
    gives_Record _ _ _ _ c.in-Record.place c.in-Record.fields _ _ c.in-Record.is c.as_slice-in-Record.ensures c.type_record.ensures
