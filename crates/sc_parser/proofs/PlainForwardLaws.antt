-- What is spelled takes tokens.
use Rattle.std.proofs.Common.{ℕ, ◌≤◌, ◌<◌, List, arith}
use Rattle.sc_ast.specs.declared.place.Place.{Place}
use Rattle.sc_ast.specs.declared.expr.Expr.{Expr}
use Rattle.sc_ast.specs.declared.expr.TypeName.{TypeName}
use Rattle.sc_ast.specs.declared.literal.EntityLiteral.{EntityLiteral}
use Rattle.sc_ast.specs.declared.operator.UnaryOperator.{UnaryOperator}
use Rattle.sc_pattern.specs.declared.part.Part.{Part}
use Rattle.sc_lexemes.specs.declared.cursor.Cursor.{Cursor}
use Rattle.sc_lexemes.specs.declared.lexeme.Lexeme.{Lexeme}
use Rattle.sc_lexemes.specs.declared.operator.Close.{Close}
use Rattle.sc_lexemes.specs.declared.operator.Level.{Level}
use Rattle.sc_parser.specs.Grammar.{Ident, Str, MoreNames, Names, MorePath, Path, Entity, Key, Expression, Inner, Enclosed, Chain, MoreOperands, Operand, Relation, Unary, Prefixes, Member, Accesses, Primary, Items, Fields, ident, string, names_end, names_more, names_string, names_idents, path_end, path_more, path, entity, key_ident, key_string, chain_or, if_then_else, inner, enclosed, chain, operands_end, operands_more, operand_or, operand_and, operand_add, operand_multiply, sum, comparison, has, like, is_type, is_in, no_prefix, prefixes, prefixes_end, least, prefix, member, no_access, index, access, method, no_method, truth, falsehood, number, text, variable, uid, function, no_function, parenthesis, set, fields, items_end, last_item, more_items, fields_end, last_field, more_fields}
use Rattle.sc_parser.specs.Limits.{Limits}

pub fwd_ident : {K : Limits} {ts : List Lexeme} {s : Cursor} {p : Place} {n : List ℕ} {t : Cursor} → Ident K ts s p n t → s.at < t.at
fwd_ident (ident h l) = omega arith

pub fwd_string : {K : Limits} {ts : List Lexeme} {s : Cursor} {n : List ℕ} {parts : List Part} {t : Cursor} → Str K ts s n parts t → s.at < t.at
fwd_string (string h l) = omega arith

pub fwd_more_names : {K : Limits} {ts : List Lexeme} {s : Cursor} {ns ms : List (List ℕ)} {t : Cursor} → MoreNames K ts s ns ms t → s.at ≤ t.at
fwd_more_names names_end = omega arith
fwd_more_names (names_more h p q) = omega (arith, fwd_ident p, fwd_more_names q)

pub fwd_names : {K : Limits} {ts : List Lexeme} {s : Cursor} {ns : List (List ℕ)} {t : Cursor} → Names K ts s ns t → s.at < t.at
fwd_names (names_string p) = omega (arith, fwd_string p)
fwd_names (names_idents p q) = omega (arith, fwd_ident p, fwd_more_names q)

pub fwd_more_path : {K : Limits} {ts : List Lexeme} {s : Cursor} {n m : List ℕ} {t : Cursor} → MorePath K ts s n m t → s.at ≤ t.at
fwd_more_path path_end = omega arith
fwd_more_path (path_more h p q) = omega (arith, fwd_ident p, fwd_more_path q)

pub fwd_path : {K : Limits} {ts : List Lexeme} {s : Cursor} {y : TypeName} {t : Cursor} → Path K ts s y t → s.at < t.at
fwd_path (path p q) = omega (arith, fwd_ident p, fwd_more_path q)

pub fwd_entity : {K : Limits} {ts : List Lexeme} {s : Cursor} {e : EntityLiteral} {t : Cursor} → Entity K ts s e t → s.at < t.at
fwd_entity (entity p q h l) = omega (arith, fwd_ident p, fwd_more_path q)

pub fwd_key : {K : Limits} {ts : List Lexeme} {s : Cursor} {fs : List (List ℕ × Expr)} {n : List ℕ} {t : Cursor} → Key K ts s fs n t → s.at < t.at
fwd_key (key_ident p h) = omega (arith, fwd_ident p)
fwd_key (key_string p h) = omega (arith, fwd_string p)

mutual
  pub fwd_expr : {K : Limits} {ts : List Lexeme} {s : Cursor} {x : Expr} {t : Cursor} → Expression K ts s x t → s.at < t.at
  fwd_expr (chain_or p) = omega (arith, fwd_chain p)
  fwd_expr (if_then_else h l p q u) = omega (arith, fwd_enclosed p, fwd_enclosed q, fwd_inner u)

  pub fwd_inner : {K : Limits} {ts : List Lexeme} {s : Cursor} {x : Expr} {t : Cursor} → Inner K ts s x t → s.at < t.at
  fwd_inner (inner p) = omega (arith, fwd_expr p)

  pub fwd_enclosed : {K : Limits} {ts : List Lexeme} {c : Close} {s : Cursor} {x : Expr} {t : Cursor} → Enclosed K ts c s x t → s.at < t.at
  fwd_enclosed (enclosed p h) = omega (arith, fwd_inner p)

  pub fwd_chain : {K : Limits} {ts : List Lexeme} {l : Level} {s : Cursor} {x : Expr} {t : Cursor} → Chain K ts l s x t → s.at < t.at
  fwd_chain (chain p q) = omega (arith, fwd_operand p, fwd_more q)

  pub fwd_more : {K : Limits} {ts : List Lexeme} {l : Level} {s : Cursor} {a x : Expr} {t : Cursor} → MoreOperands K ts l s a x t → s.at ≤ t.at
  fwd_more operands_end = omega arith
  fwd_more (operands_more h p q) = omega (arith, fwd_operand p, fwd_more q)

  pub fwd_operand : {K : Limits} {ts : List Lexeme} {l : Level} {s : Cursor} {x : Expr} {t : Cursor} → Operand K ts l s x t → s.at < t.at
  fwd_operand (operand_or p) = omega (arith, fwd_chain p)
  fwd_operand (operand_and p) = omega (arith, fwd_relation p)
  fwd_operand (operand_add p) = omega (arith, fwd_chain p)
  fwd_operand (operand_multiply p) = omega (arith, fwd_unary p)

  pub fwd_relation : {K : Limits} {ts : List Lexeme} {s : Cursor} {x : Expr} {t : Cursor} → Relation K ts s x t → s.at < t.at
  fwd_relation (sum p) = omega (arith, fwd_chain p)
  fwd_relation (comparison p h q) = omega (arith, fwd_chain p, fwd_chain q)
  fwd_relation (has p h q) = omega (arith, fwd_chain p, fwd_names q)
  fwd_relation (like p h q) = omega (arith, fwd_chain p, fwd_string q)
  fwd_relation (is_type p h q) = omega (arith, fwd_chain p, fwd_path q)
  fwd_relation (is_in p h q l u) = omega (arith, fwd_chain p, fwd_path q, fwd_chain u)

  pub fwd_unary : {K : Limits} {ts : List Lexeme} {s : Cursor} {x : Expr} {t : Cursor} → Unary K ts s x t → s.at < t.at
  fwd_unary (no_prefix p) = omega (arith, fwd_member p)
  fwd_unary (prefixes h p) = omega (arith, fwd_prefixes p)

  pub fwd_prefixes : {K : Limits} {ts : List Lexeme} {q : UnaryOperator} {i : ℕ} {s : Cursor} {x : Expr} {t : Cursor} → Prefixes K ts q i s x t → s.at < t.at
  fwd_prefixes (prefixes_end p) = omega (arith, fwd_member p)
  fwd_prefixes (least h l n o p) = omega (arith, fwd_accesses p)
  fwd_prefixes (prefix h l n o p) = omega (arith, fwd_prefixes p)

  pub fwd_member : {K : Limits} {ts : List Lexeme} {s : Cursor} {x : Expr} {t : Cursor} → Member K ts s x t → s.at < t.at
  fwd_member (member p q) = omega (arith, fwd_primary p, fwd_accesses q)

  pub fwd_accesses : {K : Limits} {ts : List Lexeme} {s : Cursor} {a x : Expr} {t : Cursor} → Accesses K ts s a x t → s.at ≤ t.at
  fwd_accesses no_access = omega arith
  fwd_accesses (index h p l q) = omega (arith, fwd_string p, fwd_accesses q)
  fwd_accesses (access h p q) = omega (arith, fwd_ident p, fwd_accesses q)
  fwd_accesses (method h p l q n u) = omega (arith, fwd_ident p, fwd_items q, fwd_accesses u)
  fwd_accesses (no_method h p l q n o u) = omega (arith, fwd_ident p, fwd_items q, fwd_accesses u)

  pub fwd_primary : {K : Limits} {ts : List Lexeme} {s : Cursor} {x : Expr} {t : Cursor} → Primary K ts s x t → s.at < t.at
  fwd_primary (truth h l) = omega arith
  fwd_primary (falsehood h l) = omega arith
  fwd_primary (number h l n) = omega arith
  fwd_primary (text h l) = omega arith
  fwd_primary (variable h l n o) = omega arith
  fwd_primary (uid p) = omega (arith, fwd_entity p)
  fwd_primary (function h l n o p e) = omega (arith, fwd_items p)
  fwd_primary (no_function h l n o p e d) = omega (arith, fwd_items p)
  fwd_primary (parenthesis h l p) = omega (arith, fwd_enclosed p)
  fwd_primary (set h l p) = omega (arith, fwd_items p)
  fwd_primary (fields h l p) = omega (arith, fwd_fields p)

  pub fwd_items : {K : Limits} {ts : List Lexeme} {c : Close} {s : Cursor} {xs ys : List Expr} {t : Cursor} → Items K ts c s xs ys t → s.at ≤ t.at
  fwd_items (items_end h) = omega arith
  fwd_items (last_item p h) = omega (arith, fwd_inner p)
  fwd_items (more_items p h q) = omega (arith, fwd_inner p, fwd_items q)

  pub fwd_fields : {K : Limits} {ts : List Lexeme} {s : Cursor} {fs gs : List (List ℕ × Expr)} {t : Cursor} → Fields K ts s fs gs t → s.at ≤ t.at
  fwd_fields (fields_end h) = omega arith
  fwd_fields (last_field p h q l) = omega (arith, fwd_key p, fwd_inner q)
  fwd_fields (more_fields p h q l u) = omega (arith, fwd_key p, fwd_inner q, fwd_fields u)
