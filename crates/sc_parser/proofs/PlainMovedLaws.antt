-- What is spelled by tokens is spelled by any others that are the same so far, also where fewer limits are kept.
use Rattle.std.proofs.Common.{ℕ, ◌+◌, List, arith}
use Rattle.sc_ast.specs.declared.place.Place.{Place}
use Rattle.sc_ast.specs.declared.expr.Expr.{Expr}
use Rattle.sc_ast.specs.declared.expr.TypeName.{TypeName}
use Rattle.sc_ast.specs.declared.literal.EntityLiteral.{EntityLiteral}
use Rattle.sc_ast.specs.declared.operator.UnaryOperator.{UnaryOperator}
use Rattle.sc_pattern.specs.declared.part.Part.{Part}
use Rattle.sc_lexemes.specs.declared.cursor.Cursor.{Cursor}
use Rattle.sc_lexemes.specs.declared.lexeme.Lexeme.{Lexeme}
use Rattle.sc_lexemes.specs.declared.operator.Close.{Close}
use Rattle.sc_lexemes.specs.declared.operator.Level.{Level}
use Rattle.sc_parser.specs.Grammar.{Ident, Str, MoreNames, Names, MorePath, Path, Entity, Key, Expression, Inner, Enclosed, Chain, MoreOperands, Operand, Relation, Unary, Prefixes, Member, Accesses, Primary, Items, Fields, ident, string, names_end, names_more, names_string, names_idents, path_end, path_more, path, entity, key_ident, key_string, chain_or, if_then_else, inner, enclosed, chain, operands_end, operands_more, operand_or, operand_and, operand_add, operand_multiply, sum, comparison, has, like, is_type, is_in, no_prefix, prefixes, prefixes_end, least, prefix, member, no_access, index, access, method, no_method, truth, falsehood, number, text, variable, uid, function, no_function, parenthesis, set, fields, items_end, last_item, more_items, fields_end, last_field, more_fields}
use Rattle.sc_parser.specs.Faults.{Shares}
use Rattle.sc_parser.specs.Limits.{Limits}
use Rattle.sc_parser.proofs.PlainTokensLaws.{Weaker, Same, fewer, moved, lacking, inner_same, sooner, moved_operator, moved_prefix, moved_least}
use Rattle.sc_parser.proofs.PlainForwardLaws.{fwd_ident, fwd_string, fwd_more_names, fwd_names, fwd_more_path, fwd_path, fwd_key, fwd_inner, fwd_enclosed, fwd_chain, fwd_more, fwd_operand, fwd_prefixes, fwd_accesses, fwd_primary, fwd_items, fwd_fields}

pub move_ident : {K L : Limits} {ts us : List Lexeme} {s : Cursor} {p : Place} {n : List ℕ} {t : Cursor} → Weaker K L → Shares ts us t.at → Ident K ts s p n t → Ident L us s p n t
move_ident w g (ident h l) = ident (moved g (omega arith) h.0, h.1) (λ x. l (w _ _ x))

pub move_string : {K L : Limits} {ts us : List Lexeme} {s : Cursor} {n : List ℕ} {parts : List Part} {t : Cursor} → Weaker K L → Shares ts us t.at → Str K ts s n parts t → Str L us s n parts t
move_string w g (string h l) = string (moved g (omega arith) h) (λ x. l (w _ _ x))

pub move_more_names : {K L : Limits} {ts us : List Lexeme} {s : Cursor} {ns ms : List (List ℕ)} {t : Cursor} → Weaker K L → Shares ts us t.at → MoreNames K ts s ns ms t → MoreNames L us s ns ms t
move_more_names w g names_end = names_end
move_more_names w g (names_more h p q) = let i = fwd_ident p in let j = fwd_more_names q in names_more (moved g (omega (arith, i, j)) h) (move_ident w (fewer g (omega (arith, i, j))) p) (move_more_names w g q)

pub move_names : {K L : Limits} {ts us : List Lexeme} {s : Cursor} {ns : List (List ℕ)} {t : Cursor} → Weaker K L → Shares ts us t.at → Names K ts s ns t → Names L us s ns t
move_names w g (names_string p) = names_string (move_string w g p)
move_names w g (names_idents p q) = let i = fwd_ident p in let j = fwd_more_names q in names_idents (move_ident w (fewer g (omega (arith, i, j))) p) (move_more_names w g q)

pub move_more_path : {K L : Limits} {ts us : List Lexeme} {s : Cursor} {n m : List ℕ} {t : Cursor} → Weaker K L → Shares ts us t.at → MorePath K ts s n m t → MorePath L us s n m t
move_more_path w g path_end = path_end
move_more_path w g (path_more h p q) = let i = fwd_ident p in let j = fwd_more_path q in path_more (moved g (omega (arith, i, j)) h) (move_ident w (fewer g (omega (arith, i, j))) p) (move_more_path w g q)

pub move_path : {K L : Limits} {ts us : List Lexeme} {s : Cursor} {y : TypeName} {t : Cursor} → Weaker K L → Shares ts us t.at → Path K ts s y t → Path L us s y t
move_path w g (path p q) = let i = fwd_ident p in let j = fwd_more_path q in path (move_ident w (fewer g (omega (arith, i, j))) p) (move_more_path w g q)

pub move_entity : {K L : Limits} {ts us : List Lexeme} {s : Cursor} {e : EntityLiteral} {t : Cursor} → Weaker K L → Shares ts us t.at → Entity K ts s e t → Entity L us s e t
move_entity w g (entity p q h l) = let i = fwd_ident p in let j = fwd_more_path q in entity (move_ident w (fewer g (omega (arith, i, j))) p) (move_more_path w (fewer g (omega (arith, i, j))) q) (moved g (omega (arith, i, j)) h) (moved g (omega (arith, i, j)) l)

pub move_key : {K L : Limits} {ts us : List Lexeme} {s : Cursor} {fs : List (List ℕ × Expr)} {n : List ℕ} {t : Cursor} → Weaker K L → Shares ts us t.at → Key K ts s fs n t → Key L us s fs n t
move_key w g (key_ident p h) = key_ident (move_ident w g p) (λ x. h (w _ _ x))
move_key w g (key_string p h) = key_string (move_string w g p) (λ x. h (w _ _ x))

mutual
  pub move_expr : {K L : Limits} {ts us : List Lexeme} {s : Cursor} {x : Expr} {t : Cursor} → Weaker K L → Same ts us t.at → Expression K ts s x t → Expression L us s x t
  move_expr w g (chain_or p) = chain_or (move_chain w g p)
  move_expr w g (if_then_else h l p q u) = let i = fwd_enclosed p in let j = fwd_enclosed q in let k = fwd_inner u in if_then_else (moved g.shares (omega (arith, i, j, k)) h) (λ x. l (w _ _ x)) (move_enclosed w (fewer g.shares (omega (arith, i, j, k))) p) (move_enclosed w (fewer g.shares (omega (arith, i, j, k))) q) (move_inner w g u)

  pub move_inner : {K L : Limits} {ts us : List Lexeme} {s : Cursor} {x : Expr} {t : Cursor} → Weaker K L → Same ts us t.at → Inner K ts s x t → Inner L us s x t
  move_inner w g (inner p) = inner (move_expr w g p)

  pub move_enclosed : {K L : Limits} {ts us : List Lexeme} {c : Close} {s : Cursor} {x : Expr} {t : Cursor} → Weaker K L → Shares ts us t.at → Enclosed K ts c s x t → Enclosed L us c s x t
  move_enclosed w g (enclosed p h) = enclosed (move_inner w (inner_same g (omega (arith, fwd_inner p))) p) (moved g (omega (arith, fwd_inner p)) h)

  pub move_chain : {K L : Limits} {ts us : List Lexeme} {l : Level} {s : Cursor} {x : Expr} {t : Cursor} → Weaker K L → Same ts us t.at → Chain K ts l s x t → Chain L us l s x t
  move_chain w g (chain p q) = let i = fwd_operand p in let j = fwd_more q in chain (move_operand w (sooner g (omega (arith, i, j))) p) (move_more w g q)

  pub move_more : {K L : Limits} {ts us : List Lexeme} {l : Level} {s : Cursor} {a x : Expr} {t : Cursor} → Weaker K L → Same ts us t.at → MoreOperands K ts l s a x t → MoreOperands L us l s a x t
  move_more w g operands_end = operands_end
  move_more w g (operands_more h p q) = let i = fwd_operand p in let j = fwd_more q in operands_more (moved_operator g.shares (omega (arith, i, j)) h) (move_operand w (sooner g (omega (arith, i, j))) p) (move_more w g q)

  pub move_operand : {K L : Limits} {ts us : List Lexeme} {l : Level} {s : Cursor} {x : Expr} {t : Cursor} → Weaker K L → Same ts us t.at → Operand K ts l s x t → Operand L us l s x t
  move_operand w g (operand_or p) = operand_or (move_chain w g p)
  move_operand w g (operand_and p) = operand_and (move_relation w g p)
  move_operand w g (operand_add p) = operand_add (move_chain w g p)
  move_operand w g (operand_multiply p) = operand_multiply (move_unary w g p)

  pub move_relation : {K L : Limits} {ts us : List Lexeme} {s : Cursor} {x : Expr} {t : Cursor} → Weaker K L → Same ts us t.at → Relation K ts s x t → Relation L us s x t
  move_relation w g (sum p) = sum (move_chain w g p)
  move_relation w g (comparison p h q) = let i = fwd_chain p in let j = fwd_chain q in comparison (move_chain w (sooner g (omega (arith, i, j))) p) (moved_operator g.shares (omega (arith, i, j)) h) (move_chain w g q)
  move_relation w g (has p h q) = let i = fwd_chain p in let j = fwd_names q in has (move_chain w (sooner g (omega (arith, i, j))) p) (moved g.shares (omega (arith, i, j)) h) (move_names w g.shares q)
  move_relation w g (like p h q) = let i = fwd_chain p in let j = fwd_string q in like (move_chain w (sooner g (omega (arith, i, j))) p) (moved g.shares (omega (arith, i, j)) h) (move_string w g.shares q)
  move_relation w g (is_type p h q) = let i = fwd_chain p in let j = fwd_path q in is_type (move_chain w (sooner g (omega (arith, i, j))) p) (moved g.shares (omega (arith, i, j)) h) (move_path w g.shares q)
  move_relation w g (is_in p h q l u) = let i = fwd_chain p in let j = fwd_path q in let k = fwd_chain u in is_in (move_chain w (sooner g (omega (arith, i, j, k))) p) (moved g.shares (omega (arith, i, j, k)) h) (move_path w (fewer g.shares (omega (arith, i, j, k))) q) (moved g.shares (omega (arith, i, j, k)) l) (move_chain w g u)

  pub move_unary : {K L : Limits} {ts us : List Lexeme} {s : Cursor} {x : Expr} {t : Cursor} → Weaker K L → Same ts us t.at → Unary K ts s x t → Unary L us s x t
  move_unary w g (no_prefix p) = no_prefix (move_member w g p)
  move_unary w g (prefixes h p) = prefixes (moved_prefix g.shares (omega (arith, fwd_prefixes p)) h) (move_prefixes w g p)

  pub move_prefixes : {K L : Limits} {ts us : List Lexeme} {q : UnaryOperator} {i : ℕ} {s : Cursor} {x : Expr} {t : Cursor} → Weaker K L → Same ts us t.at → Prefixes K ts q i s x t → Prefixes L us q i s x t
  move_prefixes w g (prefixes_end p) = prefixes_end (move_member w g p)
  move_prefixes w g (least h l n o p) = least h (moved_least g.shares (omega (arith, fwd_accesses p)) l) (λ x. n (w _ _ x)) (λ x. o (w _ _ x)) (move_accesses w g p)
  move_prefixes w g (prefix h l n o p) = prefix h (moved_prefix g.shares (omega (arith, fwd_prefixes p)) l) (λ x. n (w _ _ x)) (λ x. lacking g.shares (omega (arith, fwd_prefixes p)) (o x)) (move_prefixes w g p)

  pub move_member : {K L : Limits} {ts us : List Lexeme} {s : Cursor} {x : Expr} {t : Cursor} → Weaker K L → Same ts us t.at → Member K ts s x t → Member L us s x t
  move_member w g (member p q) = let i = fwd_primary p in let j = fwd_accesses q in member (move_primary w (sooner g (omega (arith, i, j))) p) (move_accesses w g q)

  pub move_accesses : {K L : Limits} {ts us : List Lexeme} {s : Cursor} {a x : Expr} {t : Cursor} → Weaker K L → Same ts us t.at → Accesses K ts s a x t → Accesses L us s a x t
  move_accesses w g no_access = no_access
  move_accesses w g (index h p l q) = let i = fwd_string p in let j = fwd_accesses q in index (moved g.shares (omega (arith, i, j)) h) (move_string w (fewer g.shares (omega (arith, i, j))) p) (moved g.shares (omega (arith, i, j)) l) (move_accesses w g q)
  move_accesses w g (access h p q) = let i = fwd_ident p in let j = fwd_accesses q in access (moved g.shares (omega (arith, i, j)) h) (move_ident w (fewer g.shares (omega (arith, i, j))) p) (move_accesses w g q)
  move_accesses w g (method h p l q n u) = let i = fwd_ident p in let j = fwd_items q in let k = fwd_accesses u in method (moved g.shares (omega (arith, i, j, k)) h) (move_ident w (fewer g.shares (omega (arith, i, j, k))) p) (moved g.shares (omega (arith, i, j, k)) l) (move_items w (fewer g.shares (omega (arith, i, j, k))) q) n (move_accesses w g u)
  move_accesses w g (no_method h p l q n o u) = let i = fwd_ident p in let j = fwd_items q in let k = fwd_accesses u in no_method (moved g.shares (omega (arith, i, j, k)) h) (move_ident w (fewer g.shares (omega (arith, i, j, k))) p) (moved g.shares (omega (arith, i, j, k)) l) (move_items w (fewer g.shares (omega (arith, i, j, k))) q) n (λ x. o (w _ _ x)) (move_accesses w g u)

  pub move_primary : {K L : Limits} {ts us : List Lexeme} {s : Cursor} {x : Expr} {t : Cursor} → Weaker K L → Same ts us t.at → Primary K ts s x t → Primary L us s x t
  move_primary w g (truth h l) = truth (moved g.shares (omega arith) h) (λ x. l (w _ _ x))
  move_primary w g (falsehood h l) = falsehood (moved g.shares (omega arith) h) (λ x. l (w _ _ x))
  move_primary w g (number h l n) = number (moved g.shares (omega arith) h) (λ x. l (w _ _ x)) (λ x. n (w _ _ x))
  move_primary w g (text h l) = text (moved g.shares (omega arith) h) (λ x. l (w _ _ x))
  move_primary w g (variable h l n o) = variable (moved g.shares (omega arith) h) l (λ x. n (w _ _ x)) (g.colons o)
  move_primary w g (uid p) = uid (move_entity w g.shares p)
  move_primary w g (function h l n o p e) = function (moved g.shares (omega (arith, fwd_items p)) h.0, h.1) l (λ x. n (w _ _ x)) (moved g.shares (omega (arith, fwd_items p)) o) (move_items w g.shares p) e
  move_primary w g (no_function h l n o p e d) = no_function (moved g.shares (omega (arith, fwd_items p)) h.0, h.1) l (λ x. n (w _ _ x)) (moved g.shares (omega (arith, fwd_items p)) o) (move_items w g.shares p) e (λ x. d (w _ _ x))
  move_primary w g (parenthesis h l p) = parenthesis (moved g.shares (omega (arith, fwd_enclosed p)) h) (λ x. l (w _ _ x)) (move_enclosed w g.shares p)
  move_primary w g (set h l p) = set (moved g.shares (omega (arith, fwd_items p)) h) (λ x. l (w _ _ x)) (move_items w g.shares p)
  move_primary w g (fields h l p) = fields (moved g.shares (omega (arith, fwd_fields p)) h) (λ x. l (w _ _ x)) (move_fields w g.shares p)

  pub move_items : {K L : Limits} {ts us : List Lexeme} {c : Close} {s : Cursor} {xs ys : List Expr} {t : Cursor} → Weaker K L → Shares ts us (t.at + 1) → Items K ts c s xs ys t → Items L us c s xs ys t
  move_items w g (items_end h) = items_end (moved g (omega arith) h)
  move_items w g (last_item p h) = last_item (move_inner w (inner_same g (omega (arith, fwd_inner p))) p) (moved g (omega (arith, fwd_inner p)) h)
  move_items w g (more_items p h q) = let i = fwd_inner p in let j = fwd_items q in more_items (move_inner w (inner_same g (omega (arith, i, j))) p) (moved g (omega (arith, i, j)) h) (move_items w g q)

  pub move_fields : {K L : Limits} {ts us : List Lexeme} {s : Cursor} {fs gs : List (List ℕ × Expr)} {t : Cursor} → Weaker K L → Shares ts us (t.at + 1) → Fields K ts s fs gs t → Fields L us s fs gs t
  move_fields w g (fields_end h) = fields_end (moved g (omega arith) h)
  move_fields w g (last_field p h q l) = let i = fwd_key p in let j = fwd_inner q in last_field (move_key w (fewer g (omega (arith, i, j))) p) (moved g (omega (arith, i, j)) h) (move_inner w (inner_same g (omega (arith, i, j))) q) (moved g (omega (arith, i, j)) l)
  move_fields w g (more_fields p h q l u) = let i = fwd_key p in let j = fwd_inner q in let k = fwd_fields u in more_fields (move_key w (fewer g (omega (arith, i, j, k))) p) (moved g (omega (arith, i, j, k)) h) (move_inner w (inner_same g (omega (arith, i, j, k))) q) (moved g (omega (arith, i, j, k)) l) (move_fields w g u)
