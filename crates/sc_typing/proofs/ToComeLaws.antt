-- Lists of expressions with their types: those so far, and then those to come.
use Rattle.std.proofs.Common.{◌≡◌, ℕ, ◌+◌, ◌<◌, List, [], ◌∷◌, ◌++◌, length, map, drop, get_or, Result, Ok, Err, refl, sym, ap, ◌∙◌, append_assoc}
use Rattle.std.proofs.lemmas.List.{at_drop_more}
use Rattle.sc_ast.specs.declared.expr.Expr.{Expr}
use Rattle.sc_schema.specs.declared.declarations.Env.{Env}
use Rattle.sc_schema.specs.Declarations.{Declarations}
use Rattle.sc_typed.specs.declared.fault.TypeFault.{TypeFault}
use Rattle.sc_typed.specs.declared.typed_expr.TypedExpr.{TypedExpr}
use Rattle.sc_typed.specs.Capabilities.{Capabilities}
use Rattle.sc_typed.specs.Outcomes.{Outcome, ◌>>=◌}
use Rattle.sc_typing_rules.specs.Rules.{Operand, all_typed, fields_typed}
use Rattle.sc_typing.specs.Typing.{typing, part}

module _ (s : Declarations) (env : Env) where
  -- ---- members

  abbrev pub members_to_come : List TypedExpr → Capabilities → List Expr → Result (List TypedExpr) TypeFault
  members_to_come front known xs = all_typed (map (part s env) xs) known >>= λ ys. Ok (front ++ ys)

  members_more : (front : List TypedExpr) (o : Outcome) (r : Result (List TypedExpr) TypeFault)
      → ((o >>= λ t. r >>= λ rest. Ok (t.expr ∷ rest)) >>= λ ys. Ok (front ++ ys)) ≡ (o >>= λ t. r >>= λ ys. Ok ((front ++ t.expr ∷ []) ++ ys))
  members_more front (Err f) r = refl
  members_more front (Ok t) (Err f) = refl
  members_more front (Ok t) (Ok ys) = ap Ok (sym (append_assoc front (t.expr ∷ []) ys))

  pub members_to_come_more : (front : List TypedExpr) (known : Capabilities) (xs : List Expr) (i : ℕ) (x : Expr) → i < length xs → x ≡ get_or xs i x
      → members_to_come front known (drop i xs) ≡ (typing s env x known >>= λ t. members_to_come (front ++ t.expr ∷ []) known (drop (i + 1) xs))
  members_to_come_more front known xs i x h e =
      at_drop_more (members_to_come front known) xs i x h ∙ ap (λ z. members_to_come front known (z ∷ drop (i + 1) xs)) (sym e)
      ∙ members_more front (typing s env x known) (all_typed (map (part s env) (drop (i + 1) xs)) known)

  -- ---- fields

  abbrev parts : List (List ℕ × Expr) → List (List ℕ × Operand)
  parts fs = map (λ (f : List ℕ × Expr). (f.0, part s env f.1)) fs

  abbrev pub fields_to_come : List (List ℕ × TypedExpr) → Capabilities → List (List ℕ × Expr) → Result (List (List ℕ × TypedExpr)) TypeFault
  fields_to_come front known fs = fields_typed (parts fs) known >>= λ ys. Ok (front ++ ys)

  fields_more : (front : List (List ℕ × TypedExpr)) (name : List ℕ) (o : Outcome) (r : Result (List (List ℕ × TypedExpr)) TypeFault)
      → ((o >>= λ t. r >>= λ rest. Ok ((name, t.expr) ∷ rest)) >>= λ ys. Ok (front ++ ys)) ≡ (o >>= λ t. r >>= λ ys. Ok ((front ++ (name, t.expr) ∷ []) ++ ys))
  fields_more front name (Err f) r = refl
  fields_more front name (Ok t) (Err f) = refl
  fields_more front name (Ok t) (Ok ys) = ap Ok (sym (append_assoc front ((name, t.expr) ∷ []) ys))

  pub fields_to_come_more : (front : List (List ℕ × TypedExpr)) (known : Capabilities) (fs : List (List ℕ × Expr)) (i : ℕ) (f : List ℕ × Expr) → i < length fs → f ≡ get_or fs i f
      → fields_to_come front known (drop i fs) ≡ (typing s env f.1 known >>= λ t. fields_to_come (front ++ (f.0, t.expr) ∷ []) known (drop (i + 1) fs))
  fields_to_come_more front known fs i f h e =
      at_drop_more (fields_to_come front known) fs i f h ∙ ap (λ z. fields_to_come front known (z ∷ drop (i + 1) fs)) (sym e)
      ∙ fields_more front f.0 (typing s env f.1 known) (fields_typed (parts (drop (i + 1) fs)) known)
