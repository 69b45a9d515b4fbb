-- The values of lists of expressions: those so far, and then those to come.
use Rattle.std.proofs.Common.{◌≡◌, ℕ, ◌+◌, ◌<◌, List, [], ◌∷◌, ◌++◌, length, map, drop, get_or, Result, Ok, Err, refl, sym, ap, ◌∙◌, append_assoc}
use Rattle.std.proofs.lemmas.List.{at_drop_more}
use Rattle.sc_ast.specs.declared.expr.Expr.{Expr}
use Rattle.sc_values.specs.declared.value.Value.{Value}
use Rattle.sc_values.specs.Records.{Fields}
use Rattle.sc_world.specs.declared.world.World.{World}
use Rattle.sc_eval.specs.declared.error.EvalError.{EvalError}
use Rattle.sc_eval.specs.Outcomes.{Outcome, ◌>>=◌}
use Rattle.sc_eval.specs.Eval.{eval, all_values, all_fields}

-- ---- members

abbrev with_front : List Value → Result (List Value) EvalError → Result (List Value) EvalError
with_front front rest = rest >>= λ xs. Ok (front ++ xs)

abbrev pub values_to_come : List Value → World → List Expr → Result (List Value) EvalError
values_to_come front w xs = with_front front (all_values (map eval xs) w)

front_more : (front : List Value) (o : Outcome) (r : Result (List Value) EvalError) → with_front front (o >>= λ a. r >>= λ rest. Ok (a ∷ rest)) ≡ (o >>= λ a. with_front (front ++ a ∷ []) r)
front_more front (Err e) r = refl
front_more front (Ok a) (Err e) = refl
front_more front (Ok a) (Ok xs) = ap Ok (sym (append_assoc front (a ∷ []) xs))

pub values_to_come_more : (front : List Value) (w : World) (xs : List Expr) (i : ℕ) (x : Expr) → i < length xs → x ≡ get_or xs i x
    → values_to_come front w (drop i xs) ≡ (eval x w >>= λ a. values_to_come (front ++ a ∷ []) w (drop (i + 1) xs))
values_to_come_more front w xs i x h e =
    at_drop_more (values_to_come front w) xs i x h ∙ ap (λ z. values_to_come front w (z ∷ drop (i + 1) xs)) (sym e)
    ∙ front_more front (eval x w) (all_values (map eval (drop (i + 1) xs)) w)

-- ---- fields

abbrev pub fields_to_come : Fields → World → List (List ℕ × Expr) → Result Fields EvalError
fields_to_come front w fs = all_fields (map (λ (f : List ℕ × Expr). (f.0, eval f.1)) fs) w >>= λ gs. Ok (front ++ gs)

fields_more : (front : Fields) (name : List ℕ) (o : Outcome) (r : Result Fields EvalError)
    → ((o >>= λ a. r >>= λ rest. Ok ((name, a) ∷ rest)) >>= λ gs. Ok (front ++ gs)) ≡ (o >>= λ a. r >>= λ gs. Ok ((front ++ (name, a) ∷ []) ++ gs))
fields_more front name (Err e) r = refl
fields_more front name (Ok a) (Err e) = refl
fields_more front name (Ok a) (Ok gs) = ap Ok (sym (append_assoc front ((name, a) ∷ []) gs))

pub fields_to_come_more : (front : Fields) (w : World) (fs : List (List ℕ × Expr)) (i : ℕ) (f : List ℕ × Expr) → i < length fs → f ≡ get_or fs i f
    → fields_to_come front w (drop i fs) ≡ (eval f.1 w >>= λ a. fields_to_come (front ++ (f.0, a) ∷ []) w (drop (i + 1) fs))
fields_to_come_more front w fs i f h e =
    at_drop_more (fields_to_come front w) fs i f h ∙ ap (λ z. fields_to_come front w (z ∷ drop (i + 1) fs)) (sym e)
    ∙ fields_more front f.0 (eval f.1 w) (all_fields (map (λ (g : List ℕ × Expr). (g.0, eval g.1)) (drop (i + 1) fs)) w)
