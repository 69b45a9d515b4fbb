-- Literals and entities that are equal.
use Rattle.std.proofs.Common.{◌≡◌, ℕ, List, Bool, true, false, Some, Ok, refl, sym, ap, ◌∙◌}
use Rattle.std.specs.Str.{bytes_eq}
use Rattle.std.proofs.lemmas.Slice.Eq.{bytes_eq-Decides}
use Rattle.sc_ast.specs.declared.expr.Expr.{Expr, Expr-F, out-Expr, map-Expr, fold_out-Expr}
use Rattle.sc_ast.specs.declared.expr.Expr.TheOpen as e
use Rattle.sc_ast.specs.declared.literal.Literal.{Literal}
use Rattle.sc_names.specs.declared.uid.Uid.{Uid}
use Rattle.sc_values.specs.declared.value.Value.{Value, out-Value}
use Rattle.sc_values.specs.declared.value.Value.TheVariants as value
use Rattle.sc_values.specs.declared.value.Value.TheOpen as v
use Rattle.sc_values.proofs.OutLaws.{out_Entity}
use Rattle.sc_world.specs.declared.world.World.{World}
use Rattle.sc_eval.specs.Outcomes.{Outcome}
use Rattle.sc_eval.specs.Collections.{is_same}
use Rattle.sc_eval.specs.Operators.{literal_value}
use Rattle.sc_eval.specs.Eval.{Meaning, eval_step, eval}
use Rattle.sc_eval.specs.CollectionLaws.{is_same-decides}
use Rattle.sc_typed.specs.Literals.{literal_in, literal_of}

-- ---- literals

literal_at : (y : Expr-F Expr) (l : Literal) (w : World) → literal_in y ≡ Some l → eval_step (map-Expr Expr Meaning eval y) w ≡ Ok (literal_value l)
literal_at (e.Literal place m) l w h = let is : m ≡ l = cc in ap (λ k. Ok (literal_value k)) is
literal_at _ l w h = absurd cc

-- a literal is worth what it says
pub literal-eval : (x : Expr) (l : Literal) (w : World) → literal_of x ≡ Some l → eval x w ≡ Ok (literal_value l)
unfolding eval
literal-eval x l w h = ap (λ f. f w) (fold_out-Expr Meaning eval_step x) ∙ literal_at (out-Expr x) l w h

pub same_value : (x y : Value) → ◌≡◌ {A = Outcome} (Ok x) (Ok y) → x ≡ y
same_value x y h = cc

-- ---- entities of two types

pub same_entity : (m n : Uid) → value.Entity m ≡ value.Entity n → m ≡ n
same_entity m n h = let inside : v.Entity m ≡ v.Entity n = sym (out_Entity m) ∙ ap out-Value h ∙ out_Entity n in cc

-- entities of types of two names are two
pub entities-differ : (a b : List ℕ) (x y : Value) (m n : Uid) → bytes_eq a b ≡ false
    → x ≡ value.Entity m → m.type_name ≡ a → y ≡ value.Entity n → n.type_name ≡ b → (r : Bool) → is_same x y ≡ r → r ≡ false
entities-differ a b x y m n apart xm ma yn nb false is = refl
entities-differ a b x y m n apart xm ma yn nb true is =
    let one : x ≡ y = (is_same-decides x y).0 is in
    let uids : m ≡ n = same_entity m n (sym xm ∙ one ∙ yn) in
    let names : a ≡ b = sym ma ∙ ap (λ (k : Uid). k.type_name) uids ∙ nb in
    absurd (let both : false ≡ true = sym apart ∙ (bytes_eq-Decides a b).1 names in cc)
