-- Expressions, and capabilities, that are told to be one are one.
use Rattle.std.proofs.Common.{◌≡◌, ◌&&◌, ℕ, List, [], ◌∷◌, map, Bool, true, false, refl, sym, ap, subst, ◌∙◌, rules}
use Rattle.std.specs.Cmp.{unsigned_Decides, signed_Decides}
use Rattle.std.specs.Cmp.Lexicographic.{pointwise, same_text}
use Rattle.std.proofs.lemmas.Bool.{and_parts, false≢true}
use Rattle.sc_ast.specs.declared.expr.Expr.{Expr, Expr-F, out-Expr, roll-Expr, out-roll-Expr, roll-out-Expr, map-Expr, ind-Expr}
use Rattle.sc_ast.specs.declared.expr.Expr.TheOpen as e
use Rattle.sc_ast.specs.declared.expr.TypeName.{TypeName}
use Rattle.sc_ast.specs.declared.expr.Variable.{Variable}
use Rattle.sc_ast.specs.declared.literal.Literal.{Literal}
use Rattle.sc_ast.specs.declared.literal.Literal.TheVariants as literal
use Rattle.sc_ast.specs.declared.operator.BinaryOperator.{BinaryOperator}
use Rattle.sc_ast.specs.declared.operator.UnaryOperator.{UnaryOperator}
use Rattle.sc_ast.specs.declared.place.Place.{Place}
use Rattle.sc_ast.specs.contracts.expr.ExprPartialEq.TheImpl.{ghosts as exprs}
use Rattle.sc_ast.specs.contracts.expr.VariablePartialEq.TheImpl.{ghosts as variables}
use Rattle.sc_ast.specs.contracts.expr.TypeNamePartialEq.TheImpl.{ghosts as type_names}
use Rattle.sc_ast.specs.contracts.literal.LiteralPartialEq.TheImpl.{ghosts as literals}
use Rattle.sc_ast.specs.contracts.operator.UnaryOperatorPartialEq.TheImpl.{ghosts as unaries}
use Rattle.sc_ast.specs.contracts.operator.BinaryOperatorPartialEq.TheImpl.{ghosts as binaries}
use Rattle.sc_ast.specs.contracts.place.PlacePartialEq.TheImpl.{ghosts as places}
use Rattle.sc_ast.specs.contracts.expr.Variable.{the_type as variable_type}
use Rattle.sc_ast.specs.contracts.operator.BinaryOperator.{the_type as binary_type}
use Rattle.sc_ast.specs.contracts.operator.UnaryOperator.{the_type as unary_type}
use Rattle.sc_names.specs.declared.uid.Uid.{Uid}
use Rattle.sc_typed.specs.declared.capability.Capability.{Capability}
use Rattle.sc_typed.specs.declared.capability.Key.{Key}
use Rattle.sc_typed.specs.declared.capability.Key.TheVariants.{Attribute, Tag}
use Rattle.sc_typed.specs.contracts.capability.KeyPartialEq.TheImpl.{ghosts as keys}
use Rattle.sc_typed.specs.Capabilities.{same}
use Rattle.sc_pattern.specs.contracts.pattern.PatternPartialEq.TheImpl.{ghosts as patterns}
use Rattle.sc_pattern.proofs.SameLaws.{pattern_same}
use Rattle.sc_typed.proofs.LayerLaws.{texts, alike, told_by_layers}
use denote.Enum.Bare.{same_true}

-- ---- what expressions are made of

one_place : (p q : Place) → places.eq p q ≡ true → p ≡ q
one_place p q h = let at : p.offset ≡ q.offset = (unsigned_Decides p.offset q.offset).0 h in λ i. record { offset = at i }

one_variable : (x y : Variable) → variables.eq x y ≡ true → x ≡ y
one_variable x y h = same_true variable_type (search rules) x y h

one_binary : (x y : BinaryOperator) → binaries.eq x y ≡ true → x ≡ y
one_binary x y h = same_true binary_type (search rules) x y h

one_unary : (x y : UnaryOperator) → unaries.eq x y ≡ true → x ≡ y
one_unary x y h = same_true unary_type (search rules) x y h

one_text : (xs ys : List ℕ) → texts xs ys ≡ true → xs ≡ ys
one_text xs ys h = same_text xs ys (sym h)

one_bool : (a b : Bool) → literals.eq (literal.Bool a) (literal.Bool b) ≡ true → a ≡ b
one_bool true true h = refl
one_bool true false h = absurd (false≢true h)
one_bool false true h = absurd (false≢true h)
one_bool false false h = refl

one_uid : (u v : Uid) → (texts u.type_name v.type_name && texts u.id v.id) ≡ true → u ≡ v
one_uid u v h =
    let p = and_parts (texts u.type_name v.type_name) (texts u.id v.id) h in
    let name = one_text u.type_name v.type_name p.0 in
    let id = one_text u.id v.id p.1 in
    λ i. record { type_name = name i; id = id i }

one_literal : (l m : Literal) → literals.eq l m ≡ true → l ≡ m
one_literal (literal.Bool a) (literal.Bool b) h = ap literal.Bool (one_bool a b h)
one_literal (literal.Long a) (literal.Long b) h = ap literal.Long ((signed_Decides a b).0 h)
one_literal (literal.String a) (literal.String b) h = ap literal.String (one_text a b h)
one_literal (literal.Entity a) (literal.Entity b) h = ap literal.Entity (one_uid a b h)
one_literal (literal.Bool a) _ h = absurd (false≢true h)
one_literal (literal.Long a) _ h = absurd (false≢true h)
one_literal (literal.String a) _ h = absurd (false≢true h)
one_literal (literal.Entity a) _ h = absurd (false≢true h)

-- lists whose elements are one by one the same
pub one_list : {X : Type 0} (eq : X → X → Bool) → ((x y : X) → eq x y ≡ true → x ≡ y) → (xs ys : List X) → pointwise eq xs ys ≡ true → xs ≡ ys
one_list eq one [] [] h = refl
one_list eq one [] (y ∷ ys) h = absurd (false≢true h)
one_list eq one (x ∷ xs) [] h = absurd (false≢true h)
one_list eq one (x ∷ xs) (y ∷ ys) h =
    let p = and_parts (eq x y) (pointwise eq xs ys) h in
    let first = one x y p.0 in
    let rest = one_list eq one xs ys p.1 in
    λ i. first i ∷ rest i

one_type_name : (s t : TypeName) → type_names.eq s t ≡ true → s ≡ t
one_type_name s t h =
    let p = and_parts (places.eq s.place t.place) (texts s.name t.name) h in
    let place = one_place s.place t.place p.0 in
    let name = one_text s.name t.name p.1 in
    λ i. record { place = place i; name = name i }

-- ---- expressions

abbrev IsOne : Expr → Type 0
IsOne x = (y : Expr) → exprs.eq x y ≡ true → x ≡ y

abbrev Known : Type 0
Known = (x : Expr) × IsOne x

abbrev forget : Expr-F Known → Expr-F Expr
forget = map-Expr Known Expr (λ k. k.0)

one_set : (ks : List Known) (ys : List Expr) → pointwise exprs.eq (map (λ (k : Known). k.0) ks) ys ≡ true → map (λ (k : Known). k.0) ks ≡ ys
one_set [] [] h = refl
one_set [] (y ∷ ys) h = absurd (false≢true h)
one_set (k ∷ ks) [] h = absurd (false≢true h)
one_set (k ∷ ks) (y ∷ ys) h =
    let p = and_parts (exprs.eq k.0 y) (pointwise exprs.eq (map (λ (k : Known). k.0) ks) ys) h in
    let first : k.0 ≡ y = k.1 y p.0 in
    let rest = one_set ks ys p.1 in
    λ i. first i ∷ rest i

abbrev fields : List (List ℕ × Known) → List (List ℕ × Expr)
fields ks = map (λ (f : List ℕ × Known). (f.0, f.1.0)) ks

abbrev same_field : List ℕ × Expr → List ℕ × Expr → Bool
same_field f g = texts f.0 g.0 && exprs.eq f.1 g.1

one_record : (ks : List (List ℕ × Known)) (ys : List (List ℕ × Expr)) → pointwise same_field (fields ks) ys ≡ true → fields ks ≡ ys
one_record [] [] h = refl
one_record [] (y ∷ ys) h = absurd (false≢true h)
one_record (k ∷ ks) [] h = absurd (false≢true h)
one_record (k ∷ ks) (y ∷ ys) h =
    let p = and_parts (same_field (k.0, k.1.0) y) (pointwise same_field (fields ks) ys) h in
    let q = and_parts (texts k.0 y.0) (exprs.eq k.1.0 y.1) p.0 in
    let name : k.0 ≡ y.0 = one_text k.0 y.0 q.0 in
    let value : k.1.0 ≡ y.1 = k.1.1 y.1 q.1 in
    let rest = one_record ks ys p.1 in
    λ i. (name i, value i) ∷ rest i

row : (x : Expr-F Known) (y : Expr-F Expr) → alike (forget x) y ≡ true → forget x ≡ y
row (e.If p c a b) (e.If q d f g) h =
    let s = and_parts (places.eq p q) (exprs.eq c.0 d && (exprs.eq a.0 f && exprs.eq b.0 g)) h in
    let t = and_parts (exprs.eq c.0 d) (exprs.eq a.0 f && exprs.eq b.0 g) s.1 in
    let u = and_parts (exprs.eq a.0 f) (exprs.eq b.0 g) t.1 in
    let place = one_place p q s.0 in
    let first : c.0 ≡ d = c.1 d t.0 in
    let second : a.0 ≡ f = a.1 f u.0 in
    let third : b.0 ≡ g = b.1 g u.1 in
    λ i. e.If (place i) (first i) (second i) (third i)
row (e.Or p a b) (e.Or q f g) h =
    let s = and_parts (places.eq p q) (exprs.eq a.0 f && exprs.eq b.0 g) h in
    let u = and_parts (exprs.eq a.0 f) (exprs.eq b.0 g) s.1 in
    let place = one_place p q s.0 in
    let first : a.0 ≡ f = a.1 f u.0 in
    let second : b.0 ≡ g = b.1 g u.1 in
    λ i. e.Or (place i) (first i) (second i)
row (e.And p a b) (e.And q f g) h =
    let s = and_parts (places.eq p q) (exprs.eq a.0 f && exprs.eq b.0 g) h in
    let u = and_parts (exprs.eq a.0 f) (exprs.eq b.0 g) s.1 in
    let place = one_place p q s.0 in
    let first : a.0 ≡ f = a.1 f u.0 in
    let second : b.0 ≡ g = b.1 g u.1 in
    λ i. e.And (place i) (first i) (second i)
row (e.Binary p o a b) (e.Binary q n f g) h =
    let s = and_parts (places.eq p q) (binaries.eq o n && (exprs.eq a.0 f && exprs.eq b.0 g)) h in
    let t = and_parts (binaries.eq o n) (exprs.eq a.0 f && exprs.eq b.0 g) s.1 in
    let u = and_parts (exprs.eq a.0 f) (exprs.eq b.0 g) t.1 in
    let place = one_place p q s.0 in
    let operator = one_binary o n t.0 in
    let first : a.0 ≡ f = a.1 f u.0 in
    let second : b.0 ≡ g = b.1 g u.1 in
    λ i. e.Binary (place i) (operator i) (first i) (second i)
row (e.Has p a ns) (e.Has q f ms) h =
    let s = and_parts (places.eq p q) (exprs.eq a.0 f && pointwise texts ns ms) h in
    let t = and_parts (exprs.eq a.0 f) (pointwise texts ns ms) s.1 in
    let place = one_place p q s.0 in
    let first : a.0 ≡ f = a.1 f t.0 in
    let names = one_list texts one_text ns ms t.1 in
    λ i. e.Has (place i) (first i) (names i)
row (e.Like p a ps) (e.Like q f qs) h =
    let s = and_parts (places.eq p q) (exprs.eq a.0 f && patterns.eq ps qs) h in
    let t = and_parts (exprs.eq a.0 f) (patterns.eq ps qs) s.1 in
    let place = one_place p q s.0 in
    let first : a.0 ≡ f = a.1 f t.0 in
    let pattern = pattern_same ps qs t.1 in
    λ i. e.Like (place i) (first i) (pattern i)
row (e.Is p a m) (e.Is q f n) h =
    let s = and_parts (places.eq p q) (exprs.eq a.0 f && type_names.eq m n) h in
    let t = and_parts (exprs.eq a.0 f) (type_names.eq m n) s.1 in
    let place = one_place p q s.0 in
    let first : a.0 ≡ f = a.1 f t.0 in
    let name = one_type_name m n t.1 in
    λ i. e.Is (place i) (first i) (name i)
row (e.IsIn p a m k b) (e.IsIn q f n l g) h =
    let s = and_parts (places.eq p q) (exprs.eq a.0 f && (type_names.eq m n && (places.eq k l && exprs.eq b.0 g))) h in
    let t = and_parts (exprs.eq a.0 f) (type_names.eq m n && (places.eq k l && exprs.eq b.0 g)) s.1 in
    let u = and_parts (type_names.eq m n) (places.eq k l && exprs.eq b.0 g) t.1 in
    let v = and_parts (places.eq k l) (exprs.eq b.0 g) u.1 in
    let place = one_place p q s.0 in
    let first : a.0 ≡ f = a.1 f t.0 in
    let name = one_type_name m n u.0 in
    let in_place = one_place k l v.0 in
    let second : b.0 ≡ g = b.1 g v.1 in
    λ i. e.IsIn (place i) (first i) (name i) (in_place i) (second i)
row (e.Unary p o a) (e.Unary q n f) h =
    let s = and_parts (places.eq p q) (unaries.eq o n && exprs.eq a.0 f) h in
    let t = and_parts (unaries.eq o n) (exprs.eq a.0 f) s.1 in
    let place = one_place p q s.0 in
    let operator = one_unary o n t.0 in
    let first : a.0 ≡ f = a.1 f t.1 in
    λ i. e.Unary (place i) (operator i) (first i)
row (e.Access p a m) (e.Access q f n) h =
    let s = and_parts (places.eq p q) (exprs.eq a.0 f && texts m n) h in
    let t = and_parts (exprs.eq a.0 f) (texts m n) s.1 in
    let place = one_place p q s.0 in
    let first : a.0 ≡ f = a.1 f t.0 in
    let name = one_text m n t.1 in
    λ i. e.Access (place i) (first i) (name i)
row (e.Literal p l) (e.Literal q m) h =
    let s = and_parts (places.eq p q) (literals.eq l m) h in
    let place = one_place p q s.0 in
    let value = one_literal l m s.1 in
    λ i. e.Literal (place i) (value i)
row (e.Variable p x) (e.Variable q y) h =
    let s = and_parts (places.eq p q) (variables.eq x y) h in
    let place = one_place p q s.0 in
    let variable = one_variable x y s.1 in
    λ i. e.Variable (place i) (variable i)
row (e.Set p ks) (e.Set q ys) h =
    let s = and_parts (places.eq p q) (pointwise exprs.eq (map (λ (k : Known). k.0) ks) ys) h in
    let place = one_place p q s.0 in
    let members = one_set ks ys s.1 in
    λ i. e.Set (place i) (members i)
row (e.Record p ks) (e.Record q ys) h =
    let s = and_parts (places.eq p q) (pointwise same_field (fields ks) ys) h in
    let place = one_place p q s.0 in
    let inside = one_record ks ys s.1 in
    λ i. e.Record (place i) (inside i)
row (e.If p c a b) _ h = absurd (false≢true h)
row (e.Or p a b) _ h = absurd (false≢true h)
row (e.And p a b) _ h = absurd (false≢true h)
row (e.Binary p o a b) _ h = absurd (false≢true h)
row (e.Has p a ns) _ h = absurd (false≢true h)
row (e.Like p a ps) _ h = absurd (false≢true h)
row (e.Is p a m) _ h = absurd (false≢true h)
row (e.IsIn p a m k b) _ h = absurd (false≢true h)
row (e.Unary p o a) _ h = absurd (false≢true h)
row (e.Access p a m) _ h = absurd (false≢true h)
row (e.Literal p l) _ h = absurd (false≢true h)
row (e.Variable p x) _ h = absurd (false≢true h)
row (e.Set p ks) _ h = absurd (false≢true h)
row (e.Record p ks) _ h = absurd (false≢true h)

by_row : (x : Expr-F Known) (a b : Expr) → out-Expr a ≡ forget x → exprs.eq a b ≡ true → forget x ≡ out-Expr b
by_row x a b at h = row x (out-Expr b) (ap (λ (z : Expr-F Expr). alike z (out-Expr b)) (sym at) ∙ sym (told_by_layers a b) ∙ h)

inner : (x : Expr-F Known) → IsOne (roll-Expr (forget x))
inner x b h = ap roll-Expr (by_row x (roll-Expr (forget x)) b (out-roll-Expr (forget x)) h) ∙ roll-out-Expr b

pub same_expr : (x y : Expr) → exprs.eq x y ≡ true → x ≡ y
same_expr = ind-Expr IsOne (λ x y at. subst (λ z. IsOne (roll-Expr z)) at (inner y))

-- ---- capabilities

one_key : (k l : Key) → keys.eq k l ≡ true → k ≡ l
one_key (Attribute a) (Attribute b) h = ap Attribute (one_text a b h)
one_key (Attribute a) (Tag y) h = absurd (false≢true h)
one_key (Tag x) (Attribute b) h = absurd (false≢true h)
one_key (Tag x) (Tag y) h = ap Tag (same_expr x y h)

pub same_is : (c d : Capability) → same c d ≡ true → c ≡ d
unfolding same
same_is c d h =
    let p = and_parts (exprs.eq c.object d.object) (keys.eq c.key d.key) h in
    let object = same_expr c.object d.object p.0 in
    let key = one_key c.key d.key p.1 in
    λ i. record { object = object i; key = key i }
