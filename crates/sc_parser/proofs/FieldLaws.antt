-- A field of a record, where its value and the cursor behind each token are given by equations.
use Rattle.std.proofs.Common.{◌≡◌, ℕ, List, [], ◌∷◌, ◌++◌}
use Rattle.sc_ast.specs.declared.place.Place.{Place}
use Rattle.sc_ast.specs.declared.expr.Expr.{Expr}
use Rattle.sc_lexer.specs.declared.token.Kind.TheVariants as kind
use Rattle.sc_lexemes.specs.declared.cursor.Cursor.{Cursor}
use Rattle.sc_lexemes.specs.declared.lexeme.Lexeme.{Lexeme}
use Rattle.sc_lexemes.specs.declared.lexeme.Shape.TheVariants.{Sign}
use Rattle.sc_lexemes.specs.Depth.{next}
use Rattle.sc_lexemes.specs.Lexemes.{Is, Lacks}
use Rattle.sc_lexemes.specs.Outcomes.{Outcome, read}
use Rattle.sc_lexemes.specs.ReadsWords.{ReadsKey}
use Rattle.sc_parser.specs.Reads.{ReadsInner, ReadsFields, last_field, more_fields}

pub field_read : {ts : List Lexeme} {s t u v : Cursor} {p q : Place} {fs gs : List (List ℕ × Expr)} {w : List ℕ} {x y : Expr} → Lacks ts s.at (Sign kind.CloseBrace) → ReadsKey ts s fs (read w t) → Is ts t.at p (Sign kind.Colon) → u ≡ next t → ReadsInner ts u (read x v) → Is ts v.at q (Sign kind.CloseBrace) → y ≡ x → gs ≡ fs ++ (w, y) ∷ [] → ReadsFields ts s fs (read gs v)
field_read {ts = ts} {t = t} {v = v} {x = x} l k c next_is i e same is =
    let i' : ReadsInner ts (next t) (read x v) = rw next_is at i in
    rw (is, same) (last_field l k c i' e)

pub field_more : {ts : List Lexeme} {s t u v z : Cursor} {p q : Place} {fs gs : List (List ℕ × Expr)} {w : List ℕ} {x y : Expr} {o : Outcome (List (List ℕ × Expr))} → Lacks ts s.at (Sign kind.CloseBrace) → ReadsKey ts s fs (read w t) → Is ts t.at p (Sign kind.Colon) → u ≡ next t → ReadsInner ts u (read x v) → Is ts v.at q (Sign kind.Comma) → z ≡ next v → y ≡ x → gs ≡ fs ++ (w, y) ∷ [] → ReadsFields ts z gs o → ReadsFields ts s fs o
field_more {ts = ts} {t = t} {v = v} {fs = fs} {w = w} {x = x} {o = o} l k c next_is i e behind same is r =
    let i' : ReadsInner ts (next t) (read x v) = rw next_is at i in
    let r' : ReadsFields ts (next v) (fs ++ (w, x) ∷ []) o = rw (behind, is, same) at r in
    more_fields l k c i' e r'
