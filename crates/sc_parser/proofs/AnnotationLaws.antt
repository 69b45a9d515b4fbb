-- An annotation, where the cursor behind each token is given by an equation.
use Rattle.std.proofs.Common.{◌≡◌, ℕ, ◌+◌, List, subst, arith}
use Rattle.sc_ast.specs.declared.place.Place.{Place}
use Rattle.sc_lexer.specs.declared.token.Kind.TheVariants as kind
use Rattle.sc_lexemes.specs.declared.cursor.Cursor.{Cursor}
use Rattle.sc_lexemes.specs.declared.lexeme.Lexeme.{Lexeme}
use Rattle.sc_lexemes.specs.declared.lexeme.Shape.TheVariants.{Word, String, Sign}
use Rattle.sc_lexemes.specs.declared.stop.Stop.TheVariants.{Unexpected}
use Rattle.sc_lexemes.specs.Depth.{next}
use Rattle.sc_pattern.specs.declared.part.Part.{Part}
use Rattle.sc_lexemes.specs.Lexemes.{Is, Lacks, LacksString}
use Rattle.sc_parser.specs.ReadsFiles.{SkipsAnnotation, HaltsAnnotation, annotation, no_annotation_string, annotation_unclosed}

-- how far the tokens of an annotation are from its first
pub record AreBehind (s t u v w : Cursor) : Type 0 where
  pub one : t ≡ next s
  pub two : u ≡ next t
  pub three : v ≡ next u
  pub four : w ≡ next v

-- what holds of a place holds of an equal one
carried : (P : ℕ → Type 0) (i j : ℕ) → i ≡ j → P i → P j
carried P i j e h = subst P e h

at_two : (s t u v w : Cursor) → AreBehind s t u v w → u.at ≡ s.at + 2
at_two s t u v w b = rw (b.two, b.one) (omega arith)

at_three : (s t u v w : Cursor) → AreBehind s t u v w → v.at ≡ s.at + 3
at_three s t u v w b = rw (b.three, b.two, b.one) (omega arith)

at_four : (s t u v w : Cursor) → AreBehind s t u v w → w.at ≡ s.at + 4
at_four s t u v w b = rw (b.four, b.three, b.two, b.one) (omega arith)

pub skipped : (ts : List Lexeme) (s t u v w x : Cursor) (p q r a b : Place) (word text : List ℕ) (parts : List Part) → AreBehind s t u v w → Is ts s.at p (Sign kind.At) → Is ts t.at q (Word word) → Is ts u.at r (Sign kind.OpenParenthesis) → Is ts v.at a (String text parts) → Is ts w.at b (Sign kind.CloseParenthesis) → x ≡ next w → SkipsAnnotation ts s x
skipped ts s t u v w x p q r a b word text parts z h i j k l e =
    let i' : Is ts (s.at + 1) q (Word word) = rw z.one at i in
    let j' : Is ts (s.at + 2) r (Sign kind.OpenParenthesis) = carried (λ n. Is ts n r (Sign kind.OpenParenthesis)) u.at (s.at + 2) (at_two s t u v w z) j in
    let k' : Is ts (s.at + 3) a (String text parts) = carried (λ n. Is ts n a (String text parts)) v.at (s.at + 3) (at_three s t u v w z) k in
    let l' : Is ts (s.at + 4) b (Sign kind.CloseParenthesis) = carried (λ n. Is ts n b (Sign kind.CloseParenthesis)) w.at (s.at + 4) (at_four s t u v w z) l in
    rw (e, z.four, z.three, z.two, z.one) (annotation h i' j' k' l')

pub no_string : (ts : List Lexeme) (s t u v : Cursor) (p q r : Place) (word : List ℕ) → AreBehind s t u v (next v) → Is ts s.at p (Sign kind.At) → Is ts t.at q (Word word) → Is ts u.at r (Sign kind.OpenParenthesis) → LacksString ts v.at → HaltsAnnotation ts s Unexpected v.at
no_string ts s t u v p q r word z h i j k =
    let e = at_three s t u v (next v) z in
    let i' : Is ts (s.at + 1) q (Word word) = rw z.one at i in
    let j' : Is ts (s.at + 2) r (Sign kind.OpenParenthesis) = carried (λ n. Is ts n r (Sign kind.OpenParenthesis)) u.at (s.at + 2) (at_two s t u v (next v) z) j in
    let k' : LacksString ts (s.at + 3) = carried (λ n. LacksString ts n) v.at (s.at + 3) e k in
    rw e (no_annotation_string {s = s} h i' j' k')

pub unclosed : (ts : List Lexeme) (s t u v w : Cursor) (p q r a : Place) (word text : List ℕ) (parts : List Part) → AreBehind s t u v w → Is ts s.at p (Sign kind.At) → Is ts t.at q (Word word) → Is ts u.at r (Sign kind.OpenParenthesis) → Is ts v.at a (String text parts) → Lacks ts w.at (Sign kind.CloseParenthesis) → HaltsAnnotation ts s Unexpected w.at
unclosed ts s t u v w p q r a word text parts z h i j k l =
    let e = at_four s t u v w z in
    let i' : Is ts (s.at + 1) q (Word word) = rw z.one at i in
    let j' : Is ts (s.at + 2) r (Sign kind.OpenParenthesis) = carried (λ n. Is ts n r (Sign kind.OpenParenthesis)) u.at (s.at + 2) (at_two s t u v w z) j in
    let k' : Is ts (s.at + 3) a (String text parts) = carried (λ n. Is ts n a (String text parts)) v.at (s.at + 3) (at_three s t u v w z) k in
    let l' : Lacks ts (s.at + 4) (Sign kind.CloseParenthesis) = carried (λ n. Lacks ts n (Sign kind.CloseParenthesis)) w.at (s.at + 4) e l in
    rw e (annotation_unclosed {s = s} h i' j' k' l')
