-- How the program of a policy's head goes on behind an annotation, and what a policy begins with.
use Rattle.std.proofs.Common.{◌≡◌, ◌+◌, ℕ, List, slice_get, sym, ap, ◌∙◌, arith}
use Rattle.std.specs.declared.option.Option.{Option}
use Rattle.std.specs.declared.option.Option.TheVariants.{Some, None}
use Rattle.sc_pattern.specs.declared.part.Part.{Part}
use Rattle.sc_ast.specs.declared.place.Place.{Place}
use Rattle.sc_ast.specs.declared.policy.Effect.{Effect}
use Rattle.sc_lexer.specs.declared.token.Kind.TheVariants as kind
use Rattle.sc_lexemes.specs.declared.cursor.Cursor.{Cursor}
use Rattle.sc_lexemes.specs.declared.lexeme.Lexeme.{Lexeme}
use Rattle.sc_lexemes.specs.declared.lexeme.Shape.{Shape}
use Rattle.sc_lexemes.specs.declared.lexeme.Shape.TheVariants as shape
use Rattle.sc_lexemes.specs.Depth.{next}
use Rattle.sc_lexemes.specs.Lexemes.{Is, Lacks, IsEffect, IsPolicyStart, annotation_starts, effect_starts}
use Rattle.sc_parser.specs.Limits.{Limits}
use Rattle.sc_lexemes.specs.Outcomes.{Outcome}
use Rattle.sc_parser.proofs.Sorts as sort
use Rattle.sc_parser.proofs.Nonterminals as n
use Rattle.sc_parser.proofs.Productions.{production}
use Rattle.sc_parser.proofs.Runs.{Runs, finds, lacks, goes}
use Rattle.sc_parser.proofs.TestLaws.{other}
use Rattle.sc_parser.proofs.RunLaws.{tail}

-- an effect's word is no sign
pub effect_no_sign : (ts : List Lexeme) (i : ℕ) {p : Place} {e : Effect} → IsEffect ts i p e → Lacks ts i (shape.Sign kind.At)
effect_no_sign ts i h = other ts i h.is (λ e. cc)

-- places behind an annotation's first token
pub plus_two : (i : ℕ) → i + 2 ≡ i + 1 + 1
plus_two i = omega arith

pub plus_three : (i : ℕ) → i + 3 ≡ i + 1 + 1 + 1
plus_three i = omega arith

pub plus_four : (i : ℕ) → i + 4 ≡ i + 1 + 1 + 1 + 1
plus_four i = omega arith

pub there : (ts : List Lexeme) {i j : ℕ} {p : Place} {c : Shape} → i ≡ j → Is ts i p c → Is ts j p c
there ts e h = ap (slice_get ts) (sym e) ∙ h

pub annotation_alone : {K : Limits} {ts : List Lexeme} {s : Cursor} {p q : Place} {w : List ℕ} {o : Outcome (Place × Effect)} → Is ts s.at p (shape.Sign kind.At) → Is ts (s.at + 1) q (shape.Word w) → Lacks ts (s.at + 2) (shape.Sign kind.OpenParenthesis) → Runs K ts sort.head (production n.head) (next (next s)) o → Runs K ts sort.head (production n.head) s o
annotation_alone {ts = ts} {s = s} {p = p} {q = q} {w = w} h g l a = finds p h (goes h (finds (q, w) g (goes g (lacks (λ x k. l x (there ts (sym (plus_two s.at)) k)) (tail a)))))

pub annotation_told : {K : Limits} {ts : List Lexeme} {s : Cursor} {p q r v x : Place} {w t : List ℕ} {parts : List Part} {o : Outcome (Place × Effect)} → Is ts s.at p (shape.Sign kind.At) → Is ts (s.at + 1) q (shape.Word w) → Is ts (s.at + 2) r (shape.Sign kind.OpenParenthesis) → Is ts (s.at + 3) v (shape.String t parts) → Is ts (s.at + 4) x (shape.Sign kind.CloseParenthesis)
    → Runs K ts sort.head (production n.head) (next (next (next (next (next s))))) o → Runs K ts sort.head (production n.head) s o
annotation_told {ts = ts} {s = s} {p = p} {q = q} {r = r} {v = v} {x = x} {w = w} {t = t} {parts = parts} h g i j k a =
    let i' = there ts (plus_two s.at) i in let j' = there ts (plus_three s.at) j in let k' = there ts (plus_four s.at) k in
    finds p h (goes h (finds (q, w) g (goes g (finds r i' (goes i' (finds (v, t, parts) j' (goes j' (finds x k' (goes k' (tail a))))))))))

-- a policy's first token
pub start_is : {ts : List Lexeme} {i : ℕ} → IsPolicyStart ts i → (l : Lexeme) × (slice_get ts i ≡ Some l)
start_is (annotation_starts p h) = (_, h)
start_is (effect_starts p e h) = (_, h.is)

pub some_none : {l : Lexeme} {o : Option Lexeme} → o ≡ Some l → o ≡ None → ⊥
some_none h e = absurd cc

pub start_no_end : {ts : List Lexeme} {i : ℕ} → IsPolicyStart ts i → slice_get ts i ≡ None → ⊥
start_no_end h e = let t = start_is h in some_none t.1 e
