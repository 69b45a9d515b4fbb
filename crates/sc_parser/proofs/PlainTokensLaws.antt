-- Lists of tokens that are the same up to a place.
use Rattle.std.proofs.Common.{◌≡◌, ℕ, ◌+◌, ◌≤◌, ◌<◌, List, sym, ◌∙◌, arith, true, eq-or-lt_of_le, subst, inl, inr}
use Rattle.sc_ast.specs.declared.place.Place.{Place}
use Rattle.sc_ast.specs.declared.operator.UnaryOperator.{UnaryOperator}
use Rattle.sc_lexer.specs.declared.token.Kind.TheVariants as kind
use Rattle.sc_lexemes.specs.declared.lexeme.Lexeme.{Lexeme}
use Rattle.sc_lexemes.specs.declared.lexeme.Shape.{Shape}
use Rattle.sc_lexemes.specs.declared.lexeme.Shape.TheVariants.{Sign}
use Rattle.sc_lexemes.specs.declared.operator.Level.{Level}
use Rattle.sc_lexemes.specs.declared.operator.Operator.{Operator}
use Rattle.sc_ast.specs.declared.policy.Effect.{Effect}
use Rattle.sc_ast.specs.declared.policy.ConditionKind.{ConditionKind}
use Rattle.sc_lexemes.specs.declared.stop.Stop.{Stop}
use Rattle.sc_parser.specs.Faults.{Shares}
use Rattle.sc_lexemes.specs.Lexemes.{Is, Lacks, IsOperator, IsPrefix, IsLeast, IsEffect, IsClause}
use Rattle.sc_parser.specs.Limits.{Limits}

-- the second keeps no more limits than the first
abbrev pub Weaker : Limits → Limits → Type 0
Weaker K L = (g : Stop) (m : ℕ) → L g m ≡ true → K g m ≡ true

-- the same tokens before a place, and where no `::` stands there in the one, none does in the other
pub record Same (ts us : List Lexeme) (n : ℕ) : Type 0 where
  pub shares : Shares ts us n
  pub colons : Lacks ts n (Sign kind.DoubleColon) → Lacks us n (Sign kind.DoubleColon)

pub fewer : {ts us : List Lexeme} {m n : ℕ} → Shares ts us n → m ≤ n → Shares ts us m
fewer g h = record { same = λ k l. g.same k (omega (arith, l, h)) }

pub moved : {ts us : List Lexeme} {n i : ℕ} {p : Place} {c : Shape} → Shares ts us n → i < n → Is ts i p c → Is us i p c
moved {i = i} g l h = sym (g.same i l) ∙ h

pub lacking : {ts us : List Lexeme} {n i : ℕ} {c : Shape} → Shares ts us n → i < n → Lacks ts i c → Lacks us i c
lacking {i = i} g l n p h = n p (g.same i l ∙ h)

pub inner_same : {ts us : List Lexeme} {m n : ℕ} → Shares ts us n → m < n → Same ts us m
inner_same g l = record { shares = fewer g (omega (arith, l)); colons = lacking g l }

pub sooner : {ts us : List Lexeme} {m n : ℕ} → Same ts us n → m ≤ n → Same ts us m
sooner {ts = ts} {us = us} g h = elim (eq-or-lt_of_le h) [ inl e ↦ subst (Same ts us) (sym e) g | inr l ↦ inner_same g.shares l ]

pub moved_operator : {ts us : List Lexeme} {n i : ℕ} {p : Place} {l : Level} {r : Operator} → Shares ts us n → i < n → IsOperator ts i p l r → IsOperator us i p l r
moved_operator g l h = record { shape = h.shape; is = moved g l h.is; operator = h.operator; level = h.level }

pub moved_prefix : {ts us : List Lexeme} {n i : ℕ} {p : Place} {r : UnaryOperator} → Shares ts us n → i < n → IsPrefix ts i p r → IsPrefix us i p r
moved_prefix g l h = record { shape = h.shape; is = moved g l h.is; operator = h.operator }

pub moved_least : {ts us : List Lexeme} {n i : ℕ} {p : Place} → Shares ts us n → i + 1 < n → IsLeast ts i p → IsLeast us i p
moved_least g l h = record { minus = moved g (omega (arith, l)) h.minus; place = h.place; digits = moved g l h.digits }

pub moved_effect : {ts us : List Lexeme} {n i : ℕ} {p : Place} {e : Effect} → Shares ts us n → i < n → IsEffect ts i p e → IsEffect us i p e
moved_effect g l h = record { is = moved g l h.is }

pub moved_clause : {ts us : List Lexeme} {n i : ℕ} {p : Place} {k : ConditionKind} → Shares ts us n → i < n → IsClause ts i p k → IsClause us i p k
moved_clause g l h = record { is = moved g l h.is }
