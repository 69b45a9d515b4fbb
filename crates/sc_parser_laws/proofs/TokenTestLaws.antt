-- What stands at a place among the tokens: each test of it has an answer.
use Rattle.std.proofs.Common.{◌≡◌, ◌⊎◌, inl, inr, ℕ, ◌+◌, ◌≤◌, List, length, slice_get, codes, refl, sym, ap, ◌∙◌, arith, subst}
use Rattle.std.specs.declared.option.Option.{Option}
use Rattle.std.specs.declared.option.Option.TheVariants.{Some, None}
use Rattle.std.proofs.lemmas.Bool.{cases_Bool}
use Rattle.std.proofs.lemmas.Option.{slice_get_within}
use Rattle.sc_laws.proofs.BoolLaws.{never}
use Rattle.sc_pattern.specs.declared.part.Part.{Part}
use Rattle.sc_ast.specs.declared.place.Place.{Place}
use Rattle.sc_ast.specs.declared.operator.UnaryOperator.{UnaryOperator}
use Rattle.sc_ast.specs.declared.policy.Effect.{Effect}
use Rattle.sc_ast.specs.declared.policy.Effect.TheVariants.{Permit, Forbid}
use Rattle.sc_ast.specs.declared.policy.ConditionKind.{ConditionKind}
use Rattle.sc_ast.specs.declared.policy.ConditionKind.TheVariants.{When, Unless}
use Rattle.sc_names.specs.Names.{is_ident}
use Rattle.sc_lexer.specs.declared.token.Kind.{Kind}
use Rattle.sc_lexer.specs.declared.token.Kind.TheVariants as kind
use Rattle.sc_lexemes.specs.declared.lexeme.Lexeme.{Lexeme}
use Rattle.sc_lexemes.specs.declared.lexeme.Shape.{Shape}
use Rattle.sc_lexemes.specs.declared.lexeme.Shape.TheVariants.{Word, Number, String, Sign}
use Rattle.sc_lexemes.specs.declared.operator.Close.{Close}
use Rattle.sc_lexemes.specs.declared.operator.Close.TheVariants as close
use Rattle.sc_lexemes.specs.declared.operator.Level.{Level}
use Rattle.sc_lexemes.specs.declared.operator.Operator.{Operator}
use Rattle.sc_lexemes.specs.Lexemes.{Is, Lacks, IsIdent, LacksIdent, closing, LacksString, IsOperator, LacksOperator, IsPrefix, LacksThisPrefix, LacksPrefix, starts, IsStart, LacksStart, LacksWord, effect_word, IsEffect, LacksEffect, clause_word, IsClause, LacksClause, IsPolicyStart, annotation_starts, effect_starts}
use Rattle.sc_lexemes.specs.Tables.{operator_of, level_of, prefix_of}
use Rattle.sc_parser.proofs.TestLaws.{one_shape}
use Rattle.sc_parser_laws.proofs.ChoiceLaws.{kind_or, unary_or, level_or, text_or}

-- ---- shapes

word_text : {v w : List ℕ} → Word v ≡ Word w → v ≡ w
word_text e = cc

number_text : {v w : List ℕ} → Number v ≡ Number w → v ≡ w
number_text e = cc

sign_kind : {j k : Kind} → Sign j ≡ Sign k → j ≡ k
sign_kind e = cc

pub word_or : (c : Shape) (w : List ℕ) → (c ≡ Word w) ⊎ (c ≡ Word w → ⊥)
word_or (Word v) w = elim (text_or v w) [ inl same ↦ inl (ap Word same) | inr differ ↦ inr (λ e. differ (word_text e)) ]
word_or (Number v) w = inr (λ e. cc)
word_or (String t parts) w = inr (λ e. cc)
word_or (Sign k) w = inr (λ e. cc)

pub number_or : (c : Shape) (w : List ℕ) → (c ≡ Number w) ⊎ (c ≡ Number w → ⊥)
number_or (Word v) w = inr (λ e. cc)
number_or (Number v) w = elim (text_or v w) [ inl same ↦ inl (ap Number same) | inr differ ↦ inr (λ e. differ (number_text e)) ]
number_or (String t parts) w = inr (λ e. cc)
number_or (Sign k) w = inr (λ e. cc)

pub sign_or : (c : Shape) (k : Kind) → (c ≡ Sign k) ⊎ (c ≡ Sign k → ⊥)
sign_or (Word v) k = inr (λ e. cc)
sign_or (Number v) k = inr (λ e. cc)
sign_or (String t parts) k = inr (λ e. cc)
sign_or (Sign j) k = elim (kind_or j k) [ inl same ↦ inl (ap Sign same) | inr differ ↦ inr (λ e. differ (sign_kind e)) ]

closing_or : (x : Shape) (c : Close) → (x ≡ closing c) ⊎ (x ≡ closing c → ⊥)
closing_or x close.Then = word_or x (codes "then")
closing_or x close.Else = word_or x (codes "else")
closing_or x close.Parenthesis = sign_or x kind.CloseParenthesis
closing_or x close.Bracket = sign_or x kind.CloseBracket
closing_or x close.Brace = sign_or x kind.CloseBrace

-- ---- tokens

-- a token stands at the place, or none does
data AtPlace (ts : List Lexeme) (i : ℕ) : Type 0 where
  token : (l : Lexeme) → slice_get ts i ≡ Some l → AtPlace ts i
  past : slice_get ts i ≡ None → AtPlace ts i

module _ (ts : List Lexeme) (i : ℕ) where
  by_token : (o : Option Lexeme) → slice_get ts i ≡ o → AtPlace ts i
  by_token (Some l) e = token l e
  by_token None e = past e

  at_place : AtPlace ts i
  at_place = by_token (slice_get ts i) refl

  pub says : (l : Lexeme) (c : Shape) → slice_get ts i ≡ Some l → l.shape ≡ c → Is ts i l.place c
  says l c e is = e ∙ ap (λ (d : Shape). Some (record { place = l.place; shape = d })) is

  pub shape_told : (l : Lexeme) (c : Shape) (p : Place) → slice_get ts i ≡ Some l → Is ts i p c → l.shape ≡ c
  shape_told l c p e h = one_shape ts i (says l l.shape e refl) h

  none_there : (c : Shape) (p : Place) → slice_get ts i ≡ None → Is ts i p c → ⊥
  none_there c p e h = let clash : None ≡ Some (record { place = p; shape = c }) = sym e ∙ h in cc

  pub inside_of : {p : Place} {c : Shape} → Is ts i p c → i + 1 ≤ length ts
  inside_of {p = p} {c = c} h = let k = slice_get_within ts i (record { place = p; shape = c }) h in omega (arith, k)

  -- whether what is said is this
  pub is_or : (c : Shape) → ((d : Shape) → (d ≡ c) ⊎ (d ≡ c → ⊥)) → ((p : Place) × Is ts i p c) ⊎ Lacks ts i c
  is_or c test = elim at_place [
    | token l e ↦ elim (test l.shape) [
      | inl same ↦ inl (l.place, says l c e same)
      | inr differ ↦ inr (λ p h. differ (shape_told l c p e h))
    ]
    | past e ↦ inr (λ p h. none_there c p e h)
  ]

  pub sign_at : (k : Kind) → ((p : Place) × Is ts i p (Sign k)) ⊎ Lacks ts i (Sign k)
  sign_at k = is_or (Sign k) (λ d. sign_or d k)

  pub word_at : (w : List ℕ) → ((p : Place) × Is ts i p (Word w)) ⊎ Lacks ts i (Word w)
  word_at w = is_or (Word w) (λ d. word_or d w)

  pub number_at : (w : List ℕ) → ((p : Place) × Is ts i p (Number w)) ⊎ Lacks ts i (Number w)
  number_at w = is_or (Number w) (λ d. number_or d w)

  pub closing_at : (c : Close) → ((p : Place) × Is ts i p (closing c)) ⊎ Lacks ts i (closing c)
  closing_at c = is_or (closing c) (λ d. closing_or d c)

  -- ---- words, strings and identifiers

  any_word_by : (l : Lexeme) (c : Shape) → slice_get ts i ≡ Some l → l.shape ≡ c → ((p : Place) × (w : List ℕ) × Is ts i p (Word w)) ⊎ LacksWord ts i
  any_word_by l (Word w) e is = inl (l.place, w, says l (Word w) e is)
  any_word_by l (Number v) e is = inr (λ p w h. let clash : Number v ≡ Word w = sym is ∙ shape_told l (Word w) p e h in cc)
  any_word_by l (String t parts) e is = inr (λ p w h. let clash : String t parts ≡ Word w = sym is ∙ shape_told l (Word w) p e h in cc)
  any_word_by l (Sign k) e is = inr (λ p w h. let clash : Sign k ≡ Word w = sym is ∙ shape_told l (Word w) p e h in cc)

  pub any_word_at : ((p : Place) × (w : List ℕ) × Is ts i p (Word w)) ⊎ LacksWord ts i
  any_word_at = elim at_place [
    | token l e ↦ any_word_by l l.shape e refl
    | past e ↦ inr (λ p w h. none_there (Word w) p e h)
  ]

  string_by : (l : Lexeme) (c : Shape) → slice_get ts i ≡ Some l → l.shape ≡ c → ((p : Place) × (t : List ℕ) × (parts : List Part) × Is ts i p (String t parts)) ⊎ LacksString ts i
  string_by l (Word w) e is = inr (λ p t parts h. let clash : Word w ≡ String t parts = sym is ∙ shape_told l (String t parts) p e h in cc)
  string_by l (Number v) e is = inr (λ p t parts h. let clash : Number v ≡ String t parts = sym is ∙ shape_told l (String t parts) p e h in cc)
  string_by l (String t parts) e is = inl (l.place, t, parts, says l (String t parts) e is)
  string_by l (Sign k) e is = inr (λ p t parts h. let clash : Sign k ≡ String t parts = sym is ∙ shape_told l (String t parts) p e h in cc)

  pub string_at : ((p : Place) × (t : List ℕ) × (parts : List Part) × Is ts i p (String t parts)) ⊎ LacksString ts i
  string_at = elim at_place [
    | token l e ↦ string_by l l.shape e refl
    | past e ↦ inr (λ p t parts h. none_there (String t parts) p e h)
  ]

  pub ident_at : ((p : Place) × (w : List ℕ) × IsIdent ts i p w) ⊎ LacksIdent ts i
  ident_at = elim any_word_at [
    | inl x ↦ elim (cases_Bool (is_ident x.1)) [
      | inl is ↦ inl (x.0, x.1, (x.2, is))
      | inr other ↦ inr (λ p w h g. never ⊥ (sym g ∙ ap is_ident (word_text (one_shape ts i h x.2)) ∙ other))
    ]
    | inr none ↦ inr (λ p w h g. none p w h)
  ]

  -- ---- operators and prefixes

  operator_by : (l : Lexeme) (o : Option Operator) (k : Level) → slice_get ts i ≡ Some l → operator_of l.shape ≡ o → ((p : Place) × (r : Operator) × IsOperator ts i p k r) ⊎ LacksOperator ts i k
  operator_by l None k e is = inr (λ p r h. let clash : None ≡ Some r = sym is ∙ ap operator_of (shape_told l h.shape p e h.is) ∙ h.operator in cc)
  operator_by l (Some q) k e is = elim (level_or (level_of q) k) [
    | inl same ↦ inl (l.place, q, record { shape = l.shape; is = says l l.shape e refl; operator = is; level = same })
    | inr differ ↦ inr (λ p r h.
        let one : Some q ≡ Some r = sym is ∙ ap operator_of (shape_told l h.shape p e h.is) ∙ h.operator in
        let alike : q ≡ r = cc in
        differ (ap level_of alike ∙ h.level))
  ]

  pub operator_at : (k : Level) → ((p : Place) × (r : Operator) × IsOperator ts i p k r) ⊎ LacksOperator ts i k
  operator_at k = elim at_place [
    | token l e ↦ operator_by l (operator_of l.shape) k e refl
    | past e ↦ inr (λ p r h. none_there h.shape p e h.is)
  ]

  prefix_by : (l : Lexeme) (o : Option UnaryOperator) → slice_get ts i ≡ Some l → prefix_of l.shape ≡ o → ((p : Place) × (r : UnaryOperator) × IsPrefix ts i p r) ⊎ LacksPrefix ts i
  prefix_by l None e is = inr (λ p r h. let clash : None ≡ Some r = sym is ∙ ap prefix_of (shape_told l h.shape p e h.is) ∙ h.operator in cc)
  prefix_by l (Some q) e is = inl (l.place, q, record { shape = l.shape; is = says l l.shape e refl; operator = is })

  pub prefix_at : ((p : Place) × (r : UnaryOperator) × IsPrefix ts i p r) ⊎ LacksPrefix ts i
  prefix_at = elim at_place [
    | token l e ↦ prefix_by l (prefix_of l.shape) e refl
    | past e ↦ inr (λ p r h. none_there h.shape p e h.is)
  ]

  one_prefix : {p q : Place} {r o : UnaryOperator} → IsPrefix ts i p r → IsPrefix ts i q o → r ≡ o
  one_prefix {r = r} {o = o} h g = let one : Some r ≡ Some o = sym h.operator ∙ ap prefix_of (one_shape ts i h.is g.is) ∙ g.operator in cc

  pub this_prefix_at : (r : UnaryOperator) → ((p : Place) × IsPrefix ts i p r) ⊎ LacksThisPrefix ts i r
  this_prefix_at r = elim prefix_at [
    | inl x ↦ elim (unary_or x.1 r) [
      | inl same ↦ inl (x.0, subst (IsPrefix ts i x.0) same x.2)
      | inr differ ↦ inr (λ p h. differ (one_prefix x.2 h))
    ]
    | inr none ↦ inr (λ p h. none p r h)
  ]

  -- ---- beginnings

  pub start_at : IsStart ts i ⊎ LacksStart ts i
  start_at = elim at_place [
    | token l e ↦ elim (cases_Bool (starts l.shape)) [
      | inl is ↦ inl (record { place = l.place; shape = l.shape; is = says l l.shape e refl; starts = is })
      | inr other ↦ inr (λ h. never ⊥ (sym h.starts ∙ ap starts (sym (shape_told l h.shape h.place e h.is)) ∙ other))
    ]
    | past e ↦ inr (λ h. none_there h.shape h.place e h.is)
  ]

  pub effect_at : ((p : Place) × (f : Effect) × IsEffect ts i p f) ⊎ LacksEffect ts i
  effect_at = elim (word_at (effect_word Permit)) [
    | inl x ↦ inl (x.0, Permit, record { is = x.1 })
    | inr first ↦ elim (word_at (effect_word Forbid)) [
      | inl x ↦ inl (x.0, Forbid, record { is = x.1 })
      | inr second ↦ inr (lacks first second)
    ]
  ]
    where
      lacks : Lacks ts i (Word (effect_word Permit)) → Lacks ts i (Word (effect_word Forbid)) → LacksEffect ts i
      lacks first second p Permit h = first p h.is
      lacks first second p Forbid h = second p h.is

  pub clause_at : ((p : Place) × (k : ConditionKind) × IsClause ts i p k) ⊎ LacksClause ts i
  clause_at = elim (word_at (clause_word When)) [
    | inl x ↦ inl (x.0, When, record { is = x.1 })
    | inr first ↦ elim (word_at (clause_word Unless)) [
      | inl x ↦ inl (x.0, Unless, record { is = x.1 })
      | inr second ↦ inr (lacks first second)
    ]
  ]
    where
      lacks : Lacks ts i (Word (clause_word When)) → Lacks ts i (Word (clause_word Unless)) → LacksClause ts i
      lacks first second p When h = first p h.is
      lacks first second p Unless h = second p h.is

  pub policy_at : IsPolicyStart ts i ⊎ (IsPolicyStart ts i → ⊥)
  policy_at = elim (sign_at kind.At) [
    | inl x ↦ inl (annotation_starts x.0 x.1)
    | inr no_sign ↦ elim effect_at [
      | inl x ↦ inl (effect_starts x.0 x.1 x.2)
      | inr no_effect ↦ inr (neither no_sign no_effect)
    ]
  ]
    where
      neither : Lacks ts i (Sign kind.At) → LacksEffect ts i → IsPolicyStart ts i → ⊥
      neither no_sign no_effect (annotation_starts p h) = no_sign p h
      neither no_sign no_effect (effect_starts p f h) = no_effect p f h
