-- The faults of a list of tokens that spells no policies within the limits: the first token that no file has there,
-- or that passes a limit.
use Rattle.std.specs.Prelude.{◌≡◌, ℕ, ◌+◌, ◌<◌, ◌≤◌, List, slice_get, length, true, false, Bool}
use Rattle.sc_ast.specs.declared.policy.Policy.{Policy}
use Rattle.sc_lexemes.specs.declared.lexeme.Lexeme.{Lexeme}
use Rattle.sc_lexemes.specs.declared.stop.Stop.{Stop}
use Rattle.sc_lexemes.specs.declared.stop.Stop.TheVariants as stop
use Rattle.sc_parser.specs.GrammarFiles.{File}
use Rattle.sc_parser.specs.Limits.{Limits, no_limits, before, up_to}

-- the first n tokens are the same
pub record Shares (ts us : List Lexeme) (n : ℕ) : Type 0 where
  pub same : (k : ℕ) → k < n → slice_get ts k ≡ slice_get us k

-- some file that keeps these limits begins with the first n tokens
abbrev pub Begins : Limits → List Lexeme → ℕ → Type 0
Begins K ts n = (us : List Lexeme) × (ps : List Policy) × Shares ts us n × File K us ps

-- the kinds of limits
abbrev pub is_limit : Stop → Bool
is_limit stop.Unexpected = false
is_limit stop.NoMemory = false
is_limit _ = true

-- a limit is passed at token n: some file begins with the tokens up to it and passes none before, but none that keeps
-- this one too
pub record Passes (ts : List Lexeme) (f : Stop) (n : ℕ) : Type 0 where
  pub limit : is_limit f ≡ true
  pub within : n < length ts
  pub begins : Begins (before f n) ts (n + 1)
  pub kept : Begins (up_to f n) ts (n + 1) → ⊥

-- no limit is passed up to token n
abbrev pub PassesNone : List Lexeme → ℕ → Type 0
PassesNone ts n = (f : Stop) (m : ℕ) → m ≤ n → Passes ts f m → ⊥

-- token n is unexpected: some file begins with those before it, none with it too, and no limit is passed before
pub record IsUnexpected (ts : List Lexeme) (n : ℕ) : Type 0 where
  pub within : n < length ts
  pub begins : Begins no_limits ts n
  pub stops : Begins no_limits ts (n + 1) → ⊥
  pub limits : PassesNone ts n

-- the end is unexpected: some file begins with all the tokens, they are none themselves, and no limit is passed
pub record IsUnexpectedEnd (ts : List Lexeme) : Type 0 where
  pub begins : Begins no_limits ts (length ts)
  pub stops : (ps : List Policy) → File no_limits ts ps → ⊥
  pub limits : PassesNone ts (length ts)
