-- Where the tokens of a file stand.
use Rattle.std.specs.Prelude.{◌≡◌, ℕ, ◌-◌, ◌<◌, ◌≤◌, List, length, take, drop, All, AllPairs}
use Rattle.std.specs.Str.{chars}
use Rattle.std.specs.declared.option.Option.TheVariants.{Some}
use Rattle.sc_lexer.specs.declared.token.Token.{Token}
use Rattle.sc_lexer.specs.declared.token.Kind.TheVariants.{Str}
use Rattle.sc_lexer.specs.Tokens.{kind_of}
use Rattle.sc_lexer.specs.Pieces.{Spells, quoted, pieces_of}

-- the bytes of a file from the start of a token's span to its end
abbrev pub text_of : List ℕ → Token → List ℕ
text_of bytes t = take (t.span.end - t.span.start) (drop t.span.start bytes)

-- each token of a file has some bytes, stands within the file and has a text of its kind; each string spells its
-- pieces; and each token ends before the later ones
pub record AreTokens (bytes : List ℕ) (ts : List Token) : Type 0 where
  pub some : All (λ t. t.span.start < t.span.end) ts
  pub within : All (λ t. t.span.end ≤ length bytes) ts
  pub kinds : All (λ t. kind_of (text_of bytes t) ≡ Some t.kind) ts
  pub strings : All (λ t. t.kind ≡ Str → Spells (chars (quoted (text_of bytes t))) (pieces_of (text_of bytes t))) ts
  pub apart : AllPairs (λ t u. t.span.end ≤ u.span.start) ts
