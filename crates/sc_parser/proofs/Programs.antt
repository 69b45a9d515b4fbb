-- Reading as a program, so that a law is proved once for all productions. A step looks at one token, goes past it, asks
-- whether a limit is kept, or reads another nonterminal.
use Rattle.std.specs.Prelude.{Bool}
use Rattle.sc_lexemes.specs.declared.cursor.Cursor.{Cursor}
use Rattle.sc_lexemes.specs.declared.stop.Stop.{Stop}
use Rattle.sc_lexemes.specs.Depth.{next, past, inside, back, deeper, outside}
use Rattle.sc_parser.proofs.Sorts.{Sort, Of}
use Rattle.sc_parser.proofs.Nonterminals.{Nonterminal}
use Rattle.sc_parser.proofs.Tests.{Test, Found}

-- how a cursor goes past a token
pub data Step : Type 0 where
  to_next to_past : Step

abbrev pub step : Step → Cursor → Cursor
step to_next s = next s
step to_past s = past s

-- how a nonterminal is read within another one
pub data Way : Type 0 where
  here within as_clause as_policy : Way

abbrev pub enter : Way → Cursor → Cursor
enter here s = s
enter within s = inside s
enter as_clause s = s
enter as_policy s = s

abbrev pub leave : Way → Cursor → Cursor → Cursor
leave here s t = t
leave within s t = back s t
leave as_clause s t = deeper t
leave as_policy s t = outside t.at

pub data Program (c : Sort) : Type 0 where
  done : Of c → Program c
  fail : Program c
  look : (q : Test) → (Found q → Program c) → Program c → Program c
  go : Step → Program c → Program c
  guard : Stop → (Cursor → Bool) → Program c → Program c
  call : Way → {d : Sort} → Nonterminal d → (Of d → Program c) → Program c
