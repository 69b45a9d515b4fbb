-- What comes of a program over a list of tokens, where the limits K are kept.
use Rattle.std.specs.Prelude.{◌≡◌, ℕ, List, slice_get, Bool, true, false}
use Rattle.std.specs.declared.option.Option.TheVariants.{Some}
use Rattle.sc_lexemes.specs.declared.cursor.Cursor.{Cursor}
use Rattle.sc_lexemes.specs.declared.lexeme.Lexeme.{Lexeme}
use Rattle.sc_lexemes.specs.declared.stop.Stop.{Stop}
use Rattle.sc_lexemes.specs.declared.stop.Stop.TheVariants as stop
use Rattle.sc_parser.specs.Faults.{is_limit}
use Rattle.sc_parser.specs.Limits.{Limits, Holds}
use Rattle.sc_lexemes.specs.Outcomes.{Outcome, read, halt}
use Rattle.sc_parser.proofs.Productions.{production}
use Rattle.sc_parser.proofs.Sorts.{Sort, Of}
use Rattle.sc_parser.proofs.Nonterminals.{Nonterminal}
use Rattle.sc_parser.proofs.Tests.{Test, Found, Meets}
use Rattle.sc_parser.proofs.Programs.{Step, step, Way, enter, leave, Program, done, fail, look, go, guard, call}

pub data Runs (K : Limits) (ts : List Lexeme) : (c : Sort) → Program c → Cursor → Outcome (Of c) → Type 0 where
  does : {c : Sort} {x : Of c} {s : Cursor} → Runs K ts c (done x) s (read x s)
  fails : {c : Sort} {s : Cursor} → Runs K ts c fail s (halt stop.Unexpected s.at)
  finds : {c : Sort} {q : Test} {k : Found q → Program c} {p : Program c} {s : Cursor} {o : Outcome (Of c)} (x : Found q) → Meets ts s.at q x → Runs K ts c (k x) s o → Runs K ts c (look q k p) s o
  lacks : {c : Sort} {q : Test} {k : Found q → Program c} {p : Program c} {s : Cursor} {o : Outcome (Of c)} → ((x : Found q) → Meets ts s.at q x → ⊥) → Runs K ts c p s o → Runs K ts c (look q k p) s o
  goes : {c : Sort} {g : Step} {p : Program c} {s : Cursor} {l : Lexeme} {o : Outcome (Of c)} → slice_get ts s.at ≡ Some l → Runs K ts c p (step g s) o → Runs K ts c (go g p) s o
  keeps : {c : Sort} {f : Stop} {test : Cursor → Bool} {p : Program c} {s : Cursor} {o : Outcome (Of c)} → Holds K f s.at (test s) → Runs K ts c p s o → Runs K ts c (guard f test p) s o
  breaks : {c : Sort} {f : Stop} {test : Cursor → Bool} {p : Program c} {s : Cursor} {l : Lexeme} → is_limit f ≡ true → slice_get ts s.at ≡ Some l → K f s.at ≡ true → test s ≡ false → Runs K ts c (guard f test p) s (halt f s.at)
  calls : {c d : Sort} {w : Way} {m : Nonterminal d} {k : Of d → Program c} {s t : Cursor} {x : Of d} {o : Outcome (Of c)} → Runs K ts d (production m) (enter w s) (read x t) → Runs K ts c (k x) (leave w s t) o → Runs K ts c (call w m k) s o
  halts : {c d : Sort} {w : Way} {m : Nonterminal d} {k : Of d → Program c} {s : Cursor} {f : Stop} {n : ℕ} → Runs K ts d (production m) (enter w s) (halt f n) → Runs K ts c (call w m k) s (halt f n)
