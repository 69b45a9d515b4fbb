-- The next token, or why there is none.
use Rattle.std.proofs.Common.{◌≡◌, ◌≢◌, ℕ, ◌+◌, ◌<◌, List, length, take, drop, Bool, subst, arith}
use Rattle.std.proofs.lemmas.List.{length-take-le}
use Rattle.sc_lexer.specs.declared.token.Kind.{Kind}
use Rattle.sc_lexer.specs.declared.token.Kind.TheVariants.{Str}
use Rattle.sc_lexer.specs.declared.token.LexFault.TheVariants.{BadToken, BadEscape}
use Rattle.sc_lexer.specs.Tokens.{BeginsNoToken}
use Rattle.sc_lexer.specs.Escapes.{IsSpelled, IsBadEscape}
use Rattle.sc_lexer.specs.Fronts.{IsFront, IsNext, Stops, lacks_token, lacks_escape}

pub IsNext_other : (like : Bool) (bytes : List ℕ) (kind : Kind) (len : ℕ) → IsFront bytes kind len → kind ≢ Str → IsNext like bytes kind len
IsNext_other like bytes kind len f h = record { front = f; escapes = λ e. absurd (h e) }

pub IsNext_string : (like : Bool) (bytes : List ℕ) (kind : Kind) (len : ℕ) → IsFront bytes kind len → IsSpelled like (take len bytes) → IsNext like bytes kind len
IsNext_string like bytes kind len f s = record { front = f; escapes = λ e. s }

pub Stops_token : (like : Bool) (bytes : List ℕ) (at : ℕ) → BeginsNoToken bytes → Stops like bytes at (BadToken at)
Stops_token like bytes at h = lacks_token h

pub Stops_escape : (like : Bool) (bytes : List ℕ) (at len escape : ℕ) (kind : Kind) → IsFront bytes kind len → kind ≡ Str → escape < length (take len bytes)
    → IsBadEscape like (take len bytes) (take escape (take len bytes)) (drop (escape + 1) (take len bytes)) → Stops like bytes at (BadEscape (at + escape))
Stops_escape like bytes at len escape kind f e l b =
    let front : length (take escape (take len bytes)) ≡ escape = length-take-le escape (take len bytes) (omega arith) in
    subst (λ (n : ℕ). Stops like bytes at (BadEscape (at + n))) front (lacks_escape (take len bytes) (drop len bytes) (take escape (take len bytes)) (drop (escape + 1) (take len bytes)) (rw (← e) f.begins) b)
