-- The policies of a file one by one, where what each call gives is known by an equation.
use Rattle.std.proofs.Common.{◌≡◌, ℕ, ◌<◌, ◌≤◌, List, [], ◌∷◌, ◌++◌, length, nat_lt, slice_get, Some, true, false, sym, arith}
use Rattle.std.proofs.lemmas.Option.{slice_get_past, slice_get-get_or}
use Rattle.sc_ast.specs.declared.policy.Policy.{Policy}
use Rattle.sc_lexemes.specs.declared.cursor.Cursor.{Cursor}
use Rattle.sc_lexemes.specs.declared.lexeme.Lexeme.{Lexeme}
use Rattle.sc_lexemes.specs.declared.stop.Stop.{Stop}
use Rattle.sc_lexemes.specs.declared.stop.Stop.TheVariants.{Unexpected, TooManyPolicies}
use Rattle.sc_lexemes.specs.Depth.{outside}
use Rattle.sc_lexemes.specs.Lexemes.{IsPolicyStart}
use Rattle.sc_lexemes.specs.Outcomes.{Outcome, read, halt}
use Rattle.sc_parser.specs.ReadsFiles.{ReadsPolicy, ReadsPolicies, file_ends, too_many, no_policy, policy_halts, more_policies}

some_token : (ts : List Lexeme) (i : ℕ) → i < length ts → (l : Lexeme) × (slice_get ts i ≡ Some l)
some_token [] i lt = absurd (omega (arith, lt))
some_token (t ∷ ts) i lt = (_, slice_get-get_or (t ∷ ts) i t lt)

pub ended : (ts : List Lexeme) (i : ℕ) (ps : List Policy) → length ts ≤ i → ReadsPolicies ts i ps (read ps (outside i))
ended ts i ps le = file_ends (slice_get_past ts i le)

pub refused : (ts : List Lexeme) (i : ℕ) (ps : List Policy) → i < length ts → (IsPolicyStart ts i → ⊥) → ReadsPolicies ts i ps (halt Unexpected i)
refused ts i ps lt n = no_policy (some_token ts i lt).1 n

pub spent : (ts : List Lexeme) (i n : ℕ) (ps : List Policy) → IsPolicyStart ts i → n ≡ length ps → false ≡ nat_lt n 10000 → ReadsPolicies ts i ps (halt TooManyPolicies i)
spent ts i n ps start count room = too_many start (rw count at (sym room))

pub stopped : (ts : List Lexeme) (i n m : ℕ) (s : Cursor) (ps : List Policy) (f : Stop) → IsPolicyStart ts i → n ≡ length ps → true ≡ nat_lt n 10000 → s ≡ outside i → ReadsPolicy ts s (halt f m) → ReadsPolicies ts i ps (halt f m)
stopped ts i n m s ps f start count room here p =
    let p' : ReadsPolicy ts (outside i) (halt f m) = rw here at p in
    policy_halts start (rw count at (sym room)) p'

pub gone_on : (ts : List Lexeme) (i n : ℕ) (s t : Cursor) (ps qs : List Policy) (x : Policy) (o : Outcome (List Policy)) → IsPolicyStart ts i → n ≡ length ps → true ≡ nat_lt n 10000 → s ≡ outside i → ReadsPolicy ts s (read x t) → qs ≡ ps ++ x ∷ [] → ReadsPolicies ts t.at qs o → ReadsPolicies ts i ps o
gone_on ts i n s t ps qs x o start count room here p is more =
    let p' : ReadsPolicy ts (outside i) (read x t) = rw here at p in
    let more' : ReadsPolicies ts t.at (ps ++ x ∷ []) o = rw is at more in
    more_policies start (rw count at (sym room)) p' more'
