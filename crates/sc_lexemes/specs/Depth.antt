-- How deep a token lies: how many expressions enclose it, and how many constructs are open at it. Open are the
-- expressions that enclose it, the operators, prefixes, accesses and parts of `has` that each of these already holds
-- at its own level, and the earlier clauses of its policy. Both are counted up from where a policy begins.
use Rattle.std.specs.Prelude.{◌≡◌, ℕ, ◌+◌, ◌-◌, ◌^◌, ◌&&◌, Bool, min, nat_le}
use Rattle.sc_lexemes.specs.declared.cursor.Cursor.{Cursor}

-- at most 100 expressions enclose a token, and at most 1,000 constructs are open at it
abbrev pub fits : Cursor → Bool
fits s = nat_le s.enclosing 100 && nat_le s.depth 1000

-- one more. Counts are numbers of 64 bits: one that would pass the greatest of these stays there, far past both limits
abbrev pub one_more : ℕ → ℕ
one_more n = min (n + 1) (2 ^ 64 - 1)

-- where a policy begins, outside all expressions
abbrev pub outside : ℕ → Cursor
outside i = record { at = i; enclosing = 0; depth = 0 }

-- after a token that doesn't count
abbrev pub next : Cursor → Cursor
next s = record { at = s.at + 1; enclosing = s.enclosing; depth = s.depth }

-- after an operator, a prefix, a dot, an opening bracket of an access, `has`, `like` or `is`
abbrev pub past : Cursor → Cursor
past s = record { at = s.at + 1; enclosing = s.enclosing; depth = one_more s.depth }

-- inside an expression that begins here
abbrev pub inside : Cursor → Cursor
inside s = record { at = s.at; enclosing = one_more s.enclosing; depth = one_more s.depth }

-- outside again, where the inner expression was read up to the second
abbrev pub back : Cursor → Cursor → Cursor
back s t = record { at = t.at; enclosing = s.enclosing; depth = s.depth }

-- behind a clause of a policy
abbrev pub deeper : Cursor → Cursor
deeper s = record { at = s.at; enclosing = s.enclosing; depth = one_more s.depth }

-- the cursor counts a token that e expressions enclose and at which d constructs are open
pub record Counts (s : Cursor) (e d : ℕ) : Type 0 where
  pub enclosing : s.enclosing ≡ min e (2 ^ 64 - 1)
  pub depth : s.depth ≡ min d (2 ^ 64 - 1)
