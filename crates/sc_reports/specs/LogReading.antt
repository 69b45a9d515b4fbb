-- How far a log is read.
use Rattle.std.specs.Prelude.{◌≡◌, ◌+◌, ◌≤◌, ◌<◌, ℕ, List, [], Option, Some, None, IfSome, length, ⊤}
use Rattle.sc_outside.specs.Pieces.{Left}
use Rattle.sc_checker.specs.Streams.{Checker, Checking, After}
use Rattle.sc_inputs.specs.Refusals.{Refusal, log_file, log_limit, read_fault, too_long}
use Rattle.sc_solver.specs.Theories.{HasRule, rule_clause}
use Rattle.sc_solver.specs.declared.rules.Rules.{Rules}

-- a piece of a log isn't read: the count rose, or more is left than may be
pub data RefusesPiece (left : Left) (room : ℕ) (rose : Type 0) : Refusal → Type 0 where
  piece_unread : rose → RefusesPiece left room rose (read_fault log_file)
  piece_long : IfSome left (λ told. IfSome told (λ rest. room < length rest))
      → RefusesPiece left room rose (too_long log_file)

-- what is held of a log, where it is checked
abbrev pub Held : Type 0
Held = Option (Checker Rules)

-- one problem is checked, or none
abbrev pub SameProblem : Held → Held → Type 0
SameProblem None None = ⊤
SameProblem (Some c) (Some d) = d.problem ≡ c.problem
SameProblem None (Some d) = ⊥
SameProblem (Some c) None = ⊥

-- this is held after a text, where a log is checked
abbrev pub HoldsAfter : Held → List ℕ → Checking → Type 0
HoldsAfter None text end = ⊤
HoldsAfter (Some c) text end = After (HasRule c.problem) (rule_clause c.problem) c.state text end

-- from the one what is held comes to what it comes to from the other, each with its text
abbrev pub ComesTo : Held → List ℕ → Held → List ℕ → Type 0
ComesTo before text now rest = (end : Checking) → HoldsAfter now rest end → HoldsAfter before text end

-- what is left, where that is told, leads from what is held to where the whole text leads from what was held, with so
-- much room up to the limit
pub record LeadsOn (before now : Held) (text : List ℕ) (room : ℕ) (left : Left) : Type 0 where
  pub rest : List ℕ
  pub is_left : left ≡ Some (Some rest)
  pub follows : ComesTo before text now rest
  pub counted : room + length text ≡ log_limit + length rest

abbrev pub IsOnTheWay : Left → Held → Held → ℕ → Left → Type 0
IsOnTheWay start before now room left = IfSome start (λ told. IfSome told (λ text. LeadsOn before now text room left))

-- the whole of a text that is short enough is read
pub record HasRead (before now : Held) (text : List ℕ) : Type 0 where
  pub short : length text ≤ log_limit
  pub reached : ComesTo before text now []

abbrev pub HasReadAll : Left → Held → Held → Type 0
HasReadAll start before now = IfSome start (λ told. IfSome told (HasRead before now))
