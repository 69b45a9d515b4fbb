-- The limits within which a file is read, and which of them are kept.
use Rattle.std.specs.Prelude.{◌≡◌, ℕ, ◌+◌, ◌||◌, ◌&&◌, ◌==◌, nat_lt, Bool, true, false}
use Rattle.sc_lexemes.specs.declared.cursor.Cursor.{Cursor}
use Rattle.sc_lexemes.specs.declared.stop.Stop.{Stop}
use Rattle.sc_lexemes.specs.declared.stop.Stop.TheVariants as stop
use Rattle.sc_lexemes.specs.Depth.{fits}

-- whether the limit of this kind is kept at the token of this number
abbrev pub Limits : Type 0
Limits = Stop → ℕ → Bool

-- where the limit is kept, what it asks holds
abbrev pub Holds : Limits → Stop → ℕ → Bool → Type 0
Holds K f n b = K f n ≡ true → b ≡ true

-- the token lies within the limits on depth
abbrev pub Fits : Limits → Cursor → Type 0
Fits K s = Holds K stop.TooDeep s.at (fits s)

-- all are kept
abbrev pub all_limits : Limits
all_limits f n = true

-- none is
abbrev pub no_limits : Limits
no_limits f n = false

-- the order of limits at one token
abbrev pub rank : Stop → ℕ
rank stop.TooManyPolicies = 1
rank stop.Template = 2
rank stop.TooDeep = 3
rank stop.IntRange = 4
rank stop.DuplicateKey = 5
rank stop.BadCall = 6
rank stop.Unexpected = 7
rank stop.NoMemory = 8

-- the limits that come before this one: at tokens before it, and at the token the earlier kinds
abbrev pub before : Stop → ℕ → Limits
before f n g m = nat_lt m n || ((m == n) && nat_lt (rank g) (rank f))

-- and this one too
abbrev pub up_to : Stop → ℕ → Limits
up_to f n g m = nat_lt m n || ((m == n) && nat_lt (rank g) (rank f + 1))
