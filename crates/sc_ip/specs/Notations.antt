-- The two notations of an address's groups.
use Rattle.std.specs.Prelude.{◌≡◌, ℕ, ◌+◌, ◌<◌, List, length}
use Rattle.std.specs.Int.Digits.{number_from_digits, number_from_digits_after}
use Rattle.sc_ip.specs.IpText.{IsDecimalGroup, IsHexadecimalGroup, AreGroups}
use Rattle.sc_ip.specs.declared.notation.Notation.{Notation}
use Rattle.sc_ip.specs.declared.notation.Notation.TheVariants.{Decimal, Hexadecimal}

-- a dot, or a colon
abbrev pub separator_of : Notation → ℕ
separator_of Decimal = 46
separator_of Hexadecimal = 58

-- one more than the greatest number of a group
abbrev pub base_of : Notation → ℕ
base_of Decimal = 256
base_of Hexadecimal = 65536

abbrev pub IsGroupOf : Notation → List ℕ → ℕ → Type 0
IsGroupOf Decimal = IsDecimalGroup
IsGroupOf Hexadecimal = IsHexadecimalGroup

abbrev pub AreGroupsOf : Notation → List ℕ → List ℕ → Type 0
AreGroupsOf notation = AreGroups (separator_of notation) (IsGroupOf notation)

-- what groups leave, one by one, of the number so far
pub record Adds (notation : Notation) (text : List ℕ) (value count new_value new_count : ℕ) : Type 0 where
  pub numbers : List ℕ
  pub groups : AreGroupsOf notation text numbers
  pub some : 0 < length numbers
  pub value_is : new_value ≡ number_from_digits_after (base_of notation) value numbers
  pub count_is : new_count ≡ count + length numbers

-- the number that a text of groups, perhaps none, stands for, and how many they are
pub record Counts (notation : Notation) (text : List ℕ) (value count : ℕ) : Type 0 where
  pub numbers : List ℕ
  pub groups : AreGroupsOf notation text numbers
  pub value_is : value ≡ number_from_digits (base_of notation) numbers
  pub count_is : count ≡ length numbers
