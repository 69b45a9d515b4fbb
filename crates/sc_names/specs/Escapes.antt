-- The text of a uid, in which each character that isn't printed as it stands is escaped. A path has no such character.
use Rattle.std.specs.Prelude.{ℕ, ◌/◌, ◌%◌, List, [], ◌∷◌, ◌++◌, ◌==◌, ◌||◌, nat_lt, if◌then◌else◌, codes}
use Rattle.std.specs.List.{flat_map}
use Rattle.std.specs.Char.{digit_char}
use Rattle.sc_names.specs.declared.uid.Uid.{Uid}

-- a number below 256 in hexadecimal digits, in lower case and without leading zeros
abbrev pub hex : ℕ → List ℕ
hex n = if nat_lt n 16 then digit_char n ∷ [] else digit_char (n / 16) ∷ digit_char (n % 16) ∷ []

-- `\\`, `\"`, `\n`, `\r`, `\t`, `\0`, or `\u{hex}` for other bytes below 32 and for 127; any other byte is itself
unfoldable pub escaped : ℕ → List ℕ
escaped b =
    if b == 92 then codes "\\\\"
    else (if b == 34 then codes "\\\""
    else (if b == 10 then codes "\\n"
    else (if b == 13 then codes "\\r"
    else (if b == 9 then codes "\\t"
    else (if b == 0 then codes "\\0"
    else (if nat_lt b 32 || (b == 127) then codes "\\u{" ++ hex b ++ codes "}"
    else b ∷ []))))))

abbrev pub escaped_text : List ℕ → List ℕ
escaped_text = flat_map escaped

-- `Type::"id"`
unfoldable pub uid_text : Uid → List ℕ
uid_text uid = escaped_text uid.type_name ++ codes "::\"" ++ escaped_text uid.id ++ codes "\""
