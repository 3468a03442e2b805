-- Numbers that are written in digits.
use Rattle.std.specs.Prelude.{ℕ, List, Option, Some, None, ◌&&◌, nat_le, if◌then◌else◌, length}
use Rattle.std.specs.List.{list_all}
use Rattle.std.specs.Char.{is_ascii_digit, is_ascii_hexdigit}
use Rattle.std.specs.Str.Parse.{digits_value}

-- the number of 1 to 16 hexadecimal digits
abbrev pub hexadecimal_of : List ℕ → Option ℕ
hexadecimal_of word =
    if nat_le 1 (length word) && nat_le (length word) 16 && list_all is_ascii_hexdigit word
    then Some (digits_value 16 word) else None

-- the number of 1 to 9 decimal digits
abbrev pub decimal_of : List ℕ → Option ℕ
decimal_of word =
    if nat_le 1 (length word) && nat_le (length word) 9 && list_all is_ascii_digit word
    then Some (digits_value 10 word) else None
