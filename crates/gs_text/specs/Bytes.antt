-- The classes of bytes. White is the same in all formats; words of Verilog are made of the bytes of IEEE 1364-2005's
-- simple identifiers.
use Rattle.std.specs.Prelude.{ℕ, Bool, ◌==◌, ◌||◌, ◌&&◌, ◌^◌, nat_le}

-- how many bytes a text may have, 256 MiB
abbrev pub max_text : ℕ
max_text = 2 ^ 28

-- space, tab, carriage return, form feed and newline
abbrev pub is_white : ℕ → Bool
is_white c = c == 32 || c == 9 || c == 13 || c == 12 || c == 10

abbrev pub is_digit : ℕ → Bool
is_digit c = nat_le 48 c && nat_le c 57

-- letters, digits, underscore and dollar
abbrev pub is_word_byte : ℕ → Bool
is_word_byte c =
    nat_le 97 c && nat_le c 122 || nat_le 65 c && nat_le c 90 || is_digit c || c == 95 || c == 36

-- parentheses, braces, comma, semicolon and colon
abbrev pub is_liberty_mark : ℕ → Bool
is_liberty_mark c = c == 40 || c == 41 || c == 123 || c == 125 || c == 44 || c == 59 || c == 58

-- brackets and braces
abbrev pub is_sdc_mark : ℕ → Bool
is_sdc_mark c = c == 91 || c == 93 || c == 123 || c == 125
