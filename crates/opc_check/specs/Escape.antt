-- Characters that a line shows as escapes.
use Rattle.std.specs.Prelude.{◌&&◌, ◌||◌, ◌==◌, ℕ, Bool, nat_le}
use Rattle.std.specs.Char.{is_control}

abbrev pub is_within : (low high code : ℕ) → Bool
is_within low high code = nat_le low code && nat_le code high

-- Characters that have no width of their own, and those that turn the direction of a text or end its line: the soft
-- hyphen, the marks of Arabic and Mongolian, the zero-width ones, separators, directions, operators, the byte order
-- mark, annotations and tags.
abbrev pub is_format : ℕ → Bool
is_format code =
    code == 0xAD || (code == 0x61C || (code == 0x180E || (is_within 0x200B 0x200F code || (is_within 0x2028 0x202E code
    || (is_within 0x2060 0x206F code || (code == 0xFEFF || (is_within 0xFFF9 0xFFFB code
    || is_within 0xE0000 0xE007F code)))))))

-- It would end a line, or a terminal would act on it, or not show it.
abbrev pub is_unprintable : ℕ → Bool
is_unprintable code = is_control code || is_format code
