-- The URL at which clients find the service `decide`.
use Rattle.std.specs.Prelude.{◌&&◌, ◌==◌, ℕ, Bool, List, Option, length, nat_le, not}
use Rattle.std.specs.List.{list_all}
use Rattle.opc_cli_words.specs.Checks.{Check}
use Rattle.opc_cli_words.specs.Services.{is_right}
use Rattle.opc_cli_words.specs.declared.mistake.Mistake.TheVariants as wrong
use Rattle.opc_cli_words.specs.declared.mistake.Opt.TheVariants as opt

-- printable, and no quote or backslash, so that it stands for itself in a text of JSON
abbrev pub is_url_character : ℕ → Bool
is_url_character c = nat_le 0x21 c && nat_le c 0x7E && not (c == 0x22) && not (c == 0x5C)

-- 1 to 200 of them
abbrev pub is_url : List ℕ → Bool
is_url text = not (length text == 0) && nat_le (length text) 200 && list_all is_url_character text

abbrev pub base_check : (base : Option (List ℕ)) → Check
base_check base = (wrong.Unread opt.Base, is_right is_url base)
