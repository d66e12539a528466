-- The version of the program.
use Rattle.std.specs.Prelude.{ℕ, List, codes}

-- the version of the program, and that it is proved, with which kit
abbrev pub version_line : List ℕ
version_line = codes "opcmds 1.0 (rattle-kit-13f, proved)\n"
