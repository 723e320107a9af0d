-- For contracts of private functions: the kinds in three parts, in the order of their tags.
-- Assumes nothing.
use Rattle.std.specs.Prelude.{List, take, drop}
use Rattle.kinds.specs.Kinds.{Kind, kinds}

-- below 0x1000
abbrev pub commands : List Kind
commands = take 8 kinds

-- below 0x1200
abbrev pub replies : List Kind
replies = take 7 (drop 8 kinds)

abbrev pub notices : List Kind
notices = drop 15 kinds
