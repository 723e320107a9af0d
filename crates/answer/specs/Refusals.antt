-- The number of each refusal of the code, from the one table of them.
-- Assumes nothing.
use Rattle.std.specs.Prelude.{ℕ}
use Rattle.answer.specs.declared.Refusal.{Refusal}
use Rattle.answer.specs.declared.Refusal.TheVariants.{Short, Magic, Version, Endian, Reserved, Size, Cut, Many, Twice, Secver, Shape, Limit, Key, Text, Value, Room, Have, Tag, Region, Big, Full, Empty, Record, Absent, Payload, Card, Turn}
use Rattle.answer.specs.Numbers.{SHORT, MAGIC, VERSION, ENDIAN, RESERVED, SIZE, CUT, MANY, TWICE, SECVER, SHAPE, LIMIT, KEY, TEXT, VALUE, ROOM, HAVE, TAG, REGION, BIG, FULL, EMPTY, RECORD, ABSENT, PAYLOAD, CARD, TURN}

abbrev pub number_of : Refusal → ℕ
number_of Short = SHORT
number_of Magic = MAGIC
number_of Version = VERSION
number_of Endian = ENDIAN
number_of Reserved = RESERVED
number_of Size = SIZE
number_of Cut = CUT
number_of Many = MANY
number_of Twice = TWICE
number_of Secver = SECVER
number_of Shape = SHAPE
number_of Limit = LIMIT
number_of Key = KEY
number_of Text = TEXT
number_of Value = VALUE
number_of Room = ROOM
number_of Have = HAVE
number_of Tag = TAG
number_of Region = REGION
number_of Big = BIG
number_of Full = FULL
number_of Empty = EMPTY
number_of Record = RECORD
number_of Absent = ABSENT
number_of Payload = PAYLOAD
number_of Card = CARD
number_of Turn = TURN
