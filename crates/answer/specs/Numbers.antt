-- The refusals by name, and the one list of those that are taken.
-- Assumes nothing.
use Rattle.std.specs.Prelude.{List, [], ◌∷◌, ◌++◌, Bool, false, ◌||◌, ℕ, eqb}

-- file or wrapper under 16 bytes
abbrev pub SHORT : ℕ
SHORT = 1

-- letters wrong
abbrev pub MAGIC : ℕ
MAGIC = 2

-- file version; in wrappers a pair other than 1, 0 after either tag
abbrev pub VERSION : ℕ
VERSION = 3

-- endianness tag not 1
abbrev pub ENDIAN : ℕ
ENDIAN = 4

-- reserved number or known section's flags not 0
abbrev pub RESERVED : ℕ
RESERVED = 5

-- file or wrapper too long
abbrev pub SIZE : ℕ
SIZE = 6

-- section header or payload passes the end
abbrev pub CUT : ℕ
CUT = 7

-- 65th section
abbrev pub MANY : ℕ
MANY = 8

-- known id again, CPU with CPUS, MMU with MMUS
abbrev pub TWICE : ℕ
TWICE = 9

-- version of a section not taken
abbrev pub SECVER : ℕ
SECVER = 10

-- field doesn't fit; state length wrong; bytes left over
abbrev pub SHAPE : ℕ
SHAPE = 11

-- count or length over its bound; message too long
abbrev pub LIMIT : ℕ
LIMIT = 12

-- key again
abbrev pub KEY : ℕ
KEY = 13

-- not UTF-8
abbrev pub TEXT : ℕ
TEXT = 14

-- listed byte or number outside its values
abbrev pub VALUE : ℕ
VALUE = 15

-- output shorter than needed
abbrev pub ROOM : ℕ
ROOM = 16

-- added key is there
abbrev pub HAVE : ℕ
HAVE = 17

-- unknown tag
abbrev pub TAG : ℕ
TAG = 18

-- 19 was ADDRESS, which no input gave (request 5 of document 02): nobody gives it any more, and it is not given to another.

-- The rings' own, of document 02's request 1.

-- broken region
abbrev pub REGION : ℕ
REGION = 20

-- record above half the capacity
abbrev pub BIG : ℕ
BIG = 21

-- bytes in use and those needed exceed the capacity
abbrev pub FULL : ℕ
FULL = 22

-- nothing is committed
abbrev pub EMPTY : ℕ
EMPTY = 23

-- committed record runs past commit or the ring's end, or a skip reaches commit
abbrev pub RECORD : ℕ
RECORD = 24

-- What only a removal or a replacement gives, of its request 3.

-- entry to be changed isn't there
abbrev pub ABSENT : ℕ
ABSENT = 25

-- What only an add of many devices gives, of its request 8.

-- an entry's part lies outside the second buffer
abbrev pub PAYLOAD : ℕ
PAYLOAD = 26

-- What only an edit beside an untrue card gives, of its request 12.

-- a number of the card leaves its bounds
abbrev pub CARD : ℕ
CARD = 28

-- And the rings' last.

-- cursors given out of turn
abbrev pub TURN : ℕ
TURN = 29

-- ---- which of them a call gives: a number is added or removed in one line

-- a fault of an input: of a file, a wrapper or a message
abbrev pub faults : List ℕ
faults = SHORT ∷ MAGIC ∷ VERSION ∷ ENDIAN ∷ RESERVED ∷ SIZE ∷ CUT ∷ MANY ∷ TWICE ∷ SECVER ∷ SHAPE ∷ LIMIT ∷ KEY ∷ TEXT ∷ VALUE ∷ TAG ∷ []

-- what only a call that writes gives
abbrev pub of_writing : List ℕ
of_writing = ROOM ∷ HAVE ∷ ABSENT ∷ PAYLOAD ∷ CARD ∷ []

-- what only a ring gives
abbrev pub of_rings : List ℕ
of_rings = REGION ∷ BIG ∷ FULL ∷ EMPTY ∷ RECORD ∷ TURN ∷ []

-- all numbers that are taken; no call refuses with another
abbrev pub numbers : List ℕ
numbers = faults ++ (of_writing ++ of_rings)

abbrev pub is_among : List ℕ → ℕ → Bool
is_among [] n = false
is_among (m ∷ l) n = eqb n m || is_among l n

abbrev pub is_number : ℕ → Bool
is_number = is_among numbers

abbrev pub is_fault : ℕ → Bool
is_fault = is_among faults
