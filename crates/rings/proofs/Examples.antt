-- A region of one queue with a ring of 64 bytes at 32, its cursors about to wrap, and its first calls. By computation.
-- Assumes nothing.
use Rattle.std.proofs.Common.{◌≡◌, ℕ, zero, suc, Bool, true, ◌&&◌, ltb, List, [], ◌∷◌, ◌++◌, take, replicate, negsuc, refl, arith, ltb-true}
use Rattle.answer.specs.Numbers.{REGION, BIG, FULL, EMPTY, RECORD, TURN}
use Rattle.answer.specs.Outcome.{taken, refused, each}
use Rattle.answer.specs.Calls.{asked}
use Rattle.answer.proofs.Checks.{and_true}
use Rattle.wire.specs.Numbers.{le, le_at, bytes_of, Bytes}
use Rattle.wire.specs.Parts.{splice}
use Rattle.region.specs.Region.{ahead, is_capacity, descriptor_checks, ring_checks, table_checks, region_checks, queue_checks}
use Rattle.region.specs.Report.{signed_of, as_cursors, report_call}
use Rattle.region.proofs.Taken.{region_taken}
use Rattle.rings.specs.Records.{skip}
use Rattle.rings.specs.Calls.{Stores, stored, reserve_call, fill_stores, fill_call, commit_call, skip_at, take_in, take_call}
use Rattle.rings.specs.Use.{firstly, Used, begins, steps, reserves, fills, stops, commits, takes, Drains}
use Rattle.rings.proofs.Keeps.{fill_stores_within}
use Rattle.rings.proofs.Using.{comes}

-- head, reserve and commit at p
unfoldable pub one : ℕ → List ℕ
one p =
    bytes_of 4 0x43504941 ++ (bytes_of 4 1 ++ (bytes_of 4 112 ++ (bytes_of 4 1
    ++ (bytes_of 4 0 ++ (bytes_of 4 32 ++ (bytes_of 4 64 ++ (bytes_of 4 0
    ++ (bytes_of 4 p ++ (bytes_of 4 p ++ (bytes_of 4 p ++ (bytes_of 4 64 ++ replicate 64 0)))))))))))

-- 8 bytes are left before the end of the data, and 8 before the cursors wrap
abbrev b₀ : List ℕ
b₀ = one 4294967288

-- the message
abbrev m : List ℕ
m = 1 ∷ 2 ∷ 3 ∷ 4 ∷ 5 ∷ []

-- after its reserve, fill and commit
abbrev b₁ : List ℕ
b₁ = splice 36 (12 ∷ 0 ∷ 0 ∷ 0 ∷ []) b₀

abbrev b₂ : List ℕ
b₂ = splice 48 (5 ∷ 0 ∷ 0 ∷ 0 ∷ 1 ∷ 2 ∷ 3 ∷ 4 ∷ 5 ∷ 0 ∷ 0 ∷ 0 ∷ []) (splice 104 (255 ∷ 255 ∷ 255 ∷ 255 ∷ []) b₁)

abbrev b₃ : List ℕ
b₃ = splice 40 (12 ∷ 0 ∷ 0 ∷ 0 ∷ []) b₂

pub record Examples : Type 0 where
  pub whole : asked (region_checks b₀) ≡ taken tt
  pub lacks : asked (queue_checks b₀ 1) ≡ refused REGION 12
  pub short : asked (region_checks (take 15 b₀)) ≡ refused REGION 0
  pub cut : asked (region_checks (take 111 b₀)) ≡ refused REGION 8
  pub odd : asked (region_checks (one 4294967286)) ≡ refused REGION 32
  -- as hosts show it: -8
  pub shows : as_cursors (report_call b₀ 0) ≡ record { number = 0; place = 0; head = negsuc 7; reserve = negsuc 7; commit = negsuc 7 }
  -- a payload of 5 takes 12 bytes, so it skips 8, and the cursor wraps to 12
  pub reserve : reserve_call b₀ 0 5 ≡ taken ((36, 12 ∷ 0 ∷ 0 ∷ 0 ∷ []) ∷ [], (4294967288, 12))
  pub big : reserve_call b₀ 0 29 ≡ refused BIG 0
  pub half : reserve_call b₀ 0 28 ≡ taken ((36, 32 ∷ 0 ∷ 0 ∷ 0 ∷ []) ∷ [], (4294967288, 32))
  pub no_room : reserve_call (stored ((36, 32 ∷ 0 ∷ 0 ∷ 0 ∷ []) ∷ []) b₀) 0 21 ≡ refused FULL 0
  pub fill : fill_call b₁ 0 4294967288 12 m ≡ taken ((104, 255 ∷ 255 ∷ 255 ∷ 255 ∷ []) ∷ (48, 5 ∷ 0 ∷ 0 ∷ 0 ∷ 1 ∷ 2 ∷ 3 ∷ 4 ∷ 5 ∷ 0 ∷ 0 ∷ 0 ∷ []) ∷ [], tt)
  -- a pair for 5 bytes takes 5 to 8
  pub other_pair : fill_call b₁ 0 4294967288 12 (m ++ m) ≡ refused TURN 0
  pub nothing_yet : take_call b₂ 0 ≡ refused EMPTY 0
  pub commit : commit_call b₂ 0 4294967288 12 ≡ taken ((40, 12 ∷ 0 ∷ 0 ∷ 0 ∷ []) ∷ [], tt)
  pub not_first : commit_call b₂ 0 0 12 ≡ refused TURN 0
  -- the payload stands at 52, behind its length at 48
  pub take : take_call b₃ 0 ≡ taken ((32, 12 ∷ 0 ∷ 0 ∷ 0 ∷ []) ∷ [], (52, 5))
  -- a committed record whose length was broken
  pub broken : take_call (splice 48 (9 ∷ []) b₃) 0 ≡ refused RECORD 0

pub examples : Examples
unfolding one table_checks each descriptor_checks ring_checks is_capacity ahead le_at le bytes_of splice signed_of skip reserve_call fill_stores fill_call commit_call skip_at take_in take_call
examples = record {
  whole = refl;
  lacks = refl;
  short = refl;
  cut = refl;
  odd = refl;
  shows = refl;
  reserve = refl;
  big = refl;
  half = refl;
  no_room = refl;
  fill = refl;
  other_pair = refl;
  nothing_yet = refl;
  commit = refl;
  not_first = refl;
  take = refl;
  broken = refl;
}

-- ---- the promise is not empty: these calls are a use of the ring, and one message is there to be taken

below : List ℕ → Bool
below [] = true
below (x ∷ xs) = ltb x 256 && below xs

bytes-of : (l : List ℕ) → below l ≡ true → Bytes l
unfolding below
bytes-of [] h i = omega arith
bytes-of (x ∷ xs) h zero = ltb-true x 256 (and_true (ltb x 256) (below xs) h).0
bytes-of (x ∷ xs) h (suc i) = bytes-of xs (and_true (ltb x 256) (below xs) h).1 i

pub begun : Used 0 b₀ [] []
unfolding one below le_at le bytes_of
begun = begins (bytes-of b₀ refl) ((region_taken b₀).0 examples.whole) (omega arith) (refl, refl)

pub sent : Used 0 b₃ (m ∷ []) []
sent = steps (steps (steps begun (reserves 5 examples.reserve)) (fills [] _ [] m examples.fill)) (commits refl examples.commit)

pub found : Drains 0 b₃ (m ∷ [])
found = comes (m ∷ []) sent

-- ---- a life of this ring: two pairs are open at once, the later one is filled first, a fill is stopped, and both messages come, past the end of the data and
-- past 2^32

-- the second message, of 8 bytes
abbrev n : List ℕ
n = 11 ∷ 12 ∷ 13 ∷ 14 ∷ 15 ∷ 16 ∷ 17 ∷ 18 ∷ []

-- its pair is reserved behind the first one's, and filled
abbrev c₂ : List ℕ
c₂ = splice 36 (24 ∷ 0 ∷ 0 ∷ 0 ∷ []) b₁

abbrev c₃ : List ℕ
c₃ = splice 60 (8 ∷ 0 ∷ 0 ∷ 0 ∷ 11 ∷ 12 ∷ 13 ∷ 14 ∷ 15 ∷ 16 ∷ 17 ∷ 18 ∷ []) c₂

-- a fill of the first pair with other bytes is stopped behind the marker and two bytes of the length
abbrev strayed : Stores
strayed = (104, 255 ∷ 255 ∷ 255 ∷ 255 ∷ []) ∷ (48, 7 ∷ 0 ∷ 0 ∷ 0 ∷ 9 ∷ 9 ∷ 9 ∷ 9 ∷ 9 ∷ 9 ∷ 9 ∷ 0 ∷ []) ∷ []

abbrev c₄ : List ℕ
c₄ = stored (firstly 6 strayed) c₃

-- it is filled, and both are committed
abbrev c₅ : List ℕ
c₅ = splice 48 (5 ∷ 0 ∷ 0 ∷ 0 ∷ 1 ∷ 2 ∷ 3 ∷ 4 ∷ 5 ∷ 0 ∷ 0 ∷ 0 ∷ []) (splice 104 (255 ∷ 255 ∷ 255 ∷ 255 ∷ []) c₄)

abbrev c₆ : List ℕ
c₆ = splice 40 (12 ∷ 0 ∷ 0 ∷ 0 ∷ []) c₅

abbrev c₇ : List ℕ
c₇ = splice 40 (24 ∷ 0 ∷ 0 ∷ 0 ∷ []) c₆

-- and taken
abbrev c₈ : List ℕ
c₈ = splice 32 (12 ∷ 0 ∷ 0 ∷ 0 ∷ []) c₇

abbrev c₉ : List ℕ
c₉ = splice 32 (24 ∷ 0 ∷ 0 ∷ 0 ∷ []) c₈

pub record Life : Type 0 where
  pub second : reserve_call b₁ 0 8 ≡ taken ((36, 24 ∷ 0 ∷ 0 ∷ 0 ∷ []) ∷ [], (12, 24))
  pub fill_second : fill_call c₂ 0 12 24 n ≡ taken ((60, 8 ∷ 0 ∷ 0 ∷ 0 ∷ 11 ∷ 12 ∷ 13 ∷ 14 ∷ 15 ∷ 16 ∷ 17 ∷ 18 ∷ []) ∷ [], tt)
  pub fill_other : fill_call c₃ 0 4294967288 12 (9 ∷ 9 ∷ 9 ∷ 9 ∷ 9 ∷ 9 ∷ 9 ∷ []) ≡ taken (strayed, tt)
  -- nothing to take yet, and the second pair has to wait for its turn
  pub none : take_call c₄ 0 ≡ refused EMPTY 0
  pub turn : commit_call c₄ 0 12 24 ≡ refused TURN 0
  pub fill_first : fill_call c₄ 0 4294967288 12 m ≡ taken ((104, 255 ∷ 255 ∷ 255 ∷ 255 ∷ []) ∷ (48, 5 ∷ 0 ∷ 0 ∷ 0 ∷ 1 ∷ 2 ∷ 3 ∷ 4 ∷ 5 ∷ 0 ∷ 0 ∷ 0 ∷ []) ∷ [], tt)
  pub commit_first : commit_call c₅ 0 4294967288 12 ≡ taken ((40, 12 ∷ 0 ∷ 0 ∷ 0 ∷ []) ∷ [], tt)
  pub commit_second : commit_call c₆ 0 12 24 ≡ taken ((40, 24 ∷ 0 ∷ 0 ∷ 0 ∷ []) ∷ [], tt)
  pub take-first : take_call c₇ 0 ≡ taken ((32, 12 ∷ 0 ∷ 0 ∷ 0 ∷ []) ∷ [], (52, 5))
  pub take_second : take_call c₈ 0 ≡ taken ((32, 24 ∷ 0 ∷ 0 ∷ 0 ∷ []) ∷ [], (64, 8))
  pub empty : take_call c₉ 0 ≡ refused EMPTY 0

pub life : Life
unfolding one table_checks each descriptor_checks ring_checks is_capacity ahead le_at le bytes_of splice skip reserve_call fill_stores fill_call commit_call skip_at take_in take_call
life = record {
  second = refl;
  fill_second = refl;
  fill_other = refl;
  none = refl;
  turn = refl;
  fill_first = refl;
  commit_first = refl;
  commit_second = refl;
  take-first = refl;
  take_second = refl;
  empty = refl;
}

-- these calls are a use of the ring, with both messages waiting, and none at the end
pub waiting : Used 0 c₇ (m ∷ n ∷ []) []
waiting =
    let open-both = steps (steps begun (reserves 5 examples.reserve)) (reserves 8 life.second) in
    let filled-second = steps open-both (fills (_ ∷ []) _ [] n life.fill_second) in
    let stopped = steps filled-second (stops [] _ (_ ∷ []) (fill_stores_within c₃ 0 4294967288 12 _ life.fill_other 6)) in
    let filled = steps stopped (fills [] _ (_ ∷ []) m life.fill_first) in
    steps (steps filled (commits refl life.commit_first)) (commits refl life.commit_second)

pub lived : Used 0 c₉ [] []
lived = steps (steps waiting (takes life.take-first)) (takes life.take_second)
