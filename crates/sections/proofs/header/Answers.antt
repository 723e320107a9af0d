use Rattle.answer.proofs.Checks.{left_pass, left_fail}
use Rattle.sections.proofs.Headers.{Headed, head_all, read_is, read_not, letters_number}
use Rattle.aerosnap.specs.File.{file_most}
use Rattle.wire.specs.Numbers.{Bytes}
use mathlib.Core.Path.{◌∙◌}
use mathlib.Core.List.{List}
use Prim.Native.Nat.{ℕ}
use lib.ListN.{length}
use borrow.Author.Tests.{le-leb, lt-leb, eq-eqb, ne_eqb}
use Rattle.sections.proofs.header.Goals as goal

pub returns-then-s-gt-FILE_MOST : goal.returns-then-s-gt-FILE_MOST
returns-then-s-gt-FILE_MOST c =
    let text : List ℕ = c.args.s.now in
    let s = text in left_fail (head_all s) (lt-leb (length s) file_most c.if-s-gt-FILE_MOST.true)

pub returns-then-s-lt16 : goal.returns-then-s-lt16
returns-then-s-lt16 c =
    let text : List ℕ = c.args.s.now in
    let fits : Headed (text) 1 = let s = text in left_pass (head_all s) (le-leb (length s) file_most c.if-s-gt-FILE_MOST.false) in
    left_fail (fits) (lt-leb 16 (length (text)) c.if-s-lt16.true)

pub returns-then-u64_at-ne-LETTERS : goal.returns-then-u64_at-ne-LETTERS
returns-then-u64_at-ne-LETTERS c =
    let text : List ℕ = c.args.s.now in
    let fits : Headed (text) 1 = let s = text in left_pass (head_all s) (le-leb (length s) file_most c.if-s-gt-FILE_MOST.false) in
    let long : Headed (text) 2 = left_pass (fits) (le-leb 16 (length (text)) c.if-s-lt16.false) in
    let bytes : Bytes (text) = λ i. (c.type_inv.s i).fits in
    left_fail (long) (letters_number (text) c.if-s-lt16.false (bytes) c.u64_at.ensures ∙ ne_eqb _ _ c.if-u64_at-ne-LETTERS.true)

pub returns-then-u16_at-ne1 : goal.returns-then-u16_at-ne1
returns-then-u16_at-ne1 c =
    let text : List ℕ = c.args.s.now in
    let fits : Headed (text) 1 = let s = text in left_pass (head_all s) (le-leb (length s) file_most c.if-s-gt-FILE_MOST.false) in
    let long : Headed (text) 2 = left_pass (fits) (le-leb 16 (length (text)) c.if-s-lt16.false) in
    let bytes : Bytes (text) = λ i. (c.type_inv.s i).fits in
    let lettered : Headed (text) 3 = left_pass (long) (letters_number (text) c.if-s-lt16.false (bytes) c.u64_at.ensures ∙ eq-eqb _ _ c.if-u64_at-ne-LETTERS.false) in
    left_fail (lettered) (read_not c.u16_at.ensures c.if-u16_at-ne1.true)

pub returns-then-u8_at-ne1 : goal.returns-then-u8_at-ne1
returns-then-u8_at-ne1 c =
    let text : List ℕ = c.args.s.now in
    let fits : Headed (text) 1 = let s = text in left_pass (head_all s) (le-leb (length s) file_most c.if-s-gt-FILE_MOST.false) in
    let long : Headed (text) 2 = left_pass (fits) (le-leb 16 (length (text)) c.if-s-lt16.false) in
    let bytes : Bytes (text) = λ i. (c.type_inv.s i).fits in
    let lettered : Headed (text) 3 = left_pass (long) (letters_number (text) c.if-s-lt16.false (bytes) c.u64_at.ensures ∙ eq-eqb _ _ c.if-u64_at-ne-LETTERS.false) in
    let versioned : Headed (text) 4 = left_pass (lettered) (read_is c.u16_at.ensures c.if-u16_at-ne1.false) in
    left_fail (versioned) (read_not c.u8_at.ensures c.if-u8_at-ne1.true)

pub returns-then-u8_at-ne0 : goal.returns-then-u8_at-ne0
returns-then-u8_at-ne0 c =
    let text : List ℕ = c.args.s.now in
    let fits : Headed (text) 1 = let s = text in left_pass (head_all s) (le-leb (length s) file_most c.if-s-gt-FILE_MOST.false) in
    let long : Headed (text) 2 = left_pass (fits) (le-leb 16 (length (text)) c.if-s-lt16.false) in
    let bytes : Bytes (text) = λ i. (c.type_inv.s i).fits in
    let lettered : Headed (text) 3 = left_pass (long) (letters_number (text) c.if-s-lt16.false (bytes) c.u64_at.ensures ∙ eq-eqb _ _ c.if-u64_at-ne-LETTERS.false) in
    let versioned : Headed (text) 4 = left_pass (lettered) (read_is c.u16_at.ensures c.if-u16_at-ne1.false) in
    let ended : Headed (text) 5 = left_pass (versioned) (read_is c.u8_at.ensures c.if-u8_at-ne1.false) in
    left_fail (ended) (read_not c.u8_at-2.ensures c.if-u8_at-ne0.true)

pub returns-then-u32_at-ne0 : goal.returns-then-u32_at-ne0
returns-then-u32_at-ne0 c =
    let text : List ℕ = c.args.s.now in
    let fits : Headed (text) 1 = let s = text in left_pass (head_all s) (le-leb (length s) file_most c.if-s-gt-FILE_MOST.false) in
    let long : Headed (text) 2 = left_pass (fits) (le-leb 16 (length (text)) c.if-s-lt16.false) in
    let bytes : Bytes (text) = λ i. (c.type_inv.s i).fits in
    let lettered : Headed (text) 3 = left_pass (long) (letters_number (text) c.if-s-lt16.false (bytes) c.u64_at.ensures ∙ eq-eqb _ _ c.if-u64_at-ne-LETTERS.false) in
    let versioned : Headed (text) 4 = left_pass (lettered) (read_is c.u16_at.ensures c.if-u16_at-ne1.false) in
    let ended : Headed (text) 5 = left_pass (versioned) (read_is c.u8_at.ensures c.if-u8_at-ne1.false) in
    let zero_byte : Headed (text) 6 = left_pass (ended) (read_is c.u8_at-2.ensures c.if-u8_at-ne0.false) in
    left_fail (zero_byte) (read_not c.u32_at.ensures c.if-u32_at-ne0.true)

pub returns : goal.returns
returns c =
    let text : List ℕ = c.args.s.now in
    let fits : Headed (text) 1 = let s = text in left_pass (head_all s) (le-leb (length s) file_most c.if-s-gt-FILE_MOST.false) in
    let long : Headed (text) 2 = left_pass (fits) (le-leb 16 (length (text)) c.if-s-lt16.false) in
    let bytes : Bytes (text) = λ i. (c.type_inv.s i).fits in
    let lettered : Headed (text) 3 = left_pass (long) (letters_number (text) c.if-s-lt16.false (bytes) c.u64_at.ensures ∙ eq-eqb _ _ c.if-u64_at-ne-LETTERS.false) in
    let versioned : Headed (text) 4 = left_pass (lettered) (read_is c.u16_at.ensures c.if-u16_at-ne1.false) in
    let ended : Headed (text) 5 = left_pass (versioned) (read_is c.u8_at.ensures c.if-u8_at-ne1.false) in
    let zero_byte : Headed (text) 6 = left_pass (ended) (read_is c.u8_at-2.ensures c.if-u8_at-ne0.false) in
    let zero_number : Headed (text) 7 = left_pass (zero_byte) (read_is c.u32_at.ensures c.if-u32_at-ne0.false) in
    (zero_number).same
