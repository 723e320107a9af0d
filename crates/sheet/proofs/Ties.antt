-- A sheet and the table of fields agree: each member of a state's sheet is the bytes of its field in the state.
-- Assumes nothing.
use mathlib.Core.Path.{◌≡◌, refl, ap, ◌∙◌}
use mathlib.Core.Bool.{true}
use mathlib.Core.List.{List, [], ◌∷◌}
use Prim.Native.Nat.{ℕ, zero, suc, ◌+◌, ◌*◌, ◌≤◌, ◌<◌}
use native.Mathlib.Omega.{arith}
use lib.ListN.{length, take, drop, get_or}
use lib.Seq.{drop-drop}
use Rattle.wire.specs.Numbers.{Bytes}
use Rattle.fields.specs.declared.State.TheVariants.{Cpu}
use Rattle.fields.specs.Layout.{field_table, row_at}
use Rattle.fields.specs.Fields.{has_in, bytes_at}
use Rattle.registers.proofs.Tied.{Agree, tied, one, numbers, parts, selectors}
use Rattle.sheet.specs.Vectors.{rows}
use Rattle.sheet.specs.Sheet.{cpu_of}
use Rattle.sheet.specs.Members.{cpu_members, cpu_member}

-- a part of a part
take-drop-take : (w k n : ℕ) (l : List ℕ) → k + w ≤ n → take w (drop k (take n l)) ≡ take w (drop k l)
take-drop-take zero k n l h = refl
take-drop-take (suc w) zero zero l h = absurd (omega arith)
take-drop-take (suc w) zero (suc n) [] h = refl
take-drop-take (suc w) zero (suc n) (x ∷ l) h = ap (λ (m : List ℕ). x ∷ m) (take-drop-take w 0 n l (omega arith))
take-drop-take (suc w) (suc k) zero l h = absurd (omega arith)
take-drop-take (suc w) (suc k) (suc n) [] h = refl
take-drop-take (suc w) (suc k) (suc n) (x ∷ l) h = take-drop-take (suc w) k n l (omega arith)

slots : (s : List ℕ) (i : ℕ) → i < 8 → take 16 (drop (i * 16) (take 128 (drop 283 s))) ≡ take 16 (drop (283 + i * 16) s)
slots s i h =
    let e : 283 + i * 16 ≡ i * 16 + 283 = omega arith in
    take-drop-take 16 (i * 16) 128 (drop 283 s) (omega arith) ∙ ap (take 16) (drop-drop (i * 16) 283 s)

row-at : (n : ℕ) (l : List ℕ) (i : ℕ) → i < n → get_or (rows n l) i [] ≡ take 16 (drop (i * 16) l)
unfolding rows
row-at zero l i h = absurd (omega arith)
row-at (suc n) l zero h = refl
row-at (suc n) l (suc i) h =
    let e : 16 + i * 16 ≡ suc i * 16 = omega arith in
    row-at n (drop 16 l) i (omega arith) ∙ ap (take 16) (drop-drop (i * 16) 16 l ∙ ap (λ (j : ℕ). drop j l) e)

vectors : (s : List ℕ) (i : ℕ) → i < 16 → get_or (rows 16 (drop 415 s)) i [] ≡ take 16 (drop (415 + i * 16) s)
vectors s i h = row-at 16 (drop 415 s) i h ∙ ap (take 16) (drop-drop (i * 16) 415 s)

whole : (s : List ℕ) (at w i : ℕ) → i < 1 → take w (drop at s) ≡ take w (drop (at + i * w) s)
whole s at w i h =
    let z : i ≡ 0 = omega arith in
    let e : at ≡ at + i * w = rw z (omega arith) in
    ap (λ (k : ℕ). take w (drop k s)) e

-- ---- the sheets

module _ (s : List ℕ) (b : Bytes s) where
  cpu_agree : Agree s (field_table Cpu) (cpu_members (cpu_of s))
  cpu_agree = (
    numbers s b 16 0,
    (
      one s b 128 8,
      (
        one s b 136 8,
        (
          one s b 144 1,
          (
            one s b 145 1,
            (
              selectors s b 6 146,
              (
                parts s b 6 146 2 8 (λ x. x.base) (λ k. refl),
                (
                  parts s b 6 146 10 4 (λ x. x.limit) (λ k. refl),
                  (
                    parts s b 6 146 14 4 (λ x. x.access) (λ k. refl),
                    (
                      one s b 254 2,
                      (
                        one s b 256 2,
                        (
                          one s b 258 2,
                          (
                            one s b 260 1,
                            (
                              one s b 261 2,
                              (
                                one s b 263 8,
                                (
                                  one s b 271 8,
                                  (
                                    one s b 279 2,
                                    (
                                      one s b 281 2,
                                      (
                                        (λ i h g. slots s i h),
                                        (
                                          one s b 411 4,
                                          (
                                            (λ i h g. vectors s i h),
                                            ((λ i h g. whole s 671 512 i h), (one s b 1187 1, (one s b 1188 1, (one s b 1189 1, (one s b 1190 1, tt))))),
                                          ),
                                        ),
                                      ),
                                    ),
                                  ),
                                ),
                              ),
                            ),
                          ),
                        ),
                      ),
                    ),
                  ),
                ),
              ),
            ),
          ),
        ),
      ),
    ),
  )

  pub cpu_ties : (n i : ℕ) → has_in (row_at Cpu n) i (length s) ≡ true → cpu_member (cpu_of s) n i ≡ bytes_at (row_at Cpu n) i s
  unfolding row_at cpu_member
  cpu_ties n i h = tied s (field_table Cpu) (cpu_members (cpu_of s)) cpu_agree n i h
