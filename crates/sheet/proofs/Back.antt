-- The sheet of one CPU state written over another of the same length: its fields are the first's; so read and written back over it, a state stays as it is.
-- Assumes nothing.
use mathlib.Core.Path.{◌≡◌, sym, ap, ◌∙◌}
use mathlib.Core.List.{List, ◌++◌, append_assoc, append-nil}
use Prim.Native.Nat.{ℕ, ◌+◌, ◌*◌, ◌≤◌, ◌<◌}
use native.Mathlib.Omega.{arith}
use lib.ListN.{length, take, drop, get_or, length-drop, take-append-drop, drop_of_length-le}
use lib.Seq.{length-take-le, take-add, drop-drop}
use Rattle.wire.specs.Numbers.{Bytes, bytes_of}
use Rattle.wire.specs.Parts.{splice}
use Rattle.wire.proofs.Numbers.{length-bytes_of}
use Rattle.wire.proofs.Parts.{put-fits, put_not}
use Rattle.registers.specs.Registers.{gather, in_turn, at, segment_in, segment_over, no_segment}
use Rattle.registers.proofs.Mixed.{get_or-gather, mix, length_mix, step, number, in_turn_mix, words_mix, segment_mix, all_mix}
use Rattle.sheet.specs.Vectors.{rows, joined}
use Rattle.sheet.proofs.Rows.{joined-rows}
use Rattle.sheet.specs.Sheet.{front_of, front_over, math_of, math_over, sse_of, sse_over, extension_of, extension_over, cpu_of, fields_over}

module _ (s t : List ℕ) (b : Bytes s) (n : length t ≤ length s) where
  segments_mix : (k m : ℕ) → k + m * 18 ≤ length t → in_turn (λ i. segment_over (i * 18 + k) (get_or (gather (λ (j : ℕ). segment_in s (j * 18 + k)) m) i no_segment)) m (mix s t k) ≡ mix s t (k + m * 18)
  segments_mix k m h = in_turn_mix s t b n (λ i. segment_over (i * 18 + k) (get_or (gather (λ (j : ℕ). segment_in s (j * 18 + k)) m) i no_segment)) k 18 m (λ i g. one i g)
    where
      one : (i : ℕ) → i < m → segment_over (i * 18 + k) (get_or (gather (λ (j : ℕ). segment_in s (j * 18 + k)) m) i no_segment) (mix s t (k + i * 18)) ≡ mix s t (k + i * 18 + 18)
      one i g =
          let e : i * 18 + k ≡ k + i * 18 = omega arith in
          rw (get_or-gather (λ (j : ℕ). segment_in s (j * 18 + k)) no_segment m i g, e) (segment_mix s t b n (k + i * 18) (omega arith))

  -- ---- the CPU sheet

  module _ (h : 1183 ≤ length t) where
    front_mix : front_over (front_of s) (mix s t 128) ≡ mix s t 146
    front_mix = rw (number s t b n 128 8 (omega arith), number s t b n 136 8 (omega arith), number s t b n 144 1 (omega arith), number s t b n 145 1 (omega arith))

    math_mix : math_over (math_of s) (mix s t 254) ≡ mix s t 283
    math_mix = rw (number s t b n 254 2 (omega arith), number s t b n 256 2 (omega arith), number s t b n 258 2 (omega arith), number s t b n 260 1 (omega arith), number s t b n 261 2 (omega arith), number s t b n 263 8 (omega arith), number s t b n 271 8 (omega arith), number s t b n 279 2 (omega arith), number s t b n 281 2 (omega arith))

    xmm_mix : splice 415 (joined (rows 16 (drop 415 s))) (mix s t 415) ≡ mix s t 671
    xmm_mix =
        let l : length (take 256 (drop 415 s)) ≡ 256 = length-take-le 256 (drop 415 s) (rw (length-drop) (omega arith)) in
        ap (λ (m : List ℕ). splice 415 m (mix s t 415)) (joined-rows 16 (drop 415 s)) ∙ sym (put-fits 415 (take 256 (drop 415 s)) (mix s t 415) (omega (arith, l, length_mix s t b n 415 (omega arith)))) ∙ step s t b n 415 256 (omega arith)

    sse_mix : sse_over (sse_of s) (mix s t 411) ≡ mix s t 671
    sse_mix = ap (λ (l : List ℕ). splice 415 (joined (rows 16 (drop 415 s))) l) (number s t b n 411 4 (omega arith)) ∙ xmm_mix

    cpu_front : fields_over (cpu_of s) t ≡ extension_over (extension_of s) (mix s t 1183)
    cpu_front = rw (words_mix s t b n 0 16 (omega arith), front_mix, segments_mix 146 6 (omega arith), math_mix, step s t b n 283 128 (omega arith), sse_mix, step s t b n 671 512 (omega arith))

  pub cpu_over_plain : length s ≡ 1183 → length t ≡ 1183 → fields_over (cpu_of s) t ≡ s
  cpu_over_plain e f = cpu_front (omega arith) ∙ ap (extension_over (extension_of s)) (all_mix s t b n 1183 e) ∙ rw (none 1187 _ (omega arith), none 1188 _ (omega arith), none 1189 _ (omega arith), none 1190 _ (omega arith))
    where
      none : (k x : ℕ) → 1183 ≤ k → at k 1 x s ≡ s
      none k x g = put_not k (bytes_of 1 x) s (omega (arith, length-bytes_of 1 x))

  -- both have the extension, and say the same length of it
  pub cpu_over_extended : length t ≡ 1191 → take 4 (drop 1183 s) ≡ take 4 (drop 1183 t) → fields_over (cpu_of s) t ≡ take 1191 s
  cpu_over_extended e q =
      cpu_front (omega arith) ∙ ap (extension_over (extension_of s)) same
      ∙ rw (number s t b n 1187 1 (omega arith), number s t b n 1188 1 (omega arith), number s t b n 1189 1 (omega arith), number s t b n 1190 1 (omega arith)) (ap (λ (l : List ℕ). take 1191 s ++ l) (drop_of_length-le t short) ∙ append-nil (take 1191 s))
    where
      short : length t ≤ 1191
      short = omega arith

      same : mix s t 1183 ≡ mix s t 1187
      same =
          ap (λ (l : List ℕ). take 1183 s ++ l) (sym (take-append-drop 4 (drop 1183 t)) ∙ ap (λ (l : List ℕ). l ++ drop 4 (drop 1183 t)) (sym q) ∙ ap (λ (l : List ℕ). take 4 (drop 1183 s) ++ l) (drop-drop 4 1183 t))
          ∙ sym (append_assoc (take 1183 s) (take 4 (drop 1183 s)) (drop 1187 t)) ∙ ap (λ (l : List ℕ). l ++ drop 1187 t) (sym (take-add 1183 4 s))
