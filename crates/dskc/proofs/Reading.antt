-- A wrapper by its header and the index of its list, and the exits of the calls that read it.
-- Assumes nothing.
use mathlib.Core.Path.{◌≡◌, sym, ◌∙◌, ap}
use mathlib.Core.List.{List}
use Prim.Native.Nat.{ℕ, ◌+◌, ◌*◌, ◌/◌, ◌≤◌}
use native.Mathlib.Omega.{arith}
use lib.ListN.{length, take, drop, length-drop}
use borrow.Author.Tests.{leb-true, le-leb}
use Rattle.std.proofs.Common.{Ok, Err}
use Rattle.answer.specs.declared.Fault.{Fault}
use Rattle.answer.specs.Outcome.{Outcome, taken, refused, Pass, after, moved, room, fitting}
use Rattle.answer.specs.Calls.{asked, WritesCount}
use Rattle.answer.specs.Refusals.{number_of}
use Rattle.answer.proofs.Checks.{checked-pass, pass-checked, asked-pass, asked_stop}
use Rattle.answer.proofs.Outcomes.{moved_taken, fills_done}
use Rattle.wire.specs.Parts.{Wrote}
use Rattle.entries.specs.Kinds.{controllers}
use Rattle.entries.specs.declared.Kind.TheVariants as kind
use Rattle.entries.proofs.Lawful.{lawful}
use Rattle.lists.specs.Lists.{list_at, part_checks, index_of}
use Rattle.lists.specs.Promises.{Indexed}
use Rattle.lists.proofs.Callers.{indexed_stop, indexed_done, index_roomy}
use Rattle.lists.proofs.Taken.{list_sound}
use Rattle.lists.proofs.Ordered.{index_length}
use Rattle.lists.proofs.Within.{list_within}
use Rattle.tables.specs.declared.Table.TheVariants.{Controllers}
use Rattle.tables.specs.Tables.{ROW, rows_in, rows_at}
use Rattle.tables.proofs.Rows.{length-rows, rows_all}
use Rattle.writer.specs.Steps.{Listed}
use Rattle.dskc.specs.Wrapper.{wrapper_most, wrapper_header_checks, wrapper_of, controllers_call}

-- ---- bytes for a lent output, by whether they fit there

module _ (have : ℕ) {need : ℕ} (b : List ℕ) (e : length b ≡ need) where
  pub full : {n p : ℕ} → refused n p ≡ asked (room have need) → fitting have b ≡ refused n p
  full h = rw e (asked_stop (room have need) (taken b) h)

  pub fits : taken tt ≡ asked (room have need) → (fitting have b ≡ taken b) × (need ≤ have)
  fits h = let w = asked-pass (room have need) h in (rw e (pass-checked (room have need) (taken b) w), leb-true need have w.0)

-- ---- the wrapper, by the index of the list behind its header

module _ (s : List ℕ) where
  pub header_stop : {n p : ℕ} → refused n p ≡ asked (wrapper_header_checks s) → refused n p ≡ wrapper_of s
  unfolding wrapper_of
  header_stop h = sym (asked_stop (wrapper_header_checks s) (moved 16 (list_at controllers (drop 16 s))) h)

  -- a header that passes
  module _ (g : Pass (wrapper_header_checks s)) where
    behind : wrapper_of s ≡ moved 16 (list_at controllers (drop 16 s))
    unfolding wrapper_of
    behind = pass-checked (wrapper_header_checks s) (moved 16 (list_at controllers (drop 16 s))) g

    pub small : length (drop 16 s) ≤ 1073741824
    small = omega (arith, leb-true (length s) wrapper_most g.0, length-drop 16 s)

    module _ (b old : List ℕ) (e : b ≡ drop 16 s) (k : controllers.most ≤ length old) where
      abbrev index : Outcome (List ℕ)
      index = index_of controllers (length old) b

      kept : index ≡ list_at controllers (drop 16 s)
      kept =
          ap (index_of controllers (length old)) e
          ∙ index_roomy (lawful kind.Controllers) (length old) (drop 16 s) k
          ∙ pass-checked (part_checks (drop 16 s)) (list_at controllers (drop 16 s)) (le-leb (length (drop 16 s)) 1073741824 small, tt)

      pub list_stop : {f : Fault} {new : List ℕ} → Indexed index old (Err f) new → (refused (number_of f.0) (16 + f.1) ≡ wrapper_of s) × (16 + f.1 ≤ length s)
      list_stop i =
          let f = indexed_stop index i in
          let w = rw (sym kept ∙ f) at (list_within (lawful kind.Controllers) (drop 16 s)) in
          (sym (behind ∙ ap (moved 16) (sym kept ∙ f)), omega (arith, leb-true 16 (length s) g.1.0, length-drop 16 s, w))

      pub list_done : {n : ℕ} {new : List ℕ} → Indexed index old (Ok n) new → taken (take n new) ≡ wrapper_of s
      list_done i = sym (behind ∙ ap (moved 16) (sym kept ∙ indexed_done index i))

-- a wrapper that is taken has a header that passes, and a list that is taken
pub whole : (s : List ℕ) {l : List ℕ} → wrapper_of s ≡ taken l → Pass (wrapper_header_checks s) × (list_at controllers (drop 16 s) ≡ taken l)
unfolding wrapper_of
whole s {l} h =
    let p = checked-pass (wrapper_header_checks s) (moved 16 (list_at controllers (drop 16 s))) l h in
    (p.0, moved_taken 16 (list_at controllers (drop 16 s)) p.1)

-- ---- the calls that go on from the index

module _ (s : List ℕ) {l : List ℕ} (h : taken l ≡ wrapper_of s) where
  pub few : length l ≤ controllers.most
  few =
      let t = (whole s (sym h)).1 in
      omega (arith, index_length (lawful kind.Controllers) (drop 16 s) t, (list_sound (lawful kind.Controllers) (drop 16 s) t).few)

  pub listed_so : Listed controllers (drop 16 s) l
  listed_so = let w = whole s (sym h) in record { short = small s w.0; list = w.1 }

  -- ---- the table

  abbrev table : List ℕ
  table = rows_at Controllers 16 (drop 16 s) l

  module _ (have : ℕ) where
    found : controllers_call have s ≡ fitting have table
    found = ap (λ (o : Outcome (List ℕ)). after o (λ m. fitting have (rows_at Controllers 16 (drop 16 s) m))) (sym h)

    pub table_full : {n p : ℕ} → refused n p ≡ asked (room have (ROW * length l)) → controllers_call have s ≡ refused n p
    table_full g = found ∙ full have table (length-rows Controllers 16 (drop 16 s) l) g

    pub table_done : taken tt ≡ asked (room have (ROW * length l)) → {b out last : List ℕ} {r : ℕ} → b ≡ drop 16 s → Wrote (rows_in Controllers 16 b l (take (have / ROW) l)) out last r
        → WritesCount (controllers_call have s) out (Ok (ROW * length l)) last
    table_done g {b} {out} {last} {r} e w =
        let need : length table ≡ ROW * length l = length-rows Controllers 16 (drop 16 s) l in
        let q = fits have table need g in
        let v : Wrote table out last r = rw (e, rows_all l have (omega (arith, q.1))) at w in
        fills_done table (found ∙ q.0) (sym need) v.bytes
