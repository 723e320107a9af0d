-- The canonical form of a wrapper that is taken: its bytes, its length, and how they are written.
-- Assumes nothing.
use mathlib.Core.Path.{◌≡◌, refl, sym, ◌∙◌, ap}
use mathlib.Core.List.{List, [], ◌++◌, append-nil}
use Prim.Native.Nat.{ℕ, ◌-◌, ◌≤◌}
use native.Mathlib.Omega.{arith}
use lib.ListN.{length, take, drop, length-append, length-drop}
use borrow.Author.Tests.{leb-true}
use Rattle.answer.specs.Outcome.{Outcome, taken, refused, after, room, fitting}
use Rattle.answer.specs.Calls.{asked}
use Rattle.wire.specs.Parts.{Wrote}
use Rattle.wire.proofs.Filling.{Filling, filling_room, filling_done}
use Rattle.order.specs.Keyed.{sort}
use Rattle.entries.specs.Kinds.{controllers}
use Rattle.entries.specs.declared.Kind.TheVariants as kind
use Rattle.entries.proofs.Lawful.{lawful}
use Rattle.lists.specs.Lists.{tail_of, list_bytes}
use Rattle.lists.proofs.Taken.{list_sound, closed_tail}
use Rattle.lists.proofs.Written.{sorted_length}
use Rattle.writer.specs.Steps.{sorted_bytes}
use Rattle.dskc.specs.Wrapper.{wrapper_header, wrapper_of, wrapper_bytes, controllers_of, wrapper_canonical_call}
use Rattle.dskc.proofs.Reading.{whole, full, fits}

-- the controllers in address order, as the list behind the header
abbrev in_address_order : List ℕ → List ℕ
in_address_order s = list_bytes (sort controllers.key (controllers_of s))

module _ (s : List ℕ) {l : List ℕ} (h : taken l ≡ wrapper_of s) where
  pub canon_long : 16 ≤ length s
  canon_long = leb-true 16 (length s) (whole s (sym h)).0.1.0

  -- nothing stands behind the last controller
  no_tail : tail_of controllers (drop 16 s) ≡ []
  no_tail = closed_tail controllers (drop 16 s) refl (list_sound (lawful kind.Controllers) (drop 16 s) (whole s (sym h)).1)

  order_length : length (in_address_order s) ≡ length (drop 16 s)
  order_length = omega (arith, sorted_length (lawful kind.Controllers) (drop 16 s) (whole s (sym h)).1, ap length no_tail)

  canon_length : length (wrapper_bytes (sort controllers.key (controllers_of s))) ≡ length s
  canon_length = omega (arith, canon_long, length-append wrapper_header (in_address_order s), order_length, length-drop 16 s)

  module _ (have : ℕ) where
    go_on : wrapper_canonical_call have s ≡ fitting have (wrapper_header ++ in_address_order s)
    go_on = ap (λ (o : Outcome (List ℕ)). after o (λ _. fitting have (wrapper_header ++ in_address_order s))) (sym h)

    pub canon_full : {n p : ℕ} → refused n p ≡ asked (room have (length s)) → wrapper_canonical_call have s ≡ refused n p
    canon_full k = go_on ∙ full have (wrapper_header ++ in_address_order s) canon_length k

    pub canon_done : taken tt ≡ asked (room have (length s)) → (wrapper_canonical_call have s ≡ taken (wrapper_header ++ in_address_order s)) × (length s ≤ have)
    canon_done k = let q = fits have (wrapper_header ++ in_address_order s) canon_length k in (go_on ∙ q.0, q.1)

  -- the header, and the list in the tail behind it
  module _ {b old mid : List ℕ} (e : b ≡ drop 16 s) (k : length s ≤ length old) (so : Wrote wrapper_header old mid 16) where
    first : Filling (wrapper_header ++ in_address_order s) old (in_address_order s) 16 mid
    first = record { part = wrapper_header; whole = refl; room = omega (arith, canon_length); wrote = so }

    pub canon_room : length b ≤ length (take (length mid - 16) (drop 16 mid))
    canon_room = omega (arith, filling_room first, order_length, ap length e)

    pub canon_written : {new : List ℕ} → Wrote (sorted_bytes controllers b) (take (length mid - 16) (drop 16 mid)) new (length b)
        → Wrote (wrapper_header ++ in_address_order s) old (take 16 mid ++ (new ++ drop (length mid - 16) (drop 16 mid))) (length s)
    canon_written w =
        let bare : sorted_bytes controllers b ≡ in_address_order s = ap (sorted_bytes controllers) e ∙ ap (λ (t : List ℕ). in_address_order s ++ t) no_tail ∙ append-nil (in_address_order s) in
        let all = filling_done first (rw bare at w) in
        record { count = sym canon_length; bytes = all.bytes }
