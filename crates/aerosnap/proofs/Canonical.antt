-- Demand 2 on writing: the canonical form is taken, has the content of the file, is no longer, and is its own canonical form; files with the same content have the same one.
-- Assumes nothing.
use mathlib.Core.Path.{◌≡◌, sym, ◌∙◌, ap, subst}
use mathlib.Core.Logic.{◌↔◌}
use mathlib.Core.List.{List, Permᴰ}
use Prim.Native.Nat.{ℕ, ◌≤◌}
use native.Mathlib.Omega.{arith}
use lib.ListN.{length}
use borrow.Author.Tests.{leb-true, le-leb}
use Rattle.answer.specs.Outcome.{taken, room, after, fitting}
use Rattle.answer.proofs.Checks.{checked-pass}
use Rattle.answer.proofs.Outcomes.{taken_is, after_taken}
use Rattle.order.specs.Keyed.{flat, keep}
use Rattle.order.proofs.Sorts.{sort_unique}
use Rattle.entries.specs.Kinds.{devices, disks}
use Rattle.aerosnap.specs.Known.{DEVICES, DISKS}
use Rattle.aerosnap.specs.File.{file_of}
use Rattle.aerosnap.specs.Rules.{IsFile}
use Rattle.aerosnap.specs.Content.{tidy, is_other, entries_in, tail_in, Content, content_of, render, content_at, canonical}
use Rattle.aerosnap.proofs.Taken.{file_sound}
use Rattle.aerosnap.proofs.Canon.{Canon, canon_of, secs_fewer, entries_apart}
use Rattle.aerosnap.proofs.Back.{read_back}

-- the sections behind a content
pub content_sections : (s : List ℕ) {c : Content} → content_at s ≡ taken c → (l : List (List ℕ)) × (file_of s ≡ taken l) × (content_of l ≡ c)
content_sections s h = let p = after_taken (file_of s) (λ l. taken (content_of l)) h in (p.0, p.1, taken_is p.2)

-- what is read of a file is in order, and is written in no more bytes
pub content_is : (s : List ℕ) (c : Content) → content_at s ≡ taken c → Canon c × (length (render c) ≤ length s)
content_is s c h =
    let p = content_sections s h in
    let f = file_sound s p.1 in
    let n : length (render (content_of p.0)) ≤ length s = omega (arith, (secs_fewer p.0 f.1).1, ap length f.0) in
    subst (λ (c : Content). Canon c × (length (render c) ≤ length s)) p.2 (canon_of p.0 f.1, n)

-- bytes that fit are the bytes
pub fits_taken : (have : ℕ) (b : List ℕ) {d : List ℕ} → fitting have b ≡ taken d → (length b ≤ have) × (b ≡ d)
fits_taken have b {d} h = let q = checked-pass (room have (length b)) (taken b) d h in (leb-true _ _ q.0.0, taken_is q.1)

pub taken_fits : (have : ℕ) (b : List ℕ) → length b ≤ have → fitting have b ≡ taken b
taken_fits have b h = rw (le-leb (length b) have h)

-- The canonical form of a file is b exactly if the file is taken, and b are the bytes of its content and fit.
pub canonical_exactly : (have : ℕ) (s b : List ℕ) → (canonical have s ≡ taken b) ↔ ((c : Content) × (content_at s ≡ taken c) × (render c ≡ b) × (length b ≤ have))
unfolding canonical
canonical_exactly have s b = (
  λ h.
      let p = after_taken (content_at s) (λ c. fitting have (render c)) h in
      let q = fits_taken have (render p.0) p.2 in
      (p.0, p.1, q.1, omega (arith, q.0, ap length q.1)),
  λ (c, e, q, n). ap (λ r. after r (λ c. fitting have (render c))) e ∙ taken_fits have (render c) (omega (arith, ap length q)) ∙ ap taken q,
)

pub record Canonical (s b : List ℕ) : Type 0 where
  pub same : content_at b ≡ content_at s
  pub shorter : length b ≤ length s
  pub again : (have : ℕ) → length b ≤ have → canonical have b ≡ taken b

pub canonical_is : (have : ℕ) (s b : List ℕ) → canonical have s ≡ taken b → Canonical s b
canonical_is have s b h =
    let (c, e, q, n) = (canonical_exactly have s b).0 h in
    let k = content_is s c e in
    let r : content_at b ≡ taken c = rw q at (read_back c k.0) in
    record {
      same = r ∙ sym e;
      shorter = omega (arith, k.1, ap length q);
      again = λ room i. (canonical_exactly room b b).1 (c, r, q, i);
    }

-- Two files with the same content have the same canonical form, and no others do.
pub same-canonical : (have : ℕ) (s t : List ℕ) → content_at s ≡ content_at t → canonical have s ≡ canonical have t
unfolding canonical
same-canonical have s t e = ap (λ r. after r (λ c. fitting have (render c))) e

pub same_content : (have : ℕ) (s t b : List ℕ) → canonical have s ≡ taken b → canonical have t ≡ taken b → content_at s ≡ content_at t
same_content have s t b h k = sym (canonical_is have s b h).same ∙ (canonical_is have t b k).same

-- Savers that hand over the same devices and the same disks in other orders, and the same behind them, save the same content.
pub any_saver : (l m : List (List ℕ)) → IsFile l → Permᴰ (entries_in DEVICES devices l) (entries_in DEVICES devices m) → Permᴰ (entries_in DISKS disks l) (entries_in DISKS disks m)
    → tail_in DEVICES devices l ≡ tail_in DEVICES devices m → tail_in DISKS disks l ≡ tail_in DISKS disks m → flat tidy (keep is_other l) ≡ flat tidy (keep is_other m) → content_of l ≡ content_of m
any_saver l m v p q t u r =
    let a = entries_apart l v in
    cc (sort_unique devices.key p a.0, sort_unique disks.key q a.1)
