use Rattle.edits.proofs.Sites.{first_few, site_none, site_found, here_fits, site_lasts}
use Rattle.aerosnap.proofs.Standing.{end_at}
use Rattle.aerosnap.specs.File.{file_most}
use Rattle.aerosnap.specs.Content.{id_at}
use lib.ListN.{length, get_or}
use mathlib.Core.Path.{◌≡◌, ap}
use Prim.Native.Nat.{ℕ, ◌+◌, ◌≤◌}
use native.Mathlib.Omega.{arith}
use Rattle.edits.proofs.site_at.Goals as goal

pub overflow_cast-at : goal.overflow_cast-at
overflow_cast-at c = omega (arith, c.type_inv.index c.id_at-k.result)

pub returns-then-at-eq0 : goal.returns-then-at-eq0
returns-then-at-eq0 c =
    let at : ℕ = get_or c.args.index.now c.id_at-k.result 0 in
    let first : ℕ = get_or c.args.index.now (c.id_at-k.result + 8) 0 in
    let places : let a = c.args in (at ≡ get_or a.index.now (id_at a.side) 0) × (first ≡ get_or a.index.now (id_at a.side + 8) 0) = let index = c.args.index.now in
    let e = c.id_at-k.ensures.0 in
    (ap (λ (k : ℕ). get_or index k 0) e, ap (λ (k : ℕ). get_or index (k + 8) 0) e) in
    site_none c.args.side c.requires (places).0 c.if-at-eq0.true

pub overflow_add-begin : goal.overflow_add-begin
overflow_add-begin c =
    let at : ℕ = get_or c.args.index.now c.id_at-k.result 0 in
    let first : ℕ = get_or c.args.index.now (c.id_at-k.result + 8) 0 in
    let places : let a = c.args in (at ≡ get_or a.index.now (id_at a.side) 0) × (first ≡ get_or a.index.now (id_at a.side + 8) 0) = let index = c.args.index.now in
    let e = c.id_at-k.ensures.0 in
    (ap (λ (k : ℕ). get_or index k 0) e, ap (λ (k : ℕ). get_or index (k + 8) 0) e) in
    let fits : let s = c.args.file.now in (end_at s (at) ≤ length s) × (length s ≤ file_most) = here_fits c.args.side c.requires (places).0 c.if-at-eq0.false in
    omega (arith, (fits).0, (fits).1)

pub overflow_add-at : goal.overflow_add-at
overflow_add-at c =
    let at : ℕ = get_or c.args.index.now c.id_at-k.result 0 in
    let first : ℕ = get_or c.args.index.now (c.id_at-k.result + 8) 0 in
    let places : let a = c.args in (at ≡ get_or a.index.now (id_at a.side) 0) × (first ≡ get_or a.index.now (id_at a.side + 8) 0) = let index = c.args.index.now in
    let e = c.id_at-k.ensures.0 in
    (ap (λ (k : ℕ). get_or index k 0) e, ap (λ (k : ℕ). get_or index (k + 8) 0) e) in
    let fits : let s = c.args.file.now in (end_at s (at) ≤ length s) × (length s ≤ file_most) = here_fits c.args.side c.requires (places).0 c.if-at-eq0.false in
    omega (arith, (fits).0, (fits).1)

pub overflow_add-end : goal.overflow_add-end
overflow_add-end c =
    let at : ℕ = get_or c.args.index.now c.id_at-k.result 0 in
    let first : ℕ = get_or c.args.index.now (c.id_at-k.result + 8) 0 in
    let places : let a = c.args in (at ≡ get_or a.index.now (id_at a.side) 0) × (first ≡ get_or a.index.now (id_at a.side + 8) 0) = let index = c.args.index.now in
    let e = c.id_at-k.ensures.0 in
    (ap (λ (k : ℕ). get_or index k 0) e, ap (λ (k : ℕ). get_or index (k + 8) 0) e) in
    let fits : let s = c.args.file.now in (end_at s (at) ≤ length s) × (length s ≤ file_most) = here_fits c.args.side c.requires (places).0 c.if-at-eq0.false in
    let ends : at + (16 + c.u64_at.result) ≡ end_at c.args.file.now (at) = ap (λ (n : ℕ). at + (16 + n)) c.u64_at.ensures in
    let f = fits in omega (arith, f.0, f.1, ends)

pub overflow_add-end-2 : goal.overflow_add-end-2
overflow_add-end-2 c =
    let at : ℕ = get_or c.args.index.now c.id_at-k.result 0 in
    let first : ℕ = get_or c.args.index.now (c.id_at-k.result + 8) 0 in
    let places : let a = c.args in (at ≡ get_or a.index.now (id_at a.side) 0) × (first ≡ get_or a.index.now (id_at a.side + 8) 0) = let index = c.args.index.now in
    let e = c.id_at-k.ensures.0 in
    (ap (λ (k : ℕ). get_or index k 0) e, ap (λ (k : ℕ). get_or index (k + 8) 0) e) in
    let fits : let s = c.args.file.now in (end_at s (at) ≤ length s) × (length s ≤ file_most) = here_fits c.args.side c.requires (places).0 c.if-at-eq0.false in
    let ends : at + (16 + c.u64_at.result) ≡ end_at c.args.file.now (at) = ap (λ (n : ℕ). at + (16 + n)) c.u64_at.ensures in
    let f = fits in omega (arith, f.0, f.1, ends)

pub overflow_cast-first : goal.overflow_cast-first
overflow_cast-first c = omega (arith, c.type_inv.index (c.id_at-k.result + 8))

pub overflow_add-last : goal.overflow_add-last
overflow_add-last c =
    let at : ℕ = get_or c.args.index.now c.id_at-k.result 0 in
    let first : ℕ = get_or c.args.index.now (c.id_at-k.result + 8) 0 in
    let places : let a = c.args in (at ≡ get_or a.index.now (id_at a.side) 0) × (first ≡ get_or a.index.now (id_at a.side + 8) 0) = let index = c.args.index.now in
    let e = c.id_at-k.ensures.0 in
    (ap (λ (k : ℕ). get_or index k 0) e, ap (λ (k : ℕ). get_or index (k + 8) 0) e) in
    omega (arith, first_few c.args.side c.requires (places).0 c.if-at-eq0.false (places).1)

pub offset_bounds-index-first : goal.offset_bounds-index-first
offset_bounds-index-first c =
    let first : ℕ = get_or c.args.index.now (c.id_at-k.result + 8) 0 in
    let at : ℕ = get_or c.args.index.now c.id_at-k.result 0 in
    let places : let a = c.args in (at ≡ get_or a.index.now (id_at a.side) 0) × (first ≡ get_or a.index.now (id_at a.side + 8) 0) = let index = c.args.index.now in
    let e = c.id_at-k.ensures.0 in
    (ap (λ (k : ℕ). get_or index k 0) e, ap (λ (k : ℕ). get_or index (k + 8) 0) e) in
    let lasts : first + c.u32_at.result ≤ length c.args.index.now = site_lasts c.args.side c.requires (places).0 c.if-at-eq0.false (places).1 c.u32_at.ensures in
    omega (arith, lasts)

pub slice_bounds-in_order-end : goal.slice_bounds-in_order-end
slice_bounds-in_order-end c =
    let first : ℕ = get_or c.args.index.now (c.id_at-k.result + 8) 0 in
    let at : ℕ = get_or c.args.index.now c.id_at-k.result 0 in
    let places : let a = c.args in (at ≡ get_or a.index.now (id_at a.side) 0) × (first ≡ get_or a.index.now (id_at a.side + 8) 0) = let index = c.args.index.now in
    let e = c.id_at-k.ensures.0 in
    (ap (λ (k : ℕ). get_or index k 0) e, ap (λ (k : ℕ). get_or index (k + 8) 0) e) in
    let lasts : first + c.u32_at.result ≤ length c.args.index.now = site_lasts c.args.side c.requires (places).0 c.if-at-eq0.false (places).1 c.u32_at.ensures in
    lasts

pub returns : goal.returns
returns c =
    let at : ℕ = get_or c.args.index.now c.id_at-k.result 0 in
    let first : ℕ = get_or c.args.index.now (c.id_at-k.result + 8) 0 in
    let places : let a = c.args in (at ≡ get_or a.index.now (id_at a.side) 0) × (first ≡ get_or a.index.now (id_at a.side + 8) 0) = let index = c.args.index.now in
    let e = c.id_at-k.ensures.0 in
    (ap (λ (k : ℕ). get_or index k 0) e, ap (λ (k : ℕ). get_or index (k + 8) 0) e) in
    let ends : at + (16 + c.u64_at.result) ≡ end_at c.args.file.now (at) = ap (λ (n : ℕ). at + (16 + n)) c.u64_at.ensures in
    site_found c.args.side c.requires (places).0 c.if-at-eq0.false (places).1 c.u32_at.ensures (ends) c.in_order.ensures
