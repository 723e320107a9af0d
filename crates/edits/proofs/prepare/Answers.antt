use Rattle.answer.proofs.Outcomes.{handed_on}
use Rattle.edits.proofs.Tabled.{own_keys, begins_modest, rows_reach, passed_sorted, prepared, prepared_short}
use Rattle.edits.proofs.Totals.{totals, stops}
use Rattle.wire.specs.Numbers.{Bytes}
use Rattle.aerosnap.specs.Content.{content_of, secs, render}
use Rattle.sections.specs.Walks.{sections_in}
use Rattle.sections.proofs.Directed.{whole-held}
use mathlib.Core.Path.{◌≡◌}
use lib.ListN.{length}
use native.Mathlib.Omega.{arith}
use Rattle.edits.proofs.prepare.Goals as goal

pub ask_rows-requires : goal.ask_rows-requires
ask_rows-requires c =
    let numbers : let s = c.args.file.now in (c.sized-old.result.sections ≡ length (secs (content_of (sections_in s)))) × (c.sized-old.result.bytes ≡ length (render (content_of (sections_in s)))) = rw (whole-held c.requires.0) at c.sized-old.ensures in
    let bytes : Bytes c.args.table.now = λ j. omega (arith, c.type_inv.table j) in
    let m = begins_modest c.requires.0.read c.requires.1 (numbers).0 (numbers).1 in
    (c.requires.0.read, c.requires.1, own_keys c.args.table.now (bytes) c.row_starts.ensures (λ i a b. omega (arith, rows_reach c.requires.2 i a b, c.row_starts.auto.starts)) c.arrange-r.ensures, m.0, m.1)

pub returns-in_err-grown : goal.returns-in_err-grown
returns-in_err-grown c = let a = c.args in
    let numbers : let s = c.args.file.now in (c.sized-old.result.sections ≡ length (secs (content_of (sections_in s)))) × (c.sized-old.result.bytes ≡ length (render (content_of (sections_in s)))) = rw (whole-held c.requires.0) at c.sized-old.ensures in
    let bytes : Bytes c.args.table.now = λ j. omega (arith, c.type_inv.table j) in
    rw (handed_on _ c.in_err-grown.field-0.0 c.from_residual.ensures.1) (stops c.requires.0.read c.requires.1 numbers.0 numbers.1 a.have a.store.now a.table.now bytes c.in_err-grown.ensures.0, c.in_err-grown.ensures.1)

pub stand_at-requires : goal.stand_at-requires
stand_at-requires c = let p = c.in_ok-grown.ensures in (p.modest, p.many)

pub returns-in_err-stand_at : goal.returns-in_err-stand_at
returns-in_err-stand_at c = let a = c.args in
    let numbers : let s = c.args.file.now in (c.sized-old.result.sections ≡ length (secs (content_of (sections_in s)))) × (c.sized-old.result.bytes ≡ length (render (content_of (sections_in s)))) = rw (whole-held c.requires.0) at c.sized-old.ensures in
    let bytes : Bytes c.args.table.now = λ j. omega (arith, c.type_inv.table j) in
    let p = c.in_ok-grown.ensures in
    let z = totals c.requires.0.read c.requires.1 numbers.0 numbers.1 a.have a.store.now a.table.now bytes p in
    let f = c.in_err-stand_at.field-0.0 in
    rw (handed_on _ (record { index = 0; fault = f }) c.from_residual-in_err-stand_at.ensures.1)
    (prepared_short a.table.now bytes c.requires.0 c.requires.1 z p.modest numbers.0 numbers.1 (passed_sorted c.row_starts.ensures c.requires.2 c.row_starts.auto.starts c.arrange-r.ensures p) f c.in_err-stand_at.ensures)

pub returns : goal.returns
returns c = let a = c.args in
    let numbers : let s = c.args.file.now in (c.sized-old.result.sections ≡ length (secs (content_of (sections_in s)))) × (c.sized-old.result.bytes ≡ length (render (content_of (sections_in s)))) = rw (whole-held c.requires.0) at c.sized-old.ensures in
    let bytes : Bytes c.args.table.now = λ j. omega (arith, c.type_inv.table j) in
    let p = c.in_ok-grown.ensures in
    let z = totals c.requires.0.read c.requires.1 numbers.0 numbers.1 a.have a.store.now a.table.now bytes p in
    prepared a.table.now bytes c.requires.0 c.requires.1 z p.modest numbers.0 numbers.1 (passed_sorted c.row_starts.ensures c.requires.2 c.row_starts.auto.starts c.arrange-r.ensures p) c.in_ok-stand_at.field-0 c.in_ok-stand_at.ensures
