-- The wrong answers of document 01's list are none: by examples that no such program can answer, and by the length that an entry adds.
-- Assumes nothing.
use mathlib.Core.Path.{◌≡◌, refl, sym, ap, ◌∙◌}
use mathlib.Core.Logic.{◌≢◌}
use mathlib.Core.List.{List, [], ◌∷◌, ◌++◌}
use Prim.Native.Nat.{ℕ, suc, ◌<◌, ◌≤◌}
use native.Mathlib.Omega.{arith}
use lib.ListN.{length, take, drop, get_or, replicate, length-replicate}
use lib.Seq.{take-append_seam}
use Rattle.answer.specs.declared.Answer.{Answer}
use Rattle.answer.specs.Outcome.{Outcome, taken}
use Rattle.answer.specs.Calls.{verdict, answer, memory}
use Rattle.answer.proofs.Outcomes.{taken_is}
use Rattle.wire.specs.Numbers.{le, le_at, bytes_of}
use Rattle.format.specs.Format.{read}
use Rattle.order.specs.Keyed.{insert, has}
use Rattle.order.specs.Entries.{split}
use Rattle.lists.specs.Lists.{entry_at, walk, list_at}
use Rattle.aerosnap.specs.Payloads.{payload}
use Rattle.aerosnap.specs.File.{ruled, section_of, sections, file_of}
use Rattle.aerosnap.specs.Content.{Content, content_at, render, IsCanonical}
use Rattle.aerosnap.specs.Adding.{Item, device, disk, Wide, list_in, entry_of}
use Rattle.aerosnap.proofs.Items.{with_item}
use Rattle.aerosnap.specs.Edits.{Edit, add, Call, edit_to}
use Rattle.aerosnap.specs.Calls.{canonical_call}
use Rattle.aerosnap.proofs.Canonical.{canonical_exactly}
use Rattle.aerosnap.proofs.Added.{add_exactly, grows}
use Rattle.aerosnap.proofs.AnyOrder.{call_gives}
use Rattle.cards.specs.declared.Card.{Card}
use Rattle.cards.specs.declared.Edited.{Edited}
use Rattle.cards.specs.Cards.{edit_card_to, edit_card, bytes_beside, answer_beside}
use Rattle.dskc.specs.Wrapper as wrapped
use Rattle.dskc.proofs.Examples as wrapper
use Rattle.kinds.specs.declared.Message.{Message}
use Rattle.kinds.specs.declared.Message.TheVariants.{Shutdown, PortReadResp}
use Rattle.kinds.specs.Kinds.{paper}
use Rattle.messages.specs.declared.Reading.{Reading}
use Rattle.messages.specs.Writing.{field_bytes, form_bytes, value_checks, write_checks, written, write_message}
use Rattle.numbers.specs.declared.Numbers.{Numbers}
use Rattle.numbers.specs.Numbers.{message_of, write_numbers}
use Rattle.demands.specs.Examples.{empty, u32_bytes, with_devices, one_byte, two_bytes, fourteen_three, three_fourteen, no_devices}
use Rattle.demands.specs.RuledOut.{Program, Takes, output, Useful, RuledOut, EditProgram, TakesEdit, edit_output, RunsBeside, RuledOutBeside}
use Rattle.demands.proofs.Examples.{examples}
use Rattle.demands.proofs.Beside.{bare_call}
use Rattle.demands.proofs.Demand3.{demand3}

-- ---- programs that meet a promise

-- what is to be taken is taken, and what is to be written is written
module _ {I : Type 0} {call : ℕ → I → Outcome (List ℕ)} (P : Program call) (i : I) (old : List ℕ) {b : List ℕ} (e : call (length old) i ≡ taken b) where
  its_answer : P.answers i old ≡ record { number = 0; place = length b }
  its_answer = (P.meets i old).answers ∙ ap answer e

  its_place : (P.answers i old).place ≡ length b
  its_place = ap (λ (a : Answer). a.place) its_answer

  its_output : output P i old ≡ b
  its_output =
      let m : P.leaves i old ≡ b ++ drop (length b) old = (P.meets i old).leaves ∙ ap (λ (o : Outcome (List ℕ)). memory o old) e in
      rw (its_place, m) (take-append_seam b (drop (length b) old))

  made : Takes P i old × ((P.answers i old).place ≡ length b) × (output P i old ≡ b)
  made = (ap (λ (a : Answer). a.number) its_answer, its_place, its_output)

-- lent memory of a length
abbrev lent : ℕ → List ℕ
lent n = replicate n 0

-- a call that writes b of i and d of j, where b is neither d nor the input
module _ {I : Type 0} (call : ℕ → I → Outcome (List ℕ)) (input : I → List ℕ) (n : ℕ) (i : I) (b : List ℕ) (e : call n i ≡ taken b) (m : ℕ) (j : I) (d : List ℕ) (f : call m j ≡ taken d)
    (differ : b ≢ d) (moves : b ≢ input i) where
  one : (P : Program call) → Takes P i (lent n) × ((P.answers i (lent n)).place ≡ length b) × (output P i (lent n) ≡ b)
  one P = made P i (lent n) (ap (λ (k : ℕ). call k i) (length-replicate n 0) ∙ e)

  other : (P : Program call) → Takes P j (lent m) × ((P.answers j (lent m)).place ≡ length d) × (output P j (lent m) ≡ d)
  other P = made P j (lent m) (ap (λ (k : ℕ). call k j) (length-replicate m 0) ∙ f)

  useful : Useful call input
  useful = record {
    refuses_everything = λ P h. h i (lent n) (one P).0;
    one_fixed_output = λ P c h. differ (sym (one P).2 ∙ h i (lent n) (one P).0 ∙ sym (h j (lent m) (other P).0) ∙ (other P).2);
    copies_its_input = λ P h. moves (sym (one P).2 ∙ h i (lent n) (one P).0);
    made_up_length = λ P k old c g. made P k old g;
  }

-- lists of different lengths
longs : {b d : List ℕ} → length b ≢ length d → b ≢ d
longs h e = h (ap length e)

-- ---- writers

file_useful : Useful canonical_call (λ file. file)
file_useful =
    useful canonical_call (λ file. file) 16 no_devices empty examples.P9-canonical 71 fourteen_three three_fourteen examples.P5
    (longs (λ (z : ◌≡◌ {A = ℕ} 16 71). omega arith)) (longs (λ (z : ◌≡◌ {A = ℕ} 16 36). omega arith))

abbrev no_controllers : List ℕ
no_controllers = wrapped.wrapper_header ++ (0 ∷ 0 ∷ 0 ∷ 0 ∷ [])

-- bus 1 before bus 0, and in address order
abbrev far : List ℕ
far = 0 ∷ 1 ∷ 0 ∷ 0 ∷ 73 ∷ 68 ∷ 69 ∷ 48 ∷ 1 ∷ 0 ∷ 0 ∷ 0 ∷ 17 ∷ []

abbrev near : List ℕ
near = 250 ∷ 0 ∷ 0 ∷ 0 ∷ 65 ∷ 72 ∷ 67 ∷ 73 ∷ 2 ∷ 0 ∷ 0 ∷ 0 ∷ 171 ∷ 205 ∷ []

abbrev two : List ℕ → List ℕ → List ℕ
two e f = wrapped.wrapper_header ++ (2 ∷ 0 ∷ 0 ∷ 0 ∷ (e ++ f))

wrapper_useful : Useful wrapped.wrapper_canonical_call (λ wrapper. wrapper)
wrapper_useful =
    useful wrapped.wrapper_canonical_call (λ w. w) 47 (two far near) (two near far) (wrapper.examples).canonical 20 no_controllers no_controllers (wrapper.examples).none
    (longs (λ (z : ◌≡◌ {A = ℕ} 47 20). omega arith)) (λ e. let z : ◌≡◌ {A = ℕ} 250 0 = ap (λ (l : List ℕ). get_or l 20 0) e in omega arith)

abbrev value15 : List ℕ
value15 = 0x01 ∷ 0x11 ∷ 0x07 ∷ 0x00 ∷ 0x00 ∷ 0x00 ∷ 0x0F ∷ 0x00 ∷ 0x00 ∷ 0x00 ∷ []

abbrev by_kind : ℕ → Message × List ℕ → Outcome (List ℕ)
by_kind have i = write_message i.0 i.1 have

message_useful : Useful by_kind (λ i. i.1)
unfolding write_message write_checks written form_bytes field_bytes value_checks bytes_of paper
message_useful =
    useful by_kind (λ i. i.1) 10 (PortReadResp 7 15, []) value15 refl 2 (Shutdown, []) (1 ∷ 0 ∷ []) refl
    (longs (λ (z : ◌≡◌ {A = ℕ} 10 2). omega arith)) (longs (λ (z : ◌≡◌ {A = ℕ} 10 0). omega arith))

abbrev by_numbers : ℕ → Numbers × List ℕ → Outcome (List ℕ)
by_numbers have i = write_numbers i.0 i.1 have

numbers_useful : Useful by_numbers (λ i. i.1)
unfolding write_numbers message_of write_message write_checks written form_bytes field_bytes value_checks bytes_of paper
numbers_useful =
    useful by_numbers (λ i. i.1) 10 (record { tag = 0x1101; a = 7; b = 15; c = 0; d = 0 }, []) value15 refl 2 (record { tag = 1; a = 0; b = 0; c = 0; d = 0 }, []) (1 ∷ 0 ∷ []) refl
    (longs (λ (z : ◌≡◌ {A = ℕ} 10 2). omega arith)) (longs (λ (z : ◌≡◌ {A = ℕ} 10 0). omega arith))

-- ---- adds

-- an entry is not empty, so a file with one more is longer
entry_long : (x : Item) → 1 ≤ length (entry_of x)
unfolding bytes_of
entry_long (device id v f p) = omega arith
entry_long (disk id x y) = omega arith

call_new : (have : ℕ) (s : List ℕ) (x : Item) (b : List ℕ) → Call have s x b → content_at b ≢ content_at s
call_new have s x b k e =
    let g = call_gives have s x b k in
    let q : with_item x g.old ≡ g.old = taken_is (sym g.content_is ∙ e ∙ g.read) in
    let n : suc (length (list_in x g.old)) ≡ length (list_in x g.old) = sym (grows x g.old).count ∙ ap (λ (c : Content). length (list_in x c)) q in
    omega arith

call_longer : (have : ℕ) (s : List ℕ) (x : Item) (b : List ℕ) → IsCanonical s → Call have s x b → length s < length b
call_longer have s x b o k =
    let (c, e, q, n) = (canonical_exactly (length s) s s).0 o in
    let (d, f, p, r) = (add_exactly have s x b).0 k.accepts in
    let w : d ≡ c = taken_is (sym f ∙ e) in
    let z : length (render (with_item x d)) ≡ length b = ap length r in
    let y : length (render d) ≡ length s = ap (λ (c : Content). length (render c)) w ∙ ap length q in
    omega (arith, (grows x d).size, entry_long x)

pub ruled_out : RuledOut
ruled_out = record {
  reader = λ read promise h. h empty (ap (λ (a : Answer). a.number) (promise empty ∙ ap verdict examples.P1));
  wrapper_reader = λ read promise h. h (two far near) (ap (λ (a : Answer). a.number) (promise (two far near) ∙ ap verdict (wrapper.examples).taken_so));
  message_reader = λ read promise h. h _ (ap (λ (a : Reading). a.number) (promise _ ∙ examples.P10));
  canonical = file_useful;
  wrapper_canonical = wrapper_useful;
  message_write = message_useful;
  numbers_write = numbers_useful;
}

-- ---- edits beside a card

module _ (P : EditProgram) where
  edit_made : (k : Card) (s : List ℕ) (e : Edit) (old b : List ℕ) (j : Card) → edit_card (length old) k s e ≡ taken (b, j)
      → TakesEdit P k s e old × ((P.answers k s e old).place ≡ length b) × (edit_output P k s e old ≡ b) × ((P.answers k s e old).card ≡ j)
  edit_made k s e old b j h =
      let i : P.answers k s e old ≡ answer_beside k 0 (taken (b, j)) = (P.meets k s e old).answers ∙ ap (answer_beside k 0) h in
      let m : P.leaves k s e old ≡ b ++ drop (length b) old = (P.meets k s e old).leaves ∙ ap (λ (o : Outcome (List ℕ × Card)). memory (bytes_beside o) old) h in
      let p : (P.answers k s e old).place ≡ length b = ap (λ (r : Edited). r.place) i in
      (ap (λ (r : Edited). r.number) i, p, ap (λ (n : ℕ). take n (P.leaves k s e old)) p ∙ ap (take (length b)) m ∙ take-append_seam b (drop (length b) old), ap (λ (r : Edited). r.card) i)

  -- what the program does is a call
  edit_called : (k : Card) (s : List ℕ) (x : Item) (old : List ℕ) → Wide x → TakesEdit P k s (add x) old → Call (length old) s x (edit_output P k s (add x) old)
  edit_called k s x old w h = bare_call (demand3.made s k (add x) old (P.leaves k s (add x) old) (P.answers k s (add x) old) w (P.meets k s (add x) old) h)

  runs_grow : (l : List (List ℕ × Item)) (s : List ℕ) (k : Card) (b : List ℕ) → IsCanonical s → RunsBeside P s k l b → length s ≤ length b
  runs_grow [] s k b o h = omega (arith, ap length h)
  runs_grow (q ∷ l) s k b o (w, t, h) =
      let c = edit_called k s q.1 q.0 w t in
      let i = (call_gives (length q.0) s q.1 (edit_output P k s (add q.1) q.0) c).canonical_is in
      omega (arith, call_longer (length q.0) s q.1 (edit_output P k s (add q.1) q.0) o c, runs_grow l (edit_output P k s (add q.1) q.0) (P.answers k s (add q.1) q.0).card b i h)

  handed_on : (k : Card) (s b : List ℕ) (p q : List ℕ × Item) (l : List (List ℕ × Item)) → IsCanonical s → RunsBeside P s k (p ∷ q ∷ l) b → edit_output P k s (add p.1) p.0 ≢ b
  handed_on k s b p q l o (w, t, (v, u, h)) e =
      let a : List ℕ = edit_output P k s (add p.1) p.0 in
      let j : Card = (P.answers k s (add p.1) p.0).card in
      let i = (call_gives (length p.0) s p.1 a (edit_called k s p.1 p.0 w t)).canonical_is in
      let c = edit_called j a q.1 q.0 v u in
      let d : List ℕ = edit_output P j a (add q.1) q.0 in
      omega (arith, call_longer (length q.0) a q.1 d i c, runs_grow l d (P.answers j a (add q.1) q.0).card b (call_gives (length q.0) a q.1 d c).canonical_is h, ap length e)

-- the same two adds to the empty file, beside its true card
abbrev nothing_so_far : Card
nothing_so_far = record { length = 16; sections = 0; devices = 0; payloads = 0 }

abbrev three : Edit
three = add (device 3 1 0 (0xAB ∷ 0xCD ∷ []))

abbrev fourteen : Edit
fourteen = add (device 14 1 0 (0x11 ∷ []))

three_added : edit_card 54 nothing_so_far empty three ≡ taken (with_devices 22 (u32_bytes 1 ++ two_bytes 3), record { length = 54; sections = 1; devices = 1; payloads = 2 })
unfolding le_at le bytes_of insert has read split entry_at walk list_at payload ruled section_of sections file_of edit_to edit_card edit_card_to
three_added = refl

fourteen_added : edit_card 53 nothing_so_far empty fourteen ≡ taken (with_devices 21 (u32_bytes 1 ++ one_byte 14), record { length = 53; sections = 1; devices = 1; payloads = 1 })
unfolding le_at le bytes_of insert has read split entry_at walk list_at payload ruled section_of sections file_of edit_to edit_card edit_card_to
fourteen_added = refl

module _ (P : EditProgram) where
  one_edit : TakesEdit P nothing_so_far empty three (lent 54) × ((P.answers nothing_so_far empty three (lent 54)).place ≡ 54) × (edit_output P nothing_so_far empty three (lent 54) ≡ with_devices 22 (u32_bytes 1 ++ two_bytes 3))
      × ((P.answers nothing_so_far empty three (lent 54)).card ≡ record { length = 54; sections = 1; devices = 1; payloads = 2 })
  one_edit = edit_made P nothing_so_far empty three (lent 54) (with_devices 22 (u32_bytes 1 ++ two_bytes 3)) (record { length = 54; sections = 1; devices = 1; payloads = 2 }) (ap (λ (n : ℕ). edit_card n nothing_so_far empty three) (length-replicate {A = ℕ} 54 0) ∙ three_added)

  other_edit : TakesEdit P nothing_so_far empty fourteen (lent 53) × ((P.answers nothing_so_far empty fourteen (lent 53)).place ≡ 53) × (edit_output P nothing_so_far empty fourteen (lent 53) ≡ with_devices 21 (u32_bytes 1 ++ one_byte 14))
      × ((P.answers nothing_so_far empty fourteen (lent 53)).card ≡ record { length = 53; sections = 1; devices = 1; payloads = 1 })
  other_edit = edit_made P nothing_so_far empty fourteen (lent 53) (with_devices 21 (u32_bytes 1 ++ one_byte 14)) (record { length = 53; sections = 1; devices = 1; payloads = 1 }) (ap (λ (n : ℕ). edit_card n nothing_so_far empty fourteen) (length-replicate {A = ℕ} 53 0) ∙ fourteen_added)

pub ruled_out_beside : RuledOutBeside
ruled_out_beside = record {
  refuses_everything = λ P h. h nothing_so_far empty three (lent 54) (one_edit P).0;
  one_fixed_output = λ P c h.
      longs (λ (z : ◌≡◌ {A = ℕ} 54 53). omega arith) (sym (one_edit P).2 ∙ h nothing_so_far empty three (lent 54) (one_edit P).0 ∙ sym (h nothing_so_far empty fourteen (lent 53) (other_edit P).0) ∙ (other_edit P).2);
  copies_its_input = λ P h. longs (λ (z : ◌≡◌ {A = ℕ} 54 16). omega arith) (sym (one_edit P).2 ∙ h nothing_so_far empty three (lent 54) (one_edit P).0);
  same_card = λ P h. let z : ◌≡◌ {A = ℕ} 54 16 = ap (λ (k : Card). k.length) (sym (one_edit P).3 ∙ h nothing_so_far empty three (lent 54) (one_edit P).0) in omega arith;
  made_up = edit_made;
  does_nothing = λ P k s x old w h. call_new (length old) s x (edit_output P k s (add x) old) (edit_called P k s x old w h);
  longer = λ P k s x old o w h. call_longer (length old) s x (edit_output P k s (add x) old) o (edit_called P k s x old w h);
  passed_on = handed_on;
}
