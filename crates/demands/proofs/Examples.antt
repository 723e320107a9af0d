-- The examples, from those that each crate has by computation.
-- Assumes nothing.
use Rattle.aerosnap.proofs.Examples as file
use Rattle.messages.proofs.Examples as message
use Rattle.entries.proofs.Examples as entry
use mathlib.Core.Path.{ap}
use mathlib.Core.List.{List}
use Prim.Native.Nat.{ℕ}
use Rattle.answer.specs.Outcome.{Outcome}
use Rattle.cards.specs.declared.Card.{Card}
use Rattle.demands.specs.Examples.{Examples}
use Rattle.cards.proofs.Answers.{refused_beside}

pub examples : Examples
examples =
    let f = file.examples in
    let m = message.examples in
    record {
      P1 = f.P1;
      P1-sections = f.P1-sections;
      P1-devices = f.P1-devices;
      P1-disks = f.P1-disks;
      P2 = f.P2;
      P3 = f.P3;
      P4 = f.P4;
      P4-sections = f.P4-sections;
      P4-devices = f.P4-devices;
      P5 = f.P5;
      P5-devices = f.P5-devices;
      P6 = f.P6;
      P7 = λ k. ap (λ (o : Outcome (List ℕ × Card)). (0, o)) (refused_beside 1000 k _ _ f.P7);
      P8 = f.P8;
      P9 = f.P9;
      P9-canonical = f.P9-canonical;
      P10 = m.p10;
      P11 = m.p11;
      P12 = m.p12;
      P12-shape = m.p12_shape;
      P12-value = m.p12_value;
      P13 = (entry.p13).0;
      P13-stored = (entry.p13).1;
    }
