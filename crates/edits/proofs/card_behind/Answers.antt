use Rattle.edits.proofs.card_behind.Goals as goal

pub returns-in-OfDevices : goal.returns-in-OfDevices
returns-in-OfDevices c = rw c.in-OfDevices.is

pub returns-in-OfDisks : goal.returns-in-OfDisks
returns-in-OfDisks c = rw c.in-OfDisks.is
