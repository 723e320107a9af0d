use Rattle.edits.proofs.card_before.Goals as goal

pub returns-in-OfDevices : goal.returns-in-OfDevices
returns-in-OfDevices c = rw (c.in-OfDevices.is, c.list_length.ensures)

pub returns-in-OfDisks : goal.returns-in-OfDisks
returns-in-OfDisks c = rw c.in-OfDisks.is
