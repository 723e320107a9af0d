use Rattle.aipc.proofs.Walks.{read-formed, is_known, not_known}
use Rattle.messages.specs.Reading.{read_message, read_checks}
use borrow.Author.Tests.{le-leb, lt-leb}
use mathlib.Core.Path.{◌∙◌}
use Rattle.aipc.proofs.read.Goals as goal

pub returns-then-message-gt-MOST : goal.returns-then-message-gt-MOST
unfolding read_checks read_message
returns-then-message-gt-MOST c = rw (lt-leb _ _ c.if-message-gt-MOST.true)

pub returns-then-message-lt2 : goal.returns-then-message-lt2
unfolding read_checks read_message
returns-then-message-lt2 c = rw (le-leb _ _ c.if-message-gt-MOST.false, lt-leb _ _ c.if-message-lt2.true)

pub returns-then-not-f : goal.returns-then-not-f
unfolding read_checks read_message
returns-then-not-f c = rw (le-leb _ _ c.if-message-gt-MOST.false, le-leb _ _ c.if-message-lt2.false, ← c.said-said.ensures, ← c.form_of-f.ensures, not_known _ c.if-not-f.true)

pub returns : goal.returns
returns c = let a = c.args in
    c.known.ensures ∙ read-formed a.message.now _ _ c.said-said.ensures c.form_of-f.ensures c.if-message-gt-MOST.false c.if-message-lt2.false (is_known _ c.if-not-f.false)
