use Rattle.messages.proofs.Tags.{command_said, reply_said, notice_said}
use Rattle.messages.proofs.said.Goals as goal

pub returns-then-tag-lt-ACK : goal.returns-then-tag-lt-ACK
returns-then-tag-lt-ACK c = command_said _ c.u16_at-tag.ensures c.if-tag-lt-ACK.true c.command.ensures

pub returns-then-tag-lt-FRAME_READY : goal.returns-then-tag-lt-FRAME_READY
returns-then-tag-lt-FRAME_READY c = reply_said _ c.u16_at-tag.ensures c.if-tag-lt-ACK.false c.if-tag-lt-FRAME_READY.true c.reply.ensures

pub returns : goal.returns
returns c = notice_said _ c.u16_at-tag.ensures c.if-tag-lt-FRAME_READY.false c.notice.ensures
