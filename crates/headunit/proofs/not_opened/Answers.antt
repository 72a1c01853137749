-- `headunit::not_opened` meets its contract.
-- Assumes nothing.
use Rattle.link.proofs.Replies.{reply_infos}
use Rattle.headunit.proofs.not_opened.Goals as goal

pub put_nak-requires : goal.put_nak-requires
put_nak-requires c = (c.requires.0, reply_infos.1)
