use Rattle.qfs_model_text.specs.Reply.{reply_words}
use Rattle.qfs_lines.proofs.reply.push_reply.Goals as goal

pub returns-in-SourceFailed : goal.returns-in-SourceFailed
unfolding reply_words
returns-in-SourceFailed c = rw c.in-SourceFailed.is c.push_failed-in-SourceFailed.ensures

pub returns-in-Rebalanced : goal.returns-in-Rebalanced
unfolding reply_words
returns-in-Rebalanced c = rw c.in-Rebalanced.is c.push_tally-in-Rebalanced.ensures

pub returns-in-Recovered : goal.returns-in-Recovered
returns-in-Recovered c = rw c.in-Recovered.is c.push_recovered.ensures

pub returns-in-Moved : goal.returns-in-Moved
returns-in-Moved c = rw c.in-Moved.is c.push_moved.ensures

pub returns-in-HealNoServer : goal.returns-in-HealNoServer
unfolding reply_words
returns-in-HealNoServer c = rw c.in-HealNoServer.is c.push_unserved.ensures

pub returns-in-EvacNoServer : goal.returns-in-EvacNoServer
unfolding reply_words
returns-in-EvacNoServer c = rw c.in-EvacNoServer.is c.push_unserved-in-EvacNoServer.ensures
