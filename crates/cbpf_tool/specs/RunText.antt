-- The text of a RunReply: the dump of a stop, or the counts.
use Rattle.std.specs.Prelude.{ℕ, List}
use Rattle.cbpf_dbg.specs.Shown.{stop_text}
use Rattle.cbpf_dbg.specs.View.{View}
use Rattle.cbpf_reply.specs.Counts.{limit_text, finished_text}
use Rattle.cbpf_reply.specs.declared.reply.RunReply.{RunReply}
use Rattle.cbpf_reply.specs.declared.reply.RunReply.TheVariants.{Stopped, Limit, Finished}

-- by the view after it
unfoldable pub run_text : RunReply → View → List ℕ
run_text (Stopped stop) m = stop_text m stop
run_text (Limit n) m = limit_text n m.place.packet
run_text (Finished n) m = finished_text n
