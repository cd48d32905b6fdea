-- What the log of a host in memory says (this project's own).
use Rattle.cbpf_tool.specs.Hosted.{Event, opened, not_opened, created, not_created, wrote, printed}
use Rattle.cbpf_tests.specs.declared.done.Done.{Done}
use Rattle.cbpf_tests.specs.declared.done.Done.TheVariants.{Opened, NotOpened, Created, NotCreated, Wrote, Printed}

-- the event that one of the code's stands for
abbrev pub event : Done → Event
event (Opened name) = opened name.items
event (NotOpened name) = not_opened name.items
event (Created name) = created name.items
event (NotCreated name) = not_created name.items
event (Wrote name text) = wrote name.items text.items
event (Printed text) = printed text.items
