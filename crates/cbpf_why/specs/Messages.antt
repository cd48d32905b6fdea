-- What is said of a filter that is refused, and of a report that ended before its end (the texts are this project's own).
use Rattle.std.specs.Prelude.{ℕ, List, codes}
use Rattle.cbpf_code.specs.Messages.{check_message, word_message, write_fault}
use Rattle.cbpf_text.specs.Messages.{fault_text}
use Rattle.cbpf_why.specs.declared.filter.FilterFault.{FilterFault}
use Rattle.cbpf_why.specs.declared.filter.FilterFault.TheVariants as filter
use Rattle.cbpf_why.specs.declared.reporting.WhyFault.{WhyFault}
use Rattle.cbpf_why.specs.declared.reporting.WhyFault.TheVariants as why

-- what is wrong with the text of a filter
abbrev pub filter_message : FilterFault → List ℕ
filter_message (filter.Source fault at) = fault_text fault
filter_message (filter.Words fault) = word_message fault
filter_message (filter.Check fault) = check_message fault
filter_message filter.Memory = codes "out of memory"

-- why a report ended
abbrev pub why_message : WhyFault → List ℕ
why_message why.Read = codes "read fault"
why_message why.Write = write_fault
why_message why.Memory = codes "out of memory"
