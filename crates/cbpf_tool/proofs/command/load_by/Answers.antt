use Rattle.std.proofs.Common.{sym, ◌∙◌, ap, arith, rules, codes}
use Rattle.cbpf_tool.specs.Commands.{load_words_by, load_capture_by}
use Rattle.cbpf_tool.proofs.CommandLemmas.{loads}
use Rattle.cbpf_tool.proofs.command.load_by.Goals as goal

pub returns-in-bpf : goal.returns-in-bpf
returns-in-bpf c = c.load_words_by.ensures ∙ ap load_words_by c.trimmed.ensures
    ∙ sym (loads c.args.text.now c.in_ok-kind.kind.now c.in_ok-kind.rest.now (codes "bpf")
    (c.in_ok-kind.ensures.words) (c.in_ok-kind.ensures.rest 0) (omega arith) (search rules))

pub returns-in-pcap : goal.returns-in-pcap
returns-in-pcap c = c.load_capture_by.ensures ∙ ap load_capture_by c.trimmed-in-pcap.ensures
    ∙ sym (loads c.args.text.now c.in_ok-kind.kind.now c.in_ok-kind.rest.now (codes "pcap")
    (c.in_ok-kind.ensures.words) (c.in_ok-kind.ensures.rest 0) (omega arith) (search rules))
