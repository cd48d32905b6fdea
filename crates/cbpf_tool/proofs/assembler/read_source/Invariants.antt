use Rattle.std.specs.Io.KnownBytes.{Consumes}
use Rattle.cbpf_tool.proofs.assembler.read_source.Given as goal

abbrev pub invariant-loop : goal.invariant-loop
invariant-loop g l = Consumes (g.R.Read.remaining l.fn.reader) (g.R.Read.remaining l.reader) l.source.items
