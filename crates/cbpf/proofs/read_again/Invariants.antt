use Rattle.std.specs.Io.KnownBytes.{Keeps}
use Rattle.cbpf.proofs.read_again.Given as goal

abbrev pub invariant-reads : goal.invariant-reads
invariant-reads g l = Keeps (g.R.Read.remaining l.fn.reader) (g.R.Read.remaining l.reader)
