use Rattle.std.proofs.Common.{arith}
use Rattle.cbpf_tool.proofs.LineLemmas.{nothing-pending, filled}
use Rattle.cbpf_tool.proofs.line_reader.LineReader.fill.Goals as goal

pub returns-clause-bytes : goal.returns-clause-bytes
returns-clause-bytes g c = λ bytes e. filled _ _ _ _ bytes c.refill.result
    (nothing-pending c.args.self.now.chunk c.args.self.now.start c.args.self.now.end (omega arith)) e
    c.refill.ensures.bytes
