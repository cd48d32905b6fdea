use Rattle.std.proofs.Common.{arith, string_bytes}
use Rattle.std.specs.Option.{option_map}
use Rattle.cbpf_code.proofs.WrittenLemmas.{loop-next, loop-stop, err-exit}
use Rattle.cbpf_tool.specs.Remarks.{lacking, lacking_line}
use Rattle.cbpf_tool.proofs.remarks.write_lacking_lines.Goals as goal

pub loop-range-preserved : goal.loop-range-preserved
loop-range-preserved g c = loop-next
    (λ range. lacking_line (option_map (λ n. string_bytes n) c.args.capture.now) (lacking c.args.count range))
    c.args.ranges.now c.loop-range.range-index (record { first = 0; last = 0 }) _ _ _ (omega arith)
    c.loop-range.invariant (rw c.lacking.ensures at c.in_ok-write_lacking_line.ensures)

pub returns-in_err-write_lacking_line : goal.returns-in_err-write_lacking_line
returns-in_err-write_lacking_line g c = err-exit _ _ _ _ c.from_residual.ensures.0 (loop-stop
    (λ range. lacking_line (option_map (λ n. string_bytes n) c.args.capture.now) (lacking c.args.count range))
    c.args.ranges.now c.loop-range.range-index (record { first = 0; last = 0 }) _ _ _ (omega arith)
    c.loop-range.invariant (rw c.lacking.ensures at c.in_err-write_lacking_line.ensures))
