use Rattle.std.proofs.Common.{rules, Ok, Err, refl}
use Rattle.cbpf_tool.proofs.WhyLemmas.{ready-after}
use Rattle.cbpf_tool.proofs.why_on_host.why_job.Goals as goal

pub returns-in_err-program : goal.returns-in_err-program
returns-in_err-program g c = λ ready. record {
  mid = _;
  filter = Err c.in_err-program.field-0.0;
  opens = c.in_err-program.ensures ready.0;
  goes = (refl, search rules);
}

pub returns : goal.returns
returns g c = λ ready.
    let opens = c.in_ok-program.ensures ready.0 in
    record {
      mid = _;
      filter = Ok _;
      opens = opens;
      goes = c.report_by_name.ensures (ready-after _ _ _ _ opens ready);
    }
