use Rattle.std.proofs.Common.{rules, sym, ◌∙◌, refl}
use Rattle.std.proofs.lemmas.List.Elements.{All-more}
use Rattle.std.proofs.lemmas.Option.{slice_get-get_or}
use Rattle.cbpf_code.specs.WordForm.{InRange}
use Rattle.cbpf_code.proofs.FaultLemmas.{passes_before-next, own_fault, first_fault-insn, well_formed-at_end, zero_insn}
use Rattle.cbpf_code.proofs.checker.first_fault.Goals as goal

pub loop-i-preserved : goal.loop-i-preserved
loop-i-preserved c =
    let at = slice_get-get_or _ _ zero_insn c.loop-i-test.true in
    record {
      passes = passes_before-next _ _ c.loop-i.invariant.passes
          (_, _, at, sym c.op_of.ensures ∙ c.in-Some.is, c.in-None-insn_fault.ensures.fault);
      ranges = All-more InRange c.args.list.now c.loop-i.i zero_insn c.loop-i-test.true c.loop-i.invariant.ranges c.insn_fault.ensures.ranges;
    }

pub returns-in-None-clause-fault : goal.returns-in-None-clause-fault
returns-in-None-clause-fault c =
    let at = slice_get-get_or _ _ zero_insn c.loop-i-test.true in
    first_fault-insn _ _ _ c.loop-i.invariant.passes (_, at, sym c.op_of.ensures ∙ c.in-None.is) refl refl

pub returns-in-Some-insn_fault-clause-fault : goal.returns-in-Some-insn_fault-clause-fault
returns-in-Some-insn_fault-clause-fault c =
    let at = slice_get-get_or _ _ zero_insn c.loop-i-test.true in
    let own = c.in-Some-insn_fault.ensures.fault in
    let has = own_fault _ _ _ _ _ own.2 at (sym c.op_of.ensures ∙ c.in-Some.is) own.0 in
    first_fault-insn _ _ _ c.loop-i.invariant.passes has own.1 own.2

pub path_fault-requires : goal.path_fault-requires
path_fault-requires c = search (rules, well_formed-at_end)
