use Rattle.std.proofs.Common.{sym, ◌≡◌, ◌<◌, ◌∙◌, length, arith}
use Rattle.std.specs.Prelude.{Some, slice_get}
use Rattle.std.proofs.lemmas.Option.{get_or_from_slice_get, slice_get_within}
use Rattle.cbpf_code.proofs.WrittenLemmas.{appended-nil, loop-next, loop-stop, loop-done, err-exit}
use Rattle.cbpf_reply.specs.Breakpoints.{Always}
use Rattle.cbpf_reply.specs.Breakpoints as spec
use Rattle.cbpf_tool.proofs.ListedLemmas.{listed_at, number_at, condition_at}
use Rattle.cbpf_tool.proofs.reply_to.write_all_listed.Goals.{in_default-via-in-Some+in_default}
use Rattle.cbpf_tool.proofs.reply_to.write_all_listed.Goals.{in_default-via-in_default}
use Rattle.cbpf_tool.proofs.reply_to.write_all_listed.Goals as goal

pub loop-i-init : goal.loop-i-init
loop-i-init g c = appended-nil _

pub returns-in_err-write_listed-in-Some-Some : goal.returns-in_err-write_listed-in-Some-Some
returns-in_err-write_listed-in-Some-Some g c =
    let all = c.args.session.now.breakpoints in
    let got : slice_get all c.loop-i.i ≡ Some (c.in-Some-Some.n, c.in-Some-Some.when) =
    listed_at _ _ _ c.in-Some-Some.ensures c.in-Some-Some.ensures' in
    err-exit _ _ _ _ c.from_residual.ensures.0
    (loop-stop spec.listed_text all c.loop-i.i (0, Always) _ _ _
    (slice_get_within all c.loop-i.i (c.in-Some-Some.n, c.in-Some-Some.when) got) c.loop-i.invariant
    (rw (get_or_from_slice_get all c.loop-i.i (c.in-Some-Some.n, c.in-Some-Some.when) (0, Always) got)
    c.in_err-write_listed-in-Some-Some.ensures))

pub unreachable-requires : goal.unreachable-requires
unreachable-requires g c =
    let all = c.args.session.now.breakpoints in
    let below : c.loop-i.i < length all = omega (arith, c.loop-i-test.true, c.breakpoint_count-i-end.ensures) in
    let number = number_at all c.loop-i.i below in
    let condition = condition_at all c.loop-i.i below in
    elim c.in_default.branch [
      | in_default-via-in-Some+in_default w ↦ let none = w.in_default.ensures' ∙ condition in absurd (cc)
      | in_default-via-in_default w ↦ let none = sym w.in_default.is-0 ∙ (c.breakpoint_at.ensures ∙ number) in
          absurd (cc)
    ]

pub loop-i-preserved : goal.loop-i-preserved
loop-i-preserved g c =
    let all = c.args.session.now.breakpoints in
    let got : slice_get all c.loop-i.i ≡ Some (c.in-Some-Some.n, c.in-Some-Some.when) =
    listed_at _ _ _ c.in-Some-Some.ensures c.in-Some-Some.ensures' in
    loop-next spec.listed_text all c.loop-i.i (0, Always) _ _ _
    (slice_get_within all c.loop-i.i (c.in-Some-Some.n, c.in-Some-Some.when) got) c.loop-i.invariant
    (rw (get_or_from_slice_get all c.loop-i.i (c.in-Some-Some.n, c.in-Some-Some.when) (0, Always) got)
    c.in_ok-write_listed-in-Some-Some.ensures)

pub returns : goal.returns
returns g c =
    loop-done spec.listed_text c.args.session.now.breakpoints c.loop-i.i _ _
    (omega (arith, c.loop-i-test.false, c.breakpoint_count-i-end.ensures)) c.loop-i.invariant
