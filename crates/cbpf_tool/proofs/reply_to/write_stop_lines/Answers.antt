use Rattle.std.proofs.Common.{◌≡◌, ◌∙◌, sym, ap, refl, ◌+◌, length, ℕ, ◌∷◌, ◌++◌, arith}
use Rattle.cbpf_code.proofs.WrittenLemmas.{appended-nil, err-exit}
use Rattle.cbpf_reply.specs.Stops as spec
use Rattle.cbpf_tool.proofs.EachText.{each-next, each-failed, one-left, one-counted, none-left, some-left}
use Rattle.cbpf_tool.proofs.reply_to.write_stop_lines.Goals as goal

pub loop-stop-init : goal.loop-stop-init
loop-stop-init g c = (appended-nil _, refl, c.into_iter-stop-iterator.ensures.into_iter_gives)

pub returns-in_err-write_stop_line-clause-lines : goal.returns-in_err-write_stop_line-clause-lines
returns-in_err-write_stop_line-clause-lines g c =
    let inv = c.loop-stop.invariant in
    let left : c.loop-stop.yielded ++ (c.in-Some.stop ∷ c.next.new.self) ≡ c.args.stops =
    rw (← c.in-Some.ensures.steps) inv.2 in
    err-exit _ _ _ _ c.from_residual.ensures.0
    (each-failed spec.stop_line c.loop-stop.yielded c.in-Some.stop _ _ _ c.next.new.self c.args.stops left inv.0
    c.in_err-write_stop_line.ensures)

pub overflow_add-count : goal.overflow_add-count
overflow_add-count g c =
    let inv = c.loop-stop.invariant in
    let left : c.loop-stop.yielded ++ (c.in-Some.stop ∷ c.next.new.self) ≡ c.args.stops =
    rw (← c.in-Some.ensures.steps) inv.2 in
    omega (arith, inv.1, some-left c.loop-stop.yielded c.in-Some.stop c.next.new.self c.args.stops left, c.requires)

pub loop-stop-preserved : goal.loop-stop-preserved
loop-stop-preserved g c =
    let inv = c.loop-stop.invariant in
    let left : c.loop-stop.yielded ++ (c.in-Some.stop ∷ c.next.new.self) ≡ c.args.stops =
    rw (← c.in-Some.ensures.steps) inv.2 in (
      each-next spec.stop_line c.loop-stop.yielded c.in-Some.stop _ _ _ inv.0 c.in_ok-write_stop_line.ensures,
      ap (λ (n : ℕ). n + 1) inv.1 ∙ sym (one-counted spec.stop_line c.loop-stop.yielded c.in-Some.stop),
      one-left spec.stop_line c.loop-stop.yielded c.in-Some.stop c.next.new.self c.args.stops left,
    )

pub returns-clause-lines : goal.returns-clause-lines
returns-clause-lines g c =
    let inv = c.loop-stop.invariant in
    let all : c.loop-stop.yielded ≡ c.args.stops =
    none-left c.loop-stop.yielded c.args.stops (rw (← c.in-None.ensures.steps.0) inv.2) in
    rw (← all) inv.0

pub returns-clause-count : goal.returns-clause-count
returns-clause-count g c =
    let inv = c.loop-stop.invariant in
    let all : c.loop-stop.yielded ≡ c.args.stops =
    none-left c.loop-stop.yielded c.args.stops (rw (← c.in-None.ensures.steps.0) inv.2) in
    inv.1 ∙ ap length all
