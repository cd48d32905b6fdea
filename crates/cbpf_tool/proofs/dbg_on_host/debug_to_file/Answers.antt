use Rattle.std.proofs.Common.{rules, ◌≡◌, Err, inl, inr, refl, subst, List, ℕ, [], ◌∷◌}
use Rattle.cbpf_tool.specs.declared.fault.ToolFault.TheVariants.{Memory}
use Rattle.cbpf_tool.specs.Hosted.{and_then, created}
use Rattle.cbpf_tool.proofs.HostLemmas.{created-left}
use Rattle.cbpf_tool.proofs.dbg_on_host.debug_to_file.Goals as goal

pub returns-in-Ok : goal.returns-in-Ok
returns-in-Ok g c = λ known script e.
    let out = c.in-Ok.ensures known in
    let run = c.run_script-done.ensures (rw out.1 known) script e out.0 in
    inr (created-left _ _ _ _ _ _ _ script _ _ _ c.tooled.ensures
    c.as_str.ensures.value c.as_str-in-Ok.ensures.value out.1 run.0 run.1 run.2 run.3
    (c.close.ensures (rw (run.0, out.1) known)))

pub returns : goal.returns
returns g c = λ known script e.
    let out = rw c.in-Err-Memory.field-0-is at (c.in-Err-Memory.ensures known) in
    inr (
      Err Memory,
      refl,
      inl (
        subst (λ (n : List ℕ). g.H.Host.view c.create.new.self
            ≡ and_then (g.H.Host.view c.args.host.now) (created n ∷ [])) c.as_str.ensures.value out,
        refl,
      ),
    )

pub returns-in-Err-NotCreated : goal.returns-in-Err-NotCreated
returns-in-Err-NotCreated g c = search rules
