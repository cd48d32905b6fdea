-- What the tools leave in a writer that was empty, and what a job did on its machine.
use Rattle.std.proofs.Common.{◌≡◌, ℕ, List, [], ◌∷◌, Option, Some, None, Result, Ok, Err, inr, refl, IsTrue}
use Rattle.std.specs.Prelude.{IfErr}
use Rattle.std.specs.Io.KnownBytes.{Keeps}
use Rattle.cbpf_code.specs.Writing.{Appended, AppendedPart}
use Rattle.cbpf_code.proofs.WrittenLemmas.{appended-kept}
use Rattle.cbpf_tool.proofs.ScriptLemmas.{part-whole}
use Rattle.cbpf_code.specs.declared.form.Form.{Form}
use Rattle.cbpf_tool.specs.Assembling.{Assembled}
use Rattle.cbpf_tool.specs.Debugged.{Debugged}
use Rattle.cbpf_tool.specs.FileMap.{FileSource, known_source}
use Rattle.cbpf_tool.specs.declared.fault.ToolFault.{ToolFault}
use Rattle.cbpf_tool.specs.declared.fault.ToolFault.TheVariants.{Source as RefusedSource, Read, Write, Memory}
use Rattle.std.specs.FinMap as map
use Rattle.cbpf_tool.specs.Hosted.{Hosted, Event, and_then, without_output, opened, created, wrote, printed}
use Rattle.cbpf_tool.specs.Jobs.{tooled, RanOnce, RunsTool, IsAssembled, refuses, answers, AssemblesTo, DebuggedTo, RepliesTo}
use Rattle.cbpf_tool.specs.declared.failure.Failure.{Failure}
use Rattle.cbpf_tool.specs.declared.exit.Exit.{Exit}
use Rattle.cbpf_tool.specs.Exits.{Explained, Helped, after_help}

pub appended-some : (old : List ℕ) (new : Option (List ℕ)) (t : List ℕ) → Appended (Some old) new t
    → (text : List ℕ) × (new ≡ Some text)
unfolding Appended
appended-some old None t h = absurd h
appended-some old (Some text) t h = (text, refl)

pub part-some : (old : List ℕ) (new : Option (List ℕ)) (t : List ℕ) → AppendedPart (Some old) new t
    → (text : List ℕ) × (new ≡ Some text)
unfolding AppendedPart
part-some old None t h = absurd h.3
part-some old (Some text) t h = (text, refl)

pub assembled-some : (source : List ℕ) (form : Form) (new : Option (List ℕ)) (t : Result (Unit {0}) ToolFault)
    → Assembled source form (Some []) new t → (text : List ℕ) × (new ≡ Some text)
unfolding Assembled
assembled-some source form new (Ok x) h = appended-some [] new _ h.2
assembled-some source form new (Err (RefusedSource f)) h = appended-some [] new _ h.2
assembled-some source form new (Err Read) h = appended-some [] new _ h
assembled-some source form new (Err Memory) h = appended-some [] new _ h
assembled-some source form new (Err Write) h = part-some [] new _ h.2

shown-some : (source : List ℕ) (form : Form) (new : Option (List ℕ)) (r : Result (Unit {0}) Failure)
    → IsAssembled source form (Some []) new r → (text : List ℕ) × (new ≡ Some text)
shown-some source form new r (refuses fault h e a) = appended-some [] new [] a
shown-some source form new r (answers t n e a) = assembled-some source form new t a

outcome-some : (script : List ℕ) (left new : Option (List ℕ)) (f g : FileSource) (t : Result (Unit {0}) ToolFault)
    → Debugged script left (Some []) new f g t → (text : List ℕ) × (new ≡ Some text)
outcome-some script left new f g (Ok x) h = appended-some [] new _ h.outcome.wrote
outcome-some script left new f g (Err Read) h = appended-some [] new _ h.outcome.wrote
outcome-some script left new f g (Err Write) h = part-some [] new _ h.outcome.1
outcome-some script left new f g (Err Memory) h = appended-some [] new _ h.outcome.wrote
outcome-some script left new f g (Err (RefusedSource e)) h = absurd h.outcome

-- ---- what a tool did

-- the standard output was left with what the assembler wrote
pub assembled-printed : (h mid new : Hosted) (source : List ℕ) (form : Form) (old w : Option (List ℕ))
    (r : Result (Unit {0}) Failure) → mid ≡ without_output h → old ≡ Some [] → IsAssembled source form old w r
    → ((text : List ℕ) → w ≡ Some text → new ≡ and_then mid (printed text ∷ [])) → AssemblesTo h new source form r
assembled-printed h mid new source form old w r m o a p =
    let b : IsAssembled source form (Some []) w r = rw o at a in
    let some = shown-some source form w r b in
    inr (some.0, rw m at (p some.0 some.1), rw some.1 at b)

-- help that was written, and then flushed
pub help-flushed : (old mid new : Option (List ℕ)) (help : List ℕ) (r : Result (Unit {0}) ToolFault) → Appended old mid help
    → Keeps mid new → IfErr r (λ e. e ≡ Write) → Helped old new help r
help-flushed old mid new help (Ok x) w k f = appended-kept old mid new help w k
help-flushed old mid new help (Err e) w k f = (part-whole old new help (appended-kept old mid new help w k), f)

-- help of which a beginning was written
pub help-unwritten : (old new : Option (List ℕ)) (help : List ℕ) → AppendedPart old new help → Helped old new help (Err Write)
help-unwritten old new help w = (w, refl)

pub ruleset helps = (help-flushed, help-unwritten)

-- the standard output was left with help
pub help-printed : (h mid new : Hosted) (help : List ℕ) (old w : Option (List ℕ)) (done : Result (Unit {0}) ToolFault)
    (exit : Exit) → mid ≡ without_output h → old ≡ Some [] → Helped old w help done
    → ((text : List ℕ) → w ≡ Some text → new ≡ and_then mid (printed text ∷ [])) → exit ≡ after_help done
    → Explained h new help exit
help-printed h mid new help old w done exit m o d p e =
    let b : Helped (Some []) w help done = rw o at d in
    let some = helped-some help w done b in
    inr (some.0, rw m at (p some.0 some.1), done, rw some.1 at b, e)
  where
    helped-some : (t : List ℕ) (v : Option (List ℕ)) (r : Result (Unit {0}) ToolFault) → Helped (Some []) v t r
        → (text : List ℕ) × (v ≡ Some text)
    helped-some t v (Ok x) k = appended-some [] v t k
    helped-some t v (Err f) k = part-some [] v t k.0

pub debugged-from : (h : Hosted) (script : List ℕ) (left old new : Option (List ℕ)) (f g : FileSource)
    (t : Result (Unit {0}) ToolFault) → old ≡ Some [] → f ≡ known_source h.files 0
    → (IsTrue f.is_known → Debugged script left old new f g t)
    → (text : List ℕ) × (new ≡ Some text) × DebuggedTo h script text t
debugged-from h script left old new f g t o e d =
    let a : Debugged script left (Some []) new (known_source h.files 0) g t = rw (o, e) at (d (rw e refl)) in
    let some = outcome-some script left new (known_source h.files 0) g t a in
    (some.0, some.1, (left, g, rw some.1 at a))

-- an output was left with the replies
pub debugged-left : (h mid last new : Hosted) (script : List ℕ) (w : Option (List ℕ)) (event : List ℕ → Event)
    (t : Result (Unit {0}) ToolFault) → mid ≡ h → last ≡ mid
    → (text : List ℕ) → w ≡ Some text → DebuggedTo mid script text t
    → ((x : List ℕ) → w ≡ Some x → new ≡ and_then last (event x ∷ []))
    → RanOnce h new event (DebuggedTo h script) t
debugged-left h mid last new script w event t m l text some d p =
    inr (text, rw (l, m) at (p text some), rw m at d)

-- ---- after a file was opened or created

pub asm-opened : (h mid new : Hosted) (name at bytes : List ℕ) (form : Form) (r : Result (Unit {0}) Failure)
    → at ≡ name → map.get h.files at ≡ Some bytes → mid ≡ and_then h (opened at ∷ [])
    → AssemblesTo mid new bytes form r
    → (x : List ℕ) × (map.get h.files name ≡ Some x) × AssemblesTo (and_then h (opened name ∷ [])) new x form r
asm-opened h mid new name at bytes form r e g m d = (bytes, rw e at g, rw (m, e) at d)

pub dbg-opened : (h mid new : Hosted) (name at bytes : List ℕ) (output : Option (List ℕ))
    (r : Result (Unit {0}) Failure) → at ≡ name → map.get h.files at ≡ Some bytes
    → mid ≡ and_then h (opened at ∷ []) → RepliesTo mid new bytes output r
    → (x : List ℕ) × (map.get h.files name ≡ Some x) × RepliesTo (and_then h (opened name ∷ [])) new x output r
dbg-opened h mid new name at bytes output r e g m d = (bytes, rw e at g, rw (m, e) at d)

pub created-left : (h mid last new : Hosted) (name at to script : List ℕ) (w : Option (List ℕ))
    (t : Result (Unit {0}) ToolFault) (r : Result (Unit {0}) Failure) → r ≡ tooled t → at ≡ name → to ≡ name
    → mid ≡ and_then h (created at ∷ []) → last ≡ mid → (text : List ℕ) → w ≡ Some text
    → DebuggedTo mid script text t → ((x : List ℕ) → w ≡ Some x → new ≡ and_then last (wrote to x ∷ []))
    → RunsTool (and_then h (created name ∷ [])) new (wrote name) (DebuggedTo h script) r
created-left h mid last new name at to script w t r e a b m l text some d p = (
  t,
  e,
  debugged-left (and_then h (created name ∷ [])) mid last new script w (wrote name) t (rw a at m) l text some d
      (λ x s. rw b at (p x s)),
)
