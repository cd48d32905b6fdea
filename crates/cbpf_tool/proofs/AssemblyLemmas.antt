-- What the assembler's answers mean.
use Rattle.std.proofs.Common.{◌≡◌, ℕ, List, [], refl, subst}
use Rattle.std.specs.Prelude.{◌≢◌, IfErr, Option, Result, Ok, Err}
use Rattle.std.specs.Io.KnownBytes.{Keeps}
use Rattle.cbpf_code.specs.Writing.{Appended, AppendedPart}
use Rattle.cbpf_code.proofs.WrittenLemmas.{appended-nil, appended-kept}
use Rattle.cbpf_code.specs.declared.form.Form.{Form}
use Rattle.cbpf_code.specs.declared.insn.Insn.{Insn}
use Rattle.cbpf_text.specs.Assembled.{Assembles}
use Rattle.cbpf_text.specs.Refusals.{IsRefused, IsPlacedFault}
use Rattle.cbpf_text.specs.declared.placed.PlacedFault.{PlacedFault}
use Rattle.cbpf_text.specs.declared.fault.AsmFault.{AsmFault}
use Rattle.cbpf_text.specs.declared.fault.AsmFault.TheVariants as asm
use Rattle.cbpf_tool.specs.declared.fault.ToolFault.{ToolFault}
use Rattle.cbpf_tool.specs.declared.fault.ToolFault.TheVariants.{Source, Read, Write, Memory}
use Rattle.cbpf_tool.specs.Assembling.{Assembled, IsReadingFault, form_text}
use Rattle.cbpf_tool.specs.Jobs.{IsAssembled, refuses, answers, source_failure, tooled}
use Rattle.cbpf_tool.specs.declared.failure.Failure.TheVariants.{Tool}
use Rattle.cbpf_tool.proofs.ScriptLemmas.{part-whole}

module _ (source : List ℕ) (form : Form) (old : Option (List ℕ)) where
  pub asm-memory : Assembled source form old old (Err Memory)
  unfolding Assembled
  asm-memory = appended-nil old

  pub asm-refused : (fault : AsmFault) → IsRefused source fault → fault ≢ asm.Memory
      → Assembled source form old old (Err (Source fault))
  unfolding Assembled
  asm-refused fault r n = (r, n, appended-nil old)

  pub asm-unread : (e : ToolFault) → IsReadingFault e → Assembled source form old old (Err e)
  unfolding Assembled
  asm-unread Read h = appended-nil old
  asm-unread Memory h = appended-nil old
  asm-unread Write h = absurd h
  asm-unread (Source f) h = absurd h

  module _ (list : List Insn) (a : Assembles source list) where
    pub asm-unwritten : (new : Option (List ℕ)) → AppendedPart old new (form_text form list)
        → Assembled source form old new (Err Write)
    unfolding Assembled
    asm-unwritten new w = (list, a, w)

    pub asm-unflushed : (mid new : Option (List ℕ)) → Appended old mid (form_text form list) → Keeps mid new
        → Assembled source form old new (Err Write)
    unfolding Assembled
    asm-unflushed mid new w k =
        (list, a, part-whole old new (form_text form list) (appended-kept old mid new (form_text form list) w k))

    pub asm-done : (mid new : Option (List ℕ)) (x : Unit {0}) → Appended old mid (form_text form list) → Keeps mid new
        → Assembled source form old new (Ok x)
    unfolding Assembled
    asm-done mid new x w k = (list, a, appended-kept old mid new (form_text form list) w k)

-- ---- the answers of a job

-- a source that could not be read or held
pub unread-shown : (source : List ℕ) (form : Form) (old : Option (List ℕ)) (e : ToolFault) → IsReadingFault e
    → IsAssembled source form old old (Err (Tool e))
unread-shown source form old Read h = answers (Err Read) tt refl (asm-unread source form old Read h)
unread-shown source form old Memory h = answers (Err Memory) tt refl (asm-unread source form old Memory h)
unread-shown source form old Write h = absurd h
unread-shown source form old (Source f) h = absurd h

pub refused-shown : (source : List ℕ) (form : Form) (old : Option (List ℕ)) (fault : PlacedFault)
    → IsPlacedFault source fault → IsAssembled source form old old (Err (source_failure source fault))
refused-shown source form old fault h = refuses fault h refl (appended-nil old)

pub written-shown : (source : List ℕ) (form : Form) (old new : Option (List ℕ)) (t : Result (Unit {0}) ToolFault)
    → IfErr t (λ e. e ≡ Write) → Assembled source form old new t → IsAssembled source form old new (tooled t)
written-shown source form old new (Ok x) h a = answers (Ok x) tt refl a
written-shown source form old new (Err e) h a =
    rw h (answers (Err Write) tt refl (subst (λ f. Assembled source form old new (Err f)) h a))

pub asm-untouched : (source : List ℕ) (form : Form) (old new : Option (List ℕ)) (r : Result (Unit {0}) ToolFault)
    → Assembled source form old new r → IfErr r (λ e. e ≢ Write → Appended old new [])
unfolding Assembled
asm-untouched source form old new (Ok x) h = tt
asm-untouched source form old new (Err (Source f)) h = λ i. h.2
asm-untouched source form old new (Err Read) h = λ i. h
asm-untouched source form old new (Err Memory) h = λ i. h
asm-untouched source form old new (Err Write) h = λ i. absurd (i refl)

pub ruleset asm_answers =
    (asm-memory, asm-refused, asm-unread, asm-unwritten, asm-unflushed, asm-done, asm-untouched, appended-nil)
