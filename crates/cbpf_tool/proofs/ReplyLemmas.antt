-- From what a call answered to the reply of its line.
use Rattle.std.proofs.Common.{◌≡◌, refl, ℕ, List, Option, Some, Result, Ok, Err, length}
use Rattle.cbpf_code.specs.Writing.{AppendedPart}
use Rattle.cbpf_code.specs.WordText.{Spells, Refused}
use Rattle.cbpf_code.specs.Sound.{IsSound}
use Rattle.cbpf_code.specs.Faults.{FirstFault}
use Rattle.cbpf_code.specs.declared.insn.Insn.{Insn}
use Rattle.cbpf_code.specs.declared.words.WordFault.{WordFault}
use Rattle.cbpf_code.specs.declared.words.WordFault.TheVariants as word
use Rattle.cbpf_code.specs.declared.checker.CheckFault.{CheckFault}
use Rattle.cbpf_dbg.specs.View.{View}
use Rattle.cbpf_dbg.specs.Commands.{with_program_loaded, with_capture_loaded}
use Rattle.cbpf_tool.proofs.FileLemmas.{none-counted}
use Rattle.cbpf_tool.specs.FileMap.{FileSource}
use Rattle.cbpf_tool.specs.Loads.{Loads}
use Rattle.cbpf_tool.specs.Progress.{Kept, Replied, Answered, LineRan}
use Rattle.cbpf_tool.specs.declared.debugger.AfterLine.{AfterLine}
use Rattle.cbpf_reply.specs.declared.errors.LoadFault.TheVariants.{Absent, Device, Memory}
use Rattle.cbpf_code.specs.declared.writing.WriteFault.{WriteFault}
use Rattle.cbpf_reply.specs.declared.errors.CommandFault.{CommandFault}
use Rattle.std.specs.Result.{IsErr}
use Rattle.cbpf_reply.specs.Errors.{load_fault_text, word_fault_text, check_fault_text, capture_fault_text}
use Rattle.cbpf_reply.specs.Loads.{program_text, capture_text}
use Rattle.cbpf_tool.specs.Replies.{unreadable, unsound, accepted, no_capture, a_capture, own, unheld, unread}
use Rattle.cbpf_reply.specs.declared.errors.LoadFault.{LoadFault}
use Rattle.cbpf_tool.specs.declared.command.Command.{Command}
use Rattle.cbpf_tool.specs.declared.command.Command.TheVariants.{LoadWords, LoadCapture}
use Rattle.pcap_classic.specs.Savefile.{Savefile, IsSavefile, IsRefusal}
use Rattle.pcap_classic.specs.declared.header.CaptureFault.{CaptureFault}
use Rattle.pcap_classic.specs.declared.header.CaptureFault.TheVariants as capture_fault

-- ---- `load bpf`

-- a word text that is no list, or out of memory
pub words-refused : (m : View) (text : List ℕ) (fault : WordFault) (Written : List ℕ → Type 0) → Refused text fault
    → Written (word_fault_text fault) → Answered m m (LoadWords text) Written
words-refused m text word.Memory Written r w = λ files f. (_, unheld (none-counted f) tt refl, w)
words-refused m text e Written r w = λ files f. (_, own (none-counted f) (unreadable e r (λ z. cc) refl), w)

pub words-unsound : (m : View) (text : List ℕ) (list : List Insn) (fault : CheckFault) (Written : List ℕ → Type 0)
    → Spells text list → FirstFault list fault → Written (check_fault_text fault)
    → Answered m m (LoadWords text) Written
words-unsound m text list fault Written s e w = λ files f. (_, own (none-counted f) (unsound list fault s e refl), w)

pub words-accepted : (m n : View) (text : List ℕ) (list program : List Insn) (count : ℕ) (Written : List ℕ → Type 0)
    → Spells text list → program ≡ list → IsSound program → count ≡ length program → n ≡ with_program_loaded m program
    → Written (program_text count) → Answered m n (LoadWords text) Written
words-accepted m n text list program count Written s e sound c v w = λ files f.
    (_, own (none-counted f) (accepted program (rw e s) sound (rw (c, v) refl)), w)

-- ---- `load pcap`

pub kept-same : (f : FileSource) → Kept f f
kept-same f = record { files = refl; is_known = refl }

module _ {V : Type 0} (items : V → List ℕ) (f g : FileSource) (m n : View) (name : List ℕ)
    (Written : List ℕ → Type 0) where
  kept-from : (r : Result V LoadFault) → Loads items f g name r → Kept f g
  kept-from r l = record { files = l.same_files; is_known = l.same_known }

  pub load-failed : (e : LoadFault) → Loads items f g name (Err e) → n ≡ m → Written (load_fault_text e)
      → Replied f g m n (Ok (Some (LoadCapture name))) Written
  load-failed Absent l v w = (kept-from (Err Absent) l, λ t. (_, own (l.rises, l.counts) (rw (l.gives t, v) refl), w))
  load-failed Device l v w = (kept-from (Err Device) l, λ t. (_, unread (l.rises, l.gives, l.counts) tt (rw v refl), w))
  load-failed Memory l v w = (kept-from (Err Memory) l, λ t. (_, unheld (l.rises, l.counts) tt (rw v refl), w))

  module _ (v : V) (l : Loads items f g name (Ok v)) where
    pub load-refused : (fault : CaptureFault) → IsRefusal fault (items v) → n ≡ m → Written (capture_fault_text fault)
        → Replied f g m n (Ok (Some (LoadCapture name))) Written
    load-refused capture_fault.Memory r e w = (kept-from (Ok v) l, λ t. (_, unheld (l.rises, l.counts) tt (rw e refl), w))
    load-refused fault r e w = (
      kept-from (Ok v) l,
      λ t. (_, own (l.rises, l.counts) (rw (l.gives t) (no_capture fault r (λ z. cc) (rw e refl))), w),
    )

    pub load-accepted : (capture : Savefile) → IsSavefile (items v) capture → n ≡ with_capture_loaded m capture
        → Written (capture_text capture) → Replied f g m n (Ok (Some (LoadCapture name))) Written
    load-accepted capture h e w =
        (kept-from (Ok v) l, λ t. (_, own (l.rises, l.counts) (rw (l.gives t) (a_capture capture h (rw e refl))), w))

-- ---- a line

-- a line other than `quit` was run, and its reply couldn't be written
pub unwritten : (f g : FileSource) (m n : View) (said : Result (Option Command) CommandFault)
    (old new : Option (List ℕ))
    (a : Result AfterLine WriteFault) → IsErr a → Replied f g m n said (λ t. AppendedPart old new t)
    → LineRan f g m n said old new a
unwritten f g m n said old new (Ok b) e h = absurd (cc)
unwritten f g m n said old new (Err x) e h = h
