use Rattle.std.proofs.Common.{◌≡◌, ◌≢◌, ◌∙◌, ◌⊎◌, Bool, true, false, List, ℕ, MatchBool, ap, sym, refl, inl, inr}
use Rattle.cbpf_code.proofs.AnswerLaws.{each_list_is_checked, each_text_is_read}
use Rattle.cbpf_code.proofs.FaultLemmas.{first_fault-unique}
use Rattle.cbpf_code.proofs.WordAnswerLemmas.{refused-once, spells-not_refused}
use Rattle.cbpf_code.specs.WordText.{Spells}
use Rattle.cbpf_code.specs.declared.checker.CheckFault.{CheckFault}
use Rattle.cbpf_code.specs.declared.insn.Insn.{Insn}
use Rattle.cbpf_text.proofs.Answered.{each_answered}
use Rattle.cbpf_text.proofs.OneAnswer as one
use Rattle.cbpf_text.specs.Assembled.{Assembles}
use Rattle.cbpf_text.specs.Refusals.{IsRefusedFrom}
use Rattle.cbpf_text.specs.declared.fault.AsmFault.{AsmFault}
use Rattle.cbpf_text.specs.declared.fault.AsmFault.TheVariants as asm
use Rattle.cbpf_why.specs.Filters.{IsFilter, IsNoFilter, Reads, are_words, word_text_of}
use Rattle.cbpf_why.specs.Laws.{EachAnswered, NeverBoth, OneProgram, OneReason}
use Rattle.cbpf_why.specs.declared.filter.FilterFault.{FilterFault}
use Rattle.cbpf_why.specs.declared.filter.FilterFault.TheVariants.{Source, Words, Check, Memory}
use Rattle.cbpf_why.proofs.law.one_filter.Goals as goal

reads_one : (text : List ℕ) (a b : List Insn) → Reads text a → Reads text b → a ≡ b
reads_one text a b x y = by (are_words text) x y
  where
    by : (w : Bool) → MatchBool w (Spells (word_text_of text) a) (Assembles text a)
        → MatchBool w (Spells (word_text_of text) b) (Assembles text b) → a ≡ b
    by true x y = x.reads ∙ sym y.reads
    by false x y = one.one_assembly text a b x y

-- ---- sources

not_assembled : (text : List ℕ) (list : List Insn) (e : AsmFault) (at : ℕ) → Assembles text list
    → IsRefusedFrom text e at → ⊥
not_assembled text list asm.Memory at a h = h
not_assembled text list (asm.At kind line) at a h = one.never_both text list kind line a (at, h.0, h.1)

one_refused : (text : List ℕ) (e f : AsmFault) (m n : ℕ) → IsRefusedFrom text e m → IsRefusedFrom text f n
    → Source e m ≡ Source f n
one_refused text asm.Memory f m n h k = absurd h
one_refused text (asm.At kind line) asm.Memory m n h k = absurd k
one_refused text (asm.At kind line) (asm.At other next) m n h k =
    let same = one.one_place text kind other m n h.0 k.0 in
    rw (h.1, k.1, same.0, same.1) refl

-- ---- filters

no_reading : (text : List ℕ) (list : List Insn) (f : FilterFault) → Reads text list → IsNoFilter text f
    → ((e : CheckFault) → f ≢ Check e) → f ≡ Memory
no_reading text list (Source e at) reads h none = absurd (not_assembled text list e at (rw h.0 at reads) h.1)
no_reading text list (Words e) reads h none =
    absurd (spells-not_refused (word_text_of text) list e (rw h.0 at reads) h.1.1 h.1.0)
no_reading text list (Check e) reads h none = absurd (none e refl)
no_reading text list Memory reads h none = refl

one_program : OneProgram
one_program text a b x y = reads_one text a b x.0 y.0

never_both : NeverBoth
never_both text list (Check e) x h =
    absurd (x.1.none e (rw (← reads_one text list h.0 x.0 h.1) at h.2.present))
never_both text list (Source e at) x h = no_reading text list (Source e at) x.0 h (λ c is. absurd cc)
never_both text list (Words e) x h = no_reading text list (Words e) x.0 h (λ c is. absurd cc)
never_both text list Memory x h = refl

apart : (text : List ℕ) → are_words text ≡ false → are_words text ≡ true → ⊥
apart text x y = let no = sym x ∙ y in cc

one_reason : OneReason
one_reason text Memory g x y h k = absurd (x refl)
one_reason text (Source e at) Memory x y h k = absurd (y refl)
one_reason text (Words e) Memory x y h k = absurd (y refl)
one_reason text (Check e) Memory x y h k = absurd (y refl)
one_reason text (Source e m) (Source f n) x y h k = one_refused text e f m n h.1 k.1
one_reason text (Source e at) (Words f) x y h k = absurd (apart text h.0 k.0)
one_reason text (Words e) (Source f at) x y h k = absurd (apart text k.0 h.0)
one_reason text (Words e) (Words f) x y h k =
    ap Words (sym (refused-once (word_text_of text) e f h.1.1 k.1.1 h.1.0 k.1.0))
one_reason text (Check e) (Check f) x y h k =
    ap Check (first_fault-unique k.0 f e k.2 (rw (reads_one text h.0 k.0 h.1 k.1) at h.2))
one_reason text (Check e) (Source f at) x y h k = absurd (y (no_reading text h.0 (Source f at) h.1 k (λ c is. absurd cc)))
one_reason text (Check e) (Words f) x y h k = absurd (y (no_reading text h.0 (Words f) h.1 k (λ c is. absurd cc)))
one_reason text (Source e at) (Check f) x y h k = absurd (x (no_reading text k.0 (Source e at) k.1 h (λ c is. absurd cc)))
one_reason text (Words e) (Check f) x y h k = absurd (x (no_reading text k.0 (Words e) k.1 h (λ c is. absurd cc)))

-- the instructions that a text has are a program, or the checker refuses them
checked : (text : List ℕ) (list : List Insn) → Reads text list → ((list : List Insn) × IsFilter text list)
    ⊎ ((f : FilterFault) × (f ≢ Memory) × IsNoFilter text f)
checked text list reads = elim (each_list_is_checked list) [
  | inl sound ↦ inl (list, (reads, sound))
  | inr refused ↦ inr (Check refused.0, (λ is. absurd cc), (list, reads, refused.1))
]

answered : EachAnswered
answered text = by (are_words text) refl
  where
    by : (w : Bool) → are_words text ≡ w → ((list : List Insn) × IsFilter text list)
        ⊎ ((f : FilterFault) × (f ≢ Memory) × IsNoFilter text f)
    by true e = elim (each_text_is_read (word_text_of text)) [
      | inl read ↦ checked text read.0 (rw e read.1)
      | inr refused ↦ inr (Words refused.0, (λ is. absurd cc), (e, (refused.2, refused.1)))
    ]
    by false e = elim (each_answered text) [
      | inl read ↦ checked text read.0 (rw e read.1)
      | inr refused ↦
          let why = refused.2 in
          inr (Source (asm.At refused.0 refused.1) why.0, (λ is. absurd cc), (e, (why.1, why.2)))
    ]

pub returns-clause-answered : goal.returns-clause-answered
returns-clause-answered c = answered

pub returns-clause-program : goal.returns-clause-program
returns-clause-program c = one_program

pub returns-clause-reason : goal.returns-clause-reason
returns-clause-reason c = one_reason

pub returns-clause-never_both : goal.returns-clause-never_both
returns-clause-never_both c = never_both
