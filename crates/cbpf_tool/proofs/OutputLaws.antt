-- Laws of the output of a script.
use Rattle.std.proofs.Common.{◌≡◌, ℕ, length, List, [], ◌∷◌, ◌++◌, Option, Some, None, Result, Ok, Err, ◌⊎◌, inl, inr}
use Rattle.std.proofs.Common.{refl, sym, ◌∙◌, ap, subst, append_assoc, arith}
use Rattle.std.specs.FinMap as map
use Rattle.cbpf_code.proofs.WordAnswerLemmas.{spells-once, spells-not_refused, refused-once}
use Rattle.cbpf_code.proofs.FaultLemmas.{first_fault-unique}
use Rattle.cbpf_code.proofs.AnswerLaws.{each_text_is_read, each_list_is_checked}
use Rattle.cbpf_code.specs.declared.insn.Insn.{Insn}
use Rattle.cbpf_tool.specs.Commands.{command_of}
use Rattle.cbpf_tool.specs.declared.command.Command.{Command}
use Rattle.cbpf_tool.specs.declared.command.Command.TheVariants.{LoadWords, LoadCapture, Session, Quit}
use Rattle.cbpf_reply.specs.declared.errors.CommandFault.{CommandFault}
use Rattle.cbpf_dbg.specs.View.{View}
use Rattle.pcap_classic.specs.Savefile.{Savefile, IsSavefile, IsRefusal}
use Rattle.pcap_classic.specs.declared.header.CaptureFault.{CaptureFault}
use Rattle.pcap_classic.specs.declared.header.CaptureFault.TheVariants as capture_fault
use Rattle.pcap_classic.proofs.SavefileLemmas as captures
use Rattle.cbpf_tool.specs.FileMap.{Held}
use Rattle.cbpf_tool.specs.Output.{Output, at_end, at_quit, at_line}
use Rattle.cbpf_tool.specs.Replies.{Reply, LoadsWords, unreadable, unsound, accepted, ReadsCapture, no_capture}
use Rattle.cbpf_tool.specs.Replies.{a_capture, LoadsCapture, OwnReply, LineReplies, own, unheld, unread}
use Rattle.cbpf_tool.specs.SessionReplies.{reply_to}
use Rattle.cbpf_reply.specs.Errors.{memory_text, command_fault_text, load_fault_text}
use Rattle.cbpf_reply.specs.Errors.{word_fault_text, check_fault_text, capture_fault_text}
use Rattle.cbpf_reply.specs.declared.errors.LoadFault.TheVariants.{Absent, Device}
use Rattle.cbpf_reply.specs.Loads.{program_text, capture_text}
use Rattle.cbpf_dbg.specs.Commands.{with_program_loaded, with_capture_loaded}
use Rattle.cbpf_tool.specs.Laws.{HasOwnReply, IsPartOf, OneOwnOutput}
use Rattle.cbpf_tool.specs.Laws.{NoOther, HasOwnOutput, OwnIsOutput}

words-once : (m : View) (text : List ℕ) (r r' : Reply) → LoadsWords m text r → LoadsWords m text r' → r' ≡ r
words-once m text r r' (unreadable f k u h) (unreadable f' k' u' h') =
    h' ∙ ap (λ x. (word_fault_text x, m)) (refused-once text f f' u u' k k') ∙ sym h
words-once m text r r' (unreadable f k u h) (unsound list e s o h') = absurd (spells-not_refused text list f s u k)
words-once m text r r' (unreadable f k u h) (accepted list s o h') = absurd (spells-not_refused text list f s u k)
words-once m text r r' (unsound list e s o h) (unreadable f k u h') = absurd (spells-not_refused text list f s u k)
words-once m text r r' (accepted list s o h) (unreadable f k u h') = absurd (spells-not_refused text list f s u k)
words-once m text r r' (unsound list e s o h) (unsound list' e' s' o' h') =
    let same = spells-once text list list' s s' in
    h' ∙ ap (λ x. (check_fault_text x, m)) (first_fault-unique list e e' o (rw same at o')) ∙ sym h
words-once m text r r' (unsound list e s o h) (accepted list' s' o' h') =
    let same = spells-once text list list' s s' in
    absurd ((rw same at o').none e o.present)
words-once m text r r' (accepted list s o h) (unsound list' e s' o' h') =
    let same = spells-once text list list' s s' in
    absurd (o.none e (rw same at o'.present))
words-once m text r r' (accepted list s o h) (accepted list' s' o' h') =
    h' ∙ ap (λ (l : List Insn). (program_text (length l), with_program_loaded m l)) (spells-once text list list' s s')
    ∙ sym h

reads-once : (m : View) (bytes : List ℕ) (r r' : Reply) → ReadsCapture m bytes r → ReadsCapture m bytes r' → r' ≡ r
reads-once m bytes r r' (no_capture f k u h) (no_capture f' k' u' h') =
    h' ∙ ap (λ x. (capture_fault_text x, m)) (captures.one_refusal bytes f f' k k') ∙ sym h
reads-once m bytes r r' (no_capture f k u h) (a_capture c s h') = absurd (u (captures.only_memory bytes c f s k))
reads-once m bytes r r' (a_capture c s h) (no_capture f k u h') = absurd (u (captures.only_memory bytes c f s k))
reads-once m bytes r r' (a_capture c s h) (a_capture c' s' h') =
    h' ∙ ap (λ (x : Savefile). (capture_text x, with_capture_loaded m x)) (captures.one_capture bytes c c' s s') ∙ sym h

capture-once : (m : View) (bytes : Option (List ℕ)) (r r' : Reply) → LoadsCapture m bytes r → LoadsCapture m bytes r'
    → r' ≡ r
capture-once m None r r' a b = b ∙ sym a
capture-once m (Some bytes) r r' a b = reads-once m bytes r r' a b

own-once : (files : Held) (m : View) (said : Result (Option Command) CommandFault) (r r' : Reply)
    → OwnReply files m said r → OwnReply files m said r' → r' ≡ r
own-once files m (Ok (Some (LoadWords text))) r r' a b = words-once m text r r' a b
own-once files m (Ok (Some (LoadCapture name))) r r' a b = capture-once m (map.get files.by_name name) r r' a b
own-once files m (Ok (Some (Session c))) r r' a b = b ∙ sym a
own-once files m (Ok (Some Quit)) r r' a b = absurd a
own-once files m (Ok None) r r' a b = b ∙ sym a
own-once files m (Err e) r r' a b = b ∙ sym a

-- `quit` has no reply
quit-none : (files : Held) (m : View) (said : Result (Option Command) CommandFault) (r : Reply)
    → said ≡ Ok (Some Quit) → OwnReply files m said r → ⊥
quit-none files m said r e h = subst (λ x. OwnReply files m x r) e h

output-once : (files : Held) (m : View) (f g f' g' : ℕ) (ls : List (List ℕ)) (t u : List ℕ)
    → Output (HasOwnReply files) m f ls t g → Output (HasOwnReply files) m f' ls u g' → u ≡ t
output-once files m f g f' g' [] t u at_end at_end = refl
output-once files m f g f' g' (l ∷ ls) t u (at_quit _ _ q) (at_quit _ _ _) = refl
output-once files m f g f' g' (l ∷ ls) t u (at_quit _ _ q) (at_line _ r a o) =
    absurd (quit-none files m (command_of l) r q a.1)
output-once files m f g f' g' (l ∷ ls) t u (at_line _ r a o) (at_quit _ _ q) =
    absurd (quit-none files m (command_of l) r q a.1)
output-once files m f g f' g' (l ∷ ls) t u (at_line {g = k} {rest = rest} _ r a o)
    (at_line {g = k'} {rest = rest'} _ r' a' o') =
    let same = own-once files m (command_of l) r r' a.1 a'.1 in
    let tail : rest' ≡ rest = output-once files r.1 k g k' g' ls rest rest' o
    (subst (λ (x : Reply). Output (HasOwnReply files) x.1 k' ls rest' g') same o') in
    ap (λ (x : Reply). x.0 ++ rest') same ∙ ap (λ (x : List ℕ). r.0 ++ x) tail

pub one_output : OneOwnOutput
one_output files m ls t u o o' = output-once files m 0 0 0 0 ls t u (o 0) (o' 0)

-- ---- there is one, and it is one of the outputs

some-words : (m : View) (text : List ℕ) → (r : Reply) × LoadsWords m text r
some-words m text =
    elim (each_text_is_read text) [
      | inl read ↦ elim (each_list_is_checked read.0) [
        | inl sound ↦
            ((program_text (length read.0), with_program_loaded m read.0), accepted read.0 read.1 sound refl)
        | inr first ↦ ((check_fault_text first.0, m), unsound read.0 first.0 read.1 first.1 refl)
      ]
      | inr refused ↦ ((word_fault_text refused.0, m), unreadable refused.0 refused.2 refused.1 refl)
    ]

some-reads : (m : View) (bytes : List ℕ) → (r : Reply) × ReadsCapture m bytes r
some-reads m bytes = elim (captures.has_answer bytes) [
  | inl held ↦ capture held.0 held.1
  | inr refused ↦ by refused.0 refused.1
]
  where
    capture : (c : Savefile) → IsSavefile bytes c → (r : Reply) × ReadsCapture m bytes r
    capture c is = ((capture_text c, with_capture_loaded m c), a_capture c is refl)

    by : (e : CaptureFault) → IsRefusal e bytes → (r : Reply) × ReadsCapture m bytes r
    by capture_fault.Memory r = capture r.0 r.1
    by e r = ((capture_fault_text e, m), no_capture e r (λ z. cc) refl)

some-capture : (m : View) (bytes : Option (List ℕ)) → (r : Reply) × LoadsCapture m bytes r
some-capture m None = ((load_fault_text Absent, m), refl)
some-capture m (Some bytes) = some-reads m bytes

own-some : (files : Held) (m : View) (said : Result (Option Command) CommandFault)
    → (said ≡ Ok (Some Quit)) ⊎ ((r : Reply) × OwnReply files m said r)
own-some files m (Ok (Some (LoadWords text))) = inr (some-words m text)
own-some files m (Ok (Some (LoadCapture name))) = inr (some-capture m (map.get files.by_name name))
own-some files m (Ok (Some (Session c))) = inr (reply_to c m, refl)
own-some files m (Ok (Some Quit)) = inl refl
own-some files m (Ok None) = inr (([], m), refl)
own-some files m (Err e) = inr ((command_fault_text e, m), refl)

pub has_output : HasOwnOutput
has_output files m [] = ([], λ f. at_end)
has_output files m (l ∷ ls) =
    elim (own-some files m (command_of l)) [
      | inl is_quit ↦ ([], λ f. at_quit l ls is_quit)
      | inr reply ↦
          let rest = has_output files reply.0.1 ls in
          (reply.0.0 ++ rest.0, λ f. at_line l reply.0 (refl, reply.1) (rest.1 f))
    ]

own-among : (files : Held) (m : View) (f g : ℕ) (ls : List (List ℕ)) (t : List ℕ)
    → Output (HasOwnReply files) m f ls t g → Output (LineReplies files) m f ls t g
own-among files m f g ls t at_end = at_end
own-among files m f g ls t (at_quit l more q) = at_quit l more q
own-among files m f g ls t (at_line {g = k} {rest = rest} {ls = more} l r a o) =
    at_line l r (own (omega (arith, a.0), λ _. a.0) a.1) (own-among files r.1 k g more rest o)

pub own_is_output : OwnIsOutput
own_is_output files m f ls t o = own-among files m f f ls t (o f)

-- ---- an output in which neither of the two other replies stands

first-stands : (text rest : List ℕ) (m : View) (r : Reply) → r ≡ (text, m) → IsPartOf text (r.0 ++ rest)
first-stands text rest m r e = ([], rest, ap (λ (x : Reply). x.0 ++ rest) e)

later-stands : (reply t rest : List ℕ) → IsPartOf reply rest → IsPartOf reply (t ++ rest)
later-stands reply t rest h =
    (t ++ h.0, h.1, ap (λ (x : List ℕ). t ++ x) h.2 ∙ sym (append_assoc t h.0 (reply ++ h.1)))

pub no_other : NoOther
no_other files m f g ls t at_end memory device = λ h. at_end
no_other files m f g ls t (at_quit l more q) memory device = λ h. at_quit l more q
no_other files m f g ls t (at_line {g = mid} {rest = rest} {ls = more} l r (own k a) o) memory device =
    λ h. at_line l r (refl, a) (no_other files r.1 mid g more rest o (λ p. memory (later-stands memory_text r.0 rest p))
    (λ p. device (later-stands (load_fault_text Device) r.0 rest p)) h)
no_other files m f g ls t (at_line {rest = rest} l r (unheld k u w) o) memory device =
    absurd (memory (first-stands memory_text rest m r w))
no_other files m f g ls t (at_line {rest = rest} l r (unread k u w) o) memory device =
    absurd (device (first-stands (load_fault_text Device) rest m r w))
