-- Lines of a script, and the output of those that were run.
use Rattle.std.proofs.Common.{◌≡◌, ℕ, true, false, cond, eqb, ◌||◌, List, [], ◌∷◌, ◌++◌}
use Rattle.std.proofs.Common.{length, take_all, Option, Some, None, Result, Ok, Err, IsTrue, inl, inr, refl, sym}
use Rattle.std.proofs.Common.{◌∙◌, ap, subst, append_assoc, append-nil, arith}
use Rattle.std.specs.Prelude.{◌≢◌, IfErr, MatchResult}
use Rattle.std.specs.Io.KnownBytes.{Keeps}
use Rattle.cbpf_code.specs.Writing.{Appended, AppendedPart}
use Rattle.cbpf_code.specs.declared.writing.WriteFault.{WriteFault}
use Rattle.cbpf_code.proofs.WrittenLemmas.{appended-nil, appended-then, appended-kept, part-then, part-take}
use Rattle.cbpf_tool.specs.Commands.{command_of}
use Rattle.cbpf_tool.specs.declared.command.Command.TheVariants as command
use Rattle.cbpf_tool.specs.FileMap.{Held, FileSource}
use Rattle.cbpf_code.specs.Text.{put_front}
use Rattle.cbpf_tool.specs.Lines.{lines, unlines, has_newline}
use Rattle.cbpf_dbg.specs.View.{View, empty_view}
use Rattle.cbpf_tool.specs.LineReader.{unread as unread_bytes, Took, TakesLine}
use Rattle.cbpf_tool.specs.Replies.{Reply, LineReplies, own, unheld, unread}
use Rattle.cbpf_tool.specs.Output.{Output, at_end, at_quit, at_line, HasQuit}
use Rattle.cbpf_tool.specs.Progress.{LineRan, Kept}
use Rattle.cbpf_tool.specs.Debugged.{Printed, Faulted, Finished}
use Rattle.cbpf_tool.specs.declared.fault.ToolFault.{ToolFault}
use Rattle.cbpf_tool.specs.declared.fault.ToolFault.TheVariants.{Source as RefusedSource, Read, Write, Memory}
use Rattle.cbpf_tool.specs.declared.line_reader.LineEnd.{LineEnd}
use Rattle.cbpf_tool.specs.declared.line_reader.LineEnd.TheVariants.{Newline, Input}
use Rattle.cbpf_tool.specs.declared.debugger.AfterLine.TheVariants.{NextLine, Quit}

-- none of the lines has a newline
abbrev pub EachPlain : List (List ℕ) → Type 0
EachPlain [] = Unit {0}
EachPlain (l ∷ ls) = (has_newline l ≡ false) × EachPlain ls

-- the first lines of a script were run from a debugger that has loaded nothing, and none of them is `quit`: `text` is
-- their replies, which were written, and the view is now `m`
pub record Progress (script pending : List ℕ) (left old new : Option (List ℕ)) (f g : FileSource) (m : View) :
    Type 0 where
  pub done : List (List ℕ)
  pub text : List ℕ
  pub rest : List ℕ
  pub split : script ≡ unlines done ++ rest
  pub plain : EachPlain done
  -- what was read and not yet taken, and what the reader has left
  pub known : unread_bytes pending left ≡ Some rest
  pub kept : Kept f g
  pub no_quit : ¬ HasQuit done
  -- the output of more lines comes after the text
  pub ran : (ls : List (List ℕ)) (t : List ℕ) (h : ℕ) → Output (LineReplies f.held) m g.failures ls t h
      → Output (LineReplies f.held) empty_view f.failures (done ++ ls) (text ++ t) h
  pub wrote : Appended old new text

lines-plain : (l bs : List ℕ) → has_newline l ≡ false → lines (l ++ 10 ∷ bs) ≡ l ∷ lines bs
lines-plain [] bs h = refl
lines-plain (b ∷ l) bs h =
    elim (eqb b 10) as (λ t. (t || has_newline l) ≡ false
    → cond t ([] ∷ lines (l ++ 10 ∷ bs)) (put_front b (lines (l ++ 10 ∷ bs))) ≡ (b ∷ l) ∷ lines bs) [
      | true ↦ λ e. absurd (cc)
      | false ↦ λ e. ap (put_front b) (lines-plain l bs e)
    ] h

lines-last : (b : ℕ) (l : List ℕ) → has_newline (b ∷ l) ≡ false → lines (b ∷ l) ≡ (b ∷ l) ∷ []
lines-last b [] h =
    elim (eqb b 10) as (λ t. (t || false) ≡ false
    → cond t ([] ∷ []) ((b ∷ []) ∷ []) ≡ (b ∷ []) ∷ []) [ true ↦ λ e. absurd (cc) | false ↦ λ e. refl ] h
lines-last b (x ∷ l) h =
    elim (eqb b 10) as (λ t. (t || has_newline (x ∷ l)) ≡ false
    → cond t ([] ∷ lines (x ∷ l)) (put_front b (lines (x ∷ l))) ≡ (b ∷ x ∷ l) ∷ []) [
      | true ↦ λ e. absurd (cc)
      | false ↦ λ e. ap (put_front b) (lines-last x l e)
    ] h

lines-unlines : (ls : List (List ℕ)) (rest : List ℕ) → EachPlain ls → lines (unlines ls ++ rest) ≡ ls ++ lines rest
lines-unlines [] rest h = refl
lines-unlines (l ∷ ls) rest h =
    ap lines (append_assoc l (10 ∷ unlines ls) rest) ∙ lines-plain l (unlines ls ++ rest) h.0
    ∙ ap (λ (t : List (List ℕ)). l ∷ t) (lines-unlines ls rest h.1)

unlines-push : (ls : List (List ℕ)) (l : List ℕ) → unlines (ls ++ l ∷ []) ≡ unlines ls ++ (l ++ 10 ∷ [])
unlines-push [] l = refl
unlines-push (x ∷ xs) l =
    ap (λ (t : List ℕ). x ++ (10 ∷ t)) (unlines-push xs l) ∙ sym (append_assoc x (10 ∷ unlines xs) (l ++ 10 ∷ []))

plain-push : (ls : List (List ℕ)) (l : List ℕ) → EachPlain ls → has_newline l ≡ false → EachPlain (ls ++ l ∷ [])
plain-push [] l h p = (p, tt)
plain-push (x ∷ xs) l h p = (h.0, plain-push xs l h.1 p)

lines-some : (bs : List ℕ) → (bs ≡ [] → ⊥) → lines bs ≡ [] → ⊥
lines-some [] n = λ e. n refl
lines-some (b ∷ bs) n = elim (eqb b 10) as (λ t. cond t ([] ∷ lines bs) (put_front b (lines bs)) ≡ [] → ⊥) [
  | true ↦ λ e. cc
  | false ↦ front b (lines bs)
] where
  front : (b : ℕ) (ls : List (List ℕ)) → put_front b ls ≡ [] → ⊥
  front b [] e = cc
  front b (l ∷ ls) e = cc

-- ---- lines that were run

quit-in : (ls : List (List ℕ)) (l : List ℕ) (more : List (List ℕ)) → command_of l ≡ Ok (Some command.Quit)
    → HasQuit (ls ++ l ∷ more)
quit-in [] l more e = inl e
quit-in (x ∷ xs) l more e = inr (quit-in xs l more e)

quit-push : (ls : List (List ℕ)) (l : List ℕ) → ¬ HasQuit ls → command_of l ≢ Ok (Some command.Quit)
    → ¬ HasQuit (ls ++ l ∷ [])
quit-push [] l n q (inl h) = q h
quit-push [] l n q (inr h) = h
quit-push (x ∷ xs) l n q (inl h) = n (inl h)
quit-push (x ∷ xs) l n q (inr h) = quit-push xs l (λ k. n (inr k)) q h

quit-silent : (files : Held) (m : View) (f g : ℕ) (reply : Reply) → LineReplies files m f g (Ok (Some command.Quit)) reply
    → ⊥
quit-silent files m f g reply (own k h) = h
quit-silent files m f g reply (unheld k u h) = u
quit-silent files m f g reply (unread k u h) = u

pub part-whole : (u v : Option (List ℕ)) (text : List ℕ) → Appended u v text → AppendedPart u v text
part-whole u v text h = part-take u v (length text) text (rw (take_all (length text) text (omega arith)) h)

unread-nil : (pending : List ℕ) (left : Option (List ℕ)) (r : List ℕ) → pending ≡ [] → unread_bytes pending left ≡ Some r
    → left ≡ Some r
unfolding unread_bytes
unread-nil pending None r n e = absurd (cc)
unread-nil pending (Some xs) r n e = rw n at e

module _ {script pending : List ℕ} {left old new : Option (List ℕ)} {m : View} {f g : FileSource}
    (p : Progress script pending left old new f g m) (new' : Option (List ℕ)) (k : Keeps new new') where
  so_far : Output (LineReplies f.held) empty_view f.failures p.done p.text g.failures
  so_far = rw (← append-nil p.done, ← append-nil p.text) (p.ran [] [] g.failures at_end)

  -- the lines that were run, and their output
  abbrev printed : Printed script f g
  printed = record {
    ls = p.done;
    more = lines p.rest;
    text = p.text;
    split = ap lines p.split ∙ lines-unlines p.done p.rest p.plain;
    output = so_far;
  }

  wrote : Appended old new' p.text
  wrote = appended-kept old new new' p.text p.wrote k

  pub line-faulted : (pending' line : List ℕ) (left' : Option (List ℕ)) (e : ToolFault)
      → TakesLine p.rest pending' left' line (Err e) → Faulted script left' old new' f g e
  line-faulted pending' line left' Read h = record {
    printed = printed;
    no_quit = p.no_quit;
    part = line;
    rest = h.2.rest;
    split = p.split ∙ ap (λ (r : List ℕ). unlines p.done ++ r) h.2.split;
    plain = h.0;
    kept = unread-nil pending' left' h.2.rest h.1 h.2.known;
    wrote = wrote;
  }
  line-faulted pending' line left' Write h = absurd h
  line-faulted pending' line left' Memory h = record {
    printed = printed;
    no_quit = p.no_quit;
    goes_on = lines-some p.rest h;
    wrote = wrote;
  }
  line-faulted pending' line left' (RefusedSource e) h = absurd h

  -- a flush before a line failed
  pub unflushed : (left' : Option (List ℕ)) (e : ToolFault) → e ≡ Write → Faulted script left' old new' f g e
  unflushed left' e w = rw w (printed, part-whole old new' p.text wrote)

  -- the input ended after a newline
  pub end-done : (left' : Option (List ℕ)) → p.rest ≡ [] → left' ≡ Some [] → Finished script left' old new' f g
  end-done left' e z = record { printed = printed; whole = ap lines e; ended = inr z; wrote = wrote }

  module _ (new'' : Option (List ℕ)) (n : View) (g' : FileSource) {line : List ℕ} {more : List (List ℕ)}
      (next : lines p.rest ≡ line ∷ more) (is_known : IsTrue f.is_known) where
    here : lines script ≡ p.done ++ (line ∷ more)
    here = printed.split ∙ ap (λ (r : List (List ℕ)). p.done ++ r) next

    -- the files are still known
    still_known : IsTrue g.is_known
    still_known = rw p.kept.is_known is_known

    -- one more line, of which the files are the same
    replied : (u : List ℕ) → LineReplies g.held m g.failures g'.failures (command_of line) (u, n)
        → LineReplies f.held m g.failures g'.failures (command_of line) (u, n)
    replied u r = subst (λ fs. LineReplies fs m g.failures g'.failures (command_of line) (u, n)) p.kept.files r

    abbrev one_line : (u : List ℕ) → LineReplies g.held m g.failures g'.failures (command_of line) (u, n)
        → Printed script f g'
    one_line u r = record {
      ls = p.done ++ (line ∷ []);
      more = more;
      text = p.text ++ (u ++ []);
      split = here ∙ sym (append_assoc p.done (line ∷ []) more);
      output = p.ran (line ∷ []) (u ++ []) g'.failures (at_line line (u, n) (replied u r) at_end);
    }

    pub write-faulted : (left' : Option (List ℕ)) (e : WriteFault)
        → LineRan g g' m n (command_of line) new' new'' (Err e) → Faulted script left' old new'' f g' Write
    write-faulted left' e c =
        let r = c.1 still_known in
        (one_line r.0 r.1, rw (append-nil r.0) (part-then old new' new'' p.text r.0 wrote r.2))

    pub quit-done : (left' : Option (List ℕ)) → LineRan g g' m n (command_of line) new' new'' (Ok Quit)
        → Finished script left' old new'' f g'
    quit-done left' c =
        let q = c.1 still_known in
        let all : Printed script f g' = record {
          ls = p.done ++ (line ∷ more);
          more = [];
          text = p.text ++ [];
          split = here ∙ sym (append-nil (p.done ++ (line ∷ more)));
          output = rw (← q.1) (p.ran (line ∷ more) [] g.failures (at_quit line more q.0));
        } in
        record {
          printed = all;
          whole = refl;
          ended = inl (quit-in p.done line more q.0);
          wrote = appended-then old new' new'' p.text [] wrote q.2;
        }

    -- after it the input is at its end
    pub last-done : (left' : Option (List ℕ)) → left' ≡ Some [] → more ≡ []
        → LineRan g g' m n (command_of line) new' new'' (Ok NextLine) → Finished script left' old new'' f g'
    last-done left' z e c =
        let r = c.1 still_known in
        record {
          printed = one_line r.0 r.1;
          whole = e;
          ended = inr z;
          wrote = rw (append-nil r.0) (appended-then old new' new'' p.text r.0 wrote r.2);
        }

    pub line-done : {pending' : List ℕ} {left' : Option (List ℕ)} → has_newline line ≡ false
        → Took p.rest pending' left' (line ++ 10 ∷ []) → LineRan g g' m n (command_of line) new' new'' (Ok NextLine)
        → Progress script pending' left' old new'' f g' n
    line-done plain t c =
        let r = c.1 still_known in
        record {
          done = p.done ++ line ∷ [];
          text = p.text ++ r.0;
          rest = t.rest;
          split = p.split ∙ ap (λ (b : List ℕ). unlines p.done ++ b) t.split
              ∙ sym (append_assoc (unlines p.done) (line ++ 10 ∷ []) t.rest)
              ∙ ap (λ (l : List ℕ). l ++ t.rest) (sym (unlines-push p.done line));
          plain = plain-push p.done line p.plain plain;
          known = t.known;
          kept = record {
            files = c.0.files ∙ p.kept.files;
            is_known = c.0.is_known ∙ p.kept.is_known;
          };
          no_quit = quit-push p.done line p.no_quit (λ e. quit-silent f.held m g.failures g'.failures (r.0, n)
              (subst (λ said. LineReplies f.held m g.failures g'.failures said (r.0, n)) e (replied r.0 r.1)));
          ran = λ ls t h o. rw (append_assoc p.done (line ∷ []) ls, append_assoc p.text r.0 t)
              (p.ran (line ∷ ls) (r.0 ++ t) h (at_line line (r.0, n) (replied r.0 r.1) o));
          wrote = appended-then old new' new'' p.text r.0 wrote r.2;
        }

pub progress-start : (script pending : List ℕ) (left old : Option (List ℕ)) (f : FileSource) → pending ≡ []
    → left ≡ Some script → Progress script pending left old old f f empty_view
unfolding unread_bytes
progress-start script pending left old f n e = record {
  done = [];
  text = [];
  rest = script;
  split = refl;
  plain = tt;
  known = rw (n, e) refl;
  kept = record { files = refl; is_known = refl };
  no_quit = λ q. q;
  ran = λ ls t h o. o;
  wrote = appended-nil old;
}

-- `line` is the slice of the line `held` that was read
pub next-whole : {rest pending held line : List ℕ} {left : Option (List ℕ)} → line ≡ held → has_newline held ≡ false
    → (t : Took rest pending left (held ++ 10 ∷ [])) → lines rest ≡ line ∷ lines t.rest
next-whole {held = held} e h t =
    rw e (ap lines (t.split ∙ append_assoc held (10 ∷ []) t.rest) ∙ lines-plain held t.rest h)

pub next-last : {rest held line : List ℕ} → line ≡ held → has_newline held ≡ false → (held ≡ [] → ⊥)
    → rest ≡ held → lines rest ≡ line ∷ []
next-last {held = []} l h s e = absurd (s refl)
next-last {held = b ∷ bs} l h s e = ap lines e ∙ lines-last b bs h ∙ sym (ap (λ (x : List ℕ). x ∷ []) l)

-- either way
pub next : {line : List ℕ} (rest pending held : List ℕ) (left : Option (List ℕ)) (end : LineEnd) → line ≡ held
    → TakesLine rest pending left held (Ok (Some end)) → (more : List (List ℕ)) × (lines rest ≡ line ∷ more)
next rest pending held left Newline e t = (_, next-whole e t.0 t.1)
next rest pending held left Input e t = (_, next-last e t.0 t.3 t.1)

-- after the last flush
pub ended : (script : List ℕ) (left old new new' : Option (List ℕ)) (f g : FileSource) (r : Result (Unit {0}) ToolFault)
    → Finished script left old new f g → Keeps new new' → IfErr r (λ e. e ≡ Write)
    → MatchResult r (λ _. Finished script left old new' f g) (λ e. Faulted script left old new' f g e)
ended script left old new new' f g (Ok x) h k w = record {
  printed = h.printed;
  whole = h.whole;
  ended = h.ended;
  wrote = appended-kept old new new' h.printed.text h.wrote k;
}
ended script left old new new' f g (Err e) h k w =
    rw w (h.printed, part-whole old new' h.printed.text (appended-kept old new new' h.printed.text h.wrote k))
