use Rattle.std.proofs.Common.{◌≡◌, ℕ, List, ◌+◌, ◌-◌, ◌≤◌, ◌++◌, drop, take, length, take_all, length-drop, arith, sym}
use Rattle.std.proofs.Common.{ap, ◌∙◌}
use Rattle.std.specs.List.{flat_map}
use Rattle.std.proofs.lemmas.Grind.{flat_map-append}
use Rattle.std.proofs.Math.Seq.{take-add}
use Rattle.cbpf_code.specs.declared.insn.Insn.{Insn}
use Rattle.cbpf_code.specs.WordForm.{word_line}
use Rattle.cbpf_code.proofs.WrittenLemmas.{appended-then, part-then, part-front, err-exit}
use Rattle.cbpf_code.proofs.word_form.write_word_lines.Goals as goal

-- the lines up to e end with the text from a place on
lines : (list : List Insn) (i e at size : ℕ) (text : List ℕ) → i ≤ e → length text ≡ size
    → drop at text ≡ flat_map word_line (take (e - i) (drop i list))
    → flat_map word_line (take e list) ≡ flat_map word_line (take i list) ++ take (size - at) (drop at text)
lines list i e at size text l long same =
    let whole : i + (e - i) ≡ e = omega arith in
    let all : take (size - at) (drop at text) ≡ drop at text = take_all _ _ (omega (arith, length-drop at text)) in
    rw (all, same) (sym (ap (λ (k : ℕ). flat_map word_line (take k list)) whole)
    ∙ ap (flat_map word_line) (take-add i (e - i) list)
    ∙ flat_map-append word_line (take i list) (take (e - i) (drop i list)))

pub returns-in_err-write_bytes : goal.returns-in_err-write_bytes
returns-in_err-write_bytes g c =
    let list = c.args.list.now in
    let text = c.prepend_word_lines-at in
    err-exit _ _ _ _ c.from_residual.ensures.0 (part-front word_line list c.min-end.result _ _
    (rw (lines list c.loop-i.i c.min-end.result _ _ _ (omega arith) text.array_long text.ensures.bytes)
    (part-then _ _ _ _ _ c.loop-i.invariant.0 (c.in_err-write_bytes.ensures {u = tt}))))

pub loop-i-preserved : goal.loop-i-preserved
loop-i-preserved g c =
    let text = c.prepend_word_lines-at in (
      rw (lines c.args.list.now c.loop-i.i c.min-end.result _ _ _ (omega arith) text.array_long text.ensures.bytes)
          (appended-then _ _ _ _ _ c.loop-i.invariant.0 (c.in_ok-write_bytes.ensures {u = tt})),
      omega arith,
    )
