use Rattle.std.proofs.Common.{◌≡◌, [], ◌∷◌, ◌++◌, arith, rules, refl}
use Rattle.std.proofs.lemmas.Grind.{common_steps}
use Rattle.cbpf_code.specs.WordTokens.{tokens_from}
use Rattle.cbpf_code.specs.WordText.{count, count_comma, comma}
use Rattle.cbpf_code.proofs.WordStepLemmas.{passes-then, read-next, read-last, five}
use Rattle.cbpf_code.proofs.words.read_list.Goals as goal

pub loop-list-init : goal.loop-list-init
loop-list-init g c =
    rw c.new-list.ensures.items
    (passes-then (c.in_ok-count.ensures.step count refl) (c.in_ok-at.ensures count_comma refl))

pub loop-list-preserved : goal.loop-list-preserved
loop-list-preserved g c =
    let items : c.push.new.self.items ≡ c.loop-list.list.items ++ c.in_ok-insn.insn ∷ [] =
    grind (arith, common_steps) in
    rw items (read-next _ _ _ _ _ _ _ c.loop-list.invariant c.in_ok-insn.ensures (c.in_ok-at-2.ensures comma refl))

pub returns-then-is_err : goal.returns-then-is_err
returns-then-is_err g c = five _ _ _ _ _ _ c.loop-list.invariant c.in_ok-insn.ensures

pub counted-requires : goal.counted-requires
counted-requires g c =
    let items : c.push.new.self.items ≡ c.loop-list.list.items ++ c.in_ok-insn.insn ∷ [] =
    grind (arith, common_steps) in
    let e : tokens_from c.args.text.now c.in_ok-insn.end ≡ [] = search rules in
    rw items (read-last _ _ _ _ _ _ c.loop-list.invariant c.in_ok-insn.ensures e)
