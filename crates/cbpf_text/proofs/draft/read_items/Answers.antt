use Rattle.std.proofs.Common.{rules, ◌≡◌, ℕ, List, Option, Bool, ◌≤◌, ◌<◌, ◌+◌, ◌∙◌, Some, [], refl, sym, ap, subst}
use Rattle.std.proofs.Common.{length, map, take, ◌++◌, length-append, arith}
use Rattle.std.specs.Prelude.{IfSome, IfNone}
use Rattle.cbpf_syntax.specs.Tokens.{IsLexFault}
use Rattle.indexmap.specs.IndexMap.{get}
use Rattle.cbpf_syntax.specs.declared.reader.Step.{Step}
use Rattle.cbpf_text.specs.declared.draft.Statement.{Statement}
use Rattle.cbpf_text.specs.declared.name.Name.{Name}
use Rattle.cbpf_text.specs.Drafts.{same_name, IsDraft}
use Rattle.cbpf_text.specs.Refusals.{IsPlacedFault}
use Rattle.cbpf_syntax.specs.Items.{Item, Items}
use Rattle.cbpf_syntax.specs.Lexemes.{Lexeme, AreLexemes}
use Rattle.cbpf_syntax.specs.Ahead.{Ahead, HasTaken, IsStepOf, IsFirstLarge, MayRemain, step_len}
use Rattle.cbpf_syntax.specs.Views.{lexeme_of}
use Rattle.cbpf_syntax.proofs.Taking.{remains}
use Rattle.cbpf_syntax.proofs.FirstRefusal.{items_accepted}
use Rattle.std.proofs.lemmas.List.{length-map}
use Rattle.cbpf_syntax.specs.Steps.{Stuck}
use Rattle.cbpf_syntax.proofs.Steps.{end_stuck}
use Rattle.cbpf_text.specs.declared.fault.AsmKind.TheVariants as kinds
use Rattle.cbpf_text.specs.declared.placed.PlacedFault.TheVariants as placed
use Rattle.cbpf_text.proofs.FaultParts.{lex_refused, IsState, state_init, state_stuck, state_items, state_lexemes}
use Rattle.cbpf_text.proofs.FaultParts.{label_state, item_state, tokens_refused, items_large_refused}
use Rattle.cbpf_text.proofs.draft.read_items.Given.{Over}
use Rattle.cbpf_text.proofs.draft.read_items.Goals.{In-Ok, After-large}
use Rattle.cbpf_text.proofs.draft.read_items.Goals as goal

pub loop-next-init : goal.loop-next-init
loop-next-init g c =
    record { text = search rules; size = search rules; state = ([], c.requires.reading, search (rules, state_init)) }

pub returns-in-Err-clause-refused : goal.returns-in-Err-clause-refused
returns-in-Err-clause-refused g c =
    let inv = c.loop-next.invariant in
    lex_refused c.args.reader.now.text c.lex_fault.result (c.lex_fault.ensures c.args.reader.now.text
    (subst (λ u. IsLexFault u c.in-Err.fault) inv.text c.in-Err.ensures.fault))

-- the state after a step, and what the step says of the tokens
abbrev Stepped : List ℕ → Ahead → Option ℕ → List Statement → Option ℕ → (Name → Option ℕ) → Bool → Option Step → Type 0
Stepped text a o ss rep look waits next = (taken : List Lexeme) × HasTaken taken a × (a.text ≡ text)
    × IsState text taken o ss rep look waits × ((ts : List Lexeme) → MayRemain a ts → IsStepOf ts next)

stepped : (g : Over) (c : In-Ok g) → Stepped c.args.reader.now.text c.step.new.self c.loop-next.draft.excess
    c.loop-next.draft.statements.items c.loop-next.draft.labels.repeat
    (λ k. get same_name c.loop-next.draft.labels.table k) c.loop-next.waits c.in-Ok.next
stepped g c =
    let inv = c.loop-next.invariant in (
      inv.state.0,
      c.in-Ok.ensures.reading inv.state.0 inv.state.1,
      c.in-Ok.ensures.text ∙ inv.text,
      inv.state.2,
      c.in-Ok.ensures.step,
    )

pub loop-next-preserved-in-Some-Label : goal.loop-next-preserved-in-Some-Label
loop-next-preserved-in-Some-Label g c =
    let s = stepped g (goal.at.loop-next-preserved-in-Some-Label g c).In-Ok in
    let st = c.in-Some-Label.is ∙ ap (λ q. Some q) (rw c.in-Some-Label.is at c.in-Some-Label.field-0-is) in
    record {
      text = c.take.ensures.text ∙ s.2;
      size = c.add_label.ensures.size;
      state = (
        s.0 ++ map lexeme_of (take 2 c.step.new.self.tokens),
        c.take.ensures.reading s.0 s.1,
        label_state c.step.new.self s.1 s.2 s.3 _
            (λ ts may. subst (λ q. IsStepOf ts q) st (s.4 ts may))
            (subst (λ q. step_len q ≤ length c.step.new.self.tokens) st c.in-Ok.ensures.within)
            (rw c.ahead.ensures at c.in_ok-add_label-in-Some-Label.ensures.label),
      );
    }

pub loop-next-preserved : goal.loop-next-preserved
loop-next-preserved g c =
    let s = stepped g (goal.at.loop-next-preserved g c).In-Ok in
    let st = c.in-Some-Instruction.is ∙ ap (λ q. Some q) (rw c.in-Some-Instruction.is at c.in-Some-Instruction.field-0-is) in
    let m = 1 + length c.in-Some-Instruction.row.operand.now in
    record {
      text = c.take-in-Some-Instruction.ensures.text ∙ s.2;
      size = c.add_instruction.ensures.size;
      state = (
        s.0 ++ map lexeme_of (take m c.step.new.self.tokens),
        c.take-in-Some-Instruction.ensures.reading s.0 s.1,
        item_state c.step.new.self s.1 s.2 s.3 c.in-Some-Instruction.row m refl
            (λ ts may. subst (λ q. IsStepOf ts q) st (s.4 ts may))
            (subst (λ q. step_len q ≤ length c.step.new.self.tokens) st c.in-Ok.ensures.within)
            (rw c.ahead-in-Some-Instruction.ensures at c.in_ok-add_instruction-in-Some-Instruction.ensures.item),
      );
    }

pub returns-in-Some-Stuck-clause-refused : goal.returns-in-Some-Stuck-clause-refused
returns-in-Some-Stuck-clause-refused g c =
    let s = stepped g (goal.at.returns-in-Some-Stuck-clause-refused g c).In-Ok in
    let st = c.in-Some-Stuck.is ∙ ap (λ q. Some q) (rw c.in-Some-Stuck.is at c.in-Some-Stuck.field-0-is) in
    let some : 0 < length c.step.new.self.tokens =
    subst (λ q. IfSome q (λ _. 0 < length c.step.new.self.tokens)) st c.in-Ok.ensures.some in
    subst (λ u. IsPlacedFault u c.fault_here.result) s.2 (c.fault_here.ensures s.0 s.1 (λ ts here.
    let t = subst (λ u. AreLexemes u (s.0 ++ ts)) s.2 here in
    let may = remains c.args.reader.now.text s.0 c.step.new.self ts s.1 s.2 t in
    let long : 0 < length ts = omega (
      arith,
      some,
      ap length may.1,
      length-map c.step.new.self.tokens lexeme_of,
      length-append (map lexeme_of c.step.new.self.tokens) may.0,
    ) in
    state_stuck c.step.new.self s.1 s.2 s.3 c.in-Some-Stuck.n ts t (omega (arith, long))
    (subst (λ q. IsStepOf ts q) st (s.4 ts may))))

pub returns-in-None-clause-refused : goal.returns-in-None-clause-refused
returns-in-None-clause-refused g c =
    let s = stepped g (goal.at.returns-in-None-clause-refused g c).In-Ok in
    subst (λ u. IsPlacedFault u c.fault_here-in-None.result) s.2 (c.fault_here-in-None.ensures s.0 s.1 (λ ts here.
    let t = subst (λ u. AreLexemes u (s.0 ++ ts)) s.2 here in
    let none : ts ≡ [] = subst (λ q. IsStepOf ts q) c.in-None.is
    (s.4 ts (remains c.args.reader.now.text s.0 c.step.new.self ts s.1 s.2 t)) in
    let some = s.3.some c.if-waits.true in
    state_stuck c.step.new.self s.1 s.2 s.3 0 ts t (omega (arith, some)) (subst (λ us. Stuck 0 us) (sym none) end_stuck)))

-- the items of a text that was read to its end
ended : (g : Over) (c : After-large g) → Stepped c.args.reader.now.text c.step.new.self c.loop-next.draft.excess
    c.loop-next.draft.statements.items c.loop-next.draft.labels.repeat
    (λ k. get same_name c.loop-next.draft.labels.table k) c.loop-next.waits c.in-Ok.next
    → (ts : List Lexeme) × (is : List Item) × AreLexemes c.args.reader.now.text ts × Items ts is
    × IsDraft c.loop-next.draft.excess c.loop-next.draft.statements.items c.loop-next.draft.labels.repeat
    (λ k. get same_name c.loop-next.draft.labels.table k) is []
    × IsFirstLarge ts c.large.result
ended g c s =
    let size : length c.step.new.self.tokens ≡ 0 =
    subst (λ q. IfNone q (length c.step.new.self.tokens ≡ 0)) c.in-None-2.is c.in-Ok.ensures.none in
    let t = state_lexemes c.step.new.self s.1 s.2 s.3
    (c.in-Ok.ensures.end (ap step_len c.in-None-2.is ∙ sym size)) size in
    let end = state_items c.step.new.self s.1 s.2 s.3 c.if-waits.false t in
    (s.0, s.3.is, t, end.0, end.1, subst (λ o. IsFirstLarge s.0 o) (sym c.large.ensures) s.1.large)

pub returns-in-Some-clause-refused : goal.returns-in-Some-clause-refused
returns-in-Some-clause-refused g c =
    let at = goal.at.returns-in-Some-clause-refused g c in
    let e = ended g at.After-large (stepped g at.In-Ok) in
    let large : IsFirstLarge e.0 (Some c.in-Some.at) = subst (λ o. IsFirstLarge e.0 o) c.in-Some.is e.5 in
    tokens_refused c.args.reader.now.text e.0 kinds.LargeNumber c.in-Some.at (placed.At kinds.LargeNumber c.in-Some.at) e.2
    (items_large_refused e.0 e.1 c.in-Some.at e.3 large) refl

pub returns-in-None-large-clause-items : goal.returns-in-None-large-clause-items
returns-in-None-large-clause-items g c =
    let at = goal.at.returns-in-None-large-clause-items g c in
    let e = ended g at.After-large (stepped g at.In-Ok) in
    let large = subst (λ o. IsFirstLarge e.0 o) c.in-None-large.is e.5 in
    (e.0, e.1, e.2, e.3, items_accepted e.0 e.1 e.3 large, e.4)
