use Rattle.std.proofs.Common.{◌≡◌, ◌≤◌, List, length}
use Rattle.cbpf_syntax.specs.Lexemes.{Lexeme}
use Rattle.cbpf_code.specs.declared.checker.TheConstants.{MAX_INSTRUCTIONS}
use Rattle.indexmap.specs.IndexMap.{get}
use Rattle.cbpf_syntax.specs.Ahead.{HasTaken, left}
use Rattle.cbpf_text.specs.Drafts.{same_name}
use Rattle.cbpf_text.proofs.FaultParts.{IsState}
use Rattle.cbpf_text.proofs.draft.read_items.Given as goal

abbrev pub invariant-loop-next : goal.invariant-loop-next
invariant-loop-next g l = record {
  text : l.reader.text ≡ l.fn.reader.text;
  size : length l.draft.statements.items ≤ MAX_INSTRUCTIONS;
  state : (taken : List Lexeme) × HasTaken taken l.reader × IsState l.fn.reader.text taken l.draft.excess l.draft.statements.items
      l.draft.labels.repeat (λ k. get same_name l.draft.labels.table k) l.waits;
}

abbrev pub decreases-loop-next : goal.decreases-loop-next
decreases-loop-next g l = left l.reader
