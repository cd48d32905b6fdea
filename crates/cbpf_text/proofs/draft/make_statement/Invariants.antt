use Rattle.std.proofs.Common.{◌≡◌, ◌≤◌, ◌+◌, ◌-◌, length, map, drop}
use Rattle.cbpf_code.specs.Opcode.{code_of}
use Rattle.cbpf_text.specs.Operands.{names_at}
use Rattle.cbpf_syntax.specs.Views.{class_of, lexeme_of}
use Rattle.cbpf_text.specs.Drafts.{AreTargets}
use Rattle.cbpf_text.specs.Operands.{literal_of}
use Rattle.cbpf_text.proofs.draft.make_statement.Given as goal

abbrev pub invariant-loop-i : goal.invariant-loop-i
invariant-loop-i l = record {
  classes : l.i ≤ length l.operand;
  tokens : l.i ≤ length l.body - 1;
  code : l.statement.code ≡ code_of l.row.op;
  fields : l.statement.fields ≡ l.row.fields;
  literal : l.statement.literal
      ≡ literal_of (drop l.i (map class_of l.operand)) (drop (l.i + 1) (map lexeme_of l.body));
  targets : AreTargets l.statement.targets l.statement.first l.statement.second
      (names_at (drop l.i (map class_of l.operand)) (drop (l.i + 1) (map lexeme_of l.body)));
}

abbrev pub decreases-loop-i : goal.decreases-loop-i
decreases-loop-i l = l.i
