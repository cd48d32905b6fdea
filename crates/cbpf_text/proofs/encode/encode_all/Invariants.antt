use Rattle.std.proofs.Common.{◌≡◌, ℕ, ◌++◌, List, drop}
use Rattle.std.specs.Prelude.{All}
use Rattle.indexmap.specs.IndexMap.{get}
use Rattle.cbpf_syntax.specs.Lexemes.{Lexeme}
use Rattle.cbpf_syntax.specs.Items.{Item}
use Rattle.cbpf_text.specs.Assembled.{insns_from}
use Rattle.cbpf_text.specs.Refusals.{uses_fault, uses_from}
use Rattle.cbpf_text.specs.Drafts.{AreStatements, same_name, Resolves}
use Rattle.cbpf_syntax.specs.Items.{HasForm}
use Rattle.cbpf_text.proofs.encode.encode_all.Given as goal

abbrev pub invariant-loop-i : goal.invariant-loop-i
invariant-loop-i g l = (ls : List (Lexeme × ℕ)) (is : List Item) → AreStatements l.statements is → All HasForm is
    → Resolves ls (λ k. get same_name l.labels k)
    → (uses_fault ls (uses_from 0 is) ≡ uses_fault ls (uses_from l.i (drop l.i is)))
    × (insns_from ls 0 is ≡ l.insns.items ++ insns_from ls l.i (drop l.i is))
