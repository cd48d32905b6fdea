use Rattle.std.proofs.Common.{rules, ◌≡◌, List, [], ◌∷◌, refl, Bool}
use Rattle.std.specs.List.{common_prefix_len}
use Rattle.std.proofs.lemmas.List.{drop_all}
use Rattle.cbpf_syntax.proofs.choice.common_len.Goals as goal

none_left : {X Y : Type 0} (e : X → Y → Bool) (xs : List X) → common_prefix_len e xs [] ≡ 0
none_left e [] = refl
none_left e (x ∷ xs) = refl

pub returns-else-n-tokens : goal.returns-else-n-tokens
returns-else-n-tokens c = search (rules, drop_all, none_left)
