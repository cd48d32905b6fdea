use Rattle.std.proofs.Common.{◌-◌, length}
use Rattle.cbpf_code.proofs.WordStepLemmas.{IsRead}
use Rattle.cbpf_code.proofs.words.read_list.Given as goal

abbrev pub invariant-loop-list : goal.invariant-loop-list
invariant-loop-list g l = IsRead l.text l.count l.list.items l.at

abbrev pub decreases-loop-list : goal.decreases-loop-list
decreases-loop-list g l = length l.text - l.at
