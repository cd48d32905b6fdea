-- The machine of a question (this project's own).
use Rattle.cbpf_machine.specs.Machine.{Machine, machine_of}
use Rattle.cbpf_why.specs.declared.question.Question.{Question}

-- the program of a question, with its values for extensions
abbrev pub machine_in : {P : Type 0} → Question P → Machine
machine_in q = machine_of q.program.now q.values.now
