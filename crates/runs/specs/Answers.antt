-- What a call answers.
use Rattle.std.specs.Prelude.{Result}
use Rattle.runs.specs.declared.call.Fault.{Fault}
use Rattle.runs.specs.declared.reply.Reply.{Reply}

-- what it came to, or why it is refused
abbrev pub Answer : Type 0
Answer = Result Reply Fault
