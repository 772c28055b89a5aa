use Rattle.std.proofs.Common.{sym, ◌∙◌}
use Rattle.job.proofs.Rooms.{room_yes}
use Rattle.job.proofs.job.Job.ask.Goals as goal

pub returns-clause-is : goal.returns-clause-is
returns-clause-is c a b =
    let room = c.in_ok-ask_room.ensures.room in
    c.ask_call.ensures.is a b ∙ sym (room_yes c.args.self.now.samples.count c.args.classes c.args.speeds _ room.0 room.1)
