-- A job as plain words.
use Rattle.std.specs.Prelude.{Bool, ◌&&◌, nat_le, nat_lt}
use Rattle.job.specs.declared.job.Job.{Job}
use Rattle.job.specs.declared.parts.Parts.{Parts}

-- the words of a job
abbrev pub parts_of : Job → Parts
parts_of j = record { samples = j.samples.count; stage = j.stage; sweep = j.sweep }

-- are they a job's?
abbrev pub are_parts : Parts → Bool
are_parts p = nat_le 2 p.samples && (nat_le p.samples 4096 && nat_lt p.sweep.visited p.samples)
