use Rattle.std.proofs.Common.{arith}
use Rattle.std.proofs.lemmas.List.{length-map}
use Rattle.record.specs.declared.sample.Sample.{Sample}
use Rattle.frame.specs.Views.{path_of}
use Rattle.sources.proofs.Counted.{samples_counted}
use Rattle.sources.proofs.offsets.FrameOffsetsOffsets.offset.Goals as goal

pub known_offset-requires : goal.known_offset-requires
known_offset-requires c =
    let frame = c.args.self.now.frame in
    omega (arith, c.requires, samples_counted frame.bytes.now frame.sound, length-map (path_of frame.bytes.now).samples (λ (s : Sample). s.q))
