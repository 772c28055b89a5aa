-- Each fault of a frame: its layer, the number of the question that said no, and its place.
use Rattle.std.specs.Prelude.{ℕ, ◌+◌}
use Rattle.record.specs.declared.asked.Asked.{Asked}
use Rattle.record.specs.Faults.{sample_asked, gap_asked, row_asked}
use Rattle.frame.specs.declared.fault.FrameFault.{FrameFault}
use Rattle.frame.specs.declared.fault.FrameFault.TheVariants as frame
use Rattle.frame.specs.declared.refusal.Layer.{Layer}
use Rattle.frame.specs.declared.refusal.Layer.TheVariants as layer
use Rattle.frame.specs.declared.refusal.Refusal.{Refusal}

abbrev pub framed : ℕ → ℕ → Refusal
framed k at = record { layer = layer.Frame; number = k; place = at }

-- of a record that begins at an offset
abbrev pub recorded : Layer → ℕ → Asked → Refusal
recorded l start a = record { layer = l; number = a.number; place = start + a.offset }

abbrev pub refusal_of : FrameFault → Refusal
refusal_of frame.TooShort = framed 10 0
refusal_of frame.Version = framed 11 0
refusal_of frame.Length = framed 12 1
refusal_of frame.ShortBody = framed 13 1
refusal_of frame.SampleCount = framed 14 5
refusal_of frame.Spacing = framed 15 7
refusal_of frame.Lateral = framed 16 9
refusal_of frame.RowCount = framed 17 13
refusal_of frame.Size = framed 18 1
refusal_of (frame.Sample f) = recorded layer.Sample f.start (sample_asked f.fault)
refusal_of (frame.Gap f) = recorded layer.Gap f.start (gap_asked f.fault)
refusal_of (frame.Row f) = recorded layer.Torque f.start (row_asked f.fault)
