-- The records that an iterator has still to give.
use Rattle.std.specs.Prelude.{List, drop}
use Rattle.frame.specs.declared.each.Each.{Each}
use Rattle.frame.specs.Paths.{Path}
use Rattle.frame.specs.Views.{path_of}

abbrev pub left : {T : Type 0} → (Path → List T) → Each T → List T
left records e = drop e.index (records (path_of e.frame.bytes.now))
