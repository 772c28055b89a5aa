-- What lies below a sample's floor, as C sees it.
use Rattle.std.specs.Prelude.{◌≡◌, ℕ, ◌<◌, ◌≤◌, ◌⊎◌, List, length, ℤ, pos, negsuc, Some, None, Ok, Err, Option, Result}
use Rattle.grade.specs.declared.cell.Cell.{Cell}
use Rattle.grade.specs.declared.class.Class.{Class}
use Rattle.grade.specs.declared.speed.Speed.{Speed}
use Rattle.frame.specs.declared.fault.FrameFault.{FrameFault}
use Rattle.frame.specs.declared.header.Header.{Header}
use Rattle.frame.specs.Paths.{Path, header_of, path_read}
use Rattle.frame.specs.Views.{path_of}
use Rattle.runs.specs.declared.stage.Make.{Make}
use Rattle.runs.specs.declared.stage.Make.TheVariants.{Classes, Speeds}
use Rattle.runs.specs.Sheets.{Sheets}
use Rattle.binding.specs.declared.bound.Clash.{Clash}
use Rattle.binding.specs.Clashing.{Clashes}
use Rattle.furqyzet_c.specs.declared.clashing.ClashWords.{ClashWords}
use Rattle.binding.specs.Binding.{sheets_on}
use Rattle.furqyzet_c.specs.Naming.{bound_number}

abbrev pub make_number : Make → ℕ
make_number Classes = 0
make_number Speeds = 1

-- what a bound allows, −1 where nothing fits
abbrev pub most_of : Option ℕ → ℤ
most_of None = negsuc 0
most_of (Some n) = pos n

abbrev pub clash_words : Option Clash → ClashWords
clash_words None = record { most = pos 0; make = 0; bound = 0; floor = 0; is_there = 0 }
clash_words (Some c) = record { most = most_of c.most; make = make_number c.make; bound = bound_number c.bound; floor = c.floor; is_there = 1 }

abbrev pub ClashesFor : Path → Sheets → ℕ → ClashWords → Type 0
ClashesFor p S i x = (r : Option Clash) × Clashes p S i r × (x ≡ clash_words r)

-- where a memory is too short for the path's samples, nothing is found
pub record ClashesOf (p : Path) (cs : List (Cell Class)) (ss : List (Cell Speed)) (i : ℕ) (x : ClashWords) : Type 0 where
  pub short : (length cs < p.header.samples) ⊎ (length ss < p.header.samples) → x ≡ clash_words None
  pub found : p.header.samples ≤ length cs → p.header.samples ≤ length ss → ClashesFor p (sheets_on p cs ss) i x

abbrev pub ClashesUnder : List ℕ → Result Header FrameFault → List (Cell Class) → List (Cell Speed) → ℕ → ClashWords → Type 0
ClashesUnder bs (Err f) cs ss i x = x ≡ clash_words None
ClashesUnder bs (Ok _) cs ss i x = ClashesOf (path_of bs) cs ss i x

-- x are the words of the clash at sample i
abbrev pub ClashesWords : List ℕ → List (Cell Class) → List (Cell Speed) → ℕ → ClashWords → Type 0
ClashesWords bs = ClashesUnder bs (header_of (path_read bs))
