-- What holds a sample's value, as C sees it.
use Rattle.std.specs.Prelude.{◌≡◌, ℕ, ◌+◌, ◌<◌, ◌≤◌, ◌⊎◌, min, List, length, Some, None, Ok, Err, Option, Result}
use Rattle.grade.specs.declared.cell.Cell.{Cell}
use Rattle.grade.specs.declared.class.Class.{Class}
use Rattle.grade.specs.declared.speed.Speed.{Speed}
use Rattle.frame.specs.declared.fault.FrameFault.{FrameFault}
use Rattle.frame.specs.declared.header.Header.{Header}
use Rattle.frame.specs.Paths.{Path, header_of, path_read}
use Rattle.frame.specs.Views.{path_of}
use Rattle.runs.specs.declared.stage.Make.{Make}
use Rattle.runs.specs.Sheets.{Sheets}
use Rattle.binding.specs.declared.bound.Bound.{Bound}
use Rattle.binding.specs.declared.bound.Bound.TheVariants as bound
use Rattle.binding.specs.Binding.{Binds, sheets_on}
use Rattle.furqyzet_c.specs.Calls.{make_in}

-- a row's number at most the greatest of 32 bits
abbrev pub bound_number : Bound → ℕ
bound_number bound.Cap = 1
bound_number bound.Class = 2
bound_number bound.RampBefore = 3
bound_number bound.RampAfter = 4
bound_number bound.Average = 5
bound_number (bound.TorqueRow k) = min (6 + min k 4294967295) 4294967295

abbrev pub number_of : Option Bound → ℕ
number_of None = 0
number_of (Some b) = bound_number b

abbrev pub BindsFor : Path → Option Make → Sheets → ℕ → ℕ → Type 0
BindsFor p None S i k = k ≡ 0
BindsFor p (Some m) S i k = (r : Option Bound) × Binds p S m i r × (k ≡ number_of r)

-- where a memory is too short for the path's samples, nothing is found
pub record BindsOf (p : Path) (m : Option Make) (cs : List (Cell Class)) (ss : List (Cell Speed)) (i k : ℕ) : Type 0 where
  pub short : (length cs < p.header.samples) ⊎ (length ss < p.header.samples) → k ≡ 0
  pub found : p.header.samples ≤ length cs → p.header.samples ≤ length ss → BindsFor p m (sheets_on p cs ss) i k

abbrev pub BindsUnder : List ℕ → Result Header FrameFault → (make : ℕ) → List (Cell Class) → List (Cell Speed) → ℕ → ℕ → Type 0
BindsUnder bs (Err f) make cs ss i k = k ≡ 0
BindsUnder bs (Ok _) make cs ss i k = BindsOf (path_of bs) (make_in make) cs ss i k

-- k is the number of what holds sample i
abbrev pub BindsWords : List ℕ → (make : ℕ) → List (Cell Class) → List (Cell Speed) → ℕ → ℕ → Type 0
BindsWords bs = BindsUnder bs (header_of (path_read bs))
