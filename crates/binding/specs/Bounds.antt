-- The bounds of a sample's value, in their order, and the number that each allows: a rank, or −1 where nothing fits.
use Rattle.std.specs.Prelude.{◌≡◌, ℕ, zero, suc, List, [], ◌∷◌, ◌++◌, length, ℤ, pos}
use Rattle.std.specs.Int.{int_min}
use Rattle.grade.specs.Profiles.{Profile}
use Rattle.grade.specs.Tops.{class_top, speed_top}
use Rattle.limit.specs.Numbers.{Number}
use Rattle.torque.specs.declared.row.Row.{Row}
use Rattle.motion.specs.declared.steps.Step.{Step}
use Rattle.motion.specs.Averages.{average}
use Rattle.motion.specs.Ramps.{before_allows, after}
use Rattle.torque.specs.Rows.{row_at}
use Rattle.motion.specs.Torques.{allows}
use Rattle.frame.specs.Paths.{Path}
use Rattle.sources.specs.Sources.{class_steps, speed_steps, offsets_of, rows_of, class_number, speed_number}
use Rattle.runs.specs.declared.stage.Make.{Make}
use Rattle.runs.specs.declared.stage.Make.TheVariants.{Classes, Speeds}
use Rattle.runs.specs.Sheets.{Sheets, sheet, cell}
use Rattle.runs.specs.Keeping.{own}
use Rattle.job.specs.Table.{entry}
use Rattle.job.specs.Whole.{top_of, limit_of}
use Rattle.binding.specs.declared.bound.Bound.{Bound}
use Rattle.binding.specs.declared.bound.Bound.TheVariants.{Cap, Class, RampBefore, RampAfter, Average, TorqueRow}

-- ---- one bound

-- the steps of a make
abbrev pub steps_of : Path → Make → List Step
steps_of path Classes = class_steps path
steps_of path Speeds = speed_steps path

-- what the class table grants a sample; of classes themselves the top
abbrev pub granted : Sheets → Make → ℕ → ℕ
granted S Classes i = class_top
granted S Speeds i = entry (cell S.classes i).value

-- what the average allows; of classes the top
abbrev pub averaged : Path → Make → Profile → ℕ → ℤ
averaged path Classes p i = pos class_top
averaged path Speeds p i = average (offsets_of path) p i

-- what torque row k allows; of classes the top
abbrev pub row_allows : Path → Make → Profile → ℕ → ℕ → ℤ
row_allows path Classes p i k = pos class_top
row_allows path Speeds p i k = allows path.header.spacing p i (row_at (rows_of path) k)

-- what a bound allows sample i of a profile, at this cap and under this grant
abbrev pub bounded : Path → Make → (cap grant : ℕ) → Profile → ℕ → Bound → ℤ
bounded path m cap grant p i Cap = pos cap
bounded path m cap grant p i Class = pos grant
bounded path m cap grant p i RampBefore = before_allows (top_of m) (steps_of path m) p i
bounded path m cap grant p i RampAfter = after (top_of m) (steps_of path m) p i
bounded path m cap grant p i Average = averaged path m p i
bounded path m cap grant p i (TorqueRow k) = row_allows path m p i k

-- what a bound allows sample i of the sheets
abbrev pub allowed : Path → Sheets → Make → ℕ → Bound → ℤ
allowed path S m i = bounded path m (cell (sheet S m) i).cap (granted S m i) (own S m) i

-- ---- all of them

-- n torque rows from row k on
abbrev pub rows_from : (k n : ℕ) → List Bound
rows_from k zero = []
rows_from k (suc n) = TorqueRow k ∷ rows_from (suc k) n

-- the bounds of a squared speed that are no torque rows
abbrev pub plain_bounds : List Bound
plain_bounds = Cap ∷ Class ∷ RampBefore ∷ RampAfter ∷ Average ∷ []

-- the bounds of a make
abbrev pub bounds_of : Path → Make → List Bound
bounds_of path Classes = Cap ∷ RampBefore ∷ RampAfter ∷ []
bounds_of path Speeds = plain_bounds ++ rows_from 0 (length (rows_of path))

-- the least of their numbers f, and of the top
abbrev pub least_of : ℕ → (Bound → ℤ) → List Bound → ℤ
least_of top f [] = pos top
least_of top f (b ∷ bs) = int_min (f b) (least_of top f bs)

-- the limit of a make
abbrev pub number_on : Path → Make → Number
number_on path m = limit_of (class_number path) (speed_number path) m

-- what sample i may at most be, the others as they are: the smallest of its cap, what its class grants and what its limit allows
abbrev pub together : Path → Sheets → Make → ℕ → ℤ
together path S m i = int_min (pos (cell (sheet S m) i).cap) (int_min (pos (granted S m i)) (number_on path m (own S m) i))

-- ---- the numbers that a limit's parts give

-- f has the numbers of the cap and of a ramp's two halves
pub record RampNumbers (top cap : ℕ) (steps : List Step) (p : Profile) (i : ℕ) (f : Bound → ℤ) : Type 0 where
  pub cap_is : f Cap ≡ pos cap
  pub before_is : f RampBefore ≡ before_allows top steps p i
  pub after_is : f RampAfter ≡ after top steps p i

-- and those of a squared speed's other bounds: what its class grants, the average and the rows
pub record SpeedNumbers (cap grant : ℕ) (steps : List Step) (qs : List ℤ) (h : ℕ) (rows : List Row) (p : Profile) (i : ℕ) (f : Bound → ℤ) : Type 0 where
  pub ramp : RampNumbers speed_top cap steps p i f
  pub class_is : f Class ≡ pos grant
  pub average_is : f Average ≡ average qs p i
  pub rows_are : (k : ℕ) → f (TorqueRow k) ≡ allows h p i (row_at rows k)
