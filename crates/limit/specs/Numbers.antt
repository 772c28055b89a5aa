-- The number of a limit at a sample of a profile: the rank of the greatest grade that fits there, or −1 where nothing fits.
use Rattle.std.specs.Prelude.{◌≡◌, ℕ, ◌<◌, ◌≤◌, ◌↔◌, length, ℤ, pos, negsuc, ◌≤ℤ◌, Some, None, Option}
use Rattle.std.specs.Int.{int_min, int_max}
use Rattle.grade.specs.Profiles.{Profile, rank, Within, AtMost}

-- the meaning of a limit: a number for each profile and sample
abbrev pub Number : Type 0
Number = Profile → ℕ → ℤ

-- the span of a limit that holds no data by sample: as many samples as there can be
abbrev pub every_sample : ℕ
every_sample = 18446744073709551615

-- the number of an answer
abbrev pub number_of : {G : Type 0} → (G → ℕ) → Option G → ℤ
number_of rank_of None = negsuc 0
number_of rank_of (Some g) = pos (rank_of g)

-- the rule: where one profile is nowhere above another as long as it, its number is nowhere above the other's
abbrev pub Rule : ℕ → Number → Type 0
Rule top number = (p q : Profile) → Within top p → Within top q → length p ≡ length q → AtMost p q → (i : ℕ) → number p i ≤ℤ number q i

-- what every make of limit shows of its number, over profiles of ranks up to the top
pub record LimitLaw (top : ℕ) (number : Number) : Type 0 where
  pub low : (p : Profile) (i : ℕ) → Within top p → negsuc 0 ≤ℤ number p i
  pub high : (p : Profile) (i : ℕ) → Within top p → number p i ≤ℤ pos top
  pub outside : (p : Profile) (i : ℕ) → Within top p → length p ≤ i → number p i ≡ pos top
  pub monotone : Rule top number

-- every number below −1 says what −1 does: nothing fits
abbrev pub clamped : ℤ → ℤ
clamped z = int_max (negsuc 0) z

-- the least number that a limit is asked to go no further than; so wide are numbers below 0 that sums and products may have
abbrev pub least_asked : ℤ
least_asked = negsuc 2147483647

-- the answer r to a limit whose number is z, asked no further than a number: the lesser of the two
pub record AsFar (most z r : ℤ) : Type 0 where
  pub lesser : clamped r ≡ int_min (clamped most) z
  pub least : least_asked ≤ℤ r

-- a rank that the limit allows at a sample, the profile as it is
abbrev pub Allows : Number → Profile → ℕ → ℕ → Type 0
Allows number p i g = pos g ≤ℤ number p i

-- a profile keeps a limit at a sample when the sample's rank is at most its number there
abbrev pub KeptAt : Number → Profile → ℕ → Type 0
KeptAt number p i = Allows number p i (rank p i)

-- a profile keeps a limit when it keeps it at each sample
abbrev pub Keeps : Number → Profile → Type 0
Keeps number p = (i : ℕ) → i < length p → KeptAt number p i

-- the profiles within the top that keep a limit are those of which P holds
abbrev pub KeptExactly : ℕ → Number → (Profile → Type 0) → Type 0
KeptExactly top number P = (p : Profile) → Within top p → Keeps number p ↔ P p

-- an answer is the greatest grade whose rank fits, or nothing where no rank up to the top does
abbrev pub Greatest : {G : Type 0} → (G → ℕ) → ℕ → (ℕ → Type 0) → Option G → Type 0
Greatest rank_of top Fits None = (g : ℕ) → g ≤ top → Fits g → ⊥
Greatest rank_of top Fits (Some x) = Fits (rank_of x) × ((g : ℕ) → g ≤ top → Fits g → g ≤ rank_of x)

-- the number of a pair of limits: the smaller of theirs
abbrev pub both : Number → Number → Number
both f g p i = int_min (f p i) (g p i)
