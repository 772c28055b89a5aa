-- A pair that keeps everything, raised by one at one sample where its cap, its class and its limit leave room, keeps
-- everything: so the greatest pair leaves room nowhere.
use Rattle.std.proofs.Common.{◌≡◌, ℕ, ◌+◌, ◌<◌, ◌≤◌, length, set, pos, ◌≤ℤ◌, sym, refl, ◌∙◌, subst, ⊎_elim, arith, length-set}
use Rattle.std.proofs.lemmas.List.{get_or-set_same, get_or-set_other}
use Rattle.std.proofs.lemmas.Int.{ints}
use Rattle.std.proofs.lemmas.Bool.{cases_eq}
use Rattle.grade.specs.Profiles.{Profile, rank, Within}
use Rattle.runs.specs.declared.stage.Make.{Make}
use Rattle.runs.specs.declared.stage.Make.TheVariants.{Classes, Speeds}
use Rattle.runs.specs.InForce.{Bounds}
use Rattle.runs.specs.Keeping.{Pair, KeepsAll}
use Rattle.runs.specs.Settings.{Setting, SettingLaw}

-- ---- one profile

-- a profile, one higher at sample i
abbrev up : ℕ → Profile → Profile
up i p = set p i (rank p i + 1)

up_here : (i : ℕ) (p : Profile) → i < length p → rank (up i p) i ≡ rank p i + 1
up_here i p h = get_or-set_same p i (rank p i + 1) 0 h

-- what holds of the rank that is raised and of the others as they were
up_all : (i : ℕ) (p : Profile) (Q : ℕ → ℕ → Type 0) → i < length p → Q i (rank p i + 1) → ((j : ℕ) → j < length p → Q j (rank p j))
    → (j : ℕ) → j < length p → Q j (rank (up i p) j)
up_all i p Q h new old j l =
    ⊎_elim (λ e. subst (λ n. Q n (rank (up i p) n)) (sym e) (subst (Q i) (sym (up_here i p h)) new))
    (λ ne. subst (Q j) (sym (get_or-set_other p i j (rank p i + 1) 0 ne)) (old j l)) (cases_eq j i)

-- ---- a pair

-- there is room for one more under the table
abbrev pub Granting : Setting → Pair → ℕ → Make → Type 0
Granting σ P i Classes = Unit {0}
Granting σ P i Speeds = rank (P Speeds) i + 1 ≤ σ.table (rank (P Classes) i)

module _ (σ : Setting) (law : SettingLaw σ) (b : Bounds) (P : Pair) (keeps : KeepsAll σ b P) (within : (m : Make) → Within (σ.top m) (P m)) (i : ℕ) (h : i < σ.samples) where
  -- the pair, one higher at sample i of one make
  abbrev raised : Make → Pair
  raised Classes Classes = up i (P Classes)
  raised Classes Speeds = P Speeds
  raised Speeds Classes = P Classes
  raised Speeds Speeds = up i (P Speeds)

  in_profile : (m : Make) (j : ℕ) → j < σ.samples → j < length (P m)
  in_profile m j l = let e = keeps.long m in omega arith

  in_samples : (m : Make) (j : ℕ) → j < length (P m) → j < σ.samples
  in_samples m j l = let e = keeps.long m in omega arith

  raised_all : (m : Make) (Q : Make → ℕ → ℕ → Type 0) → Q m i (rank (P m) i + 1) → ((m' : Make) (j : ℕ) → j < σ.samples → Q m' j (rank (P m') j))
      → (m' : Make) (j : ℕ) → j < σ.samples → Q m' j (rank (raised m m') j)
  raised_all Classes Q new old Classes j l = up_all i (P Classes) (Q Classes) (in_profile Classes i h) new (λ k a. old Classes k (in_samples Classes k a)) j (in_profile Classes j l)
  raised_all Classes Q new old Speeds j l = old Speeds j l
  raised_all Speeds Q new old Classes j l = old Classes j l
  raised_all Speeds Q new old Speeds j l = up_all i (P Speeds) (Q Speeds) (in_profile Speeds i h) new (λ k a. old Speeds k (in_samples Speeds k a)) j (in_profile Speeds j l)

  raised_long : (m m' : Make) → length (raised m m') ≡ length (P m')
  raised_long Classes Classes = length-set (P Classes) i (rank (P Classes) i + 1)
  raised_long Classes Speeds = refl
  raised_long Speeds Classes = refl
  raised_long Speeds Speeds = length-set (P Speeds) i (rank (P Speeds) i + 1)

  raised_here : (m : Make) → rank (raised m m) i ≡ rank (P m) i + 1
  raised_here Classes = up_here i (P Classes) (in_profile Classes i h)
  raised_here Speeds = up_here i (P Speeds) (in_profile Speeds i h)

  no_less : (m m' : Make) (j : ℕ) → j < σ.samples → rank (P m') j ≤ rank (raised m m') j
  no_less m = raised_all m (λ m' j x. rank (P m') j ≤ x) (omega arith) (λ m' j l. omega arith)

  raised_within : (m : Make) → rank (P m) i + 1 ≤ σ.top m → (m' : Make) → Within (σ.top m') (raised m m')
  raised_within m room m' j l =
      raised_all m (λ n k x. x ≤ σ.top n) room (λ n k a. within n k (in_profile n k a)) m' j (let e = raised_long m m' in let d = keeps.long m' in omega arith)

  raised_tabled : (m : Make) → Granting σ P i m → rank (P m) i + 1 ≤ σ.top m → (j : ℕ) → j < σ.samples → rank (raised m Speeds) j ≤ σ.table (rank (raised m Classes) j)
  raised_tabled Classes g room j l =
      let t = keeps.tabled j l in
      let r = law.rises (rank (P Classes) j) (rank (up i (P Classes)) j) (no_less Classes Classes j l)
      (raised_within Classes room Classes j (let e = raised_long Classes Classes in let d = in_profile Classes j l in omega arith)) in
      omega arith
  raised_tabled Speeds g room j l =
      up_all i (P Speeds) (λ k x. x ≤ σ.table (rank (P Classes) k)) (in_profile Speeds i h) g (λ k a. keeps.tabled k (in_samples Speeds k a)) j (in_profile Speeds j l)

  module _ (m : Make) (top : rank (P m) i + 1 ≤ σ.top m) (cap : rank (P m) i + 1 ≤ b.cap m i) (grant : Granting σ P i m) (limit : pos (rank (P m) i + 1) ≤ℤ σ.number m (P m) i) where
    higher : (m' : Make) (j : ℕ) → σ.number m' (P m') j ≤ℤ σ.number m' (raised m m') j
    higher m' = (law.limits m').monotone (P m') (raised m m') (within m') (raised_within m top m') (sym (raised_long m m')) (λ j l. no_less m m' j (in_samples m' j l))

    raised_keeps : KeepsAll σ b (raised m)
    raised_keeps = record {
      long = λ m'. raised_long m m' ∙ keeps.long m';
      limited = raised_all m (λ m' j x. pos x ≤ℤ σ.number m' (raised m m') j) (let u = higher m i in omega (arith, ints)) (λ m' j l. let u = higher m' j in let k = keeps.limited m' j l in omega (arith, ints));
      tabled = raised_tabled m grant top;
      capped = raised_all m (λ m' j x. x ≤ b.cap m' j) cap keeps.capped;
      floored = raised_all m (λ m' j x. b.floor m' j ≤ x) (let f = keeps.floored m i h in omega arith) keeps.floored;
    }

    pub no_room : ((Q : Pair) → KeepsAll σ b Q → (m : Make) (j : ℕ) → j < length (Q m) → rank (Q m) j ≤ rank (P m) j) → ⊥
    no_room above =
        let l : i < length (raised m m) = let e = raised_long m m in let d = in_profile m i h in omega arith in
        let a = above (raised m) raised_keeps m i l in
        let e = raised_here m in
        omega arith
