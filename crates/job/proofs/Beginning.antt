-- Sheets whose values begin at their caps, and the job over them.
use Rattle.std.proofs.Common.{◌≡◌, ℕ, zero, suc, ◌≤◌, List, [], ◌∷◌, ◌++◌, map, length, take, drop, sym, refl, ap, ◌∙◌, subst, arith}
use Rattle.std.proofs.lemmas.List.{take_at, drop_at, length-map, length-take-le}
use Rattle.grade.specs.declared.cell.Cell.{Cell}
use Rattle.grade.specs.declared.class.Class.{Class}
use Rattle.grade.specs.declared.speed.Speed.{Speed}
use Rattle.grade.specs.Profiles.{Within}
use Rattle.grade.specs.Ranks.{class_rank, speed_rank, ranked, ranked_all}
use Rattle.grade.specs.Tops.{class_top, speed_top}
use Rattle.limit.specs.Numbers.{Number}
use Rattle.runs.specs.declared.samples.Samples.{Samples}
use Rattle.runs.specs.declared.stage.Make.{Make}
use Rattle.runs.specs.declared.stage.Make.TheVariants.{Classes, Speeds}
use Rattle.runs.specs.declared.stage.Stage.TheVariants.{Working}
use Rattle.runs.specs.Sheets.{Sheet}
use Rattle.runs.specs.Jobs.{Job as Whole, job, fresh}
use Rattle.runs.specs.Calls.{granted}
use Rattle.runs.specs.Making.{StartLaw, begun, checked, made}
use Rattle.runs.specs.Runs.{run}
use Rattle.runs.specs.Law.{RunLaw}
use Rattle.sweep.specs.Beginnings.{at_cap}
use Rattle.job.specs.declared.job.Job.{Job}
use Rattle.job.specs.Whole.{top_of, whole, setting}
use Rattle.job.specs.Holding.{held, whole_of, Led}
use Rattle.job.specs.Making.{caps_of, floors_of, handed, start_of, opened, Made}
use Rattle.job.proofs.Acting.{front_length}
use Rattle.job.proofs.Lawful.{led_lawful}
use Rattle.job.proofs.Rooms.{room_yes}

begins : {G : Type 0} (rank : G → ℕ) (cells : List (Cell G)) → ranked_all rank (map at_cap cells) ≡ begun (caps_of (ranked_all rank cells)) (floors_of (ranked_all rank cells))
begins rank [] = refl
begins rank (c ∷ cs) = ap (λ l. record { value = rank c.cap; cap = rank c.cap; floor = rank c.floor } ∷ l) (begins rank cs)

caps_within : {G : Type 0} (rank : G → ℕ) (top : ℕ) → ((x : G) → rank x ≤ top) → (cells : List (Cell G)) → Within top (caps_of (ranked_all rank cells))
caps_within rank top within [] i h = absurd (omega arith)
caps_within rank top within (c ∷ cs) zero h = within c.cap
caps_within rank top within (c ∷ cs) (suc i) h = caps_within rank top within cs i (omega arith)

-- a profile read off n cells has n ranks
read_length : {G : Type 0} (rank : G → ℕ) (f : Cell ℕ → ℕ) (n : ℕ) (cells : List (Cell G)) → n ≤ length cells → length (map f (ranked_all rank (take n cells))) ≡ n
read_length rank f n cells fit = length-map (ranked_all rank (take n cells)) f ∙ length-map (take n cells) (ranked rank) ∙ length-take-le n cells fit

starts : (n : ℕ) (a b : Number) (classes : List (Cell Class)) (speeds : List (Cell Speed)) → n ≤ length classes → n ≤ length speeds
    → StartLaw (setting n a b) (start_of n classes speeds)
starts n a b classes speeds c-fit s-fit = record { caps_length = caps; floors_length = floors; caps_within = within }
  where
    caps : (m : Make) → length (caps_of (handed n classes speeds m)) ≡ n
    caps Classes = read_length class_rank (λ c. c.cap) n classes c-fit
    caps Speeds = read_length speed_rank (λ c. c.cap) n speeds s-fit

    floors : (m : Make) → length (floors_of (handed n classes speeds m)) ≡ n
    floors Classes = read_length class_rank (λ c. c.floor) n classes c-fit
    floors Speeds = read_length speed_rank (λ c. c.floor) n speeds s-fit

    within : (m : Make) → Within (top_of m) (caps_of (handed n classes speeds m))
    within Classes = caps_within class_rank class_top (λ x. x.ok) (take n classes)
    within Speeds = caps_within speed_rank speed_top (λ x. x.ok) (take n speeds)

-- a job over two sheets that begin
start : (m n : ℕ) → Sheet → Sheet → Whole
start m n X Y = job (checked m 0 X (checked n 0 Y (Working Classes))) fresh (record { classes = X; speeds = Y })

-- the front of each memory, as long as there are samples, begins
module _ (samples : Samples) (cs cs' : List (Cell Class)) (ss ss' : List (Cell Speed)) (j : Job) (fit : (samples.count ≤ length cs) × (samples.count ≤ length ss))
    (cs_is : cs' ≡ map at_cap (take samples.count cs)) (ss_is : ss' ≡ map at_cap (take samples.count ss)) (samples_are : j.samples ≡ samples) where
  abbrev n : ℕ
  n = samples.count

  long : {X : Type 0} (xs xs' : List (Cell X)) → n ≤ length xs → xs' ≡ map at_cap (take n xs) → length xs' ≡ n
  long xs xs' enough is = ap length is ∙ length-map (take n xs) at_cap ∙ length-take-le n xs enough

  front : {G : Type 0} (rank : G → ℕ) (xs xs' : List (Cell G)) → xs' ≡ map at_cap (take n xs)
      → ranked_all rank xs' ≡ begun (caps_of (ranked_all rank (take n xs))) (floors_of (ranked_all rank (take n xs)))
  front rank xs xs' is = ap (ranked_all rank) is ∙ begins rank (take n xs)

  count_is : n ≡ j.samples.count
  count_is = ap (λ s. s.count) (sym samples_are)

  cells_are : {X : Type 0} (xs xs' : List (Cell X)) → n ≤ length xs → xs' ≡ map at_cap (take n xs) → take n (xs' ++ drop n xs) ≡ map at_cap (take n xs)
  cells_are xs xs' enough is = take_at xs' (drop n xs) n (long xs xs' enough is) ∙ is

  past_are : {X : Type 0} (xs xs' : List (Cell X)) → n ≤ length xs → xs' ≡ map at_cap (take n xs) → drop n (xs' ++ drop n xs) ≡ drop n xs
  past_are xs xs' enough is = drop_at xs' (drop n xs) n (long xs xs' enough is)

  job_is : j.sweep ≡ fresh → j.stage ≡ opened cs' ss' → (a b : Number) → whole_of (held j (cs' ++ drop n cs) (ss' ++ drop n ss)) ≡ made (setting n a b) (start_of n cs ss)
  unfolding made start
  job_is sweep stage a b =
      ap (λ l. whole j l (take j.samples.count (ss' ++ drop n ss))) (take_at cs' (drop n cs) j.samples.count (long cs cs' fit.0 cs_is ∙ count_is))
      ∙ ap (λ l. whole j cs' l) (take_at ss' (drop n ss) j.samples.count (long ss ss' fit.1 ss_is ∙ count_is))
      ∙ ap (λ t. job t j.sweep (record { classes = ranked_all class_rank cs'; speeds = ranked_all speed_rank ss' })) stage
      ∙ ap (λ w. job (opened cs' ss') w (record { classes = ranked_all class_rank cs'; speeds = ranked_all speed_rank ss' })) sweep
      ∙ ap (λ m. start m (length ss') (ranked_all class_rank cs') (ranked_all speed_rank ss')) (long cs cs' fit.0 cs_is)
      ∙ ap (λ m. start n m (ranked_all class_rank cs') (ranked_all speed_rank ss')) (long ss ss' fit.1 ss_is)
      ∙ ap (λ X. start n n X (ranked_all speed_rank ss')) (front class_rank cs cs' cs_is)
      ∙ ap (start n n _) (front speed_rank ss ss' ss_is)

  long_cs : length (cs' ++ drop n cs) ≡ length cs
  long_cs = front_length n cs' cs fit.0 (long cs cs' fit.0 cs_is)

  long_ss : length (ss' ++ drop n ss) ≡ length ss
  long_ss = front_length n ss' ss fit.1 (long ss ss' fit.1 ss_is)

  led : j.sweep ≡ fresh → j.stage ≡ opened cs' ss' → (a b : Number) → Led a b (start_of n cs ss) [] (held j (cs' ++ drop n cs) (ss' ++ drop n ss))
  unfolding run
  led sweep stage a b = record {
    start = subst (λ s. StartLaw (setting s.count a b) (start_of n cs ss)) (sym samples_are) (starts n a b cs ss fit.0 fit.1);
    room = room_yes j.samples.count (length (cs' ++ drop n cs)) (length (ss' ++ drop n ss)) granted (omega (arith, count_is, long_cs, fit.0)) (omega (arith, count_is, long_ss, fit.1));
    job = job_is sweep stage a b ∙ ap (λ s. made (setting s.count a b) (start_of n cs ss)) (sym samples_are);
  }

  pub makes : j.sweep ≡ fresh → j.stage ≡ opened cs' ss' → Made samples cs (cs' ++ drop n cs) ss (ss' ++ drop n ss) j
  makes sweep stage = record {
    room = room_yes n (length cs) (length ss) granted fit.0 fit.1;
    samples_are = samples_are;
    job = job_is sweep stage;
    classes_are = cells_are cs cs' fit.0 cs_is;
    speeds_are = cells_are ss ss' fit.1 ss_is;
    past_classes = past_are cs cs' fit.0 cs_is;
    past_speeds = past_are ss ss' fit.1 ss_is;
    long_classes = long_cs;
    long_speeds = long_ss;
    leads = led sweep stage;
    law = λ a b a_law b_law.
        subst (λ s. RunLaw (setting s.count a b) (start_of n cs ss) [] (whole_of (held j (cs' ++ drop n cs) (ss' ++ drop n ss)))) samples_are
        (led_lawful a b a_law b_law (start_of n cs ss) [] (held j (cs' ++ drop n cs) (ss' ++ drop n ss)) (led sweep stage a b));
  }
