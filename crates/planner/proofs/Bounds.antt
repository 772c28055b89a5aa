-- What a reading of a sample says of it.
use Rattle.std.proofs.Common.{◌≡◌, ℕ, ◌+◌, ◌*◌, ◌<◌, ◌≤◌, true, List, length, get_or, Some, Ok, Option, sym, ap, ◌∙◌, subst, arith}
use Rattle.grade.specs.Tops.{speed_top}
use Rattle.record.specs.declared.sample.Sample.{Sample}
use Rattle.record.specs.declared.sample.SampleWords.{SampleWords}
use Rattle.record.specs.Samples.{sample_words_at}
use Rattle.record.proofs.RecordTrips.{SampleAsked}
use Rattle.frame.specs.declared.header.Header.{Header}
use Rattle.frame.specs.Layout.{samples_at}
use Rattle.frame.specs.Paths.{accepted}
use Rattle.frame.specs.Views.{path_of, nth, CapOf, CapShown}
use Rattle.frame.proofs.Accepted.{yes'}
use Rattle.frame.proofs.InPlace.{sample_found}
use Rattle.sources.specs.Soundness.{nth-slice_index_or}
use Rattle.sources.proofs.Counted.{samples_counted}
use Rattle.planner.specs.Starts.{no_sample_of, clause_cap, cap_of, SampleWithin}
use Rattle.planner.proofs.Caps.{clause_cap_lem, cap_within, fixed_within}

sample_within : (w : SampleWords) (s : Sample) → SampleAsked w s → SampleWithin s
sample_within w s a = subst SampleWithin a.is (record { class_cap_fits = a.class_cap_fits; class_floor_fits = a.class_floor_fits; speed_floor_fits = a.speed_floor_fits; fixed = λ n e. fixed_within w.clause n (a.clause ∙ ap Ok e) })

module _ (bs : List ℕ) (e : accepted bs ≡ true) (i : ℕ) (l : i < length (path_of bs).samples) where
  -- it was read, and its bounds are ranks
  found : (s : Sample) × SampleWithin s × (nth (path_of bs).samples i ≡ Some s)
  found =
      let k = samples_counted bs e in
      let h = ap (λ (x : Header). x.samples) (yes' bs e).header.is in
      let f = sample_found bs e i (omega arith) in
      (f.0, sample_within (sample_words_at bs (samples_at + 20 * i)) f.0 f.1, f.2)

  pub sample_read_lem : (s : Sample) → Some s ≡ nth (path_of bs).samples i → (s ≡ get_or (path_of bs).samples i no_sample_of) × SampleWithin s
  sample_read_lem s n =
      let f = found in
      let g = f.2 in
      let z : f.0 ≡ s = cc in
      (sym (nth-slice_index_or (path_of bs).samples i s no_sample_of (sym n)), subst SampleWithin z f.1)

  pub cap_read : (w : ℕ) → CapShown (path_of bs) i (Some w) → (w ≡ cap_of (path_of bs) i) × (w ≤ speed_top)
  cap_read w c =
      let f = found in
      let a = (path_of bs).header.lateral in
      let d = subst (λ (o : Option Sample). CapOf a o (Some w)) f.2 c in
      (clause_cap_lem f.0.clause a w d ∙ sym (ap (λ (s : Sample). clause_cap a s.clause) (nth-slice_index_or (path_of bs).samples i f.0 no_sample_of f.2)), cap_within f.0.clause a w f.1.fixed d)
