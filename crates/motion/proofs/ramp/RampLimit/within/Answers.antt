use Rattle.std.proofs.Common.{◌≡◌, ◌-◌, ◌+◌, ◌<◌, length, pos, ap, ◌∙◌, arith, get_or, w64, SFits}
use Rattle.std.specs.Int.{int_min}
use Rattle.std.proofs.lemmas.Int.{ints, clamps, to_z-of_z}
use Rattle.std.proofs.lemmas.List.{length-map}
use Rattle.grade.specs.Profiles.{rank}
use Rattle.grade.specs.Ranks.{ranks}
use Rattle.motion.specs.declared.steps.Step.{Step}
use Rattle.motion.specs.Ramps.{no_step, ramp}
use Rattle.motion.specs.RampsLemmas.{ramp_low, ramp_within}
use Rattle.motion.proofs.ramp.RampLimit.within.Goals as goal

pub returns : goal.returns
returns g c =
    let steps = g.S.Steps.steps c.args.self.now.steps in
    let p = ranks g.G.Grade.rank c.args.cells.now in
    let i = c.args.at in
    let most = c.ranges.most in
    let by_risen : SFits w64 c.raised-risen.result = omega (arith, ints, c.raised-risen.type_inv) in
    let by_fallen : SFits w64 c.raised-fallen.result = omega (arith, ints, c.raised-fallen.type_inv) in
    let by_first : SFits w64 c.min.result = omega (arith, ints, c.min.type_inv) in
    let by_both : SFits w64 c.min-2.result = omega (arith, ints, c.min-2.type_inv) in
    let last : i + 1 < length p = omega (arith, length-map c.args.cells.now (λ x. g.G.Grade.rank x.value)) in
    let risen : c.raised-risen.result ≡ pos (rank p (i - 1) + (get_or steps (i - 1) no_step).up) =
    c.raised-risen.ensures ∙ ap (λ w. pos (w + c.step.result.up)) c.value.ensures ∙ ap (λ (s : Step). pos (rank p (i - 1) + s.up)) c.step.ensures in
    let fallen : c.raised-fallen.result ≡ pos (rank p (i + 1) + (get_or steps i no_step).down) =
    c.raised-fallen.ensures ∙ ap (λ w. pos (w + c.step-2.result.down)) c.value-2.ensures ∙ ap (λ (s : Step). pos (rank p (i + 1) + s.down)) c.step-2.ensures in
    let first : c.min.result ≡ int_min c.args.most c.raised-risen.result = simp to_z-of_z at c.min.ensures.value in
    let both : c.min-2.result ≡ int_min c.min.result c.raised-fallen.result = simp to_z-of_z at c.min-2.ensures.value in
    let number : c.min-2.result ≡ int_min c.args.most (ramp g.G.Grade.top steps p i) =
    both ∙ ap (λ z. int_min z c.raised-fallen.result) first ∙ ap (λ z. int_min (int_min c.args.most z) c.raised-fallen.result) risen
    ∙ ap (λ z. int_min (int_min c.args.most (pos (rank p (i - 1) + (get_or steps (i - 1) no_step).up))) z) fallen
    ∙ ramp_within g.G.Grade.top steps p i c.args.most c.requires.after_first last c.requires.spanned c.requires.top in
    let low = ramp_low g.G.Grade.top steps p i in
    simp to_z-of_z (record { lesser = omega (arith, ints, clamps, number, low); least = omega (arith, ints, clamps, number, low, c.requires.least) })
