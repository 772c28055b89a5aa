use Rattle.std.proofs.Common.{ℕ, min, T, sym, ap, ◌∙◌, subst}
use lib.Ieee.{of_bits}
use Rattle.caps.proofs.Values.{widens}
use Rattle.caps.proofs.Square.{speed_cap_fits}
use Rattle.caps.proofs.straight.speed_cap.Goals as goal

pub float_to_float-square : goal.float_to_float-square
float_to_float-square c = widens c.args.v (subst T (sym c.well_formed.0.1) tt) c.requires

pub float_to_float-square-2 : goal.float_to_float-square-2
float_to_float-square-2 c = widens c.args.v (subst T (sym c.well_formed.0.1) tt) c.requires

pub returns : goal.returns
unfolding of_bits
returns c =
    speed_cap_fits c.args.v c.min.result (subst T (sym c.well_formed.0.1) tt) c.requires
    (c.min.ensures ∙ ap (λ (z : ℕ). min z 2147483647) c.saturating_f64_to_u32.ensures)
