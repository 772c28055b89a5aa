use Rattle.std.proofs.Common.{T, sym, subst}
use lib.Ieee.Fits.{and_r}
use Rattle.caps.proofs.Values.{widens}
use Rattle.caps.proofs.bend.bend_cap.Goals as goal

pub float_to_bits-bits : goal.float_to_bits-bits
float_to_bits-bits c = and_r _ _ (widens c.args.k (subst T (sym c.well_formed.0.1) tt) c.requires)
