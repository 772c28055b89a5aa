-- A clause that was read is legal, and its kind is one of the four.
use Rattle.std.proofs.Common.{rules, ◌≡◌, ℕ, ◌≤◌, Ok, Err, Some, Result, arith}
use Rattle.std.specs.Result.{result_ok}
use Rattle.clause.specs.declared.kind.ClauseKind.{ClauseKind}
use Rattle.clause.specs.declared.kind.ClauseKind.TheVariants.{Free, Straight, Bend, Fixed}
use Rattle.clause.specs.declared.kind.UnknownKind.{UnknownKind}
use Rattle.clause.specs.Kinds.{number_of, Decodes}
use Rattle.clause.proofs.ClauseTrips.{clause_legal}
use Rattle.furqyzet_c.proofs.capping.cap_in.Goals as goal

few : (k : ClauseKind) → number_of k ≤ 3
few Free = omega arith
few Straight = omega arith
few Bend = omega arith
few Fixed = omega arith

known : (n : ℕ) (r : Result ClauseKind UnknownKind) (k : ClauseKind) → Decodes n r → result_ok r ≡ Some k → n ≤ 3
known n (Ok k') k d e = let h = few k' in omega arith
known n (Err f) k d e = absurd (let z = e in cc)

-- src/capping.rt:24:10
pub speed_cap-requires : goal.speed_cap-requires
speed_cap-requires c =
    clause_legal (record { kind = c.args.kind; first = c.args.first; second = c.args.second }) c.in_ok-clause.clause c.ranges.first.fits c.ranges.second.fits
    (known c.args.kind c.try_from.result c.in_ok-ok.field-0 c.try_from.ensures (search rules)) (search rules)
