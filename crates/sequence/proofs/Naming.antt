-- A call as a value, and what its method returns as an answer.
use Rattle.std.proofs.Common.{◌≡◌, Ok, Err, Result, IsOkAnd, MatchResult, sym, refl, ap, ◌∙◌, subst}
use Rattle.std.specs.Result.{result_and}
use Rattle.limit.specs.Numbers.{Number}
use Rattle.runs.specs.declared.call.Call.{Call}
use Rattle.runs.specs.declared.call.Fault.{Fault}
use Rattle.runs.specs.declared.reply.Reply.{Reply}
use Rattle.runs.specs.declared.reply.Reply.TheVariants.{Done}
use Rattle.runs.specs.Answers.{Answer}
use Rattle.job.specs.Holding.{Held}
use Rattle.job.specs.Calling.{replying, done, Does}

mapped : {X : Type 0} (made : X → Reply) (r : Result X Fault) (x : Answer) → MatchResult r (λ y. IsOkAnd x (λ z. z ≡ made y)) (λ f. x ≡ Err f) → x ≡ replying made r
mapped made (Ok y) (Ok z) e = ap Ok e
mapped made (Ok y) (Err f) e = absurd e
mapped made (Err f) x e = e

and_done : (r : Result (Unit {0}) Fault) → result_and r (Ok Done) ≡ done r
and_done (Ok _) = refl
and_done (Err f) = refl

-- the call is k, which a method makes
module _ (a b : Number) (call k : Call) (h h' : Held) (x : Answer) (call_is : call ≡ k) where
  by_name : Does a b k h h' x → Does a b call h h' x
  by_name d = subst (λ c. Does a b c h h' x) (sym call_is) d

  -- and returns r, of which the answer is made
  pub performs : {X : Type 0} (made : X → Reply) (r : Result X Fault) → MatchResult r (λ y. IsOkAnd x (λ z. z ≡ made y)) (λ f. x ≡ Err f) → Does a b k h h' (replying made r)
      → Does a b call h h' x
  performs made r mapped_is d = by_name (subst (Does a b k h h') (sym (mapped made r x mapped_is)) d)

  pub changes : (r : Result (Unit {0}) Fault) → x ≡ result_and r (Ok Done) → Does a b k h h' (done r) → Does a b call h h' x
  changes r is d = by_name (subst (Does a b k h h') (sym (is ∙ and_done r)) d)
