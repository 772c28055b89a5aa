-- What a question that was passed tells.
use Rattle.std.proofs.Common.{◌≡◌, ℕ, Bool, true, false, cond, Ok, Err, Result, refl, arith}
use Rattle.clause.specs.Asking.{ask, within}

pub passed : {A F : Type 0} (b : Bool) (f : F) (next : Result A F) (v : A) → ask b f next ≡ Ok v → (b ≡ true) × (next ≡ Ok v)
passed true f next v e = (refl, e)
passed false f next v e = absurd (let z : ◌≡◌ {A = ℕ} 0 1 = cc in omega arith)

pub passed_within : {A B E F : Type 0} (wrap : E → F) (r : Result A E) (next : A → Result B F) (v : B) → within wrap r next ≡ Ok v → (a : A) × (r ≡ Ok a) × (next a ≡ Ok v)
passed_within wrap (Ok a) next v e = (a, refl, e)
passed_within wrap (Err f) next v e = absurd (let z : ◌≡◌ {A = ℕ} 0 1 = cc in omega arith)

-- a choice, by its two ways
pub chosen : {A : Type 0} (b : Bool) (x y z : A) (P : Type 0) → cond b x y ≡ z → (b ≡ true → x ≡ z → P) → (b ≡ false → y ≡ z → P) → P
chosen true x y z P e yes' no' = yes' refl e
chosen false x y z P e yes' no' = no' refl e
