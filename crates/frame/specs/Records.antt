-- Records of one kind, asked one after another.
use Rattle.std.specs.Prelude.{ℕ, zero, suc, ◌+◌, cond, List, [], ◌∷◌, Some, None, Ok, Err, Option, Result, nat_lt}
use Rattle.record.specs.declared.fault.RecordFault.{RecordFault}
use Rattle.clause.specs.Asking.{within}

-- the fault of the i-th record, which begins at its place
abbrev pub fault : {F : Type 0} → (ℕ → ℕ) → ℕ → F → RecordFault F
fault place i f = record { index = i; start = place i; fault = f }

-- the k records from the i-th on, or the first that says no
abbrev pub records_read : {T F : Type 0} → (place : ℕ → ℕ) → (ℕ → Result T F) → (k i : ℕ) → Result (List T) (RecordFault F)
records_read place read zero i = Ok []
records_read place read (suc k) i = within (fault place i) (read i) (λ x. within (λ f. f) (records_read place read k (i + 1)) (λ xs. Ok (x ∷ xs)))

-- the same, without the records
abbrev pub done : {A F : Type 0} → Result A F → Result (Unit {0}) F
done (Ok x) = Ok tt
done (Err f) = Err f

abbrev pub ok_of : {T F : Type 0} → Result T F → Option T
ok_of (Ok x) = Some x
ok_of (Err f) = None

-- the record of a number below the count, or nothing
abbrev pub record_at_of : {T F : Type 0} → (ℕ → Result T F) → (count index : ℕ) → Option T
record_at_of read count index = cond (nat_lt index count) (ok_of (read index)) None
