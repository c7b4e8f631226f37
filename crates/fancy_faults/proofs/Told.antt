-- What holds of a value that is made.
use Rattle.std.proofs.Common.{IfOk, Result, Ok, Err}

pub ok_so : {X E : Type 0} (r : Result X E) (P Q : X → Type 0) → IfOk r P → ((x : X) → P x → Q x) → IfOk r Q
ok_so (Ok x) P Q h so = so x h
ok_so (Err e) P Q h so = tt
