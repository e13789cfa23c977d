-- What holds where a call succeeds or fails leads on to what follows from it.
use Rattle.std.proofs.Common.{Result, Ok, Err, OnOk, OnErr}
use Rattle.std.specs.Prelude.{IfOk}

pub on_ok : {A E P Q : Type 0} (r : Result A E) → (P → Q) → OnOk r P → OnOk r Q
on_ok (Ok v) step fact = step fact
on_ok (Err e) step fact = tt

pub on_err : {A E P Q : Type 0} (r : Result A E) → (P → Q) → OnErr r P → OnErr r Q
on_err (Ok v) step fact = tt
on_err (Err e) step fact = step fact

-- what holds anyway holds after an error
pub always_on_err : {A E P : Type 0} (r : Result A E) → P → OnErr r P
always_on_err (Ok v) fact = tt
always_on_err (Err e) fact = fact

pub if_ok : {A E : Type 0} {P Q : A → Type 0} (r : Result A E) → ((a : A) → P a → Q a) → IfOk r P → IfOk r Q
if_ok (Ok a) step fact = step a fact
if_ok (Err e) step fact = tt
