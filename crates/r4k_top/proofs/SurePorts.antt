-- What may be answered where no count of faults rises.
use Rattle.std.proofs.Common.{ℕ, List, Option, Some, None, ◌⊎◌, inl, inr, arith}
use Rattle.r4_ports.specs.Told.{Rose}
use Rattle.r4k_top.specs.declared.statuses.Status.{Status}
use Rattle.r4k_top.specs.declared.statuses.Status.TheVariants.{Done, Breach, Usage, ReadFault, WriteFault, BadImage, BadScript, BadSource, Memory, BadTrace, TooLong}
use Rattle.r4k_top.specs.Answers.{MayAnswer}
use Rattle.r4k_top.specs.Clauses.{PutRose}

never_rose : Rose 0 0 → ⊥
never_rose rose = omega arith

no_put_rose : (name : Option (List ℕ)) → PutRose name 0 0 → ⊥
no_put_rose None rose = rose
no_put_rose (Some name) rose = never_rose rose

pub no_fault : (name : Option (List ℕ)) (ends : Status → Type 0) (answer : Status) → MayAnswer (Rose 0 0) (Rose 0 0 ⊎ PutRose name 0 0) ends answer → MayAnswer ⊥ ⊥ ends answer
no_fault name ends Done is = is
no_fault name ends (Breach event breach) is = is
no_fault name ends Usage is = is
no_fault name ends ReadFault is = never_rose is
no_fault name ends WriteFault (inl rose) = never_rose rose
no_fault name ends WriteFault (inr rose) = no_put_rose name rose
no_fault name ends (BadImage rule offset) is = is
no_fault name ends (BadScript line reason) is = is
no_fault name ends (BadSource line reason) is = is
no_fault name ends Memory is = is
no_fault name ends (BadTrace line) is = is
no_fault name ends TooLong is = is
