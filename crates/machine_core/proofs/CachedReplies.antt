-- What the caches answer is a reply that the access may have.
use Rattle.std.proofs.Common.{Bool}
use Rattle.cache_tree.specs.Access.{IsAnswer}
use Rattle.cache_tree.specs.declared.answers.Access.{Access}
use Rattle.cache_tree.specs.declared.answers.Access.TheVariants.{Bus, Vce, Value, Stored}
use Rattle.cache_tree.specs.declared.answers.MemOp.{MemOp}
use Rattle.cache_tree.specs.declared.answers.MemOp.TheVariants.{Read, Write}
use Rattle.machine_core.specs.AddressMap.{cached_reply, IsReplyTo}

pub cached_answer : (secondary : Bool) (op : MemOp) (answer : Access) → IsAnswer secondary op answer → IsReplyTo op (cached_reply answer)
cached_answer secondary (Read size) Bus is = tt
cached_answer secondary (Read size) Vce is = tt
cached_answer secondary (Read size) (Value value) is = is
cached_answer secondary (Read size) Stored is = absurd is
cached_answer secondary (Write size value) Bus is = tt
cached_answer secondary (Write size value) Vce is = tt
cached_answer secondary (Write size value) (Value number) is = absurd is
cached_answer secondary (Write size value) Stored is = tt
